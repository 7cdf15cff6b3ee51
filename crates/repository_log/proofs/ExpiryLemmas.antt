-- The records that expire, as a list in the order of their stamps.
use Rattle.repository_log.proofs.Names.{◌≡◌, ℕ, Bool, true, false, List, [], ◌∷◌, map, refl, sym, ◌∙◌, ap, subst, cond, Option, Some, None, T, is_some, nat_le, ◌&&◌, ◌||◌, if◌then◌else◌, is_at, eq_by_cmp_equiv, StampParts, stamp_cmp, same_stamp, stamp_cmp-total, stamp_cmp-exact, is_equal, Decision, Effect, Begin, listed_at, expiry, or_else}
use Rattle.std.specs.List.{filter, list_any, AllByRecursion}
use Rattle.std.specs.List.Sorted.{IsStrictlySortedBy}
use Rattle.std.specs.Ordering.{is_lt, is_eq, match_ordering, ordering_reverse}
use Rattle.std.specs.declared.cmp.Ordering.{Ordering}
use Rattle.std.specs.declared.cmp.Ordering.TheVariants.{Less, Equal, Greater}
use Rattle.std.specs.BTreeSet.{insert_key}
use Rattle.std.specs.FinMap.{find}
use Rattle.std.specs.FinMap.Entries.{is_sorted, below_all, same_entries}
use Rattle.std.proofs.lemmas.Map.Views.{any-filter_same}
use Rattle.pseudo_time.specs.declared.decisions.Decision.TheVariants.{Expired}
use Rattle.repository_log.specs.Logs.{first_begin, decision_of, record_from, record_of, begun}
use Rattle.repository_log.specs.Expiries.{is_due, due, expiry_of, expiries}

both : (a b : Bool) → T a → T b → T (a && b)
both true b p q = q
both false b p q = p

first : (a b : Bool) → T (a && b) → T a
first true b p = tt
first false b p = p

second : (a b : Bool) → T (a && b) → T b
second true b p = p
second false b p = absurd p

test-of : (o : Ordering) → o ≡ Less → T (is_lt o)
test-of o e = subst (λ z. T (is_lt z)) (sym e) tt

less-of : (o : Ordering) → T (is_lt o) → o ≡ Less
less-of Less p = refl
less-of Equal p = absurd p
less-of Greater p = absurd p

turned : (s x : StampParts) → stamp_cmp s x ≡ Greater → stamp_cmp x s ≡ Less
turned s x e = stamp_cmp-total.antisymm x s ∙ ap ordering_reverse e

twice : (a b : Bool) → (a || b) ≡ (a || (a || b))
twice true b = refl
twice false b = refl

swap : (a b c : Bool) → (a || (b || c)) ≡ (b || (a || c))
swap true true c = refl
swap true false c = refl
swap false b c = refl

abbrev Entries : Type 0
Entries = List (StampParts × Decision)

-- ---- a list that rises

below-from : (s : StampParts) (es : Entries) → AllByRecursion (λ p. stamp_cmp s p ≡ Less) (map (λ e. e.0) es) → T (below_all stamp_cmp s es)
below-from s [] h = tt
below-from s (e ∷ es) h = both (is_lt (stamp_cmp s e.0)) (below_all stamp_cmp s es) (test-of (stamp_cmp s e.0) h.0) (below-from s es h.1)

sorted-from : (es : Entries) → IsStrictlySortedBy stamp_cmp (map (λ e. e.0) es) → T (is_sorted stamp_cmp es)
unfolding IsStrictlySortedBy
sorted-from [] h = tt
sorted-from (e ∷ es) h = both (below_all stamp_cmp e.0 es) (is_sorted stamp_cmp es) (below-from e.0 es h.0) (sorted-from es h.1)

find-listed : (es : Entries) (q : StampParts) → find stamp_cmp q es ≡ listed_at es q
find-listed [] q = refl
find-listed (e ∷ es) q = ap (λ z. cond (is_eq (stamp_cmp q e.0)) (Some e.1) z) (find-listed es q)

-- ---- the stamps, each with its decision

module _ (f : StampParts → Decision) where
  abbrev tagged : List StampParts → Entries
  tagged ks = map (λ s. (s, f s)) ks

  below-trans : (s k : StampParts) (ks : List StampParts) → T (is_lt (stamp_cmp s k)) → T (below_all stamp_cmp k (tagged ks)) → T (below_all stamp_cmp s (tagged ks))
  below-trans s k [] h i = tt
  below-trans s k (x ∷ ks) h i =
      both (is_lt (stamp_cmp s x)) (below_all stamp_cmp s (tagged ks))
      (test-of (stamp_cmp s x) (stamp_cmp-total.trans s k x (less-of (stamp_cmp s k) h) (less-of (stamp_cmp k x) (first (is_lt (stamp_cmp k x)) (below_all stamp_cmp k (tagged ks)) i))))
      (below-trans s k ks h (second (is_lt (stamp_cmp k x)) (below_all stamp_cmp k (tagged ks)) i))

  below-match : (o : Ordering) (k s x : StampParts) (ks : List StampParts) → T (is_lt (stamp_cmp k s)) → T (below_all stamp_cmp k (tagged (x ∷ ks)))
      → T (below_all stamp_cmp k (tagged (insert_key stamp_cmp ks s))) → T (below_all stamp_cmp k (tagged (match_ordering o (s ∷ x ∷ ks) (x ∷ ks) (x ∷ insert_key stamp_cmp ks s))))
  below-match Less k s x ks h i j = both (is_lt (stamp_cmp k s)) (below_all stamp_cmp k (tagged (x ∷ ks))) h i
  below-match Equal k s x ks h i j = i
  below-match Greater k s x ks h i j =
      both (is_lt (stamp_cmp k x)) (below_all stamp_cmp k (tagged (insert_key stamp_cmp ks s))) (first (is_lt (stamp_cmp k x)) (below_all stamp_cmp k (tagged ks)) i) j

  below-insert : (k s : StampParts) (ks : List StampParts) → T (is_lt (stamp_cmp k s)) → T (below_all stamp_cmp k (tagged ks)) → T (below_all stamp_cmp k (tagged (insert_key stamp_cmp ks s)))
  below-insert k s [] h i = both (is_lt (stamp_cmp k s)) true h tt
  below-insert k s (x ∷ ks) h i =
      below-match (stamp_cmp s x) k s x ks h i (below-insert k s ks h (second (is_lt (stamp_cmp k x)) (below_all stamp_cmp k (tagged ks)) i))

  sorted-match : (o : Ordering) (s x : StampParts) (ks : List StampParts) → stamp_cmp s x ≡ o → T (is_sorted stamp_cmp (tagged (x ∷ ks)))
      → T (is_sorted stamp_cmp (tagged (insert_key stamp_cmp ks s))) → T (is_sorted stamp_cmp (tagged (match_ordering o (s ∷ x ∷ ks) (x ∷ ks) (x ∷ insert_key stamp_cmp ks s))))
  sorted-match Less s x ks e h i =
      both (below_all stamp_cmp s (tagged (x ∷ ks))) (is_sorted stamp_cmp (tagged (x ∷ ks)))
      (both (is_lt (stamp_cmp s x)) (below_all stamp_cmp s (tagged ks)) (test-of (stamp_cmp s x) e)
      (below-trans s x ks (test-of (stamp_cmp s x) e) (first (below_all stamp_cmp x (tagged ks)) (is_sorted stamp_cmp (tagged ks)) h))) h
  sorted-match Equal s x ks e h i = h
  sorted-match Greater s x ks e h i =
      both (below_all stamp_cmp x (tagged (insert_key stamp_cmp ks s))) (is_sorted stamp_cmp (tagged (insert_key stamp_cmp ks s)))
      (below-insert x s ks (test-of (stamp_cmp x s) (turned s x e)) (first (below_all stamp_cmp x (tagged ks)) (is_sorted stamp_cmp (tagged ks)) h)) i

  sorted-insert : (s : StampParts) (ks : List StampParts) → T (is_sorted stamp_cmp (tagged ks)) → T (is_sorted stamp_cmp (tagged (insert_key stamp_cmp ks s)))
  sorted-insert s [] h = tt
  sorted-insert s (x ∷ ks) h = sorted-match (stamp_cmp s x) s x ks refl h (sorted-insert s ks (second (below_all stamp_cmp x (tagged ks)) (is_sorted stamp_cmp (tagged ks)) h))

  sorted-begun : (l : List Effect) → T (is_sorted stamp_cmp (tagged (begun l)))
  sorted-begun [] = tt
  sorted-begun (Begin s d ∷ l) = sorted-insert s (begun l) (sorted-begun l)
  sorted-begun (g ∷ l) = sorted-begun l

  below-cond : (b : Bool) (k x : StampParts) (ks : List StampParts) → T (is_lt (stamp_cmp k x)) → T (below_all stamp_cmp k (tagged ks)) → T (below_all stamp_cmp k (tagged (cond b (x ∷ ks) ks)))
  below-cond true k x ks h i = both (is_lt (stamp_cmp k x)) (below_all stamp_cmp k (tagged ks)) h i
  below-cond false k x ks h i = i

  below-filter : (p : StampParts → Bool) (k : StampParts) (ks : List StampParts) → T (below_all stamp_cmp k (tagged ks)) → T (below_all stamp_cmp k (tagged (filter p ks)))
  below-filter p k [] h = tt
  below-filter p k (x ∷ ks) h =
      below-cond (p x) k x (filter p ks) (first (is_lt (stamp_cmp k x)) (below_all stamp_cmp k (tagged ks)) h) (below-filter p k ks (second (is_lt (stamp_cmp k x)) (below_all stamp_cmp k (tagged ks)) h))

  sorted-cond : (b : Bool) (x : StampParts) (ks : List StampParts) → T (below_all stamp_cmp x (tagged ks)) → T (is_sorted stamp_cmp (tagged ks)) → T (is_sorted stamp_cmp (tagged (cond b (x ∷ ks) ks)))
  sorted-cond true x ks h i = both (below_all stamp_cmp x (tagged ks)) (is_sorted stamp_cmp (tagged ks)) h i
  sorted-cond false x ks h i = i

  sorted-filter : (p : StampParts → Bool) (ks : List StampParts) → T (is_sorted stamp_cmp (tagged ks)) → T (is_sorted stamp_cmp (tagged (filter p ks)))
  sorted-filter p [] h = tt
  sorted-filter p (x ∷ ks) h =
      sorted-cond (p x) x (filter p ks) (below-filter p x ks (first (below_all stamp_cmp x (tagged ks)) (is_sorted stamp_cmp (tagged ks)) h))
      (sorted-filter p ks (second (below_all stamp_cmp x (tagged ks)) (is_sorted stamp_cmp (tagged ks)) h))

  tagged-if : (b : Bool) (q x : StampParts) (rest : Bool) → (b ≡ true → q ≡ x) → cond b (Some (f x)) (cond rest (Some (f q)) None) ≡ cond (b || rest) (Some (f q)) None
  tagged-if true q x rest e = ap (λ z. Some (f z)) (sym (e refl))
  tagged-if false q x rest e = refl

  find-tagged : (q : StampParts) (ks : List StampParts) → find stamp_cmp q (tagged ks) ≡ cond (list_any (is_at (stamp_cmp q)) ks) (Some (f q)) None
  find-tagged q [] = refl
  find-tagged q (x ∷ ks) =
      ap (λ z. cond (is_eq (stamp_cmp q x)) (Some (f x)) z) (find-tagged q ks)
      ∙ tagged-if (is_eq (stamp_cmp q x)) q x (list_any (is_at (stamp_cmp q)) ks) (λ e. stamp_cmp-exact q x (is_equal (stamp_cmp q x) e))

-- ---- which have begun

any-match : (o : Ordering) (q s x : StampParts) (ks : List StampParts) → stamp_cmp s x ≡ o
    → list_any (is_at (stamp_cmp q)) (insert_key stamp_cmp ks s) ≡ (is_at (stamp_cmp q) s || list_any (is_at (stamp_cmp q)) ks)
    → list_any (is_at (stamp_cmp q)) (match_ordering o (s ∷ x ∷ ks) (x ∷ ks) (x ∷ insert_key stamp_cmp ks s)) ≡ (is_at (stamp_cmp q) s || (is_at (stamp_cmp q) x || list_any (is_at (stamp_cmp q)) ks))
any-match Less q s x ks e h = refl
any-match Equal q s x ks e h =
    twice (is_at (stamp_cmp q) x) (list_any (is_at (stamp_cmp q)) ks) ∙ ap (λ z. is_at (stamp_cmp q) z || (is_at (stamp_cmp q) x || list_any (is_at (stamp_cmp q)) ks)) (sym (stamp_cmp-exact s x e))
any-match Greater q s x ks e h = ap (λ z. is_at (stamp_cmp q) x || z) h ∙ swap (is_at (stamp_cmp q) x) (is_at (stamp_cmp q) s) (list_any (is_at (stamp_cmp q)) ks)

any-insert : (q s : StampParts) (ks : List StampParts) → list_any (is_at (stamp_cmp q)) (insert_key stamp_cmp ks s) ≡ (is_at (stamp_cmp q) s || list_any (is_at (stamp_cmp q)) ks)
any-insert q s [] = refl
any-insert q s (x ∷ ks) = any-match (stamp_cmp s x) q s x ks refl (any-insert q s ks)

some-if : (b : Bool) (u : Option ℕ) (d : ℕ) → (b || is_some u) ≡ is_some (if b then or_else u d else u)
some-if true None d = refl
some-if true (Some t) d = refl
some-if false u d = refl

any-begun : (q : StampParts) (l : List Effect) → list_any (is_at (stamp_cmp q)) (begun l) ≡ is_some (first_begin l q)
unfolding first_begin same_stamp
any-begun q [] = refl
any-begun q (Begin s d ∷ l) =
    any-insert q s (begun l) ∙ ap (λ b. b || list_any (is_at (stamp_cmp q)) (begun l)) ((eq_by_cmp_equiv stamp_cmp-total).symm q s)
    ∙ ap (λ z. same_stamp s q || z) (any-begun q l) ∙ some-if (same_stamp s q) (first_begin l q) d
any-begun q (g ∷ l) = any-begun q l

due-if : (b : Bool) (x : Decision) → cond (b && true) (Some x) None ≡ (if b then Some x else None)
due-if true x = refl
due-if false x = refl

by-record : (m : ℕ) (t : Option ℕ) (d : Option Decision) → cond (is_due m (record_from t d) && is_some t) (Some (expiry_of m (record_from t d))) None ≡ expiry m (record_from t d)
by-record m None d = refl
by-record m (Some t) None = due-if (nat_le t m) (Expired t m)
by-record m (Some t) (Some d) = refl

find-expiries : (m : ℕ) (l : List Effect) (q : StampParts) → find stamp_cmp q (expiries m l) ≡ expiry m (record_of l q)
find-expiries m l q =
    find-tagged (λ s. expiry_of m (record_of l s)) q (due m l)
    ∙ ap (λ z. cond z (Some (expiry_of m (record_of l q))) None)
    (any-filter_same (is_at (stamp_cmp q)) (λ s. is_due m (record_of l s)) (is_due m (record_of l q))
    (λ k e. ap (λ z. is_due m (record_of l z)) (sym (stamp_cmp-exact q k (is_equal (stamp_cmp q k) e)))) (begun l)
    ∙ ap (λ z. is_due m (record_of l q) && z) (any-begun q l))
    ∙ by-record m (first_begin l q) (decision_of l q)

pub sorted-expiries : (m : ℕ) (l : List Effect) → T (is_sorted stamp_cmp (expiries m l))
sorted-expiries m l = sorted-filter (λ s. expiry_of m (record_of l s)) (λ s. is_due m (record_of l s)) (begun l) (sorted-begun (λ s. expiry_of m (record_of l s)) l)

-- a rising list that has each expiry is the list of them
pub expiries-are : (m : ℕ) (l : List Effect) (es : Entries) → IsStrictlySortedBy stamp_cmp (map (λ e. e.0) es) → ((q : StampParts) → listed_at es q ≡ expiry m (record_of l q)) → es ≡ expiries m l
expiries-are m l es order listed =
    same_entries stamp_cmp stamp_cmp-total stamp_cmp-exact es (expiries m l) (sorted-from es order)
    (sorted-expiries m l)
    (λ q. find-listed es q ∙ listed q ∙ sym (find-expiries m l q))
