-- What homes decided, and what is left in doubt after learning.
use Rattle.std.proofs.Common.{Bool, List, Option, Some, None, [], ap, sym, ◌++◌, ◌∙◌, ◌∷◌, ◌≡◌, ◌||◌, ◌⊎◌, inl, inr, ⊎_elim, not, refl, ℕ, true, false, append_assoc, subst, is_some, reverse, cond, if◌then◌else◌}
use Rattle.std.specs.List.{filter, flat_map, list_any}
use Rattle.std.proofs.lemmas.Bool.{eq-eqb}
use Rattle.std.proofs.lemmas.List.{append-nil, reverse-reverse}
use Rattle.pseudo_time.specs.Lists.{Every, Has}
use Rattle.pseudo_time.specs.StampParts.{StampParts}
use Rattle.pseudo_time.specs.Order.{same_stamp}
use Rattle.pseudo_time.specs.declared.decisions.Decision.{Decision}
use Rattle.pseudo_time.proofs.ListLemmas.{every-has, has-either, has-reverse}
use Rattle.pseudo_time.proofs.OrderLemmas.{same_stamp-self, same_stamp-is}
use Rattle.effect_form.specs.declared.effects.Effect.{Effect}
use Rattle.effect_form.specs.declared.effects.Effect.TheVariants.{Put, Stretch, Begin, Decide, Learn, Run, Act, Try, Got, Acked, End, Mark, Whole}
use Rattle.object_history.specs.History.{or_else, settle_of}
use Rattle.repository_log.specs.Logs.{is_commit, is_for, decided_by, known, knows}
use Rattle.repository_log.proofs.MarkLemmas.{knows-known}
use Rattle.repository_node.specs.Doubts.{given_by, given, doubts, is_own_learn, is_plain, HasDecided}
use Rattle.node_turn.specs.Settles.{AreKnown, IsLearned, Learns}

-- ---- a log that goes on

or-more : (a b c : Bool) → (b ≡ true → c ≡ true) → (a || b) ≡ true → (a || c) ≡ true
or-more true b c f h = refl
or-more false b c f h = f h

knows-more : (log more : List Effect) (s : StampParts) → knows log s ≡ true → knows (log ++ more) s ≡ true
unfolding knows
knows-more [] more s h = absurd (cc h)
knows-more (f ∷ log) more s h = or-more (is_for s (decided_by f)) (knows log s) (knows (log ++ more) s) (knows-more log more s) h

-- ---- what a log knows was decided there, or learned

abbrev Said : List Effect → StampParts → Bool → Type 0
Said l s c = ((d : Decision) × Has (Decide s d) l × (c ≡ is_commit d)) ⊎ Has (Learn s c) l

said-more : (f : Effect) (l : List Effect) (s : StampParts) (c : Bool) → Said l s c → Said (f ∷ l) s c
said-more f l s c (inl h) = inl (h.0, inr h.1, h.2)
said-more f l s c (inr h) = inr (inr h)

some-same : (a b : Bool) → ◌≡◌ {A = Option Bool} (Some a) (Some b) → a ≡ b
some-same a b e = cc e

said-first : (f : Effect) (l : List Effect) (p s : StampParts) (x c : Bool) → ((same_stamp p s ≡ true) → x ≡ c → Said (f ∷ l) s c) → (u : Option Bool) → (u ≡ Some c → Said l s c)
    → (b : Bool) → same_stamp p s ≡ b → (if b then or_else u x else u) ≡ Some c → Said (f ∷ l) s c
said-first f l p s x c here None below true q e = here q (some-same x c e)
said-first f l p s x c here (Some y) below true q e = said-more f l s c (below e)
said-first f l p s x c here u below false q e = said-more f l s c (below e)

known-said : (l : List Effect) (s : StampParts) (c : Bool) → known l s ≡ Some c → Said l s c
unfolding settle_of
known-said [] s c e = absurd (cc e)
known-said (Decide p d ∷ l) s c e = said-first (Decide p d) l p s (is_commit d) c
    (λ q h. inl (d, inl (ap (λ (z : StampParts). Decide z d) (same_stamp-is p s q)), sym h)) (known l s) (λ h. known-said l s c h) (same_stamp p s) refl e
known-said (Learn p x ∷ l) s c e = said-first (Learn p x) l p s x c
    (λ q h. inr (inl (ap (λ (z : StampParts). Learn z x) (same_stamp-is p s q) ∙ ap (λ (z : Bool). Learn s z) h))) (known l s) (λ h. known-said l s c h) (same_stamp p s) refl e
known-said (f ∷ l) s c e = said-more f l s c (known-said l s c e)

decide-knows : (l : List Effect) (s : StampParts) (d : Decision) → Has (Decide s d) l → knows l s ≡ true
unfolding knows
decide-knows [] s d h = absurd h
decide-knows (f ∷ l) s d (inl e) = ap (λ b. b || knows l s) (ap (λ (x : Effect). is_for s (decided_by x)) e ∙ same_stamp-self s)
decide-knows (f ∷ l) s d (inr h) = go (is_for s (decided_by f)) (decide-knows l s d h)
  where
    go : (b : Bool) → knows l s ≡ true → (b || knows l s) ≡ true
    go true k = refl
    go false k = k

-- ---- plain logs

any-has : (p : Effect → Bool) (l : List Effect) (f : Effect) → Has f l → p f ≡ true → list_any p l ≡ true
any-has p [] f h k = absurd h
any-has p (g ∷ l) f (inl e) k = ap (λ b. b || list_any p l) (ap p e ∙ k)
any-has p (g ∷ l) f (inr h) k = go (p g) (any-has p l f h k)
  where
    go : (b : Bool) → list_any p l ≡ true → (b || list_any p l) ≡ true
    go true i = refl
    go false i = i

not-true : (b : Bool) → not b ≡ true → b ≡ true → ⊥
not-true true h k = absurd (cc h)
not-true false h k = absurd (cc k)

plain-none : (log : List Effect) (s : StampParts) (c : Bool) → is_plain s.home log ≡ true → Has (Learn s c) log → ⊥
plain-none log s c plain h = not-true (list_any (is_own_learn s.home) log) plain (any-has (is_own_learn s.home) log (Learn s c) h (eq-eqb s.home s.home refl))

-- A plain home decided what its log knows ..
pub home-decided : (home : List Effect) (s : StampParts) (c : Bool) → is_plain s.home home ≡ true → known (reverse home) s ≡ Some c → (d : Decision) × Has (Decide s d) home × (c ≡ is_commit d)
home-decided home s c plain e = ⊎_elim
    (λ h. (h.0, subst (Has (Decide s h.0)) (reverse-reverse home) (has-reverse (reverse home) (Decide s h.0) h.1), h.2))
    (λ h. absurd (plain-none home s c plain (subst (Has (Learn s c)) (reverse-reverse home) (has-reverse (reverse home) (Learn s c) h))))
    (known-said (reverse home) s c e)

-- .. and nothing else.
pub home-undecided : (home : List Effect) (s : StampParts) (d : Decision) → known (reverse home) s ≡ None → Has (Decide s d) home → ⊥
home-undecided home s d e h =
    let k : is_some (known (reverse home) s) ≡ true = knows-known (reverse home) s ∙ decide-knows (reverse home) s d (has-reverse home (Decide s d) h) in
    absurd (let x : false ≡ true = sym (ap is_some e) ∙ k in cc x)

-- ---- after learning

flat-append : {A B : Type 0} (f : A → List B) (xs ys : List A) → flat_map f (xs ++ ys) ≡ flat_map f xs ++ flat_map f ys
flat-append {A} {B} f [] ys = refl
flat-append {A} {B} f (x ∷ xs) ys = ap (λ l. f x ++ l) (flat-append f xs ys) ∙ sym (append_assoc (f x) (flat_map f xs) (flat_map f ys))

none-given : (r : ℕ) (more : List Effect) → Every IsLearned more → given r more ≡ []
none-given r [] h = refl
none-given r (Learn s c ∷ more) h = none-given r more h.1
none-given r (Stretch o x ∷ more) h = none-given r more h.1
none-given r (Put o x v ∷ more) h = absurd h.0
none-given r (Begin s d ∷ more) h = absurd h.0
none-given r (Decide s d ∷ more) h = absurd h.0
none-given r (Run n ∷ more) h = absurd h.0
none-given r (Act i a t n c b ∷ more) h = absurd h.0
none-given r (Try i s ∷ more) h = absurd h.0
none-given r (Got k v ∷ more) h = absurd h.0
none-given r (Acked k ∷ more) h = absurd h.0
none-given r (End i e ∷ more) h = absurd h.0
none-given r (Mark at ∷ more) h = absurd h.0
none-given r (Whole ∷ more) h = absurd h.0

same-given : (r : ℕ) (log after : List Effect) → Learns log after → given r after ≡ given r log
same-given r log after l = ap (given r) l.is ∙ (flat-append (given_by r) log l.more ∙ (ap (λ x. given r log ++ x) (none-given r l.more l.each) ∙ append-nil (given r log)))

filter-has : {A : Type 0} (p : A → Bool) (xs : List A) (x : A) → Has x (filter p xs) → Has x xs × (p x ≡ true)
filter-has {A} p [] x h = absurd h
filter-has {A} p (y ∷ xs) x h = go (p y) refl h (filter-has p xs x)
  where
    go : (t : Bool) → p y ≡ t → Has x (cond t (y ∷ filter p xs) (filter p xs)) → (Has x (filter p xs) → Has x xs × (p x ≡ true)) → Has x (y ∷ xs) × (p x ≡ true)
    go true e (inl same) rest = (inl same, sym (ap p same) ∙ e)
    go true e (inr k) rest = let r : Has x xs × (p x ≡ true) = rest k in (inr r.0, r.1)
    go false e k rest = let r : Has x xs × (p x ≡ true) = rest k in (inr r.0, r.1)

has-filter : {A : Type 0} (p : A → Bool) (xs : List A) (x : A) → Has x xs → p x ≡ true → Has x (filter p xs)
has-filter {A} p [] x h t = absurd h
has-filter {A} p (y ∷ xs) x (inl e) t = go (p y) (ap p e ∙ t)
  where
    go : (b : Bool) → b ≡ true → Has x (cond b (y ∷ filter p xs) (filter p xs))
    go true k = inl e
    go false k = absurd (cc k)
has-filter {A} p (y ∷ xs) x (inr h) t = go (p y) (has-filter p xs x h t)
  where
    go : (b : Bool) → Has x (filter p xs) → Has x (cond b (y ∷ filter p xs) (filter p xs))
    go true k = inr k
    go false k = k

unknown-before : (log more : List Effect) (s : StampParts) → not (knows (log ++ more) s) ≡ true → not (knows log s) ≡ true
unknown-before log more s h = go (knows log s) refl
  where
    go : (b : Bool) → knows log s ≡ b → not b ≡ true
    go false e = refl
    go true e = absurd (not-true (knows (log ++ more) s) h (knows-more log more s e))

any-append : {A : Type 0} (f : A → Bool) (xs ys : List A) → list_any f xs ≡ true → list_any f (xs ++ ys) ≡ true
any-append {A} f [] ys h = absurd (cc h)
any-append {A} f (x ∷ xs) ys h = go (f x) h (any-append f xs ys)
  where
    go : (b : Bool) → (b || list_any f xs) ≡ true → (list_any f xs ≡ true → list_any f (xs ++ ys) ≡ true) → (b || list_any f (xs ++ ys)) ≡ true
    go true k i = refl
    go false k i = i k

plain-before : (r : ℕ) (log more : List Effect) → is_plain r (log ++ more) ≡ true → is_plain r log ≡ true
plain-before r log more h = go (list_any (is_own_learn r) log) refl
  where
    go : (b : Bool) → list_any (is_own_learn r) log ≡ b → not b ≡ true
    go false e = refl
    go true e = absurd (not-true (list_any (is_own_learn r) (log ++ more)) h (any-append (is_own_learn r) log more e))

decide-before : (s : StampParts) (d : Decision) (more : List Effect) → Every IsLearned more → Has (Decide s d) more → ⊥
decide-before s d more each h = absurd (every-has IsLearned more (Decide s d) each h)

decided-before : (home after : List Effect) (s : StampParts) → Learns home after → HasDecided after s → HasDecided home s
decided-before home after s l h = (
  plain-before s.home home l.more (subst (λ x. is_plain s.home x ≡ true) l.is h.0),
  h.1,
  ⊎_elim (λ k. k) (λ k. absurd (decide-before s h.1 l.more l.each k)) (has-either home l.more (Decide s h.1) (subst (Has (Decide s h.1)) l.is h.2)),
)

-- If each doubt that its home had decided is known then, no doubt that is left is decided at its home.
pub settled-then : (r : ℕ) (log after home home_after : List Effect) (ds : List (StampParts × Bool)) (s : StampParts) → Learns log after → Learns home home_after
    → (Has s (doubts r log) → HasDecided home s → (c : Bool) × Has {A = StampParts × Bool} (s, c) ds) → AreKnown after ds → Has s (doubts r after) → HasDecided home_after s → ⊥
settled-then r log after home home_after ds s l k whole known h decided =
    let f : Has s (given r after) × (not (knows after s) ≡ true) = filter-has (λ z. not (knows after z)) (given r after) s h in
    let was : Has s (doubts r log) = has-filter (λ z. not (knows log z)) (given r log) s (subst (Has s) (same-given r log after l) f.0)
    (unknown-before log l.more s (subst (λ x. not (knows x s) ≡ true) l.is f.1)) in
    let c = whole was (decided-before home home_after s k decided) in
    not-true (knows after s) f.1 (every-has (λ (d : StampParts × Bool). knows after d.0 ≡ true) ds (s, c.0) known c.1)
