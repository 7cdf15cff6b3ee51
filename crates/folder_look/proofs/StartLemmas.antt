-- A set of starts has those of the versions that it was made of.
use Rattle.std.specs.Prelude.{IfOk}
use Rattle.std.specs.BTreeMap.{is_at}
use Rattle.folder_look.proofs.Names.{BTreeSet, contains, same_time, TimeParts, time_cmp, ObjectId, Mark, Seen, falling, told_of, Version, starts_at, ◌≡◌, ℕ, ◌+◌, Bool, true, false, List, [], ◌∷◌, ◌++◌, map, take, refl, sym, ◌∙◌, ap, subst, ◌||◌, Result, Ok, Err, OnOk, ◌<◌, length, get_or, insert_key, list_any, time_cmp-exact}
use Rattle.std.specs.Ordering.{match_ordering}
use Rattle.std.specs.declared.cmp.Ordering.{Ordering}
use Rattle.std.specs.declared.cmp.Ordering.TheVariants.{Less, Equal, Greater}
use Rattle.std.proofs.lemmas.List.Folds.{list_any-append}
use Rattle.folder_look.proofs.Appends.{take-one}

or-again : (a b : Bool) → (a || b) ≡ (a || (a || b))
or-again true b = refl
or-again false b = refl

or-swap : (a b c : Bool) → (a || (b || c)) ≡ (b || (a || c))
or-swap true true c = refl
or-swap true false c = refl
or-swap false true c = refl
or-swap false false c = refl

or-last : (a b : Bool) → (a || b) ≡ (b || (a || false))
or-last true true = refl
or-last true false = refl
or-last false true = refl
or-last false false = refl

-- a set with one more key
key-more : (x k : TimeParts) (ks : List TimeParts) → list_any (is_at (time_cmp x)) (insert_key time_cmp ks k) ≡ (same_time x k || list_any (is_at (time_cmp x)) ks)
unfolding same_time
key-more x k [] = refl
key-more x k (y ∷ ys) = go (key-more x k ys) (time_cmp k y) refl
  where
    go : list_any (is_at (time_cmp x)) (insert_key time_cmp ys k) ≡ (same_time x k || list_any (is_at (time_cmp x)) ys) → (o : Ordering) → time_cmp k y ≡ o →
        list_any (is_at (time_cmp x)) (match_ordering o (k ∷ y ∷ ys) (y ∷ ys) (y ∷ insert_key time_cmp ys k)) ≡ (same_time x k || list_any (is_at (time_cmp x)) (y ∷ ys))
    go again Less e = refl
    go again Equal e =
        let same : y ≡ k = sym (time_cmp-exact k y e) in
        subst (λ z. (same_time x z || list_any (is_at (time_cmp x)) ys) ≡ (same_time x k || (same_time x z || list_any (is_at (time_cmp x)) ys))) (sym same) (or-again (same_time x k) (list_any (is_at (time_cmp x)) ys))
    go again Greater e = ap (λ b. same_time x y || b) again ∙ or-swap (same_time x y) (same_time x k) (list_any (is_at (time_cmp x)) ys)

-- the same test, of what the code keeps
abbrev pub kept_at : List Version → TimeParts → Bool
kept_at vs x = list_any (λ (v : Version). same_time x v.start) vs

-- and with one more version
pub start-more : (vs : List Version) (i : ℕ) (v : Version) (ks new : List TimeParts) → i < length vs → v ≡ get_or vs i v → ((x : TimeParts) → list_any (is_at (time_cmp x)) ks ≡ kept_at (take i vs) x) → new ≡ insert_key time_cmp ks v.start →
    (x : TimeParts) → list_any (is_at (time_cmp x)) new ≡ kept_at (take (i + 1) vs) x
start-more vs i v ks new less at has is x =
    let more : take (i + 1) vs ≡ take i vs ++ v ∷ [] = take-one vs i v less ∙ ap (λ u. take i vs ++ u ∷ []) (sym at) in
    ap (list_any (is_at (time_cmp x))) is ∙ key-more x v.start ks ∙ ap (λ b. same_time x v.start || b) (has x) ∙ or-last (same_time x v.start) (kept_at (take i vs) x)
    ∙ sym (ap (λ l. kept_at l x) more ∙ list_any-append (λ (w : Version). same_time x w.start) (take i vs) (v ∷ []))

-- versions start where those that are kept of them do
pub start-told : (m : List Mark) (o : ObjectId) (qs : List Seen) (x : TimeParts) → kept_at (map (told_of m o) qs) x ≡ starts_at qs x
start-told m o [] x = refl
start-told m o (q ∷ qs) x = ap (λ b. same_time x q.start || b) (start-told m o qs x)

pub starts-told : {E : Type 0} (o : ObjectId) (m : List Mark) (vs : List Version) → vs ≡ map (told_of m o) (falling o m) → (r : Result (BTreeSet TimeParts) E) → IfOk r (λ starts. (x : TimeParts) → contains time_cmp starts x ≡ kept_at vs x) →
    IfOk r (λ starts. (x : TimeParts) → contains time_cmp starts x ≡ starts_at (falling o m) x)
starts-told o m vs is (Ok starts) h = λ x. h x ∙ ap (λ l. kept_at l x) is ∙ start-told m o (falling o m) x
starts-told o m vs is (Err e) h = tt

-- an empty set has none
pub none-start : (starts : BTreeSet TimeParts) → starts.keys ≡ [] → (x : TimeParts) → contains time_cmp starts x ≡ starts_at [] x
none-start starts none x = ap (list_any (is_at (time_cmp x))) none

-- what a call that went well says, said otherwise
pub on-more : {E : Type 0} (r : Result (Unit {0}) E) (P Q : Type 0) → (P → Q) → OnOk r P → OnOk r Q
on-more (Ok x) P Q f h = f h
on-more (Err x) P Q f h = tt
