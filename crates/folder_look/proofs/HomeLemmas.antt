-- Versions that are told as their homes decided them.
use Rattle.folder_look.proofs.Names.{TimeParts, VersionRow, told_as, told_at_home, ◌≡◌, ℕ, zero, suc, ◌+◌, Bool, true, false, List, [], ◌∷◌, ◌++◌, map, take, drop, get_or, Option, Some, None, if◌then◌else◌, inl, inr, refl, ◌∙◌, ap, arith}
use Rattle.std.proofs.Common.{slice_set}
use Rattle.std.specs.FinMap as finite
use Rattle.object_history.specs.Kept.{Settled}
use Rattle.folder_look.specs.Homes.{is_open}
use Rattle.folder_look.specs.Once.{HasStart}

one-told : {A : Type 0} → (f : A → A) (i : ℕ) (xs : List A) (d : A) → slice_set (map f (take i xs) ++ drop i xs) i (f (get_or (map f (take i xs) ++ drop i xs) i d)) ≡ map f (take (suc i) xs) ++ drop (suc i) xs
one-told f zero [] d = refl
one-told f (suc i) [] d = refl
one-told f zero (x ∷ xs) d = refl
one-told f (suc i) (x ∷ xs) d = ap (λ l. f x ∷ l) (one-told f i xs d)

-- one more of the items is told
pub told-at : {A : Type 0} → (f : A → A) (i : ℕ) (xs items : List A) (d new : A) → items ≡ map f (take i xs) ++ drop i xs → d ≡ get_or items i d → new ≡ f d → slice_set items i new ≡ map f (take (i + 1) xs) ++ drop (i + 1) xs
told-at {A} f i xs items d new is at e =
    let k : new ≡ f (get_or (map f (take i xs) ++ drop i xs) i d) = e ∙ ap f (at ∙ ap (λ (l : List A). get_or l i d) is) in
    let next : suc i ≡ i + 1 = omega arith in
    ap (λ (l : List A). slice_set l i new) is ∙ (ap (λ (x : A). slice_set (map f (take i xs) ++ drop i xs) i x) k ∙ (one-told f i xs d ∙ ap (λ (n : ℕ). map f (take n xs) ++ drop n xs) next))

-- ---- where they start

as-start : (f : Option Bool) (v : VersionRow) → (told_as f v).start ≡ v.start
as-start None v = refl
as-start (Some c) v = refl

if-start : (b : Bool) (w v : VersionRow) → w.start ≡ v.start → (if b then w else v).start ≡ v.start
if-start true w v h = h
if-start false w v h = refl

told-start : (homes : Settled) (v : VersionRow) → (told_at_home homes v).start ≡ v.start
told-start homes v = if-start (is_open v.state) (told_as (finite.get homes v.start.stamp) v) v (as-start (finite.get homes v.start.stamp) v)

-- one that is told starts where it did
pub has-told : (homes : Settled) (x : TimeParts) (rs : List VersionRow) → HasStart rs x → HasStart (map (told_at_home homes) rs) x
has-told homes x [] h = absurd h
has-told homes x (r ∷ rs) (inl e) = inl (told-start homes r ∙ e)
has-told homes x (r ∷ rs) (inr h) = inr (has-told homes x rs h)
