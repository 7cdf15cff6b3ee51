-- Nodes beside the lists that they learn, and beside what becomes of them.
use Rattle.node_rounds.proofs.Names.{◌≡◌, ◌<◌, ◌+◌, ◌∙◌, refl, ℕ, zero, suc, List, [], ◌∷◌, ◌++◌, length, get_or, sym, subst, arith, Media, NodeParts, All, AllZip, All-nil, All-cons}
use Rattle.std.proofs.Common.{take}
use Rattle.std.proofs.lemmas.List.{take_all, take_more}
use Rattle.std.specs.declared.vec.Vec.{Vec}
use Rattle.std.specs.declared.alloc.Global.{Global}
use Rattle.node_rounds.specs.Settled.{Decided, HasSettled, HaveSettled}

-- a list is what stands before its last element, and that
pub list-last : {A : Type 0} (xs : List A) (i : ℕ) (d : A) → length xs ≡ i + 1 → xs ≡ take i xs ++ get_or xs i d ∷ []
list-last {A} xs i d size = sym (take_all (i + 1) xs (omega (arith, size))) ∙ take_more xs i d (omega (arith, size))

-- what stands in a place
pub some-at : {A : Type 0} (xs : List A) (i : ℕ) → i < length xs → (x : A) × (x ≡ get_or xs i x)
some-at [] i lt = absurd (omega (arith, lt))
some-at (x ∷ xs) zero lt = (x, refl)
some-at (x ∷ xs) (suc i) lt = some-at xs i (omega (arith, lt))

-- the pairs before the last element of the first list, and the pair that has it
pub zip-less : {A B : Type 0} (R : A → B → Type 0) (old xs : List A) (all : List B) (x : A) → old ≡ xs ++ x ∷ [] → AllZip R old all → AllZip R xs (take (length xs) all)
zip-less {A} {B} R old xs all x e h = go xs all (subst (λ l. AllZip R l all) e h)
  where
    go : (xs : List A) (all : List B) → AllZip R (xs ++ x ∷ []) all → AllZip R xs (take (length xs) all)
    go [] all h = tt
    go (y ∷ xs) [] h = absurd h
    go (y ∷ xs) (b ∷ all) h = (h.0, go xs all h.1)

pub zip-end : {A B : Type 0} (R : A → B → Type 0) (old xs : List A) (all : List B) (x : A) (d : B) → old ≡ xs ++ x ∷ [] → AllZip R old all → R x (get_or all (length xs) d)
zip-end {A} {B} R old xs all x d e h = go xs all (subst (λ l. AllZip R l all) e h)
  where
    go : (xs : List A) (all : List B) → AllZip R (xs ++ x ∷ []) all → R x (get_or all (length xs) d)
    go [] [] h = absurd h
    go [] (b ∷ all) h = h.0
    go (y ∷ xs) [] h = absurd h
    go (y ∷ xs) (b ∷ all) h = go xs all h.1

settled-more : {M : Type 0} (w : Media M) (nodes : List (NodeParts M)) (lists : List (Vec Decided Global)) (after : List (NodeParts M)) (n : NodeParts M) (list : Vec Decided Global) (m : NodeParts M)
    → HaveSettled w nodes lists after → HasSettled w list.items n m → HaveSettled w (nodes ++ n ∷ []) (lists ++ list ∷ []) (after ++ m ∷ [])
settled-more w [] [] [] n list m h one = (one, tt)
settled-more w [] [] (c ∷ after) n list m h one = absurd h
settled-more w [] (b ∷ lists) after n list m h one = absurd h
settled-more w (a ∷ nodes) [] after n list m h one = absurd h
settled-more w (a ∷ nodes) (b ∷ lists) [] n list m h one = absurd h
settled-more w (a ∷ nodes) (b ∷ lists) (c ∷ after) n list m h one = (h.0, settled-more w nodes lists after n list m h.1 one)

-- one node more that settled, where the lists are given by their equations
pub settled-joined : {M : Type 0} (w : Media M) (old xs : List (NodeParts M)) (lists front : List (Vec Decided Global)) (new ys : List (NodeParts M)) (n : NodeParts M) (list : Vec Decided Global) (m : NodeParts M)
    → old ≡ xs ++ n ∷ [] → lists ≡ front ++ list ∷ [] → new ≡ ys ++ m ∷ [] → HaveSettled w xs front ys → HasSettled w list.items n m → HaveSettled w old lists new
settled-joined w old xs lists front new ys n list m o l k h one =
    subst (λ z. HaveSettled w z lists new) (sym o) (subst (λ z. HaveSettled w (xs ++ n ∷ []) z new) (sym l) (subst (λ z. HaveSettled w (xs ++ n ∷ []) (front ++ list ∷ []) z) (sym k) (settled-more w xs front ys n list m h one)))

-- ---- what holds of each element

pub last-of : {A : Type 0} (P : A → Type 0) (old xs : List A) (x : A) → old ≡ xs ++ x ∷ [] → All P old → P x
last-of {A} P old xs x e h = go xs (subst (All P) e h)
  where
    go : (xs : List A) → All P (xs ++ x ∷ []) → P x
    go [] h = h 0 x (omega arith)
    go (y ∷ xs) h = go xs (λ k d lt. h (suc k) d (omega (arith, lt)))

pub front-of : {A : Type 0} (P : A → Type 0) (old xs : List A) (x : A) → old ≡ xs ++ x ∷ [] → All P old → All P xs
front-of {A} P old xs x e h = go xs (subst (All P) e h)
  where
    go : (xs : List A) → All P (xs ++ x ∷ []) → All P xs
    go [] h = All-nil P
    go (y ∷ xs) h = All-cons P y xs (h 0 y (omega arith)) (go xs (λ k d lt. h (suc k) d (omega (arith, lt))))

pub pushed : {A : Type 0} (P : A → Type 0) (new xs : List A) (x : A) → new ≡ xs ++ x ∷ [] → All P xs → P x → All P new
pushed {A} P new xs x e h p = subst (All P) (sym e) (go xs h)
  where
    go : (xs : List A) → All P xs → All P (xs ++ x ∷ [])
    go [] h = All-cons P x [] p (All-nil P)
    go (y ∷ xs) h = All-cons P y (xs ++ x ∷ []) (h 0 y (omega arith)) (go xs (λ k d lt. h (suc k) d (omega (arith, lt))))
