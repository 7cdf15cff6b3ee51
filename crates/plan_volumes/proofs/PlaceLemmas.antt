-- The volumes of one node among those of all.
use Rattle.plan_volumes.proofs.Names.{length-map, AllZip, Has, NodeId, MediumName, Plan, Media, HasOpened, medium_in, node_at, kept_under, ShelfSight, first_names, volume_name, Kept, names-long, AreNodes, IsNodes, NodeVolumes, all_left, all_taken, left_of, names_from, working, ◌≡◌, ◌<◌, ◌+◌, ◌==◌, inl, inr, ℕ, zero, suc, Bool, true, false, List, [], ◌∷◌, ◌++◌, length, map, slice_get, slice_set, Option, Some, refl, ap, sym, subst, ◌∙◌, arith, IsGiven, kept-has}
use Rattle.std.proofs.lemmas.Bool.Decides.{nat_tests}
use Rattle.std.proofs.lemmas.Option.{slice_get_within}
use Rattle.plan_volumes.proofs.ApartLemmas.{set-long, zip-long}
use Rattle.plan_volumes.proofs.KeepLemmas.{kept-append}

-- ---- lists that are joined

zip-front : {A B : Type 0} (R : A → B → Type 0) (xs ys : List A) (ls ms : List B) → length xs ≡ length ls → AllZip R (xs ++ ys) (ls ++ ms) → AllZip R xs ls
zip-front R [] ys [] ms e h = tt
zip-front R [] ys (l ∷ ls) ms e h = absurd (omega (arith, e))
zip-front R (x ∷ xs) ys [] ms e h = absurd (omega (arith, e))
zip-front R (x ∷ xs) ys (l ∷ ls) ms e h = (h.0, zip-front R xs ys ls ms (omega (arith, e)) h.1)

zip-behind : {A B : Type 0} (R : A → B → Type 0) (xs ys : List A) (ls ms : List B) → length xs ≡ length ls → AllZip R (xs ++ ys) (ls ++ ms) → AllZip R ys ms
zip-behind R [] ys [] ms e h = h
zip-behind R [] ys (l ∷ ls) ms e h = absurd (omega (arith, e))
zip-behind R (x ∷ xs) ys [] ms e h = absurd (omega (arith, e))
zip-behind R (x ∷ xs) ys (l ∷ ls) ms e h = zip-behind R xs ys ls ms (omega (arith, e)) h.1

zip-there : {A B : Type 0} (R : A → B → Type 0) (xs : List A) (ys : List B) (i : ℕ) (x : A) (y : B) → AllZip R xs ys → slice_get xs i ≡ Some x → slice_get ys i ≡ Some y → R x y
zip-there R [] ys i x y h e f = absurd cc
zip-there R (u ∷ xs) [] i x y h e f = absurd h
zip-there R (u ∷ xs) (z ∷ ys) zero x y h e f = let a : u ≡ x = cc in let b : z ≡ y = cc in subst (λ t. R t y) a (subst (R u) b h.0)
zip-there R (u ∷ xs) (z ∷ ys) (suc i) x y h e f = zip-there R xs ys i x y h.1 e f

has-front : {A : Type 0} (x : A) (xs ys : List A) → Has x xs → Has x (xs ++ ys)
has-front x [] ys h = absurd h
has-front x (y ∷ xs) ys (inl e) = inl e
has-front x (y ∷ xs) ys (inr h) = inr (has-front x xs ys h)

has-behind : {A : Type 0} (x : A) (xs ys : List A) → Has x ys → Has x (xs ++ ys)
has-behind x [] ys h = h
has-behind x (y ∷ xs) ys h = inr (has-behind x xs ys h)

-- ---- a node's names

name-there : (n : NodeId) (count k : ℕ) → k < count → slice_get (first_names n count) k ≡ Some (volume_name n k)
name-there n zero k lt = absurd (omega (arith, lt))
name-there n (suc count) k lt = by (λ low. name-there n count k low) (k == count) refl
  where
    behind : {A : Type 0} (xs : List A) (x : A) → slice_get (xs ++ x ∷ []) (length xs) ≡ Some x
    behind [] x = refl
    behind (y ∷ xs) x = behind xs x

    front : {A : Type 0} (xs ys : List A) (i : ℕ) (x : A) → slice_get xs i ≡ Some x → slice_get (xs ++ ys) i ≡ Some x
    front [] ys i x e = absurd cc
    front (y ∷ xs) ys zero x e = e
    front (y ∷ xs) ys (suc i) x e = front xs ys i x e

    by : (k < count → slice_get (first_names n count) k ≡ Some (volume_name n k)) → (t : Bool) → (k == count) ≡ t → slice_get (first_names n (suc count)) k ≡ Some (volume_name n k)
    by before true e =
        let same : k ≡ count = grind (arith, nat_tests) in
        subst (λ i. slice_get (first_names n count ++ volume_name n count ∷ []) i ≡ Some (volume_name n k)) (names-long n count ∙ sym same)
        (behind (first_names n count) (volume_name n count) ∙ ap (λ i. Some (volume_name n i)) (sym same))
    by before false e = front (first_names n count) (volume_name n count ∷ []) k (volume_name n k) (before (grind (arith, nat_tests)))

pub volume-at : {B : Type 0} (R : MediumName → B → Type 0) (n : NodeId) (ys : List B) (k : ℕ) (y : B) → AllZip R (first_names n (length ys)) ys → slice_get ys k ≡ Some y → R (volume_name n k) y
volume-at R n ys k y h e = zip-there R (first_names n (length ys)) ys k (volume_name n k) y h (name-there n (length ys) k (slice_get_within ys k y e)) e

-- ---- one node of all

module _ {M : Type 0} (w : Media M) (plan : Plan) where
  pub node-there : (i : ℕ) (volumes : List (NodeVolumes w)) (place : ℕ) (v : NodeVolumes w) → AreNodes w plan i volumes → slice_get volumes place ≡ Some v → IsNodes w (node_at plan (i + place)) v
  node-there i [] place v are e = absurd cc
  node-there i (x ∷ volumes) zero v are e = let is : x ≡ v = cc in let n : i + 0 ≡ i = omega arith in subst (IsNodes w (node_at plan (i + 0))) is (subst (λ k. IsNodes w (node_at plan k) x) (sym n) are.0)
  node-there i (x ∷ volumes) (suc place) v are e = let n : suc i + place ≡ i + suc place = omega arith in subst (λ k. IsNodes w (node_at plan k) v) n (node-there (suc i) volumes place v are.1 e)

  pub node-given : (old : ShelfSight) (i : ℕ) (volumes : List (NodeVolumes w)) (place : ℕ) (v : NodeVolumes w) → AllZip (IsGiven w old) (names_from plan i volumes) (all_taken volumes) → slice_get volumes place ≡ Some v
      → AllZip (IsGiven w old) (first_names (node_at plan (i + place)) (length v.taken)) v.taken
  node-given old i [] place v h e = absurd cc
  node-given old i (x ∷ volumes) zero v h e =
      let is : x ≡ v = cc in
      let n : i + 0 ≡ i = omega arith in
      subst (λ (y : NodeVolumes w). AllZip (IsGiven w old) (first_names (node_at plan (i + 0)) (length y.taken)) y.taken) is (subst (λ k. AllZip (IsGiven w old) (first_names (node_at plan k) (length x.taken)) x.taken) (sym n)
      (zip-front (IsGiven w old) (first_names (node_at plan i) (length x.taken)) (names_from plan (suc i) volumes) x.taken (all_taken volumes) (names-long (node_at plan i) (length x.taken)) h))
  node-given old i (x ∷ volumes) (suc place) v h e =
      let n : suc i + place ≡ i + suc place = omega arith in
      subst (λ k. AllZip (IsGiven w old) (first_names (node_at plan k) (length v.taken)) v.taken) n (node-given old (suc i) volumes place v
      (zip-behind (IsGiven w old) (first_names (node_at plan i) (length x.taken)) (names_from plan (suc i) volumes) x.taken (all_taken volumes) (names-long (node_at plan i) (length x.taken)) h) e)

  left-count : (n : NodeId) (v : NodeVolumes w) (m : Option M) → IsNodes w n v → length (left_of v m) ≡ length v.taken
  left-count n v m h = set-long (map medium_in v.openings) (working v.openings) m ∙ (length-map v.openings medium_in ∙ sym (zip-long (HasOpened w) v.taken v.openings h.opened))

  node-kept : (i : ℕ) (volumes : List (NodeVolumes w)) (left : List (Option M)) (place : ℕ) (v : NodeVolumes w) (m : Option M) (k : Kept M) → AreNodes w plan i volumes → slice_get volumes place ≡ Some v → slice_get left place ≡ Some m
      → Has k (kept_under (first_names (node_at plan (i + place)) (length v.taken)) (left_of v m)) → Has k (kept_under (names_from plan i volumes) (all_left volumes left))
  node-kept i [] left place v m k are e f h = absurd cc
  node-kept i (x ∷ volumes) [] place v m k are e f h = absurd cc
  node-kept i (x ∷ volumes) (y ∷ left) zero v m k are e f h =
      let is : v ≡ x = cc in
      let back : m ≡ y = cc in
      let n : i + 0 ≡ i = omega arith in
      let here = subst (λ (z : NodeVolumes w). Has k (kept_under (first_names (node_at plan i) (length z.taken)) (left_of z y))) is (subst (λ z. Has k (kept_under (first_names (node_at plan i) (length v.taken)) (left_of v z))) back (subst (λ j. Has k (kept_under (first_names (node_at plan j) (length v.taken)) (left_of v m))) n h)) in
      subst (Has k) (sym (kept-append (first_names (node_at plan i) (length x.taken)) (names_from plan (suc i) volumes) (left_of x y) (all_left volumes left) (names-long (node_at plan i) (length x.taken) ∙ sym (left-count (node_at plan i) x y are.0))))
      (has-front k (kept_under (first_names (node_at plan i) (length x.taken)) (left_of x y)) (kept_under (names_from plan (suc i) volumes) (all_left volumes left)) here)
  node-kept i (x ∷ volumes) (y ∷ left) (suc place) v m k are e f h =
      let n : i + suc place ≡ suc i + place = omega arith in
      subst (Has k) (sym (kept-append (first_names (node_at plan i) (length x.taken)) (names_from plan (suc i) volumes) (left_of x y) (all_left volumes left) (names-long (node_at plan i) (length x.taken) ∙ sym (left-count (node_at plan i) x y are.0))))
      (has-behind k (kept_under (first_names (node_at plan i) (length x.taken)) (left_of x y)) (kept_under (names_from plan (suc i) volumes) (all_left volumes left))
      (node-kept (suc i) volumes left place v m k are.1 e f (subst (λ j. Has k (kept_under (first_names (node_at plan j) (length v.taken)) (left_of v m))) n h)))

  set-there : {A : Type 0} (xs : List A) (i : ℕ) (x : A) → i < length xs → slice_get (slice_set xs i x) i ≡ Some x
  set-there [] i x lt = absurd (omega (arith, lt))
  set-there (y ∷ xs) zero x lt = refl
  set-there (y ∷ xs) (suc i) x lt = set-there xs i x (omega (arith, lt))

  -- what is left of the volume that a run was given is handed back under its name
  pub work-kept : (volumes : List (NodeVolumes w)) (left : List (Option M)) (place : ℕ) (v : NodeVolumes w) (m : M) → AreNodes w plan 0 volumes → slice_get volumes place ≡ Some v → slice_get left place ≡ Some (Some m) → working v.openings < length v.openings
      → Has (record { node = node_at plan (0 + place); volume = working v.openings; medium = m }) (kept_under {M = M} (names_from plan 0 volumes) (all_left volumes left))
  work-kept volumes left place v m are e f lt =
      let n = node_at plan (0 + place) in
      let nodes = node-there 0 volumes place v are e in
      let long = zip-long (HasOpened w) v.taken v.openings nodes.opened in
      let short : length (map medium_in v.openings) ≡ length v.openings = length-map v.openings medium_in in
      node-kept 0 volumes left place v (Some m) (record { node = n; volume = working v.openings; medium = m }) are e f
      (kept-has (first_names n (length v.taken)) (left_of v (Some m)) (working v.openings) (volume_name n (working v.openings)) m (name-there n (length v.taken) (working v.openings) (omega (arith, long, lt)))
      (set-there (map medium_in v.openings) (working v.openings) (Some m) (omega (arith, short, lt))))
