-- Each medium that a watch took is handed back.
use Rattle.watch_command.proofs.Names.{append_assoc, length-map, AllZip-long, Mark, MediumName, Opening, Open, Shut, Wanting, Media, HasOpened, medium_in, Kept, kept_as, kept_under, ShelfSight, first_names, volume_name, Outcome, Rule, totals_volume, ComesTo, StopsBefore, WatchesOver, ◌≡◌, ◌⊎◌, ℕ, List, [], ◌∷◌, ◌++◌, length, map, refl, sym, ◌∙◌, ap, subst, arith, Option, Some, None, inl, inr, named, AreBack, IsBack, AllKept, all-kept, names-long, back-all}

-- ---- one more behind others

module _ {M : Type 0} where
  kept-one : (name : MediumName) (m : Option M) → kept_under (name ∷ []) (m ∷ []) ≡ kept_as name m
  kept-one name None = refl
  kept-one name (Some m) = refl

  kept-more : (ns : List MediumName) (xs : List (Option M)) (name : MediumName) (m : Option M) → length ns ≡ length xs → kept_under {M = M} (ns ++ name ∷ []) (xs ++ m ∷ []) ≡ kept_under ns xs ++ kept_as name m
  kept-more [] [] name m e = kept-one name m
  kept-more [] (x ∷ xs) name m e = absurd (omega (arith, e))
  kept-more (n ∷ ns) [] name m e = absurd (omega (arith, e))
  kept-more (n ∷ ns) (x ∷ xs) name m e =
      ap (λ l. kept_as n x ++ l) (kept-more ns xs name m (omega (arith, e))) ∙ sym (append_assoc (kept_as n x) (kept_under ns xs) (kept_as name m))

  back-more : (xs ys : List (Option M)) (x y : Option M) → AreBack xs ys → IsBack x y → AreBack (xs ++ x ∷ []) (ys ++ y ∷ [])
  back-more [] [] x y h k = (k, tt)
  back-more [] (b ∷ ys) x y h k = absurd h
  back-more (a ∷ xs) [] x y h k = absurd h
  back-more (a ∷ xs) (b ∷ ys) x y h k = (h.0, back-more xs ys x y h.1 k)

module _ {M : Type 0} (w : Media M) {g : _} where
  back-of : (repository : ℕ) (rule : Rule) (marks : List Mark) (taken : Option M) (o : Opening M g) (r : Outcome) (left : Option M) → HasOpened w taken o → ComesTo w repository rule marks o r left → IsBack taken left
  back-of repository rule marks None (Open store effects) r left h c = absurd h
  back-of repository rule marks (Some old) (Open store effects) r None h c = absurd c
  back-of repository rule marks (Some old) (Open store effects) r (Some x) h c = tt
  back-of repository rule marks None (Shut None cause) r left h c = subst (IsBack None) (sym c.0) tt
  back-of repository rule marks None (Shut (Some x) cause) r left h c = absurd h
  back-of repository rule marks (Some old) (Shut None cause) r left h c = absurd h
  back-of repository rule marks (Some old) (Shut (Some x) cause) r left h c = subst (IsBack (Some old)) (sym c.0) tt
  back-of repository rule marks None (Wanting x) r left h c = absurd h
  back-of repository rule marks (Some old) (Wanting x) r left h c = subst (IsBack (Some old)) (sym c.0) tt

-- ---- all of them

module _ {M : Type 0} (w : Media M) (old new : ShelfSight) (repository : ℕ) (rule : Rule) (kept : List (Kept M)) (r : Outcome) where
  stopped-kept : StopsBefore w old new repository rule kept r → AllKept old new kept
  stopped-kept h =
      subst (AllKept old new) (ap (λ k. kept_under (first_names (named repository) k) (map medium_in h.openings)) (sym (AllZip-long (HasOpened w) h.media h.openings h.volumes.opened)) ∙ sym h.handed)
      (all-kept w old new (first_names (named repository) (length h.media)) h.media (map medium_in h.openings) h.volumes.taken (back-all w h.media h.openings (map medium_in h.openings) h.volumes.opened h.keep))

  over-kept : WatchesOver w old new repository rule kept r → AllKept old new kept
  over-kept h =
      let n = named repository in
      let v = totals_volume rule in
      let long = AllZip-long (HasOpened w) h.media h.openings h.volumes in
      let given = length-map h.openings medium_in in
      let names = names-long n (length h.media) in
      let same : kept_under (first_names n (length h.media) ++ volume_name n v ∷ []) (map medium_in h.openings ++ h.left ∷ []) ≡ kept =
      kept-more (first_names n (length h.media)) (map medium_in h.openings) (volume_name n v) h.left (omega (arith, names, long, given))
      ∙ ap (λ k. kept_under (first_names n k) (map medium_in h.openings) ++ kept_as (volume_name n v) h.left) (sym long) ∙ sym h.handed in
      subst (AllKept old new) same
      (all-kept w old new (first_names n (length h.media) ++ volume_name n v ∷ []) (h.media ++ h.taken ∷ []) (map medium_in h.openings ++ h.left ∷ []) h.are
      (back-more h.media (map medium_in h.openings) h.taken h.left (back-all w h.media h.openings (map medium_in h.openings) h.volumes h.keep) (back-of w repository rule _ h.taken h.opening r h.left h.has h.came)))

  pub watch-kept : StopsBefore w old new repository rule kept r ⊎ WatchesOver w old new repository rule kept r → AllKept old new kept
  watch-kept (inl h) = stopped-kept h
  watch-kept (inr h) = over-kept h
