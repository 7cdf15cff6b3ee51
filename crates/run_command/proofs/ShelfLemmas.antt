-- Media that are handed back under their names lose nothing.
use Rattle.run_command.proofs.Names.{AllZip, Every, storage, Plan, Opening, Open, Shut, Wanting, Media, AreBack, IsBack, IsLeftAlone, HasOpened, medium_in, IsKeptWhole, AllKept, kept_under, IsGiven, IsTaken, ShelfSight, Kept, IsAside, HasVolumes, NodeVolumes, all_left, all_taken, names_from, work_taken, zip-long, ◌≡◌, ◌⊎◌, inl, inr, Bool, List, length, [], ◌∷◌, Option, Some, None, ap, map, sym, subst, ◌∙◌, IsUntouched, HasItsLog, node_of, AreApart, node_count, LosesNothing}
use Rattle.medium_port.specs.declared.shelves.MediumName.{MediumName}
use Rattle.plan_volumes.proofs.ShelfLemmas as volumes
use Rattle.plan_volumes.specs.declared.asides.Aside.{Aside}
use Rattle.plan_volumes.proofs.KeepLemmas.{all-opened, all-volumes, opened-back}

module _ {M : Type 0} (w : Media M) where
  -- what was opened is whole
  opened-alone : (x : Option M) (o : Opening M w) → HasOpened w x o → IsLeftAlone w x (medium_in o)
  opened-alone None (Open store effects) h = absurd h
  opened-alone None (Shut None cause) h = tt
  opened-alone None (Shut (Some new) cause) h = absurd h
  opened-alone None (Wanting new) h = absurd h
  opened-alone (Some old) (Open store effects) h = h.same.untouched
  opened-alone (Some old) (Shut None cause) h = absurd h
  opened-alone (Some old) (Shut (Some new) cause) h = h.0.untouched
  opened-alone (Some old) (Wanting new) h = h.untouched

  one-whole : (x y : Option M) → IsLeftAlone w x y → IsKeptWhole w x y
  one-whole None None h = tt
  one-whole None (Some y) h = absurd h
  one-whole (Some x) None h = absurd h
  one-whole (Some x) (Some y) h = inl h

  -- media that were left alone are whole
  pub alone-whole : (media left : List (Option M)) → AllZip (IsLeftAlone w) media left → AllZip (IsKeptWhole w) media left
  alone-whole [] [] h = tt
  alone-whole [] (y ∷ ys) h = absurd h
  alone-whole (x ∷ xs) [] h = absurd h
  alone-whole (x ∷ xs) (y ∷ ys) h = (one-whole x y h.0, alone-whole xs ys h.1)

  -- media that were opened and given back were left alone
  pub opened-left : (media : List (Option M)) (os : List (Opening M w)) → AllZip (HasOpened w) media os → AllZip (IsLeftAlone w) media (map medium_in os)
  opened-left media os h = all-opened w (IsLeftAlone w) opened-alone media os h

  pub opened-there : (media : List (Option M)) (os : List (Opening M w)) → AllZip (HasOpened w) media os → AreBack media (map medium_in os)
  opened-there media os h = all-opened w IsBack (opened-back w) media os h

  module _ (old new : ShelfSight) (plan : Plan) where
    -- what was taken apart and put together again
    pub has-volumes : (volumes : List (NodeVolumes w)) (os : List (Opening M w)) (asides : List (Aside M w)) (wanting : Bool) (left : List (Option M)) (kept : List (Kept M)) → AreApart w old new plan volumes os asides wanting → length asides ≡ node_count plan
        → kept ≡ kept_under (names_from plan 0 volumes) (all_left volumes left) → HasVolumes w old new plan volumes left kept
    has-volumes vs os asides wanting left kept apart count handed = record { count = zip-long IsAside vs asides apart.aside ∙ count; taken = apart.taken; are = apart.are; handed = handed }

    -- each medium that was taken is handed back
    pub all-kept : (volumes : List (NodeVolumes w)) (left : List (Option M)) (kept : List (Kept M)) → HasVolumes w old new plan volumes left kept → AreBack (map work_taken volumes) left → AllKept old new kept
    all-kept vs left kept has back =
        subst (AllKept old new) (sym has.handed) (volumes.all-kept w old new (names_from plan 0 vs) (all_taken vs) (all_left vs left) has.taken (all-volumes w IsBack (opened-back w) plan 0 vs left has.are back))

    loses-one : (name : MediumName) (m new : M) → IsTaken w old name m → IsUntouched w m new ⊎ HasItsLog w m new → LosesNothing {M = M} w old (record { node = node_of name; volume = name.volume; medium = new })
    loses-one name m new taken (inl u) = inl (λ t c h. (taken.content t).no_more c (u t c h))
    loses-one name m new taken (inr l) = inr (λ t. let h = l t in (h.0, ap storage (sym (taken.content t).reads_same) ∙ h.1, h.2))

    lose-nothing : (names : List MediumName) (media left : List (Option M)) → AllZip (IsGiven w old) names media → AllZip (IsKeptWhole w) media left → Every (LosesNothing w old) (kept_under {M = M} names left)
    lose-nothing [] media left g k = tt
    lose-nothing (n ∷ ns) [] left g k = absurd g
    lose-nothing (n ∷ ns) (x ∷ xs) [] g k = absurd k
    lose-nothing (n ∷ ns) (None ∷ xs) (None ∷ ys) g k = lose-nothing ns xs ys g.1 k.1
    lose-nothing (n ∷ ns) (None ∷ xs) (Some y ∷ ys) g k = absurd k.0
    lose-nothing (n ∷ ns) (Some x ∷ xs) (None ∷ ys) g k = absurd k.0
    lose-nothing (n ∷ ns) (Some x ∷ xs) (Some y ∷ ys) g k = (loses-one n x y g.0 k.0, lose-nothing ns xs ys g.1 k.1)

    -- media that are whole lose nothing
    pub none-lost : (volumes : List (NodeVolumes w)) (left : List (Option M)) (kept : List (Kept M)) → HasVolumes w old new plan volumes left kept → AllZip (IsKeptWhole w) (map work_taken volumes) left → Every (LosesNothing w old) kept
    none-lost vs left kept has whole =
        subst (Every (LosesNothing w old)) (sym has.handed)
        (lose-nothing (names_from plan 0 vs) (all_taken vs) (all_left vs left) has.taken.are (all-volumes w (IsKeptWhole w) (λ x o h. one-whole x (medium_in o) (opened-alone x o h)) plan 0 vs left has.are whole))
