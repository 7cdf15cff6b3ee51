-- The volumes of one node more are taken, opened, and set aside.
use Rattle.plan_volumes.proofs.Names.{length-map, length_push, map-append, map-set, AllZip, Every, Has, NodeId, MediumName, Plan, Opening, Open, Shut, Wanting, Media, HasOpened, IsWanting, medium_in, node_at, ShelfSight, first_names, volume_name, AreNodes, IsNodes, NodeVolumes, all_taken, names_from, work_taken, working, AreApart, IsAside, Aside, ◌≡◌, ◌⊎◌, ◌≤◌, ◌<◌, ◌+◌, inl, inr, ℕ, zero, suc, Bool, true, false, List, [], ◌∷◌, ◌++◌, length, length-append, map, append_assoc, append-nil, get_or, slice_get, slice_set, if◌then◌else◌, Option, Some, None, refl, ap, sym, subst, ◌∙◌, arith, kind_place, WereTaken, names-below, taken-both, taken-none, KeepsLog, is_open, unopened_from, IsApart}
use Rattle.std.specs.Option.{unwrap_or}
use Rattle.effect_form.specs.declared.effects.Effect.{Effect}
use Rattle.run_volumes.proofs.OrderLemmas.{place-at}
use Rattle.forward_copy.specs.Currents.{current, current_from}
use Rattle.forward_copy.specs.Wholes.{has_whole}
use Rattle.run_volumes.specs.Volumes.{AreVolumes, EndRightly, logs_of}

-- ---- the volume that a run is given is there

current-below : (found v most : ℕ) (logs : List (List Effect)) → found < most → v + length logs ≤ most → current_from found v logs < most
current-below found v most [] low fits = low
current-below found v most (log ∷ logs) low fits = current-below (if has_whole log then v else found) (suc v) most logs (by (has_whole log)) (omega (arith, fits))
  where
    by : (t : Bool) → (if t then v else found) < most
    by true = omega (arith, fits)
    by false = low

module _ {M : Type 0} {g : _} where
  logs-long : (os : List (Opening M g)) → length (logs_of os) ≡ length os
  logs-long [] = refl
  logs-long (o ∷ os) = ap suc (logs-long os)

  first-below : (v most : ℕ) (os : List (Opening M g)) (d : ℕ) → d < most → v + length os ≤ most → unwrap_or (unopened_from v os) d < most
  first-below v most [] d low fits = low
  first-below v most (o ∷ os) d low fits = by (first-below (suc v) most os d low (omega (arith, fits))) (is_open o)
    where
      by : unwrap_or (unopened_from (suc v) os) d < most → (t : Bool) → unwrap_or (if t then unopened_from (suc v) os else Some v) d < most
      by later true = later
      by later false = omega (arith, fits)

  pub working-below : (os : List (Opening M g)) → 1 ≤ length os → working os < length os
  working-below os some = first-below 0 (length os) os (current (logs_of os)) (current-below 0 0 (length os) (logs_of os) some (let l = logs-long os in omega (arith, l))) (omega arith)

  pub ends-some : (kind : _) (os : List (Opening M g)) → EndRightly kind os → 1 ≤ length os
  ends-some kind os e = let l = ap length e.is ∙ length-append e.front (e.last ∷ []) in omega (arith, l)

-- ---- place by place

zip-get : {A B : Type 0} (R : A → B → Type 0) (xs : List A) (ys : List B) (i : ℕ) (d : A) (y : B) → AllZip R xs ys → slice_get ys i ≡ Some y → R (get_or xs i d) y
zip-get R [] [] i d y h e = absurd cc
zip-get R [] (z ∷ ys) i d y h e = absurd h
zip-get R (x ∷ xs) [] i d y h e = absurd h
zip-get R (x ∷ xs) (z ∷ ys) zero d y h e = let is : z ≡ y = cc in subst (R x) is h.0
zip-get R (x ∷ xs) (z ∷ ys) (suc i) d y h e = zip-get R xs ys i d y h.1 e

pub zip-more : {A B : Type 0} (R : A → B → Type 0) (xs : List A) (ys : List B) (x : A) (y : B) → AllZip R xs ys → R x y → AllZip R (xs ++ x ∷ []) (ys ++ y ∷ [])
zip-more R [] [] x y h k = (k, tt)
zip-more R [] (z ∷ ys) x y h k = absurd h
zip-more R (z ∷ xs) [] x y h k = absurd h
zip-more R (z ∷ xs) (u ∷ ys) x y h k = (h.0, zip-more R xs ys x y h.1 k)

pub zip-long : {A B : Type 0} (R : A → B → Type 0) (xs : List A) (ys : List B) → AllZip R xs ys → length xs ≡ length ys
zip-long R [] [] h = refl
zip-long R [] (y ∷ ys) h = absurd h
zip-long R (x ∷ xs) [] h = absurd h
zip-long R (x ∷ xs) (y ∷ ys) h = ap suc (zip-long R xs ys h.1)

every-more : {A : Type 0} (P : A → Type 0) (xs : List A) (x : A) → Every P xs → P x → Every P (xs ++ x ∷ [])
every-more P [] x h k = (k, tt)
every-more P (y ∷ xs) x h k = (h.0, every-more P xs x h.1 k)

set-set : {A : Type 0} (xs : List A) (i : ℕ) (x y : A) → slice_set (slice_set xs i x) i y ≡ slice_set xs i y
set-set [] i x y = refl
set-set (z ∷ xs) zero x y = refl
set-set (z ∷ xs) (suc i) x y = ap (λ l. z ∷ l) (set-set xs i x y)

pub set-long : {A : Type 0} (xs : List A) (i : ℕ) (x : A) → length (slice_set xs i x) ≡ length xs
set-long [] i x = refl
set-long (z ∷ xs) zero x = refl
set-long (z ∷ xs) (suc i) x = ap suc (set-long xs i x)

-- ---- names

module _ {M : Type 0} {w : Media M} where
  -- these are names of the plan's nodes from this place on
  names-within : (plan : Plan) (i : ℕ) (volumes : List (NodeVolumes w)) (name : MediumName) → Has name (names_from plan i volumes) → (j : ℕ) × (v : ℕ) × (j < i + length volumes) × (name ≡ volume_name (node_at plan j) v)
  names-within plan i [] name h = absurd h
  names-within plan i (x ∷ volumes) name h = by (λ later. names-within plan (suc i) volumes name later) (split (first_names (node_at plan i) (length x.taken)) h)
    where
      split : (xs : List MediumName) → Has name (xs ++ names_from plan (suc i) volumes) → Has name xs ⊎ Has name (names_from plan (suc i) volumes)
      split [] h = inr h
      split (y ∷ xs) (inl e) = inl (inl e)
      split (y ∷ xs) (inr h) = one (split xs h)
        where
          one : Has name xs ⊎ Has name (names_from plan (suc i) volumes) → Has name (y ∷ xs) ⊎ Has name (names_from plan (suc i) volumes)
          one (inl k) = inl (inr k)
          one (inr k) = inr k

      by : (Has name (names_from plan (suc i) volumes) → (j : ℕ) × (v : ℕ) × (j < suc i + length volumes) × (name ≡ volume_name (node_at plan j) v)) → Has name (first_names (node_at plan i) (length x.taken)) ⊎ Has name (names_from plan (suc i) volumes)
          → (j : ℕ) × (v : ℕ) × (j < i + length (x ∷ volumes)) × (name ≡ volume_name (node_at plan j) v)
      by behind (inl here) = let r = names-below (node_at plan i) (length x.taken) name here in (i, r.0, omega arith, r.2)
      by behind (inr later) = let r = behind later in let low = r.2 in (r.0, r.1, omega (arith, low), r.3)

  -- the next node's volumes have other names
  next-apart : (plan : Plan) (volumes : List (NodeVolumes w)) (k : ℕ) (name : MediumName) → Has name (first_names (node_at plan (length volumes)) k) → Has name (names_from plan 0 volumes) → ⊥
  next-apart plan volumes k name h before =
      let a = names-below (node_at plan (length volumes)) k name h in
      let b = names-within plan 0 volumes name before in
      let same : length volumes ≡ b.0 = sym (place-at plan (length volumes)) ∙ (ap (λ (x : MediumName). kind_place plan x.kind x.number) (sym a.2 ∙ b.3) ∙ place-at plan b.0) in
      let low = b.2 in
      absurd (omega (arith, same, low))

  pub names-more : (plan : Plan) (i : ℕ) (volumes : List (NodeVolumes w)) (v : NodeVolumes w) → names_from plan i (volumes ++ v ∷ []) ≡ names_from plan i volumes ++ first_names (node_at plan (i + length volumes)) (length v.taken)
  names-more plan i [] v = append-nil (first_names (node_at plan i) (length v.taken)) ∙ ap (λ k. first_names (node_at plan k) (length v.taken)) (omega arith)
  names-more plan i (x ∷ volumes) v =
      ap (λ l. first_names (node_at plan i) (length x.taken) ++ l) (names-more plan (suc i) volumes v ∙ ap (λ k. names_from plan (suc i) volumes ++ first_names (node_at plan k) (length v.taken)) (omega arith))
      ∙ sym (append_assoc (first_names (node_at plan i) (length x.taken)) (names_from plan (suc i) volumes) (first_names (node_at plan (i + length (x ∷ volumes))) (length v.taken)))

  taken-append : (volumes : List (NodeVolumes w)) (v : NodeVolumes w) → all_taken (volumes ++ v ∷ []) ≡ all_taken volumes ++ v.taken
  taken-append [] v = append-nil v.taken
  taken-append (x ∷ volumes) v = ap (λ l. x.taken ++ l) (taken-append volumes v) ∙ sym (append_assoc x.taken (all_taken volumes) v.taken)

-- ---- one node more

module _ {M : Type 0} (w : Media M) where
  -- what was opened keeps its log
  keeps-one : (m : Option M) (o : Opening M w) → HasOpened w m o → KeepsLog w o
  keeps-one None (Open store effects) h = absurd h
  keeps-one (Some m) (Open store effects) h = h.left
  keeps-one m (Shut medium cause) h = tt
  keeps-one m (Wanting medium) h = tt

  keep-logs : (xs : List (Option M)) (os : List (Opening M w)) → AllZip (HasOpened w) xs os → Every (KeepsLog w) os
  keep-logs [] [] h = tt
  keep-logs [] (o ∷ os) h = absurd h
  keep-logs (x ∷ xs) [] h = absurd h
  keep-logs (x ∷ xs) (o ∷ os) h = (keeps-one x o h.0, keep-logs xs os h.1)

  are-more : (plan : Plan) (i : ℕ) (volumes : List (NodeVolumes w)) (v : NodeVolumes w) → AreNodes w plan i volumes → IsNodes w (node_at plan (i + length volumes)) v → AreNodes w plan i (volumes ++ v ∷ [])
  are-more plan i [] v h k = (subst (λ j. IsNodes w (node_at plan j) v) (omega arith) k, tt)
  are-more plan i (x ∷ volumes) v h k = (h.0, are-more plan (suc i) volumes v h.1 (subst (λ j. IsNodes w (node_at plan j) v) (omega arith) k))

  -- no node's yet
  pub apart-none : (a : ShelfSight) (plan : Plan) (os : List (Opening M w)) (asides : List (Aside M w)) → os ≡ [] → asides ≡ [] → AreApart w a a plan [] os asides false
  apart-none a plan os asides e f = subst (λ x. AreApart w a a plan [] x asides false) (sym e) (subst (λ y. AreApart w a a plan [] [] y false) (sym f)
      (record { taken = taken-none w a; are = tt; given = tt; aside = tt; memory = λ _. tt }))

  module _ (a b c : ShelfSight) (plan : Plan) (volumes : List (NodeVolumes w)) (n : NodeId) (is : n ≡ node_at plan (length volumes)) (taken : List (Option M)) (openings : List (Opening M w)) (new : AreVolumes w b c n taken openings) where
    abbrev v : NodeVolumes w
    v = record { taken = taken; openings = openings }

    there : 0 + length volumes ≡ length volumes
    there = omega arith

    more-taken : WereTaken w a b (names_from plan 0 volumes) (all_taken volumes) → WereTaken w a c (names_from plan 0 (volumes ++ v ∷ [])) (all_taken (volumes ++ v ∷ []))
    more-taken old =
        let names : names_from plan 0 (volumes ++ v ∷ []) ≡ names_from plan 0 volumes ++ first_names n (length taken) = names-more plan 0 volumes v ∙ ap (λ (k : NodeId). names_from plan 0 volumes ++ first_names k (length taken)) (ap (node_at plan) there ∙ sym is) in
        subst (λ l. WereTaken w a c l (all_taken (volumes ++ v ∷ []))) (sym names) (subst (WereTaken w a c (names_from plan 0 volumes ++ first_names n (length taken))) (sym (taken-append volumes v))
        (taken-both w a b c (names_from plan 0 volumes) (all_taken volumes) (first_names n (length taken)) taken old new.taken (λ name h before. next-apart plan volumes (length taken) name (subst (λ (k : NodeId). Has name (first_names k (length taken))) is h) before)))

    are-nodes : IsNodes w (node_at plan (0 + length volumes)) v
    are-nodes = subst (λ (k : NodeId). IsNodes w k v) (is ∙ ap (node_at plan) (sym there)) (record { opened = new.opened; ends = new.ends; keep = keep-logs taken openings new.opened })

  -- what stands aside of a node's volumes
  pub aside-one : (b c : ShelfSight) (n : NodeId) (v : NodeVolumes w) → AreVolumes w b c n v.taken v.openings → (missing : Opening M w) (aside : Aside M w) → length v.openings ≤ 1000 → aside.working ≡ working v.openings
      → aside.rest.items ≡ slice_set v.openings (working v.openings) missing → IsAside v aside
  aside-one b c n v new missing aside few place rest =
      let openings = v.openings in
      let long : length aside.rest.items ≡ length openings = ap length rest ∙ set-long openings (working openings) missing in
      let below = working-below openings (ends-some n.kind openings new.ends) in
      record {
        place = omega (arith, long, below, place);
        few = omega (arith, long, few);
        count = long ∙ sym (zip-long (HasOpened w) v.taken openings new.opened);
        rest = λ m. ap (λ l. slice_set (map medium_in l) aside.working m) rest ∙ (ap (λ i. slice_set (map medium_in (slice_set openings (working openings) missing)) i m) place
            ∙ (ap (λ l. slice_set l (working openings) m) (map-set medium_in openings (working openings) missing) ∙ set-set (map medium_in openings) (working openings) (medium_in missing) m));
      }

  -- one node more
  pub apart-more : (a b c : ShelfSight) (plan : Plan) (volumes : List (NodeVolumes w)) (os : List (Opening M w)) (asides : List (Aside M w)) (was now : Bool) → AreApart w a b plan volumes os asides was
      → (n : NodeId) (v : NodeVolumes w) (o : Opening M w) (aside : Aside M w) (wanting : Bool) → n ≡ node_at plan (length os) → IsApart w b c n v o aside wanting → (now ≡ false → (was ≡ false) × (wanting ≡ false))
      → AreApart w a c plan (volumes ++ v ∷ []) (os ++ o ∷ []) (asides ++ aside ∷ []) now
  apart-more a b c plan volumes os asides was now old n v o aside wanting is new memory =
      let long : length volumes ≡ length os = sym (length-map volumes work_taken) ∙ zip-long (HasOpened w) (map work_taken volumes) os old.given in
      let at : n ≡ node_at plan (length volumes) = is ∙ ap (node_at plan) (sym long) in
      record {
        taken = more-taken a b c plan volumes n at v.taken v.openings new.volumes old.taken;
        are = are-more plan 0 volumes v old.are (are-nodes a b c plan volumes n at v.taken v.openings new.volumes);
        given = subst (λ l. AllZip (HasOpened w) l (os ++ o ∷ [])) (sym (map-append work_taken volumes (v ∷ []))) (zip-more (HasOpened w) (map work_taken volumes) os (work_taken v) o old.given (zip-get (HasOpened w) v.taken v.openings (working v.openings) None o new.volumes.opened new.given));
        aside = zip-more IsAside volumes asides v aside old.aside new.aside;
        memory = λ e. let m = memory e in every-more (λ (y : NodeVolumes w). Every (λ (x : Opening M w). IsWanting x → ⊥) y.openings) volumes v (old.memory m.0) (new.memory m.1);
      }

  pub apart-next : (a b c : ShelfSight) (plan : Plan) (was now : Bool) (os all : List (Opening M w)) (asides beside : List (Aside M w)) → (volumes : List (NodeVolumes w)) × (length volumes ≡ length os) × AreApart w a b plan volumes os asides was
      → (n : NodeId) (o : Opening M w) (aside : Aside M w) (wanting : Bool) → n ≡ node_at plan (length os) → (v : NodeVolumes w) × IsApart w b c n v o aside wanting → (now ≡ false → (was ≡ false) × (wanting ≡ false)) → all ≡ os ++ o ∷ [] → beside ≡ asides ++ aside ∷ []
      → (volumes : List (NodeVolumes w)) × (length volumes ≡ length all) × AreApart w a c plan volumes all beside now
  apart-next a b c plan was now os all asides beside old n o aside wanting is new memory are stand = (
    old.0 ++ new.0 ∷ [],
    (length_push old.0 new.0 ∙ (ap (λ k. k + 1) old.1 ∙ (sym (length_push os o) ∙ ap length (sym are)))),
    subst (λ x. AreApart w a c plan (old.0 ++ new.0 ∷ []) x beside now) (sym are) (subst (λ y. AreApart w a c plan (old.0 ++ new.0 ∷ []) (os ++ o ∷ []) y now) (sym stand)
        (apart-more a b c plan old.0 os asides was now old.2 n new.0 o aside wanting is new.1 memory)),
  )
