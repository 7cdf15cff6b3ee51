-- What must succeed, succeeds: from what the shelf gave and got back to a complete run.
use Rattle.run_command.proofs.Names.{AllZip, nat_tests, Every, Has, broker, NodeId, Rose, RoseBy, rise_of_fewer, storage, Plan, CanRun, book, keep, Trace, in_plan, open_acts, Options, Media, Opening, Open, Shut, Wanting, HasOpened, place_of, Tellers, account_of, Became, inner, medium_at, Ran, WentSmoothly, IsSmoothRun, blank-none, IsGiven, IsTaken, ShelfSight, first_names, kept_under, Kept, HasVolumes, NodeVolumes, all_left, all_taken, names_from, work_taken, zip-long, status_of, Sinking, ◌≡◌, ◌+◌, ◌≤◌, ◌==◌, ◌∙◌, nat_lt, ◌<◌, ◌++◌, ℕ, zero, suc, Bool, true, false, IsTrue, List, [], ◌∷◌, cond, length, map, Option, Some, None, Ok, slice_get, refl, ap, sym, subst, arith, if◌then◌else◌, count_by, false≢true, slice_get-get_or, other_plan, plan_fault, fault_in, node_at, IsFirstFault, pages_for, volumes_of_blank, is_missing, volume_name, IsNodes, working, ends-some, working-below, IsSmooth, EndRightly, GoOn, follows, goes_on}
use Rattle.std.proofs.lemmas.List.Sums.{sum_by-cons}
use Rattle.pseudo_time.specs.declared.nodes.NodeKind.{NodeKind}
use Rattle.pseudo_time.specs.declared.nodes.NodeKind.TheVariants.{Repository, Broker}
use Rattle.medium_port.specs.Image.{Image, IsBlankImage}
use Rattle.broker_core.specs.ResumeFault.{ResumeFault}
use Rattle.broker_core.specs.ResumeFault.TheVariants as resuming
use Rattle.plan_volumes.proofs.OrderLemmas.{at-place}
use Rattle.run_command.proofs.SmoothLemmas.{complete, none-down}
use Rattle.run_command.proofs.StandingLemmas.{none-open}
use Rattle.plan_volumes.proofs.PlaceLemmas.{node-given, node-there, volume-at, work-kept}
use Rattle.run_rounds.proofs.DealLemmas.{some-within}

-- the status of a complete run
pub complete-status : (most_ticks : ℕ) (plan : Plan) (t : Trace) → WentSmoothly most_ticks plan t → status_of plan t ≡ 0
complete-status most_ticks plan t c =
    ap (λ (d : Bool). if d then 6 else (if open_acts plan t == 0 then 0 else 5)) (none-down t.entries c.quiet)
    ∙ ap (λ (n : ℕ). if n == 0 then 0 else 5) (none-open _ c.acts)

-- an empty log refuses no plan
none-refused : (plan : Plan) (b : ℕ) → fault_in plan (broker b) [] ≡ None
unfolding keep book other_plan
none-refused plan b = by (nat_lt plan.run 0) (grind (arith, nat_tests)) (0 == plan.run)
  where
    by : (t : Bool) → t ≡ false → (u : Bool) → (if t then Some (resuming.OldRun 0) else (if u then plan_fault None else None)) ≡ None
    by true e u = absurd cc
    by false e true = refl
    by false e false = refl

-- ---- blank volumes

module _ {M : Type 0} (w : Media M) (tells : IsTrue w.tells) where
  -- behind volume 1 none follows where it holds an empty log
  none-behind : (kind : NodeKind) (x : Option M) (o : Opening M w) → HasOpened w x o → ((m : M) → x ≡ Some m → kind ≡ Repository → storage (w.reads m) ≡ Ok []) → goes_on kind 1 o ≡ true → ⊥
  none-behind Broker x (Open store effects) h blank goes = false≢true goes
  none-behind kind x (Shut medium cause) h blank goes = false≢true goes
  none-behind kind x (Wanting medium) h blank goes = false≢true goes
  none-behind Repository None (Open store effects) h blank goes = absurd h
  none-behind Repository (Some m) (Open store effects) h blank goes =
      let held : Ok effects.items ≡ Ok [] = sym (h.held tells) ∙ blank m refl refl in
      let none : effects.items ≡ [] = cc in
      let z : false ≡ true = subst (λ l. follows Repository 1 l ≡ true) none goes in
      false≢true z

  one-kind : (kind : NodeKind) (v : ℕ) (o : Opening M w) → goes_on kind v o ≡ true → 2 ≤ volumes_of_blank kind
  one-kind Repository v o goes = omega arith
  one-kind Broker v (Open store effects) goes = absurd (false≢true goes)
  one-kind Broker v (Shut medium cause) goes = absurd (false≢true goes)
  one-kind Broker v (Wanting medium) goes = absurd (false≢true goes)

  one-there : (kind : NodeKind) → 1 ≤ volumes_of_blank kind
  one-there Repository = omega arith
  one-there Broker = omega arith

  -- a node has few volumes where its volume 1 is blank
  few-volumes : (kind : NodeKind) (xs : List (Option M)) (os : List (Opening M w)) → AllZip (HasOpened w) xs os → EndRightly kind os → ((m : M) → slice_get xs 1 ≡ Some (Some m) → kind ≡ Repository → storage (w.reads m) ≡ Ok []) → length os ≤ volumes_of_blank kind
  few-volumes kind xs os zip ends blank = by ends.front ends.is ends.go_on
    where
      by : (front : List (Opening M w)) → os ≡ front ++ ends.last ∷ [] → GoOn kind 0 front → length os ≤ volumes_of_blank kind
      by [] is go = let l = ap length is in let k = one-there kind in omega (arith, l, k)
      by (a ∷ []) is go = let l = ap length is in let k = one-kind kind 0 a go.0 in omega (arith, l, k)
      by (a ∷ b ∷ front) is go = absurd (two xs (subst (AllZip (HasOpened w) xs) is zip) blank)
        where
          two : (xs : List (Option M)) → AllZip (HasOpened w) xs (a ∷ b ∷ front ++ ends.last ∷ []) → ((m : M) → slice_get xs 1 ≡ Some (Some m) → kind ≡ Repository → storage (w.reads m) ≡ Ok []) → ⊥
          two [] h blank = absurd h
          two (x ∷ []) h blank = absurd h.1
          two (x ∷ y ∷ xs) h blank = none-behind kind y b h.1.0 (λ m e. blank m (ap (λ (z : Option M). Some z) e)) go.1.0

module _ {M : Type 0} (w : Media M) (old new : ShelfSight) (plan : Plan) where
  none-missing : (media : List (Option M)) → count_by is_missing media ≡ 0 → Every (λ (x : Option M). (m : M) × (x ≡ Some m)) media
  none-missing [] none = tt
  none-missing (None ∷ media) none = absurd (let c = sum_by-cons (λ (y : Option M). cond (is_missing y) 1 0) None media in omega (arith, c, none))
  none-missing (Some m ∷ media) none = ((m, refl), none-missing media (let c = sum_by-cons (λ (y : Option M). cond (is_missing y) 1 0) (Some m) media in omega (arith, c, none)))

  inner-some : (o : Option (Option M)) (m : M) → inner o ≡ Some m → o ≡ Some (Some m)
  inner-some None m e = absurd cc
  inner-some (Some x) m e = ap (λ (y : Option M). Some y) e

  map-there : (volumes : List (NodeVolumes w)) (place : ℕ) (v : NodeVolumes w) → slice_get volumes place ≡ Some v → slice_get (map work_taken volumes) place ≡ Some (work_taken v)
  map-there [] place v e = absurd cc
  map-there (x ∷ volumes) zero v e = let is : x ≡ v = cc in ap (λ (y : NodeVolumes w). Some (work_taken y)) is
  map-there (x ∷ volumes) (suc place) v e = map-there volumes place v e

  every-there : (P : Option M → Type 0) (volumes : List (NodeVolumes w)) (place : ℕ) (v : NodeVolumes w) → Every P (all_taken volumes) → slice_get volumes place ≡ Some v → Every P v.taken
  every-there P [] place v h e = absurd cc
  every-there P (x ∷ volumes) zero v h e = let is : x ≡ v = cc in subst (λ (y : NodeVolumes w). Every P y.taken) is (front x.taken h)
    where
      front : (xs : List (Option M)) → Every P (xs ++ all_taken volumes) → Every P xs
      front [] h = tt
      front (y ∷ xs) h = (h.0, front xs h.1)
  every-there P (x ∷ volumes) (suc place) v h e = every-there P volumes place v (behind x.taken h) e
    where
      behind : (xs : List (Option M)) → Every P (xs ++ all_taken volumes) → Every P (all_taken volumes)
      behind [] h = h
      behind (y ∷ xs) h = behind xs h.1

  first-at : (n : NodeId) → in_plan plan n ≡ true → node_at plan (0 + place_of plan n) ≡ n
  first-at n is = let z : 0 + place_of plan n ≡ place_of plan n = omega arith in ap (node_at plan) z ∙ (at-place plan n is).1

  module _ (o : Options) (told : Tellers) (volumes : List (NodeVolumes w)) (left : List (Option M)) (kept : List (Kept M)) (has : HasVolumes w old new plan volumes left kept) (tells : IsTrue w.tells) where
    abbrev media : List (Option M)
    media = map work_taken volumes

    -- a node's volumes, of which a run was given one
    record IsAt (n : NodeId) (v : NodeVolumes w) : Type 0 where
      there : slice_get volumes (place_of plan n) ≡ Some v
      nodes : IsNodes w n v
      given : AllZip (IsGiven w old) (first_names n (length v.taken)) v.taken
      within : working v.openings < length v.taken

    at : (n : NodeId) → in_plan plan n ≡ true → (v : NodeVolumes w) × IsAt n v
    at n is =
        let p = at-place plan n is in
        let lt = p.0 in
        let full = has.count in
        let x = some-within volumes (place_of plan n) (omega (arith, lt, full)) in
        let v = x.0 in
        let nodes = subst (λ (k : NodeId). IsNodes w k v) (first-at n is) (node-there w plan 0 volumes (place_of plan n) v has.are x.1) in
        let long = zip-long (HasOpened w) v.taken v.openings nodes.opened in
        let below = working-below v.openings (ends-some n.kind v.openings nodes.ends) in (
          v,
          record {
            there = x.1;
            nodes = nodes;
            given = subst (λ (k : NodeId). AllZip (IsGiven w old) (first_names k (length v.taken)) v.taken) (first-at n is) (node-given w plan old 0 volumes (place_of plan n) v has.taken.are x.1);
            within = omega (arith, long, below);
          },
        )

    -- the volume of a node of the plan that the run was given, as it was taken
    medium-is : (n : NodeId) (v : NodeVolumes w) → IsAt n v → medium_at plan media n ≡ work_taken v
    medium-is n v h = ap inner (map-there volumes (place_of plan n) v h.there)

    got : (n : NodeId) (v : NodeVolumes w) (m : M) → IsAt n v → medium_at plan media n ≡ Some m → slice_get v.taken (working v.openings) ≡ Some (Some m)
    got n v m h e = slice_get-get_or v.taken (working v.openings) None h.within ∙ ap (λ (x : Option M). Some x) (sym (medium-is n v h) ∙ e)

    taken-of : (n : NodeId) (v : NodeVolumes w) (m : M) → IsAt n v → medium_at plan media n ≡ Some m → IsTaken w old (volume_name n (working v.openings)) m
    taken-of n v m h e = volume-at (IsGiven w old) n v.taken (working v.openings) (Some m) h.given (got n v m h e)

    module _ (t : Trace) (s : Sinking) (most : ℕ) (smooth : IsSmooth {M = M} w old new kept plan o (account_of t told) s most) where
      -- it is one of those that are blank
      low : (n : NodeId) (v : NodeVolumes w) → in_plan plan n ≡ true → IsAt n v → working v.openings < volumes_of_blank n.kind
      low n v is h =
          let few = few-volumes w tells n.kind v.taken v.openings h.nodes.opened h.nodes.ends (λ m e repository.
          let taken : IsTaken w old (volume_name n 1) m = volume-at (IsGiven w old) n v.taken 1 (Some m) h.given e in
          blank-none (w.reads m) (subst IsBlankImage (sym (taken.content tells).reads_same) (smooth.blank n 1 is (subst (λ kind. 1 < volumes_of_blank kind) (sym repository) (omega arith))))) in
          let within = h.within in
          let long = zip-long (HasOpened w) v.taken v.openings h.nodes.opened in
          omega (arith, few, within, long)

      blank-of : (n : NodeId) (m : M) → in_plan plan n ≡ true → medium_at plan media n ≡ Some m → IsBlankImage (w.reads m)
      blank-of n m is e =
          let v = at n is in
          subst IsBlankImage (sym ((taken-of n v.0 m v.1 e).content tells).reads_same) (smooth.blank n (working v.0.openings) is (low n v.0 is v.1))

      large-of : (n : NodeId) (m : M) → in_plan plan n ≡ true → medium_at plan media n ≡ Some m → pages_for plan most ≤ length (w.reads m)
      large-of n m is e =
          let v = at n is in
          subst (λ (image : Image). pages_for plan most ≤ length image) (sym ((taken-of n v.0 m v.1 e).content tells).reads_same) (smooth.large n (working v.0.openings) is (low n v.0 is v.1))

      -- no log refuses the plan
      pub unrefused : (fault : ResumeFault) → IsFirstFault w plan media left fault → ⊥
      unrefused fault first =
          let h = first.shown tells in
          let held : Ok [] ≡ Ok h.2 = sym (blank-none (w.reads h.0) (blank-of (broker first.which) h.0 first.within h.1)) ∙ h.3 in
          let none : h.2 ≡ [] = cc in
          let z : None ≡ Some fault = sym (none-refused plan first.which) ∙ (ap (fault_in plan (broker first.which)) (sym none) ∙ h.4) in
          cc z

      all-there : count_by is_missing (all_taken volumes) ≡ 0
      all-there = by (count_by is_missing (all_taken volumes)) has.taken.missing
        where
          by : (k : ℕ) → RoseBy k old.faults new.faults → k ≡ 0
          by zero r = refl
          by (suc k) r = absurd (smooth.shelf (rise_of_fewer 1 (suc k) old.faults new.faults (omega arith) r))

      had : (n : NodeId) → in_plan plan n ≡ true → (m : M) × (medium_at plan media n ≡ Some m)
      had n is =
          let v = at n is in
          let one = slice_get-get_or v.0.taken (working v.0.openings) None v.1.within in
          let m = every-get (λ (x : Option M). (m : M) × (x ≡ Some m)) v.0.taken (working v.0.openings) (work_taken v.0) (every-there _ volumes (place_of plan n) v.0 (none-missing (all_taken volumes) all-there) v.1.there) one in
          (m.0, medium-is n v.0 v.1 ∙ m.1)
        where
          every-get : (P : Option M → Type 0) (xs : List (Option M)) (i : ℕ) (x : Option M) → Every P xs → slice_get xs i ≡ Some x → P x
          every-get P [] i x h e = absurd cc
          every-get P (y ∷ xs) zero x h e = let is : y ≡ x = cc in subst P is h.0
          every-get P (y ∷ xs) (suc i) x h e = every-get P xs i x h.1 e

      kept-of : (n : NodeId) (v : NodeVolumes w) (m : M) → in_plan plan n ≡ true → IsAt n v → medium_at plan left n ≡ Some m → Has (record { node = n; volume = working v.openings; medium = m }) kept
      kept-of n v m is h e =
          let long = zip-long (HasOpened w) v.taken v.openings h.nodes.opened in
          let within = h.within in
          subst (Has (record { node = n; volume = working v.openings; medium = m })) (sym has.handed)
          (subst (λ (k : NodeId). Has (record { node = k; volume = working v.openings; medium = m }) (kept_under {M = M} (names_from plan 0 volumes) (all_left volumes left))) (first-at n is)
          (work-kept w plan volumes left (place_of plan n) v m has.are h.there (inner-some (slice_get left (place_of plan n)) m e) (omega (arith, long, within))))

      faultless : (n : NodeId) (m x : M) → in_plan plan n ≡ true → Became plan media left n m x → Rose (w.faults m) (w.faults x) → ⊥
      faultless n m x is became rose =
          let v = at n is in
          smooth.media n (working v.0.openings) x (kept-of n v.0 x is v.1 became.1) (subst (λ (k : ℕ). Rose k (w.faults x)) (taken-of n v.0 m v.1 became.0).count rose)

      smooth-run : IsSmoothRun w most o.messages plan t media left
      smooth-run = record {
        asks = smooth.asks;
        had = had;
        blank = λ n m is e. blank-of n m is e;
        faultless = faultless;
        large = λ n m is e. large-of n m is e;
        few = smooth.few;
        plain = smooth.plain;
      }

      pub over-smooth : CanRun plan → Ran w o.ticks o.messages plan (account_of t told) media left → WentSmoothly o.ticks plan t
      over-smooth language ran = complete w tells o.ticks o.messages most plan language (account_of t told) media left ran smooth-run

-- a smooth run is complete
pub run-complete : {M : Type 0} (w : Media M) (old new : ShelfSight) (plan : Plan) (language : CanRun plan) (o : Options) (told : Tellers) (volumes : List (NodeVolumes w)) (left : List (Option M)) (kept : List (Kept M)) → HasVolumes w old new plan volumes left kept → IsTrue w.tells
    → (t : Trace) → Ran w o.ticks o.messages plan (account_of t told) (map work_taken volumes) left → (s : Sinking) (most : ℕ) → IsSmooth {M = M} w old new kept plan o (account_of t told) s most → WentSmoothly o.ticks plan t
run-complete w old new plan language o told volumes left kept has tells t ran s most smooth = over-smooth w old new plan o told volumes left kept has tells t s most smooth language ran
