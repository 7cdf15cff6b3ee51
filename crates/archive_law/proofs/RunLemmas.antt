-- The archive at the end of a run tells the map that the run's committed scripts leave, each carried out alone.
use Rattle.archive_law.proofs.Names.{repository, StampParts, NodeId, Effect, Asked, Plan, CanRun, Trace, before, base_of, in_plan, alike, own_reading, IsLegal, WereLeftOrRetired, replaced, sent_earlier, whole_log, archive, TellsMap, ◌≡◌, ℕ, nat_le, true, ◌&&◌, List, [], ◌∷◌, ◌++◌, map, reverse, refl, sym, ◌∙◌, ap, subst, reverse-reverse, Try, OpenedWith, gated_log, sent_by, logs_at, volumes_with}
use Rattle.serial_law.specs.Runs.{Position, TickedBefore, log_at, olds_at, run_at, sent_before, whole_at, world_at}
use Rattle.serial_law.specs.Serials.{run_in, whole_in}
use Rattle.serial_law.proofs.SameRuns.{before-same}
use Rattle.serial_law.proofs.SerialRuns.{Placed, placed}
use Rattle.serial_law.proofs.Traces.{place-facts, place-serial-facts}
use Rattle.archive_law.proofs.IdleLemmas.{archives}
use Rattle.archive_law.proofs.MapLemmas.{tells-map}

-- ---- a place of a trace

module _ (p : Position) (r : ℕ) where
  abbrev volumes_at : List (List Effect)
  volumes_at = reverse (replaced (alike p.script) p.past.0 (repository r)) ++ logs_at p.logs (world_at p) (repository r) ∷ []

  place-tells : in_plan p.plan (repository r) ≡ true → (s : StampParts) → TellsMap r (archive volumes_at) s (before (whole_at p) s)
  place-tells inside s =
      tells-map (whole_at p) (sent_before p) (place-serial-facts p) r (archive volumes_at)
      (archives p.script (base_of p.script p.plan p.trace) (logs_at p.logs (world_at p)) (replaced (alike p.script) p.past.0) (sent_earlier (alike p.script) p.past.0) (sent_by (world_at p)) (TickedBefore p) (place-facts p)
      (whole_at p) r inside refl) s

-- ---- the end of a run

pub run-tells : (plan : Plan) (asked : List Asked) (t : Trace) (logs : NodeId → List Effect) (left : WereLeftOrRetired logs) (r : ℕ) (s : StampParts) → CanRun plan → IsLegal plan asked t → OpenedWith t.opened logs →
    in_plan plan (repository r) ≡ true → TellsMap r (archive (volumes_with left.0 r (gated_log plan t (repository r)))) s (before (whole_in left.0 plan t) s)
run-tells plan asked t logs left r s whole legal agrees inside =
    let k : Placed plan t left.0 = placed plan asked t whole legal logs left agrees in
    by k (place-tells k.place r (subst (λ n. (nat_le 1 r && nat_le r n) ≡ true) (sym k.repositories) inside) s)
  where
    by : (k : Placed plan t left.0) → TellsMap r (archive (volumes_at k.place r)) s (before (whole_at k.place) s) → TellsMap r (archive (volumes_with left.0 r (gated_log plan t (repository r)))) s (before (whole_in left.0 plan t) s)
    by k h = subst (λ vs. TellsMap r (archive vs) s (before (whole_in left.0 plan t) s)) volumes-same (subst (TellsMap r (archive (volumes_at k.place r)) s) map-same h)
      where
        unturn : (xs ys : List (List Effect)) → map reverse xs ≡ map reverse ys → xs ≡ ys
        unturn xs ys e = sym (twice xs) ∙ ap (map reverse) e ∙ twice ys
          where
            twice : (zs : List (List Effect)) → map reverse (map reverse zs) ≡ zs
            twice [] = refl
            twice (z ∷ zs) = λ i. reverse-reverse z i ∷ twice zs i

        log-same : logs_at k.place.logs (world_at k.place) (repository r) ≡ gated_log plan t (repository r)
        log-same = sym (reverse-reverse (logs_at k.place.logs (world_at k.place) (repository r))) ∙ ap reverse (k.logs r inside) ∙ reverse-reverse (gated_log plan t (repository r))

        volumes-same : volumes_at k.place r ≡ volumes_with left.0 r (gated_log plan t (repository r))
        volumes-same = λ i. reverse ((unturn (replaced (alike k.place.script) k.place.past.0 (repository r)) (replaced own_reading left.0 (repository r)) (k.olds (repository r))) i) ++ log-same i ∷ []

        wholes : NodeId → List Effect
        wholes n = whole_log (olds_at k.place n) (log_at k.place n)

        to-run : (Q : ℕ → List Try → Type 0) → Q k.place.plan.repositories (run_at k.place).tries → Q plan.repositories (run_in plan t).tries
        to-run Q q = subst (λ ts. Q plan.repositories ts) k.tries (subst (λ n. Q n (run_at k.place).tries) k.repositories q)

        map-same : before (whole_at k.place) s ≡ before (whole_in left.0 plan t) s
        map-same =
            to-run (λ n ts. before (whole_at k.place) s ≡ before (record { repositories = n; logs = λ m. whole_log (olds_at k.place m) (log_at k.place m); tries = ts }) s) refl
            ∙ before-same plan.repositories (λ m. whole_log (olds_at k.place m) (log_at k.place m)) (whole_in left.0 plan t).logs (run_in plan t).tries
            (λ q i j. whole_log (k.olds (repository q) j) (k.logs q i j)) s
