-- A batch is above the logs with which its nodes were opened.
use Rattle.std.proofs.Common.{◌≡◌, ◌+◌, ◌<◌, ◌≤◌, ◌∙◌, ℕ, zero, suc, IsTrue, true, List, [], ◌∷◌, arith, refl, subst, sym}
use Rattle.std.specs.Prelude.{Option, Some, None, Ok, Result, slice_get}
use Rattle.std.specs.List.{AllZip}
use Rattle.pseudo_time.specs.Lists.{Every}
use Rattle.effect_form.specs.declared.effects.Effect.{Effect}
use Rattle.plan_form.specs.declared.plans.Plan.{Plan}
use Rattle.version_store.specs.Storage.{storage}
use Rattle.plan_volumes.specs.Media.{Media}
use Rattle.plan_volumes.specs.Opening.{Opening}
use Rattle.plan_volumes.specs.Opening.TheVariants.{Open, Shut, Wanting}
use Rattle.plan_volumes.specs.Openings.{HasOpened, IsOpen, log_in}
use Rattle.plan_volumes.specs.Places.{place_of}
use Rattle.run_rounds.specs.Media.{RestoresLogs, inner}
use Rattle.session_form.specs.Heights.{Covers}
use Rattle.session_command.specs.Above.{reached}
use Rattle.session_command.specs.Laws.{CoversOpened}
use Rattle.session_command.proofs.HeightLemmas.{all-covered}
use Rattle.world_core.specs.declared.traces.Trace.{Trace}

inner-some : {M : Type 0} (x : Option (Option M)) (m : M) → inner x ≡ Some m → x ≡ Some (Some m)
inner-some None m e = absurd (cc e)
inner-some (Some None) m e = absurd (cc e)
inner-some (Some (Some y)) m e = cc e

same-log : {E : Type 0} (a b : List Effect) → ◌≡◌ {A = Result (List Effect) E} (Ok a) (Ok b) → a ≡ b
same-log a b e = cc e

module _ {M : Type 0} (w : Media M) where
  -- what was taken and opened at one place
  zip-at : (media : List (Option M)) (os : List (Opening M w)) → AllZip (HasOpened w) media os → (i : ℕ) (m : M) (o : Opening M w) → slice_get media i ≡ Some (Some m) → slice_get os i ≡ Some o → HasOpened w (Some m) o
  zip-at [] [] z i m o a b = absurd (cc a)
  zip-at [] (p ∷ os) z i m o a b = absurd z
  zip-at (x ∷ media) [] z i m o a b = absurd z
  zip-at (x ∷ media) (p ∷ os) z zero m o a b = let e : x ≡ Some m = cc a in let f : p ≡ o = cc b in subst (λ q. HasOpened w (Some m) q) f (subst (λ y. HasOpened w y p) e z.0)
  zip-at (x ∷ media) (p ∷ os) z (suc i) m o a b = zip-at media os z.1 i m o a b

  every-at : (P : Opening M w → Type 0) (os : List (Opening M w)) → Every P os → (i : ℕ) (o : Opening M w) → slice_get os i ≡ Some o → P o
  every-at P [] e i o a = absurd (cc a)
  every-at P (p ∷ os) e zero o a = let f : p ≡ o = cc a in subst P f e.0
  every-at P (p ∷ os) e (suc i) o a = every-at P os e.1 i o a

  its-log : IsTrue w.tells → (old : M) (o : Opening M w) (log : List Effect) → IsOpen o → HasOpened w (Some old) o → storage (w.reads old) ≡ Ok log → log ≡ log_in o
  its-log tells old (Open store effects) log opened h e = same-log log effects.items (sym e ∙ h.held tells)
  its-log tells old (Shut medium cause) log opened h e = absurd opened
  its-log tells old (Wanting medium) log opened h e = absurd opened

  pub covers-opened : (plan : Plan) (media left : List (Option M)) (os : List (Opening M w)) (t : Trace) → IsTrue w.tells → AllZip (HasOpened w) media os → RestoresLogs w media left plan t → CoversOpened plan os t
  covers-opened plan media left os t tells z logs n o log within was at opened is =
      let r = logs.opened n within was in
      let old = r.0 in
      let place = place_of plan n in
      let there = inner-some (slice_get media place) old r.2.0 in
      let held = (r.3 tells).opened log is in
      let same = its-log tells old o log opened (zip-at media os z place old o there at) held in
      subst (Covers (reached os)) (sym same) (every-at (λ (p : Opening M w). Covers (reached os) (log_in p)) os (all-covered os) place o at)
