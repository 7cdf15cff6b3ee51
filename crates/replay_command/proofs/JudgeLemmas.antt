-- What logs come to, by what is told of them.
use Rattle.std.proofs.Common.{◌≡◌, inl, inr, ℕ, List, sym, subst, Option}
use Rattle.std.specs.Prelude.{IfOk, Result, Ok, Err}
use Rattle.pseudo_time.specs.StampParts.{StampParts}
use Rattle.value_form.specs.Objects.{Objects}
use Rattle.effect_form.specs.declared.effects.Effect.{Effect}
use Rattle.serial_model.specs.Questions.{Tree}
use Rattle.script_replay.specs.declared.attempts.Told.{Told}
use Rattle.script_replay.specs.declared.replays.Differs.{Differs}
use Rattle.log_replay.specs.Decisions.{HaveLogs, IsFirstMisdecided}
use Rattle.log_replay.specs.Folders.{ReadsLogs, run_in}
use Rattle.log_replay.specs.Unfit.{IsFault, IsUnfitLog}
use Rattle.log_replay.specs.Untold.{Tells}
use Rattle.log_replay.specs.declared.faults.ToldFault.TheVariants.{Log}
use Rattle.replay_command.specs.Verdicts.{IsJudged, IsVerdict, Judges, other_of}
use Rattle.replay_command.specs.declared.judging.Found.{Found}
use Rattle.replay_command.specs.declared.judging.Verdict.{Verdict}
use Rattle.replay_command.specs.declared.judging.Verdict.TheVariants as verdict

pub ok-map : {A E : Type 0} (P Q : A → Type 0) (r : Result A E) → ((v : A) → P v → Q v) → IfOk r P → IfOk r Q
ok-map P Q (Ok v) f h = f v h
ok-map P Q (Err e) f h = tt

no-log : (told : List Told) (r : Result Objects Differs) (other : Option Found) (n : ℕ) → IsVerdict told r other (verdict.Log n) → ⊥
no-log told (Ok m) other n h = h
no-log told (Err d) other n h = h

module _ (repositories brokers : List (List Effect)) (told : List Told) (untried misdecided : Option StampParts)
    (tells : (script : List ℕ → Tree) → ReadsLogs script brokers → Tells (run_in script repositories brokers) told untried)
    (decided : (k : _) → HaveLogs k repositories → IsFirstMisdecided k misdecided) where
  pub judged-of : (v : Verdict) → IsJudged told untried misdecided v → Judges repositories brokers v
  judged-of (verdict.Replayed list map) j = record { told = told; untried = untried; misdecided = misdecided; tells = tells; decided = decided; judged = j }
  judged-of (verdict.Differs found) j = record { told = told; untried = untried; misdecided = misdecided; tells = tells; decided = decided; judged = j }
  judged-of (verdict.Log n) j = absurd (no-log told j.replayed (other_of misdecided untried) n j.is)

pub unfit-of : (brokers : List (List Effect)) (n : ℕ) → IsFault brokers (Log n) → IsUnfitLog brokers n
unfit-of brokers n (inl e) = absurd (cc e)
unfit-of brokers n (inr w) = let e = w.1 in let q : n ≡ w.0 = cc e in subst (IsUnfitLog brokers) (sym q) w.2
