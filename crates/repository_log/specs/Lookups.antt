-- What is looked up beside a log, in place of reading it. Logs stand newest first.
use Rattle.std.specs.Prelude.{◌≡◌, Bool, List, Option, Some, None}
use Rattle.std.specs.FinMap as finite
use Rattle.std.specs.Option.{option_map}
use Rattle.pseudo_time.specs.StampParts.{StampParts}
use Rattle.pseudo_time.specs.declared.decisions.Decision.{Decision}
use Rattle.effect_form.specs.declared.effects.Effect.{Effect}
use Rattle.commit_record.specs.declared.states.RecordState.{RecordState}
use Rattle.commit_record.specs.declared.states.RecordState.TheVariants as state
use Rattle.commit_record.specs.States.{States, listed_at, settled}
use Rattle.object_history.specs.declared.marks.Mark.{Mark}
use Rattle.repository_log.specs.Logs.{marks, known, first_begin, decision_of, as_decision, record_of}

abbrev pub early_or : Option Decision → Option Bool → Option Decision
early_or (Some d) c = Some d
early_or None c = option_map as_decision c

-- the record of an attempt, or the decision by which it expires in this hearing
abbrev pub pending_or : Option Decision → Option RecordState → Option RecordState
pending_or None r = r
pending_or (Some d) r = Some (state.Decided d)

-- The content of the histories is that of the log; each commit record is that of the log, but for those that expire in this
-- hearing and aren't noted yet; and of an attempt that hasn't begun the decision, if any, is the one that is kept for it, or
-- what the histories know.
pub record BooksShow (pending : List (StampParts × Decision)) (log : List Effect) (content : List Mark) (records : States) (early : List (StampParts × Decision)) : Type 0 where
  pub marked : content ≡ marks log
  pub recorded : (s : StampParts) → finite.get records s ≡ pending_or (listed_at pending s) (record_of log s)
  pub remembered : (s : StampParts) → first_begin log s ≡ None → decision_of log s ≡ early_or (listed_at early s) (known log s)

-- a record that just began is decided, if its attempt was decided before
abbrev pub restored : Option Decision → States → StampParts → States
restored None records s = records
restored (Some d) records s = settled records s d
