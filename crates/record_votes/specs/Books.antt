-- What a member keeps of its log.
use Rattle.std.specs.Prelude.{ℕ, List, [], ◌∷◌}
use Rattle.pseudo_time.specs.StampParts.{StampParts}
use Rattle.pseudo_time.specs.declared.decisions.Decision.{Decision}
use Rattle.effect_form.specs.declared.effects.Effect.{Effect}
use Rattle.commit_record.specs.States.{States, settled}
use Rattle.message_form.specs.declared.turns.Turn.{Turn}
use Rattle.repository_log.specs.Opening.{AreRecords, AreEarly}
use Rattle.record_votes.specs.Members.{Given}

-- A member, as callers see it: its number, its log, oldest first, and the last moment that it heard.
pub record MemberState : Type 0 where
  pub number : ℕ
  pub log : List Effect
  pub moment : ℕ

-- each record is that of the log, newest first; and of a stamp that hasn't begun the first decision, if any, is kept
pub record IsBook (log : List Effect) (records : States) (early : List (StampParts × Decision)) : Type 0 where
  pub recorded : AreRecords log records
  pub remembered : AreEarly log early

abbrev pub given : Turn → Given
given t = record { effects = t.effects; outs = t.outs }

-- the records once each of these is decided, if it is unknown
abbrev pub settled_all : States → List (StampParts × Decision) → States
settled_all r [] = r
settled_all r (e ∷ es) = settled_all (settled r e.0 e.1) es
