-- What is read of a session's input.
use Rattle.std.specs.Prelude.{◌≡◌, ℕ, ◌+◌, ◌-◌, Bool, true, false, List, [], ◌∷◌, ◌++◌, length, Option, Result, Ok, Err}
use Rattle.std.specs.Io.KnownBytes.{Consumes, IsAtEnd, prepend_known}
use Rattle.plan_form.specs.declared.plans.Plan.{Plan}
use Rattle.plan_form.specs.PlanFaults.{IsPlanFault}
use Rattle.plan_form.specs.Plans.{IsPlan}
use Rattle.session_form.specs.Sessions.{IsBatch, IsHead, IsHeadFault, IsRest, batch_text, counted, ended}
use Rattle.run_command.specs.declared.stops.Stop.{Stop}
use Rattle.run_command.specs.declared.stops.Stop.TheVariants as stop
use Rattle.session_command.specs.Ahead.{ahead}
use Rattle.session_command.specs.Kept.{AreIdle, IsKept}
use Rattle.session_command.specs.Texts.{BeginsWith, own}
use Rattle.session_command.specs.declared.inputs.Next.{Next}
use Rattle.session_command.specs.declared.inputs.Next.TheVariants.{Batch, Ended, Cut}
use Rattle.session_command.specs.declared.inputs.SessionInput.{SessionInput}

-- the head is a plan without a batch, or is faulty at a line of the session
abbrev pub IsJudged : List ℕ → Result (Unit {0}) Stop → Type 0
IsJudged head (Ok u) = (plan : Plan) × IsPlan head plan
IsJudged head (Err (stop.Fault line what)) = (at : ℕ) × IsPlanFault head at what × (line ≡ at - 1)
IsJudged head (Err stop.NoMemory) = Unit {0}
IsJudged head (Err stop.Source) = ⊥
IsJudged head (Err stop.Words) = ⊥
IsJudged head (Err (stop.Votes line)) = ⊥
IsJudged head (Err stop.Sink) = ⊥

-- a head was read, or the input begins with a faulty one
abbrev pub HasHead : (old new : Option (List ℕ)) → Result SessionInput Stop → Type 0
HasHead old new (Ok s) =
    (head repositories brokers : List ℕ) × IsHead head repositories brokers × Consumes old (prepend_known (ahead s.reader) new) head × (s.head.items ≡ batch_text repositories brokers []) × (s.lines ≡ 3)
HasHead old new (Err (stop.Fault line what)) = (text : List ℕ) × BeginsWith old text × IsHeadFault text line what
HasHead old new (Err stop.NoMemory) = Unit {0}
HasHead old new (Err stop.Source) = Unit {0}
HasHead old new (Err stop.Words) = ⊥
HasHead old new (Err (stop.Votes line)) = ⊥
HasHead old new (Err stop.Sink) = ⊥

-- what is next at the end of an input after so many lines, idle ones alone or not, and a last one without its end
abbrev pub EndsIn : (lines : ℕ) → (idle : Bool) → (last : List ℕ) → Next → Type 0
EndsIn lines idle last Ended = idle ≡ true
EndsIn lines idle last (Cut line) = (idle ≡ false) × (line ≡ counted (lines + (own last + 1)))
EndsIn lines idle last (Batch text) = ⊥

module _ (old new : Option (List ℕ)) (head : List ℕ) (before lines : ℕ) where
  -- all that was left was read: these lines, without a `go`
  pub record HasEnded (ls : List (List ℕ)) (last : List ℕ) : Type 0 where
    pub rest : List ℕ
    pub is : IsRest rest ls last
    pub all : Consumes old new rest
    pub end : IsAtEnd new

  -- a batch was read, after this head; or the input ended
  abbrev pub HasRead : Next → Type 0
  HasRead (Batch text) =
      (front : List ℕ) × (batch : List (List ℕ)) × IsBatch front batch × Consumes old new front × IsKept text.items (head ++ ended batch) × (lines ≡ counted (before + (length batch + 1)))
  HasRead Ended = (ls : List (List ℕ)) × (last : List ℕ) × HasEnded ls last × AreIdle (ls ++ last ∷ [])
  HasRead (Cut line) = (ls : List (List ℕ)) × (last : List ℕ) × HasEnded ls last × (AreIdle (ls ++ last ∷ []) → ⊥) × (line ≡ counted (before + (length ls + (own last + 1))))
