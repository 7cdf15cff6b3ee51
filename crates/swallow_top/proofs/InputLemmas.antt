-- What was read of an input says what the input is.
use Rattle.std.proofs.Common.{ℕ, ◌≤◌, ◌<◌, ◌≡◌, inl, inr, List, ◌++◌, length, None, Some, Ok, Err, sym, ap, ◌∙◌, subst, arith, append-nil}
use Rattle.swallow_top.proofs.Names.{Option, Result, Vec, Consumes, IsAtEnd, length-append, IsPlanFault, Plan, IsPlan, Stop, OfInput, IsReadAs, ReadsPlan, AreReadAs, ReadsPolls, IsInputFault, IsInput, PollLine, Global}
use Rattle.plan_form.specs.declared.plan_faults.PlanKind.{PlanKind}
use Rattle.plan_form.specs.declared.plan_faults.PlanKind.TheVariants as kind
use Rattle.run_command.specs.declared.stops.Stop.TheVariants as stop

-- all of the input was read
pub of_whole : (left new : Option (List ℕ)) (bytes : List ℕ) (P : List ℕ → Type 0) → Consumes left new bytes → IsAtEnd new → P bytes → OfInput left P
of_whole None new bytes P read ended h = (bytes, h)
of_whole (Some input) None bytes P read ended h = absurd read
of_whole (Some input) (Some rest) bytes P read ended h = subst P (sym (read ∙ ap (λ z. bytes ++ z) ended ∙ append-nil bytes)) h

too_long : (left new : Option (List ℕ)) (bytes : List ℕ) (line : ℕ) → Consumes left new bytes → IsPlanFault bytes line kind.Size → OfInput left (λ input. IsPlanFault input line kind.Size)
too_long None new bytes line read h = (bytes, h)
too_long (Some input) None bytes line read h = absurd read
too_long (Some input) (Some rest) bytes line read h =
    (h.0, let size = ap length read ∙ length-append bytes rest in let long = h.1 in omega arith)

-- where the bytes aren't too long they are the whole input
pub of_fault : (left new : Option (List ℕ)) (bytes : List ℕ) (line : ℕ) (what : PlanKind) → Consumes left new bytes → (length bytes ≤ 4194304 → IsAtEnd new) → IsPlanFault bytes line what → OfInput left (λ input. IsPlanFault input line what)
of_fault left new bytes line kind.Size read ended h = too_long left new bytes line read h
of_fault left new bytes line kind.Header read ended h = of_whole left new bytes (λ input. IsPlanFault input line kind.Header) read (ended h.0) h
of_fault left new bytes line kind.Run read ended h = of_whole left new bytes (λ input. IsPlanFault input line kind.Run) read (ended h.0) h
of_fault left new bytes line kind.Repositories read ended h = of_whole left new bytes (λ input. IsPlanFault input line kind.Repositories) read (ended h.0) h
of_fault left new bytes line kind.Brokers read ended h = of_whole left new bytes (λ input. IsPlanFault input line kind.Brokers) read (ended h.0) h
of_fault left new bytes line kind.Act read ended h = of_whole left new bytes (λ input. IsPlanFault input line kind.Act) read (ended h.0) h
of_fault left new bytes line kind.Acts read ended h = of_whole left new bytes (λ input. IsPlanFault input line kind.Acts) read (ended h.0) h
of_fault left new bytes line (kind.Script s) read ended h = of_whole left new bytes (λ input. IsPlanFault input line (kind.Script s)) read (ended h.0) h
of_fault left new bytes line kind.End read ended h = of_whole left new bytes (λ input. IsPlanFault input line kind.End) read (ended h.0) h

-- what the bytes are is what the input is
pub reads-plan : (left new : Option (List ℕ)) (before after : ℕ) (bytes : List ℕ) (r : Result Plan Stop) → Consumes left new bytes → (length bytes ≤ 4194304 → IsAtEnd new) → IsReadAs bytes r → ReadsPlan left new before after r
reads-plan left new before after bytes (Ok plan) read ended h = (of_whole left new bytes (λ input. IsPlan input plan) read (ended h.0) h, ended h.0)
reads-plan left new before after bytes (Err (stop.Fault line what)) read ended h = of_fault left new bytes line what read ended h
reads-plan left new before after bytes (Err stop.NoMemory) read ended h = tt
reads-plan left new before after bytes (Err stop.Source) read ended h = absurd h
reads-plan left new before after bytes (Err stop.Words) read ended h = absurd h
reads-plan left new before after bytes (Err (stop.Votes line)) read ended h = absurd h
reads-plan left new before after bytes (Err stop.Sink) read ended h = absurd h

too_many : (left new : Option (List ℕ)) (bytes : List ℕ) (line : ℕ) → Consumes left new bytes → (4194304 < length bytes) × (line ≡ 0) → OfInput left (λ input. IsInputFault input line)
too_many None new bytes line read h = (bytes, inl h)
too_many (Some input) None bytes line read h = absurd read
too_many (Some input) (Some rest) bytes line read h = inl (let size = ap length read ∙ length-append bytes rest in let long = h.0 in omega arith, h.1)

of_votes-fault : (left new : Option (List ℕ)) (bytes : List ℕ) (line : ℕ) → Consumes left new bytes → (length bytes ≤ 4194304 → IsAtEnd new) → IsInputFault bytes line → OfInput left (λ input. IsInputFault input line)
of_votes-fault left new bytes line read ended (inl h) = too_many left new bytes line read h
of_votes-fault left new bytes line read ended (inr h) = of_whole left new bytes (λ input. IsInputFault input line) read (ended h.0) (inr h)

pub reads-polls : (left new : Option (List ℕ)) (before after : ℕ) (bytes : List ℕ) (r : Result (Vec PollLine Global) Stop) → Consumes left new bytes → (length bytes ≤ 4194304 → IsAtEnd new) → AreReadAs bytes r → ReadsPolls left new before after r
reads-polls left new before after bytes (Ok polls) read ended h = (of_whole left new bytes (λ input. IsInput input polls.items) read (ended h.0) h, ended h.0)
reads-polls left new before after bytes (Err (stop.Votes line)) read ended h = of_votes-fault left new bytes line read ended h
reads-polls left new before after bytes (Err stop.NoMemory) read ended h = tt
reads-polls left new before after bytes (Err (stop.Fault line what)) read ended h = absurd h
reads-polls left new before after bytes (Err stop.Source) read ended h = absurd h
reads-polls left new before after bytes (Err stop.Words) read ended h = absurd h
reads-polls left new before after bytes (Err stop.Sink) read ended h = absurd h

-- what holds of the input with something more
pub of_input-with : (left : Option (List ℕ)) (P Q : List ℕ → Type 0) → ((input : List ℕ) → P input → Q input) → OfInput left P → OfInput left Q
of_input-with None P Q f h = (h.0, f h.0 h.1)
of_input-with (Some input) P Q f h = f input h

-- and what doesn't depend on it
pub of_input-all : (left : Option (List ℕ)) (P : List ℕ → Type 0) (Q : Type 0) → ((input : List ℕ) → P input → Q) → OfInput left P → Q
of_input-all None P Q f h = f h.0 h.1
of_input-all (Some input) P Q f h = f input h
