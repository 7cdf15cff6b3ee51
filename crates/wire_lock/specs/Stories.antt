-- Closed traces, and what is known of a whole story.
use Rattle.std.specs.Prelude.{◌≡◌, ◌<◌, ℕ, ◌^◌, Bool, List, [], ◌++◌, map, Option, IsTrue, All}
use Rattle.pseudo_time.specs.Lists.{Every}
use Rattle.stream_port.specs.declared.fates.Asked.{Asked}
use Rattle.plan_form.specs.declared.plans.Plan.{Plan}
use Rattle.world_core.specs.declared.traces.Trace.{Trace}
use Rattle.world_core.specs.Walks.{World, sent_by, walk}
use Rattle.world_core.specs.Legal.{Numbered, post_of, asked_of}
use Rattle.world_core.specs.Readings.{IsLegal}
use Rattle.wire_core.specs.Wires.{Origin, IsRunOf, WireParts, base_from}
use Rattle.wire_core.specs.Clocked.{IsClocked, tick_moments}
use Rattle.wire_core.specs.Learns.{LearnsAreNew}
use Rattle.atomic_table.specs.declared.shared.Seat.{Seat}
use Rattle.seat_lock.specs.declared.views.View.{View}
use Rattle.seat_lock.specs.Rule.{IsOneOf}
use Rattle.seat_lock.specs.Words.{CarriesOn, knows}
use Rattle.world_core.specs.declared.entries.Entry.{Entry}
use Rattle.wire_core.specs.Boards.{owner_of}
use Rattle.wire_lock.specs.Sights.{owners_for}

-- the trace of no run
abbrev pub no_trace : Trace
no_trace = record { start = 0; opened = []; sent = []; entries = [] }

-- where the entries of a trace lead to, in a run with this origin
abbrev pub end_of : Origin → Trace → World
end_of o t = walk (base_from o) t.entries

-- The trace is one of a wire with this origin that closed whole, with the fates that were ever asked for and the clock's answers.
pub record IsWhole (told : Bool) (o : Origin) (t : Trace) (asked : List Asked) (answers : Option (List ℕ)) : Type 0 where
  pub start : t.start ≡ o.start
  pub opened : t.opened ≡ o.opened
  pub numbers : Numbered 1 t.sent
  pub moments : Every (λ moment. moment < 2 ^ 63) (tick_moments t.entries)
  pub fates : asked ≡ o.asked ++ map asked_of t.sent
  pub clock : IsClocked o.answers answers o.start t.entries
  -- where media tell their content
  pub sent : IsTrue told → map post_of t.sent ≡ sent_by (end_of o t)
  pub legal : IsTrue told → (plan : Plan) → IsRunOf plan o → IsLegal plan asked t
  pub learns : IsTrue told → LearnsAreNew (base_from o) t.entries

-- The trace of a wire with this origin that is reported to no one, since memory ran out. Where media tell their content it is legal, with the fates that were asked for its
-- messages.
pub record IsUntold (told : Bool) (o : Origin) (t : Trace) : Type 0 where
  pub start : t.start ≡ o.start
  pub opened : t.opened ≡ o.opened
  pub sent : IsTrue told → map post_of t.sent ≡ sent_by (end_of o t)
  pub legal : IsTrue told → (plan : Plan) → IsRunOf plan o → IsLegal plan (o.asked ++ map asked_of t.sent) t

-- There is such a trace: it goes on from what each pass has seen, and each of its entries has an owner of the run.
abbrev pub LeavesUntold : (told : Bool) (o : Origin) (passes : List (Seat WireParts (View WireParts Entry))) → Type 0
LeavesUntold told o passes =
    (t : Trace) × IsUntold told o t × All (λ pass. CarriesOn owner_of (knows pass) t.entries) passes × All (λ e. IsOneOf (owners_for o.opened) (owner_of e)) t.entries
