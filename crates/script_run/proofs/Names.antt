-- The names that the proofs of this crate cite, passed on from one place. Declares nothing.
pub use Rattle.script_meaning.specs.Meaning.{Answer, Asks, Came, Course, Goes, Got, Over, Request, State, Stops, Stored, ToRead, ToWrite, all_done, answers_of, begun, by_answers, condition, count, done, got_from, object_at, read_of, stored_from, talk, then_do, turns, value, valued, write_of}
pub use Rattle.script_meaning.specs.Names.{Names, with_name}
pub use Rattle.script_run.specs.Machines.{ArrivesAt, HasStopped, SameAhead, arrival_of, counted, stand_of}
pub use Rattle.script_run.specs.RunParts.{RunParts, Tells, answered, stop_of}
pub use Rattle.script_run.specs.Standings.{Again, More, Standing, ahead, either_part, entered_in, further, goes_to, inner, last_value, named, part_of, resume, shown_in, state_of, then_come, value_shown}
pub use Rattle.script_run.specs.Steps.{Arrival, AtEnd, AtRead, AtWrite, Onward, at_end, begun_at, chosen, chosen_part, counted_at, into_part, left_by, left_from, on_value, past, repeated, repeating, step, step_at, turns_in, weight}
pub use Rattle.script_run.specs.declared.frames.Frame.{Frame}
pub use Rattle.script_run.specs.declared.frames.Part.{Part}
pub use Rattle.script_run.specs.declared.halts.Halt.{Halt}
pub use Rattle.std.proofs.Common.{Bool, Err, List, None, Ok, Option, Result, Some, [], ap, append-nil, append_assoc, arith, drop, false, length, length-append, refl, subst, suc, sym, take, true, zero, ℕ, ⊎_elim, ◌++◌, ◌+◌, ◌-◌, ◌<◌, ◌∙◌, ◌∷◌, ◌≡◌, ◌≢◌, ◌≤◌}
pub use Rattle.std.specs.Prelude.{if◌then◌else◌, nat_le, negsuc, option_copied, pos, reverse, slice_get}
pub use Rattle.value_form.specs.Mirror.{Term, block, plain, spot, term}
pub use Rattle.value_form.specs.MirrorLaws.{plain-out, shape}
pub use Rattle.value_form.specs.declared.fail_kinds.FailKind.{FailKind}
pub use Rattle.value_form.specs.declared.objects.ObjectId.{ObjectId}
pub use Rattle.value_form.specs.declared.scripts.Stmt.{Stmt, out-Stmt}
pub use Rattle.value_form.specs.declared.scripts.Stmt.TheOpen.{Stmt-F}
pub use Rattle.value_form.specs.declared.transcripts.Line.{Line}
pub use Rattle.value_form.specs.declared.values.Value.{Value}
