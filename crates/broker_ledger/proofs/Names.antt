-- The names that the proofs of this crate cite, passed on from one place. Declares nothing.
pub use Rattle.broker_ledger.specs.Book.{Act, Book, Try, close, enter, finish, front, gain, if_open, last_try, new_try, on_act, on_front, on_try, open_front, open_of, open_try, tries_of}
unfoldable pub use Rattle.broker_ledger.specs.Book.{book}
pub use Rattle.broker_ledger.specs.Fits.{add_if, all_over, another, calls_again, counts, first_some, fits, fits_acked, fits_end, fits_got, fits_outcome, fits_spent, fits_try, has_ended, is_none, may_follow, outcome_by, reads_now, rests, stop_of, unfit_act, writes_now}
unfoldable pub use Rattle.broker_ledger.specs.Fits.{keep, other_plan}
pub use Rattle.broker_ledger.specs.Ledgers.{AreNotes, IsAskedFor, IsLedger, LedgerParts, MayAdd, StepperFits, answers_noted, kept, lines_of}
pub use Rattle.broker_ledger.specs.Notes.{Shows, act_at, act_begun, another_at, answer_noted, answer_of, answered_in, answers_given, answers_of_last, calls_on, fits_at, fits_end_at, fits_spent_at, fits_step_at, fits_try_at, has_end, last_of, most_of, noted, notes_of, open_last, outcome_at, over_at, over_behind, passed, rests_at, run_begun, spent_in, stop_at, tree_of, tries_in, try_begun, unended}
pub use Rattle.broker_ledger.specs.Sound.{OfAct, Sound, Started}
pub use Rattle.broker_ledger.specs.TakenUp.{added, counts_at, counts_led, fits_now, fresh_ledger, led, logged, other_at, unfit_at, unfit_index}
pub use Rattle.broker_ledger.specs.Tasks.{Scripted, Task, task_of, task_with, tasks}
pub use Rattle.broker_ledger.specs.Tests.{is_task, same_task}
pub use Rattle.broker_ledger.specs.declared.givens.Given.{Given}
pub use Rattle.broker_ledger.specs.declared.notes.Last.{Last}
pub use Rattle.broker_ledger.specs.declared.notes.Notes.{Notes}
pub use Rattle.effect_form.specs.declared.effects.Effect.{Effect}
pub use Rattle.effect_form.specs.declared.outcomes.Outcome.{Outcome}
pub use Rattle.pseudo_time.specs.Lists.{Every}
pub use Rattle.pseudo_time.specs.StampParts.{StampParts}
pub use Rattle.script_meaning.specs.Meaning.{Answer, Came, Got, Stop, Stored}
pub use Rattle.script_run.specs.RunParts.{RunParts, Tells}
pub use Rattle.script_run.specs.declared.nexts.Next.{Next}
pub use Rattle.serial_model.proofs.AskedLemmas.{asked-few, asked-front, asked-next, asked-none}
pub use Rattle.serial_model.specs.Asked.{AreAsked, IsAnswerTo}
pub use Rattle.serial_model.specs.Questions.{Tree, denote, stop}
pub use Rattle.std.proofs.Common.{Bool, List, MatchOption, None, Option, Some, [], ap, arith, drop, false, get_or, if◌then◌else◌, length, max, nat_lt, not, refl, reverse, subst, suc, sym, take, true, zero, ℕ, ◌&&◌, ◌++◌, ◌+◌, ◌-◌, ◌<◌, ◌==◌, ◌∙◌, ◌∷◌, ◌≡◌, ◌≢◌, ◌≤◌}
pub use Rattle.std.proofs.Math.Seq.{split_at, take-length}
pub use Rattle.std.proofs.lemmas.Bool.{eq-eqb, eqb-true, false≢true}
pub use Rattle.std.proofs.lemmas.Grind.{common_steps}
pub use Rattle.std.proofs.lemmas.List.{length-append, length-map, length-take-le, map-append, take_all}
pub use Rattle.std.proofs.lemmas.Option.{slice_get-map}
pub use Rattle.std.specs.Cmp.Lexicographic.{same_text}
pub use Rattle.std.specs.List.{slice_get}
pub use Rattle.std.specs.Option.{option_map}
pub use Rattle.value_form.specs.Mirror.{block}
pub use Rattle.value_form.specs.declared.acts.ActSpec.{ActSpec}
pub use Rattle.value_form.specs.declared.objects.ObjectId.{ObjectId}
pub use Rattle.value_form.specs.declared.scripts.Stmt.{Stmt}
pub use Rattle.value_form.specs.declared.transcripts.Line.{Line}
pub use Rattle.value_form.specs.declared.values.Value.{Value}
