-- The names that the proofs of this crate cite, passed on from one place. Declares nothing.
pub use Rattle.expression_form.specs.Texts.{InLimits, parenthesized_if, prefix_text, text}
pub use Rattle.field_form.specs.Forms.{IsBytes}
pub use Rattle.pseudo_time.specs.Lists.{Every}
pub use Rattle.script_form.specs.Printable.{IsPrintable, Rising, RowsInLimits}
pub use Rattle.script_form.specs.RowTexts.{RowInLimits, SpotInLimits, line_text, next_line, row_text, rows_text, script_text, spot_text}
pub use Rattle.script_form.specs.Rows.{Numbered, on, rows, step_rows}
pub use Rattle.script_meaning.specs.Meaning.{Answer, Answers, Asks, Came, Course, Goes, Got, Over, Request, State, Stop, Stops, Stored, ToRead, ToWrite, all_done, answers_of, begun, by_answers, carried_out, condition, count, counted, finished, line_of, object_at, over_objects, perform, read_of, talk, then_do, turns, value, valued, write_of}
pub use Rattle.script_meaning.specs.Names.{Names, name_value, with_name}
pub use Rattle.serial_model.specs.Alone.{came_to, state_of}
pub use Rattle.serial_model.specs.Asked.{AreAsked, IsAnswerTo}
pub use Rattle.serial_model.specs.Overlays.{onto, overlaid}
pub use Rattle.serial_model.specs.Questions.{AnswersOf, Ends, IsFrontOf, IsTalkOf, Onward, Reads, Says, Talked, Tree, Writes, all_asked, asked, asked_if_room, asked_turns, asked_with, denote, left_after, left_by, line_before, read_on, request_of, stop, talked, talked_alone, waits, walk, write_on}
pub use Rattle.serial_model.specs.Ranges.{BlockInRange, IsLine, SpotInRange, StepInRange, StopInRange, TermInRange}
pub use Rattle.serial_model.specs.Requests.{AnswerHasBytes, AsksInRange}
pub use Rattle.std.proofs.Common.{Bool, Err, List, None, Ok, Result, Some, T, [], ap, append-nil, append_assoc, arith, cond, drop, false, get_or, length, map, nat_le, nat_lt, not, refl, replicate, rules, subst, suc, sym, true, zero, ℕ, ◌%◌, ◌&&◌, ◌*◌, ◌++◌, ◌+◌, ◌-◌, ◌/◌, ◌<◌, ◌^◌, ◌||◌, ◌∙◌, ◌∷◌, ◌≡◌, ◌≤◌}
pub use Rattle.std.proofs.lemmas.Bool.Decides.{nat_tests}
pub use Rattle.std.proofs.lemmas.Fmt.{IsAscii-decimal, IsAscii-signed, length_signed_le}
pub use Rattle.std.proofs.lemmas.List.{drop_more, length-append}
pub use Rattle.std.specs.FinMap.{empty, entries, entries-from_sorted, find, from_entries, from_sorted, get, get-entries, get-from_entries, get-from_sorted, get-insert, insert, is_sorted, same_map}
pub use Rattle.std.specs.Int.{is_in_range, w64}
pub use Rattle.std.specs.List.{AllByRecursion, flat_map, list_all}
pub use Rattle.std.specs.Ordering.{eq_by_cmp, is_lt}
pub use Rattle.std.specs.Prelude.{FitsSigned, IfOk, Option, codes, if◌then◌else◌, int_div, int_rem, neg_ℤ, negsuc, pos, unsigned_abs, unwrap_or, ℤ, ◌*ℤ◌, ◌+ℤ◌, ◌-ℤ◌, ◌==◌}
pub use Rattle.value_form.proofs.ObjectLemmas.{object_cmp-exact, object_cmp-total}
pub use Rattle.value_form.specs.Mirror.{Applied, At, Before, Between, Block, End, Fixed, Given, If, IfElse, Let, Name, Nothing, Number, Print, Read, Repeat, Spot, Step, Term, Text, Then, Withdraw, Write, block, plain, term}
pub use Rattle.value_form.specs.ObjectBytes.{IsObject}
pub use Rattle.value_form.specs.Objects.{Objects, object_cmp, value_at}
pub use Rattle.value_form.specs.Ranges.{IsBlock, IsStep}
pub use Rattle.value_form.specs.ValueBytes.{IsValue}
pub use Rattle.value_form.specs.declared.endings.Ending.{Ending}
pub use Rattle.value_form.specs.declared.expressions.Call.{Call}
pub use Rattle.value_form.specs.declared.expressions.Infix.{Infix}
pub use Rattle.value_form.specs.declared.expressions.Prefix.{Prefix}
pub use Rattle.value_form.specs.declared.fail_kinds.FailKind.{FailKind}
pub use Rattle.value_form.specs.declared.objects.ObjectId.{ObjectId}
pub use Rattle.value_form.specs.declared.transcripts.Line.{Line}
pub use Rattle.value_form.specs.declared.values.Value.{Value}
