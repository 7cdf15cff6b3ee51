-- The names that the proofs of this crate cite, passed on from one place. Declares nothing.
pub use Rattle.expression_form.proofs.CanonicalLemmas.{AllFit, AllFit-append, AllFit-canonical, AreTokens-append, canonical-spells, spelled-in_limits}
pub use Rattle.expression_form.specs.Depth.{depth}
pub use Rattle.expression_form.specs.Grammar.{Spells}
pub use Rattle.expression_form.specs.Texts.{InLimits, text}
pub use Rattle.script_form.specs.Begins.{Begins, BeginsShallow}
pub use Rattle.script_form.specs.Building.{Feeds, added, at, feed, opened, opening_rows, opens, other_at, other_in, rows_so_far, shut_at, stack_rows, whole}
pub use Rattle.script_form.specs.Fed.{Fed}
pub use Rattle.script_form.specs.Feeds.{EndsLines, FeedsLine, HoldsLines, Passes, Places}
pub use Rattle.script_form.specs.Flats.{row_of}
pub use Rattle.script_form.specs.LineReads.{ReadsLine, ReadsRow, fault_of}
pub use Rattle.script_form.specs.Lines.{is_blank, lines, lines_from}
pub use Rattle.script_form.specs.Parses.{GivesAgain, Parses}
pub use Rattle.script_form.specs.Printable.{IsPrintable, Rising, RowsInLimits}
pub use Rattle.script_form.specs.Progress.{Holds}
pub use Rattle.script_form.specs.Row.{Row}
pub use Rattle.script_form.specs.RowFeeds.{feeds, made_flat, open_after, open_by, peak, row_feed}
pub use Rattle.script_form.specs.RowTexts.{Prints, RowInLimits, RowUpTo, SpotInLimits, SpotUpTo, line_text, next_line, row_text, row_tokens, rows_text, script_text, spot_text, spot_tokens}
pub use Rattle.script_form.specs.RowTokens.{Follows, IsRepository, SpellsRow, SpellsSpot}
pub use Rattle.script_form.specs.Rows.{Numbered, block_depth, on, row_depth, rows, spot_depth, step_depth, step_rows}
pub use Rattle.script_form.specs.Scripts.{BeginScript, FaultAt, FaultBehind, IsScriptLines, IsSmall, LeftOpen, LineFault, LineRow, LinesRows, ShallowRows, with_row}
pub use Rattle.script_form.specs.Targets.{bracket_at, fixed_of, indexed_of, is_repository, object_at}
pub use Rattle.script_form.specs.declared.buildings.Building.{Building}
pub use Rattle.script_form.specs.declared.flats.Flat.{Flat}
pub use Rattle.script_form.specs.declared.levels.Level.{Level}
pub use Rattle.script_form.specs.declared.levels.Opening.{Opening}
pub use Rattle.script_form.specs.declared.parse_faults.ParseFault.{ParseFault}
pub use Rattle.script_form.specs.declared.parse_faults.ParseKind.{ParseKind}
pub use Rattle.script_form.specs.declared.readers.ScriptReader.{ScriptReader}
pub use Rattle.script_form.specs.declared.row_faults.RowFault.{RowFault}
pub use Rattle.script_form.specs.declared.row_faults.RowFault.TheVariants.{Kind, NoMemory}
pub use Rattle.std.proofs.Common.{Bool, List, None, Ok, Option, Some, [], ap, append-nil, append_assoc, arith, cond, drop, false, get_or, inl, inr, length, max, refl, subst, suc, sym, take, true, zero, ℕ, ◌++◌, ◌+◌, ◌-◌, ◌<◌, ◌^◌, ◌∙◌, ◌∷◌, ◌≡◌, ◌≢◌, ◌≤◌, ◌⊎◌}
pub use Rattle.std.proofs.Math.Seq.{take-append_seam, take-suc}
pub use Rattle.std.proofs.lemmas.Bool.{cases_lt, le-leb, leb-true, lt-ltb, ltb-true}
pub use Rattle.std.proofs.lemmas.Bool.Decides.{nat_tests}
pub use Rattle.std.proofs.lemmas.List.{length-append, length-replicate, take-append-drop, take-append-le}
pub use Rattle.std.specs.Prelude.{Err, IfOk, OnOk, Result, SomeIff, codes, if◌then◌else◌, nat_le, nat_lt, not, option_and_then, replicate, unwrap_or, ◌&&◌, ◌==◌, ◌||◌}
pub use Rattle.std.specs.Result.{IsErr, IsErrAnd}
pub use Rattle.token_form.proofs.LineLaws.{one_list}
pub use Rattle.token_form.proofs.Runs.{both, by_test}
pub use Rattle.token_form.proofs.Spellings.{line_has_tokens, spells}
pub use Rattle.token_form.specs.Tokens.{AreTokens, Ends, IsToken, IsTokens, all_in_limits, in_range, is_dot, is_object_number, next_fits, objects_fit, opens_object}
pub use Rattle.token_form.specs.declared.tokens.Token.{Token}
pub use Rattle.value_form.specs.Mirror.{Applied, At, Before, Between, Block, End, Fixed, Given, If, IfElse, Let, Name, Nothing, Number, Print, Read, Repeat, Spot, Step, Term, Text, Then, Withdraw, Write, block, plain, spot, step_layer, term}
pub use Rattle.value_form.specs.MirrorLaws.{block-made, made, made-block, made-term, made_all, made_place, made_step, plain-if, plain-if_else, plain-repeat, term-made}
pub use Rattle.value_form.specs.declared.expressions.Expr.{Expr}
pub use Rattle.value_form.specs.declared.objects.ObjectId.{ObjectId}
pub use Rattle.value_form.specs.declared.scripts.Script.{Script}
pub use Rattle.value_form.specs.declared.scripts.Stmt.{Stmt}
pub use Rattle.value_form.specs.declared.scripts.Target.{Target}
