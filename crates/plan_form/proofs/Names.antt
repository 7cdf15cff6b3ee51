-- The names that the proofs of this crate cite, passed on from one place. Declares nothing.
pub use Rattle.plan_form.specs.Making.{account, account_read, account_sum, act_of, after_act, audit, balance, drawn, drawn_act, last_step, made_plan, round, step, sums, target_of, transfer, transfer_act, transfers}
pub use Rattle.plan_form.specs.PlanFaults.{BodyFault, IsNumbered, IsPlanFault, Lacks, LinesFault, Reaches, ScriptFault}
pub use Rattle.plan_form.specs.PlanTexts.{EachAct, IsAct, IsOfLanguage, CanRun, act_line, act_text, acts_text, head_text, plan_text}
pub use Rattle.plan_form.specs.Plans.{AreActs, HasHead, InRange, IsActLine, IsPlan, IsPlanLines, act_front, before_done, behind_done, brokers_line, has_done, is_done, is_done_word, is_space, past_blanks, repositories_line, run_line, terms, title}
pub use Rattle.plan_form.specs.Reading.{after_front, behind_digits, clock_at, digits_of, is_numeral, number_alone, number_behind, number_first, terms_at, ◌>>=◌}
pub use Rattle.plan_form.specs.Reads.{IsActRead, IsScriptRead, ReadsAct, ReadsActs, ReadsHead, ReadsScript, script_fault}
pub use Rattle.plan_form.specs.declared.act_lines.Terms.{Terms}
pub use Rattle.plan_form.specs.declared.plan_faults.PlanFault.TheVariants.{Fault, NoMemory}
pub use Rattle.plan_form.specs.declared.plans.Plan.{Plan}
pub use Rattle.script_form.proofs.PrintLemmas.{Shown, line_ends, one_script_of_lines, printed_is_script, shown-append, shown_number, shown_stays}
pub use Rattle.script_form.specs.Lines.{is_blank, lines, lines_from}
pub use Rattle.script_form.specs.RowTexts.{line_text, row_text, rows_text, script_text, spot_text}
pub use Rattle.script_form.specs.Rows.{Numbered, rows}
pub use Rattle.script_form.specs.Scripts.{BeginScript, FaultBehind, IsScriptLines, LeftOpen, LineFault, LineRow, LinesRows}
pub use Rattle.std.proofs.Common.{Bool, List, None, Option, Some, [], ap, append-nil, append_assoc, arith, cond, drop, false, get_or, inl, inr, length, length-append, refl, subst, suc, sym, take, true, zero, ℕ, ◌%◌, ◌*◌, ◌++◌, ◌+◌, ◌-◌, ◌/◌, ◌<◌, ◌^◌, ◌∙◌, ◌∷◌, ◌≡◌, ◌≤◌, ◌⊎◌}
pub use Rattle.std.proofs.lemmas.Bool.{le-leb, lt-ltb}
pub use Rattle.std.proofs.lemmas.Bool.Decides.{Decides-eqb, nat_tests}
pub use Rattle.std.proofs.lemmas.Fmt.{decimal-digits_value, decimal_injective, length-decimal-le}
pub use Rattle.std.proofs.lemmas.List.{length-replicate, take-append-drop}
pub use Rattle.std.proofs.lemmas.Slice.Eq.{slice_eq-Decides}
pub use Rattle.std.specs.Char.{is_ascii_digit}
pub use Rattle.std.specs.Cmp.Lexicographic.{pointwise}
pub use Rattle.std.specs.Prelude.{Err, MatchOption, Ok, codes, decimal, nat_le, not, replicate, ◌&&◌, ◌==◌}
pub use Rattle.token_form.proofs.Runs.{AllPass-from, Stops, both, by_test, front-rest, front_of-passes, front_of-run, rest_of-run, split_if}
pub use Rattle.token_form.specs.Tokens.{AllPass, Ends, IsNumeral, IsReserved, IsToken, IsTokens, is_letter, number_from, spaces, word_spelling}
pub use Rattle.value_form.specs.Mirror.{At, Between, Block, Fixed, Name, Number, block}
pub use Rattle.value_form.specs.MirrorLaws.{block-made, made-block, made_all, made_step}
pub use Rattle.value_form.specs.declared.acts.ActSpec.{ActSpec}
pub use Rattle.value_form.specs.declared.scripts.Script.{Script}
pub use Rattle.value_form.specs.declared.scripts.Stmt.{Stmt}
