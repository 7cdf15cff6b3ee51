-- The names that the proofs of this crate cite, passed on from one place. Declares nothing.
pub use Rattle.expression_form.specs.Canonical.{canonical, enclosed_if, is_looser}
pub use Rattle.expression_form.specs.Depth.{IsShallow, depth}
pub use Rattle.expression_form.specs.Grammar.{At, Bare, Spells, SpellsAt, enclosed, level_in, level_of, wrapped}
pub use Rattle.expression_form.specs.Levels.{call_token, infix_level, infix_token, left_level, prefix_level, prefix_token}
pub use Rattle.expression_form.specs.Machine.{State, Waiting, close, closing, ended, finish, finish_at, having, having_as, held, hole, infix_of, joined, opening, operand_read, parted, parted_at, prefixed, run, shift, shut, shut_at, state, step, step_at, wanting}
pub use Rattle.expression_form.specs.Operands.{applied, before, between, given, kept, operand_of}
pub use Rattle.expression_form.specs.Texts.{InLimits, parenthesized_if, prefix_text, text}
pub use Rattle.expression_form.specs.declared.frames.Frame.{Frame}
pub use Rattle.expression_form.specs.declared.operands.Operand.{Operand}
pub use Rattle.expression_form.specs.declared.operands.Operand.TheVariants.{Built, Deep}
pub use Rattle.std.proofs.Common.{Bool, List, None, Option, Some, [], ap, append-nil, append_assoc, arith, false, inl, inr, max, refl, subst, suc, sym, true, zero, ℕ, ◌++◌, ◌+◌, ◌<◌, ◌∙◌, ◌∷◌, ◌≡◌, ◌≢◌, ◌≤◌, ◌⊎◌}
pub use Rattle.std.proofs.lemmas.Bool.{cases_lt, le-leb, le-ltb, leb-false, leb-true, lt-leb, lt-ltb, ltb-false}
pub use Rattle.std.specs.Prelude.{codes, if◌then◌else◌, nat_le, nat_lt, option_and_then}
pub use Rattle.token_form.specs.Tokens.{AreTokens, Ends, IsToken, IsTokens, opens_object, spelling}
pub use Rattle.token_form.specs.declared.tokens.Token.{Token}
pub use Rattle.value_form.specs.Mirror.{Applied, Before, Between, Given, Name, Nothing, Number, Term, Text, term}
pub use Rattle.value_form.specs.MirrorLaws.{made, term-made}
pub use Rattle.value_form.specs.declared.expressions.Call.{Call}
pub use Rattle.value_form.specs.declared.expressions.Expr.{Expr}
pub use Rattle.value_form.specs.declared.expressions.Infix.{Infix}
pub use Rattle.value_form.specs.declared.expressions.Prefix.{Prefix}
