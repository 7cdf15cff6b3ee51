-- The names that the proofs of this crate cite, passed on from one place. Declares nothing.
pub use Rattle.effect_form.specs.Effects.{IsActEffect, IsBack, IsEffect, IsIndex, IsPlace, IsPositive, IsWritten, Written, back_at, back_bytes, back_from, effect_bytes, home_at, index_at, learned_at, learned_byte, length_at, positive_at, size_of, timeout_at, tries_at}
unfoldable pub use Rattle.effect_form.specs.Effects.{act_at, effect_at, effect_of_tag, put_at}
pub use Rattle.effect_form.specs.Outcomes.{IsOutcome, clock_at, fail_at, fail_from, fail_number, line_at, outcome_bytes}
unfoldable pub use Rattle.effect_form.specs.Outcomes.{outcome_at, outcome_of_tag}
pub use Rattle.effect_form.specs.Sequences.{part_one, part_two, whole_one, whole_two}
pub use Rattle.effect_form.specs.declared.effects.Effect.{Effect}
pub use Rattle.effect_form.specs.declared.effects.Effect.TheVariants.{Acked, Act, Begin, Decide, End, Got, Learn, Mark, Put, Run, Stretch, Try, Whole}
pub use Rattle.effect_form.specs.declared.effects.Place.{Place}
pub use Rattle.effect_form.specs.declared.outcomes.Outcome.{Outcome}
pub use Rattle.effect_form.specs.declared.outcomes.Outcome.TheVariants.{Committed, Expired, Failed, LaterRead, LaterVersion, Spent, Withdrawn}
pub use Rattle.field_form.proofs.DecisionLaws.{chosen, decision_form}
pub use Rattle.field_form.proofs.FormLaws.{Begins-then, bind_some, chosen_then, some_is}
pub use Rattle.field_form.proofs.NumberLaws.{between_form, byte_form, front_again, front_takes, u16_form, u32_form, u64_form}
pub use Rattle.field_form.proofs.TimeLaws.{stamp_form, time_form}
pub use Rattle.field_form.specs.Decisions.{IsDecision, decision_at, decision_text}
pub use Rattle.field_form.specs.Forms.{Begins, IsBytes, IsForm}
pub use Rattle.field_form.specs.Numbers.{between, byte_at, front_at, number_at}
pub use Rattle.field_form.specs.Times.{stamp_at, time_at}
pub use Rattle.pseudo_time.specs.StampParts.{IsStamp, stamp_bytes}
pub use Rattle.pseudo_time.specs.TimeParts.{IsTime, TimeParts, time_bytes}
pub use Rattle.std.proofs.Common.{Bool, Err, List, None, Ok, Option, Result, Some, [], ap, append_assoc, arith, cond, drop, false, inl, inr, length, lit<, nat_le, nat_lt, refl, subst, sym, take, true, ℕ, ◌&&◌, ◌++◌, ◌+◌, ◌-◌, ◌<◌, ◌^◌, ◌∙◌, ◌∷◌, ◌≡◌, ◌≤◌}
pub use Rattle.std.proofs.lemmas.Bool.Decides.{nat_tests}
pub use Rattle.std.specs.Int.{to_be_bytes, w16, w32, w64}
pub use Rattle.std.specs.Prelude.{IfOk, ◌==◌}
pub use Rattle.value_form.proofs.ValueLaws.{field_ok, object_form, ok_is, value_form, value_takes}
pub use Rattle.value_form.specs.ObjectBytes.{IsObject, object_bytes, object_bytes_at}
pub use Rattle.value_form.specs.ValueBytes.{IsValue, field, found, text_bytes, value_at, value_bytes, ◌>>=◌}
pub use Rattle.value_form.specs.declared.values.Value.{Value}
