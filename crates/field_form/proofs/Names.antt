-- The names that the proofs of this crate cite, passed on from one place. Declares nothing.
pub use Rattle.field_form.specs.Forms.{Begins, IsBytes, IsForm, ◌>>=◌}
pub use Rattle.field_form.specs.Numbers.{between, byte_at, front_at, number_at}
unfoldable pub use Rattle.field_form.specs.Numbers.{signed_at}
pub use Rattle.std.proofs.Common.{Bool, List, None, Option, Some, [], ap, append_assoc, arith, cond, drop, false, inl, inr, length, ltb, nat_le, nat_lt, refl, subst, suc, sym, take, true, ℕ, ◌&&◌, ◌++◌, ◌+◌, ◌<◌, ◌^◌, ◌||◌, ◌∙◌, ◌∷◌, ◌≡◌, ◌≤◌}
pub use Rattle.std.proofs.lemmas.Bool.{cases_lt, le-ltb, ltb-false}
pub use Rattle.std.proofs.lemmas.Bool.Decides.{nat_tests}
pub use Rattle.std.proofs.lemmas.List.{drop_at, get_or-drop, get_or-take, get_or_past, length-append, length-take, take-append-drop, take_at}
pub use Rattle.std.specs.Int.{Width, byte_len, cast_signed, cast_unsigned, from_be_bytes, to_be_bytes, w16, w32, w64}
pub use Rattle.std.specs.Prelude.{FitsSigned, ℤ, ◌==◌, ◌⊎◌}
