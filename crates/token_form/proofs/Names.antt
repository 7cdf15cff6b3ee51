-- The names that the proofs of this crate cite, passed on from one place. Declares nothing.
pub use Rattle.std.proofs.Common.{Bool, List, None, Option, Some, [], ap, append-nil, append_assoc, arith, cond, drop, false, get_or, inl, inr, length, refl, subst, suc, sym, take, true, zero, ℕ, ◌%◌, ◌*◌, ◌++◌, ◌+◌, ◌-◌, ◌/◌, ◌<◌, ◌^◌, ◌∙◌, ◌∷◌, ◌≡◌, ◌≤◌, ◌⊎◌}
pub use Rattle.std.proofs.lemmas.Bool.Decides.{nat_tests}
pub use Rattle.std.specs.Char.{is_ascii_digit}
pub use Rattle.std.specs.Int.{is_in_range}
pub use Rattle.std.specs.List.{flat_map, list_all}
pub use Rattle.std.specs.Prelude.{MatchOption, codes, decimal, nat_lt, not, ◌&&◌, ◌==◌, ◌||◌}
pub use Rattle.token_form.specs.Reading.{escape_piece, first_token, front_of, hex_value, high_piece, inside, is_spot, kept, longer_or, longest, low_piece, name_token, passes, piece_at, plain_piece, read_then, read_token, rest_of, sign_found, sign_of, sign_then, sign_token, taken, text_at, text_then, word_in, word_or_name, words}
pub use Rattle.token_form.specs.Tokens.{AllPass, AreTokens, Ends, HasForm, IsName, IsNumeral, IsReserved, IsToken, IsTokens, Spells, Writes, WritesAll, all_in_limits, backslash, by_digits, goes_on, in_limits, in_range, is_byte, is_letter, is_name_byte, is_plain, itself, line_end, number_from, objects_fit, quote, sign_spelling, spaces, spelling, word_spelling}
pub use Rattle.token_form.specs.declared.tokens.Token.{Token}
pub use Rattle.value_form.specs.TextForm.{byte_text, hex_digit_of}
