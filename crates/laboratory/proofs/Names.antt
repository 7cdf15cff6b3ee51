-- The names that the proofs of this crate cite, passed on from one place. Declares nothing.
pub use Rattle.clap.proofs.CallerReads.{required_reads, signed_reads}
pub use Rattle.clap.proofs.WalkLemmas.{first_value-rows, one_text-rows}
pub use Rattle.clap.specs.Matches.{ReadsOne, first_value, found_of, one_text}
pub use Rattle.clap.specs.Simple.{App, HasMatchesOf, app_of, app_of_fields, has_plain_fields, on_top, with_rule}
pub use Rattle.clap.specs.Walk.{Rule, Text, is_empty, is_free_arg, is_simple_arg, rule_of}
pub use Rattle.clap.specs.declared.builder.command.Command.{Command}
pub use Rattle.clap.specs.declared.builder.value_parser.ValueParser.{ValueParser}
pub use Rattle.clap.specs.declared.parser.matches.ArgMatches.{ArgMatches}
pub use Rattle.command_words.specs.Words.{said}
pub use Rattle.laboratory.specs.Fates.{asked_of, divisor_of, fates_are}
pub use Rattle.laboratory.specs.Given.{HasText, IsGiven}
pub use Rattle.laboratory.specs.Options.{AreFor, AreRead, HasNumber, Says, command, needed, numbers}
pub use Rattle.laboratory.specs.Shelves.{IsLabShelf, first_name, voting_name}
pub use Rattle.laboratory.specs.declared.options.Lab.{Lab}
pub use Rattle.std.proofs.Common.{Bool, Err, List, None, Ok, Option, Result, Some, [], ap, ap₂, arith, codes, false, inl, inr, is_some, length, map, refl, subst, suc, sym, take, true, zero, ℕ, ◌&&◌, ◌-◌, ◌<◌, ◌^◌, ◌∙◌, ◌∷◌, ◌≡◌, ◌≢◌, ◌≤◌}
pub use Rattle.std.specs.Io.KnownBytes.{Appends}
pub use Rattle.std.specs.List.{All, slice_index_or}
pub use Rattle.std.specs.Prelude.{if◌then◌else◌, not, replicate, ◌==◌, ◌⊎◌}
pub use Rattle.std.specs.Str.Parse.{ExplainsUnsignedError, HasUnsignedDigitsIfOk, ParsesUnsigned}
