-- The names that the proofs of this crate cite, passed on from one place. Declares nothing.
pub use Rattle.command_words.specs.Words.{AreGiven, AreNone, AreOptions, AreVoteOptions, AreWords, IsLoad, IsNumber, IsObjectWord, IsPlain, IsWith, said}
pub use Rattle.command_words.specs.declared.commands.Options.{Options}
pub use Rattle.command_words.specs.declared.options.Given.{Given}
pub use Rattle.std.proofs.Common.{Bool, List, None, Ok, Option, Result, Some, [], ap, arith, cond, drop, false, get_or, inl, inr, length, not, refl, rules, subst, suc, sym, take, true, zero, ℕ, ◌++◌, ◌+◌, ◌-◌, ◌<◌, ◌==◌, ◌^◌, ◌∙◌, ◌∷◌, ◌≡◌, ◌≢◌, ◌≤◌}
pub use Rattle.std.proofs.lemmas.List.{length-append, length-map}
pub use Rattle.std.specs.Prelude.{MatchOption, codes, decimal, is_some}
pub use Rattle.value_form.specs.declared.objects.ObjectId.{ObjectId}
