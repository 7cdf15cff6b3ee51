-- The words of a session.
use Rattle.std.specs.Prelude.{ℕ, List, Option, Some, None}
use Rattle.command_words.specs.declared.commands.Options.{Options}
use Rattle.command_words.specs.Words.{AreOptions}
use Rattle.session_command.specs.Texts.{AreSession}

-- the options that these words after the first one give; none if they are no options
abbrev pub GivesMore : List (List ℕ) → Option Options → Type 0
GivesMore more (Some o) = AreOptions o more
GivesMore more None = (o : Options) → AreOptions o more → ⊥

-- the options that the words give a session; none if they are no session
abbrev pub GivesOptions : List (List ℕ) → Option Options → Type 0
GivesOptions words (Some o) = AreSession o words
GivesOptions words None = (o : Options) → AreSession o words → ⊥
