-- What a session is given: its input and its words.
use Rattle.std.specs.Prelude.{◌≡◌, ℕ, List, [], ◌∷◌, codes, Option}
use Rattle.std.specs.Io.KnownBytes.{Consumes, IsAtEnd}
use Rattle.command_words.specs.declared.commands.Options.{Options}
use Rattle.command_words.specs.Words.{AreOptions}

-- ---- the input

-- the text is at the front of the input
abbrev pub BeginsWith : Option (List ℕ) → List ℕ → Type 0
BeginsWith input text = (rest : Option (List ℕ)) × Consumes input rest text

-- and is all of it
abbrev pub IsAll : Option (List ℕ) → List ℕ → Type 0
IsAll input text = (rest : Option (List ℕ)) × Consumes input rest text × IsAtEnd rest

-- a line without its end is one, unless it is empty
abbrev pub own : List ℕ → ℕ
own [] = 0
own (b ∷ last) = 1

-- ---- the words

-- the words are `session` and the options of a run
abbrev pub AreSession : Options → List (List ℕ) → Type 0
AreSession o words = (more : List (List ℕ)) × (words ≡ codes "session" ∷ more) × AreOptions o more
