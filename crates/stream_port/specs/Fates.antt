-- What comes of messages, and how a list of rules decides it.
use Rattle.std.specs.Prelude.{ℕ, ◌+◌, ◌==◌, ◌&&◌, min, List, [], ◌∷◌, length, if◌then◌else◌}
use Rattle.std.specs.List.{filter}
use Rattle.stream_port.specs.declared.fates.Asked.{Asked}
use Rattle.stream_port.specs.declared.fates.Fate.{Fate}
use Rattle.stream_port.specs.declared.memory_fates.FateRule.{FateRule}

-- how many copies of a message there are: more than three count as three
abbrev pub copies_of : Fate → ℕ
copies_of fate = min fate.copies 3

-- one copy, which comes at once and behind all others
abbrev pub plain : Fate
plain = record { copies = 1; overtake = 0; hold = 0 }

-- fates over memory
pub record FatesParts : Type 0 where
  pub rules : List FateRule
  -- the messages asked for so far
  pub asked : List Asked

-- how many of the messages had this tag
abbrev pub count_of : ℕ → List Asked → ℕ
count_of tag asked = length (filter (λ (a : Asked). a.tag == tag) asked)

-- the first rule for the nth message of this tag, and else the plain fate
abbrev pub ruled : List FateRule → ℕ → ℕ → Fate
ruled [] tag nth = plain
ruled (rule ∷ rules) tag nth = if (rule.tag == tag) && (rule.nth == nth) then rule.fate else ruled rules tag nth

-- the fate of the next message, which has this tag
abbrev pub next_fate : FatesParts → ℕ → Fate
next_fate fates tag = ruled fates.rules tag (count_of tag fates.asked + 1)
