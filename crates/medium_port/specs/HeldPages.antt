-- Pages of which those behind the last that is held read 0 in every byte.
use Rattle.std.specs.Prelude.{ℕ, ◌-◌, ◌++◌, length, replicate}
use Rattle.medium_port.specs.Image.{Image}

-- what reads give, and how many of the first pages are held
pub record HeldParts : Type 0 where
  pub items : Image
  pub front : ℕ

-- these pages, and blank ones up to so many
abbrev pub with_blanks : ℕ → Image → Image
with_blanks count front = front ++ replicate (count - length front) (replicate 4096 0)
