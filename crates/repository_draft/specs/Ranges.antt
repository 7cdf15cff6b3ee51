-- Ranges of the reads that a repository holds.
use Rattle.std.specs.Prelude.{List}
use Rattle.pseudo_time.specs.TimeParts.{TimeParts}
use Rattle.pseudo_time.specs.Lists.{Every}
use Rattle.value_form.specs.ObjectBytes.{IsObject}
use Rattle.repository_draft.specs.declared.waits.HeldRead.{HeldRead}

-- held reads are of objects in range
abbrev pub AreHeld : List (TimeParts × HeldRead) → Type 0
AreHeld held = Every (λ e. IsObject e.1.object) held
