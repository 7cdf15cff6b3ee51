-- What an image has after effects were added to a log.
use Rattle.std.specs.Prelude.{◌≡◌, ◌++◌, ℕ, List, Ok, take}
use Rattle.medium_port.specs.Image.{Image}
use Rattle.effect_form.specs.declared.effects.Effect.{Effect}
use Rattle.version_store.specs.Storage.{storage}

-- the image has the old one's log, and these effects behind it
abbrev pub HasAdded : Image → List Effect → Image → Type 0
HasAdded old effects image = (log : List Effect) × (storage old ≡ Ok log) × (storage image ≡ Ok (log ++ effects))

-- the image has the old one's log, and some of the first of these effects behind it
abbrev pub HasAddedSome : Image → List Effect → Image → Type 0
HasAddedSome old effects image = (kept : ℕ) × HasAdded old (take kept effects) image
