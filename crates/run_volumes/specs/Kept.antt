-- Media that are handed back under their names.
use Rattle.std.specs.Prelude.{◌≡◌, ℕ, List, [], ◌∷◌, ◌++◌, Option, Some, None}
use Rattle.pseudo_time.specs.Lists.{Has}
use Rattle.pseudo_time.specs.declared.nodes.NodeId.{NodeId}
use Rattle.medium_port.specs.declared.shelves.MediumName.{MediumName}
use Rattle.run_volumes.specs.Shelves.{ShelfSight, volume_name}
use Rattle.run_volumes.specs.declared.kept.Kept.{Kept}

-- the node of the medium of this name
abbrev pub node_of : MediumName → NodeId
node_of name = record { kind = name.kind; number = name.number }

-- the medium under its name, unless it is missing
abbrev pub kept_as : {M : Type 0} → MediumName → Option M → List (Kept M)
kept_as name None = []
kept_as name (Some m) = record { node = node_of name; volume = name.volume; medium = m } ∷ []

-- these media under these names, without those that are missing
abbrev pub kept_under : {M : Type 0} → List MediumName → List (Option M) → List (Kept M)
kept_under [] media = []
kept_under (name ∷ names) [] = []
kept_under (name ∷ names) (m ∷ media) = kept_as name m ++ kept_under names media

-- each medium that was taken is handed back
abbrev pub AllKept : {M : Type 0} → (old new : ShelfSight) → List (Kept M) → Type 0
AllKept {M} old new kept = (name : MediumName) → new.is_taken name → (old.is_taken name → ⊥) → (n : NodeId) × (v : ℕ) × (m : M) × (name ≡ volume_name n v) × Has (record { node = n; volume = v; medium = m }) kept
