-- The entries and how nodes stand after them, as the code keeps it, and what calls do to it.
use Rattle.std.specs.Prelude.{◌≡◌, ℕ, ◌≤◌, ◌<◌, ◌^◌, true, List, [], ◌∷◌, ◌++◌, length, Option, Some, None, is_some, if◌then◌else◌}
use Rattle.std.specs.List.{list_any}
use Rattle.pseudo_time.specs.declared.nodes.NodeId.{NodeId}
use Rattle.pseudo_time.specs.Nodes.{same_node}
use Rattle.world_core.specs.declared.entries.Entry.{Entry}
use Rattle.world_core.specs.Walks.{World, ticks_after, last_after}
use Rattle.wire_core.specs.declared.flags.NodeFlags.{NodeFlags}
use Rattle.wire_core.specs.declared.stories.Story.{Story}
use Rattle.wire_core.specs.Flagged.{flags_at, new_flags, shown, heard_last, after_entry}

-- without entries, of nodes with these names
pub record IsOpened (names : List NodeId) (s : Story) : Type 0 where
  pub entries : s.entries.items ≡ []
  pub nodes : (n : NodeId) → flags_at s.nodes.entries n ≡ (if list_any (λ m. same_node m n) names then Some new_flags else None)
  pub ticks : s.ticks ≡ 0
  pub last : s.last ≡ None

-- with one entry more
pub record HasOneMore (old new : Story) (e : Entry) : Type 0 where
  pub entries : new.entries.items ≡ old.entries.items ++ e ∷ []
  pub nodes : (n : NodeId) → flags_at new.nodes.entries n ≡ after_entry old.last old.ticks e n (flags_at old.nodes.entries n)
  pub ticks : new.ticks ≡ ticks_after old.ticks e
  pub last : new.last ≡ last_after old.last e
  pub size : length new.entries.items < 2 ^ 32

-- just as it was
pub record IsSameStory (old new : Story) : Type 0 where
  pub entries : new.entries.items ≡ old.entries.items
  pub nodes : new.nodes ≡ old.nodes
  pub ticks : new.ticks ≡ old.ticks
  pub last : new.last ≡ old.last

-- Each node stands as this world shows it, where so many Ticks stand and this is the last one's moment.
pub record Fits (w : World) (nodes : List (NodeId × NodeFlags)) (count : ℕ) (moment : Option ℕ) : Type 0 where
  pub flags : (n : NodeId) → w.flags n ≡ shown (flags_at nodes n)
  pub heard : (n : NodeId) (f : NodeFlags) → flags_at nodes n ≡ Some f → w.heard n ≡ heard_last moment count f
  pub past : (n : NodeId) (f : NodeFlags) → flags_at nodes n ≡ Some f → f.heard ≤ count
  pub ticks : w.ticks ≡ count
  pub last : w.last ≡ moment
  pub ticked : is_some moment ≡ true → 1 ≤ count
