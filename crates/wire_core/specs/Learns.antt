-- Learns that are new.
use Rattle.std.specs.Prelude.{◌≡◌, Bool, false, List, ◌∷◌, ◌++◌}
use Rattle.pseudo_time.specs.StampParts.{StampParts}
use Rattle.pseudo_time.specs.declared.nodes.NodeId.{NodeId}
use Rattle.repository_log.specs.Logs.{knows}
use Rattle.world_core.specs.declared.entries.Entry.{Entry}
use Rattle.world_core.specs.declared.entries.Entry.TheVariants.{Learn}
use Rattle.world_core.specs.Walks.{Base, Life, World, all_effects, walk}

-- by its log with its new effects, it doesn't know the attempt
abbrev pub IsNewTo : Life → StampParts → Type 0
IsNewTo l s = knows (all_effects l) s ≡ false

-- each Learn stands where the repository doesn't know the attempt
abbrev pub LearnsAreNew : Base → List Entry → Type 0
LearnsAreNew b es = (front : List Entry) (n : NodeId) (s : StampParts) (c : Bool) (rest : List Entry) → es ≡ front ++ Learn n s c ∷ rest → IsNewTo ((walk b front).life n) s

-- the entry is no Learn of an attempt that the repository knows
abbrev pub IsNewIn : World → Entry → Type 0
IsNewIn w e = elim e [ Learn n s c ↦ IsNewTo (w.life n) s | _ ↦ Unit {0} ]
