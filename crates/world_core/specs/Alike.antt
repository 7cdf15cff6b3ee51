-- What entries alone decide, whatever scripts, acts and logs say.
use Rattle.std.specs.Prelude.{◌≡◌, is_some}
use Rattle.pseudo_time.specs.declared.nodes.NodeId.{NodeId}
use Rattle.world_core.specs.Walks.{Base, World, opened_log}

-- just the same nodes were opened
abbrev pub HaveSameNodes : Base → Base → Type 0
HaveSameNodes b c = (n : NodeId) → is_some (opened_log b.opened n) ≡ is_some (opened_log c.opened n)

-- two worlds that show the same of it
pub record Alike (w v : World) : Type 0 where
  pub flags : (n : NodeId) → w.flags n ≡ v.flags n
  pub heard : (n : NodeId) → w.heard n ≡ v.heard n
  pub taken : w.taken ≡ v.taken
  pub ticks : w.ticks ≡ v.ticks
  pub last : w.last ≡ v.last
  pub moved : w.moved ≡ v.moved
