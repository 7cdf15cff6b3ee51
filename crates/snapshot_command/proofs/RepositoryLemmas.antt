-- Repositories, whose volumes are taken one after another.
use Rattle.std.proofs.Common.{◌≡◌, ◌≤◌, ◌<◌, ℕ, suc, List, length, ap, arith}
use Rattle.std.specs.Prelude.{Result, Ok, Vec}
use Rattle.std.specs.declared.alloc.Global.{Global}
use Rattle.pseudo_time.specs.declared.nodes.NodeId.{NodeId}
use Rattle.object_history.specs.declared.marks.Mark.{Mark}
use Rattle.watch_command.specs.Archives.{joined_marks}
use Rattle.watch_command.specs.Kept.{AllKept}
use Rattle.watch_command.specs.KeptMedium.{Kept}
use Rattle.watch_command.specs.Media.{Media}
use Rattle.watch_command.specs.Outcome.{Outcome}
use Rattle.watch_command.specs.Shelves.{ShelfSight}
use Rattle.snapshot_command.specs.Nodes.{AreRead, Volumes}
use Rattle.snapshot_command.specs.Repositories.{AreRepositories, in_order}
pub use Rattle.snapshot_command.proofs.NodeLemmas.{as-many-logs}
use Rattle.snapshot_command.proofs.NodeLemmas.{nodes-kept, read-all}

-- no two of them are one
pub in-order : (i j : ℕ) → i < j → in_order i ≡ in_order j → ⊥
in-order i j low e = let n : suc i ≡ suc j = ap (λ (x : NodeId). x.number) e in absurd (omega (arith, low, n))

module _ {M : Type 0} (w : Media M) where
  pub read-few : (vs : List (Volumes w)) (r : Result (Vec (List Mark) Global) Outcome) (known : Vec (List Mark) Global) (shown : List (List Mark)) → AreRead joined_marks w in_order 16 vs r → r ≡ Ok known → shown ≡ known.items → length shown ≤ 16
  read-few vs r known shown are is same = let e = read-all in_order in-order joined_marks w 16 vs r known shown are is same in omega (arith, e)

  pub repositories-kept : (old new : ShelfSight) (vs : List (Volumes w)) (kept : List (Kept M)) → AreRepositories w old new vs kept → AllKept old new kept
  repositories-kept = nodes-kept in_order in-order joined_marks w
