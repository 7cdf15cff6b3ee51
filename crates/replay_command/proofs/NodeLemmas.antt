-- The nodes of a folder, whose volumes are taken one after another.
use Rattle.std.proofs.Common.{◌≡◌, ◌<◌, ◌≤◌, ◌-◌, ℕ, suc, Bool, true, false, List, length, ap, refl, arith, if◌then◌else◌}
use Rattle.std.specs.Prelude.{nat_lt, Result, Ok, Vec}
use Rattle.std.specs.declared.alloc.Global.{Global}
use Rattle.std.proofs.lemmas.Bool.Decides.{nat_tests}
use Rattle.pseudo_time.specs.Nodes.{broker, repository}
use Rattle.pseudo_time.specs.declared.nodes.NodeId.{NodeId}
use Rattle.pseudo_time.specs.declared.nodes.NodeKind.{NodeKind}
use Rattle.pseudo_time.specs.declared.nodes.NodeKind.TheVariants.{Broker, Repository}
use Rattle.snapshot_command.specs.Kept.{AllKept}
use Rattle.snapshot_command.specs.KeptMedium.{Kept}
use Rattle.snapshot_command.specs.Media.{Media}
use Rattle.snapshot_command.specs.Nodes.{AreNodes, AreRead, Volumes}
use Rattle.snapshot_command.specs.Outcome.{Outcome}
use Rattle.snapshot_command.specs.Shelves.{ShelfSight}
use Rattle.snapshot_command.proofs.NodeLemmas.{nodes-kept, read-all}
use Rattle.replay_command.specs.Nodes.{node_at, node_log}
use Rattle.replay_command.specs.declared.logs.NodeLog.{NodeLog}

-- ---- no two of them are one

abbrev number_of : NodeId → ℕ
number_of n = n.number

abbrev is_broker : NodeKind → Bool
is_broker Broker = true
is_broker Repository = false

chosen : (a b : Bool) (i j : ℕ) → nat_lt i 16 ≡ a → nat_lt j 16 ≡ b → i < j → (if a then repository (suc i) else broker (i - 15)) ≡ (if b then repository (suc j) else broker (j - 15)) → ⊥
chosen true true i j p q low e = let n : suc i ≡ suc j = ap number_of e in omega (arith, n, low)
chosen true false i j p q low e = let c : false ≡ true = ap (λ (x : NodeId). is_broker x.kind) e in cc c
chosen false true i j p q low e = let c : true ≡ false = ap (λ (x : NodeId). is_broker x.kind) e in cc c
chosen false false i j p q low e =
    let n : i - 15 ≡ j - 15 = ap number_of e in
    let high : 16 ≤ i = grind (arith, nat_tests) in
    omega (arith, n, low, high)

pub nodes-differ : (i j : ℕ) → i < j → node_at i ≡ node_at j → ⊥
nodes-differ i j low e = chosen (nat_lt i 16) (nat_lt j 16) i j refl refl low e

-- ---- what was taken

module _ {M : Type 0} (w : Media M) where
  pub all-read : (vs : List (Volumes w)) (r : Result (Vec NodeLog Global) Outcome) (logs : Vec NodeLog Global) → AreRead node_log w node_at 32 vs r → r ≡ Ok logs → length logs.items ≡ 32
  all-read vs r logs are is = read-all node_at nodes-differ node_log w 32 vs r logs logs.items are is refl

  pub replay-kept : (old new : ShelfSight) (vs : List (Volumes w)) (kept : List (Kept M)) → AreNodes node_at w old new vs kept → AllKept old new kept
  replay-kept = nodes-kept node_at nodes-differ node_log w
