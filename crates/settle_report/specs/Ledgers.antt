-- The commit records of repositories, in their order.
use Rattle.std.specs.Prelude.{ℕ, List, reverse, Option, Some, None}
use Rattle.commit_record.specs.declared.states.RecordState.{RecordState}
use Rattle.message_core.specs.Tallies.{numbered}
use Rattle.pseudo_time.specs.StampParts.{StampParts}
use Rattle.pseudo_time.specs.declared.nodes.NodeId.{NodeId}
use Rattle.std.specs.FinMap as finite
use Rattle.pseudo_time.specs.Nodes.{repository}
use Rattle.effect_form.specs.declared.effects.Effect.{Effect}
use Rattle.std.specs.List.{AllZip}
use Rattle.trace_report.specs.Reports.{nodes_to}
use Rattle.repository_log.specs.Opening.{AreRecords}
use Rattle.commit_record.specs.States.{States}

-- there is one for each repository up to this number, and each is that of its log
abbrev pub AreLedgers : (repositories : ℕ) → (NodeId → List Effect) → List States → Type 0
AreLedgers repositories logs ledgers = AllZip (λ n s. AreRecords (reverse (logs n)) s) (nodes_to repository repositories) ledgers

-- what one of them says of an attempt
abbrev pub record_by : Option States → StampParts → Option RecordState
record_by None s = None
record_by (Some records) s = finite.get records s

-- and the one of the attempt's home, counted from 1
abbrev pub record_in : List States → StampParts → Option RecordState
record_in ledgers s = record_by (numbered ledgers s.home) s
