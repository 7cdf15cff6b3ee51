-- A broker's core may go to another thread.
use denote.RattleType.{RattleType}
use denote.Hole.{as_row}
use denote.Struct.Field.{u8-field}
use denote.Param.Send.{IsSend, sendable, view_send}
use denote.Param.SendFields.{declared_send}
use Rattle.std.proofs.Crossing.{Box-send, Vec-send, send}
use Rattle.std.proofs.option.Option.TheSendSync as option
use Rattle.medium_port.specs.declared.media.Medium as medium
use Rattle.broker_node.proofs.ScriptCrosses.{n32, act_send, script_send}
use Rattle.value_form.proofs.texts.Bytes.TheSendSync as bytes
use Rattle.message_form.specs.contracts.logs.SnapshotLog as SnapshotLog
use Rattle.message_form.specs.contracts.logs.SnapshotLog.TheInside as SnapshotLogInside
use Rattle.script_run.proofs.machines.Machine.TheSendSync as machine
use Rattle.script_run.proofs.halts.Halt.TheSendSync as halt
use Rattle.script_run.specs.contracts.runs.Run as Run
use Rattle.script_run.specs.contracts.runs.Run.TheInside as RunInside
use Rattle.broker_core.proofs.heards.Heard.TheSendSync as heard
use Rattle.broker_core.proofs.phases.Phase.TheSendSync as phase
use Rattle.broker_core.proofs.notes.Notes.TheSendSync as notes
use Rattle.broker_core.proofs.givens.Given.TheSendSync as given
use Rattle.broker_core.specs.LedgerContracts as Ledger
use Rattle.broker_core.specs.LedgerContracts.TheInside as LedgerInside
use Rattle.broker_core.specs.contracts.brokers.Broker as Broker
use Rattle.broker_core.specs.contracts.brokers.Broker.TheInside as BrokerInside
use Rattle.broker_node.proofs.logs.Log.TheSendSync as log
use Rattle.broker_node.specs.contracts.cores.BrokerCore as BrokerCore

n8 : IsSend (as_row u8-field)
n8 = search sendable depth 20

run_send : IsSend Run.the_row
run_send = view_send _ _ _ _ _ (declared_send RunInside.the_type (script_send, (machine.the_send, (option.the_send _ bytes.the_send, (option.the_send _ halt.the_send, tt)))))

ledger_send : IsSend Ledger.the_row
ledger_send = view_send _ _ _ _ _ (declared_send LedgerInside.the_type (send, (n8, (n32, (Vec-send _ act_send, (notes.the_send, (Vec-send _ given.the_send, (option.the_send _ run_send, tt))))))))

pub log_send : IsSend SnapshotLog.the_row
log_send = view_send _ _ _ _ _ (declared_send SnapshotLogInside.the_type (Vec-send _ (search sendable depth 20), tt))

broker_send : IsSend Broker.the_row
broker_send = view_send _ _ _ _ _ (declared_send BrokerInside.the_type (ledger_send, (heard.the_send, (phase.the_send, (log_send, tt)))))

module _ (M : RattleType) (m : medium.Ghosts M.Denot) (sm : IsSend M) where
  pub core_send : IsSend (BrokerCore.the_row M m)
  core_send = declared_send (BrokerCore.the_type M m) (n8, (n32, (Box-send _ broker_send, (log.the_send M m sm, tt))))
