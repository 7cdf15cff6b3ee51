-- A shared wire may be used by several threads.
use denote.RattleType.{RattleType}
use denote.Param.Send.{IsSend, IsSync}
use denote.Param.SendFields.{declared_sync}
use Rattle.medium_port.specs.declared.media.Medium as medium
use Rattle.stream_port.specs.declared.clocks.Clock as clock
use Rattle.stream_port.specs.declared.fates.Fates as fates
use Rattle.wire_core.proofs.Crosses.{lock_sync}
use Rattle.wire_lock.specs.contracts.shared.SharedWire as SharedWire

module _ (F C M : RattleType) (f : fates.Ghosts F.Denot) (c : clock.Ghosts C.Denot) (m : medium.Ghosts M.Denot) (sf : IsSend F) (sc : IsSend C) where
  pub shared_sync : IsSync (SharedWire.the_row F C M f c m)
  shared_sync = declared_sync (SharedWire.the_type F C M f c m) (lock_sync F C M f c m sf sc, tt)
