-- What a wire keeps may go to another thread, and a lock over a wire may be shared.
use denote.RattleType.{RattleType}
use denote.Param.Send.{IsSend, IsSync, sendable, view_send}
use denote.Param.SendFields.{declared_send}
use Rattle.std.specs.contracts.alloc.Global as Global
use Rattle.std.specs.contracts.impls.GlobalAllocator.TheImpl as allocator
use Rattle.std.proofs.Crossing.{Vec-send, send, sync, frees}
use Rattle.atomic_table.specs.contracts.shared.Seat as Seat
use Rattle.atomic_table.specs.declared.shared.TableRule as TableRule
use Rattle.atomic_table.proofs.shared.Seat.TheSendSync as seat
use Rattle.seat_lock.specs.contracts.locks.LockTable as LockTable
use Rattle.seat_lock.specs.contracts.views.View as View
use Rattle.seat_lock.specs.contracts.views.Founding as Founding
use Rattle.seat_lock.specs.contracts.views.LockRule as LockRule
use Rattle.seat_lock.specs.contracts.views.LockRuleTableRuleViewFounding.TheImpl as locked
use Rattle.seat_lock.proofs.locks.LockTable.TheSendSync as lock
use Rattle.wire_core.specs.contracts.storied.WireStoried.TheImpl as storied
use Rattle.world_core.specs.contracts.entries.Entry as Entry
use Rattle.medium_port.specs.declared.media.Medium as medium
use Rattle.stream_port.specs.declared.clocks.Clock as clock
use Rattle.stream_port.specs.declared.fates.Fates as fates
use Rattle.world_core.proofs.traces.Opened.TheSendSync as opened
use Rattle.world_core.proofs.traces.Sent.TheSendSync as sent
use Rattle.message_core.proofs.flights.Flight.TheSendSync as flight
use Rattle.wire_core.proofs.stories.Story.TheSendSync as story
use Rattle.wire_core.specs.contracts.wires.Wire as Wire
use Rattle.wire_core.specs.contracts.wires.Wire.TheInside as Inside
use Rattle.wire_core.proofs.ScriptCrosses.{n32, n64}

module _ (F C M : RattleType) (f : fates.Ghosts F.Denot) (c : clock.Ghosts C.Denot) (m : medium.Ghosts M.Denot) (sf : IsSend F) (sc : IsSend C) where
  pub inside_send : IsSend (Inside.the_row F C M f c m)
  inside_send = declared_send (Inside.the_type F C M f c m) (
    search sendable depth 20,
    (
      n32,
      (
        search sendable depth 20,
        (
          n64,
          (
            Vec-send _ opened.the_send,
            (
              Vec-send _ sent.the_send,
              (
                story.the_send,
                (
                  flight.the_send,
                  (search (sf, sendable), (search (sc, sendable), (search sendable depth 20, (search sendable depth 20, (search sendable, (search sendable depth 20, tt)))))),
                ),
              ),
            ),
          ),
        ),
      ),
    ),
  )

  pub wire_send : IsSend (Wire.the_row F C M f c m)
  wire_send = view_send _ _ _ _ _ inside_send

  abbrev W : RattleType
  W = Wire.the_row F C M f c m

  abbrev V : RattleType
  V = View.the_row W Entry.the_row

  pub pass_send : IsSend (Seat.the_row W V)
  pass_send = seat.the_send W V wire_send

  abbrev pub rule : TableRule.Ghosts (LockRule.the_row W).Denot W.Denot V.Denot (Founding.the_row W).Denot
  rule = locked.ghosts W Entry.the_row (storied.ghosts F C M f storied.no_dict c storied.no_dict m storied.no_dict storied.no_dict) locked.no_dict

  pub lock_sync : IsSync (LockTable.the_row W V (Founding.the_row W) (LockRule.the_row W) Global.the_row rule allocator.ghosts)
  lock_sync = lock.the_sync W V (Founding.the_row W) (LockRule.the_row W) Global.the_row rule allocator.ghosts wire_send send sync frees
