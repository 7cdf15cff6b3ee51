use denote.Exit.{no}
use denote.Param.Send.{IsSend, IsSync, param_send, param_sync, arg_send, arg_sync}
use denote.Param.SendFields.{declared_send}
use Rattle.std.proofs.option.Option.TheSendSync as option
use Rattle.medium_port.specs.contracts.meet_media.MeetMedium as MeetMedium
use Rattle.medium_port.specs.contracts.meet_media.MeetMediumMedium.TheImpl as media
use Rattle.stream_port.specs.contracts.fixed_clocks.FixedClock as FixedClock
use Rattle.stream_port.specs.contracts.fixed_clocks.FixedClockClock.TheImpl as clocks
use Rattle.stream_port.specs.contracts.memory_fates.MemoryFates as MemoryFates
use Rattle.stream_port.specs.contracts.memory_fates.MemoryFatesFates.TheImpl as fates
use Rattle.stream_port.proofs.fixed_clocks.FixedClock.TheSendSync as fixed_clock
use Rattle.stream_port.proofs.memory_fates.MemoryFates.TheSendSync as memory_fates
use Rattle.pseudo_time.proofs.nodes.NodeId.TheSendSync as node
use Rattle.wire_core.proofs.Crosses.{pass_send}
use Rattle.wire_lock.proofs.Crosses.{shared_sync}
use Rattle.wire_lock.specs.contracts.shared.SharedWire as SharedWire
use Rattle.thread_tests.specs.contracts.nodes.Hand as Hand
use Rattle.thread_tests.proofs.nodes.two_nodes.Goals as goal

hand_send : IsSend Hand.the_row
hand_send = declared_send Hand.the_type (node.the_send, (option.the_send _ (pass_send MemoryFates.the_row FixedClock.the_row MeetMedium.the_row fates.ghosts clocks.ghosts media.ghosts memory_fates.the_send fixed_clock.the_send), tt))

test_sync : IsSync (SharedWire.the_row MemoryFates.the_row FixedClock.the_row MeetMedium.the_row fates.ghosts clocks.ghosts media.ghosts)
test_sync = shared_sync MemoryFates.the_row FixedClock.the_row MeetMedium.the_row fates.ghosts clocks.ghosts media.ghosts memory_fates.the_send fixed_clock.the_send

pub by_two-home-requires-send-S : goal.by_two-home-requires-send-S
by_two-home-requires-send-S g c κs within = param_send 1 _ (arg_send _ no _ hand_send)

pub by_two-home-requires-sync-L : goal.by_two-home-requires-sync-L
by_two-home-requires-sync-L g c κs within = param_sync 0 _ (arg_sync _ no _ test_sync)
