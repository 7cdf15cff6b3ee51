use Rattle.pseudo_time.proofs.ByteOrder.{slice_cmp-time_bytes}
use Rattle.pseudo_time.proofs.times.order_of_bytes.Goals as goal

pub returns-clause-order : goal.returns-clause-order
returns-clause-order c = slice_cmp-time_bytes
