use Rattle.seat_lock.specs.Words.{base_of}
use Rattle.run_starts.proofs.DownLemmas.{unseen-up}
use Rattle.run_starts.proofs.downs.down_visit.Goals as goal

pub down-pass-requires-clause-up : goal.down-pass-requires-clause-up
down-pass-requires-clause-up g c = unseen-up (base_of c.args.wire.now.lock) c.args.node c.args.opening.now c.args.pass c.requires.unseen
