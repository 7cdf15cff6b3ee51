use Rattle.std.proofs.Common.{arith}
use Rattle.run_volumes.proofs.ShelfLemmas.{keep-joined}
use Rattle.run_volumes.proofs.kept.+keep_volumes.Goals as goal

pub returns-clause-kept : goal.returns-clause-kept
returns-clause-kept g t c =
    keep-joined c.args.node c.pop.new.self.items c.args.media.items c.in-Some.medium c.args.kept.items c.keep_volumes-kept.result.items c.keep_one.result.items c.len-volume.result
    c.in-Some.ensures.items (omega (arith, c.len-volume.ensures, c.pop.new.self.ok)) c.keep_volumes-kept.ensures.kept c.keep_one.ensures.kept
