use Rattle.settle_report.proofs.PieceLemmas.{two_pieces}
use Rattle.settle_report.proofs.texts.push_head.Goals as goal

pub returns : goal.returns
returns c = two_pieces c.args.out.now.items c.push_named.new.out.items c.push.new.self.items _ _ c.in_ok-push_named.ensures c.in_ok-push.ensures.items
