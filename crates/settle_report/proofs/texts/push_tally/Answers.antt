use Rattle.report_writer.proofs.PieceLemmas.{four_pieces}
use Rattle.settle_report.proofs.PieceLemmas.{two_pieces}
use Rattle.settle_report.proofs.texts.push_tally.Goals as goal

pub returns : goal.returns
returns c =
    four_pieces c.args.out.now.items c.push_named.new.out.items c.push_named-2.new.out.items c.push_named-3.new.out.items c.push.new.self.items _ _ _ _
    c.in_ok-push_named.ensures c.in_ok-push_named-2.ensures c.in_ok-push_named-3.ensures
    (two_pieces c.push_named-3.new.out.items c.push_named-4.new.out.items c.push.new.self.items _ _ c.in_ok-push_named-4.ensures c.in_ok-push.ensures.items)
