use Rattle.report_writer.proofs.PieceLemmas.{three_pieces}
use Rattle.report_writer.proofs.writing.push_wire_line.Goals as goal

pub returns : goal.returns
returns c =
    three_pieces c.args.out.now.items c.push_two.new.out.items c.push_two-2.new.out.items c.push.new.self.items _ _ _
    c.in_ok-push_two.ensures c.in_ok-push_two-2.ensures c.in_ok-push.ensures.items
