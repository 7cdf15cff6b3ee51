use Rattle.report_writer.proofs.Names.{◌++◌, ◌∙◌, ap, flat_map}
use Rattle.report_writer.specs.Reports.{head_text, act_text}
use Rattle.report_writer.proofs.PieceLemmas.{three_pieces}
use Rattle.report_writer.proofs.writing.push_report.Goals as goal

pub returns : goal.returns
returns c =
    three_pieces c.args.out.now.items c.push_head.new.out.items c.push_acts.new.out.items c.push_rest.new.out.items
    (head_text c.args.report.now.run) (flat_map act_text c.args.report.now.acts) _
    c.in_ok-push_head.ensures
    (c.in_ok-push_acts.ensures ∙ ap (λ z. c.push_head.new.out.items ++ flat_map act_text z) c.as_slice.ensures)
    c.in_ok-push_rest.ensures
