use Rattle.report_writer.proofs.Names.{◌++◌, ◌∙◌, ap, flat_map, final_text, down_text, totals_text}
use Rattle.report_writer.proofs.PieceLemmas.{four_pieces}
use Rattle.report_writer.proofs.writing.push_rest.Goals as goal

pub returns : goal.returns
returns c =
    four_pieces c.args.out.now.items c.push_finals.new.out.items c.push_downs.new.out.items c.push_totals.new.out.items c.push_wire.new.out.items
    (flat_map final_text c.args.report.now.finals) (flat_map down_text c.args.report.now.downs) (totals_text c.args.report.now.acts) _
    (c.in_ok-push_finals.ensures ∙ ap (λ z. c.args.out.now.items ++ flat_map final_text z) c.as_slice.ensures)
    (c.in_ok-push_downs.ensures ∙ ap (λ z. c.push_finals.new.out.items ++ flat_map down_text z) c.as_slice-2.ensures)
    (c.in_ok-push_totals.ensures ∙ ap (λ z. c.push_downs.new.out.items ++ totals_text z) c.as_slice-3.ensures)
    c.in_ok-push_wire.ensures
