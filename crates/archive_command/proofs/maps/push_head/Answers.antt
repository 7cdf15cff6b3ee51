use Rattle.archive_command.proofs.Names.{◌∙◌, ◌++◌, ap, codes, append_assoc, mark_text}
use Rattle.report_writer.specs.Reports.{named}
use Rattle.archive_command.proofs.maps.push_head.Goals as goal

pub returns : goal.returns
returns c =
    c.in_ok-push_mark.ensures
    ∙ ap (λ xs. xs ++ mark_text c.args.mark) c.in_ok-push_named.ensures
    ∙ append_assoc c.args.out.now.items (named (codes "asof repository ") c.args.repository) (mark_text c.args.mark)
