use Rattle.watch_command.proofs.Names.{◌∙◌, ◌++◌, ap, codes, append_assoc, rule_text}
use Rattle.report_writer.specs.Reports.{named}
use Rattle.watch_command.proofs.lines.push_head.Goals as goal

pub returns : goal.returns
returns c =
    c.in_ok-push_rule.ensures
    ∙ ap (λ xs. xs ++ rule_text c.args.rule) c.in_ok-push_named.ensures
    ∙ append_assoc c.args.out.now.items (named (codes "watch repository ") c.args.repository) (rule_text c.args.rule)
