use Rattle.std.proofs.Common.{◌+◌, ◌++◌, ap, sym, ◌∙◌}
use Rattle.std.specs.List.{flat_map}
use Rattle.pseudo_time.specs.Nodes.{repository}
use Rattle.trace_report.specs.Reports.{logs_by, nodes_to}
use Rattle.settle_report.proofs.PieceLemmas.{listed-more, nodes-more}
use Rattle.settle_report.specs.Texts.{repository_line}
use Rattle.settle_report.specs.Versions.{open_in}
use Rattle.settle_report.proofs.texts.push_repositories.Goals as goal

pub loop-below-preserved : goal.loop-below-preserved
loop-below-preserved c =
    let before = logs_by c.args.before.now in
    let after = logs_by c.args.after.now in
    let n = c.loop-below.below in
    let more = sym (nodes-more n) in (
      listed-more (repository_line before after) (nodes_to repository n) (repository (n + 1)) c.args.out.now.items c.push_repository.new.out.items
          (c.in_ok-push_repository.ensures.out ∙ ap (λ z. z ++ repository_line before after (repository (n + 1))) c.loop-below.invariant.0)
          ∙ ap (λ nodes. c.args.out.now.items ++ flat_map (repository_line before after) nodes) more,
      listed-more (λ m. open_in (after m)) (nodes_to repository n) (repository (n + 1)) c.args.undecided.now.items c.push_repository.new.undecided.items
          (c.in_ok-push_repository.ensures.undecided ∙ ap (λ z. z ++ open_in (after (repository (n + 1)))) c.loop-below.invariant.1)
          ∙ ap (λ nodes. c.args.undecided.now.items ++ flat_map (λ m. open_in (after m)) nodes) more,
    )
