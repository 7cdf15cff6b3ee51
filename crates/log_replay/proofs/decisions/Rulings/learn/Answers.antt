use Rattle.std.proofs.Common.{sym, ◌∙◌}
use Rattle.std.proofs.lemmas.Bool.{true≢false}
use Rattle.log_replay.proofs.DecisionLemmas.{blamed, mislearned}
use Rattle.log_replay.proofs.decisions.Rulings.learn.Goals as goal

pub returns-clause-based : goal.returns-clause-based
returns-clause-based c = λ k r inside there decided based.
    blamed c.args.self.now c.blame.new.self c.args.stamp k c.blame.ensures.decided c.blame.ensures.one
    (λ none. mislearned k c.args.self.now r c.args.stamp c.args.committed decided (λ e. true≢false (sym (c.is_so.ensures.1 (c.get.ensures ∙ e)) ∙ c.if-is_so.false)) inside there none) based
