use Rattle.std.proofs.Common.{inl, refl, sym, ◌∙◌}
use Rattle.log_replay.proofs.DecisionLemmas.{put-based, put-grown, put-kept}
use Rattle.log_replay.proofs.decisions.Rulings.decide_home.Goals as goal

pub returns-in_ok-put-in-None-clause-grown : goal.returns-in_ok-put-in-None-clause-grown
returns-in_ok-put-in-None-clause-grown c = put-grown c.args.self.now (record { decided = c.put.new.self; least = c.args.self.now.least }) c.args.stamp c.args.committed c.in_ok-put-in-None.ensures.ok refl (sym c.get.ensures ∙ c.in-None.is)

pub returns-in_ok-put-in-None-clause-kept : goal.returns-in_ok-put-in-None-clause-kept
returns-in_ok-put-in-None-clause-kept c = inl (put-kept c.args.self.now (record { decided = c.put.new.self; least = c.args.self.now.least }) c.args.stamp c.args.committed c.in_ok-put-in-None.ensures.ok)

pub returns-in_ok-put-in-None-clause-based : goal.returns-in_ok-put-in-None-clause-based
returns-in_ok-put-in-None-clause-based c = λ k d there is based.
    put-based c.args.self.now (record { decided = c.put.new.self; least = c.args.self.now.least }) c.args.stamp k d c.args.committed c.in_ok-put-in-None.ensures.ok refl there is based
