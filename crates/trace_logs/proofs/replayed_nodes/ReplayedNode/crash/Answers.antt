use Rattle.trace_logs.proofs.Names.{all_effects, opened_mind, AreEffects, StandsFor, refl, sym, ap, subst, ◌∙◌, ◌++◌, take}
use Rattle.trace_logs.proofs.ReplayedNodeLemmas.{crashed-lives, crashed-sound, log-kept}
use Rattle.trace_logs.proofs.replayed_nodes.ReplayedNode.crash.Goals as goal

pub open_core-requires-clause-log : goal.open_core-requires-clause-log
open_core-requires-clause-log c =
    subst AreEffects (sym (c.as_slice.ensures.value ∙ (c.in_ok-append.ensures.items ∙ ap (λ z. c.args.self.now.gated.items ++ z) (c.truncate.ensures.items ∙ ap (λ v. take c.args.kept v.items) c.replace-found.ensures.value))))
    (log-kept c.args.kept c.args.self.now.gated.items c.args.self.now.fresh.items c.requires.sound.log)

pub returns-clause-lives : goal.returns-clause-lives
returns-clause-lives c b l run start h =
    crashed-lives b c.args.self.now (record c.args.self.now { gated = c.append.new.self; fresh = c.replace-found.new.dest; outs = c.clear.new.self; core = c.in_ok-self.field-0 }) l c.args.kept h refl
    (c.in_ok-append.ensures.items ∙ ap (λ z. c.args.self.now.gated.items ++ z) (c.truncate.ensures.items ∙ ap (λ v. take c.args.kept v.items) c.replace-found.ensures.value)) (ap (λ v. v.items) c.replace-found.ensures.after ∙ c.new.ensures.items) c.clear.ensures.items
    (subst (λ m. StandsFor b c.args.self.now.node c.append.new.self.items (opened_mind m) c.in_ok-self.field-0) (sym start)
    (subst (λ z. StandsFor b c.args.self.now.node z (opened_mind c.args.start) c.in_ok-self.field-0) c.as_slice.ensures.value
    (let own = c.in_ok-acts.ensures.own b c.args.self.now.node (all_effects l) l.mind h.core in c.in_ok-self.ensures.stands b run own.0 own.1)))

pub returns-clause-sound : goal.returns-clause-sound
returns-clause-sound c =
    crashed-sound c.args.self.now (record c.args.self.now { gated = c.append.new.self; fresh = c.replace-found.new.dest; outs = c.clear.new.self; core = c.in_ok-self.field-0 }) c.args.kept c.requires.sound refl c.in_ok-self.ensures.kind c.in_ok-self.ensures.able
    (c.in_ok-append.ensures.items ∙ ap (λ z. c.args.self.now.gated.items ++ z) (c.truncate.ensures.items ∙ ap (λ v. take c.args.kept v.items) c.replace-found.ensures.value)) (ap (λ v. v.items) c.replace-found.ensures.after ∙ c.new.ensures.items) c.clear.ensures.items
