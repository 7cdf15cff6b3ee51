use Rattle.broker_node.proofs.Names.{refl, ap, sym, subst, ◌∙◌, ◌++◌, broker, medium_of, appended, appends-all, appends-none, medium_in, HasEffects}
use Rattle.broker_node.proofs.CoreLemmas.{gated-broker}
use Rattle.broker_node.proofs.cores.BrokerCoreStoredCore.append.Goals as goal

pub returns-in-Ok : goal.returns-in-Ok
returns-in-Ok g c =
    let s = c.in-Open.store in
    let r = c.in-Ok.store in
    let now = g.met.M.Medium.reads_now in
    appended c.args.self _ (medium_of s) (ap (λ z. medium_in z) c.in-Open.is) refl (λ b f. f) c.args.effects.now _
    (appends-all g.M.Medium now (medium_of s) (medium_of r) c.args.effects.now s.settled c.in-Ok.ensures.later c.in-Ok.ensures.images c.in-Ok.ensures.any_moment tt g.met.M.Medium.shape c.in-Ok.ensures.size r.settled c.in-Ok.ensures.added
    (λ t. c.in-Ok.ensures.kept t (g.M.Medium.reads (medium_of r)) (now (medium_of r) t)) c.in-Ok.ensures.clean c.requires.ranges c.in-Ok.ensures.used)
    (refl, tt)
    (λ t b l h fresh. (
      gated-broker b (broker c.args.self.number) l c.args.self.broker.value h.0,
      c.in-Ok.ensures.added t ∙ ap (λ es. es ++ c.args.effects.now) (subst (λ z. HasEffects g.M.Medium.reads z l.gated) c.in-Open.is h.1) ∙ ap (λ es. l.gated ++ es) (sym fresh),
    ))

pub returns-in-Err : goal.returns-in-Err
returns-in-Err g c =
    let s = c.in-Open.store in
    appended c.args.self _ (medium_of s) (ap (λ z. medium_in z) c.in-Open.is) refl (λ b f. f) c.args.effects.now _
    (appends-none g.M.Medium g.met.M.Medium.reads_now (medium_of s) c.in-Err.medium c.args.effects.now s.settled c.in-Err.ensures.later c.in-Err.ensures.images c.in-Err.ensures.any_moment c.in-Err.fault c.in-Err.ensures.nothing
    (λ number e. (c.in-Err.ensures.full number e).0) c.in-Err.ensures.full_blank c.in-Err.ensures.failed)
    tt (λ t b l h fresh. tt)
