use Rattle.wire_core.proofs.Names.{Post, fates_of, post_of, sent_by, Standing, IsCopyOf, TookAll, WireParts, world_of, List, map, IsTrue, refl, sym, ap, subst, ◌∙◌}
use Rattle.wire_core.proofs.ChangeLemmas.{take-more}
use Rattle.wire_core.proofs.DueLemmas.{is-copy}
use Rattle.wire_core.proofs.FitLemmas.{behind-is}
use Rattle.wire_core.proofs.QuietLemmas.{all-taken}
use Rattle.wire_core.proofs.wires.Wire.take.Goals as goal

pub invariant_of-self-2 : goal.invariant_of-self-2
invariant_of-self-2 g c =
    let up = rw (← c.self.view_is) at c.requires.up in
    take-more _ _ _ _ _ _ _ _ _ c.self.invariant c.if-self.false c.args.node c.in-Some.arrival _ c.take.new.self refl c.in_ok-add.ensures.ok up (rw (← c.self.view_is) at c.requires.gone)
    (sym (behind-is _ _ _ _ c.self.invariant.fits c.args.node up) ∙ ap (λ (x : Standing). x.behind) (sym c.standing.ensures) ∙ c.if-standing.false) (rw c.in-Some.is at c.in_ok-arrival.ensures.arrived) c.in_ok-arrival.ensures.taken

pub returns-in_default-clause-all : goal.returns-in_default-clause-all
returns-in_default-clause-all g c =
    subst (λ (v : WireParts). IsTrue g.M.Medium.tells → TookAll (fates_of v.sent) (world_of v) c.args.node) c.self.view_is
    (λ t. all-taken _ _ _ _ _ c.self.invariant c.if-self.false t c.args.node (rw (← c.self.view_is) at c.requires.up) (rw c.in_default.is at c.in_ok-arrival.ensures.arrived))

pub returns-clause-message : goal.returns-clause-message
returns-clause-message g c =
    let h = c.self.invariant in
    let f = h.flown c.if-self.false in
    subst (λ (v : WireParts). IsCopyOf (map post_of v.sent) c.args.node c.in-Some.arrival) c.self.view_is
    (is-copy _ _ _ f.marks f.tied h.in_range c.args.node c.in-Some.arrival (rw c.in-Some.is at c.in_ok-arrival.ensures.arrived))

pub returns-clause-told : goal.returns-clause-told
returns-clause-told g c =
    let h = c.self.invariant in
    let f = h.flown c.if-self.false in
    subst (λ (v : WireParts). IsTrue g.M.Medium.tells → IsCopyOf (sent_by (world_of v)) c.args.node c.in-Some.arrival) c.self.view_is
    (λ t. subst (λ (posts : List Post). IsCopyOf posts c.args.node c.in-Some.arrival) (h.sent t) (is-copy _ _ _ f.marks f.tied h.in_range c.args.node c.in-Some.arrival (rw c.in-Some.is at c.in_ok-arrival.ensures.arrived)))
