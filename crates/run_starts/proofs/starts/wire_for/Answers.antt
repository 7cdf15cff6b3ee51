use Rattle.run_starts.proofs.Names.{◌≢◌, List, ap, sym, subst, ◌∙◌, AllPairs, Opened, Origin, WireParts, owners_for, IsSetUp}
use Rattle.std.proofs.lemmas.Result.{IfOk-weaker}
use Rattle.run_starts.proofs.StartLemmas.{owners-differ}
use Rattle.run_starts.proofs.starts.wire_for.Goals as goal

pub shared-requires-clause-differ : goal.shared-requires-clause-differ
shared-requires-clause-differ g c =
    let e = ap (λ (o : Origin). o.opened) c.in-Ok-new.ensures.origin ∙ c.in-Ok.ensures.opened in
    subst (λ (os : List Opened). AllPairs (λ a b. a ≢ b) (owners_for os)) (sym e) (owners-differ c.args.plan.now c.requires.plan.repositories.1 0 c.args.openings.now)

pub returns-in-Ok-new-clause-set_up : goal.returns-in-Ok-new-clause-set_up
returns-in-Ok-new-clause-set_up g c =
    let e = c.in-Ok-new.ensures.origin in
    let here : IsSetUp c.args.plan.now c.args.openings.now (g.F.Fates.asked c.args.fates) (g.C.Clock.answers c.args.clock) c.in-Ok-new.wire.origin = record {
      run = ap (λ (o : Origin). o.run) e;
      acts = ap (λ (o : Origin). o.acts) e;
      opened = ap (λ (o : Origin). o.opened) e ∙ c.in-Ok.ensures.opened;
      start = c.in-Ok-new.ensures.start;
      asked_is = ap (λ (o : Origin). o.asked) e;
      answers_are = ap (λ (o : Origin). o.answers) e;
    } in
    IfOk-weaker c.shared.result _ _ (λ b is. subst (λ (w : WireParts). IsSetUp c.args.plan.now c.args.openings.now (g.F.Fates.asked c.args.fates) (g.C.Clock.answers c.args.clock) w.origin) (sym is) here) c.shared.ensures.base
