use Rattle.std.proofs.Common.{◌∷◌, [], ◌++◌, ap, subst, ◌∙◌}
use Rattle.run_volumes.specs.Opening.TheVariants.{Open}
use Rattle.run_volumes.specs.Openings.{IsOpen}
use Rattle.retire_command.proofs.RetireLemmas.{carried-out, fresh-empty, fresh-place, last-opened, last-stands}
use Rattle.retire_command.proofs.carrying.carry_out.Goals as goal

pub carry_into-retired-requires-clause-empty : goal.carry_into-retired-requires-clause-empty
carry_into-retired-requires-clause-empty g c = λ t.
    let items = c.in-Some-Open.ensures.items ∙ ap (λ o. c.pop.new.self.items ++ o ∷ []) c.in-Some-Open.field-0-is in
    (last-stands g.M.Medium c.args.openings.items c.pop.new.self.items (Open c.in-Some-Open.store c.in-Some-Open.field-0-1) c.requires.stands items).2 t
    ∙ fresh-empty g.M.Medium c.args.openings.items c.pop.new.self.items c.in-Some-Open.store c.in-Some-Open.field-0-1 c.requires.ready.volume c.requires.ends items c.requires.ready.is_fresh

pub unreachable-requires : goal.unreachable-requires
unreachable-requires g c =
    subst IsOpen c.in-Some-Shut.field-0-is (last-opened g.M.Medium c.args.openings.items c.pop.new.self.items c.in-Some-Shut.field-0 c.requires.ready.opened c.in-Some-Shut.ensures.items)

pub unreachable-requires-in-Some-Wanting : goal.unreachable-requires-in-Some-Wanting
unreachable-requires-in-Some-Wanting g c =
    subst IsOpen c.in-Some-Wanting.field-0-is (last-opened g.M.Medium c.args.openings.items c.pop.new.self.items c.in-Some-Wanting.field-0 c.requires.ready.opened c.in-Some-Wanting.ensures.items)

pub returns-clause-came : goal.returns-clause-came
returns-clause-came g c =
    let items = c.in-Some-Open.ensures.items ∙ ap (λ o. c.pop.new.self.items ++ o ∷ []) c.in-Some-Open.field-0-is in
    carried-out g.M.Medium c.args.node c.args.mark c.args.openings.items c.pop.new.self.items c.in-Some-Open.store c.in-Some-Open.field-0-1 c.give_back-media.result.items c.push_reserved.new.self.items c.carry_into-retired.result.1
    c.args.prepared.forward c.args.prepared.line c.carry_into-retired.result.0 c.requires.ready
    (fresh-place g.M.Medium c.args.openings.items c.pop.new.self.items (Open c.in-Some-Open.store c.in-Some-Open.field-0-1) c.requires.ready.volume c.requires.ends items c.requires.ready.is_fresh) items
    (fresh-empty g.M.Medium c.args.openings.items c.pop.new.self.items c.in-Some-Open.store c.in-Some-Open.field-0-1 c.requires.ready.volume c.requires.ends items c.requires.ready.is_fresh)
    c.requires.stands c.give_back-media.ensures.back c.push_reserved.ensures.items c.carry_into-retired.ensures
