use Rattle.report_writer.proofs.Names.{sym, subst, ◌++◌, option_to_list, mark_of, marks, Tells}
use Rattle.effect_form.specs.declared.effects.Effect.{Effect}
use Rattle.report_writer.proofs.TellingLemmas.{holds-other, holds-apart, holds-floor, other-object}
use Rattle.report_writer.proofs.tellings.Telling.read.Goals as goal

pub returns-in_default-clause-tells : goal.returns-in_default-clause-tells
returns-in_default-clause-tells c = λ log h.
    let s = c.args.self.now in
    subst (λ (f : Effect). Tells (option_to_list (mark_of f) ++ marks log) s) (sym c.in-Put.is)
    (holds-other s.object (marks log) s.origin s.versions.items s.settles c.in-Put.object c.in-Put.start c.in-Put.value (other-object c.in-Put.object s.object c.if-eq.ensures) h)

pub returns-in_default-2-clause-tells : goal.returns-in_default-2-clause-tells
returns-in_default-2-clause-tells c = λ log h.
    let s = c.args.self.now in
    subst (λ (f : Effect). Tells (option_to_list (mark_of f) ++ marks log) s) (sym c.in-Stretch.is)
    (holds-apart s.object (marks log) s.origin s.versions.items s.settles c.in-Stretch.object c.in-Stretch.at (other-object c.in-Stretch.object s.object c.if-eq-2.ensures) h)

pub returns-in-Mark-clause-tells : goal.returns-in-Mark-clause-tells
returns-in-Mark-clause-tells c = λ log h.
    let s = c.args.self.now in
    subst (λ (f : Effect). Tells (option_to_list (mark_of f) ++ marks log) s) (sym c.in-Mark.is)
    (holds-floor s.object (marks log) s.origin s.versions.items s.settles c.in-Mark.at h)
