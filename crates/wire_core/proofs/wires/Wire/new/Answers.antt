use Rattle.wire_core.proofs.Names.{Adds, start, names_of, IsOpened, sym, ap, subst, ◌∙◌, ◌∷◌, [], origin_with}
use Rattle.wire_core.proofs.NewLemmas.{new-sound}
use Rattle.wire_core.proofs.wires.Wire.new.Goals as goal

pub invariant_of-result : goal.invariant_of-result
invariant_of-result g c =
    new-sound _ (origin_with c.args.run c.of.result.value c.min-start.result c.args.opened.items (g.F.Fates.asked c.of-first_fates.result.value) (g.C.Clock.answers c.of-first_clock.result.value)) _ _ _ _ _ c.moment.result
    c.new-2.ensures.items (ap g.F.Fates.asked (sym c.of-first_fates.ensures)) (subst (λ x. Adds (g.C.Clock.answers x) (g.C.Clock.answers c.moment.new.self) (c.moment.result ∷ [])) (sym c.of-first_clock.ensures) c.moment.ensures) c.min-start.ensures
    (subst (λ names. IsOpened names c.in-Ok-open.story) (c.as_slice-2.ensures.value ∙ c.in-Ok.ensures ∙ ap names_of c.as_slice.ensures.value) c.in-Ok-open.ensures) (c.in-Ok-new.ensures ∙ ap start (c.as_slice-3.ensures.value ∙ c.in-Ok.ensures ∙ ap names_of c.as_slice.ensures.value))
