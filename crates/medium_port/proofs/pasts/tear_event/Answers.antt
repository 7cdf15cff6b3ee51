use Rattle.medium_port.proofs.Names.{inl, [], ◌∷◌, ℕ, List, length, refl, sym, ap, subst, arith, Event, Span, Among, spans_of}
use Rattle.medium_port.proofs.pasts.tear_event.Goals as goal

pub tear-requires-clause-page : goal.tear-requires-clause-page
tear-requires-clause-page c =
    let span : Span = record { page = c.in-Wrote.page; at = c.in-Wrote.at; bytes = c.in-Wrote.bytes } in
    let fit = c.requires span (subst (λ (e : Event). Among (spans_of (e ∷ [])) span) (sym c.in-Wrote.is) (inl refl)) in
    fit.page

pub tear-requires-clause-range : goal.tear-requires-clause-range
tear-requires-clause-range c =
    let span : Span = record { page = c.in-Wrote.page; at = c.in-Wrote.at; bytes = c.in-Wrote.bytes } in
    let fit = c.requires span (subst (λ (e : Event). Among (spans_of (e ∷ [])) span) (sym c.in-Wrote.is) (inl refl)) in
    let size = ap (λ (l : List ℕ). length l) c.as_slice.ensures in
    let range = fit.range in
    omega (arith, size, range)
