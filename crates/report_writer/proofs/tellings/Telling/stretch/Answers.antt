use Rattle.report_writer.proofs.Names.{◌∙◌, ◌<◌, List, length, ap, subst, sym, is_visible, first_place, Version}
use Rattle.report_writer.proofs.TellingLemmas.{holds-seen, holds-unseen, raised-set}
use Rattle.report_writer.proofs.tellings.Telling.stretch.Goals as goal

pub returns-in-Some-clause-tells : goal.returns-in-Some-clause-tells
returns-in-Some-clause-tells c = λ m h.
    let s = c.args.self.now in
    holds-seen s.object m s.origin s.versions.items s.settles c.args.at h c.in-Some.place _ c.index_mut.result.now
    (sym c.in-Some.is ∙ c.place_seen.ensures.place ∙ ap (first_place (is_visible s.settles c.args.at)) c.as_slice.ensures.value)
    (raised-set s.versions.items c.in-Some.place c.args.at c.later-end.result c.index.result.now c.index_mut.result.now
    (subst (λ (vs : List Version). c.in-Some.place < length vs) c.as_slice.ensures.value c.in-Some.ensures.within) c.index.ensures c.index_mut.ensures.value c.later-end.ensures)

pub returns-in-None-clause-tells : goal.returns-in-None-clause-tells
returns-in-None-clause-tells c = λ m h.
    let s = c.args.self.now in
    holds-unseen s.object m s.origin s.versions.items s.settles c.args.at h _
    (sym c.in-None.is ∙ c.place_seen.ensures.place ∙ ap (first_place (is_visible s.settles c.args.at)) c.as_slice.ensures.value) c.later-end-in-None.ensures
