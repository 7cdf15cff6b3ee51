use Rattle.object_history.proofs.Names.{object_cmp, empty_track, with_end, rules, ap, ◌∙◌, subst, unwrap_or}
use Rattle.object_history.proofs.MapLemmas.{Puts}
use Rattle.object_history.proofs.TrackLemmas.{tracks-put}
use Rattle.object_history.proofs.maps.Tracks.stretch.Goals as goal

pub returns-in-Some-clause-ok : goal.returns-in-Some-clause-ok
returns-in-Some-clause-ok c =
    let new = c.stretch.new.self in
    let map = c.get_mut.follows.lender new in
    tracks-put c.self.inside.entries.entries map.entries c.args.self.now c.args.object (with_end c.args.place c.args.time) new c.self.view_is
    ((c.get_mut.follows.holds new).3 (search rules)).0 (c.stretch.ensures ∙ ap (λ t. with_end c.args.place c.args.time (unwrap_or t empty_track)) c.in-Some.ensures.value)

pub returns-in_ok-insert-in-None-clause-ok : goal.returns-in_ok-insert-in-None-clause-ok
returns-in_ok-insert-in-None-clause-ok c =
    let new = c.stretch-in-None.new.self in
    tracks-put c.self.inside.entries.entries c.insert.new.self.entries c.args.self.now c.args.object (with_end c.args.place c.args.time) new c.self.view_is
    (subst (λ z. Puts object_cmp c.args.object new z.entries c.insert.new.self.entries) c.get_mut.follows.holds-at-none c.in_ok-insert-in-None.ensures.updates.0)
    (c.stretch-in-None.ensures ∙ ap (with_end c.args.place c.args.time) (c.new-track.ensures ∙ ap (λ t. unwrap_or t empty_track) c.in-None.ensures.value))
