use Rattle.object_history.proofs.Names.{object_cmp, empty_track, with_version, rules, ap, ◌∙◌, subst, unwrap_or}
use Rattle.object_history.proofs.MapLemmas.{Puts}
use Rattle.object_history.proofs.TrackLemmas.{on_ok, on_err, tracks-put, tracks-same}
use Rattle.object_history.proofs.maps.Tracks.add.Goals as goal

pub returns-in-Some-clause-ok : goal.returns-in-Some-clause-ok
returns-in-Some-clause-ok c =
    let new = c.add.new.self in
    let map = c.get_mut.follows.lender new in
    on_ok c.add.result (λ is. tracks-put c.self.inside.entries.entries map.entries c.args.self.now c.args.object (with_version c.args.mark c.args.start) new c.self.view_is
    ((c.get_mut.follows.holds new).3 (search rules)).0 (is ∙ ap (λ t. with_version c.args.mark c.args.start (unwrap_or t empty_track)) c.in-Some.ensures.value)) c.add.ensures.ok

pub returns-in-Some-clause-err : goal.returns-in-Some-clause-err
returns-in-Some-clause-err c =
    let new = c.add.new.self in
    let map = c.get_mut.follows.lender new in
    on_err c.add.result (λ is. tracks-same c.self.inside.entries.entries map.entries c.args.self.now c.args.object new c.self.view_is
    ((c.get_mut.follows.holds new).3 (search rules)).0 (is ∙ ap (λ t. unwrap_or t empty_track) c.in-Some.ensures.value)) c.add.ensures.err

pub returns-in_ok-insert-in-None-clause-ok : goal.returns-in_ok-insert-in-None-clause-ok
returns-in_ok-insert-in-None-clause-ok c =
    let new = c.add-in-None.new.self in
    tracks-put c.self.inside.entries.entries c.insert.new.self.entries c.args.self.now c.args.object (with_version c.args.mark c.args.start) new c.self.view_is
    (subst (λ z. Puts object_cmp c.args.object new z.entries c.insert.new.self.entries) c.get_mut.follows.holds-at-none c.in_ok-insert-in-None.ensures.updates.0)
    (c.in_ok-add-in-None.ensures.ok ∙ ap (with_version c.args.mark c.args.start) (c.new-track.ensures ∙ ap (λ t. unwrap_or t empty_track) c.in-None.ensures.value))
