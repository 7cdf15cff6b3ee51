use Rattle.object_history.proofs.Names.{reverse, refl, sym, ap, ◌∙◌, subst, length, ◌<◌, ◌≤◌, TrackParts, rising}
use Rattle.object_history.proofs.RisingLemmas.{rising-end}
use Rattle.object_history.proofs.TrackLemmas.{track-ended, track-kept}
use Rattle.object_history.proofs.versions.Track.stretch.Goals as goal

pub returns-then-place-len : goal.returns-then-place-len
returns-then-place-len c =
    let i = c.self.inside in
    let below : c.in-Some.place < length i.versions.items = subst (λ n. c.in-Some.place < n) (c.len.ensures ∙ i.versions.ok.0) c.if-place-len.true in
    track-ended i.origin i.versions.items c.args.place c.in-Some.place c.args.time c.later-end-then-place-len.result c.index_mut.result.now c.index.result.now c.index.result.now c.args.self.now c.self.view_is c.in-Some.is
    below c.index.ensures c.index_mut.ensures.value c.later-end-then-place-len.ensures

pub returns-else-place-len : goal.returns-else-place-len
returns-else-place-len c =
    let i = c.self.inside in
    track-kept i.origin i.versions.items c.args.place c.in-Some.place c.args.time c.args.self.now c.self.view_is c.in-Some.is (subst (λ n. n ≤ c.in-Some.place) (c.len.ensures ∙ i.versions.ok.0) c.if-place-len.false)

-- starts stay, and so does whether they rise
pub invariant_of-self-then-place-len : goal.invariant_of-self-then-place-len
invariant_of-self-then-place-len c =
    let i = c.self.inside in
    let below : c.in-Some.place < length i.versions.items = subst (λ n. c.in-Some.place < n) (c.len.ensures ∙ i.versions.ok.0) c.if-place-len.true in
    let old : TrackParts = record { origin = i.origin; versions = reverse i.versions.items } in
    let ended = track-ended i.origin i.versions.items c.args.place c.in-Some.place c.args.time c.later-end-then-place-len.result c.index_mut.result.now c.index.result.now c.index.result.now old refl c.in-Some.is
    below c.index.ensures c.index_mut.ensures.value c.later-end-then-place-len.ensures in
    c.self.invariant ∙ sym (ap (λ (t : TrackParts). rising t.versions) ended ∙ rising-end c.args.place c.args.time old)
