use Rattle.wire_lock.proofs.Names.{knows, sees, Entry, Tick, WireParts, List, [], ◌∷◌, ◌++◌, sym, ap, ◌∙◌}
use Rattle.wire_lock.proofs.SightLemmas.{finds, origin-of, entries-in, story-of, lock-origin, noted-kept, looked-of, ticked-of, rest-found, pass-at, owns-noted, left-of, still-busy}
use Rattle.wire_lock.proofs.shared.SharedWire.tick.Goals as goal

pub leave-requires : goal.leave-requires
leave-requires g c =
    let x = c.enter-visit.ensures.value in
    let at = c.value-wire.ensures.value x.0 x.1 in
    record { stands = (c.tick-ticked.new.self, c.value-wire.ensures.inside _, c.in_default.ensures.err.origin ∙ origin-of at ∙ x.2 ∙ sym (lock-origin c.enter-visit.ensures.lock), c.in_default.ensures.err.entries ∙ entries-in at ∙ x.3) }

pub leave-requires-in_default-passed : goal.leave-requires-in_default-passed
leave-requires-in_default-passed g c =
    let x = c.enter-visit.ensures.value in
    let at = c.value-wire.ensures.value x.0 x.1 in
    let q = rw c.in_default-passed.is at c.in-Ok.ensures.ok in
    record { stands = (c.tick-ticked.new.self, c.value-wire.ensures.inside _, origin-of (q.1.same ∙ at) ∙ x.2 ∙ sym (lock-origin c.enter-visit.ensures.lock), entries-in (q.1.same ∙ at) ∙ x.3) }

pub note-requires-clause-value : goal.note-requires-clause-value
note-requires-clause-value g c =
    let x = c.enter-visit.ensures.value in
    let at = c.value-wire.ensures.value x.0 x.1 in
    let q = rw c.in-Some.is at c.in-Ok.ensures.ok in
    (c.tick-ticked.new.self, c.value-wire.ensures.inside _, q.1.entries ∙ ap (λ (l : List Entry). l ++ Tick c.in-Some.moment ∷ []) (entries-in at ∙ x.3))

pub leave-requires-2 : goal.leave-requires-2
leave-requires-2 g c =
    let x = c.enter-visit.ensures.value in
    let at = c.value-wire.ensures.value x.0 x.1 in
    let q = rw c.in-Some.is at c.in-Ok.ensures.ok in
    record { stands = (c.tick-ticked.new.self, c.note.ensures.inside _ (c.value-wire.ensures.inside _), q.1.origin ∙ origin-of at ∙ x.2 ∙ sym (lock-origin (c.note.ensures.lock ∙ c.enter-visit.ensures.lock)), q.1.entries ∙ ap (λ (l : List Entry). l ++ Tick c.in-Some.moment ∷ []) (entries-in at ∙ x.3) ∙ sym (story-of c.note.ensures.sees)) }

pub returns-in_default-clause-err : goal.returns-in_default-clause-err
returns-in_default-clause-err g c =
    looked-of _ _ _ c.requires.pass.own (c.leave.ensures.kept ∙ c.enter-visit.ensures.kept) c.enter-visit.ensures.carries

pub returns-in_default-passed-clause-ok : goal.returns-in_default-passed-clause-ok
returns-in_default-passed-clause-ok g c =
    looked-of _ _ _ c.requires.pass.own (c.leave-in_default-passed.ensures.kept ∙ c.enter-visit.ensures.kept) c.enter-visit.ensures.carries

pub returns-clause-ok : goal.returns-clause-ok
returns-clause-ok g c =
    let x = c.enter-visit.ensures.value in
    let s = finds c.args.self.now.lock c.args.pass x.0 c.value-wire.result.now _ c.requires.pass x.2 x.3 c.enter-visit.ensures.carries (c.value-wire.ensures.value x.0 x.1) in
    let q = rw c.in-Some.is at c.in-Ok.ensures.ok in
    ticked-of (knows c.args.pass) (knows c.leave-2.result) _ c.in-Some.moment c.requires.pass.own
    (c.leave-2.ensures.kept ∙ c.note.ensures.sees ∙ noted-kept (sees c.enter-visit.result) (knows c.args.pass) (Tick c.in-Some.moment) c.enter-visit.ensures.kept) c.enter-visit.ensures.carries (rest-found _ _ s.world q.0)

pub returns-clause-pass : goal.returns-clause-pass
returns-clause-pass g c =
    pass-at c.args.self.now.lock _ c.leave-2.result (c.note.ensures.lock ∙ c.enter-visit.ensures.lock) c.leave-2.ensures.pass
    (owns-noted (knows c.args.pass) (knows c.leave-2.result) _ (Tick c.in-Some.moment) (c.leave-2.ensures.kept ∙ c.note.ensures.sees ∙ noted-kept (sees c.enter-visit.result) (knows c.args.pass) (Tick c.in-Some.moment) c.enter-visit.ensures.kept)
    (sym c.requires.conductor) c.enter-visit.ensures.carries)

pub returns-in_default-clause-left : goal.returns-in_default-clause-left
returns-in_default-clause-left g c =
    let x = c.enter-visit.ensures.value in
    let at = c.value-wire.ensures.value x.0 x.1 in
    let s = finds c.args.self.now.lock c.args.pass x.0 c.value-wire.result.now _ c.requires.pass x.2 x.3 c.enter-visit.ensures.carries (c.value-wire.ensures.value x.0 x.1) in
    let e = c.in_default.ensures.err in
    left-of (knows c.args.pass) (knows c.leave.result) _ (knows c.args.pass).own _ (origin-of c.of-left.ensures ∙ e.origin ∙ s.origin) (entries-in c.of-left.ensures ∙ e.entries ∙ entries-in at ∙ x.3) (c.leave.ensures.kept ∙ c.enter-visit.ensures.kept)

pub returns-in_default-clause-broken : goal.returns-in_default-clause-broken
returns-in_default-clause-broken g c = ap (λ (w : WireParts). w.broken) c.of-left.ensures ∙ c.in_default.ensures.err.broken

pub returns-in_default-passed-clause-left : goal.returns-in_default-passed-clause-left
returns-in_default-passed-clause-left g c =
    let x = c.enter-visit.ensures.value in
    let at = c.value-wire.ensures.value x.0 x.1 in
    let s = finds c.args.self.now.lock c.args.pass x.0 c.value-wire.result.now _ c.requires.pass x.2 x.3 c.enter-visit.ensures.carries (c.value-wire.ensures.value x.0 x.1) in
    let q = rw c.in_default-passed.is at c.in-Ok.ensures.ok in
    left-of (knows c.args.pass) (knows c.leave-in_default-passed.result) _ (knows c.args.pass).own _ (origin-of (c.of-left.ensures ∙ q.1.same) ∙ s.origin) (entries-in (c.of-left.ensures ∙ q.1.same ∙ at) ∙ x.3) (c.leave-in_default-passed.ensures.kept ∙ c.enter-visit.ensures.kept)

pub returns-in_default-passed-clause-still : goal.returns-in_default-passed-clause-still
returns-in_default-passed-clause-still g c = λ t.
    let x = c.enter-visit.ensures.value in
    let at = c.value-wire.ensures.value x.0 x.1 in
    let s = finds c.args.self.now.lock c.args.pass x.0 c.value-wire.result.now _ c.requires.pass x.2 x.3 c.enter-visit.ensures.carries (c.value-wire.ensures.value x.0 x.1) in
    let q = rw c.in_default-passed.is at c.in-Ok.ensures.ok in
    let same = c.of-left.ensures ∙ q.1.same in
    let left = left-of (knows c.args.pass) (knows c.leave-in_default-passed.result) _ (knows c.args.pass).own _ (origin-of same ∙ s.origin) (entries-in (same ∙ at) ∙ x.3) (c.leave-in_default-passed.ensures.kept ∙ c.enter-visit.ensures.kept) in
    still-busy _ _ _ left same (rw c.in_default-passed.is at c.in-Ok.ensures.idle t)

pub returns-clause-left : goal.returns-clause-left
returns-clause-left g c =
    let x = c.enter-visit.ensures.value in
    let at = c.value-wire.ensures.value x.0 x.1 in
    let s = finds c.args.self.now.lock c.args.pass x.0 c.value-wire.result.now _ c.requires.pass x.2 x.3 c.enter-visit.ensures.carries (c.value-wire.ensures.value x.0 x.1) in
    let q = rw c.in-Some.is at c.in-Ok.ensures.ok in
    left-of (knows c.args.pass) (knows c.leave-2.result) _ _ _ (origin-of c.of-left.ensures ∙ q.1.origin ∙ s.origin)
    (entries-in c.of-left.ensures ∙ q.1.entries ∙ ap (λ (l : List Entry). l ++ Tick c.in-Some.moment ∷ []) (entries-in at ∙ x.3))
    (c.leave-2.ensures.kept ∙ c.note.ensures.sees ∙ noted-kept (sees c.enter-visit.result) (knows c.args.pass) (Tick c.in-Some.moment) c.enter-visit.ensures.kept)
