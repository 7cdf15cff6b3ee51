use Rattle.wire_lock.proofs.Names.{same_node-refl, knows, sees, Entry, Take, World, Flags, walk, numbered, sent_by, WireParts, base_at, List, [], ◌∷◌, ◌++◌, true, false, refl, sym, ap, ◌∙◌}
use Rattle.wire_lock.proofs.SightLemmas.{finds, origin-of, entries-in, story-of, lock-origin, noted-kept, looked-of, visited-of, took-copy, copy-left, behind-is, if-gave, if-failed, left-of, none-due}
use Rattle.wire_lock.proofs.shared.SharedWire.take.Goals as goal

pub take-taken-requires-clause-up : goal.take-taken-requires-clause-up
take-taken-requires-clause-up g c =
    let x = c.enter-visit.ensures.value in
    let s = finds c.args.self.now.lock c.args.pass x.0 c.value-wire.result.now _ c.requires.pass x.2 x.3 c.enter-visit.ensures.carries (c.value-wire.ensures.value x.0 x.1) in
    ap (λ (w : World). (w.flags c.args.node).up) s.world ∙ ap (λ (h : Flags). h.up) (s.before.flags c.args.node c.requires.node) ∙ c.requires.up

pub take-taken-requires-clause-gone : goal.take-taken-requires-clause-gone
take-taken-requires-clause-gone g c =
    let x = c.enter-visit.ensures.value in
    let s = finds c.args.self.now.lock c.args.pass x.0 c.value-wire.result.now _ c.requires.pass x.2 x.3 c.enter-visit.ensures.carries (c.value-wire.ensures.value x.0 x.1) in
    λ b. ap (λ (w : World). (w.flags c.args.node).gone) s.world ∙ ap (λ (h : Flags). h.gone) (s.before.flags c.args.node c.requires.node) ∙ c.requires.gone b

pub leave-requires : goal.leave-requires
leave-requires g c =
    let x = c.enter-visit.ensures.value in
    let at = c.value-wire.ensures.value x.0 x.1 in
    record { stands = (c.take-taken.new.self, c.value-wire.ensures.inside _, (if-failed _ _ c.in-Err.is c.take-taken.ensures.err).origin ∙ origin-of at ∙ x.2 ∙ sym (lock-origin c.enter-visit.ensures.lock), (if-failed _ _ c.in-Err.is c.take-taken.ensures.err).entries ∙ entries-in at ∙ x.3) }

pub leave-requires-in-Ok-Behind : goal.leave-requires-in-Ok-Behind
leave-requires-in-Ok-Behind g c =
    let x = c.enter-visit.ensures.value in
    let at = c.value-wire.ensures.value x.0 x.1 in
    let q = rw c.in-Ok-Behind.field-0-is at (if-gave _ _ _ c.in-Ok-Behind.is c.take-taken.ensures.takes) in
    record { stands = (c.take-taken.new.self, c.value-wire.ensures.inside _, origin-of (q.1.same ∙ at) ∙ x.2 ∙ sym (lock-origin c.enter-visit.ensures.lock), entries-in (q.1.same ∙ at) ∙ x.3) }

pub leave-requires-in-Ok-Nothing : goal.leave-requires-in-Ok-Nothing
leave-requires-in-Ok-Nothing g c =
    let x = c.enter-visit.ensures.value in
    let at = c.value-wire.ensures.value x.0 x.1 in
    let q = rw c.in-Ok-Nothing.field-0-is at (if-gave _ _ _ c.in-Ok-Nothing.is c.take-taken.ensures.takes) in
    record { stands = (c.take-taken.new.self, c.value-wire.ensures.inside _, origin-of (q.2.same ∙ at) ∙ x.2 ∙ sym (lock-origin c.enter-visit.ensures.lock), entries-in (q.2.same ∙ at) ∙ x.3) }

pub note-requires-clause-value : goal.note-requires-clause-value
note-requires-clause-value g c =
    let x = c.enter-visit.ensures.value in
    let at = c.value-wire.ensures.value x.0 x.1 in
    let q = rw c.in-Ok-Arrived.field-0-is at (if-gave _ _ _ c.in-Ok-Arrived.is c.take-taken.ensures.takes) in
    (c.take-taken.new.self, c.value-wire.ensures.inside _, q.2.entries ∙ ap (λ (l : List Entry). l ++ Take c.args.node c.in-Ok-Arrived.arrival.number ∷ []) (entries-in at ∙ x.3))

pub leave-requires-in-Ok-Arrived : goal.leave-requires-in-Ok-Arrived
leave-requires-in-Ok-Arrived g c =
    let x = c.enter-visit.ensures.value in
    let at = c.value-wire.ensures.value x.0 x.1 in
    let q = rw c.in-Ok-Arrived.field-0-is at (if-gave _ _ _ c.in-Ok-Arrived.is c.take-taken.ensures.takes) in
    record { stands = (c.take-taken.new.self, c.note.ensures.inside _ (c.value-wire.ensures.inside _), q.2.origin ∙ origin-of at ∙ x.2 ∙ sym (lock-origin (c.note.ensures.lock ∙ c.enter-visit.ensures.lock)), q.2.entries ∙ ap (λ (l : List Entry). l ++ Take c.args.node c.in-Ok-Arrived.arrival.number ∷ []) (entries-in at ∙ x.3) ∙ sym (story-of c.note.ensures.sees)) }

pub returns-in-Err-clause-err : goal.returns-in-Err-clause-err
returns-in-Err-clause-err g c =
    looked-of _ _ _ c.requires.pass.own (c.leave.ensures.kept ∙ c.enter-visit.ensures.kept) c.enter-visit.ensures.carries

pub returns-in-Ok-Behind-clause-ok : goal.returns-in-Ok-Behind-clause-ok
returns-in-Ok-Behind-clause-ok g c =
    let x = c.enter-visit.ensures.value in
    let s = finds c.args.self.now.lock c.args.pass x.0 c.value-wire.result.now _ c.requires.pass x.2 x.3 c.enter-visit.ensures.carries (c.value-wire.ensures.value x.0 x.1) in
    let q = rw c.in-Ok-Behind.field-0-is at (if-gave _ _ _ c.in-Ok-Behind.is c.take-taken.ensures.takes) in (
      looked-of _ _ _ c.requires.pass.own (c.leave-in-Ok-Behind.ensures.kept ∙ c.enter-visit.ensures.kept) c.enter-visit.ensures.carries,
      behind-is (knows c.args.pass) (knows c.leave-in-Ok-Behind.result) _ _ c.args.node true (c.leave-in-Ok-Behind.ensures.kept ∙ c.enter-visit.ensures.kept) s.world q.0,
    )

pub returns-in-Ok-Nothing-clause-ok : goal.returns-in-Ok-Nothing-clause-ok
returns-in-Ok-Nothing-clause-ok g c =
    let x = c.enter-visit.ensures.value in
    let s = finds c.args.self.now.lock c.args.pass x.0 c.value-wire.result.now _ c.requires.pass x.2 x.3 c.enter-visit.ensures.carries (c.value-wire.ensures.value x.0 x.1) in
    let q = rw c.in-Ok-Nothing.field-0-is at (if-gave _ _ _ c.in-Ok-Nothing.is c.take-taken.ensures.takes) in (
      looked-of _ _ _ c.requires.pass.own (c.leave-in-Ok-Nothing.ensures.kept ∙ c.enter-visit.ensures.kept) c.enter-visit.ensures.carries,
      behind-is (knows c.args.pass) (knows c.leave-in-Ok-Nothing.result) _ _ c.args.node false (c.leave-in-Ok-Nothing.ensures.kept ∙ c.enter-visit.ensures.kept) s.world q.0,
    )

pub returns-in-Ok-Arrived-clause-ok : goal.returns-in-Ok-Arrived-clause-ok
returns-in-Ok-Arrived-clause-ok g c =
    let x = c.enter-visit.ensures.value in
    let s = finds c.args.self.now.lock c.args.pass x.0 c.value-wire.result.now _ c.requires.pass x.2 x.3 c.enter-visit.ensures.carries (c.value-wire.ensures.value x.0 x.1) in
    visited-of _ c.args.node (knows c.args.pass) _ _ (Take c.args.node c.in-Ok-Arrived.arrival.number) _ _ c.requires.pass.own c.requires.node (same_node-refl c.args.node) c.requires.up
    (c.leave-in-Ok-Arrived.ensures.kept ∙ c.note.ensures.sees ∙ noted-kept (sees c.enter-visit.result) (knows c.args.pass) (Take c.args.node c.in-Ok-Arrived.arrival.number) c.enter-visit.ensures.kept) c.enter-visit.ensures.carries
    (λ t. let q = rw c.in-Ok-Arrived.field-0-is at (if-gave _ _ _ c.in-Ok-Arrived.is (c.take-taken.ensures.told t)) in
    took-copy (base_at (knows c.args.pass)) c.args.node _ (walk (base_at (knows c.args.pass)) (sees c.enter-visit.result).story).sendings c.in-Ok-Arrived.arrival.number _
    (ap (λ (w : World). numbered (sent_by w) c.in-Ok-Arrived.arrival.number) (sym s.world) ∙ q)) refl

pub returns-in-Ok-Arrived-clause-copy : goal.returns-in-Ok-Arrived-clause-copy
returns-in-Ok-Arrived-clause-copy g c =
    let x = c.enter-visit.ensures.value in
    let s = finds c.args.self.now.lock c.args.pass x.0 c.value-wire.result.now _ c.requires.pass x.2 x.3 c.enter-visit.ensures.carries (c.value-wire.ensures.value x.0 x.1) in
    λ t. copy-left (knows c.args.pass) _ _ _ _ c.args.node c.in-Ok-Arrived.arrival
    (c.leave-in-Ok-Arrived.ensures.kept ∙ c.note.ensures.sees ∙ noted-kept (sees c.enter-visit.result) (knows c.args.pass) (Take c.args.node c.in-Ok-Arrived.arrival.number) c.enter-visit.ensures.kept)
    s.world (rw c.in-Ok-Arrived.field-0-is at (if-gave _ _ _ c.in-Ok-Arrived.is (c.take-taken.ensures.told t)))

pub returns-in-Ok-Arrived-clause-in_range : goal.returns-in-Ok-Arrived-clause-in_range
returns-in-Ok-Arrived-clause-in_range g c =
    let q = rw c.in-Ok-Arrived.field-0-is at (if-gave _ _ _ c.in-Ok-Arrived.is c.take-taken.ensures.takes) in
    q.1.in_range

pub returns-in-Err-clause-left : goal.returns-in-Err-clause-left
returns-in-Err-clause-left g c =
    let x = c.enter-visit.ensures.value in
    let at = c.value-wire.ensures.value x.0 x.1 in
    let s = finds c.args.self.now.lock c.args.pass x.0 c.value-wire.result.now _ c.requires.pass x.2 x.3 c.enter-visit.ensures.carries (c.value-wire.ensures.value x.0 x.1) in
    let e = if-failed _ _ c.in-Err.is c.take-taken.ensures.err in
    left-of (knows c.args.pass) (knows c.leave.result) _ (knows c.args.pass).own _ (origin-of c.of-left.ensures ∙ e.origin ∙ s.origin) (entries-in c.of-left.ensures ∙ e.entries ∙ entries-in at ∙ x.3) (c.leave.ensures.kept ∙ c.enter-visit.ensures.kept)

pub returns-in-Err-clause-broken : goal.returns-in-Err-clause-broken
returns-in-Err-clause-broken g c = ap (λ (w : WireParts). w.broken) c.of-left.ensures ∙ (if-failed _ _ c.in-Err.is c.take-taken.ensures.err).broken

pub returns-in-Ok-Behind-clause-left : goal.returns-in-Ok-Behind-clause-left
returns-in-Ok-Behind-clause-left g c =
    let x = c.enter-visit.ensures.value in
    let at = c.value-wire.ensures.value x.0 x.1 in
    let s = finds c.args.self.now.lock c.args.pass x.0 c.value-wire.result.now _ c.requires.pass x.2 x.3 c.enter-visit.ensures.carries (c.value-wire.ensures.value x.0 x.1) in
    let q = rw c.in-Ok-Behind.field-0-is at (if-gave _ _ _ c.in-Ok-Behind.is c.take-taken.ensures.takes) in
    left-of (knows c.args.pass) (knows c.leave-in-Ok-Behind.result) _ (knows c.args.pass).own _ (origin-of (c.of-left.ensures ∙ q.1.same) ∙ s.origin) (entries-in (c.of-left.ensures ∙ q.1.same ∙ at) ∙ x.3) (c.leave-in-Ok-Behind.ensures.kept ∙ c.enter-visit.ensures.kept)

pub returns-in-Ok-Nothing-clause-left : goal.returns-in-Ok-Nothing-clause-left
returns-in-Ok-Nothing-clause-left g c =
    let x = c.enter-visit.ensures.value in
    let at = c.value-wire.ensures.value x.0 x.1 in
    let s = finds c.args.self.now.lock c.args.pass x.0 c.value-wire.result.now _ c.requires.pass x.2 x.3 c.enter-visit.ensures.carries (c.value-wire.ensures.value x.0 x.1) in
    let q = rw c.in-Ok-Nothing.field-0-is at (if-gave _ _ _ c.in-Ok-Nothing.is c.take-taken.ensures.takes) in
    left-of (knows c.args.pass) (knows c.leave-in-Ok-Nothing.result) _ (knows c.args.pass).own _ (origin-of (c.of-left.ensures ∙ q.2.same) ∙ s.origin) (entries-in (c.of-left.ensures ∙ q.2.same ∙ at) ∙ x.3) (c.leave-in-Ok-Nothing.ensures.kept ∙ c.enter-visit.ensures.kept)

pub returns-in-Ok-Nothing-clause-nothing : goal.returns-in-Ok-Nothing-clause-nothing
returns-in-Ok-Nothing-clause-nothing g c = λ t.
    let x = c.enter-visit.ensures.value in
    let at = c.value-wire.ensures.value x.0 x.1 in
    let s = finds c.args.self.now.lock c.args.pass x.0 c.value-wire.result.now _ c.requires.pass x.2 x.3 c.enter-visit.ensures.carries (c.value-wire.ensures.value x.0 x.1) in
    let q = rw c.in-Ok-Nothing.field-0-is at (if-gave _ _ _ c.in-Ok-Nothing.is c.take-taken.ensures.takes) in
    let same = c.of-left.ensures ∙ q.2.same in
    let left = left-of (knows c.args.pass) (knows c.leave-in-Ok-Nothing.result) _ (knows c.args.pass).own _ (origin-of same ∙ s.origin) (entries-in (same ∙ at) ∙ x.3) (c.leave-in-Ok-Nothing.ensures.kept ∙ c.enter-visit.ensures.kept) in
    none-due _ _ _ c.args.node left same (rw c.in-Ok-Nothing.field-0-is at (if-gave _ _ _ c.in-Ok-Nothing.is (c.take-taken.ensures.all t)))

pub returns-in-Ok-Arrived-clause-left : goal.returns-in-Ok-Arrived-clause-left
returns-in-Ok-Arrived-clause-left g c =
    let x = c.enter-visit.ensures.value in
    let at = c.value-wire.ensures.value x.0 x.1 in
    let s = finds c.args.self.now.lock c.args.pass x.0 c.value-wire.result.now _ c.requires.pass x.2 x.3 c.enter-visit.ensures.carries (c.value-wire.ensures.value x.0 x.1) in
    let q = rw c.in-Ok-Arrived.field-0-is at (if-gave _ _ _ c.in-Ok-Arrived.is c.take-taken.ensures.takes) in
    left-of (knows c.args.pass) (knows c.leave-in-Ok-Arrived.result) _ _ _ (origin-of c.of-left.ensures ∙ q.2.origin ∙ s.origin)
    (entries-in c.of-left.ensures ∙ q.2.entries ∙ ap (λ (l : List Entry). l ++ Take c.args.node c.in-Ok-Arrived.arrival.number ∷ []) (entries-in at ∙ x.3))
    (c.leave-in-Ok-Arrived.ensures.kept ∙ c.note.ensures.sees ∙ noted-kept (sees c.enter-visit.result) (knows c.args.pass) (Take c.args.node c.in-Ok-Arrived.arrival.number) c.enter-visit.ensures.kept)
