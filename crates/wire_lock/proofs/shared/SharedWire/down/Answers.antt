use Rattle.std.specs.Option.{unwrap_or}
use Rattle.wire_lock.proofs.Names.{same_node-refl, knows, sees, Entry, Down, World, Flags, Origin, base_at, List, [], ◌∷◌, ◌++◌, refl, sym, ap, ◌∙◌, opened_log}
use Rattle.wire_lock.proofs.SightLemmas.{finds, origin-of, entries-in, story-of, lock-origin, noted-kept, looked-of, visited-of, moved-before}
use Rattle.wire_lock.proofs.shared.SharedWire.down.Goals as goal

pub down-requires-clause-up : goal.down-requires-clause-up
down-requires-clause-up g c =
    let x = c.enter-visit.ensures.value in
    let s = finds c.args.self.now.lock c.args.pass x.0 c.value.result.now _ c.requires.pass x.2 x.3 c.enter-visit.ensures.carries (c.value.ensures.value x.0 x.1) in
    ap (λ (w : World). (w.flags c.args.node).up) s.world ∙ ap (λ (h : Flags). h.up) (s.before.flags c.args.node c.requires.node) ∙ c.requires.up

pub down-requires-clause-none : goal.down-requires-clause-none
down-requires-clause-none g c =
    let x = c.enter-visit.ensures.value in
    let s = finds c.args.self.now.lock c.args.pass x.0 c.value.result.now _ c.requires.pass x.2 x.3 c.enter-visit.ensures.carries (c.value.ensures.value x.0 x.1) in
    λ m. ap (λ (o : Origin). unwrap_or (opened_log o.opened c.args.node) []) s.origin
    ∙ c.requires.none (moved-before (base_at (knows c.args.pass)) _ _ c.enter-visit.ensures.carries.begins (sym (ap (λ (w : World). w.moved) s.world) ∙ m))

pub leave-requires : goal.leave-requires
leave-requires g c =
    let x = c.enter-visit.ensures.value in
    let at = c.value.ensures.value x.0 x.1 in
    record { stands = (c.down.new.self, c.value.ensures.inside _, c.in-Err.ensures.err.origin ∙ origin-of at ∙ x.2 ∙ sym (lock-origin c.enter-visit.ensures.lock), c.in-Err.ensures.err.entries ∙ entries-in at ∙ x.3) }

pub note-requires-clause-value : goal.note-requires-clause-value
note-requires-clause-value g c =
    let x = c.enter-visit.ensures.value in
    let at = c.value.ensures.value x.0 x.1 in
    (c.down.new.self, c.value.ensures.inside _, c.in-Ok.ensures.ok.entries ∙ ap (λ (l : List Entry). l ++ Down c.args.node c.args.cause ∷ []) (entries-in at ∙ x.3))

pub leave-requires-in-Ok : goal.leave-requires-in-Ok
leave-requires-in-Ok g c =
    let x = c.enter-visit.ensures.value in
    let at = c.value.ensures.value x.0 x.1 in
    record { stands = (c.down.new.self, c.note.ensures.inside _ (c.value.ensures.inside _), c.in-Ok.ensures.ok.origin ∙ origin-of at ∙ x.2 ∙ sym (lock-origin (c.note.ensures.lock ∙ c.enter-visit.ensures.lock)), c.in-Ok.ensures.ok.entries ∙ ap (λ (l : List Entry). l ++ Down c.args.node c.args.cause ∷ []) (entries-in at ∙ x.3) ∙ sym (story-of c.note.ensures.sees)) }

pub returns-in-Err-clause-err : goal.returns-in-Err-clause-err
returns-in-Err-clause-err g c =
    looked-of _ _ _ c.requires.pass.own (c.leave.ensures.kept ∙ c.enter-visit.ensures.kept) c.enter-visit.ensures.carries

pub returns-in-Ok-clause-ok : goal.returns-in-Ok-clause-ok
returns-in-Ok-clause-ok g c =
    visited-of _ c.args.node (knows c.args.pass) _ _ (Down c.args.node c.args.cause) _ _ c.requires.pass.own c.requires.node (same_node-refl c.args.node) c.requires.up
    (c.leave-in-Ok.ensures.kept ∙ c.note.ensures.sees ∙ noted-kept (sees c.enter-visit.result) (knows c.args.pass) (Down c.args.node c.args.cause) c.enter-visit.ensures.kept) c.enter-visit.ensures.carries
    (λ t. refl) refl
