use Rattle.wire_lock.proofs.Names.{same_node-refl, knows, sees, Entry, Learn, World, Life, Flags, IsDecidedAs, base_at, List, [], ◌∷◌, ◌++◌, refl, sym, ap, subst, ◌∙◌}
use Rattle.wire_core.specs.Learns.{IsNewTo}
use Rattle.wire_lock.proofs.SightLemmas.{finds, origin-of, entries-in, story-of, lock-origin, noted-kept, looked-of, visited-of, stands-later}
use Rattle.wire_lock.proofs.shared.SharedWire.learn.Goals as goal

pub learn-requires-clause-up : goal.learn-requires-clause-up
learn-requires-clause-up g c =
    let x = c.enter-visit.ensures.value in
    let s = finds c.args.self.now.lock c.args.pass x.0 c.value.result.now _ c.requires.pass x.2 x.3 c.enter-visit.ensures.carries (c.value.ensures.value x.0 x.1) in
    ap (λ (w : World). (w.flags c.args.node).up) s.world ∙ ap (λ (h : Flags). h.up) (s.before.flags c.args.node c.requires.node) ∙ c.requires.up

pub learn-requires-clause-stands : goal.learn-requires-clause-stands
learn-requires-clause-stands g c =
    let x = c.enter-visit.ensures.value in
    let s = finds c.args.self.now.lock c.args.pass x.0 c.value.result.now _ c.requires.pass x.2 x.3 c.enter-visit.ensures.carries (c.value.ensures.value x.0 x.1) in
    λ t. subst (λ (w : World). IsDecidedAs w c.args.stamp c.args.committed) (sym s.world) (stands-later (base_at (knows c.args.pass)) _ _ c.args.stamp c.args.committed c.enter-visit.ensures.carries.begins (c.requires.stands t))

pub learn-requires-clause-new : goal.learn-requires-clause-new
learn-requires-clause-new g c =
    let x = c.enter-visit.ensures.value in
    let s = finds c.args.self.now.lock c.args.pass x.0 c.value.result.now _ c.requires.pass x.2 x.3 c.enter-visit.ensures.carries (c.value.ensures.value x.0 x.1) in
    λ t. subst (λ (l : Life). IsNewTo l c.args.stamp) (sym (ap (λ (w : World). w.life c.args.node) s.world ∙ s.before.life c.args.node c.requires.node)) (c.requires.new t)

pub leave-requires : goal.leave-requires
leave-requires g c =
    let x = c.enter-visit.ensures.value in
    let at = c.value.ensures.value x.0 x.1 in
    record { stands = (c.learn.new.self, c.value.ensures.inside _, c.in-Err.ensures.err.origin ∙ origin-of at ∙ x.2 ∙ sym (lock-origin c.enter-visit.ensures.lock), c.in-Err.ensures.err.entries ∙ entries-in at ∙ x.3) }

pub note-requires-clause-value : goal.note-requires-clause-value
note-requires-clause-value g c =
    let x = c.enter-visit.ensures.value in
    let at = c.value.ensures.value x.0 x.1 in
    (c.learn.new.self, c.value.ensures.inside _, c.in-Ok.ensures.ok.entries ∙ ap (λ (l : List Entry). l ++ Learn c.args.node c.args.stamp c.args.committed ∷ []) (entries-in at ∙ x.3))

pub leave-requires-in-Ok : goal.leave-requires-in-Ok
leave-requires-in-Ok g c =
    let x = c.enter-visit.ensures.value in
    let at = c.value.ensures.value x.0 x.1 in
    record { stands = (c.learn.new.self, c.note.ensures.inside _ (c.value.ensures.inside _), c.in-Ok.ensures.ok.origin ∙ origin-of at ∙ x.2 ∙ sym (lock-origin (c.note.ensures.lock ∙ c.enter-visit.ensures.lock)), c.in-Ok.ensures.ok.entries ∙ ap (λ (l : List Entry). l ++ Learn c.args.node c.args.stamp c.args.committed ∷ []) (entries-in at ∙ x.3) ∙ sym (story-of c.note.ensures.sees)) }

pub returns-in-Err-clause-err : goal.returns-in-Err-clause-err
returns-in-Err-clause-err g c =
    looked-of _ _ _ c.requires.pass.own (c.leave.ensures.kept ∙ c.enter-visit.ensures.kept) c.enter-visit.ensures.carries

pub returns-in-Ok-clause-ok : goal.returns-in-Ok-clause-ok
returns-in-Ok-clause-ok g c =
    visited-of _ c.args.node (knows c.args.pass) _ _ (Learn c.args.node c.args.stamp c.args.committed) _ _ c.requires.pass.own c.requires.node (same_node-refl c.args.node) c.requires.up
    (c.leave-in-Ok.ensures.kept ∙ c.note.ensures.sees ∙ noted-kept (sees c.enter-visit.result) (knows c.args.pass) (Learn c.args.node c.args.stamp c.args.committed) c.enter-visit.ensures.kept) c.enter-visit.ensures.carries
    (λ t. refl) refl
