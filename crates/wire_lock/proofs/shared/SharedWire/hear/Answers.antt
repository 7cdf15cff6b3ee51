use Rattle.wire_lock.proofs.Names.{same_node-refl, knows, sees, Entry, Hear, World, Flags, walk, is_behind, walk-more, Sight, base_at, world_at, life_at, flags_at, ◌≡◌, ℕ, List, [], ◌∷◌, ◌++◌, Option, Some, sym, ap, ◌∙◌, hears, has_heard}
use Rattle.wire_lock.proofs.SightLemmas.{finds, origin-of, entries-in, story-of, lock-origin, noted-kept, looked-of, visited-of}
use Rattle.wire_lock.proofs.shared.SharedWire.hear.Goals as goal

pub hear-requires-clause-up : goal.hear-requires-clause-up
hear-requires-clause-up g c =
    let x = c.enter-visit.ensures.value in
    let s = finds c.args.self.now.lock c.args.pass x.0 c.value.result.now _ c.requires.pass x.2 x.3 c.enter-visit.ensures.carries (c.value.ensures.value x.0 x.1) in
    ap (λ (w : World). (w.flags c.args.node).up) s.world ∙ ap (λ (h : Flags). h.up) (s.before.flags c.args.node c.requires.node) ∙ c.requires.up

pub hear-requires-clause-behind : goal.hear-requires-clause-behind
hear-requires-clause-behind g c =
    let x = c.enter-visit.ensures.value in
    let s = finds c.args.self.now.lock c.args.pass x.0 c.value.result.now _ c.requires.pass x.2 x.3 c.enter-visit.ensures.carries (c.value.ensures.value x.0 x.1) in
    ap (λ (w : World). is_behind w c.args.node) s.world ∙ s.before.behind c.args.node c.requires.node c.requires.behind

pub leave-requires : goal.leave-requires
leave-requires g c =
    let x = c.enter-visit.ensures.value in
    let at = c.value.ensures.value x.0 x.1 in
    record { stands = (c.hear.new.self, c.value.ensures.inside _, c.in-Err.ensures.err.origin ∙ origin-of at ∙ x.2 ∙ sym (lock-origin c.enter-visit.ensures.lock), c.in-Err.ensures.err.entries ∙ entries-in at ∙ x.3) }

pub note-requires-clause-value : goal.note-requires-clause-value
note-requires-clause-value g c =
    let x = c.enter-visit.ensures.value in
    let at = c.value.ensures.value x.0 x.1 in
    (c.hear.new.self, c.value.ensures.inside _, c.in-Ok.ensures.ok.entries ∙ ap (λ (l : List Entry). l ++ Hear c.args.node ∷ []) (entries-in at ∙ x.3))

pub leave-requires-in-Ok : goal.leave-requires-in-Ok
leave-requires-in-Ok g c =
    let x = c.enter-visit.ensures.value in
    let at = c.value.ensures.value x.0 x.1 in
    record { stands = (c.hear.new.self, c.note.ensures.inside _ (c.value.ensures.inside _), c.in-Ok.ensures.ok.origin ∙ origin-of at ∙ x.2 ∙ sym (lock-origin (c.note.ensures.lock ∙ c.enter-visit.ensures.lock)), c.in-Ok.ensures.ok.entries ∙ ap (λ (l : List Entry). l ++ Hear c.args.node ∷ []) (entries-in at ∙ x.3) ∙ sym (story-of c.note.ensures.sees)) }

pub returns-in-Err-clause-err : goal.returns-in-Err-clause-err
returns-in-Err-clause-err g c =
    looked-of _ _ _ c.requires.pass.own (c.leave.ensures.kept ∙ c.enter-visit.ensures.kept) c.enter-visit.ensures.carries

pub returns-in-Ok-clause-ok : goal.returns-in-Ok-clause-ok
returns-in-Ok-clause-ok g c =
    let x = c.enter-visit.ensures.value in
    let s = finds c.args.self.now.lock c.args.pass x.0 c.value.result.now _ c.requires.pass x.2 x.3 c.enter-visit.ensures.carries (c.value.ensures.value x.0 x.1) in
    let last : (walk (base_at (knows c.args.pass)) (sees c.enter-visit.result).story).last ≡ Some c.in-Ok.moment = sym (ap (λ (w : World). w.last) s.world) ∙ c.in-Ok.ensures.moment in
    visited-of _ c.args.node (knows c.args.pass) _ _ (Hear c.args.node) _ _ c.requires.pass.own c.requires.node (same_node-refl c.args.node) c.requires.up
    (c.leave-in-Ok.ensures.kept ∙ c.note.ensures.sees ∙ noted-kept (sees c.enter-visit.result) (knows c.args.pass) (Hear c.args.node) c.enter-visit.ensures.kept) c.enter-visit.ensures.carries
    (λ t. ap (hears (base_at (knows c.args.pass)) c.args.node (life_at (knows c.args.pass) c.args.node)) last) (ap (λ (o : Option ℕ). has_heard o (flags_at (knows c.args.pass) c.args.node)) last)

pub returns-in-Ok-clause-moment : goal.returns-in-Ok-clause-moment
returns-in-Ok-clause-moment g c =
    let x = c.enter-visit.ensures.value in
    let s = finds c.args.self.now.lock c.args.pass x.0 c.value.result.now _ c.requires.pass x.2 x.3 c.enter-visit.ensures.carries (c.value.ensures.value x.0 x.1) in
    let last : (walk (base_at (knows c.args.pass)) (sees c.enter-visit.result).story).last ≡ Some c.in-Ok.moment = sym (ap (λ (w : World). w.last) s.world) ∙ c.in-Ok.ensures.moment in
    ap (λ (z : Sight). (world_at z).last) (c.leave-in-Ok.ensures.kept ∙ c.note.ensures.sees ∙ noted-kept (sees c.enter-visit.result) (knows c.args.pass) (Hear c.args.node) c.enter-visit.ensures.kept)
    ∙ ap (λ (w : World). w.last) (walk-more (base_at (knows c.args.pass)) (sees c.enter-visit.result).story (Hear c.args.node)) ∙ last
