use Rattle.wire_lock.proofs.Names.{knows, sees, Entry, Gate, World, Life, Flags, base_at, base_from, posted, decided_by, List, [], ◌∷◌, ◌++◌, sym, ap, ◌∙◌, all_effects}
use Rattle.wire_lock.proofs.SightLemmas.{finds, origin-of, entries-in, story-of, lock-origin, looked-of, pass-origin, gated-of, gate-kept, all-posted}
use Rattle.std.specs.List.{filter}
use Rattle.world_core.specs.Nodes.{leaves}
use Rattle.wire_lock.proofs.DecisionLemmas.{gate-stands}
use Rattle.wire_lock.proofs.shared.SharedWire.gate.Goals as goal

pub gate-requires-clause-up : goal.gate-requires-clause-up
gate-requires-clause-up g c =
    let x = c.enter-visit.ensures.value in
    let s = finds c.args.self.now.lock c.args.pass x.0 c.value.result.now _ c.requires.pass x.2 x.3 c.enter-visit.ensures.carries (c.value.ensures.value x.0 x.1) in
    ap (λ (w : World). (w.flags c.args.node).up) s.world ∙ ap (λ (h : Flags). h.up) (s.before.flags c.args.node c.requires.node) ∙ c.requires.up

pub gate-requires-clause-due : goal.gate-requires-clause-due
gate-requires-clause-due g c =
    let x = c.enter-visit.ensures.value in
    let s = finds c.args.self.now.lock c.args.pass x.0 c.value.result.now _ c.requires.pass x.2 x.3 c.enter-visit.ensures.carries (c.value.ensures.value x.0 x.1) in
    ap (λ (w : World). (w.flags c.args.node).due) s.world ∙ ap (λ (h : Flags). h.due) (s.before.flags c.args.node c.requires.node) ∙ c.requires.due

pub gate-requires-clause-owed : goal.gate-requires-clause-owed
gate-requires-clause-owed g c =
    let x = c.enter-visit.ensures.value in
    let s = finds c.args.self.now.lock c.args.pass x.0 c.value.result.now _ c.requires.pass x.2 x.3 c.enter-visit.ensures.carries (c.value.ensures.value x.0 x.1) in
    λ t. c.requires.owed t ∙ ap (λ (l : Life). filter (leaves (all_effects l)) l.outs) (sym (ap (λ (w : World). w.life c.args.node) s.world ∙ s.before.life c.args.node c.requires.node))

pub leave-requires : goal.leave-requires
leave-requires g c =
    let x = c.enter-visit.ensures.value in
    let at = c.value.ensures.value x.0 x.1 in
    record { stands = (c.gate.new.self, c.value.ensures.inside _, c.in-Err.ensures.err.origin ∙ origin-of at ∙ x.2 ∙ sym (lock-origin c.enter-visit.ensures.lock), c.in-Err.ensures.err.entries ∙ entries-in at ∙ x.3) }

pub note-requires-clause-value : goal.note-requires-clause-value
note-requires-clause-value g c =
    let x = c.enter-visit.ensures.value in
    let at = c.value.ensures.value x.0 x.1 in
    (c.gate.new.self, c.value.ensures.inside _, c.in-Ok.ensures.ok.entries ∙ ap (λ (l : List Entry). l ++ Gate c.args.node ∷ []) (entries-in at ∙ x.3))

pub post_all-requires-clause-inside : goal.post_all-requires-clause-inside
post_all-requires-clause-inside g c =
    (c.gate.new.self, c.note.ensures.inside _ (c.value.ensures.inside _))

pub post_all-requires-clause-stand : goal.post_all-requires-clause-stand
post_all-requires-clause-stand g c =
    let x = c.enter-visit.ensures.value in
    let s = finds c.args.self.now.lock c.args.pass x.0 c.value.result.now _ c.requires.pass x.2 x.3 c.enter-visit.ensures.carries (c.value.ensures.value x.0 x.1) in
    gate-stands _ (base_at (knows c.args.pass)) _ (sees c.enter-visit.result).story _ c.args.node c.args.decides.now
    (ap (λ (h : Flags). h.up) (s.before.flags c.args.node c.requires.node) ∙ c.requires.up)
    (λ t. c.requires.decides t ∙ ap (λ (l : Life). decided_by c.args.node l.fresh) (sym (s.before.life c.args.node c.requires.node)))
    (ap base_from (lock-origin (c.note.ensures.lock ∙ c.enter-visit.ensures.lock) ∙ pass-origin c.args.self.now.lock c.args.pass c.requires.pass.of_lock)) (story-of c.note.ensures.sees)

pub leave-requires-in-Ok : goal.leave-requires-in-Ok
leave-requires-in-Ok g c =
    let x = c.enter-visit.ensures.value in
    let at = c.value.ensures.value x.0 x.1 in
    record {
      stands = (
        c.gate.new.self,
        c.post_all.ensures.inside _ (c.note.ensures.inside _ (c.value.ensures.inside _)),
        c.in-Ok.ensures.ok.origin ∙ origin-of at ∙ x.2 ∙ sym (lock-origin (c.post_all.ensures.lock ∙ c.note.ensures.lock ∙ c.enter-visit.ensures.lock)),
        c.in-Ok.ensures.ok.entries ∙ ap (λ (l : List Entry). l ++ Gate c.args.node ∷ []) (entries-in at ∙ x.3) ∙ sym (story-of c.note.ensures.sees) ∙ sym (story-of c.post_all.ensures.sees),
      );
    }

pub returns-in-Err-clause-err : goal.returns-in-Err-clause-err
returns-in-Err-clause-err g c =
    looked-of _ _ _ c.requires.pass.own (c.leave.ensures.kept ∙ c.enter-visit.ensures.kept) c.enter-visit.ensures.carries

pub returns-in-Ok-clause-ok : goal.returns-in-Ok-clause-ok
returns-in-Ok-clause-ok g c =
    gated-of _ c.args.node (knows c.args.pass) _ _ c.args.decides.now c.requires.pass.own c.requires.node c.requires.up
    (c.leave-in-Ok.ensures.kept ∙ c.post_all.ensures.sees ∙ all-posted (posted c.args.decides.now) c.note.ensures.sees ∙ gate-kept (sees c.enter-visit.result) (knows c.args.pass) (Gate c.args.node) (posted c.args.decides.now) c.enter-visit.ensures.kept)
    c.enter-visit.ensures.carries
