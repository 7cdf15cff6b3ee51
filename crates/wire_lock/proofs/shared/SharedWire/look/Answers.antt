use Rattle.wire_lock.proofs.Names.{knows, Idle, fates_of, WireParts, world_of, ap, length, sym, subst, ◌∙◌, ◌≡◌, ◌↔◌, IsTrue, false}
use Rattle.wire_lock.proofs.SightLemmas.{finds, origin-of, entries-in, lock-origin, looked-of, sent-left, rest-left, left-of, idle-left}
use Rattle.wire_lock.proofs.shared.SharedWire.look.Goals as goal

pub leave-requires : goal.leave-requires
leave-requires g c =
    let x = c.enter-visit.ensures.value in
    let at = c.value-wire.ensures.value x.0 x.1 in
    record { stands = (c.value-wire.result.now, c.value-wire.ensures.inside _, origin-of at ∙ x.2 ∙ sym (lock-origin c.enter-visit.ensures.lock), entries-in at ∙ x.3) }

pub returns-clause-looked : goal.returns-clause-looked
returns-clause-looked g c =
    looked-of _ _ _ c.requires.pass.own (c.leave.ensures.kept ∙ c.enter-visit.ensures.kept) c.enter-visit.ensures.carries

pub returns-clause-sent : goal.returns-clause-sent
returns-clause-sent g c =
    let x = c.enter-visit.ensures.value in
    let s = finds c.args.self.now.lock c.args.pass x.0 c.value-wire.result.now _ c.requires.pass x.2 x.3 c.enter-visit.ensures.carries (c.value-wire.ensures.value x.0 x.1) in
    λ t. sent-left (knows c.args.pass) (knows c.leave.result) _ _ _ (c.leave.ensures.kept ∙ c.enter-visit.ensures.kept) s.world (c.sent.ensures.told t)

pub returns-clause-entries : goal.returns-clause-entries
returns-clause-entries g c =
    let x = c.enter-visit.ensures.value in
    let at = c.value-wire.ensures.value x.0 x.1 in
    let s = finds c.args.self.now.lock c.args.pass x.0 c.value-wire.result.now _ c.requires.pass x.2 x.3 c.enter-visit.ensures.carries at in
    let left = left-of (knows c.args.pass) (knows c.leave.result) _ (knows c.args.pass).own c.of-left.result.value (origin-of c.of-left.ensures ∙ s.origin) (entries-in (c.of-left.ensures ∙ at) ∙ x.3) (c.leave.ensures.kept ∙ c.enter-visit.ensures.kept) in
    c.entry_count.ensures ∙ (ap (λ (w : WireParts). length w.entries) (sym c.of-left.ensures) ∙ ap length left.entries)

pub returns-clause-rest : goal.returns-clause-rest
returns-clause-rest g c =
    let x = c.enter-visit.ensures.value in
    let s = finds c.args.self.now.lock c.args.pass x.0 c.value-wire.result.now _ c.requires.pass x.2 x.3 c.enter-visit.ensures.carries (c.value-wire.ensures.value x.0 x.1) in
    λ i. rest-left (knows c.args.pass) (knows c.leave.result) _ c.value-wire.result.now (c.leave.ensures.kept ∙ c.enter-visit.ensures.kept) s.world (c.idle.ensures.quiet.0 i).1

pub returns-clause-left : goal.returns-clause-left
returns-clause-left g c =
    let x = c.enter-visit.ensures.value in
    let at = c.value-wire.ensures.value x.0 x.1 in
    let s = finds c.args.self.now.lock c.args.pass x.0 c.value-wire.result.now _ c.requires.pass x.2 x.3 c.enter-visit.ensures.carries at in
    left-of (knows c.args.pass) (knows c.leave.result) _ (knows c.args.pass).own _ (origin-of c.of-left.ensures ∙ s.origin) (entries-in (c.of-left.ensures ∙ at) ∙ x.3) (c.leave.ensures.kept ∙ c.enter-visit.ensures.kept)

pub returns-clause-idle : goal.returns-clause-idle
returns-clause-idle g c = λ t.
    let x = c.enter-visit.ensures.value in
    let at = c.value-wire.ensures.value x.0 x.1 in
    let s = finds c.args.self.now.lock c.args.pass x.0 c.value-wire.result.now _ c.requires.pass x.2 x.3 c.enter-visit.ensures.carries at in
    let left = left-of (knows c.args.pass) (knows c.leave.result) _ (knows c.args.pass).own _ (origin-of c.of-left.ensures ∙ s.origin) (entries-in (c.of-left.ensures ∙ at) ∙ x.3) (c.leave.ensures.kept ∙ c.enter-visit.ensures.kept) in
    idle-left c.of-left.result.value (knows c.leave.result) c.idle.result left
    (subst (λ (w : WireParts). IsTrue c.idle.result ↔ ((w.broken ≡ false) × Idle (fates_of w.sent) (world_of w))) (sym c.of-left.ensures) (c.idle.ensures.idle t))
