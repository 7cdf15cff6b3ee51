use Rattle.wire_core.proofs.Names.{fates_of, Idle, IsQuiet, WireParts, world_of, ◌≡◌, false, IsTrue, subst, ◌↔◌}
use Rattle.wire_core.proofs.QuietLemmas.{quiet-by, quiet-not, rests-by}
use Rattle.wire_core.proofs.wires.Wire.idle.Goals as goal

pub returns-then-empty-clause-quiet : goal.returns-then-empty-clause-quiet
returns-then-empty-clause-quiet g c =
    subst (λ (v : WireParts). IsTrue c.is_idle.result ↔ ((v.broken ≡ false) × IsQuiet v)) c.self.view_is
    (quiet-by _ _ _ _ _ c.self.invariant c.if-self.false c.is_idle.result (c.empty.ensures.0 c.if-empty.true) c.is_idle.ensures)

pub returns-then-empty-clause-idle : goal.returns-then-empty-clause-idle
returns-then-empty-clause-idle g c =
    let h = c.self.invariant in
    subst (λ (v : WireParts). IsTrue g.M.Medium.tells → (IsTrue c.is_idle.result ↔ ((v.broken ≡ false) × Idle (fates_of v.sent) (world_of v)))) c.self.view_is
    (rests-by _ _ _ _ _ h c.if-self.false c.is_idle.result (quiet-by _ _ _ _ _ h c.if-self.false c.is_idle.result (c.empty.ensures.0 c.if-empty.true) c.is_idle.ensures))

pub returns-else-empty-clause-quiet : goal.returns-else-empty-clause-quiet
returns-else-empty-clause-quiet g c =
    subst (λ (v : WireParts). IsTrue c.empty.result ↔ ((v.broken ≡ false) × IsQuiet v)) c.self.view_is
    (quiet-not _ _ _ _ _ c.self.invariant c.if-self.false c.empty.result c.if-empty.false c.empty.ensures)

pub returns-else-empty-clause-idle : goal.returns-else-empty-clause-idle
returns-else-empty-clause-idle g c =
    let h = c.self.invariant in
    subst (λ (v : WireParts). IsTrue g.M.Medium.tells → (IsTrue c.empty.result ↔ ((v.broken ≡ false) × Idle (fates_of v.sent) (world_of v)))) c.self.view_is
    (rests-by _ _ _ _ _ h c.if-self.false c.empty.result (quiet-not _ _ _ _ _ h c.if-self.false c.empty.result c.if-empty.false c.empty.ensures))
