use Rattle.wire_core.proofs.Names.{Plan, asked_of, IsLegal, WireParts, IsRunOf, trace_of, ◌++◌, map, IsTrue, subst}
use Rattle.wire_core.proofs.SoundLemmas.{sound-legal}
use Rattle.wire_core.proofs.wires.Wire.stands.Goals as goal

pub returns-clause-legal : goal.returns-clause-legal
returns-clause-legal g c =
    subst (λ (v : WireParts). IsTrue g.M.Medium.tells → (plan : Plan) → IsRunOf plan v.origin → IsLegal plan (v.origin.asked ++ map asked_of v.sent) (trace_of v)) c.self.view_is
    (sound-legal _ _ _ _ _ c.self.invariant)
