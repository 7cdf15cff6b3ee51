use Rattle.wire_core.proofs.Names.{Plan, asked_of, IsLegal, WireParts, IsRunOf, ◌++◌, map, IsTrue, sym, subst}
use Rattle.world_core.specs.declared.traces.Trace.{Trace}
use Rattle.wire_core.proofs.SoundLemmas.{sound-learns, sound-legal}
use Rattle.wire_core.specs.Learns.{LearnsAreNew}
use Rattle.wire_core.specs.Wires.{base_from}
use Rattle.wire_core.proofs.wires.Wire.finish.Goals as goal

pub returns-clause-learns : goal.returns-clause-learns
returns-clause-learns g c = λ t. subst (λ (v : WireParts). LearnsAreNew (base_from v.origin) v.entries) c.self.view_is (sound-learns _ _ _ _ _ c.self.invariant t)

pub returns-clause-legal : goal.returns-clause-legal
returns-clause-legal g c =
    let w = c.self.inside in
    subst (λ (v : WireParts). IsTrue g.M.Medium.tells → (plan : Plan) → IsRunOf plan v.origin → IsLegal plan (v.origin.asked ++ map asked_of v.sent) (record { start = w.start; opened = c.of.result; sent = c.of-2.result; entries = c.of-3.result })) c.self.view_is
    (λ t plan is. subst (λ (x : Trace). IsLegal plan (g.F.Fates.asked w.first_fates.value ++ map asked_of w.sent.items) x) (λ i. record { start = w.start; opened = sym c.of.ensures i; sent = sym c.of-2.ensures i; entries = sym c.of-3.ensures i })
    (sound-legal _ _ _ _ _ c.self.invariant t plan is))
