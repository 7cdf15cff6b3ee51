-- No calm place is stuck, where what always holds holds there.
use Rattle.complete_law.proofs.Names.{Base, sent_by, start_world, base_of, fates_of, node_turns, node_facts, LogFacts, logs_at, node-laws, past-laws, CalmPlace, IsIdleAt, AllDone, world_at, [], refl, Ticked, legal-facts, walk-known}
use Rattle.world_core.specs.Pasts.{OpenedWith}
use Rattle.complete_law.proofs.Places.{CalmWorld}
use Rattle.complete_law.proofs.Idles.{idle-done}

module _ (p : CalmPlace) where
  abbrev base : Base
  base = base_of p.run.script p.run.plan p.run.trace

  agrees : OpenedWith p.run.trace.opened (λ n. [])
  agrees n log e = p.run.empty n log e

  pub calm-facts : LogFacts (node_facts p.run.script) base (logs_at (λ n. []) (world_at p)) [] (sent_by (world_at p)) (Ticked [] p.front)
  calm-facts = legal-facts p.run.script (node_turns p.run.script) (node_facts p.run.script) (node-laws p.run.script) (past-laws p.run.script) p.run.plan p.run.asked p.run.trace (λ n. []) p.front p.rest
      ([], tt, λ n. refl) agrees p.run.legal p.here

  pub stuck-never : CalmWorld base (world_at p) → IsIdleAt p → AllDone p
  stuck-never calm idle b i =
      idle-done base p.run.plan (Ticked [] p.front) (world_at p) (fates_of p.run.trace.sent) p.run.legal.nodes p.run.plain calm (λ n. walk-known base (start_world base) p.front n) calm-facts idle p.run.whole p.run.legal.scripted refl b i
