use Rattle.run_starts.proofs.Names.{◌≡◌, ◌∙◌, map, ap, sym, subst, knows, fresh, WireParts, IsWirePass, fresh_for}
use Rattle.run_starts.proofs.StartLemmas.{split-passes, all-front, all-last}
use Rattle.run_starts.proofs.starts.shared.Goals as goal

pub returns-in-Some-clause-has : goal.returns-in-Some-clause-has
returns-in-Some-clause-has g c =
    let whole = c.in-Ok.passes.items in
    let front = c.pop.new.self.items in
    let one = c.in-Some.conductor in
    let split = c.in-Some.ensures.items in
    let base = sym c.in-Ok.ensures.base in
    let s = split-passes (λ p. knows p) c.args.wire c.args.wire.origin.opened whole front one c.in-Ok.ensures.fresh split in
    record {
      starts = c.requires.start ∙ ap (λ (w : WireParts). w.origin.start) base;
      passes_fit = all-front (λ p. IsWirePass c.in-Ok.wire.lock p) whole front one split c.in-Ok.ensures.passes;
      unseen = subst (λ (w : WireParts). map (λ p. knows p) front ≡ fresh_for w w.origin.opened) base s.0;
      conducts = all-last (λ p. IsWirePass c.in-Ok.wire.lock p) whole front one split c.in-Ok.ensures.passes;
      conductor_unseen = subst (λ (w : WireParts). knows one ≡ fresh w 0) base s.1;
    }
