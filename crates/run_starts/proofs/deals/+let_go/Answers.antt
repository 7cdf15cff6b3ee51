use Rattle.std.proofs.Common.{rules, ◌≡◌, [], length, ap, arith}
use Rattle.run_starts.proofs.StartLemmas.{all-front, all-last}
use Rattle.run_starts.proofs.deals.+let_go.Goals as goal

pub destroy_empty-requires-2 : goal.destroy_empty-requires-2
destroy_empty-requires-2 g t c =
    let none = ap length (all-last (λ s. s.items ≡ []) c.args.shares.items c.pop.new.self.items c.in-Some.last c.in-Some.ensures.items c.requires.empty) in
    omega (arith, none, c.in-Some.last.ok)

pub let_go-requires : goal.let_go-requires
let_go-requires g t c κs within =
    (search rules, (within, all-front (λ s. s.items ≡ []) c.args.shares.items c.pop.new.self.items c.in-Some.last c.in-Some.ensures.items c.requires.empty))
