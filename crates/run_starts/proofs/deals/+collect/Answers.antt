use Rattle.run_starts.proofs.Names.{rules, ◌≡◌, ◌≤◌, ◌-◌, ◌+◌, ◌++◌, ◌∷◌, [], ℕ, ◌%◌, length, refl, ap, sym, subst, ◌∙◌, arith, slice_set, length_push, IsDealt}
use Rattle.run_starts.proofs.DealLemmas.{at-index, some-there, split-last, dealt-popped, empty-dealt, popped-is, length-set, no-items}
use Rattle.run_starts.proofs.deals.+collect.Goals as goal

pub let_go-requires : goal.let_go-requires
let_go-requires g t c =
    let d = c.requires.dealt in
    let l = d.2 in
    let r = c.if-count-eq0.true in
    record { empty = empty-dealt (length c.args.shares.items) d.0 c.args.shares.items d.1 (omega (arith, l, r)) refl }

pub unreachable-requires : goal.unreachable-requires
unreachable-requires g t c =
    let W = length c.args.shares.items in
    let d = c.requires.dealt in
    let r = c.if-count-eq0.false in
    let some : 1 ≤ c.args.count = omega (arith, r) in
    let l = d.2 in
    let sp = split-last d.0 (c.args.count - 1) (omega (arith, l, some)) in
    let n : length d.0 ≡ length sp.0 + 1 = ap length sp.2 ∙ length_push sp.0 sp.1 in
    let at = at-index W c.requires.some sp.0 sp.1 c.args.shares.items c.index_mut.result.now c.index_mut.result.now (c.args.count - 1) c.len-workers.result
    (omega (arith, l, n)) (omega (arith, c.len-workers.ensures, c.args.shares.ok)) refl c.index_mut.ensures.value in
    some-there W c.requires.some sp.0 sp.1 c.args.shares.items (subst (λ xs. IsDealt W xs c.args.shares.items) sp.2 d.1) c.index_mut.result.now at (no-items c.index_mut.result.now c.in_default.ensures.cases.0)

pub collect-items-requires : goal.collect-items-requires
collect-items-requires g t c κs within =
    let W = length c.args.shares.items in
    let d = c.requires.dealt in
    let r = c.if-count-eq0.false in
    let some : 1 ≤ c.args.count = omega (arith, r) in
    let l = d.2 in
    let sp = split-last d.0 (c.args.count - 1) (omega (arith, l, some)) in
    let n : length d.0 ≡ length sp.0 + 1 = ap length sp.2 ∙ length_push sp.0 sp.1 in
    let few = dealt-popped W c.requires.some sp.0 sp.1 c.args.shares.items c.index_mut.result.now c.pop.new.self (c.args.count - 1) c.len-workers.result
    (omega (arith, l, n)) (omega (arith, c.len-workers.ensures, c.args.shares.ok)) refl c.index_mut.ensures.value c.in-Some.last
    (subst (λ xs. IsDealt W xs c.args.shares.items) sp.2 d.1) c.in-Some.ensures.items in
    let size = length-set c.args.shares.items ((c.args.count - 1) % c.len-workers.result) c.pop.new.self in
    let there = subst (λ (w : ℕ). IsDealt w sp.0 (slice_set c.args.shares.items ((c.args.count - 1) % c.len-workers.result) c.pop.new.self)) (sym size) few in
    let q = c.requires.some in
    let k : length sp.0 ≡ c.args.count - 1 = omega (arith, l, n) in
    (search rules, (within, (omega (arith, size, q), ((sp.0, there, k), (search rules, search rules)))))

pub returns-clause-whole : goal.returns-clause-whole
returns-clause-whole g t c xs d l =
    let W = length c.args.shares.items in
    let r = c.if-count-eq0.false in
    let some : 1 ≤ c.args.count = omega (arith, r) in
    let sp = split-last xs (c.args.count - 1) (omega (arith, l, some)) in
    let n : length xs ≡ length sp.0 + 1 = ap length sp.2 ∙ length_push sp.0 sp.1 in
    let k : length sp.0 ≡ c.args.count - 1 = omega (arith, l, n) in
    let workers : c.len-workers.result ≡ W = omega (arith, c.len-workers.ensures, c.args.shares.ok) in
    let both : IsDealt W (sp.0 ++ sp.1 ∷ []) c.args.shares.items = subst (λ ys. IsDealt W ys c.args.shares.items) sp.2 d in
    let few = dealt-popped W c.requires.some sp.0 sp.1 c.args.shares.items c.index_mut.result.now c.pop.new.self (c.args.count - 1) c.len-workers.result
    (sym k) workers refl c.index_mut.ensures.value c.in-Some.last both c.in-Some.ensures.items in
    let is = popped-is W c.requires.some sp.0 sp.1 c.args.shares.items c.index_mut.result.now c.pop.new.self (c.args.count - 1) c.len-workers.result
    (sym k) workers refl c.index_mut.ensures.value c.in-Some.last both c.in-Some.ensures.items in
    let size = length-set c.args.shares.items ((c.args.count - 1) % c.len-workers.result) c.pop.new.self in
    let there = subst (λ (w : ℕ). IsDealt w sp.0 (slice_set c.args.shares.items ((c.args.count - 1) % c.len-workers.result) c.pop.new.self)) (sym size) few in
    let front = c.collect-items.ensures.whole sp.0 there k in
    c.push_reserved.ensures.items ∙ ((λ i. front i ++ is i ∷ []) ∙ sym sp.2)
