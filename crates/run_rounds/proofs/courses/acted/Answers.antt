use Rattle.run_rounds.proofs.Names.{knows, Base, base_from, pass-origin, HasAllOf, HasPass, IsReady, TicksAreWanted, ◌∙◌, ◌++◌, ◌∷◌, [], length, ap, subst, arith, length-map, each-shared}
use Rattle.run_rounds.proofs.CourseLemmas.{dealt-again, each-node, ends-up, have-come, nodes-count, shares-count}
use Rattle.run_rounds.proofs.courses.acted.Goals as goal

pub conduct-shares-requires-clause-ready : goal.conduct-shares-requires-clause-ready
conduct-shares-requires-clause-ready g c κs within =
    each-shared (length c.args.shares.items) c.requires.some (IsReady c.args.wire.now.lock) c.args.nodes.items c.deal-nodes.result.1.items c.deal-nodes.ensures.dealt c.deal-nodes.ensures.count c.requires.ready

pub collect-nodes-requires-clause-some : goal.collect-nodes-requires-clause-some
collect-nodes-requires-clause-some g c =
    let w = g.M.Medium in
    let n = shares-count w (length c.args.shares.items) c.requires.some c.args.nodes.items c.deal-nodes.result.1.items c.conduct-shares.result.0.items c.deal-nodes.ensures.dealt c.deal-nodes.ensures.count c.conduct-shares.ensures.went in
    let some = c.requires.some in omega (arith, n, some)

pub collect-nodes-requires-clause-dealt : goal.collect-nodes-requires-clause-dealt
collect-nodes-requires-clause-dealt g c =
    let w = g.M.Medium in
    let h = dealt-again w (length c.args.shares.items) c.requires.some c.args.nodes.items c.deal-nodes.result.1.items c.conduct-shares.result.0.items c.deal-nodes.ensures.dealt c.deal-nodes.ensures.count c.conduct-shares.ensures.went in
    let l = h.2 in
    (h.0, h.1, omega (arith, l, c.args.nodes.ok, c.len-count.ensures))

pub settled-requires-clause-passes : goal.settled-requires-clause-passes
settled-requires-clause-passes g c = (
  each-node g.M.Medium (length c.args.shares.items) c.requires.some c.args.nodes.items c.deal-nodes.result.1.items c.conduct-shares.result.0.items c.deal-nodes.ensures.dealt c.deal-nodes.ensures.count c.conduct-shares.ensures.went
      c.collect-nodes.result.items (λ xs d l. c.collect-nodes.ensures.whole xs d (omega (arith, l, c.args.nodes.ok, c.len-count.ensures))) (HasPass c.args.wire.now.lock) c.conduct-shares.ensures.passes.0,
  c.conduct-shares.ensures.passes.1,
)

pub settled-requires-clause-up : goal.settled-requires-clause-up
settled-requires-clause-up g c =
    let w = g.M.Medium in
    let conductor = c.conduct-shares.result.1 in
    let come = have-come w (length c.args.shares.items) c.requires.some c.args.nodes.items c.deal-nodes.result.1.items c.conduct-shares.result.0.items c.deal-nodes.ensures.dealt c.deal-nodes.ensures.count c.conduct-shares.ensures.went
    c.collect-nodes.result.items (λ xs d l. c.collect-nodes.ensures.whole xs d (omega (arith, l, c.args.nodes.ok, c.len-count.ensures))) c.args.limits c.conduct-shares.result.2 (knows conductor) c.conduct-shares.ensures.kept
    c.conduct-shares.ensures.all c.conduct-shares.ensures.conductor c.conduct-shares.ensures.ticks
    (λ told. subst (λ (b : Base). TicksAreWanted b (knows conductor).story c.conduct-shares.result.0.items) (ap base_from (pass-origin c.args.wire.now.lock conductor c.conduct-shares.ensures.passes.1.of_lock)) (c.conduct-shares.ensures.wanted told))
    c.conduct-shares.ensures.reason in
    ends-up w.tells c.args.limits c.conduct-shares.result.2 c.collect-nodes.result.items (knows conductor) come.ends

pub settled-requires-clause-all : goal.settled-requires-clause-all
settled-requires-clause-all g c =
    each-node g.M.Medium (length c.args.shares.items) c.requires.some c.args.nodes.items c.deal-nodes.result.1.items c.conduct-shares.result.0.items c.deal-nodes.ensures.dealt c.deal-nodes.ensures.count c.conduct-shares.ensures.went
    c.collect-nodes.result.items (λ xs d l. c.collect-nodes.ensures.whole xs d (omega (arith, l, c.args.nodes.ok, c.len-count.ensures))) (HasAllOf (knows c.conduct-shares.result.1).story) c.conduct-shares.ensures.all

pub returns : goal.returns
returns g c =
    let w = g.M.Medium in
    let W = length c.args.shares.items in
    let begun = c.args.nodes.items in
    let deal = c.deal-nodes in
    let went = c.conduct-shares in
    let k = knows went.result.1 in
    let come = have-come w W c.requires.some begun deal.result.1.items went.result.0.items deal.ensures.dealt deal.ensures.count went.ensures.went
    c.collect-nodes.result.items (λ xs d l. c.collect-nodes.ensures.whole xs d (omega (arith, l, c.args.nodes.ok, c.len-count.ensures))) c.args.limits went.result.2 k went.ensures.kept went.ensures.all went.ensures.conductor went.ensures.ticks
    (λ told. subst (λ (b : Base). TicksAreWanted b k.story went.result.0.items) (ap base_from (pass-origin c.args.wire.now.lock went.result.1 went.ensures.passes.1.of_lock)) (went.ensures.wanted told))
    went.ensures.reason in
    let last = c.settled.ensures.come c.args.limits begun come in
    record {
      passes = c.settled.ensures.passes;
      on = last.on;
      ends = record { ticks = last.ticks; wanted = last.wanted; ends = last.ends; settled = c.settled.ensures.settled };
      count = c.settled.ensures.count ∙ nodes-count w W c.requires.some begun deal.result.1.items went.result.0.items deal.ensures.dealt deal.ensures.count went.ensures.went c.collect-nodes.result.items (λ xs d l. c.collect-nodes.ensures.whole xs d (omega (arith, l, c.args.nodes.ok, c.len-count.ensures)));
    }
