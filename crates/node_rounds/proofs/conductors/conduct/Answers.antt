use Rattle.node_rounds.proofs.Names.{◌∙◌, subst, arith, knows, Follows, SawMore}
use Rattle.node_rounds.proofs.TickLemmas.{begins-longer, follows-begins}
use Rattle.node_rounds.proofs.WentLemmas.{went-none, went-on, ready-again, kept-none, kept-more}
use Rattle.node_rounds.proofs.WantedLemmas.{first-wanted}
use Rattle.node_rounds.proofs.conductors.conduct.Goals as goal
use Rattle.node_rounds.proofs.conductors.conduct.Goals.{in-Round, in-Ticked}

pub loop-rounds-init : goal.loop-rounds-init
loop-rounds-init g c = record {
  ready = c.requires.ready;
  went = went-none c.args.wire.now.lock g.M.Medium c.args.shares.items c.requires.ready;
  kept = kept-none c.args.wire.now.lock g.M.Medium c.args.shares.items c.requires.ready;
  pass_is = c.requires.pass;
  conductor = c.requires.conductor;
  ticked = c.requires.ticks;
  few = omega arith;
  each = omega arith;
  there = omega arith;
  small = omega arith;
  wanted = λ told. first-wanted c.args.wire.now.lock (knows c.args.pass) c.args.shares.items c.requires.conductor c.requires.pass.own c.requires.ticks;
}

pub returns-in-End-clause-went : goal.returns-in-End-clause-went
returns-in-End-clause-went g c =
    went-on c.args.wire.now.lock g.M.Medium c.args.shares.items c.loop-rounds.shares.items c.go_round-nodes.result.0.items c.loop-rounds.invariant.ready c.loop-rounds.invariant.went c.go_round-nodes.ensures.went

pub returns-in-End-clause-kept : goal.returns-in-End-clause-kept
returns-in-End-clause-kept g c =
    kept-more c.args.wire.now.lock g.M.Medium c.args.shares.items c.loop-rounds.shares.items c.go_round-nodes.result.0.items c.loop-rounds.invariant.ready c.loop-rounds.invariant.kept c.go_round-nodes.ensures.kept

pub returns-in-End-clause-wanted : goal.returns-in-End-clause-wanted
returns-in-End-clause-wanted g c = λ told. c.go_round-nodes.ensures.wanted told (c.loop-rounds.invariant.wanted told)

-- each round before added an entry
pub returns-in-End-clause-rounds : goal.returns-in-End-clause-rounds
returns-in-End-clause-rounds g c =
    let inv = c.loop-rounds.invariant in
    let round = c.go_round-nodes in
    let b = follows-begins g.M.Medium.tells c.args.limits (knows c.loop-rounds.pass) (knows round.result.1) round.result.2 round.result.0.items round.ensures.next in
    let l = begins-longer (knows c.loop-rounds.pass).story (knows round.result.1).story b in
    omega (arith, inv.each, inv.there, l)

pub loop-rounds-preserved : goal.loop-rounds-preserved
loop-rounds-preserved g c =
    let inv = c.loop-rounds.invariant in
    let round = c.go_round-nodes in
    elim c.match-next.branch [
      | in-Round w ↦
          let f = subst (λ what. Follows g.M.Medium.tells c.args.limits what round.result.0.items (knows c.loop-rounds.pass) (knows round.result.1)) w.in-Round.is round.ensures.next in
          let m = subst (λ what. SawMore g.M.Medium.tells c.args.limits c.loop-rounds.entries round.result.3 what round.result.0.items (knows round.result.1)) w.in-Round.is round.ensures.more in
          record {
            ready = ready-again c.args.wire.now.lock round.result.0.items round.ensures.passes.0 f.0;
            went = went-on c.args.wire.now.lock g.M.Medium c.args.shares.items c.loop-rounds.shares.items round.result.0.items inv.ready inv.went round.ensures.went;
            kept = kept-more c.args.wire.now.lock g.M.Medium c.args.shares.items c.loop-rounds.shares.items round.result.0.items inv.ready inv.kept round.ensures.kept;
            pass_is = round.ensures.passes.1;
            conductor = f.1.owner ∙ inv.conductor;
            ticked = omega (arith, f.1.ticked, inv.ticked, w.ticks-is);
            few = omega (arith, inv.few, w.ticks-is);
            each = omega (arith, inv.each, m.0);
            there = m.1;
            small = m.2;
            wanted = λ told. round.ensures.wanted told (inv.wanted told);
          }
      | in-Ticked w ↦
          let f = subst (λ what. Follows g.M.Medium.tells c.args.limits what round.result.0.items (knows c.loop-rounds.pass) (knows round.result.1)) w.in-Ticked.is round.ensures.next in
          let m = subst (λ what. SawMore g.M.Medium.tells c.args.limits c.loop-rounds.entries round.result.3 what round.result.0.items (knows round.result.1)) w.in-Ticked.is round.ensures.more in
          record {
            ready = ready-again c.args.wire.now.lock round.result.0.items round.ensures.passes.0 f.0;
            went = went-on c.args.wire.now.lock g.M.Medium c.args.shares.items c.loop-rounds.shares.items round.result.0.items inv.ready inv.went round.ensures.went;
            kept = kept-more c.args.wire.now.lock g.M.Medium c.args.shares.items c.loop-rounds.shares.items round.result.0.items inv.ready inv.kept round.ensures.kept;
            pass_is = round.ensures.passes.1;
            conductor = f.2.owner ∙ inv.conductor;
            ticked = omega (arith, f.2.ticked, inv.ticked, w.ticks-is);
            few = omega (arith, f.1, inv.ticked, w.ticks-is);
            each = omega (arith, inv.each, m.0);
            there = m.1;
            small = m.2;
            wanted = λ told. round.ensures.wanted told (inv.wanted told);
          }
    ]
