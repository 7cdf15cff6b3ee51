use Rattle.run_rounds.proofs.Names.{Reason, refl, subst, ap, knows, tick_count, AllZip-long, GoesOn}
use Rattle.run_rounds.specs.Closings.{HaveCome}
use Rattle.run_rounds.proofs.CourseLemmas.{come-settled, on-settled}
use Rattle.run_starts.proofs.RoundLemmas.{looked-own}
use Rattle.run_rounds.proofs.courses.settled.Goals as goal

pub settle_nodes-reason-requires-clause-ready : goal.settle_nodes-reason-requires-clause-ready
settle_nodes-reason-requires-clause-ready g c = ((λ k d lt. record { pass = c.requires.passes.0 k d lt; up = c.requires.up c.in-Done.is k d lt }), c.requires.passes.1)

pub returns-clause-come : goal.returns-clause-come
returns-clause-come g c = λ limits begun came.
    let s = c.settle_nodes-reason in
    come-settled g.M.Medium limits begun c.args.gone.nodes.items s.new.nodes.items (knows c.args.gone.conductor) (knows s.new.pass)
    (subst (λ (r : Reason). HaveCome g.M.Medium limits begun r c.args.gone.nodes.items (knows c.args.gone.conductor)) c.in-Done.is came) s.ensures.went s.ensures.kept s.ensures.looked c.requires.passes.1.own s.ensures.passes.1.own s.ensures.all
    s.result s.ensures.ends s.ensures.done

pub returns-clause-on : goal.returns-clause-on
returns-clause-on g c = λ begun on.
    let s = c.settle_nodes-reason in
    on-settled g.M.Medium begun c.args.gone.nodes.items s.new.nodes.items (knows c.args.gone.conductor) (knows s.new.pass) (c.requires.up c.in-Done.is) s.ensures.went s.ensures.kept s.ensures.looked s.ensures.all on

pub returns-clause-ticks : goal.returns-clause-ticks
returns-clause-ticks g c = ap tick_count (looked-own c.settle_nodes-reason.ensures.looked)

pub returns-clause-ends : goal.returns-clause-ends
returns-clause-ends g c = λ ends. c.settle_nodes-reason.ensures.ends

pub returns-clause-count : goal.returns-clause-count
returns-clause-count g c = AllZip-long (GoesOn g.M.Medium.tells g.M.Medium.faults g.M.Medium.reads) c.args.gone.nodes.items c.settle_nodes-reason.new.nodes.items c.settle_nodes-reason.ensures.went

pub returns-in_default : goal.returns-in_default
returns-in_default g c = record {
  passes = c.requires.passes;
  come = λ limits begun h. h;
  on = λ begun h. h;
  ticks = refl;
  ends = λ e. e;
  settled = λ told is. absurd (c.in_default.not-Done is);
  done = λ is. is;
  count = refl;
}
