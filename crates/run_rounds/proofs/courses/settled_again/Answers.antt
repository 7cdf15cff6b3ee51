use Rattle.run_rounds.proofs.Names.{◌∙◌, refl, sym, subst, ap, knows, tick_count, AllZip-long, GoesOn}
use Rattle.run_rounds.specs.Settled.{SettledEnds}
use Rattle.run_rounds.proofs.CourseLemmas.{on-settled, settled-up}
use Rattle.run_starts.proofs.RoundLemmas.{looked-own}
use Rattle.run_rounds.proofs.courses.settled_again.Given as given
use Rattle.run_rounds.proofs.courses.settled_again.Goals as goal

pub turn_again-requires : goal.turn_again-requires
turn_again-requires g c = record { ready = ((λ k d lt. record { pass = c.requires.passes.0 k d lt; up = c.requires.up c.in-Done.is k d lt }), c.requires.passes.1) }

pub settled-requires-clause-up : goal.settled-requires-clause-up
settled-requires-clause-up g c = λ is. settled-up c.reason_of-reason.result c.turn_again.new.nodes.items (subst (SettledEnds c.reason_of-reason.result) c.as_slice.ensures.value c.reason_of-reason.ensures) is

pub returns : goal.returns
returns g c =
    let t = c.turn_again in
    let s = c.settled in
    let w = g.M.Medium in
    let nodes = c.args.gone.nodes.items in
    let now = t.new.nodes.items in
    record {
      passes = s.ensures.passes;
      on = λ begun on. s.ensures.on begun (on-settled w begun nodes now (knows c.args.gone.conductor) (knows t.new.pass) (c.requires.up c.in-Done.is) t.ensures.went t.ensures.kept t.ensures.looked t.ensures.all on);
      ticks = s.ensures.ticks ∙ ap tick_count (looked-own t.ensures.looked);
      ends = λ ends. s.ensures.ends (subst (SettledEnds c.reason_of-reason.result) c.as_slice.ensures.value c.reason_of-reason.ensures);
      settled = s.ensures.settled;
      done = λ is. c.in-Done.is;
      count = s.ensures.count ∙ AllZip-long (GoesOn w.tells w.faults w.reads) nodes now t.ensures.went;
    }

pub returns-in_default : goal.returns-in_default
returns-in_default g c = record {
  passes = c.requires.passes;
  on = λ begun h. h;
  ticks = refl;
  ends = λ e. e;
  settled = λ told is. absurd (c.in_default.not-Done is);
  done = λ is. is;
  count = refl;
}
