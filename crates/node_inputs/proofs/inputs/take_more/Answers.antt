use Rattle.node_inputs.proofs.Names.{refl, ◌∙◌, knows}
use Rattle.node_inputs.specs.Came.{arrived}
use Rattle.node_inputs.proofs.LifeLemmas.{if-ok, unwritten-none, unwritten-joins, up-or}
use Rattle.node_inputs.proofs.TrailLemmas.{trail-none, trail-joins}
use Rattle.node_inputs.proofs.inputs.take_more.Goals as goal

pub loop-init : goal.loop-init
loop-init g c = record { pass = c.requires.pass; up = c.requires.up; durable = refl; trail = trail-none c.args.node (knows c.args.pass); unwritten = unwritten-none _ _ }

pub returns-in-Err-clause-trail : goal.returns-in-Err-clause-trail
returns-in-Err-clause-trail g c = trail-joins c.loop.invariant.trail c.take-back.ensures.trail

pub returns-in-Ok : goal.returns-in-Ok
returns-in-Ok g c =
    let e = c.take-back.ensures in
    record {
      pass = e.pass;
      up = up-or (arrived c.in-Ok.field-0) (if-ok _ _ _ c.in-Ok.is e.up);
      err = tt;
      durable = e.durable ∙ c.loop.invariant.durable;
      trail = trail-joins c.loop.invariant.trail e.trail;
      unwritten = unwritten-joins c.loop.invariant.unwritten e.unwritten;
      cause = λ z. absurd (cc z);
    }

pub loop-preserved : goal.loop-preserved
loop-preserved g c =
    let e = c.take-back.ensures in
    record {
      pass = e.pass;
      up = up-or (arrived c.in-Ok-Arrived.field-0) (if-ok _ _ _ c.in-Ok-Arrived.is e.up);
      durable = e.durable ∙ c.loop.invariant.durable;
      trail = trail-joins c.loop.invariant.trail e.trail;
      unwritten = unwritten-joins c.loop.invariant.unwritten e.unwritten;
    }
