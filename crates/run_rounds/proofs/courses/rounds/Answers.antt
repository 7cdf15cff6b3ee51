use Rattle.run_rounds.proofs.Names.{◌∙◌, ◌++◌, ◌∷◌, [], length, ap, arith, length-map}
use Rattle.run_rounds.proofs.CloseLemmas.{gone-left}
use Rattle.run_rounds.proofs.CourseLemmas.{all-passes}
use Rattle.run_rounds.proofs.courses.rounds.Goals as goal

pub push_reserved-requires : goal.push_reserved-requires
push_reserved-requires g c =
    let p = ap length c.take_apart-media.ensures.passes ∙ length-map c.gone_for-nodes.result.nodes.items _ in
    omega (arith, p, c.gone_for-nodes.ensures.count, c.take_apart-media.ensures.room.1, c.take_apart-media.result.1.ok, c.args.nodes.ok, c.requires.room.1)

pub closed_run-requires-clause-passes : goal.closed_run-requires-clause-passes
closed_run-requires-clause-passes g c =
    let last = c.gone_for-nodes.result in
    all-passes c.args.wire.lock last.nodes.items c.push_reserved.new.self.items last.conductor (c.push_reserved.ensures.items ∙ ap (λ l. l ++ last.conductor ∷ []) c.take_apart-media.ensures.passes)
    c.gone_for-nodes.ensures.passes.0 c.gone_for-nodes.ensures.passes.1

pub closed_run-requires-clause-all : goal.closed_run-requires-clause-all
closed_run-requires-clause-all g c =
    let p = ap length c.take_apart-media.ensures.passes ∙ length-map c.gone_for-nodes.result.nodes.items _ in
    omega (arith, p, c.gone_for-nodes.ensures.count, c.push_reserved.ensures.len, c.take_apart-media.result.1.ok, c.requires.count)

pub returns : goal.returns
returns g c =
    let w = g.M.Medium in
    let begun = c.args.nodes.items in
    let last = c.gone_for-nodes.result in
    let passes = c.push_reserved.new.self.items in
    let are = c.push_reserved.ensures.items ∙ ap (λ l. l ++ last.conductor ∷ []) c.take_apart-media.ensures.passes in
    record {
      why = last.reason;
      passes = passes;
      gone = gone-left w c.args.course begun last.reason c.take_apart-media.result.0.items c.closed_run.result.media passes c.closed_run.ensures.media (record {
        nodes = last.nodes.items;
        conductor = last.conductor;
        media_are = c.take_apart-media.ensures.media;
        passes_are = are;
        on = c.gone_for-nodes.ensures.on;
        rest = c.take_apart-media.ensures.rest;
        ends = c.gone_for-nodes.ensures.ends;
      });
      wires = all-passes c.args.wire.lock last.nodes.items passes last.conductor are c.gone_for-nodes.ensures.passes.0 c.gone_for-nodes.ensures.passes.1;
      closed = c.closed_run.ensures.closed;
      untold = c.closed_run.ensures.untold;
    }
