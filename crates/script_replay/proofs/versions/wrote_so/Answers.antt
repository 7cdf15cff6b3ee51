use Rattle.script_replay.proofs.VersionLemmas.{empty-is, is-empty, wrote-all}
use Rattle.script_replay.proofs.versions.wrote_so.Goals as goal

pub returns : goal.returns
returns c =
    wrote-all c.args.stamp c.loop-line.step c.loop-line.line-index c.args.lines.now c.args.lines.now c.args.puts.now c.loop-line.rest.now c.loop-line-test.false c.loop-line.invariant.0
    c.is_empty.result (empty-is c.loop-line.rest.now c.is_empty.result c.is_empty.ensures) (is-empty c.loop-line.rest.now c.is_empty.result c.is_empty.ensures)
