use Rattle.std.proofs.Common.{sym, ◌∙◌}
use Rattle.std.proofs.lemmas.Bool.{false≢true}
use Rattle.script_replay.proofs.VersionLemmas.{none-passed, other-passed, print-passed, read-passed, wrote-passed}
use Rattle.script_replay.specs.Attempts.{versions_of}
use Rattle.script_replay.proofs.versions.pass_line.Goals as goal

pub returns-in_default-clause-passed : goal.returns-in_default-clause-passed
returns-in_default-clause-passed c = none-passed c.args.stamp c.args.step c.args.line.now c.in-Wrote.object c.in-Wrote.value c.in-Wrote.is c.args.puts.now c.in_default.ensures.cases

pub returns-then-not-is_put-clause-passed : goal.returns-then-not-is_put-clause-passed
returns-then-not-is_put-clause-passed c =
    other-passed c.args.stamp c.args.step c.args.line.now c.in-Wrote.object c.in-Wrote.value c.in-Wrote.is c.args.puts.now c.in-Some.more.now c.in-Some.first.now c.in-Some.ensures.cases.0
    (λ e. false≢true (sym c.if-not-is_put.true ∙ c.is_put.ensures.1 e))

pub returns-in-Print-clause-passed : goal.returns-in-Print-clause-passed
returns-in-Print-clause-passed c = print-passed c.args.stamp c.args.step c.args.line.now (versions_of c.args.puts.now) c.in-Print.field-0 c.in-Print.is

pub returns-in-Read-clause-passed : goal.returns-in-Read-clause-passed
returns-in-Read-clause-passed c = read-passed c.args.stamp c.args.step c.args.line.now (versions_of c.args.puts.now) c.in-Read.field-0 c.in-Read.field-1 c.in-Read.is

pub returns-else-not-is_put-clause-passed : goal.returns-else-not-is_put-clause-passed
returns-else-not-is_put-clause-passed c =
    wrote-passed c.args.stamp c.args.step c.args.line.now c.in-Wrote.object c.in-Wrote.value c.in-Wrote.is c.args.puts.now c.in-Some.more.now c.in-Some.first.now c.in-Some.ensures.cases.0
    (c.is_put.ensures.0 c.if-not-is_put.false)
