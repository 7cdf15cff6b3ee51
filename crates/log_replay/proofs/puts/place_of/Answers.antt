use Rattle.std.proofs.Common.{ap, arith, sym, ◌∙◌, ◌+◌, ◌≤◌, length}
use Rattle.pseudo_time.specs.Order.{lt}
use Rattle.script_replay.specs.declared.attempts.Put.{Put}
use Rattle.log_replay.proofs.PutLemmas.{place-end, place-here, place-past}
use Rattle.log_replay.proofs.puts.place_of.Goals as goal

pub returns-then-is_before-clause-place : goal.returns-then-is_before-clause-place
returns-then-is_before-clause-place c = λ o v.
    place-here c.args.puts.now c.puts.place (record { object = o; start = c.args.start; value = v }) (c.puts.invariant.1 o v) c.index-puts-place.result c.puts-test.true c.index-puts-place.is
    (ap (λ (p : Put). lt c.args.start p.start) c.index-puts-place.is ∙ (sym c.is_before.ensures ∙ c.if-is_before.true))

pub puts-preserved : goal.puts-preserved
puts-preserved c =
    let low : c.puts.place + 1 ≤ length c.args.puts.now = omega (arith, c.puts-test.true) in (
      low,
      λ o v. place-past c.args.puts.now c.puts.place (record { object = o; start = c.args.start; value = v }) (c.puts.invariant.1 o v) c.index-puts-place.result c.puts-test.true c.index-puts-place.is
          (ap (λ (p : Put). lt c.args.start p.start) c.index-puts-place.is ∙ (sym c.is_before.ensures ∙ c.if-is_before.false)),
    )

pub returns-clause-place : goal.returns-clause-place
returns-clause-place c = λ o v. place-end c.args.puts.now c.puts.place (record { object = o; start = c.args.start; value = v }) (c.puts.invariant.1 o v) c.puts-test.false
