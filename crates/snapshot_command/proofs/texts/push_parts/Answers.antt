use Rattle.std.proofs.Common.{◌+◌, ◌∷◌, ◌++◌, [], length-append, arith, ap, ◌∙◌}
use Rattle.snapshot_command.specs.Texts.{value_lines}
use Rattle.snapshot_command.proofs.PartLemmas.{lines-more, parts-more, refused-next}
use Rattle.snapshot_command.proofs.texts.push_parts.Goals as goal

pub returns-in-Err-clause-err : goal.returns-in-Err-clause-err
returns-in-Err-clause-err c =
    let now = c.loop-place.invariant in
    let long = now.1 in
    let low = c.loop-place-test.true in
    refused-next c.args.known.now c.args.mark now.0 c.in-Err.fault (c.loop-place.place + 1) (omega (arith, long)) (omega (arith, low)) now.2 c.in-Err.ensures.undecided

pub loop-place-preserved : goal.loop-place-preserved
loop-place-preserved c =
    let now = c.loop-place.invariant in
    let list = c.in-Ok.list.items in
    let long = now.1 in
    let more = length-append now.0 (list ∷ []) in (
      now.0 ++ list ∷ [],
      omega (arith, long, more),
      parts-more c.args.known.now c.args.mark now.0 list (c.loop-place.place + 1) (omega (arith, long)) now.2 (record { decided = c.in-Ok.ensures.decided; rising = c.in-Ok.ensures.rising; values = c.in-Ok.ensures.ok }),
      lines-more c.args.out.now.items c.loop-place.out.items c.push_values.new.out.items now.0 list now.3 (c.in_ok-push_values.ensures ∙ ap (λ l. c.loop-place.out.items ++ value_lines l) c.as_slice.ensures.value),
    )
