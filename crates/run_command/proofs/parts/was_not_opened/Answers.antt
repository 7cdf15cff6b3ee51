use Rattle.std.proofs.Common.{◌≡◌, ◌∙◌, sym}
use Rattle.pseudo_time.specs.Nodes.{repository}
use Rattle.run_command.specs.Parts.{tells_unopened}
use Rattle.run_command.proofs.PartLemmas.{unopened-is, unopened-of}
use Rattle.run_command.proofs.parts.was_not_opened.Goals as goal

pub returns : goal.returns
returns c =
    let es = c.args.trace.now.entries in
    let n = repository c.args.number in
    let is : c.tells_unopened.result ≡ tells_unopened n es = c.tells_unopened.ensures ∙ (λ i. tells_unopened (c.repository.ensures i) (c.as_slice.ensures i)) in
    (λ h. unopened-is es n (sym is ∙ h), λ h. is ∙ unopened-of es n h)
