use Rattle.std.proofs.Common.{◌≡◌, ◌++◌, ap, sym, subst, ◌∙◌}
use Rattle.std.specs.Prelude.{IfOk}
use Rattle.replay_command.specs.Counts.{counts_of}
use Rattle.replay_command.specs.Replayed.{TellsVerdict}
use Rattle.replay_command.specs.Texts.{asked, rest_text}
use Rattle.replay_command.proofs.TextLemmas.{told-one}
use Rattle.replay_command.proofs.texts.tell_verdict.Goals as goal

pub returns-in-Replayed : goal.returns-in-Replayed
returns-in-Replayed c =
    let head = c.args.head.items in
    let versions = c.args.versions in
    let counts = counts_of c.in-Replayed.list.items in
    let due = head ++ rest_text versions counts (asked c.args.values c.in-Replayed.map) in
    let same = ap (λ k. head ++ rest_text versions k c.asked.result) (c.counts_of-counts.ensures ∙ ap counts_of c.as_slice.ensures.value) ∙ ap (λ m. head ++ rest_text versions counts m) c.asked.ensures in
    subst (λ v. TellsVerdict head versions c.args.values v c.told.result) (sym c.in-Replayed.is)
    (told-one due c.replay_text.result c.told.result (subst (λ t. IfOk c.replay_text.result (λ x. x ≡ t)) same c.replay_text.ensures) c.told.ensures)
