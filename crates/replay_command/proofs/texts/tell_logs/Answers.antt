use Rattle.std.proofs.Common.{inr, drop, ap, sym, subst, ◌∙◌}
use Rattle.std.specs.Global.{Vec}
use Rattle.std.specs.List.{drop-map, take-map}
use Rattle.effect_form.specs.declared.effects.Effect.{Effect}
use Rattle.log_replay.specs.Folders.{items_of}
use Rattle.replay_command.specs.Counts.{versions_in}
use Rattle.replay_command.specs.Replayed.{TellsVerdict}
use Rattle.replay_command.specs.Verdicts.{Judges}
use Rattle.replay_command.proofs.texts.tell_logs.Goals as goal

pub returns-in-Ok : goal.returns-in-Ok
returns-in-Ok c =
    let logs = c.args.logs.now in
    let front = ap items_of c.split_at.ensures.front ∙ sym (take-map (λ (l : Vec Effect). l.items) 16 logs) in
    let back = ap items_of c.split_at.ensures.back ∙ sym (drop-map (λ (l : Vec Effect). l.items) 16 logs) in
    inr (record {
      outcome = c.in-Ok.verdict;
      judges = subst (λ l. Judges l (drop 16 (items_of logs)) c.in-Ok.verdict) front (subst (λ l. Judges (items_of c.split_at.result.0.now) l c.in-Ok.verdict) back c.in-Ok.ensures);
      tells = subst (λ n. TellsVerdict c.args.head.items n c.args.values c.in-Ok.verdict c.tell_verdict.result) (c.versions_in.ensures ∙ ap versions_in front) c.tell_verdict.ensures;
    })
