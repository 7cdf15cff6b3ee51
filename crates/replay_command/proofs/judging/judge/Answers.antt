use Rattle.log_replay.specs.Folders.{items_of}
use Rattle.replay_command.specs.Verdicts.{IsJudged, Judges}
use Rattle.replay_command.proofs.JudgeLemmas.{judged-of, ok-map}
use Rattle.replay_command.proofs.judging.judge.Goals as goal

pub returns-in-Ok : goal.returns-in-Ok
returns-in-Ok c =
    let repositories = items_of c.args.repositories.now in
    let brokers = items_of c.args.brokers.now in
    let told = c.in-Ok.telling.told.items in
    let untried = c.in-Ok.telling.untried in
    let misdecided = c.in_ok-misdecided.misdecided in
    ok-map (IsJudged told untried misdecided) (Judges repositories brokers) c.judge_told.result
    (λ v j. judged-of repositories brokers told untried misdecided c.in-Ok.ensures.tells c.in_ok-misdecided.ensures v j) c.judge_told.ensures
