use Rattle.log_replay.specs.Folders.{items_of}
use Rattle.log_replay.proofs.DecisionLemmas.{are-kept-on, first-misdecided, same-grown}
use Rattle.log_replay.proofs.decisions.first_misdecided.Goals as goal

pub returns : goal.returns
returns c = λ k have.
    let checked = c.check_logs-rulings.ensures in
    let first = c.in_ok-rulings.rulings in
    let last = c.check_logs-rulings.result in
    let based = checked.based k have (c.in_ok-rulings.ensures.based k have) in
    first-misdecided k (items_of c.args.repositories.now) have.are last last.least based
    (are-kept-on first last (same-grown first last checked.decided checked.least) 0 (items_of c.args.repositories.now) c.in_ok-rulings.ensures.kept) checked.learned based.least
