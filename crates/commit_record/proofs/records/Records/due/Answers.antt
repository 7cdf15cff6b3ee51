use Rattle.commit_record.proofs.DueLemmas.{all_listed, due_rises}
use Rattle.commit_record.proofs.records.Records.due.Goals as goal

pub returns-clause-listed : goal.returns-clause-listed
returns-clause-listed c = λ q.
    let i = c.self.inside in
    all_listed c.args.moment i.deadlines.entries i.states.entries c.in_ok-due.due.items c.args.self.now q c.self.invariant c.in_ok-due.ensures.ordered c.in_ok-due.ensures.due c.self.view_is

pub returns-clause-order : goal.returns-clause-order
returns-clause-order c = due_rises c.args.moment c.self.inside.deadlines.entries c.in_ok-due.due.items c.in_ok-due.ensures.ordered c.in_ok-due.ensures.due
