use Rattle.repository_log.proofs.MarkLemmas.{marks-append, marks-reverse, marks-in-range, knows-known}
use Rattle.repository_log.proofs.laws.marks_of_parts.Goals as goal

pub returns-clause-append : goal.returns-clause-append
returns-clause-append c = marks-append

pub returns-clause-reversed : goal.returns-clause-reversed
returns-clause-reversed c = marks-reverse

pub returns-clause-in_range : goal.returns-clause-in_range
returns-clause-in_range c = marks-in-range

pub returns-clause-knows : goal.returns-clause-knows
returns-clause-knows c = knows-known
