use Rattle.serial_law.proofs.Traces.{repository-tidy, broker-tidy, stamps-apart, put-asked, commit-asked}
use Rattle.serial_law.proofs.fact_laws.logs_fit.Goals as goal

pub returns-clause-repositories : goal.returns-clause-repositories
returns-clause-repositories c = repository-tidy

pub returns-clause-brokers : goal.returns-clause-brokers
returns-clause-brokers c = broker-tidy

pub returns-clause-stamps : goal.returns-clause-stamps
returns-clause-stamps c = stamps-apart

pub returns-clause-puts : goal.returns-clause-puts
returns-clause-puts c = put-asked

pub returns-clause-commits : goal.returns-clause-commits
returns-clause-commits c = commit-asked
