use Rattle.trace_report.proofs.FinalLemmas.{last-none}
use Rattle.trace_report.proofs.last_versions.LastVersions.new.Goals as goal

pub returns : goal.returns
returns c = λ k. last-none k (record { versions = c.new.result }) c.new.ensures.empty
