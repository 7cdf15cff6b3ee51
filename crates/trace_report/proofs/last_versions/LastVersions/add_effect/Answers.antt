use Rattle.trace_report.proofs.FinalLemmas.{other-effect}
use Rattle.trace_report.proofs.last_versions.LastVersions.add_effect.Goals as goal

pub returns-in_default : goal.returns-in_default
returns-in_default c = λ k m d h. other-effect k m c.args.self.now c.args.effect.now c.in_default.not-Put h
