use Rattle.std.proofs.Common.{◌≡◌, not, take}
use Rattle.std.specs.List.{filter}
use Rattle.repository_log.specs.Logs.{knows}
use Rattle.repository_node.specs.KeptCores.{log_in}
use Rattle.repository_node.proofs.cores.RepositoryCore.doubts.Given as goal

abbrev pub invariant-loop-stamp : goal.invariant-loop-stamp
invariant-loop-stamp g l = l.all.items ≡ filter (λ s. not (knows (log_in l.self.kept) s)) (take l.stamp-index l.self.notes.given.items)
