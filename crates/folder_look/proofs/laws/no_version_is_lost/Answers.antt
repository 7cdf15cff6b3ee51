use Rattle.folder_look.specs.Rows.{rows_of}
use Rattle.folder_look.proofs.HomeLemmas.{has-told}
use Rattle.folder_look.proofs.VolumeLemmas.{none-lost}
use Rattle.folder_look.proofs.laws.no_version_is_lost.Goals as goal

pub returns : goal.returns
returns c = λ choice homes o logs v low q among chosen. has-told homes q.start (rows_of choice o logs) (none-lost choice o logs v low q among chosen)
