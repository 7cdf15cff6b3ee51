use Rattle.archive_law.proofs.ArchiveLemmas.{archive-is}
use Rattle.archive_law.proofs.AuditLemmas.{all-listed, version-held}
use Rattle.archive_law.proofs.laws.law_of_audit.Goals as goal

pub returns-clause-archive : goal.returns-clause-archive
returns-clause-archive c cs r past = archive-is cs past r

pub returns-clause-versions : goal.returns-clause-versions
returns-clause-versions c cs r o past = all-listed cs past r o

pub returns-clause-volumes : goal.returns-clause-volumes
returns-clause-volumes c cs r o x v past = version-held cs past r o x v
