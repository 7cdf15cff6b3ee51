use Rattle.object_header.proofs.Names.{ap, BeneathParts}
use Rattle.object_header.proofs.LedgerLemmas.{late-grown, late-of_log}
use Rattle.object_header.proofs.laws.late_marks.Goals as goal

pub returns-clause-grown : goal.returns-clause-grown
returns-clause-grown c old new before left first last effects none stays grown = late-grown old new effects none (ap (λ (b : BeneathParts). b.log) stays) grown

pub returns-clause-logged : goal.returns-clause-logged
returns-clause-logged c = late-of_log
