use Rattle.world_facts.proofs.Names.{base_of, alike, sent_by, walk, TickedBy, replaced, sent_earlier, logs_at}
use Rattle.world_facts.proofs.AnswerLemmas.{all-of, all-read}
use Rattle.world_facts.proofs.EarlierLemmas.{older-facts}
use Rattle.world_facts.proofs.laws.reads_see_all_that_stood.Goals as goal

pub returns-clause-versions : goal.returns-clause-versions
returns-clause-versions c = λ script plan asked t logs front rest past agrees legal here r o.
    all-of script (base_of script plan t) (logs_at logs (walk (base_of script plan t) front)) (replaced (alike script) past.0) (sent_earlier (alike script) past.0)
    (sent_by (walk (base_of script plan t) front)) (TickedBy past.0 front) (older-facts script plan asked t logs front rest past agrees legal here) r o

pub returns-clause-reads : goal.returns-clause-reads
returns-clause-reads c = λ script plan asked t logs front rest past agrees legal here r to x v h.
    all-read script (base_of script plan t) (logs_at logs (walk (base_of script plan t) front)) (replaced (alike script) past.0) (sent_earlier (alike script) past.0)
    (sent_by (walk (base_of script plan t) front)) (TickedBy past.0 front) (older-facts script plan asked t logs front rest past agrees legal here) r to x v h
