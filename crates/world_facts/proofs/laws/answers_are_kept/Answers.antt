use Rattle.world_facts.proofs.Names.{base_of, alike, sent_by, walk, TickedBy, replaced, sent_earlier, logs_at}
use Rattle.world_facts.proofs.AnswerLemmas.{all-kept, all-seen}
use Rattle.world_facts.proofs.EarlierLemmas.{older-facts}
use Rattle.world_facts.proofs.laws.answers_are_kept.Goals as goal

pub returns-clause-logs : goal.returns-clause-logs
returns-clause-logs c = λ script plan asked t logs front rest past agrees legal here q h.
    all-kept script (base_of script plan t) (logs_at logs (walk (base_of script plan t) front)) (replaced (alike script) past.0) (sent_earlier (alike script) past.0)
    (sent_by (walk (base_of script plan t) front)) (TickedBy past.0 front) (older-facts script plan asked t logs front rest past agrees legal here) q h

pub returns-clause-sight : goal.returns-clause-sight
returns-clause-sight c = λ script plan asked t logs front rest past agrees legal here r to x v h.
    all-seen script (base_of script plan t) (logs_at logs (walk (base_of script plan t) front)) (replaced (alike script) past.0) (sent_earlier (alike script) past.0)
    (sent_by (walk (base_of script plan t) front)) (TickedBy past.0 front) (older-facts script plan asked t logs front rest past agrees legal here) r to x v h
