use Rattle.object_header.proofs.Names.{damage_in, passes, first_put, marks, arith, ◌≡◌, ◌≤◌, ℕ, ap, ◌∙◌, reverse, Err, damage_after, effects_in, stored}
use Rattle.object_header.specs.Tables.{ledger_of, store_of}
use Rattle.object_header.proofs.AnswerLemmas.{late-hit, late-miss}
use Rattle.object_header.proofs.headers.HeaderTable.first.Goals as goal

pub returns-in-Some-clause-found : goal.returns-in-Some-clause-found
returns-in-Some-clause-found g c told =
    let l = ledger_of c.args.self.now in
    late-hit (passes l.settles c.args.limit.now) c.args.object l.late (stored l) c.in_ok-found.field-0 c.in-Some.found c.in_ok-found.ensures.found c.in-Some.is

pub returns-in-Ok-clause-found : goal.returns-in-Ok-clause-found
returns-in-Ok-clause-found g c told =
    let l = ledger_of c.args.self.now in
    late-miss (passes l.settles c.args.limit.now) c.args.object l.late (stored l) c.in_ok-found.field-0 c.in-Ok.found c.in_ok-found.ensures.found c.in_default.is
    (c.in-Ok.ensures.found told ∙ ap (λ s. first_put (passes s c.args.limit.now) c.args.object (marks (reverse (effects_in g.M.Medium.reads (store_of c.args.self.now))))) c.settles.ensures
    ∙ ap (λ e. first_put (passes l.settles c.args.limit.now) c.args.object (marks (reverse e))) (c.args.self.now.stored told))

at_least : (a b : ℕ) → b ≡ a → a ≤ b
at_least a b is = omega (arith, is)

pub returns-in-Err-Damaged-clause-cause : goal.returns-in-Err-Damaged-clause-cause
returns-in-Err-Damaged-clause-cause g c = record {
  faults_stay = c.first_stored.ensures.later;
  damage_stays = c.first_stored.ensures.damage_stays;
  medium = λ e. absurd (cc e);
  damaged = λ page e. at_least _ _ (c.first_stored.ensures.damage ∙ ap (damage_after (damage_in (store_of c.args.self.now))) (c.in-Err-Damaged.is ∙ ap (λ f. Err f) c.in-Err-Damaged.field-0-is));
}
