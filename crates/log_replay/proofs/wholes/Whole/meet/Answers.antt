use Rattle.std.proofs.Common.{◌∷◌, refl, sym, subst}
use Rattle.std.specs.BTreeMap.{get}
use Rattle.effect_form.specs.declared.effects.Effect.{Effect as AnEffect}
use Rattle.log_replay.specs.Whole.{start_cmp}
use Rattle.log_replay.specs.declared.wholes.Start.{Start}
use Rattle.log_replay.proofs.JoinLemmas.{Knows, met-put, met-same}
use Rattle.log_replay.proofs.wholes.Whole.meet.Goals as goal

pub returns-in_ok-insert-in-Put-clause-met : goal.returns-in_ok-insert-in-Put-clause-met
returns-in_ok-insert-in-Put-clause-met c = λ log at.
    let old = λ (q : Start). get start_cmp c.args.self.now.met q in
    let new = λ (q : Start). get start_cmp c.insert.new.self q in
    subst (λ (f : AnEffect). Knows new (f ∷ log)) (sym c.in-Put.is) (met-put old new log c.in-Put.object c.in-Put.start c.in-Put.value c.in_ok-insert-in-Put.ensures.updates.0 at.met)

pub returns-in_default : goal.returns-in_default
returns-in_default c = record {
  log = refl;
  met = λ log at. met-same (λ (q : Start). get start_cmp c.args.self.now.met q) log c.args.effect.now c.in_default.not-Put at.met;
}
