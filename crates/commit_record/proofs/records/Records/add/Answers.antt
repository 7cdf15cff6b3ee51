use Rattle.std.proofs.Common.{Some, refl, sym, ap, ◌∙◌}
use Rattle.std.specs.FinMap as finite
use Rattle.commit_record.specs.declared.states.RecordState.TheVariants as state
use Rattle.commit_record.proofs.RecordLemmas.{get-entries_of, puts_both, puts_back, insert-entries_of}
use Rattle.commit_record.proofs.records.Records.add.Goals as goal

pub invariant_of-self-in-Err : goal.invariant_of-self-in-Err
invariant_of-self-in-Err c =
    let i = c.self.inside in
    let none = sym (get-entries_of i.states.entries c.args.stamp) ∙ ap (λ m. finite.get m c.args.stamp) c.self.view_is ∙ c.requires in
    puts_back i.deadlines.entries c.insert.new.self.entries c.remove.new.self.entries i.states.entries c.insert-2.new.self.entries c.args.stamp (Some c.args.deadline) c.self.invariant c.in_ok-insert.ensures.updates.0 c.remove.ensures.updates.0 c.in-Err.ensures.err none

pub invariant_of-self-in_default : goal.invariant_of-self-in_default
invariant_of-self-in_default c =
    let i = c.self.inside in
    puts_both i.deadlines.entries c.insert.new.self.entries i.states.entries c.insert-2.new.self.entries c.args.stamp (Some c.args.deadline) (Some (state.Unknown c.args.deadline)) c.self.invariant c.in_ok-insert.ensures.updates.0 c.in_default.ensures.updates.0 refl

pub returns-clause-ok : goal.returns-clause-ok
returns-clause-ok c = insert-entries_of c.self.inside.states.entries c.insert-2.new.self.entries c.args.stamp (state.Unknown c.args.deadline) c.in_default.ensures.updates.0 ∙ ap (λ m. finite.insert m c.args.stamp (state.Unknown c.args.deadline)) c.self.view_is
