use Rattle.std.proofs.Common.{None, Some, refl, ap, ◌∙◌}
use Rattle.std.specs.FinMap as finite
use Rattle.commit_record.specs.declared.states.RecordState.TheVariants as state
use Rattle.commit_record.proofs.RecordLemmas.{put_there, puts_both, insert-entries_of}
use Rattle.commit_record.proofs.records.Records.decide.Goals as goal

pub invariant_of-self : goal.invariant_of-self
invariant_of-self c =
    let i = c.self.inside in
    let put = put_there c.insert.result c.args.self.now i.states.entries c.args.stamp c.insert.ensures.updates c.insert.ensures.absent c.self.view_is c.requires in
    puts_both i.deadlines.entries c.remove.new.self.entries i.states.entries c.insert.new.self.entries c.args.stamp None (Some (state.Decided c.args.decision)) c.self.invariant c.remove.ensures.updates.0 put.0 refl

pub returns : goal.returns
returns c =
    let i = c.self.inside in
    let put = put_there c.insert.result c.args.self.now i.states.entries c.args.stamp c.insert.ensures.updates c.insert.ensures.absent c.self.view_is c.requires in
    insert-entries_of i.states.entries c.insert.new.self.entries c.args.stamp (state.Decided c.args.decision) put.0 ∙ ap (λ m. finite.insert m c.args.stamp (state.Decided c.args.decision)) c.self.view_is
