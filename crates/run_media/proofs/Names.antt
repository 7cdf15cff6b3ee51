-- The names that the proofs of this crate cite, passed on from one place. Declares nothing.
pub use Rattle.broker_core.specs.Fits.{other_plan, plan_fault, resume_fault}
unfoldable pub use Rattle.broker_core.specs.Fits.{keep}
pub use Rattle.broker_core.specs.Readings.{reading}
pub use Rattle.broker_core.specs.Tasks.{Scripted, Task, tasks}
pub use Rattle.effect_form.specs.declared.effects.Effect.{Effect}
pub use Rattle.plan_form.specs.declared.plans.Plan.{Plan}
pub use Rattle.pseudo_time.specs.declared.nodes.NodeId.{NodeId}
pub use Rattle.pseudo_time.specs.declared.nodes.NodeKind.{NodeKind}
pub use Rattle.pseudo_time.specs.declared.nodes.NodeKind.TheVariants.{Broker, Repository}
pub use Rattle.run_media.specs.Openings.{AreReady, FirstRefusal, IsOpen, IsReadyFor, IsRefusalFor, Refuses, RefusesLog, fault_in, kind_fault, log_in, opened_from}
pub use Rattle.run_media.specs.Places.{kind_place, node_at, node_count, place_of}
pub use Rattle.run_media.specs.declared.openings.Opening.{Opening}
pub use Rattle.std.proofs.Common.{All, Bool, Err, List, None, Ok, Option, Some, [], ap, arith, cond, drop, false, if◌then◌else◌, is_some, length, nat_le, nat_lt, refl, reverse, slice_get, slice_index_or, subst, suc, sym, take, true, zero, ℕ, ◌&&◌, ◌++◌, ◌+◌, ◌-◌, ◌<◌, ◌==◌, ◌∙◌, ◌∷◌, ◌≡◌, ◌≢◌, ◌≤◌}
pub use Rattle.std.proofs.lemmas.Bool.Decides.{nat_tests}
pub use Rattle.std.proofs.lemmas.List.{length-take-le, take_all, take_more}
pub use Rattle.std.proofs.lemmas.List.Sums.{sum_by-cons}
pub use Rattle.std.specs.List.{AllZip, count_by}
pub use Rattle.std.specs.Prelude.{filter, is_none, slice_index}
pub use Rattle.value_form.specs.declared.acts.ActSpec.{ActSpec}
pub use Rattle.world_core.specs.Legal.{JustNodes, in_plan, is_within, most_of}
pub use Rattle.world_core.specs.Nodes.{acts_of, kind_ready}
unfoldable pub use Rattle.world_core.specs.Nodes.{is_ready}
