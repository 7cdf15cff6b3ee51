-- The names that the proofs of this crate cite, passed on from one place. Declares nothing.
pub use Rattle.broker_core.specs.Tasks.{Scripted, tasks}
pub use Rattle.broker_node.specs.Logs.{HasEffects, as_damage, is_over, medium_in}
pub use Rattle.effect_form.specs.declared.effects.Effect.{Effect}
pub use Rattle.medium_port.specs.Image.{Image, NoMore}
pub use Rattle.node_turn.proofs.MediumLemmas.{appended, appends-all, appends-none, leaves-log, reopened-none}
pub use Rattle.node_turn.specs.Cores.{HasTurn, IsDamageOf, IsReady, given_for}
pub use Rattle.node_turn.specs.Sights.{IsOf, base_at, life_at, origin_at}
pub use Rattle.pseudo_time.specs.Nodes.{broker}
pub use Rattle.pseudo_time.specs.declared.nodes.NodeId.{NodeId}
pub use Rattle.std.proofs.Common.{Err, List, Ok, Option, Some, ap, append_assoc, arith, false, inr, is_none, refl, reverse, subst, sym, true, ℕ, ◌++◌, ◌∙◌, ◌≡◌, ◌≤◌}
pub use Rattle.version_store.specs.StoreWords.{medium_of}
pub use Rattle.node_turn.specs.WorldNodes.Input.{Going, Hearing, Taking}
pub use Rattle.node_turn.specs.Walks.{Base, Life, after_input, all_effects, gated_life, opened_life, opened_log}
