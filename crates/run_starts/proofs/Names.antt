-- The names that the proofs of this crate cite, passed on from one place. Declares nothing.
pub use Rattle.broker_core.specs.Readings.{reading}
pub use Rattle.broker_core.specs.Tasks.{Scripted}
pub use Rattle.effect_form.specs.declared.effects.Effect.{Effect}
pub use Rattle.node_rounds.specs.Boards.{owner_for}
pub use Rattle.node_rounds.specs.Sights.{Falls, HadNothing, IsOf, IsWirePass, Sight, base_at, flags_at, origin_at, owners_for}
pub use Rattle.node_rounds.specs.TurnNodes.{IsAtRest, NodeParts}
pub use Rattle.node_rounds.specs.Wires.{IsRunOf, Origin, WireParts}
pub use Rattle.plan_form.specs.PlanTexts.{CanRun}
pub use Rattle.plan_form.specs.declared.plans.Plan.{Plan}
pub use Rattle.pseudo_time.specs.declared.nodes.NodeId.{NodeId}
pub use Rattle.run_media.proofs.OrderLemmas.{just-nodes, log-at}
pub use Rattle.run_media.specs.Openings.{AreReady, IsReadyFor, log_in, medium_in, opened_from}
pub use Rattle.run_media.specs.Places.{node_at, node_count}
pub use Rattle.run_media.specs.declared.openings.Opening.{Opening}
pub use Rattle.run_media.specs.declared.openings.Opening.TheVariants.{Open, Shut, Wanting}
pub use Rattle.run_starts.specs.Deals.{HaveRoom, IsDealt}
pub use Rattle.run_starts.specs.Seats.{Along, CanOpen, CanSeat, IsNewNode, IsSound}
pub use Rattle.run_starts.specs.Starts.{HasFallen, IsSetUp, IsUnseen, downs_of, fresh_for}
pub use Rattle.seat_lock.specs.Words.{base_of, fresh, knows}
pub use Rattle.std.proofs.Common.{All, Any, Bool, Err, List, None, Ok, OnOk, Option, Result, Some, [], ap, arith, false, if◌then◌else◌, inl, inr, is_err, is_some, length, map, nat_lt, refl, rules, slice_get, slice_index_or, slice_set, subst, suc, sym, take, true, vec_len, zero, ℕ, ◌%◌, ◌*◌, ◌++◌, ◌+◌, ◌-◌, ◌/◌, ◌<◌, ◌==◌, ◌^◌, ◌∙◌, ◌∷◌, ◌≡◌, ◌≢◌, ◌≤◌, ◌⊎◌}
pub use Rattle.std.proofs.Math.Nat.{add-mul-div_right, add-mul-mod_self_right, div-add-mod, lt_of_mul-lt-mul_left, mod-eq_of_lt, mod-lt, mul-add-mod_self_right, mul-le-mul_left}
pub use Rattle.std.proofs.lemmas.Bool.Decides.{nat_tests}
pub use Rattle.std.proofs.lemmas.List.{get_or_append_left, get_or_push, length-map, length-take-le, length_push, map-append, same_from_push, take_more}
pub use Rattle.std.proofs.lemmas.List.Elements.{All-cons, All-get_or, All-nil, All-push}
pub use Rattle.std.proofs.lemmas.Option.{get_or_from_slice_get, same_Some, slice_get-get_or, slice_get_past, slice_get_read, slice_get_within}
pub use Rattle.std.specs.List.{AllPairs, AllZip}
pub use Rattle.std.specs.declared.vec.Vec.{Vec}
pub use Rattle.stream_port.specs.declared.fates.Asked.{Asked}
pub use Rattle.world_core.specs.Nodes.{acts_of, is_ready}
pub use Rattle.world_core.specs.Walks.{opened_log}
unfoldable pub use Rattle.world_core.specs.Walks.{walk_from}
pub use Rattle.world_core.specs.declared.traces.Opened.{Opened}
