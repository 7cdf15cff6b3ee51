-- The names that the proofs of this crate cite, passed on from one place. Declares nothing.
pub use Rattle.broker_node.proofs.PhaseLemmas.{kept-on, passes-beside, passes-here, passes-on}
pub use Rattle.broker_node.proofs.SightLemmas.{as-before, looked-of, pass-origin}
pub use Rattle.broker_node.proofs.TrailLemmas.{adds-more, adds-none, costs-append, more-grew, trail-joins}
pub use Rattle.broker_node.specs.Boards.{number_of, owner_for, owner_of, place_of}
pub use Rattle.broker_node.specs.Condition.{Condition}
pub use Rattle.broker_node.specs.Costs.{PaysFor, costs}
pub use Rattle.broker_node.specs.Sights.{Added, HasNothingOpen, IsOf, IsWirePass, Looked, Owns, Sight, TicksOn, base_at, life_at, world_at}
pub use Rattle.broker_node.specs.TurnNodes.{Adds, Does, Grew, IsCondition, MeetsWith, NodeParts, StaysWhole, TurnsTo, sight}
pub use Rattle.broker_node.specs.Turned.{Turned}
pub use Rattle.broker_node.specs.Windows.{PassesOn}
pub use Rattle.broker_node.specs.Wires.{WireParts, base_from}
pub use Rattle.medium_port.specs.Image.{Image, page_of}
pub use Rattle.medium_port.specs.declared.media.Medium.{Ghosts as Media}
pub use Rattle.node_rounds.specs.Nodes.{EachNode, EachPlace, GoesOn, HadTurn, HasAllOf, HasMet, HasPass, HasSeen, IsKeptThrough, IsReady, IsUp, Shares, SomeNode}
pub use Rattle.node_rounds.specs.Reasons.{Follows, HasMemory, HasTicked, IsDone, IsDown, IsFurther, IsLate, IsLateAfter, NodesSay, SawMore, SawRest, SeesMore, WantsAs, TicksAreWanted, is_done_after, is_done_at}
pub use Rattle.node_rounds.specs.Turns.{GoesFurther, HadSome}
pub use Rattle.pseudo_time.proofs.ListLemmas.{every-append, has-either, has-left, has-right}
pub use Rattle.pseudo_time.specs.declared.down_causes.DownCause.{DownCause}
pub use Rattle.pseudo_time.specs.declared.nodes.NodeId.{NodeId}
pub use Rattle.seat_lock.specs.Story.{Begins, entries_of}
pub use Rattle.seat_lock.specs.Words.{CarriesOn, base_of, base_of as lock_base, knows}
pub use Rattle.seat_lock.specs.declared.locks.LockTable.{LockTable}
pub use Rattle.seat_lock.specs.declared.views.Founding.{Founding}
pub use Rattle.seat_lock.specs.declared.views.View.{View}
pub use Rattle.std.proofs.Common.{Bool, Err, List, Ok, OnOk, Result, Some, [], ap, append_assoc, arith, false, get_or, inl, inr, length, length-set, not, refl, subst, suc, sym, true, zero, ℕ, ⊎_elim, ◌++◌, ◌+◌, ◌<◌, ◌==◌, ◌^◌, ◌∙◌, ◌∷◌, ◌≡◌, ◌≢◌, ◌≤◌, ◌⊎◌}
pub use Rattle.std.proofs.lemmas.List.{append-nil, get_or_default, length-append}
pub use Rattle.std.proofs.lemmas.List.Elements.{All-cons, All-nil, All-set, All-weaker, AllWithin-more, AllWithin-more_set, AllWithin-none, filter-append}
pub use Rattle.std.proofs.lemmas.List.Sums.{sum_by-append, sum_by-cons}
pub use Rattle.std.specs.List.{AllWithin, AllZip}
pub use Rattle.std.specs.Prelude.{All, Any, IfOk, IsTrue, MatchBool, OnErr, cond, if◌then◌else◌, slice_set, vec_capacity, vec_len}
pub use Rattle.world_core.specs.Counts.{is_tick, tick_count}
pub use Rattle.world_core.specs.Walks.{Base, Life, walk}
pub use Rattle.world_core.specs.declared.entries.Entry.{Entry}
pub use Rattle.world_core.specs.declared.entries.Entry.TheVariants.{Crash, Down, Gate, Go, Hear, Learn, Take, Tick}
