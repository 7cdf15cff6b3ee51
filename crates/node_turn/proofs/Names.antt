-- The names that the proofs of this crate cite, passed on from one place. Declares nothing.
pub use Rattle.node_inputs.proofs.ListLemmas.{has-either, has-left, has-right}
pub use Rattle.node_inputs.proofs.NodeNameLemmas.{same_node-refl}
pub use Rattle.node_inputs.proofs.SightLemmas.{looked-of, own-same, up-known}
pub use Rattle.node_inputs.proofs.WorldLives.{gated-grows, same-life}
pub use Rattle.node_inputs.specs.Boards.{number_of, owner_of, place_of}
pub use Rattle.node_inputs.specs.Causes.{Rose}
pub use Rattle.node_inputs.specs.Changes.{owed}
pub use Rattle.node_inputs.specs.Cores.{HasFound, IsAppended, IsFull, IsIntact, IsReady, IsReopened, LeavesLog}
pub use Rattle.node_inputs.specs.Costs.{PaysFor, cost_of_cause, costs}
pub use Rattle.node_inputs.specs.Decisions.{Decided, answer_of}
pub use Rattle.node_inputs.specs.DownCause.{DownCause}
pub use Rattle.node_inputs.specs.Effect.{Effect}
pub use Rattle.node_inputs.specs.Entries.{Adds, Grew, IsQuiet}
pub use Rattle.node_inputs.specs.Entry.{Entry}
pub use Rattle.node_inputs.specs.Entry.TheVariants.{Crash, Down, Gate, Go, Hear, Learn, Take, Tick}
pub use Rattle.node_inputs.specs.Filling.{HasPrefix, filling}
pub use Rattle.node_inputs.specs.HistoryFault.{HistoryFault}
pub use Rattle.node_inputs.specs.Image.{Image, page_of}
pub use Rattle.node_inputs.specs.Lives.{AskNobody, DraftParts, HasLife, IsAfter, IsAfterAppend, IsCause, IsDown, IsFullFor, IsKept, IsStored, IsStruck, IsUnwritten, IsUp, no_draft, up_flags}
pub use Rattle.node_inputs.specs.Logs.{decided_by, is_for, knows as is_known}
pub use Rattle.node_inputs.specs.Medium.{Ghosts as Media}
pub use Rattle.node_inputs.specs.Moment.{EitherSide, Goes, LeftNow, Stage, goes_nowhere, goes_on, goes_to, joins, widens}
pub use Rattle.node_inputs.specs.NodeId.{NodeId}
pub use Rattle.node_inputs.specs.NodeNames.{is_broker}
pub use Rattle.node_inputs.specs.OpenFault.{OpenFault}
pub use Rattle.node_inputs.specs.Out.{Out}
pub use Rattle.node_inputs.specs.Sights.{Added, Crashes, Falls, Gated, HadNothing, IsAsBefore, IsOf, IsWirePass, Looked, Owns, Sight, Visited, base_at, closed, crashed, flags_at, life_at, origin_at, origin_in, world_at}
pub use Rattle.node_inputs.specs.StampParts.{StampParts}
pub use Rattle.node_inputs.specs.States.{is_blank, state_of}
pub use Rattle.node_inputs.specs.Storage.{storage}
pub use Rattle.node_inputs.specs.StoreFault.{StoreFault}
pub use Rattle.node_inputs.specs.Trails.{Trail}
pub use Rattle.node_inputs.specs.TurnRanges.{AreEffects, AreOuts}
pub use Rattle.node_inputs.specs.Walks.{Base, Flags, Life, World, all_effects, crashed_life, flagged, gated_life, names, opened_flags, opened_life, opened_log, own, start_world, step, walk}
unfoldable pub use Rattle.node_inputs.specs.Walks.{walk_from}
pub use Rattle.node_inputs.specs.Wires.{WireParts, base_from}
pub use Rattle.node_inputs.specs.Words.{CarriesOn, knows}
pub use Rattle.node_inputs.specs.WorldNodes.{leaves}
pub use Rattle.node_inputs.specs.WorldNodes.Input.{Learning}
pub use Rattle.node_inputs.specs.declared.core_meanings.Meanings.{Ghosts as Meanings}
pub use Rattle.node_turn.specs.Conditions.{Keeps, NamesPage}
pub use Rattle.node_turn.specs.Nodes.{Answers, Does, IsAtRest, IsCondition, NodeParts, StaysWhole, TurnsTo}
pub use Rattle.node_turn.specs.Seeks.{AreSought, HasTested, IsFound, IsMissed, IsSought, Seeks, stamp_asked}
pub use Rattle.node_turn.specs.Windows.{IsNext, KeptAlong, Mark, Passes, PassesOn, cut_at, cuts_of, entries_in}
pub use Rattle.std.proofs.Common.{Bool, Err, IfOk, IsTrue, List, None, Ok, OnOk, Option, Result, Some, [], ap, append_assoc, arith, cond, false, get_or, if◌then◌else◌, inl, inr, is_some, length, length-append, not, refl, subst, suc, sym, take, true, ℕ, ⊎_elim, ◌&&◌, ◌++◌, ◌+◌, ◌-◌, ◌<◌, ◌==◌, ◌^◌, ◌||◌, ◌∙◌, ◌∷◌, ◌≡◌, ◌≢◌, ◌≤◌, ◌⊎◌}
pub use Rattle.std.proofs.lemmas.Bool.{eqb-true}
pub use Rattle.std.proofs.lemmas.List.{append-nil, length-take-le, take-append-le, take_all, take_more}
pub use Rattle.std.proofs.lemmas.List.Elements.{filter-append}
pub use Rattle.std.specs.List.{filter}
pub use Rattle.std.specs.Prelude.{IfSome, MatchBool, count_by, slice_index}
