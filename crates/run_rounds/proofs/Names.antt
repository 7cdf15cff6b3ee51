-- The names that the proofs of this crate cite, passed on from one place. Declares nothing.
pub use Rattle.broker_core.specs.Readings.{reading}
pub use Rattle.effect_form.specs.declared.effects.Effect.{Effect}
pub use Rattle.kill_law.proofs.Growths.{every-of, filter-has, has-filter}
pub use Rattle.kill_law.proofs.Ranges.{in-range}
pub use Rattle.medium_port.specs.Image.{Image}
pub use Rattle.medium_port.specs.Moment.{Goes, LeftNow, Stage, goes_nowhere}
pub use Rattle.message_core.proofs.NodeLemmas.{same_is, same_node-refl}
pub use Rattle.plan_form.specs.PlanTexts.{CanRun}
pub use Rattle.plan_form.specs.declared.plans.Plan.{Plan}
pub use Rattle.pseudo_time.proofs.ListLemmas.{every-has, every-map, has-right}
pub use Rattle.pseudo_time.specs.Lists.{Every, Has}
pub use Rattle.pseudo_time.specs.Nodes.{broker, is_broker, repository, same_node}
pub use Rattle.pseudo_time.specs.declared.down_causes.DownCause.{DownCause}
pub use Rattle.pseudo_time.specs.declared.nodes.NodeId.{NodeId}
pub use Rattle.pseudo_time.specs.declared.nodes.NodeKind.{NodeKind}
pub use Rattle.pseudo_time.specs.declared.nodes.NodeKind.TheVariants.{Broker, Repository}
pub use Rattle.run_media.proofs.OrderLemmas.{at-place, in-at, log-at, one-place, place-at}
pub use Rattle.run_media.specs.Media.{AreBack, IsBack, IsLeftAlone, Media}
pub use Rattle.run_media.specs.Openings.{AreReady, FirstRefusal, HasOpened, IsAsItWas, IsFirstRefusal, IsInRange, IsOpen, IsOpened, IsReadyFor, IsShutFor, IsWanting, fault_in, kind_fault, log_in, medium_in, opened_from}
pub use Rattle.run_media.specs.Places.{node_at, node_count, place_of}
pub use Rattle.run_media.specs.declared.openings.Opening.{Opening}
pub use Rattle.run_media.specs.declared.openings.Opening.TheVariants.{Open, Shut, Wanting}
pub use Rattle.run_rounds.specs.Closings.{ClosedAs, HasClosed, HaveCome, HaveGone, IfRan, IfWanting, ListEnds, Pass, ToldFor}
pub use Rattle.run_rounds.specs.Finishes.{EndsAs, HasItsLog, IsEndFor, IsKeptWhole, Tellers, account_of, tellers}
pub use Rattle.run_rounds.specs.Kills.{KeepsPlaces, KeepsThroughout, SurvivesKills}
pub use Rattle.run_rounds.specs.Media.{AreCounted, Became, HaveCauses, KeepsLog, LeavesLife, RestoresLogs, WasHeld, inner, medium_at}
pub use Rattle.run_rounds.specs.Runs.{HasRanges, IsFirstFault, IsTold, Ran, RanUntold, Shows}
pub use Rattle.run_rounds.specs.declared.ends.End.{End}
pub use Rattle.run_starts.proofs.AlongLemmas.{along-length, dealt-along, each-listed, each-shared, some-listed, zip-at, zip-back}
pub use Rattle.run_starts.proofs.DealLemmas.{all-at, some-within}
pub use Rattle.run_starts.proofs.LifeLemmas.{kept-none}
pub use Rattle.run_starts.proofs.SightLemmas.{as-before, looked-of, pass-origin}
pub use Rattle.run_starts.proofs.StartLemmas.{all-front, all-last, all-pushed, run-of}
pub use Rattle.run_starts.proofs.WantedLemmas.{life-whole, story-ticks, tick-before, ticks-whole}
pub use Rattle.run_starts.specs.Boards.{owner_for, owner_of, owner_with}
pub use Rattle.run_starts.specs.Condition.{Condition}
pub use Rattle.run_starts.specs.Cores.{IsIntact}
pub use Rattle.run_starts.specs.Costs.{costs}
pub use Rattle.run_starts.specs.Deals.{HaveRoom, IsDealt}
pub use Rattle.run_starts.specs.Limits.{Limits}
pub use Rattle.run_starts.specs.Lives.{IsCause, IsFullFor, IsKept}
pub use Rattle.run_starts.specs.Logs.{is_over}
pub use Rattle.run_starts.specs.Nodes.{EachNode, EachPlace, GoesOn, HasAllOf, HasPass, IsKeptNow, IsKeptThrough, IsReady, IsUp, Shares}
pub use Rattle.run_starts.specs.Reason.{Reason}
pub use Rattle.run_starts.specs.Reasons.{EndsFor, HasMemory, IsDone, IsDown, IsLateAfter, TicksAreWanted, is_done_after, is_done_at}
pub use Rattle.run_starts.specs.Seats.{Along, CanSeat, IsNewNode, IsSound}
pub use Rattle.run_starts.specs.Sights.{IsOf, IsWirePass, Owns, Sight, base_at, flags_at, life_at, owners_for, world_at}
pub use Rattle.run_starts.specs.Starts.{HasFallen, HasPasses, IsSetUp, IsUnseen, downs_of, fresh_for}
pub use Rattle.run_starts.specs.Stories.{IsUntold, IsWhole, LeavesUntold, end_of}
pub use Rattle.run_starts.specs.TurnNodes.{IsAtRest, NodeParts, Stands, sight}
pub use Rattle.run_starts.specs.Windows.{IsNext, KeptAlong, Mark, Passes, PassesOn, cuts_of, entries_in}
pub use Rattle.run_starts.specs.Wires.{IsRunOf, Origin, WireParts, base_from}
pub use Rattle.seat_lock.specs.Rule.{IsOneOf, same}
pub use Rattle.seat_lock.specs.Story.{entries_of}
pub use Rattle.seat_lock.specs.Words.{CarriesOn, base_of as lock_base, fresh, knows}
pub use Rattle.seat_lock.specs.declared.locks.LockTable.{LockTable}
pub use Rattle.seat_lock.specs.declared.views.Founding.{Founding}
pub use Rattle.seat_lock.specs.declared.views.View.{View}
pub use Rattle.std.proofs.Common.{Bool, Err, IsTrue, List, None, Ok, Option, Result, Some, [], ap, append_assoc, arith, cond, eq-eqb, false, get_or, if◌then◌else◌, inl, inr, is_none, is_some, length, length-append, map, nat_lt, refl, rules, slice_get, subst, suc, sym, take, true, vec_len, zero, ℕ, ◌&&◌, ◌++◌, ◌+◌, ◌-◌, ◌<◌, ◌==◌, ◌^◌, ◌||◌, ◌↔◌, ◌∙◌, ◌∷◌, ◌≡◌, ◌≢◌, ◌≤◌, ◌⊎◌}
pub use Rattle.std.proofs.Math.Seq.{take-length}
pub use Rattle.std.proofs.lemmas.Bool.Decides.{nat_tests}
pub use Rattle.std.proofs.lemmas.List.{append-nil, length-map}
pub use Rattle.std.proofs.lemmas.List.Elements.{All-append, All-cons, All-map, All-nil, All-push, All-weaker, filter-append}
pub use Rattle.std.proofs.lemmas.Option.{get_or_from_slice_get, same_Some, slice_get-map, slice_get_within}
pub use Rattle.std.proofs.lemmas.Slice.Zip.{AllZip-long}
pub use Rattle.std.specs.List.{AllZip, list_any}
pub use Rattle.std.specs.Option.{option_map, unwrap_or}
pub use Rattle.std.specs.Prelude.{All}
pub use Rattle.std.specs.declared.alloc.Global.{Global}
pub use Rattle.std.specs.declared.vec.Vec.{Vec}
pub use Rattle.stream_port.specs.Causes.{Rose, RoseBy, rise_of_fewer, rose_by_none}
pub use Rattle.stream_port.specs.declared.fates.Asked.{Asked}
pub use Rattle.version_store.specs.Storage.{storage}
pub use Rattle.version_store.specs.StoreWords.{medium_of}
pub use Rattle.world_core.proofs.Lives.{gated-grows, sent-grows}
pub use Rattle.world_core.specs.Counts.{down_cause, tick_count}
pub use Rattle.world_core.specs.Legal.{AllReady, Idle, JustNodes, Rule, base_of, fates_of, in_plan, is_within, most_of, post_of}
unfoldable pub use Rattle.world_core.specs.Legal.{Meets}
pub use Rattle.world_core.specs.Nodes.{kind_ready}
unfoldable pub use Rattle.world_core.specs.Nodes.{is_ready}
pub use Rattle.world_core.specs.Pasts.{WasNotOpened}
pub use Rattle.world_core.specs.Readings.{IsLegal, life_after}
pub use Rattle.world_core.specs.Walks.{Base, Flags, Life, World, flagged, is_down, names, opened_life, opened_log, own, sent_by, start_world, step, walk}
unfoldable pub use Rattle.world_core.specs.Walks.{walk_from}
pub use Rattle.world_core.specs.declared.entries.Entry.{Entry}
pub use Rattle.world_core.specs.declared.entries.Entry.TheVariants.{Crash, Down, Gate, Go, Hear, Learn, Take, Tick}
pub use Rattle.world_core.specs.declared.traces.Opened.{Opened}
pub use Rattle.world_core.specs.declared.traces.Trace.{Trace}
