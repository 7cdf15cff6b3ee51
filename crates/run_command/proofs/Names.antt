-- The names that the proofs of this crate cite, passed on from one place. Declares nothing.
pub use Rattle.broker_core.proofs.SoundLemmas.{and-left, sound-kept}
pub use Rattle.broker_core.specs.Book.{Act, Book, Try, tries_of}
unfoldable pub use Rattle.broker_core.specs.Book.{book}
pub use Rattle.broker_core.specs.Fits.{plan_fault}
unfoldable pub use Rattle.broker_core.specs.Fits.{keep, other_plan}
pub use Rattle.broker_core.specs.Readings.{reading}
pub use Rattle.command_words.specs.declared.commands.Options.{Options}
pub use Rattle.complete_law.specs.Calm.{AllDone, CalmPlace, CalmRun, HasOutcome, IsOver, IsUnstopped, MayStop, book_at, filled_by, log_at, most_filled, most_pages}
pub use Rattle.effect_form.specs.declared.effects.Effect.{Effect}
pub use Rattle.effect_form.specs.declared.outcomes.Outcome.{Outcome}
pub use Rattle.message_core.proofs.NodeLemmas.{same_node-refl}
pub use Rattle.plan_form.specs.PlanTexts.{EachAct, CanRun}
pub use Rattle.plan_form.specs.Plans.{InRange}
pub use Rattle.plan_form.specs.declared.plans.Plan.{Plan}
pub use Rattle.plan_volumes.proofs.ApartLemmas.{ends-some, working-below, zip-long}
pub use Rattle.plan_volumes.proofs.BlankImageLemmas.{blank-count, blank-none}
pub use Rattle.plan_volumes.specs.Asides.{AreApart, IsAside}
pub use Rattle.plan_volumes.specs.Kept.{AllKept, kept_under, node_of}
pub use Rattle.plan_volumes.specs.KeptMedium.{Kept}
pub use Rattle.plan_volumes.specs.Media.{AreBack, IsBack, IsLeftAlone, IsUntouched, Media}
pub use Rattle.plan_volumes.specs.Opening.{Opening}
pub use Rattle.plan_volumes.specs.Opening.TheVariants.{Open, Shut, Wanting}
pub use Rattle.plan_volumes.specs.Openings.{HasOpened, fault_in, medium_in}
pub use Rattle.plan_volumes.specs.Places.{node_at, node_count, place_of}
pub use Rattle.plan_volumes.specs.RunVolumes.{EndRightly, GoOn, follows, goes_on}
pub use Rattle.plan_volumes.specs.Shelves.{IsGiven, IsTaken, ShelfSight, first_names, is_missing, shelf_sight, volume_name}
pub use Rattle.plan_volumes.specs.Volumes.{HadMemory, HasVolumes, IsNodes, NodeVolumes, all_left, all_taken, names_from, work_taken, working}
pub use Rattle.pseudo_time.proofs.ListLemmas.{every-has, every-left, every-map, every-right, has-reverse, has-right}
pub use Rattle.pseudo_time.specs.Lists.{Every, Has}
pub use Rattle.pseudo_time.specs.Nodes.{broker, same_node}
pub use Rattle.pseudo_time.specs.declared.down_causes.DownCause.{DownCause}
pub use Rattle.pseudo_time.specs.declared.nodes.NodeId.{NodeId}
pub use Rattle.run_rounds.proofs.FlagLemmas.{fell, named-opened, one-down, stays-down, stays-known, told-of, up-named}
pub use Rattle.run_rounds.specs.Acts.{act_begun, act_shown, act_with, acts_shown, begun_acts, counted_by, shown_end, tasks_of, tries_shown, try_shown}
pub use Rattle.run_rounds.specs.Ends.{HasEnded, IsUnopened, some_down}
pub use Rattle.run_rounds.specs.Finishes.{EndsAs, HasItsLog, IsKeptWhole, Tellers, account_of, tellers}
pub use Rattle.run_rounds.specs.Media.{Became, inner, medium_at}
pub use Rattle.run_rounds.specs.Reports.{open_acts}
pub use Rattle.run_rounds.specs.Runs.{Account, HasRanges, IsFirstFault, Ran, RanUntold}
pub use Rattle.run_rounds.specs.Stories.{no_trace}
pub use Rattle.std.proofs.Common.{Bool, Err, IsTrue, List, None, Ok, Some, [], ap, append_assoc, arith, cond, drop, false, if◌then◌else◌, inl, inr, is_some, length, length-drop, map, nat_le, nat_lt, refl, reverse, slice_get, subst, suc, sym, take, true, zero, zero-add, ℕ, ◌&&◌, ◌++◌, ◌+◌, ◌-◌, ◌<◌, ◌==◌, ◌^◌, ◌∙◌, ◌∷◌, ◌≡◌, ◌≤◌, ◌⊎◌}
pub use Rattle.std.proofs.lemmas.Bool.{cond-true, eq-eqb, eqb-true, false≢true}
pub use Rattle.std.proofs.lemmas.Bool.Decides.{nat_tests}
pub use Rattle.std.proofs.lemmas.List.{append-nil, length-append, length-map, length-reverse, map-append, reverse-append, reverse-reverse, take-append-drop}
pub use Rattle.std.proofs.lemmas.List.Elements.{filter-append}
pub use Rattle.std.proofs.lemmas.Option.{same_Some, slice_get-get_or, slice_get_within}
pub use Rattle.std.proofs.lemmas.Slice.Zip.{AllZip-long}
pub use Rattle.std.specs.Io.KnownBytes.{Appends, Consumes, Keeps}
pub use Rattle.std.specs.List.{AllZip, count_by}
pub use Rattle.std.specs.Prelude.{IfOk, OnErr, OnOk, Option, Result, filter}
pub use Rattle.stream_port.specs.Causes.{Rose, RoseBy, rise_of_fewer}
pub use Rattle.run_command.specs.Contract.{HoldsOfRuns, AreVolumesOf, RunsOver, CameOf, Completes, IsSmooth, LosesNothing, RanOver, RunsPlan, WantedMemory}
pub use Rattle.run_command.specs.Finished.{AllBegun}
pub use Rattle.run_command.specs.Written.{TellsText}
pub use Rattle.run_command.specs.Smooth.{IsFinal, IsFinished, IsSmoothRun, WasRefused, WentSmoothly, pages_for, volumes_of_blank}
pub use Rattle.run_command.specs.Takings.{AreHanded, AreTaken, EndsOver, WereGiven}
pub use Rattle.run_command.specs.Tellings.{OfRun, TellsEnd, status_of}
pub use Rattle.run_command.specs.Written.{AppendsFront, Ends, EndsIfAny, GotLine, Sinking, sinking}
pub use Rattle.run_command.specs.declared.reports.Wanted.{Wanted}
pub use Rattle.run_command.specs.declared.stops.Stop.{Stop}
pub use Rattle.version_store.proofs.FillingLemmas.{filling-apart, own-most}
pub use Rattle.version_store.specs.Filling.{full_pages, own_pages, pages_apart}
pub use Rattle.version_store.specs.Storage.{storage}
pub use Rattle.world_core.specs.Counts.{down_cause}
pub use Rattle.world_core.specs.Legal.{JustNodes, base_of, fates_of, in_plan, post_of}
unfoldable pub use Rattle.world_core.specs.Legal.{Meets}
pub use Rattle.world_core.specs.Readings.{IsLegal, gated_log, life_after}
pub use Rattle.world_core.specs.Walks.{Base, Life, World, all_effects, lives_on, names, own, start_world, step, walk}
unfoldable pub use Rattle.world_core.specs.Walks.{walk_from}
pub use Rattle.world_core.specs.declared.entries.Entry.{Entry}
pub use Rattle.world_core.specs.declared.entries.Entry.TheVariants.{Crash, Down, Gate, Go, Hear, Learn, Take, Tick}
pub use Rattle.world_core.specs.declared.traces.Trace.{Trace}
