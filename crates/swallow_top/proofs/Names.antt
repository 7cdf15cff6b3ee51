-- The names that the proofs of this crate cite, passed on from one place. Declares nothing.
pub use Rattle.archive_promise.specs.Answered.{IsLawful, IsOfStamp}
pub use Rattle.command_words.specs.Words.{AreGiven, AreOptions, AreWords, IsWith, said}
pub use Rattle.command_words.specs.declared.commands.Options.{Options}
pub use Rattle.command_words.specs.declared.rules.Rule.{Rule}
pub use Rattle.forward_copy.specs.Currents.{node_log}
pub use Rattle.plan_form.specs.PlanFaults.{IsPlanFault}
pub use Rattle.plan_form.specs.PlanTexts.{CanRun}
pub use Rattle.plan_form.specs.Plans.{IsPlan}
pub use Rattle.plan_form.specs.declared.plans.Plan.{Plan}
pub use Rattle.plan_volumes.proofs.ShelfLemmas.{all-kept}
pub use Rattle.plan_volumes.proofs.StandLemmas.{back-all, given-back, stand-all}
pub use Rattle.plan_volumes.specs.Kept.{AllKept, kept_under}
pub use Rattle.plan_volumes.specs.KeptMedium.{Kept}
pub use Rattle.plan_volumes.specs.Media.{AreBack, IsBack, Media}
pub use Rattle.plan_volumes.specs.Opening.{Opening}
pub use Rattle.plan_volumes.specs.Openings.{HasOpened, medium_in}
pub use Rattle.plan_volumes.specs.RunVolumes.{AreOpen, AreVolumes, logs_of}
pub use Rattle.plan_volumes.specs.Shelves.{ShelfSight, first_names, shelf_sight}
pub use Rattle.pseudo_time.specs.Lists.{Every}
pub use Rattle.pseudo_time.specs.Nodes.{repository as named}
pub use Rattle.pseudo_time.specs.declared.down_causes.DownCause.{DownCause}
pub use Rattle.pseudo_time.specs.declared.nodes.NodeId.{NodeId}
pub use Rattle.report_writer.specs.Histories.{history_text}
pub use Rattle.report_writer.specs.Reports.{down_text}
pub use Rattle.retire_command.specs.declared.outcomes.Retired.{Retired}
pub use Rattle.run_rounds.specs.Ends.{some_down}
pub use Rattle.run_rounds.specs.Reports.{open_acts}
pub use Rattle.run_rounds.specs.Runs.{Account}
pub use Rattle.run_rounds.specs.Stories.{no_trace}
pub use Rattle.std.proofs.Common.{Bool, Err, IsTrue, List, None, Ok, Some, [], ap, arith, false, if◌then◌else◌, inl, inr, length, map, refl, subst, sym, true, ℕ, ◌++◌, ◌==◌, ◌∙◌, ◌∷◌, ◌≡◌, ◌≤◌, ◌⊎◌}
pub use Rattle.std.proofs.lemmas.List.{length-append, length-map}
pub use Rattle.std.proofs.lemmas.Slice.Zip.{AllZip-long}
pub use Rattle.std.specs.Io.KnownBytes.{Consumes, IsAtEnd}
pub use Rattle.std.specs.Prelude.{IfOk, Option, Result, Vec}
pub use Rattle.std.specs.declared.alloc.Global.{Global}
pub use Rattle.stream_port.specs.Causes.{Rose}
pub use Rattle.run_command.specs.Contract.{CameOf, HasNoRun, RunsPlan}
pub use Rattle.swallow_top.specs.Refusals.{IsNoPlan, RefusedAs}
pub use Rattle.swallow_top.specs.Histories.{AskedNothing, TellsHistory, TellsVolumes, home_of}
pub use Rattle.swallow_top.specs.Inputs.{OfInput}
pub use Rattle.swallow_top.specs.Outcomes.{TellsAnswer, TellsOutcome, TellsReplay, TellsSnapshot, TellsWatch}
pub use Rattle.swallow_top.specs.Plans.{IsReadAs, ReadsPlan}
pub use Rattle.swallow_top.specs.Retirements.{TellsRetired, TellsRetirement, mark_at}
pub use Rattle.run_command.specs.Tellings.{status_of}
pub use Rattle.swallow_top.specs.Votes.{AreFew, AreNoPolls, AreReadAs, HavePolled, ReadsPolls, TellsVotes, limits_of, tellers_of, votes_status}
pub use Rattle.run_command.specs.Written.{Ends, EndsIfAny, GotLine, GotNothing, HasNoMemory, Sinking, sinking}
pub use Rattle.run_command.specs.declared.reports.Wanted.{Wanted}
pub use Rattle.run_command.specs.declared.stops.Stop.{Stop}
pub use Rattle.value_form.specs.declared.objects.ObjectId.{ObjectId}
pub use Rattle.votes_command.specs.Faults.{IsInputFault}
pub use Rattle.votes_command.specs.Inputs.{IsInput, IsPoll}
pub use Rattle.votes_command.specs.PollLine.{PollLine}
pub use Rattle.votes_command.specs.VoteEnd.{VoteEnd}
pub use Rattle.votes_command.specs.VoteEnd.TheVariants.{Told}
pub use Rattle.world_core.specs.Counts.{tick_count}
pub use Rattle.world_core.specs.declared.traces.Trace.{Trace}
