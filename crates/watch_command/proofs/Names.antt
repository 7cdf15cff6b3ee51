-- The names that the proofs of this crate cite, passed on from one place. Declares nothing.
pub use Rattle.archive_command.specs.Archives.{Complete, archive_of, complete_from, if_of, is_complete, joined_marks, total_put}
unfoldable pub use Rattle.archive_command.specs.Archives.{last_total}
pub use Rattle.archive_command.specs.declared.outcomes.Outcome.{Outcome}
pub use Rattle.command_words.specs.declared.rules.Rule.{Rule}
pub use Rattle.commit_watch.specs.Folds.{advanced, and_then, fresh, is_retired, moved_to, unless_retired, version_of}
unfoldable pub use Rattle.commit_watch.specs.Folds.{moved_over}
pub use Rattle.commit_watch.specs.Lists.{cursor_of, or_before, total_of, with_moved}
unfoldable pub use Rattle.commit_watch.specs.Lists.{moved_at}
pub use Rattle.commit_watch.specs.Refusals.{IsRefusal}
pub use Rattle.commit_watch.specs.declared.faults.WatchFault.{WatchFault}
pub use Rattle.commit_watch.specs.declared.moved.Moved.{Moved}
pub use Rattle.commit_watch.specs.declared.versions.Version.{Version}
pub use Rattle.effect_form.specs.Effects.{AreEffects, IsEffect}
pub use Rattle.effect_form.specs.declared.effects.Effect.{Effect}
pub use Rattle.medium_port.specs.declared.shelves.MediumName.{MediumName}
pub use Rattle.object_history.proofs.ObjectLemmas.{same_object-is, same_object-of}
pub use Rattle.object_history.specs.History.{Seen, floor_of, version_count}
unfoldable pub use Rattle.object_history.specs.Objects.{same_object}
pub use Rattle.object_history.specs.Ranges.{AreMarks, IsMark}
pub use Rattle.object_history.specs.declared.marks.Mark.{Mark}
pub use Rattle.pseudo_time.specs.Lists.{Every, Has}
pub use Rattle.pseudo_time.specs.Nodes.{repository as named}
pub use Rattle.pseudo_time.specs.TimeParts.{TimeParts}
pub use Rattle.run_volumes.proofs.ShelfLemmas.{all-kept, names-below, names-long, one-usable, taken-both, taken-one}
pub use Rattle.run_volumes.proofs.StandLemmas.{back-all, given-back, stand-all}
pub use Rattle.run_volumes.specs.Kept.{AllKept, kept_as, kept_under}
pub use Rattle.run_volumes.specs.Media.{AreBack, IsBack, Media}
pub use Rattle.run_volumes.specs.Opening.{Opening}
pub use Rattle.run_volumes.specs.Opening.TheVariants.{Open, Shut, Wanting}
pub use Rattle.run_volumes.specs.Openings.{HasOpened, medium_in}
pub use Rattle.run_volumes.specs.Shelves.{ShelfSight, TakesOne, WereTaken, first_names, shelf_sight, volume_name}
pub use Rattle.run_volumes.specs.Standings.{Stands}
pub use Rattle.run_volumes.specs.Volumes.{AreOpen, AreVolumes, logs_of}
pub use Rattle.run_volumes.specs.declared.kept.Kept.{Kept}
pub use Rattle.std.proofs.Common.{Bool, IsTrue, List, None, Option, Some, [], ap, arith, cond, drop, false, filter, if◌then◌else◌, inl, inr, length, length-append, map, not, pos, refl, reverse, rules, subst, suc, sym, take, true, w64, ℕ, ℤ, ◌&&◌, ◌++◌, ◌<◌, ◌∙◌, ◌∷◌, ◌≡◌, ◌≤◌, ◌⊎◌}
pub use Rattle.std.proofs.lemmas.Bool.{false≢true, true≢false}
pub use Rattle.std.proofs.lemmas.List.{append_assoc, length-map, reverse-append}
pub use Rattle.std.proofs.lemmas.Slice.Zip.{AllZip-long}
pub use Rattle.std.specs.Prelude.{Err, IfOk, Ok, Result, Vec, codes, is_some}
pub use Rattle.value_form.specs.ObjectBytes.{IsObject}
pub use Rattle.value_form.specs.declared.objects.ObjectId.{ObjectId}
pub use Rattle.version_store.specs.Filling.{HasPrefix, filling}
pub use Rattle.watch_command.specs.Lines.{down_watch_line, rule_text, total_line, watch_text}
pub use Rattle.watch_command.specs.Totals.{AreCursors, AreRestored, AreTotals, new_puts, next_of, outcome_of, totals_volume}
pub use Rattle.watch_command.specs.Watches.{Adds, ComesOf, ComesTo, CutsOff, HasFront, Holds, IsPlain, IsReady, Keeps, RefusesFor, Stops, StopsBefore, TotalsOver, WatchesOver}
