-- The names that the proofs of this crate cite, passed on from one place. Declares nothing.
pub use Rattle.forward_copy.specs.Currents.{current, current_from, log_at, node_log}
pub use Rattle.pseudo_time.specs.Lists.{Every, Has}
pub use Rattle.pseudo_time.specs.declared.nodes.NodeId.{NodeId}
pub use Rattle.pseudo_time.specs.declared.nodes.NodeKind.{NodeKind}
pub use Rattle.pseudo_time.specs.declared.nodes.NodeKind.TheVariants.{Broker, Repository}
pub use Rattle.run_media.specs.Media.{AreBack, IsBack, IsUsable, Media}
pub use Rattle.run_media.specs.Openings.{HasOpened, log_in, medium_in}
pub use Rattle.run_media.specs.declared.openings.Opening.{Opening}
pub use Rattle.run_media.specs.declared.openings.Opening.TheVariants.{Open, Shut, Wanting}
pub use Rattle.run_volumes.specs.Shelves.{IsGiven, IsLeft, IsTaken, ShelfSight, TakesOne, WereTaken, first_names, is_missing, shelf_sight, volume_name}
pub use Rattle.run_volumes.specs.Volumes.{AreOpen, AreVolumes, GoOn, fresh_from, goes_on, is_empty_log, logs_of}
pub use Rattle.std.proofs.Common.{Bool, List, None, Option, Some, [], ap, append-nil, append_assoc, arith, cond, drop, false, if◌then◌else◌, inl, inr, length, length-append, map, nat_lt, not, refl, rules, slice_get, slice_index_or, subst, suc, sym, take, true, zero, ℕ, ◌&&◌, ◌++◌, ◌+◌, ◌<◌, ◌==◌, ◌||◌, ◌∙◌, ◌∷◌, ◌≡◌, ◌≢◌, ◌≤◌, ◌⊎◌}
pub use Rattle.std.proofs.lemmas.Bool.Decides.{nat_tests}
pub use Rattle.std.specs.List.{AllZip, count_by}
