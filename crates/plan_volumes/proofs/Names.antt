-- The names that the proofs of this crate cite, passed on from one place. Declares nothing.
pub use Rattle.medium_port.specs.declared.shelves.MediumName.{MediumName}
pub use Rattle.plan_form.specs.declared.plans.Plan.{Plan}
pub use Rattle.plan_volumes.specs.Asides.{AreApart, IsApart, IsAside}
pub use Rattle.plan_volumes.specs.Volumes.{AreNodes, IsNodes, KeepsLog, NodeVolumes, all_left, all_taken, is_open, left_of, names_from, unopened_from, work_taken, working}
pub use Rattle.plan_volumes.specs.declared.asides.Aside.{Aside}
pub use Rattle.pseudo_time.specs.Lists.{Every, Has}
pub use Rattle.pseudo_time.specs.declared.nodes.NodeId.{NodeId}
pub use Rattle.run_volumes.proofs.ShelfLemmas.{keep-joined, kept-has, names-below, names-long, taken-both, taken-none}
pub use Rattle.run_volumes.specs.Kept.{kept_as, kept_under}
pub use Rattle.run_volumes.specs.Media.{IsBack, Media}
pub use Rattle.run_volumes.specs.Opening.{Opening}
pub use Rattle.run_volumes.specs.Opening.TheVariants.{Open, Shut, Wanting}
pub use Rattle.run_volumes.specs.Openings.{HasOpened, IsWanting, medium_in}
pub use Rattle.run_volumes.specs.Places.{kind_place, node_at, node_count}
pub use Rattle.run_volumes.specs.Shelves.{IsGiven, ShelfSight, WereTaken, first_names, shelf_sight, volume_name}
pub use Rattle.run_volumes.specs.declared.kept.Kept.{Kept}
pub use Rattle.std.proofs.Common.{All, Bool, List, None, Option, Some, [], ap, append-nil, append_assoc, arith, false, get_or, if◌then◌else◌, inl, inr, length, length-append, map, refl, rules, slice_get, slice_set, subst, suc, sym, take, true, vec_capacity, zero, ℕ, ◌++◌, ◌+◌, ◌<◌, ◌==◌, ◌∙◌, ◌∷◌, ◌≡◌, ◌≤◌, ◌⊎◌}
pub use Rattle.std.proofs.lemmas.List.{length-map, length_push, map-append, map-set}
pub use Rattle.std.proofs.lemmas.List.Elements.{All-pop, All-push}
pub use Rattle.std.specs.List.{AllZip}
