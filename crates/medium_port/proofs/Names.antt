-- The names that the proofs of this crate cite, passed on from one place. Declares nothing.
pub use Rattle.medium_port.specs.Disk.{Among, Disk, IsSound, MayLeave, Outside, OutsideSpan, Span, SpanFits, SpansFit, after, after_stop, damaged, disk_of, happened, only_last, reads_left, replay, spans_of, stage_of, stages_on}
pub use Rattle.medium_port.specs.HeldPages.{HeldParts, with_blanks}
pub use Rattle.medium_port.specs.Image.{Image, IsBlankImage, IsImage, Torn, byte_of, page_of, put_bytes, splice}
pub use Rattle.medium_port.specs.Pasts.{events_in, first_disk, left_now}
pub use Rattle.medium_port.specs.Slots.{IsBlankOf, IsPlace, NowHas, image_there, is_same_name, left_there, slot_of}
pub use Rattle.medium_port.specs.Stops.{first_met, is_at, torn_bytes, without_met}
pub use Rattle.medium_port.specs.declared.events.Event.{Event}
pub use Rattle.medium_port.specs.declared.events.Event.TheVariants.{Reopened, Synced, Wrote}
pub use Rattle.medium_port.specs.declared.memory_media.MemoryMedium.{MemoryMedium}
pub use Rattle.medium_port.specs.declared.shelves.MediumName.{MediumName}
pub use Rattle.medium_port.specs.declared.slots.Slot.{Slot}
pub use Rattle.medium_port.specs.declared.stops.Stop.{Stop}
pub use Rattle.std.proofs.Common.{List, [], ap, append_assoc, arith, drop, false, get_or, inl, inr, length, length-append, length-drop, length-take, refl, rules, slice_set, subst, suc, sym, take, true, zero, ℕ, ⊎_elim, ◌++◌, ◌+◌, ◌-◌, ◌<◌, ◌∙◌, ◌∷◌, ◌≡◌, ◌≢◌, ◌≤◌, ◌⊎◌}
pub use Rattle.std.proofs.Math.ListN.{replicate}
pub use Rattle.std.proofs.lemmas.Bool.{and_parts, cases_Bool, cases_eq, cases_lt, cond-false, cond-true, eq-eqb, eqb-true, false≢true}
pub use Rattle.std.proofs.lemmas.Bool.Decides.{when_false, when_true}
pub use Rattle.std.proofs.lemmas.List.{drop_at, ext_get_or, get_or-append_right, get_or-drop, get_or-replicate, get_or-set_other, get_or-set_same, get_or-take, get_or_append_left, get_or_past, length-replicate, length-set, set-get_or, set-set, set_past, take_at}
pub use Rattle.std.specs.Prelude.{Bool, Err, IfSome, MatchOption, None, OnErr, Option, Some, if◌then◌else◌, is_some, ◌&&◌, ◌==◌}
pub use Rattle.std.specs.declared.snapshot.Snapshot.{Snapshot}
