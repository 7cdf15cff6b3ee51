-- The names that the proofs of this crate cite, passed on from one place. Declares nothing.
pub use Rattle.medium_port.specs.Image.{Image, IsImage, NoMore, Only, page_of}
pub use Rattle.medium_port.specs.Moment.{LeavesOnly, LeftNow, Stage, goes_to, joins, stays, widens}
pub use Rattle.page_form.proofs.EffectLaws.{effect_again, effect_takes}
pub use Rattle.page_form.proofs.FormLaws.{IsBytes-drop, bind_some, chosen_then, some_is}
pub use Rattle.page_form.proofs.NumberLaws.{between_form, byte_form, front_again, front_takes, u16_form}
pub use Rattle.page_form.proofs.ReadLaws.{length-effect_bytes}
pub use Rattle.page_form.proofs.SizeLaws.{effect_cons, size_most, size_some, without_back}
pub use Rattle.page_form.specs.Effect.{Effect}
pub use Rattle.page_form.specs.Effects.{AreEffects, IsBack, IsEffect, IsPlace, IsWritten, Written, effect_at, effect_bytes, size_of}
pub use Rattle.page_form.specs.Entries.{Entry, IsBefore, IsIn, Log, back_in, back_of, effects_of, is_object, last_from, last_put, number_of, put_object, same_back}
pub use Rattle.page_form.specs.Filling.{Alone, Parcel, Shared, closed, filling, full_pages, own_pages, pages_of, parcels, parcels_from, pieced, sizes}
pub use Rattle.page_form.specs.Forms.{IsBytes, ◌>>=◌}
pub use Rattle.page_form.specs.Heads.{AreBelow, ArePlaces, Heads, HeadsFit, IsFound}
pub use Rattle.page_form.specs.Kept.{HeldBelow, HeldFit, Stand}
pub use Rattle.page_form.specs.Laying.{Laid, all_of, body_of, body_with, bytes_of, ending, entry_at, entry_on, laid, laid_in, laid_on, laid_pages, piece_bodies, place_after, texts, whole}
pub use Rattle.page_form.specs.Numbers.{between, byte_at, front_at, number_at}
pub use Rattle.page_form.specs.ObjectId.{ObjectId}
pub use Rattle.page_form.specs.Objects.{object_cmp}
pub use Rattle.page_form.specs.PageState.{PageState}
pub use Rattle.page_form.specs.PageState.TheVariants.{Blank, Gated, Spoiled}
pub use Rattle.page_form.specs.Place.{Place}
pub use Rattle.page_form.specs.Sheets.{Content, Damaged, Ended, Going, Reading, Sheet, admitted, alone, content_of, going_or_damaged, held_ends, held_more, log_at, next, piece_of, place_alone, place_before, with_sheet}
unfoldable pub use Rattle.page_form.specs.Sheets.{new_sheet_at, old_sheet_at, padded_at, sheet_of}
pub use Rattle.page_form.specs.States.{gated_page, is_blank, state_of, state_with}
pub use Rattle.page_form.specs.declared.page_reads.Held.{Held}
pub use Rattle.page_form.specs.declared.pieces.Piece.{Piece}
pub use Rattle.page_form.specs.declared.pieces.Piece.TheVariants.{First, Last, Middle, Whole}
pub use Rattle.pseudo_time.specs.Lists.{Every}
pub use Rattle.std.proofs.Common.{Bool, Err, IsTrue, List, None, Ok, Option, Result, Some, Vec, [], add-one, add-zero, ap, append_assoc, arith, cond, count_by, drop, false, get_or, inl, inr, length, length-append, length-drop, length-take, map, refl, rules, slice_set, subst, suc, sym, take, true, zero, zero-add, ℕ, ⊎_elim, ◌++◌, ◌+◌, ◌-◌, ◌<◌, ◌^◌, ◌∙◌, ◌∷◌, ◌≡◌, ◌≢◌, ◌≤◌, ◌⊎◌}
pub use Rattle.std.proofs.lemmas.Bool.{and_from, and_parts, cases_Bool, cases_eq, cases_lt, cond-false, cond-true, eq-eqb, false≢true, le-leb, lt-leb, lt-ltb}
pub use Rattle.std.proofs.lemmas.List.{append-nil, drop-append-le, drop-drop, drop-set-lt, drop_all, drop_at, drop_more, flat_map_more, get_or-append_right, get_or-set_other, get_or-set_same, get_or_append_left, length-map, map-append, set_split, take-append-drop, take-append-le, take_all, take_at, take_more, take_more_set}
pub use Rattle.std.specs.BTreeMap.{get}
pub use Rattle.std.specs.Int.{to_be_bytes, w16}
pub use Rattle.std.specs.List.{flat_map, list_all}
pub use Rattle.std.specs.Option.{option_map}
pub use Rattle.std.specs.Prelude.{IfSome, MatchBool, MatchOption, nat_le, replicate, ◌*◌, ◌/◌, ◌==◌}
pub use Rattle.std.specs.declared.alloc.Global.{Global}
pub use Rattle.version_store.specs.Fetch.{BackStands, Due, IsLastPut, IsPutAt, LastTells, Sight, StandsBehind, Tells, Told, first_sight, is_back_before, next_sight, sheet_on, shown, shown_alone, shown_behind, shown_in, sight_of, sight_then}
pub use Rattle.version_store.specs.Filling.{HasPrefix, KeepsPages, StaysClean, joined, pages_apart}
pub use Rattle.version_store.specs.Found.{Reached, reading_of}
pub use Rattle.version_store.specs.Rests.{Grows, HasPages, IsAtRest, PagesFit, padded}
pub use Rattle.version_store.specs.Sights.{Sees, found_of}
pub use Rattle.version_store.specs.Storage.{begun, effects_found, entries, finish, log_going, log_of, log_or_none, scan, storage}
