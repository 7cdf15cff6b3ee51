-- The names that the proofs of this crate cite, passed on from one place. Declares nothing.
pub use Rattle.effect_form.proofs.EffectLaws.{effect_takes}
pub use Rattle.effect_form.proofs.ReadLaws.{length-effect_bytes}
pub use Rattle.effect_form.proofs.SizeLaws.{size_most, size_some, without_back}
pub use Rattle.effect_form.specs.Effects.{AreEffects, IsBack, IsEffect, IsPlace, IsWritten, Written, effect_at, effect_bytes, size_of}
pub use Rattle.effect_form.specs.declared.effects.Effect.{Effect}
pub use Rattle.effect_form.specs.declared.effects.Place.{Place}
pub use Rattle.field_form.proofs.FormLaws.{some_is}
pub use Rattle.field_form.specs.Forms.{IsBytes, ◌>>=◌}
pub use Rattle.page_form.specs.Entries.{Entry, Log, back_in, effects_of, is_object, last_from, put_object, same_back}
pub use Rattle.page_form.specs.Filling.{Alone, Filled, Parcel, Shared, begun_pages, closed, filling, full_pages, own_pages, pages_of, parcels_from, pieced, reach, sizes}
pub use Rattle.page_form.specs.Heads.{AreBelow, ArePlaces, Heads, HeadsFit, IsFound}
pub use Rattle.page_form.specs.Kept.{HeldBelow, HeldFit, Stand}
pub use Rattle.page_form.specs.Laying.{IsBody, Laid, LaidOut, LeadsTo, all_of, body_of, body_with, bytes_of, closed_body, ending, entry_at, entry_on, laid, laid_on, laid_pages, piece_bodies, place_after, texts, whole}
pub use Rattle.page_form.specs.Sheets.{Content, Going, Sheet, admitted, alone, content_of, going_or_damaged, held_ends, held_more, log_at, place_alone, place_before, with_sheet}
pub use Rattle.page_form.specs.declared.page_reads.Held.{Held}
pub use Rattle.page_form.specs.declared.pieces.Piece.TheVariants.{First, Whole}
pub use Rattle.std.proofs.Common.{Bool, Err, List, None, Ok, Option, Result, Some, Vec, [], add-zero, ap, append_assoc, arith, cond, drop, false, get_or, inl, inr, length, length-append, length-drop, map, refl, subst, suc, sym, take, true, zero, zero-add, ℕ, ⊎_elim, ◌++◌, ◌+◌, ◌-◌, ◌<◌, ◌∙◌, ◌∷◌, ◌≡◌, ◌≤◌, ◌⊎◌}
pub use Rattle.std.proofs.lemmas.Bool.{and_parts, cases_Bool, cond-false, cond-true, eqb-true, le-leb, leb-false, leb-true, lt-leb, ne_eqb}
pub use Rattle.std.proofs.lemmas.Bool.Decides.{nat_tests}
pub use Rattle.std.proofs.lemmas.List.{append-nil, drop_all, drop_at, drop_more, length-map, map-append, take_all}
pub use Rattle.std.specs.BTreeMap.{Updates, get}
pub use Rattle.std.specs.List.{flat_map}
pub use Rattle.std.specs.Option.{option_map}
pub use Rattle.std.specs.Prelude.{All, MatchBool, MatchOption, nat_le, ◌*◌, ◌/◌, ◌==◌}
pub use Rattle.std.specs.declared.alloc.Global.{Global}
pub use Rattle.value_form.specs.Objects.{object_cmp}
pub use Rattle.value_form.specs.declared.objects.ObjectId.{ObjectId}
