-- The names that the proofs of this crate cite, passed on from one place. Declares nothing.
unfoldable pub use Rattle.pseudo_time.specs.Order.{lt, same_stamp, same_time, stamp_lt}
pub use Rattle.pseudo_time.specs.StampParts.{StampParts, stamp_cmp}
pub use Rattle.pseudo_time.specs.TimeParts.{IsTime, TimeParts, time_bytes, time_cmp}
pub use Rattle.std.proofs.Common.{Bool, List, [], ap, arith, false, inl, inr, nat_lt, refl, subst, suc, sym, true, zero, ℕ, ◌%◌, ◌&&◌, ◌*◌, ◌++◌, ◌+◌, ◌/◌, ◌<◌, ◌==◌, ◌^◌, ◌∙◌, ◌∷◌, ◌≡◌}
pub use Rattle.std.proofs.lemmas.Bool.{cases_order, false≢true, true≢false}
pub use Rattle.std.proofs.lemmas.Grind.{common_steps}
pub use Rattle.std.specs.Cmp.{IsTotalOrder, alike_right, nat_cmp_is, tied_itself}
pub use Rattle.std.specs.Ordering.{is_eq, is_lt, nat_cmp, ordering_reverse, ordering_then}
pub use Rattle.std.specs.declared.cmp.Ordering.{Ordering}
pub use Rattle.std.specs.declared.cmp.Ordering.TheVariants.{Equal, Greater, Less}
