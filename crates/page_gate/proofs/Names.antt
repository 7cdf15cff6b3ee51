-- The names that the proofs of this crate cite, passed on from one place. Declares nothing.
pub use Rattle.medium_port.specs.Image.{Follows, Image, IsImage, NoMore, Torn, Written, page_of, splice}
pub use Rattle.medium_port.specs.Moment.{EitherSide, LeavesOnly, Stage, joins, widens}
pub use Rattle.page_gate.specs.States.{gated_page, is_blank, state_of, state_with}
pub use Rattle.page_gate.specs.Steps.{IsPutPage, MayPut, PutStep}
pub use Rattle.std.proofs.Common.{List, [], ap, arith, drop, false, get_or, inl, inr, length, length-drop, refl, slice_set, subst, suc, sym, take, true, ℕ, ⊎_elim, ◌&&◌, ◌++◌, ◌+◌, ◌-◌, ◌<◌, ◌==◌, ◌∙◌, ◌∷◌, ◌≡◌, ◌≢◌, ◌≤◌, ◌⊎◌}
pub use Rattle.std.proofs.Math.ListN.{replicate}
pub use Rattle.std.proofs.lemmas.List.{drop-replicate, get_or-set_same, set-get_or, set-set, take_all}
