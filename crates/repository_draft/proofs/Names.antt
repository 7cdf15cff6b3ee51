-- The names that the proofs of this crate cite, passed on from one place. Declares nothing.
pub use Rattle.object_history.specs.declared.steps.ReadStep.{ReadStep}
pub use Rattle.pseudo_time.specs.Lists.{Every}
unfoldable pub use Rattle.pseudo_time.specs.Order.{same_stamp}
pub use Rattle.pseudo_time.specs.TimeParts.{TimeParts, time_cmp}
pub use Rattle.repository_draft.specs.Hands.{Hand}
pub use Rattle.repository_draft.specs.Ranges.{AreHeld}
pub use Rattle.repository_draft.specs.Replies.{asks, read_as, tells, unhold, waited, waits_for}
pub use Rattle.repository_draft.specs.contracts.drafts.Draft.{the_view}
pub use Rattle.repository_draft.specs.declared.waits.Asker.{Asker}
pub use Rattle.repository_draft.specs.declared.waits.HeldRead.{HeldRead}
pub use Rattle.std.proofs.Common.{Bool, List, [], ap, cond, drop, false, rules, subst, sym, true, ◌++◌, ◌∙◌, ◌∷◌, ◌≡◌}
pub use Rattle.std.specs.List.{filter}
pub use Rattle.std.specs.Ordering.{match_ordering}
pub use Rattle.std.specs.Prelude.{OnOk, not}
pub use Rattle.std.specs.declared.cmp.Ordering.{Ordering}
pub use Rattle.std.specs.declared.cmp.Ordering.TheVariants.{Equal, Greater, Less}
pub use Rattle.value_form.specs.ObjectBytes.{IsObject}
