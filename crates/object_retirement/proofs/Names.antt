-- The names that the proofs of this crate cite, passed on from one place. Declares nothing.
pub use Rattle.object_history.proofs.BoolLemmas.{and-both, and-left, and-right, not-false}
pub use Rattle.object_history.proofs.ObjectLemmas.{eq-from, eqb-yes, same_object-is, same_object-of}
pub use Rattle.object_history.proofs.ReachLemmas.{ends-floor, one-place}
pub use Rattle.object_history.proofs.ScanLemmas.{Standing, distinct-kept, one-version, same-scan, settled-kept, standing, stands-has, stands-starts}
pub use Rattle.object_history.proofs.StableLemmas.{put-says, scan-passes, starts-all}
pub use Rattle.object_history.proofs.TestLemmas.{two-tests}
pub use Rattle.object_history.proofs.ViewLemmas.{covers-either, covers-first, covers-floor, covers-read, covers-rest, covers-top, covers-which, has-map, top-all, viewed-kept}
pub use Rattle.object_history.proofs.Words.{AtMost, Ends, Passes}
pub use Rattle.object_history.specs.History.{Seen, alive, is_alive, is_committed, newest, or_else, place_of, reach, read_to, same_place, scan, sees, top, version_count}
unfoldable pub use Rattle.object_history.specs.History.{floor_of, settle_of, stretched}
pub use Rattle.object_history.specs.Objects.{same_object}
pub use Rattle.object_history.specs.Views.{Covers, Distinct, Firm, Fits, HasPut, IsOnFloor, IsVersion, Shut, Starts, Viewed, shows, value_of, views}
pub use Rattle.object_history.specs.declared.marks.Mark.{Mark}
pub use Rattle.object_history.specs.declared.marks.Mark.TheVariants.{Floor, Put, Settle, Stretch}
pub use Rattle.object_retirement.specs.Chains.{AllOf, Chain, Follows_on, Grows, SomeOf, WasViewed}
pub use Rattle.object_retirement.specs.Older.{GivenUp, Gone}
pub use Rattle.object_retirement.specs.Retired.{MayRetire, NoneOwn, Same, last_firm, retired, stays_put}
unfoldable pub use Rattle.object_retirement.specs.Retired.{kept}
pub use Rattle.pseudo_time.proofs.OrderLemmas.{between, lt-asymmetric, lt-split, lt-steps, lt-total, lt-trans, same_stamp-is, same_stamp-of, same_time-is, same_time-of}
pub use Rattle.pseudo_time.specs.Lists.{Has}
pub use Rattle.pseudo_time.specs.Order.{lt, same_stamp, same_time}
pub use Rattle.pseudo_time.specs.StampParts.{StampParts}
pub use Rattle.pseudo_time.specs.TimeParts.{TimeParts}
pub use Rattle.std.proofs.Common.{Bool, List, None, Option, Some, [], ap, arith, false, if◌then◌else◌, inl, inr, nat_lt, not, refl, subst, sym, true, ℕ, ◌&&◌, ◌++◌, ◌||◌, ◌∙◌, ◌∷◌, ◌≡◌, ◌≢◌, ◌≤◌, ◌⊎◌}
pub use Rattle.std.proofs.lemmas.Bool.{false≢true, true≢false}
pub use Rattle.value_form.specs.declared.objects.ObjectId.{ObjectId}
pub use Rattle.value_form.specs.declared.values.Value.{Value}
