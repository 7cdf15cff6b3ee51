use Rattle.std.proofs.Common.{◌≡◌, ◌<◌, false}
use Rattle.std.specs.Prelude.{IfSome}
use Rattle.effect_form.specs.declared.effects.Place.{Place}
use Rattle.version_store.specs.StoreWords.{medium_of}
use Rattle.storage_tests.proofs.stores.walk.Given as goal

abbrev pub invariant-loop-index : goal.invariant-loop-index
invariant-loop-index g l = record {
  open_now : g.M.Medium.is_failed (medium_of l.store) ≡ false;
  within : IfSome l.at (λ (p : Place). p.page < g.M.Medium.page_count (medium_of l.store));
}
