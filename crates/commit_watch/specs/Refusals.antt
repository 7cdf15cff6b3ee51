-- Why a watch advances over no object.
use Rattle.std.specs.Prelude.{◌≡◌, ◌⊎◌, Bool, true, Option, Result, Err, is_ok}
use Rattle.value_form.specs.declared.objects.ObjectId.{ObjectId}
use Rattle.commit_watch.specs.declared.moved.Moved.{Moved}
use Rattle.commit_watch.specs.declared.faults.WatchFault.{WatchFault}
use Rattle.commit_watch.specs.Lists.{object_lt}

-- the least object that is refused, and why it is
pub record IsRefusal {T : Type 0} (outcome : ObjectId → Result (Option (Moved T)) WatchFault) (why : WatchFault) : Type 0 where
  pub object : ObjectId
  pub refused : outcome object ≡ Err why
  pub least : (o : ObjectId) → object_lt o object ≡ true → is_ok (outcome o) ≡ true
