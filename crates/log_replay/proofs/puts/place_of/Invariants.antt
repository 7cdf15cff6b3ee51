use Rattle.std.proofs.Common.{◌≡◌, ◌≤◌, ◌-◌, ◌++◌, take, drop, length}
use Rattle.serial_model.specs.Deeds.{put_in}
use Rattle.value_form.specs.declared.objects.ObjectId.{ObjectId}
use Rattle.value_form.specs.declared.values.Value.{Value}
use Rattle.script_replay.specs.Attempts.{versions_of}
use Rattle.log_replay.proofs.puts.place_of.Given as goal

-- those so far don't start above
abbrev pub invariant-puts : goal.invariant-puts
invariant-puts l = (l.place ≤ length l.puts) × ((o : ObjectId) (v : Value) →
    put_in (record { object = o; start = l.start; value = v }) (versions_of l.puts)
    ≡ take l.place (versions_of l.puts) ++ put_in (record { object = o; start = l.start; value = v }) (drop l.place (versions_of l.puts)))

abbrev pub decreases-puts : goal.decreases-puts
decreases-puts l = length l.puts - l.place
