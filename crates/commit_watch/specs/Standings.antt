-- How the versions of an object stand, as the code keeps it while it reads the marks.
use Rattle.std.specs.Prelude.{ℕ, suc, Bool, true, false, List, [], ◌∷◌, filter, Option, Some, None, Result, unwrap_or, ◌&&◌, ◌||◌, not, if◌then◌else◌}
use Rattle.std.specs.BTreeMap.{BTreeMap, get}
use Rattle.std.specs.FinMap as finite
use Rattle.pseudo_time.specs.StampParts.{StampParts}
use Rattle.pseudo_time.specs.TimeParts.{TimeParts}
use Rattle.pseudo_time.specs.Order.{lt}
use Rattle.value_form.specs.declared.objects.ObjectId.{ObjectId}
use Rattle.value_form.specs.Objects.{object_cmp}
use Rattle.object_history.specs.declared.marks.Mark.{Mark}
use Rattle.object_history.specs.Objects.{same_object}
use Rattle.object_history.specs.History.{at_put, is_settled, is_committed}
use Rattle.object_history.specs.Kept.{is_past, is_below}
use Rattle.value_form.specs.declared.values.Value.{Value}
use Rattle.commit_watch.specs.declared.puts.Put.{Put}
use Rattle.commit_watch.specs.declared.versions.Version.{Version}
use Rattle.commit_watch.specs.declared.moved.Moved.{Moved}
use Rattle.commit_watch.specs.declared.faults.WatchFault.{WatchFault}
use Rattle.commit_watch.specs.declared.scans.Scan.{Scan}
use Rattle.commit_watch.specs.Lists.{moved_at, cursor_of}
use Rattle.commit_watch.specs.Folds.{is_under, unless_retired, moved_over}

pub record StandingParts : Type 0 where
  -- the committed ones to be folded, in rising start
  pub versions : List Version
  -- the start of the first undecided one
  pub undecided : Option TimeParts
  -- one above the cursor lies below the floor
  pub is_retired : Bool

abbrev pub empty_standing : StandingParts
empty_standing = record { versions = []; undecided = None; is_retired = false }

-- all start above x
unfoldable pub all_above : TimeParts → List Version → Bool
all_above x [] = true
all_above x (v ∷ vs) = lt x v.start && all_above x vs

-- in front of those at the end that all start above it
unfoldable pub version_in : Version → List Version → List Version
version_in v [] = v ∷ []
version_in v (w ∷ ws) = if lt v.start w.start && all_above v.start ws then v ∷ w ∷ ws else w ∷ version_in v ws

-- the earlier of two times
abbrev pub earlier : TimeParts → Option TimeParts → TimeParts
earlier x None = x
earlier x (Some u) = if lt u x then u else x

-- what is asked: how stamps were decided, the floor, the end, and how far each object was folded
pub record Terms : Type 0 where
  pub settled : StampParts → Option Bool
  pub floor : Option TimeParts
  pub below : Option TimeParts
  pub cursor : ObjectId → Option TimeParts

-- a version to be folded, where it is stable
abbrev pub is_wanted : Option TimeParts → Option TimeParts → TimeParts → Bool
is_wanted cursor below x = is_past cursor x && is_below below x

-- a version that stands where others may have been given up before they were folded
abbrev pub is_lost : Option TimeParts → Option TimeParts → TimeParts → Bool
is_lost floor cursor x = is_under floor x && is_past cursor x

-- what the terms say of a put
abbrev pub put_of : Terms → ObjectId → TimeParts → Put
put_of t o x = record { object = o; start = x; settled = t.settled x.stamp; is_wanted = is_wanted (t.cursor o) t.below x; is_lost = is_lost t.floor (t.cursor o) x }

-- with one version more
abbrev pub with_version : Put → Value → StandingParts → StandingParts
with_version p v s = record {
  versions = if is_committed p.settled && p.is_wanted then version_in (record { object = p.object; start = p.start; value = v }) s.versions else s.versions;
  undecided = if is_settled p.settled then s.undecided else Some (earlier p.start s.undecided);
  is_retired = p.is_lost || s.is_retired;
}

-- how the object's versions among these marks stand
unfoldable pub standing_of : Terms → ObjectId → List Mark → StandingParts
standing_of t o [] = empty_standing
standing_of t o (f ∷ m) =
    at_put (λ a x v s. if same_object a o then with_version (put_of t a x) v s else s) f (standing_of t o m)

-- what a map of standings has of the object
abbrev pub standing_at : BTreeMap ObjectId StandingParts → ObjectId → StandingParts
standing_at standings o = unwrap_or (get object_cmp standings o) empty_standing

-- x isn't below the undecided version
abbrev pub is_stopped : Option TimeParts → TimeParts → Bool
is_stopped None x = false
is_stopped (Some u) x = not (lt x u)

-- the stable versions
abbrev pub settled_in : StandingParts → List Version
settled_in s = filter (λ v. not (is_stopped s.undecided v.start)) s.versions

-- an object once a watch advanced, by how its versions stand
abbrev pub stood : {T : Type 0} → T → (T → Version → Option T) → Option TimeParts → ObjectId → StandingParts → Option (Moved T) → Result (Option (Moved T)) WatchFault
stood first next floor o s w = unless_retired s.is_retired o floor (moved_over first next o w (settled_in s))

-- what is asked when objects were folded so far
unfoldable pub terms_in : {T : Type 0} → Scan → List (Moved T) → Terms
terms_in s ws = record { settled = λ p. finite.get s.settles p; floor = s.floor; below = s.below; cursor = λ o. cursor_of (moved_at o ws) }
