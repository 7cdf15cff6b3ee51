-- What histories in memory keep of each object, and how they look a version up.
use Rattle.std.specs.Prelude.{◌≡◌, ℕ, Bool, true, false, List, [], ◌∷◌, Option, Some, None, length, unwrap_or, ◌==◌, ◌&&◌, ◌||◌, if◌then◌else◌}
use Rattle.std.specs.FinMap as finite
use Rattle.pseudo_time.specs.StampParts.{StampParts, stamp_cmp}
use Rattle.pseudo_time.specs.TimeParts.{TimeParts}
use Rattle.pseudo_time.specs.Order.{same_stamp, lt}
use Rattle.value_form.specs.declared.objects.ObjectId.{ObjectId}
use Rattle.value_form.specs.declared.values.Value.{Value}
use Rattle.value_form.specs.declared.values.Value.TheVariants.{Nothing}
use Rattle.value_form.specs.Objects.{object_cmp}
use Rattle.object_history.specs.declared.marks.Mark.{Mark}
use Rattle.object_history.specs.declared.versions.Version.{Version}
use Rattle.object_history.specs.declared.steps.ReadStep.{ReadStep}
use Rattle.object_history.specs.declared.steps.ReadStep.TheVariants.{Answer, Wait, LaterRead}
use Rattle.object_history.specs.Objects.{same_object}
use Rattle.object_history.specs.Ranges.{AreMarks}
use Rattle.object_history.specs.History.{Seen, at_put, floor_of, settle_of, is_alive, is_settled, is_committed, version_count, top, stretched}

-- ---- what is kept

-- the decided stamps
abbrev pub Settled : Type 0
Settled = finite.FinMap stamp_cmp Bool

-- of an object: the last Stretch on its origin, and its versions, newest first
pub record TrackParts : Type 0 where
  pub origin : Option TimeParts
  pub versions : List Version

abbrev pub empty_track : TrackParts
empty_track = record { origin = None; versions = [] }

-- with one version more, the newest
abbrev pub with_version : ℕ → TimeParts → TrackParts → TrackParts
with_version mark x t = record { origin = t.origin; versions = record { place = length t.versions; mark = mark; start = x; end = None } ∷ t.versions }

abbrev pub read_up_to : TimeParts → Version → Version
read_up_to x v = record { place = v.place; mark = v.mark; start = v.start; end = top x v.end }

-- the version at this place is read up to x
unfoldable pub ended_at : ℕ → TimeParts → List Version → List Version
ended_at p x [] = []
ended_at p x (v ∷ vs) = (if p == length vs then read_up_to x v else v) ∷ ended_at p x vs

-- the version at this place, or the origin, is read up to x
abbrev pub with_end : Option ℕ → TimeParts → TrackParts → TrackParts
with_end None x t = record { origin = top x t.origin; versions = t.versions }
with_end (Some p) x t = record { origin = t.origin; versions = ended_at p x t.versions }

-- the objects
abbrev pub Tracked : Type 0
Tracked = finite.FinMap object_cmp TrackParts

abbrev pub track_at : Tracked → ObjectId → TrackParts
track_at tracks o = unwrap_or (finite.get tracks o) empty_track

-- the versions of an object among the marks m, each with the number of marks under its own, and the last Stretch of all marks on it
unfoldable pub versions_in : List Mark → ObjectId → List Mark → List Version
versions_in all o [] = []
versions_in all o (f ∷ m) =
    at_put (λ a x v below. if same_object a o
    then record { place = version_count o m; mark = length m; start = x; end = stretched all o (Some (version_count o m)) } ∷ below
    else below) f (versions_in all o m)

abbrev pub track_of : List Mark → ObjectId → TrackParts
track_of m o = record { origin = stretched m o None; versions = versions_in m o m }

-- both maps are those of the marks
pub record Keeps (m : List Mark) (settled : Settled) (tracks : Tracked) : Type 0 where
  pub settles : (s : StampParts) → finite.get settled s ≡ settle_of m s
  pub objects : (o : ObjectId) → track_at tracks o ≡ track_of m o

-- what histories in memory keep is so, and each mark is in range
pub record IsKept (m : List Mark) (settled : Settled) (tracks : Tracked) : Type 0 where
  pub keeps : Keeps m settled tracks
  pub in_range : AreMarks m

-- and so is the floor that they keep
pub record IsWhole (m : List Mark) (settled : Settled) (tracks : Tracked) (floor : Option TimeParts) : Type 0 where
  pub kept : IsKept m settled tracks
  pub floors : floor ≡ floor_of m

-- ---- versions that rise

-- the time is above the start of the newest of these versions, if there is one
abbrev pub tops : List Version → TimeParts → Bool
tops [] x = true
tops (v ∷ vs) x = lt v.start x

-- each version starts above the one before it
unfoldable pub rising : List Version → Bool
rising [] = true
rising (v ∷ vs) = tops vs v.start && rising vs

-- ---- looking up

-- the value of a Put
abbrev pub value_put : Mark → Value
value_put f = at_put (λ o x v below. v) f Nothing

-- the value of the Put that has so many marks under it
abbrev pub value_under : List Mark → ℕ → Value
value_under [] k = Nothing
value_under (f ∷ m) k = if k == length m then value_put f else value_under m k

-- what is seen, where that version is found
abbrev pub seen_in : List Mark → Version → Seen
seen_in m v = record { place = v.place; start = v.start; value = value_under m v.mark }

-- nothing was found, or what starts below
abbrev pub takes_over : Option Version → TimeParts → Bool
takes_over None x = true
takes_over (Some v) x = lt v.start x

-- the first, unless the second starts above it
abbrev pub joined : Option Version → Option Version → Option Version
joined None r = r
joined (Some v) None = Some v
joined (Some v) (Some w) = if lt v.start w.start then Some w else Some v

-- of the versions whose start passes, that with the greatest start; of equal starts the newest
unfoldable pub last_of : (TimeParts → Bool) → List Version → Option Version
last_of ok [] = None
last_of ok (v ∷ vs) = joined (if ok v.start then Some v else None) (last_of ok vs)

abbrev pub is_below : Option TimeParts → TimeParts → Bool
is_below None x = true
is_below (Some t) x = lt x t

-- a version below an end that isn't dead
abbrev pub is_living : Settled → Option TimeParts → TimeParts → Bool
is_living settled end x = is_below end x && is_alive (finite.get settled x.stamp)

abbrev pub is_past : Option TimeParts → TimeParts → Bool
is_past None y = true
is_past (Some x) y = lt x y

-- a committed version above a start
abbrev pub is_firm : Settled → Option TimeParts → TimeParts → Bool
is_firm settled start y = is_committed (finite.get settled y.stamp) && is_past start y

-- some version passes
unfoldable pub some_version : (Version → Bool) → List Version → Bool
some_version ok [] = false
some_version ok (v ∷ vs) = ok v || some_version ok vs

-- the end of what is found is the last Stretch on it
abbrev pub HasEnd : List Mark → ObjectId → Option Version → Type 0
HasEnd m o None = Unit {0}
HasEnd m o (Some v) = v.end ≡ stretched m o (Some v.place)

-- the undecided attempt of another stamp whose version is found
abbrev pub waits_for : List Mark → StampParts → Option Version → Option StampParts
waits_for m s None = None
waits_for m s (Some v) = if same_stamp v.start.stamp s || is_settled (settle_of m v.start.stamp) then None else Some v.start.stamp

-- the answer says that the read stretched what it saw
abbrev pub has_stretched : ReadStep → Bool
has_stretched (Answer v stretch) = stretch
has_stretched (Wait s) = false
has_stretched (LaterRead e) = false
