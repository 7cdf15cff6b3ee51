-- The stable versions of an object: nothing can change them any more.
use Rattle.std.specs.Prelude.{◌≡◌, Bool, List, [], ◌∷◌, None, ◌&&◌, not, if◌then◌else◌}
use Rattle.pseudo_time.specs.TimeParts.{TimeParts}
use Rattle.pseudo_time.specs.Order.{lt}
use Rattle.value_form.specs.declared.objects.ObjectId.{ObjectId}
use Rattle.object_history.specs.declared.marks.Mark.{Mark}
use Rattle.object_history.specs.declared.marks.Mark.TheVariants.{Put, Stretch, Settle, Floor}
use Rattle.object_history.specs.declared.steps.WriteStep.TheVariants as write
use Rattle.object_history.specs.Objects.{same_object}
use Rattle.object_history.specs.History.{Seen, at_put, settle_of, is_settled, is_committed, version_count}
use Rattle.object_history.specs.Answers.{some_put, write_step}

-- into a list of rising starts, after those with an equal start
unfoldable pub insert : Seen → List Seen → List Seen
insert q [] = q ∷ []
insert q (p ∷ more) = if lt q.start p.start then q ∷ p ∷ more else p ∷ insert q more

-- the versions of the object whose start passes, in rising start
unfoldable pub listed : (TimeParts → Bool) → ObjectId → List Mark → List Seen
listed ok o [] = []
listed ok o (f ∷ m) =
    at_put (λ a x v below. if same_object a o && ok x then insert (record { place = version_count o m; start = x; value = v }) below else below) f (listed ok o m)

-- an undecided version of the object isn't above x
abbrev pub is_blocked : List Mark → ObjectId → TimeParts → Bool
is_blocked m o x = some_put (λ y. not (is_settled (settle_of m y.stamp)) && not (lt x y)) o m

-- the committed versions of the object below every undecided one, in rising start
abbrev pub settled_versions : List Mark → ObjectId → List Seen
settled_versions m o = listed (λ x. is_committed (settle_of m x.stamp) && not (is_blocked m o x)) o m

-- a call on histories may add this mark
abbrev pub Adds : List Mark → Mark → Type 0
Adds m (Put o x v) = write_step m o x v ≡ write.Put
Adds m (Stretch o x) = Unit {0}
Adds m (Settle s c) = settle_of m s ≡ None
Adds m (Floor z) = ⊥
