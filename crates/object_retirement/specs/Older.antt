-- What older histories had and this one gave up.
use Rattle.std.specs.Prelude.{◌≡◌, ◌⊎◌, true, false, List, Some}
use Rattle.pseudo_time.specs.TimeParts.{TimeParts}
use Rattle.pseudo_time.specs.Lists.{Has}
use Rattle.pseudo_time.specs.Order.{lt}
use Rattle.value_form.specs.declared.objects.ObjectId.{ObjectId}
use Rattle.value_form.specs.declared.values.Value.{Value}
use Rattle.object_history.specs.declared.marks.Mark.{Mark}
use Rattle.object_history.specs.declared.marks.Mark.TheVariants.{Put}
use Rattle.object_history.specs.History.{settle_of, floor_of}
use Rattle.object_history.specs.Views.{HasPut}

-- a version below the floor that was given up: its attempt is aborted, or a committed version stands between it and the floor
abbrev pub Gone : List Mark → ObjectId → TimeParts → Type 0
Gone m o x = (e : TimeParts) × (floor_of m ≡ Some e) × (lt x e ≡ true)
    × ((settle_of m x.stamp ≡ Some false) ⊎ HasPut (λ y. (settle_of m y.stamp ≡ Some true) × (lt x y ≡ true) × (lt y e ≡ true)) o m)

-- each version of the other history stands here or was given up
abbrev pub GivenUp : List Mark → List Mark → Type 0
GivenUp m old = (o : ObjectId) (x : TimeParts) (v : Value) → Has (Put o x v) old → Has (Put o x v) m ⊎ Gone m o x
