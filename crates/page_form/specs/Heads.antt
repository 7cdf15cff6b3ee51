-- What a store keeps in memory of its log: the places of the objects' last Puts.
use Rattle.std.specs.Prelude.{◌≡◌, ℕ, ◌<◌, List, Some}
use Rattle.std.specs.BTreeMap.{BTreeMap, get}
use Rattle.value_form.specs.declared.objects.ObjectId.{ObjectId}
use Rattle.value_form.specs.Objects.{object_cmp}
use Rattle.effect_form.specs.declared.effects.Effect.{Effect}
use Rattle.effect_form.specs.declared.effects.Place.{Place}
use Rattle.effect_form.specs.Effects.{IsPlace}
use Rattle.page_form.specs.Entries.{Log, last_put, effects_of}

abbrev pub Heads : Type 0
Heads = BTreeMap ObjectId Place

abbrev pub HeadsFit : Heads → Log → Type 0
HeadsFit heads log = (object : ObjectId) → get object_cmp heads object ≡ last_put log object

-- each is a place of a page
abbrev pub ArePlaces : Heads → Type 0
ArePlaces heads = (object : ObjectId) (place : Place) → get object_cmp heads object ≡ Some place → IsPlace place

-- each is on a page below this one
abbrev pub AreBelow : ℕ → Heads → Type 0
AreBelow limit heads = (object : ObjectId) (place : Place) → get object_cmp heads object ≡ Some place → place.page < limit

-- what an opening has found is a log
pub record IsFound (heads : Heads) (effects : List Effect) (log : Log) : Type 0 where
  pub heads_fit : HeadsFit heads log
  pub effects_are : effects ≡ effects_of log
