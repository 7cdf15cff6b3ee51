-- How the effects of a call fill pages.
use Prim.Native.Nat.{zero, suc}
use Rattle.std.specs.Prelude.{◌≡◌, ℕ, ◌+◌, ◌-◌, ◌/◌, List, [], ◌∷◌, ◌++◌, length, drop, ◌==◌, nat_le, if◌then◌else◌}
use Rattle.std.specs.List.{flat_map}
use Rattle.effect_form.specs.declared.effects.Effect.{Effect}
use Rattle.effect_form.specs.Effects.{size_of}

-- how many bytes effects take
abbrev pub sizes : List Effect → ℕ
sizes [] = 0
sizes (e ∷ es) = size_of e + sizes es

-- what stands together: effects that share a page, or one that is longer than a page, on pages of its own
pub data Parcel : Type 0 where
  Shared : List Effect → Parcel
  Alone : Effect → Parcel

-- a page that was begun
abbrev pub closed : List Effect → List Parcel
closed [] = []
closed (e ∷ es) = Shared (e ∷ es) ∷ []

-- the parcels of these effects, where a page was begun with those: it takes the next ones while their bytes together are at most 4,091
abbrev pub parcels_from : List Effect → List Effect → List Parcel
parcels_from page [] = closed page
parcels_from page (e ∷ es) =
    if nat_le (sizes page + size_of e) 4091 then parcels_from (page ++ e ∷ []) es
    else if nat_le (size_of e) 4091 then closed page ++ parcels_from (e ∷ []) es
    else closed page ++ Alone e ∷ parcels_from [] es

abbrev pub parcels : List Effect → List Parcel
parcels effects = parcels_from [] effects

-- so many pages with pieces of an effect, and the one with its last
abbrev pub pieced : ℕ → Effect → List (List Effect)
pieced zero e = (e ∷ []) ∷ []
pieced (suc n) e = [] ∷ pieced n e

-- how many pages are full of pieces of an effect before the one with the last
abbrev pub full_pages : Effect → ℕ
full_pages e = (size_of e - 1) / 4091

-- the effects that stand whole with each page of a parcel
abbrev pub pages_of : Parcel → List (List Effect)
pages_of (Shared es) = es ∷ []
pages_of (Alone e) = pieced (full_pages e) e

-- the effects that stand whole with each page of a call
abbrev pub filling : List Effect → List (List Effect)
filling effects = flat_map pages_of (parcels effects)

-- how many pages were begun, where the effects on the last have so many bytes
abbrev pub begun_pages : ℕ → ℕ
begun_pages size = if size == 0 then 0 else 1

-- how many pages an effect fills that doesn't fit behind others
abbrev pub own_pages : Effect → ℕ
own_pages e = if nat_le (size_of e) 4091 then 1 else full_pages e + 1

-- how many pages are filled with the next effect, from the one on that has so many bytes of others
abbrev pub reach : ℕ → Effect → ℕ
reach size e = if nat_le (size + size_of e) 4091 then 1 else begun_pages size + own_pages e

-- after the first i effects so many pages are full, and one with so many bytes is being filled
pub record Filled (effects : List Effect) (i full size : ℕ) : Type 0 where
  pub page : List Effect
  pub size_is : sizes page ≡ size
  pub count : full + length (flat_map pages_of (parcels_from page (drop i effects))) ≡ length (filling effects)
