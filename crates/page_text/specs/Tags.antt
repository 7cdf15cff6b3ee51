-- The tags that a reader of elements meets on its way through a page.
use Rattle.std.specs.Prelude.{◌≡◌, ℕ, ◌==◌, Bool, true, false, ◌||◌, List, [], ◌∷◌, reverse, if◌then◌else◌}
use Rattle.std.specs.Int.{is_in_range}

-- where it stands: in a text; in a tag, inside quotes or not, with the tag's bytes, the last first; or behind a tag that isn't one of those that it knows
pub data Spot : Type 0 where
  InText : Spot
  InTag : Bool → List ℕ → Spot
  Astray : Spot

abbrev pub same_bytes : List ℕ → List ℕ → Bool
same_bytes [] [] = true
same_bytes [] (y ∷ ys) = false
same_bytes (x ∷ xs) [] = false
same_bytes (x ∷ xs) (y ∷ ys) = if x == y then same_bytes xs ys else false

abbrev pub is_one_of : List (List ℕ) → List ℕ → Bool
is_one_of [] tag = false
is_one_of (t ∷ ts) tag = if same_bytes t tag then true else is_one_of ts tag

-- a digit or a full stop
abbrev pub is_numeric : ℕ → Bool
is_numeric c = c == 46 || is_in_range 48 57 c

-- behind one more byte: `<` begins a tag, `>` outside of quotes ends it, and numbers in quotes are left out of it
abbrev pub spot_after : List (List ℕ) → Spot → ℕ → Spot
spot_after tags InText c = if c == 60 then InTag false [] else InText
spot_after tags (InTag false t) c =
    if c == 62 then (if is_one_of tags (reverse t) then InText else Astray)
    else if c == 34 then InTag true (c ∷ t)
    else InTag false (c ∷ t)
spot_after tags (InTag true t) c =
    if c == 34 then InTag false (c ∷ t)
    else if is_numeric c then InTag true t
    else InTag true (c ∷ t)
spot_after tags Astray c = Astray

-- where it stands behind these bytes
abbrev pub spot_behind : List (List ℕ) → Spot → List ℕ → Spot
spot_behind tags spot [] = spot
spot_behind tags spot (c ∷ text) = spot_behind tags (spot_after tags spot c) text

-- a text whose every tag is one of these, and is closed
abbrev pub HasTagsOf : List (List ℕ) → List ℕ → Type 0
HasTagsOf tags text = spot_behind tags InText text ≡ InText
