-- Stories: the words that contracts use.
use Rattle.std.specs.Prelude.{◌≡◌, ℕ, ◌==◌, List, [], ◌∷◌, ◌++◌, filter, length, nat_le, cond}
use Rattle.seat_lock.specs.declared.views.Part.{Part}

-- what a value and an entry mean
pub record Meaning (T E : Type 0) : Type 1 where
  pub story : T → List E
  pub stands : T → T → Type 0
  pub owner : E → ℕ
  pub may_hold : T → List E → ℕ → ℕ → Type 0

abbrev pub meaning : {T E : Type 0} → (T → List E) → (T → T → Type 0) → (E → ℕ) → (T → List E → ℕ → ℕ → Type 0) → Meaning T E
meaning story stands owner may_hold = record { story = story; stands = stands; owner = owner; may_hold = may_hold }

-- the story begins with the part
abbrev pub Begins : {E : Type 0} → List E → List E → Type 0
Begins {E} part story = (rest : List E) × (part ++ rest ≡ story)

-- the entries of one owner, in order
abbrev pub entries_of : {E : Type 0} → (E → ℕ) → ℕ → List E → List E
entries_of owner o es = filter (λ e. owner e == o) es

-- the longer list, and the second where they are as long
abbrev pub longer : {E : Type 0} → List E → List E → List E
longer xs ys = cond (nat_le (length xs) (length ys)) ys xs

module _ {E : Type 0} where
  -- each owner of the view has just these entries of its own in the list
  abbrev pub HasOwn : (E → ℕ) → List (Part E) → List E → Type 0
  HasOwn owner [] l = Unit {0}
  HasOwn owner (p ∷ ps) l = (entries_of owner p.owner l ≡ p.own) × HasOwn owner ps l

  abbrev pub first_part : List (Part E) → List (Part E)
  first_part [] = []
  first_part (p ∷ ps) = p ∷ []

  abbrev pub other_parts : List (Part E) → List (Part E)
  other_parts [] = []
  other_parts (p ∷ ps) = ps

  abbrev pub with_own : E → List (Part E) → List (Part E)
  with_own e [] = []
  with_own e (p ∷ ps) = record p { own = p.own ++ e ∷ [] } ∷ ps

  -- each owner with its entries of the list
  abbrev pub owned_in : (E → ℕ) → List E → List (Part E) → List (Part E)
  owned_in owner l [] = []
  owned_in owner l (p ∷ ps) = record { owner = p.owner; own = entries_of owner p.owner l } ∷ owned_in owner l ps
