-- What passes and visits know.
use Rattle.std.specs.Prelude.{◌≡◌, ℕ, List, [], ◌∷◌, length, Some}
use Rattle.std.specs.declared.snapshot.Snapshot.{Snapshot}
use Rattle.atomic_table.specs.declared.shared.Seat.{Seat}
use Rattle.atomic_table.specs.Seated.{TableId}
use mathlib.Core.Option.{some}
use lib.ListN.{get_elem?}
use Rattle.seat_lock.specs.declared.views.Part.{Part}
use Rattle.seat_lock.specs.declared.views.Stage.TheVariants.{Idle, Holding}
use Rattle.seat_lock.specs.declared.views.View.{View}
use Rattle.seat_lock.specs.Story.{Meaning, Begins, HasOwn}
use Rattle.seat_lock.specs.Steps.{Seated, ticket_of, Sees}

module _ {T E : Type 0} where
  -- the seat has found that it is its turn, and has taken the value x, which stands for the list l
  abbrev pub Took : Meaning T E → Seated T E → Seated T E → T → List E → Type 0
  Took m me me' x l = (me' ≡ (record me.0 { stage = Holding (ticket_of me.0.stage); story = l }, (0, x) ∷ me.1)) × (m.story x ≡ l) × Sees m me.0 l × ((b : Snapshot T) → me.0.base ≡ Some b → m.stands b.value x)

  -- the list begins with all that the view has seen, and its owners have just their own entries in it
  abbrev pub Knows : (E → ℕ) → View T E → List E → Type 0
  Knows owner v l = Begins v.story l × HasOwn owner v.parts l × ((k : ℕ) (h : List E) → get_elem? v.heard k ≡ some h → Begins h l)

  -- what the view knows of a list is what the other view knows of it, and more
  abbrev pub Covers : (E → ℕ) → View T E → View T E → Type 0
  Covers owner v w = (l : List E) → Knows owner v l → Begins w.story l × HasOwn owner w.parts l

  -- a new pass, for an owner
  abbrev pub newcomer : View T E → Part E → View T E
  newcomer v p = record v { stage = Idle; parts = p ∷ []; heard = [] }

module _ {T E : Type 0} where
  -- the pass belongs to the lock of this table, which was made from the base; it has one owner, and is in no visit
  pub record Belongs (z : TableId) (base : T) (p : Seat T (View T E)) : Type 0 where
    pub here : p.table_id ≡ z
    pub idle : p.me.0.stage ≡ Idle
    pub empty : p.me.1 ≡ []
    pub owned : length p.me.0.parts ≡ 1
    pub based : (b : Snapshot T) × (p.me.0.base ≡ Some b) × (b.value ≡ base)

  -- the passes are new ones of this table, one for each part, in order
  abbrev pub AreNew : TableId → View T E → List (Part E) → List (Seat T (View T E)) → Type 0
  AreNew z v [] [] = Unit {0}
  AreNew z v [] (p ∷ ps) = ⊥
  AreNew z v (x ∷ xs) [] = ⊥
  AreNew z v (x ∷ xs) (p ∷ ps) = (p.table_id ≡ z) × (p.me ≡ (newcomer v x, [])) × AreNew z v xs ps
