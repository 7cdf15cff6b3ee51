-- The words of the public contracts: what a pass and a visit show.
use Rattle.std.specs.Prelude.{◌≡◌, ◌-◌, ℕ, Bool, List, [], ◌∷◌, Option, Some, None, length}
use Rattle.std.specs.declared.snapshot.Snapshot.{Snapshot}
use Rattle.atomic_table.specs.declared.shared.Seat.{Seat}
use Rattle.atomic_table.specs.Lent.{seat_with}
use Rattle.seat_lock.specs.declared.views.Part.{Part}
use Rattle.seat_lock.specs.declared.views.View.{View}
use Rattle.seat_lock.specs.declared.views.Founding.{Founding}
use Rattle.seat_lock.specs.declared.views.LockRule.{LockRule}
use Rattle.std.specs.declared.alloc.Global.{Global}
use Rattle.seat_lock.specs.declared.locks.LockTable.{LockTable}
use Rattle.seat_lock.specs.declared.locks.Visit.{Visit}
use Rattle.seat_lock.specs.Rule.{holding}
use Rattle.seat_lock.specs.Story.{Begins, entries_of}
use Rattle.seat_lock.specs.Passes.{Belongs}

-- what is known of the lock's story, and what was done on the board
pub record Known (T E : Type 0) : Type 0 where
  -- the value that the lock was made from
  pub base : Option T
  -- the number of the pass's owner
  pub owner : ℕ
  -- the owner's entries of the story, in order
  pub own : List E
  -- the story as the pass has seen it, from its first entry on
  pub story : List E
  -- each word that was tested with the number that was found, in order
  pub tests : List (ℕ × ℕ)
  -- each word that was posted with its number, in order
  pub posts : List (ℕ × ℕ)

module _ {E : Type 0} where
  abbrev pub owner_in : List (Part E) → ℕ
  owner_in [] = 0
  owner_in (p ∷ ps) = p.owner

  abbrev pub own_in : List (Part E) → List E
  own_in [] = []
  own_in (p ∷ ps) = p.own

abbrev pub base_in : {T : Type 0} → Option (Snapshot T) → Option T
base_in None = None
base_in (Some b) = Some b.value

module _ {T E : Type 0} where
  abbrev pub shown : View T E → Known T E
  shown v = record { base = base_in v.base; owner = owner_in v.parts; own = own_in v.parts; story = v.story; tests = v.tests; posts = v.posts }

  -- what a pass knows
  abbrev pub knows : Seat T (View T E) → Known T E
  knows pass = shown pass.me.0

  -- what a visit sees
  abbrev pub sees : Visit T E → Known T E
  sees visit = shown visit.seat.me.0

  -- the list begins with the story that is known, and has of its owner just its own entries
  pub record CarriesOn (owner : E → ℕ) (known : Known T E) (l : List E) : Type 0 where
    pub begins : Begins known.story l
    pub own : entries_of owner known.owner l ≡ known.own

  -- the visit's pass is inside its lock, and has the slot with the value x
  pub record IsInside (v : Visit T E) (x : T) : Type 0 where
    pub here : v.seat.table_id ≡ v.lock.now.table.shared.table_id
    pub holds : holding v.seat.me.0.stage ≡ 1
    pub slot : v.seat.me.1 ≡ (0, x) ∷ []
    pub owned : length v.seat.me.0.parts ≡ 1
    pub based : (b : Snapshot T) × (v.seat.me.0.base ≡ Some b) × (b.value ≡ v.lock.now.table.shared.key.state.value)

  -- the visit after the value x was written into it
  abbrev pub with_value : Visit T E → T → Visit T E
  with_value visit x = record visit { seat = seat_with visit.seat 0 x }

  -- an entry was noted in the visit
  abbrev pub has_noted : Visit T E → Bool
  has_noted visit = visit.noted

  -- the lock that the visit is inside of
  abbrev pub lock_of : Visit T E → LockTable T (View T E) (Founding T) (LockRule T) Global
  lock_of visit = visit.lock.now

  -- what the new pass of an owner knows
  abbrev pub fresh : T → ℕ → Known T E
  fresh base owner = record { base = Some base; owner = owner; own = []; story = []; tests = []; posts = [] }

module _ {T E Q A : Type 0} where
  -- the value that the lock was made from
  abbrev pub base_of : LockTable T (View T E) (Founding T) Q A → T
  base_of lock = lock.table.shared.key.state.value

  -- the owners that the lock was made for, in order
  abbrev pub owners_of : LockTable T (View T E) (Founding T) Q A → List ℕ
  owners_of lock = lock.table.shared.key.owners.items

  -- the number of words on the lock's board
  abbrev pub board_size : LockTable T (View T E) (Founding T) Q A → ℕ
  board_size lock = lock.table.shared.table_id.words - 3

  -- the pass belongs to the lock, and is in no visit
  abbrev pub IsPassOf : LockTable T (View T E) (Founding T) Q A → Seat T (View T E) → Type 0
  IsPassOf lock pass = Belongs lock.table.shared.table_id lock.table.shared.key.state.value pass
