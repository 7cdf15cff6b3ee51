-- The rule of the table. Word 0 is the number of tickets drawn, word 1 the ticket served, word 2 the length of the story. The rest are the board.
use Rattle.std.specs.Prelude.{◌≡◌, ◌⊎◌, ℕ, ◌+◌, ◌-◌, ◌%◌, ◌<◌, ◌≤◌, List, [], ◌∷◌, length, All, Some}
use mathlib.Core.Option.{some, none}
use lib.ListN.{get_elem?}
use Rattle.std.specs.declared.snapshot.Snapshot.{Snapshot}
use Rattle.atomic_table.specs.Table.{State}
use Rattle.seat_lock.specs.declared.views.Stage.{Stage}
use Rattle.seat_lock.specs.declared.views.Stage.TheVariants.{Idle, Waiting, Holding}
use Rattle.seat_lock.specs.declared.views.Part.{Part}
use Rattle.seat_lock.specs.declared.views.View.{View}
use Rattle.seat_lock.specs.Story.{Meaning, Begins, HasOwn}

abbrev pub total : {A : Type 0} → (A → ℕ) → List A → ℕ
total f [] = 0
total f (x ∷ xs) = f x + total f xs

-- 1 where the numbers are the same, and else 0
abbrev pub same : ℕ → ℕ → ℕ
same a b = 1 - ((a - b) + (b - a))

-- the owner is one of these
abbrev pub IsOneOf : List ℕ → ℕ → Type 0
IsOneOf owners o = 1 ≤ total (same o) owners

-- 1 where a is below b, and else 0
abbrev pub below : ℕ → ℕ → ℕ
below a b = 1 - (1 - (b - a))

-- 1 where the seat has the ticket, and else 0
abbrev pub ticket_at : ℕ → Stage → ℕ
ticket_at t Idle = 0
ticket_at t (Waiting k) = same t k
ticket_at t (Holding k) = same t k

-- 1 where the seat has a ticket, and else 0
abbrev pub waits : Stage → ℕ
waits Idle = 0
waits (Waiting _) = 1
waits (Holding _) = 1

-- 1 where the seat has the slot, and else 0
abbrev pub holding : Stage → ℕ
holding Idle = 0
holding (Waiting _) = 0
holding (Holding _) = 1

module _ {T E : Type 0} where
  abbrev pub holds_slot : View T E → ℕ
  holds_slot v = holding v.stage

  abbrev pub has_ticket : View T E → ℕ
  has_ticket v = waits v.stage

  abbrev pub at_ticket : ℕ → View T E → ℕ
  at_ticket t v = ticket_at t v.stage

  -- the sum of the weights of the view's owners
  abbrev pub weight : (ℕ → ℕ) → View T E → ℕ
  weight h v = total (λ (p : Part E). h p.owner) v.parts

module _ {T E : Type 0} (m : Meaning T E) (base : T) where
  -- what a seat that holds the slot knows of the ticket served and of the longest story
  abbrev pub AtStage : List E → ℕ → List E → Stage → Type 0
  AtStage longest served story Idle = Unit {0}
  AtStage longest served story (Waiting t) = Unit {0}
  AtStage longest served story (Holding t) = (t ≡ served) × (story ≡ longest)

  -- a view that is true of the longest story
  pub record Fits (longest : List E) (served : ℕ) (v : View T E) : Type 0 where
    pub base_is : (b : Snapshot T) → v.base ≡ Some b → b.value ≡ base
    pub begins : Begins v.story longest
    pub staged : AtStage longest served v.story v.stage
    pub seated : waits v.stage ≤ length v.parts
    pub own_seen : HasOwn m.owner v.parts v.story
    pub own_all : HasOwn m.owner v.parts longest
    pub heard : (k : ℕ) (l : List E) → get_elem? v.heard k ≡ some l → Begins l longest

  -- the value is at home, and stands for the longest story
  abbrev pub AtHome : State T (View T E) → List E → Type 0
  AtHome s longest = (x : T) × (s.homes ≡ some x ∷ []) × (m.stands base x × (m.story x ≡ longest)) × (total holds_slot s.views ≡ 0)

  -- the value is out with one seat
  abbrev pub IsOut : State T (View T E) → Type 0
  IsOut s = (s.homes ≡ none ∷ []) × (total holds_slot s.views ≡ 1)

  -- what holds between any two steps
  pub record Kept (owners : List ℕ) (s : State T (View T E)) : Type 0 where
    pub longest : List E
    pub drawn : ℕ
    pub served : ℕ
    pub board : List ℕ
    pub words : s.words ≡ drawn % 18446744073709551616 ∷ served % 18446744073709551616 ∷ length longest % 18446744073709551616 ∷ board
    pub allowed : (k n : ℕ) → get_elem? board k ≡ some n → m.may_hold base longest k n
    pub few : length owners < 18446744073709551616
    pub differ : (o : ℕ) → total (same o) owners ≤ 1
    -- each entry is of one of the owners
    pub owned : All (λ e. IsOneOf owners (m.owner e)) longest
    pub count : served + total has_ticket s.views ≡ drawn
    -- the tickets in views are those from the served one to the last drawn, each once
    pub tickets : (t : ℕ) → below t served + total (at_ticket t) s.views ≡ below t drawn
    -- each owner is in one seat's parts, however owners are weighed
    pub dealt : (h : ℕ → ℕ) → total (weight h) s.views ≡ total h owners
    pub each : (id : ℕ) (v : View T E) → get_elem? s.views id ≡ some v → Fits longest served v
    pub shelf : AtHome s longest ⊎ IsOut s
