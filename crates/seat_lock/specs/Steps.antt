-- What each step tells.
use Rattle.std.specs.Prelude.{◌≡◌, ◌≢◌, ℕ, ◌-◌, ◌%◌, List, [], ◌∷◌, ◌++◌, Some, None}
use Rattle.std.specs.declared.snapshot.Snapshot.{Snapshot}
use Rattle.atomic_table.specs.Table.{Me, Step, rest}
use Rattle.seat_lock.specs.declared.views.Stage.{Stage}
use Rattle.seat_lock.specs.declared.views.Stage.TheVariants.{Idle, Waiting, Holding}
use Rattle.seat_lock.specs.declared.views.Part.{Part}
use Rattle.seat_lock.specs.declared.views.View.{View}
use Rattle.seat_lock.specs.Story.{Meaning, Begins, HasOwn, longer, first_part, other_parts, owned_in}

-- what a seat has: its view, and the slots that are out with it
abbrev pub Seated : Type 0 → Type 0 → Type 0
Seated T E = Me T (View T E)

-- the first seat has each owner
abbrev pub all_parts : {E : Type 0} → List ℕ → List (Part E)
all_parts [] = []
all_parts (o ∷ os) = record { owner = o; own = [] } ∷ all_parts os

-- the ticket that the seat has drawn
abbrev pub ticket_of : Stage → ℕ
ticket_of Idle = 0
ticket_of (Waiting t) = t
ticket_of (Holding t) = t

module _ {T E : Type 0} where
  -- the view of the first seat
  abbrev pub founder : Snapshot T → List ℕ → View T E
  founder base owners = record { base = Some base; stage = Idle; story = []; parts = all_parts owners; heard = []; tests = []; posts = [] }

  -- what is left of a seat that was joined away
  abbrev pub nobody : View T E
  nobody = record { base = None; stage = Idle; story = []; parts = []; heard = []; tests = []; posts = [] }

  abbrev pub staged : Stage → View T E → View T E
  staged stage v = record v { stage = stage }

  -- the seat gives its first owner away
  abbrev pub dealing : View T E → View T E
  dealing v = record v { parts = other_parts v.parts }

  -- the new seat has that owner
  abbrev pub dealt_out : View T E → View T E
  dealt_out v = record v { stage = Idle; parts = first_part v.parts; heard = [] }

  -- a seat with no owner, which carries the story
  abbrev pub note : View T E → View T E
  note v = record v { stage = Idle; parts = []; heard = []; tests = []; posts = [] }

  -- the seat takes the longer of the two stories, and remembers both
  abbrev pub informed : View T E → View T E → View T E
  informed v w = record v { story = longer v.story w.story; heard = v.story ∷ w.story ∷ [] }

  -- the seat takes in another's owners, and remembers its story
  abbrev pub gathered : View T E → View T E → View T E
  gathered v w = record v { story = longer v.story w.story; parts = v.parts ++ w.parts; heard = v.story ∷ w.story ∷ v.heard }

  -- a ticket was drawn
  abbrev pub drew : Step T → Seated T E → ℕ → Seated T E → Type 0
  drew st m found m' = (t : ℕ) × (found ≡ t % 18446744073709551616) × (m'.0 ≡ staged (Waiting t) m.0) × (m'.1 ≡ m.1)

  -- a ticket was drawn where the word was as it was wanted; else nothing changes
  abbrev pub drew_if : Step T → Seated T E → ℕ → Seated T E → Type 0
  drew_if st m found m' = (found ≡ st.first → drew st m found m') × (found ≢ st.first → m' ≡ m)

  -- the slot was given back, and the next ticket is served
  abbrev pub left : Step T → Seated T E → ℕ → Seated T E → Type 0
  left st m found m' = (m'.0 ≡ staged Idle m.0) × (m'.1 ≡ rest m.1)

  -- a number was put on the board, whose first word is word 3
  abbrev pub posted : Step T → Seated T E → ℕ → Seated T E → Type 0
  posted st m found m' = (m'.0 ≡ record m.0 { posts = m.0.posts ++ (st.word - 3, st.first) ∷ [] }) × (m'.1 ≡ m.1)

module _ {T E : Type 0} (m : Meaning T E) where
  -- the view sees a longer story, in which its owners have just their own entries
  abbrev pub Sees : View T E → List E → Type 0
  Sees v l = Begins v.story l × HasOwn m.owner v.parts l

  -- the story becomes the list of the value that the seat has
  abbrev pub noted : Step T → Seated T E → ℕ → Seated T E → Type 0
  noted st me found me' = (x : T) → me.1 ≡ (0, x) ∷ [] → (me'.0 ≡ record me.0 { story = m.story x; parts = owned_in m.owner (m.story x) me.0.parts }) × (me'.1 ≡ me.1) × HasOwn m.owner me.0.parts me.0.story

  -- where the ticket served is the seat's own, it has the slot, and sees the story of the value there; else nothing changes
  abbrev pub looked : Step T → Seated T E → ℕ → Seated T E → Type 0
  looked st me found me' =
      (found ≡ ticket_of me.0.stage % 18446744073709551616
      → (x : T) × (l : List E) × (me'.0 ≡ record me.0 { stage = Holding (ticket_of me.0.stage); story = l }) × (me'.1 ≡ (0, x) ∷ me.1) × (m.story x ≡ l) × Sees me.0 l × ((b : Snapshot T) → me.0.base ≡ Some b → m.stands b.value x))
      × (found ≢ ticket_of me.0.stage % 18446744073709551616 → me' ≡ me)

  -- what was heard last begins the story, and the owners have just their own entries in it
  abbrev pub learned : Step T → Seated T E → ℕ → Seated T E → Type 0
  learned st me found me' = (me' ≡ me) × ((a b : List E) (hs : List (List E)) → me.0.heard ≡ a ∷ b ∷ hs → me.0.story ≡ longer a b → Begins a me.0.story × Begins b me.0.story × HasOwn m.owner me.0.parts me.0.story)

  -- the view sees the longest story, for which the board may hold the number
  abbrev pub tested : Step T → Seated T E → ℕ → Seated T E → Type 0
  tested st me found me' = (l : List E) × (me'.0 ≡ record me.0 { story = l; tests = me.0.tests ++ (st.word - 3, found) ∷ [] }) × (me'.1 ≡ me.1) × Sees me.0 l × ((b : Snapshot T) → me.0.base ≡ Some b → m.may_hold b.value l (st.word - 3) found)
