-- Statements from rows, with a stack of the blocks that are open.
use Rattle.std.specs.Prelude.{◌≡◌, ℕ, ◌≤◌, Bool, true, false, List, [], ◌∷◌, ◌++◌, length, Option, Some, None, Result, Ok, Err}
use Rattle.value_form.specs.declared.scripts.Stmt.{Stmt}
use Rattle.value_form.specs.declared.scripts.Stmt.TheVariants as s
use Rattle.value_form.specs.Mirror.{block, term}
use Rattle.script_form.specs.declared.flats.Flat.{Flat}
use Rattle.script_form.specs.declared.flats.Flat.TheVariants as f
use Rattle.script_form.specs.declared.levels.Opening.{Opening}
use Rattle.script_form.specs.declared.levels.Opening.TheVariants as o
use Rattle.script_form.specs.declared.levels.Level.{Level}
use Rattle.script_form.specs.declared.buildings.Building.{Building}
use Rattle.script_form.specs.declared.block_faults.BlockFault.{BlockFault}
use Rattle.script_form.specs.declared.block_faults.BlockFault.TheVariants.{Block, Depth, NoMemory}
use Rattle.script_form.specs.Row as r
use Rattle.script_form.specs.Rows.{Numbered, on, rows}

abbrev pub at : List Level → List Stmt → Building
at stack here = record { stack = stack; here = here }

-- ---- the rows that it stands for

-- the rows with which a block opened, as far as its last part
abbrev pub opening_rows : Opening → List Numbered
opening_rows (o.Repeat l x) = on l (r.Repeat (term x)) ∷ []
opening_rows (o.If l x) = on l (r.If (term x)) ∷ []
opening_rows (o.Else l x part m) = on l (r.If (term x)) ∷ (rows (block part) ++ on m r.Else ∷ [])

abbrev pub stack_rows : List Level → List Numbered
stack_rows [] = []
stack_rows (v ∷ st) = stack_rows st ++ (rows (block v.before) ++ opening_rows v.opening)

abbrev pub rows_so_far : Building → List Numbered
rows_so_far b = stack_rows b.stack ++ rows (block b.here)

-- ---- one more row

abbrev pub added : Building → Stmt → Option Building
added b x = Some (at b.stack (b.here ++ x ∷ []))

abbrev pub opened : Building → Opening → Option Building
opened b x = Some (at ((record { before = b.here; opening = x }) ∷ b.stack) [])

abbrev pub other_in : List Level → List Stmt → List Stmt → Opening → ℕ → Option Building
other_in st before here (o.If l x) n = Some (at ((record { before = before; opening = o.Else l x here n }) ∷ st) [])
other_in st before here _ n = None

-- at `else`
abbrev pub other_at : List Level → List Stmt → ℕ → Option Building
other_at [] here n = None
other_at (v ∷ st) here n = other_in st v.before here v.opening n

abbrev pub whole : Opening → List Stmt → ℕ → Stmt
whole (o.Repeat l x) here n = s.Repeat l x here n
whole (o.If l x) here n = s.If l x here n
whole (o.Else l x part m) here n = s.IfElse l x part m here n

-- at `end`
abbrev pub shut_at : List Level → List Stmt → ℕ → Option Building
shut_at [] here n = None
shut_at (v ∷ st) here n = Some (at st (v.before ++ whole v.opening here n ∷ []))

abbrev pub feed : Building → ℕ → Flat → Option Building
feed b n (f.Let name x) = added b (s.Let n name x)
feed b n (f.Read name place) = added b (s.Read n name place)
feed b n (f.Write place x) = added b (s.Write n place x)
feed b n (f.Print x) = added b (s.Print n x)
feed b n (f.If x) = opened b (o.If n x)
feed b n f.Else = other_at b.stack b.here n
feed b n f.End = shut_at b.stack b.here n
feed b n (f.Repeat x) = opened b (o.Repeat n x)
feed b n f.Withdraw = added b (s.Withdraw n)

-- whether a row opens a block
abbrev pub opens : Flat → Bool
opens (f.If x) = true
opens (f.Repeat x) = true
opens _ = false

-- what opening a block in code gives
abbrev pub Opens : Building → Opening → Result Building BlockFault → Type 0
Opens old opening (Ok new) = (opened old opening ≡ Some new) × (length new.stack ≤ 16)
Opens old opening (Err Block) = ⊥
Opens old opening (Err Depth) = 16 ≤ length old.stack
Opens old opening (Err NoMemory) = Unit {0}

-- what feeding a row in code gives
abbrev pub Feeds : Building → ℕ → Flat → Result Building BlockFault → Type 0
Feeds old n flat (Ok new) = (feed old n flat ≡ Some new) × (opens flat ≡ true → length new.stack ≤ 16)
Feeds old n flat (Err Block) = feed old n flat ≡ None
Feeds old n flat (Err Depth) = (opens flat ≡ true) × (16 ≤ length old.stack)
Feeds old n flat (Err NoMemory) = Unit {0}
