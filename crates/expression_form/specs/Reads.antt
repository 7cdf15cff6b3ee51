-- What a call that reads tokens gives.
use Rattle.std.specs.Prelude.{ℕ, ◌<◌, ◌≤◌, List, Result, Ok, Err}
use Rattle.token_form.specs.declared.tokens.Token.{Token}
use Rattle.expression_form.specs.declared.read_faults.ReadFault.{ReadFault}
use Rattle.expression_form.specs.declared.read_faults.ReadFault.TheVariants.{Syntax, Depth, NoMemory}

-- What was read, seen by view, is spelled so by the tokens, and no deeper than 16. Syntax comes only where they spell nothing of the kind, and
-- Depth only where they spell what is deeper.
abbrev pub Reads : {A B : Type 0} → (A → B) → (B → List Token → Type 0) → (B → ℕ) → List Token → Result A ReadFault → Type 0
Reads view spells depth ts (Ok x) = spells (view x) ts × (depth (view x) ≤ 16)
Reads {A} {B} view spells depth ts (Err Syntax) = (y : B) → spells y ts → ⊥
Reads {A} {B} view spells depth ts (Err Depth) = (y : B) × spells y ts × (16 < depth y)
Reads view spells depth ts (Err NoMemory) = Unit {0}
