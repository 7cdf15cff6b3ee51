-- Worked examples of what is in range, and of what isn't.
use Rattle.serial_model.proofs.Names.{◌≡◌, ℕ, ◌^◌, List, [], ◌∷◌, length, refl, arith, codes, pos, ObjectId, Number, Text, Name, Between, Fixed, At, Read, Write, Withdraw, Block, End, Then, IsObject, ToRead, ToWrite, Asks, Got, talk, Tree, Ends, Reads, Writes, TermInRange, SpotInRange, BlockInRange, StopInRange, AsksInRange, AnswerHasBytes}
use Rattle.value_form.specs.declared.endings.Ending.TheVariants as ending
use Rattle.value_form.specs.declared.expressions.Infix.TheVariants as op
use Rattle.value_form.specs.declared.values.Value.TheVariants as v

-- ---- `read x 3.7`, and then `write 16[x] x + 1`

abbrev counter : ObjectId
counter = record { repository = 3; number = 7 }

abbrev counting : Block
counting = Then (Read 1 (codes "x") (Fixed counter)) (Then (Write 2 (At 16 (Name (codes "x"))) (Between op.Add (Name (codes "x")) (Number 1))) End)

counter-IsObject : IsObject counter
counter-IsObject = record { repository_low = omega arith; repository_high = omega arith; number = omega arith }

counting-InRange : BlockInRange counting
counting-InRange = (((omega arith, omega arith), counter-IsObject), (((omega arith, omega arith), (omega arith, omega arith, tt), (tt, omega arith)), tt))

-- where it read 4, it asks to write 5 to object 4 of repository 16
counting-asks : (talk counting (Got (v.Number (pos 4)) ∷ [])).stop ≡ Asks (ToWrite (record { repository = 16; number = 4 }) (v.Number (pos 5)))
counting-asks = refl

-- ---- what is out of range

repository-17 : SpotInRange (At 17 (Number 0)) → ⊥
repository-17 h = let high = h.1 in omega arith

repository-0 : BlockInRange (Then (Read 1 (codes "x") (At 0 (Number 5))) End) → ⊥
repository-0 h = let low = h.0.1.0 in omega arith

line-201 : BlockInRange (Then (Withdraw 201) End) → ⊥
line-201 h = let high = h.0.1 in omega arith

-- a script that ends on line 201 has nothing that can be stored
ends-201 : AsksInRange (Ends (ending.Withdrawn 201)) → ⊥
ends-201 h = let high = h.1 in omega arith

number-two_to_the_63 : TermInRange (Between op.Add (Number 1) (Number (2 ^ 63))) → ⊥
number-two_to_the_63 h = let below = h.1 in omega arith

text-65537 : (bytes : List ℕ) → length bytes ≡ 65537 → TermInRange (Text bytes) → ⊥
text-65537 bytes long h = let few = h.0 in omega arith

-- ---- requests

-- what was read is written back
abbrev writes_back : Tree
writes_back = Reads counter (λ a. Writes counter a (Ends ending.Finished))

writes_back-HasBytes : AsksInRange writes_back
writes_back-HasBytes = (counter-IsObject, λ a a_is. ((counter-IsObject, a_is), tt))

-- a value that has no bytes is written
writes_long : (bytes : List ℕ) → length bytes ≡ 65537 → AsksInRange (Writes counter (v.Text bytes) (Ends ending.Finished)) → ⊥
writes_long bytes long h = let few = h.0.1.0 in omega arith

asks-17 : StopInRange (Asks (ToRead (record { repository = 17; number = 0 }))) → ⊥
asks-17 h = let high = h.repository_high in omega arith

answer-65537 : (bytes : List ℕ) → length bytes ≡ 65537 → AnswerHasBytes (Got (v.Text bytes)) → ⊥
answer-65537 bytes long h = let few = h.0 in omega arith
