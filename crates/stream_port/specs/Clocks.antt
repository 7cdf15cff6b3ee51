-- How the list of a clock's answers grows.
use Rattle.std.specs.Prelude.{◌≡◌, ℕ, ◌+◌, ◌^◌, ◌<◌, List, ◌++◌, length, Option, Some, None}
use Rattle.std.proofs.Common.{arith, ap, ◌∙◌}
use Rattle.std.proofs.lemmas.List.{length-append, append_assoc}

-- The list is followed by these answers, where it is reported and stays shorter than 2^64. Whether it is reported stays so.
abbrev pub Adds : Option (List ℕ) → Option (List ℕ) → List ℕ → Type 0
Adds None None answers = Unit {0}
Adds None (Some new) answers = ⊥
Adds (Some old) None answers = ⊥
Adds (Some old) (Some new) answers = length old + length answers < 2 ^ 64 → new ≡ old ++ answers

-- a clock that stands at one moment
pub record FixedParts : Type 0 where
  pub moment : ℕ
  -- how many calls there were
  pub calls : ℕ

-- answers after answers
pub adds_joins : (first between last : Option (List ℕ)) (xs ys : List ℕ) → Adds first between xs → Adds between last ys → Adds first last (xs ++ ys)
adds_joins None None None xs ys one two = two
adds_joins None None (Some c) xs ys one two = elim two [ ]
adds_joins None (Some b) last xs ys one two = elim one [ ]
adds_joins (Some a) None last xs ys one two = elim one [ ]
adds_joins (Some a) (Some b) None xs ys one two = elim two [ ]
adds_joins (Some a) (Some b) (Some c) xs ys one two = λ short.
    let l : length (xs ++ ys) ≡ length xs + length ys = length-append xs ys in
    let m : b ≡ a ++ xs = one (omega (arith, short, l)) in
    let n : length b ≡ length a + length xs = ap length m ∙ length-append a xs in
    two (omega (arith, short, l, n)) ∙ ap (λ z. z ++ ys) m ∙ append_assoc a xs ys
