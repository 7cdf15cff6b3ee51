-- An outcome that is read is the one that was written.
use Rattle.effect_form.proofs.Names.{◌≡◌, ℕ, ◌≤◌, ◌<◌, ◌^◌, cond, List, [], ◌∷◌, ◌++◌, Some, None, refl, ap, subst, ◌∙◌, arith, inl, inr, ◌==◌, w16, w64, to_be_bytes, nat_tests, IsTime, time_bytes, IsBytes, Begins, IsForm, byte_at, number_at, time_at, bind_some, some_is, Begins-then, byte_form, u16_form, u64_form, between_form, time_form, chosen, IsObject, object_bytes, object_bytes_at, object_form, Outcome, Committed, Withdrawn, Failed, LaterRead, LaterVersion, Expired, Spent, fail_number, fail_from, fail_at, line_at, clock_at, outcome_bytes, IsOutcome, outcome_of_tag, outcome_at, part_one, part_two}
use Rattle.field_form.specs.Forms as form
use Rattle.value_form.specs.declared.fail_kinds.FailKind.{FailKind}
use Rattle.value_form.specs.declared.fail_kinds.FailKind.TheVariants as kind
use Rattle.effect_form.proofs.SequenceLaws.{part_one-takes, part_one-again, part_two-takes, part_two-again}

abbrev IsLine : ℕ → Type 0
IsLine n = (n < 2 ^ 16) × (1 ≤ n) × (n ≤ 200)

abbrev IsClock : ℕ → Type 0
IsClock n = (n < 2 ^ 64) × (1 ≤ n) × (n ≤ 1099511627775)

abbrev IsLong : ℕ → Type 0
IsLong n = n < 2 ^ 64

abbrev AnyKind : FailKind → Type 0
AnyKind k = Unit {0}

abbrev fail_bytes : FailKind → List ℕ
fail_bytes k = fail_number k ∷ []

line_form : IsForm (to_be_bytes w16) IsLine line_at
line_form = between_form 1 200 u16_form

pub clock_form : IsForm (to_be_bytes w64) IsClock clock_at
clock_form = between_form 1 1099511627775 u64_form

fail_from-takes : (n : ℕ) (k : FailKind) → fail_from n ≡ Some k → n ≡ fail_number k
fail_from-takes n k e =
    elim (chosen (n == 1) (Some kind.Overflow) (cond (n == 2) (Some kind.Division) (cond (n == 3) (Some kind.Kind) (cond (n == 4) (Some kind.Long) (cond (n == 5) (Some kind.Object) (cond (n == 6) (Some kind.Count) (cond (n == 7) (Some kind.Budget) None)))))) (Some k) e) [
      | inl h ↦ let t = h.0 in let is : n ≡ 1 = grind (arith, nat_tests) in is ∙ ap fail_number (some_is kind.Overflow k h.1)
      | inr h0 ↦ elim (chosen (n == 2) (Some kind.Division) (cond (n == 3) (Some kind.Kind) (cond (n == 4) (Some kind.Long) (cond (n == 5) (Some kind.Object) (cond (n == 6) (Some kind.Count) (cond (n == 7) (Some kind.Budget) None))))) (Some k) h0.1) [
        | inl h ↦ let t = h.0 in let is : n ≡ 2 = grind (arith, nat_tests) in is ∙ ap fail_number (some_is kind.Division k h.1)
        | inr h1 ↦ elim (chosen (n == 3) (Some kind.Kind) (cond (n == 4) (Some kind.Long) (cond (n == 5) (Some kind.Object) (cond (n == 6) (Some kind.Count) (cond (n == 7) (Some kind.Budget) None)))) (Some k) h1.1) [
          | inl h ↦ let t = h.0 in let is : n ≡ 3 = grind (arith, nat_tests) in is ∙ ap fail_number (some_is kind.Kind k h.1)
          | inr h2 ↦ elim (chosen (n == 4) (Some kind.Long) (cond (n == 5) (Some kind.Object) (cond (n == 6) (Some kind.Count) (cond (n == 7) (Some kind.Budget) None))) (Some k) h2.1) [
            | inl h ↦ let t = h.0 in let is : n ≡ 4 = grind (arith, nat_tests) in is ∙ ap fail_number (some_is kind.Long k h.1)
            | inr h3 ↦ elim (chosen (n == 5) (Some kind.Object) (cond (n == 6) (Some kind.Count) (cond (n == 7) (Some kind.Budget) None)) (Some k) h3.1) [
              | inl h ↦ let t = h.0 in let is : n ≡ 5 = grind (arith, nat_tests) in is ∙ ap fail_number (some_is kind.Object k h.1)
              | inr h4 ↦ elim (chosen (n == 6) (Some kind.Count) (cond (n == 7) (Some kind.Budget) None) (Some k) h4.1) [
                | inl h ↦ let t = h.0 in let is : n ≡ 6 = grind (arith, nat_tests) in is ∙ ap fail_number (some_is kind.Count k h.1)
                | inr h5 ↦ elim (chosen (n == 7) (Some kind.Budget) None (Some k) h5.1) [
                  | inl h ↦ let t = h.0 in let is : n ≡ 7 = grind (arith, nat_tests) in is ∙ ap fail_number (some_is kind.Budget k h.1)
                  | inr h6 ↦ absurd (let t = h6.1 in cc)
                ]
              ]
            ]
          ]
        ]
      ]
    ]

fail_from-again : (k : FailKind) → fail_from (fail_number k) ≡ Some k
fail_from-again kind.Overflow = refl
fail_from-again kind.Division = refl
fail_from-again kind.Kind = refl
fail_from-again kind.Long = refl
fail_from-again kind.Object = refl
fail_from-again kind.Count = refl
fail_from-again kind.Budget = refl

fail_takes : (bytes : List ℕ) (k : FailKind) (rest : List ℕ) → IsBytes bytes → fail_at bytes ≡ Some (k, rest) → Begins bytes (fail_bytes k) rest × AnyKind k
fail_takes bytes k rest fits e =
    let a = bind_some (byte_at bytes) (λ b. form.◌>>=◌ (fail_from b.0) (λ k. Some (k, b.1))) (k, rest) e in
    let b = bind_some (fail_from a.0.0) (λ k. Some (k, a.0.1)) (k, rest) a.2 in
    let made : FailKind × List ℕ = (b.0, a.0.1) in
    let t = byte_form.takes bytes a.0.0 a.0.1 fits a.1 in
    let front : Begins bytes (fail_bytes b.0) a.0.1 = subst (λ (n : ℕ). Begins bytes (n ∷ []) a.0.1) (fail_from-takes a.0.0 b.0 b.1) t.0 in
    subst (λ (y : FailKind × List ℕ). Begins bytes (fail_bytes y.0) y.1 × AnyKind y.0) (some_is made (k, rest) b.2) (front, tt)

fail_again : (k : FailKind) (rest : List ℕ) → AnyKind k → fail_at (fail_bytes k ++ rest) ≡ Some (k, rest)
fail_again k rest h = rw (fail_from-again k) refl

fail_form : IsForm fail_bytes AnyKind fail_at
fail_form = record { takes = fail_takes; again = fail_again }

outcome_of_tag-takes : (bytes after : List ℕ) (tag : ℕ) (o : Outcome) (rest : List ℕ) → Begins bytes (tag ∷ []) after → outcome_of_tag tag after ≡ Some (o, rest) → Begins bytes (outcome_bytes o) rest × IsOutcome o
unfolding outcome_of_tag
outcome_of_tag-takes bytes after tag o rest front e =
    elim (chosen (tag == 1) (Some (Committed, after)) (cond (tag == 2) (part_one Withdrawn line_at after) (cond (tag == 3) (part_two Failed line_at fail_at after) (cond (tag == 4) (part_two LaterRead object_bytes_at time_at after) (cond (tag == 5) (part_two LaterVersion object_bytes_at time_at after) (cond (tag == 6) (part_two Expired (number_at w64) (number_at w64) after) (cond (tag == 7) (part_one Spent clock_at after) None)))))) (Some (o, rest)) e) [
      | inl h ↦ let t = h.0 in let is : tag ≡ 1 = grind (arith, nat_tests) in let tagged : Begins bytes (1 ∷ []) after = subst (λ (k : ℕ). Begins bytes (k ∷ []) after) is front in subst (λ (y : Outcome × List ℕ). Begins bytes (outcome_bytes y.0) y.1 × IsOutcome y.0) (some_is (Committed, after) (o, rest) h.1) (tagged, tt)
      | inr h0 ↦ elim (chosen (tag == 2) (part_one Withdrawn line_at after) (cond (tag == 3) (part_two Failed line_at fail_at after) (cond (tag == 4) (part_two LaterRead object_bytes_at time_at after) (cond (tag == 5) (part_two LaterVersion object_bytes_at time_at after) (cond (tag == 6) (part_two Expired (number_at w64) (number_at w64) after) (cond (tag == 7) (part_one Spent clock_at after) None))))) (Some (o, rest)) h0.1) [
        | inl h ↦ let t = h.0 in let is : tag ≡ 2 = grind (arith, nat_tests) in let tagged : Begins bytes (2 ∷ []) after = subst (λ (k : ℕ). Begins bytes (k ∷ []) after) is front in
            let x = part_one-takes (to_be_bytes w16) IsLine line_at line_form Withdrawn after o rest front.rest_is_bytes h.1 in
            subst (λ (y : Outcome). Begins bytes (outcome_bytes y) rest × IsOutcome y) x.1 (Begins-then bytes (2 ∷ []) after (to_be_bytes w16 x.0) rest tagged x.2, x.3)
        | inr h1 ↦ elim (chosen (tag == 3) (part_two Failed line_at fail_at after) (cond (tag == 4) (part_two LaterRead object_bytes_at time_at after) (cond (tag == 5) (part_two LaterVersion object_bytes_at time_at after) (cond (tag == 6) (part_two Expired (number_at w64) (number_at w64) after) (cond (tag == 7) (part_one Spent clock_at after) None)))) (Some (o, rest)) h1.1) [
          | inl h ↦ let t = h.0 in let is : tag ≡ 3 = grind (arith, nat_tests) in let tagged : Begins bytes (3 ∷ []) after = subst (λ (k : ℕ). Begins bytes (k ∷ []) after) is front in
              let x = part_two-takes (to_be_bytes w16) IsLine line_at line_form fail_bytes AnyKind fail_at fail_form Failed after o rest front.rest_is_bytes h.1 in
              subst (λ (y : Outcome). Begins bytes (outcome_bytes y) rest × IsOutcome y) x.2 (Begins-then bytes (3 ∷ []) after (to_be_bytes w16 x.0 ++ fail_bytes x.1) rest tagged x.3, (x.4, x.5))
          | inr h2 ↦ elim (chosen (tag == 4) (part_two LaterRead object_bytes_at time_at after) (cond (tag == 5) (part_two LaterVersion object_bytes_at time_at after) (cond (tag == 6) (part_two Expired (number_at w64) (number_at w64) after) (cond (tag == 7) (part_one Spent clock_at after) None))) (Some (o, rest)) h2.1) [
            | inl h ↦ let t = h.0 in let is : tag ≡ 4 = grind (arith, nat_tests) in let tagged : Begins bytes (4 ∷ []) after = subst (λ (k : ℕ). Begins bytes (k ∷ []) after) is front in
                let x = part_two-takes object_bytes IsObject object_bytes_at object_form time_bytes IsTime time_at time_form LaterRead after o rest front.rest_is_bytes h.1 in
                subst (λ (y : Outcome). Begins bytes (outcome_bytes y) rest × IsOutcome y) x.2 (Begins-then bytes (4 ∷ []) after (object_bytes x.0 ++ time_bytes x.1) rest tagged x.3, (x.4, x.5))
            | inr h3 ↦ elim (chosen (tag == 5) (part_two LaterVersion object_bytes_at time_at after) (cond (tag == 6) (part_two Expired (number_at w64) (number_at w64) after) (cond (tag == 7) (part_one Spent clock_at after) None)) (Some (o, rest)) h3.1) [
              | inl h ↦ let t = h.0 in let is : tag ≡ 5 = grind (arith, nat_tests) in let tagged : Begins bytes (5 ∷ []) after = subst (λ (k : ℕ). Begins bytes (k ∷ []) after) is front in
                  let x = part_two-takes object_bytes IsObject object_bytes_at object_form time_bytes IsTime time_at time_form LaterVersion after o rest front.rest_is_bytes h.1 in
                  subst (λ (y : Outcome). Begins bytes (outcome_bytes y) rest × IsOutcome y) x.2 (Begins-then bytes (5 ∷ []) after (object_bytes x.0 ++ time_bytes x.1) rest tagged x.3, (x.4, x.5))
              | inr h4 ↦ elim (chosen (tag == 6) (part_two Expired (number_at w64) (number_at w64) after) (cond (tag == 7) (part_one Spent clock_at after) None) (Some (o, rest)) h4.1) [
                | inl h ↦ let t = h.0 in let is : tag ≡ 6 = grind (arith, nat_tests) in let tagged : Begins bytes (6 ∷ []) after = subst (λ (k : ℕ). Begins bytes (k ∷ []) after) is front in
                    let x = part_two-takes (to_be_bytes w64) IsLong (number_at w64) u64_form (to_be_bytes w64) IsLong (number_at w64) u64_form Expired after o rest front.rest_is_bytes h.1 in
                    subst (λ (y : Outcome). Begins bytes (outcome_bytes y) rest × IsOutcome y) x.2 (Begins-then bytes (6 ∷ []) after (to_be_bytes w64 x.0 ++ to_be_bytes w64 x.1) rest tagged x.3, (x.4, x.5))
                | inr h5 ↦ elim (chosen (tag == 7) (part_one Spent clock_at after) None (Some (o, rest)) h5.1) [
                  | inl h ↦ let t = h.0 in let is : tag ≡ 7 = grind (arith, nat_tests) in let tagged : Begins bytes (7 ∷ []) after = subst (λ (k : ℕ). Begins bytes (k ∷ []) after) is front in
                      let x = part_one-takes (to_be_bytes w64) IsClock clock_at clock_form Spent after o rest front.rest_is_bytes h.1 in
                      subst (λ (y : Outcome). Begins bytes (outcome_bytes y) rest × IsOutcome y) x.1 (Begins-then bytes (7 ∷ []) after (to_be_bytes w64 x.0) rest tagged x.2, x.3)
                  | inr h6 ↦ absurd (let t = h6.1 in cc)
                ]
              ]
            ]
          ]
        ]
      ]
    ]

outcome_takes : (bytes : List ℕ) (o : Outcome) (rest : List ℕ) → IsBytes bytes → outcome_at bytes ≡ Some (o, rest) → Begins bytes (outcome_bytes o) rest × IsOutcome o
unfolding outcome_at
outcome_takes bytes o rest fits e =
    let a = bind_some (byte_at bytes) (λ tag. outcome_of_tag tag.0 tag.1) (o, rest) e in
    outcome_of_tag-takes bytes a.0.1 a.0.0 o rest (byte_form.takes bytes a.0.0 a.0.1 fits a.1).0 a.2

outcome_again : (o : Outcome) (rest : List ℕ) → IsOutcome o → outcome_at (outcome_bytes o ++ rest) ≡ Some (o, rest)
unfolding outcome_at outcome_of_tag
outcome_again Committed rest h = refl
outcome_again (Withdrawn line) rest h = part_one-again (to_be_bytes w16) IsLine line_at line_form Withdrawn line rest h
outcome_again (Failed line k) rest h = part_two-again (to_be_bytes w16) IsLine line_at line_form fail_bytes AnyKind fail_at fail_form Failed line k rest h.0 h.1
outcome_again (LaterRead object end) rest h = part_two-again object_bytes IsObject object_bytes_at object_form time_bytes IsTime time_at time_form LaterRead object end rest h.0 h.1
outcome_again (LaterVersion object start) rest h = part_two-again object_bytes IsObject object_bytes_at object_form time_bytes IsTime time_at time_form LaterVersion object start rest h.0 h.1
outcome_again (Expired deadline moment) rest h = part_two-again (to_be_bytes w64) IsLong (number_at w64) u64_form (to_be_bytes w64) IsLong (number_at w64) u64_form Expired deadline moment rest h.0 h.1
outcome_again (Spent clock) rest h = part_one-again (to_be_bytes w64) IsClock clock_at clock_form Spent clock rest h

pub outcome_form : IsForm outcome_bytes IsOutcome outcome_at
outcome_form = record { takes = outcome_takes; again = outcome_again }
