-- A decision that is read is the one that was written.
use Rattle.field_form.proofs.Names.{◌≡◌, ℕ, ◌^◌, ◌<◌, Bool, true, false, cond, List, [], ◌∷◌, ◌++◌, Some, None, refl, sym, ap, subst, ◌∙◌, append_assoc, arith, inl, inr, ◌==◌, ◌⊎◌, w64, to_be_bytes, nat_tests, IsBytes, Begins, IsForm, ◌>>=◌, byte_at, number_at}
use Rattle.pseudo_time.specs.declared.decisions.Decision.{Decision}
use Rattle.pseudo_time.specs.declared.decisions.Decision.TheVariants.{Committed, Withdrawn, Expired}
use Rattle.field_form.specs.Decisions.{decision_text, IsDecision, decision_at, expiry_at}
use Rattle.field_form.proofs.FormLaws.{bind_some, some_is, Begins-then}
use Rattle.field_form.proofs.NumberLaws.{byte_form, u64_form}

-- the way a test went
pub chosen : {A : Type 0} (b : Bool) (x y z : A) → cond b x y ≡ z → ((b ≡ true) × (x ≡ z)) ⊎ ((b ≡ false) × (y ≡ z))
chosen true x y z e = inl (refl, e)
chosen false x y z e = inr (refl, e)

expiry_takes : (bytes : List ℕ) (d : Decision) (rest : List ℕ) → IsBytes bytes → expiry_at bytes ≡ Some (d, rest) → (n m : ℕ) × (d ≡ Expired n m) × Begins bytes (to_be_bytes w64 n ++ to_be_bytes w64 m) rest × (n < 2 ^ 64) × (m < 2 ^ 64)
expiry_takes bytes d rest fits e =
    let a = bind_some (number_at w64 bytes) (λ deadline. number_at w64 deadline.1 >>= λ moment. Some (Expired deadline.0 moment.0, moment.1)) (d, rest) e in
    let b = bind_some (number_at w64 a.0.1) (λ moment. Some (Expired a.0.0 moment.0, moment.1)) (d, rest) a.2 in
    let made : Decision × List ℕ = (Expired a.0.0 b.0.0, b.0.1) in
    let p : ◌≡◌ {A = Decision × List ℕ} made (d, rest) = some_is made (d, rest) b.2 in
    let deadline = u64_form.takes bytes a.0.0 a.0.1 fits a.1 in
    let moment = u64_form.takes a.0.1 b.0.0 b.0.1 deadline.0.rest_is_bytes b.1 in
    let whole = Begins-then bytes (to_be_bytes w64 a.0.0) a.0.1 (to_be_bytes w64 b.0.0) b.0.1 deadline.0 moment.0 in
    (a.0.0, b.0.0, sym (ap (λ (y : Decision × List ℕ). y.0) p), subst (λ (r : List ℕ). Begins bytes (to_be_bytes w64 a.0.0 ++ to_be_bytes w64 b.0.0) r) (ap (λ (y : Decision × List ℕ). y.1) p) whole, deadline.1, moment.1)

expiry_again : (n m : ℕ) (rest : List ℕ) → n < 2 ^ 64 → m < 2 ^ 64 → expiry_at ((to_be_bytes w64 n ++ to_be_bytes w64 m) ++ rest) ≡ Some (Expired n m, rest)
expiry_again n m rest hn hm =
    ap expiry_at (append_assoc (to_be_bytes w64 n) (to_be_bytes w64 m) rest) ∙ rw (u64_form.again n (to_be_bytes w64 m ++ rest) hn, u64_form.again m rest hm) refl

-- the decision and what follows it, of a tag that was read and of what the tests gave
decided : (bytes after : List ℕ) (tag : ℕ) (d : Decision) (rest : List ℕ) → Begins bytes (tag ∷ []) after
    → cond (tag == 1) (Some (Committed, after)) (cond (tag == 2) (Some (Withdrawn, after)) (cond (tag == 3) (expiry_at after) None)) ≡ Some (d, rest) → Begins bytes (decision_text d) rest × IsDecision d
decided bytes after tag d rest front e = elim (chosen (tag == 1) (Some (Committed, after)) _ (Some (d, rest)) e) [
  | inl h ↦
      let is : tag ≡ 1 = let t = h.0 in grind (arith, nat_tests) in
      subst (λ (y : Decision × List ℕ). Begins bytes (decision_text y.0) y.1 × IsDecision y.0) (some_is (Committed, after) (d, rest) h.1) (subst (λ (k : ℕ). Begins bytes (k ∷ []) after) is front, tt)
  | inr other ↦ elim (chosen (tag == 2) (Some (Withdrawn, after)) _ (Some (d, rest)) other.1) [
    | inl h ↦
        let is : tag ≡ 2 = let t = h.0 in grind (arith, nat_tests) in
        subst (λ (y : Decision × List ℕ). Begins bytes (decision_text y.0) y.1 × IsDecision y.0) (some_is (Withdrawn, after) (d, rest) h.1) (subst (λ (k : ℕ). Begins bytes (k ∷ []) after) is front, tt)
    | inr last ↦ elim (chosen (tag == 3) (expiry_at after) None (Some (d, rest)) last.1) [
      | inl h ↦
          let is : tag ≡ 3 = let t = h.0 in grind (arith, nat_tests) in
          let x = expiry_takes after d rest front.rest_is_bytes h.1 in
          subst (λ (y : Decision). Begins bytes (decision_text y) rest × IsDecision y) (sym x.2)
          (Begins-then bytes (3 ∷ []) after (to_be_bytes w64 x.0 ++ to_be_bytes w64 x.1) rest (subst (λ (k : ℕ). Begins bytes (k ∷ []) after) is front) x.3, (x.4, x.5))
      | inr h ↦ absurd (let t = h.1 in cc)
    ]
  ]
]

decision_takes : (bytes : List ℕ) (d : Decision) (rest : List ℕ) → IsBytes bytes → decision_at bytes ≡ Some (d, rest) → Begins bytes (decision_text d) rest × IsDecision d
unfolding decision_at
decision_takes bytes d rest fits e =
    let a = bind_some (byte_at bytes) (λ tag. cond (tag.0 == 1) (Some (Committed, tag.1)) (cond (tag.0 == 2) (Some (Withdrawn, tag.1)) (cond (tag.0 == 3) (expiry_at tag.1) None))) (d, rest) e in
    decided bytes a.0.1 a.0.0 d rest (byte_form.takes bytes a.0.0 a.0.1 fits a.1).0 a.2

decision_again : (d : Decision) (rest : List ℕ) → IsDecision d → decision_at (decision_text d ++ rest) ≡ Some (d, rest)
unfolding decision_at
decision_again Committed rest h = refl
decision_again Withdrawn rest h = refl
decision_again (Expired n m) rest h = expiry_again n m rest h.0 h.1

pub decision_form : IsForm decision_text IsDecision decision_at
decision_form = record { takes = decision_takes; again = decision_again }
