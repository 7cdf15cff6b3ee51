-- A value that is read is the one that was written.
use Rattle.std.proofs.Common.{◌≡◌, ℕ, ◌+◌, ◌^◌, ◌<◌, ◌≤◌, cond, nat_le, List, [], ◌∷◌, ◌++◌, length, take, Option, Some, None, Result, Ok, Err, refl, sym, ap, subst, ◌∙◌, append_assoc, arith, inl, inr}
use Rattle.std.specs.Prelude.{ℤ, ◌==◌, FitsSigned, IfOk}
use Rattle.std.specs.Int.{w16, w32, w64, to_be_bytes, cast_unsigned}
use Rattle.std.proofs.lemmas.Bool.Decides.{nat_tests}
use Rattle.std.proofs.lemmas.Bool.{cases_Bool, cond-true, cond-false}
use Rattle.std.proofs.lemmas.List.{take_at, length-append}
use Rattle.field_form.specs.Forms.{IsBytes, Begins, IsForm}
use Rattle.field_form.specs.Forms as form
use Rattle.field_form.specs.Numbers.{byte_at, number_at, signed_at, front_at, between}
use Rattle.field_form.proofs.FormLaws.{bind_some, some_is, Begins-then}
use Rattle.field_form.proofs.NumberLaws.{byte_form, u16_form, u32_form, signed_form, between_form, front_takes, front_again}
use Rattle.field_form.proofs.DecisionLaws.{chosen}
use Rattle.value_form.specs.declared.values.Value.{Value}
use Rattle.value_form.specs.declared.values.Value.TheVariants.{Nothing, Number, Text}
use Rattle.value_form.specs.declared.value_faults.ValueFault.{ValueFault}
use Rattle.value_form.specs.declared.objects.ObjectId.{ObjectId}
use Rattle.value_form.specs.ObjectBytes.{IsObject, object_bytes, object_bytes_at}
use Rattle.value_form.specs.ValueBytes.{IsValue, text_bytes, value_bytes, ◌>>=◌, field, found, number_value_at, text_at, short_text_at, long_text_at, value_at}
use Rattle.value_form.specs.ValueReads.{GivesCount}

-- a field that was there
pub field_ok : {A B : Type 0} (at : ℕ) (o : Option A) (f : A → Result B ℕ) (y : B) → (field at o >>= f) ≡ Ok y → (x : A) × (o ≡ Some x) × (f x ≡ Ok y)
field_ok at (Some x) f y e = (x, refl, e)
field_ok at None f y e = absurd (cc)

pub ok_is : {A : Type 0} (x y : A) → ◌≡◌ {A = Result A ℕ} (Ok x) (Ok y) → x ≡ y
ok_is x y e = cc

number_takes : (bytes : List ℕ) (v : Value) (rest : List ℕ) → IsBytes bytes → number_value_at bytes ≡ Ok (v, rest) → (z : ℤ) × (v ≡ Number z) × Begins bytes (to_be_bytes w64 (cast_unsigned w64 z)) rest × FitsSigned w64 z
unfolding number_value_at
number_takes bytes v rest fits e =
    let a = field_ok 1 (signed_at bytes) (λ n. Ok (Number n.0, n.1)) (v, rest) e in
    let made : Value × List ℕ = (Number a.0.0, a.0.1) in
    let p : ◌≡◌ {A = Value × List ℕ} made (v, rest) = ok_is made (v, rest) a.2 in
    let t = signed_form.takes bytes a.0.0 a.0.1 fits a.1 in
    (a.0.0, sym (ap (λ (y : Value × List ℕ). y.0) p), subst (λ (r : List ℕ). Begins bytes (to_be_bytes w64 (cast_unsigned w64 a.0.0)) r) (ap (λ (y : Value × List ℕ). y.1) p) t.0, t.1)

-- the fields of a text: its length in some form, and its bytes from this place on
text_takes : (sized : ℕ → List ℕ) (InRange : ℕ → Type 0) (reads : List ℕ → Option (ℕ × List ℕ)) → IsForm sized InRange reads → (place : ℕ)
    → (bytes : List ℕ) (v : Value) (rest : List ℕ) → IsBytes bytes → (field 1 (reads bytes) >>= λ size. text_at place size.0 size.1) ≡ Ok (v, rest)
    → (b : List ℕ) × (v ≡ Text b) × Begins bytes (sized (length b) ++ b) rest × InRange (length b) × IsBytes b
unfolding text_at
text_takes sized InRange reads form place bytes v rest fits e =
    let a = field_ok 1 (reads bytes) (λ size. field place (front_at size.0 size.1) >>= λ text. Ok (Text text.0, text.1)) (v, rest) e in
    let b = field_ok place (front_at a.0.0 a.0.1) (λ text. Ok (Text text.0, text.1)) (v, rest) a.2 in
    let made : Value × List ℕ = (Text b.0.0, b.0.1) in
    let p : ◌≡◌ {A = Value × List ℕ} made (v, rest) = ok_is made (v, rest) b.2 in
    let size = form.takes bytes a.0.0 a.0.1 fits a.1 in
    let text = front_takes a.0.0 a.0.1 b.0.0 b.0.1 size.0.rest_is_bytes b.1 in
    let whole = Begins-then bytes (sized a.0.0) a.0.1 b.0.0 b.0.1 size.0 text.0 in
    let same : Begins bytes (sized (length b.0.0) ++ b.0.0) b.0.1 = subst (λ (k : ℕ). Begins bytes (sized k ++ b.0.0) b.0.1) (sym text.1) whole in
    (b.0.0, sym (ap (λ (y : Value × List ℕ). y.0) p), subst (λ (r : List ℕ). Begins bytes (sized (length b.0.0) ++ b.0.0) r) (ap (λ (y : Value × List ℕ). y.1) p) same, subst InRange (sym text.1) size.1, text.2)

text_again : (sized : ℕ → List ℕ) (InRange : ℕ → Type 0) (reads : List ℕ → Option (ℕ × List ℕ)) → IsForm sized InRange reads → (place : ℕ)
    → (b rest : List ℕ) → InRange (length b) → (field 1 (reads ((sized (length b) ++ b) ++ rest)) >>= λ size. text_at place size.0 size.1) ≡ Ok (Text b, rest)
unfolding text_at
text_again sized InRange reads form place b rest fits =
    ap (λ (bytes : List ℕ). field 1 (reads bytes) >>= λ size. text_at place size.0 size.1) (append_assoc (sized (length b)) b rest) ∙ rw (form.again (length b) (b ++ rest) fits, front_again b rest) refl

short_form : IsForm (to_be_bytes w16) (λ n. (n < 2 ^ 16) × (0 ≤ n) × (n ≤ 1000)) (λ bytes. between 0 1000 (number_at w16 bytes))
short_form = between_form 0 1000 u16_form

long_form : IsForm (to_be_bytes w32) (λ n. (n < 2 ^ 32) × (1001 ≤ n) × (n ≤ 65536)) (λ bytes. between 1001 65536 (number_at w32 bytes))
long_form = between_form 1001 65536 u32_form

short_takes : (bytes : List ℕ) (v : Value) (rest : List ℕ) → IsBytes bytes → short_text_at bytes ≡ Ok (v, rest) → (b : List ℕ) × (v ≡ Text b) × Begins bytes (to_be_bytes w16 (length b) ++ b) rest × ((length b < 2 ^ 16) × (0 ≤ length b) × (length b ≤ 1000)) × IsBytes b
unfolding short_text_at
short_takes = text_takes (to_be_bytes w16) _ (λ bytes. between 0 1000 (number_at w16 bytes)) short_form 3

long_takes : (bytes : List ℕ) (v : Value) (rest : List ℕ) → IsBytes bytes → long_text_at bytes ≡ Ok (v, rest) → (b : List ℕ) × (v ≡ Text b) × Begins bytes (to_be_bytes w32 (length b) ++ b) rest × ((length b < 2 ^ 32) × (1001 ≤ length b) × (length b ≤ 65536)) × IsBytes b
unfolding long_text_at
long_takes = text_takes (to_be_bytes w32) _ (λ bytes. between 1001 65536 (number_at w32 bytes)) long_form 5

short_again : (b rest : List ℕ) → length b ≤ 1000 → short_text_at ((to_be_bytes w16 (length b) ++ b) ++ rest) ≡ Ok (Text b, rest)
unfolding short_text_at
short_again b rest small = text_again (to_be_bytes w16) _ (λ bytes. between 0 1000 (number_at w16 bytes)) short_form 3 b rest (omega arith, omega arith, small)

long_again : (b rest : List ℕ) → 1000 < length b → length b ≤ 65536 → long_text_at ((to_be_bytes w32 (length b) ++ b) ++ rest) ≡ Ok (Text b, rest)
unfolding long_text_at
long_again b rest long most = text_again (to_be_bytes w32) _ (λ bytes. between 1001 65536 (number_at w32 bytes)) long_form 5 b rest (omega arith, omega arith, most)

-- which of the two forms a text has
pub text_is_short : (b : List ℕ) → length b ≤ 1000 → text_bytes b ≡ 2 ∷ (to_be_bytes w16 (length b) ++ b)
text_is_short b small = cond-true (nat_le (length b) 1000) _ _ (grind (arith, nat_tests))

pub text_is_long : (b : List ℕ) → 1000 < length b → text_bytes b ≡ 3 ∷ (to_be_bytes w32 (length b) ++ b)
text_is_long b long = cond-false (nat_le (length b) 1000) _ _ (grind (arith, nat_tests))

-- the value and what follows it, of a tag that was read and of what the tests gave
valued : (bytes after : List ℕ) (tag : ℕ) (v : Value) (rest : List ℕ) → Begins bytes (tag ∷ []) after
    → cond (tag == 0) (Ok (Nothing, after)) (cond (tag == 1) (number_value_at after) (cond (tag == 2) (short_text_at after) (cond (tag == 3) (long_text_at after) (Err 0)))) ≡ Ok (v, rest) → Begins bytes (value_bytes v) rest × IsValue v
valued bytes after tag v rest front e = elim (chosen (tag == 0) (Ok (Nothing, after)) _ (Ok (v, rest)) e) [
  | inl h ↦
      let is : tag ≡ 0 = let t = h.0 in grind (arith, nat_tests) in
      subst (λ (y : Value × List ℕ). Begins bytes (value_bytes y.0) y.1 × IsValue y.0) (ok_is (Nothing, after) (v, rest) h.1) (subst (λ (k : ℕ). Begins bytes (k ∷ []) after) is front, tt)
  | inr other ↦ elim (chosen (tag == 1) (number_value_at after) _ (Ok (v, rest)) other.1) [
    | inl h ↦
        let is : tag ≡ 1 = let t = h.0 in grind (arith, nat_tests) in
        let x = number_takes after v rest front.rest_is_bytes h.1 in
        subst (λ (y : Value). Begins bytes (value_bytes y) rest × IsValue y) (sym x.1)
        (Begins-then bytes (1 ∷ []) after (to_be_bytes w64 (cast_unsigned w64 x.0)) rest (subst (λ (k : ℕ). Begins bytes (k ∷ []) after) is front) x.2, x.3)
    | inr third ↦ elim (chosen (tag == 2) (short_text_at after) _ (Ok (v, rest)) third.1) [
      | inl h ↦
          let is : tag ≡ 2 = let t = h.0 in grind (arith, nat_tests) in
          let x = short_takes after v rest front.rest_is_bytes h.1 in
          let whole = Begins-then bytes (2 ∷ []) after (to_be_bytes w16 (length x.0) ++ x.0) rest (subst (λ (k : ℕ). Begins bytes (k ∷ []) after) is front) x.2 in
          subst (λ (y : Value). Begins bytes (value_bytes y) rest × IsValue y) (sym x.1)
          (subst (λ (t : List ℕ). Begins bytes t rest) (sym (text_is_short x.0 x.3.2)) whole, (omega (arith, x.3.2), x.4))
      | inr last ↦ elim (chosen (tag == 3) (long_text_at after) (Err 0) (Ok (v, rest)) last.1) [
        | inl h ↦
            let is : tag ≡ 3 = let t = h.0 in grind (arith, nat_tests) in
            let x = long_takes after v rest front.rest_is_bytes h.1 in
            let whole = Begins-then bytes (3 ∷ []) after (to_be_bytes w32 (length x.0) ++ x.0) rest (subst (λ (k : ℕ). Begins bytes (k ∷ []) after) is front) x.2 in
            subst (λ (y : Value). Begins bytes (value_bytes y) rest × IsValue y) (sym x.1)
            (subst (λ (t : List ℕ). Begins bytes t rest) (sym (text_is_long x.0 (omega (arith, x.3.1)))) whole, (x.3.2, x.4))
        | inr h ↦ absurd (let t = h.1 in cc)
      ]
    ]
  ]
]

pub value_takes : (bytes : List ℕ) (v : Value) (rest : List ℕ) → IsBytes bytes → value_at bytes ≡ Ok (v, rest) → Begins bytes (value_bytes v) rest × IsValue v
unfolding value_at
value_takes bytes v rest fits e =
    let a = field_ok 0 (byte_at bytes) (λ tag. cond (tag.0 == 0) (Ok (Nothing, tag.1)) (cond (tag.0 == 1) (number_value_at tag.1) (cond (tag.0 == 2) (short_text_at tag.1) (cond (tag.0 == 3) (long_text_at tag.1) (Err 0))))) (v, rest) e in
    valued bytes a.0.1 a.0.0 v rest (byte_form.takes bytes a.0.0 a.0.1 fits a.1).0 a.2

pub value_again : (v : Value) (rest : List ℕ) → IsValue v → value_at (value_bytes v ++ rest) ≡ Ok (v, rest)
unfolding value_at number_value_at
value_again Nothing rest h = refl
value_again (Number z) rest h = rw (signed_form.again z rest h) refl
value_again (Text b) rest h = elim (cases_Bool (nat_le (length b) 1000)) [
  | inl low ↦
      let small : length b ≤ 1000 = grind (arith, nat_tests) in
      ap (λ (t : List ℕ). value_at (t ++ rest)) (text_is_short b small) ∙ short_again b rest small
  | inr high ↦
      let long : 1000 < length b = grind (arith, nat_tests) in
      ap (λ (t : List ℕ). value_at (t ++ rest)) (text_is_long b long) ∙ long_again b rest long h.0
]

pub value_bytes-apart : (a b : Value) (x y : List ℕ) → IsValue a → IsValue b → value_bytes a ++ x ≡ value_bytes b ++ y → (a ≡ b) × (x ≡ y)
value_bytes-apart a b x y ha hb e =
    let p : ◌≡◌ {A = Value × List ℕ} (a, x) (b, y) = ok_is (a, x) (b, y) (sym (value_again a x ha) ∙ ap value_at e ∙ value_again b y hb) in
    (ap (λ (q : Value × List ℕ). q.0) p, ap (λ (q : Value × List ℕ). q.1) p)

-- ---- what a call that counts gives

pub value_at-shorter : (bytes : List ℕ) (v : Value) (rest : List ℕ) → IsBytes bytes → value_at bytes ≡ Ok (v, rest) → length rest ≤ length bytes
value_at-shorter bytes v rest fits e =
    let t = value_takes bytes v rest fits e in
    omega (arith, ap length t.0.parts ∙ length-append (value_bytes v) rest)

pub read_found : (r : Result (Value × ℕ) ValueFault) (bytes : List ℕ) → IsBytes bytes → GivesCount r (length bytes) (value_at bytes) → IfOk r (λ p. IsValue p.0 × (p.1 ≤ length bytes) × (take p.1 bytes ≡ value_bytes p.0))
read_found (Err fault) bytes fits g = tt
read_found (Ok p) bytes fits g =
    let t = value_takes bytes p.0 g.0 fits g.1 in
    let sizes : length bytes ≡ length (value_bytes p.0) + length g.0 = ap length t.0.parts ∙ length-append (value_bytes p.0) g.0 in
    let count : length (value_bytes p.0) ≡ p.1 = let k = g.2 in omega arith in
    (t.1, let k = g.2 in omega arith, rw t.0.parts (take_at (value_bytes p.0) g.0 p.1 count))

pub read_only : (r : Result (Value × ℕ) ValueFault) (bytes : List ℕ) → GivesCount r (length bytes) (value_at bytes) → (v : Value) (rest : List ℕ) → IsValue v → bytes ≡ value_bytes v ++ rest → GivesCount r (length bytes) (Ok (v, rest))
read_only r bytes g v rest h e = subst (λ (reading : Result (Value × List ℕ) ℕ). GivesCount r (length bytes) reading) (ap value_at e ∙ value_again v rest h) g

-- ---- objects

object_takes : (bytes : List ℕ) (o : ObjectId) (rest : List ℕ) → IsBytes bytes → object_bytes_at bytes ≡ Some (o, rest) → Begins bytes (object_bytes o) rest × IsObject o
unfolding object_bytes_at
object_takes bytes o rest fits e =
    let a = bind_some (between 1 16 (byte_at bytes)) (λ r. form.◌>>=◌ (number_at w32 r.1) (λ n. Some (record { repository = r.0; number = n.0 }, n.1))) (o, rest) e in
    let b = bind_some (number_at w32 a.0.1) (λ n. Some (record { repository = a.0.0; number = n.0 }, n.1)) (o, rest) a.2 in
    let made : ObjectId × List ℕ = (record { repository = a.0.0; number = b.0.0 }, b.0.1) in
    let repository = (between_form 1 16 byte_form).takes bytes a.0.0 a.0.1 fits a.1 in
    let number = u32_form.takes a.0.1 b.0.0 b.0.1 repository.0.rest_is_bytes b.1 in
    let whole = Begins-then bytes (a.0.0 ∷ []) a.0.1 (to_be_bytes w32 b.0.0) b.0.1 repository.0 number.0 in
    subst (λ (y : ObjectId × List ℕ). Begins bytes (object_bytes y.0) y.1 × IsObject y.0) (some_is made (o, rest) b.2) (whole, record { repository_low = repository.1.1; repository_high = repository.1.2; number = number.1 })

object_again : (o : ObjectId) (rest : List ℕ) → IsObject o → object_bytes_at (object_bytes o ++ rest) ≡ Some (o, rest)
unfolding object_bytes_at
object_again o rest h = rw ((between_form 1 16 byte_form).again o.repository (to_be_bytes w32 o.number ++ rest) (omega (arith, h.repository_high), h.repository_low, h.repository_high), u32_form.again o.number rest h.number) refl

pub object_form : IsForm object_bytes IsObject object_bytes_at
object_form = record { takes = object_takes; again = object_again }

-- ---- a value as one field

pub value_form : IsForm value_bytes IsValue (λ bytes. found (value_at bytes))
value_form = record {
  takes = λ bytes v rest fits e. value_takes bytes v rest fits (found_is (value_at bytes) (v, rest) e);
  again = λ v rest h. ap found (value_again v rest h);
}
  where
    found_is : (r : Result (Value × List ℕ) ℕ) (y : Value × List ℕ) → found r ≡ Some y → r ≡ Ok y
    found_is (Ok x) y e = ap Ok (some_is x y e)
    found_is (Err at) y e = absurd (cc)
