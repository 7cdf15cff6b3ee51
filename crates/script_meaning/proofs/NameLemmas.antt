-- Where a name stands, and what it is set to.
use Rattle.std.proofs.Common.{◌≡◌, ℕ, suc, ◌+◌, ◌-◌, ◌<◌, ◌≤◌, ◌==◌, Bool, true, false, cond, List, [], ◌∷◌, ◌++◌, length, Some, None, refl, sym, ap, ◌∙◌, arith}
use Rattle.std.specs.Prelude.{Option, slice_set}
use Rattle.std.specs.Cmp.Lexicographic.{pointwise}
use Rattle.std.specs.List.{position_from}
use Rattle.value_form.specs.declared.values.Value.{Value}
use Rattle.script_meaning.specs.Names.{Names, with_name}

abbrev pub place : Names → List ℕ → ℕ → Option ℕ
place names name from = position_from (λ e. pointwise ◌==◌ e.0 name) from names

-- a name that doesn't stand there is set at the end
by_test : (e : List ℕ × Value) (names : Names) (name : List ℕ) (from : ℕ) (v : Value) (t : Bool) → (place names name (from + 1) ≡ None → with_name names name v ≡ names ++ (name, v) ∷ []) → cond t (Some from) (place names name (from + 1)) ≡ None → cond t ((name, v) ∷ names) (e ∷ with_name names name v) ≡ e ∷ (names ++ (name, v) ∷ [])
by_test e names name from v true h is = absurd (cc is)
by_test e names name from v false h is = ap (λ z. e ∷ z) (h is)

pub with_name-new : (names : Names) (name : List ℕ) (from : ℕ) (v : Value) → place names name from ≡ None → with_name names name v ≡ names ++ (name, v) ∷ []
with_name-new [] name from v is = refl
with_name-new (e ∷ names) name from v is = by_test e names name from v (pointwise ◌==◌ e.0 name) (λ h. with_name-new names name (from + 1) v h) is

-- a name that stands there is set in its place
pub record Stands (names : Names) (name : List ℕ) (from index : ℕ) : Type 0 where
  pub above : from ≤ index
  pub within : index < from + length names
  pub is_set : (v : Value) → with_name names name v ≡ slice_set names (index - from) (name, v)

stands_by : (e : List ℕ × Value) (names : Names) (name : List ℕ) (from index : ℕ) (t : Bool) → pointwise ◌==◌ e.0 name ≡ t → (place names name (from + 1) ≡ Some index → Stands names name (from + 1) index) → cond t (Some from) (place names name (from + 1)) ≡ Some index → Stands (e ∷ names) name from index
stands_by e names name from index true test later is =
    let same : from ≡ index = cc is in
    let none : index - from ≡ 0 = omega arith in
    record {
      above = omega arith;
      within = omega arith;
      is_set = λ v. ap (λ t. cond t ((name, v) ∷ names) (e ∷ with_name names name v)) test ∙ sym (ap (λ k. slice_set (e ∷ names) k (name, v)) none);
    }
stands_by e names name from index false test later is =
    let h = later is in
    let above = h.above in
    let within = h.within in
    let one : index - from ≡ suc (index - (from + 1)) = omega arith in
    record {
      above = omega arith;
      within = omega arith;
      is_set = λ v. ap (λ t. cond t ((name, v) ∷ names) (e ∷ with_name names name v)) test ∙ ap (λ z. e ∷ z) (h.is_set v) ∙ sym (ap (λ k. slice_set (e ∷ names) k (name, v)) one);
    }

pub place-stands : (names : Names) (name : List ℕ) (from index : ℕ) → place names name from ≡ Some index → Stands names name from index
place-stands [] name from index is = absurd (cc is)
place-stands (e ∷ names) name from index is = stands_by e names name from index (pointwise ◌==◌ e.0 name) refl (λ h. place-stands names name (from + 1) index h) is

found_at : (names entries : Names) (name bytes : List ℕ) (found r : Option ℕ) → found ≡ place entries bytes 0 → found ≡ r → entries ≡ names → bytes ≡ name → place names name 0 ≡ r
found_at names entries name bytes found r by is same called = ap (λ z. place z name 0) (sym same) ∙ ap (λ z. place entries z 0) (sym called) ∙ sym by ∙ is

pub within_at : (names entries : Names) (name bytes : List ℕ) (found : Option ℕ) (index : ℕ) → found ≡ place entries bytes 0 → found ≡ Some index → entries ≡ names → bytes ≡ name → index < length names
within_at names entries name bytes found index by is same called =
    let h = (place-stands names name 0 index (found_at names entries name bytes found (Some index) by is same called)).within in
    omega arith

pub set_at : (names entries : Names) (name bytes : List ℕ) (found : Option ℕ) (index : ℕ) (v : Value) → found ≡ place entries bytes 0 → found ≡ Some index → entries ≡ names → bytes ≡ name → slice_set names index (name, v) ≡ with_name names name v
set_at names entries name bytes found index v by is same called =
    let here : index ≡ index - 0 = omega arith in
    ap (λ k. slice_set names k (name, v)) here
    ∙ sym ((place-stands names name 0 index (found_at names entries name bytes found (Some index) by is same called)).is_set v)

pub new_at : (names entries : Names) (name bytes : List ℕ) (found : Option ℕ) (v : Value) → found ≡ place entries bytes 0 → found ≡ None → entries ≡ names → bytes ≡ name → with_name names name v ≡ names ++ (name, v) ∷ []
new_at names entries name bytes found v by is same called = with_name-new names name 0 v (found_at names entries name bytes found None by is same called)
