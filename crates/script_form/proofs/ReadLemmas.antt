-- What reading the parts of a row says of the row.
use Rattle.script_form.proofs.Names.{◌≡◌, ◌≢◌, ℕ, ◌<◌, true, false, List, [], ◌∷◌, ◌++◌, Some, None, Result, Ok, Err, refl, sym, ap, ◌∙◌, subst, arith, append-nil, length, unwrap_or, ◌==◌, IsErr, IsErrAnd, Token, ObjectId, Target, Term, Spot, Fixed, At, term, spot, depth, Spells, Flat, row_of, Row, row_depth, spot_depth, SpellsSpot, Follows, fixed_of, indexed_of}
use Rattle.token_form.specs.declared.tokens.Token.TheVariants as t
use Rattle.token_form.specs.declared.tokens.Word.TheVariants as w
use Rattle.token_form.specs.declared.tokens.Sign.TheVariants as g
use Rattle.expression_form.specs.declared.read_faults.ReadFault.{ReadFault}
use Rattle.expression_form.specs.declared.read_faults.ReadFault.TheVariants.{Syntax, Depth, NoMemory}
use Rattle.expression_form.specs.Reads.{Reads}
use Rattle.script_form.specs.Row as r
use Rattle.value_form.specs.declared.expressions.Expr.{Expr}
use Rattle.script_form.specs.Pairs.{ReadsBoth, both}
use Rattle.script_form.proofs.TargetLemmas.{Found, spot_found, spot_alone, fixed_spells, indexed_spells}

-- a result that hands this fault on
abbrev pub HandsOn : {A : Type 0} → Result A ReadFault → ReadFault → Type 0
HandsOn result fault = IsErr result × IsErrAnd result (λ other. other ≡ fault)

-- A fault of a part is that of the whole, where the whole is spelled exactly with the part, and is as deep.
module _ {A A' B B' : Type 0} (view : A → B) (view' : A' → B') (spells : B → List Token → Type 0) (spells' : B' → List Token → Type 0) (depth : B → ℕ) (depth' : B' → ℕ)
    (ts ts' : List Token) (f : B → B') (to : (b : B) → spells b ts → spells' (f b) ts') (from : (c : B') → spells' c ts' → (b : B) × spells b ts) (same : (b : B) → depth' (f b) ≡ depth b) where
  fault_of : (fault : ReadFault) → Reads view spells depth ts (Err fault) → Reads view' spells' depth' ts' (Err fault)
  fault_of Syntax h = λ c k. let b = from c k in h b.0 b.1
  fault_of Depth h = (f h.0, to h.0 h.1, subst (λ n. 16 < n) (sym (same h.0)) h.2)
  fault_of NoMemory h = tt

  handed : (result : Result A' ReadFault) (fault : ReadFault) → HandsOn result fault → Reads view spells depth ts (Err fault) → Reads view' spells' depth' ts' result
  handed (Ok x) fault (is, and) h = absurd and
  handed (Err other) fault (is, and) h = fault_of other (subst (λ z. Reads view spells depth ts (Err z)) (sym and) h)

-- ---- rows that are a word and an expression

print_from : (ts : List Token) (c : Row) → Follows w.Print c ts → (x : Term) × Spells x ts
print_from ts (r.Print x) k = (x, k)
print_from ts _ k = absurd k

pub print_fault : (ts : List Token) (result : Result Flat ReadFault) (fault : ReadFault) → HandsOn result fault → Reads term Spells depth ts (Err fault) → Reads row_of (Follows w.Print) row_depth ts result
print_fault ts = handed term row_of Spells (Follows w.Print) depth row_depth ts ts r.Print (λ x k. k) (print_from ts) (λ x. refl)

if_from : (ts : List Token) (c : Row) → Follows w.If c ts → (x : Term) × Spells x ts
if_from ts (r.If x) k = (x, k)
if_from ts _ k = absurd k

pub if_fault : (ts : List Token) (result : Result Flat ReadFault) (fault : ReadFault) → HandsOn result fault → Reads term Spells depth ts (Err fault) → Reads row_of (Follows w.If) row_depth ts result
if_fault ts = handed term row_of Spells (Follows w.If) depth row_depth ts ts r.If (λ x k. k) (if_from ts) (λ x. refl)

repeat_from : (ts : List Token) (c : Row) → Follows w.Repeat c ts → (x : Term) × Spells x ts
repeat_from ts (r.Repeat x) k = (x, k)
repeat_from ts _ k = absurd k

pub repeat_fault : (ts : List Token) (result : Result Flat ReadFault) (fault : ReadFault) → HandsOn result fault → Reads term Spells depth ts (Err fault) → Reads row_of (Follows w.Repeat) row_depth ts result
repeat_fault ts = handed term row_of Spells (Follows w.Repeat) depth row_depth ts ts r.Repeat (λ x k. k) (repeat_from ts) (λ x. refl)

-- ---- `let` and `read`

let_from : (name : List ℕ) (ts rest : List Token) → ts ≡ t.Name name ∷ t.Sign g.Equal ∷ rest → (c : Row) → Follows w.Let c ts → (x : Term) × Spells x rest
let_from name ts rest is (r.Let other x) (us, is', k) =
    let e : t.Name other ∷ t.Sign g.Equal ∷ us ≡ t.Name name ∷ t.Sign g.Equal ∷ rest = sym is' ∙ is in
    let same : us ≡ rest = cc in
    (x, subst (Spells x) same k)
let_from name ts rest is _ k = absurd k

pub let_fault : (name : List ℕ) (ts rest : List Token) → ts ≡ t.Name name ∷ t.Sign g.Equal ∷ rest → (result : Result Flat ReadFault) (fault : ReadFault) → HandsOn result fault → Reads term Spells depth rest (Err fault) → Reads row_of (Follows w.Let) row_depth ts result
let_fault name ts rest is = handed term row_of Spells (Follows w.Let) depth row_depth rest ts (r.Let name) (λ x k. (rest, is, k)) (let_from name ts rest is) (λ x. refl)

read_from : (name : List ℕ) (ts rest : List Token) → ts ≡ t.Name name ∷ rest → (c : Row) → Follows w.Read c ts → (place : Spot) × SpellsSpot place rest
read_from name ts rest is (r.Read other place) (us, is', k) =
    let e : t.Name other ∷ us ≡ t.Name name ∷ rest = sym is' ∙ is in
    let same : us ≡ rest = cc in
    (place, subst (SpellsSpot place) same k)
read_from name ts rest is _ k = absurd k

pub read_fault : (name : List ℕ) (ts rest : List Token) → ts ≡ t.Name name ∷ rest → (result : Result Flat ReadFault) (fault : ReadFault) → HandsOn result fault → Reads spot SpellsSpot spot_depth rest (Err fault) → Reads row_of (Follows w.Read) row_depth ts result
read_fault name ts rest is = handed spot row_of SpellsSpot (Follows w.Read) spot_depth row_depth rest ts (r.Read name) (λ x k. (rest, is, k)) (read_from name ts rest is) (λ x. refl)

-- ---- objects

pub none_some : {A : Type 0} (x : A) → None ≡ Some x → ⊥
none_some x e = let no : ⊥ = cc in no

empty_is : (ts : List Token) → (length ts == 0) ≡ true → ts ≡ []
empty_is [] h = refl
empty_is (token ∷ ts) h = absurd (let no : ⊥ = grind (arith, h) in no)

more_is : (ts : List Token) → (length ts == 0) ≡ false → ts ≢ []
more_is [] h e = let no : ⊥ = cc in no
more_is (token ∷ ts) h e = let no : ⊥ = cc in no

abbrev IsIndexed : (n : ℕ) (es rest ts : List Token) → Type 0
IsIndexed n es rest ts = (fixed_of ts ≡ None) × (indexed_of ts ≡ Some (n, es, rest))

-- an object at the front is the one between these brackets
only_indexed : (n : ℕ) (es rest ts : List Token) → IsIndexed n es rest ts → (place : Spot) (behind : List Token) → Found place ts behind → (x : Term) × (place ≡ At n x) × (behind ≡ rest) × Spells x es
only_indexed n es rest ts h (Fixed object) behind found = absurd (none_some (object, behind) (sym h.0 ∙ found))
only_indexed n es rest ts h (At m x) behind (_, (us, is, spells)) =
    let e : (m, us, behind) ≡ (n, es, rest) = ap (λ o. unwrap_or o (m, us, behind)) (sym is ∙ h.1) in
    (x, ap (λ k. At k.0 x) e, ap (λ k. k.2) e, subst (Spells x) (ap (λ k. k.1) e) spells)

pub indexed_place : (n : ℕ) (es rest ts : List Token) → (length rest == 0) ≡ true → indexed_of ts ≡ Some (n, es, rest) → (x : Term) → Spells x es → SpellsSpot (At n x) ts
indexed_place n es rest ts empty is x spells =
    let k = indexed_spells n ts es rest x is spells in
    subst (SpellsSpot (At n x)) (sym (k.1 ∙ ap (λ z. k.0 ++ z) (empty_is rest empty) ∙ append-nil k.0)) k.2

pub place_fault : (n : ℕ) (es rest ts : List Token) → (length rest == 0) ≡ true → fixed_of ts ≡ None → indexed_of ts ≡ Some (n, es, rest) → (result : Result Target ReadFault) (fault : ReadFault) → HandsOn result fault → Reads term Spells depth es (Err fault) → Reads spot SpellsSpot spot_depth ts result
place_fault n es rest ts empty none is =
    handed term spot Spells SpellsSpot depth spot_depth es ts (At n) (indexed_place n es rest ts empty is)
    (λ place k. let o = only_indexed n es rest ts (none, is) place [] (spot_alone place ts k) in (o.0, o.3)) (λ x. refl)

pub place_not_alone : (n : ℕ) (es rest ts : List Token) → (length rest == 0) ≡ false → fixed_of ts ≡ None → indexed_of ts ≡ Some (n, es, rest) → (place : Spot) → SpellsSpot place ts → ⊥
place_not_alone n es rest ts more none is place k = let o = only_indexed n es rest ts (none, is) place [] (spot_alone place ts k) in more_is rest more (sym o.2)

-- no object stands at the front
none_found : (ts : List Token) → fixed_of ts ≡ None → indexed_of ts ≡ None → (place : Spot) (behind : List Token) → Found place ts behind → ⊥
none_found ts none none' (Fixed object) behind found = none_some (object, behind) (sym none ∙ found)
none_found ts none none' (At m x) behind (_, (us, is, spells)) = none_some (m, us, behind) (sym none' ∙ is)

pub no_place : (ts : List Token) → fixed_of ts ≡ None → indexed_of ts ≡ None → (place : Spot) → SpellsSpot place ts → ⊥
no_place ts none none' place k = none_found ts none none' place [] (spot_alone place ts k)

-- ---- `write`

record Written (c : Row) (ts : List Token) : Type 0 where
  place : Spot
  value : Term
  rest : List Token
  found : Found place ts rest
  spells : Spells value rest
  is : c ≡ r.Write place value

written_in : (c : Row) (ts : List Token) → Follows w.Write c ts → Written c ts
written_in (r.Write place x) ts (us, vs, is, sp, k) = record { place = place; value = x; rest = vs; found = subst (λ z. Found place z vs) (sym is) (spot_found place us vs sp); spells = k; is = refl }
written_in _ ts k = absurd k

fixed_from : (object : ObjectId) (rest ts : List Token) → fixed_of ts ≡ Some (object, rest) → (place : Spot) (behind : List Token) → Found place ts behind → behind ≡ rest
fixed_from object rest ts is (Fixed other) behind found = ap (λ o. (unwrap_or {T = ObjectId × List Token} o (other, behind)).1) (sym found ∙ is)
fixed_from object rest ts is (At m x) behind found = absurd (none_some (object, rest) (sym found.0 ∙ is))

pub write_fixed : (object : ObjectId) (rest ts : List Token) → fixed_of ts ≡ Some (object, rest) → (x : Term) → Spells x rest → Follows w.Write (r.Write (Fixed object) x) ts
write_fixed object rest ts is x spells = let k = fixed_spells ts rest object is in (k.0, rest, k.1, k.2, spells)

pub write_fixed_fault : (object : ObjectId) (rest ts : List Token) → fixed_of ts ≡ Some (object, rest) → (result : Result Flat ReadFault) (fault : ReadFault) → HandsOn result fault → Reads term Spells depth rest (Err fault) → Reads row_of (Follows w.Write) row_depth ts result
write_fixed_fault object rest ts is =
    handed term row_of Spells (Follows w.Write) depth row_depth rest ts (r.Write (Fixed object)) (write_fixed object rest ts is)
    (λ c k. let o = written_in c ts k in (o.value, subst (Spells o.value) (fixed_from object rest ts is o.place o.rest o.found) o.spells)) (λ x. omega arith)

pub write_indexed : (n : ℕ) (es rest ts : List Token) → indexed_of ts ≡ Some (n, es, rest) → (x y : Term) → Spells x es → Spells y rest → Follows w.Write (r.Write (At n x) y) ts
write_indexed n es rest ts is x y spells_x spells_y = let k = indexed_spells n ts es rest x is spells_x in (k.0, rest, k.1, k.2, spells_y)

write_both_fault : (n : ℕ) (es rest ts : List Token) → IsIndexed n es rest ts → (fault : ReadFault) → ReadsBoth es rest (Err fault) → Reads row_of (Follows w.Write) row_depth ts (Err fault)
write_both_fault n es rest ts is Syntax h = λ c k.
    let o = written_in c ts k in
    let p = only_indexed n es rest ts is o.place o.rest o.found in
    h p.0 o.value p.3 (subst (Spells o.value) p.2 o.spells)
write_both_fault n es rest ts is Depth (x, y, spells_x, spells_y, lt) = (r.Write (At n x) y, write_indexed n es rest ts is.1 x y spells_x spells_y, lt)
write_both_fault n es rest ts is NoMemory h = tt

pub write_indexed_fault : (n : ℕ) (es rest ts : List Token) → fixed_of ts ≡ None → indexed_of ts ≡ Some (n, es, rest) → (result : Result Flat ReadFault) (fault : ReadFault) → HandsOn result fault → ReadsBoth es rest (Err fault) → Reads row_of (Follows w.Write) row_depth ts result
write_indexed_fault n es rest ts none is (Ok x) fault (_, and) h = absurd and
write_indexed_fault n es rest ts none is (Err other) fault (_, and) h = write_both_fault n es rest ts (none, is) other (subst (λ z. ReadsBoth es rest (Err z)) (sym and) h)

pub no_write : (ts : List Token) → fixed_of ts ≡ None → indexed_of ts ≡ None → (c : Row) → Follows w.Write c ts → ⊥
no_write ts none none' c k = let o = written_in c ts k in none_found ts none none' o.place o.rest o.found

-- ---- two expressions

pub both_reads : (ts us : List Token) (left right : Result Expr ReadFault) → Reads term Spells depth ts left → Reads term Spells depth us right → ReadsBoth ts us (both left right)
both_reads ts us (Ok x) (Ok y) h k = (h.0, k.0, h.1, k.1)
both_reads ts us (Ok x) (Err Syntax) h k = λ a b spells_a spells_b. k b spells_b
both_reads ts us (Ok x) (Err Depth) h k = (term x, k.0, h.0, k.1, let lt : 16 < depth k.0 = k.2 in omega arith)
both_reads ts us (Ok x) (Err NoMemory) h k = tt
both_reads ts us (Err Syntax) (Ok y) h k = λ a b spells_a spells_b. h a spells_a
both_reads ts us (Err Depth) (Ok y) h k = (h.0, term y, h.1, k.0, let lt : 16 < depth h.0 = h.2 in omega arith)
both_reads ts us (Err NoMemory) (Ok y) h k = tt
both_reads ts us (Err Syntax) (Err e) h k = λ a b spells_a spells_b. h a spells_a
both_reads ts us (Err NoMemory) (Err e) h k = tt
both_reads ts us (Err Depth) (Err Syntax) h k = λ a b spells_a spells_b. k b spells_b
both_reads ts us (Err Depth) (Err Depth) h k = (h.0, k.0, h.1, k.1, let lt : 16 < depth h.0 = h.2 in omega arith)
both_reads ts us (Err Depth) (Err NoMemory) h k = tt
