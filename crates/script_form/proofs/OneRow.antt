-- Tokens spell at most one row, where its expressions are no deeper than 16.
use Rattle.script_form.proofs.Names.{◌≡◌, ℕ, ◌≤◌, max, List, [], ◌∷◌, Some, refl, sym, ap, ◌∙◌, subst, arith, unwrap_or, Token, ObjectId, Term, Spot, Fixed, At, depth, Spells, Row, row_depth, spot_depth, SpellsSpot, Follows, SpellsRow}
use Rattle.token_form.specs.declared.tokens.Token.TheVariants as t
use Rattle.token_form.specs.declared.tokens.Word.TheVariants as w
use Rattle.token_form.specs.declared.tokens.Sign.TheVariants as g
use Rattle.expression_form.proofs.Readings.{one_expression}
use Rattle.script_form.specs.Row as r
use Rattle.script_form.proofs.TargetLemmas.{Found, spot_found, spot_alone}
use Rattle.script_form.proofs.ReadLemmas.{none_some}

-- ---- objects

one_found : (a b : Spot) (ts us vs : List Token) → Found a ts us → Found b ts vs → spot_depth a ≤ 16 → (a ≡ b) × (us ≡ vs)
one_found (Fixed o) (Fixed p) ts us vs h k le =
    let e : Some (o, us) ≡ Some (p, vs) = sym h ∙ k in
    (ap (λ z. Fixed (unwrap_or {T = ObjectId × List Token} z (o, us)).0) e, ap (λ z. (unwrap_or {T = ObjectId × List Token} z (o, us)).1) e)
one_found (Fixed o) (At n y) ts us vs h k le = absurd (none_some (o, us) (sym k.0 ∙ h))
one_found (At m x) (Fixed p) ts us vs h k le = absurd (none_some (p, vs) (sym h.0 ∙ k))
one_found (At m x) (At n y) ts us vs (_, (es, is, spells)) (_, (fs, is', spells')) le =
    let e : (m, es, us) ≡ (n, fs, vs) = ap (λ z. unwrap_or z (m, es, us)) (sym is ∙ is') in
    let same : x ≡ y = one_expression x y fs (subst (Spells x) (ap (λ z. z.1) e) spells) spells' le in
    (ap (λ z. At z.0 x) e ∙ ap (At n) same, ap (λ z. z.2) e)

-- ---- rows by their words

-- a row that is a word and an expression
abbrev Single : (Term → Row) → Row → List Token → Type 0
Single f c ts = (x : Term) × (c ≡ f x) × Spells x ts

one_single : (f : Term → Row) (c d : Row) (ts : List Token) → ((x : Term) → row_depth (f x) ≡ depth x) → Single f c ts → Single f d ts → row_depth c ≤ 16 → c ≡ d
one_single f c d ts same (x, is, k) (y, is', k') le =
    let low : depth x ≤ 16 = subst (λ n. n ≤ 16) (ap row_depth is ∙ same x) le in
    is ∙ ap f (one_expression x y ts k k' low) ∙ sym is'

print_single : (c : Row) (ts : List Token) → Follows w.Print c ts → Single r.Print c ts
print_single (r.Print x) ts k = (x, refl, k)
print_single _ ts k = absurd k

if_single : (c : Row) (ts : List Token) → Follows w.If c ts → Single r.If c ts
if_single (r.If x) ts k = (x, refl, k)
if_single _ ts k = absurd k

repeat_single : (c : Row) (ts : List Token) → Follows w.Repeat c ts → Single r.Repeat c ts
repeat_single (r.Repeat x) ts k = (x, refl, k)
repeat_single _ ts k = absurd k

else_is : (c : Row) (ts : List Token) → Follows w.Else c ts → c ≡ r.Else
else_is r.Else ts k = refl
else_is _ ts k = absurd k

end_is : (c : Row) (ts : List Token) → Follows w.End c ts → c ≡ r.End
end_is r.End ts k = refl
end_is _ ts k = absurd k

withdraw_is : (c : Row) (ts : List Token) → Follows w.Withdraw c ts → c ≡ r.Withdraw
withdraw_is r.Withdraw ts k = refl
withdraw_is _ ts k = absurd k

abbrev IsLet : Row → List Token → Type 0
IsLet c ts = (name : List ℕ) × (x : Term) × (us : List Token) × (c ≡ r.Let name x) × (ts ≡ t.Name name ∷ t.Sign g.Equal ∷ us) × Spells x us

let_is : (c : Row) (ts : List Token) → Follows w.Let c ts → IsLet c ts
let_is (r.Let name x) ts (us, is, k) = (name, x, us, refl, is, k)
let_is _ ts k = absurd k

one_let : (c d : Row) (ts : List Token) → IsLet c ts → IsLet d ts → row_depth c ≤ 16 → c ≡ d
one_let c d ts (name, x, us, is, at, k) (other, y, vs, is', at', k') le =
    let e : t.Name name ∷ t.Sign g.Equal ∷ us ≡ t.Name other ∷ t.Sign g.Equal ∷ vs = sym at ∙ at' in
    let names : name ≡ other = cc in
    let rests : us ≡ vs = cc in
    let low : depth x ≤ 16 = subst (λ n. n ≤ 16) (ap row_depth is) le in
    is ∙ ap (λ z. r.Let z x) names ∙ ap (r.Let other) (one_expression x y vs (subst (Spells x) rests k) k' low) ∙ sym is'

abbrev IsRead : Row → List Token → Type 0
IsRead c ts = (name : List ℕ) × (place : Spot) × (us : List Token) × (c ≡ r.Read name place) × (ts ≡ t.Name name ∷ us) × SpellsSpot place us

read_is : (c : Row) (ts : List Token) → Follows w.Read c ts → IsRead c ts
read_is (r.Read name place) ts (us, is, k) = (name, place, us, refl, is, k)
read_is _ ts k = absurd k

one_read : (c d : Row) (ts : List Token) → IsRead c ts → IsRead d ts → row_depth c ≤ 16 → c ≡ d
one_read c d ts (name, a, us, is, at, k) (other, b, vs, is', at', k') le =
    let e : t.Name name ∷ us ≡ t.Name other ∷ vs = sym at ∙ at' in
    let names : name ≡ other = cc in
    let rests : us ≡ vs = cc in
    let low : spot_depth a ≤ 16 = subst (λ n. n ≤ 16) (ap row_depth is) le in
    let same : a ≡ b = (one_found a b vs [] [] (spot_alone a vs (subst (SpellsSpot a) rests k)) (spot_alone b vs k') low).0 in
    is ∙ ap (λ z. r.Read z a) names ∙ ap (r.Read other) same ∙ sym is'

abbrev IsWrite : Row → List Token → Type 0
IsWrite c ts = (place : Spot) × (x : Term) × (rest : List Token) × (c ≡ r.Write place x) × Found place ts rest × Spells x rest

write_is : (c : Row) (ts : List Token) → Follows w.Write c ts → IsWrite c ts
write_is (r.Write place x) ts (us, vs, is, at, k) = (place, x, vs, refl, subst (λ z. Found place z vs) (sym is) (spot_found place us vs at), k)
write_is _ ts k = absurd k

one_write : (c d : Row) (ts : List Token) → IsWrite c ts → IsWrite d ts → row_depth c ≤ 16 → c ≡ d
one_write c d ts (a, x, us, is, found, k) (b, y, vs, is', found', k') le =
    let low : max (spot_depth a) (depth x) ≤ 16 = subst (λ n. n ≤ 16) (ap row_depth is) le in
    let places = one_found a b ts us vs found found' (omega arith) in
    let values : x ≡ y = one_expression x y vs (subst (Spells x) places.1 k) k' (omega arith) in
    is ∙ ap (λ z. r.Write z x) places.0 ∙ ap (r.Write b) values ∙ sym is'

pub one_row : (c d : Row) (ts : List Token) → SpellsRow c ts → SpellsRow d ts → row_depth c ≤ 16 → c ≡ d
one_row c d (t.Word w.Let ∷ ts) h k le = one_let c d ts (let_is c ts h) (let_is d ts k) le
one_row c d (t.Word w.Read ∷ ts) h k le = one_read c d ts (read_is c ts h) (read_is d ts k) le
one_row c d (t.Word w.Write ∷ ts) h k le = one_write c d ts (write_is c ts h) (write_is d ts k) le
one_row c d (t.Word w.Print ∷ ts) h k le = one_single r.Print c d ts (λ x. refl) (print_single c ts h) (print_single d ts k) le
one_row c d (t.Word w.If ∷ ts) h k le = one_single r.If c d ts (λ x. refl) (if_single c ts h) (if_single d ts k) le
one_row c d (t.Word w.Else ∷ ts) h k le = else_is c ts h ∙ sym (else_is d ts k)
one_row c d (t.Word w.End ∷ ts) h k le = end_is c ts h ∙ sym (end_is d ts k)
one_row c d (t.Word w.Repeat ∷ ts) h k le = one_single r.Repeat c d ts (λ x. refl) (repeat_single c ts h) (repeat_single d ts k) le
one_row c d (t.Word w.Withdraw ∷ ts) h k le = withdraw_is c ts h ∙ sym (withdraw_is d ts k)
one_row c d _ h k le = absurd h
