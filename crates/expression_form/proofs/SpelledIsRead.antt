-- What is spelled is read.
use Rattle.expression_form.proofs.Names.{◌≡◌, ℕ, zero, suc, ◌+◌, ◌≤◌, List, [], ◌∷◌, ◌++◌, Option, Some, None, refl, sym, ap, ◌∙◌, subst, arith, append_assoc, option_and_then, Token, Prefix, Infix, Call, Term, Number, Text, Nothing, Name, Before, Between, Applied, Given, Operand, Frame, infix_level, left_level, prefix_level, infix_token, prefix_token, call_token, enclosed, wrapped, level_of, level_in, At, Bare, Spells, operand_of, hole, Waiting, held, close, State, state, shift, shut, parted, prefixed, joined, having_as, having, step, run, finish, ended, operand_read}
use Rattle.token_form.specs.declared.tokens.Token.TheVariants as t
use Rattle.token_form.specs.declared.tokens.Word.TheVariants as w
use Rattle.token_form.specs.declared.tokens.Sign.TheVariants as g
use Rattle.value_form.specs.declared.expressions.Prefix.TheVariants as p
use Rattle.value_form.specs.declared.expressions.Call.TheVariants as c
use Rattle.expression_form.specs.declared.frames.Frame.TheVariants as f
use Rattle.expression_form.specs.declared.frames.Mode.TheVariants as m
use Rattle.expression_form.proofs.LevelLemmas.{left_ge, apart, infix_of-token, chosen-le, chosen-gt}

-- an operator that fits takes nothing in
close-stays : (o : Infix) (st : List Frame) (x : Operand) (l : ℕ) → hole st ≤ infix_level o → close (infix_level o) st x l ≡ held st x l
close-stays o [] x l h = refl
close-stays o (f.Group ∷ st) x l h = refl
close-stays o (f.Applied c ∷ st) x l h = refl
close-stays o (f.GivenFirst ∷ st) x l h = refl
close-stays o (f.GivenSecond y ∷ st) x l h = refl
close-stays o (f.Prefix q ∷ st) x l h = chosen-gt _ _ _ _ (apart q o h)
close-stays o (f.Infix r y ∷ st) x l h = chosen-gt (infix_level o) (infix_level r) _ _ (omega arith)

run_more : (ts us : List Token) (o : Option State) → ((s : State) → run s (ts ++ us) ≡ option_and_then (λ s'. run s' us) (run s ts)) → option_and_then (λ s'. run s' (ts ++ us)) o ≡ option_and_then (λ s'. run s' us) (option_and_then (λ s'. run s' ts) o)
run_more ts us None h = refl
run_more ts us (Some s) h = h s

run-append : (ts us : List Token) (s : State) → run s (ts ++ us) ≡ option_and_then (λ s'. run s' us) (run s ts)
run-append [] us s = refl
run-append (t ∷ ts) us s = run_more ts us (step s t) (run-append ts us)

-- the tokens lead to an operand, once what binds tighter is closed
record Comes (st : List Frame) (ts : List Token) (x : Operand) (l : ℕ) : Type 0 where
  stack' : List Frame
  operand' : Operand
  level' : ℕ
  runs : run (state st m.Want) ts ≡ Some (state stack' (m.Have operand' level'))
  closes : (k : ℕ) → k ≤ l → close k stack' operand' level' ≡ close k st x l

-- a single token that is an operand
token_comes : (st : List Frame) (ts : List Token) (x : Operand) → run (state st m.Want) ts ≡ Some (state st (m.Have x 7)) → Comes st ts x 7
token_comes st ts x is = record { stack' = st; operand' = x; level' = 7; runs = is; closes = λ k le. refl }

then_token : (st : List Frame) (ts us : List Token) (t : Token) (x : Operand) (l : ℕ) (c : Comes st ts x l) → run (state st m.Want) (ts ++ t ∷ us) ≡ option_and_then (λ s. run s us) (having c.stack' c.operand' c.level' t)
then_token st ts us t x l c = run-append ts (t ∷ us) (state st m.Want) ∙ ap (option_and_then (λ s. run s (t ∷ us))) c.runs

-- a closing token, where what is open below needs no level
then_shut : (st : List Frame) (ts us : List Token) (x : Operand) (l : ℕ) (c : Comes st ts x l) → close 0 st x l ≡ held st x l → run (state st m.Want) (ts ++ t.Sign g.Close ∷ us) ≡ option_and_then (λ s. run s us) (shut (held st x l))
then_shut st ts us x l c e = then_token st ts us (t.Sign g.Close) x l c ∙ ap (λ a. option_and_then (λ s. run s us) (shut a)) (c.closes 0 (omega arith) ∙ e)

then_comma : (st : List Frame) (ts us : List Token) (x : Operand) (l : ℕ) (c : Comes st ts x l) → close 0 st x l ≡ held st x l → run (state st m.Want) (ts ++ t.Sign g.Comma ∷ us) ≡ option_and_then (λ s. run s us) (parted (held st x l))
then_comma st ts us x l c e = then_token st ts us (t.Sign g.Comma) x l c ∙ ap (λ a. option_and_then (λ s. run s us) (parted a)) (c.closes 0 (omega arith) ∙ e)

abbrev BareComes : Term → List Token → Type 0
BareComes x us = (st : List Frame) → hole st ≤ level_of x → Comes st us (operand_of x) (level_of x)

wrapped_comes : (x : Term) (n : ℕ) (us : List Token) → BareComes x us → (st : List Frame) → hole st ≤ level_in n x → Comes st (wrapped n us) (operand_of x) (level_in n x)
wrapped_comes x zero us bare st h = bare st h
wrapped_comes x (suc n) us bare st h =
    let c = wrapped_comes x n us bare (f.Group ∷ st) (omega arith) in
    token_comes st (enclosed (wrapped n us)) (operand_of x) (then_shut (f.Group ∷ st) (wrapped n us) [] (operand_of x) (level_in n x) c refl)

at_comes : (x : Term) (l : ℕ) (ts : List Token) → At (Bare x) x l ts → ((us : List Token) → Bare x us → BareComes x us) → (st : List Frame) → hole st ≤ l → (k : ℕ) × (l ≤ k) × Comes st ts (operand_of x) k
at_comes x l ts (n, us, is, le, bare) ih st h =
    (level_in n x, le, subst (λ z. Comes st z (operand_of x) (level_in n x)) (sym is) (wrapped_comes x n us (ih us bare) st (omega arith)))

prefix_step : (q : Prefix) (st : List Frame) → step (state st m.Want) (prefix_token q) ≡ prefixed q st
prefix_step p.Not st = refl
prefix_step p.Minus st = refl

infix_step : (o : Infix) (st : List Frame) (x : Operand) (l : ℕ) → having st x l (infix_token o) ≡ joined o st x l
infix_step o st x l = ap (λ z. having_as z st x l (infix_token o)) (infix_of-token o)

before_comes : (q : Prefix) (x : Term) (us : List Token) (st : List Frame) → hole st ≤ prefix_level q → (k : ℕ) × (prefix_level q ≤ k) × Comes (f.Prefix q ∷ st) us (operand_of x) k → Comes st (prefix_token q ∷ us) (operand_of (Before q x)) (prefix_level q)
before_comes q x us st h (k, le, c) = record {
  stack' = c.stack';
  operand' = c.operand';
  level' = c.level';
  runs = ap (option_and_then (λ s. run s us)) (prefix_step q st ∙ chosen-le _ _ _ _ h) ∙ c.runs;
  closes = λ j j_le. c.closes j (omega arith) ∙ chosen-le _ _ _ _ j_le;
}

between_comes : (o : Infix) (x y : Term) (us vs : List Token) (st : List Frame) → hole st ≤ infix_level o → (k : ℕ) × (left_level o ≤ k) × Comes st us (operand_of x) k → (k : ℕ) × (infix_level o + 1 ≤ k) × Comes (f.Infix o (operand_of x) ∷ st) vs (operand_of y) k → Comes st (us ++ infix_token o ∷ vs) (operand_of (Between o x y)) (infix_level o)
between_comes o x y us vs st h (k, le, c) (k', le', d) = record {
  stack' = d.stack';
  operand' = d.operand';
  level' = d.level';
  runs = then_token st us vs (infix_token o) (operand_of x) k c
      ∙ ap (option_and_then (λ s. run s vs)) (infix_step o c.stack' c.operand' c.level' ∙ ap (shift o) (c.closes (infix_level o) (omega (arith, left_ge o)) ∙ close-stays o st (operand_of x) k h) ∙ chosen-le _ _ _ _ le)
      ∙ d.runs;
  closes = λ j j_le. d.closes j (omega arith) ∙ chosen-le _ _ _ _ j_le;
}

call_steps : (c : Call) (st : List Frame) (us : List Token) → run (state st m.Want) (call_token c ∷ t.Sign g.Open ∷ us) ≡ run (state (f.Applied c ∷ st) m.Want) us
call_steps c.Len st us = refl
call_steps c.Text st us = refl

applied_comes : (c : Call) (x : Term) (us : List Token) (st : List Frame) → (k : ℕ) × (0 ≤ k) × Comes (f.Applied c ∷ st) us (operand_of x) k → Comes st (call_token c ∷ enclosed us) (operand_of (Applied c x)) 7
applied_comes c x us st (k, le, d) =
    token_comes st (call_token c ∷ enclosed us) (operand_of (Applied c x)) (call_steps c st (us ++ t.Sign g.Close ∷ []) ∙ then_shut (f.Applied c ∷ st) us [] (operand_of x) k d refl)

given_comes : (x y : Term) (us vs : List Token) (st : List Frame) → (k : ℕ) × (0 ≤ k) × Comes (f.GivenFirst ∷ st) us (operand_of x) k → (k : ℕ) × (0 ≤ k) × Comes (f.GivenSecond (operand_of x) ∷ st) vs (operand_of y) k → Comes st (t.Word w.Given ∷ enclosed (us ++ t.Sign g.Comma ∷ vs)) (operand_of (Given x y)) 7
given_comes x y us vs st (k, le, c) (k', le', d) =
    token_comes st (t.Word w.Given ∷ enclosed (us ++ t.Sign g.Comma ∷ vs)) (operand_of (Given x y))
    (ap (run (state (f.GivenFirst ∷ st) m.Want)) (append_assoc us (t.Sign g.Comma ∷ vs) (t.Sign g.Close ∷ []))
    ∙ then_comma (f.GivenFirst ∷ st) us (vs ++ t.Sign g.Close ∷ []) (operand_of x) k c refl
    ∙ then_shut (f.GivenSecond (operand_of x) ∷ st) vs [] (operand_of y) k' d refl)

bare_comes : (x : Term) (ts : List Token) → Bare x ts → BareComes x ts
bare_comes (Number n) ts is st h = subst (λ z. Comes st z (operand_of (Number n)) 7) (sym is) (token_comes st _ _ refl)
bare_comes (Text b) ts is st h = subst (λ z. Comes st z (operand_of (Text b)) 7) (sym is) (token_comes st _ _ refl)
bare_comes Nothing ts is st h = subst (λ z. Comes st z (operand_of Nothing) 7) (sym is) (token_comes st _ _ refl)
bare_comes (Name n) ts is st h = subst (λ z. Comes st z (operand_of (Name n)) 7) (sym is) (token_comes st _ _ refl)
bare_comes (Before q x) ts (us, is, at) st h =
    subst (λ z. Comes st z (operand_of (Before q x)) (prefix_level q)) (sym is)
    (before_comes q x us st h (at_comes x (prefix_level q) us at (bare_comes x) (f.Prefix q ∷ st) (omega arith)))
bare_comes (Between o x y) ts (us, vs, is, at_x, at_y) st h =
    subst (λ z. Comes st z (operand_of (Between o x y)) (infix_level o)) (sym is)
    (between_comes o x y us vs st h (at_comes x (left_level o) us at_x (bare_comes x) st (omega (arith, left_ge o))) (at_comes y (infix_level o + 1) vs at_y (bare_comes y) (f.Infix o (operand_of x) ∷ st) (omega arith)))
bare_comes (Applied c x) ts (us, is, at) st h =
    subst (λ z. Comes st z (operand_of (Applied c x)) 7) (sym is) (applied_comes c x us st (at_comes x 0 us at (bare_comes x) (f.Applied c ∷ st) (omega arith)))
bare_comes (Given x y) ts (us, vs, is, at_x, at_y) st h =
    subst (λ z. Comes st z (operand_of (Given x y)) 7) (sym is)
    (given_comes x y us vs st (at_comes x 0 us at_x (bare_comes x) (f.GivenFirst ∷ st) (omega arith)) (at_comes y 0 vs at_y (bare_comes y) (f.GivenSecond (operand_of x) ∷ st) (omega arith)))

-- what is spelled is read
pub spelled_is_read : (x : Term) (ts : List Token) → Spells x ts → operand_read ts ≡ Some (operand_of x)
spelled_is_read x ts at =
    let found = at_comes x 0 ts at (bare_comes x) [] (omega arith) in
    let c = found.2 in
    ap (option_and_then finish) c.runs ∙ ap (λ (a : Waiting). ended a.stack a.operand) (c.closes 0 (omega arith))
