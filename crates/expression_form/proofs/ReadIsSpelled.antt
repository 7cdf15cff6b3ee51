-- What is read is spelled.
use Rattle.expression_form.proofs.Names.{◌≡◌, ℕ, suc, ◌+◌, ◌≤◌, List, [], ◌∷◌, ◌++◌, Option, Some, None, refl, sym, ap, ◌∙◌, subst, arith, append_assoc, append-nil, option_and_then, Token, Prefix, Infix, Term, Number, Text, Nothing, Name, Before, Between, Applied, Given, Operand, Frame, infix_level, left_level, prefix_level, infix_token, prefix_token, call_token, enclosed, level_of, Bare, SpellsAt, before, between, applied, given, operand_of, infix_of, hole, Waiting, close, State, state, shift, shut_at, parted_at, prefixed, joined, wanting, opening, closing, having_as, step_at, step, run, finish, finish_at, ended, operand_read}
use Rattle.token_form.specs.declared.tokens.Token.TheVariants as t
use Rattle.token_form.specs.declared.tokens.Word.TheVariants as w
use Rattle.token_form.specs.declared.tokens.Sign.TheVariants as g
use Rattle.value_form.specs.declared.expressions.Prefix.TheVariants as p
use Rattle.expression_form.specs.declared.frames.Frame.TheVariants as f
use Rattle.expression_form.specs.declared.frames.Head.{Head}
use Rattle.expression_form.specs.declared.frames.Head.TheVariants as h
use Rattle.expression_form.specs.declared.frames.Mode.{Mode}
use Rattle.expression_form.specs.declared.frames.Mode.TheVariants as m
use Rattle.expression_form.proofs.LevelLemmas.{infix_le, prefix_le, chosen, IsInfix, infix_of-is}

-- the tokens spell, at this level, an expression of which this is the operand
abbrev pub Writes : Operand → ℕ → List Token → Type 0
Writes x l ts = (y : Term) × (operand_of y ≡ x) × SpellsAt l y ts

-- an operand fits where a lower level is needed
lower : (x : Operand) (l k : ℕ) (ts : List Token) → k ≤ l → Writes x l ts → Writes x k ts
lower x l k ts le' (y, is_x, (n, us, is, le, bare)) = (y, is_x, (n, us, is, omega arith, bare))

-- a spelling without parentheses
alone : (x : Operand) (y : Term) (ts : List Token) → operand_of y ≡ x → Bare y ts → Writes x (level_of y) ts
alone x y ts is bare = (y, is, (0, ts, refl, omega arith, bare))

-- with one more pair of parentheses
grouped : (x : Operand) (l : ℕ) (ts : List Token) → Writes x l ts → Writes x 7 (enclosed ts)
grouped x l ts (y, is_x, (n, us, is, le, bare)) = (y, is_x, (suc n, us, ap enclosed is, omega arith, bare))

-- the tokens before an operand, by what they left open
abbrev Opened : List Frame → List Token → Type 0
Opened [] ts = ts ≡ []
Opened (f.Group ∷ st) ts = (us : List Token) × (ts ≡ us ++ t.Sign g.Open ∷ []) × Opened st us
Opened (f.Applied c ∷ st) ts = (us : List Token) × (ts ≡ us ++ call_token c ∷ t.Sign g.Open ∷ []) × Opened st us
Opened (f.GivenFirst ∷ st) ts = (us : List Token) × (ts ≡ us ++ t.Word w.Given ∷ t.Sign g.Open ∷ []) × Opened st us
Opened (f.GivenSecond x ∷ st) ts =
    (us vs : List Token) × (ts ≡ us ++ (t.Word w.Given ∷ t.Sign g.Open ∷ (vs ++ t.Sign g.Comma ∷ []))) × Opened st us × Writes x 0 vs
Opened (f.Prefix q ∷ st) ts = (us : List Token) × (ts ≡ us ++ prefix_token q ∷ []) × Opened st us × (hole st ≤ prefix_level q)
Opened (f.Infix o x ∷ st) ts =
    (us vs : List Token) × (ts ≡ us ++ (vs ++ infix_token o ∷ [])) × Opened st us × Writes x (left_level o) vs × (hole st ≤ infix_level o)

-- the tokens with an operand at the end
record HasRead (st : List Frame) (x : Operand) (l : ℕ) (ts : List Token) : Type 0 where
  before' : List Token
  after' : List Token
  is : ts ≡ before' ++ after'
  opened : Opened st before'
  fits : hole st ≤ l
  writes : Writes x l after'

abbrev head_token : Head → Token
head_token (h.Applied c) = call_token c
head_token h.Given = t.Word w.Given

abbrev Reached : List Frame → Mode → List Token → Type 0
Reached st m.Want ts = Opened st ts
Reached st (m.Opens head) ts = (us : List Token) × (ts ≡ us ++ head_token head ∷ []) × Opened st us
Reached st (m.Have x l) ts = HasRead st x l ts

abbrev HeldRead : Waiting → List Token → Type 0
HeldRead a ts = HasRead a.stack a.operand a.level ts

-- ---- closing keeps what was read

prefix_read : (q : Prefix) (st : List Frame) (x : Operand) (l : ℕ) (ts : List Token) → HasRead (f.Prefix q ∷ st) x l ts → HasRead st (before q x) (prefix_level q) ts
prefix_read q st x l ts r = let o = r.opened in
    record {
      before' = o.0;
      after' = prefix_token q ∷ r.after';
      is = r.is ∙ ap (λ z. z ++ r.after') o.1 ∙ append_assoc o.0 (prefix_token q ∷ []) r.after';
      opened = o.2;
      fits = o.3;
      writes = let u = lower x l (prefix_level q) r.after' r.fits r.writes in alone (before q x) (Before q u.0) (prefix_token q ∷ r.after') (ap (before q) u.1) (r.after', refl, u.2);
    }

infix_read : (o : Infix) (y : Operand) (st : List Frame) (x : Operand) (l : ℕ) (ts : List Token) → HasRead (f.Infix o y ∷ st) x l ts → HasRead st (between o y x) (infix_level o) ts
infix_read o y st x l ts r = let a = r.opened in
    record {
      before' = a.0;
      after' = a.1 ++ infix_token o ∷ r.after';
      is = r.is ∙ ap (λ z. z ++ r.after') a.2 ∙ append_assoc a.0 (a.1 ++ infix_token o ∷ []) r.after' ∙ ap (λ z. a.0 ++ z) (append_assoc a.1 (infix_token o ∷ []) r.after');
      opened = a.3;
      fits = a.5;
      writes =
          let u = lower x l (infix_level o + 1) r.after' r.fits r.writes in
          let v = a.4 in
          alone (between o y x) (Between o v.0 u.0) (a.1 ++ infix_token o ∷ r.after') (ap (λ z. between o z (operand_of u.0)) v.1 ∙ ap (between o y) u.1) (a.1, r.after', refl, v.2, u.2);
    }

close_read : (k : ℕ) (st : List Frame) (x : Operand) (l : ℕ) (ts : List Token) → HasRead st x l ts → HeldRead (close k st x l) ts
close_read k [] x l ts r = r
close_read k (f.Group ∷ st) x l ts r = r
close_read k (f.Applied c ∷ st) x l ts r = r
close_read k (f.GivenFirst ∷ st) x l ts r = r
close_read k (f.GivenSecond y ∷ st) x l ts r = r
close_read k (f.Prefix q ∷ st) x l ts r =
    chosen (λ a. HeldRead a ts) k (prefix_level q) _ _ (λ le. close_read k st (before q x) (prefix_level q) ts (prefix_read q st x l ts r)) (λ lt. r)
close_read k (f.Infix o y ∷ st) x l ts r =
    chosen (λ a. HeldRead a ts) k (infix_level o) _ _ (λ le. close_read k st (between o y x) (infix_level o) ts (infix_read o y st x l ts r)) (λ lt. r)

-- nothing that binds at least at this level is open
close_hole : (k : ℕ) (st : List Frame) (x : Operand) (l : ℕ) → hole (close k st x l).stack ≤ k
close_hole k [] x l = omega arith
close_hole k (f.Group ∷ st) x l = omega arith
close_hole k (f.Applied c ∷ st) x l = omega arith
close_hole k (f.GivenFirst ∷ st) x l = omega arith
close_hole k (f.GivenSecond y ∷ st) x l = omega arith
close_hole k (f.Prefix q ∷ st) x l =
    chosen (λ (a : Waiting). hole a.stack ≤ k) k (prefix_level q) _ _ (λ le. close_hole k st (before q x) (prefix_level q)) (λ lt. omega arith)
close_hole k (f.Infix o y ∷ st) x l =
    chosen (λ (a : Waiting). hole a.stack ≤ k) k (infix_level o) _ _ (λ le. close_hole k st (between o y x) (infix_level o)) (λ lt. omega arith)

hole_le : (st : List Frame) → hole st ≤ 7
hole_le [] = omega arith
hole_le (f.Group ∷ st) = omega arith
hole_le (f.Applied c ∷ st) = omega arith
hole_le (f.GivenFirst ∷ st) = omega arith
hole_le (f.GivenSecond x ∷ st) = omega arith
hole_le (f.Prefix q ∷ st) = omega (arith, prefix_le q)
hole_le (f.Infix o x ∷ st) = omega (arith, infix_le o)

-- ---- each step keeps what was read

abbrev StateRead : State → List Token → Type 0
StateRead s ts = Reached s.stack s.mode ts

abbrev OnRead : Option State → List Token → Type 0
OnRead None ts = Unit {0}
OnRead (Some s) ts = StateRead s ts

prefixed_read : (q : Prefix) (st : List Frame) (ts : List Token) → Opened st ts → OnRead (prefixed q st) (ts ++ prefix_token q ∷ [])
prefixed_read q st ts o = chosen (λ r. OnRead r (ts ++ prefix_token q ∷ [])) (hole st) (prefix_level q) _ _ (λ le. (ts, refl, o, le)) (λ lt. tt)

-- an expression of one token
leaf_read : (st : List Frame) (y : Term) (token : Token) (ts : List Token) → level_of y ≡ 7 → Bare y (token ∷ []) → Opened st ts → HasRead st (operand_of y) 7 (ts ++ token ∷ [])
leaf_read st y token ts at bare o = record {
  before' = ts;
  after' = token ∷ [];
  is = refl;
  opened = o;
  fits = hole_le st;
  writes = subst (λ l. Writes (operand_of y) l (token ∷ [])) at (alone (operand_of y) y (token ∷ []) refl bare);
}

wanting_read : (st : List Frame) (token : Token) (ts : List Token) → Opened st ts → OnRead (wanting st token) (ts ++ token ∷ [])
wanting_read st (t.Number n) ts o = leaf_read st (Number n) (t.Number n) ts refl refl o
wanting_read st (t.Text b) ts o = leaf_read st (Text b) (t.Text b) ts refl refl o
wanting_read st (t.Name n) ts o = leaf_read st (Name n) (t.Name n) ts refl refl o
wanting_read st (t.Word w.Nothing) ts o = leaf_read st Nothing (t.Word w.Nothing) ts refl refl o
wanting_read st (t.Word w.Not) ts o = prefixed_read p.Not st ts o
wanting_read st (t.Sign g.Minus) ts o = prefixed_read p.Minus st ts o
wanting_read st (t.Sign g.Open) ts o = (ts, refl, o)
wanting_read st (t.Word w.Len) ts o = (ts, refl, o)
wanting_read st (t.Word w.Text) ts o = (ts, refl, o)
wanting_read st (t.Word w.Given) ts o = (ts, refl, o)
wanting_read st _ ts o = tt

opening_read : (st : List Frame) (head : Head) (token : Token) (ts : List Token) → Reached st (m.Opens head) ts → OnRead (opening st head token) (ts ++ token ∷ [])
opening_read st (h.Applied c) (t.Sign g.Open) ts (us, is, o) = (us, ap (λ z. z ++ t.Sign g.Open ∷ []) is ∙ append_assoc us (call_token c ∷ []) (t.Sign g.Open ∷ []), o)
opening_read st h.Given (t.Sign g.Open) ts (us, is, o) = (us, ap (λ z. z ++ t.Sign g.Open ∷ []) is ∙ append_assoc us (t.Word w.Given ∷ []) (t.Sign g.Open ∷ []), o)
opening_read st head _ ts r = tt

shift_read : (o : Infix) (a : Waiting) (ts : List Token) → HeldRead a ts → hole a.stack ≤ infix_level o → OnRead (shift o a) (ts ++ infix_token o ∷ [])
shift_read o a ts r fits =
    chosen (λ s. OnRead s (ts ++ infix_token o ∷ [])) (left_level o) a.level _ _
    (λ le. (r.before', r.after', ap (λ z. z ++ infix_token o ∷ []) r.is ∙ append_assoc r.before' r.after' (infix_token o ∷ []), r.opened, lower a.operand a.level (left_level o) r.after' le r.writes, fits))
    (λ lt. tt)

joined_read : (o : Infix) (st : List Frame) (x : Operand) (l : ℕ) (ts : List Token) → HasRead st x l ts → OnRead (joined o st x l) (ts ++ infix_token o ∷ [])
joined_read o st x l ts r = shift_read o (close (infix_level o) st x l) ts (close_read (infix_level o) st x l ts r) (close_hole (infix_level o) st x l)

shut_read : (st : List Frame) (x : Operand) (l : ℕ) (ts : List Token) → HasRead st x l ts → OnRead (shut_at x st) (ts ++ t.Sign g.Close ∷ [])
shut_read [] x l ts r = tt
shut_read (f.Group ∷ st) x l ts r = let o = r.opened in
    record {
      before' = o.0;
      after' = enclosed r.after';
      is = ap (λ z. z ++ t.Sign g.Close ∷ []) (r.is ∙ ap (λ z. z ++ r.after') o.1) ∙ simp append_assoc;
      opened = o.2;
      fits = hole_le st;
      writes = grouped x l r.after' r.writes;
    }
shut_read (f.Applied c ∷ st) x l ts r = let o = r.opened in
    record {
      before' = o.0;
      after' = call_token c ∷ enclosed r.after';
      is = ap (λ z. z ++ t.Sign g.Close ∷ []) (r.is ∙ ap (λ z. z ++ r.after') o.1) ∙ simp append_assoc;
      opened = o.2;
      fits = hole_le st;
      writes = let u = lower x l 0 r.after' (omega arith) r.writes in alone (applied c x) (Applied c u.0) (call_token c ∷ enclosed r.after') (ap (applied c) u.1) (r.after', refl, u.2);
    }
shut_read (f.GivenSecond y ∷ st) x l ts r = let o = r.opened in
    record {
      before' = o.0;
      after' = t.Word w.Given ∷ enclosed (o.1 ++ t.Sign g.Comma ∷ r.after');
      is = ap (λ z. z ++ t.Sign g.Close ∷ []) (r.is ∙ ap (λ z. z ++ r.after') o.2) ∙ simp append_assoc;
      opened = o.3;
      fits = hole_le st;
      writes =
          let u = lower x l 0 r.after' (omega arith) r.writes in
          let v = o.4 in
          alone (given y x) (Given v.0 u.0) (t.Word w.Given ∷ enclosed (o.1 ++ t.Sign g.Comma ∷ r.after')) (ap (λ z. given z (operand_of u.0)) v.1 ∙ ap (given y) u.1) (o.1, r.after', refl, v.2, u.2);
    }
shut_read (f.GivenFirst ∷ st) x l ts r = tt
shut_read (f.Prefix q ∷ st) x l ts r = tt
shut_read (f.Infix o y ∷ st) x l ts r = tt

parted_read : (st : List Frame) (x : Operand) (l : ℕ) (ts : List Token) → HasRead st x l ts → OnRead (parted_at x st) (ts ++ t.Sign g.Comma ∷ [])
parted_read (f.GivenFirst ∷ st) x l ts r = let o = r.opened in
    (o.0, r.after', ap (λ z. z ++ t.Sign g.Comma ∷ []) (r.is ∙ ap (λ z. z ++ r.after') o.1) ∙ simp append_assoc, o.2, lower x l 0 r.after' (omega arith) r.writes)
parted_read [] x l ts r = tt
parted_read (f.Group ∷ st) x l ts r = tt
parted_read (f.Applied c ∷ st) x l ts r = tt
parted_read (f.GivenSecond y ∷ st) x l ts r = tt
parted_read (f.Prefix q ∷ st) x l ts r = tt
parted_read (f.Infix o y ∷ st) x l ts r = tt

closing_read : (st : List Frame) (x : Operand) (l : ℕ) (token : Token) (ts : List Token) → HasRead st x l ts → OnRead (closing st x l token) (ts ++ token ∷ [])
closing_read st x l (t.Sign g.Close) ts r = let a = close 0 st x l in shut_read a.stack a.operand a.level ts (close_read 0 st x l ts r)
closing_read st x l (t.Sign g.Comma) ts r = let a = close 0 st x l in parted_read a.stack a.operand a.level ts (close_read 0 st x l ts r)
closing_read st x l _ ts r = tt

having_read : (o : Option Infix) (st : List Frame) (x : Operand) (l : ℕ) (token : Token) (ts : List Token) → IsInfix o token → HasRead st x l ts → OnRead (having_as o st x l token) (ts ++ token ∷ [])
having_read (Some o) st x l token ts is r = subst (λ z. OnRead (joined o st x l) (ts ++ z ∷ [])) (sym is) (joined_read o st x l ts r)
having_read None st x l token ts is r = closing_read st x l token ts r

step_read : (st : List Frame) (m : Mode) (token : Token) (ts : List Token) → Reached st m ts → OnRead (step_at st m token) (ts ++ token ∷ [])
step_read st m.Want token ts r = wanting_read st token ts r
step_read st (m.Opens head) token ts r = opening_read st head token ts r
step_read st (m.Have x l) token ts r = having_read (infix_of token) st x l token ts (infix_of-is token) r

then_read : (o : Option State) (ts us : List Token) → OnRead o ts → ((s : State) → StateRead s ts → OnRead (run s us) (ts ++ us)) → OnRead (option_and_then (λ s. run s us) o) (ts ++ us)
then_read None ts us r go = tt
then_read (Some s) ts us r go = go s r

run_read : (us : List Token) (s : State) (ts : List Token) → StateRead s ts → OnRead (run s us) (ts ++ us)
run_read [] s ts r = subst (λ z. StateRead s z) (sym (append-nil ts)) r
run_read (u ∷ us) s ts r =
    subst (λ z. OnRead (run s (u ∷ us)) z) (append_assoc ts (u ∷ []) us)
    (then_read (step s u) (ts ++ u ∷ []) us (step_read s.stack s.mode u ts r) (λ s' r'. run_read us s' (ts ++ u ∷ []) r'))

-- ---- at the end

-- the operand, where there is one, is that of an expression that the tokens spell
abbrev pub OnWritten : Option Operand → List Token → Type 0
OnWritten None ts = Unit {0}
OnWritten (Some x) ts = Writes x 0 ts

ended_read : (st : List Frame) (x : Operand) (l : ℕ) (ts : List Token) → HasRead st x l ts → OnWritten (ended st x) ts
ended_read [] x l ts r =
    let all : r.after' ≡ ts = sym (r.is ∙ ap (λ z. z ++ r.after') r.opened) in
    subst (λ z. Writes x 0 z) all (lower x l 0 r.after' (omega arith) r.writes)
ended_read (_ ∷ st) x l ts r = tt

finish_read : (st : List Frame) (m : Mode) (ts : List Token) → Reached st m ts → OnWritten (finish_at st m) ts
finish_read st (m.Have x l) ts r = let a = close 0 st x l in ended_read a.stack a.operand a.level ts (close_read 0 st x l ts r)
finish_read st m.Want ts r = tt
finish_read st (m.Opens head) ts r = tt

on_finish : (o : Option State) (ts : List Token) → OnRead o ts → OnWritten (option_and_then finish o) ts
on_finish None ts r = tt
on_finish (Some s) ts r = finish_read s.stack s.mode ts r

-- what is read is spelled
pub read_is_spelled : (ts : List Token) → OnWritten (operand_read ts) ts
read_is_spelled ts = on_finish (run (state [] m.Want) ts) ts (run_read ts (state [] m.Want) [] refl)
