-- The canonical text is the canonical tokens.
use Rattle.expression_form.proofs.Names.{ℕ, ◌+◌, Bool, true, false, List, [], ◌∷◌, ◌++◌, refl, sym, subst, append_assoc, codes, Token, Ends, IsTokens, spelling, Prefix, Infix, Call, Term, Number, Text, Nothing, Name, Before, Between, Applied, Given, infix_level, left_level, prefix_level, infix_token, prefix_token, call_token, enclosed, is_looser, enclosed_if, canonical, parenthesized_if, prefix_text, text, InLimits}
use Rattle.token_form.specs.declared.tokens.Token.TheVariants as t
use Rattle.token_form.specs.declared.tokens.Word.TheVariants as w
use Rattle.token_form.specs.declared.tokens.Sign.TheVariants as g
use Rattle.token_form.proofs.Spellings.{spells}
use Rattle.token_form.proofs.Seams.{quiet_ends, quiet_space, quiet_open, quiet_close, quiet_comma, after_space, seam, first, alone}
use Rattle.value_form.specs.declared.expressions.Prefix.TheVariants as p
use Rattle.expression_form.proofs.CanonicalLemmas.{infix_token-plain, call_token-plain}

-- signs with which no longer one begins
pub open_ends : (bs : List ℕ) → Ends (t.Sign g.Open) bs
open_ends [] = tt
open_ends (b ∷ bs) = refl

minus_ends : (bs : List ℕ) → Ends (t.Sign g.Minus) bs
minus_ends [] = tt
minus_ends (b ∷ bs) = refl

-- tokens between parentheses
pub in_parentheses : (bs : List ℕ) (ts : List Token) → IsTokens bs ts → IsTokens (40 ∷ (bs ++ 41 ∷ [])) (enclosed ts)
in_parentheses bs ts h =
    first (t.Sign g.Open) (40 ∷ []) (bs ++ 41 ∷ []) (ts ++ t.Sign g.Close ∷ []) refl (open_ends (bs ++ 41 ∷ [])) (seam bs (41 ∷ []) ts (t.Sign g.Close ∷ []) h (quiet_close []) (alone (t.Sign g.Close) (41 ∷ []) refl))

in_parentheses_if : (b : Bool) (bs : List ℕ) (ts : List Token) → IsTokens bs ts → IsTokens (parenthesized_if b bs) (enclosed_if b ts)
in_parentheses_if false bs ts h = h
in_parentheses_if true bs ts h = in_parentheses bs ts h

prefix_tokens : (o : Prefix) (bs : List ℕ) (ts : List Token) → IsTokens bs ts → IsTokens (prefix_text o ++ bs) (prefix_token o ∷ ts)
prefix_tokens p.Not bs ts h = first (t.Word w.Not) (codes "not") (32 ∷ bs) ts refl refl (after_space bs ts h)
prefix_tokens p.Minus bs ts h = first (t.Sign g.Minus) (codes "-") bs ts refl (minus_ends bs) h

infix_tokens : (o : Infix) (bs cs : List ℕ) (ts us : List Token) → IsTokens bs ts → IsTokens cs us → IsTokens (bs ++ (32 ∷ (spelling (infix_token o) ++ (32 ∷ cs)))) (ts ++ infix_token o ∷ us)
infix_tokens o bs cs ts us h k =
    seam bs (32 ∷ (spelling (infix_token o) ++ (32 ∷ cs))) ts (infix_token o ∷ us) h (quiet_space (spelling (infix_token o) ++ (32 ∷ cs)))
    (after_space (spelling (infix_token o) ++ (32 ∷ cs)) (infix_token o ∷ us)
    (first (infix_token o) (spelling (infix_token o)) (32 ∷ cs) us (infix_token-plain o).0 (quiet_ends (infix_token o) (32 ∷ cs) (quiet_space cs)) (after_space cs us k)))

call_tokens : (f : Call) (bs : List ℕ) (ts : List Token) → IsTokens bs ts → IsTokens (spelling (call_token f) ++ (40 ∷ (bs ++ 41 ∷ []))) (call_token f ∷ enclosed ts)
call_tokens f bs ts h =
    first (call_token f) (spelling (call_token f)) (40 ∷ (bs ++ 41 ∷ [])) (enclosed ts) (call_token-plain f).0 (quiet_ends (call_token f) (40 ∷ (bs ++ 41 ∷ [])) (quiet_open (bs ++ 41 ∷ []))) (in_parentheses bs ts h)

given_tokens : (bs cs : List ℕ) (ts us : List Token) → IsTokens bs ts → IsTokens cs us → IsTokens (codes "given(" ++ (bs ++ (codes ", " ++ (cs ++ 41 ∷ [])))) (t.Word w.Given ∷ enclosed (ts ++ t.Sign g.Comma ∷ us))
given_tokens bs cs ts us h k =
    let last : IsTokens (cs ++ 41 ∷ []) (us ++ t.Sign g.Close ∷ []) = seam cs (41 ∷ []) us (t.Sign g.Close ∷ []) k (quiet_close []) (alone (t.Sign g.Close) (41 ∷ []) refl) in
    let second : IsTokens (44 ∷ 32 ∷ (cs ++ 41 ∷ [])) (t.Sign g.Comma ∷ (us ++ t.Sign g.Close ∷ [])) = first (t.Sign g.Comma) (44 ∷ []) (32 ∷ (cs ++ 41 ∷ [])) (us ++ t.Sign g.Close ∷ []) refl refl (after_space (cs ++ 41 ∷ []) (us ++ t.Sign g.Close ∷ []) last) in
    let both : IsTokens (bs ++ (44 ∷ 32 ∷ (cs ++ 41 ∷ []))) (ts ++ (t.Sign g.Comma ∷ (us ++ t.Sign g.Close ∷ []))) = seam bs (44 ∷ 32 ∷ (cs ++ 41 ∷ [])) ts (t.Sign g.Comma ∷ (us ++ t.Sign g.Close ∷ [])) h (quiet_comma (32 ∷ (cs ++ 41 ∷ []))) second in
    let inside : IsTokens (bs ++ (44 ∷ 32 ∷ (cs ++ 41 ∷ []))) ((ts ++ t.Sign g.Comma ∷ us) ++ t.Sign g.Close ∷ []) = subst (λ z. IsTokens (bs ++ (44 ∷ 32 ∷ (cs ++ 41 ∷ []))) z) (sym (append_assoc ts (t.Sign g.Comma ∷ us) (t.Sign g.Close ∷ []))) both in
    first (t.Word w.Given) (codes "given") (40 ∷ (bs ++ (44 ∷ 32 ∷ (cs ++ 41 ∷ [])))) (enclosed (ts ++ t.Sign g.Comma ∷ us)) refl refl
    (first (t.Sign g.Open) (40 ∷ []) (bs ++ (44 ∷ 32 ∷ (cs ++ 41 ∷ []))) ((ts ++ t.Sign g.Comma ∷ us) ++ t.Sign g.Close ∷ []) refl (open_ends (bs ++ (44 ∷ 32 ∷ (cs ++ 41 ∷ [])))) inside)

pub text-tokens : (x : Term) → InLimits x → IsTokens (text x) (canonical x)
text-tokens (Number n) h = alone (t.Number n) (spelling (t.Number n)) (spells (t.Number n) h)
text-tokens (Text b) h = alone (t.Text b) (spelling (t.Text b)) (spells (t.Text b) h)
text-tokens Nothing h = alone (t.Word w.Nothing) (codes "nothing") refl
text-tokens (Name n) h = alone (t.Name n) n (spells (t.Name n) h)
text-tokens (Before o x) h =
    prefix_tokens o (parenthesized_if (is_looser x (prefix_level o)) (text x)) (enclosed_if (is_looser x (prefix_level o)) (canonical x)) (in_parentheses_if (is_looser x (prefix_level o)) (text x) (canonical x) (text-tokens x h))
text-tokens (Between o x y) h =
    infix_tokens o (parenthesized_if (is_looser x (left_level o)) (text x)) (parenthesized_if (is_looser y (infix_level o + 1)) (text y)) (enclosed_if (is_looser x (left_level o)) (canonical x)) (enclosed_if (is_looser y (infix_level o + 1)) (canonical y))
    (in_parentheses_if (is_looser x (left_level o)) (text x) (canonical x) (text-tokens x h.0)) (in_parentheses_if (is_looser y (infix_level o + 1)) (text y) (canonical y) (text-tokens y h.1))
text-tokens (Applied f x) h = call_tokens f (text x) (canonical x) (text-tokens x h)
text-tokens (Given x y) h = given_tokens (text x) (text y) (canonical x) (canonical y) (text-tokens x h.0) (text-tokens y h.1)
