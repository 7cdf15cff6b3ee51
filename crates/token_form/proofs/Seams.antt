-- Lists of tokens one behind another.
use Rattle.token_form.proofs.Names.{◌≡◌, ℕ, zero, suc, ◌+◌, false, List, [], ◌∷◌, ◌++◌, refl, sym, ap, ◌∙◌, subst, arith, append_assoc, append-nil, Token, Spells, goes_on, Ends, spaces, IsTokens}
use Rattle.token_form.specs.declared.tokens.Sign.TheVariants as g
use Rattle.token_form.specs.declared.tokens.Token.TheVariants as t

-- no token goes on with what stands here
abbrev pub Quiet : List ℕ → Type 0
Quiet [] = Unit {0}
Quiet (b ∷ bs) = (token : Token) → goes_on token b ≡ false

pub quiet_at : (b : ℕ) → goes_on (t.Number 1) b ≡ false → goes_on (t.Name []) b ≡ false → goes_on (t.Sign g.Less) b ≡ false → goes_on (t.Sign g.Greater) b ≡ false → (token : Token) → goes_on token b ≡ false
quiet_at b digit name less greater (t.Name _) = name
quiet_at b digit name less greater (t.Number zero) = refl
quiet_at b digit name less greater (t.Number (suc n)) = digit
quiet_at b digit name less greater (t.Text _) = refl
quiet_at b digit name less greater (t.Word _) = name
quiet_at b digit name less greater (t.Sign g.Less) = less
quiet_at b digit name less greater (t.Sign g.Greater) = greater
quiet_at b digit name less greater (t.Sign _) = refl

pub quiet_space : (bs : List ℕ) → Quiet (32 ∷ bs)
quiet_space bs = quiet_at 32 refl refl refl refl

pub quiet_open : (bs : List ℕ) → Quiet (40 ∷ bs)
quiet_open bs = quiet_at 40 refl refl refl refl

pub quiet_close : (bs : List ℕ) → Quiet (41 ∷ bs)
quiet_close bs = quiet_at 41 refl refl refl refl

pub quiet_comma : (bs : List ℕ) → Quiet (44 ∷ bs)
quiet_comma bs = quiet_at 44 refl refl refl refl

pub quiet_dot : (bs : List ℕ) → Quiet (46 ∷ bs)
quiet_dot bs = quiet_at 46 refl refl refl refl

pub quiet_open_bracket : (bs : List ℕ) → Quiet (91 ∷ bs)
quiet_open_bracket bs = quiet_at 91 refl refl refl refl

pub quiet_close_bracket : (bs : List ℕ) → Quiet (93 ∷ bs)
quiet_close_bracket bs = quiet_at 93 refl refl refl refl

-- what is quiet ends each token
pub quiet_ends : (token : Token) (bs : List ℕ) → Quiet bs → Ends token bs
quiet_ends token [] q = tt
quiet_ends token (b ∷ bs) q = q token

pub ends_more : (token : Token) (a b : List ℕ) → Ends token a → Quiet b → Ends token (a ++ b)
ends_more token [] b e q = quiet_ends token b q
ends_more token (x ∷ a) b e q = e

spaces-append : (j k : ℕ) → spaces j ++ spaces k ≡ spaces (j + k)
spaces-append zero k = ap spaces (let e : k ≡ 0 + k = omega arith in e)
spaces-append (suc j) k = ap (λ z. 32 ∷ z) (spaces-append j k) ∙ ap spaces (let e : suc (j + k) ≡ suc j + k = omega arith in e)

-- spaces before tokens
pub after_spaces : (k : ℕ) (bytes : List ℕ) (tokens : List Token) → IsTokens bytes tokens → IsTokens (spaces k ++ bytes) tokens
after_spaces k bytes [] (j, e) = (k + j, ap (λ z. spaces k ++ z) e ∙ spaces-append k j)
after_spaces k bytes (token ∷ more) (j, front, rest, e, spells, ends, next) = (
  k + j,
  front,
  rest,
  ap (λ z. spaces k ++ z) e ∙ sym (append_assoc (spaces k) (spaces j) (front ++ rest)) ∙ ap (λ z. z ++ (front ++ rest)) (spaces-append k j),
  spells,
  ends,
  next,
)

pub after_space : (bytes : List ℕ) (tokens : List Token) → IsTokens bytes tokens → IsTokens (32 ∷ bytes) tokens
after_space bytes tokens h = after_spaces 1 bytes tokens h

-- tokens, and more tokens behind them
pub seam : (a b : List ℕ) (ts us : List Token) → IsTokens a ts → Quiet b → IsTokens b us → IsTokens (a ++ b) (ts ++ us)
seam a b [] us (k, e) q h = subst (λ z. IsTokens (z ++ b) us) (sym e) (after_spaces k b us h)
seam a b (token ∷ ts) us (k, front, rest, e, spells, ends, more) q h = (
  k,
  front,
  rest ++ b,
  ap (λ z. z ++ b) e ∙ append_assoc (spaces k) (front ++ rest) b ∙ ap (λ z. spaces k ++ z) (append_assoc front rest b),
  spells,
  ends_more token rest b ends q,
  seam rest b ts us more q h,
)

-- a token before others
pub first : (token : Token) (front rest : List ℕ) (more : List Token) → Spells token front → Ends token rest → IsTokens rest more → IsTokens (front ++ rest) (token ∷ more)
first token front rest more spells ends h = (0, front, rest, refl, spells, ends, h)

-- a token alone
pub alone : (token : Token) (front : List ℕ) → Spells token front → IsTokens front (token ∷ [])
alone token front spells = subst (λ z. IsTokens z (token ∷ [])) (append-nil front) (first token front [] [] spells tt (0, refl))
