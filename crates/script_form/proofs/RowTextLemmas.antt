-- The canonical text of a row is its canonical tokens, which spell it and are in their limits.
use Rattle.script_form.proofs.Names.{◌≡◌, ℕ, ◌<◌, ◌^◌, true, false, List, [], ◌∷◌, ◌++◌, refl, ap, ◌∙◌, subst, arith, append-nil, codes, not, ◌&&◌, ◌||◌, nat_lt, nat_le, le-leb, lt-ltb, Token, Ends, IsTokens, IsToken, AreTokens, all_in_limits, is_dot, opens_object, is_object_number, objects_fit, in_range, spells, Spot, Fixed, At, text, canonical-spells, AllFit, AllFit-append, AllFit-canonical, SpellsSpot, SpellsRow, Row, spot_tokens, row_tokens, spot_text, row_text, SpotInLimits, RowInLimits, SpotUpTo, RowUpTo}
use Rattle.std.specs.Fmt.{decimal}
use Rattle.token_form.specs.declared.tokens.Token.TheVariants as t
use Rattle.token_form.specs.declared.tokens.Word.TheVariants as w
use Rattle.token_form.specs.declared.tokens.Sign.TheVariants as g
use Rattle.token_form.specs.Tokens as tokens
use Rattle.token_form.proofs.Seams.{quiet_ends, quiet_space, quiet_dot, quiet_open_bracket, quiet_close_bracket, after_space, seam, first, alone}
use Rattle.expression_form.specs.Canonical.{canonical}
use Rattle.expression_form.proofs.TextLemmas.{text-tokens}
use Rattle.script_form.specs.Row as r

-- ---- they spell it

spot_tokens-spell : (place : Spot) → SpotInLimits place → SpellsSpot place (spot_tokens place)
spot_tokens-spell (Fixed object) h = (refl, h.0, h.1)
spot_tokens-spell (At n x) h = (canonical x, refl, h.0, canonical-spells x)

pub row_tokens-spell : (row : Row) → RowInLimits row → SpellsRow row (row_tokens row)
row_tokens-spell (r.Let name x) h = (canonical x, refl, canonical-spells x)
row_tokens-spell (r.Read name place) h = (spot_tokens place, refl, spot_tokens-spell place h.1)
row_tokens-spell (r.Write place x) h = (spot_tokens place, canonical x, refl, spot_tokens-spell place h.0, canonical-spells x)
row_tokens-spell (r.Print x) h = canonical-spells x
row_tokens-spell (r.If x) h = canonical-spells x
row_tokens-spell r.Else h = refl
row_tokens-spell r.End h = refl
row_tokens-spell (r.Repeat x) h = canonical-spells x
row_tokens-spell r.Withdraw h = refl

-- ---- the text is they

number_is : (n : ℕ) → n < 2 ^ 63 → IsToken (t.Number n)
number_is n h = (tt, lt-ltb n (2 ^ 63) h)

number_spells : (n : ℕ) → n < 2 ^ 63 → tokens.Spells (t.Number n) (decimal n)
number_spells n h = spells (t.Number n) (number_is n h)

-- a word and a space
worded : (bytes rest : List ℕ) (token : Token) (more : List Token) → tokens.Spells token bytes → IsTokens rest more → IsTokens (bytes ++ (32 ∷ rest)) (token ∷ more)
worded bytes rest token more spelled h = first token bytes (32 ∷ rest) more spelled (quiet_ends token (32 ∷ rest) (quiet_space rest)) (after_space rest more h)

dot_ends : (bs : List ℕ) → Ends (t.Sign g.Dot) bs
dot_ends [] = tt
dot_ends (b ∷ bs) = refl

bracket_ends : (bs : List ℕ) → Ends (t.Sign g.OpenBracket) bs
bracket_ends [] = tt
bracket_ends (b ∷ bs) = refl

spot_text-tokens : (place : Spot) → SpotInLimits place → IsTokens (spot_text place) (spot_tokens place)
spot_text-tokens (Fixed object) ((low, high), number) =
    let last = alone (t.Number object.number) (decimal object.number) (number_spells object.number (omega arith)) in
    let dotted = first (t.Sign g.Dot) (46 ∷ []) (decimal object.number) (t.Number object.number ∷ []) refl (dot_ends (decimal object.number)) last in
    first (t.Number object.repository) (decimal object.repository) (46 ∷ decimal object.number) (t.Sign g.Dot ∷ t.Number object.number ∷ []) (number_spells object.repository (omega arith))
    (quiet_ends (t.Number object.repository) (46 ∷ decimal object.number) (quiet_dot (decimal object.number))) dotted
spot_text-tokens (At n x) ((low, high), limits) =
    let last = seam (text x) (93 ∷ []) (canonical x) (t.Sign g.CloseBracket ∷ []) (text-tokens x limits) (quiet_close_bracket []) (alone (t.Sign g.CloseBracket) (93 ∷ []) refl) in
    let inside = first (t.Sign g.OpenBracket) (91 ∷ []) (text x ++ 93 ∷ []) (canonical x ++ t.Sign g.CloseBracket ∷ []) refl (bracket_ends (text x ++ 93 ∷ [])) last in
    first (t.Number n) (decimal n) (91 ∷ (text x ++ 93 ∷ [])) (t.Sign g.OpenBracket ∷ (canonical x ++ t.Sign g.CloseBracket ∷ [])) (number_spells n (omega arith))
    (quiet_ends (t.Number n) (91 ∷ (text x ++ 93 ∷ [])) (quiet_open_bracket (text x ++ 93 ∷ []))) inside

pub row_text-tokens : (row : Row) → RowInLimits row → IsTokens (row_text row) (row_tokens row)
row_text-tokens (r.Let name x) h =
    let value = worded (61 ∷ []) (text x) (t.Sign g.Equal) (canonical x) refl (text-tokens x h.1) in
    worded (codes "let") (name ++ (codes " = " ++ text x)) (t.Word w.Let) (t.Name name ∷ t.Sign g.Equal ∷ canonical x) refl (worded name (61 ∷ 32 ∷ text x) (t.Name name) (t.Sign g.Equal ∷ canonical x) (spells (t.Name name) h.0) value)
row_text-tokens (r.Read name place) h =
    worded (codes "read") (name ++ (32 ∷ spot_text place)) (t.Word w.Read) (t.Name name ∷ spot_tokens place) refl (worded name (spot_text place) (t.Name name) (spot_tokens place) (spells (t.Name name) h.0) (spot_text-tokens place h.1))
row_text-tokens (r.Write place x) h =
    worded (codes "write") (spot_text place ++ (32 ∷ text x)) (t.Word w.Write) (spot_tokens place ++ canonical x) refl (seam (spot_text place) (32 ∷ text x) (spot_tokens place) (canonical x) (spot_text-tokens place h.0) (quiet_space (text x)) (after_space (text x) (canonical x) (text-tokens x h.1)))
row_text-tokens (r.Print x) h = worded (codes "print") (text x) (t.Word w.Print) (canonical x) refl (text-tokens x h)
row_text-tokens (r.If x) h = worded (codes "if") (text x) (t.Word w.If) (canonical x) refl (text-tokens x h)
row_text-tokens r.Else h = alone (t.Word w.Else) (codes "else") refl
row_text-tokens r.End h = alone (t.Word w.End) (codes "end") refl
row_text-tokens (r.Repeat x) h = worded (codes "repeat") (text x) (t.Word w.Repeat) (canonical x) refl (text-tokens x h)
row_text-tokens r.Withdraw h = alone (t.Word w.Withdraw) (codes "withdraw") refl

-- ---- they are in their limits

dot_no_object : (token : Token) → opens_object token ≡ false → is_dot token ≡ false
dot_no_object (t.Sign g.Dot) h = h
dot_no_object _ h = refl

-- behind a token that is no `.`
fit-cons : (k : ℕ) (a : Token) (ts : List Token) → is_dot a ≡ false → AllFit ts → objects_fit k (a ∷ ts) ≡ true
fit-cons k a [] h more = refl
fit-cons k a (b ∷ ts) h (is, no_object, more) =
    ap (λ z. ((not z || tokens.is_repository k a) && (not (is_dot a) || is_object_number b)) && objects_fit k (b ∷ ts)) no_object
    ∙ ap (λ z. (not z || is_object_number b) && objects_fit k (b ∷ ts)) h
    ∙ fit-cons k b ts (dot_no_object b no_object) more

fit-all : (k : ℕ) (ts : List Token) → AllFit ts → objects_fit k ts ≡ true
fit-all k [] a = refl
fit-all k (token ∷ ts) (is, no_object, more) = fit-cons k token ts (dot_no_object token no_object) more

AreTokens-fit : (ts : List Token) → AllFit ts → AreTokens ts
AreTokens-fit [] a = tt
AreTokens-fit (token ∷ ts) (is, no_object, more) = (is, AreTokens-fit ts more)

AreTokens-append : (ts us : List Token) → AreTokens ts → AreTokens us → AreTokens (ts ++ us)
AreTokens-append [] us a b = b
AreTokens-append (token ∷ ts) us (is, more) b = (is, AreTokens-append ts us more b)

limits_of : (ts : List Token) → AreTokens ts → all_in_limits ts ≡ true
limits_of [] a = refl
limits_of (token ∷ ts) (is, more) = ap (λ z. z && all_in_limits ts) is.1 ∙ limits_of ts more

spot_tokens-are : (place : Spot) → SpotInLimits place → AreTokens (spot_tokens place)
spot_tokens-are (Fixed object) ((low, high), number) = (number_is object.repository (omega arith), ((tt, refl), (number_is object.number (omega arith), tt)))
spot_tokens-are (At n x) ((low, high), limits) = (number_is n (omega arith), ((tt, refl), AreTokens-append (canonical x) (t.Sign g.CloseBracket ∷ []) (AreTokens-fit (canonical x) (AllFit-canonical x limits)) ((tt, refl), tt)))

row_tokens-are : (row : Row) → RowInLimits row → AreTokens (row_tokens row)
row_tokens-are (r.Let name x) h = ((tt, refl), (h.0, ((tt, refl), AreTokens-fit (canonical x) (AllFit-canonical x h.1))))
row_tokens-are (r.Read name place) h = ((tt, refl), (h.0, spot_tokens-are place h.1))
row_tokens-are (r.Write place x) h = ((tt, refl), AreTokens-append (spot_tokens place) (canonical x) (spot_tokens-are place h.0) (AreTokens-fit (canonical x) (AllFit-canonical x h.1)))
row_tokens-are (r.Print x) h = ((tt, refl), AreTokens-fit (canonical x) (AllFit-canonical x h))
row_tokens-are (r.If x) h = ((tt, refl), AreTokens-fit (canonical x) (AllFit-canonical x h))
row_tokens-are r.Else h = ((tt, refl), tt)
row_tokens-are r.End h = ((tt, refl), tt)
row_tokens-are (r.Repeat x) h = ((tt, refl), AreTokens-fit (canonical x) (AllFit-canonical x h))
row_tokens-are r.Withdraw h = ((tt, refl), tt)

-- an object, and what is behind it
spot_fits : (k : ℕ) (place : Spot) (ts : List Token) → SpotInLimits place → SpotUpTo k place → AllFit ts → objects_fit k (spot_tokens place ++ ts) ≡ true
spot_fits k (Fixed object) ts ((low, high), number) up_to more =
    ap (λ z. ((z && nat_le object.repository k) && true) && (nat_lt object.number (2 ^ 32) && objects_fit k (t.Number object.number ∷ ts))) (le-leb 1 object.repository low)
    ∙ ap (λ z. (z && true) && (nat_lt object.number (2 ^ 32) && objects_fit k (t.Number object.number ∷ ts))) (le-leb object.repository k up_to)
    ∙ ap (λ z. z && objects_fit k (t.Number object.number ∷ ts)) (lt-ltb object.number (2 ^ 32) number)
    ∙ fit-cons k (t.Number object.number) ts refl more
spot_fits k (At n x) ts ((low, high), limits) up_to more =
    let behind : AllFit ((canonical x ++ t.Sign g.CloseBracket ∷ []) ++ ts) = AllFit-append (canonical x ++ t.Sign g.CloseBracket ∷ []) ts (AllFit-append (canonical x) (t.Sign g.CloseBracket ∷ []) (AllFit-canonical x limits) ((tt, refl), refl, tt)) more in
    ap (λ z. ((z && nat_le n k) && true) && objects_fit k (t.Sign g.OpenBracket ∷ ((canonical x ++ t.Sign g.CloseBracket ∷ []) ++ ts))) (le-leb 1 n low)
    ∙ ap (λ z. (z && true) && objects_fit k (t.Sign g.OpenBracket ∷ ((canonical x ++ t.Sign g.CloseBracket ∷ []) ++ ts))) (le-leb n k up_to)
    ∙ fit-cons k (t.Sign g.OpenBracket) ((canonical x ++ t.Sign g.CloseBracket ∷ []) ++ ts) refl behind

-- a word or a name before an object
before_spot : (k : ℕ) (token : Token) (place : Spot) (ts : List Token) → is_dot token ≡ false → objects_fit k (spot_tokens place ++ ts) ≡ true → objects_fit k (token ∷ (spot_tokens place ++ ts)) ≡ true
before_spot k token (Fixed object) ts h fits = ap (λ z. (true && (not z || is_object_number (t.Number object.repository))) && objects_fit k (spot_tokens (Fixed object) ++ ts)) h ∙ fits
before_spot k token (At n x) ts h fits = ap (λ z. (true && (not z || is_object_number (t.Number n))) && objects_fit k (spot_tokens (At n x) ++ ts)) h ∙ fits

row_fits : (k : ℕ) (row : Row) → RowInLimits row → RowUpTo k row → objects_fit k (row_tokens row) ≡ true
row_fits k (r.Let name x) h up_to = fit-all k (row_tokens (r.Let name x)) ((tt, refl), refl, (h.0, refl, ((tt, refl), refl, AllFit-canonical x h.1)))
row_fits k (r.Read name place) h up_to =
    subst (λ z. objects_fit k (t.Word w.Read ∷ t.Name name ∷ z) ≡ true) (append-nil (spot_tokens place)) (before_spot k (t.Name name) place [] refl (spot_fits k place [] h.1 up_to tt))
row_fits k (r.Write place x) h up_to = before_spot k (t.Word w.Write) place (canonical x) refl (spot_fits k place (canonical x) h.0 up_to (AllFit-canonical x h.1))
row_fits k (r.Print x) h up_to = fit-cons k (t.Word w.Print) (canonical x) refl (AllFit-canonical x h)
row_fits k (r.If x) h up_to = fit-cons k (t.Word w.If) (canonical x) refl (AllFit-canonical x h)
row_fits k r.Else h up_to = refl
row_fits k r.End h up_to = refl
row_fits k (r.Repeat x) h up_to = fit-cons k (t.Word w.Repeat) (canonical x) refl (AllFit-canonical x h)
row_fits k r.Withdraw h up_to = refl

pub row_tokens-in_range : (greatest : ℕ) (row : Row) → RowInLimits row → RowUpTo greatest row → in_range greatest (row_tokens row) ≡ true
row_tokens-in_range greatest row h up_to = ap (λ z. z && objects_fit greatest (row_tokens row)) (limits_of (row_tokens row) (row_tokens-are row h)) ∙ row_fits greatest row h up_to
