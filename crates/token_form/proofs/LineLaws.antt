-- A line is read as the one list of tokens that it is.
use Rattle.token_form.proofs.Names.{◌≡◌, ℕ, zero, suc, Bool, true, false, cond, List, [], ◌∷◌, ◌++◌, length, Option, Some, None, refl, sym, ap, ◌∙◌, subst, arith, append_assoc, append-nil, ◌==◌, ◌&&◌, is_ascii_digit, is_in_range, nat_tests, Token, is_letter, is_name_byte, Spells, Ends, spaces, IsTokens, in_limits, all_in_limits, objects_fit, in_range, number_from, passes, front_of, rest_of, name_token, text_at, sign_token, first_token, kept, read_then, read_token}
use Rattle.token_form.specs.declared.byte_runs.Run.TheVariants as run
use Rattle.token_form.specs.declared.tokens.Token.TheVariants as t
use Rattle.token_form.proofs.Runs.{by_test, by_option, some_is, both, Stops, Fronted, front-rest}
use Rattle.token_form.proofs.NameLaws.{spelled_name_is_read, spelled_word_is_read, read_name_is_spelled}
use Rattle.token_form.proofs.NumberLaws.{spelled_number_is_read, read_number_is_spelled, zero_ends}
use Rattle.token_form.proofs.QuoteLaws.{spelled_text_is_read, read_text_is_spelled}
use Rattle.token_form.proofs.SignLaws.{spelled_sign_is_read, read_sign_is_spelled}

-- ---- the token at the front

name_stops : (name rest : List ℕ) → Ends (t.Name name) rest → Stops is_name_byte rest
name_stops name [] ends = tt
name_stops name (b ∷ bs) ends = ends

-- what is spelled is read
pub spelled_is_read : (token : Token) (front rest : List ℕ) → Spells token front → Ends token rest → first_token (front ++ rest) ≡ Some (token, rest)
spelled_is_read (t.Name name) front rest (same, is, free) ends =
    subst (λ z. first_token (z ++ rest) ≡ Some (t.Name name, rest)) (sym same) (spelled_name_is_read name rest is free (name_stops name rest ends))
spelled_is_read (t.Number n) front rest (is, value) ends = spelled_number_is_read n front rest is value ends
spelled_is_read (t.Text content) front rest spells ends = spelled_text_is_read content front rest spells
spelled_is_read (t.Word word) front rest same ends =
    subst (λ z. first_token (z ++ rest) ≡ Some (t.Word word, rest)) (sym same) (spelled_word_is_read word rest (name_stops [] rest (as_name rest ends)))
  where
    as_name : (rest : List ℕ) → Ends (t.Word word) rest → Ends (t.Name []) rest
    as_name [] e = tt
    as_name (b ∷ bs) e = e
spelled_is_read (t.Sign sign) front rest same ends =
    subst (λ z. first_token (z ++ rest) ≡ Some (t.Sign sign, rest)) (sym same) (spelled_sign_is_read sign rest ends)

-- what is read is spelled so
pub read_is_spelled : (bytes : List ℕ) (token : Token) (rest : List ℕ) → first_token bytes ≡ Some (token, rest) → Fronted bytes token rest
read_is_spelled [] token rest e = absurd (cc)
read_is_spelled (b ∷ bs) token rest e =
    by_test (is_letter b) (λ p. cond p (Some (name_token (front_of is_name_byte (b ∷ bs)), rest_of is_name_byte (b ∷ bs))) digits ≡ Some (token, rest) → Fronted (b ∷ bs) token rest)
    (λ letter is. subst (λ p. Fronted (b ∷ bs) p.0 p.1) (some_is _ _ is)
    (let k = read_name_is_spelled b bs letter in (front_of is_name_byte (b ∷ bs), front-rest is_name_byte (b ∷ bs), k.0, k.1)))
    (λ other. by_test (b == 48) (λ p. cond p (Some (t.Number 0, bs)) more_digits ≡ Some (token, rest) → Fronted (b ∷ bs) token rest)
    (λ zero_digit is. subst (λ p. Fronted (b ∷ bs) p.0 p.1) (some_is _ _ is)
    (48 ∷ [], ap (λ z. z ∷ bs) (let k : b ≡ 48 = grind (arith, nat_tests) in k), ((refl, tt, λ k. refl), refl), zero_ends bs))
    (λ other. by_test (is_in_range 49 57 b) (λ p. cond p (Some (t.Number (number_from 0 (front_of is_ascii_digit (b ∷ bs))), rest_of is_ascii_digit (b ∷ bs))) quotes ≡ Some (token, rest) → Fronted (b ∷ bs) token rest)
    (λ digit is. subst (λ p. Fronted (b ∷ bs) p.0 p.1) (some_is _ _ is)
    (let k = read_number_is_spelled b bs digit in (front_of is_ascii_digit (b ∷ bs), front-rest is_ascii_digit (b ∷ bs), k.0, k.1)))
    (λ other. by_test (b == 34) (λ p. cond p (text_at bs) (sign_token b bs) ≡ Some (token, rest) → Fronted (b ∷ bs) token rest)
    (λ quote is. subst (λ z. Fronted (z ∷ bs) token rest) (let k : 34 ≡ b = grind (arith, nat_tests) in k) (read_text_is_spelled bs token rest is))
    (λ other is. read_sign_is_spelled b bs token rest is))))
    e
  where
    quotes : Option (Token × List ℕ)
    quotes = cond (b == 34) (text_at bs) (sign_token b bs)

    more_digits : Option (Token × List ℕ)
    more_digits = cond (is_in_range 49 57 b) (Some (t.Number (number_from 0 (front_of is_ascii_digit (b ∷ bs))), rest_of is_ascii_digit (b ∷ bs))) quotes

    digits : Option (Token × List ℕ)
    digits = cond (b == 48) (Some (t.Number 0, bs)) more_digits

-- ---- spaces

abbrev pub unspaced : List ℕ → List ℕ
unspaced bytes = rest_of (passes run.Spaces) bytes

unspaced-spaces : (n : ℕ) (bytes : List ℕ) → unspaced (spaces n ++ bytes) ≡ unspaced bytes
unspaced-spaces zero bytes = refl
unspaced-spaces (suc n) bytes = unspaced-spaces n bytes

spaces-unspaced : (bytes : List ℕ) → (n : ℕ) × (bytes ≡ spaces n ++ unspaced bytes)
spaces-unspaced [] = (0, refl)
spaces-unspaced (b ∷ bs) =
    by_test (b == 32) (λ p. (n : ℕ) × (b ∷ bs ≡ spaces n ++ cond p (unspaced bs) (b ∷ bs)))
    (λ same. let (n, e) = spaces-unspaced bs in (suc n, (let k : b ≡ 32 = grind (arith, nat_tests) in ap (λ z. z ∷ bs) k) ∙ ap (λ z. 32 ∷ z) e))
    (λ other. (0, refl))

unspaced-all : (n : ℕ) → unspaced (spaces n) ≡ []
unspaced-all zero = refl
unspaced-all (suc n) = unspaced-all n

-- no token begins with a space
space_is_no_token : (bs : List ℕ) (found : Token × List ℕ) → first_token (32 ∷ bs) ≡ Some found → ⊥
space_is_no_token bs found e = let k : ◌≡◌ {A = Option (Token × List ℕ)} None (Some found) = e in absurd (cc)

unspaced-cons : (b : ℕ) (bs : List ℕ) (found : Token × List ℕ) → first_token (b ∷ bs) ≡ Some found → unspaced (b ∷ bs) ≡ b ∷ bs
unspaced-cons b bs found e =
    by_test (b == 32) (λ p. cond p (unspaced bs) (b ∷ bs) ≡ b ∷ bs)
    (λ same. absurd (space_is_no_token bs found (subst (λ z. first_token (z ∷ bs) ≡ Some found) (let k : b ≡ 32 = grind (arith, nat_tests) in k) e)))
    (λ other. refl)

unspaced-first : (bytes : List ℕ) (found : Token × List ℕ) → first_token bytes ≡ Some found → unspaced bytes ≡ bytes
unspaced-first [] found e = refl
unspaced-first (b ∷ bs) found e = unspaced-cons b bs found e

-- ---- lists of tokens, read from the front

pub tokens_begin : (bytes : List ℕ) (token : Token) (more : List Token) → IsTokens bytes (token ∷ more) → (rest : List ℕ) × (first_token (unspaced bytes) ≡ Some (token, rest)) × IsTokens rest more
tokens_begin bytes token more (n, front, rest, parts, spells, ends, next) =
    let read = spelled_is_read token front rest spells ends in
    (rest, ap (λ z. first_token (unspaced z)) parts ∙ ap first_token (unspaced-spaces n (front ++ rest) ∙ unspaced-first (front ++ rest) (token, rest) read) ∙ read, next)

pub tokens_go_on : (bytes : List ℕ) (token : Token) (rest : List ℕ) (more : List Token) → first_token (unspaced bytes) ≡ Some (token, rest) → IsTokens rest more → IsTokens bytes (token ∷ more)
tokens_go_on bytes token rest more e next =
    let (n, parts) = spaces-unspaced bytes in
    let (front, whole, spells, ends) = read_is_spelled (unspaced bytes) token rest e in
    (n, front, rest, parts ∙ ap (λ z. spaces n ++ z) whole, spells, ends, next)

pub tokens_end : (bytes : List ℕ) → IsTokens bytes [] → unspaced bytes ≡ []
tokens_end bytes (n, e) = ap unspaced e ∙ unspaced-all n

pub tokens_are_none : (bytes : List ℕ) → unspaced bytes ≡ [] → IsTokens bytes []
tokens_are_none bytes e = let (n, parts) = spaces-unspaced bytes in (n, parts ∙ ap (λ z. spaces n ++ z) e ∙ append-nil (spaces n))

-- a line is one list of tokens at most
pub one_list : (bytes : List ℕ) (ts us : List Token) → IsTokens bytes ts → IsTokens bytes us → ts ≡ us
one_list bytes [] [] p q = refl
one_list bytes [] (u ∷ us) p q = let k = tokens_begin bytes u us q in let m : first_token [] ≡ Some (u, k.0) = ap first_token (sym (tokens_end bytes p)) ∙ k.1 in absurd (cc)
one_list bytes (x ∷ ts) [] p q = let k = tokens_begin bytes x ts p in let m : first_token [] ≡ Some (x, k.0) = ap first_token (sym (tokens_end bytes q)) ∙ k.1 in absurd (cc)
one_list bytes (x ∷ ts) (u ∷ us) p q =
    let j = tokens_begin bytes x ts p in
    let k = tokens_begin bytes u us q in
    let same = some_is _ _ (sym j.1 ∙ k.1) in
    let more = one_list k.0 ts us (subst (λ z. IsTokens z ts) (ap (λ p. p.1) same) j.2) k.2 in
    ap (λ z. z ∷ ts) (ap (λ p. p.0) same) ∙ ap (λ z. u ∷ z) more

-- ---- a line that was read up to a place

pub record Sofar (line rest : List ℕ) (tokens : List Token) (fits : Bool) : Type 0 where
  -- the tokens so far, and the bytes that are left
  pub found : List Token
  pub pending : List ℕ
  pub rest_is : rest ≡ unspaced pending
  pub joins : (ts : List Token) → IsTokens pending ts → IsTokens line (found ++ ts)
  pub only : (ts : List Token) → IsTokens line ts → (us : List Token) × (ts ≡ found ++ us) × IsTokens pending us
  -- whether they are in their limits; then they are kept
  pub fits_is : fits ≡ all_in_limits found
  pub kept_is : fits ≡ true → tokens ≡ found

and_assoc : (p q r : Bool) → (p && (q && r)) ≡ ((p && q) && r)
and_assoc true q r = refl
and_assoc false q r = refl

limits-append : (found : List Token) (token : Token) → all_in_limits (found ++ token ∷ []) ≡ (all_in_limits found && in_limits token)
limits-append [] token = elim (in_limits token) as (λ p. (p && true) ≡ p) [ true ↦ refl | false ↦ refl ]
limits-append (x ∷ found) token = ap (λ z. in_limits x && z) (limits-append found token) ∙ and_assoc (in_limits x) (all_in_limits found) (in_limits token)

-- the token that was read, kept or not
read_is : (bytes after : List ℕ) (kind : Option Token) → read_token bytes ≡ Some (kind, after) → (token : Token) × (first_token bytes ≡ Some (token, after)) × (kept token ≡ kind)
read_is bytes after kind = by_option (first_token bytes) (λ o. read_then o ≡ Some (kind, after) → (token : Token) × (o ≡ Some (token, after)) × (kept token ≡ kind)) (λ e. absurd (cc))
    (λ found is e. let k = some_is _ _ e in (found.0, ap (λ z. Some (found.0, z)) (ap (λ p. p.1) k), ap (λ p. p.0) k))

-- a token more, whatever its limits
module _ (line rest after : List ℕ) (tokens : List Token) (fits : Bool) (s : Sofar line rest tokens fits) (token : Token) (first : first_token rest ≡ Some (token, after)) where
  here : first_token (unspaced s.pending) ≡ Some (token, after)
  here = ap first_token (sym s.rest_is) ∙ first

  joined : (ts : List Token) → IsTokens after ts → IsTokens line ((s.found ++ token ∷ []) ++ ts)
  joined ts h = subst (IsTokens line) (sym (append_assoc s.found (token ∷ []) ts)) (s.joins (token ∷ ts) (tokens_go_on s.pending token after ts here h))

  left : (us : List Token) → IsTokens s.pending us → (vs : List Token) × (us ≡ token ∷ vs) × IsTokens after vs
  left [] h = let m : first_token [] ≡ Some (token, after) = ap first_token (sym (tokens_end s.pending h)) ∙ here in absurd (cc)
  left (u ∷ us) h =
      let k = tokens_begin s.pending u us h in
      let same = some_is _ _ (sym k.1 ∙ here) in
      (us, ap (λ p. p.0 ∷ us) same, subst (λ z. IsTokens z us) (ap (λ p. p.1) same) k.2)

  only_more : (ts : List Token) → IsTokens line ts → (vs : List Token) × (ts ≡ (s.found ++ token ∷ []) ++ vs) × IsTokens after vs
  only_more ts h =
      let (us, parts, pending) = s.only ts h in
      let (vs, front, next) = left us pending in
      (vs, parts ∙ ap (λ z. s.found ++ z) front ∙ sym (append_assoc s.found (token ∷ []) vs), next)

kept_some : (token x : Token) → kept token ≡ Some x → (token ≡ x) × (in_limits token ≡ true)
kept_some token x = by_test (in_limits token) (λ p. cond p (Some token) None ≡ Some x → (token ≡ x) × (p ≡ true)) (λ e is. (some_is _ _ is, refl)) (λ e is. absurd (cc))

kept_none : (token : Token) → kept token ≡ None → in_limits token ≡ false
kept_none token = by_test (in_limits token) (λ p. cond p (Some token) None ≡ None → p ≡ false) (λ e is. absurd (cc)) (λ e is. refl)

-- a token that is kept
pub keeps : (line rest after : List ℕ) (tokens : List Token) (fits : Bool) (x : Token) → Sofar line rest tokens fits → read_token rest ≡ Some (Some x, after) → Sofar line (unspaced after) (tokens ++ x ∷ []) fits
keeps line rest after tokens fits x s read =
    let (token, first, is) = read_is rest after (Some x) read in
    let k = kept_some token x is in
    record {
      found = s.found ++ token ∷ [];
      pending = after;
      rest_is = refl;
      joins = joined line rest after tokens fits s token first;
      only = only_more line rest after tokens fits s token first;
      fits_is = s.fits_is ∙ sym (limits-append s.found token ∙ ap (λ z. all_in_limits s.found && z) k.1 ∙ and_true (all_in_limits s.found));
      kept_is = λ e. ap (λ z. z ++ x ∷ []) (s.kept_is e) ∙ ap (λ z. s.found ++ z ∷ []) (sym k.0);
    }
  where
    and_true : (p : Bool) → (p && true) ≡ p
    and_true true = refl
    and_true false = refl

-- a token that passes a limit
pub passes_over : (line rest after : List ℕ) (tokens : List Token) (fits : Bool) → Sofar line rest tokens fits → read_token rest ≡ Some (None, after) → Sofar line (unspaced after) tokens false
passes_over line rest after tokens fits s read =
    let (token, first, is) = read_is rest after None read in
    record {
      found = s.found ++ token ∷ [];
      pending = after;
      rest_is = refl;
      joins = joined line rest after tokens fits s token first;
      only = only_more line rest after tokens fits s token first;
      fits_is = sym (limits-append s.found token ∙ ap (λ z. all_in_limits s.found && z) (kept_none token is) ∙ and_false (all_in_limits s.found));
      kept_is = λ e. absurd (cc);
    }
  where
    and_false : (p : Bool) → (p && false) ≡ false
    and_false true = refl
    and_false false = refl

-- where no token stands, the line is no list of tokens
pub no_tokens : (line rest : List ℕ) (tokens : List Token) (fits : Bool) → Sofar line rest tokens fits → (rest ≡ [] → ⊥) → read_token rest ≡ None → (ts : List Token) → IsTokens line ts → ⊥
no_tokens line rest tokens fits s some none ts h = let (us, parts, pending) = s.only ts h in at us pending
  where
    no_first : first_token rest ≡ None
    no_first = by_option (first_token rest) (λ o. read_then o ≡ None → o ≡ None) (λ e. refl) (λ found is e. absurd (cc)) none

    at : (us : List Token) → IsTokens s.pending us → ⊥
    at [] pending = some (s.rest_is ∙ tokens_end s.pending pending)
    at (u ∷ us) pending = let k = tokens_begin s.pending u us pending in let m : ◌≡◌ {A = Option (Token × List ℕ)} None (Some (u, k.0)) = sym no_first ∙ ap first_token s.rest_is ∙ k.1 in absurd (cc)

-- the line's end
pub all_read : (line : List ℕ) (tokens : List Token) (fits : Bool) (s : Sofar line [] tokens fits) → IsTokens line s.found
all_read line tokens fits s = subst (IsTokens line) (append-nil s.found) (s.joins [] (tokens_are_none s.pending (sym s.rest_is)))

pub in_range_read : (greatest : ℕ) (line : List ℕ) (tokens : List Token) (fits : Bool) → Sofar line [] tokens fits → (fits && objects_fit greatest tokens) ≡ true → IsTokens line tokens × (in_range greatest tokens ≡ true)
in_range_read greatest line tokens fits s e =
    let k = both fits (objects_fit greatest tokens) e in
    let same = s.kept_is k.0 in (
      subst (IsTokens line) (sym same) (all_read line tokens fits s),
      ap (λ z. z && objects_fit greatest tokens) (ap all_in_limits same ∙ sym s.fits_is ∙ k.0) ∙ k.1,
    )

pub out_of_range_read : (greatest : ℕ) (line : List ℕ) (tokens : List Token) (fits : Bool) → Sofar line [] tokens fits → (fits && objects_fit greatest tokens) ≡ false → (ts : List Token) × IsTokens line ts × (in_range greatest ts ≡ false)
out_of_range_read greatest line tokens fits s e = (s.found, all_read line tokens fits s, at fits refl e)
  where
    at : (p : Bool) → fits ≡ p → (p && objects_fit greatest tokens) ≡ false → in_range greatest s.found ≡ false
    at true is out = ap (λ z. z && objects_fit greatest s.found) (sym s.fits_is ∙ is) ∙ ap (objects_fit greatest) (sym (s.kept_is is)) ∙ out
    at false is out = ap (λ z. z && objects_fit greatest s.found) (sym s.fits_is ∙ is)

-- the same place, by other names
pub moved : (line rest rest2 : List ℕ) (tokens tokens2 : List Token) (fits fits2 : Bool) → rest2 ≡ rest → tokens2 ≡ tokens → fits2 ≡ fits → Sofar line rest tokens fits → Sofar line rest2 tokens2 fits2
moved line rest rest2 tokens tokens2 fits fits2 r t f s =
    subst (λ z. Sofar line z tokens2 fits2) (sym r) (subst (λ z. Sofar line rest z fits2) (sym t) (subst (λ z. Sofar line rest tokens z) (sym f) s))

pub some_left : (rest : List ℕ) (empty : Bool) → empty ≡ (length rest == 0) → empty ≡ false → rest ≡ [] → ⊥
some_left rest empty e f none = let k : empty ≡ true = e ∙ ap (λ z. length z == 0) none in absurd (cc)

pub none_left : (rest : List ℕ) (empty : Bool) → empty ≡ (length rest == 0) → empty ≡ true → rest ≡ []
none_left [] empty e t = refl
none_left (b ∷ bs) empty e t = let k : (length (b ∷ bs) == 0) ≡ true = sym e ∙ t in absurd (grind (arith, nat_tests))
