-- Texts are read as they are spelled.
use Rattle.token_form.proofs.Names.{◌≡◌, ℕ, ◌+◌, ◌-◌, ◌*◌, ◌<◌, ◌≤◌, true, false, cond, List, [], ◌∷◌, ◌++◌, Some, None, refl, sym, ap, ◌∙◌, subst, arith, append_assoc, append-nil, ◌==◌, ◌&&◌, not, nat_lt, is_in_range, nat_tests, hex_digit_of, Token, is_plain, Writes, itself, quote, backslash, line_end, by_digits, WritesAll, Spells, Ends, hex_value, plain_piece, escape_piece, high_piece, low_piece, piece_at, is_spot, taken, inside, text_then, text_at, first_token}
use Rattle.token_form.specs.declared.quotes.Spot.{Spot}
use Rattle.token_form.specs.declared.quotes.Spot.TheVariants as at
use Rattle.token_form.specs.declared.quotes.Piece.{Piece}
use Rattle.token_form.specs.declared.quotes.Piece.TheVariants as piece
use Rattle.token_form.specs.declared.tokens.Token.TheVariants as t
use Rattle.token_form.proofs.Runs.{by_test, if_true, if_false, both, not_true, some_is, by_option, Fronted}

-- ---- digits

below_10 : (d : ℕ) → nat_lt d 10 ≡ true → hex_value (48 + d) ≡ Some d
below_10 d e =
    let low : is_in_range 48 57 (48 + d) ≡ true = grind (arith, nat_tests) in
    if_true _ _ _ low ∙ ap Some (let k : 48 + d - 48 ≡ d = omega arith in k)

from_10 : (d : ℕ) → d < 16 → nat_lt d 10 ≡ false → hex_value (97 + (d - 10)) ≡ Some d
from_10 d h e =
    let k : 10 ≤ d = grind (arith, nat_tests) in
    let low : is_in_range 48 57 (97 + (d - 10)) ≡ false = grind (arith, nat_tests) in
    let high : is_in_range 97 102 (97 + (d - 10)) ≡ true = grind (arith, nat_tests) in
    if_false _ _ _ low ∙ if_true _ _ _ high ∙ ap Some (let m : 97 + (d - 10) - 97 + 10 ≡ d = omega arith in m)

hex_is_read : (d : ℕ) → d < 16 → hex_value (hex_digit_of d) ≡ Some d
hex_is_read d h = by_test (nat_lt d 10) (λ p. hex_value (cond p (48 + d) (97 + (d - 10))) ≡ Some d) (below_10 d) (from_10 d h)

low_is_digit : (b d : ℕ) → is_in_range 48 57 b ≡ true → b - 48 ≡ d → (d < 16) × (b ≡ hex_digit_of d)
low_is_digit b d e is =
    let k : (48 ≤ b) × (b ≤ 57) = (grind (arith, nat_tests), grind (arith, nat_tests)) in
    let small : nat_lt d 10 ≡ true = grind (arith, nat_tests) in
    (omega arith, (let m : b ≡ 48 + d = omega arith in m) ∙ sym (if_true (nat_lt d 10) (48 + d) (97 + (d - 10)) small))

high_is_digit : (b d : ℕ) → is_in_range 97 102 b ≡ true → b - 97 + 10 ≡ d → (d < 16) × (b ≡ hex_digit_of d)
high_is_digit b d e is =
    let k : (97 ≤ b) × (b ≤ 102) = (grind (arith, nat_tests), grind (arith, nat_tests)) in
    let large : nat_lt d 10 ≡ false = grind (arith, nat_tests) in
    (omega arith, (let m : b ≡ 97 + (d - 10) = omega arith in m) ∙ sym (if_false (nat_lt d 10) (48 + d) (97 + (d - 10)) large))

hex_is_digit : (b d : ℕ) → hex_value b ≡ Some d → (d < 16) × (b ≡ hex_digit_of d)
hex_is_digit b d e =
    by_test (is_in_range 48 57 b) (λ p. cond p (Some (b - 48)) (cond (is_in_range 97 102 b) (Some (b - 97 + 10)) None) ≡ Some d → (d < 16) × (b ≡ hex_digit_of d))
    (λ low is. low_is_digit b d low (some_is _ _ is))
    (λ other. by_test (is_in_range 97 102 b) (λ p. cond p (Some (b - 97 + 10)) None ≡ Some d → (d < 16) × (b ≡ hex_digit_of d))
    (λ high is. high_is_digit b d high (some_is _ _ is))
    (λ no_digit is. absurd (cc)))
    e

-- ---- what is written is read

plain_gives : (b : ℕ) → is_plain b ≡ true → plain_piece b ≡ piece.Gives b
plain_gives b e =
    let k = both (is_in_range 32 126 b && not (b == 34)) (not (b == 92)) e in
    let m = both (is_in_range 32 126 b) (not (b == 34)) k.0 in
    if_false _ _ _ (not_true (b == 34) m.1) ∙ if_false _ _ _ (not_true (b == 92) k.1) ∙ if_true _ _ _ m.0

written_is_read : (b : ℕ) (front : List ℕ) → Writes b front → (so_far rest : List ℕ) → inside at.Plain so_far (front ++ rest) ≡ inside at.Plain (so_far ++ b ∷ []) rest
written_is_read b front (itself e) so_far rest = ap (λ p. taken p so_far rest (λ next more. inside next more rest)) (plain_gives b e)
written_is_read b front quote so_far rest = refl
written_is_read b front backslash so_far rest = refl
written_is_read b front line_end so_far rest = refl
written_is_read b front (by_digits high low h l) so_far rest =
    ap (λ p. taken (high_piece p) so_far (hex_digit_of low ∷ rest) (λ next more. inside next more (hex_digit_of low ∷ rest))) (hex_is_read high h)
    ∙ ap (λ p. taken (low_piece high p) so_far rest (λ next more. inside next more rest)) (hex_is_read low l)

content_is_read : (content written rest so_far : List ℕ) → WritesAll content written → inside at.Plain so_far (written ++ 34 ∷ rest) ≡ Some (so_far ++ content, rest)
content_is_read [] written rest so_far none =
    subst (λ z. inside at.Plain so_far (z ++ 34 ∷ rest) ≡ Some (so_far ++ [], rest)) (sym none) (ap (λ z. Some (z, rest)) (sym (append-nil so_far)))
content_is_read (b ∷ bs) written rest so_far (front, more, parts, writes, all) =
    subst (λ z. inside at.Plain so_far (z ++ 34 ∷ rest) ≡ Some (so_far ++ b ∷ bs, rest)) (sym parts)
    (ap (inside at.Plain so_far) (append_assoc front more (34 ∷ rest))
    ∙ written_is_read b front writes so_far (more ++ 34 ∷ rest)
    ∙ content_is_read bs more rest (so_far ++ b ∷ []) all
    ∙ ap (λ z. Some (z, rest)) (append_assoc so_far (b ∷ []) bs))

pub spelled_text_is_read : (content front rest : List ℕ) → Spells (t.Text content) front → first_token (front ++ rest) ≡ Some (t.Text content, rest)
spelled_text_is_read content front rest (written, parts, all) =
    subst (λ z. first_token (z ++ rest) ≡ Some (t.Text content, rest)) (sym parts)
    (ap (λ z. text_at z) (append_assoc written (34 ∷ []) rest) ∙ ap text_then (content_is_read content written rest [] all))

-- ---- what is read is written so

-- the bytes of an escape that stand before this spot
begun : Spot → List ℕ
begun at.Plain = []
begun at.Escape = 92 ∷ []
begun at.HighDigit = 92 ∷ 120 ∷ []
begun (at.LowDigit high) = 92 ∷ 120 ∷ hex_digit_of high ∷ []

abbrev Means : Spot → ℕ → Piece → Type 0
Means spot b piece.Closes = (begun spot ≡ []) × (b ≡ 34)
Means spot b piece.Refused = Unit {0}
Means spot b (piece.Goes next) = (begun next ≡ begun spot ++ b ∷ []) × (is_spot next ≡ true)
Means spot b (piece.Gives c) = Writes c (begun spot ++ b ∷ [])

plain_means : (b : ℕ) → Means at.Plain b (plain_piece b)
unfolding begun
plain_means b =
    by_test (b == 34) (λ p. Means at.Plain b (cond p piece.Closes (cond (b == 92) (piece.Goes at.Escape) (cond (is_in_range 32 126 b) (piece.Gives b) piece.Refused))))
    (λ e. (refl, let k : b ≡ 34 = grind (arith, nat_tests) in k))
    (λ e. by_test (b == 92) (λ p. Means at.Plain b (cond p (piece.Goes at.Escape) (cond (is_in_range 32 126 b) (piece.Gives b) piece.Refused)))
    (λ f. (ap (λ z. z ∷ []) (let k : 92 ≡ b = grind (arith, nat_tests) in k), refl))
    (λ f. by_test (is_in_range 32 126 b) (λ p. Means at.Plain b (cond p (piece.Gives b) piece.Refused))
    (λ h. itself (rw (h, e, f) refl))
    (λ h. tt)))

escape_means : (b : ℕ) → Means at.Escape b (escape_piece b)
unfolding begun
escape_means b =
    by_test (b == 34) (λ p. Means at.Escape b (cond p (piece.Gives 34) (cond (b == 92) (piece.Gives 92) (cond (b == 110) (piece.Gives 10) (cond (b == 120) (piece.Goes at.HighDigit) piece.Refused)))))
    (λ e. subst (λ z. Writes 34 (92 ∷ z ∷ [])) (let k : 34 ≡ b = grind (arith, nat_tests) in k) quote)
    (λ e. by_test (b == 92) (λ p. Means at.Escape b (cond p (piece.Gives 92) (cond (b == 110) (piece.Gives 10) (cond (b == 120) (piece.Goes at.HighDigit) piece.Refused))))
    (λ f. subst (λ z. Writes 92 (92 ∷ z ∷ [])) (let k : 92 ≡ b = grind (arith, nat_tests) in k) backslash)
    (λ f. by_test (b == 110) (λ p. Means at.Escape b (cond p (piece.Gives 10) (cond (b == 120) (piece.Goes at.HighDigit) piece.Refused)))
    (λ h. subst (λ z. Writes 10 (92 ∷ z ∷ [])) (let k : 110 ≡ b = grind (arith, nat_tests) in k) line_end)
    (λ h. by_test (b == 120) (λ p. Means at.Escape b (cond p (piece.Goes at.HighDigit) piece.Refused))
    (λ i. (ap (λ z. 92 ∷ z ∷ []) (let k : 120 ≡ b = grind (arith, nat_tests) in k), refl))
    (λ i. tt))))

high_means : (b : ℕ) → Means at.HighDigit b (high_piece (hex_value b))
unfolding begun
high_means b = by_option (hex_value b) (λ o. Means at.HighDigit b (high_piece o)) tt
    (λ high e. let k = hex_is_digit b high e in (ap (λ z. 92 ∷ 120 ∷ z ∷ []) (sym k.1), let small : nat_lt high 16 ≡ true = grind (arith, nat_tests) in small))

low_means : (high b : ℕ) → high < 16 → Means (at.LowDigit high) b (low_piece high (hex_value b))
unfolding begun
low_means high b h = by_option (hex_value b) (λ o. Means (at.LowDigit high) b (low_piece high o)) tt
    (λ low e. let k = hex_is_digit b low e in subst (λ z. Writes (16 * high + low) (92 ∷ 120 ∷ hex_digit_of high ∷ z ∷ [])) (sym k.1) (by_digits high low h k.0))

piece_means : (spot : Spot) (b : ℕ) → is_spot spot ≡ true → Means spot b (piece_at spot b)
piece_means at.Plain b s = plain_means b
piece_means at.Escape b s = escape_means b
piece_means at.HighDigit b s = high_means b
piece_means (at.LowDigit high) b s = low_means high b (let k : high < 16 = grind (arith, nat_tests) in k)

abbrev Closed : Spot → List ℕ → List ℕ → List ℕ → List ℕ → Type 0
Closed spot so_far bytes content rest = (more written : List ℕ) × (content ≡ so_far ++ more) × (begun spot ++ bytes ≡ written ++ 34 ∷ rest) × WritesAll more written

module _ (b : ℕ) (bs content rest : List ℕ) (spot : Spot) (so_far : List ℕ) (later : (next : Spot) (more : List ℕ) → is_spot next ≡ true → inside next more bs ≡ Some (content, rest) → Closed next more bs content rest) where
  after_piece : (p : Piece) → Means spot b p → taken p so_far bs (λ next more. inside next more bs) ≡ Some (content, rest) → Closed spot so_far (b ∷ bs) content rest
  unfolding begun
  after_piece piece.Closes (none, is) e =
      let k = some_is _ _ e in
      ([], [], sym (ap (λ p. p.0) k) ∙ sym (append-nil so_far), ap (λ z. z ++ b ∷ bs) none ∙ ap (λ z. z ∷ bs) is ∙ ap (λ p. 34 ∷ p.1) k, refl)
  after_piece piece.Refused m e = absurd (cc)
  after_piece (piece.Goes next) (begins, is) e =
      let (more, written, c, parts, all) = later next so_far is e in
      (more, written, c, sym (append_assoc (begun spot) (b ∷ []) bs) ∙ ap (λ z. z ++ bs) (sym begins) ∙ parts, all)
  after_piece (piece.Gives given) writes e =
      let (more, written, c, parts, all) = later at.Plain (so_far ++ given ∷ []) refl e in
      let front = begun spot ++ b ∷ [] in (
        given ∷ more,
        front ++ written,
        c ∙ append_assoc so_far (given ∷ []) more,
        sym (append_assoc (begun spot) (b ∷ []) bs) ∙ ap (λ z. front ++ z) parts ∙ sym (append_assoc front written (34 ∷ rest)),
        (front, written, refl, writes, all),
      )

content_is_written : (bytes content rest : List ℕ) (spot : Spot) (so_far : List ℕ) → is_spot spot ≡ true → inside spot so_far bytes ≡ Some (content, rest) → Closed spot so_far bytes content rest
content_is_written [] content rest spot so_far s e = absurd (cc)
content_is_written (b ∷ bs) content rest spot so_far s e =
    after_piece b bs content rest spot so_far (λ next more is f. content_is_written bs content rest next more is f) (piece_at spot b) (piece_means spot b s) e

text_ends : (content rest : List ℕ) → Ends (t.Text content) rest
text_ends content [] = tt
text_ends content (b ∷ bs) = refl

-- what a text at the front is
pub read_text_is_spelled : (bs : List ℕ) (token : Token) (rest : List ℕ) → text_at bs ≡ Some (token, rest) → Fronted (34 ∷ bs) token rest
unfolding begun
read_text_is_spelled bs token rest = by_option (inside at.Plain [] bs) (λ o. text_then o ≡ Some (token, rest) → Fronted (34 ∷ bs) token rest) (λ e. absurd (cc))
    (λ found is e. subst (λ p. Fronted (34 ∷ bs) p.0 p.1) (some_is _ _ e)
    (let (more, written, c, parts, all) = content_is_written bs found.0 found.1 at.Plain [] refl is in
    (34 ∷ (written ++ 34 ∷ []), ap (λ z. 34 ∷ z) (parts ∙ sym (append_assoc written (34 ∷ []) found.1)), (written, refl, subst (λ z. WritesAll z written) (sym c) all), text_ends found.0 found.1)))
