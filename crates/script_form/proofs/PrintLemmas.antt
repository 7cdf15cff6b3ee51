-- The canonical text of a script is that script.
use Rattle.script_form.proofs.Names.{◌≡◌, ℕ, zero, suc, ◌+◌, ◌-◌, ◌<◌, ◌≤◌, inl, inr, true, false, cond, List, [], ◌∷◌, ◌++◌, length, get_or, take, refl, sym, ap, ◌∙◌, subst, arith, append_assoc, append-nil, replicate, ◌==◌, nat_lt, nat_tests, length-append, length-replicate, Block, Token, by_test, one_list, SpellsRow, Row, Numbered, on, rows, row_depth, row_text, row_tokens, line_text, rows_text, next_line, script_text, lines_from, lines, is_blank, LineRow, LinesRows, ShallowRows, IsScriptLines, Rising, RowsInLimits, IsPrintable}
use Rattle.std.specs.Char.{is_ascii_digit}
use Rattle.std.specs.Int.{is_in_range}
use Rattle.std.specs.Str.Lines.{strip_carriage_return}
use Rattle.value_form.specs.TextForm.{hex_digit_of}
use Rattle.token_form.specs.declared.tokens.Token.TheVariants as t
use Rattle.token_form.specs.declared.tokens.Sign.{Sign}
use Rattle.token_form.specs.declared.tokens.Sign.TheVariants as g
use Rattle.token_form.specs.Tokens.{word_spelling, sign_spelling, is_name_byte, AllPass, IsName, IsNumeral, Writes, itself, quote, backslash, line_end, by_digits, WritesAll, Spells, spaces, IsTokens}
use Rattle.token_form.proofs.NameLaws.{word_is_name}
use Rattle.script_form.proofs.OneRow.{one_row}
use Rattle.script_form.proofs.RowTextLemmas.{row_tokens-spell, row_text-tokens, row_tokens-in_range}
use Rattle.script_form.proofs.BlockLemmas.{one_script}
use Rattle.script_form.specs.Row as r

-- ---- the bytes of tokens

abbrev pub Shown : List ℕ → Type 0
Shown bytes = AllPass (is_in_range 32 126) bytes

pub shown-append : (a b : List ℕ) → Shown a → Shown b → Shown (a ++ b)
shown-append [] b p q = q
shown-append (x ∷ a) b p q = (p.0, shown-append a b p.1 q)

shown_names : (bytes : List ℕ) → AllPass is_name_byte bytes → Shown bytes
shown_names [] p = tt
shown_names (b ∷ bs) p = ((let k = p.0 in grind (arith, nat_tests)), shown_names bs p.1)

shown_name : (bytes : List ℕ) → IsName bytes → Shown bytes
shown_name [] p = absurd p
shown_name (b ∷ bs) p = ((let k = p.0 in grind (arith, nat_tests)), shown_names bs p.1)

shown_digits : (bytes : List ℕ) → AllPass is_ascii_digit bytes → Shown bytes
shown_digits [] p = tt
shown_digits (b ∷ bs) p = ((let k = p.0 in grind (arith, nat_tests)), shown_digits bs p.1)

pub shown_number : (bytes : List ℕ) → IsNumeral bytes → Shown bytes
shown_number [] p = absurd p
shown_number (b ∷ bs) p = ((let k = p.0 in grind (arith, nat_tests)), shown_digits bs p.1)

hex_is_shown : (d : ℕ) → d < 16 → is_in_range 32 126 (hex_digit_of d) ≡ true
hex_is_shown d h = by_test (nat_lt d 10) (λ p. is_in_range 32 126 (cond p (48 + d) (97 + (d - 10))) ≡ true) (λ e. grind (arith, nat_tests)) (λ e. grind (arith, nat_tests))

shown_byte : (b : ℕ) (front : List ℕ) → Writes b front → Shown front
shown_byte b front (itself e) = ((grind (arith, nat_tests)), tt)
shown_byte b front quote = (refl, (refl, tt))
shown_byte b front backslash = (refl, (refl, tt))
shown_byte b front line_end = (refl, (refl, tt))
shown_byte b front (by_digits high low h l) = (refl, (refl, (hex_is_shown high h, (hex_is_shown low l, tt))))

shown_content : (content inside : List ℕ) → WritesAll content inside → Shown inside
shown_content [] inside e = subst Shown (sym e) tt
shown_content (b ∷ bs) inside (front, rest, parts, writes, all) = subst Shown (sym parts) (shown-append front rest (shown_byte b front writes) (shown_content bs rest all))

shown_sign : (sign : Sign) → Shown (sign_spelling sign)
shown_sign g.NotEqual = (refl, (refl, tt))
shown_sign g.LessEqual = (refl, (refl, tt))
shown_sign g.GreaterEqual = (refl, (refl, tt))
shown_sign _ = (refl, tt)

shown_token : (token : Token) (front : List ℕ) → Spells token front → Shown front
shown_token (t.Name name) front h = subst Shown (sym h.0) (shown_name name h.1)
shown_token (t.Number n) front h = shown_number front h.0
shown_token (t.Text content) front (inside, parts, all) = subst Shown (sym parts) (refl, shown-append inside (34 ∷ []) (shown_content content inside all) (refl, tt))
shown_token (t.Word word) front h = subst Shown (sym h) (shown_name (word_spelling word) (word_is_name word))
shown_token (t.Sign sign) front h = subst Shown (sym h) (shown_sign sign)

shown_spaces : (n : ℕ) → Shown (spaces n)
shown_spaces zero = tt
shown_spaces (suc n) = (refl, shown_spaces n)

shown_tokens : (bytes : List ℕ) (tokens : List Token) → IsTokens bytes tokens → Shown bytes
shown_tokens bytes [] (n, e) = subst Shown (sym e) (shown_spaces n)
shown_tokens bytes (token ∷ more) (n, front, rest, parts, spells, ends, next) =
    subst Shown (sym parts) (shown-append (spaces n) (front ++ rest) (shown_spaces n) (shown-append front rest (shown_token token front spells) (shown_tokens rest more next)))

-- ---- one line

shown_at : (bytes : List ℕ) (i : ℕ) → Shown bytes → (get_or bytes i 0 == 13) ≡ false
shown_at [] i p = refl
shown_at (b ∷ bs) zero p = let k = p.0 in grind (arith, nat_tests)
shown_at (b ∷ bs) (suc i) p = shown_at bs i p.1

pub shown_stays : (bytes : List ℕ) → Shown bytes → strip_carriage_return bytes ≡ bytes
shown_stays bytes p = ap (λ z. cond z (take (length bytes - 1) bytes) bytes) (shown_at bytes (length bytes - 1) p)

pub line_ends : (before bytes rest : List ℕ) → Shown bytes → lines_from before (bytes ++ 10 ∷ rest) ≡ strip_carriage_return (before ++ bytes) ∷ lines_from [] rest
line_ends before [] rest p = ap (λ z. strip_carriage_return z ∷ lines_from [] rest) (sym (append-nil before))
line_ends before (b ∷ bs) rest p =
    ap (λ z. cond z (strip_carriage_return before ∷ lines_from [] (bs ++ 10 ∷ rest)) (lines_from (before ++ b ∷ []) (bs ++ 10 ∷ rest))) (let k = p.0 in let e : (b == 10) ≡ false = grind (arith, nat_tests) in e)
    ∙ line_ends (before ++ b ∷ []) bs rest p.1 ∙ ap (λ z. strip_carriage_return z ∷ lines_from [] rest) (append_assoc before (b ∷ []) bs)

empty_lines : (k : ℕ) (bytes : List ℕ) → lines (replicate k 10 ++ bytes) ≡ replicate k [] ++ lines bytes
empty_lines zero bytes = refl
empty_lines (suc k) bytes = ap (λ z. [] ∷ z) (empty_lines k bytes)

text_lines : (next line : ℕ) (bytes rest : List ℕ) → Shown bytes → lines (line_text next line bytes ++ rest) ≡ replicate (line - next) [] ++ (bytes ∷ lines rest)
text_lines next line bytes rest p =
    ap lines (append_assoc (replicate (line - next) 10) (bytes ++ 10 ∷ []) rest ∙ ap (λ z. replicate (line - next) 10 ++ z) (append_assoc bytes (10 ∷ []) rest))
    ∙ empty_lines (line - next) (bytes ++ 10 ∷ rest)
    ∙ ap (λ z. replicate (line - next) [] ++ z) (line_ends [] bytes rest p ∙ ap (λ z. z ∷ lines rest) (shown_stays bytes p))

row_is_no_blank : (row : Row) → is_blank (row_text row) ≡ false
row_is_no_blank (r.Let name x) = refl
row_is_no_blank (r.Read name place) = refl
row_is_no_blank (r.Write place x) = refl
row_is_no_blank (r.Print x) = refl
row_is_no_blank (r.If x) = refl
row_is_no_blank r.Else = refl
row_is_no_blank r.End = refl
row_is_no_blank (r.Repeat x) = refl
row_is_no_blank r.Withdraw = refl

-- ---- all lines

blanks_then : (k greatest n : ℕ) (ls : List (List ℕ)) (xs : List Numbered) → LinesRows greatest (n + k) ls xs → LinesRows greatest n (replicate k [] ++ ls) xs
blanks_then zero greatest n ls xs h = subst (λ z. LinesRows greatest z ls xs) (let e : n + 0 ≡ n = omega arith in e) h
blanks_then (suc k) greatest n ls xs h = inl (refl, blanks_then k greatest (n + 1) ls xs (subst (λ z. LinesRows greatest z ls xs) (let e : n + suc k ≡ n + 1 + k = omega arith in e) h))

rows_are_read : (greatest next : ℕ) (xs : List Numbered) → Rising next xs → RowsInLimits greatest xs → LinesRows greatest next (lines (rows_text next xs)) xs
rows_are_read greatest next [] rising limits = refl
rows_are_read greatest next (x ∷ xs) rising (limits, up_to, others) =
    let tokens = row_text-tokens x.row limits in
    let here : next + (x.line - next) ≡ x.line = (let k = rising.0 in omega arith) in
    let more = rows_are_read greatest (x.line + 1) xs rising.1 others in
    subst (λ z. LinesRows greatest next z (x ∷ xs)) (sym (text_lines next x.line (row_text x.row) (rows_text (x.line + 1) xs) (shown_tokens (row_text x.row) (row_tokens x.row) tokens)))
    (blanks_then (x.line - next) greatest next (row_text x.row ∷ lines (rows_text (x.line + 1) xs)) (x ∷ xs)
    (subst (λ z. LinesRows greatest z (row_text x.row ∷ lines (rows_text (x.line + 1) xs)) (x ∷ xs)) (sym here)
    (inr (x.row, xs, (row_tokens x.row, (row_is_no_blank x.row, tokens), row_tokens-in_range greatest x.row limits up_to, row_tokens-spell x.row limits), refl, more))))

lines_counted : (greatest next : ℕ) (xs : List Numbered) → Rising next xs → RowsInLimits greatest xs → length (lines (rows_text next xs)) + next ≡ next_line next xs
lines_counted greatest next [] rising limits = let e : 0 + next ≡ next = omega arith in e
lines_counted greatest next (x ∷ xs) rising (limits, up_to, others) =
    let tokens = row_text-tokens x.row limits in
    let rest = lines (rows_text (x.line + 1) xs) in
    let parts = ap length (text_lines next x.line (row_text x.row) (rows_text (x.line + 1) xs) (shown_tokens (row_text x.row) (row_tokens x.row) tokens)) in
    let size = simp (length-append, length-replicate) at parts in
    let later = lines_counted greatest (x.line + 1) xs rising.1 others in
    let k = rising.0 in
    omega (arith, size, later)

-- the lines of the canonical text are the script
pub printed_is_script : (greatest : ℕ) (script : Block) → IsPrintable greatest script → IsScriptLines greatest (lines (script_text script)) script
printed_is_script greatest script p = (
  rows script,
  rows_are_read greatest 1 (rows script) p.rising p.limits,
  refl,
  p.shallow,
  p.depth,
  ((let count = lines_counted greatest 1 (rows script) p.rising p.limits in let k = p.lines in omega arith), p.bytes),
)

-- ---- the lines are one script at most

pub same_row : (greatest : ℕ) (line : List ℕ) (a b : Row) → row_depth a ≤ 16 → LineRow greatest line a → LineRow greatest line b → a ≡ b
same_row greatest line a b deep (ts, p, range, spells) (us, q, range2, spells2) =
    one_row a b us (subst (SpellsRow a) (one_list line ts us p.1 q.1) spells) spells2 deep

pub same_rows : (greatest n : ℕ) (ls : List (List ℕ)) (xs ys : List Numbered) → ShallowRows xs → LinesRows greatest n ls xs → LinesRows greatest n ls ys → xs ≡ ys
same_rows greatest n [] xs ys s p q = p ∙ sym q
same_rows greatest n (l ∷ ls) xs ys s (inl (blank, p)) (inl (blank2, q)) = same_rows greatest (n + 1) ls xs ys s p q
same_rows greatest n (l ∷ ls) xs ys s (inl (blank, p)) (inr (row, zs, has, parts, q)) = absurd (let e : true ≡ false = sym blank ∙ has.1.0 in cc)
same_rows greatest n (l ∷ ls) xs ys s (inr (row, zs, has, parts, p)) (inl (blank, q)) = absurd (let e : true ≡ false = sym blank ∙ has.1.0 in cc)
same_rows greatest n (l ∷ ls) xs ys s (inr (a, us, has, parts, p)) (inr (b, vs, has2, parts2, q)) =
    let shallow = subst ShallowRows parts s in
    parts ∙ ap (λ z. on n z ∷ us) (same_row greatest l a b shallow.0 has has2) ∙ ap (λ z. on n b ∷ z) (same_rows greatest (n + 1) ls us vs shallow.1 p q) ∙ sym parts2

pub one_script_of_lines : (greatest : ℕ) (ls : List (List ℕ)) (a b : Block) → IsScriptLines greatest ls a → IsScriptLines greatest ls b → a ≡ b
one_script_of_lines greatest ls a b (xs, p, is, s, depth, small) (ys, q, is2, s2, depth2, small2) =
    one_script a b (sym is ∙ same_rows greatest 1 ls xs ys s p q ∙ is2)
