-- Rows of lines, and their text, with one line more.
use Rattle.script_form.proofs.Names.{◌≡◌, ℕ, suc, ◌+◌, ◌-◌, ◌≤◌, inl, inr, true, List, [], ◌∷◌, ◌++◌, length, refl, ap, ◌∙◌, subst, arith, append-nil, length-append, length-replicate, replicate, Row, Numbered, on, row_depth, line_text, row_text, rows_text, next_line, is_blank, LineRow, LinesRows, ShallowRows}

pub same_line : (n : ℕ) (ls : List (List ℕ)) (l : List ℕ) → n + 1 + length ls ≡ n + length (l ∷ ls)
same_line n ls l = let e : n + 1 + length ls ≡ n + suc (length ls) = omega arith in e

-- a line that is a row
pub lines_with_row : (greatest n : ℕ) (ls : List (List ℕ)) (line : List ℕ) (xs : List Numbered) (row : Row) → LinesRows greatest n ls xs → LineRow greatest line row
    → LinesRows greatest n (ls ++ line ∷ []) (xs ++ on (n + length ls) row ∷ [])
lines_with_row greatest n [] line xs row none is =
    inr (row, [], is, ap (λ z. z ++ on (n + 0) row ∷ []) none ∙ ap (λ z. on z row ∷ []) (let e : n + 0 ≡ n = omega arith in e), refl)
lines_with_row greatest n (l ∷ ls) line xs row (inl (blank, more)) is =
    inl (blank, subst (λ z. LinesRows greatest (n + 1) (ls ++ line ∷ []) (xs ++ on z row ∷ [])) (same_line n ls l) (lines_with_row greatest (n + 1) ls line xs row more is))
lines_with_row greatest n (l ∷ ls) line xs row (inr (first, ys, has, parts, more)) is =
    inr (
      first,
      ys ++ on (n + length (l ∷ ls)) row ∷ [],
      has,
      ap (λ z. z ++ on (n + length (l ∷ ls)) row ∷ []) parts,
      subst (λ z. LinesRows greatest (n + 1) (ls ++ line ∷ []) (ys ++ on z row ∷ [])) (same_line n ls l) (lines_with_row greatest (n + 1) ls line ys row more is),
    )

-- a line that is none
pub lines_with_blank : (greatest n : ℕ) (ls : List (List ℕ)) (line : List ℕ) (xs : List Numbered) → LinesRows greatest n ls xs → is_blank line ≡ true
    → LinesRows greatest n (ls ++ line ∷ []) xs
lines_with_blank greatest n [] line xs none blank = inl (blank, none)
lines_with_blank greatest n (l ∷ ls) line xs (inl (first, more)) blank = inl (first, lines_with_blank greatest (n + 1) ls line xs more blank)
lines_with_blank greatest n (l ∷ ls) line xs (inr (first, ys, has, parts, more)) blank = inr (first, ys, has, parts, lines_with_blank greatest (n + 1) ls line ys more blank)

pub shallow_with : (xs : List Numbered) (x : Numbered) → ShallowRows xs → row_depth x.row ≤ 16 → ShallowRows (xs ++ x ∷ [])
shallow_with [] x s d = (d, tt)
shallow_with (y ∷ xs) x s d = (s.0, shallow_with xs x s.1 d)

pub next_line-with : (next : ℕ) (xs : List Numbered) (x : Numbered) → next_line next (xs ++ x ∷ []) ≡ x.line + 1
next_line-with next [] x = refl
next_line-with next (y ∷ xs) x = next_line-with (y.line + 1) xs x

line_size : (next line : ℕ) (text : List ℕ) → length (line_text next line text) ≡ (line - next) + length text + 1
line_size next line text =
    let e : length (replicate (line - next) 10 ++ (text ++ 10 ∷ [])) ≡ (line - next) + length text + 1 = simp (length-append, length-replicate) (omega arith) in e

-- the bytes that a row adds to the text of those before
pub text_with : (next : ℕ) (xs : List Numbered) (x : Numbered)
    → length (rows_text next (xs ++ x ∷ [])) ≡ length (rows_text next xs) + (x.line - next_line next xs) + length (row_text x.row) + 1
text_with next [] x =
    let here = line_text next x.line (row_text x.row) in
    let size = ap length (append-nil here) ∙ line_size next x.line (row_text x.row) in
    let e : length (here ++ []) ≡ 0 + (x.line - next) + length (row_text x.row) + 1 = omega (arith, size) in e
text_with next (y ∷ xs) x =
    let later = text_with (y.line + 1) xs x in
    let here = line_text next y.line (row_text y.row) in
    let new = length-append here (rows_text (y.line + 1) (xs ++ x ∷ [])) in
    let old = length-append here (rows_text (y.line + 1) xs) in
    let e : length (here ++ rows_text (y.line + 1) (xs ++ x ∷ [])) ≡ length (here ++ rows_text (y.line + 1) xs) + (x.line - next_line (y.line + 1) xs) + length (row_text x.row) + 1
    = omega (arith, later, new, old) in e
