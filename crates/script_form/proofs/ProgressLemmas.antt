-- One line more: the lines still begin a script, or this is what is wrong with it.
use Rattle.script_form.proofs.Names.{◌≡◌, ℕ, ◌+◌, ◌-◌, ◌<◌, ◌≤◌, ◌⊎◌, inl, inr, true, List, [], ◌∷◌, ◌++◌, length, refl, sym, ap, ◌∙◌, subst, arith, length-append, Row, Numbered, on, row_depth, Begins, BeginsShallow, row_text, rows_text, is_blank, LineRow, LinesRows, BeginScript, LineFault, Holds}
use Rattle.script_form.specs.declared.parse_faults.ParseKind.TheVariants as kind
use Rattle.script_form.proofs.RowLemmas.{lines_with_row, lines_with_blank, shallow_with, next_line-with, text_with}

pub holds_begin : (greatest : ℕ) (lines : List (List ℕ)) (xs : List Numbered) (count next size : ℕ) → Holds greatest lines xs count next size → BeginScript greatest lines
holds_begin greatest lines xs count next size h = (xs, h.rows, h.shallow, h.begins, (subst (λ z. z ≤ 200) h.count_is h.few, subst (λ z. z ≤ 3900) h.size_is h.small))

one_more : (lines : List (List ℕ)) (line : List ℕ) → length lines + 1 ≡ length (lines ++ line ∷ [])
one_more lines line = simp length-append refl

module _ (greatest : ℕ) (lines : List (List ℕ)) (xs : List Numbered) (count next size : ℕ) (h : Holds greatest lines xs count next size) (line : List ℕ) where
  pub count_with : count + 1 ≡ length (lines ++ line ∷ [])
  count_with = ap (λ z. z + 1) h.count_is ∙ one_more lines line

  -- a line that is no statement
  pub holds_blank : is_blank line ≡ true → count + 1 ≤ 200 → Holds greatest (lines ++ line ∷ []) xs (count + 1) next size
  holds_blank blank few = record {
    rows = lines_with_blank greatest 1 lines line xs h.rows blank;
    shallow = h.shallow;
    begins = h.begins;
    count_is = count_with;
    next_is = h.next_is;
    size_is = h.size_is;
    few = few;
    small = h.small;
  }

  pub blank_over : is_blank line ≡ true → 200 < count + 1 → LineFault greatest lines line kind.Size
  blank_over blank over = (xs, lines_with_blank greatest 1 lines line xs h.rows blank, h.shallow, h.begins, λ small. let k = small.0 in let e = count_with in omega arith)

  -- a line that is a row
  module _ (row : Row) (is : LineRow greatest line row) where
    here : on (1 + length lines) row ≡ on (count + 1) row
    here = ap (λ z. on z row) (let k = h.count_is in let e : 1 + length lines ≡ count + 1 = omega arith in e)

    here_too : on (count + 1) row ≡ on (length lines + 1) row
    here_too = ap (λ z. on (z + 1) row) h.count_is

    rows_are : LinesRows greatest 1 (lines ++ line ∷ []) (xs ++ on (count + 1) row ∷ [])
    rows_are = subst (λ z. LinesRows greatest 1 (lines ++ line ∷ []) (xs ++ z ∷ [])) here (lines_with_row greatest 1 lines line xs row h.rows is)

    pub size_with : size + (count + 1 - next) + length (row_text row) + 1 ≡ length (rows_text 1 (xs ++ on (count + 1) row ∷ []))
    size_with = sym (text_with 1 xs (on (count + 1) row) ∙ ap (λ z. length (rows_text 1 xs) + (count + 1 - z) + length (row_text row) + 1) (sym h.next_is)
        ∙ ap (λ z. z + (count + 1 - next) + length (row_text row) + 1) (sym h.size_is))

    pub holds_row : row_depth row ≤ 16 → BeginsShallow (xs ++ on (count + 1) row ∷ []) → count + 1 ≤ 200 → size + (count + 1 - next) + length (row_text row) + 1 ≤ 3900
        → Holds greatest (lines ++ line ∷ []) (xs ++ on (count + 1) row ∷ []) (count + 1) (count + 2) (size + (count + 1 - next) + length (row_text row) + 1)
    holds_row deep begins few small = record {
      rows = rows_are;
      shallow = shallow_with xs (on (count + 1) row) h.shallow deep;
      begins = begins;
      count_is = count_with;
      next_is = (let e : count + 2 ≡ count + 1 + 1 = omega arith in e) ∙ sym (next_line-with 1 xs (on (count + 1) row));
      size_is = size_with;
      few = few;
      small = small;
    }

    pub row_over : row_depth row ≤ 16 → BeginsShallow (xs ++ on (count + 1) row ∷ []) → (200 < count + 1) ⊎ (3900 < size + (count + 1 - next) + length (row_text row) + 1)
        → LineFault greatest lines line kind.Size
    row_over deep begins over = (
      xs ++ on (count + 1) row ∷ [],
      rows_are,
      shallow_with xs (on (count + 1) row) h.shallow deep,
      begins,
      λ small. elim over [ inl many ↦ (let k = small.0 in let e = count_with in omega arith) | inr long ↦ (let k = small.1 in let e = size_with in omega arith) ],
    )

    pub row_of_no_block : (Begins (xs ++ on (count + 1) row ∷ []) → ⊥) → LineFault greatest lines line kind.Block
    row_of_no_block none = (xs, row, (h.rows, is), λ begins. none (subst (λ z. Begins (xs ++ z ∷ [])) (sym here_too) begins))

    pub row_too_deep : Begins (xs ++ on (count + 1) row ∷ []) → ((row_depth row ≤ 16) × BeginsShallow (xs ++ on (count + 1) row ∷ []) → ⊥) → LineFault greatest lines line kind.Depth
    row_too_deep begins deep = (
      xs,
      row,
      (h.rows, is),
      subst (λ z. Begins (xs ++ z ∷ [])) here_too begins,
      λ shallow. deep (shallow.0, subst (λ z. BeginsShallow (xs ++ z ∷ [])) (sym here_too) shallow.1),
    )
