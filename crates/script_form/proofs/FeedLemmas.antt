-- What a line does to a reader, by what was read in it.
use Rattle.script_form.proofs.Names.{◌≡◌, ℕ, ◌+◌, ◌-◌, ◌<◌, ◌≤◌, inl, inr, List, [], ◌∷◌, ◌++◌, length, true, false, Option, Some, None, refl, sym, ap, ◌∙◌, subst, arith, Result, Ok, Err, SomeIff, cases_lt, Building, Row, Numbered, on, row_depth, Begins, BeginsShallow, row_text, rows_so_far, made_flat, is_blank, ReadsLine, fault_of, LineRow, LineFault, HoldsLines, FeedsLine, Passes, Places, ScriptReader, ParseFault, Holds, ParseKind, RowFault, Kind, NoMemory}
use Rattle.script_form.specs.Row as r
use Rattle.script_form.proofs.BeginLemmas.{fed_begins}
use Rattle.script_form.proofs.BlockLemmas.{row-made_flat}
use Rattle.script_form.specs.declared.parse_faults.ParseFault.TheVariants.{Fault}
use Rattle.script_form.specs.declared.parse_faults.ParseKind.TheVariants as kind
use Rattle.script_form.proofs.ProgressLemmas.{holds_blank, blank_over, holds_row, row_over, row_of_no_block, row_too_deep}

-- a row with a deep expression goes on any rows that begin a script
deep_begins : (b : Building) (n : ℕ) (row : Row) → 16 < row_depth row → Begins (rows_so_far b ++ on n row ∷ [])
deep_begins b n (r.Let name x) deep = subst (λ z. Begins (rows_so_far b ++ on n z ∷ [])) (row-made_flat (r.Let name x)) (fed_begins b _ n (made_flat (r.Let name x)) refl)
deep_begins b n (r.Read name place) deep = subst (λ z. Begins (rows_so_far b ++ on n z ∷ [])) (row-made_flat (r.Read name place)) (fed_begins b _ n (made_flat (r.Read name place)) refl)
deep_begins b n (r.Write place x) deep = subst (λ z. Begins (rows_so_far b ++ on n z ∷ [])) (row-made_flat (r.Write place x)) (fed_begins b _ n (made_flat (r.Write place x)) refl)
deep_begins b n (r.Print x) deep = subst (λ z. Begins (rows_so_far b ++ on n z ∷ [])) (row-made_flat (r.Print x)) (fed_begins b _ n (made_flat (r.Print x)) refl)
deep_begins b n (r.If x) deep = subst (λ z. Begins (rows_so_far b ++ on n z ∷ [])) (row-made_flat (r.If x)) (fed_begins b _ n (made_flat (r.If x)) refl)
deep_begins b n r.Else deep = absurd (omega arith)
deep_begins b n r.End deep = absurd (omega arith)
deep_begins b n (r.Repeat x) deep = subst (λ z. Begins (rows_so_far b ++ on n z ∷ [])) (row-made_flat (r.Repeat x)) (fed_begins b _ n (made_flat (r.Repeat x)) refl)
deep_begins b n r.Withdraw deep = absurd (omega arith)

-- a line that is no row
pub line_is_no_row : (greatest : ℕ) (before : List (List ℕ)) (line : List ℕ) (b : Building) (count next size : ℕ) (what : ParseKind)
    → Holds greatest before (rows_so_far b) count next size → is_blank line ≡ false → ReadsLine greatest line (Err (Kind what)) → LineFault greatest before line what
line_is_no_row greatest before line b count next size kind.Token h some e = (some, e)
line_is_no_row greatest before line b count next size kind.Range h some e = e
line_is_no_row greatest before line b count next size kind.Syntax h some e = e
line_is_no_row greatest before line b count next size kind.Block h some e = absurd e
line_is_no_row greatest before line b count next size kind.Depth h some e =
    row_too_deep greatest before (rows_so_far b) count next size h line e.0 e.1 (deep_begins b (count + 1) e.0 e.2) (λ shallow. let k = shallow.0 in let d = e.2 in omega arith)
line_is_no_row greatest before line b count next size kind.Size h some e = absurd e

-- the same knowledge, of equal numbers
holds_moved : (greatest g : ℕ) (lines : List (List ℕ)) (xs ys : List Numbered) (count c next n size s : ℕ) → g ≡ greatest → ys ≡ xs → c ≡ count → n ≡ next → s ≡ size
    → Holds greatest lines xs count next size → Holds g lines ys c n s
holds_moved greatest g lines xs ys count c next n size s e f i j k h =
    subst (λ z. Holds z lines ys c n s) (sym e) (subst (λ z. Holds greatest lines z c n s) (sym f) (subst (λ z. Holds greatest lines xs z n s) (sym i)
    (subst (λ z. Holds greatest lines xs count z s) (sym j) (subst (λ z. Holds greatest lines xs count next z) (sym k) h))))

some_size : (o : Option ℕ) (P : Type 0) (value x : ℕ) → SomeIff o P value → o ≡ Some x → P × (x ≡ value)
some_size (Some y) P value x h e = let k : y ≡ x = cc in (h.0, sym k ∙ h.1)
some_size None P value x h e = absurd (cc)

none_size : (o : Option ℕ) (P : Type 0) (value : ℕ) → SomeIff o P value → o ≡ None → P → ⊥
none_size (Some y) P value h e = absurd (cc)
none_size None P value h e = h

above : (a b : ℕ) → (a ≤ b → ⊥) → b < a
above a b h = elim (cases_lt b a) [ inl lt ↦ lt | inr le ↦ absurd (h le) ]

-- a line that is no statement
pub passed_feeds : (before : List (List ℕ)) (line : List ℕ) (old : ScriptReader) (result : Result ScriptReader ParseFault) → HoldsLines before old → is_blank line ≡ true → Passes old result
    → FeedsLine old.greatest before line result
passed_feeds before line old (Ok new) h blank (few, is) =
    subst (λ z. HoldsLines (before ++ line ∷ []) z × (z.greatest ≡ old.greatest)) (sym is)
    (holds_blank old.greatest before (rows_so_far old.builder) old.lines old.next old.size h line blank few, refl)
passed_feeds before line old (Err fault) h blank (over, is) =
    subst (λ z. FeedsLine old.greatest before line (Err z)) (sym is)
    (ap (λ z. z + 1) h.count_is, blank_over old.greatest before (rows_so_far old.builder) old.lines old.next old.size h line blank over)

-- the bytes of the canonical text with this row
abbrev pub size_with_row : ScriptReader → Row → ℕ
size_with_row old row = old.size + (old.lines + 1 - old.next) + length (row_text row) + 1

module _ (before : List (List ℕ)) (line : List ℕ) (old : ScriptReader) (h : HoldsLines before old) (row : Row) (is : LineRow old.greatest line row) where
  -- a row that the builder has taken
  pub placed_feeds : (builder : Building) (size : Option ℕ) (result : Result ScriptReader ParseFault) → row_depth row ≤ 16
      → (rows_so_far old.builder ++ on (old.lines + 1) row ∷ [] ≡ rows_so_far builder) × BeginsShallow (rows_so_far builder)
      → SomeIff size (size_with_row old row ≤ 3900) (size_with_row old row) → Places builder old.greatest (old.lines + 1) size result → FeedsLine old.greatest before line result
  placed_feeds builder size (Ok new) deep (more, begins) sized (few, some, b, g, l, n) =
      let (small, same) = some_size size (size_with_row old row ≤ 3900) (size_with_row old row) new.size sized some in (
        holds_moved old.greatest new.greatest (before ++ line ∷ []) (rows_so_far old.builder ++ on (old.lines + 1) row ∷ []) (rows_so_far new.builder) (old.lines + 1) new.lines (old.lines + 2) new.next
            (size_with_row old row) new.size g (ap rows_so_far b ∙ sym more) l (n ∙ (let e : old.lines + 1 + 1 ≡ old.lines + 2 = omega arith in e)) same
            (holds_row old.greatest before (rows_so_far old.builder) old.lines old.next old.size h line row is deep (subst BeginsShallow (sym more) begins) few small),
        g,
      )
  placed_feeds builder size (Err fault) deep (more, begins) sized (over, f) =
      subst (λ z. FeedsLine old.greatest before line (Err z)) (sym f) (
        ap (λ z. z + 1) h.count_is,
        row_over old.greatest before (rows_so_far old.builder) old.lines old.next old.size h line row is deep (subst BeginsShallow (sym more) begins)
            (elim over [ inl many ↦ inl many | inr none ↦ inr (above (size_with_row old row) 3900 (none_size size (size_with_row old row ≤ 3900) (size_with_row old row) sized none)) ]),
      )

  -- a row that goes on no block
  pub block_feeds : (Begins (rows_so_far old.builder ++ on (old.lines + 1) row ∷ []) → ⊥) → FeedsLine old.greatest before line (Err (Fault (old.lines + 1) kind.Block))
  block_feeds none = (ap (λ z. z + 1) h.count_is, row_of_no_block old.greatest before (rows_so_far old.builder) old.lines old.next old.size h line row is none)

-- a line that is no row, as a fault of the reader
pub no_row_feeds : (before : List (List ℕ)) (line : List ℕ) (old : ScriptReader) (wrong : RowFault) → HoldsLines before old → is_blank line ≡ false → ReadsLine old.greatest line (Err wrong)
    → FeedsLine old.greatest before line (Err (fault_of (old.lines + 1) wrong))
no_row_feeds before line old (Kind what) h some e = (ap (λ z. z + 1) h.count_is, line_is_no_row old.greatest before line old.builder old.lines old.next old.size what h some e)
no_row_feeds before line old NoMemory h some e = tt
