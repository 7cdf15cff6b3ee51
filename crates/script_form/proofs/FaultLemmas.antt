-- Lines that begin a script, and why a fault says that they begin none.
use Rattle.script_form.proofs.Names.{◌≡◌, ℕ, ◌+◌, ◌<◌, ◌≤◌, inl, inr, true, false, List, [], ◌∷◌, ◌++◌, length, take, drop, refl, sym, ap, ◌∙◌, subst, arith, append_assoc, append-nil, length-append, take-append-le, take-append-drop, take-append_seam, in_range, one_list, Block, SpellsRow, Row, Numbered, on, rows, row_depth, Begins, BeginsShallow, line_text, row_text, rows_text, is_blank, LineRow, LinesRows, ShallowRows, IsSmall, IsScriptLines, BeginScript, LineFault, FaultAt, FaultBehind, with_row, ParseKind}
use Rattle.script_form.specs.declared.parse_faults.ParseKind.TheVariants as kind
use Rattle.script_form.proofs.PrintLemmas.{same_row, same_rows}
use Rattle.script_form.proofs.RowLemmas.{same_line}

-- ---- the first lines, and those behind them

pub record Parted (greatest n : ℕ) (ls more : List (List ℕ)) (xs : List Numbered) : Type 0 where
  pub front : List Numbered
  pub back : List Numbered
  pub parts : xs ≡ front ++ back
  pub first : LinesRows greatest n ls front
  pub others : LinesRows greatest (n + length ls) more back

rows_part : (greatest n : ℕ) (ls more : List (List ℕ)) (xs : List Numbered) → LinesRows greatest n (ls ++ more) xs → Parted greatest n ls more xs
rows_part greatest n [] more xs p =
    record { front = []; back = xs; parts = refl; first = refl; others = subst (λ z. LinesRows greatest z more xs) (let e : n ≡ n + 0 = omega arith in e) p }
rows_part greatest n (l ∷ ls) more xs (inl (blank, p)) =
    let r = rows_part greatest (n + 1) ls more xs p in
    record { front = r.front; back = r.back; parts = r.parts; first = inl (blank, r.first); others = subst (λ z. LinesRows greatest z more r.back) (same_line n ls l) r.others }
rows_part greatest n (l ∷ ls) more xs (inr (row, ys, has, parts, p)) =
    let r = rows_part greatest (n + 1) ls more ys p in
    record {
      front = on n row ∷ r.front;
      back = r.back;
      parts = parts ∙ ap (λ z. on n row ∷ z) r.parts;
      first = inr (row, r.front, has, refl, r.first);
      others = subst (λ z. LinesRows greatest z more r.back) (same_line n ls l) r.others;
    }

shallow_front : (xs ys : List Numbered) → ShallowRows (xs ++ ys) → ShallowRows xs
shallow_front [] ys s = tt
shallow_front (x ∷ xs) ys s = (s.0, shallow_front xs ys s.1)

shallow_back : (xs ys : List Numbered) → ShallowRows (xs ++ ys) → ShallowRows ys
shallow_back [] ys s = s
shallow_back (x ∷ xs) ys s = shallow_back xs ys s.1

text_grows : (next : ℕ) (xs ys : List Numbered) → length (rows_text next xs) ≤ length (rows_text next (xs ++ ys))
text_grows next [] ys = omega arith
text_grows next (x ∷ xs) ys =
    let here = line_text next x.line (row_text x.row) in
    let more = text_grows (x.line + 1) xs ys in
    let a = length-append here (rows_text (x.line + 1) xs) in
    let b = length-append here (rows_text (x.line + 1) (xs ++ ys)) in
    omega (arith, more, a, b)

-- lines that begin a script do so with fewer lines, too
pub fewer_begin : (greatest : ℕ) (ls more : List (List ℕ)) → BeginScript greatest (ls ++ more) → BeginScript greatest ls
fewer_begin greatest ls more (xs, p, shallow, begins, small) =
    let r = rows_part greatest 1 ls more xs p in
    let same : r.front ++ (r.back ++ begins.more) ≡ rows begins.script = sym (append_assoc r.front r.back begins.more) ∙ ap (λ z. z ++ begins.more) (sym r.parts) ∙ begins.is in
    let few : length ls ≤ 200 = (let k = small.0 in let e = length-append ls more in omega arith) in
    let bytes : length (rows_text 1 r.front) ≤ 3900 = (let k = small.1 in let e = ap (λ z. length (rows_text 1 z)) r.parts in let g = text_grows 1 r.front r.back in omega arith) in
    (r.front, r.first, shallow_front r.front r.back (subst ShallowRows r.parts shallow), record { more = r.back ++ begins.more; script = begins.script; is = same; shallow = begins.shallow }, (few, bytes))

-- and so do those of a script
pub scripts_begin : (greatest : ℕ) (ls more : List (List ℕ)) (script : Block) → IsScriptLines greatest (ls ++ more) script → BeginScript greatest ls
scripts_begin greatest ls more script (xs, p, is, shallow, depth, small) =
    fewer_begin greatest ls more (xs, p, shallow, record { more = []; script = script; is = append-nil xs ∙ is; shallow = depth }, small)

-- ---- the row of the last line

pub record LastRow (greatest n : ℕ) (line : List ℕ) (xs : List Numbered) : Type 0 where
  pub row : Row
  pub is : LineRow greatest line row
  pub parts : xs ≡ on n row ∷ []

last_row : (greatest n : ℕ) (line : List ℕ) (xs : List Numbered) → is_blank line ≡ false → LinesRows greatest n (line ∷ []) xs → LastRow greatest n line xs
last_row greatest n line xs some (inl (blank, p)) = absurd (let e : true ≡ false = sym blank ∙ some in cc)
last_row greatest n line xs some (inr (row, ys, has, parts, p)) = record { row = row; is = has; parts = parts ∙ ap (λ z. on n row ∷ z) p }

-- ---- why there is none

module _ (greatest : ℕ) (before : List (List ℕ)) (line : List ℕ) (xs : List Numbered) (p : LinesRows greatest 1 (before ++ line ∷ []) xs) (shallow : ShallowRows xs) where
  r : Parted greatest 1 before (line ∷ []) xs
  r = rows_part greatest 1 before (line ∷ []) xs p

  -- the line has the row that it is said to have, and so have the lines before
  pub rows_with : (zs : List Numbered) (row : Row) → LinesRows greatest 1 before zs → LineRow greatest line row → (xs ≡ with_row before zs row) × (row_depth row ≤ 16)
  rows_with zs row q has =
      let l = last_row greatest (1 + length before) line r.back has.1.0 r.others in
      let both = subst ShallowRows r.parts shallow in
      let front : r.front ≡ zs = same_rows greatest 1 before r.front zs (shallow_front r.front r.back both) r.first q in
      let last = subst ShallowRows l.parts (shallow_back r.front r.back both) in
      let same : l.row ≡ row = same_row greatest line l.row row last.0 l.is has in
      let at : 1 + length before ≡ length before + 1 = omega arith in
      (r.parts ∙ ap (λ z. z ++ r.back) front ∙ ap (λ z. zs ++ z) l.parts ∙ ap (λ z. zs ++ on z l.row ∷ []) at ∙ ap (λ z. zs ++ on (length before + 1) z ∷ []) same, subst (λ z. row_depth z ≤ 16) same last.0)

  pub tokens_are : (is_blank line ≡ false) → (row : Row) × LineRow greatest line row
  tokens_are some = let l = last_row greatest (1 + length before) line r.back some r.others in (l.row, l.is)

pub fault_begins_none : (greatest : ℕ) (before : List (List ℕ)) (line : List ℕ) (what : ParseKind) → LineFault greatest before line what → BeginScript greatest (before ++ line ∷ []) → ⊥
fault_begins_none greatest before line kind.Token (some, none) (xs, p, shallow, begins, small) =
    let t = tokens_are greatest before line xs p shallow some in
    none t.1.0 t.1.1.1
fault_begins_none greatest before line kind.Range (ts, (some, is), out) (xs, p, shallow, begins, small) =
    let t = tokens_are greatest before line xs p shallow some in
    let same = one_list line t.1.0 ts t.1.1.1 is in
    absurd (let e : true ≡ false = sym t.1.2 ∙ ap (in_range greatest) same ∙ out in cc)
fault_begins_none greatest before line kind.Syntax (ts, (some, is), range, none) (xs, p, shallow, begins, small) =
    let t = tokens_are greatest before line xs p shallow some in
    let same = one_list line t.1.0 ts t.1.1.1 is in
    none t.0 (subst (SpellsRow t.0) same t.1.3)
fault_begins_none greatest before line kind.Block (zs, row, (q, has), none) (xs, p, shallow, begins, small) =
    let same = (rows_with greatest before line xs p shallow zs row q has).0 in
    none (subst Begins same (record { more = begins.more; script = begins.script; is = begins.is }))
fault_begins_none greatest before line kind.Depth (zs, row, (q, has), some, none) (xs, p, shallow, begins, small) =
    let same = rows_with greatest before line xs p shallow zs row q has in
    none (same.1, subst BeginsShallow same.0 begins)
fault_begins_none greatest before line kind.Size (zs, q, s, b, none) (xs, p, shallow, begins, small) =
    let same = same_rows greatest 1 (before ++ line ∷ []) xs zs shallow p q in
    none (subst (IsSmall (before ++ line ∷ [])) same small)

-- ---- faults of all lines

-- the lines up to the fault
up_to : (greatest : ℕ) (ls before more : List (List ℕ)) (wrong : List ℕ) (line : ℕ) → ls ≡ before ++ wrong ∷ more → line ≡ length before + 1 → take line ls ≡ before ++ wrong ∷ []
up_to greatest ls before more wrong line parts at =
    let size : line ≡ length (before ++ wrong ∷ []) = at ∙ sym (length-append before (wrong ∷ [])) in
    ap (λ z. take z ls) size ∙ ap (take (length (before ++ wrong ∷ []))) (parts ∙ sym (append_assoc before (wrong ∷ []) more)) ∙ take-append_seam (before ++ wrong ∷ []) more

pub fault_is_there : (greatest : ℕ) (ls : List (List ℕ)) (line : ℕ) (what : ParseKind) → FaultAt greatest ls line what → BeginScript greatest (take line ls) → ⊥
fault_is_there greatest ls line what (before, more, wrong, parts, at, begins, fault) begun =
    fault_begins_none greatest before wrong what fault (subst (BeginScript greatest) (up_to greatest ls before more wrong line parts at) begun)

pub fault_is_first : (greatest : ℕ) (ls : List (List ℕ)) (line : ℕ) (what : ParseKind) → FaultAt greatest ls line what → (m : ℕ) → m < line → BeginScript greatest (take m ls)
fault_is_first greatest ls line what (before, more, wrong, parts, at, begins, fault) m low =
    let within : m ≤ length before = omega (arith, low, at) in
    let same : take m ls ≡ take m before = ap (take m) parts ∙ take-append-le m before (wrong ∷ more) within in
    subst (BeginScript greatest) (sym same) (fewer_begin greatest (take m before) (drop m before) (subst (BeginScript greatest) (sym (take-append-drop m before)) begins))

pub fault_of_no_script : (greatest : ℕ) (ls : List (List ℕ)) (line : ℕ) (what : ParseKind) (script : Block) → FaultAt greatest ls line what → IsScriptLines greatest ls script → ⊥
fault_of_no_script greatest ls line what script fault is =
    fault_is_there greatest ls line what fault (scripts_begin greatest (take line ls) (drop line ls) script (subst (λ z. IsScriptLines greatest z script) (sym (take-append-drop line ls)) is))

pub open_is_no_script : (greatest : ℕ) (ls : List (List ℕ)) (line : ℕ) (what : ParseKind) (script : Block) → FaultBehind greatest ls line what → IsScriptLines greatest ls script → ⊥
open_is_no_script greatest ls line what script (at, is, begins, (zs, q, none)) (xs, p, same, shallow, depth, small) =
    none script (sym (same_rows greatest 1 ls xs zs shallow p q) ∙ same)
