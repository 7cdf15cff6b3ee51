-- Each script that lines are is a script of the language, so its canonical text is it again.
use Rattle.script_form.proofs.Names.{Result, Ok, Err, ◌≡◌, ◌∙◌, ap, ℕ, ◌+◌, ◌≤◌, inl, inr, List, [], ◌∷◌, length, sym, subst, arith, all_in_limits, objects_fit, both, line_has_tokens, Script, Block, block, made_all, made-block, Row, Numbered, RowInLimits, RowUpTo, rows_text, next_line, script_text, LineRow, LinesRows, ShallowRows, IsScriptLines, ParseFault, lines, GivesAgain, Parses, Rising, RowsInLimits, IsPrintable}
use Rattle.script_form.proofs.RowLimitLemmas.{spelled_row-in_limits, spelled_row-up_to}
use Rattle.script_form.specs.declared.parse_faults.ParseFault.TheVariants.{Fault, NoMemory}
use Rattle.script_form.proofs.FaultLemmas.{fault_of_no_script, open_is_no_script}
use Rattle.script_form.proofs.PrintLemmas.{one_script_of_lines, printed_is_script}

-- ---- one line

line_row-limits : (greatest : ℕ) (line : List ℕ) (row : Row) → LineRow greatest line row → RowInLimits row × RowUpTo greatest row
line_row-limits greatest line row (tokens, is, range, spells) =
    let k = both (all_in_limits tokens) (objects_fit greatest tokens) range in
    (spelled_row-in_limits row tokens spells (line_has_tokens line tokens is.1 k.0), spelled_row-up_to greatest row tokens spells k.1)

-- ---- all lines

rows-in_limits : (greatest n : ℕ) (ls : List (List ℕ)) (xs : List Numbered) → LinesRows greatest n ls xs → RowsInLimits greatest xs
rows-in_limits greatest n [] xs h = subst (RowsInLimits greatest) (sym h) tt
rows-in_limits greatest n (l ∷ ls) xs (inl (blank, h)) = rows-in_limits greatest (n + 1) ls xs h
rows-in_limits greatest n (l ∷ ls) xs (inr (row, ys, has, parts, h)) =
    let k = line_row-limits greatest l row has in
    subst (RowsInLimits greatest) (sym parts) (k.0, k.1, rows-in_limits greatest (n + 1) ls ys h)

-- rows that rise from a line rise from each line before it
rises_from : (m n : ℕ) (xs : List Numbered) → m ≤ n → Rising n xs → Rising m xs
rises_from m n [] le h = tt
rises_from m n (x ∷ xs) le h = ((let k = h.0 in omega arith), h.1)

rows_rise : (greatest n : ℕ) (ls : List (List ℕ)) (xs : List Numbered) → LinesRows greatest n ls xs → Rising n xs
rows_rise greatest n [] xs h = subst (Rising n) (sym h) tt
rows_rise greatest n (l ∷ ls) xs (inl (blank, h)) = rises_from n (n + 1) xs (omega arith) (rows_rise greatest (n + 1) ls xs h)
rows_rise greatest n (l ∷ ls) xs (inr (row, ys, has, parts, h)) = subst (Rising n) (sym parts) ((omega arith), rows_rise greatest (n + 1) ls ys h)

-- the line behind the last row is at most that behind the last line
next_line-rises : (m n : ℕ) (xs : List Numbered) → m ≤ n → next_line m xs ≤ next_line n xs
next_line-rises m n [] le = le
next_line-rises m n (x ∷ xs) le = omega arith

rows_end : (greatest n : ℕ) (ls : List (List ℕ)) (xs : List Numbered) → LinesRows greatest n ls xs → next_line n xs ≤ n + length ls
rows_end greatest n [] xs h = subst (λ z. next_line n z ≤ n + 0) (sym h) (omega arith)
rows_end greatest n (l ∷ ls) xs (inl (blank, h)) =
    let k = rows_end greatest (n + 1) ls xs h in let low = next_line-rises n (n + 1) xs (omega arith) in omega arith
rows_end greatest n (l ∷ ls) xs (inr (row, ys, has, parts, h)) =
    let k = rows_end greatest (n + 1) ls ys h in
    subst (λ z. next_line n z ≤ n + length (l ∷ ls)) (sym parts) (omega arith)

-- lines that are a script give one of the language
pub script_is_printable : (greatest : ℕ) (ls : List (List ℕ)) (script : Block) → IsScriptLines greatest ls script → IsPrintable greatest script
script_is_printable greatest ls script (xs, has, is, shallow, depth, small) = record {
  rising = subst (Rising 1) is (rows_rise greatest 1 ls xs has);
  limits = subst (RowsInLimits greatest) is (rows-in_limits greatest 1 ls xs has);
  shallow = subst ShallowRows is shallow;
  depth = depth;
  lines = subst (λ z. next_line 1 z ≤ 201) is (let k = rows_end greatest 1 ls xs has in let m = small.0 in omega arith);
  bytes = subst (λ z. length (rows_text 1 z) ≤ 3900) is small.1;
}

-- ---- what is read again

text_is_script : (greatest : ℕ) (ls : List (List ℕ)) (script : Script) → IsScriptLines greatest ls (block script.lines) → IsScriptLines greatest (lines (script_text (block script.lines))) (block script.lines)
text_is_script greatest ls script is = printed_is_script greatest (block script.lines) (script_is_printable greatest ls (block script.lines) is)

same_script : (a b : Script) → block a.lines ≡ block b.lines → a ≡ b
same_script a b e = ap (λ z. record { lines = z }) (sym (made-block a.lines) ∙ ap made_all e ∙ made-block b.lines)

pub read_again : (greatest : ℕ) (ls : List (List ℕ)) (script : Script) (result : Result Script ParseFault) → Parses greatest ls (Ok script) → Parses greatest (lines (script_text (block script.lines))) result → GivesAgain script result
read_again greatest ls script (Ok again) is has =
    same_script again script (one_script_of_lines greatest (lines (script_text (block script.lines))) (block again.lines) (block script.lines) has (text_is_script greatest ls script is))
read_again greatest ls script (Err (Fault line what)) is (inl fault) =
    fault_of_no_script greatest (lines (script_text (block script.lines))) line what (block script.lines) fault (text_is_script greatest ls script is)
read_again greatest ls script (Err (Fault line what)) is (inr fault) =
    open_is_no_script greatest (lines (script_text (block script.lines))) line what (block script.lines) fault (text_is_script greatest ls script is)
read_again greatest ls script (Err NoMemory) is has = tt
