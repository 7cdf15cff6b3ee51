-- The text of rows one behind another.
use Rattle.std.proofs.Math.Numerals.{add-one}
use Rattle.script_form.proofs.Names.{take-suc, ◌≡◌, ℕ, ◌+◌, ◌<◌, length, take, get_or, List, [], ◌∷◌, ◌++◌, Result, Ok, Err, refl, sym, ap, ◌∙◌, subst, append_assoc, append-nil, IfOk, OnOk, codes, Expr, Stmt, plain, block, term, plain-if, plain-if_else, plain-repeat, Row, Numbered, on, step_rows, rows, row_text, line_text, rows_text, next_line, Prints}
use Rattle.value_form.specs.declared.scripts.Stmt.TheVariants as s
use Rattle.script_form.specs.Row as r
use Rattle.script_form.proofs.BlockLemmas.{push_rows}

rows_text-append : (next : ℕ) (xs ys : List Numbered) → rows_text next (xs ++ ys) ≡ rows_text next xs ++ rows_text (next_line next xs) ys
rows_text-append next [] ys = refl
rows_text-append next (x ∷ xs) ys =
    ap (λ z. line_text next x.line (row_text x.row) ++ z) (rows_text-append (x.line + 1) xs ys)
    ∙ sym (append_assoc (line_text next x.line (row_text x.row)) (rows_text (x.line + 1) xs) (rows_text (next_line (x.line + 1) xs) ys))

next_line-append : (next : ℕ) (xs ys : List Numbered) → next_line next (xs ++ ys) ≡ next_line (next_line next xs) ys
next_line-append next [] ys = refl
next_line-append next (x ∷ xs) ys = next_line-append (x.line + 1) xs ys

pub Prints-append : (xs ys : List Numbered) (next middle after : ℕ) (old half new : List ℕ) → Prints xs next old middle half → Prints ys middle half after new → Prints (xs ++ ys) next old after new
Prints-append xs ys next middle after old half new (text, line) (text', line') = (
  text' ∙ ap (λ z. z ++ rows_text middle ys) text ∙ append_assoc old (rows_text next xs) (rows_text middle ys)
      ∙ ap (λ n. old ++ (rows_text next xs ++ rows_text n ys)) line ∙ ap (λ z. old ++ z) (sym (rows_text-append next xs ys)),
  line' ∙ ap (λ n. next_line n ys) line ∙ sym (next_line-append next xs ys),
)

-- one row
pub Prints-line : (l : ℕ) (row : Row) (bytes : List ℕ) (next after : ℕ) (old new : List ℕ) → bytes ≡ row_text row → new ≡ old ++ line_text next l bytes → after ≡ l + 1 → Prints (on l row ∷ []) next old after new
Prints-line l row bytes next after old new is text line =
    (text ∙ ap (λ z. old ++ line_text next l z) is ∙ ap (λ z. old ++ z) (sym (append-nil (line_text next l (row_text row)))), line)

Prints-push : (xs : List Stmt) (x : Stmt) (next middle after : ℕ) (old half new : List ℕ) → Prints (rows (block xs)) next old middle half → Prints (step_rows (plain x)) middle half after new → Prints (rows (block (xs ++ x ∷ []))) next old after new
Prints-push xs x next middle after old half new h k =
    subst (λ z. Prints z next old after new) (sym (push_rows xs x)) (Prints-append (rows (block xs)) (step_rows (plain x)) next middle after old half new h k)

-- one more statement of a part
pub Prints-next : (xs : List Stmt) (i : ℕ) (x : Stmt) → i < length xs → x ≡ get_or xs i x → (next middle after : ℕ) (old half new : List ℕ)
    → Prints (rows (block (take i xs))) next old middle half → Prints (step_rows (plain x)) middle half after new → Prints (rows (block (take (i + 1) xs))) next old after new
Prints-next xs i x lt is next middle after old half new h k =
    let more : take i xs ++ x ∷ [] ≡ take (i + 1) xs = ap (λ z. take i xs ++ z ∷ []) is ∙ sym (take-suc xs i x lt) ∙ ap (λ n. take n xs) (sym (add-one i)) in
    subst (λ z. Prints (rows (block z)) next old after new) more (Prints-push (take i xs) x next middle after old half new h k)

-- ---- the end of a block is printed last

last_line : {E : Type 0} (xs : List Numbered) (row : Row) (next middle e : ℕ) (old half new bytes : List ℕ) (result : Result ℕ E) → bytes ≡ row_text row → Prints xs next old middle half → OnOk result (new ≡ half ++ line_text middle e bytes) → IfOk result (λ n. n ≡ e + 1)
    → IfOk result (λ n. Prints (xs ++ on e row ∷ []) next old n new)
last_line xs row next middle e old half new bytes (Ok n) is h text line = Prints-append xs (on e row ∷ []) next middle n old half new h (Prints-line e row bytes middle n half new is text line)
last_line xs row next middle e old half new bytes (Err _) is h text line = tt

changed : {E : Type 0} (xs ys : List Numbered) (next : ℕ) (old new : List ℕ) (result : Result ℕ E) → xs ≡ ys → IfOk result (λ n. Prints xs next old n new) → IfOk result (λ n. Prints ys next old n new)
changed xs ys next old new result is = subst (λ z. IfOk result (λ n. Prints z next old n new)) is

pub if_ends : {E : Type 0} (stmt : Stmt) (l : ℕ) (x : Expr) (part shown : List Stmt) (e next middle after : ℕ) (old half more new bytes : List ℕ) (result : Result ℕ E) → stmt ≡ s.If l x part e → bytes ≡ row_text (r.If (term x))
    → half ≡ old ++ line_text next l bytes → middle ≡ l + 1 → shown ≡ part → Prints (rows (block shown)) middle half after more
    → OnOk result (new ≡ more ++ line_text after e (codes "end")) → IfOk result (λ n. n ≡ e + 1) → IfOk result (λ n. Prints (step_rows (plain stmt)) next old n new)
if_ends stmt l x part shown e next middle after old half more new bytes result is row first line same inner text end =
    let head : Prints (on l (r.If (term x)) ∷ []) next old middle half = Prints-line l (r.If (term x)) bytes next middle old half row first line in
    let front : Prints (on l (r.If (term x)) ∷ rows (block part)) next old after more = Prints-append (on l (r.If (term x)) ∷ []) (rows (block part)) next middle after old half more head (subst (λ z. Prints (rows (block z)) middle half after more) same inner) in
    changed (on l (r.If (term x)) ∷ (rows (block part) ++ on e r.End ∷ [])) (step_rows (plain stmt)) next old new result (sym (ap (λ z. step_rows (plain z)) is ∙ ap step_rows (plain-if l x part e)))
    (last_line (on l (r.If (term x)) ∷ rows (block part)) r.End next after e old more new (codes "end") result refl front text end)

pub repeat_ends : {E : Type 0} (stmt : Stmt) (l : ℕ) (x : Expr) (part shown : List Stmt) (e next middle after : ℕ) (old half more new bytes : List ℕ) (result : Result ℕ E) → stmt ≡ s.Repeat l x part e → bytes ≡ row_text (r.Repeat (term x))
    → half ≡ old ++ line_text next l bytes → middle ≡ l + 1 → shown ≡ part → Prints (rows (block shown)) middle half after more
    → OnOk result (new ≡ more ++ line_text after e (codes "end")) → IfOk result (λ n. n ≡ e + 1) → IfOk result (λ n. Prints (step_rows (plain stmt)) next old n new)
repeat_ends stmt l x part shown e next middle after old half more new bytes result is row first line same inner text end =
    let head : Prints (on l (r.Repeat (term x)) ∷ []) next old middle half = Prints-line l (r.Repeat (term x)) bytes next middle old half row first line in
    let front : Prints (on l (r.Repeat (term x)) ∷ rows (block part)) next old after more = Prints-append (on l (r.Repeat (term x)) ∷ []) (rows (block part)) next middle after old half more head (subst (λ z. Prints (rows (block z)) middle half after more) same inner) in
    changed (on l (r.Repeat (term x)) ∷ (rows (block part) ++ on e r.End ∷ [])) (step_rows (plain stmt)) next old new result (sym (ap (λ z. step_rows (plain z)) is ∙ ap step_rows (plain-repeat l x part e)))
    (last_line (on l (r.Repeat (term x)) ∷ rows (block part)) r.End next after e old more new (codes "end") result refl front text end)

pub if_else_ends : {E : Type 0} (stmt : Stmt) (l : ℕ) (x : Expr) (part shown : List Stmt) (m : ℕ) (other shown' : List Stmt) (e next one two three four : ℕ) (old a b c d new bytes : List ℕ) (result : Result ℕ E) → stmt ≡ s.IfElse l x part m other e → bytes ≡ row_text (r.If (term x))
    → a ≡ old ++ line_text next l bytes → one ≡ l + 1 → shown ≡ part → Prints (rows (block shown)) one a two b
    → c ≡ b ++ line_text two m (codes "else") → three ≡ m + 1 → shown' ≡ other → Prints (rows (block shown')) three c four d
    → OnOk result (new ≡ d ++ line_text four e (codes "end")) → IfOk result (λ n. n ≡ e + 1) → IfOk result (λ n. Prints (step_rows (plain stmt)) next old n new)
if_else_ends stmt l x part shown m other shown' e next one two three four old a b c d new bytes result is row first line same inner between line' same' inner' text end =
    let if_row : List Numbered = on l (r.If (term x)) ∷ [] in
    let else_row : List Numbered = on m r.Else ∷ [] in
    let head : Prints if_row next old one a = Prints-line l (r.If (term x)) bytes next one old a row first line in
    let front : Prints (if_row ++ rows (block part)) next old two b = Prints-append if_row (rows (block part)) next one two old a b head (subst (λ z. Prints (rows (block z)) one a two b) same inner) in
    let third : Prints ((if_row ++ rows (block part)) ++ else_row) next old three c = Prints-append (if_row ++ rows (block part)) else_row next two three old b c front (Prints-line m r.Else (codes "else") two three b c refl between line') in
    let fourth : Prints (((if_row ++ rows (block part)) ++ else_row) ++ rows (block other)) next old four d = Prints-append ((if_row ++ rows (block part)) ++ else_row) (rows (block other)) next three four old c d third (subst (λ z. Prints (rows (block z)) three c four d) same' inner') in
    let all : (((if_row ++ rows (block part)) ++ else_row) ++ rows (block other)) ++ on e r.End ∷ [] ≡ step_rows (plain stmt) = simp append_assoc (sym (ap (λ z. step_rows (plain z)) is ∙ ap step_rows (plain-if_else l x part m other e))) in
    changed ((((if_row ++ rows (block part)) ++ else_row) ++ rows (block other)) ++ on e r.End ∷ []) (step_rows (plain stmt)) next old new result all
    (last_line (((if_row ++ rows (block part)) ++ else_row) ++ rows (block other)) r.End next four e old d new (codes "end") result refl fourth text end)
