-- A script is built from its rows, and from no others.
use Rattle.script_form.proofs.Names.{◌≡◌, ℕ, List, [], ◌∷◌, ◌++◌, Option, Some, None, refl, sym, ap, ◌∙◌, subst, append_assoc, append-nil, unwrap_or, Target, Stmt, Spot, Fixed, At, Step, Let, Read, Write, Print, If, IfElse, Repeat, Withdraw, Block, End, Then, term, spot, plain, block, step_layer, made, made_place, made_step, made_all, made-term, term-made, made-block, block-made, plain-if, plain-if_else, plain-repeat, Flat, Opening, Level, Building, Row, Numbered, on, step_rows, rows, row_of, at, opening_rows, stack_rows, rows_so_far, added, opened, other_in, other_at, whole, shut_at, feed, made_flat, feeds}
use Rattle.value_form.specs.declared.scripts.Target.TheVariants as p
use Rattle.value_form.specs.declared.scripts.Stmt.TheVariants as s
use Rattle.value_form.specs.declared.scripts.Stmt.TheOpen.{Stmt-F}
use Rattle.value_form.specs.declared.scripts.Stmt.TheFolds.{fold-roll-Stmt}
use Rattle.script_form.specs.declared.flats.Flat.TheVariants as f
use Rattle.script_form.specs.declared.levels.Opening.TheVariants as o
use Rattle.script_form.specs.Row as r

-- ---- a row and its parsed line are the same

made_place-spot : (place : Target) → made_place (spot place) ≡ place
made_place-spot (p.Fixed object) = refl
made_place-spot (p.At n x) = ap (p.At n) (made-term x)

spot-made_place : (place : Spot) → spot (made_place place) ≡ place
spot-made_place (Fixed object) = refl
spot-made_place (At n x) = ap (At n) (term-made x)

pub made_flat-row : (flat : Flat) → made_flat (row_of flat) ≡ flat
made_flat-row (f.Let name x) = ap (f.Let name) (made-term x)
made_flat-row (f.Read name place) = ap (f.Read name) (made_place-spot place)
made_flat-row (f.Write place x) = ap (λ z. f.Write z (made (term x))) (made_place-spot place) ∙ ap (f.Write place) (made-term x)
made_flat-row (f.Print x) = ap f.Print (made-term x)
made_flat-row (f.If x) = ap f.If (made-term x)
made_flat-row f.Else = refl
made_flat-row f.End = refl
made_flat-row (f.Repeat x) = ap f.Repeat (made-term x)
made_flat-row f.Withdraw = refl

pub row-made_flat : (row : Row) → row_of (made_flat row) ≡ row
row-made_flat (r.Let name x) = ap (r.Let name) (term-made x)
row-made_flat (r.Read name place) = ap (r.Read name) (spot-made_place place)
row-made_flat (r.Write place x) = ap (λ z. r.Write z (term (made x))) (spot-made_place place) ∙ ap (r.Write place) (term-made x)
row-made_flat (r.Print x) = ap r.Print (term-made x)
row-made_flat (r.If x) = ap r.If (term-made x)
row-made_flat r.Else = refl
row-made_flat r.End = refl
row-made_flat (r.Repeat x) = ap r.Repeat (term-made x)
row-made_flat r.Withdraw = refl

-- ---- what is written is built

abbrev level : List Stmt → Opening → Level
level before opening = record { before = before; opening = opening }

mutual
  step_built : (x : Step) (st : List Level) (here : List Stmt) (rest : List Numbered) → feeds (at st here) (step_rows x ++ rest) ≡ feeds (at st (here ++ made_step x ∷ [])) rest
  step_built (Let l name x) st here rest = refl
  step_built (Read l name place) st here rest = refl
  step_built (Write l place x) st here rest = refl
  step_built (Print l x) st here rest = refl
  step_built (Withdraw l) st here rest = refl
  step_built (Repeat l x part e) st here rest =
      ap (feeds (at (level here (o.Repeat l (made x)) ∷ st) [])) (append_assoc (rows part) (on e r.End ∷ []) rest)
      ∙ block_built part (level here (o.Repeat l (made x)) ∷ st) [] (on e r.End ∷ rest)
  step_built (If l x part e) st here rest =
      ap (feeds (at (level here (o.If l (made x)) ∷ st) [])) (append_assoc (rows part) (on e r.End ∷ []) rest)
      ∙ block_built part (level here (o.If l (made x)) ∷ st) [] (on e r.End ∷ rest)
  step_built (IfElse l x part m other e) st here rest =
      ap (feeds (at (level here (o.If l (made x)) ∷ st) []))
      (append_assoc (rows part) (on m r.Else ∷ (rows other ++ on e r.End ∷ [])) rest ∙ ap (λ z. rows part ++ on m r.Else ∷ z) (append_assoc (rows other) (on e r.End ∷ []) rest))
      ∙ block_built part (level here (o.If l (made x)) ∷ st) [] (on m r.Else ∷ (rows other ++ on e r.End ∷ rest))
      ∙ block_built other (level here (o.Else l (made x) (made_all part) m) ∷ st) [] (on e r.End ∷ rest)

  block_built : (b : Block) (st : List Level) (here : List Stmt) (rest : List Numbered) → feeds (at st here) (rows b ++ rest) ≡ feeds (at st (here ++ made_all b)) rest
  block_built End st here rest = ap (λ z. feeds (at st z) rest) (sym (append-nil here))
  block_built (Then x b) st here rest =
      ap (feeds (at st here)) (append_assoc (step_rows x) (rows b) rest)
      ∙ step_built x st here (rows b ++ rest)
      ∙ block_built b st (here ++ made_step x ∷ []) rest
      ∙ ap (λ z. feeds (at st z) rest) (append_assoc here (made_step x ∷ []) (made_all b))

pub feeds-rows : (b : Block) → feeds (at [] []) (rows b) ≡ Some (at [] (made_all b))
feeds-rows b = ap (feeds (at [] [])) (sym (append-nil (rows b))) ∙ block_built b [] [] []

-- scripts with the same rows are the same
pub one_script : (a b : Block) → rows a ≡ rows b → a ≡ b
one_script a b is =
    let e : Some (at [] (made_all a)) ≡ Some (at [] (made_all b)) = sym (feeds-rows a) ∙ ap (feeds (at [] [])) is ∙ feeds-rows b in
    let same : made_all a ≡ made_all b = ap (λ o. (unwrap_or {T = Building} o (at [] [])).here) e in
    sym (block-made a) ∙ ap block same ∙ block-made b

feeds_opening : (st : List Level) (before : List Stmt) (x : Opening) (rest : List Numbered) → feeds (at st before) (opening_rows x ++ rest) ≡ feeds (at (level before x ∷ st) []) rest
feeds_opening st before (o.Repeat l x) rest = ap (λ z. feeds (at (level before (o.Repeat l z) ∷ st) []) rest) (made-term x)
feeds_opening st before (o.If l x) rest = ap (λ z. feeds (at (level before (o.If l z) ∷ st) []) rest) (made-term x)
feeds_opening st before (o.Else l x part m) rest =
    ap (feeds (at (level before (o.If l (made (term x))) ∷ st) [])) (append_assoc (rows (block part)) (on m r.Else ∷ []) rest)
    ∙ block_built (block part) (level before (o.If l (made (term x))) ∷ st) [] (on m r.Else ∷ rest)
    ∙ ap (λ z. feeds (at (level before (o.Else l (made (term x)) z m) ∷ st) []) rest) (made-block part)
    ∙ ap (λ z. feeds (at (level before (o.Else l z part m) ∷ st) []) rest) (made-term x)

feeds_stack : (st : List Level) (rest : List Numbered) → feeds (at [] []) (stack_rows st ++ rest) ≡ feeds (at st []) rest
feeds_stack [] rest = refl
feeds_stack (v ∷ st) rest =
    ap (feeds (at [] [])) (append_assoc (stack_rows st) (rows (block v.before) ++ opening_rows v.opening) rest ∙ ap (λ z. stack_rows st ++ z) (append_assoc (rows (block v.before)) (opening_rows v.opening) rest))
    ∙ feeds_stack st (rows (block v.before) ++ (opening_rows v.opening ++ rest))
    ∙ block_built (block v.before) st [] (opening_rows v.opening ++ rest)
    ∙ ap (λ z. feeds (at st z) (opening_rows v.opening ++ rest)) (made-block v.before)
    ∙ feeds_opening st v.before v.opening rest

-- fed from the beginning, its rows lead to a builder
pub feeds-so_far : (b : Building) (rest : List Numbered) → feeds (at [] []) (rows_so_far b ++ rest) ≡ feeds b rest
feeds-so_far b rest =
    ap (feeds (at [] [])) (append_assoc (stack_rows b.stack) (rows (block b.here)) rest)
    ∙ feeds_stack b.stack (rows (block b.here) ++ rest)
    ∙ block_built (block b.here) b.stack [] rest
    ∙ ap (λ z. feeds (at b.stack z) rest) (made-block b.here)

-- ---- what is built is written

rows-append : (xs ys : List Stmt) → rows (block (xs ++ ys)) ≡ rows (block xs) ++ rows (block ys)
rows-append [] ys = refl
rows-append (x ∷ xs) ys = ap (λ z. step_rows (plain x) ++ z) (rows-append xs ys) ∙ sym (append_assoc (step_rows (plain x)) (rows (block xs)) (rows (block ys)))

-- one more statement at the end
pub push_rows : (here : List Stmt) (x : Stmt) → rows (block (here ++ x ∷ [])) ≡ rows (block here) ++ step_rows (plain x)
push_rows here x = rows-append here (x ∷ []) ∙ ap (λ z. rows (block here) ++ z) (append-nil (step_rows (plain x)))

whole_rows : (x : Opening) (here : List Stmt) (n : ℕ) → step_rows (plain (whole x here n)) ≡ opening_rows x ++ (rows (block here) ++ on n r.End ∷ [])
whole_rows (o.Repeat l x) here n = ap step_rows (plain-repeat l x here n)
whole_rows (o.If l x) here n = ap step_rows (plain-if l x here n)
whole_rows (o.Else l x part m) here n =
    ap step_rows (plain-if_else l x part m here n)
    ∙ ap (λ z. on l (r.If (term x)) ∷ z) (sym (append_assoc (rows (block part)) (on m r.Else ∷ []) (rows (block here) ++ on n r.End ∷ [])))

abbrev pub OnBuilt : Option Building → List Numbered → Type 0
OnBuilt None xs = Unit {0}
OnBuilt (Some b) xs = xs ≡ rows_so_far b

-- a statement that is a row by itself
added_rows : (b : Building) (x : Stmt) (row : Numbered) → step_rows (plain x) ≡ row ∷ [] → OnBuilt (added b x) (rows_so_far b ++ row ∷ [])
added_rows b x row is =
    append_assoc (stack_rows b.stack) (rows (block b.here)) (row ∷ [])
    ∙ ap (λ z. stack_rows b.stack ++ z) (sym (push_rows b.here x ∙ ap (λ z. rows (block b.here) ++ z) is))

opened_rows : (b : Building) (x : Opening) → OnBuilt (opened b x) (rows_so_far b ++ opening_rows x)
opened_rows b x = append_assoc (stack_rows b.stack) (rows (block b.here)) (opening_rows x) ∙ sym (append-nil (stack_rows b.stack ++ (rows (block b.here) ++ opening_rows x)))

other_rows : (st : List Level) (before here : List Stmt) (x : Opening) (n : ℕ) → OnBuilt (other_in st before here x n) (((stack_rows st ++ (rows (block before) ++ opening_rows x)) ++ rows (block here)) ++ on n r.Else ∷ [])
other_rows st before here (o.If l x) n = simp (append_assoc, append-nil)
other_rows st before here (o.Repeat l x) n = tt
other_rows st before here (o.Else l x part m) n = tt

other_at_rows : (st : List Level) (here : List Stmt) (n : ℕ) → OnBuilt (other_at st here n) ((stack_rows st ++ rows (block here)) ++ on n r.Else ∷ [])
other_at_rows [] here n = tt
other_at_rows (v ∷ st) here n = other_rows st v.before here v.opening n

shut_rows : (st : List Level) (here : List Stmt) (n : ℕ) → OnBuilt (shut_at st here n) ((stack_rows st ++ rows (block here)) ++ on n r.End ∷ [])
shut_rows [] here n = tt
shut_rows (v ∷ st) here n =
    simp append_assoc (sym (ap (λ z. stack_rows st ++ z) (push_rows v.before (whole v.opening here n) ∙ ap (λ z. rows (block v.before) ++ z) (whole_rows v.opening here n))))

-- the rows so far, with the row that was fed
pub feed_rows : (b : Building) (n : ℕ) (flat : Flat) → OnBuilt (feed b n flat) (rows_so_far b ++ on n (row_of flat) ∷ [])
feed_rows b n (f.Let name x) = added_rows b (s.Let n name x) (on n (r.Let name (term x))) (ap (λ z. step_rows (plain z)) (sym (s.rolls-Let n name x)) ∙ ap step_rows (fold-roll-Stmt Step step_layer (Stmt-F.Let n name x)))
feed_rows b n (f.Read name place) = added_rows b (s.Read n name place) (on n (r.Read name (spot place))) (ap (λ z. step_rows (plain z)) (sym (s.rolls-Read n name place)) ∙ ap step_rows (fold-roll-Stmt Step step_layer (Stmt-F.Read n name place)))
feed_rows b n (f.Write place x) = added_rows b (s.Write n place x) (on n (r.Write (spot place) (term x))) (ap (λ z. step_rows (plain z)) (sym (s.rolls-Write n place x)) ∙ ap step_rows (fold-roll-Stmt Step step_layer (Stmt-F.Write n place x)))
feed_rows b n (f.Print x) = added_rows b (s.Print n x) (on n (r.Print (term x))) (ap (λ z. step_rows (plain z)) (sym (s.rolls-Print n x)) ∙ ap step_rows (fold-roll-Stmt Step step_layer (Stmt-F.Print n x)))
feed_rows b n f.Withdraw = added_rows b (s.Withdraw n) (on n r.Withdraw) (ap (λ z. step_rows (plain z)) (sym (s.rolls-Withdraw n)) ∙ ap step_rows (fold-roll-Stmt Step step_layer (Stmt-F.Withdraw n)))
feed_rows b n (f.If x) = opened_rows b (o.If n x)
feed_rows b n (f.Repeat x) = opened_rows b (o.Repeat n x)
feed_rows b n f.Else = other_at_rows b.stack b.here n
feed_rows b n f.End = shut_rows b.stack b.here n

pub fed_rows : (b new : Building) (n : ℕ) (flat : Flat) → feed b n flat ≡ Some new → rows_so_far b ++ on n (row_of flat) ∷ [] ≡ rows_so_far new
fed_rows b new n flat is = subst (λ z. OnBuilt z (rows_so_far b ++ on n (row_of flat) ∷ [])) is (feed_rows b n flat)
