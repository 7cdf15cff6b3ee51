-- The depth of blocks is the most that are open at a time.
use Rattle.script_form.proofs.Names.{◌≡◌, ℕ, suc, ◌+◌, ◌≤◌, max, List, [], ◌∷◌, ◌++◌, length, refl, sym, ap, ◌∙◌, arith, append_assoc, append-nil, Step, Let, Read, Write, Print, If, IfElse, Repeat, Withdraw, Block, End, Then, block, Opening, Level, Building, Numbered, on, step_rows, rows, step_depth, block_depth, opening_rows, stack_rows, rows_so_far, open_by, open_after, peak}
use Rattle.script_form.specs.declared.levels.Opening.TheVariants as o
use Rattle.script_form.specs.Row as r

pub peak_ge : (n : ℕ) (xs : List Numbered) → n ≤ peak n xs
peak_ge n [] = omega arith
peak_ge n (x ∷ xs) = omega arith

pub open_le-peak : (n : ℕ) (xs : List Numbered) → open_after n xs ≤ peak n xs
open_le-peak n [] = omega arith
open_le-peak n (x ∷ xs) = let k = open_le-peak (open_by n x.row) xs in omega arith

pub open_after-append : (n : ℕ) (xs ys : List Numbered) → open_after n (xs ++ ys) ≡ open_after (open_after n xs) ys
open_after-append n [] ys = refl
open_after-append n (x ∷ xs) ys = open_after-append (open_by n x.row) xs ys

pub peak-append : (n : ℕ) (xs ys : List Numbered) → peak n (xs ++ ys) ≡ max (peak n xs) (peak (open_after n xs) ys)
peak-append n [] ys = let k = peak_ge n ys in omega arith
peak-append n (x ∷ xs) ys = let k = peak-append (open_by n x.row) xs ys in omega arith

-- ---- rows of a block leave open what was open

mutual
  open_after-step : (x : Step) (n : ℕ) (rest : List Numbered) → open_after n (step_rows x ++ rest) ≡ open_after n rest
  open_after-step (Let l name x) n rest = refl
  open_after-step (Read l name place) n rest = refl
  open_after-step (Write l place x) n rest = refl
  open_after-step (Print l x) n rest = refl
  open_after-step (Withdraw l) n rest = refl
  open_after-step (If l x part e) n rest = ap (open_after (suc n)) (append_assoc (rows part) (on e r.End ∷ []) rest) ∙ open_after-block part (suc n) (on e r.End ∷ rest)
  open_after-step (Repeat l x part e) n rest = ap (open_after (suc n)) (append_assoc (rows part) (on e r.End ∷ []) rest) ∙ open_after-block part (suc n) (on e r.End ∷ rest)
  open_after-step (IfElse l x part m other e) n rest =
      ap (open_after (suc n)) (append_assoc (rows part) (on m r.Else ∷ (rows other ++ on e r.End ∷ [])) rest ∙ ap (λ z. rows part ++ on m r.Else ∷ z) (append_assoc (rows other) (on e r.End ∷ []) rest))
      ∙ open_after-block part (suc n) (on m r.Else ∷ (rows other ++ on e r.End ∷ rest))
      ∙ open_after-block other (suc n) (on e r.End ∷ rest)

  open_after-block : (b : Block) (n : ℕ) (rest : List Numbered) → open_after n (rows b ++ rest) ≡ open_after n rest
  open_after-block End n rest = refl
  open_after-block (Then x b) n rest = ap (open_after n) (append_assoc (step_rows x) (rows b) rest) ∙ open_after-step x n (rows b ++ rest) ∙ open_after-block b n rest

pub open_after-rows : (b : Block) (n : ℕ) → open_after n (rows b) ≡ n
open_after-rows b n = ap (open_after n) (sym (append-nil (rows b))) ∙ open_after-block b n []

-- ---- and their peak is their depth

one_part : (n d k : ℕ) → n ≤ k → max n (max (suc n + d) (max (suc n) k)) ≡ max (n + (d + 1)) k
one_part n d k h = omega arith

two_parts : (n d c k : ℕ) → n ≤ k → max n (max (suc n + d) (max (suc n) (max (suc n + c) (max (suc n) k)))) ≡ max (n + (max d c + 1)) k
two_parts n d c k h = omega arith

joined : (n d c k : ℕ) → max (n + d) (max (n + c) k) ≡ max (n + max d c) k
joined n d c k = omega arith

part_peak : (part : Block) (n e : ℕ) (rest : List Numbered) → peak (suc n) (rows part ++ on e r.End ∷ rest) ≡ max (suc n + block_depth part) (peak (suc n) (on e r.End ∷ rest)) → max n (peak (suc n) ((rows part ++ on e r.End ∷ []) ++ rest)) ≡ max (n + (block_depth part + 1)) (peak n rest)
part_peak part n e rest is = ap (max n) (ap (peak (suc n)) (append_assoc (rows part) (on e r.End ∷ []) rest) ∙ is) ∙ one_part n (block_depth part) (peak n rest) (peak_ge n rest)

mutual
  peak-step : (x : Step) (n : ℕ) (rest : List Numbered) → peak n (step_rows x ++ rest) ≡ max (n + step_depth x) (peak n rest)
  peak-step (Let l name x) n rest = omega arith
  peak-step (Read l name place) n rest = omega arith
  peak-step (Write l place x) n rest = omega arith
  peak-step (Print l x) n rest = omega arith
  peak-step (Withdraw l) n rest = omega arith
  peak-step (If l x part e) n rest = part_peak part n e rest (peak-block part (suc n) (on e r.End ∷ rest))
  peak-step (Repeat l x part e) n rest = part_peak part n e rest (peak-block part (suc n) (on e r.End ∷ rest))
  peak-step (IfElse l x part m other e) n rest =
      let all : peak (suc n) ((rows part ++ on m r.Else ∷ (rows other ++ on e r.End ∷ [])) ++ rest) ≡ peak (suc n) (rows part ++ on m r.Else ∷ (rows other ++ on e r.End ∷ rest)) =
      ap (peak (suc n)) (append_assoc (rows part) (on m r.Else ∷ (rows other ++ on e r.End ∷ [])) rest ∙ ap (λ z. rows part ++ on m r.Else ∷ z) (append_assoc (rows other) (on e r.End ∷ []) rest)) in
      let first = peak-block part (suc n) (on m r.Else ∷ (rows other ++ on e r.End ∷ rest)) in
      let second = peak-block other (suc n) (on e r.End ∷ rest) in
      ap (max n) (all ∙ first ∙ ap (λ z. max (suc n + block_depth part) (max (suc n) z)) second) ∙ two_parts n (block_depth part) (block_depth other) (peak n rest) (peak_ge n rest)

  peak-block : (b : Block) (n : ℕ) (rest : List Numbered) → peak n (rows b ++ rest) ≡ max (n + block_depth b) (peak n rest)
  peak-block End n rest = let k = peak_ge n rest in omega arith
  peak-block (Then x b) n rest =
      ap (peak n) (append_assoc (step_rows x) (rows b) rest) ∙ peak-step x n (rows b ++ rest) ∙ ap (max (n + step_depth x)) (peak-block b n rest) ∙ joined n (step_depth x) (block_depth b) (peak n rest)

pub block_depth-peak : (b : Block) → block_depth b ≡ peak 0 (rows b)
block_depth-peak b =
    let k : peak 0 (rows b) ≡ max (0 + block_depth b) 0 = ap (peak 0) (sym (append-nil (rows b))) ∙ peak-block b 0 [] in
    omega arith

-- ---- as many blocks are open as levels stand on the stack

open_after-opening : (x : Opening) (n : ℕ) (rest : List Numbered) → open_after n (opening_rows x ++ rest) ≡ open_after (suc n) rest
open_after-opening (o.Repeat l x) n rest = refl
open_after-opening (o.If l x) n rest = refl
open_after-opening (o.Else l x part m) n rest = ap (open_after (suc n)) (append_assoc (rows (block part)) (on m r.Else ∷ []) rest) ∙ open_after-block (block part) (suc n) (on m r.Else ∷ rest)

open_after-stack : (st : List Level) (rest : List Numbered) → open_after 0 (stack_rows st ++ rest) ≡ open_after (length st) rest
open_after-stack [] rest = refl
open_after-stack (v ∷ st) rest =
    ap (open_after 0) (append_assoc (stack_rows st) (rows (block v.before) ++ opening_rows v.opening) rest ∙ ap (λ z. stack_rows st ++ z) (append_assoc (rows (block v.before)) (opening_rows v.opening) rest))
    ∙ open_after-stack st (rows (block v.before) ++ (opening_rows v.opening ++ rest))
    ∙ open_after-block (block v.before) (length st) (opening_rows v.opening ++ rest)
    ∙ open_after-opening v.opening (length st) rest

pub open_after-so_far : (b : Building) → open_after 0 (rows_so_far b) ≡ length b.stack
open_after-so_far b = open_after-stack b.stack (rows (block b.here)) ∙ open_after-rows (block b.here) (length b.stack)
