-- Rows that can be fed begin a script, and only these.
use Rattle.script_form.proofs.Names.{◌≡◌, ℕ, zero, suc, ◌<◌, ◌≤◌, max, Bool, true, false, List, [], ◌∷◌, ◌++◌, length, Some, None, Result, Ok, Err, refl, sym, ap, ◌∙◌, subst, arith, append_assoc, append-nil, option_and_then, Stmt, Block, block, made_all, Flat, Level, Building, Numbered, on, rows, block_depth, row_of, Begins, BeginsShallow, at, rows_so_far, whole, opens, feed, Feeds, Fed, IsErr, IsErrAnd, row_feed, feeds, open_by, open_after, peak}
use Rattle.script_form.specs.declared.flats.Flat.TheVariants as f
use Rattle.script_form.specs.Row as r
use Rattle.script_form.specs.declared.block_faults.BlockFault.{BlockFault}
use Rattle.script_form.specs.declared.block_faults.BlockFault.TheVariants as fault
use Rattle.script_form.specs.Sound.{IsSound}
use Rattle.script_form.proofs.BlockLemmas.{made_flat-row, feeds-rows, feeds-so_far, fed_rows}
use Rattle.script_form.proofs.PeakLemmas.{open_le-peak, open_after-append, peak-append, open_after-rows, block_depth-peak, open_after-so_far}

-- ---- an `end` for each open block

ends : List Level → List Numbered
ends [] = []
ends (v ∷ st) = on 0 r.End ∷ ends st

ends_rows : (st : List Level) (here : List Stmt) → (found : List Stmt) × (rows_so_far (at st here) ++ ends st ≡ rows (block found))
unfolding ends
ends_rows [] here = (here, append-nil (rows (block here)))
ends_rows (v ∷ st) here =
    let all = ends_rows st (v.before ++ whole v.opening here 0 ∷ []) in
    let fed : rows_so_far (at (v ∷ st) here) ++ on 0 r.End ∷ [] ≡ rows_so_far (at st (v.before ++ whole v.opening here 0 ∷ [])) = fed_rows (at (v ∷ st) here) (at st (v.before ++ whole v.opening here 0 ∷ [])) 0 f.End refl in
    (all.0, sym (append_assoc (rows_so_far (at (v ∷ st) here)) (on 0 r.End ∷ []) (ends st)) ∙ ap (λ z. z ++ ends st) fed ∙ all.1)

peak-ends : (st : List Level) → peak (length st) (ends st) ≡ length st
unfolding ends
peak-ends [] = refl
peak-ends (v ∷ st) = let k = peak-ends st in omega arith

pub so_far_begins : (b : Building) → Begins (rows_so_far b)
so_far_begins b = let all = ends_rows b.stack b.here in record { more = ends b.stack; script = block all.0; is = all.1 }

pub so_far_shallow : (b : Building) → IsSound b → BeginsShallow (rows_so_far b)
so_far_shallow b sound =
    let all = ends_rows b.stack b.here in
    let height : peak (open_after 0 (rows_so_far b)) (ends b.stack) ≡ length b.stack = ap (λ n. peak n (ends b.stack)) (open_after-so_far b) ∙ peak-ends b.stack in
    let height_now : length b.stack ≤ peak 0 (rows_so_far b) = subst (λ n. n ≤ peak 0 (rows_so_far b)) (open_after-so_far b) (open_le-peak 0 (rows_so_far b)) in
    let deep : block_depth (block all.0) ≡ max (peak 0 (rows_so_far b)) (length b.stack) =
    block_depth-peak (block all.0) ∙ ap (peak 0) (sym all.1) ∙ peak-append 0 (rows_so_far b) (ends b.stack) ∙ ap (max (peak 0 (rows_so_far b))) height in
    let low : peak 0 (rows_so_far b) ≤ 16 = sound in
    record { more = ends b.stack; script = block all.0; is = all.1; shallow = omega arith }

-- ---- what was fed

open_by-opens : (n : ℕ) (flat : Flat) → opens flat ≡ true → open_by n (row_of flat) ≡ suc n
open_by-opens n (f.If x) h = refl
open_by-opens n (f.Repeat x) h = refl
open_by-opens n _ h = absurd (let no : ⊥ = cc in no)

below_le : (n : ℕ) → open_by n r.End ≤ n
below_le zero = omega arith
below_le (suc n) = omega arith

open_by-else : (n : ℕ) (flat : Flat) → opens flat ≡ false → open_by n (row_of flat) ≤ n
open_by-else n (f.If x) h = absurd (let no : ⊥ = cc in no)
open_by-else n (f.Repeat x) h = absurd (let no : ⊥ = cc in no)
open_by-else n f.End h = below_le n
open_by-else n _ h = omega arith

-- the stack after a row
open_new : (b new : Building) (n : ℕ) (flat : Flat) → feed b n flat ≡ Some new → length new.stack ≡ open_by (length b.stack) (row_of flat)
open_new b new n flat is =
    sym (open_after-so_far new) ∙ ap (open_after 0) (sym (fed_rows b new n flat is)) ∙ open_after-append 0 (rows_so_far b) (on n (row_of flat) ∷ []) ∙ ap (λ k. open_by k (row_of flat)) (open_after-so_far b)

pub fed_sound : (b new : Building) (n : ℕ) (flat : Flat) → IsSound b → feed b n flat ≡ Some new → (opens flat ≡ true → length new.stack ≤ 16) → IsSound new
fed_sound b new n flat sound is fits = at' (opens flat) refl
  where
    low : peak 0 (rows_so_far b) ≤ 16
    low = sound

    opened_now : length b.stack ≤ peak 0 (rows_so_far b)
    opened_now = subst (λ n. n ≤ peak 0 (rows_so_far b)) (open_after-so_far b) (open_le-peak 0 (rows_so_far b))

    height : peak 0 (rows_so_far new) ≡ max (peak 0 (rows_so_far b)) (max (length b.stack) (length new.stack))
    height = ap (peak 0) (sym (fed_rows b new n flat is)) ∙ peak-append 0 (rows_so_far b) (on n (row_of flat) ∷ []) ∙ ap (λ k. max (peak 0 (rows_so_far b)) (max k (open_by k (row_of flat)))) (open_after-so_far b) ∙ ap (λ k. max (peak 0 (rows_so_far b)) (max (length b.stack) k)) (sym (open_new b new n flat is))

    short : length new.stack ≤ 16 → IsSound new
    short h = omega (arith, height, low, opened_now)

    at' : (v : Bool) → opens flat ≡ v → IsSound new
    at' true h = short (fits h)
    at' false h = let k = open_by-else (length b.stack) flat h in let e = open_new b new n flat is in short (omega (arith, low, opened_now))

-- a row that opens a block goes on every script
opens_feed : (b : Building) (n : ℕ) (flat : Flat) → opens flat ≡ true → (new : Building) × (feed b n flat ≡ Some new)
opens_feed b n (f.If x) h = (_, refl)
opens_feed b n (f.Repeat x) h = (_, refl)
opens_feed b n _ h = absurd (let no : ⊥ = cc in no)

pub fed_begins : (b new : Building) (n : ℕ) (flat : Flat) → feed b n flat ≡ Some new → Begins (rows_so_far b ++ on n (row_of flat) ∷ [])
fed_begins b new n flat is = subst Begins (sym (fed_rows b new n flat is)) (so_far_begins new)

pub opened_begins : (b : Building) (n : ℕ) (flat : Flat) → opens flat ≡ true → Begins (rows_so_far b ++ on n (row_of flat) ∷ [])
opened_begins b n flat h = let k = opens_feed b n flat h in fed_begins b k.0 n flat k.1

-- ---- what can't be fed

pub unfed_begins_none : (b : Building) (n : ℕ) (flat : Flat) → feed b n flat ≡ None → Begins (rows_so_far b ++ on n (row_of flat) ∷ []) → ⊥
unfed_begins_none b n flat none h =
    let row : Numbered = on n (row_of flat) in
    let stops : row_feed b row ≡ None = ap (feed b n) (made_flat-row flat) ∙ none in
    let all : rows_so_far b ++ row ∷ h.more ≡ rows h.script = sym (append_assoc (rows_so_far b) (row ∷ []) h.more) ∙ h.is in
    let stopped : feeds (at [] []) (rows h.script) ≡ None = ap (feeds (at [] [])) (sym all) ∙ feeds-so_far b (row ∷ h.more) ∙ ap (option_and_then (λ b'. feeds b' h.more)) stops in
    let e : None ≡ Some (at [] (made_all h.script)) = sym stopped ∙ feeds-rows h.script in
    let no : ⊥ = cc in no

-- the seventeenth block
pub too_deep : (b : Building) (n : ℕ) (flat : Flat) → opens flat ≡ true → 16 ≤ length b.stack → BeginsShallow (rows_so_far b ++ on n (row_of flat) ∷ []) → ⊥
too_deep b n flat opening full h =
    let xs : List Numbered = rows_so_far b ++ on n (row_of flat) ∷ [] in
    let height_now : open_after 0 xs ≡ suc (length b.stack) =
    open_after-append 0 (rows_so_far b) (on n (row_of flat) ∷ []) ∙ ap (λ k. open_by k (row_of flat)) (open_after-so_far b) ∙ open_by-opens (length b.stack) flat opening in
    let deep : block_depth h.script ≡ max (peak 0 xs) (peak (open_after 0 xs) h.more) = block_depth-peak h.script ∙ ap (peak 0) (sym h.is) ∙ peak-append 0 xs h.more in
    let least : open_after 0 xs ≤ peak 0 xs = open_le-peak 0 xs in
    let shallow : block_depth h.script ≤ 16 = h.shallow in
    let no : ⊥ = omega arith in no

-- ---- the end

pub open_not_rows : (b : Building) → 0 < length b.stack → (script : Block) → rows script ≡ rows_so_far b → ⊥
open_not_rows b some_open script is =
    let k : 0 ≡ length b.stack = sym (open_after-rows script 0) ∙ ap (open_after 0) is ∙ open_after-so_far b in
    let no : ⊥ = omega arith in no

sound_depth : (st : List Level) (here : List Stmt) → IsSound (at st here) → length st ≡ 0 → block_depth (block here) ≤ 16
sound_depth [] here sound none =
    let k : block_depth (block here) ≡ peak 0 (rows (block here)) = block_depth-peak (block here) in
    let low : peak 0 (rows (block here)) ≤ 16 = sound in
    omega arith
sound_depth (v ∷ st) here sound none = absurd (let no : ⊥ = omega (arith, none) in no)

pub ended_depth : (b : Building) → IsSound b → length b.stack ≡ 0 → block_depth (block b.here) ≤ 16
ended_depth b sound none = sound_depth b.stack b.here sound none

pub ended_open : (b : Building) → (length b.stack ≡ 0 → ⊥) → (script : Block) → rows script ≡ rows_so_far b → ⊥
ended_open b some_open = open_not_rows b (omega (arith, some_open))

-- ---- what feeding in code gives

fed_of : (old new : Building) (n : ℕ) (flat : Flat) → IsSound new → feed old n flat ≡ Some new → (rows_so_far old ++ on n (row_of flat) ∷ [] ≡ rows_so_far new) × BeginsShallow (rows_so_far new)
fed_of old new n flat sound is = (fed_rows old new n flat is, so_far_shallow new sound)

pub fed_ok : (old new : Building) (n : ℕ) (flat : Flat) → IsSound old → Feeds old n flat (Ok new) → IsSound new × Fed old (on n (row_of flat)) (Ok new)
fed_ok old new n flat sound h = let k = fed_sound old new n flat sound h.0 h.1 in (k, fed_of old new n flat k h.0)

pub fed_fault : (old : Building) (n : ℕ) (flat : Flat) (fault : BlockFault) → Feeds old n flat (Err fault) → Fed old (on n (row_of flat)) (Err fault)
fed_fault old n flat fault.Block h = unfed_begins_none old n flat h
fed_fault old n flat fault.Depth h = (opened_begins old n flat h.0, too_deep old n flat h.0 h.1)
fed_fault old n flat fault.NoMemory h = tt

pub fed_handed : (old : Building) (n : ℕ) (flat : Flat) (result : Result Building BlockFault) (fault : BlockFault) → IsErr result × IsErrAnd result (λ other. other ≡ fault) → Feeds old n flat (Err fault) → Fed old (on n (row_of flat)) result
fed_handed old n flat (Ok new) fault (_, and) h = absurd and
fed_handed old n flat (Err other) fault (_, and) h = fed_fault old n flat other (subst (λ z. Feeds old n flat (Err z)) (sym and) h)
