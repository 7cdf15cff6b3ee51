-- What a generated plan has, one part after another.
use Rattle.plan_form.proofs.Names.{◌≡◌, ℕ, suc, ◌+◌, ◌-◌, ◌*◌, ◌<◌, List, [], ◌∷◌, ◌++◌, sym, ap, ◌∙◌, arith, append_assoc, ActSpec, Stmt, made_all, made_step, sums, transfers, drawn_act, after_act, last_step, account_read, account_sum}

pub transfers_next : (count before state : ℕ) → before < count → transfers (count - before) state (before + 1) ≡ drawn_act state (before + 1) ∷ transfers (count - (before + 1)) (after_act state) (before + 1 + 1)
transfers_next count before state h = ap (λ z. transfers z state (before + 1)) (let e : count - before ≡ suc (count - (before + 1)) = omega arith in e)

pub transfers_more : (acts : List ActSpec) (count before state : ℕ) (all : List ActSpec) → before < count → acts ++ transfers (count - before) state (before + 1) ≡ all
    → (acts ++ drawn_act state (before + 1) ∷ []) ++ transfers (count - (before + 1)) (after_act state) (before + 1 + 1) ≡ all
transfers_more acts count before state all h e =
    append_assoc acts (drawn_act state (before + 1) ∷ []) (transfers (count - (before + 1)) (after_act state) (before + 1 + 1)) ∙ ap (λ z. acts ++ z) (sym (transfers_next count before state h)) ∙ e

pub sums_next : (repository line : ℕ) → repository < 9 → made_all (sums (9 - repository) repository line last_step)
    ≡ made_step (account_read repository line) ∷ made_step (account_sum (line + 1)) ∷ made_all (sums (9 - (repository + 1)) (repository + 1) (line + 2) last_step)
sums_next repository line h = ap (λ z. made_all (sums z repository line last_step)) (let e : 9 - repository ≡ suc (9 - (repository + 1)) = omega arith in e)

pub sums_more : (part : List Stmt) (repository : ℕ) (all : List Stmt) → repository < 9 → part ++ made_all (sums (9 - repository) repository (2 * repository + 2) last_step) ≡ all
    → ((part ++ made_step (account_read repository (2 * repository + 2)) ∷ []) ++ made_step (account_sum (2 * repository + 2 + 1)) ∷ []) ++ made_all (sums (9 - (repository + 1)) (repository + 1) (2 * (repository + 1) + 2) last_step) ≡ all
sums_more part repository all h e =
    let first = made_step (account_read repository (2 * repository + 2)) in
    let second = made_step (account_sum (2 * repository + 2 + 1)) in
    let others = made_all (sums (9 - (repository + 1)) (repository + 1) (2 * (repository + 1) + 2) last_step) in
    append_assoc (part ++ first ∷ []) (second ∷ []) others
    ∙ append_assoc part (first ∷ []) (second ∷ others)
    ∙ ap (λ z. part ++ (first ∷ second ∷ made_all (sums (9 - (repository + 1)) (repository + 1) z last_step))) (let k : 2 * (repository + 1) + 2 ≡ 2 * repository + 2 + 2 = omega arith in k)
    ∙ ap (λ z. part ++ z) (sym (sums_next repository (2 * repository + 2) h))
    ∙ e

-- ---- one turn of a loop

pub transfers_step : (acts acts2 all : List ActSpec) (act : ActSpec) (count before state state2 : ℕ) → before < count → acts2 ≡ acts ++ act ∷ [] → act ≡ drawn_act state (before + 1) → state2 ≡ after_act state
    → acts ++ transfers (count - before) state (before + 1) ≡ all → acts2 ++ transfers (count - (before + 1)) state2 (before + 1 + 1) ≡ all
transfers_step acts acts2 all act count before state state2 h items is goes e =
    ap (λ z. z ++ transfers (count - (before + 1)) state2 (before + 1 + 1)) (items ∙ ap (λ z. acts ++ z ∷ []) is)
    ∙ ap (λ z. (acts ++ drawn_act state (before + 1) ∷ []) ++ transfers (count - (before + 1)) z (before + 1 + 1)) goes
    ∙ transfers_more acts count before state all h e

pub sums_step : (part part1 part2 all : List Stmt) (first second : Stmt) (repository : ℕ) → repository < 9 → part1 ≡ part ++ first ∷ [] → part2 ≡ part1 ++ second ∷ []
    → first ≡ made_step (account_read repository (2 * repository + 2)) → second ≡ made_step (account_sum (2 * repository + 2 + 1))
    → part ++ made_all (sums (9 - repository) repository (2 * repository + 2) last_step) ≡ all
    → part2 ++ made_all (sums (9 - (repository + 1)) (repository + 1) (2 * (repository + 1) + 2) last_step) ≡ all
sums_step part part1 part2 all first second repository h items items2 is is2 e =
    ap (λ z. z ++ made_all (sums (9 - (repository + 1)) (repository + 1) (2 * (repository + 1) + 2) last_step))
    (items2 ∙ ap (λ z. z ++ second ∷ []) (items ∙ ap (λ z. part ++ z ∷ []) is) ∙ ap (λ z. (part ++ made_step (account_read repository (2 * repository + 2)) ∷ []) ++ z ∷ []) is2)
    ∙ sums_more part repository all h e
