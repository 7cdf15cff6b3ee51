-- The versions of logs, counted log by log.
use Rattle.std.proofs.Common.{◌≡◌, ◌<◌, ◌+◌, ◌-◌, ◌^◌, ℕ, List, [], ◌∷◌, ◌++◌, length, get_or, take, min, refl, sym, ◌∙◌, ap, arith}
use Rattle.std.specs.Global.{Vec}
use Rattle.std.specs.List.{count_by}
use Rattle.effect_form.specs.declared.effects.Effect.{Effect}
use Rattle.log_replay.specs.Folders.{items_of}
use Rattle.log_replay.proofs.ItemLemmas.{items-next}
use Rattle.replay_command.specs.Counts.{capped, is_put, puts_in}
unfoldable use Rattle.replay_command.specs.Counts.{all_puts}

puts-more : (logs : List (List Effect)) (log : List Effect) → all_puts (logs ++ log ∷ []) ≡ all_puts logs + count_by is_put log
unfolding all_puts
puts-more [] log = omega arith
puts-more (l ∷ logs) log = let h = puts-more logs log in omega (arith, h)

puts-next : (logs : List (Vec Effect)) (i : ℕ) (log : Vec Effect) → i < length logs → log ≡ get_or logs i log → all_puts (items_of (take (i + 1) logs)) ≡ all_puts (items_of (take i logs)) + count_by is_put log.items
puts-next logs i log low is = ap all_puts (items-next logs i log low is) ∙ puts-more (items_of (take i logs)) log.items

-- a count that goes no further, and what is added to it
capped-add : (a b : ℕ) → min (capped a + capped b) (2 ^ 64 - 1) ≡ capped (a + b)
capped-add a b = omega arith

pub puts-none : 0 ≡ capped (all_puts [])
unfolding all_puts
puts-none = refl

pub versions-next : (logs : List (Vec Effect)) (i : ℕ) (log : Vec Effect) (shown : List Effect) (count more sum : ℕ) → i < length logs → log ≡ get_or logs i log → shown ≡ log.items → more ≡ puts_in shown →
    count ≡ capped (all_puts (items_of (take i logs))) → sum ≡ min (count + more) (2 ^ 64 - 1) → sum ≡ capped (all_puts (items_of (take (i + 1) logs)))
versions-next logs i log shown count more sum low is same puts known last =
    let before = all_puts (items_of (take i logs)) in
    last ∙ ap (λ n. min (n + more) (2 ^ 64 - 1)) known ∙ ap (λ n. min (capped before + n) (2 ^ 64 - 1)) (puts ∙ ap puts_in same) ∙ capped-add before (count_by is_put log.items) ∙ ap capped (sym (puts-next logs i log low is))
