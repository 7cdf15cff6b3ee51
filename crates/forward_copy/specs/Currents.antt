-- Which of a node's volumes is current, by their logs from volume 0 on.
use Rattle.std.specs.Prelude.{ℕ, zero, suc, List, [], ◌∷◌, if◌then◌else◌}
use Rattle.effect_form.specs.declared.effects.Effect.{Effect}
use Rattle.forward_copy.specs.Wholes.{has_whole}

-- the last of these logs, from this volume on, that has a Whole; the one found before where none has
abbrev pub current_from : ℕ → ℕ → List (List Effect) → ℕ
current_from found v [] = found
current_from found v (log ∷ logs) = current_from (if has_whole log then v else found) (suc v) logs

-- the current volume: the greatest that has a Whole, or 0 where none has
abbrev pub current : List (List Effect) → ℕ
current logs = current_from 0 0 logs

-- the log of a volume
abbrev pub log_at : List (List Effect) → ℕ → List Effect
log_at [] v = []
log_at (log ∷ logs) zero = log
log_at (log ∷ logs) (suc v) = log_at logs v

-- the node's log: that of its current volume
abbrev pub node_log : List (List Effect) → List Effect
node_log logs = log_at logs (current logs)
