-- The attempts of a broker, by run and act, as its log has them, the first effect first.
use Rattle.std.specs.Prelude.{ℕ, ◌+◌, ◌-◌, ◌^◌, min, ◌==◌, ◌||◌, ◌&&◌, not, nat_le, nat_lt, Bool, false, List, [], ◌∷◌, ◌++◌, codes, length, if◌then◌else◌}
use Rattle.std.specs.BTreeSet.{insert_key}
use Rattle.pseudo_time.specs.StampParts.{StampParts, stamp_cmp}
use Rattle.effect_form.specs.declared.effects.Effect.{Effect}
use Rattle.effect_form.specs.declared.effects.Effect.TheVariants as effect
use Rattle.effect_form.specs.declared.outcomes.Outcome.{Outcome}
use Rattle.effect_form.specs.declared.outcomes.Outcome.TheVariants as outcome
use Rattle.folder_look.specs.declared.choices.Choice.{Choice}
use Rattle.folder_look.specs.Choices.{has_all, has_try}
use Rattle.folder_look.specs.Pieces.{text_of, Words, Number, Text}
use Rattle.folder_look.specs.Shown.{ShownParts, is_shown}
use Rattle.folder_look.specs.Steps.{try_text}
use Rattle.folder_look.specs.Touches.{Touched}

-- with the stamps of the attempts that are chosen, of so many at most
abbrev pub with_tries : Choice → Touched → ℕ → List Effect → List StampParts → List StampParts
with_tries c touched n [] all = all
with_tries c touched n (effect.Try i s ∷ es) all = if nat_lt 0 n && has_try c touched s es then with_tries c touched (n - 1) es (insert_key stamp_cmp all s) else with_tries c touched n es all
with_tries c touched n (effect.Run k ∷ es) all = with_tries c touched n es all
with_tries c touched n (effect.Act i h t k x y ∷ es) all = with_tries c touched n es all
with_tries c touched n (effect.Got k v ∷ es) all = with_tries c touched n es all
with_tries c touched n (effect.Acked k ∷ es) all = with_tries c touched n es all
with_tries c touched n (effect.End i o ∷ es) all = with_tries c touched n es all
with_tries c touched n (effect.Put o x v ∷ es) all = with_tries c touched n es all
with_tries c touched n (effect.Stretch o x ∷ es) all = with_tries c touched n es all
with_tries c touched n (effect.Mark at ∷ es) all = with_tries c touched n es all
with_tries c touched n (effect.Whole ∷ es) all = with_tries c touched n es all
with_tries c touched n (effect.Begin s d ∷ es) all = with_tries c touched n es all
with_tries c touched n (effect.Decide s d ∷ es) all = with_tries c touched n es all
with_tries c touched n (effect.Learn s d ∷ es) all = with_tries c touched n es all

-- ---- an act

-- an act that is spent has a row of its own
abbrev pub spent_text : Outcome → List ℕ
spent_text outcome.Committed = []
spent_text (outcome.Withdrawn l) = []
spent_text (outcome.Failed l k) = []
spent_text (outcome.LaterRead o e) = []
spent_text (outcome.LaterVersion o x) = []
spent_text (outcome.Expired d m) = []
spent_text (outcome.Spent c) = text_of (Words (codes "<tr><td></td><td></td><td class=\"spent\">spent ") ∷ Number c ∷ Words (codes "</td></tr>\n") ∷ [])

abbrev pub try_shown : ShownParts → StampParts → List Effect → List ℕ
try_shown p s es = if is_shown p s then try_text p s es else []

-- a row for each attempt that is shown, up to the next act
abbrev pub tries_text : ShownParts → List Effect → List ℕ
tries_text p [] = []
tries_text p (effect.Try i s ∷ es) = try_shown p s es ++ tries_text p es
tries_text p (effect.End i o ∷ es) = spent_text o ++ tries_text p es
tries_text p (effect.Run n ∷ es) = []
tries_text p (effect.Act i h t k c x ∷ es) = []
tries_text p (effect.Got k v ∷ es) = tries_text p es
tries_text p (effect.Acked k ∷ es) = tries_text p es
tries_text p (effect.Put o x v ∷ es) = tries_text p es
tries_text p (effect.Stretch o x ∷ es) = tries_text p es
tries_text p (effect.Mark at ∷ es) = tries_text p es
tries_text p (effect.Whole ∷ es) = tries_text p es
tries_text p (effect.Begin s d ∷ es) = tries_text p es
tries_text p (effect.Decide s d ∷ es) = tries_text p es
tries_text p (effect.Learn s d ∷ es) = tries_text p es

-- whether an attempt up to the next act is shown
abbrev pub any_try : ShownParts → List Effect → Bool
any_try p [] = false
any_try p (effect.Try i s ∷ es) = is_shown p s || any_try p es
any_try p (effect.Run n ∷ es) = false
any_try p (effect.Act i h t k c x ∷ es) = false
any_try p (effect.End i o ∷ es) = any_try p es
any_try p (effect.Got k v ∷ es) = any_try p es
any_try p (effect.Acked k ∷ es) = any_try p es
any_try p (effect.Put o x v ∷ es) = any_try p es
any_try p (effect.Stretch o x ∷ es) = any_try p es
any_try p (effect.Mark at ∷ es) = any_try p es
any_try p (effect.Whole ∷ es) = any_try p es
any_try p (effect.Begin s d ∷ es) = any_try p es
any_try p (effect.Decide s d ∷ es) = any_try p es
any_try p (effect.Learn s d ∷ es) = any_try p es

-- an act, its script folded away
abbrev pub act_head : ℕ → ℕ → ℕ → List ℕ → List ℕ
act_head i home tries script =
    text_of (Words (codes "<tr class=\"act\"><th colspan=\"3\" scope=\"rowgroup\">act ") ∷ Number i ∷ Words (codes ", home ") ∷ Number home ∷ Words (codes ", attempts allowed ") ∷ Number tries
    ∷ Words (codes "<details><summary>script</summary><pre>") ∷ Text script ∷ Words (codes "</pre></details></th></tr>\n") ∷ [])

-- an act with its attempts; nothing if objects are chosen and no attempt that is shown concerns them
abbrev pub act_text : ShownParts → ℕ → ℕ → ℕ → List ℕ → List Effect → List ℕ
act_text p i home tries script es =
    if has_all p.choice || any_try p es then act_head i home tries script ++ tries_text p es else []

-- the acts, up to the next run
abbrev pub acts_text : ShownParts → List Effect → List ℕ
acts_text p [] = []
acts_text p (effect.Act i h t k c x ∷ es) = act_text p i h k x es ++ acts_text p es
acts_text p (effect.Run n ∷ es) = []
acts_text p (effect.Try i s ∷ es) = acts_text p es
acts_text p (effect.End i o ∷ es) = acts_text p es
acts_text p (effect.Got k v ∷ es) = acts_text p es
acts_text p (effect.Acked k ∷ es) = acts_text p es
acts_text p (effect.Put o x v ∷ es) = acts_text p es
acts_text p (effect.Stretch o x ∷ es) = acts_text p es
acts_text p (effect.Mark at ∷ es) = acts_text p es
acts_text p (effect.Whole ∷ es) = acts_text p es
acts_text p (effect.Begin s d ∷ es) = acts_text p es
acts_text p (effect.Decide s d ∷ es) = acts_text p es
acts_text p (effect.Learn s d ∷ es) = acts_text p es

-- ---- a run

-- how many attempts up to the next run are shown, with n before them
abbrev pub tries_from : ShownParts → ℕ → List Effect → ℕ
tries_from p n [] = n
tries_from p n (effect.Try i s ∷ es) = tries_from p (if is_shown p s then min (n + 1) (2 ^ 64 - 1) else n) es
tries_from p n (effect.Run k ∷ es) = n
tries_from p n (effect.Act i h t k c x ∷ es) = tries_from p n es
tries_from p n (effect.End i o ∷ es) = tries_from p n es
tries_from p n (effect.Got k v ∷ es) = tries_from p n es
tries_from p n (effect.Acked k ∷ es) = tries_from p n es
tries_from p n (effect.Put o x v ∷ es) = tries_from p n es
tries_from p n (effect.Stretch o x ∷ es) = tries_from p n es
tries_from p n (effect.Mark at ∷ es) = tries_from p n es
tries_from p n (effect.Whole ∷ es) = tries_from p n es
tries_from p n (effect.Begin s d ∷ es) = tries_from p n es
tries_from p n (effect.Decide s d ∷ es) = tries_from p n es
tries_from p n (effect.Learn s d ∷ es) = tries_from p n es

-- a few attempts are open to the eye, more are folded away
abbrev pub run_head : ShownParts → List ℕ
run_head p = if nat_le (length p.tries) 20 then codes "<details class=\"run\" open>" else codes "<details class=\"run\">"

-- its number, how many attempts of it are shown, and the head of their table
abbrev pub run_summary : ShownParts → ℕ → List Effect → List ℕ
run_summary p n es = text_of (Words (codes "<summary>run ") ∷ Number n ∷ Words (codes ", attempts ") ∷ Number (tries_from p 0 es) ∷ Words (codes "</summary>\n<table><thead><tr><th scope=\"col\">stamp</th><th scope=\"col\">reads and writes</th><th scope=\"col\">outcome</th></tr></thead><tbody>\n") ∷ [])

-- a run with its attempts
abbrev pub run_text : ShownParts → ℕ → List Effect → List ℕ
run_text p n es =
    run_head p
    ++ (run_summary p n es
    ++ (tries_text p es ++ (acts_text p es ++ codes "</tbody></table></details>\n")))

-- nothing if objects are chosen and no attempt that is shown concerns them
abbrev pub run_shown : ShownParts → Bool → ℕ → List Effect → List ℕ
run_shown p always n es = if always || not (tries_from p 0 es == 0) then run_text p n es else []

abbrev pub runs_text : ShownParts → List Effect → List ℕ
runs_text p [] = []
runs_text p (effect.Run n ∷ es) = run_shown p (has_all p.choice) n es ++ runs_text p es
runs_text p (effect.Try i s ∷ es) = runs_text p es
runs_text p (effect.Act i h t k c x ∷ es) = runs_text p es
runs_text p (effect.End i o ∷ es) = runs_text p es
runs_text p (effect.Got k v ∷ es) = runs_text p es
runs_text p (effect.Acked k ∷ es) = runs_text p es
runs_text p (effect.Put o x v ∷ es) = runs_text p es
runs_text p (effect.Stretch o x ∷ es) = runs_text p es
runs_text p (effect.Mark at ∷ es) = runs_text p es
runs_text p (effect.Whole ∷ es) = runs_text p es
runs_text p (effect.Begin s d ∷ es) = runs_text p es
runs_text p (effect.Decide s d ∷ es) = runs_text p es
runs_text p (effect.Learn s d ∷ es) = runs_text p es

-- what stands before the first run, if there is an attempt, then the runs
abbrev pub log_text : ShownParts → List Effect → List ℕ
log_text p es = run_shown p false 0 es ++ runs_text p es
