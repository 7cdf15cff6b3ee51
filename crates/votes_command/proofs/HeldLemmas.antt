-- Where each poll holds a decision, each is told with one.
use Rattle.std.proofs.Common.{◌≡◌, ℕ, zero, suc, ◌+◌, ◌&&◌, true, List, [], ◌∷◌, Some, refl, ap, ◌∙◌, arith, slice_get}
use Rattle.std.specs.Option.{option_map}
use Rattle.std.specs.Prelude.{is_some}
use Rattle.record_votes.specs.Polls.{held}
use Rattle.world_core.specs.declared.traces.Trace.{Trace}
use Rattle.vote_call.specs.Polls.{line_of, lines_of, standing_from}
use Rattle.vote_form.specs.declared.poll_lines.PollLine.{PollLine}
use Rattle.vote_call.specs.Clauses.{AllHold}
use Rattle.vote_report.specs.Statuses.{all_held}
use Rattle.vote_report.specs.declared.standings.PollStanding.{PollStanding}
use Rattle.vote_call.specs.Legal.{hall_after}
use Rattle.vote_call.specs.Walks.{Hall}

all-from : (h : Hall) (i : ℕ) (ls : List PollLine) → ((k : ℕ) (l : PollLine) → slice_get ls k ≡ Some l → is_some (held (h.polls (i + k))) ≡ true) → all_held (standing_from h i ls) ≡ true
all-from h i [] all = refl
all-from h i (l ∷ ls) all =
    let here : i ≡ i + 0 = omega arith in
    let first : is_some (held (h.polls i)) ≡ true = ap (λ n. is_some (held (h.polls n))) here ∙ all 0 l refl in
    let rest : all_held (standing_from h (suc i) ls) ≡ true =
    all-from h (suc i) ls (λ k x at. let next : suc i + k ≡ i + suc k = omega arith in ap (λ n. is_some (held (h.polls n))) next ∙ all (suc k) x at) in
    λ j. first j && rest j

line-there : (ls : List PollLine) (k : ℕ) (l : PollLine) → slice_get ls k ≡ Some l → slice_get (lines_of ls) k ≡ Some (line_of l)
line-there [] k l e = absurd cc
line-there (x ∷ xs) zero l e = ap (option_map line_of) e
line-there (x ∷ xs) (suc k) l e = line-there xs k l e

pub all-told : (polls : List PollLine) (t : Trace) (standings : List PollStanding) → standings ≡ standing_from (hall_after (lines_of polls) t) 1 polls → AllHold (lines_of polls) t → all_held standings ≡ true
all-told polls t standings are all =
    ap all_held are
    ∙ all-from (hall_after (lines_of polls) t) 1 polls (λ k l at. let next : 1 + k ≡ suc k = omega arith in ap (λ n. is_some (held ((hall_after (lines_of polls) t).polls n))) next ∙ all (suc k) (line_of l) (line-there polls k l at))
