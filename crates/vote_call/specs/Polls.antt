-- Polls and their lines.
use Rattle.std.specs.Prelude.{ℕ, suc, List, [], ◌∷◌, map}
use Rattle.record_votes.specs.Polls.{PollState, held}
use Rattle.record_votes.specs.Voting.{Line, new_poll}
use Rattle.vote_form.specs.declared.poll_lines.PollLine.{PollLine}
use Rattle.vote_report.specs.declared.standings.PollStanding.{PollStanding}
use Rattle.vote_run.specs.Walks.{Hall}

abbrev pub line_of : PollLine → Line
line_of p = record { stamp = p.stamp; timeout = p.timeout; wish = p.wish }

abbrev pub lines_of : List PollLine → List Line
lines_of ps = map line_of ps

-- a poll for each line, with the numbers from this one on
abbrev pub polls_from : ℕ → List PollLine → List PollState
polls_from number [] = []
polls_from number (l ∷ ls) = new_poll number (line_of l) ∷ polls_from (suc number) ls

-- how the polls of these lines stand
abbrev pub standings_of : List PollLine → List PollState → List PollStanding
standings_of [] ps = []
standings_of (l ∷ ls) [] = []
standings_of (l ∷ ls) (p ∷ ps) = record { stamp = l.stamp; held = held p } ∷ standings_of ls ps

-- and how they stand in a hall, with the numbers from this one on
abbrev pub standing_from : Hall → ℕ → List PollLine → List PollStanding
standing_from h number [] = []
standing_from h number (l ∷ ls) = record { stamp = l.stamp; held = held (h.polls number) } ∷ standing_from h (suc number) ls
