-- The status of polls.
use Rattle.std.specs.Prelude.{ℕ, Bool, List, is_some, if◌then◌else◌}
use Rattle.std.specs.List.{list_all}
use Rattle.vote_report.specs.declared.standings.PollStanding.{PollStanding}

-- each holds a decision
abbrev pub all_held : List PollStanding → Bool
all_held polls = list_all (λ (p : PollStanding). is_some p.held) polls

abbrev pub status_with : Bool → Bool → ℕ
status_with held some_down = if held then 0 else (if some_down then 6 else 5)
