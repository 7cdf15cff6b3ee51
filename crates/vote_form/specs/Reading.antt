-- The parts of a poll line, as functions on its bytes.
use Rattle.std.specs.Prelude.{ℕ, ◌^◌, ◌-◌, ◌==◌, List, codes, Option, Some, None, if◌then◌else◌}
use Rattle.std.specs.Borrow.{Bor}
use Rattle.std.specs.Cmp.Lexicographic.{pointwise}
use Rattle.std.specs.Option.{option_map}
use Rattle.pseudo_time.specs.StampParts.{StampParts}
use Rattle.plan_form.specs.Reading.{◌>>=◌, number_behind}
use Rattle.record_votes.specs.declared.ballots.Wish.{Wish}
use Rattle.record_votes.specs.declared.ballots.Wish.TheVariants.{Commit, Withdraw}
use Rattle.vote_form.specs.declared.poll_lines.PollLine.{PollLine}

abbrev pub wish_at : List ℕ → Option Wish
wish_at bytes = if pointwise ◌==◌ bytes (codes " commit") then Some Commit else if pointwise ◌==◌ bytes (codes " withdraw") then Some Withdraw else None

-- the stamp at the front, and what follows it
abbrev pub stamp_at : List ℕ → Option (StampParts × List ℕ)
stamp_at bytes = do
  clock ← number_behind (codes "poll ") (2 ^ 40 - 1) bytes
  broker ← number_behind (codes ".") 16 clock.1
  home ← number_behind (codes ".") 16 broker.1
  Some (record { clock = clock.0; broker = broker.0; home = home.0 }, home.1)

-- what a line says
abbrev pub poll_at : List ℕ → Option PollLine
poll_at line = do
  stamp ← stamp_at line
  timeout ← number_behind (codes " timeout ") 1000000 stamp.1
  wish ← wish_at timeout.1
  Some (record { stamp = stamp.0; timeout = timeout.0; wish = wish })

-- as the code gives it
abbrev pub seen : Option (StampParts × Bor (List ℕ)) → Option (StampParts × List ℕ)
seen found = option_map (λ p. (p.0, p.1.now)) found
