-- Which lines are an input of votes.
use Rattle.std.specs.Prelude.{◌≡◌, ℕ, ◌≤◌, List, ◌∷◌, ◌++◌, map, length, codes}
use Rattle.std.specs.Fmt.{decimal}
use Rattle.pseudo_time.specs.Lists.{Every}
use Rattle.pseudo_time.specs.StampParts.{IsStamp}
use Rattle.script_form.specs.Lines.{lines}
use Rattle.plan_form.specs.Plans.{InRange}
use Rattle.record_votes.specs.declared.ballots.Wish.{Wish}
use Rattle.record_votes.specs.declared.ballots.Wish.TheVariants.{Commit, Withdraw}
use Rattle.vote_form.specs.declared.poll_lines.PollLine.{PollLine}

abbrev pub title : List ℕ
title = codes "swallow votes 1"

abbrev pub wish_text : Wish → List ℕ
wish_text Commit = codes " commit"
wish_text Withdraw = codes " withdraw"

-- what follows the stamp
abbrev pub terms_text : PollLine → List ℕ
terms_text p = codes " timeout " ++ (decimal p.timeout ++ wish_text p.wish)

abbrev pub poll_text : PollLine → List ℕ
poll_text p = codes "poll " ++ (decimal p.stamp.clock ++ (codes "." ++ (decimal p.stamp.broker ++ (codes "." ++ (decimal p.stamp.home ++ terms_text p)))))

pub record IsPoll (p : PollLine) : Type 0 where
  pub stamp : IsStamp p.stamp
  pub timeout : InRange 1000000 p.timeout

-- the lines are the title and then these polls, one a line
pub record AreVotes (ls : List (List ℕ)) (polls : List PollLine) : Type 0 where
  pub are : ls ≡ title ∷ map poll_text polls
  pub each : Every IsPoll polls
  pub few : length polls ≤ 16

-- the bytes are an input of these polls
abbrev pub IsInput : List ℕ → List PollLine → Type 0
IsInput bytes polls = (length bytes ≤ 4194304) × AreVotes (lines bytes) polls
