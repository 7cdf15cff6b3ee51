-- What a broker heard, and when nothing more is to be heard of a try.
use Rattle.std.specs.Prelude.{Bool, true, false, ◌||◌, Option, Some, None, if◌then◌else◌}
use Rattle.effect_form.specs.declared.outcomes.Outcome.{Outcome}
use Rattle.effect_form.specs.declared.outcomes.Outcome.TheVariants as outcome
use Rattle.broker_ledger.specs.declared.heards.Heard.{Heard}
use Rattle.broker_ledger.specs.declared.notes.Last.{Last}
use Rattle.broker_ledger.specs.Tests.{is_stamp}
use Rattle.broker_ledger.specs.Fits.{is_none}

-- a broker that was opened just now
abbrev pub nothing_heard : Heard
nothing_heard = record { gone = false; begun = None; ended = None; closed = None }

-- an End that the home knows of: it has decided
abbrev pub is_settled : Option Outcome → Bool
is_settled None = false
is_settled (Some outcome.Committed) = true
is_settled (Some (outcome.Withdrawn l)) = false
is_settled (Some (outcome.Failed l k)) = false
is_settled (Some (outcome.LaterRead o e)) = false
is_settled (Some (outcome.LaterVersion o x)) = false
is_settled (Some (outcome.Expired d m)) = true
is_settled (Some (outcome.Spent c)) = false

abbrev pub closed_at : Heard → Last → Bool
closed_at h l = if is_none l.end then false else (is_settled l.end || is_stamp h.closed l.stamp)

abbrev pub closed_in : Heard → Option Last → Bool
closed_in h None = false
closed_in h (Some l) = closed_at h l
