-- What comes of votes over the members' media.
use Rattle.std.specs.Prelude.{◌≡◌, ℕ, List, length, map, IsOk, IsTrue, Result, Option}
use Rattle.stream_port.specs.declared.fates.Asked.{Asked}
use Rattle.record_votes.specs.Polls.{PollState}
use Rattle.world_core.specs.declared.traces.Trace.{Trace}
use Rattle.vote_run.specs.Media.{Media}
use Rattle.vote_form.specs.declared.poll_lines.PollLine.{PollLine}
use Rattle.vote_report.specs.declared.standings.PollStanding.{PollStanding}
use Rattle.vote_run.specs.Legal.{hall_after}
use Rattle.vote_run.specs.Couriers.{CourierParts}
use Rattle.vote_promise.specs.Clauses.{HaveVoted, Tellers}
use Rattle.vote_run.specs.declared.limits.Limits.{Limits}
use Rattle.vote_call.specs.Media.{AreKept, HaveOpened, medium_of}
use Rattle.vote_call.specs.Polls.{lines_of, polls_from, standing_from, standings_of}
use Rattle.vote_call.specs.Starts.{BeginsOver, HasBegun}
use Rattle.vote_run.specs.Ends.{HasEnded}
use Rattle.vote_run.specs.Fares.{AllFare}
use Rattle.vote_run.specs.declared.members.Members.{Members}
use Rattle.vote_call.specs.declared.member_media.MemberMedia.{MemberMedia}
use Rattle.vote_call.specs.declared.openings.Openings.{Openings}
use Rattle.vote_call.specs.declared.voting.VoteEnd.{VoteEnd}
use Rattle.vote_call.specs.declared.voting.VoteEnd.TheVariants.{Told, NoMemory}

-- what the fates were asked for and the clock answered, before and after
abbrev pub tellers : (asked_before asked : List Asked) → (answers_before answers : Option (List ℕ)) → Tellers
tellers asked_before asked answers_before answers = record { asked_before = asked_before; asked = asked; answers_before = answers_before; answers = answers }

-- There is one standing for each poll line, in order, and it is what the poll holds at the end of the trace.
pub record Stand {M : Type 0} (w : Media M) (polls : List PollLine) (t : Trace) (standings : List PollStanding) : Type 0 where
  pub stamps : map (λ (s : PollStanding). s.stamp) standings ≡ map (λ (l : PollLine). l.stamp) polls
  pub held : IsTrue w.tells → standings ≡ standing_from (hall_after (lines_of polls) t) 1 polls

-- The trace is reported, and how the polls stand at its end; or memory ran out.
abbrev pub EndsAs : {M : Type 0} → Media M → Limits → List PollLine → Tellers → (media left : MemberMedia M) → VoteEnd → Type 0
EndsAs w limits polls told media left (Told t standings) =
    HaveVoted w limits.ticks limits.messages (lines_of polls) told (medium_of media) (medium_of left) t × Stand w polls t standings
EndsAs w limits polls told media left NoMemory = Unit {0}

-- what is reported of a run that ended so, with this trace and these polls
abbrev pub Tells : {E : Type 0} → List PollLine → List PollState → Trace → Result Unit E → VoteEnd → Type 0
Tells polls ps trace ended (Told t standings) = IsOk ended × (t ≡ trace) × (standings ≡ standings_of polls ps)
Tells polls ps trace ended NoMemory = Unit {0}

-- A run of these polls over these media is over.
pub record IsOver {M : Type 0} {g : _} (w : Media M) (limits : Limits) (media : MemberMedia M) (polls : List PollLine) (asked : List Asked) (answers : Option (List ℕ)) (d : CourierParts) (ms : Members M g) (qs : List PollState) : Type 0 where
  pub first : CourierParts
  pub members : Members M g
  pub polls_then : List PollState
  pub begun : HasBegun w media polls asked answers first members polls_then
  pub ended : IsTrue w.tells → HasEnded w (lines_of polls) limits first d ms qs
  pub fares : AllFare w (medium_of media) d.entries ms

abbrev pub EndedFor : {M : Type 0} {g : _} → Media M → Limits → Openings M g → CourierParts → List PollState → CourierParts → Members M g → List PollState → Type 0
EndedFor {M} {g} w limits os c ps d ms qs = (media : MemberMedia M) (polls : List PollLine) (asked : List Asked) (answers : Option (List ℕ)) → HaveOpened w media os → ps ≡ polls_from 1 polls
    → BeginsOver os (length polls) asked answers c → IsOver w limits media polls asked answers d ms qs

-- A run over what these media were opened as, with a courier that begins.
pub record Runs {M : Type 0} {g : _} (w : Media M) (limits : Limits) (polls : List PollLine) (c : CourierParts) (os : Openings M g) (ps : List PollState) (asked : List Asked) (answers : Option (List ℕ)) (media left : MemberMedia M)
    (end : VoteEnd) : Type 0 where
  pub kept : AreKept w media left
  pub ended : (asked_before : List Asked) (answers_before : Option (List ℕ)) → ps ≡ polls_from 1 polls → BeginsOver os (length polls) asked_before answers_before c
      → EndsAs w limits polls (tellers asked_before asked answers_before answers) media left end

abbrev pub RunsAs : {M : Type 0} {g : _} → Media M → Limits → List PollLine → CourierParts → Openings M g → List PollState → VoteEnd → MemberMedia M → List Asked → Option (List ℕ) → Type 0
RunsAs {M} {g} w limits polls c os ps end left asked answers = (media : MemberMedia M) → HaveOpened w media os → Runs w limits polls c os ps asked answers media left end
