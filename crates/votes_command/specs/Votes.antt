-- What comes of votes over the media that a shelf gives.
use Rattle.std.specs.Prelude.{◌≡◌, ℕ, List, []}
use Rattle.medium_port.specs.declared.shelves.MediumName.{MediumName}
use Rattle.run_volumes.specs.Media.{Media}
use Rattle.run_volumes.specs.Kept.{kept_under}
use Rattle.run_volumes.specs.Shelves.{IsLeft, ShelfSight, WereTaken}
use Rattle.run_volumes.specs.declared.kept.Kept.{Kept}
use Rattle.vote_call.specs.Ends.{EndsAs}
use Rattle.vote_call.specs.Media.{AreKept, medium_of}
use Rattle.vote_call.specs.Polls.{lines_of}
use Rattle.vote_call.specs.declared.member_media.MemberMedia.{MemberMedia}
use Rattle.vote_call.specs.declared.voting.VoteEnd.{VoteEnd}
use Rattle.vote_call.specs.declared.voting.VoteEnd.TheVariants.{NoMemory}
use Rattle.vote_form.specs.declared.poll_lines.PollLine.{PollLine}
use Rattle.vote_call.specs.Clauses.{IsSmooth, Tellers}
use Rattle.vote_call.specs.Limits.{Limits}
use Rattle.world_core.specs.declared.traces.Trace.{Trace}
use Rattle.votes_command.specs.Members.{in_order, member_names}

-- Nothing stood in the way of members and polls: their media were sound, no message was lost, doubled or held, and they were to end at no number of messages that so many polls can send.
abbrev pub AreSmooth : {M : Type 0} → Media M → List PollLine → ℕ → (media left : MemberMedia M) → Trace → Type 0
AreSmooth w polls enough media left t = IsSmooth w (lines_of polls) (medium_of media) (medium_of left) enough t

module _ {M : Type 0} (w : Media M) (old new : ShelfSight) where
  -- Memory ran out before any medium was asked for.
  pub record TookNothing (told : Tellers) (kept : List (Kept M)) (end : VoteEnd) : Type 0 where
    pub wanting : end ≡ NoMemory
    pub fates : told.asked ≡ told.asked_before
    pub clock : told.answers ≡ told.answers_before
    pub none : kept ≡ []
    pub unasked : new.asked ≡ old.asked
    pub left : (name : MediumName) → IsLeft w.tells old new name

  -- The members' media were taken, as far as the shelf gave them, and this came of voting over them. They are handed back, and none lost anything.
  pub record VotesOver (limits : Limits) (polls : List PollLine) (told : Tellers) (kept : List (Kept M)) (end : VoteEnd) : Type 0 where
    pub media : MemberMedia M
    pub left : MemberMedia M
    pub taken : WereTaken w old new member_names (in_order media)
    pub handed : kept ≡ kept_under member_names (in_order left)
    pub ended : EndsAs w limits polls told media left end
    pub safe : AreKept w media left
