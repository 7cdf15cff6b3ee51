-- The members' media, as they are handed in, opened and handed back.
use Rattle.std.specs.Prelude.{IsTrue, Option}
use Rattle.record_votes.specs.declared.member_numbers.MemberNumber.{MemberNumber}
use Rattle.record_votes.specs.declared.member_numbers.MemberNumber.TheVariants.{First, Second, Third}
use Rattle.vote_run.specs.Media.{IsBack, IsUsable, Media}
use Rattle.vote_run.specs.Openings.{HasOpened, medium_in}
use Rattle.vote_run.specs.Opening.{Opening}
use Rattle.vote_run.specs.Lasts.{KeepsWhole}
use Rattle.vote_run.specs.Lasts as lasts
use Rattle.vote_run.specs.declared.members.Members.{Members}
use Rattle.vote_call.specs.declared.member_media.MemberMedia.{MemberMedia}
use Rattle.vote_call.specs.declared.openings.Openings.{Openings}

-- the medium of a member
abbrev pub medium_of : {M : Type 0} → MemberMedia M → MemberNumber → Option M
medium_of media First = media.first
medium_of media Second = media.second
medium_of media Third = media.third

module _ {M : Type 0} {g : _} where
  -- what came of opening a member's medium
  abbrev pub opening_of : Openings M g → MemberNumber → Opening M g
  opening_of os First = os.first
  opening_of os Second = os.second
  opening_of os Third = os.third

  -- the media that openings have
  abbrev pub given_back : Openings M g → MemberMedia M
  given_back os = record { first = medium_in os.first; second = medium_in os.second; third = medium_in os.third }

  -- and those that members have
  abbrev pub handed_back : Members M g → MemberMedia M
  handed_back ms = record { first = lasts.medium_in ms.first; second = lasts.medium_in ms.second; third = lasts.medium_in ms.third }

module _ {M : Type 0} (w : Media M) where
  pub record AreUsable (media : MemberMedia M) : Type 0 where
    pub first : IsUsable w media.first
    pub second : IsUsable w media.second
    pub third : IsUsable w media.third

  module _ {g : _} where
    -- each was opened
    pub record HaveOpened (media : MemberMedia M) (os : Openings M g) : Type 0 where
      pub first : HasOpened w media.first os.first
      pub second : HasOpened w media.second os.second
      pub third : HasOpened w media.third os.third

    -- these are what some media were opened as
    abbrev pub SomeOpened : Openings M g → Type 0
    SomeOpened os = (media : MemberMedia M) × HaveOpened media os

  -- A member's medium is in its place, and lost nothing.
  pub record IsKept (old new : Option M) : Type 0 where
    pub back : IsBack old new
    pub whole : IsTrue w.tells → KeepsWhole w old new

  -- and so is each
  pub record AreKept (media left : MemberMedia M) : Type 0 where
    pub first : IsKept media.first left.first
    pub second : IsKept media.second left.second
    pub third : IsKept media.third left.third
