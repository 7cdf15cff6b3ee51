-- Where members stand between their turns.
use Rattle.std.specs.Prelude.{◌≡◌, ℕ, Bool, true, false, List}
use Rattle.effect_form.specs.declared.effects.Effect.{Effect}
use Rattle.message_form.specs.declared.turns.Out.{Out}
use Rattle.record_votes.specs.Books.{MemberState}
use Rattle.record_votes.specs.declared.member_numbers.MemberNumber.{MemberNumber}
use Rattle.record_votes.specs.Polls.{member}
use Rattle.record_votes.specs.Voting.{opened}
use Rattle.world_core.specs.Legal.{is_behind}
use Rattle.vote_courier.specs.Walks.{Hall, world_of}
use Rattle.vote_courier.specs.Places.{IsReady}

-- a member between its turns
pub record MemberIsAt (h : Hall) (s : MemberNumber) (m : MemberState) (behind : Bool) : Type 0 where
  pub ready : IsReady h (member s) behind
  pub member : h.members s ≡ opened m.moment m.log

-- a member within its turn: over its durable log it has these effects and messages to close
pub record MemberOwes (h : Hall) (s : MemberNumber) (log effects : List Effect) (outs : List Out) (moment : ℕ) : Type 0 where
  pub up : (h.flags (member s)).up ≡ true
  pub due : (h.flags (member s)).due ≡ true
  pub heard : is_behind (world_of h) (member s) ≡ false
  pub moved : h.moved ≡ true
  pub member : h.members s ≡ record { gated = log; fresh = effects; owed = outs; moment = moment }

-- a member that is down: its log, and the effects that weren't durable
pub record MemberIsDown (h : Hall) (s : MemberNumber) (log effects : List Effect) : Type 0 where
  pub down : (h.flags (member s)).up ≡ false
  pub gated : (h.members s).gated ≡ log
  pub fresh : (h.members s).fresh ≡ effects
