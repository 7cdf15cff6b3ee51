-- Where the three members stand between rounds.
use Rattle.std.specs.Prelude.{◌≡◌, Bool, true, false, not, ◌||◌, List}
use Rattle.pseudo_time.specs.Nodes.{is_broker}
use Rattle.pseudo_time.specs.declared.nodes.NodeId.{NodeId}
use Rattle.record_votes.specs.declared.member_numbers.MemberNumber.TheVariants.{First, Second, Third}
use Rattle.record_votes.specs.Voting.{Line}
use Rattle.run_media.specs.Media.{Media}
use Rattle.vote_courier.specs.Couriers.{CourierParts}
use Rattle.vote_courier.specs.Places.{Keeps}
use Rattle.vote_run.specs.MemberTurns.{MayTurn}
use Rattle.vote_run.specs.Sittings.{Sits}
use Rattle.vote_run.specs.declared.members.Members.{Members}
use Rattle.vote_run.specs.declared.seats.Seat.{Seat}
use Rattle.vote_run.specs.declared.seats.Seat.TheVariants.{Up, Fallen, Wanting}

abbrev pub is_member : NodeId → Bool
is_member n = not (is_broker n.kind)

module _ {M : Type 0} {g : _} where
  -- memory ran out
  abbrev pub wants : Seat M g → Bool
  wants (Up m s durable behind) = false
  wants (Fallen left) = false
  wants (Wanting left) = true

  -- a Tick stands that it hasn't heard
  abbrev pub is_late : Seat M g → Bool
  is_late (Up m s durable behind) = behind
  is_late (Fallen left) = false
  is_late (Wanting left) = false

  abbrev pub late : Seat M g → Seat M g
  late (Up m s durable behind) = Up m s durable true
  late (Fallen left) = Fallen left
  late (Wanting left) = Wanting left

  abbrev pub some_wants : Members M g → Bool
  some_wants ms = wants ms.first || (wants ms.second || wants ms.third)

  abbrev pub some_late : Members M g → Bool
  some_late ms = is_late ms.first || (is_late ms.second || is_late ms.third)

  abbrev pub all_late : Members M g → Members M g
  all_late ms = record { first = late ms.first; second = late ms.second; third = late ms.third }

  -- each may have its turn
  pub record MayAllTurn (w : Media M) (ms : Members M g) : Type 0 where
    pub first : MayTurn w 1 ms.first
    pub second : MayTurn w 2 ms.second
    pub third : MayTurn w 3 ms.third

  pub record SitAll (w : Media M) (lines : List Line) (c : CourierParts) (ms : Members M g) : Type 0 where
    pub first : Sits w lines c First ms.first
    pub second : Sits w lines c Second ms.second
    pub third : Sits w lines c Third ms.third

  -- what a turn of each leaves
  pub record HaveSat (w : Media M) (lines : List Line) (c d : CourierParts) (ms : Members M g) : Type 0 where
    pub keeps : Keeps lines is_member c d
    pub sit : SitAll w lines d ms

  -- unless memory ran out
  abbrev pub AllSat : Media M → List Line → CourierParts → CourierParts → Members M g → Type 0
  AllSat w lines c d ms = some_wants ms ≡ false → HaveSat w lines c d ms
