-- When votes must come to a decision without a tick.
use Rattle.std.specs.Prelude.{◌≡◌, ℕ, ◌⊎◌, ◌≢◌, Bool, true, false, List, [], ◌∷◌, ◌++◌, Some, is_some}
use Rattle.pseudo_time.specs.Lists.{Every}
use Rattle.effect_form.specs.declared.effects.Effect.{Effect}
use Rattle.effect_form.specs.declared.effects.Effect.TheVariants as effect
use Rattle.stream_port.specs.declared.fates.Fate.{Fate}
use Rattle.message_core.specs.Tallies.{numbered}
use Rattle.record_votes.specs.declared.member_numbers.MemberNumber.{MemberNumber}
use Rattle.record_votes.specs.Polls.{member, held}
use Rattle.record_votes.specs.Voting.{Line}
use Rattle.world_core.specs.declared.entries.Entry.{Entry}
use Rattle.world_core.specs.declared.entries.Entry.TheVariants.{Tick}
use Rattle.world_core.specs.declared.traces.Opened.{Opened}
use Rattle.world_core.specs.declared.traces.Trace.{Trace}
use Rattle.world_core.specs.Counts.{is_crash}
use Rattle.world_core.specs.Legal.{fates_of}
use Rattle.vote_traces.specs.Walks.{Base, Hall, log_at, walk}
use Rattle.vote_traces.specs.Legal.{base_of}

-- one copy without a hold
abbrev pub IsPlain : Fate → Type 0
IsPlain fate = (fate.copies ≡ 1) × (fate.hold ≡ 0)

-- a Begin or a Decide
abbrev pub is_vote_effect : Effect → Bool
is_vote_effect e = elim e [ effect.Begin s d ↦ true | effect.Decide s d ↦ true | _ ↦ false ]

abbrev pub AreVotes : List Effect → Type 0
AreVotes log = Every (λ (e : Effect). is_vote_effect e ≡ true) log

-- each poll holds a decision
abbrev pub HoldAll : List Line → Hall → Type 0
HoldAll lines h = (i : ℕ) (l : Line) → numbered lines i ≡ Some l → is_some (held (h.polls i)) ≡ true

-- the member is up
abbrev pub IsUp : Hall → MemberNumber → Type 0
IsUp h s = (h.flags (member s)).up ≡ true

-- polls of one stamp wish the same
abbrev pub WishAlike : List Line → Type 0
WishAlike lines = (i j : ℕ) (k l : Line) → numbered lines i ≡ Some k → numbered lines j ≡ Some l → k.stamp ≡ l.stamp → k.wish ≡ l.wish

-- the member is up, and its log was blank
abbrev pub IsFit : List Opened → Hall → MemberNumber → Type 0
IsFit opened h s = IsUp h s × (log_at opened s ≡ [])

-- All members are fit; or two are, and polls of one stamp wish the same.
abbrev pub HasQuorum : List Line → List Opened → Hall → Type 0
HasQuorum lines opened h = ((s : MemberNumber) → IsFit opened h s) ⊎ ((out : MemberNumber) × ((s : MemberNumber) → s ≢ out → IsFit opened h s) × WishAlike lines)

-- So far no message was lost, doubled or held, no member crashed, and there is a quorum.
pub record IsCalm (lines : List Line) (t : Trace) (so_far : List Entry) : Type 0 where
  pub rest : List Entry
  pub is : t.entries ≡ so_far ++ rest
  pub plain : Every IsPlain (fates_of t.sent)
  pub sound : Every (λ (e : Entry). is_crash e ≡ false) so_far
  pub quorum : HasQuorum lines t.opened (walk (base_of lines t) so_far)

-- Each Tick stands where a poll holds no decision.
abbrev pub TicksForPolls : Base → List Entry → Type 0
TicksForPolls b es = (front rest : List Entry) (moment : ℕ) → es ≡ front ++ Tick moment ∷ rest → HoldAll b.lines (walk b front) → ⊥
