-- The clauses of votes over media.
use Rattle.std.specs.Prelude.{◌≡◌, ◌≢◌, ◌⊎◌, ℕ, ◌+◌, ◌^◌, ◌≤◌, ◌<◌, Bool, true, List, [], ◌∷◌, ◌++◌, map, take, length, Option, Some, None, Ok, Err, is_some, IsTrue}
use Rattle.std.specs.List.{count_by}
use Rattle.pseudo_time.specs.Lists.{Every}
use Rattle.pseudo_time.specs.StampParts.{StampParts}
use Rattle.pseudo_time.specs.declared.down_causes.DownCause.TheVariants as down
use Rattle.effect_form.specs.declared.effects.Effect.{Effect}
use Rattle.stream_port.specs.declared.fates.Asked.{Asked}
use Rattle.stream_port.specs.Causes.{Rose, RoseBy}
use Rattle.medium_port.specs.Image.{Image, IsBlankImage}
use Rattle.message_core.specs.Tallies.{numbered}
use Rattle.page_gate.specs.States.{is_blank}
use Rattle.version_store.specs.Filling.{StaysClean, filling}
use Rattle.version_store.specs.Storage.{storage}
use Rattle.record_votes.specs.declared.member_numbers.MemberNumber.{MemberNumber}
use Rattle.record_votes.specs.Polls.{member, held}
use Rattle.record_votes.specs.Voting.{IsDecided, Line}
use Rattle.world_core.specs.declared.traces.Trace.{Trace}
use Rattle.world_core.specs.Legal.{Idle, fates_of, asked_of}
use Rattle.world_core.specs.Walks.{own}
use Rattle.wire_core.specs.Clocked.{IsClocked, tick_moments}
use Rattle.run_media.specs.Media.{Media, IsUntouched}
use Rattle.world_core.specs.Counts.{down_cause, tick_count}
use Rattle.vote_law.specs.Smooth.{IsPlain, TicksForPolls, WishAlike}
use Rattle.vote_members.specs.Closings.{Grows}
use Rattle.vote_members.specs.Costs.{costs}
use Rattle.vote_law.specs.Walks.{log_at, world_of}
use Rattle.vote_law.specs.Legal.{Legal, WasNotOpened, base_of, hall_after}
use Rattle.vote_law.specs.Causes.{HaveCauses}

-- ---- the trace, and what the fates and the clock were asked

pub record Tellers : Type 0 where
  pub asked_before : List Asked
  pub asked : List Asked
  pub answers_before : Option (List ℕ)
  pub answers : Option (List ℕ)

-- The trace is legal for the polls and all that the fates were ever asked. They were asked for its messages, in order, and the clock for its start and its Ticks.
pub record IsTold (lines : List Line) (t : Trace) (told : Tellers) : Type 0 where
  pub legal : Legal lines told.asked t
  pub fates : told.asked ≡ told.asked_before ++ map asked_of t.sent
  pub clock : IsClocked told.answers_before told.answers t.start t.entries
  pub start : t.start ≤ 2 ^ 62
  pub moments : Every (λ moment. moment < 2 ^ 63) (tick_moments t.entries)

-- ---- the end

-- each poll holds a decision
abbrev pub AllHold : List Line → Trace → Type 0
AllHold lines t = (i : ℕ) (l : Line) → numbered lines i ≡ Some l → is_some (held ((hall_after lines t).polls i)) ≡ true

-- nobody has anything to do, and no further Tick may be made
abbrev pub HasRunOut : ℕ → List Line → Trace → Type 0
HasRunOut most_ticks lines t = Idle (fates_of t.sent) (world_of (hall_after lines t)) × (tick_count t.entries ≡ most_ticks)

-- It has at most so many Ticks, each where a poll holds no decision, and ends where all polls hold a decision, enough messages were sent, or it has run out.
pub record HasEnded (most_ticks enough : ℕ) (lines : List Line) (t : Trace) : Type 0 where
  pub few : tick_count t.entries ≤ most_ticks
  pub wanted : TicksForPolls (base_of lines t) t.entries
  pub why : AllHold lines t ⊎ ((enough ≤ length t.sent) ⊎ HasRunOut most_ticks lines t)

-- ---- media

-- the image's log is the durable log with a prefix of the new effects
pub record IsKept (gated fresh : List Effect) (image : Image) : Type 0 where
  pub kept : ℕ
  pub few : kept ≤ length fresh
  pub is : storage image ≡ Ok (gated ++ take kept fresh)

abbrev pub gated_log : List Line → Trace → MemberNumber → List Effect
gated_log lines t s = ((hall_after lines t).members s).gated

abbrev pub open_effects : List Line → Trace → MemberNumber → List Effect
open_effects lines t s = ((hall_after lines t).members s).fresh

module _ {M : Type 0} (w : Media M) (lines : List Line) where
  -- these are the member's medium before and after
  abbrev pub Became : (media left : MemberNumber → Option M) → MemberNumber → M → M → Type 0
  Became media left s old new = (media s ≡ Some old) × (left s ≡ Some new)

  -- The member was opened with the log that its medium held. A crash now leaves its durable log with the first of its open effects, of which one that isn't down has none.
  pub record KeepsLog (t : Trace) (s : MemberNumber) (old new : M) : Type 0 where
    pub opened : storage (w.reads old) ≡ Ok (log_at t.opened s)
    pub images : (c : Image) → w.may_leave new c → IsKept (gated_log lines t s) (open_effects lines t s) c
    pub up : down_cause (member s) t.entries ≡ None → open_effects lines t s ≡ []

  -- The logs of the trace are those of the media, before and after.
  pub record RestoresLogs (media left : MemberNumber → Option M) (t : Trace) : Type 0 where
    pub opened : (s : MemberNumber) → (WasNotOpened t.entries (member s) → ⊥) → (old : M) × (new : M) × Became media left s old new × (IsTrue w.tells → KeepsLog t s old new)
    pub unopened : (s : MemberNumber) (old new : M) → WasNotOpened t.entries (member s) → Became media left s old new → IsUntouched w old new
    -- it is reported of each member whether it was opened
    pub either : (s : MemberNumber) → WasNotOpened t.entries (member s) ⊎ (WasNotOpened t.entries (member s) → ⊥)

  -- whatever a crash leaves of the member's medium has a Decide of this kind
  abbrev pub HoldsDecide : (left : MemberNumber → Option M) → MemberNumber → StampParts → Bool → Type 0
  HoldsDecide left s x c = (m : M) × (left s ≡ Some m) × ((image : Image) → w.may_leave m image → (log : List Effect) × (storage image ≡ Ok log) × IsDecided log x c)

  -- two members' media stand behind a decision
  pub record TwoHold (left : MemberNumber → Option M) (x : StampParts) (c : Bool) : Type 0 where
    pub one : MemberNumber
    pub other : MemberNumber
    pub apart : one ≢ other
    pub one_holds : HoldsDecide left one x c
    pub other_holds : HoldsDecide left other x c

  -- and so it is of each poll that holds one
  abbrev pub StandOnMedia : (left : MemberNumber → Option M) → Trace → Type 0
  StandOnMedia left t = (i : ℕ) (l : Line) (c : Bool) → numbered lines i ≡ Some l → held ((hall_after lines t).polls i) ≡ Some c → TwoHold left l.stamp c

  -- each Decide of an opened member's medium that wasn't there has its cause
  abbrev pub HaveCausesOnMedia : (left : MemberNumber → Option M) → Trace → Type 0
  HaveCausesOnMedia left t = (s : MemberNumber) (m : M) → (WasNotOpened t.entries (member s) → ⊥) → left s ≡ Some m → (image : Image) → w.may_leave m image
      → (more : List Effect) × (storage image ≡ Ok (log_at t.opened s ++ more)) × HaveCauses lines t.entries (log_at t.opened s) more

  -- ---- why members stopped

  -- The count of a member's medium rose for each of its Crashes, and by two for its Down where its medium failed; by one where it wasn't opened. One whose medium was missing is down for it.
  pub record AreCounted (media left : MemberNumber → Option M) (t : Trace) : Type 0 where
    pub opened : (s : MemberNumber) (old new : M) → (WasNotOpened t.entries (member s) → ⊥) → Became media left s old new → RoseBy (costs (own (member s) t.entries)) (w.faults old) (w.faults new)
    pub unopened : (s : MemberNumber) (old new : M) → WasNotOpened t.entries (member s) → down_cause (member s) t.entries ≡ Some down.Medium → Became media left s old new → Rose (w.faults old) (w.faults new)
    pub missing : (s : MemberNumber) → media s ≡ None → down_cause (member s) t.entries ≡ Some down.Medium

  -- A member is down since its medium failed; or it wasn't opened, and the page is the first damaged one of what its medium held; or its medium is full. Without a fault no page that was blank is spoiled, and its log grew by what was written.
  pub record AreDownFor (media left : MemberNumber → Option M) (t : Trace) : Type 0 where
    pub unopened : (s : MemberNumber) → WasNotOpened t.entries (member s) → (down_cause (member s) t.entries ≡ Some down.Medium) ⊎ ((page : ℕ) × (down_cause (member s) t.entries ≡ Some (down.Damaged page)))
    pub damaged : (s : MemberNumber) (old new : M) (page : ℕ) → down_cause (member s) t.entries ≡ Some (down.Damaged page) → Became media left s old new → WasNotOpened t.entries (member s) × (storage (w.reads old) ≡ Err page)
    pub full : (s : MemberNumber) (old new : M) (pages : ℕ) → down_cause (member s) t.entries ≡ Some (down.Full pages) → Became media left s old new
        → (pages ≡ w.page_count new) × (storage (w.reads new) ≡ Ok (gated_log lines t s)) × (count_by is_blank (w.reads new) < length (filling (open_effects lines t s)))
    pub clean : (s : MemberNumber) (old new : M) → costs (own (member s) t.entries) ≡ 0 → Became media left s old new → StaysClean (w.reads old) (w.reads new)
    pub grows : (s : MemberNumber) (old new : M) → costs (own (member s) t.entries) ≡ 0 → Became media left s old new → Grows (w.reads old) (w.reads new)

-- ---- what must succeed

module _ {M : Type 0} (w : Media M) (lines : List Line) (media left : MemberNumber → Option M) where
  -- the member's medium was blank, with enough pages, and its count didn't rise
  pub record IsSound (s : MemberNumber) : Type 0 where
    pub old : M
    pub new : M
    pub became : Became w lines media left s old new
    pub blank : IsBlankImage (w.reads old)
    pub large : 32 ≤ length (w.reads old)
    pub calm : Rose (w.faults old) (w.faults new) → ⊥

  -- All members' media are sound; or two are, the third member wasn't opened, and polls of one stamp wish the same.
  abbrev pub AreSound : Trace → Type 0
  AreSound t = ((s : MemberNumber) → IsSound s) ⊎ ((out : MemberNumber) × ((s : MemberNumber) → s ≢ out → IsSound s) × WasNotOpened t.entries (member out) × WishAlike lines)

  -- and no message is lost, doubled or held, and it ends at no number of messages that so many polls can send
  pub record IsSmooth (enough : ℕ) (t : Trace) : Type 0 where
    pub sound : AreSound t
    pub plain : Every IsPlain (fates_of t.sent)
    pub polls : length lines ≤ 16
    pub few : 192 < enough

  -- then no Tick stands and each poll holds a decision
  abbrev pub Completes : ℕ → Trace → Type 0
  Completes enough t = IsTrue w.tells → IsSmooth enough t → (tick_count t.entries ≡ 0) × AllHold lines t

-- ---- all of it

-- Votes over media of this kind, with at most so many Ticks, and so many messages at which they end.
pub record HaveVoted {M : Type 0} (w : Media M) (most_ticks enough : ℕ) (lines : List Line) (told : Tellers) (media left : MemberNumber → Option M) (t : Trace) : Type 0 where
  pub is_told : IsTrue w.tells → IsTold lines t told
  pub ended : IsTrue w.tells → HasEnded most_ticks enough lines t
  pub logs : RestoresLogs w lines media left t
  -- two media stand behind each decision, and each Decide that was added has its cause
  pub stand : IsTrue w.tells → StandOnMedia w lines left t
  pub causes : IsTrue w.tells → HaveCausesOnMedia w lines left t
  pub counts : AreCounted w lines media left t
  pub stops : IsTrue w.tells → AreDownFor w lines media left t
  -- where nothing stands in the way, they come to their decisions without a Tick
  pub completes : Completes w lines media left enough t
