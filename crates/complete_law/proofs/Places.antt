-- What always holds at a calm place: where each request that stands is, and what keeps it from being lost.
use Rattle.complete_law.proofs.Names.{Has, StampParts, TimeParts, Decision, NodeId, Effect, Message, Out, post, HeldRead, Asker, waits_for, HasBegun, Ignored, Try, book, find, tries, is_none, row, news, stage, repository, broker, Task, tasks, Desk, desk_at, state, IsRested, acts_of, Base, Sending, World, numbered, opened_life, sent_by, all_effects, times_taken, Waits, DecidedAt, read_to, standing_at, ask_of, tell_of, DeskSound, ◌≡◌, ◌⊎◌, ℕ, ◌≤◌, ◌==◌, Bool, true, false, List, [], reverse, Option, Some, None, ◌&&◌, if◌then◌else◌, refl, false≢true, true≢false}
use Rattle.effect_form.specs.declared.effects.Effect.TheVariants as effect
use Rattle.message_form.specs.declared.messages.Message.TheVariants as message

-- what an entry of a node changes, and what it leaves
pub both-on : {X : Type 0} (s c : Bool) (x z : X) → s ≡ true → c ≡ true → (if s && c then x else z) ≡ x
both-on true true x z e q = refl
both-on false c x z e q = absurd (false≢true e)
both-on true false x z e q = absurd (false≢true q)

pub all-off : {X : Type 0} (s c : Bool) (x z : X) → s ≡ false → (if s && c then x else z) ≡ z
all-off false c x z e = refl
all-off true c x z e = absurd (true≢false e)

-- a node's whole log, and its durable one, newest effect first
abbrev pub log_of : World → NodeId → List Effect
log_of w n = reverse (all_effects (w.life n))

abbrev pub gated_of : World → NodeId → List Effect
gated_of w n = reverse (w.life n).gated

abbrev pub homes_of : World → ℕ → List Effect
homes_of w r = gated_of w (repository r)

abbrev pub IsBegun : World → StampParts → Type 0
IsBegun w s = HasBegun s (homes_of w s.home)

abbrev pub IsDecided : World → StampParts → Type 0
IsDecided w s = DecidedAt (homes_of w) s

abbrev pub held_of : World → ℕ → List (TimeParts × HeldRead)
held_of w r = (w.life (repository r)).mind.hands.held

-- the message is on its way: its node owes it, or it was sent and not taken
abbrev pub Flying : World → NodeId → Out → Type 0
Flying w from out = Has out (w.life from).outs ⊎ ((k : ℕ) × (s : Sending) × (numbered w.sendings k ≡ Some s) × (s.post ≡ post from out) × (times_taken w k ≡ 0))

-- the home of the attempt was asked, knows who asked, or has told
abbrev pub AskedFor : World → ℕ → StampParts → Type 0
AskedFor w r s =
    Flying w (repository r) (ask_of s) ⊎ (Has (record { repository = r; stamp = s }) (w.life (repository s.home)).mind.hands.askers
    ⊎ ((c : Bool) × Flying w (repository s.home) (tell_of (record { repository = r; stamp = s }) c)))

-- the attempt of this stamp that the log has, has ended
abbrev pub Ended : StampParts → List Effect → Type 0
Ended s l = (t : Try) × (find s (tries (book l)) ≡ Some t) × (is_none t.end ≡ false)

module _ (b : Base) where
  abbrev pub tasks_of : ℕ → List Task
  tasks_of n = tasks (acts_of n b.acts)

  abbrev pub desk_of : World → ℕ → Desk
  desk_of w n = desk_at (log_of w (broker n)) (w.life (broker n)).mind.heard

  abbrev pub standing_in : World → ℕ → Option Out
  standing_in w n = standing_at b.script n b.run (tasks_of n) (log_of w (broker n)) (w.life (broker n)).mind.heard

  -- an answer is a message that the broker wouldn't ignore
  abbrev pub Heeds : World → ℕ → Message → Type 0
  Heeds w n m = row b.script (stage b.script b.run (state b.script n b.run (tasks_of n) (desk_of w n)) (w.life (broker n)).mind.heard) (w.life (broker n)).mind.heard (news m) ≡ Ignored → ⊥

  -- where the request is that stands: on its way, answered, with the answer on its way, or a read that is held
  abbrev pub Placed : World → ℕ → Out → Type 0
  Placed w n out =
      Flying w (broker n) out ⊎ (((from : NodeId) × (m : Message) × Flying w from (record { to = broker n; message = m }) × Heeds w n m)
      ⊎ ((x : TimeParts) × (e : HeldRead) × (out ≡ read_to x e.object) × (e.from ≡ broker n) × Has (x, e) (held_of w e.object.repository)))

  -- what a message of a broker says
  abbrev pub SaidOf : World → ℕ → Message → Type 0
  SaidOf w n (message.Read x o) = IsBegun w x.stamp
  SaidOf w n (message.Write x o v) = IsBegun w x.stamp
  SaidOf w n (message.Commit s) = IsBegun w s
  SaidOf w n (message.Withdraw s) = IsBegun w s × Ended s (log_of w (broker n))
  SaidOf w n m = Unit {0}

  -- what was said stays so, where what has begun and what has ended stays so
  pub said-on : (w w' : World) (n : ℕ) → ((s : StampParts) → IsBegun w s → IsBegun w' s) → ((s : StampParts) → Ended s (log_of w (broker n)) → Ended s (log_of w' (broker n))) → (m : Message) → SaidOf w n m → SaidOf w' n m
  said-on w w' n f g (message.Read x o) k = f x.stamp k
  said-on w w' n f g (message.Write x o v) k = f x.stamp k
  said-on w w' n f g (message.Commit s) k = f s k
  said-on w w' n f g (message.Withdraw s) k = (f s k.0, g s k.1)
  said-on w w' n f g _ k = tt

  pub record CalmWorld (w : World) : Type 0 where
    -- of all nodes
    pub ups : (n : NodeId) → (w.flags n).up ≡ (w.flags n).known
    pub outside : (n : NodeId) → (w.flags n).known ≡ false → w.life n ≡ opened_life b.start []
    pub shut : (n : NodeId) → (w.flags n).due ≡ false → ((w.life n).fresh ≡ []) × ((w.life n).outs ≡ [])
    pub still : (s : Sending) → Has s w.sendings → s.ticks ≤ w.ticks
    pub untaken : (k : ℕ) → numbered w.sendings k ≡ None → times_taken w k ≡ 0
    -- of brokers
    pub rested : (n : ℕ) → (w.flags (broker n)).gone ≡ true → IsRested b.script n b.run (tasks_of n) (desk_of w n)
    pub sound : (n : ℕ) → DeskSound b.script n b.run (tasks_of n) (IsBegun w) (IsDecided w) (desk_of w n)
    pub said : (n : ℕ) (o : Out) → Has o (w.life (broker n)).outs ⊎ Has (post (broker n) o) (sent_by w) → SaidOf w n o.message
    pub placed : (n : ℕ) (o : Out) → (w.flags (broker n)).gone ≡ true → standing_in w n ≡ Some o → Placed w n o
    -- of repositories
    pub waits : (r : ℕ) (e : TimeParts × HeldRead) → Has e (held_of w r) → Waits (log_of w (repository r)) e
    pub asked : (r : ℕ) (s : StampParts) → waits_for s (held_of w r) ≡ true → (s.home == r) ≡ false → AskedFor w r s
    pub askers : (r : ℕ) (a : Asker) → Has a (w.life (repository r)).mind.hands.askers → (a.stamp.home ≡ r) × ((d : Decision) → Has (effect.Decide a.stamp d) (log_of w (repository r)) → ⊥)
