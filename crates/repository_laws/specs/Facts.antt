-- What fits a repository's log, what a message that it sent says of its log, and what has to come before an effect. Logs stand newest first.
use Rattle.std.specs.Prelude.{◌≡◌, ◌≢◌, ◌⊎◌, ℕ, ◌≤◌, Bool, true, false, List, [], ◌∷◌, Some, None}
use Rattle.pseudo_time.specs.Lists.{Every, Has}
use Rattle.pseudo_time.specs.StampParts.{StampParts}
use Rattle.pseudo_time.specs.TimeParts.{TimeParts}
use Rattle.pseudo_time.specs.Order.{lt}
use Rattle.pseudo_time.specs.declared.decisions.Decision.{Decision}
use Rattle.pseudo_time.specs.declared.decisions.Decision.TheVariants.{Committed, Withdrawn, Expired}
use Rattle.pseudo_time.specs.declared.nodes.NodeId.{NodeId}
use Rattle.pseudo_time.specs.declared.nodes.NodeKind.{NodeKind}
use Rattle.pseudo_time.specs.declared.nodes.NodeKind.TheVariants.{Repository}
use Rattle.value_form.specs.declared.objects.ObjectId.{ObjectId}
use Rattle.value_form.specs.declared.values.Value.{Value}
use Rattle.effect_form.specs.declared.effects.Effect.{Effect}
use Rattle.effect_form.specs.declared.effects.Effect.TheVariants.{Put, Stretch, Begin, Decide, Learn, Run, Act, Try, Got, Acked, End, Mark, Whole}
use Rattle.message_form.specs.declared.messages.Message.{Message}
use Rattle.message_form.specs.declared.messages.Message.TheVariants as message
use Rattle.message_form.specs.Posts.{Post, WasSent}
use Rattle.message_form.specs.Growth.{Grew}
use Rattle.commit_record.specs.declared.states.RecordState.TheVariants.{Unknown}
use Rattle.object_history.specs.declared.marks.Mark.TheVariants as mark
use Rattle.object_history.specs.declared.steps.ReadStep.TheVariants as read
use Rattle.object_history.specs.declared.steps.WriteStep.TheVariants as write
use Rattle.object_history.specs.Answers.{read_step, write_step}
use Rattle.object_history.specs.Views.{Starts, Viewed, Fits, IsOnFloor}
use Rattle.repository_core.specs.HeldRead.{HeldRead}
use Rattle.repository_core.specs.Logs.{is_commit, marks, known, record_of}
use Rattle.repository_core.specs.Hands.{Hand, now}
use Rattle.pseudo_time.specs.Nodes.{repository, broker}

abbrev pub HasBegun : StampParts → List Effect → Type 0
HasBegun s l = (d : ℕ) × Has (Begin s d) l

-- P held of the log once: of it, or of it as it was before
abbrev pub Once : (List Effect → Type 0) → List Effect → Type 0
Once P [] = P []
Once P (f ∷ l) = P (f ∷ l) ⊎ Once P l

-- ---- effects

-- a record expires at its deadline or after
abbrev pub IsTimely : ℕ → Decision → Type 0
IsTimely t Committed = Unit {0}
IsTimely t Withdrawn = Unit {0}
IsTimely t (Expired d m) = (d ≡ t) × (t ≤ m)

-- the record is unknown, and this may decide it
abbrev pub MayDecide : List Effect → StampParts → Decision → Type 0
MayDecide l s d = (t : ℕ) × (record_of l s ≡ Some (Unknown t)) × IsTimely t d

-- the effect may be added to the log of repository r
abbrev pub FitsLog : ℕ → List Effect → Effect → Type 0
FitsLog r l (Put o x v) = (o.repository ≡ r) × Fits (marks l) (mark.Put o x v)
FitsLog r l (Stretch o x) = o.repository ≡ r
FitsLog r l (Begin s d) = (s.home ≡ r) × (record_of l s ≡ None)
FitsLog r l (Decide s d) = (s.home ≡ r) × MayDecide l s d
FitsLog r l (Learn s c) = (s.home ≢ r) × (known l s ≡ None)
FitsLog r l (Run n) = ⊥
FitsLog r l (Act i h t n c b) = ⊥
FitsLog r l (Try i s) = ⊥
FitsLog r l (Got k v) = ⊥
FitsLog r l (Acked k) = ⊥
FitsLog r l (End i e) = ⊥
FitsLog r l (Mark at) = ⊥
FitsLog r l Whole = ⊥

-- what is left of that in a log of such effects, also where a retirement put a Mark and a Whole around what it kept
abbrev pub IsTidy : ℕ → List Effect → Type 0
IsTidy r [] = Unit {0}
IsTidy r (Put o x v ∷ l) = (o.repository ≡ r) × Starts (λ y. y ≢ x) o (marks l) × IsTidy r l
IsTidy r (Stretch o x ∷ l) = (o.repository ≡ r) × IsTidy r l
IsTidy r (Begin s d ∷ l) = (s.home ≡ r) × IsTidy r l
IsTidy r (Decide s d ∷ l) = (s.home ≡ r) × MayDecide l s d × IsTidy r l
IsTidy r (Learn s c ∷ l) = (s.home ≢ r) × (known l s ≡ None) × IsTidy r l
IsTidy r (Run n ∷ l) = ⊥
IsTidy r (Act i h t n c b ∷ l) = ⊥
IsTidy r (Try i s ∷ l) = ⊥
IsTidy r (Got k v ∷ l) = ⊥
IsTidy r (Acked k ∷ l) = ⊥
IsTidy r (End i e ∷ l) = ⊥
IsTidy r (Mark at ∷ l) = IsTidy r l
IsTidy r (Whole ∷ l) = IsTidy r l

-- ---- messages

-- the Read, or the Write, of this pseudotime was sent to r by its broker, for an object of r
abbrev pub ReadSent : List Post → ℕ → TimeParts → ObjectId → Type 0
ReadSent ever r t o = WasSent ever (broker t.stamp.broker) (repository r) (message.Read t o) × (o.repository ≡ r)

abbrev pub WriteSent : List Post → ℕ → TimeParts → ObjectId → Value → Type 0
WriteSent ever r t o v = WasSent ever (broker t.stamp.broker) (repository r) (message.Write t o v) × (o.repository ≡ r)

-- a request of the object at t was refused, since it was read up to e: a Read below the floor, or a Write
abbrev pub WasReadLater : List Post → ℕ → List Effect → ObjectId → TimeParts → TimeParts → Type 0
WasReadLater ever r l o t e = (ReadSent ever r t o × Once (λ k. read_step (marks k) o t ≡ read.LaterRead e) l)
    ⊎ ((v : Value) × WriteSent ever r t o v × Once (λ k. write_step (marks k) o t v ≡ write.LaterRead e) l)

-- what a message that repository r sends says of its log
abbrev pub PostHolds : List Post → ℕ → List Effect → NodeId → Message → Type 0
PostHolds ever r l to (message.Begun s) = HasBegun s l
PostHolds ever r l to (message.Value t v) = (o : ObjectId) × ReadSent ever r t o × (to ≡ broker t.stamp.broker) × Viewed (marks l) o t v × IsOnFloor (marks l) t
PostHolds ever r l to (message.Stored t) = (o : ObjectId) × (v : Value) × WriteSent ever r t o v × Has (Put o t v) l
PostHolds ever r l to (message.LaterRead t e) = (o : ObjectId) × (lt t e ≡ true) × WasReadLater ever r l o t e
PostHolds ever r l to (message.LaterVersion t x) = (o : ObjectId) × (v : Value) × WriteSent ever r t o v × (lt x t ≡ false) × Once (λ k. write_step (marks k) o t v ≡ write.LaterVersion x) l
PostHolds ever r l to (message.Ended t) = (c : Bool) × (known l t.stamp ≡ Some c)
PostHolds ever r l to (message.Decided s d) = Has (Decide s d) l
PostHolds ever r l to (message.Tell s c) = (d : Decision) × Has (Decide s d) l × (c ≡ is_commit d)
PostHolds ever r l to (message.Ask s) = Unit {0}
PostHolds ever r l to (message.Begin s t) = ⊥
PostHolds ever r l to (message.Read t o) = ⊥
PostHolds ever r l to (message.Write t o v) = ⊥
PostHolds ever r l to (message.Commit s) = ⊥
PostHolds ever r l to (message.Withdraw s) = ⊥

-- ---- causes

-- the decision stands in the log of the stamp's home; `homes` are the durable logs of the repositories
abbrev pub IsDecidedAt : (ℕ → List Effect) → StampParts → Bool → Type 0
IsDecidedAt homes s c = (d : Decision) × Has (Decide s d) (homes s.home) × (c ≡ is_commit d)

-- what was asked for, or heard, before a decision
abbrev pub WasClosed : List Post → List ℕ → ℕ → StampParts → Decision → Type 0
WasClosed ever ticks r s Committed = WasSent ever (broker s.broker) (repository r) (message.Commit s)
WasClosed ever ticks r s Withdrawn = WasSent ever (broker s.broker) (repository r) (message.Withdraw s)
WasClosed ever ticks r s (Expired d m) = Has m ticks

-- what must have come before the effect
abbrev pub RestsOn : List Post → (ℕ → List Effect) → List ℕ → ℕ → Effect → Type 0
RestsOn ever homes ticks r (Put o x v) = WriteSent ever r x o v
RestsOn ever homes ticks r (Stretch o x) = ReadSent ever r x o
RestsOn ever homes ticks r (Begin s d) = Unit {0}
RestsOn ever homes ticks r (Decide s d) = WasClosed ever ticks r s d
RestsOn ever homes ticks r (Learn s c) = IsDecidedAt homes s c
RestsOn ever homes ticks r (Run n) = Unit {0}
RestsOn ever homes ticks r (Act i h t n c b) = Unit {0}
RestsOn ever homes ticks r (Try i s) = Unit {0}
RestsOn ever homes ticks r (Got k v) = Unit {0}
RestsOn ever homes ticks r (Acked k) = Unit {0}
RestsOn ever homes ticks r (End i e) = Unit {0}
RestsOn ever homes ticks r (Mark at) = Unit {0}
RestsOn ever homes ticks r Whole = Unit {0}

-- a held read was sent by the broker that is to be answered
abbrev pub HeldHolds : List Post → ℕ → TimeParts × HeldRead → Type 0
HeldHolds ever r e = ReadSent ever r e.0 e.1.object × (e.1.from ≡ broker e.0.stamp.broker)

-- ---- turns

-- what holds of a turn in hand of repository r over its durable log
pub record HandHolds (ever : List Post) (homes : ℕ → List Effect) (ticks : List ℕ) (r : ℕ) (gated : List Effect) (h : Hand) : Type 0 where
  pub number : h.number ≡ r
  pub past : h.past ≡ gated
  pub tidy : IsTidy r h.past
  pub grew : Grew (FitsLog r) h.past h.added
  pub causes : Every (RestsOn ever homes ticks r) h.added
  pub held : Every (HeldHolds ever r) h.held
  pub outs : Every (λ p. PostHolds ever r (now h) p.to p.message) h.outs

-- a decision that repository n tells stands in its durable log
abbrev pub IsBacked : (ℕ → List Effect) → NodeKind → ℕ → Message → Type 0
IsBacked homes Repository n (message.Tell s c) = (d : Decision) × Has (Decide s d) (homes n) × (c ≡ is_commit d)
IsBacked homes k n m = Unit {0}

-- the message was sent to r, and what it tells of a decision is backed by its sender's durable log
abbrev pub HasCome : List Post → (ℕ → List Effect) → ℕ → NodeId → Message → Type 0
HasCome ever homes r from m = WasSent ever from (repository r) m × IsBacked homes from.kind from.number m
