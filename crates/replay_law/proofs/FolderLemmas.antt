-- The tries of all brokers' logs, and the facts of all that a past left.
use Rattle.std.proofs.Common.{◌≡◌, ℕ, zero, suc, ◌≤◌, List, [], ◌∷◌, ◌++◌, map, refl, sym, ap, subst, reverse, inl, inr, arith, true}
use Rattle.std.proofs.Math.Nat.{eq-or-lt_of_le}
use Rattle.pseudo_time.specs.Lists.{Has}
use Rattle.pseudo_time.proofs.ListLemmas.{has-either, has-left, has-right}
use Rattle.pseudo_time.specs.Nodes.{broker}
use Rattle.pseudo_time.specs.TimeParts.{TimeParts}
use Rattle.pseudo_time.specs.declared.nodes.NodeId.{NodeId}
use Rattle.value_form.specs.declared.objects.ObjectId.{ObjectId}
use Rattle.value_form.specs.declared.values.Value.{Value}
use Rattle.effect_form.specs.declared.effects.Effect.{Effect}
use Rattle.effect_form.specs.declared.effects.Effect.TheVariants as effect
use Rattle.message_form.specs.Posts.{Post}
use Rattle.plan_form.specs.Plans.{InRange}
use Rattle.serial_model.specs.Questions.{Tree}
use Rattle.broker_core.specs.Book as books
use Rattle.broker_core.specs.Book.{book, tries}
use Rattle.pseudo_time.specs.declared.decisions.Decision.TheVariants as decision
use Rattle.world_core.specs.Deeds.{RunLogs, Try, attempt, in_run, log_of}
use Rattle.world_core.specs.Pasts.{alike, own_reading}
use Rattle.serial_law.specs.Earlier.{AreEarlier, Earlier, TickedBy, replaced}
use Rattle.serial_law.specs.Earlier.Earlier.{Retiring, Running}
use Rattle.serial_law.specs.Facts.{RunFacts}
use Rattle.serial_law.proofs.Main.{answers-try, serial}
use Rattle.serial_law.proofs.RunFacts.{IsBooked, run-facts, write-of}
use Rattle.serial_law.proofs.Standing.{puts-stand}
use Rattle.serial_law.proofs.WholeFacts.{kept-or-gone}
use Rattle.archive_law.specs.Archives.{IsPast, log_after}
use Rattle.archive_law.proofs.PastReadings.{Facts, facts-of, no_base}
use Rattle.replay_law.specs.Folders.{ReadsAll, folder_after, whole_after}
unfoldable use Rattle.log_replay.specs.Folders.{all_tries}
use Rattle.replay_law.specs.Replays.{AskedIt, HaveBytes, Replays}

-- ---- tries of all brokers

-- one of them is a try of a broker's book
record OneOf (script : List ℕ → Tree) (logs : NodeId → List Effect) (a : Try) : Type 0 where
  number : ℕ
  try : books.Try
  has : Has try (tries (book (logs (broker number))))
  is : attempt script try ≡ a

mapped : (script : List ℕ → Tree) (ts : List books.Try) (a : Try) → Has a (map (attempt script) ts) → (t : books.Try) × Has t ts × (attempt script t ≡ a)
mapped script [] a h = absurd h
mapped script (t ∷ ts) a (inl e) = (t, inl refl, e)
mapped script (t ∷ ts) a (inr h) = let r = mapped script ts a h in (r.0, inr r.1, r.2)

mapped-has : (script : List ℕ → Tree) (ts : List books.Try) (t : books.Try) → Has t ts → Has (attempt script t) (map (attempt script) ts)
mapped-has script [] t h = absurd h
mapped-has script (u ∷ ts) t (inl e) = inl (ap (attempt script) e)
mapped-has script (u ∷ ts) t (inr h) = inr (mapped-has script ts t h)

one-of : (script : List ℕ → Tree) (logs : NodeId → List Effect) (n : ℕ) (a : Try) → Has a (all_tries script logs n) → OneOf script logs a
unfolding all_tries
one-of script logs zero a h = absurd h
one-of script logs (suc b) a h = elim (has-either (all_tries script logs b) (map (attempt script) (tries (book (logs (broker (suc b)))))) a h) [
  | inl k ↦ one-of script logs b a k
  | inr k ↦ (let r = mapped script (tries (book (logs (broker (suc b))))) a k in record { number = suc b; try = r.0; has = r.1; is = r.2 })
]

below : (b i : ℕ) → suc i ≤ suc b → i ≤ b
below b i h = omega (arith, h)

no-broker : (i : ℕ) → 1 ≤ i → i ≤ 0 → ⊥
no-broker i low high = omega (arith, low, high)

-- a try of one of these brokers is one of them
all-of : (script : List ℕ → Tree) (logs : NodeId → List Effect) (n i : ℕ) (t : books.Try) → 1 ≤ i → i ≤ n → Has t (tries (book (logs (broker i)))) → Has (attempt script t) (all_tries script logs n)
unfolding all_tries
all-of script logs zero i t low high h = absurd (no-broker i low high)
all-of script logs (suc b) i t low high h = elim (eq-or-lt_of_le high) [
  | inl e ↦ has-right (all_tries script logs b) (map (attempt script) (tries (book (logs (broker (suc b)))))) (attempt script t)
      (mapped-has script (tries (book (logs (broker (suc b))))) t (subst (λ j. Has t (tries (book (logs (broker j))))) e h))
  | inr k ↦ has-left (all_tries script logs b) (map (attempt script) (tries (book (logs (broker (suc b)))))) (attempt script t) (all-of script logs b i t low (below b i k) h)
]

-- ---- a past

reads-all : (script : List ℕ → Tree) (cs : List Earlier) → AreEarlier (alike script) cs → ReadsAll script cs
reads-all script [] h = tt
reads-all script (Running c ∷ cs) h = (h.1.legal.scripted, reads-all script cs h.0)
reads-all script (Retiring r at ∷ cs) h = reads-all script cs h.0

module _ (cs : List Earlier) (its : Facts cs) (bytes : HaveBytes (whole_after its.script cs)) where
  abbrev now : NodeId → List Effect
  now n = reverse (log_after cs n)

  abbrev k : RunLogs
  k = whole_after its.script cs

  abbrev ever : List Post
  ever = its.past ++ []

  booked : (a : Try) → Has a (all_tries its.script now 16) → IsBooked its.script now 16 a
  booked a h =
      let one : OneOf its.script now a = one-of its.script now 16 a h in
      record {
        number = one.number;
        try = one.try;
        has = one.has;
        is = one.is;
        home = subst (λ (t : Try). InRange 16 t.stamp.home) (sym one.is) (bytes.homes a h);
        inside = its.inside one.try.task.script;
      }

  facts : RunFacts k ever
  facts = run-facts its.script (no_base its.script) 16 (all_tries its.script now 16) (log_after cs) (replaced own_reading cs) its.past [] (TickedBy cs []) its.facts booked

  asked-it : (r : ℕ) (o : ObjectId) (x : TimeParts) (v : Value) → in_run k r ≡ true → Has (effect.Put o x v) (log_of k r) → (o.repository ≡ r) × AskedIt k x o v
  asked-it r o x v inside h =
      let p = facts.put r o x v inside h in
      let w = write-of its.script (no_base its.script) 16 (all_tries its.script now 16) (log_after cs) (replaced own_reading cs) its.past [] (TickedBy cs []) its.facts booked x o v p.1 in
      let range : InRange 16 x.stamp.broker = bytes.brokers r o x v h in
      (p.0, (attempt its.script w.0, all-of its.script now 16 x.stamp.broker w.0 range.0 range.1 w.1, w.2, w.3))

  pub replays : Replays k (folder_after its.script cs)
  replays = record {
    serial = serial k ever facts;
    answers = answers-try k ever facts;
    asked = asked-it;
    puts = puts-stand (λ n. map reverse (replaced own_reading cs n)) (folder_after its.script cs) ever facts
        (λ r. kept-or-gone its.script (no_base its.script) (log_after cs) (replaced own_reading cs) its.past [] (TickedBy cs []) its.facts r);
    home = facts.decided_home;
    once = facts.decided_once;
    learned = facts.learned;
    expired = λ try d m h e. facts.decided try.stamp (decision.Expired d m) (facts.end_expired try d m h e);
  }

pub past-replays : (cs : List Earlier) → IsPast cs → (script : List ℕ → Tree) × ReadsAll script cs × (HaveBytes (whole_after script cs) → Replays (whole_after script cs) (folder_after script cs))
past-replays cs past = let its : Facts cs = facts-of cs past in (its.script, reads-all its.script cs its.are, λ bytes. replays cs its bytes)
