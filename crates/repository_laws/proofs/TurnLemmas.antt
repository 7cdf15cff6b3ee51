-- What a whole turn keeps, by the steps of its kind.
use Rattle.repository_laws.proofs.Names.{Every, Has, every-map, TimeParts, NodeId, ObjectId, Message, Asker, HeldRead, Hand, now, hand_turn, Taking, Learning, Hearing, IsServed, Waits, ◌≡◌, ◌⊎◌, sym, ◌∙◌, ap, inl, inr, Input, AreOf, IsOf, KeepsReads, AreOpen, IsKeptOrTold}
use Rattle.message_form.specs.declared.messages.Message.TheVariants as message
use Rattle.repository_laws.proofs.ReadSteps.{Serves, Keeps, Asks, begins, on-learn-keeps, on-message-keeps, on-moment-keeps}
use Rattle.repository_laws.proofs.AskerSteps.{Askers, on-learn-askers, on-message-askers, on-moment-askers}

module _ (asked : TimeParts → ObjectId × NodeId) where
  abbrev R : TimeParts → ObjectId → NodeId → Type 0
  R t o from = asked t ≡ (o, from)

  agree : (t : TimeParts) (o p : ObjectId) (f g : NodeId) → R t o f → R t p g → (o ≡ p) × (f ≡ g)
  agree t o p f g a b = (ap (λ (z : ObjectId × NodeId). z.0) (sym a ∙ b), ap (λ (z : ObjectId × NodeId). z.1) (sym a ∙ b))

  none : TimeParts × HeldRead → Type 0
  none e = ⊥

  asks-of : (h : Hand) (from : NodeId) (m : Message) → IsOf asked (Taking from m) → Asks R agree h from m
  asks-of h from (message.Read t o) k = k
  asks-of h from _ k = tt

  turn-keeps : (h : Hand) (i : Input) → IsOf asked i → Keeps R agree h (λ e. ⊥) (λ w. ⊥) h → Keeps R agree h (λ e. ⊥) (λ w. ⊥) (hand_turn h i)
  turn-keeps h (Taking from m) of k = on-message-keeps R agree h h from m (λ e. asks-of h from m of) k
  turn-keeps h (Learning s c) of k = on-learn-keeps R agree h h s c k
  turn-keeps h (Hearing m) of k = on-moment-keeps R agree h h m k

  is-served : (old new : Hand) (t : TimeParts) (o : ObjectId) (from : NodeId) → Serves new t o from → IsServed old new from (message.Read t o)
  is-served old new t o from (inl a) = inr a
  is-served old new t o from (inr (m, inl v, i)) = inl (m, inr (inl v), i)
  is-served old new t o from (inr (m, inr (inl e), i)) = inl (m, inl e, i)
  is-served old new t o from (inr (m, inr (inr l), i)) = inl (m, inr (inr l), i)

  pub turn-reads : (h : Hand) (i : Input) → AreOf asked h.held → IsOf asked i → Every (Waits (now h)) h.held → KeepsReads asked h (hand_turn h i)
  turn-reads h i are of waits =
      let k = turn-keeps h i of (begins R agree h are waits) in
      record {
        reads = k.reads;
        waits = every-map (λ e. ⊥ ⊎ Waits (now (hand_turn h i)) e) (Waits (now (hand_turn h i))) (λ e w. elim w [ inl a ↦ absurd a | inr b ↦ b ]) (hand_turn h i).held k.waiting;
        served = λ e j. elim (k.served e j) [ inl a ↦ absurd a | inr b ↦ is-served h (hand_turn h i) e.0 e.1.object e.1.from b ];
        asks = k.asks;
      }

turn-askers : (h : Hand) (i : Input) → Askers h h → Askers h (hand_turn h i)
turn-askers h (Taking from m) a = on-message-askers h h from m a
turn-askers h (Learning s c) a = on-learn-askers h h s c a
turn-askers h (Hearing m) a = on-moment-askers h h m a

start : (h : Hand) → AreOpen h → Askers h h
start h o = record { kept = λ a i. inl i; undone = o }

pub asker-told : (h : Hand) (i : Input) (a : Asker) → AreOpen h → Has a h.askers → IsKeptOrTold (hand_turn h i) a
asker-told h i a o k = (turn-askers h i (start h o)).kept a k

pub askers-open : (h : Hand) (i : Input) → AreOpen h → AreOpen (hand_turn h i)
askers-open h i o = (turn-askers h i (start h o)).undone
