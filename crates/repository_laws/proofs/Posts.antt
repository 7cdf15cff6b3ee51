-- the facts of messages, of evidence and of held reads only grow
use Rattle.pseudo_time.specs.declared.decisions.Decision.TheVariants as decision
use Rattle.repository_laws.proofs.Names.{Effect, Put, Stretch, Decide, Learn, Message, NodeId, Post, TimeParts, ObjectId, HeldRead, has-left, Has, FitsLog, RestsOn, HeldHolds, PostHolds, grew_keeps, Grew, ℕ, List, ◌∷◌, ◌++◌, inl, inr, WasReadLater}
use Rattle.message_form.specs.declared.messages.Message.TheVariants as message
use Rattle.repository_laws.proofs.Logs.{settled-log, viewed-log, on-floor-log}

pub later-stays : (ever : List Post) (r : ℕ) (l : List Effect) (f : Effect) (o : ObjectId) (t e : TimeParts) → WasReadLater ever r l o t e → WasReadLater ever r (f ∷ l) o t e
later-stays ever r l f o t e (inl p) = inl (p.0, inr p.1)
later-stays ever r l f o t e (inr p) = inr (p.0, p.1, inr p.2)

pub later-more : (ever more : List Post) (r : ℕ) (l : List Effect) (o : ObjectId) (t e : TimeParts) → WasReadLater ever r l o t e → WasReadLater (ever ++ more) r l o t e
later-more ever more r l o t e (inl p) = inl ((has-left ever more _ p.0.0, p.0.1), p.1)
later-more ever more r l o t e (inr p) = inr (p.0, (has-left ever more _ p.1.0, p.1.1), p.2)

-- one more fitting effect
pub post-stays : (ever : List Post) (r : ℕ) (l : List Effect) (f : Effect) (to : NodeId) (m : Message) → FitsLog r l f → PostHolds ever r l to m → PostHolds ever r (f ∷ l) to m
post-stays ever r l f to (message.Begun s) k p = (p.0, inr p.1)
post-stays ever r l f to (message.Value t v) k p = (p.0, p.1, p.2, viewed-log r l f p.0 t v k p.3, on-floor-log r l f t k p.4)
post-stays ever r l f to (message.Stored t) k p = (p.0, p.1, p.2, inr p.3)
post-stays ever r l f to (message.LaterRead t e) k p = (p.0, p.1, later-stays ever r l f p.0 t e p.2)
post-stays ever r l f to (message.LaterVersion t x) k p = (p.0, p.1, p.2, p.3, inr p.4)
post-stays ever r l f to (message.Ended t) k p = (p.0, settled-log l f t.stamp p.0 p.1)
post-stays ever r l f to (message.Decided s d) k p = inr p
post-stays ever r l f to (message.Tell s c) k p = (p.0, inr p.1, p.2)
post-stays ever r l f to (message.Ask s) k p = tt
post-stays ever r l f to m k p = absurd p

-- and a whole turn, or the part of it that a crash keeps
pub post-stays-through : (ever : List Post) (r : ℕ) (l added : List Effect) (to : NodeId) (m : Message) → Grew (FitsLog r) l added → PostHolds ever r l to m → PostHolds ever r (added ++ l) to m
post-stays-through ever r l added to m g p = grew_keeps (FitsLog r) (λ k. PostHolds ever r k to m) (λ k f q fit. post-stays ever r k f to m fit q) l added g p

-- more messages
pub post-more : (ever more : List Post) (r : ℕ) (l : List Effect) (to : NodeId) (m : Message) → PostHolds ever r l to m → PostHolds (ever ++ more) r l to m
post-more ever more r l to (message.Begun s) p = p
post-more ever more r l to (message.Value t v) p = (p.0, (has-left ever more _ p.1.0, p.1.1), p.2, p.3, p.4)
post-more ever more r l to (message.Stored t) p = (p.0, p.1, (has-left ever more _ p.2.0, p.2.1), p.3)
post-more ever more r l to (message.LaterRead t e) p = (p.0, p.1, later-more ever more r l p.0 t e p.2)
post-more ever more r l to (message.LaterVersion t x) p = (p.0, p.1, (has-left ever more _ p.2.0, p.2.1), p.3, p.4)
post-more ever more r l to (message.Ended t) p = p
post-more ever more r l to (message.Decided s d) p = p
post-more ever more r l to (message.Tell s c) p = p
post-more ever more r l to (message.Ask s) p = tt
post-more ever more r l to m p = absurd p

pub held-more : (ever more : List Post) (r : ℕ) (x : TimeParts × HeldRead) → HeldHolds ever r x → HeldHolds (ever ++ more) r x
held-more ever more r x p = ((has-left ever more _ p.0.0, p.0.1), p.1)

-- more messages, more ticks, and longer logs at the homes
pub evidence-more : (ever more : List Post) (homes longer : ℕ → List Effect) (ticks late : List ℕ) (r : ℕ) (f : Effect) →
    ((n : ℕ) (g : Effect) → Has g (homes n) → Has g (longer n)) → RestsOn ever homes ticks r f → RestsOn (ever ++ more) longer (ticks ++ late) r f
evidence-more ever more homes longer ticks late r (Put o x v) h p = (has-left ever more _ p.0, p.1)
evidence-more ever more homes longer ticks late r (Stretch o x) h p = (has-left ever more _ p.0, p.1)
evidence-more ever more homes longer ticks late r (Decide s decision.Committed) h p = has-left ever more _ p
evidence-more ever more homes longer ticks late r (Decide s decision.Withdrawn) h p = has-left ever more _ p
evidence-more ever more homes longer ticks late r (Decide s (decision.Expired d m)) h p = has-left ticks late m p
evidence-more ever more homes longer ticks late r (Learn s c) h p = (p.0, h s.home (Decide s p.0) p.1, p.2)
evidence-more ever more homes longer ticks late r f h p = tt
