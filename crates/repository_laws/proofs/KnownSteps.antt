-- After a decision was learned its attempt is known, whatever reads were released.
use Rattle.repository_laws.proofs.Names.{StampParts, TimeParts, same_stamp, NodeId, ObjectId, Effect, ReadStep, Answer, Wait, LaterRead, or_else, settle_of, read_step, HeldRead, Hand, note, now, send, repository, known, marks, hold, learn_as, on_learn, on_read, read_as, read_known, release, reread, unhold, waits_for, ◌≡◌, ◌==◌, Bool, true, false, ◌||◌, not, List, [], ◌∷◌, refl, ◌∙◌, Option, Some, None, if◌then◌else◌, false≢true, filter, same_stamp-self}
use Rattle.effect_form.specs.declared.effects.Effect.TheVariants as effect
use Rattle.message_form.specs.declared.messages.Message.TheVariants as message
use Rattle.repository_laws.proofs.ReadSteps.{known-stretch}

module _ (s : StampParts) where
  read-as-known : (before : List (TimeParts × HeldRead)) (h : Hand) (from : NodeId) (t : TimeParts) (o : ObjectId) (r : ReadStep) → known (now (read_as before h from t o r)) s ≡ known (now h) s
  read-as-known before h from t o (Answer v true) = known-stretch (now h) o t s
  read-as-known before h from t o (Answer v false) = refl
  read-as-known before h from t o (LaterRead e) = refl
  read-as-known before h from t o (Wait w) = go ((w.home == h.number) || waits_for w before)
    where
      go : (b : Bool) → known (now (if b then hold t (record { from = from; object = o; waits = w }) h else send (repository w.home) (message.Ask w) (hold t (record { from = from; object = o; waits = w }) h))) s ≡ known (now h) s
      go true = refl
      go false = refl

  read-known-known : (h : Hand) (from : NodeId) (t : TimeParts) (o : ObjectId) (u : Option Bool) → known (now (read_known h from t o u)) s ≡ known (now h) s
  read-known-known h from t o (Some false) = refl
  read-known-known h from t o (Some true) = read-as-known h.held (unhold t h) from t o (read_step (marks (now h)) o t)
  read-known-known h from t o None = read-as-known h.held (unhold t h) from t o (read_step (marks (now h)) o t)

  on-read-known : (h : Hand) (from : NodeId) (t : TimeParts) (o : ObjectId) → known (now (on_read h from t o)) s ≡ known (now h) s
  unfolding on_read
  on-read-known h from t o = read-known-known h from t o (known (now h) t.stamp)

  reread-known : (xs : List (TimeParts × HeldRead)) (h : Hand) → known (now (reread xs h)) s ≡ known (now h) s
  reread-known [] h = refl
  reread-known (e ∷ xs) h = reread-known xs (on_read h e.1.from e.0 e.1.object) ∙ on-read-known h e.1.from e.0 e.1.object

  release-known : (p : StampParts) (h : Hand) → known (now (release p h)) s ≡ known (now h) s
  unfolding release
  release-known p h = reread-known (filter (λ e. same_stamp e.1.waits p) h.held) (record h { held = filter (λ e. not (same_stamp e.1.waits p)) h.held })

  learned-first : (l : List Effect) (c : Bool) → known l s ≡ None → known (effect.Learn s c ∷ l) s ≡ Some c
  unfolding settle_of
  learned-first l c n = go (same_stamp s s) (same_stamp-self s) (settle_of (marks l) s) n
    where
      go : (b : Bool) → b ≡ true → (u : Option Bool) → u ≡ None → (if b then or_else u c else u) ≡ Some c
      go true e None n = refl
      go true e (Some x) n = absurd (cc n)
      go false e u n = absurd (false≢true e)

  learn-as-known : (h : Hand) (c : Bool) (u : Option Bool) → known (now h) s ≡ u → (x : Bool) × (known (now (learn_as h s c u)) s ≡ Some x)
  learn-as-known h c None e = (c, release-known s (note (effect.Learn s c) h) ∙ learned-first (now h) c e)
  learn-as-known h c (Some d) e = (d, e)

  pub on-learn-known : (h : Hand) (c : Bool) → (x : Bool) × (known (now (on_learn h s c)) s ≡ Some x)
  unfolding on_learn
  on-learn-known h c = learn-as-known h c (known (now h) s) refl
