-- What is looked up goes on to agree with the log.
use Rattle.repository_core.proofs.Names.{◌≡◌, ℕ, ◌≤◌, true, false, List, ◌∷◌, sym, ◌∙◌, ap, subst, arith, StampParts, TimeParts, Decision, ObjectId, Value, Effect, States, Mark, ReadStep, WriteStep, settle_of, after_read, after_write, read_by, wrote, first_begin, decision_of, BooksShow}
use Rattle.repository_draft.specs.Effect.TheVariants.{Put, Stretch}
use Rattle.repository_draft.specs.Mark.TheVariants as mark
use Rattle.repository_draft.specs.ReadStep.TheVariants as read
use Rattle.repository_draft.specs.WriteStep.TheVariants as write
use Rattle.repository_core.specs.Calls.{Begins, Since}

-- ---- the histories in a call

begins-with : (a b : List Mark) (f : Mark) → Begins a b → Begins a (f ∷ b)
begins-with a b f h = record { more = f ∷ h.more; grown = ap (λ z. f ∷ z) h.grown }

begins-read : (a b : List Mark) (o : ObjectId) (t : TimeParts) (s : ReadStep) → Begins a b → Begins a (after_read b o t s)
begins-read a b o t (read.Answer v true) h = begins-with a b (mark.Stretch o t) h
begins-read a b o t (read.Answer v false) h = h
begins-read a b o t (read.Wait s) h = h
begins-read a b o t (read.LaterRead e) h = h

begins-write : (a b : List Mark) (o : ObjectId) (t : TimeParts) (v : Value) (s : WriteStep) → Begins a b → Begins a (after_write b o t v s)
begins-write a b o t v write.Put h = begins-with a b (mark.Put o t v) h
begins-write a b o t v write.Again h = h
begins-write a b o t v (write.LaterVersion x) h = h
begins-write a b o t v (write.LaterRead e) h = h

less-trans : (a b c : ℕ) → a ≤ b → b ≤ c → a ≤ c
less-trans a b c h k = omega arith

module _ {H B : Type 0} (content : H → List Mark) (below : H → B) (faults damage : H → ℕ) where
  -- one step of the histories more
  since_step : (first old new : H) → Begins (content first) (content new) → Since content below faults damage first old → below new ≡ below old
      → faults old ≤ faults new → damage old ≤ damage new → Since content below faults damage first new
  since_step first old new begins since same f d = record {
    begins = begins;
    stays = same ∙ since.stays;
    faults_stay = less-trans _ _ _ since.faults_stay f;
    damage_stays = less-trans _ _ _ since.damage_stays d;
  }

  pub since_read : (first old new : H) (o : ObjectId) (t : TimeParts) (s : ReadStep) → Since content below faults damage first old
      → content new ≡ after_read (content old) o t s → below new ≡ below old → faults old ≤ faults new → damage old ≤ damage new → Since content below faults damage first new
  since_read first old new o t s since grown same f d =
      since_step first old new (subst (Begins (content first)) (sym grown) (begins-read (content first) (content old) o t s since.begins)) since same f d

  pub since_write : (first old new : H) (o : ObjectId) (t : TimeParts) (v : Value) (s : WriteStep) → Since content below faults damage first old
      → content new ≡ after_write (content old) o t v s → below new ≡ below old → faults old ≤ faults new → damage old ≤ damage new → Since content below faults damage first new
  since_write first old new o t v s since grown same f d =
      since_step first old new (subst (Begins (content first)) (sym grown) (begins-write (content first) (content old) o t v s since.begins)) since same f d

  pub since_settle : (first old new : H) (f : Mark) → Since content below faults damage first old
      → content new ≡ f ∷ content old → below new ≡ below old → faults old ≤ faults new → damage old ≤ damage new → Since content below faults damage first new
  since_settle first old new f since grown same k d =
      since_step first old new (subst (Begins (content first)) (sym grown) (begins-with (content first) (content old) f since.begins)) since same k d

  -- the same histories
  pub since_same : (first old again new : H) → again ≡ first → new ≡ old → Since content below faults damage first old → Since content below faults damage again new
  since_same first old again new e f since = subst (λ x. Since content below faults damage x new) (sym e) (subst (λ x. Since content below faults damage first x) (sym f) since)

-- ---- a log with one effect more

agree-stretch : (p : List (StampParts × Decision)) (l : List Effect) (m : List Mark) (r : States) (e : List (StampParts × Decision)) (o : ObjectId) (t : TimeParts) → BooksShow p l m r e → BooksShow p (Stretch o t ∷ l) (mark.Stretch o t ∷ m) r e
unfolding first_begin decision_of settle_of
agree-stretch p l m r e o t a = record { marked = ap (λ z. mark.Stretch o t ∷ z) a.marked; recorded = λ s. a.recorded s; remembered = λ s h. a.remembered s h }

agree-put : (p : List (StampParts × Decision)) (l : List Effect) (m : List Mark) (r : States) (e : List (StampParts × Decision)) (o : ObjectId) (t : TimeParts) (v : Value) → BooksShow p l m r e → BooksShow p (Put o t v ∷ l) (mark.Put o t v ∷ m) r e
unfolding first_begin decision_of settle_of
agree-put p l m r e o t v a = record { marked = ap (λ z. mark.Put o t v ∷ z) a.marked; recorded = λ s. a.recorded s; remembered = λ s h. a.remembered s h }

pub agree-read : (p : List (StampParts × Decision)) (l : List Effect) (m : List Mark) (r : States) (e : List (StampParts × Decision)) (o : ObjectId) (t : TimeParts) (s : ReadStep) → BooksShow p l m r e → BooksShow p (read_by l o t s) (after_read m o t s) r e
agree-read p l m r e o t (read.Answer v true) a = agree-stretch p l m r e o t a
agree-read p l m r e o t (read.Answer v false) a = a
agree-read p l m r e o t (read.Wait s) a = a
agree-read p l m r e o t (read.LaterRead x) a = a

pub agree-write : (p : List (StampParts × Decision)) (l : List Effect) (m : List Mark) (r : States) (e : List (StampParts × Decision)) (o : ObjectId) (t : TimeParts) (v : Value) (s : WriteStep) → BooksShow p l m r e → BooksShow p (wrote l o t v s) (after_write m o t v s) r e
agree-write p l m r e o t v write.Put a = agree-put p l m r e o t v a
agree-write p l m r e o t v write.Again a = a
agree-write p l m r e o t v (write.LaterVersion x) a = a
agree-write p l m r e o t v (write.LaterRead x) a = a

-- ---- equal parts

pub agree-same : (p : List (StampParts × Decision)) (l : List Effect) (m n : List Mark) (r u : States) (e f : List (StampParts × Decision)) → m ≡ n → r ≡ u → e ≡ f → BooksShow p l n u f → BooksShow p l m r e
agree-same p l m n r u e f a b c h = subst (λ x. BooksShow p l x r e) (sym a) (subst (λ x. BooksShow p l n x e) (sym b) (subst (λ x. BooksShow p l n u x) (sym c) h))
