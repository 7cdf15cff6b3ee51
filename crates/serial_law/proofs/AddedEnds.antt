-- Each End that a trace added has its cause, over any logs.
use Rattle.serial_law.proofs.Names.{Has, TimeParts, lt, NodeId, NodeKind, Repository, Broker, every-has, ObjectId, Value, Effect, Outcome, Post, each_below, WriteStep, write_step, Asks, Request, ToRead, ToWrite, stop, marks, Once, Task, Book, broker, repository, counted, IsAskOf, WasAnswered, WasRefused, Base, sent_by, walk, start_world, Meets, base_of, fates_of, Reason, meets-front, post-answered, write-sent, read-sent, logs_at, refl, ◌≡◌, ℕ, ◌≤◌, nat_lt, true, false, inl, inr, List, [], ◌∷◌, ◌++◌, length, sym, ◌∙◌, ap, subst, Some, arith, append_assoc, append_cancel_right, length-append, ltb-false, same_Some, stop_of, own_tries, IsReading, IsWriting, OfOpen, SentOk}
use Rattle.effect_form.specs.declared.effects.Effect.TheVariants as effect
use Rattle.effect_form.specs.declared.outcomes.Outcome.TheVariants as outcome
use Rattle.message_form.specs.declared.messages.Message.TheVariants as message
use Rattle.message_form.specs.Growth.{Grew, Each}
use Rattle.object_history.specs.declared.steps.WriteStep.TheVariants as write
use Rattle.repository_laws.specs.Facts as repositories
use Rattle.broker_core.specs.Book.{Try, find, open_try, time_of}
use Rattle.broker_laws.specs.AnyLogs.{Joins, Rests, Says}
use Rattle.broker_laws.specs.Posts as posts
use Rattle.broker_laws.proofs.AnyDesks.{later-through, enters, open-own}
use Rattle.broker_laws.proofs.TurnLemmas.{runs-rise}
use Rattle.world_core.specs.declared.entries.Entry.TheVariants.{Tick}
use Rattle.world_facts.specs.Refines as refines
use Rattle.world_facts.specs.AnyRules.{GrownFrom, any_facts, any_post, tasks_of, log_opened, log_before}
use Rattle.world_facts.proofs.AnyNodes.{any-trace}
use Rattle.serial_law.specs.Added.{AnyPlace, any_log, AnsweredThere, RefusedThere, EndCause}
use Rattle.serial_law.proofs.CauseLemmas.{once-read, once-refused, once-version}
use Rattle.serial_law.proofs.Own.{fronts}

-- the later part of what a log grew by
grew-late : (P : List Effect → Effect → Type 0) (log first late : List Effect) → Grew P log (late ++ first) → Grew P (first ++ log) late
grew-late P log first [] g = tt
grew-late P log first (f ∷ late) g = (grew-late P log first late g.0, subst (λ l. P l f) (append_assoc late first log) g.1)

one-read : (o o' : ObjectId) → Asks (ToRead o) ≡ Asks (ToRead o') → o ≡ o'
one-read o o' e = cc e

one-write : (o o' : ObjectId) (v v' : Value) → Asks (ToWrite o v) ≡ Asks (ToWrite o' v') → (o ≡ o') × (v ≡ v')
one-write o o' v v' e = (cc e, cc e)

module _ (p : AnyPlace) where
  abbrev base : Base
  base = base_of p.script p.plan p.trace

  abbrev ever : List Post
  ever = sent_by (walk base p.front)

  any-facts-there : refines.LogFacts (any_facts p.script base.run base.acts (log_before p.trace)) base (logs_at (log_opened p.trace) (walk base p.front)) [] ever (λ moment. Has (Tick moment) p.front)
  any-facts-there = any-trace p.script p.plan p.asked p.trace p.front p.rest p.legal p.here

  meets : Meets base (fates_of p.trace.sent) (start_world base) p.front
  meets = meets-front base (fates_of p.trace.sent) (start_world base) p.front p.rest (subst (Meets base (fates_of p.trace.sent) (start_world base)) p.here p.legal.meets)

  module _ (b : ℕ) where
    abbrev acts : List Task
    acts = tasks_of p.script base.run base.acts b

    abbrev J : List Effect → Effect → Type 0
    J = Joins p.script b base.run acts

    abbrev at : List Effect → Book
    at log = counted p.script b base.run acts log

    module _ (i : ℕ) (o : Outcome) (late early : List Effect) (is : any_log p (broker b) ≡ late ++ (effect.End i o ∷ (early ++ log_before p.trace (broker b)))) where
      abbrev old : List Effect
      old = log_before p.trace (broker b)

      abbrev below : List Effect
      below = early ++ old

      abbrev mine : List Effect
      mine = any_log p (broker b)

      -- the End fits, and has its cause
      rests : Rests p.script b base.run acts ever below (effect.End i o)
      rests =
          let all : Each (λ l f. length old ≤ length l → Rests p.script b base.run acts ever l f) (late ++ (effect.End i o ∷ below)) = subst (Each (λ l f. length old ≤ length l → Rests p.script b base.run acts ever l f)) is (any-facts-there.proofs (broker b)) in
          (each_below (λ l f. length old ≤ length l → Rests p.script b base.run acts ever l f) (effect.End i o ∷ below) late all).1 (let n = length-append early old in omega (arith, n))

      -- what the log grew by
      grown : Grew J old (late ++ (effect.End i o ∷ early))
      grown =
          let t : GrownFrom J old mine = any-facts-there.tidy (broker b) in
          let same : t.early ++ old ≡ (late ++ (effect.End i o ∷ early)) ++ old = sym t.is ∙ is ∙ sym (append_assoc late (effect.End i o ∷ early) old) in
          subst (Grew J old) (append_cancel_right t.early (late ++ (effect.End i o ∷ early)) old same) t.grew

      since : Grew J below (late ++ (effect.End i o ∷ []))
      since =
          grew-late J old early (late ++ (effect.End i o ∷ []))
          (subst (Grew J old) (sym (append_assoc late (effect.End i o ∷ []) early)) grown)

      whole : (late ++ (effect.End i o ∷ [])) ++ below ≡ mine
      whole = append_assoc late (effect.End i o ∷ []) below ∙ sym is

      -- runs only rise
      rise : (log fresh : List Effect) → Grew J log fresh → (at log).run ≤ (at (fresh ++ log)).run
      rise log [] g = omega arith
      rise log (f ∷ fresh) g = omega (arith, rise log fresh g.0, runs-rise p.script b (at (fresh ++ log)) f g.1.fits, ap (λ (z : Book). z.run) (enters p.script b base.run acts (fresh ++ log) f g.1))

      -- what broker b was asked for at this pseudotime is what its open attempt asks for
      that-asks : (t : Try) (q s : Request) → nat_lt (at below).run base.run ≡ false → open_try (at below) ≡ Some t → stop_of p.script t ≡ Asks q →
          (at mine).run ≡ base.run → IsAskOf p.script (own_tries p.script b base.run acts mine) (time_of t) s → Asks q ≡ Asks s
      that-asks t q s low stands asked now ask =
          let high : (at below).run ≤ base.run = (let r = rise below (late ++ (effect.End i o ∷ [])) since in let e = ap (λ l. (at l).run) whole in omega (arith, r, e, now)) in
          let run : (at below).run ≡ base.run = (let l = ltb-false (at below).run base.run low in omega (arith, l, high)) in
          let l = later-through p.script b base.run acts below (late ++ (effect.End i o ∷ [])) t.stamp t since run (open-own p.script b base.run acts (at below) t stands) in
          let found : find t.stamp (own_tries p.script b base.run acts mine) ≡ Some l.1.0 = subst (λ z. find t.stamp (own_tries p.script b base.run acts z) ≡ Some l.1.0) whole l.1.1 in
          let same : ask.0 ≡ l.1.0 = same_Some ask.0 l.1.0 (sym ask.1 ∙ found) in
          let more = l.1.2.answers in
          let front : ask.2.0 ≡ t.answers = fronts ask.2.0 t.answers ask.2.1 more.0 (sym ask.2.2 ∙ ap (λ (z : Try). z.answers) same ∙ more.1) (let n = ask.2.3 in omega (arith, n)) in
          let task : ask.0.task ≡ t.task = ap (λ (z : Try). z.task) same ∙ l.1.2.task in
          sym asked ∙ ap (λ (z : Task). stop (p.script z.script) t.answers) (sym task) ∙ ap (λ z. stop (p.script ask.0.task.script) z) (sym front) ∙ ask.2.4

      that-write : (t : Try) (g : ObjectId) (v : Value) (to : NodeId) (w : ObjectId) (u : Value) → nat_lt (at below).run base.run ≡ false → open_try (at below) ≡ Some t → IsWriting p.script t g v →
          Says p.script b base.run acts mine to (message.Write (time_of t) w u) → (g ≡ w) × (v ≡ u)
      that-write t g v to w u low stands writes says = one-write g w v u (that-asks t (ToWrite g v) (ToWrite w u) low stands writes says.run_is says.holds.2)

      that-read : (t : Try) (g : ObjectId) (to : NodeId) (w : ObjectId) → nat_lt (at below).run base.run ≡ false → open_try (at below) ≡ Some t → IsReading p.script t g →
          Says p.script b base.run acts mine to (message.Read (time_of t) w) → g ≡ w
      that-read t g to w low stands reads says = one-read g w (that-asks t (ToRead g) (ToRead w) low stands reads says.run_is says.holds.2)

      -- what was sent holds
      sent-holds : (q : Post) → Has q ever → any_post p.script base.run base.acts ever q.from.kind q.from.number (any_log p q.from) (record { to = q.to; message = q.message })
      sent-holds q h = every-has (SentOk (any_facts p.script base.run base.acts (log_before p.trace)) ever (any_log p)) ever q any-facts-there.sent_ok h

      -- a refusal that came, and the log of its sender
      module _ (t : Try) (o' : ObjectId) (v : Value) (low : nat_lt (at below).run base.run ≡ false) (stands : open_try (at below) ≡ Some t) (writes : IsWriting p.script t o' v) where
        -- the write that was refused is the one that the attempt stands at, and its sender keeps the object
        the-same : (r : ℕ) (w : ObjectId) (u : Value) → repositories.WriteSent ever r (time_of t) w u → broker b ≡ broker t.stamp.broker → (o' ≡ w) × (v ≡ u) × (r ≡ o'.repository)
        the-same r w u sent own =
            let mine_sent : Has (record { from = broker b; to = repository r; message = message.Write (time_of t) w u }) ever = subst (λ z. Has (record { from = z; to = repository r; message = message.Write (time_of t) w u }) ever) (sym own) sent.0 in
            let same = that-write t o' v (repository r) w u low stands writes (sent-holds (record { from = broker b; to = repository r; message = message.Write (time_of t) w u }) mine_sent) in
            (same.0, same.1, sym sent.1 ∙ ap (λ (z : ObjectId). z.repository) (sym same.0))

        -- over its log as it once was
        abbrev OnceThere : WriteStep → Type 0
        OnceThere step = Once (λ l. write_step (marks l) o' (time_of t) v ≡ step) (any_log p (repository o'.repository))

        -- it took the write, and answered so
        -- no read was
        no-read : (r : ℕ) (w : ObjectId) → broker b ≡ broker t.stamp.broker → Has (record { from = broker t.stamp.broker; to = repository r; message = message.Read (time_of t) w }) ever → ⊥
        no-read r w own sent =
            let mine_sent = subst (λ z. Has (record { from = z; to = repository r; message = message.Read (time_of t) w }) ever) (sym own) sent in
            let says = sent-holds (record { from = broker b; to = repository r; message = message.Read (time_of t) w }) mine_sent in
            let same : Asks (ToWrite o' v) ≡ Asks (ToRead w) = that-asks t (ToWrite o' v) (ToRead w) low stands writes says.run_is says.holds.2 in cc

        taken : (step : WriteStep) (r : ℕ) → broker b ≡ broker t.stamp.broker → Reason base p.front r (time_of t) step → AnsweredThere p (time_of t) o' v step
        taken step r own (inr (w, e, is, rep, a)) = absurd (no-read r w own (subst (λ k. Has (record { from = broker t.stamp.broker; to = repository k; message = message.Read (time_of t) w }) ever) rep (read-sent base p.front (time_of t) w e a)))
        taken step r own (inl (w, u, rep, a)) =
            let sent : repositories.WriteSent ever r (time_of t) w u = (subst (λ k. Has (record { from = broker t.stamp.broker; to = repository k; message = message.Write (time_of t) w u }) ever) rep (write-sent base p.front (time_of t) w u step a), rep) in
            let same = the-same r w u sent own in
            subst (λ z. WasAnswered base p.front (time_of t) z v step) (sym same.0) (subst (λ z. WasAnswered base p.front (time_of t) w z step) (sym same.1) a)

        moved : (step : WriteStep) (r : ℕ) (w : ObjectId) (u : Value) → (o' ≡ w) × (v ≡ u) × (r ≡ o'.repository) → Once (λ l. write_step (marks l) w (time_of t) u ≡ step) (any_log p (repository r)) → OnceThere step
        moved step r w u same once =
            subst (λ z. Once (λ l. write_step (marks l) o' (time_of t) v ≡ step) (any_log p (repository z))) same.2
            (subst (λ z. Once (λ l. write_step (marks l) o' (time_of t) z ≡ step) (any_log p (repository r))) (sym same.1)
            (subst (λ z. Once (λ l. write_step (marks l) z (time_of t) u ≡ step) (any_log p (repository r))) (sym same.0) once))

        read-by : (e : TimeParts) (r : ℕ) (w : ObjectId) → broker b ≡ broker t.stamp.broker → lt (time_of t) e ≡ true → repositories.WasReadLater ever r (any_log p (repository r)) w (time_of t) e →
            Reason base p.front r (time_of t) (write.LaterRead e) → EndCause p b below i (outcome.LaterRead o' e)
        read-by e r w own less (inl q) reason = absurd (no-read r w own q.0.0)
        read-by e r w own less (inr q) reason =
            let once : OnceThere (write.LaterRead e) = moved (write.LaterRead e) r w q.0 (the-same r w q.0 q.1 own) q.2 in
            inl (t, stands, (v, writes, (less, once-read (any_log p (repository o'.repository)) o' (time_of t) e v once, taken (write.LaterRead e) r own reason)))

        read-cause : (e : TimeParts) (k : NodeKind) (n : ℕ) → any_post p.script base.run base.acts ever k n (any_log p (record { kind = k; number = n })) (record { to = broker b; message = message.LaterRead (time_of t) e }) →
            Has (record { from = record { kind = k; number = n }; to = broker b; message = message.LaterRead (time_of t) e }) ever → EndCause p b below i (outcome.LaterRead o' e)
        read-cause e Repository r says h =
            read-by e r says.0 says.1 says.2 says.3 (post-answered base (fates_of p.trace.sent) p.front meets (record { from = repository r; to = broker b; message = message.LaterRead (time_of t) e }) h r refl)
        read-cause e Broker n says h = absurd says.holds

        version-cause : (x : TimeParts) (k : NodeKind) (n : ℕ) → any_post p.script base.run base.acts ever k n (any_log p (record { kind = k; number = n })) (record { to = broker b; message = message.LaterVersion (time_of t) x }) →
            Has (record { from = record { kind = k; number = n }; to = broker b; message = message.LaterVersion (time_of t) x }) ever → EndCause p b below i (outcome.LaterVersion o' x)
        version-cause x Repository r says h =
            let told : AnsweredThere p (time_of t) o' v (write.LaterVersion x) = taken (write.LaterVersion x) r says.3 (post-answered base (fates_of p.trace.sent) p.front meets (record { from = repository r; to = broker b; message = message.LaterVersion (time_of t) x }) h r refl) in
            (t, stands, (v, writes, (says.4, once-version (any_log p (repository o'.repository)) o' (time_of t) x v (moved (write.LaterVersion x) r says.0 says.1 (the-same r says.0 says.1 says.2 says.3) says.5), told)))
        version-cause x Broker n says h = absurd says.holds

      -- the same of a read
      module _ (t : Try) (o' : ObjectId) (low : nat_lt (at below).run base.run ≡ false) (stands : open_try (at below) ≡ Some t) (reads : IsReading p.script t o') where
        no-write : (r : ℕ) (w : ObjectId) (u : Value) → broker b ≡ broker t.stamp.broker → Has (record { from = broker t.stamp.broker; to = repository r; message = message.Write (time_of t) w u }) ever → ⊥
        no-write r w u own sent =
            let mine_sent = subst (λ z. Has (record { from = z; to = repository r; message = message.Write (time_of t) w u }) ever) (sym own) sent in
            let says = sent-holds (record { from = broker b; to = repository r; message = message.Write (time_of t) w u }) mine_sent in
            let same : Asks (ToRead o') ≡ Asks (ToWrite w u) = that-asks t (ToRead o') (ToWrite w u) low stands reads says.run_is says.holds.2 in cc

        same-read : (r : ℕ) (w : ObjectId) → broker b ≡ broker t.stamp.broker → Has (record { from = broker t.stamp.broker; to = repository r; message = message.Read (time_of t) w }) ever → o' ≡ w
        same-read r w own sent =
            let mine_sent = subst (λ z. Has (record { from = z; to = repository r; message = message.Read (time_of t) w }) ever) (sym own) sent in
            that-read t o' (repository r) w low stands reads (sent-holds (record { from = broker b; to = repository r; message = message.Read (time_of t) w }) mine_sent)

        refused-there : (e : TimeParts) (r : ℕ) → broker b ≡ broker t.stamp.broker → Reason base p.front r (time_of t) (write.LaterRead e) → RefusedThere p (time_of t) o' e
        refused-there e r own (inl (w, u, rep, a)) =
            absurd (no-write r w u own (subst (λ k. Has (record { from = broker t.stamp.broker; to = repository k; message = message.Write (time_of t) w u }) ever) rep (write-sent base p.front (time_of t) w u (write.LaterRead e) a)))
        refused-there e r own (inr (w, x, is, rep, a)) =
            let same : o' ≡ w = same-read r w own (subst (λ k. Has (record { from = broker t.stamp.broker; to = repository k; message = message.Read (time_of t) w }) ever) rep (read-sent base p.front (time_of t) w x a)) in
            let end : x ≡ e = cc (sym is) in
            subst (λ z. WasRefused base p.front (time_of t) z e) (sym same) (subst (λ z. WasRefused base p.front (time_of t) w z) end a)

        read-ended : (e : TimeParts) (r : ℕ) (w : ObjectId) → broker b ≡ broker t.stamp.broker → lt (time_of t) e ≡ true → repositories.WasReadLater ever r (any_log p (repository r)) w (time_of t) e →
            Reason base p.front r (time_of t) (write.LaterRead e) → EndCause p b below i (outcome.LaterRead o' e)
        read-ended e r w own less (inr q) reason = absurd (no-write r w q.0 own q.1.0)
        read-ended e r w own less (inl q) reason =
            let here : r ≡ o'.repository = sym q.0.1 ∙ ap (λ (z : ObjectId). z.repository) (sym (same-read r w own q.0.0)) in
            let marked : Has (effect.Mark e) (any_log p (repository o'.repository)) = subst (λ k. Has (effect.Mark e) (any_log p (repository k))) here (once-refused (any_log p (repository r)) w (time_of t) e q.1) in
            inr (t, stands, reads, (less, marked, refused-there e r own reason))

        reading-cause : (e : TimeParts) (k : NodeKind) (n : ℕ) → any_post p.script base.run base.acts ever k n (any_log p (record { kind = k; number = n })) (record { to = broker b; message = message.LaterRead (time_of t) e }) →
            Has (record { from = record { kind = k; number = n }; to = broker b; message = message.LaterRead (time_of t) e }) ever → EndCause p b below i (outcome.LaterRead o' e)
        reading-cause e Repository r says h =
            read-ended e r says.0 says.1 says.2 says.3 (post-answered base (fates_of p.trace.sent) p.front meets (record { from = repository r; to = broker b; message = message.LaterRead (time_of t) e }) h r refl)
        reading-cause e Broker n says h = absurd says.holds

      by-outcome : (u : Outcome) → Rests p.script b base.run acts ever below (effect.End i u) → EndCause p b below i u
      by-outcome outcome.Committed r = tt
      by-outcome (outcome.Expired d m) r = tt
      by-outcome (outcome.LaterRead w e) r =
          let t : Try = r.0.0 in
          let came : posts.HasCome b ever (message.LaterRead (time_of t) e) = subst (λ z. OfOpen z (λ x. posts.EndCame b ever x (outcome.LaterRead w e))) r.0.1 r.1 in
          let holds = sent-holds (record { from = came.0; to = broker b; message = message.LaterRead (time_of t) e }) came.1 in
          elim r.0.2.1 [
            | inl reads ↦ reading-cause t w r.2 r.0.1 reads e came.0.kind came.0.number holds came.1
            | inr writes ↦ read-cause t w writes.0 r.2 r.0.1 writes.1 e came.0.kind came.0.number holds came.1
          ]
      by-outcome (outcome.LaterVersion w x) r =
          let t : Try = r.0.0 in
          let came : posts.HasCome b ever (message.LaterVersion (time_of t) x) = subst (λ z. OfOpen z (λ y. posts.EndCame b ever y (outcome.LaterVersion w x))) r.0.1 r.1 in
          version-cause t w r.0.2.1.0 r.2 r.0.1 r.0.2.1.1 x came.0.kind came.0.number (sent-holds (record { from = came.0; to = broker b; message = message.LaterVersion (time_of t) x }) came.1) came.1
      by-outcome o r = r.0

      pub caused : EndCause p b below i o
      caused = by-outcome o rests
