-- What a message that comes to a broker tells is so: no Ended comes for a request that stands.
use Rattle.complete_law.proofs.Names.{Has, every-has, StampParts, TimeParts, same_time, same_stamp-self, Decision, NodeId, NodeKind, Effect, Message, Grew, Request, Asks, Over, known, WasSent, Book, Try, book, find, open_try, time_of, tries, is_none, stop_of, news, repository, broker, Task, IsTidy, FitsLog, open-first, each-found, clocks, grown, post-grown, Clocks, IsBelow, Base, Life, World, sent_by, LogFacts, logs_at, kind_post, node_facts, SentOk, Tells, each-has, ◌≡◌, ℕ, Bool, true, false, List, [], ◌∷◌, ◌++◌, reverse, refl, sym, ◌∙◌, ap, subst, Some, None, if◌then◌else◌, inl, inr, true≢false, same_time-is, begin-home, decide-home, decide-cause, SettledBy, settle-marks}
use Rattle.pseudo_time.specs.declared.decisions.Decision.TheVariants as decision
use Rattle.pseudo_time.specs.declared.nodes.NodeKind.TheVariants as kind
use Rattle.value_form.specs.declared.endings.Ending.TheVariants as ending
use Rattle.effect_form.specs.declared.effects.Effect.TheVariants as effect
use Rattle.message_form.specs.declared.messages.Message.TheVariants as message
use Rattle.repository_laws.specs.Facts as repositories
use Rattle.complete_law.proofs.Places.{log_of, gated_of, IsBegun, IsDecided, SaidOf, CalmWorld}

found-same : (s : StampParts) (ts : List Try) (t u : Try) → find s ts ≡ Some t → find s ts ≡ Some u → t ≡ u
found-same s ts t u h k = let e : Some t ≡ Some u = sym h ∙ k in cc e

module _ (b : Base) (w : World) (calm : CalmWorld b w) (facts : LogFacts (node_facts b.script) b (logs_at (λ n. []) w) [] (sent_by w) (λ t. ⊥)) where
  abbrev pub L : NodeId → List Effect
  L n = reverse (logs_at (λ n. []) w n)

  pub gated-same : (n : NodeId) → gated_of w n ≡ L n
  gated-same n = (elim (w.flags n).known as (λ c. (w.flags n).known ≡ c → gated_of w n ≡ reverse (if c then (w.life n).gated else [])) [ true ↦ λ e. refl | false ↦ λ e. ap (λ (l : Life). reverse l.gated) (calm.outside n e) ]) refl

  pub says : (from to : NodeId) (m : Message) → Has (record { from = from; to = to; message = m }) (sent_by w) → kind_post b.script (sent_by w) from.kind from.number (L from) (record { to = to; message = m })
  says from to m h = every-has (SentOk (node_facts b.script) (sent_by w) L) (sent_by w) (record { from = from; to = to; message = m }) facts.sent_ok h

  begun-there : (s : StampParts) (i : ℕ) → repositories.HasBegun s (L (repository i)) → IsBegun w s
  begun-there s i h =
      let at : s.home ≡ i = begin-home i (L (repository i)) s h.0 (facts.tidy (repository i)) h.1 in
      (h.0, subst (Has (effect.Begin s h.0)) (sym (gated-same (repository s.home))) (subst (λ z. Has (effect.Begin s h.0) (L (repository z))) (sym at) h.1))

  decided-there : (s : StampParts) (d : Decision) (i : ℕ) → Has (effect.Decide s d) (L (repository i)) → IsDecided w s × IsBegun w s
  decided-there s d i h =
      let at : s.home ≡ i = decide-home i (L (repository i)) s d (facts.tidy (repository i)) h in
      let cause = decide-cause i (L (repository i)) s d (facts.tidy (repository i)) h in
      ((d, subst (Has (effect.Decide s d)) (sym (gated-same (repository s.home))) (subst (λ z. Has (effect.Decide s d) (L (repository z))) (sym at) h)), begun-there s i (cause.0, cause.1))

  -- an attempt that stands at a request isn't decided
  module _ (n : ℕ) (tidy : IsTidy b.script n (L (broker n))) (fresh : List Effect) (log-is : log_of w (broker n) ≡ fresh ++ L (broker n)) (grew : Grew (FitsLog b.script n) (L (broker n)) fresh) where
    -- what closed an open attempt is its Commit, and its script is finished
    pub open-closed : (t : Try) → find t.stamp (tries (book (log_of w (broker n)))) ≡ Some t → t.end ≡ None → t.stamp.broker ≡ n → (ticks : List ℕ) → ((m : ℕ) → Has m ticks → ⊥) → (d : Decision) (i : ℕ) →
        repositories.WasClosed (sent_by w) ticks i t.stamp d → (d ≡ decision.Committed) × (stop_of b.script t ≡ Over ending.Finished)
    open-closed t found none own ticks never decision.Committed i sent =
        let mine = subst (λ m. WasSent (sent_by w) (broker m) (repository i) (message.Commit t.stamp)) own sent in
        let k = post-grown b.script n (L (broker n)) fresh (repository i) (message.Commit t.stamp) tidy grew (says (broker n) (repository i) (message.Commit t.stamp) mine) in
        let found' : find t.stamp (tries (book (fresh ++ L (broker n)))) ≡ Some t = subst (λ l. find t.stamp (tries (book l)) ≡ Some t) log-is found in
        (refl, subst (λ (u : Try). stop_of b.script u ≡ Over ending.Finished) (found-same t.stamp (tries (book (fresh ++ L (broker n)))) k.2.0 t k.2.1 found') k.2.3)
    open-closed t found none own ticks never decision.Withdrawn i sent =
        let mine = subst (λ m. WasSent (sent_by w) (broker m) (repository i) (message.Withdraw t.stamp)) own sent in
        let k : SaidOf b w n (message.Withdraw t.stamp) = calm.said n (record { to = repository i; message = message.Withdraw t.stamp }) (inr mine) in
        let ended : is_none t.end ≡ false = subst (λ (u : Try). is_none u.end ≡ false) (found-same t.stamp (tries (book (log_of w (broker n)))) k.1.0 t k.1.1 found) k.1.2 in
        absurd (true≢false (sym (ap is_none none) ∙ ended))
    open-closed t found none own ticks never (decision.Expired x m) i h = absurd (never m h)

    pub asking-undecided : (t : Try) (q : Request) → find t.stamp (tries (book (log_of w (broker n)))) ≡ Some t → t.end ≡ None → stop_of b.script t ≡ Asks q → t.stamp.broker ≡ n →
        (d : Decision) (i : ℕ) → Has (effect.Decide t.stamp d) (L (repository i)) → ⊥
    asking-undecided t q found none asks own decision.Committed i h =
        let sent = (each-has _ (L (repository i)) (effect.Decide t.stamp decision.Committed) (facts.proofs (repository i)) h).1 in
        let mine = subst (λ m. WasSent (sent_by w) (broker m) (repository i) (message.Commit t.stamp)) own sent in
        let k = post-grown b.script n (L (broker n)) fresh (repository i) (message.Commit t.stamp) tidy grew (says (broker n) (repository i) (message.Commit t.stamp) mine) in
        let found' : find t.stamp (tries (book (fresh ++ L (broker n)))) ≡ Some t = subst (λ l. find t.stamp (tries (book l)) ≡ Some t) log-is found in
        let no : Over ending.Finished ≡ Asks q = sym (subst (λ (u : Try). stop_of b.script u ≡ Over ending.Finished) (found-same t.stamp (tries (book (fresh ++ L (broker n)))) k.2.0 t k.2.1 found') k.2.3) ∙ asks in
        absurd (cc no)
    asking-undecided t q found none asks own decision.Withdrawn i h =
        let sent = (each-has _ (L (repository i)) (effect.Decide t.stamp decision.Withdrawn) (facts.proofs (repository i)) h).1 in
        let mine = subst (λ m. WasSent (sent_by w) (broker m) (repository i) (message.Withdraw t.stamp)) own sent in
        let k : SaidOf b w n (message.Withdraw t.stamp) = calm.said n (record { to = repository i; message = message.Withdraw t.stamp }) (inr mine) in
        let ended : is_none t.end ≡ false = subst (λ (u : Try). is_none u.end ≡ false) (found-same t.stamp (tries (book (log_of w (broker n)))) k.1.0 t k.1.1 found) k.1.2 in
        absurd (true≢false (sym (ap is_none none) ∙ ended))
    asking-undecided t q found none asks own (decision.Expired x m) i h = facts.ticked m (each-has _ (L (repository i)) (effect.Decide t.stamp (decision.Expired x m)) (facts.proofs (repository i)) h).1

    asking-unknown : (t : Try) (q : Request) → find t.stamp (tries (book (log_of w (broker n)))) ≡ Some t → t.end ≡ None → stop_of b.script t ≡ Asks q → t.stamp.broker ≡ n →
        (i : ℕ) (c : Bool) → known (L (repository i)) t.stamp ≡ Some c → ⊥
    asking-unknown t q found none asks own i c k = go (settle-marks (L (repository i)) t.stamp c k)
      where
        go : SettledBy (L (repository i)) t.stamp c → ⊥
        go (inl (d, h, e)) = asking-undecided t q found none asks own d i h
        go (inr h) =
            let cause = (each-has _ (L (repository i)) (effect.Learn t.stamp c) (facts.proofs (repository i)) h).1 in
            asking-undecided t q found none asks own cause.0 t.stamp.home cause.1

    -- what a message that was sent to the broker tells is so
    pub tells-so : (acts : List Task) (k : Book) → k ≡ book (log_of w (broker n)) → (from : NodeId) (m : Message) → Has (record { from = from; to = broker n; message = m }) (sent_by w) →
        Tells b.script n b.run acts (IsBegun w) (IsDecided w) k (news m)
    tells-so acts k is from m h = go from.kind from.number m (says from (broker n) m h)
      where
        ended : (i : ℕ) (x : TimeParts) (c : Bool) → known (L (repository i)) x.stamp ≡ Some c → (t : Try) (q : Request) → open_try k ≡ Some t → stop_of b.script t ≡ Asks q → same_time (time_of t) x ≡ true → ⊥
        ended i x c e t q open' asks same =
            let first = open-first b.script n b.run acts k t open' in
            let all : tries (book (log_of w (broker n))) ≡ t ∷ first.0 = ap tries (sym is) ∙ first.1 in
            let found : find t.stamp (tries (book (log_of w (broker n)))) ≡ Some t = subst (λ ts. find t.stamp ts ≡ Some t) (sym all) (rw (same_stamp-self t.stamp) refl) in
            let clock : Clocks n (book (fresh ++ L (broker n))) = clocks b.script n (fresh ++ L (broker n)) (grown b.script n (L (broker n)) fresh tidy grew) in
            let own : t.stamp.broker ≡ n = (each-found (IsBelow n (book (fresh ++ L (broker n))).clock) t.stamp (tries (book (fresh ++ L (broker n)))) t (subst (λ l. find t.stamp (tries (book l)) ≡ Some t) log-is found) clock).0.1 in
            let stamp-is : x.stamp ≡ t.stamp = ap (λ (z : TimeParts). z.stamp) (sym (same_time-is (time_of t) x same)) in
            asking-unknown t q found first.2 asks own i c (subst (λ z. known (L (repository i)) z ≡ Some c) stamp-is e)

        go : (kd : NodeKind) (i : ℕ) (m : Message) → kind_post b.script (sent_by w) kd i (L (record { kind = kd; number = i })) (record { to = broker n; message = m }) → Tells b.script n b.run acts (IsBegun w) (IsDecided w) k (news m)
        go kind.Repository i (message.Begun s) p = begun-there s i p
        go kind.Repository i (message.Decided s d) p = decided-there s d i p
        go kind.Repository i (message.Ended x) p = ended i x p.0 p.1
        go kind.Broker i (message.Begun s) p = absurd p
        go kind.Broker i (message.Decided s d) p = absurd p
        go kind.Broker i (message.Ended x) p = absurd p
        go kind.Repository i m p = tt
        go kind.Broker i m p = tt
