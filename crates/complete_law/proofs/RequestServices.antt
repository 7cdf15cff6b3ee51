-- A request that stands, when its repository takes it, is answered so that its broker heeds it, or it is a read that is held.
use Rattle.complete_law.proofs.Names.{Has, Decision, NodeId, RecordState, ObjectId, Value, Message, ToWrite, Tree, Hand, now, record_of, accepts, on_message, Heard, Ignored, Try, time_of, stop_of, Stage, Opening, Asking, Finishing, Closing, is_finished, repository, broker, PostHolds, ◌≡◌, ℕ, ◌==◌, true, List, refl, sym, ◌∙◌, ap, subst, Option, Some, None, if◌then◌else◌, eq-eqb, and_from}
use Rattle.pseudo_time.specs.declared.decisions.Decision.TheVariants as decision
use Rattle.commit_record.specs.declared.states.RecordState.TheVariants as state
use Rattle.message_form.specs.declared.messages.Message.TheVariants as message
use Rattle.repository_core.specs.Rows.{row}
use Rattle.broker_core.specs.Rows as rows
use Rattle.complete_law.proofs.Answering.{BeginAnswers, CloseAnswers, heeds-begun, heeds-close, heeds-commit, heeds-early, heeds-write, on-begin-answers, on-close-answers, on-write-answers}

-- the repository that a request goes to accepts it
pub accepted : (script : List ℕ → Tree) (i n : ℕ) (ts : List Try) (m : Message) → PostHolds script i ts (repository n) m → accepts n (broker i) m ≡ true
accepted script i n ts (message.Begin s d) h = and_from (i == s.broker) (s.home == n) (eq-eqb i s.broker (sym h.0)) (eq-eqb s.home n (sym (ap (λ (x : NodeId). x.number) h.1)))
accepted script i n ts (message.Commit s) h = and_from (i == s.broker) (s.home == n) (eq-eqb i s.broker (sym h.0)) (eq-eqb s.home n (sym (ap (λ (x : NodeId). x.number) h.1)))
accepted script i n ts (message.Withdraw s) h = and_from (i == s.broker) (s.home == n) (eq-eqb i s.broker (sym h.0)) (eq-eqb s.home n (sym (ap (λ (x : NodeId). x.number) h.1)))
accepted script i n ts (message.Read x o) h = and_from (i == x.stamp.broker) (o.repository == n) (eq-eqb i x.stamp.broker (sym h.0)) (eq-eqb o.repository n (sym (ap (λ (x : NodeId). x.number) h.1)))
accepted script i n ts (message.Write x o v) h = and_from (i == x.stamp.broker) (o.repository == n) (eq-eqb i x.stamp.broker (sym h.0)) (eq-eqb o.repository n (sym (ap (λ (x : NodeId). x.number) h.1)))
accepted script i n ts m h = absurd h

-- so it carries out its row
pub carried : (h : Hand) (from : NodeId) (m : Message) → accepts h.number from m ≡ true → on_message h from m ≡ row h from m
unfolding on_message
carried h from m e = ap (λ t. if t then row h from m else h) e

-- an answer to the request of broker i, which it heeds at this stage
abbrev pub AnsweredBy : (List ℕ → Tree) → Stage → Heard → ℕ → Hand → Type 0
AnsweredBy script st g i h = (m : Message) × Has (record { to = broker i; message = m }) h.outs × (rows.row script st g (rows.news m) ≡ Ignored → ⊥)

-- what decided an attempt that is open: its Commit, and its script is finished
abbrev pub OpenDecided : (List ℕ → Tree) → Try → Decision → Type 0
OpenDecided script t d = (d ≡ decision.Committed) × (is_finished (stop_of script t) ≡ true)

module _ (script : List ℕ → Tree) (g : Heard) (h : Hand) (i : ℕ) where
  begin-by : (t : Try) (timeout : ℕ) (u : Option RecordState) (m : Message) → ((d : Decision) → u ≡ Some (state.Decided d) → OpenDecided script t d) → BeginAnswers u t.stamp m → rows.row script (Opening t) g (rows.news m) ≡ Ignored → ⊥
  begin-by t timeout None m decided a q = heeds-begun script t g (subst (λ z. rows.row script (Opening t) g (rows.news z) ≡ Ignored) a q)
  begin-by t timeout (Some (state.Unknown x)) m decided a q = heeds-begun script t g (subst (λ z. rows.row script (Opening t) g (rows.news z) ≡ Ignored) a q)
  begin-by t timeout (Some (state.Decided d)) m decided a q =
      let k = decided d refl in
      heeds-early script t g k.1 (subst (λ z. rows.row script (Opening t) g (rows.news (message.Decided t.stamp z)) ≡ Ignored) k.0 (subst (λ z. rows.row script (Opening t) g (rows.news z) ≡ Ignored) a q))

  pub begin-served : (t : Try) (timeout : ℕ) → accepts h.number (broker i) (message.Begin t.stamp timeout) ≡ true → ((d : Decision) → record_of (now h) t.stamp ≡ Some (state.Decided d) → OpenDecided script t d) →
      AnsweredBy script (Opening t) g i (on_message h (broker i) (message.Begin t.stamp timeout))
  begin-served t timeout e decided =
      let k = on-begin-answers h (broker i) t.stamp timeout in
      subst (AnsweredBy script (Opening t) g i) (sym (carried h (broker i) (message.Begin t.stamp timeout) e)) (k.0, k.2, begin-by t timeout (record_of (now h) t.stamp) k.0 decided k.1)

  commit-by : (t : Try) (u : Option RecordState) (m : Message) → ((d : Decision) → u ≡ Some (state.Decided d) → OpenDecided script t d) → CloseAnswers u t.stamp decision.Committed m → rows.row script (Finishing t) g (rows.news m) ≡ Ignored → ⊥
  commit-by t None m decided a q = a
  commit-by t (Some (state.Unknown x)) m decided a q = heeds-commit script t g decision.Committed (λ e. absurd (cc e)) (subst (λ z. rows.row script (Finishing t) g (rows.news z) ≡ Ignored) a q)
  commit-by t (Some (state.Decided d)) m decided a q =
      heeds-commit script t g d (λ e. let z : decision.Committed ≡ decision.Withdrawn = sym (decided d refl).0 ∙ e in absurd (cc z)) (subst (λ z. rows.row script (Finishing t) g (rows.news z) ≡ Ignored) a q)

  pub commit-served : (t : Try) → accepts h.number (broker i) (message.Commit t.stamp) ≡ true → (record_of (now h) t.stamp ≡ None → ⊥) → ((d : Decision) → record_of (now h) t.stamp ≡ Some (state.Decided d) → OpenDecided script t d) →
      AnsweredBy script (Finishing t) g i (on_message h (broker i) (message.Commit t.stamp))
  commit-served t e some decided =
      let k = on-close-answers h (broker i) t.stamp decision.Committed some in
      subst (AnsweredBy script (Finishing t) g i) (sym (carried h (broker i) (message.Commit t.stamp) e)) (k.0, k.2, commit-by t (record_of (now h) t.stamp) k.0 decided k.1)

  withdraw-by : (t : Try) (u : Option RecordState) (m : Message) → CloseAnswers u t.stamp decision.Withdrawn m → rows.row script (Closing t) g (rows.news m) ≡ Ignored → ⊥
  withdraw-by t None m a q = a
  withdraw-by t (Some (state.Unknown x)) m a q = heeds-close script t g decision.Withdrawn (subst (λ z. rows.row script (Closing t) g (rows.news z) ≡ Ignored) a q)
  withdraw-by t (Some (state.Decided d)) m a q = heeds-close script t g d (subst (λ z. rows.row script (Closing t) g (rows.news z) ≡ Ignored) a q)

  pub withdraw-served : (t : Try) → accepts h.number (broker i) (message.Withdraw t.stamp) ≡ true → (record_of (now h) t.stamp ≡ None → ⊥) → AnsweredBy script (Closing t) g i (on_message h (broker i) (message.Withdraw t.stamp))
  withdraw-served t e some =
      let k = on-close-answers h (broker i) t.stamp decision.Withdrawn some in
      subst (AnsweredBy script (Closing t) g i) (sym (carried h (broker i) (message.Withdraw t.stamp) e)) (k.0, k.2, withdraw-by t (record_of (now h) t.stamp) k.0 k.1)

  pub write-served : (t : Try) (o : ObjectId) (v : Value) → accepts h.number (broker i) (message.Write (time_of t) o v) ≡ true →
      AnsweredBy script (Asking t (ToWrite o v)) g i (on_message h (broker i) (message.Write (time_of t) o v))
  write-served t o v e =
      let k = on-write-answers h (broker i) (time_of t) o v in
      subst (AnsweredBy script (Asking t (ToWrite o v)) g i) (sym (carried h (broker i) (message.Write (time_of t) o v) e)) (k.0, k.2, heeds-write script t o v g k.0 k.1)
