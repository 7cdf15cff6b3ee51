-- With any beginning of what a turn adds a node's log is ready, and a broker asks nobody.
use Rattle.std.proofs.lemmas.List.{append-nil, length-append, take-append-drop, take-append-le, take_all, length-take-le, length-reverse, reverse-append, reverse-reverse}
use Rattle.std.proofs.Math.Seq.{take-append_seam, take-append-add}
use Rattle.node_inputs.proofs.Names.{every-append, NodeId, NodeKind, Repository, Broker, is_broker, ActSpec, Effect, Out, Tree, Mind, Input, gives, kind_gives, Learning, Base, Life, all_effects, after_input, IsReady, given_for, StaysReady, AskNobody, ◌≡◌, ℕ, zero, suc, ◌+◌, ◌-◌, ◌≤◌, true, List, [], ◌++◌, length, take, drop, reverse, Option, None, Some, is_none, refl, sym, ap, subst, ◌∙◌, arith, ⊎_elim, append_assoc, ◌<◌, cases_lt, is_ready, kind_ready, broker_ready, acts_of, Going, Taking, Hearing}
use Rattle.broker_core.specs.Fits.{resume_fault}
use Rattle.broker_core.specs.Tasks.{tasks}
use Rattle.broker_core.specs.Turns as desks
use Rattle.broker_laws.specs.Fits as brokers
use Rattle.broker_laws.specs.Works.{AlwaysReady, AsksNobody}
use Rattle.broker_laws.proofs.AnyLog.{turn-always}
use Rattle.broker_laws.proofs.Nobody.{turn-nobody}
use Rattle.broker_laws.proofs.ReadyLemmas.{no-fault, fault-none}
use Rattle.broker_laws.proofs.TurnLemmas.{turn-added}

-- ---- lists

-- the first of a list that was turned round are its last, turned round
pub take-reverse : {A : Type 0} (k : ℕ) (xs : List A) → (n : ℕ) × (take k (reverse xs) ≡ reverse (drop n xs))
take-reverse {A} k xs = ⊎_elim (λ lt. (0, take_all k (reverse xs) (let l = length-reverse xs in omega (arith, l, lt)))) some (cases_lt (length xs) k)
  where
    some : k ≤ length xs → (n : ℕ) × (take k (reverse xs) ≡ reverse (drop n xs))
    some le =
        let m : ℕ = length xs - k in
        let cut : reverse xs ≡ reverse (drop m xs) ++ reverse (take m xs) = ap reverse (sym (take-append-drop m xs)) ∙ reverse-append (take m xs) (drop m xs) in
        let t : length (take m xs) ≡ m = length-take-le m xs (omega (arith, le)) in
        let w : length (take m xs ++ drop m xs) ≡ length (take m xs) + length (drop m xs) = length-append (take m xs) (drop m xs) in
        let x : length (take m xs ++ drop m xs) ≡ length xs = ap length (take-append-drop m xs) in
        let l : length (reverse (drop m xs)) ≡ length (drop m xs) = length-reverse (drop m xs) in
        let e : length (reverse (drop m xs)) ≡ k = omega (arith, le, t, w, x, l) in
        (m, ap (take k) cut ∙ (subst (λ j. take j (reverse (drop m xs) ++ reverse (take m xs)) ≡ reverse (drop m xs)) e (take-append_seam (reverse (drop m xs)) (reverse (take m xs)))))

drop-none : (n : ℕ) → ◌≡◌ {A = List Effect} (drop n []) []
drop-none zero = refl
drop-none (suc n) = refl

-- ---- brokers

none-is : {A : Type 0} (o : Option A) → is_none o ≡ true → o ≡ None
none-is None h = refl
none-is (Some x) h = absurd (cc h)

module _ (script : List ℕ → Tree) (run : ℕ) (acts : List ActSpec) (i : ℕ) where
  is-ready : (log : List Effect) → broker_ready script run acts i log ≡ true → brokers.IsReady script i run (tasks (acts_of i acts)) (reverse log)
  is-ready log h = no-fault script i run (tasks (acts_of i acts)) (reverse log) (none-is (resume_fault script i run (tasks (acts_of i acts)) (reverse log)) h)

  so-ready : (log : List Effect) → brokers.IsReady script i run (tasks (acts_of i acts)) (reverse log) → broker_ready script run acts i log ≡ true
  so-ready log r = ap is_none (fault-none script i run (tasks (acts_of i acts)) (reverse log) r)

  abbrev desk-of : List Effect → Mind → desks.Input → desks.Desk
  desk-of log mind input = desks.desk_turn script i run (tasks (acts_of i acts)) (desks.desk_at (reverse log) mind.heard) input

  -- with any beginning of what a turn of a broker adds
  ready-desk : (log : List Effect) (mind : Mind) (input : desks.Input) (kept : ℕ) → broker_ready script run acts i log ≡ true → broker_ready script run acts i (log ++ take kept (reverse (desk-of log mind input).added)) ≡ true
  ready-desk log mind input kept h =
      let d : desks.Desk = desk-of log mind input in
      let always : AlwaysReady script i run (tasks (acts_of i acts)) d = turn-always script i run (tasks (acts_of i acts)) (desks.desk_at (reverse log) mind.heard) input
      (λ n. subst (λ l. brokers.IsReady script i run (tasks (acts_of i acts)) (l ++ reverse log)) (sym (drop-none n)) (is-ready log h)) in
      let base : d.past ≡ reverse log = (turn-added script i run (tasks (acts_of i acts)) (desks.desk_at (reverse log) mind.heard) input).past in
      let t : (n : ℕ) × (take kept (reverse d.added) ≡ reverse (drop n d.added)) = take-reverse kept d.added in
      let e : reverse (log ++ take kept (reverse d.added)) ≡ drop t.0 d.added ++ d.past =
      reverse-append log (take kept (reverse d.added)) ∙ (ap (λ l. reverse l ++ reverse log) t.1 ∙ (ap (λ l. l ++ reverse log) (reverse-reverse (drop t.0 d.added)) ∙ ap (λ l. drop t.0 d.added ++ l) (sym base))) in
      so-ready (log ++ take kept (reverse d.added)) (subst (brokers.IsReady script i run (tasks (acts_of i acts))) (sym e) (always t.0))

  ready-none : (log : List Effect) (kept : ℕ) → broker_ready script run acts i log ≡ true → broker_ready script run acts i (log ++ take kept []) ≡ true
  ready-none log kept h = subst (λ l. broker_ready script run acts i (log ++ l) ≡ true) (sym (none kept)) (subst (λ l. broker_ready script run acts i l ≡ true) (sym (append-nil log)) h)
    where
      none : (kept : ℕ) → ◌≡◌ {A = List Effect} (take kept []) []
      none kept = take_all kept [] (omega arith)

-- ---- nodes

kind-ready : (script : List ℕ → Tree) (run : ℕ) (acts : List ActSpec) (k : NodeKind) (i : ℕ) (log : List Effect) (mind : Mind) (input : Input) (kept : ℕ)
    → kind_ready script run acts k i log ≡ true → kind_ready script run acts k i (log ++ take kept (kind_gives script run acts k i log mind input).effects) ≡ true
kind-ready script run acts Repository i log mind input kept h = refl
kind-ready script run acts Broker i log mind Going kept h = ready-desk script run acts i log mind desks.Go kept h
kind-ready script run acts Broker i log mind (Taking from m) kept h = ready-desk script run acts i log mind (desks.Take from m) kept h
kind-ready script run acts Broker i log mind (Learning s c) kept h = ready-none script run acts i log kept h
kind-ready script run acts Broker i log mind (Hearing t) kept h = ready-desk script run acts i log mind (desks.Hear t) kept h

ready-gives : (b : Base) (n : NodeId) (log : List Effect) (mind : Mind) (input : Input) (kept : ℕ) → IsReady b n log → IsReady b n (log ++ take kept (gives b.script b.run b.acts n log mind input).effects)
unfolding gives is_ready
ready-gives b n log mind input kept h = kind-ready b.script b.run b.acts n.kind n.number log mind input kept h

-- over any new effects that were there before
pub ready-told : (b : Base) (n : NodeId) (l : Life) (input : Input) → StaysReady b n l → StaysReady b n (after_input b n l input)
ready-told b n l input r kept = ⊎_elim few many (cases_lt kept (length l.fresh))
  where
    new : List Effect
    new = (given_for b n l input).effects

    few : kept < length l.fresh → IsReady b n (l.gated ++ take kept (l.fresh ++ new))
    few lt = subst (λ es. IsReady b n (l.gated ++ es)) (sym (take-append-le kept l.fresh new (omega (arith, lt)))) (r kept)

    many : length l.fresh ≤ kept → IsReady b n (l.gated ++ take kept (l.fresh ++ new))
    many le =
        let m : ℕ = kept - length l.fresh in
        let k : length l.fresh + m ≡ kept = omega (arith, le) in
        let t : take kept (l.fresh ++ new) ≡ l.fresh ++ take m new = subst (λ j. take j (l.fresh ++ new) ≡ l.fresh ++ take m new) k (take-append-add l.fresh new m) in
        let all : IsReady b n (all_effects l) = subst (λ es. IsReady b n (l.gated ++ es)) (take_all (length l.fresh) l.fresh (omega arith)) (r (length l.fresh)) in
        let next : IsReady b n (all_effects l ++ take m new) = ready-gives b n (all_effects l) l.mind input m all in
        subst (IsReady b n) (append_assoc l.gated l.fresh (take m new) ∙ ap (λ es. l.gated ++ es) (sym t)) next

pub ready-whole : (b : Base) (n : NodeId) (l : Life) → StaysReady b n l → IsReady b n (all_effects l)
ready-whole b n l r = subst (λ es. IsReady b n (l.gated ++ es)) (take_all (length l.fresh) l.fresh (omega arith)) (r (length l.fresh))

-- a log that is durable, and nothing new
pub ready-durable : (b : Base) (n : NodeId) (l : Life) → l.fresh ≡ [] → IsReady b n l.gated → StaysReady b n l
ready-durable b n l e r kept =
    subst (λ es. IsReady b n (l.gated ++ take kept es)) (sym e) (subst (λ es. IsReady b n (l.gated ++ es)) (sym (take_all kept [] (omega arith))) (subst (IsReady b n) (sym (append-nil l.gated)) r))

-- ---- messages

kind-asks : (script : List ℕ → Tree) (run : ℕ) (acts : List ActSpec) (k : NodeKind) (i : ℕ) (log : List Effect) (mind : Mind) (input : Input)
    → is_broker k ≡ true → AskNobody (kind_gives script run acts k i log mind input).outs
kind-asks script run acts Repository i log mind input h = absurd (cc h)
kind-asks script run acts Broker i log mind Going h = turn-nobody script i run (tasks (acts_of i acts)) (desks.desk_at (reverse log) mind.heard) desks.Go tt
kind-asks script run acts Broker i log mind (Taking from m) h = turn-nobody script i run (tasks (acts_of i acts)) (desks.desk_at (reverse log) mind.heard) (desks.Take from m) tt
kind-asks script run acts Broker i log mind (Learning s c) h = tt
kind-asks script run acts Broker i log mind (Hearing t) h = turn-nobody script i run (tasks (acts_of i acts)) (desks.desk_at (reverse log) mind.heard) (desks.Hear t) tt

asks-gives : (b : Base) (n : NodeId) (log : List Effect) (mind : Mind) (input : Input) → is_broker n.kind ≡ true → AskNobody (gives b.script b.run b.acts n log mind input).outs
unfolding gives
asks-gives b n log mind input h = kind-asks b.script b.run b.acts n.kind n.number log mind input h

pub asks-told : (b : Base) (n : NodeId) (l : Life) (input : Input) → (is_broker n.kind ≡ true → AskNobody l.outs) → is_broker n.kind ≡ true → AskNobody (after_input b n l input).outs
asks-told b n l input before h = every-append (λ (out : Out). AsksNobody out.message) l.outs (given_for b n l input).outs (before h) (asks-gives b n (all_effects l) l.mind input h)
