-- Runs and retirements, one after another; and the facts of a legal trace over the logs that they left.
use Rattle.world_facts.proofs.Names.{Has, same_node, TimeParts, NodeId, Effect, Post, same_is, Asked, Tree, Plan, MayRetire, forward, forwarded, Entry, Trace, sent_by, start_world, walk, Meets, Legal, base_of, fates_of, in_plan, AreCalls, Call, IsCall, OpenedWith, alike, log_left, logs_after, meets-front, AreEarlier, TickedBy, logs_left, older, replaced, sent_earlier, Running, Retiring, node_facts, node_turns, Left, OlderFacts, logs_at, past_sent, happened, opened_soft, Retire, ◌≡◌, ℕ, Bool, true, false, List, [], ◌∷◌, ◌++◌, map, reverse, if◌then◌else◌, refl, sym, ◌∙◌, ap, subst, inl, inr, reverse-reverse, AreRuns, ComeFrom, Earlier, TickedEarlier}
use Rattle.pseudo_time.specs.Nodes.{repository}
use Rattle.world_facts.proofs.NodeLaws.{node-laws, past-laws}
use Rattle.world_facts.proofs.Openings.{call-left, older-of, left-nothing, left-same, over-left}

module _ (script : List ℕ → Tree) where
  -- ---- a retirement between what was left before it and what it leaves

  retire-left : (r : ℕ) (at : TimeParts) (logs : NodeId → List Effect) (olds : NodeId → List (List Effect)) (old : List Post) (May : ℕ → Type 0) → MayRetire (reverse (logs (repository r))) at →
      Left (node_turns script) (node_facts script) logs olds old May →
      Left (node_turns script) (node_facts script) (λ n. if same_node (repository r) n then forward (logs n) at else logs n)
      (λ n. if same_node (repository r) n then logs n ∷ olds n else olds n) old May
  retire-left r at logs olds old May may l =
      record {
        events = Retire (repository r) (forwarded (reverse (logs (repository r))) at) ∷ l.events;
        may = (l.may, (at, subst (λ x. MayRetire x at) (sym (l.gated (repository r))) may, ap (λ x. forwarded x at) (sym (l.gated (repository r)))));
        gated = λ n. gated n (same_node (repository r) n) refl;
        fresh = λ n. fresh n (same_node (repository r) n);
        retired = λ n. olds-now n (same_node (repository r) n) refl;
        ever = l.ever;
        ticked = l.ticked;
      }
    where
      gated : (n : NodeId) (b : Bool) → same_node (repository r) n ≡ b → (if b then opened_soft (forwarded (reverse (logs (repository r))) at) 0 else (happened (node_turns script) l.events).node n).past ≡ reverse (if b then forward (logs n) at else logs n)
      gated n true e = ap (λ k. forwarded (reverse (logs k)) at) (same_is (repository r) n e) ∙ sym (reverse-reverse (forwarded (reverse (logs n)) at))
      gated n false e = l.gated n

      fresh : (n : NodeId) (b : Bool) → (if b then opened_soft (forwarded (reverse (logs (repository r))) at) 0 else (happened (node_turns script) l.events).node n).added ≡ []
      fresh n true = refl
      fresh n false = l.fresh n

      olds-now : (n : NodeId) (b : Bool) → same_node (repository r) n ≡ b →
          (if b then ((happened (node_turns script) l.events).node (repository r)).past ∷ (happened (node_turns script) l.events).olds (repository r) else (happened (node_turns script) l.events).olds n) ≡ map reverse (if b then logs n ∷ olds n else olds n)
      olds-now n true e = subst (λ k. ((happened (node_turns script) l.events).node (repository r)).past ∷ (happened (node_turns script) l.events).olds (repository r) ≡ reverse (logs k) ∷ map reverse (olds k)) (same_is (repository r) n e)
          (ap (λ x. x ∷ (happened (node_turns script) l.events).olds (repository r)) (l.gated (repository r)) ∙ ap (λ x. reverse (logs (repository r)) ∷ x) (l.retired (repository r)))
      olds-now n false e = l.retired n

  -- ---- all of them

  earlier-left : (cs : List Earlier) → AreEarlier (alike script) cs →
      Left (node_turns script) (node_facts script) (logs_left (alike script) cs) (replaced (alike script) cs) (sent_earlier (alike script) cs) (TickedEarlier cs)
  earlier-left [] h = left-nothing script (node_turns script) (node_facts script) (node-laws script) (past-laws script)
  earlier-left (Running c ∷ cs) h =
      call-left script (node_turns script) (node_facts script) (node-laws script) (past-laws script) c (logs_left (alike script) cs) (replaced (alike script) cs) (sent_earlier (alike script) cs)
      (TickedEarlier cs) (TickedEarlier (Running c ∷ cs)) (λ t k. inr k) (λ t k. inl k) h.1 (earlier-left cs h.0)
  earlier-left (Retiring r at ∷ cs) h = retire-left r at (logs_left (alike script) cs) (replaced (alike script) cs) (sent_earlier (alike script) cs) (TickedEarlier cs) h.1 (earlier-left cs h.0)

  -- the facts of a legal trace over what they left
  pub older-facts : (plan : Plan) (asked : List Asked) (t : Trace) (logs : NodeId → List Effect) (front rest : List Entry) → (past : ComeFrom (alike script) logs) → OpenedWith t.opened logs →
      Legal script plan asked t → t.entries ≡ front ++ rest →
      OlderFacts (node_facts script) (base_of script plan t) (logs_at logs (walk (base_of script plan t) front)) (replaced (alike script) past.0) (sent_earlier (alike script) past.0)
      (sent_by (walk (base_of script plan t) front)) (TickedBy past.0 front)
  older-facts plan asked t logs front rest past agrees legal here =
      older-of script (node_turns script) (node_facts script) (node-laws script) (base_of script plan t) logs (replaced (alike script) past.0) (sent_earlier (alike script) past.0) (TickedBy past.0 front)
      (walk (base_of script plan t) front)
      (over-left script (node_turns script) (node_facts script) (node-laws script) (past-laws script) (base_of script plan t) (fates_of t.sent) logs (replaced (alike script) past.0)
      (sent_earlier (alike script) past.0) (TickedEarlier past.0) (TickedBy past.0 front) front refl (λ m k. inr k) (λ m k. inl k)
      (left-same script (node_turns script) (node_facts script) (node-laws script) (logs_left (alike script) past.0) logs (replaced (alike script) past.0) (sent_earlier (alike script) past.0) (TickedEarlier past.0)
      past.2 (earlier-left past.0 past.1)) agrees legal.ready
      (meets-front (base_of script plan t) (fates_of t.sent) (start_world (base_of script plan t)) front rest
      (subst (Meets (base_of script plan t) (fates_of t.sent) (start_world (base_of script plan t))) here legal.meets)))

-- ---- older logs

-- a log that a retirement replaced is an older log
pub replaced-older : (read : Plan → List ℕ → Tree) (cs : List Earlier) (n : NodeId) (log : List Effect) → Has log (replaced read cs n) → Has log (older read cs n)
replaced-older read [] n log h = absurd h
replaced-older read (Running c ∷ cs) n log h = inr (replaced-older read cs n log h)
replaced-older read (Retiring r at ∷ cs) n log h = inr (go (λ k. replaced-older read cs n log k) (same_node (repository r) n) h)
  where
    go : (Has log (replaced read cs n) → Has log (older read cs n)) → (b : Bool) → Has log (if b then logs_left read cs n ∷ replaced read cs n else replaced read cs n) → Has log (older read cs n)
    go rest true (inl e) = (elim cs as (λ cs. logs_left read cs n ≡ log → Has log (older read cs n)) [ [] ↦ λ e. inl e | c ∷ cs ↦ λ e. inl e ]) e
    go rest true (inr k) = rest k
    go rest false k = rest k

-- ---- runs alone

-- runs alone replace no log
pub runs-keep : (read : Plan → List ℕ → Tree) (cs : List Earlier) → AreRuns cs → (n : NodeId) → replaced read cs n ≡ []
runs-keep read [] h n = refl
runs-keep read (Running c ∷ cs) h n = runs-keep read cs h n
runs-keep read (Retiring r at ∷ cs) h n = absurd h

-- and leave what they left
pub runs-alone : (cs : List Call) → AreRuns (map Running cs)
runs-alone [] = tt
runs-alone (c ∷ cs) = runs-alone cs

pub runs-leave : (read : Plan → List ℕ → Tree) (cs : List Call) → logs_left read (map Running cs) ≡ logs_after read cs
runs-leave read [] = refl
runs-leave read (c ∷ cs) = λ i n. if in_plan c.plan n then log_left read c n else runs-leave read cs i n

pub runs-sent : (read : Plan → List ℕ → Tree) (cs : List Call) → sent_earlier read (map Running cs) ≡ past_sent read cs
runs-sent read [] = refl
runs-sent read (c ∷ cs) = ap (λ ps. ps ++ sent_by (walk (base_of (read c.plan) c.plan c.trace) c.trace.entries)) (runs-sent read cs)

pub runs-are : (read : Plan → List ℕ → Tree) (cs : List Call) → AreCalls read cs → AreEarlier read (map Running cs)
runs-are read [] h = tt
runs-are read (c ∷ cs) h = (runs-are read cs h.0, subst (λ (logs : NodeId → List Effect). IsCall read logs c) (sym (runs-leave read cs)) h.1)
