-- How the life of a node goes on, and what the code keeps of it.
use Rattle.world_core.proofs.PlanRangeLemmas.{own-acts as broker-acts}
use Rattle.std.proofs.Common.{◌≡◌, ◌≤◌, ℕ, Bool, arith, ◌==◌, ◌++◌, List, [], ◌∷◌, take, drop, sym, ap, subst, ◌∙◌, append_assoc}
use Rattle.trace_logs.proofs.Names.{filter, append-nil, map-append, NodeId, NodeKind, Repository, Broker, Effect, Out, Post, posts, Tree, denote, block, script_text, ActSpec, AreEffects, AreBrokerActs, Scripted, opened_mind, Base, Life, all_effects, gated_life, ReplayedNode, StandsFor, own_acts, Lives, IsSound, take-append-drop, post, IsEffect, AreOuts, crashed_life, IsAble, kind_of, acts_for, every-left}
use Rattle.std.proofs.lemmas.List.Elements.{filter-append}
use Rattle.repository_core.proofs.HeldLemmas.{every-filter}

-- ---- ranges

pub log-kept : (n : ℕ) (xs ys : List Effect) → AreEffects (xs ++ ys) → AreEffects (xs ++ take n ys)
log-kept n xs ys h = every-left IsEffect (xs ++ take n ys) (drop n ys) (subst AreEffects (ap (λ z. xs ++ z) (sym (take-append-drop n ys)) ∙ sym (append_assoc xs (take n ys) (drop n ys))) h)

-- ---- gates and crashes

-- all effects are durable, and nothing else is open
pub gated-lives : (b : Base) (s t : ReplayedNode) (l : Life) → Lives b s l → t.node ≡ s.node → t.core ≡ s.core →
    t.gated.items ≡ s.gated.items ++ s.fresh.items → t.fresh.items ≡ [] → t.outs.items ≡ [] → Lives b t (gated_life l)
gated-lives b s t l h node core gated fresh outs = record {
  gated = gated ∙ (λ j. h.gated j ++ h.fresh j);
  fresh = fresh;
  outs = outs;
  core = subst (λ z. StandsFor b t.node z l.mind t.core) (sym (append-nil (all_effects l)))
      (subst (λ c. StandsFor b t.node (all_effects l) l.mind c) (sym core) (subst (λ n. StandsFor b n (all_effects l) l.mind s.core) (sym node) h.core));
}

-- it was opened anew over the effects that were found
pub crashed-lives : (b : Base) (s t : ReplayedNode) (l : Life) (kept : ℕ) → Lives b s l → t.node ≡ s.node →
    t.gated.items ≡ s.gated.items ++ take kept s.fresh.items → t.fresh.items ≡ [] → t.outs.items ≡ [] →
    StandsFor b s.node t.gated.items (opened_mind b.start) t.core → Lives b t (crashed_life b.start kept l)
crashed-lives b s t l kept h node gated fresh outs core =
    let e : t.gated.items ≡ l.gated ++ take kept l.fresh = gated ∙ (λ j. h.gated j ++ take kept (h.fresh j)) in
    record {
      gated = e;
      fresh = fresh;
      outs = outs;
      core = subst (λ n. StandsFor b n ((l.gated ++ take kept l.fresh) ++ []) (opened_mind b.start) t.core) (sym node)
          (subst (λ z. StandsFor b s.node z (opened_mind b.start) t.core) (e ∙ sym (append-nil (l.gated ++ take kept l.fresh))) core);
    }

pub crashed-sound : (s t : ReplayedNode) (kept : ℕ) → IsSound s → t.node ≡ s.node → kind_of t.core ≡ s.node.kind → IsAble t.core →
    t.gated.items ≡ s.gated.items ++ take kept s.fresh.items → t.fresh.items ≡ [] → t.outs.items ≡ [] → IsSound t
crashed-sound s t kept h node kind good gated fresh outs = record {
  low = subst (λ n. 1 ≤ n.number) (sym node) h.low;
  high = subst (λ n. n.number ≤ 16) (sym node) h.high;
  kind = kind ∙ ap (λ n. n.kind) (sym node);
  able = good;
  log = subst AreEffects (sym ((λ j. gated j ++ fresh j) ∙ append-nil (s.gated.items ++ take kept s.fresh.items))) (log-kept kept s.gated.items s.fresh.items h.log);
  outs = subst AreOuts (sym outs) tt;
}

-- ---- messages

-- what is sent of one message more
pub sent-more : (n : NodeId) (test : Out → Bool) (ys : List Out) (out : Out) (first old new : List Post) → old ≡ first ++ posts n (filter test ys) → new ≡ old ++ posts n (filter test (out ∷ [])) → new ≡ first ++ posts n (filter test (ys ++ out ∷ []))
sent-more n test ys out first old new h g =
    g ∙ ap (λ z. z ++ posts n (filter test (out ∷ []))) h ∙ append_assoc first (posts n (filter test ys)) (posts n (filter test (out ∷ [])))
    ∙ ap (λ z. first ++ z) (sym (map-append (post n) (filter test ys) (filter test (out ∷ []))) ∙ ap (posts n) (sym (filter-append test ys (out ∷ []))))

-- ---- a broker's own acts

pub own-acts : (k : NodeKind) (i : ℕ) (acts : List ActSpec) → AreBrokerActs acts → AreBrokerActs (acts_for k i acts)
own-acts Repository i acts h = record { each = tt; few = omega arith }
own-acts Broker i acts h = broker-acts i acts h

pub own-scripted : (script : List ℕ → Tree) (k : NodeKind) (i : ℕ) (acts : List ActSpec) → Scripted script acts → Scripted script (acts_for k i acts)
own-scripted script Repository i acts h = tt
own-scripted script Broker i acts h = every-filter (λ (a : ActSpec). script (script_text (block a.script.lines)) ≡ denote (block a.script.lines)) (λ (a : ActSpec). a.broker == i) acts h
