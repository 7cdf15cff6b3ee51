-- The turns of cores are those of the rules, whatever histories a repository keeps.
use Rattle.std.specs.declared.alloc.AllocError.{AllocError}
use Rattle.world_core.proofs.Names.{NodeId, Repository, Broker, ActSpec, Effect, Tree, Scripted, tasks, Mind, Input, gives, kind_gives, broker_gives, with_desk, nothing_given, Base, ◌≡◌, ℕ, ◌++◌, List, [], reverse, sym, ap, subst, ◌∙◌, Result, Ok, Err, IfOk, OnOk, append-nil, repository_gives, with_hands, desk_after}
use Rattle.message_form.specs.declared.turns.Turn.{Turn}
use Rattle.object_history.specs.declared.steps.HistoryFault.{HistoryFault}
use Rattle.repository_core.specs.Cores.{Core, given}
use Rattle.repository_core.specs.Turns as turns
use Rattle.broker_core.specs.Brokers.{Gives, turn_of}
use Rattle.broker_core.specs.Parts.{BrokerParts}
use Rattle.broker_core.specs.Turns as desks
use Rattle.world_core.specs.Cores.{IsRepository, IsBroker, RepositoryGave, BrokerGave}

-- ---- which rules are a node's

pub gives-repository : (script : List ℕ → Tree) (run : ℕ) (acts : List ActSpec) (n : NodeId) (log : List Effect) (mind : Mind) (i : Input) → n.kind ≡ Repository →
    gives script run acts n log mind i ≡ repository_gives n.number log mind i
unfolding gives
gives-repository script run acts n log mind i h = ap (λ k. kind_gives script run acts k n.number log mind i) h

pub gives-broker : (script : List ℕ → Tree) (run : ℕ) (acts : List ActSpec) (n : NodeId) (log : List Effect) (mind : Mind) (i : Input) → n.kind ≡ Broker →
    gives script run acts n log mind i ≡ broker_gives script run acts n.number log mind i
unfolding gives
gives-broker script run acts n log mind i h = ap (λ k. kind_gives script run acts k n.number log mind i) h

module _ (n : NodeId) (log : List Effect) (mind : Mind) where
  repository-quiet : {H : Type 0} (t : Turn) (r : Core H) → t.effects ≡ [] → t.outs ≡ [] → IsRepository n log mind r → RepositoryGave n log (nothing_given mind) t r
  repository-quiet t r e o s = record { effects = e; outs = o; stands = subst (λ l. IsRepository n l mind r) (sym (append-nil log)) s }

  pub repository-gave : {H : Type 0} (r q : Core H) (t : Turn) (i : turns.Input) → IsRepository n log mind r → given t q.mind ≡ turns.gives r.number r.log r.mind i → q.log ≡ r.log ++ t.effects → q.number ≡ r.number →
      RepositoryGave n log (with_hands mind (turns.gives n.number log mind.hands i)) t q
  repository-gave r q t i s g l m =
      let e : given t q.mind ≡ turns.gives n.number log mind.hands i = g ∙ (λ j. turns.gives (s.number j) (s.log j) (s.mind j) i) in
      record {
        effects = ap (λ x. x.effects) e;
        outs = ap (λ x. x.outs) e;
        stands = record {
          kind = s.kind;
          number = m ∙ s.number;
          log = l ∙ (λ j. s.log j ++ (e j).effects);
          mind = ap (λ x. x.mind) e;
        };
      }

module _ (b : Base) (n : NodeId) (log : List Effect) (mind : Mind) where
  broker-quiet : (t : Turn) (p : BrokerParts) → t.effects ≡ [] → t.outs ≡ [] → IsBroker b n log mind p → BrokerGave b n log (nothing_given mind) t p
  broker-quiet t p e o s = record { effects = e; outs = o; stands = subst (λ l. IsBroker b n l mind p) (sym (append-nil log)) s }

  pub broker-gave : (p q : BrokerParts) (t : Turn) (i : desks.Input) → IsBroker b n log mind p → Gives (turn_of b.script p i) t p q → BrokerGave b n log (with_desk mind (desk_after b.script b.run b.acts n.number log mind i)) t q
  broker-gave p q t i s g =
      let e : turn_of b.script p i ≡ desk_after b.script b.run b.acts n.number log mind i =
      λ j. desks.desk_turn b.script (s.number j) (s.run j) (tasks (s.acts j)) (desks.desk_at (reverse (s.log j)) (s.heard j)) i in
      let f : t.effects ≡ reverse (desk_after b.script b.run b.acts n.number log mind i).added = g.effects ∙ ap (λ d. reverse d.added) e in
      let acts : q.acts ≡ p.acts = ap (λ (x : BrokerParts). x.acts) g.broker in
      record {
        effects = f;
        outs = g.outs ∙ ap (λ d. d.outs) e;
        stands = record {
          kind = s.kind;
          number = ap (λ (x : BrokerParts). x.number) g.broker ∙ s.number;
          run = ap (λ (x : BrokerParts). x.run) g.broker ∙ s.run;
          acts = acts ∙ s.acts;
          log = ap (λ (x : BrokerParts). x.log) g.broker ∙ (λ j. s.log j ++ f j);
          heard = ap (λ (x : BrokerParts). x.heard) g.broker ∙ ap (λ d. d.heard) e;
          scripted = subst (Scripted b.script) (sym acts) s.scripted;
        };
      }

  -- ---- what calls answer

  pub repository-still : {H : Type 0} (r : Core H) (t : Turn) (i : Input) → repository_gives n.number log mind i ≡ nothing_given mind → IsRepository n log mind r → (t.effects ≡ []) × (t.outs ≡ []) →
      RepositoryGave n log (gives b.script b.run b.acts n log mind i) t r
  repository-still r t i e s q = subst (λ g. RepositoryGave n log g t r) (sym (gives-repository b.script b.run b.acts n log mind i s.kind ∙ e)) (repository-quiet n log mind t r q.0 q.1 s)

  pub broker-still : (p : BrokerParts) (t : Turn) (i : Input) → broker_gives b.script b.run b.acts n.number log mind i ≡ nothing_given mind → IsBroker b n log mind p → (t.effects ≡ []) × (t.outs ≡ []) →
      BrokerGave b n log (gives b.script b.run b.acts n log mind i) t p
  broker-still p t i e s q = subst (λ g. BrokerGave b n log g t p) (sym (gives-broker b.script b.run b.acts n log mind i s.kind ∙ e)) (broker-quiet t p q.0 q.1 s)

  pub repository-answers : {H : Type 0} (r q : Core H) (x : Result Turn HistoryFault) (y : Result Turn AllocError) (i : turns.Input) (j : Input) → repository_gives n.number log mind j ≡ with_hands mind (turns.gives n.number log mind.hands i) →
      IsRepository n log mind r → IfOk x (λ t. given t q.mind ≡ turns.gives r.number r.log r.mind i) → IfOk x (λ t. q.log ≡ r.log ++ t.effects) → OnOk x (q.number ≡ r.number) → IfOk y (λ t. x ≡ Ok t) →
      IfOk y (λ t. RepositoryGave n log (gives b.script b.run b.acts n log mind j) t q)
  repository-answers r q x (Err e) i j same s g l m k = tt
  repository-answers r q x (Ok t) i j same s g l m k =
      subst (λ z. RepositoryGave n log z t q) (sym (gives-repository b.script b.run b.acts n log mind j s.kind ∙ same))
      (repository-gave n log mind r q t i s (subst (λ x. IfOk x (λ t. given t q.mind ≡ turns.gives r.number r.log r.mind i)) k g) (subst (λ x. IfOk x (λ t. q.log ≡ r.log ++ t.effects)) k l) (subst (λ x. OnOk x (q.number ≡ r.number)) k m))

  pub broker-answers : (p q : BrokerParts) (x : Result Turn AllocError) (i : desks.Input) (j : Input) → broker_gives b.script b.run b.acts n.number log mind j ≡ with_desk mind (desk_after b.script b.run b.acts n.number log mind i) →
      IsBroker b n log mind p → ((script : List ℕ → Tree) → Scripted script p.acts → IfOk x (λ t. Gives (turn_of script p i) t p q)) → IfOk x (λ t. BrokerGave b n log (gives b.script b.run b.acts n log mind j) t q)
  broker-answers p q (Err e) i j same s g = tt
  broker-answers p q (Ok t) i j same s g =
      subst (λ z. BrokerGave b n log z t q) (sym (gives-broker b.script b.run b.acts n log mind j s.kind ∙ same)) (broker-gave p q t i s (g b.script s.scripted))
