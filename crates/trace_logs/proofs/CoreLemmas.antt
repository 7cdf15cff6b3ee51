-- The turns of cores are those of the rules.
use Rattle.trace_logs.proofs.Names.{IfOk, OnOk, NodeId, Effect, Tree, Scripted, gives, with_desk, Base, ◌≡◌, ℕ, ◌++◌, List, [], Result, Ok, Err, Mind, Given, Input, repository_gives, broker_gives, with_hands, desk_after, nothing_given, Gave}
use Rattle.std.specs.declared.alloc.AllocError.{AllocError}
use Rattle.message_form.specs.declared.turns.Turn.{Turn}
use Rattle.object_history.specs.declared.marks.Mark.{Mark}
use Rattle.object_history.specs.declared.steps.HistoryFault.{HistoryFault}
use Rattle.repository_core.specs.Cores.{Core, given}
use Rattle.repository_core.specs.Turns as turns
use Rattle.broker_core.specs.Brokers.{Gives, turn_of}
use Rattle.broker_core.specs.Parts.{BrokerParts}
use Rattle.broker_core.specs.Turns as desks
use Rattle.trace_logs.specs.declared.cores.NodeCore.TheVariants as core
use Rattle.world_core.specs.Cores.{IsRepository, IsBroker, RepositoryGave, BrokerGave}
use Rattle.world_core.proofs.CoreTurns.{repository-still as still-repository, broker-still as still-broker, repository-answers as answers-of-repository, broker-answers as answers-of-broker}

-- ---- turns of the cores of nodes

module _ (b : Base) (n : NodeId) (log : List Effect) (mind : Mind) where
  of-repository : (g : Given) (t : Turn) (q : Core (List Mark)) → RepositoryGave n log g t q → Gave b n log g t (core.Repository q)
  of-repository g t q h = record { effects = h.effects; outs = h.outs; stands = h.stands }

  of-broker : (g : Given) (t : Turn) (q : BrokerParts) → BrokerGave b n log g t q → Gave b n log g t (core.Broker q)
  of-broker g t q h = record { effects = h.effects; outs = h.outs; stands = h.stands }

  repositories-of : (g : Given) (q : Core (List Mark)) (y : Result Turn AllocError) → IfOk y (λ t. RepositoryGave n log g t q) → IfOk y (λ t. Gave b n log g t (core.Repository q))
  repositories-of g q (Err e) h = tt
  repositories-of g q (Ok t) h = of-repository g t q h

  brokers-of : (g : Given) (q : BrokerParts) (y : Result Turn AllocError) → IfOk y (λ t. BrokerGave b n log g t q) → IfOk y (λ t. Gave b n log g t (core.Broker q))
  brokers-of g q (Err e) h = tt
  brokers-of g q (Ok t) h = of-broker g t q h

  pub repository-still : (r : Core (List Mark)) (t : Turn) (i : Input) → repository_gives n.number log mind i ≡ nothing_given mind → IsRepository n log mind r → (t.effects ≡ []) × (t.outs ≡ []) →
      Gave b n log (gives b.script b.run b.acts n log mind i) t (core.Repository r)
  repository-still r t i e s q = of-repository (gives b.script b.run b.acts n log mind i) t r (still-repository b n log mind r t i e s q)

  pub broker-still : (p : BrokerParts) (t : Turn) (i : Input) → broker_gives b.script b.run b.acts n.number log mind i ≡ nothing_given mind → IsBroker b n log mind p → (t.effects ≡ []) × (t.outs ≡ []) →
      Gave b n log (gives b.script b.run b.acts n log mind i) t (core.Broker p)
  broker-still p t i e s q = of-broker (gives b.script b.run b.acts n log mind i) t p (still-broker b n log mind p t i e s q)

  pub repository-answers : (r q : Core (List Mark)) (x : Result Turn HistoryFault) (y : Result Turn AllocError) (i : turns.Input) (j : Input) → repository_gives n.number log mind j ≡ with_hands mind (turns.gives n.number log mind.hands i) →
      IsRepository n log mind r → IfOk x (λ t. given t q.mind ≡ turns.gives r.number r.log r.mind i) → IfOk x (λ t. q.log ≡ r.log ++ t.effects) → OnOk x (q.number ≡ r.number) → IfOk y (λ t. x ≡ Ok t) →
      IfOk y (λ t. Gave b n log (gives b.script b.run b.acts n log mind j) t (core.Repository q))
  repository-answers r q x y i j same s g l m k =
      repositories-of (gives b.script b.run b.acts n log mind j) q y (answers-of-repository b n log mind r q x y i j same s g l m k)

  pub broker-answers : (p q : BrokerParts) (x : Result Turn AllocError) (i : desks.Input) (j : Input) → broker_gives b.script b.run b.acts n.number log mind j ≡ with_desk mind (desk_after b.script b.run b.acts n.number log mind i) →
      IsBroker b n log mind p → ((script : List ℕ → Tree) → Scripted script p.acts → IfOk x (λ t. Gives (turn_of script p i) t p q)) → IfOk x (λ t. Gave b n log (gives b.script b.run b.acts n log mind j) t (core.Broker q))
  broker-answers p q x i j same s g = brokers-of (gives b.script b.run b.acts n log mind j) q x (answers-of-broker b n log mind p q x i j same s g)
