-- The attempts of a run are tries of its brokers' books, and keep to the plan's repositories.
use Rattle.serial_law.proofs.Names.{Every, Has, Task, NodeId, every-has, ActSpec, Effect, Post, book, tries_of, broker, tasks, Tree, Plan, CanRun, InRange, Scripted, IsPlanned, planned, acts_of, Base, opened_log, node_facts, Try, keep, run_of, every-filter, every-at, ◌≡◌, ℕ, ◌≤◌, true, List, reverse, sym, subst, is_some, ◌==◌, task_of, ◌++◌, tries}
use Rattle.broker_laws.specs.Fits as brokers
use Rattle.broker_laws.proofs.Kept.{kept}
use Rattle.world_facts.specs.Refines as refines
use Rattle.serial_law.proofs.Attempts.{IsTryOf, try-of, tries-kept, try-home, of-book}
use Rattle.serial_law.proofs.RunFacts.{IsBooked, IsKept, clock-tasks, kept-acts, kept-tasks}
use Rattle.broker_laws.specs.Posts.{IsLate}
use Rattle.broker_laws.proofs.Clocks.{late}
use Rattle.std.proofs.Common.{arith}

module _ (script : List ℕ → Tree) (b : Base) (plan : Plan) (logs : NodeId → List Effect) (olds : NodeId → List (List Effect)) (past sent : List Post) (May : ℕ → Type 0)
    (same_run : b.run ≡ plan.run) (same_acts : b.acts ≡ plan.acts) (whole : CanRun plan) (scripted : Scripted script plan.acts)
    (opened : (k : ℕ) → 1 ≤ k → k ≤ plan.brokers → is_some (opened_log b.opened (broker k)) ≡ true)
    (f : refines.OlderFacts (node_facts script) b logs olds past sent May) where
  abbrev log : NodeId → List Effect
  log n = reverse (logs n)

  ready : (k : ℕ) → 1 ≤ k → k ≤ plan.brokers → brokers.IsReady script k plan.run (tasks (acts_of k plan.acts)) (log (broker k))
  ready k low high =
      subst (λ r. brokers.IsReady script k r (tasks (acts_of k plan.acts)) (log (broker k))) same_run
      (subst (λ x. brokers.IsReady script k b.run (tasks (acts_of k x)) (log (broker k))) same_acts (f.ready (broker k) (opened k low high)))

  all-kept : (k : ℕ) → 1 ≤ k → k ≤ plan.brokers → keep script k plan.run (tasks (acts_of k plan.acts)) (log (broker k)) ≡ log (broker k)
  all-kept k low high = kept script k plan.run (tasks (acts_of k plan.acts)) (log (broker k)) (f.tidy (broker k)) (ready k low high).same_plan

  module _ (a : Try) (m : IsTryOf script plan.run log plan.brokers a) where
    abbrev own : List Effect
    own = log (broker m.number)

    its-plan : IsPlanned plan.run (tasks (acts_of m.number plan.acts)) m.try
    its-plan =
        every-has (IsPlanned plan.run (tasks (acts_of m.number plan.acts))) (tries_of (book own).acts) m.try
        (planned script m.number plan.run (tasks (acts_of m.number plan.acts)) own (f.tidy (broker m.number))
        (ready m.number m.low m.high) m.same_run) m.has

    its-task : IsKept script plan.repositories m.try.task
    its-task =
        every-at (IsKept script plan.repositories) (tasks (acts_of m.number plan.acts)) its-plan.1.0 m.try.task
        (kept-tasks script plan.repositories (acts_of m.number plan.acts)
        (every-filter (λ a. IsKept script plan.repositories (task_of a)) (λ (a : ActSpec). a.broker == m.number) plan.acts (kept-acts script plan.repositories plan.brokers 1 plan.acts whole.acts scripted)))
        its-plan.1.1

    its-late : IsLate m.try
    its-late = every-has IsLate (tries (book own)) m.try (late script m.number (past ++ sent) own (f.tidy (broker m.number)) (f.proofs (broker m.number))) (of-book (book own) m.try m.has)

    -- its clock is at least that which all acts of the plan have
    its-above : (c : ℕ) → Every (λ (x : ActSpec). c ≤ x.clock) plan.acts → c ≤ m.try.stamp.clock
    its-above c all =
        let k : c ≤ m.try.task.clock =
        every-at (λ (t : Task). c ≤ t.clock) (tasks (acts_of m.number plan.acts)) its-plan.1.0 m.try.task
        (clock-tasks c (acts_of m.number plan.acts) (every-filter (λ (x : ActSpec). c ≤ x.clock) (λ (x : ActSpec). x.broker == m.number) plan.acts all))
        its-plan.1.1 in
        let l : m.try.task.clock ≤ m.try.stamp.clock = its-late in
        omega (arith, k, l)

    its-book : IsBooked script log plan.repositories a
    its-book = record {
      number = m.number;
      try = m.try;
      has = of-book (book own) m.try m.has;
      is = m.is;
      home = subst (InRange plan.repositories) (sym (try-home script m.number own m.try (f.tidy (broker m.number)) m.has)) its-task.0;
      inside = its-task.1;
    }

  pub run-booked : (a : Try) → Has a (run_of script plan log).tries → IsBooked script log plan.repositories a
  run-booked a h = its-book a (try-of script plan.run log plan.brokers a (subst (Has a) (tries-kept script plan.run plan.acts log plan.brokers all-kept) h))

  pub run-above : (c : ℕ) → Every (λ (x : ActSpec). c ≤ x.clock) plan.acts → (a : Try) → Has a (run_of script plan log).tries → c ≤ a.stamp.clock
  run-above c all a h =
      let m = try-of script plan.run log plan.brokers a (subst (Has a) (tries-kept script plan.run plan.acts log plan.brokers all-kept) h) in
      subst (λ (x : Try). c ≤ x.stamp.clock) m.is (its-above a m c all)
