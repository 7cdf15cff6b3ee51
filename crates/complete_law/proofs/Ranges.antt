-- Homes and objects of attempts lie within the plan's repositories, also of the request that stands.
use Rattle.complete_law.proofs.Names.{Has, every-has, ActSpec, Effect, Request, Asks, Tree, Plan, InRange, CanRun, task_of, tasks, Scripted, Try, book, tries_of, stop_of, IsReady, IsTidy, acts_of, asked_of, Inside, every-at, every-filter, ◌≡◌, ℕ, ◌==◌, nat_lt, false, List, sym, ap, subst, arith, common_steps, after, IsPlanned, planned, request_at, try-home, inside-after, inside-asks}
use Rattle.serial_law.proofs.RunFacts.{IsKept, kept-acts, kept-tasks}

pub same-run : (m n : ℕ) → nat_lt m n ≡ false → nat_lt n m ≡ false → m ≡ n
same-run m n h k = grind (arith, common_steps)

-- an attempt of the run is at the home of its act, which lies within the plan, as its objects do
pub try-kept : (script : List ℕ → Tree) (plan : Plan) (i run : ℕ) (log : List Effect) (t : Try) → CanRun plan → Scripted script plan.acts → IsTidy script i log → IsReady script i run (tasks (acts_of i plan.acts)) log → (book log).run ≡ run →
    Has t (tries_of (book log).acts) → InRange plan.repositories t.stamp.home × Inside plan.repositories (script t.task.script)
try-kept script plan i run log t whole scripted tidy ready same has =
    let mine : IsPlanned run (tasks (acts_of i plan.acts)) t = every-has (IsPlanned run (tasks (acts_of i plan.acts))) (tries_of (book log).acts) t (planned script i run (tasks (acts_of i plan.acts)) log tidy ready same) has in
    let task : IsKept script plan.repositories t.task =
    every-at (IsKept script plan.repositories) (tasks (acts_of i plan.acts)) mine.1.0 t.task
    (kept-tasks script plan.repositories (acts_of i plan.acts) (every-filter (λ a. IsKept script plan.repositories (task_of a)) (λ (a : ActSpec). a.broker == i) plan.acts (kept-acts script plan.repositories plan.brokers 1 plan.acts whole.acts scripted)))
    mine.1.1 in
    (subst (InRange plan.repositories) (sym (try-home script i log t tidy has)) task.0, task.1)

-- and so is the request that it stands at
pub asks-kept : (script : List ℕ → Tree) (n : ℕ) (t : Try) (q : Request) → Inside n (script t.task.script) → stop_of script t ≡ Asks q → InRange n (asked_of q).repository
asks-kept script n t q inside e = inside-asks n (after (script t.task.script) t.answers) q (inside-after n (script t.task.script) t.answers inside) (ap request_at e)
