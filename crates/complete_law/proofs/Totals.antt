-- What all nodes have sent together, and what one repository has stored: so much as the attempts that the plan allows can pay.
use Rattle.complete_law.proofs.Names.{NodeId, NodeKind, ActSpec, Message, same_is, same_node, same_node-refl, accepts, is_broker, broker, repository, tasks, Sending, AskAtMost, CalmPlace, log_at, sent_at, tries_in, world_at, ◌≡◌, ℕ, zero, suc, ◌+◌, ◌*◌, ◌≤◌, ◌<◌, ◌==◌, Bool, true, false, ◌&&◌, length, map, List, [], ◌∷◌, refl, sym, ap, subst, if◌then◌else◌, arith, ◌∙◌, common_steps, filter, eq-eqb, false≢true, is_repository, most_messages}
use Rattle.pseudo_time.specs.declared.nodes.NodeKind.TheVariants as kind
use Rattle.message_form.specs.declared.messages.Message.TheVariants as message
use Rattle.complete_law.proofs.BrokerLoads.{broker-issues}
use Rattle.complete_law.proofs.Costs.{weight}
use Rattle.complete_law.proofs.HandLoads.{price, stored, wt}
use Rattle.complete_law.proofs.Loads.{if-from, sent-load}
use Rattle.complete_law.proofs.Places.{tasks_of}
use Rattle.complete_law.proofs.RepositoryLoads.{all, all-paid, gain, used-most}
use Rattle.complete_law.proofs.Shares.{mul-mono, mul-plus, tries-given}
use Rattle.complete_law.proofs.Steps as steps

-- ---- sums over the numbers up to one

abbrev sum-to : (ℕ → ℕ) → ℕ → ℕ
sum-to f zero = f 0
sum-to f (suc n) = f (suc n) + sum-to f n

sum-has : (f : ℕ → ℕ) (m n : ℕ) → m ≤ n → f m ≤ sum-to f n
sum-has f m zero h = let z : m ≡ 0 = omega (arith, h) in subst (λ k. f k ≤ f 0) (sym z) (omega arith)
sum-has f m (suc n) h = go (λ l. sum-has f m n l) (m == suc n) refl
  where
    go : (m ≤ n → f m ≤ sum-to f n) → (c : Bool) → (m == suc n) ≡ c → f m ≤ f (suc n) + sum-to f n
    go again true e = let q : m ≡ suc n = grind (arith, common_steps) in subst (λ k. f k ≤ f (suc n) + sum-to f n) (sym q) (omega arith)
    go again false e = let l : m ≤ n = grind (arith, common_steps) in let k = again l in omega (arith, k)

sum-mono : (f g : ℕ → ℕ) (n : ℕ) → ((k : ℕ) → f k ≤ g k) → sum-to f n ≤ sum-to g n
sum-mono f g zero h = h 0
sum-mono f g (suc n) h = let k = sum-mono f g n h in let j = h (suc n) in omega (arith, k, j)

sum-plus : (f g : ℕ → ℕ) (n : ℕ) → sum-to (λ k. f k + g k) n ≡ sum-to f n + sum-to g n
sum-plus f g zero = refl
sum-plus f g (suc n) = let k = sum-plus f g n in omega (arith, k)

sum-times : (f : ℕ → ℕ) (m n : ℕ) → sum-to (λ k. f k * m) n ≡ sum-to f n * m
sum-times f m zero = refl
sum-times f m (suc n) = let k = sum-times f m n in let j = mul-plus (f (suc n)) (sum-to f n) m in omega (arith, k, j)

sum-zero : (n : ℕ) → sum-to (λ i. 0) n ≤ 0
sum-zero zero = omega arith
sum-zero (suc n) = let k = sum-zero n in omega (arith, k)

sum-none : (m k n : ℕ) → n < m → sum-to (λ i. if-from (m == i) k) n ≡ 0
sum-none m k zero h = let e : (m == 0) ≡ false = grind (arith, common_steps) in ap (λ c. if-from c k) e
sum-none m k (suc n) h =
    let e : (m == suc n) ≡ false = grind (arith, common_steps) in
    let i : if-from (m == suc n) k ≡ 0 = ap (λ c. if-from c k) e in
    omega (arith, i, sum-none m k n (omega (arith, h)))

sum-one : (m k n : ℕ) → sum-to (λ i. if-from (m == i) k) n ≤ k
sum-one m k zero = elim (m == 0) as (λ c. if-from c k ≤ k) [ true ↦ omega arith | false ↦ omega arith ]
sum-one m k (suc n) = go (m == suc n) refl (sum-one m k n)
  where
    go : (c : Bool) → (m == suc n) ≡ c → sum-to (λ i. if-from (m == i) k) n ≤ k → if-from c k + sum-to (λ i. if-from (m == i) k) n ≤ k
    go true e h = let l : n < m = grind (arith, common_steps) in let z = sum-none m k n l in omega (arith, z)
    go false e h = omega (arith, h)

-- the acts are shared out among the brokers
sum-tasks : (acts : List ActSpec) (n : ℕ) → sum-to (λ i. tries-given (tasks (filter (λ (a : ActSpec). a.broker == i) acts))) n ≤ tries_in acts
sum-tasks [] n = sum-zero n
sum-tasks (a ∷ acts) n =
    let f : ℕ → ℕ = λ i. tries-given (tasks (filter (λ (x : ActSpec). x.broker == i) acts)) in
    let p = sum-plus (λ i. if-from (a.broker == i) a.tries) (λ i. tries-given (tasks (filter (λ (x : ActSpec). x.broker == i) acts))) n in
    let m = sum-mono (λ i. tries-given (tasks (filter (λ (x : ActSpec). x.broker == i) (a ∷ acts)))) (λ i. if-from (a.broker == i) a.tries + tries-given (tasks (filter (λ (x : ActSpec). x.broker == i) acts))) n (λ i. one (a.broker == i) (filter (λ (x : ActSpec). x.broker == i) acts)) in
    omega (arith, sum-tasks acts n, sum-one a.broker a.tries n, p, m)
  where
    one : (c : Bool) (more : List ActSpec) → tries-given (tasks (if c then a ∷ more else more)) ≤ if-from c a.tries + tries-given (tasks more)
    one true more = omega arith
    one false more = omega arith

-- ---- all that was sent

all-mono : (f g : Sending → ℕ) (ss : List Sending) → ((s : Sending) → f s ≤ g s) → all f ss ≤ all g ss
all-mono f g [] h = omega arith
all-mono f g (s ∷ ss) h = let k = all-mono f g ss h in let j = h s in omega (arith, k, j)

-- no sender has a greater number
abbrev pub top : List Sending → ℕ
top [] = 0
top (s ∷ ss) = s.post.from.number + top ss

-- what a message of a node of this kind counts
abbrev pub from-kind : (NodeKind → Bool) → (Message → ℕ) → Sending → ℕ
from-kind is v s = if-from (is s.post.from.kind) (v s.post.message)

abbrev pub by-broker : (Message → ℕ) → Sending → ℕ
by-broker = from-kind is_broker

abbrev pub by-repository : (Message → ℕ) → Sending → ℕ
by-repository = from-kind is_repository

-- all that nodes of a kind sent, node by node
module _ (is : NodeKind → Bool) (named : ℕ → NodeId) (same : (n : NodeId) → is n.kind ≡ true → n ≡ named n.number) (v : Message → ℕ) where
  pub sent-total : (ss : List Sending) (n : ℕ) → top ss ≤ n → all (from-kind is v) ss ≤ sum-to (λ i. sent-load v (named i) ss) n
  sent-total [] n h = omega arith
  sent-total (s ∷ ss) n h =
      let l : s.post.from.number ≤ n = omega (arith, h) in
      omega (arith, sent-total ss n (omega (arith, h)), sum-plus (λ i. if-from (same_node s.post.from (named i)) (v s.post.message)) (λ i. sent-load v (named i) ss) n, one (is s.post.from.kind) refl l)
    where
      one : (c : Bool) → is s.post.from.kind ≡ c → s.post.from.number ≤ n → if-from c (v s.post.message) ≤ sum-to (λ k. if-from (same_node s.post.from (named k)) (v s.post.message)) n
      one false e l = omega arith
      one true e l =
          let q : if-from (same_node s.post.from (named s.post.from.number)) (v s.post.message) ≡ v s.post.message =
          ap (λ (x : NodeId). if-from (same_node s.post.from x) (v s.post.message)) (sym (same s.post.from e)) ∙ ap (λ c. if-from c (v s.post.message)) (same_node-refl s.post.from) in
          omega (arith, sum-has (λ k. if-from (same_node s.post.from (named k)) (v s.post.message)) s.post.from.number n l, q)

broker-named : (n : NodeId) → is_broker n.kind ≡ true → n ≡ broker n.number
broker-named n e = (elim n.kind as (λ kd. (i : ℕ) → is_broker kd ≡ true → record { kind = kd; number = i } ≡ broker i) [ kind.Broker ↦ λ i e. refl | kind.Repository ↦ λ i e. absurd (false≢true e) ]) n.number e

repository-named : (n : NodeId) → is_repository n.kind ≡ true → n ≡ repository n.number
repository-named n e = (elim n.kind as (λ kd. (i : ℕ) → is_repository kd ≡ true → record { kind = kd; number = i } ≡ repository i) [ kind.Repository ↦ λ i e. refl | kind.Broker ↦ λ i e. absurd (false≢true e) ]) n.number e

-- all brokers together
pub brokers-few : (p : CalmPlace) (most : ℕ) → AskAtMost p.run most → (u v z : ℕ) → all (by-broker (weight u v z)) (world_at p).sendings ≤ tries_in p.run.plan.acts * (u + (most * v + z))
brokers-few p most asks u v z =
    let b = sum-mono (λ i. sent-load (weight u v z) (broker i) (world_at p).sendings) (λ i. tries-given (tasks_of (steps.b p.run) i) * (u + (most * v + z))) (top (world_at p).sendings)
    (λ i. (let k = broker-issues u v z p most asks i in omega (arith, k))) in
    let c = sum-times (λ i. tries-given (tasks_of (steps.b p.run) i)) (u + (most * v + z)) (top (world_at p).sendings) in
    let d = mul-mono (sum-to (λ i. tries-given (tasks_of (steps.b p.run) i)) (top (world_at p).sendings)) (tries_in p.run.plan.acts) (u + (most * v + z)) (sum-tasks p.run.plan.acts (top (world_at p).sendings)) in
    omega (arith, sent-total is_broker broker broker-named (weight u v z) (world_at p).sendings (top (world_at p).sendings) (omega arith), b, c, d)

-- ---- what repositories take

one-of : (c d : Bool) (v : ℕ) → if-from (c && d) v ≤ if-from c v
one-of true true v = omega arith
one-of true false v = omega arith
one-of false d v = omega arith

two-of : (c d e : Bool) (v : ℕ) → if-from ((c && d) && e) v ≤ if-from c v
two-of c d e v = let i = one-of (c && d) e v in let j = one-of c d v in omega (arith, i, j)

-- the four numbers of HandLoads
module _ (a t s q : ℕ) where
  -- what a message is worth to a repository: a request comes from a broker, an Ask from a repository
  abbrev worth : Sending → ℕ
  worth x = by-broker (weight (a + s) (a + (s + q)) (a + s)) x + by-repository (wt 0 0 0 t) x

  fits : (n : ℕ) (from : NodeId) (m : Message) → if-from (accepts n from m) (price a t s q m) ≤ if-from (is_broker from.kind) (weight (a + s) (a + (s + q)) (a + s) m) + if-from (is_repository from.kind) (wt 0 0 0 t m)
  fits n from (message.Begin x k) = let i = two-of (is_broker from.kind) (from.number == x.broker) (x.home == n) (a + s) in omega (arith, i)
  fits n from (message.Commit x) = let i = two-of (is_broker from.kind) (from.number == x.broker) (x.home == n) (a + s) in omega (arith, i)
  fits n from (message.Withdraw x) = let i = two-of (is_broker from.kind) (from.number == x.broker) (x.home == n) (a + s) in omega (arith, i)
  fits n from (message.Read x o) = let i = two-of (is_broker from.kind) (from.number == x.stamp.broker) (o.repository == n) (a + (s + q)) in omega (arith, i)
  fits n from (message.Write x o v) = let i = two-of (is_broker from.kind) (from.number == x.stamp.broker) (o.repository == n) (a + (s + q)) in omega (arith, i)
  fits n from (message.Ask x) = let i = one-of (is_repository from.kind) (x.home == n) t in omega (arith, i)
  fits n from (message.Tell x c) = let i = two-of true (is_repository from.kind) (from.number == x.home) 0 in omega (arith, i)
  fits n from m = omega arith

  -- it brings something to one repository alone
  to-one : (n : ℕ) (x : Sending) → gain a t s q n x ≤ if-from (x.post.to.number == n) (worth x)
  to-one n x = go (same_node x.post.to (repository n)) refl (fits n x.post.from x.post.message)
    where
      go : (c : Bool) → same_node x.post.to (repository n) ≡ c → if-from (accepts n x.post.from x.post.message) (price a t s q x.post.message) ≤ worth x →
          if-from c (if-from (accepts n x.post.from x.post.message) (price a t s q x.post.message)) ≤ if-from (x.post.to.number == n) (worth x)
      go false e h = omega arith
      go true e h =
          let at : x.post.to.number ≡ n = ap (λ (y : NodeId). y.number) (same_is x.post.to (repository n) e) in
          let k : if-from (x.post.to.number == n) (worth x) ≡ worth x = ap (λ m. if-from (m == n) (worth x)) at ∙ ap (λ c. if-from c (worth x)) (eq-eqb n n refl) in
          omega (arith, h, k)

  gain-most : (n : ℕ) (x : Sending) → gain a t s q n x ≤ worth x
  gain-most n x = let k = to-one n x in let j = (elim (x.post.to.number == n) as (λ c. if-from c (worth x) ≤ worth x) [ true ↦ omega arith | false ↦ omega arith ]) in omega (arith, k, j)

  gains-total : (ss : List Sending) (n : ℕ) → sum-to (λ i. all (gain a t s q i) ss) n ≤ all worth ss
  gains-total [] n = sum-zero n
  gains-total (x ∷ ss) n =
      let o = sum-one x.post.to.number (worth x) n in
      omega (arith, gains-total ss n, sum-plus (λ i. gain a t s q i x) (λ i. all (gain a t s q i) ss) n, sum-mono (λ i. gain a t s q i x) (λ i. if-from (x.post.to.number == i) (worth x)) n (λ i. to-one i x), o)

  -- what all repositories have sent
  repositories-paid : (p : CalmPlace) → all (by-repository (wt a t s q)) (world_at p).sendings ≤ all worth (world_at p).sendings
  repositories-paid p =
      let y = sum-mono (λ i. sent-load (wt a t s q) (repository i) (world_at p).sendings) (λ i. all (gain a t s q i) (world_at p).sendings) (top (world_at p).sendings)
      (λ i. (let k = all-paid a t s q p i in let j = used-most (gain a t s q i) 1 (world_at p).taken (world_at p).sendings in omega (arith, k, j))) in
      omega (arith, sent-total is_repository repository repository-named (wt a t s q) (world_at p).sendings (top (world_at p).sendings) (omega arith), y, gains-total (world_at p).sendings (top (world_at p).sendings))

-- ---- what one of them stores

-- but for its Learns, a repository stores no more effects than brokers sent requests
pub stored-few : (p : CalmPlace) (most : ℕ) → AskAtMost p.run most → (n : ℕ) → stored 1 (log_at p (repository n)) ≤ tries_in p.run.plan.acts * (most + 2)
stored-few p most asks n =
    let b = all-mono (gain 0 0 1 0 n) (by-broker (weight 1 1 1)) (world_at p).sendings (λ x. (let i = gain-most 0 0 1 0 n x in let j = nothing (is_repository x.post.from.kind) x.post.message in omega (arith, i, j))) in
    let d : 1 + (most * 1 + 1) ≡ most + 2 = omega arith in
    let e : tries_in p.run.plan.acts * (1 + (most * 1 + 1)) ≡ tries_in p.run.plan.acts * (most + 2) = ap (λ x. tries_in p.run.plan.acts * x) d in
    omega (arith, all-paid 0 0 1 0 p n, used-most (gain 0 0 1 0 n) 1 (world_at p).taken (world_at p).sendings, b, brokers-few p most asks 1 1 1, e)
  where
    nothing : (c : Bool) (m : Message) → if-from c (wt 0 0 0 0 m) ≡ 0
    nothing false m = refl
    nothing true (message.Ask x) = refl
    nothing true m = refl

-- ---- how many messages there are

-- each message counts one: of a broker beside what it pays, of a repository beside what it is worth
each : (ss : List Sending) → length (map (λ (x : Sending). x.post) ss) + all (worth 1 1 0 2) ss ≤ all (by-broker (weight 2 4 2)) ss + all (by-repository (wt 1 1 0 2)) ss
each [] = omega arith
each (x ∷ ss) = let k = each ss in let j = one x.post.from.kind x.post.message in omega (arith, k, j)
  where
    one : (kd : NodeKind) (m : Message) → 1 + (if-from (is_broker kd) (weight 1 3 1 m) + if-from (is_repository kd) (wt 0 0 0 1 m)) ≤ if-from (is_broker kd) (weight 2 4 2 m) + if-from (is_repository kd) (wt 1 1 0 2 m)
    one kind.Broker (message.Read y o) = omega arith
    one kind.Broker m = omega arith
    one kind.Repository (message.Ask y) = omega arith
    one kind.Repository m = omega arith

pub few-messages : (p : CalmPlace) (most : ℕ) → AskAtMost p.run most → length (sent_at p) ≤ most_messages p.run most
few-messages p most asks =
    let d : 2 + (most * 4 + 2) ≡ 4 * most + 4 = omega arith in
    let e : tries_in p.run.plan.acts * (2 + (most * 4 + 2)) ≡ tries_in p.run.plan.acts * (4 * most + 4) = ap (λ x. tries_in p.run.plan.acts * x) d in
    omega (arith, each (world_at p).sendings, repositories-paid 1 1 0 2 p, brokers-few p most asks 2 4 2, e)
