-- What may still be done without a Tick, a crash or a Learn: each entry takes of it.
use Rattle.message_core.proofs.NodeLemmas.{same_is, same_node-refl}
use Rattle.message_core.specs.Tallies.{count}
use Rattle.pseudo_time.specs.Nodes.{same_node}
use Rattle.pseudo_time.specs.declared.nodes.NodeId.{NodeId}
use Rattle.std.proofs.Common.{◌≡◌, ◌≤◌, ◌<◌, ◌+◌, ◌-◌, ◌*◌, ◌==◌, ℕ, zero, suc, Bool, true, false, not, List, [], ◌∷◌, length, cond, if◌then◌else◌, refl, sym, ap, subst, ◌∙◌, Some, is_some, slice_get, arith}
use Rattle.std.proofs.lemmas.Bool.{true≢false}
use Rattle.std.proofs.lemmas.List.Sums.{sum_by-cons}
use Rattle.std.specs.List.{count_by}
use Rattle.stream_port.specs.declared.fates.Fate.{Fate}
use Rattle.stream_port.specs.Fates.{copies_of}
use Rattle.world_core.specs.declared.traces.Opened.{Opened}
use Rattle.world_core.specs.Legal.{is_behind}
unfoldable use Rattle.world_core.specs.Legal.{Meets}
use Rattle.world_core.specs.Walks.{Flags, World, numbered, opened_log}
unfoldable use Rattle.world_core.specs.Walks.{walk_from}
use Rattle.end_law.specs.Bounds.{copies_in}

-- ---- copies that weren't taken

-- of messages numbered from this one on
abbrev pub left_of : ℕ → List Fate → List ℕ → ℕ
left_of i [] taken = 0
left_of i (fate ∷ fates) taken = (copies_of fate - count i taken) + left_of (suc i) fates taken

one-less : (c : Bool) (most n : ℕ) → most - (cond c 1 0 + n) ≤ most - n
one-less true most n = omega arith
one-less false most n = omega arith

left-falls : (i : ℕ) (fates : List Fate) (taken : List ℕ) (k : ℕ) → left_of i fates (k ∷ taken) ≤ left_of i fates taken
left-falls i [] taken k = omega arith
left-falls i (fate ∷ fates) taken k = let h = left-falls (suc i) fates taken k in let j = one-less (k == i) (copies_of fate) (count i taken) in omega (arith, h, j)

same-number : (n : ℕ) → (n == n) ≡ true
same-number n = grind arith

-- one copy more is taken
left-one : (i : ℕ) (fates : List Fate) (taken : List ℕ) (j : ℕ) (fate : Fate) → slice_get fates j ≡ Some fate → count (i + j) taken < copies_of fate → 1 + left_of i fates ((i + j) ∷ taken) ≤ left_of i fates taken
left-one i [] taken j fate at few = absurd (cc at)
left-one i (f ∷ fates) taken zero fate at few =
    let e : f ≡ fate = cc at in
    let z : i + 0 ≡ i = omega arith in
    let few2 : count i taken < copies_of f = subst (λ x. count i taken < copies_of x) (sym e) (subst (λ x. count x taken < copies_of fate) z few) in
    let h = left-falls (suc i) fates taken i in
    let one : 1 + (copies_of f - (cond (i == i) 1 0 + count i taken)) ≤ copies_of f - count i taken = subst (λ c. 1 + (copies_of f - (cond c 1 0 + count i taken)) ≤ copies_of f - count i taken) (sym (same-number i)) (omega (arith, few2)) in
    subst (λ x. 1 + left_of i (f ∷ fates) (x ∷ taken) ≤ left_of i (f ∷ fates) taken) (sym z) (omega (arith, h, one))
left-one i (f ∷ fates) taken (suc j) fate at few =
    let z : i + suc j ≡ suc i + j = omega arith in
    let h = left-one (suc i) fates taken j fate at (subst (λ x. count x taken < copies_of fate) z few) in
    let l = one-less ((suc i + j) == i) (copies_of f) (count i taken) in
    subst (λ x. 1 + left_of i (f ∷ fates) (x ∷ taken) ≤ left_of i (f ∷ fates) taken) (sym z) (omega (arith, h, l))

pub left-number : (fates : List Fate) (taken : List ℕ) (k : ℕ) (fate : Fate) → numbered fates k ≡ Some fate → count k taken < copies_of fate → 1 + left_of 1 fates (k ∷ taken) ≤ left_of 1 fates taken
left-number fates taken zero fate at few = absurd (cc at)
left-number fates taken (suc j) fate at few =
    let z : 1 + j ≡ suc j = omega arith in
    subst (λ x. 1 + left_of 1 fates (x ∷ taken) ≤ left_of 1 fates taken) z (left-one 1 fates taken j fate at (subst (λ x. count x taken < copies_of fate) (sym z) few))

pub left-start : (i : ℕ) (fates : List Fate) → left_of i fates [] ≤ copies_in fates
left-start i [] = omega arith
left-start i (fate ∷ fates) = let h = left-start (suc i) fates in omega (arith, h)

-- ---- nodes

abbrev pub weighs : Bool → ℕ → ℕ
weighs true k = k
weighs false k = 0

-- by a node's flags and whether it is behind: it may close what is due, go, hear a Tick, and go down
abbrev pub load_of : Flags → Bool → ℕ
load_of f behind = weighs f.due 1 + (weighs (not f.gone) 2 + (weighs behind 2 + weighs f.up 1))

abbrev pub node_load : World → NodeId → ℕ
node_load w n = load_of (w.flags n) (is_behind w n)

abbrev pub sum_over : (NodeId → ℕ) → List Opened → ℕ
sum_over f [] = 0
sum_over f (o ∷ os) = f o.node + sum_over f os

abbrev pub times_in : NodeId → List Opened → ℕ
times_in n [] = 0
times_in n (o ∷ os) = cond (same_node o.node n) 1 0 + times_in n os

pub times-counted : (n : NodeId) (os : List Opened) → times_in n os ≡ count_by (λ (o : Opened). same_node o.node n) os
times-counted n [] = refl
times-counted n (o ∷ os) = let h = times-counted n os in let k = sum_by-cons (λ (x : Opened). cond (same_node x.node n) 1 0) o os in omega (arith, h, k)

other-way : (m n : NodeId) → same_node m n ≡ false → same_node n m ≡ false
other-way m n h = go (same_node n m) refl
  where
    go : (c : Bool) → same_node n m ≡ c → c ≡ false
    go false e = refl
    go true e = absurd (true≢false (sym (subst (λ x. same_node x n ≡ true) (same_is n m e) (same_node-refl n)) ∙ h))

module _ (f g : NodeId → ℕ) (n : NodeId) (others : (m : NodeId) → same_node n m ≡ false → g m ≡ f m) where
  none-changed : (os : List Opened) → times_in n os ≤ 0 → sum_over g os ≡ sum_over f os
  none-changed [] h = refl
  none-changed (o ∷ os) h = go (same_node o.node n) refl h (λ k. none-changed os k)
    where
      go : (c : Bool) → same_node o.node n ≡ c → cond c 1 0 + times_in n os ≤ 0 → (times_in n os ≤ 0 → sum_over g os ≡ sum_over f os) → g o.node + sum_over g os ≡ f o.node + sum_over f os
      go true e k rest = absurd (omega (arith, k))
      go false e k rest = let i = rest (omega (arith, k)) in let j = others o.node (other-way o.node n e) in omega (arith, i, j)

  pub one-changed : (os : List Opened) → 1 ≤ times_in n os → times_in n os ≤ 1 → sum_over g os + f n ≡ sum_over f os + g n
  one-changed [] some h = absurd (omega (arith, some))
  one-changed (o ∷ os) some h = go (same_node o.node n) refl some h (λ s k. one-changed os s k)
    where
      go : (c : Bool) → same_node o.node n ≡ c → 1 ≤ cond c 1 0 + times_in n os → cond c 1 0 + times_in n os ≤ 1 → (1 ≤ times_in n os → times_in n os ≤ 1 → sum_over g os + f n ≡ sum_over f os + g n)
          → (g o.node + sum_over g os) + f n ≡ (f o.node + sum_over f os) + g n
      go true e s k rest =
          let i = none-changed os (omega (arith, k)) in
          let is : o.node ≡ n = same_is o.node n e in
          let a : g o.node ≡ g n = ap (λ x. g x) is in
          let b : f o.node ≡ f n = ap (λ x. f x) is in
          omega (arith, i, a, b)
      go false e s k rest = let i = rest (omega (arith, s)) (omega (arith, k)) in let j = others o.node (other-way o.node n e) in omega (arith, i, j)

-- a node that was opened stands in the list
pub stands-in : (n : NodeId) (os : List Opened) → is_some (opened_log os n) ≡ true → 1 ≤ times_in n os
stands-in n [] h = absurd (true≢false (sym h))
stands-in n (o ∷ os) h = go (same_node o.node n) h (λ k. stands-in n os k)
  where
    go : (c : Bool) → is_some (if c then Some o.effects else opened_log os n) ≡ true → (is_some (opened_log os n) ≡ true → 1 ≤ times_in n os) → 1 ≤ cond c 1 0 + times_in n os
    go true k rest = omega arith
    go false k rest = let i = rest k in omega (arith, i)

pub sum-most : (f g : NodeId → ℕ) (k : ℕ) → ((m : NodeId) → g m ≤ f m + k) → (os : List Opened) → sum_over g os ≤ sum_over f os + length os * k
sum-most f g k h [] = omega arith
sum-most f g k h (o ∷ os) = let i = sum-most f g k h os in let j = h o.node in omega (arith, i, j)
