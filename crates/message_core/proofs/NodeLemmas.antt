-- Nodes' names, and the order that maps keep them in.
use Rattle.message_core.proofs.Names.{rules, ◌≡◌, ℕ, ◌==◌, true, List, refl, ap, arith, lookup, is_at, fun_ext, nat_tests, is_eq, nat_cmp, eqb-true, and_parts, NodeId, kind_number, same_node}
use Rattle.pseudo_time.specs.declared.nodes.NodeKind.{NodeKind}
use Rattle.pseudo_time.specs.declared.nodes.NodeKind.TheVariants.{Repository, Broker}
use Rattle.pseudo_time.specs.contracts.nodes.NodeIdOrd.TheImpl as order

same_number : (m n : ℕ) → is_eq (nat_cmp m n) ≡ (m == n)
same_number m n = search rules

named_so : (k j : NodeKind) (m n : ℕ) → is_eq (order.cmp-value.it (record { kind = k; number = m }) (record { kind = j; number = n })) ≡ same_node (record { kind = k; number = m }) (record { kind = j; number = n })
named_so Repository Repository m n = same_number m n
named_so Broker Broker m n = same_number m n
named_so Repository Broker m n = refl
named_so Broker Repository m n = refl

-- a map finds just the node of this name
pub finds_same : (a b : NodeId) → is_eq (order.cmp-value.it a b) ≡ same_node a b
finds_same a b = named_so a.kind b.kind a.number b.number

same_refl : (k : NodeKind) (n : ℕ) → same_node (record { kind = k; number = n }) (record { kind = k; number = n }) ≡ true
same_refl Repository n = grind (arith, nat_tests)
same_refl Broker n = grind (arith, nat_tests)

same_kind : (k j : NodeKind) → (kind_number k == kind_number j) ≡ true → k ≡ j
same_kind Repository Repository h = refl
same_kind Broker Broker h = refl
same_kind Repository Broker h = absurd (let never : ⊥ = cc h in never)
same_kind Broker Repository h = absurd (let never : ⊥ = cc h in never)

-- nodes with the same name are the same
pub same_is : (a b : NodeId) → same_node a b ≡ true → a ≡ b
same_is a b is =
    let h = and_parts (kind_number a.kind == kind_number b.kind) (a.number == b.number) is in
    let k = same_kind a.kind b.kind h.0 in
    let n : a.number ≡ b.number = eqb-true a.number b.number h.1 in
    λ i. record { kind = k i; number = n i }

pub same_node-refl : (a : NodeId) → same_node a a ≡ true
same_node-refl a = same_refl a.kind a.number

-- the maps' look-ups
pub found_same : {X : Type 0} (es : List (NodeId × X)) (n : NodeId) → lookup (is_at (order.cmp-value.it n)) es ≡ lookup (same_node n) es
found_same es n = ap (λ test. lookup test es) (fun_ext (finds_same n))
