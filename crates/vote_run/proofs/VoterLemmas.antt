-- Just the members and the polls were opened.
use Rattle.std.specs.List.{count_by}
use Rattle.std.proofs.lemmas.List.Sums.{sum_by-append, sum_by-cons}
use Rattle.vote_run.proofs.Names.{broker, is_broker, repository, same_node, NodeId, NodeKind, Repository, Broker, Effect, opened_log, is_within, most_of, never-false, ◌≡◌, ℕ, zero, suc, ◌+◌, ◌≤◌, Bool, true, false, List, [], ◌∷◌, ◌++◌, inl, inr, refl, sym, ap, subst, ◌∙◌, arith, Option, Some, None, ◌==◌, ◌||◌, ◌⊎◌, cond, is_some, if◌then◌else◌, eqb-true, nat_tests, same_is, JustVoters, is_node}
use Rattle.world_core.specs.declared.traces.Opened.{Opened}
use Rattle.vote_run.specs.Voters.{opened_members, opened_voters}

-- how often it stands there
abbrev tally : List Opened → NodeId → ℕ
tally opened n = count_by (λ (o : Opened). same_node o.node n) opened

-- a list with one more at its end
log-append : (xs : List Opened) (o : Opened) (n : NodeId) → is_some (opened_log (xs ++ o ∷ []) n) ≡ (is_some (opened_log xs n) || same_node o.node n)
log-append [] o n = go (same_node o.node n)
  where
    go : (t : Bool) → is_some {T = List Effect} (if t then Some o.effects else None) ≡ t
    go true = refl
    go false = refl
log-append (x ∷ xs) o n = go (same_node x.node n) (log-append xs o n)
  where
    go : (t : Bool) → is_some (opened_log (xs ++ o ∷ []) n) ≡ (is_some (opened_log xs n) || same_node o.node n)
        → is_some (if t then Some x.effects else opened_log (xs ++ o ∷ []) n) ≡ (is_some (if t then Some x.effects else opened_log xs n) || same_node o.node n)
    go true h = refl
    go false h = h

log-either : (xs : List Opened) (o : Opened) (n : NodeId) (log : List Effect) → opened_log (xs ++ o ∷ []) n ≡ Some log → (opened_log xs n ≡ Some log) ⊎ (log ≡ o.effects)
log-either [] o n log h = go (same_node o.node n) h
  where
    go : (t : Bool) → (if t then Some o.effects else None) ≡ Some log → (opened_log [] n ≡ Some log) ⊎ (log ≡ o.effects)
    go true h = inr (sym (let e : o.effects ≡ log = cc h in e))
    go false h = absurd (let e : ⊥ = cc h in e)
log-either (x ∷ xs) o n log h = go (same_node x.node n) (log-either xs o n log) h
  where
    go : (t : Bool) → (opened_log (xs ++ o ∷ []) n ≡ Some log → (opened_log xs n ≡ Some log) ⊎ (log ≡ o.effects)) → (if t then Some x.effects else opened_log (xs ++ o ∷ []) n) ≡ Some log
        → ((if t then Some x.effects else opened_log xs n) ≡ Some log) ⊎ (log ≡ o.effects)
    go true f h = inl h
    go false f h = f h

tally-cons : (x : Opened) (xs : List Opened) (n : NodeId) → tally (x ∷ xs) n ≡ cond (same_node x.node n) 1 0 + tally xs n
tally-cons x xs n = sum_by-cons (λ (o : Opened). cond (same_node o.node n) 1 0) x xs

tally-none : (xs : List Opened) (n : NodeId) → is_some (opened_log xs n) ≡ false → tally xs n ≡ 0
tally-none [] n h = refl
tally-none (x ∷ xs) n h = go (same_node x.node n) refl h (tally-none xs n)
  where
    go : (t : Bool) → same_node x.node n ≡ t → is_some (if t then Some x.effects else opened_log xs n) ≡ false → (is_some (opened_log xs n) ≡ false → tally xs n ≡ 0) → tally (x ∷ xs) n ≡ 0
    go true is h f = never-false h
    go false is h f =
        let all = tally-cons x xs n in
        let first : ◌≡◌ {A = ℕ} (cond {A = ℕ} (same_node x.node n) 1 0) 0 = ap (λ v. cond {A = ℕ} v 1 0) is in
        let rest = f h in
        omega (arith, all, first, rest)

tally-append : (xs : List Opened) (o : Opened) (n : NodeId) → tally (xs ++ o ∷ []) n ≡ tally xs n + tally (o ∷ []) n
tally-append xs o n = sum_by-append (λ (z : Opened). cond (same_node z.node n) 1 0) xs (o ∷ [])

-- ---- the members

module _ (one two three : List Effect) where
  some-if : (t : Bool) (log : List Effect) (rest : Option (List Effect)) → is_some (if t then Some log else rest) ≡ (t || is_some rest)
  some-if true log rest = refl
  some-if false log rest = refl

  numbers-are : (i : ℕ) → ((1 == i) || ((2 == i) || ((3 == i) || false))) ≡ is_within i 3
  numbers-are i = grind (arith, nat_tests)

  none-within : (i : ℕ) → false ≡ is_within i 0
  none-within i = grind (arith, nat_tests)

  members-just : (k : NodeKind) (i : ℕ) → is_some (opened_log (opened_members one two three) (record { kind = k; number = i })) ≡ is_within i (most_of 0 k)
  members-just Repository i = some-if (1 == i) one _ ∙ ap (λ t. (1 == i) || t) (some-if (2 == i) two _ ∙ ap (λ t. (2 == i) || t) (some-if (3 == i) three None)) ∙ numbers-are i
  members-just Broker i = none-within i

  at-most : (i : ℕ) → cond (1 == i) 1 0 + (cond (2 == i) 1 0 + (cond (3 == i) 1 0 + 0)) ≤ 1
  at-most i = go (1 == i) (2 == i) (3 == i) refl refl refl
    where
      go : (a b c : Bool) → (1 == i) ≡ a → (2 == i) ≡ b → (3 == i) ≡ c → cond a 1 0 + (cond b 1 0 + (cond c 1 0 + 0)) ≤ 1
      go false false false a b c = omega arith
      go true false false a b c = omega arith
      go false true false a b c = omega arith
      go false false true a b c = omega arith
      go true true v a b c = absurd (let x = eqb-true 1 i a in let y = eqb-true 2 i b in omega (arith, x, y))
      go true false true a b c = absurd (let x = eqb-true 1 i a in let y = eqb-true 3 i c in omega (arith, x, y))
      go false true true a b c = absurd (let x = eqb-true 2 i b in let y = eqb-true 3 i c in omega (arith, x, y))

  abbrev at : ℕ → List Effect → Opened
  at i log = record { node = repository i; effects = log }

  members-once : (k : NodeKind) (i : ℕ) → tally (opened_members one two three) (record { kind = k; number = i }) ≤ 1
  members-once Repository i =
      let a : tally (at 1 one ∷ at 2 two ∷ at 3 three ∷ []) (repository i) ≡ cond (1 == i) 1 0 + tally (at 2 two ∷ at 3 three ∷ []) (repository i) = tally-cons (at 1 one) (at 2 two ∷ at 3 three ∷ []) (repository i) in
      let b : tally (at 2 two ∷ at 3 three ∷ []) (repository i) ≡ cond (2 == i) 1 0 + tally (at 3 three ∷ []) (repository i) = tally-cons (at 2 two) (at 3 three ∷ []) (repository i) in
      let c : tally (at 3 three ∷ []) (repository i) ≡ cond (3 == i) 1 0 + 0 = tally-cons (at 3 three) [] (repository i) in
      subst (λ z. z ≤ 1) (sym (a ∙ ap (λ z. cond (1 == i) 1 0 + z) (b ∙ ap (λ z. cond (2 == i) 1 0 + z) c))) (at-most i)
  members-once Broker i =
      let a : tally (at 1 one ∷ at 2 two ∷ at 3 three ∷ []) (broker i) ≡ 0 + tally (at 2 two ∷ at 3 three ∷ []) (broker i) = tally-cons (at 1 one) (at 2 two ∷ at 3 three ∷ []) (broker i) in
      let b : tally (at 2 two ∷ at 3 three ∷ []) (broker i) ≡ 0 + tally (at 3 three ∷ []) (broker i) = tally-cons (at 2 two) (at 3 three ∷ []) (broker i) in
      let c : tally (at 3 three ∷ []) (broker i) ≡ 0 + 0 = tally-cons (at 3 three) [] (broker i) in
      subst (λ z. z ≤ 1) (sym (a ∙ ap (λ z. 0 + z) (b ∙ ap (λ z. 0 + z) c))) (omega arith)

  -- ---- and the polls

  or-false : (t : Bool) → t ≡ (t || false)
  or-false true = refl
  or-false false = refl

  within-more : (i polls : ℕ) → is_within i (suc polls) ≡ (is_within i polls || (suc polls == i))
  within-more i polls = grind (arith, nat_tests)

  node-more : (k : NodeKind) (i polls : ℕ) → is_within i (most_of (suc polls) k) ≡ (is_within i (most_of polls k) || same_node (broker (suc polls)) (record { kind = k; number = i }))
  node-more Repository i polls = or-false (is_within i 3)
  node-more Broker i polls = within-more i polls

  pub just : (polls : ℕ) (n : NodeId) → is_some (opened_log (opened_voters one two three polls) n) ≡ is_node polls n
  just zero n = members-just n.kind n.number
  just (suc polls) n = log-append (opened_voters one two three polls) (record { node = broker (suc polls); effects = [] }) n
      ∙ ap (λ t. t || same_node (broker (suc polls)) n) (just polls n) ∙ sym (node-more n.kind n.number polls)

  not-within : (polls : ℕ) → is_within (suc polls) polls ≡ false
  not-within polls = grind (arith, nat_tests)

  once : (polls : ℕ) (n : NodeId) → tally (opened_voters one two three polls) n ≤ 1
  once zero n = members-once n.kind n.number
  once (suc polls) n = go (same_node (broker (suc polls)) n) refl (once polls n)
    where
      before : List Opened
      before = opened_voters one two three polls

      last : Opened
      last = record { node = broker (suc polls); effects = [] }

      go : (t : Bool) → same_node (broker (suc polls)) n ≡ t → tally before n ≤ 1 → tally (before ++ last ∷ []) n ≤ 1
      go true is h =
          let none : tally before n ≡ 0 = tally-none before n (just polls n ∙ ap (is_node polls) (sym (same_is (broker (suc polls)) n is)) ∙ not-within polls) in
          let all = tally-append before last n in
          let end : tally (last ∷ []) n ≡ 1 = tally-cons last [] n ∙ ap (λ v. cond v 1 0 + 0) is in
          omega (arith, none, all, end)
      go false is h =
          let all = tally-append before last n in
          let end : tally (last ∷ []) n ≡ 0 = tally-cons last [] n ∙ ap (λ v. cond v 1 0 + 0) is in
          omega (arith, h, all, end)

  bare-members : (k : NodeKind) (i : ℕ) (log : List Effect) → opened_log (opened_members one two three) (record { kind = k; number = i }) ≡ Some log → is_broker k ≡ true → log ≡ []
  bare-members Repository i log h poll = never-false (sym poll)
  bare-members Broker i log h poll = absurd (let e : ⊥ = cc h in e)

  bare : (polls : ℕ) (n : NodeId) (log : List Effect) → opened_log (opened_voters one two three polls) n ≡ Some log → is_broker n.kind ≡ true → log ≡ []
  bare zero n log h poll = bare-members n.kind n.number log h poll
  bare (suc polls) n log h poll = elim (log-either (opened_voters one two three polls) (record { node = broker (suc polls); effects = [] }) n log h) [
    | inl e ↦ bare polls n log e poll
    | inr e ↦ e
  ]

  pub just-voters : (polls : ℕ) → JustVoters polls (opened_voters one two three polls)
  just-voters polls = record { just = just polls; once = once polls; bare = bare polls }
