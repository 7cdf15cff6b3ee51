-- A repository learns of no more attempts than brokers asked to end.
use Rattle.complete_law.proofs.Names.{Has, same_stamp, same_stamp-is, same_stamp-self, StampParts, Decision, Effect, Message, is_settled, known, is_broker, settled-log, tidy-through, broker, repository, Post, Base, Life, Sending, World, AskAtMost, CalmPlace, filled_by, log_at, most_filled, tries_in, world_at, has-right, node_turns, node_facts, soft_of, NodeOk, around, happened, each-has, ◌≡◌, ◌⊎◌, ℕ, zero, suc, ◌+◌, ◌*◌, ◌≤◌, Bool, true, false, not, length, List, [], ◌∷◌, ◌++◌, map, reverse, refl, sym, ◌∙◌, ap, subst, Option, Some, None, if◌then◌else◌, inl, inr, arith, false≢true, reverse-append, filter, SoftNode, Soft}
use Rattle.pseudo_time.specs.declared.decisions.Decision.TheVariants as decision
use Rattle.effect_form.specs.declared.effects.Effect.TheVariants as effect
use Rattle.message_form.specs.declared.messages.Message.TheVariants as message
use Rattle.repository_laws.specs.Facts.{IsTidy}
use Rattle.complete_law.proofs.AskLoads.{Single}
use Rattle.complete_law.proofs.Costs.{weight}
use Rattle.complete_law.proofs.Loads.{if-from}
use Rattle.complete_law.proofs.RepositoryLoads.{all}
use Rattle.complete_law.proofs.HandLoads.{learn-known, stored}
use Rattle.complete_law.proofs.Totals.{brokers-few, by-broker, stored-few}
use Rattle.complete_law.proofs.BrokerMoves.{node-there}
use Rattle.complete_law.proofs.Steps as steps
use Rattle.complete_law.proofs.Steps.{calm-there, facts-there}
use Rattle.repository_laws.specs.Facts as repositories
use Rattle.world_core.specs.Walks as walks

-- ---- the attempts that a log learned of

abbrev pub learned : List Effect → List StampParts
learned [] = []
learned (effect.Learn s c ∷ l) = s ∷ learned l
learned (f ∷ l) = learned l

pub stored-all : (l : List Effect) → length l ≡ stored 1 l + length (learned l)
stored-all [] = refl
stored-all (effect.Got k v ∷ l) = let j = stored-all l in omega (arith, j)
stored-all (effect.Acked k ∷ l) = let j = stored-all l in omega (arith, j)
stored-all (effect.End i e ∷ l) = let k = stored-all l in omega (arith, k)
stored-all (f ∷ l) = let k = stored-all l in omega (arith, k)

known-on : (f : Effect) (l : List Effect) (s : StampParts) → is_settled (known l s) ≡ true → is_settled (known (f ∷ l) s) ≡ true
known-on f l s e = (elim (known l s) as (λ u. known l s ≡ u → is_settled u ≡ true → is_settled (known (f ∷ l) s) ≡ true) [ None ↦ λ q e. absurd (false≢true e) | Some x ↦ λ q e. ap is_settled (settled-log l f s x q) ]) refl e

-- what a log learned of, it knows
has-known : (l : List Effect) (s : StampParts) → Has s (learned l) → is_settled (known l s) ≡ true
has-known [] s h = absurd h
has-known (effect.Learn p c ∷ l) s (inl q) = subst (λ x. is_settled (known (effect.Learn p c ∷ l) x) ≡ true) q (learn-known l p c)
has-known (effect.Learn p c ∷ l) s (inr h) = known-on (effect.Learn p c) l s (has-known l s h)
has-known (f ∷ l) s h = known-on f l s (has-known l s h)

-- each attempt once
learned-single : (r : ℕ) (l : List Effect) → IsTidy r l → Single (learned l)
learned-single r [] t = tt
learned-single r (effect.Learn s c ∷ l) t = ((λ h. false≢true (sym (ap is_settled t.1) ∙ has-known l s h)), learned-single r l t.2)
learned-single r (effect.Put o x v ∷ l) t = learned-single r l t.2
learned-single r (effect.Stretch o x ∷ l) t = learned-single r l t.1
learned-single r (effect.Begin s d ∷ l) t = learned-single r l t.1
learned-single r (effect.Decide s d ∷ l) t = learned-single r l t.2
learned-single r (effect.Mark at ∷ l) t = learned-single r l t
learned-single r (effect.Whole ∷ l) t = learned-single r l t
learned-single r (f ∷ l) t = absurd t

has-learned : (l : List Effect) (s : StampParts) → Has s (learned l) → (c : Bool) × Has (effect.Learn s c) l
has-learned [] s h = absurd h
has-learned (effect.Learn p c ∷ l) s (inl q) = (c, inl (ap (λ x. effect.Learn x c) q))
has-learned (effect.Learn p c ∷ l) s (inr h) = let k = has-learned l s h in (k.0, inr k.1)
has-learned (f ∷ l) s h = let k = has-learned l s h in (k.0, inr k.1)

-- ---- as many messages

abbrev pub ender-of : Message → Option StampParts
ender-of (message.Commit s) = Some s
ender-of (message.Withdraw s) = Some s
ender-of m = None

abbrev Named : StampParts → List Sending → Type 0
Named s [] = ⊥
Named s (x ∷ xs) = (is_broker x.post.from.kind ≡ true) × (ender-of x.post.message ≡ Some s) ⊎ Named s xs

abbrev without : StampParts → List StampParts → List StampParts
without s ss = filter (λ x. not (same_stamp s x)) ss

without-has : (s t : StampParts) (ss : List StampParts) → Has t (without s ss) → Has t ss × (same_stamp s t ≡ false)
without-has s t [] h = absurd h
without-has s t (x ∷ ss) h = go (λ k. without-has s t ss k) (same_stamp s x) refl h
  where
    go : (Has t (without s ss) → Has t ss × (same_stamp s t ≡ false)) → (c : Bool) → same_stamp s x ≡ c → Has t (if not c then x ∷ without s ss else without s ss) → Has t (x ∷ ss) × (same_stamp s t ≡ false)
    go again true e h = let k = again h in (inr k.0, k.1)
    go again false e (inl q) = (inl q, subst (λ y. same_stamp s y ≡ false) q e)
    go again false e (inr h) = let k = again h in (inr k.0, k.1)

without-single : (s : StampParts) (ss : List StampParts) → Single ss → Single (without s ss)
without-single s [] k = tt
without-single s (x ∷ ss) k = (elim (same_stamp s x) as (λ c. Single (without s ss) → Single (if not c then x ∷ without s ss else without s ss)) [ true ↦ λ h. h | false ↦ λ h. ((λ i. k.0 (without-has s x ss i).0), h) ]) (without-single s ss k.1)

without-absent : (s : StampParts) (ss : List StampParts) → (Has s ss → ⊥) → length (without s ss) ≡ length ss
without-absent s [] n = refl
without-absent s (x ∷ ss) n = go (same_stamp s x) refl (without-absent s ss (λ h. n (inr h)))
  where
    go : (c : Bool) → same_stamp s x ≡ c → length (without s ss) ≡ length ss → length (if not c then x ∷ without s ss else without s ss) ≡ length (x ∷ ss)
    go true e k = absurd (n (inl (sym (same_stamp-is s x e))))
    go false e k = omega (arith, k)

without-length : (s : StampParts) (ss : List StampParts) → Single ss → length ss ≤ 1 + length (without s ss)
without-length s [] k = omega arith
without-length s (x ∷ ss) k = go (same_stamp s x) refl (without-length s ss k.1)
  where
    go : (c : Bool) → same_stamp s x ≡ c → length ss ≤ 1 + length (without s ss) → length (x ∷ ss) ≤ 1 + length (if not c then x ∷ without s ss else without s ss)
    go true e h = let a = without-absent s ss (λ i. k.0 (subst (λ y. Has y ss) (same_stamp-is s x e) i)) in omega (arith, a)
    go false e h = omega (arith, h)

abbrev g : Sending → ℕ
g = by-broker (weight 0 0 1)

ends-one : (m : Message) (s : StampParts) → ender-of m ≡ Some s → weight 0 0 1 m ≡ 1
ends-one (message.Commit t) s e = refl
ends-one (message.Withdraw t) s e = refl
ends-one m s e = absurd (cc e)

pigeons : (xs : List Sending) (ss : List StampParts) → Single ss → ((s : StampParts) → Has s ss → Named s xs) → length ss ≤ all g xs
pigeons [] [] single named = omega arith
pigeons [] (s ∷ ss) single named = absurd (named s (inl refl))
pigeons (x ∷ xs) ss single named = go (λ us h i. pigeons xs us h i) (is_broker x.post.from.kind) refl (ender-of x.post.message) refl
  where
    rest : (s : StampParts) → ((is_broker x.post.from.kind ≡ true) × (ender-of x.post.message ≡ Some s) → ⊥) → Has s ss → Named s xs
    rest s never h = elim (named s h) [ inl e ↦ absurd (never e) | inr k ↦ k ]

    go : ((us : List StampParts) → Single us → ((s : StampParts) → Has s us → Named s xs) → length us ≤ all g xs) → (b : Bool) → is_broker x.post.from.kind ≡ b → (o : Option StampParts) → ender-of x.post.message ≡ o → length ss ≤ g x + all g xs
    go again false e o q = let k = again ss single (λ s. rest s (λ i. false≢true (sym e ∙ i.0))) in omega (arith, k)
    go again true e None q = let k = again ss single (λ s. rest s (λ i. (let no : None ≡ Some s = sym q ∙ i.1 in absurd (cc no)))) in omega (arith, k)
    go again true e (Some t) q =
        let k = again (without t ss) (without-single t ss single) (λ s h. (let i = without-has t s ss h in rest s (λ j. other s i.1 j.1) i.0)) in
        let one : g x ≡ 1 = ap (λ c. if-from c (weight 0 0 1 x.post.message)) e ∙ ends-one x.post.message t q in
        omega (arith, k, without-length t ss single, one)
      where
        other : (s : StampParts) → same_stamp t s ≡ false → ender-of x.post.message ≡ Some s → ⊥
        other s off at = let no : Some t ≡ Some s = sym q ∙ at in let is : t ≡ s = cc no in false≢true (sym off ∙ subst (λ y. same_stamp t y ≡ true) is (same_stamp-self t))

named-by : (s : StampParts) (xs : List Sending) (i n : ℕ) (m : Message) → ender-of m ≡ Some s → Has (record { from = broker i; to = repository n; message = m }) (map (λ (x : Sending). x.post) xs) → Named s xs
named-by s [] i n m e h = absurd h
named-by s (x ∷ xs) i n m e (inl q) = inl (ap (λ (p : Post). is_broker p.from.kind) q, ap (λ (p : Post). ender-of p.message) q ∙ e)
named-by s (x ∷ xs) i n m e (inr h) = inr (named-by s xs i n m e h)

-- ---- pages

filled-one : (e : Effect) → most_filled e ≤ 17
filled-one (effect.Run number) = omega arith
filled-one e = omega arith

filled-most : (es : List Effect) → filled_by es ≤ 17 * length es
filled-most [] = omega arith
filled-most (e ∷ es) = let one = filled-one e in let rest = filled-most es in omega (arith, one, rest)

-- ---- at a place

module _ (p : CalmPlace) where
  abbrev base : Base
  base = steps.b p.run

  abbrev w : World
  w = world_at p

  abbrev soft : Soft
  soft = happened (node_turns base.script) (facts-there p).events

  closed-named : (s : StampParts) (d : Decision) → repositories.WasClosed soft.ever soft.ticks s.home s d → Named s w.sendings
  closed-named s decision.Committed h = named-by s w.sendings s.broker s.home (message.Commit s) refl (subst (Has (record { from = broker s.broker; to = repository s.home; message = message.Commit s })) (facts-there p).models.ever h)
  closed-named s decision.Withdrawn h = named-by s w.sendings s.broker s.home (message.Withdraw s) refl (subst (Has (record { from = broker s.broker; to = repository s.home; message = message.Withdraw s })) (facts-there p).models.ever h)
  closed-named s (decision.Expired d m) h = absurd ((facts-there p).models.ticked m h)

  decided-named : (s : StampParts) (d : Decision) → Has (effect.Decide s d) (soft.node (repository s.home)).past → Named s w.sendings
  decided-named s d h = go (w.flags (repository s.home)).known refl
    where
      go : (c : Bool) → (w.flags (repository s.home)).known ≡ c → Named s w.sendings
      go true known =
          let m : Life = w.life (repository s.home) in
          let ok : NodeOk (node_facts base.script) (around soft) (repository s.home) (soft_of (w.life (repository s.home))) = node-there base w (calm-there p) (facts-there p) (repository s.home) known in
          let here : Has (effect.Decide s d) (reverse (w.life (repository s.home)).gated) = subst (λ (x : SoftNode). Has (effect.Decide s d) x.past) ((facts-there p).models.lives (repository s.home) known) h in
          closed-named s d (each-has _ (reverse m.fresh ++ reverse m.gated) (effect.Decide s d) ok.proofs (has-right (reverse m.fresh) (reverse m.gated) (effect.Decide s d) here)).1
      go false off = absurd (subst (Has (effect.Decide s d)) ((facts-there p).models.outside (repository s.home) off).0 h)

  module _ (n : ℕ) (known : (w.flags (repository n)).known ≡ true) where
    abbrev l : Life
    l = w.life (repository n)

    ok : NodeOk (node_facts base.script) (around soft) (repository n) (soft_of (w.life (repository n)))
    ok = node-there base w (calm-there p) (facts-there p) (repository n) known

    all-log : log_at p (repository n) ≡ reverse l.fresh ++ reverse l.gated
    all-log = reverse-append l.gated l.fresh

    tidy : IsTidy n (log_at p (repository n))
    tidy = subst (IsTidy n) (sym all-log) (tidy-through n (reverse l.gated) (reverse l.fresh) ok.grew ok.tidy)

    learned-named : (s : StampParts) → Has s (learned (log_at p (repository n))) → Named s w.sendings
    learned-named s h =
        let k = has-learned (log_at p (repository n)) s h in
        let there : Has (effect.Learn s k.0) (reverse l.fresh ++ reverse l.gated) = subst (Has (effect.Learn s k.0)) all-log k.1 in
        let cause = (each-has _ (reverse l.fresh ++ reverse l.gated) (effect.Learn s k.0) ok.proofs there).1 in
        decided-named s cause.0 cause.1

    few-learned : length (learned (log_at p (repository n))) ≤ all g w.sendings
    few-learned = pigeons w.sendings (learned (log_at p (repository n))) (learned-single n (log_at p (repository n)) tidy) learned-named

  module _ (most : ℕ) (asks : AskAtMost p.run most) where
    known-few : (n : ℕ) → (w.flags (repository n)).known ≡ true → length (log_at p (repository n)) ≤ tries_in p.run.plan.acts * (most + 3)
    known-few n known =
        omega (arith, stored-all (log_at p (repository n)), stored-few p most asks n, few-learned n known, brokers-few p most asks 0 0 1, one (tries_in p.run.plan.acts), grow (tries_in p.run.plan.acts))
      where
        one : (x : ℕ) → x * (0 + (most * 0 + 1)) ≡ x
        one x = let z : 0 + (most * 0 + 1) ≡ 1 = omega arith in ap (λ y. x * y) z ∙ omega arith

        grow : (x : ℕ) → x * (most + 3) ≡ x * (most + 2) + x
        grow zero = omega arith
        grow (suc x) = let k = grow x in omega (arith, k)

    -- the log of a repository
    fewest : (n : ℕ) → length (log_at p (repository n)) ≤ tries_in p.run.plan.acts * (most + 3)
    fewest n = go (w.flags (repository n)).known refl
      where
        go : (c : Bool) → (w.flags (repository n)).known ≡ c → length (log_at p (repository n)) ≤ tries_in p.run.plan.acts * (most + 3)
        go true e = known-few n e
        go false e =
            let none : length (log_at p (repository n)) ≡ 0 = ap (λ (x : Life). length (reverse (walks.all_effects x))) ((calm-there p).outside (repository n) e) in
            omega (arith, none)

    pub repository-few : (n : ℕ) → length (log_at p (repository n)) ≤ 1 + tries_in p.run.plan.acts * (most + 3)
    repository-few n = let few = fewest n in omega (arith, few)

    pub repository-pages : (n : ℕ) → filled_by (log_at p (repository n)) ≤ 1 + 17 * (tries_in p.run.plan.acts * (most + 3))
    repository-pages n = let few = fewest n in let each = filled-most (log_at p (repository n)) in omega (arith, few, each)
