-- How much a node has sent and owes, where each message has a weight; and what an entry leaves of a node, or gives it.
use Rattle.complete_law.proofs.Names.{StampParts, NodeId, NodeKind, Message, same_node, same_is, Fate, Out, Post, posts, Entry, leaves, Going, Taking, Learning, Base, Flags, Life, Sending, World, flagged, gated_life, leaving, lives_on, names, step, after_input, took, went, all_effects, MayGate, MayGo, MayLearn, MayTake, Rule, is_broker, CalmRun, IsUnstopped, ◌≡◌, ℕ, ◌+◌, ◌≤◌, Bool, true, false, List, [], ◌∷◌, ◌++◌, map, reverse, refl, sym, ◌∙◌, ap, subst, if◌then◌else◌, append-nil, arith, false≢true, filter}
use Rattle.pseudo_time.specs.declared.nodes.NodeKind.TheVariants as kind
use Rattle.world_core.specs.declared.entries.Entry.TheVariants as entry
use Rattle.complete_law.proofs.Places.{CalmWorld, log_of, all-off, both-on}
use Rattle.complete_law.proofs.Steps as steps
use Rattle.complete_law.proofs.Steps.{Facts-at}

abbrev pub if-from : Bool → ℕ → ℕ
if-from true k = k
if-from false k = 0

module _ (wt : Message → ℕ) where
  abbrev pub load : List Out → ℕ
  load [] = 0
  load (o ∷ os) = wt o.message + load os

  pub load-append : (xs ys : List Out) → load (xs ++ ys) ≡ load xs + load ys
  load-append [] ys = omega arith
  load-append (x ∷ xs) ys = let k = load-append xs ys in omega (arith, k)

  load-filter : (test : Out → Bool) (xs : List Out) → load (filter test xs) ≤ load xs
  load-filter test [] = omega arith
  load-filter test (x ∷ xs) = (elim (test x) as (λ c. load (filter test xs) ≤ load xs → load (if c then x ∷ filter test xs else filter test xs) ≤ wt x.message + load xs) [ true ↦ λ k. omega (arith, k) | false ↦ λ k. omega (arith, k) ]) (load-filter test xs)

  abbrev pub sent-load : NodeId → List Sending → ℕ
  sent-load n [] = 0
  sent-load n (s ∷ ss) = if-from (same_node s.post.from n) (wt s.post.message) + sent-load n ss

  sent-append : (n : NodeId) (xs ys : List Sending) → sent-load n (xs ++ ys) ≡ sent-load n xs + sent-load n ys
  sent-append n [] ys = omega arith
  sent-append n (x ∷ xs) ys = let k = sent-append n xs ys in omega (arith, k)

  mapped-load : (n m : NodeId) (ticks : ℕ) (os : List Out) → sent-load n (map (λ (p : Post). record { post = p; ticks = ticks }) (posts m os)) ≡ if-from (same_node m n) (load os)
  mapped-load n m ticks [] = elim (same_node m n) as (λ c. 0 ≡ if-from c 0) [ true ↦ refl | false ↦ refl ]
  mapped-load n m ticks (o ∷ os) = let k = mapped-load n m ticks os in let j = (elim (same_node m n) as (λ c. if-from c (wt o.message) + if-from c (load os) ≡ if-from c (wt o.message + load os)) [ true ↦ omega arith | false ↦ omega arith ]) in omega (arith, k, j)

  -- what a gate sends
  leaving-load : (w : World) (n m : NodeId) → sent-load n (map (λ (p : Post). record { post = p; ticks = w.ticks }) (leaving w m)) ≤ if-from (same_node m n) (load (w.life m).outs)
  leaving-load w n m = go (w.flags m).known
    where
      less : (c : Bool) (x y : ℕ) → x ≤ y → if-from c x ≤ if-from c y
      less true x y h = h
      less false x y h = omega arith

      go : (c : Bool) → sent-load n (map (λ (p : Post). record { post = p; ticks = w.ticks }) (if c then posts m (filter (leaves (all_effects (w.life m))) (w.life m).outs) else [])) ≤ if-from (same_node m n) (load (w.life m).outs)
      go true =
          let j = less (same_node m n) (load (filter (leaves (all_effects (w.life m))) (w.life m).outs)) (load (w.life m).outs) (load-filter (leaves (all_effects (w.life m))) (w.life m).outs) in
          omega (arith, mapped-load n m w.ticks (filter (leaves (all_effects (w.life m))) (w.life m).outs), j)
      go false = omega arith

  abbrev pub issued : World → NodeId → ℕ
  issued w n = sent-load n w.sendings + load (w.life n).outs

-- ---- what becomes of a node

-- nothing but that its open messages may have left
pub record Kept (w v : World) (n : NodeId) : Type 0 where
  pub log : log_of v n ≡ log_of w n
  pub mind : (v.life n).mind ≡ (w.life n).mind
  pub issued : (wt : Message → ℕ) → issued wt v n ≤ issued wt w n
  pub gone : (v.flags n).gone ≡ (w.flags n).gone

-- it was given something
pub record Fed (w v : World) (n : NodeId) (l : Life) : Type 0 where
  pub known : (w.flags n).known ≡ true
  pub life : v.life n ≡ l
  pub sendings : v.sendings ≡ w.sendings

module _ (r : CalmRun) (w : World) (f : Facts-at r w) (c : CalmWorld (steps.b r) w) where
  abbrev b : Base
  b = steps.b r

  abbrev fates : List Fate
  fates = steps.fates r

  -- of an entry at another node that sends nothing
  left : (e : Entry) (n : NodeId) → names n e ≡ false → (step b w e).sendings ≡ w.sendings → Kept w (step b w e) n
  left e n other same =
      let is : (step b w e).life n ≡ w.life n = all-off (names n e) (w.flags n).known (lives_on b w n (w.life n) e) (w.life n) other in
      record {
        log = ap (λ (l : Life). reverse (all_effects l)) is;
        mind = ap (λ (l : Life). l.mind) is;
        issued = λ wt. (let k = ap (sent-load wt n) same in let j = ap (λ (l : Life). load wt l.outs) is in omega (arith, k, j));
        gone = ap (λ (x : Flags). x.gone) (all-off (names n e) (w.flags n).known (flagged w.last n.kind (w.flags n) e) (w.flags n) other);
      }

  gate-left : (m n : NodeId) → MayGate w m → Kept w (step b w (entry.Gate m)) n
  gate-left m n may = go (same_node m n) refl
    where
      sent : (wt : Message → ℕ) → sent-load wt n (step b w (entry.Gate m)).sendings ≤ sent-load wt n w.sendings + if-from (same_node m n) (load wt (w.life m).outs)
      sent wt = omega (arith, sent-append wt n w.sendings (map (λ (p : Post). record { post = p; ticks = w.ticks }) (leaving w m)), leaving-load wt w n m)

      go : (t : Bool) → same_node m n ≡ t → Kept w (step b w (entry.Gate m)) n
      go false e =
          let is : (step b w (entry.Gate m)).life n ≡ w.life n = all-off (same_node m n) (w.flags n).known (gated_life (w.life n)) (w.life n) e in
          record {
            log = ap (λ (l : Life). reverse (all_effects l)) is;
            mind = ap (λ (l : Life). l.mind) is;
            issued = λ wt. (let k = sent wt in let i = ap (λ t. if-from t (load wt (w.life m).outs)) e in let j = ap (λ (l : Life). load wt l.outs) is in omega (arith, k, i, j));
            gone = ap (λ (x : Flags). x.gone) (all-off (same_node m n) (w.flags n).known (flagged w.last n.kind (w.flags n) (entry.Gate m)) (w.flags n) e);
          }
      go true e =
          let at : m ≡ n = same_is m n e in
          let known : (w.flags n).known ≡ true = sym (c.ups n) ∙ subst (λ x. (w.flags x).up ≡ true) at may.up in
          let is : (step b w (entry.Gate m)).life n ≡ gated_life (w.life n) = both-on (same_node m n) (w.flags n).known (gated_life (w.life n)) (w.life n) e known in
          record {
            log = ap (λ (l : Life). reverse (all_effects l)) is ∙ ap reverse (append-nil (all_effects (w.life n)));
            mind = ap (λ (l : Life). l.mind) is;
            issued = λ wt. (let k = sent wt in let i : if-from (same_node m n) (load wt (w.life m).outs) ≡ load wt (w.life n).outs = ap (λ t. if-from t (load wt (w.life m).outs)) e ∙ ap (λ x. load wt (w.life x).outs) at in let j = ap (λ (l : Life). load wt l.outs) is in omega (arith, k, i, j));
            gone = ap (λ (x : Flags). x.gone) (both-on (same_node m n) (w.flags n).known (flagged w.last n.kind (w.flags n) (entry.Gate m)) (w.flags n) e known);
          }

  -- what there is to be shown, by what an entry is to a node
  pub record Cases (G : Type 0) (v : World) (n : NodeId) : Type 0 where
    pub kept : Kept w v n → G
    pub takes : (k : ℕ) (may : MayTake fates w n k) → v.taken ≡ k ∷ w.taken → (v.flags n).gone ≡ (w.flags n).gone → Fed w v n (after_input b n (w.life n) (Taking may.sending.post.from may.sending.post.message)) → G
    pub goes : MayGo w n → (v.flags n).gone ≡ true → Fed w v n (after_input b n (w.life n) Going) → G
    pub learns : (s : StampParts) (d : Bool) → MayLearn w n s d → Fed w v n (after_input b n (w.life n) (Learning s d)) → G

  module _ (G : Type 0) where
    up-known : (m n : NodeId) → m ≡ n → (w.flags m).up ≡ true → (w.flags n).known ≡ true
    up-known m n at up = sym (c.ups n) ∙ subst (λ x. (w.flags x).up ≡ true) at up

    gone-went : (k : NodeKind) (x : Flags) → is_broker k ≡ true → (went k x).gone ≡ true
    gone-went kind.Repository x e = absurd (false≢true e)
    gone-went kind.Broker x e = refl

    take-case : (m : NodeId) (k : ℕ) (n : NodeId) → MayTake fates w m k → Cases G (step b w (entry.Take m k)) n → G
    take-case m k n may cases = go (same_node m n) refl
      where
        go : (t : Bool) → same_node m n ≡ t → G
        go false e = cases.kept (left (entry.Take m k) n e refl)
        go true e =
            let at : m ≡ n = same_is m n e in
            let mine : MayTake fates w n k = subst (λ x. MayTake fates w x k) at may in
            let known : (w.flags n).known ≡ true = up-known m n at may.up in
            cases.takes k mine refl
            (ap (λ (x : Flags). x.gone) (both-on (same_node m n) (w.flags n).known (flagged w.last n.kind (w.flags n) (entry.Take m k)) (w.flags n) e known))
            (record {
              known = known;
              life = both-on (same_node m n) (w.flags n).known (lives_on b w n (w.life n) (entry.Take m k)) (w.life n) e known ∙ ap (took b n (w.life n)) mine.sent;
              sendings = refl;
            })

    go-case : (m n : NodeId) → MayGo w m → Cases G (step b w (entry.Go m)) n → G
    go-case m n may cases = go (same_node m n) refl
      where
        go : (t : Bool) → same_node m n ≡ t → G
        go false e = cases.kept (left (entry.Go m) n e refl)
        go true e =
            let at : m ≡ n = same_is m n e in
            let mine : MayGo w n = subst (MayGo w) at may in
            let known : (w.flags n).known ≡ true = up-known m n at may.up in
            cases.goes mine
            (ap (λ (x : Flags). x.gone) (both-on (same_node m n) (w.flags n).known (flagged w.last n.kind (w.flags n) (entry.Go m)) (w.flags n) e known) ∙ gone-went n.kind (w.flags n) mine.broker)
            (record { known = known; life = both-on (same_node m n) (w.flags n).known (lives_on b w n (w.life n) (entry.Go m)) (w.life n) e known; sendings = refl })

    learn-case : (m : NodeId) (s : StampParts) (d : Bool) (n : NodeId) → MayLearn w m s d → Cases G (step b w (entry.Learn m s d)) n → G
    learn-case m s d n may cases = go (same_node m n) refl
      where
        go : (t : Bool) → same_node m n ≡ t → G
        go false e = cases.kept (left (entry.Learn m s d) n e refl)
        go true e =
            let at : m ≡ n = same_is m n e in
            let known : (w.flags n).known ≡ true = up-known m n at may.up in
            cases.learns s d (subst (λ x. MayLearn w x s d) at may)
            (record { known = known; life = both-on (same_node m n) (w.flags n).known (lives_on b w n (w.life n) (entry.Learn m s d)) (w.life n) e known; sendings = refl })

    pub by-entry : (e : Entry) (n : NodeId) → IsUnstopped e → Rule b fates w e → Cases G (step b w e) n → G
    by-entry (entry.Take m k) n q rule cases = take-case m k n rule cases
    by-entry (entry.Go m) n q rule cases = go-case m n rule cases
    by-entry (entry.Learn m s d) n q rule cases = learn-case m s d n rule cases
    by-entry (entry.Hear m) n q rule cases = absurd (steps.no-moment r w m f rule)
    by-entry (entry.Gate m) n q rule cases = cases.kept (gate-left m n rule)
    by-entry e n q rule cases = absurd q
