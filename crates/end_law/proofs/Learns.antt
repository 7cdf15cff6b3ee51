-- What repositories learn: where each Learn is new, a repository learns of each attempt once, and once more behind each of its crashes.
use Rattle.effect_form.specs.declared.effects.Effect.{Effect}
use Rattle.world_core.proofs.KnowsLemmas.{told-knows}
use Rattle.plan_form.specs.declared.plans.Plan.{Plan}
use Rattle.message_core.proofs.NodeLemmas.{same_node-refl}
use Rattle.pseudo_time.specs.Lists.{Has}
use Rattle.pseudo_time.specs.Nodes.{same_node}
use Rattle.pseudo_time.specs.StampParts.{StampParts}
use Rattle.pseudo_time.specs.declared.nodes.NodeId.{NodeId}
use Rattle.repository_log.specs.Logs.{knows}
use Rattle.serial_model.specs.Questions.{Tree}
use Rattle.std.proofs.Common.{◌≡◌, ◌≤◌, ◌+◌, ◌*◌, ◌&&◌, ◌||◌, inl, inr, ℕ, zero, suc, Bool, true, false, not, List, [], ◌∷◌, ◌++◌, length, cond, if◌then◌else◌, refl, sym, ap, subst, ◌∙◌, Option, Some, None, append_assoc, arith}
use Rattle.std.proofs.lemmas.Bool.{true≢false}
use Rattle.stream_port.specs.declared.fates.Asked.{Asked}
use Rattle.stream_port.specs.declared.fates.Fate.{Fate}
use Rattle.trace_logs.proofs.MarkLemmas.{knows-append}
use Rattle.world_core.proofs.Lives.{stands-stays, step-other, walk-more}
use Rattle.world_core.specs.declared.entries.Entry.{Entry}
use Rattle.world_core.specs.declared.entries.Entry.TheVariants.{Take, Go, Learn, Hear, Gate, Crash, Down, Tick}
use Rattle.world_core.specs.declared.traces.Opened.{Opened}
use Rattle.world_core.specs.declared.traces.Trace.{Trace}
use Rattle.world_core.specs.Counts.{crash_count, is_crash}
use Rattle.world_core.specs.Legal.{IsDecidedAs, Legal, Rule, base_of, fates_of}
unfoldable use Rattle.world_core.specs.Legal.{Meets}
use Rattle.world_core.specs.Nodes.{Given, Input, gives}
use Rattle.world_core.specs.Nodes.Input.{Going, Taking, Learning, Hearing}
use Rattle.world_core.specs.Walks.{Base, Life, Sending, World, after_input, all_effects, hears, lives_on, names, numbered, step, took, walk, with_given}
unfoldable use Rattle.world_core.specs.Walks.{walk_from}
use Rattle.end_law.specs.Bounds.{AllDecided, LearnsAreNew, is_learn, learn_count}
use Rattle.end_law.proofs.Loads.{one-changed, stands-in, sum_over, times-counted, times_in, weighs}
use Rattle.end_law.proofs.Steps.{IsOpen, UpIsKnown, crash-more, learn-more, step-open}

-- ---- logs

abbrev pub KeepsKnown : List Effect → List Effect → Type 0
KeepsKnown log later = (s : StampParts) → knows log s ≡ true → knows later s ≡ true

or-first : (a b : Bool) → a ≡ true → (a || b) ≡ true
or-first true b h = refl
or-first false b h = absurd (true≢false (sym h))

keeps-more : (log more : List Effect) → KeepsKnown log (log ++ more)
keeps-more log more s h = knows-append log more s ∙ or-first (knows log s) (knows more s) h

-- how many of these attempts the log doesn't know
abbrev pub unknown_in : List StampParts → List Effect → ℕ
unknown_in [] log = 0
unknown_in (s ∷ ss) log = weighs (not (knows log s)) 1 + unknown_in ss log

one-most : (c : Bool) → weighs (not c) 1 ≤ 1
one-most true = omega arith
one-most false = omega arith

pub unknown-most : (ss : List StampParts) (log : List Effect) → unknown_in ss log ≤ length ss
unknown-most [] log = omega arith
unknown-most (s ∷ ss) log = let h = unknown-most ss log in let k = one-most (knows log s) in omega (arith, h, k)

one-falls : (a b : Bool) → (a ≡ true → b ≡ true) → weighs (not b) 1 ≤ weighs (not a) 1
one-falls true b h = let e : weighs (not b) 1 ≡ 0 = ap (λ c. weighs (not c) 1) (h refl) in omega (arith, e)
one-falls false b h = one-most b

pub unknown-falls : (ss : List StampParts) (log later : List Effect) → KeepsKnown log later → unknown_in ss later ≤ unknown_in ss log
unknown-falls [] log later k = omega arith
unknown-falls (s ∷ ss) log later k = let h = unknown-falls ss log later k in let j = one-falls (knows log s) (knows later s) (k s) in omega (arith, h, j)

-- one attempt more is known
pub unknown-less : (ss : List StampParts) (log later : List Effect) (s : StampParts) → Has s ss → KeepsKnown log later → knows log s ≡ false → knows later s ≡ true → 1 + unknown_in ss later ≤ unknown_in ss log
unknown-less [] log later s has k before after = absurd has
unknown-less (x ∷ ss) log later s (inl is) k before after =
    let a : knows log x ≡ false = subst (λ y. knows log y ≡ false) (sym is) before in
    let b : knows later x ≡ true = subst (λ y. knows later y ≡ true) (sym is) after in
    let p : weighs (not (knows log x)) 1 ≡ 1 = ap (λ c. weighs (not c) 1) a in
    let q : weighs (not (knows later x)) 1 ≡ 0 = ap (λ c. weighs (not c) 1) b in
    let h = unknown-falls ss log later k in
    omega (arith, h, p, q)
unknown-less (x ∷ ss) log later s (inr has) k before after =
    let h = unknown-less ss log later s has k before after in
    let j = one-falls (knows log x) (knows later x) (k x) in
    omega (arith, h, j)

-- ---- lives

module _ (b : Base) where
  given-keeps : (l : Life) (g : Given) → KeepsKnown (all_effects l) (all_effects (with_given l g))
  given-keeps l g = subst (λ x. KeepsKnown (all_effects l) x) (append_assoc l.gated l.fresh g.effects) (keeps-more (all_effects l) g.effects)

  input-keeps : (n : NodeId) (l : Life) (input : Input) → KeepsKnown (all_effects l) (all_effects (after_input b n l input))
  input-keeps n l input = given-keeps l (gives b.script b.run b.acts n (all_effects l) l.mind input)

  took-keeps : (n : NodeId) (l : Life) (found : Option Sending) → KeepsKnown (all_effects l) (all_effects (took b n l found))
  took-keeps n l None = λ s h. h
  took-keeps n l (Some x) = input-keeps n l (Taking x.post.from x.post.message)

  hears-keeps : (n : NodeId) (l : Life) (last : Option ℕ) → KeepsKnown (all_effects l) (all_effects (hears b n l last))
  hears-keeps n l None = λ s h. h
  hears-keeps n l (Some m) = input-keeps n l (Hearing m)

  own-keeps : (w : World) (n : NodeId) (l : Life) (e : Entry) → is_crash e ≡ false → KeepsKnown (all_effects l) (all_effects (lives_on b w n l e))
  own-keeps w n l (Take node number) c = took-keeps n l (numbered w.sendings number)
  own-keeps w n l (Go node) c = input-keeps n l Going
  own-keeps w n l (Learn node stamp committed) c = input-keeps n l (Learning stamp committed)
  own-keeps w n l (Hear node) c = hears-keeps n l w.last
  own-keeps w n l (Gate node) c = keeps-more (all_effects l) []
  own-keeps w n l (Crash node kept) c = absurd (true≢false c)
  own-keeps w n l (Down node cause) c = λ s h. h
  own-keeps w n l (Tick moment) c = λ s h. h

  step-keeps : (w : World) (e : Entry) (n : NodeId) → is_crash e ≡ false → KeepsKnown (all_effects (w.life n)) (all_effects ((step b w e).life n))
  step-keeps w e n c = go (names n e && (w.flags n).known)
    where
      go : (t : Bool) → KeepsKnown (all_effects (w.life n)) (all_effects (if t then lives_on b w n (w.life n) e else w.life n))
      go true = own-keeps w n (w.life n) e c
      go false = λ s h. h

  life-own : (w : World) (e : Entry) (n : NodeId) → names n e ≡ true → (w.flags n).known ≡ true → (step b w e).life n ≡ lives_on b w n (w.life n) e
  life-own w e n h k = ap (λ c. if c && (w.flags n).known then lives_on b w n (w.life n) e else w.life n) h ∙ ap (λ c. if true && c then lives_on b w n (w.life n) e else w.life n) k

-- ---- numbers

sum-falls : (f g : NodeId → ℕ) → ((m : NodeId) → g m ≤ f m) → (os : List Opened) → sum_over g os ≤ sum_over f os
sum-falls f g h [] = omega arith
sum-falls f g h (o ∷ os) = let i = sum-falls f g h os in let j = h o.node in omega (arith, i, j)

learn-one : (later old sum new k : ℕ) → later + old ≡ sum + new → 1 + new ≤ old → 1 + later ≤ sum + 0 * k
learn-one later old sum new k e h = omega (arith, e, h)

crash-one : (later old sum new k : ℕ) → later + old ≡ sum + new → new ≤ k → 0 + later ≤ sum + 1 * k
crash-one later old sum new k e h = omega (arith, e, h)

other-one : (later sum k : ℕ) → later ≤ sum → 0 + later ≤ sum + 0 * k
other-one later sum k h = omega (arith, h)

mul-plus : (x y k : ℕ) → (x + y) * k ≡ x * k + y * k
mul-plus zero y k = omega arith
mul-plus (suc x) y k = let h = mul-plus x y k in omega (arith, h)

joins : (all one rest sum later c k q m : ℕ) → all ≡ one + rest → c ≡ k + q → rest ≤ later + q * m → one + later ≤ sum + k * m → (k + q) * m ≡ k * m + q * m → all ≤ sum + c * m
joins all one rest sum later c k q m a b h i d = let e = ap (λ x. x * m) b in omega (arith, a, e, h, i, d)

-- ---- what the nodes don't know

module _ (b : Base) (fates : List Fate) (os : List Opened) (once : (n : NodeId) → times_in n os ≤ 1) (ss : List StampParts) where
  abbrev pub node-unknown : World → NodeId → ℕ
  node-unknown w n = unknown_in ss (all_effects (w.life n))

  other-same : (w : World) (e : Entry) (n m : NodeId) → ((x : NodeId) → names x e ≡ same_node n x) → same_node n m ≡ false → node-unknown (step b w e) m ≡ node-unknown w m
  other-same w e n m named other = ap (λ (l : Life). unknown_in ss (all_effects l)) (step-other b w e m (named m ∙ other))

  swapped : (w : World) (e : Entry) (n : NodeId) → ((x : NodeId) → names x e ≡ same_node n x) → (w.flags n).up ≡ true → IsOpen os w n → UpIsKnown w n →
      sum_over (node-unknown (step b w e)) os + node-unknown w n ≡ sum_over (node-unknown w) os + unknown_in ss (all_effects (lives_on b w n (w.life n) e))
  swapped w e n named up there known =
      let k : (w.flags n).known ≡ true = known up in
      let own : node-unknown (step b w e) n ≡ unknown_in ss (all_effects (lives_on b w n (w.life n) e)) = ap (λ (l : Life). unknown_in ss (all_effects l)) (life-own b w e n (named n ∙ same_node-refl n) k) in
      one-changed (node-unknown w) (node-unknown (step b w e)) n (λ m other. other-same w e n m named other) os (stands-in n os (sym there ∙ k)) (once n) ∙ ap (λ x. sum_over (node-unknown w) os + x) own

  falls : (w : World) (e : Entry) → is_crash e ≡ false → sum_over (node-unknown (step b w e)) os ≤ sum_over (node-unknown w) os
  falls w e c = sum-falls (node-unknown w) (node-unknown (step b w e)) (λ m. unknown-falls ss (all_effects (w.life m)) (all_effects ((step b w e).life m)) (step-keeps b w e m c)) os

  abbrev pub IsNew : World → Entry → Type 0
  IsNew w e = elim e [ Learn n s c ↦ (knows (all_effects (w.life n)) s ≡ false) × Has s ss | _ ↦ Unit {0} ]

  pub step-learns : (w : World) (e : Entry) → ((n : NodeId) → IsOpen os w n) → ((n : NodeId) → UpIsKnown w n) → Rule b fates w e → IsNew w e →
      cond (is_learn e) 1 0 + sum_over (node-unknown (step b w e)) os ≤ sum_over (node-unknown w) os + cond (is_crash e) 1 0 * length ss
  step-learns w (Learn n s c) there known r new =
      learn-one _ _ _ _ (length ss) (swapped w (Learn n s c) n (λ m. refl) r.up (there n) (known n))
      (unknown-less ss (all_effects (w.life n)) (all_effects (lives_on b w n (w.life n) (Learn n s c))) s new.1 (own-keeps b w n (w.life n) (Learn n s c) refl) new.0 (told-knows b n (w.life n) s c r.repository))
  step-learns w (Crash n kept) there known r new =
      crash-one _ _ _ _ (length ss) (swapped w (Crash n kept) n (λ m. refl) r.up (there n) (known n)) (unknown-most ss (all_effects (lives_on b w n (w.life n) (Crash n kept))))
  step-learns w (Take n number) there known r new = other-one _ _ (length ss) (falls w (Take n number) refl)
  step-learns w (Go n) there known r new = other-one _ _ (length ss) (falls w (Go n) refl)
  step-learns w (Hear n) there known r new = other-one _ _ (length ss) (falls w (Hear n) refl)
  step-learns w (Gate n) there known r new = other-one _ _ (length ss) (falls w (Gate n) refl)
  step-learns w (Down n cause) there known r new = other-one _ _ (length ss) (falls w (Down n cause) refl)
  step-learns w (Tick moment) there known r new = other-one _ _ (length ss) (falls w (Tick moment) refl)

  -- ---- all entries from a place on

  module _ (all : List Entry) (decided : (s : StampParts) (c : Bool) → IsDecidedAs (walk b all) s c → Has s ss)
      (new : (front : List Entry) (n : NodeId) (s : StampParts) (c : Bool) (rest : List Entry) → all ≡ front ++ Learn n s c ∷ rest → knows (all_effects ((walk b front).life n)) s ≡ false) where
    is-new : (front : List Entry) (e : Entry) (rest : List Entry) → all ≡ front ++ e ∷ rest → Rule b fates (walk b front) e → IsNew (walk b front) e
    is-new front (Learn n s c) rest here r = (new front n s c rest here, decided s c (subst (λ es. IsDecidedAs (walk b es) s c) (sym here) (stands-stays b front (Learn n s c ∷ rest) s c r.stands)))
    is-new front (Take n number) rest here r = tt
    is-new front (Go n) rest here r = tt
    is-new front (Hear n) rest here r = tt
    is-new front (Gate n) rest here r = tt
    is-new front (Crash n kept) rest here r = tt
    is-new front (Down n cause) rest here r = tt
    is-new front (Tick moment) rest here r = tt

    pub all-learns : (front es : List Entry) → all ≡ front ++ es → ((n : NodeId) → IsOpen os (walk b front) n) → ((n : NodeId) → UpIsKnown (walk b front) n) → Meets b fates (walk b front) es →
        learn_count es ≤ sum_over (node-unknown (walk b front)) os + crash_count es * length ss
    unfolding Meets
    all-learns front [] here there known m = omega arith
    all-learns front (e ∷ es) here there known m =
        let w = walk b front in
        let next : walk b (front ++ e ∷ []) ≡ step b w e = walk-more b front e in
        let h = all-learns (front ++ e ∷ []) es (here ∙ sym (append_assoc front (e ∷ []) es))
        (λ n. subst (λ (x : World). IsOpen os x n) (sym next) (step-open os b w e n (there n) (known n)).0)
        (λ n. subst (λ (x : World). UpIsKnown x n) (sym next) (step-open os b w e n (there n) (known n)).1)
        (subst (λ (x : World). Meets b fates x es) (sym next) m.1) in
        let k = subst (λ (x : World). learn_count es ≤ sum_over (node-unknown x) os + crash_count es * length ss) next h in
        joins (learn_count (e ∷ es)) (cond (is_learn e) 1 0) (learn_count es) (sum_over (node-unknown w) os) (sum_over (node-unknown (step b w e)) os) (crash_count (e ∷ es)) (cond (is_crash e) 1 0) (crash_count es) (length ss)
        (learn-more e es) (crash-more e es) k (step-learns w e there known m.0 (is-new front e es here m.0)) (mul-plus (cond (is_crash e) 1 0) (crash_count es) (length ss))

sum-length : (f : NodeId → ℕ) (k : ℕ) → ((n : NodeId) → f n ≤ k) → (os : List Opened) → sum_over f os ≤ length os * k
sum-length f k h [] = omega arith
sum-length f k h (o ∷ os) = let i = sum-length f k h os in let j = h o.node in omega (arith, i, j)

ends : (l u n c k : ℕ) → l ≤ u + c * k → u ≤ n * k → (n + c) * k ≡ n * k + c * k → l ≤ (n + c) * k
ends l u n c k h s d = omega (arith, h, s, d)

pub learns-few : (script : List ℕ → Tree) (plan : Plan) (asked : List Asked) (t : Trace) (ss : List StampParts) → Legal script plan asked t → LearnsAreNew (base_of script plan t) t.entries → AllDecided (base_of script plan t) t.entries ss →
    learn_count t.entries ≤ (length t.opened + crash_count t.entries) * length ss
unfolding walk_from
learns-few script plan asked t ss legal new decided =
    let b = base_of script plan t in
    let once : (n : NodeId) → times_in n t.opened ≤ 1 = λ n. (let i = times-counted n t.opened in let j = legal.nodes.once n in omega (arith, i, j)) in
    let h = all-learns b (fates_of t.sent) t.opened once ss t.entries decided new [] t.entries refl (λ n. refl) (λ n up. up) legal.meets in
    let s = sum-length (λ n. unknown_in ss (all_effects ((walk b []).life n))) (length ss) (λ n. unknown-most ss (all_effects ((walk b []).life n))) t.opened in
    ends (learn_count t.entries) _ (length t.opened) (crash_count t.entries) (length ss) h s (mul-plus (length t.opened) (crash_count t.entries) (length ss))
