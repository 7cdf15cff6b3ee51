-- One entry, and all of them: what each takes of what may still be done, and what Ticks, crashes and Learns add.
use Rattle.message_core.proofs.NodeLemmas.{same_node-refl}
use Rattle.plan_form.specs.declared.plans.Plan.{Plan}
use Rattle.pseudo_time.specs.Nodes.{same_node, is_broker}
use Rattle.pseudo_time.specs.declared.nodes.NodeId.{NodeId}
use Rattle.pseudo_time.specs.declared.nodes.NodeKind.{NodeKind}
use Rattle.pseudo_time.specs.declared.nodes.NodeKind.TheVariants.{Repository, Broker}
use Rattle.serial_model.specs.Questions.{Tree}
use Rattle.std.proofs.Common.{◌≡◌, ◌≤◌, ◌+◌, ◌*◌, ◌&&◌, ℕ, Bool, true, false, not, List, [], ◌∷◌, length, cond, if◌then◌else◌, refl, sym, ap, ◌∙◌, Option, Some, None, is_some, arith}
use Rattle.std.proofs.lemmas.Bool.{true≢false}
use Rattle.std.proofs.lemmas.List.Sums.{sum_by-cons}
use Rattle.stream_port.specs.declared.fates.Asked.{Asked}
use Rattle.stream_port.specs.declared.fates.Fate.{Fate}
use Rattle.world_core.specs.declared.entries.Entry.{Entry}
use Rattle.world_core.specs.declared.entries.Entry.TheVariants.{Take, Go, Learn, Hear, Gate, Crash, Down, Tick}
use Rattle.world_core.specs.declared.traces.Opened.{Opened}
use Rattle.world_core.specs.declared.traces.Trace.{Trace}
use Rattle.world_core.specs.Counts.{crash_count, is_crash, is_tick, tick_count}
use Rattle.world_core.specs.Legal.{Legal, Rule, base_of, fates_of, is_behind}
unfoldable use Rattle.world_core.specs.Legal.{Meets}
use Rattle.world_core.specs.Walks.{Base, Flags, World, flagged, has_heard, learned, names, opened_log, start_world, step, went}
use Rattle.end_law.specs.Bounds.{entries_by, is_learn, learn_count}
use Rattle.end_law.proofs.Loads.{left_of, left-number, left-start, load_of, node_load, one-changed, stands-in, sum-most, sum_over, times_in, times-counted, weighs}

-- ---- a node that is up was opened

abbrev pub IsOpen : List Opened → World → NodeId → Type 0
IsOpen os w n = (w.flags n).known ≡ is_some (opened_log os n)

abbrev pub UpIsKnown : World → NodeId → Type 0
UpIsKnown w n = (w.flags n).up ≡ true → (w.flags n).known ≡ true

went-known : (k : NodeKind) (f : Flags) → ((went k f).known ≡ f.known) × ((went k f).up ≡ f.up)
went-known Repository f = (refl, refl)
went-known Broker f = (refl, refl)

learned-known : (k : NodeKind) (f : Flags) → ((learned k f).known ≡ f.known) × ((learned k f).up ≡ f.up)
learned-known Repository f = (refl, refl)
learned-known Broker f = (refl, refl)

heard-known : (o : Option ℕ) (f : Flags) → ((has_heard o f).known ≡ f.known) × ((has_heard o f).up ≡ f.up)
heard-known None f = (refl, refl)
heard-known (Some m) f = (refl, refl)

flagged-known : (last : Option ℕ) (k : NodeKind) (f : Flags) (e : Entry) → (flagged last k f e).known ≡ f.known
flagged-known last k f (Take node number) = refl
flagged-known last k f (Go node) = (went-known k f).0
flagged-known last k f (Learn node stamp committed) = (learned-known k f).0
flagged-known last k f (Hear node) = (heard-known last f).0
flagged-known last k f (Gate node) = refl
flagged-known last k f (Crash node kept) = refl
flagged-known last k f (Down node cause) = refl
flagged-known last k f (Tick moment) = refl

flagged-up : (last : Option ℕ) (k : NodeKind) (f : Flags) (e : Entry) → (flagged last k f e).up ≡ true → f.up ≡ true
flagged-up last k f (Take node number) h = h
flagged-up last k f (Go node) h = sym (went-known k f).1 ∙ h
flagged-up last k f (Learn node stamp committed) h = sym (learned-known k f).1 ∙ h
flagged-up last k f (Hear node) h = sym (heard-known last f).1 ∙ h
flagged-up last k f (Gate node) h = h
flagged-up last k f (Crash node kept) h = h
flagged-up last k f (Down node cause) h = absurd (true≢false (sym h))
flagged-up last k f (Tick moment) h = h

pub step-open : (os : List Opened) (b : Base) (w : World) (e : Entry) (n : NodeId) → IsOpen os w n → UpIsKnown w n → IsOpen os (step b w e) n × UpIsKnown (step b w e) n
step-open os b w e n o u = go (names n e && (w.flags n).known)
  where
    go : (c : Bool) → ((if c then flagged w.last n.kind (w.flags n) e else w.flags n).known ≡ is_some (opened_log os n)) ×
        ((if c then flagged w.last n.kind (w.flags n) e else w.flags n).up ≡ true → (if c then flagged w.last n.kind (w.flags n) e else w.flags n).known ≡ true)
    go true = (flagged-known w.last n.kind (w.flags n) e ∙ o, λ h. flagged-known w.last n.kind (w.flags n) e ∙ u (flagged-up w.last n.kind (w.flags n) e h))
    go false = (o, u)

-- ---- one entry of a node

module _ (b : Base) where
  -- other nodes stay as they are
  load-other : (w : World) (e : Entry) (m : NodeId) → names m e ≡ false → is_tick e ≡ false → node_load (step b w e) m ≡ node_load w m
  load-other w e m h k = ap (λ f. load_of f (is_behind (step b w e) m)) (ap (λ c. if c && (w.flags m).known then flagged w.last m.kind (w.flags m) e else w.flags m) h) ∙ ap (λ c. load_of (w.flags m) c) (behind-other e h k)
    where
      behind-other : (e : Entry) → names m e ≡ false → is_tick e ≡ false → is_behind (step b w e) m ≡ is_behind w m
      behind-other (Take node number) h k = refl
      behind-other (Go node) h k = refl
      behind-other (Learn node stamp committed) h k = refl
      behind-other (Hear node) h k = ap (λ t. is_some w.last && not (if t then is_some w.last else w.heard m)) h
      behind-other (Gate node) h k = refl
      behind-other (Crash node kept) h k = ap (λ t. is_some w.last && not (if t then false else w.heard m)) h
      behind-other (Down node cause) h k = refl
      behind-other (Tick moment) h k = absurd (true≢false k)

  -- the node itself
  flags-own : (w : World) (e : Entry) (n : NodeId) → names n e ≡ true → (w.flags n).known ≡ true → (step b w e).flags n ≡ flagged w.last n.kind (w.flags n) e
  flags-own w e n h k =
      ap (λ c. if c && (w.flags n).known then flagged w.last n.kind (w.flags n) e else w.flags n) h ∙ ap (λ c. if true && c then flagged w.last n.kind (w.flags n) e else w.flags n) k

  -- what is due
  due-most : (d : Bool) → weighs d 1 ≤ 1
  due-most true = omega arith
  due-most false = omega arith

  gone-most : (g : Bool) → weighs (not g) 2 ≤ 2
  gone-most true = omega arith
  gone-most false = omega arith

  two-most : (c : Bool) → weighs c 2 ≤ 2
  two-most true = omega arith
  two-most false = omega arith

  -- what an entry of the node itself leaves it to do
  abbrev own-load : World → Entry → NodeId → ℕ
  own-load w e n = load_of (flagged w.last n.kind (w.flags n) e) (is_behind (step b w e) n)

  take-load : (w : World) (n : NodeId) (number : ℕ) → own-load w (Take n number) n ≤ node_load w n + 1
  take-load w n number = omega arith

  go-load : (w : World) (n : NodeId) → is_broker n.kind ≡ true → (w.flags n).gone ≡ false → own-load w (Go n) n + 1 ≤ node_load w n
  go-load w n br fresh = by n.kind br
    where
      old : weighs (not (w.flags n).gone) 2 ≡ 2
      old = ap (λ g. weighs (not g) 2) fresh

      by : (k : NodeKind) → is_broker k ≡ true → load_of (went k (w.flags n)) (is_behind w n) + 1 ≤ node_load w n
      by Repository e = absurd (true≢false (sym e))
      by Broker e = omega (arith, old)

  learn-load : (w : World) (n : NodeId) (s : _) (c : Bool) → own-load w (Learn n s c) n ≤ node_load w n + 1
  learn-load w n s c = by n.kind
    where
      by : (k : NodeKind) → load_of (learned k (w.flags n)) (is_behind w n) ≤ node_load w n + 1
      by Repository = omega arith
      by Broker = omega arith

  hear-load : (w : World) (n : NodeId) → is_some w.last ≡ true → w.heard n ≡ false → own-load w (Hear n) n + 1 ≤ node_load w n
  hear-load w n some behind =
      let was : weighs (is_behind w n) 2 ≡ 2 = ap (λ c. weighs (c && not (w.heard n)) 2) some ∙ ap (λ c. weighs (not c) 2) behind in
      let is : weighs (is_some w.last && not (if same_node n n then is_some w.last else w.heard n)) 2 ≡ 0 =
      ap (λ t. weighs (is_some w.last && not (if t then is_some w.last else w.heard n)) 2) (same_node-refl n) ∙ ap (λ c. weighs (c && not c) 2) some in
      by w.last some (is_behind (step b w (Hear n)) n) is was
    where
      by : (o : Option ℕ) → is_some o ≡ true → (c : Bool) → weighs c 2 ≡ 0 → weighs (is_behind w n) 2 ≡ 2 → load_of (has_heard o (w.flags n)) c + 1 ≤ node_load w n
      by None e c is was = absurd (true≢false (sym e))
      by (Some m) e c is was = omega (arith, is, was)

  gate-load : (w : World) (n : NodeId) → (w.flags n).due ≡ true → own-load w (Gate n) n + 1 ≤ node_load w n
  gate-load w n due = let old : weighs (w.flags n).due 1 ≡ 1 = ap (λ c. weighs c 1) due in omega (arith, old)

  crash-load : (w : World) (n : NodeId) (kept : ℕ) → own-load w (Crash n kept) n ≤ node_load w n + 4
  crash-load w n kept = let h = two-most (is_behind (step b w (Crash n kept)) n) in omega (arith, h)

  down-load : (w : World) (n : NodeId) (cause : _) → (w.flags n).up ≡ true → own-load w (Down n cause) n + 1 ≤ node_load w n
  down-load w n cause up = let old : weighs (w.flags n).up 1 ≡ 1 = ap (λ c. weighs c 1) up in omega (arith, old)

  tick-load : (w : World) (moment : ℕ) (n : NodeId) → node_load (step b w (Tick moment)) n ≤ node_load w n + 2
  tick-load w moment n = omega arith

-- ---- one entry

-- what a Tick, a crash or a Learn adds, and the entry itself
abbrev pub extra : List Opened → Entry → ℕ
extra os (Take node number) = 0
extra os (Go node) = 0
extra os (Learn node stamp committed) = 2
extra os (Hear node) = 0
extra os (Gate node) = 0
extra os (Crash node kept) = 5
extra os (Down node cause) = 0
extra os (Tick moment) = 2 * length os + 1

abbrev pub extras : List Opened → List Entry → ℕ
extras os [] = 0
extras os (e ∷ es) = extra os e + extras os es

-- all that may still be done
abbrev pub whole_load : List Fate → List Opened → World → ℕ
whole_load fates os w = 2 * left_of 1 fates w.taken + sum_over (node_load w) os

module _ (b : Base) (fates : List Fate) (os : List Opened) (once : (n : NodeId) → times_in n os ≤ 1) where
  -- an entry of one node that is up
  by-node : (w : World) (e : Entry) (n : NodeId) → ((m : NodeId) → names m e ≡ same_node n m) → is_tick e ≡ false → (w.flags n).up ≡ true → IsOpen os w n → UpIsKnown w n →
      sum_over (node_load (step b w e)) os + node_load w n ≡ sum_over (node_load w) os + own-load b w e n
  by-node w e n named still up there known =
      let k : (w.flags n).known ≡ true = known up in
      let some : is_some (opened_log os n) ≡ true = sym there ∙ k in
      let own : node_load (step b w e) n ≡ own-load b w e n = ap (λ f. load_of f (is_behind (step b w e) n)) (flags-own b w e n (named n ∙ same_node-refl n) k) in
      one-changed (node_load w) (node_load (step b w e)) n (λ m other. load-other b w e m (named m ∙ other) still) os (stands-in n os some) (once n) ∙ ap (λ x. sum_over (node_load w) os + x) own

  pub step-load : (w : World) (e : Entry) → ((n : NodeId) → IsOpen os w n) → ((n : NodeId) → UpIsKnown w n) → Rule b fates w e → 1 + whole_load fates os (step b w e) ≤ whole_load fates os w + extra os e
  step-load w (Take n number) there known r =
      let i = by-node w (Take n number) n (λ m. refl) refl r.up (there n) (known n) in
      let l = take-load b w n number in
      let t = left-number fates w.taken number r.fate r.fated r.fewer in
      omega (arith, i, l, t)
  step-load w (Go n) there known r =
      let i = by-node w (Go n) n (λ m. refl) refl r.up (there n) (known n) in
      let l = go-load b w n r.broker r.fresh in
      omega (arith, i, l)
  step-load w (Learn n s c) there known r =
      let i = by-node w (Learn n s c) n (λ m. refl) refl r.up (there n) (known n) in
      let l = learn-load b w n s c in
      omega (arith, i, l)
  step-load w (Hear n) there known r =
      let i = by-node w (Hear n) n (λ m. refl) refl r.up (there n) (known n) in
      let l = hear-load b w n r.some r.behind in
      omega (arith, i, l)
  step-load w (Gate n) there known r =
      let i = by-node w (Gate n) n (λ m. refl) refl r.up (there n) (known n) in
      let l = gate-load b w n r.due in
      omega (arith, i, l)
  step-load w (Crash n kept) there known r =
      let i = by-node w (Crash n kept) n (λ m. refl) refl r.up (there n) (known n) in
      let l = crash-load b w n kept in
      omega (arith, i, l)
  step-load w (Down n cause) there known r =
      let i = by-node w (Down n cause) n (λ m. refl) refl r.up (there n) (known n) in
      let l = down-load b w n cause r.up in
      omega (arith, i, l)
  step-load w (Tick moment) there known r =
      let i = sum-most (node_load w) (node_load (step b w (Tick moment))) 2 (tick-load b w moment) os in
      omega (arith, i)

  pub all-loads : (w : World) (es : List Entry) → ((n : NodeId) → IsOpen os w n) → ((n : NodeId) → UpIsKnown w n) → Meets b fates w es → length es ≤ whole_load fates os w + extras os es
  unfolding Meets
  all-loads w [] there known m = omega arith
  all-loads w (e ∷ es) there known m =
      let h = all-loads (step b w e) es (λ n. (step-open os b w e n (there n) (known n)).0) (λ n. (step-open os b w e n (there n) (known n)).1) m.1 in
      let l = step-load w e there known m.0 in
      omega (arith, h, l)

-- ---- a whole trace

pub mul-more : (c k : ℕ) → (1 + c) * k ≡ k + c * k
mul-more c k = omega arith

-- one entry more, in each count
tick-more : (e : Entry) (es : List Entry) → tick_count (e ∷ es) ≡ cond (is_tick e) 1 0 + tick_count es
tick-more e es = sum_by-cons (λ x. cond (is_tick x) 1 0) e es

pub crash-more : (e : Entry) (es : List Entry) → crash_count (e ∷ es) ≡ cond (is_crash e) 1 0 + crash_count es
crash-more e es = sum_by-cons (λ x. cond (is_crash x) 1 0) e es

pub learn-more : (e : Entry) (es : List Entry) → learn_count (e ∷ es) ≡ cond (is_learn e) 1 0 + learn_count es
learn-more e es = sum_by-cons (λ x. cond (is_learn x) 1 0) e es

extras-counted : (os : List Opened) (es : List Entry) → extras os es ≡ tick_count es * (2 * length os + 1) + 5 * crash_count es + 2 * learn_count es
extras-counted os [] = omega arith
extras-counted os (e ∷ es) =
    let h = extras-counted os es in
    let t = ap (λ n. n * (2 * length os + 1)) (tick-more e es) in
    let m = mul-more (tick_count es) (2 * length os + 1) in
    one e h t (crash-more e es) (learn-more e es) m
  where
    one : (e : Entry) → extras os es ≡ tick_count es * (2 * length os + 1) + 5 * crash_count es + 2 * learn_count es → tick_count (e ∷ es) * (2 * length os + 1) ≡ (cond (is_tick e) 1 0 + tick_count es) * (2 * length os + 1) → crash_count (e ∷ es) ≡ cond (is_crash e) 1 0 + crash_count es →
        learn_count (e ∷ es) ≡ cond (is_learn e) 1 0 + learn_count es → (1 + tick_count es) * (2 * length os + 1) ≡ (2 * length os + 1) + tick_count es * (2 * length os + 1) → extras os (e ∷ es) ≡ tick_count (e ∷ es) * (2 * length os + 1) + 5 * crash_count (e ∷ es) + 2 * learn_count (e ∷ es)
    one (Take node number) h t c l m = omega (arith, h, t, c, l)
    one (Go node) h t c l m = omega (arith, h, t, c, l)
    one (Learn node stamp committed) h t c l m = omega (arith, h, t, c, l)
    one (Hear node) h t c l m = omega (arith, h, t, c, l)
    one (Gate node) h t c l m = omega (arith, h, t, c, l)
    one (Crash node kept) h t c l m = omega (arith, h, t, c, l)
    one (Down node cause) h t c l m = omega (arith, h, t, c, l)
    one (Tick moment) h t c l m = omega (arith, h, t, c, l, m)

start-load : (b : Base) (os : List Opened) → sum_over (node_load (start_world b)) os ≤ 3 * length os
start-load b [] = omega arith
start-load b (o ∷ os) = let h = start-load b os in let u = up-most (is_some (opened_log b.opened o.node)) in omega (arith, h, u)
  where
    up-most : (c : Bool) → weighs c 1 ≤ 1
    up-most true = omega arith
    up-most false = omega arith

pub entries-few : (script : List ℕ → Tree) (plan : Plan) (asked : List Asked) (t : Trace) → Legal script plan asked t → length t.entries ≤ entries_by t
entries-few script plan asked t legal =
    let h = all-loads (base_of script plan t) (fates_of t.sent) t.opened (λ n. (let i = times-counted n t.opened in let j = legal.nodes.once n in omega (arith, i, j))) (start_world (base_of script plan t)) t.entries (λ n. refl) (λ n up. up) legal.meets in
    let s = start-load (base_of script plan t) t.opened in
    let c = left-start 1 (fates_of t.sent) in
    omega (arith, h, s, c, extras-counted t.opened t.entries)
