-- Rules and the fates that they ask for.
use Rattle.world_core.proofs.Names.{NodeId, Fate, Entry, Take, Go, Learn, Hear, Gate, Crash, Down, Tick, Base, Sending, World, step, walk_from, Rule, Meets, ◌≡◌, ℕ, ◌+◌, ◌≤◌, List, [], ◌∷◌, ◌++◌, length, ap, ◌∙◌, arith, length-append, MayTake, IsIdle}
use Rattle.world_core.proofs.Lists.{numbered-append, numbered-front}
use Rattle.world_core.proofs.Lives.{sendings-walk}

module _ (b : Base) where
  -- ---- more fates

  take-grown : (fates more : List Fate) (w : World) (n : NodeId) (number : ℕ) → MayTake fates w n number → MayTake (fates ++ more) w n number
  take-grown fates more w n number h = record {
    up = h.up;
    heard = h.heard;
    gone = h.gone;
    sending = h.sending;
    sent = h.sent;
    to = h.to;
    fate = h.fate;
    fated = numbered-append fates more number h.fate h.fated;
    fewer = h.fewer;
    released = h.released;
  }

  idle-grown : (fates more : List Fate) (w : World) (n : NodeId) → IsIdle fates w n → IsIdle (fates ++ more) w n
  idle-grown fates more w n h = record {
    taken = λ number s sent to. ((h.taken number s sent to).0, numbered-append fates more number (h.taken number s sent to).0 (h.taken number s sent to).1, (h.taken number s sent to).2);
    closed = h.closed;
    heard = h.heard;
    gone = h.gone;
  }

  pub rule-grown : (fates more : List Fate) (w : World) (e : Entry) → Rule b fates w e → Rule b (fates ++ more) w e
  rule-grown fates more w (Take n number) h = take-grown fates more w n number h
  rule-grown fates more w (Go n) h = h
  rule-grown fates more w (Learn n stamp committed) h = h
  rule-grown fates more w (Hear n) h = h
  rule-grown fates more w (Gate n) h = h
  rule-grown fates more w (Crash n kept) h = h
  rule-grown fates more w (Down n cause) h = h
  rule-grown fates more w (Tick moment) h = record { idle = λ n up. idle-grown fates more w n (h.idle n up); above = h.above; most = h.most }

  pub meets-grown : (fates more : List Fate) (w : World) (es : List Entry) → Meets b fates w es → Meets b (fates ++ more) w es
  unfolding Meets
  meets-grown fates more w [] h = tt
  meets-grown fates more w (e ∷ es) h = (rule-grown fates more w e h.0, meets-grown fates more (step b w e) es h.1)

  -- ---- fates of messages that were sent

  take-asks : (fates more : List Fate) (w : World) (n : NodeId) (number : ℕ) → length w.sendings ≤ length fates → MayTake (fates ++ more) w n number → MayTake fates w n number
  take-asks fates more w n number most h = record {
    up = h.up;
    heard = h.heard;
    gone = h.gone;
    sending = h.sending;
    sent = h.sent;
    to = h.to;
    fate = h.fate;
    fated = numbered-front fates more w.sendings number h.fate h.sending most h.sent h.fated;
    fewer = h.fewer;
    released = h.released;
  }

  idle-asks : (fates more : List Fate) (w : World) (n : NodeId) → length w.sendings ≤ length fates → IsIdle (fates ++ more) w n → IsIdle fates w n
  idle-asks fates more w n most h = record {
    taken = λ number s sent to.
        ((h.taken number s sent to).0, numbered-front fates more w.sendings number (h.taken number s sent to).0 s most sent (h.taken number s sent to).1, (h.taken number s sent to).2);
    closed = h.closed;
    heard = h.heard;
    gone = h.gone;
  }

  -- a rule asks for fates of messages that were sent before
  rule-asks : (fates more : List Fate) (w : World) (e : Entry) → length w.sendings ≤ length fates → Rule b (fates ++ more) w e → Rule b fates w e
  rule-asks fates more w (Take n number) most h = take-asks fates more w n number most h
  rule-asks fates more w (Go n) most h = h
  rule-asks fates more w (Learn n stamp committed) most h = h
  rule-asks fates more w (Hear n) most h = h
  rule-asks fates more w (Gate n) most h = h
  rule-asks fates more w (Crash n kept) most h = h
  rule-asks fates more w (Down n cause) most h = h
  rule-asks fates more w (Tick moment) most h = record { idle = λ n up. idle-asks fates more w n most (h.idle n up); above = h.above; most = h.most }

  fewer-before : (w : World) (es : List Entry) (n : ℕ) → length (walk_from b w es).sendings ≤ n → length w.sendings ≤ n
  fewer-before w es n h =
      let g : (new : List Sending) × ((walk_from b w es).sendings ≡ w.sendings ++ new) = sendings-walk b w es in
      omega (arith, h, ap length g.1 ∙ length-append w.sendings g.0)

  pub meets-asks : (fates more : List Fate) (w : World) (es : List Entry) → length (walk_from b w es).sendings ≤ length fates → Meets b (fates ++ more) w es → Meets b fates w es
  unfolding Meets walk_from
  meets-asks fates more w [] most h = tt
  meets-asks fates more w (e ∷ es) most h = (rule-asks fates more w e (fewer-before w (e ∷ es) (length fates) most) h.0, meets-asks fates more (step b w e) es most h.1)

  -- ---- fronts and ends

  pub meets-front : (fates : List Fate) (w : World) (front rest : List Entry) → Meets b fates w (front ++ rest) → Meets b fates w front
  unfolding Meets
  meets-front fates w [] rest h = tt
  meets-front fates w (e ∷ front) rest h = (h.0, meets-front fates (step b w e) front rest h.1)

  pub meets-more : (fates : List Fate) (w : World) (es : List Entry) (e : Entry) → Meets b fates w es → Rule b fates (walk_from b w es) e → Meets b fates w (es ++ e ∷ [])
  unfolding Meets walk_from
  meets-more fates w [] e h r = (r, tt)
  meets-more fates w (f ∷ es) e h r = (h.0, meets-more fates (step b w f) es e h.1 r)
