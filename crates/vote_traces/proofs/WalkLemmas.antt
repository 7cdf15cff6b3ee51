-- A walk that goes on, and the rules of one entry more.
use Rattle.std.proofs.Common.{◌≡◌, ◌+◌, List, [], ◌∷◌, ◌++◌, map, length, refl, sym, ap, subst, ◌∙◌, append_assoc}
use Rattle.vote_traces.proofs.Names.{Asked, Fate, Line, Entry, Take, Go, Learn, Hear, Gate, Crash, Down, Tick, Trace, fates_of, Base, Hall, world_of, start_hall, step, walk_from, walk, Rule, Meets, Legal, base_of, append-nil, map-append, sent_by, Numbered, post_of, asked_of, JustVoters}
use Rattle.world_core.specs.declared.traces.Sent.{Sent}
use Rattle.world_core.proofs.Lists.{numbered-append}
use Rattle.world_core.proofs.Legality.{numbered-join}

module _ (b : Base) where
  pub walk-append : (h : Hall) (es more : List Entry) → walk_from b h (es ++ more) ≡ walk_from b (walk_from b h es) more
  unfolding walk_from
  walk-append h [] more = refl
  walk-append h (e ∷ es) more = walk-append (step b h e) es more

  -- one more entry is one more step
  pub walk-more : (es : List Entry) (e : Entry) → walk b (es ++ e ∷ []) ≡ step b (walk b es) e
  unfolding walk_from
  walk-more es e = walk-append (start_hall b) es (e ∷ [])

  -- ---- more fates

  take-grown : (fates more : List Fate) (h : Hall) (e : Entry) → Rule b fates h e → Rule b (fates ++ more) h e
  take-grown fates more h (Take n number) r = record {
    up = r.up;
    heard = r.heard;
    gone = r.gone;
    sending = r.sending;
    sent = r.sent;
    to = r.to;
    fate = r.fate;
    fated = numbered-append fates more number r.fate r.fated;
    fewer = r.fewer;
    released = r.released;
  }
  take-grown fates more h (Go n) r = r
  take-grown fates more h (Learn n stamp committed) r = r
  take-grown fates more h (Hear n) r = r
  take-grown fates more h (Gate n) r = r
  take-grown fates more h (Crash n kept) r = r
  take-grown fates more h (Down n cause) r = r
  take-grown fates more h (Tick moment) r = record {
    idle = λ n up. record {
      taken = λ number s sent to. (((r.idle n up).taken number s sent to).0, numbered-append fates more number ((r.idle n up).taken number s sent to).0 ((r.idle n up).taken number s sent to).1, ((r.idle n up).taken number s sent to).2);
      closed = (r.idle n up).closed;
      heard = (r.idle n up).heard;
      gone = (r.idle n up).gone;
    };
    above = r.above;
    most = r.most;
  }

  pub rule-grown : (fates more : List Fate) (h : Hall) (e : Entry) → Rule b fates h e → Rule b (fates ++ more) h e
  rule-grown = take-grown

  pub meets-grown : (fates more : List Fate) (h : Hall) (es : List Entry) → Meets b fates h es → Meets b (fates ++ more) h es
  unfolding Meets
  meets-grown fates more h [] m = tt
  meets-grown fates more h (e ∷ es) m = (rule-grown fates more h e m.0, meets-grown fates more (step b h e) es m.1)

  pub meets-more : (fates : List Fate) (h : Hall) (es : List Entry) (e : Entry) → Meets b fates h es → Rule b fates (walk_from b h es) e → Meets b fates h (es ++ e ∷ [])
  unfolding Meets walk_from
  meets-more fates h [] e m r = (r, tt)
  meets-more fates h (f ∷ es) e m r = (m.0, meets-more fates (step b h f) es e m.1 r)

  -- a front meets its rules, and what follows meets them behind it
  pub meets-parts : (fates : List Fate) (h : Hall) (front rest : List Entry) → Meets b fates h (front ++ rest) → Meets b fates h front × Meets b fates (walk_from b h front) rest
  unfolding Meets walk_from
  meets-parts fates h [] rest m = (tt, m)
  meets-parts fates h (e ∷ front) rest m = let p : Meets b fates (step b h e) front × Meets b fates (walk_from b (step b h e) front) rest = meets-parts fates (step b h e) front rest m.1 in ((m.0, p.0), p.1)

-- ---- legal traces

-- without entries
pub begins-legal : (lines : List Line) (asked : List Asked) (t : Trace) → JustVoters (length lines) t.opened → t.sent ≡ [] → t.entries ≡ [] → Legal lines asked t
unfolding Meets walk_from
begins-legal lines asked t nodes none still = record {
  nodes = nodes;
  meets = subst (λ es. Meets (base_of lines t) (fates_of t.sent) (start_hall (base_of lines t)) es) (sym still) tt;
  sent = ap (map post_of) none ∙ sym (ap (λ es. sent_by (world_of (walk (base_of lines t) es))) still);
  numbers = subst (Numbered 1) (sym none) tt;
  before = asked;
  fated = sym (append-nil asked) ∙ ap (λ l. asked ++ map asked_of l) (sym none);
}

-- with one entry more
pub goes-on : (lines : List Line) (asked : List Asked) (t : Trace) (e : Entry) (new : List Sent) → Legal lines asked t
    → Rule (base_of lines t) (fates_of t.sent) (walk (base_of lines t) t.entries) e
    → sent_by (world_of (step (base_of lines t) (walk (base_of lines t) t.entries) e)) ≡ sent_by (world_of (walk (base_of lines t) t.entries)) ++ map post_of new
    → Numbered (length t.sent + 1) new
    → Legal lines (asked ++ map asked_of new) (record { start = t.start; opened = t.opened; sent = t.sent ++ new; entries = t.entries ++ e ∷ [] })
goes-on lines asked t e new legal rule sends numbers = record {
  nodes = legal.nodes;
  meets = meets-more (base_of lines t) (fates_of (t.sent ++ new)) (start_hall (base_of lines t)) t.entries e
      (subst (λ fates. Meets (base_of lines t) fates (start_hall (base_of lines t)) t.entries) (sym (map-append (λ (s : Sent). s.fate) t.sent new))
      (meets-grown (base_of lines t) (fates_of t.sent) (fates_of new) (start_hall (base_of lines t)) t.entries legal.meets))
      (subst (λ fates. Rule (base_of lines t) fates (walk (base_of lines t) t.entries) e) (sym (map-append (λ (s : Sent). s.fate) t.sent new))
      (rule-grown (base_of lines t) (fates_of t.sent) (fates_of new) (walk (base_of lines t) t.entries) e rule));
  sent = map-append post_of t.sent new ∙ ap (λ l. l ++ map post_of new) legal.sent ∙ sym sends ∙ ap (λ (h : Hall). sent_by (world_of h)) (sym (walk-more (base_of lines t) t.entries e));
  numbers = numbered-join 1 t.sent new legal.numbers numbers;
  before = legal.before;
  fated = ap (λ l. l ++ map asked_of new) legal.fated ∙ append_assoc legal.before (map asked_of t.sent) (map asked_of new) ∙ ap (λ l. legal.before ++ l) (sym (map-append asked_of t.sent new));
}
