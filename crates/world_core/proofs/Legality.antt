-- Legal traces, their fronts, and one entry more.
use Rattle.world_core.proofs.Names.{NodeId, Effect, Post, Asked, Tree, Plan, Entry, Trace, Base, Sending, World, sent_by, start_world, step, walk_from, walk, Scripted, Rule, Meets, Legal, base_of, fates_of, in_plan, Call, HasPast, log_left, logs_after, ◌≡◌, ℕ, suc, ◌+◌, ◌≤◌, Bool, true, false, List, [], ◌∷◌, ◌++◌, map, length, refl, sym, ap, subst, ◌∙◌, append_assoc, arith, if◌then◌else◌, append-nil, map-append, length-map, AllReady, JustNodes, Numbered, post_of, asked_of, IsCall}
use Rattle.world_core.specs.declared.traces.Sent.{Sent}
use Rattle.world_core.proofs.Lists.{map-front}
use Rattle.world_core.proofs.Lives.{walk-append, walk-more, sent-walk}
use Rattle.world_core.proofs.Rules.{rule-grown, meets-grown, meets-asks, meets-front, meets-more}

numbered-left : (k : ℕ) (xs ys : List Sent) → Numbered k (xs ++ ys) → Numbered k xs
numbered-left k [] ys h = tt
numbered-left k (x ∷ xs) ys h = (h.0, numbered-left (suc k) xs ys h.1)

pub numbered-join : (k : ℕ) (xs ys : List Sent) → Numbered k xs → Numbered (length xs + k) ys → Numbered k (xs ++ ys)
numbered-join k [] ys h g = subst (λ n. Numbered n ys) (omega arith) g
numbered-join k (x ∷ xs) ys h g = (h.0, numbered-join (suc k) xs ys h.1 (subst (λ n. Numbered n ys) (omega arith) g))

-- as many fates as messages
fates-size : (w : World) (sent : List Sent) → map post_of sent ≡ sent_by w → length w.sendings ≤ length (fates_of sent)
fates-size w sent h = omega (arith, length-map sent (λ (s : Sent). s.fate), length-map sent post_of, length-map w.sendings (λ (s : Sending). s.post), ap length h)

-- without entries
pub begins-legal : (script : List ℕ → Tree) (plan : Plan) (asked : List Asked) (t : Trace) → Scripted script plan.acts → JustNodes plan t.opened → AllReady (base_of script plan t)
    → t.sent ≡ [] → t.entries ≡ [] → Legal script plan asked t
unfolding Meets walk_from
begins-legal script plan asked t scripted nodes ready none still = record {
  scripted = scripted;
  nodes = nodes;
  ready = ready;
  meets = subst (λ es. Meets (base_of script plan t) (fates_of t.sent) (start_world (base_of script plan t)) es) (sym still) tt;
  sent = ap (map post_of) none ∙ sym (ap (λ es. sent_by (walk (base_of script plan t) es)) still);
  numbers = subst (Numbered 1) (sym none) tt;
  before = asked;
  fated = sym (append-nil asked) ∙ ap (λ l. asked ++ map asked_of l) (sym none);
}

pub before-legal : (script : List ℕ → Tree) (plan : Plan) (asked : List Asked) (t : Trace) (front rest : List Entry) → Legal script plan asked t → t.entries ≡ front ++ rest
    → (sent later : List Sent) × (older : List Asked) × (t.sent ≡ sent ++ later) × (asked ≡ older ++ map asked_of later)
    × Legal script plan older (record { start = t.start; opened = t.opened; sent = sent; entries = front })
before-legal script plan asked t front rest legal here =
    let b : Base = base_of script plan t in
    let w : World = walk (base_of script plan t) front in
    let grown : (late : List Post) × (sent_by (walk_from (base_of script plan t) (walk (base_of script plan t) front) rest) ≡ sent_by (walk (base_of script plan t) front) ++ late) = sent-walk (base_of script plan t) (walk (base_of script plan t) front) rest in
    let all : map post_of t.sent ≡ sent_by (walk (base_of script plan t) front) ++ grown.0 =
    legal.sent ∙ ap (λ es. sent_by (walk (base_of script plan t) es)) here ∙ ap sent_by (walk-append (base_of script plan t) (start_world (base_of script plan t)) front rest) ∙ grown.1 in
    let cut : (us vs : List Sent) × (t.sent ≡ us ++ vs) × (map post_of us ≡ sent_by (walk (base_of script plan t) front)) = map-front post_of t.sent (sent_by (walk (base_of script plan t) front)) grown.0 all in
    let meets : Meets (base_of script plan t) (fates_of cut.0 ++ fates_of cut.1) (start_world (base_of script plan t)) (front ++ rest) =
    subst (λ fates. Meets (base_of script plan t) fates (start_world (base_of script plan t)) (front ++ rest)) (ap fates_of cut.2 ∙ map-append (λ (s : Sent). s.fate) cut.0 cut.1)
    (subst (λ es. Meets (base_of script plan t) (fates_of t.sent) (start_world (base_of script plan t)) es) here legal.meets) in (
      cut.0,
      cut.1,
      legal.before ++ map asked_of cut.0,
      cut.2,
      legal.fated ∙ ap (λ l. legal.before ++ map asked_of l) cut.2 ∙ ap (λ l. legal.before ++ l) (map-append asked_of cut.0 cut.1) ∙ sym (append_assoc legal.before (map asked_of cut.0) (map asked_of cut.1)),
      record {
        scripted = legal.scripted;
        nodes = legal.nodes;
        ready = legal.ready;
        meets = meets-asks (base_of script plan t) (fates_of cut.0) (fates_of cut.1) (start_world (base_of script plan t)) front (fates-size w cut.0 cut.3)
            (meets-front (base_of script plan t) (fates_of cut.0 ++ fates_of cut.1) (start_world (base_of script plan t)) front rest meets);
        sent = cut.3;
        numbers = numbered-left 1 cut.0 cut.1 (subst (Numbered 1) cut.2 legal.numbers);
        before = legal.before;
        fated = refl;
      },
    )

pub goes-on : (script : List ℕ → Tree) (plan : Plan) (asked : List Asked) (t : Trace) (e : Entry) (new : List Sent) → Legal script plan asked t
    → Rule (base_of script plan t) (fates_of t.sent) (walk (base_of script plan t) t.entries) e
    → sent_by (step (base_of script plan t) (walk (base_of script plan t) t.entries) e) ≡ sent_by (walk (base_of script plan t) t.entries) ++ map post_of new
    → Numbered (length t.sent + 1) new
    → Legal script plan (asked ++ map asked_of new) (record { start = t.start; opened = t.opened; sent = t.sent ++ new; entries = t.entries ++ e ∷ [] })
goes-on script plan asked t e new legal rule sends numbers = record {
  scripted = legal.scripted;
  nodes = legal.nodes;
  ready = legal.ready;
  meets = meets-more (base_of script plan t) (fates_of (t.sent ++ new)) (start_world (base_of script plan t)) t.entries e
      (subst (λ fates. Meets (base_of script plan t) fates (start_world (base_of script plan t)) t.entries) (sym (map-append (λ (s : Sent). s.fate) t.sent new))
      (meets-grown (base_of script plan t) (fates_of t.sent) (fates_of new) (start_world (base_of script plan t)) t.entries legal.meets))
      (subst (λ fates. Rule (base_of script plan t) fates (walk (base_of script plan t) t.entries) e) (sym (map-append (λ (s : Sent). s.fate) t.sent new))
      (rule-grown (base_of script plan t) (fates_of t.sent) (fates_of new) (walk (base_of script plan t) t.entries) e rule));
  sent = map-append post_of t.sent new ∙ ap (λ l. l ++ map post_of new) legal.sent ∙ sym sends ∙ ap sent_by (sym (walk-more (base_of script plan t) t.entries e));
  numbers = numbered-join 1 t.sent new legal.numbers numbers;
  before = legal.before;
  fated = ap (λ l. l ++ map asked_of new) legal.fated ∙ append_assoc legal.before (map asked_of t.sent) (map asked_of new) ∙ ap (λ l. legal.before ++ l) (sym (map-append asked_of t.sent new));
}

-- ---- pasts

pub past-none : (read : Plan → List ℕ → Tree) → HasPast read (λ n. [])
past-none read = ([], tt, λ n. refl)

call-agrees : (read : Plan → List ℕ → Tree) (logs others : NodeId → List Effect) (c : Call) → ((n : NodeId) → logs n ≡ others n) → IsCall read logs c → IsCall read others c
call-agrees read logs others c same h = record { agrees = λ n log at. h.agrees n log at ∙ same n; legal = h.legal; opened = h.opened }

pub past-more : (read : Plan → List ℕ → Tree) (logs after : NodeId → List Effect) (c : Call) → HasPast read logs → IsCall read logs c
    → ((n : NodeId) → in_plan c.plan n ≡ true → after n ≡ log_left read c n) → ((n : NodeId) → in_plan c.plan n ≡ false → after n ≡ logs n) → HasPast read after
past-more read logs after c past call mine others = (c ∷ past.0, (past.1, call-agrees read logs (logs_after read past.0) c past.2 call), λ n. left n (in_plan c.plan n) refl)
  where
    left : (n : NodeId) (t : Bool) → in_plan c.plan n ≡ t → after n ≡ logs_after read (c ∷ past.0) n
    left n true h = mine n h ∙ sym (ap (λ t. if t then log_left read c n else logs_after read past.0 n) h)
    left n false h = others n h ∙ past.2 n ∙ sym (ap (λ t. if t then log_left read c n else logs_after read past.0 n) h)
