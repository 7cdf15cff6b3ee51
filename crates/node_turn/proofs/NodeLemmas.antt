-- What a node keeps while others move on, at rest, and over a turn.
use Rattle.node_turn.proofs.Names.{NodeId, is_broker, DownCause, Image, LeftNow, knows, Entry, Flags, WireParts, Sight, life_at, Looked, no_draft, IsUp, IsDown, costs, PaysFor, HasTested, PassesOn, Adds, Grew, ◌≡◌, ◌≢◌, ℕ, Bool, false, Result, Ok, Err, IsTrue, IfOk, OnOk, refl, sym, ap, subst, ◌∙◌, MatchBool, Media, Meanings, Keeps, NodeParts, IsCondition, IsQuiet, Answers, Does, StaysWhole, TurnsTo, IsAtRest}
use Rattle.node_inputs.specs.Seat.{Seat}
use Rattle.node_inputs.specs.View.{View}
use Rattle.node_turn.specs.declared.conditions.Condition.{Condition}
use Rattle.node_turn.specs.declared.conditions.Condition.TheVariants as condition
use Rattle.node_turn.specs.declared.conditions.Turned.{Turned}
use Rattle.node_turn.specs.declared.conditions.Turned.TheVariants.{Worked, Quiet, Stopped}
use Rattle.node_inputs.proofs.LifeLemmas.{Follows, follows-looked, flags-seen, life-looked, up-looked, up-stored, stored-looked}
use Rattle.node_turn.proofs.FallLemmas.{cause-same}
use Rattle.node_turn.proofs.PageLemmas.{whole-same}
use Rattle.node_turn.proofs.PhaseLemmas.{passes-stored}
use Rattle.node_turn.proofs.SeekLemmas.{tested-none}
use Rattle.node_inputs.proofs.TrailLemmas.{trail-none, adds-none}

-- a node's pass
abbrev Pass : Type 0
Pass = Seat WireParts (View WireParts Entry)

module _ {K M : Type 0} (w : Media M) (m : Meanings K M) where
  -- ---- what is kept

  -- a node as contracts see it
  abbrev seen : NodeId → Condition → Pass → K → NodeParts M
  seen n c pass core = record { node = n; condition = c; pass = pass; medium = (m.parts core).medium }

  keeps-at : (core : K) (k : Sight) (n : NodeId) (gone : Bool) (durable : ℕ) (c x : Condition) → c ≡ x → Keeps w m c core k n gone durable
      → Keeps w m x core k n gone durable
  keeps-at core k n gone durable c x e h = subst (λ (y : Condition). Keeps w m y core k n gone durable) e h

  pub keeps-up : (core : K) (k : Sight) (n : NodeId) (gone : Bool) (durable : ℕ) (c : Condition) → c ≡ condition.AtWork → Keeps w m c core k n gone durable
      → IsUp w m core k n gone false (no_draft durable)
  keeps-up core k n gone durable c e h = keeps-at core k n gone durable c condition.AtWork e h

  -- ---- others move on

  down-looked : {core : K} {k k' : Sight} {n : NodeId} {cause : DownCause} → IsDown w m core k n cause → Looked k k' → IsDown w m core k' n cause
  down-looked {core} {k} {k'} {n} {cause} d look =
      let f : Follows n k k' = follows-looked n look in
      record {
        stored = stored-looked d.stored look;
        down = ap (λ (x : Flags). x.up) (flags-seen n k k' f.base look.before d.stored.own) ∙ d.down;
        due = ap (λ (x : Flags). x.due) (flags-seen n k k' f.base look.before d.stored.own) ∙ d.due;
        before = d.before;
        last = ap (λ (s : Sight). s.own) look.kept ∙ d.last;
        caused = cause-same w cause (m.parts core).medium (life_at k n) (life_at k' n) (λ t. life-looked n d.stored.own look) d.caused;
      }

  pub keeps-looked : (core : K) (k k' : Sight) (n : NodeId) (gone : Bool) (durable : ℕ) (c : Condition) → Keeps w m c core k n gone durable → Looked k k'
      → Keeps w m c core k' n gone durable
  keeps-looked core k k' n gone durable condition.AtWork u look = up-looked u look
  keeps-looked core k k' n gone durable (condition.Down cause) d look = down-looked d look
  keeps-looked core k k' n gone durable condition.Wanting s look = stored-looked s look

  -- ---- at rest

  rest-seen : (core : K) (n : NodeId) (gone : Bool) (durable : ℕ) (pass : Pass) (c : Condition) → Keeps w m c core (knows pass) n gone durable
      → IsAtRest w (seen n c pass core)
  rest-seen core n gone durable pass condition.AtWork u = record { own = u.own; kept = (up-stored u).kept; stands = (ap (λ (x : Flags). x.up) u.flags, λ t. sym (u.life t).effects) }
  rest-seen core n gone durable pass (condition.Down cause) d = record { own = d.stored.own; kept = d.stored.kept; stands = (d.down, d.due, (d.before, d.last), d.caused) }
  rest-seen core n gone durable pass condition.Wanting s = record { own = s.own; kept = s.kept; stands = tt }

  pub keeps-rest : (core : K) (n : NodeId) (gone : Bool) (durable : ℕ) (pass : Pass) (c : Condition) → Keeps w m c core (knows pass) n gone durable
      → {old : NodeParts M} → seen n c pass core ≡ old → IsAtRest w old
  keeps-rest core n gone durable pass c h {old} view = subst (IsAtRest w) view (rest-seen core n gone durable pass c h)

  -- ---- a turn

  -- a node that was down already
  pub turned-down : {E : Type 0} (only : (x : M) (c : Image) → IsTrue w.tells → LeftNow (w.stages x) c → w.may_leave x c) (core : K) (n : NodeId) (gone : Bool) (durable : ℕ) (pass : Pass) (c : Condition) (cause : DownCause) → c ≡ condition.Down cause
      → Keeps w m c core (knows pass) n gone durable → {old : NodeParts M} → seen n c pass core ≡ old → TurnsTo {E = E} w old (seen n c pass core) (Ok Stopped)
  turned-down {E} only core n gone durable pass c cause e h {old} view =
      let d : IsDown w m core (knows pass) n cause = keeps-at core (knows pass) n gone durable c (condition.Down cause) e h in
      subst (λ (p : NodeParts M). TurnsTo {E = E} w p (seen n c pass core) (Ok Stopped)) view (record {
        node = refl;
        answers = (cause, e);
        does = d.down;
        adds = adds-none (knows pass).own;
        paid = λ first r. r;
        whole = λ t same. whole-same (w.reads (m.parts core).medium);
        tested = λ t repository. tested-none n (knows pass) (knows pass) 0 (trail-none n (knows pass));
        passes = λ t. passes-stored w only d.stored t;
      })

  -- a node that had found no memory before
  pub turned-wanting : {E : Type 0} (core : K) (n : NodeId) (pass : Pass) (c : Condition) (x : E) → c ≡ condition.Wanting → {old : NodeParts M} → seen n c pass core ≡ old
      → TurnsTo w old (seen n c pass core) (Err x)
  turned-wanting {E} core n pass c x e {old} view =
      subst (λ (p : NodeParts M). TurnsTo {E = E} w p (seen n c pass core) (Err x)) view (record {
        node = refl;
        answers = e;
        does = tt;
        adds = adds-none (knows pass).own;
        paid = λ first r. r;
        whole = λ t. tt;
        tested = λ t repository. tested-none n (knows pass) (knows pass) 0 (trail-none n (knows pass));
        passes = λ t. tt;
      })

  -- a node that was at work
  module _ {E : Type 0} (core new : K) (n : NodeId) (gone : Bool) (durable : ℕ) (pass pass' : Pass) (c c' : Condition) (quiet : Bool) where
    does-answer : (r : Result Turned E) → Keeps w m c' new (knows pass') n gone durable → IsCondition r c' → IfOk r (Answers quiet)
        → MatchBool quiet (IsQuiet n (knows pass) (knows pass') × (c' ≡ condition.AtWork)) (c' ≡ condition.AtWork → Grew (knows pass).own (knows pass').own)
        → IfOk r (λ t. Does t n (knows pass) (knows pass'))
    does-answer (Ok Worked) h is answers q =
        let u : IsUp w m new (knows pass') n gone false (no_draft durable) = keeps-at new (knows pass') n gone durable c' condition.AtWork is h in (
          subst (λ (b : Bool). MatchBool b (IsQuiet n (knows pass) (knows pass') × (c' ≡ condition.AtWork)) (c' ≡ condition.AtWork → Grew (knows pass).own (knows pass').own)) answers q is,
          ap (λ (x : Flags). x.up) u.flags,
        )
    does-answer (Ok Quiet) h is answers q =
        let u : IsUp w m new (knows pass') n gone false (no_draft durable) = keeps-at new (knows pass') n gone durable c' condition.AtWork is h in (
          (subst (λ (b : Bool). MatchBool b (IsQuiet n (knows pass) (knows pass') × (c' ≡ condition.AtWork)) (c' ≡ condition.AtWork → Grew (knows pass).own (knows pass').own)) answers q).0,
          ap (λ (x : Flags). x.up) u.flags,
        )
    does-answer (Ok Stopped) h is answers q =
        let d : IsDown w m new (knows pass') n is.0 = keeps-at new (knows pass') n gone durable c' (condition.Down is.0) is.1 h in
        d.down
    does-answer (Err x) h is answers q = tt

    whole-answer : (r : Result Turned E) → IsCondition r c' → (W : Type 0) → (c' ≢ condition.Wanting → W) → OnOk r W
    whole-answer (Ok Worked) is W h = h (λ z. let x : condition.AtWork ≡ condition.Wanting = sym is ∙ z in cc x)
    whole-answer (Ok Quiet) is W h = h (λ z. let x : condition.AtWork ≡ condition.Wanting = sym is ∙ z in cc x)
    whole-answer (Ok Stopped) is W h = h (λ z. let x : condition.Down is.0 ≡ condition.Wanting = sym is.1 ∙ z in cc x)
    whole-answer (Err e) is W h = tt

    pub turned-working : (r : Result Turned E) → Keeps w m c' new (knows pass') n gone durable → IsCondition r c' → IfOk r (Answers quiet)
        → MatchBool quiet (IsQuiet n (knows pass) (knows pass') × (c' ≡ condition.AtWork)) (c' ≡ condition.AtWork → Grew (knows pass).own (knows pass').own)
        → Adds (knows pass).own (knows pass').own
        → PaysFor (costs (knows pass).own) (w.faults (m.parts core).medium) (costs (knows pass').own) (w.faults (m.parts new).medium)
        → (IsTrue w.tells → c' ≢ condition.Wanting → StaysWhole (costs (knows pass).own) (costs (knows pass').own) (w.reads (m.parts core).medium) (w.reads (m.parts new).medium))
        → (IsTrue w.tells → is_broker n.kind ≡ false → HasTested n (knows pass) (knows pass'))
        → (IsTrue w.tells → c' ≢ condition.Wanting → PassesOn n (knows pass) (knows pass') (w.stages (m.parts core).medium) (w.stages (m.parts new).medium))
        → {old : NodeParts M} → seen n c pass core ≡ old → TurnsTo w old (seen n c' pass' new) r
    turned-working r h is answers q adds paid whole tested passes {old} view = subst (λ (p : NodeParts M). TurnsTo {E = E} w p (seen n c' pass' new) r) view (record {
      node = refl;
      answers = is;
      does = does-answer r h is answers q;
      adds = adds;
      paid = paid;
      whole = λ t. whole-answer r is (StaysWhole (costs (knows pass).own) (costs (knows pass').own) (w.reads (m.parts core).medium) (w.reads (m.parts new).medium)) (whole t);
      tested = tested;
      passes = λ t. whole-answer r is (PassesOn n (knows pass) (knows pass') (w.stages (m.parts core).medium) (w.stages (m.parts new).medium)) (passes t);
    })
