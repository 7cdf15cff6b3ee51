-- What learning, and then closing, leave of a node's durable log.
use Rattle.node_turn.proofs.Names.{NodeId, Effect, Entry, Base, Life, all_effects, crashed_life, walk, WireParts, base_from, Decided, Sight, origin_in, base_at, world_at, Trail, is_known, Learning as learns, ◌≡◌, ◌≢◌, ℕ, ◌+◌, ◌<◌, Bool, true, false, List, [], ◌∷◌, ◌++◌, length, take, Option, sym, ap, subst, ◌∙◌, arith, append_assoc, append-nil, take_all, take_more, get_or}
use Rattle.std.proofs.Common.{zero, suc}
use Rattle.node_inputs.specs.Lists.{Every}
use Rattle.node_inputs.specs.Legal.{IsDecidedAs}
use Rattle.node_inputs.specs.WorldNodes.{gives, kind_gives, Mind}
use Rattle.node_inputs.specs.Walks.{after_input}
use Rattle.node_inputs.specs.NodeNames.{is_broker}
use Rattle.node_inputs.specs.StampParts.{StampParts}
use Rattle.node_inputs.specs.Questions.{Tree}
use Rattle.node_inputs.proofs.WorldLives.{stands-stays}
use Rattle.pseudo_time.specs.declared.nodes.NodeKind.{NodeKind}
use Rattle.pseudo_time.specs.declared.nodes.NodeKind.TheVariants.{Repository, Broker}
use Rattle.pseudo_time.proofs.ListLemmas.{every-append}
use Rattle.value_form.specs.declared.acts.ActSpec.{ActSpec}
use Rattle.node_turn.specs.declared.conditions.Condition.{Condition}
use Rattle.node_turn.specs.declared.conditions.Condition.TheVariants as condition
use Rattle.node_turn.specs.Settles.{AreKnown, Closes, IsLearned, Learning, Learns, Stand}
use Rattle.node_turn.proofs.SeekLemmas.{knows-more}
use Rattle.node_turn.proofs.LearnLemmas.{hand-learns}

pub up-found : (c : Condition) → c ≡ condition.AtWork → c ≢ condition.Wanting
up-found c up e = absurd (apart (sym up ∙ e)) where
  apart : condition.AtWork ≢ condition.Wanting
  apart e = cc

-- ---- closing

-- no new effect is kept
pub closes-none : (l x : Life) → x ≡ l → Closes l x
closes-none l x e = (0, ap (λ (y : Life). y.gated) e ∙ sym (append-nil l.gated))

pub closes-after : (l x y : Life) → x ≡ l → Closes x y → Closes l y
closes-after l x y e k = subst (λ (z : Life). Closes z y) e k

pub closes-crashed : (start kept : ℕ) (l x : Life) → x ≡ crashed_life start kept l → Closes l x
closes-crashed start kept l x e = (kept, ap (λ (y : Life). y.gated) e)

pub closes-gated : (l x : Life) → x.gated ≡ all_effects l → Closes l x
closes-gated l x e = (length l.fresh, e ∙ ap (λ (es : List Effect). l.gated ++ es) (sym (take_all (length l.fresh) l.fresh (omega arith))))

-- ---- learning

pub learning-none : (l x : Life) → x ≡ l → Learning l x
learning-none l x e = record {
  gated = ap (λ (y : Life). y.gated) e;
  fresh = record { more = []; is = ap (λ (y : Life). y.fresh) e ∙ sym (append-nil l.fresh); each = tt };
}

pub learning-joins : (a b c : Life) → Learning a b → Learning b c → Learning a c
learning-joins a b c p q = record {
  gated = q.gated ∙ p.gated;
  fresh = record {
    more = p.fresh.more ++ q.fresh.more;
    is = q.fresh.is ∙ (ap (λ (es : List Effect). es ++ q.fresh.more) p.fresh.is ∙ append_assoc a.fresh p.fresh.more q.fresh.more);
    each = every-append IsLearned p.fresh.more q.fresh.more p.fresh.each q.fresh.each;
  };
}

kind-learns : (script : List ℕ → Tree) (run : ℕ) (acts : List ActSpec) (k : NodeKind) (i : ℕ) (log : List Effect) (mind : Mind) (s : StampParts) (c : Bool)
    → is_broker k ≡ false → Every IsLearned (kind_gives script run acts k i log mind (learns s c)).effects
kind-learns script run acts Repository i log mind s c h = hand-learns i log mind.hands s c
kind-learns script run acts Broker i log mind s c h = absurd (cc h)

gives-learns : (b : Base) (n : NodeId) (log : List Effect) (mind : Mind) (s : StampParts) (c : Bool) → is_broker n.kind ≡ false → Every IsLearned (gives b.script b.run b.acts n log mind (learns s c)).effects
unfolding gives
gives-learns b n log mind s c h = kind-learns b.script b.run b.acts n.kind n.number log mind s c h

pub learning-told : (b : Base) (n : NodeId) (l x : Life) (s : StampParts) (c : Bool) → is_broker n.kind ≡ false → x ≡ after_input b n l (learns s c) → Learning l x
learning-told b n l x s c repository e = record {
  gated = ap (λ (y : Life). y.gated) e;
  fresh = record {
    more = (gives b.script b.run b.acts n (all_effects l) l.mind (learns s c)).effects;
    is = ap (λ (y : Life). y.fresh) e;
    each = gives-learns b n (all_effects l) l.mind s c repository;
  };
}

every-take : (n : ℕ) (es : List Effect) → Every IsLearned es → Every IsLearned (take n es)
every-take n [] h = none n
  where
    none : (m : ℕ) → Every IsLearned (take m [])
    none zero = tt
    none (suc m) = tt
every-take zero (e ∷ es) h = tt
every-take (suc n) (e ∷ es) h = (h.0, every-take n es h.1)

-- a node with nothing open learned, and then its turn was closed
pub learns-closed : (l x y : Life) → l.fresh ≡ [] → Learning l x → Closes x y → Learns l.gated y.gated
learns-closed l x y none p k =
    let fresh : x.fresh ≡ p.fresh.more = p.fresh.is ∙ ap (λ (es : List Effect). es ++ p.fresh.more) none in
    record {
      more = take k.0 p.fresh.more;
      is = k.1 ∙ (ap (λ (es : List Effect). es ++ take k.0 x.fresh) p.gated ∙ ap (λ (es : List Effect). l.gated ++ take k.0 es) fresh);
      each = every-take k.0 p.fresh.more p.fresh.each;
    }

-- ---- what is known

log-learned : (l x : Life) (p : Learning l x) → all_effects x ≡ all_effects l ++ p.fresh.more
log-learned l x p = ap (λ (es : List Effect). es ++ x.fresh) p.gated ∙ (ap (λ (es : List Effect). l.gated ++ es) p.fresh.is ∙ sym (append_assoc l.gated l.fresh p.fresh.more))

known-longer : (log more : List Effect) (ds : List Decided) → AreKnown log ds → AreKnown (log ++ more) ds
known-longer log more [] h = tt
known-longer log more (d ∷ ds) h = (knows-more log more d.0 h.0, known-longer log more ds h.1)

pub known-later : (l x : Life) (ds : List Decided) → Learning l x → AreKnown (all_effects l) ds → AreKnown (all_effects x) ds
known-later l x ds p h = subst (λ (log : List Effect). AreKnown log ds) (sym (log-learned l x p)) (known-longer (all_effects l) p.fresh.more ds h)

pub known-next : (log : List Effect) (i : ℕ) (ds : List Decided) (d e : Decided) → i < length ds → e ≡ get_or ds i d → AreKnown log (take i ds) → is_known log e.0 ≡ true → AreKnown log (take (i + 1) ds)
known-next log i ds d e lt at h k =
    subst (AreKnown log) (sym (take_more ds i d lt))
    (every-append (λ (x : Decided). is_known log x.0 ≡ true) (take i ds) (get_or ds i d ∷ []) h (subst (λ (x : Decided). is_known log x.0 ≡ true) at k, tt))

-- where nothing is open the durable log is all
pub known-rest : (l : Life) (ds : List Decided) → l.fresh ≡ [] → AreKnown (all_effects l) ds → AreKnown l.gated ds
known-rest l ds none h = subst (λ (log : List Effect). AreKnown log ds) (ap (λ (es : List Effect). l.gated ++ es) none ∙ append-nil l.gated) h

-- ---- what stands

stand-more : (b : Base) (es more : List Entry) (ds : List Decided) → Stand (walk b es) ds → Stand (walk b (es ++ more)) ds
stand-more b es more [] h = tt
stand-more b es more (d ∷ ds) h = (stands-stays b es more d.0 d.1 h.0, stand-more b es more ds h.1)

pub stand-on : (n : NodeId) {k x : Sight} {learned : List Decided} (ds : List Decided) → Trail n k x [] learned [] 0 → Stand (world_at k) ds → Stand (world_at x) ds
stand-on n {k} {x} {learned} ds t h =
    let b : base_at x ≡ base_at k = ap (λ (w : Option WireParts). base_from (origin_in w)) t.base in
    subst (λ (y : Base). Stand (walk y x.story) ds) (sym b) (subst (λ (l : List Entry). Stand (walk (base_at k) l) ds) (sym t.story) (stand-more (base_at k) k.story t.rest ds h))

pub stand-at : (w : _) (i : ℕ) (ds : List Decided) (d : Decided) → i < length ds → Stand w ds → IsDecidedAs w (get_or ds i d).0 (get_or ds i d).1
stand-at w i [] d lt h = absurd (omega (arith, lt))
stand-at w zero (x ∷ ds) d lt h = h.0
stand-at w (suc i) (x ∷ ds) d lt h = stand-at w i ds d (omega (arith, lt)) h.1
