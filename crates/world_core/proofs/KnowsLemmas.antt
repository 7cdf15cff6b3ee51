-- A log that knows an attempt: it does so in whatever order it stands, and after the attempt was learned.
use Rattle.effect_form.specs.declared.effects.Effect.{Effect}
use Rattle.pseudo_time.specs.Nodes.{is_broker}
use Rattle.pseudo_time.specs.StampParts.{StampParts}
use Rattle.pseudo_time.specs.declared.nodes.NodeId.{NodeId}
use Rattle.pseudo_time.specs.declared.nodes.NodeKind.{NodeKind}
use Rattle.pseudo_time.specs.declared.nodes.NodeKind.TheVariants.{Broker, Repository}
use Rattle.repository_log.specs.Logs.{decided_by, is_for}
use Rattle.serial_model.specs.Questions.{Tree}
use Rattle.std.proofs.Common.{Bool, List, None, Option, Some, [], ap, append_assoc, false, if◌then◌else◌, is_some, not, refl, reverse, subst, sym, true, ℕ, ◌++◌, ◌==◌, ◌||◌, ◌∙◌, ◌∷◌, ◌≡◌}
use Rattle.std.proofs.lemmas.List.{reverse-append, reverse-reverse}
use Rattle.std.specs.List.{filter}
use Rattle.value_form.specs.declared.acts.ActSpec.{ActSpec}
use Rattle.world_core.specs.Nodes.{Mind, kind_gives}
use Rattle.world_core.specs.Nodes.Input.{Learning}
use Rattle.world_core.specs.Walks.{Base, Life, after_input, all_effects}
unfoldable use Rattle.world_core.specs.Nodes.{gives}
use Rattle.pseudo_time.specs.TimeParts.{TimeParts}
use Rattle.pseudo_time.specs.Order.{same_stamp}
use Rattle.pseudo_time.proofs.OrderLemmas.{same_stamp-self}
use Rattle.value_form.specs.declared.objects.ObjectId.{ObjectId}
use Rattle.effect_form.specs.declared.effects.Effect.TheVariants as effect
use Rattle.object_history.specs.declared.steps.ReadStep.{ReadStep}
use Rattle.object_history.specs.declared.steps.ReadStep.TheVariants as read
use Rattle.object_history.specs.Answers.{read_step}
use Rattle.repository_log.specs.Logs.{knows, known, marks}
use Rattle.repository_log.proofs.MarkLemmas.{knows-known}
use Rattle.repository_core.specs.HeldRead.{HeldRead}
use Rattle.repository_core.specs.Hands.{Hand, now, note, Mind as HandMind}
use Rattle.repository_core.specs.Rows.{read_as, read_known, on_read, reread, release, learn_as, on_learn, unhold, waits_for}
use Rattle.repository_core.specs.Turns as hands

or-right : (a b : Bool) → b ≡ true → (a || b) ≡ true
or-right true b h = refl
or-right false b h = h

or-left : (a b : Bool) → a ≡ true → (a || b) ≡ true
or-left true b h = refl
or-left false b h = absurd (cc h)

or-case : (a b : Bool) (P : Type 0) → (a ≡ true → P) → (b ≡ true → P) → (a || b) ≡ true → P
or-case true b P f g h = f refl
or-case false b P f g h = g h

knows-later : (more log : List Effect) (s : StampParts) → knows log s ≡ true → knows (more ++ log) s ≡ true
unfolding knows
knows-later [] log s h = h
knows-later (f ∷ more) log s h = or-right (is_for s (decided_by f)) (knows (more ++ log) s) (knows-later more log s h)

knows-first : (log more : List Effect) (s : StampParts) → knows log s ≡ true → knows (log ++ more) s ≡ true
unfolding knows
knows-first [] more s h = absurd (cc h)
knows-first (f ∷ log) more s h =
    or-case (is_for s (decided_by f)) (knows log s) (knows (f ∷ (log ++ more)) s ≡ true)
    (λ a. or-left (is_for s (decided_by f)) (knows (log ++ more) s) a) (λ b. or-right (is_for s (decided_by f)) (knows (log ++ more) s) (knows-first log more s b)) h

knows-one : (f : Effect) (s : StampParts) → is_for s (decided_by f) ≡ true → knows (f ∷ []) s ≡ true
unfolding knows
knows-one f s h = or-left (is_for s (decided_by f)) false h

knows-reverse : (log : List Effect) (s : StampParts) → knows log s ≡ true → knows (reverse log) s ≡ true
unfolding knows
knows-reverse [] s h = h
knows-reverse (f ∷ log) s h =
    subst (λ l. knows l s ≡ true) (sym (reverse-append (f ∷ []) log))
    (or-case (is_for s (decided_by f)) (knows log s) (knows (reverse log ++ f ∷ []) s ≡ true)
    (λ a. knows-later (reverse log) (f ∷ []) s (knows-one f s a)) (λ b. knows-first (reverse log) (f ∷ []) s (knows-reverse log s b)) h)

-- ---- what was learned

-- the same log below, and more new effects
pub record Longer (h g : Hand) : Type 0 where
  pub past : g.past ≡ h.past
  pub more : List Effect
  pub added : g.added ≡ more ++ h.added

longer-none : (h g : Hand) → g.past ≡ h.past → g.added ≡ h.added → Longer h g
longer-none h g b f = record { past = b; more = []; added = f }

longer-joins : (a b c : Hand) → Longer a b → Longer b c → Longer a c
longer-joins a b c p q = record { past = q.past ∙ p.past; more = q.more ++ p.more; added = q.added ∙ (ap (λ l. q.more ++ l) p.added ∙ sym (append_assoc q.more p.more a.added)) }

longer-asks : (t : Bool) (h g k : Hand) → Longer h g → Longer h k → Longer h (if t then g else k)
longer-asks true h g k p q = p
longer-asks false h g k p q = q

longer-read : (before : List (TimeParts × HeldRead)) (h : Hand) (from : NodeId) (t : TimeParts) (o : ObjectId) (r : ReadStep) → Longer h (read_as before h from t o r)
longer-read before h from t o (read.Answer v true) = record { past = refl; more = effect.Stretch o t ∷ []; added = refl }
longer-read before h from t o (read.Answer v false) = longer-none h (read_as before h from t o (read.Answer v false)) refl refl
longer-read before h from t o (read.LaterRead e) = longer-none h (read_as before h from t o (read.LaterRead e)) refl refl
longer-read before h from t o (read.Wait w) = longer-asks ((w.home == h.number) || waits_for w before) h _ _ (longer-none h _ refl refl) (longer-none h _ refl refl)

longer-known : (h : Hand) (from : NodeId) (t : TimeParts) (o : ObjectId) (u : Option Bool) → Longer h (read_known h from t o u)
longer-known h from t o (Some false) = longer-none h (read_known h from t o (Some false)) refl refl
longer-known h from t o (Some true) = longer-joins h (unhold t h) _ (longer-none h (unhold t h) refl refl) (longer-read h.held (unhold t h) from t o (read_step (marks (now h)) o t))
longer-known h from t o None = longer-joins h (unhold t h) _ (longer-none h (unhold t h) refl refl) (longer-read h.held (unhold t h) from t o (read_step (marks (now h)) o t))

longer-on-read : (h : Hand) (from : NodeId) (t : TimeParts) (o : ObjectId) → Longer h (on_read h from t o)
unfolding on_read
longer-on-read h from t o = longer-known h from t o (known (now h) t.stamp)

longer-reread : (es : List (TimeParts × HeldRead)) (h : Hand) → Longer h (reread es h)
longer-reread [] h = longer-none h h refl refl
longer-reread (e ∷ es) h = longer-joins h (on_read h e.1.from e.0 e.1.object) _ (longer-on-read h e.1.from e.0 e.1.object) (longer-reread es (on_read h e.1.from e.0 e.1.object))

longer-release : (s : StampParts) (h : Hand) → Longer h (release s h)
unfolding release
longer-release s h = longer-joins h (record h { held = filter (λ e. not (same_stamp e.1.waits s)) h.held }) _ (longer-none h _ refl refl) (longer-reread (filter (λ e. same_stamp e.1.waits s) h.held) (record h { held = filter (λ e. not (same_stamp e.1.waits s)) h.held }))

knows-longer : (h g : Hand) (s : StampParts) → Longer h g → knows (now h) s ≡ true → knows (now g) s ≡ true
knows-longer h g s l k =
    let e : now g ≡ l.more ++ now h = ap (λ x. x ++ g.past) l.added ∙ (ap (λ x. (l.more ++ h.added) ++ x) l.past ∙ append_assoc l.more h.added h.past) in
    subst (λ x. knows x s ≡ true) (sym e) (knows-later l.more (now h) s k)

-- after it was learned
learnt : (h : Hand) (s : StampParts) (c : Bool) (u : Option Bool) → known (now h) s ≡ u → Longer h (learn_as h s c u) × (knows (now (learn_as h s c u)) s ≡ true)
learnt h s c (Some d) e = (longer-none h h refl refl, sym (knows-known (now h) s) ∙ ap is_some e)
learnt h s c None e =
    let n : Hand = note (effect.Learn s c) h in
    let r : Longer n (release s n) = longer-release s n in (
      longer-joins h n (release s n) (record { past = refl; more = effect.Learn s c ∷ []; added = refl }) r,
      knows-longer n (release s n) s r (knows-first (effect.Learn s c ∷ []) (now h) s (knows-one (effect.Learn s c) s (same_stamp-self s))),
    )

learnt-now : (h : Hand) (s : StampParts) (c : Bool) → Longer h (on_learn h s c) × (knows (now (on_learn h s c)) s ≡ true)
unfolding on_learn
learnt-now h s c = learnt h s c (known (now h) s) refl

hand-knows : (r : ℕ) (log : List Effect) (mind : HandMind) (s : StampParts) (c : Bool) → knows (log ++ (hands.gives r log mind (hands.Learning s c)).effects) s ≡ true
unfolding hands.gives
hand-knows r log mind s c =
    let h : Hand = hands.hand_at r (reverse log) mind in
    let g : Hand = on_learn h s c in
    let k : Longer h g × (knows (now g) s ≡ true) = learnt-now h s c in
    let e : reverse (now g) ≡ log ++ reverse g.added = reverse-append g.added g.past ∙ (ap (λ l. reverse l ++ reverse g.added) k.0.past ∙ ap (λ l. l ++ reverse g.added) (reverse-reverse log)) in
    subst (λ l. knows l s ≡ true) e (knows-reverse (now g) s k.1)

kind-knows : (script : List ℕ → Tree) (run : ℕ) (acts : List ActSpec) (k : NodeKind) (i : ℕ) (log : List Effect) (mind : Mind) (s : StampParts) (c : Bool)
    → is_broker k ≡ false → knows (log ++ (kind_gives script run acts k i log mind (Learning s c)).effects) s ≡ true
kind-knows script run acts Repository i log mind s c h = hand-knows i log mind.hands s c
kind-knows script run acts Broker i log mind s c h = absurd (cc h)

gives-knows : (b : Base) (n : NodeId) (log : List Effect) (mind : Mind) (s : StampParts) (c : Bool) → is_broker n.kind ≡ false → knows (log ++ (gives b.script b.run b.acts n log mind (Learning s c)).effects) s ≡ true
unfolding gives
gives-knows b n log mind s c h = kind-knows b.script b.run b.acts n.kind n.number log mind s c h

-- a repository that learned how an attempt was decided knows the attempt
pub told-knows : (b : Base) (n : NodeId) (l : Life) (s : StampParts) (c : Bool) → is_broker n.kind ≡ false → knows (all_effects (after_input b n l (Learning s c))) s ≡ true
told-knows b n l s c h = subst (λ x. knows x s ≡ true) (append_assoc l.gated l.fresh (gives b.script b.run b.acts n (all_effects l) l.mind (Learning s c)).effects) (gives-knows b n (all_effects l) l.mind s c h)
