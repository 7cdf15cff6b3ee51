-- What a repository adds that learns: the Learn, and Stretches of the reads that it sets free.
use Rattle.std.proofs.Common.{Bool, List, Option, Some, None, [], ap, sym, ◌++◌, ◌∙◌, ◌∷◌, ◌≡◌, ◌||◌, ◌==◌, not, refl, ℕ, true, false, append_assoc, reverse, subst, if◌then◌else◌}
use Rattle.std.specs.List.{filter}
use Rattle.std.proofs.lemmas.List.{append-nil, reverse-append}
use Rattle.pseudo_time.specs.Lists.{Every}
use Rattle.pseudo_time.specs.StampParts.{StampParts}
use Rattle.pseudo_time.specs.TimeParts.{TimeParts}
use Rattle.pseudo_time.specs.Order.{same_stamp}
use Rattle.pseudo_time.specs.declared.nodes.NodeId.{NodeId}
use Rattle.pseudo_time.proofs.ListLemmas.{every-append}
use Rattle.value_form.specs.declared.objects.ObjectId.{ObjectId}
use Rattle.effect_form.specs.declared.effects.Effect.{Effect}
use Rattle.effect_form.specs.declared.effects.Effect.TheVariants as effect
use Rattle.object_history.specs.declared.steps.ReadStep.{ReadStep}
use Rattle.object_history.specs.declared.steps.ReadStep.TheVariants as read
use Rattle.object_history.specs.Answers.{read_step}
use Rattle.repository_log.specs.Logs.{known, marks}
use Rattle.repository_core.specs.HeldRead.{HeldRead}
use Rattle.repository_core.specs.Hands.{Hand, now, note, Mind as HandMind}
use Rattle.repository_core.specs.Rows.{read_as, read_known, on_read, reread, release, learn_as, on_learn, unhold, waits_for}
use Rattle.repository_core.specs.Turns as hands
use Rattle.node_turn.specs.Settles.{IsLearned}

-- the same log below, and more new effects that learning adds
record Learned (h g : Hand) : Type 0 where
  pub more : List Effect
  pub added : g.added ≡ more ++ h.added
  pub each : Every IsLearned more

learned-none : (h g : Hand) → g.added ≡ h.added → Learned h g
learned-none h g f = record { more = []; added = f; each = tt }

learned-joins : (a b c : Hand) → Learned a b → Learned b c → Learned a c
learned-joins a b c p q = record { more = q.more ++ p.more; added = q.added ∙ (ap (λ l. q.more ++ l) p.added ∙ sym (append_assoc q.more p.more a.added)); each = every-append IsLearned q.more p.more q.each p.each }

learned-asks : (t : Bool) (h g k : Hand) → Learned h g → Learned h k → Learned h (if t then g else k)
learned-asks true h g k p q = p
learned-asks false h g k p q = q

learned-read : (before : List (TimeParts × HeldRead)) (h : Hand) (from : NodeId) (t : TimeParts) (o : ObjectId) (r : ReadStep) → Learned h (read_as before h from t o r)
learned-read before h from t o (read.Answer v true) = record { more = effect.Stretch o t ∷ []; added = refl; each = (tt, tt) }
learned-read before h from t o (read.Answer v false) = learned-none h (read_as before h from t o (read.Answer v false)) refl
learned-read before h from t o (read.LaterRead e) = learned-none h (read_as before h from t o (read.LaterRead e)) refl
learned-read before h from t o (read.Wait w) = learned-asks ((w.home == h.number) || waits_for w before) h _ _ (learned-none h _ refl) (learned-none h _ refl)

learned-known : (h : Hand) (from : NodeId) (t : TimeParts) (o : ObjectId) (u : Option Bool) → Learned h (read_known h from t o u)
learned-known h from t o (Some false) = learned-none h (read_known h from t o (Some false)) refl
learned-known h from t o (Some true) = learned-joins h (unhold t h) _ (learned-none h (unhold t h) refl) (learned-read h.held (unhold t h) from t o (read_step (marks (now h)) o t))
learned-known h from t o None = learned-joins h (unhold t h) _ (learned-none h (unhold t h) refl) (learned-read h.held (unhold t h) from t o (read_step (marks (now h)) o t))

learned-on-read : (h : Hand) (from : NodeId) (t : TimeParts) (o : ObjectId) → Learned h (on_read h from t o)
unfolding on_read
learned-on-read h from t o = learned-known h from t o (known (now h) t.stamp)

learned-reread : (es : List (TimeParts × HeldRead)) (h : Hand) → Learned h (reread es h)
learned-reread [] h = learned-none h h refl
learned-reread (e ∷ es) h = learned-joins h (on_read h e.1.from e.0 e.1.object) _ (learned-on-read h e.1.from e.0 e.1.object) (learned-reread es (on_read h e.1.from e.0 e.1.object))

learned-release : (s : StampParts) (h : Hand) → Learned h (release s h)
unfolding release
learned-release s h = learned-joins h (record h { held = filter (λ e. not (same_stamp e.1.waits s)) h.held }) _ (learned-none h _ refl) (learned-reread (filter (λ e. same_stamp e.1.waits s) h.held) (record h { held = filter (λ e. not (same_stamp e.1.waits s)) h.held }))

learned-as : (h : Hand) (s : StampParts) (c : Bool) (u : Option Bool) → Learned h (learn_as h s c u)
learned-as h s c (Some d) = learned-none h h refl
learned-as h s c None =
    let n : Hand = note (effect.Learn s c) h in
    learned-joins h n (release s n) (record { more = effect.Learn s c ∷ []; added = refl; each = (tt, tt) }) (learned-release s n)

learned-now : (h : Hand) (s : StampParts) (c : Bool) → Learned h (on_learn h s c)
unfolding on_learn
learned-now h s c = learned-as h s c (known (now h) s)

every-reverse : (es : List Effect) → Every IsLearned es → Every IsLearned (reverse es)
every-reverse [] h = tt
every-reverse (e ∷ es) h = subst (Every IsLearned) (sym (reverse-append (e ∷ []) es)) (every-append IsLearned (reverse es) (e ∷ []) (every-reverse es h.1) (h.0, tt))

pub hand-learns : (r : ℕ) (log : List Effect) (mind : HandMind) (s : StampParts) (c : Bool) → Every IsLearned (hands.gives r log mind (hands.Learning s c)).effects
unfolding hands.gives
hand-learns r log mind s c =
    let h : Hand = hands.hand_at r (reverse log) mind in
    let l : Learned h (on_learn h s c) = learned-now h s c in
    every-reverse (on_learn h s c).added (subst (Every IsLearned) (sym (l.added ∙ append-nil l.more)) l.each)
