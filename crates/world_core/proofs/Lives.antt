-- What entries leave of nodes and messages.
use Rattle.effect_form.specs.declared.effects.Effect.{Effect}
use Rattle.message_form.specs.Posts.{Post}
use Rattle.pseudo_time.proofs.ListLemmas.{has-left}
use Rattle.pseudo_time.specs.Lists.{Has}
use Rattle.pseudo_time.specs.StampParts.{StampParts}
use Rattle.pseudo_time.specs.declared.nodes.NodeId.{NodeId}
use Rattle.std.proofs.Common.{◌≡◌, ℕ, Bool, true, false, ◌&&◌, List, [], ◌∷◌, ◌++◌, map, take, cond, if◌then◌else◌, refl, sym, ap, subst, ◌∙◌, Option, Some, None, append_assoc}
use Rattle.std.proofs.lemmas.List.{append-nil, map-append}
use Rattle.std.proofs.lemmas.List.Elements.{filter-append}
use Rattle.world_core.specs.Legal.{IsDecidedAs}
use Rattle.world_core.specs.Nodes.{repository}
use Rattle.world_core.specs.Nodes.Input.{Going, Taking, Learning, Hearing}
use Rattle.world_core.specs.Walks.{Base, Life, Sending, World, numbered, sent_by, names, own, after_input, took, hears, lives_on, leaving, step, start_world, walk_from, walk}
use Rattle.world_core.specs.declared.entries.Entry.{Entry}
use Rattle.world_core.specs.declared.entries.Entry.TheVariants.{Take, Go, Learn, Hear, Gate, Crash, Down, Tick}
use Rattle.effect_form.specs.declared.effects.Effect.TheVariants as effect

module _ (b : Base) where
  pub walk-append : (w : World) (es more : List Entry) → walk_from b w (es ++ more) ≡ walk_from b (walk_from b w es) more
  unfolding walk_from
  walk-append w [] more = refl
  walk-append w (e ∷ es) more = walk-append (step b w e) es more

  -- one more entry is one more step
  pub walk-more : (es : List Entry) (e : Entry) → walk b (es ++ e ∷ []) ≡ step b (walk b es) e
  unfolding walk_from
  walk-more es e = walk-append (start_world b) es (e ∷ [])

  -- ---- entries of other nodes

  pub step-other : (w : World) (e : Entry) (n : NodeId) → names n e ≡ false → (step b w e).life n ≡ w.life n
  step-other w e n h = ap (λ t. if t && (w.flags n).known then lives_on b w n (w.life n) e else w.life n) h

  walk-other : (w : World) (es : List Entry) (n : NodeId) → own n es ≡ [] → (walk_from b w es).life n ≡ w.life n
  unfolding walk_from
  walk-other w [] n h = refl
  walk-other w (e ∷ es) n h = go (names n e) refl (λ z. walk-other (step b w e) es n z)
    where
      go : (t : Bool) → names n e ≡ t → (own n es ≡ [] → (walk_from b (step b w e) es).life n ≡ (step b w e).life n) → (walk_from b (step b w e) es).life n ≡ w.life n
      go true q rest = let z : cond true (e ∷ own n es) (own n es) ≡ [] = subst (λ t. cond t (e ∷ own n es) (own n es) ≡ []) q h in absurd (cc z)
      go false q rest = rest (subst (λ t. cond t (e ∷ own n es) (own n es) ≡ []) q h) ∙ step-other w e n q

  nothing-added : {X : Type 0} (xs ys : List X) → xs ++ ys ≡ xs → ys ≡ []
  nothing-added [] ys h = h
  nothing-added (x ∷ xs) ys h = nothing-added xs ys (cc h)

  -- a node's life is that of its own entries
  pub same-life : (es more : List Entry) (n : NodeId) → own n (es ++ more) ≡ own n es → (walk b (es ++ more)).life n ≡ (walk b es).life n
  same-life es more n h = ap (λ (w : World). w.life n) (walk-append (start_world b) es more)
      ∙ walk-other (walk b es) more n (nothing-added (own n es) (own n more) (sym (filter-append (names n) es more) ∙ h))

  -- ---- durable logs

  abbrev Longer : Life → Life → Type 0
  Longer l k = (late : List Effect) × (k.gated ≡ l.gated ++ late)

  no-longer : (l k : Life) → k.gated ≡ l.gated → Longer l k
  no-longer l k e = ([], e ∙ sym (append-nil l.gated))

  longer-then : (x y z : Life) → Longer x y → Longer y z → Longer x z
  longer-then x y z h g = (h.0 ++ g.0, g.1 ∙ ap (λ l. l ++ g.0) h.1 ∙ append_assoc x.gated h.0 g.0)

  longer-took : (n : NodeId) (l : Life) (found : Option Sending) → Longer l (took b n l found)
  longer-took n l None = no-longer l l refl
  longer-took n l (Some s) = no-longer l (after_input b n l (Taking s.post.from s.post.message)) refl

  longer-hears : (n : NodeId) (l : Life) (last : Option ℕ) → Longer l (hears b n l last)
  longer-hears n l None = no-longer l l refl
  longer-hears n l (Some moment) = no-longer l (after_input b n l (Hearing moment)) refl

  longer-own : (w : World) (n : NodeId) (l : Life) (e : Entry) → Longer l (lives_on b w n l e)
  longer-own w n l (Take node number) = longer-took n l (numbered w.sendings number)
  longer-own w n l (Go node) = no-longer l (after_input b n l Going) refl
  longer-own w n l (Learn node stamp committed) = no-longer l (after_input b n l (Learning stamp committed)) refl
  longer-own w n l (Hear node) = longer-hears n l w.last
  longer-own w n l (Gate node) = (l.fresh, refl)
  longer-own w n l (Crash node kept) = (take kept l.fresh, refl)
  longer-own w n l (Down node cause) = no-longer l l refl
  longer-own w n l (Tick moment) = no-longer l l refl

  longer-step : (w : World) (e : Entry) (n : NodeId) → Longer (w.life n) ((step b w e).life n)
  longer-step w e n = go (names n e && (w.flags n).known)
    where
      go : (t : Bool) → Longer (w.life n) (if t then lives_on b w n (w.life n) e else w.life n)
      go true = longer-own w n (w.life n) e
      go false = no-longer (w.life n) (w.life n) refl

  longer-walk : (w : World) (es : List Entry) (n : NodeId) → Longer (w.life n) ((walk_from b w es).life n)
  unfolding walk_from
  longer-walk w [] n = no-longer (w.life n) (w.life n) refl
  longer-walk w (e ∷ es) n = longer-then (w.life n) ((step b w e).life n) ((walk_from b (step b w e) es).life n) (longer-step w e n) (longer-walk (step b w e) es n)

  pub gated-grows : (es more : List Entry) (n : NodeId) → (late : List Effect) × (((walk b (es ++ more)).life n).gated ≡ ((walk b es).life n).gated ++ late)
  gated-grows es more n =
      let h : Longer ((walk b es).life n) ((walk_from b (walk b es) more).life n) = longer-walk (walk b es) more n in
      (h.0, ap (λ (w : World). (w.life n).gated) (walk-append (start_world b) es more) ∙ h.1)

  -- a decision that stands stays
  pub stands-stays : (es more : List Entry) (s : StampParts) (committed : Bool) → IsDecidedAs (walk b es) s committed → IsDecidedAs (walk b (es ++ more)) s committed
  stands-stays es more s committed h =
      let g : (late : List Effect) × (((walk b (es ++ more)).life (repository s.home)).gated ≡ ((walk b es).life (repository s.home)).gated ++ late) = gated-grows es more (repository s.home) in
      (h.0, subst (Has (effect.Decide s h.0)) (sym g.1) (has-left ((walk b es).life (repository s.home)).gated g.0 (effect.Decide s h.0) h.1), h.2)

  -- ---- messages

  sendings-step : (w : World) (e : Entry) → (new : List Sending) × ((step b w e).sendings ≡ w.sendings ++ new)
  sendings-step w (Take node number) = ([], sym (append-nil w.sendings))
  sendings-step w (Go node) = ([], sym (append-nil w.sendings))
  sendings-step w (Learn node stamp committed) = ([], sym (append-nil w.sendings))
  sendings-step w (Hear node) = ([], sym (append-nil w.sendings))
  sendings-step w (Gate node) = (map (λ (p : Post). record { post = p; ticks = w.ticks }) (leaving w node), refl)
  sendings-step w (Crash node kept) = ([], sym (append-nil w.sendings))
  sendings-step w (Down node cause) = ([], sym (append-nil w.sendings))
  sendings-step w (Tick moment) = ([], sym (append-nil w.sendings))

  pub sendings-walk : (w : World) (es : List Entry) → (new : List Sending) × ((walk_from b w es).sendings ≡ w.sendings ++ new)
  unfolding walk_from
  sendings-walk w [] = ([], sym (append-nil w.sendings))
  sendings-walk w (e ∷ es) =
      let one : (new : List Sending) × ((step b w e).sendings ≡ w.sendings ++ new) = sendings-step w e in
      let two : (new : List Sending) × ((walk_from b (step b w e) es).sendings ≡ (step b w e).sendings ++ new) = sendings-walk (step b w e) es in
      (one.0 ++ two.0, two.1 ∙ ap (λ x. x ++ two.0) one.1 ∙ append_assoc w.sendings one.0 two.0)

  pub sent-walk : (w : World) (es : List Entry) → (late : List Post) × (sent_by (walk_from b w es) ≡ sent_by w ++ late)
  sent-walk w es =
      let h : (new : List Sending) × ((walk_from b w es).sendings ≡ w.sendings ++ new) = sendings-walk w es in
      (map (λ (s : Sending). s.post) h.0, ap (map (λ (s : Sending). s.post)) h.1 ∙ map-append (λ (s : Sending). s.post) w.sendings h.0)

  pub sent-grows : (es more : List Entry) → (late : List Post) × (sent_by (walk b (es ++ more)) ≡ sent_by (walk b es) ++ late)
  sent-grows es more =
      let h : (late : List Post) × (sent_by (walk_from b (walk b es) more) ≡ sent_by (walk b es) ++ late) = sent-walk (walk b es) more in
      (h.0, ap sent_by (walk-append (start_world b) es more) ∙ h.1)
