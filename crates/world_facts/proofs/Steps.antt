-- One entry of a trace, node by node.
use Rattle.world_facts.proofs.Names.{NodeId, NodeKind, Repository, Broker, Post, same_node, same_is, Tree, Entry, Input, Given, gives, Base, Life, Sending, World, names, step, after_input, lives_on, gated_life, crashed_life, leaving, sent_by, walk_from, NodeFacts, Turns, NodeLaws, SoftNode, all_effects, put, gate, crash, react, opened_soft, soft_of, ◌≡◌, ℕ, Bool, true, false, ◌&&◌, List, [], ◌∷◌, ◌++◌, map, take, drop, reverse, if◌then◌else◌, refl, sym, ap, subst, ◌∙◌, Option, Some, None, ◌-◌, map-append, reverse-append, reverse-reverse, Flags, flagged, went, learned, has_heard, with_given, with_turn}
use Rattle.world_core.specs.declared.entries.Entry.TheVariants.{Go, Learn, Hear, Gate, Down}
use Rattle.world_core.specs.Walks as walks
use Rattle.world_facts.specs.Rules.{forward}
use Rattle.world_facts.proofs.Growths.{take-back, length-reverse}

-- ---- flags

went-known : (k : NodeKind) (f : Flags) → ((went k f).known ≡ f.known) × ((went k f).up ≡ f.up)
went-known Repository f = (refl, refl)
went-known Broker f = (refl, refl)

learned-known : (k : NodeKind) (f : Flags) → ((learned k f).known ≡ f.known) × ((learned k f).up ≡ f.up)
learned-known Repository f = (refl, refl)
learned-known Broker f = (refl, refl)

heard-known : (last : Option ℕ) (f : Flags) → ((has_heard last f).known ≡ f.known) × ((has_heard last f).up ≡ f.up)
heard-known None f = (refl, refl)
heard-known (Some moment) f = (refl, refl)

flagged-known : (last : Option ℕ) (k : NodeKind) (f : Flags) (e : Entry) → ((flagged last k f e).known ≡ f.known) × ((flagged last k f e).up ≡ true → f.up ≡ true)
flagged-known last k f (Go n) = let w = went-known k f in (w.0, λ u. sym w.1 ∙ u)
flagged-known last k f (Learn n stamp committed) = let w = learned-known k f in (w.0, λ u. sym w.1 ∙ u)
flagged-known last k f (Hear n) = let w = heard-known last f in (w.0, λ u. sym w.1 ∙ u)
flagged-known last k f (Down n cause) = (refl, λ u. absurd (cc u))
flagged-known last k f e = (refl, λ u. u)

pub step-known : (b : Base) (w : World) (e : Entry) (n : NodeId) → (((step b w e).flags n).known ≡ (w.flags n).known) × (((step b w e).flags n).up ≡ true → (w.flags n).up ≡ true)
step-known b w e n = go (names n e && (w.flags n).known)
  where
    go : (t : Bool) → ((if t then flagged w.last n.kind (w.flags n) e else w.flags n).known ≡ (w.flags n).known) × ((if t then flagged w.last n.kind (w.flags n) e else w.flags n).up ≡ true → (w.flags n).up ≡ true)
    go true = flagged-known w.last n.kind (w.flags n) e
    go false = (refl, λ u. u)

pub walk-known : (b : Base) (w : World) (es : List Entry) (n : NodeId) → ((walk_from b w es).flags n).known ≡ (w.flags n).known
unfolding walk_from
walk-known b w [] n = refl
walk-known b w (e ∷ es) n = walk-known b (step b w e) es n ∙ (step-known b w e n).0

-- ---- lives

-- a known node's own entry changes it, and the other nodes stay
pub both-changed : (b : Base) (w : World) (e : Entry) (n : NodeId) (y : SoftNode) (s : NodeId → SoftNode) (P : NodeId → SoftNode → Life → Type 0) →
    ((k : NodeId) → names k e ≡ same_node n k) → (w.flags n).known ≡ true → P n y (lives_on b w n (w.life n) e) → ((k : NodeId) → P k (s k) (w.life k)) →
    (k : NodeId) → P k (put n y s k) ((step b w e).life k)
both-changed b w e n y s P own known here there k =
    subst (λ t. P k (put n y s k) (if t && (w.flags k).known then lives_on b w k (w.life k) e else w.life k)) (sym (own k)) (go (same_node n k) refl)
  where
    go : (t : Bool) → same_node n k ≡ t → P k (if t then y else s k) (if t && (w.flags k).known then lives_on b w k (w.life k) e else w.life k)
    go true q = subst (λ z. P z y (if (w.flags z).known then lives_on b w z (w.life z) e else w.life z)) (same_is n k q)
        (subst (λ t. P n y (if t then lives_on b w n (w.life n) e else w.life n)) (sym known) here)
    go false q = there k

-- an entry that leaves its own node's life leaves all
pub all-stay : (b : Base) (w : World) (e : Entry) → ((k : NodeId) → lives_on b w k (w.life k) e ≡ w.life k) → (k : NodeId) → (step b w e).life k ≡ w.life k
all-stay b w e same k = elim (names k e && (w.flags k).known) as (λ t. (if t then lives_on b w k (w.life k) e else w.life k) ≡ w.life k) [ true ↦ same k | false ↦ refl ]

-- an unknown node stays as it was
pub unknown-stays : (b : Base) (w : World) (e : Entry) (k : NodeId) → (w.flags k).known ≡ false → (step b w e).life k ≡ w.life k
unknown-stays b w e k h = ap (λ t. if names k e && t then lives_on b w k (w.life k) e else w.life k) h ∙ (elim (names k e) as (λ t. (if t && false then lives_on b w k (w.life k) e else w.life k) ≡ w.life k) [ true ↦ refl | false ↦ refl ])

-- ---- a soft node is a life turned round

pub gated-soft : (l : Life) → gate (soft_of l) ≡ soft_of (gated_life l)
gated-soft l = ap (λ g. let x : SoftNode = record { past = g; added = []; outs = []; mind = l.mind } in x) (sym (reverse-append l.gated l.fresh))

pub crashed-soft : (start kept : ℕ) (l : Life) → crash kept start (soft_of l) ≡ soft_of (crashed_life start kept l)
crashed-soft start kept l = ap (λ g. opened_soft g start)
    (ap (λ n. drop (n - kept) (reverse l.fresh) ++ reverse l.gated) (length-reverse l.fresh)
    ∙ ap (λ x. x ++ reverse l.gated) (sym (take-back kept l.fresh))
    ∙ sym (reverse-append l.gated (take kept l.fresh)))

module _ (script : List ℕ → Tree) (turns : Turns) (F : NodeFacts) (laws : NodeLaws script turns F) where
  pub told-soft : (b : Base) (n : NodeId) (l : Life) (input : Input) → b.script ≡ script → react turns b.run b.acts n (soft_of l) input ≡ soft_of (after_input b n l input)
  told-soft b n l input same =
      let all : reverse (walks.all_effects l) ≡ all_effects (soft_of l) = reverse-append l.gated l.fresh in
      let is : gives b.script b.run b.acts n (walks.all_effects l) l.mind input ≡ forward (turns b.run b.acts n (all_effects (soft_of l)) l.mind input) =
      ap (λ z. gives z b.run b.acts n (walks.all_effects l) l.mind input) same ∙ laws.turns_are b.run b.acts n (walks.all_effects l) l.mind input ∙ ap (λ z. forward (turns b.run b.acts n z l.mind input)) all in
      with-soft l (turns b.run b.acts n (all_effects (soft_of l)) l.mind input) ∙ ap (λ z. soft_of (with_given l z)) (sym is)
    where
      with-soft : (l : Life) (g : Given) → with_turn (soft_of l) g ≡ soft_of (with_given l (forward g))
      with-soft l g = ap (λ f. let x : SoftNode = record { past = reverse l.gated; added = f; outs = l.outs ++ g.outs; mind = g.mind } in x)
          (ap (λ z. z ++ reverse l.fresh) (sym (reverse-reverse g.effects)) ∙ sym (reverse-append l.fresh (reverse g.effects)))

-- ---- messages

posts-of-sendings : (ticks : ℕ) (ps : List Post) → map (λ (s : Sending). s.post) (map (λ (p : Post). record { post = p; ticks = ticks }) ps) ≡ ps
posts-of-sendings ticks [] = refl
posts-of-sendings ticks (p ∷ ps) = ap (λ z. p ∷ z) (posts-of-sendings ticks ps)

pub sent-gate : (b : Base) (w : World) (n : NodeId) → sent_by (step b w (Gate n)) ≡ sent_by w ++ leaving w n
sent-gate b w n = map-append (λ (s : Sending). s.post) w.sendings (map (λ (p : Post). record { post = p; ticks = w.ticks }) (leaving w n)) ∙ ap (λ z. sent_by w ++ z) (posts-of-sendings w.ticks (leaving w n))
