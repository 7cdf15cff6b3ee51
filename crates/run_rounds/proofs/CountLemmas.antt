-- Counts of faults, and why nodes went down.
use Rattle.run_rounds.proofs.Names.{Every, NodeId, DownCause, Asked, RoseBy, Plan, View, Founding, LockTable, entries_of, Entry, Trace, Life, names, own, start_world, fates_of, in_plan, IsLegal, life_after, WireParts, owner_for, owner_of, IsOf, life_at, down_cause, IsIntact, costs, IsCause, NodeParts, sight, Media, AreCounted, Became, HaveCauses, ◌≡◌, ◌≤◌, ◌∙◌, ℕ, true, IsTrue, List, Option, Some, None, refl, ap, sym, subst, every-map, rise_of_fewer, IsFullFor}
use Rattle.pseudo_time.specs.declared.down_causes.DownCause.TheVariants as down
use Rattle.run_rounds.proofs.EndLemmas.{costs-whole, own-whole}
use Rattle.run_rounds.proofs.FlagLemmas.{named-opened, one-down}
use Rattle.run_rounds.proofs.SeenLemmas.{left, new-is, old-is}
use Rattle.run_rounds.proofs.KnownLemmas.{HaveStood, Known, base, cause-at, down-at, has-down, known-end, life-end, origin}
use Rattle.run_rounds.proofs.LogLemmas.{Stood, has-memory, opened-at, stood-at}

module _ {M Q A : Type 0} (w : Media M) (plan : Plan) (lock : LockTable WireParts (View WireParts Entry) (Founding WireParts) Q A) (t : Trace) (first : List (Option M)) (ps : List (NodeParts M)) (stood : HaveStood w plan lock t first ps) where
  abbrev after : List (Option M)
  after = left w plan (origin w plan lock t) (Known w plan lock t) first ps stood.along

  abbrev NodeOf : NodeId → Type 0
  NodeOf n = Stood w plan lock t first ps stood n

  node-of : (n : NodeId) → in_plan plan n ≡ true → NodeOf n
  node-of n is = stood-at w plan lock t first ps stood n is

  module _ (n : NodeId) (s : NodeOf n) (old new : M) (became : Became plan first after n old new) where
    was : s.old ≡ old
    was = old-is w plan (origin w plan lock t) (Known w plan lock t) first ps stood.along n s old new became

    now : s.node.medium ≡ new
    now = new-is w plan (origin w plan lock t) (Known w plan lock t) first ps stood.along n s old new became

  owner-is : (n : NodeId) (s : NodeOf n) → IsOf n (sight s.node)
  owner-is n s = subst (λ (m : NodeId). IsOf m (sight s.node)) s.went.name s.went.rest.own

  -- ---- counts

  counted : (n : NodeId) (s : NodeOf n) → RoseBy (costs (own n t.entries)) (w.faults s.old) (w.faults s.node.medium)
  counted n s = rise_of_fewer (costs (own n t.entries)) (costs (sight s.node).own) (w.faults s.old) (w.faults s.node.medium) (costs-whole (sight s.node) n t.entries (owner-is n s) s.went.pass.carries) s.went.paid

  -- the counts of the media rose for what happened
  pub are-counted : AreCounted w first after plan t
  are-counted = record {
    opened = λ n old new is not became. (let s = node-of n is in
        subst (λ (m : M). RoseBy (costs (own n t.entries)) (w.faults m) (w.faults new)) (was n s old new became) (subst (λ (m : M). RoseBy (costs (own n t.entries)) (w.faults s.old) (w.faults m)) (now n s old new became) (counted n s)));
    unopened = λ n old new is not cause became. absurd (opened-at w plan lock t first ps stood n is not);
    missing = λ n is none. (let s = node-of n is in let z : Some s.old ≡ None = sym s.before ∙ none in absurd (cc z));
  }

  -- ---- causes

  module _ (asked : List Asked) (few : plan.repositories ≤ 16) (told : IsTrue w.tells) (legal : IsLegal plan asked t) where
    cause-of : (n : NodeId) (s : NodeOf n) (c : DownCause) → down_cause n t.entries ≡ Some c → IsCause w c s.node.medium (life_at (sight s.node) n)
    cause-of n s c h =
        let d = down-at w plan lock t stood.same stood.opened n s.old s.node s.went (has-memory w plan lock t first ps stood n s) c h in
        let has = has-down w plan lock t stood.same stood.opened n s.old s.node s.went d.0 d.1 in
        let known = known-end w plan lock t stood.same stood.opened n s.old s.node s.went in
        let one : c ≡ d.0 = one-down (base w plan lock t) (fates_of t.sent) (start_world (base w plan lock t)) t.entries n c d.0 known legal.meets h has in
        subst (λ (x : DownCause). IsCause w x s.node.medium (life_at (sight s.node) n)) (sym one) (cause-at w plan lock t stood.same stood.opened n s.old s.node s.went d.0 d.1)

    -- each entry is of a node of the plan, or a Tick
    all-named : Every (λ (e : Entry). (m : NodeId) → names m e ≡ true → in_plan plan m ≡ true) t.entries
    all-named = every-map _ _ (λ e h m is. sym (legal.nodes.just m) ∙ h m is) t.entries
        (named-opened (base w plan lock t) (fates_of t.sent) (start_world (base w plan lock t)) t.entries (λ m up. up) (λ m. refl) legal.meets)

    -- a node of which no entry costs anything has paid nothing
    pub costless : (n : NodeId) (s : NodeOf n) → in_plan plan n ≡ true → costs (own n t.entries) ≡ 0 → costs (sight s.node).own ≡ 0
    costless n s is none =
        let mine : entries_of owner_of (owner_for n) t.entries ≡ (sight s.node).own = subst (λ (o : ℕ). entries_of owner_of o t.entries ≡ (sight s.node).own) (owner-is n s) s.went.pass.carries.own in
        ap costs (sym mine ∙ own-whole plan few n is t.entries all-named) ∙ none

    is-full : (n : NodeId) (s : NodeOf n) (pages : ℕ) → down_cause n t.entries ≡ Some (down.Full pages) → (pages ≡ w.page_count s.node.medium) × IsFullFor (life_after plan t n) (w.reads s.node.medium)
    is-full n s pages h =
        let c = cause-of n s (down.Full pages) h in
        (c.0, subst (λ (l : Life). IsFullFor l (w.reads s.node.medium)) (sym (life-end w plan lock t stood.same stood.opened n s.old s.node s.went)) (c.1 told))

    -- nodes went down for their causes
    pub have-causes : HaveCauses w first after plan t
    have-causes = record {
      unopened = λ n is not. absurd (opened-at w plan lock t first ps stood n is not);
      damaged = λ n old new page is h became. absurd (let s = node-of n is in cause-of n s (down.Damaged page) h told);
      full = λ n old new pages is h became. (let s = node-of n is in
          subst (λ (m : M). (pages ≡ w.page_count m) × IsFullFor (life_after plan t n) (w.reads m)) (now n s old new became) (is-full n s pages h));
      intact = λ n old new is none became. (let s = node-of n is in
          subst (λ (m : M). IsIntact (w.reads m) (w.reads new)) (was n s old new became)
          (subst (λ (m : M). IsIntact (w.reads s.old) (w.reads m)) (now n s old new became) (s.went.whole told (has-memory w plan lock t first ps stood n s) (costless n s is none))));
    }
