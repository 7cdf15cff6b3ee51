-- What a turn of one node leaves as it was, and how its log and life look after it.
use Rattle.complete_law.proofs.Names.{Has, NodeId, NodeKind, Effect, Message, Out, Post, post, same_node, same_is, same_node-refl, eq-from, Fate, broker, Desk, turn-added, gives, Going, Taking, count, Base, Flags, Life, Sending, World, after_input, all_effects, flagged, lives_on, names, numbered, opened_life, sent_by, step, took, MayTake, times_taken, numbered-has, Entry, ◌≡◌, ◌≢◌, ◌⊎◌, ℕ, ◌≤◌, ◌==◌, Bool, true, false, ◌&&◌, List, [], ◌∷◌, ◌++◌, reverse, cond, map, refl, sym, ◌∙◌, ap, subst, Some, None, if◌then◌else◌, inl, inr, append_assoc, arith, false≢true, true≢false, reverse-append, reverse-reverse}
use Rattle.broker_core.specs.Turns as desks
use Rattle.world_core.specs.declared.entries.Entry.TheVariants as entry
use Rattle.complete_law.proofs.Places.{CalmWorld, Flying, all-off, both-on, desk_of, log_of, tasks_of}

-- the log of a life with a turn's effects
pub grown-log : (gated fresh : List Effect) (new : List Effect) → reverse (gated ++ (fresh ++ reverse new)) ≡ new ++ reverse (gated ++ fresh)
grown-log gated fresh new = ap reverse (sym (append_assoc gated fresh (reverse new))) ∙ reverse-append (gated ++ fresh) (reverse new) ∙ ap (λ z. z ++ reverse (gated ++ fresh)) (reverse-reverse new)

module _ (b : Base) where
  -- the desk of a broker after a turn
  abbrev pub turned : World → ℕ → desks.Input → Desk
  turned w n i = desks.desk_turn b.script n b.run (tasks_of b n) (desk_of b w n) i

  abbrev pub life-with : Life → Desk → Life
  life-with l d = record { gated = l.gated; fresh = l.fresh ++ reverse d.added; outs = l.outs ++ d.outs; mind = record { hands = l.mind.hands; heard = d.heard } }

  pub takes : (w : World) (n : ℕ) (from : NodeId) (m : Message) → after_input b (broker n) (w.life (broker n)) (Taking from m) ≡ life-with (w.life (broker n)) (turned w n (desks.Take from m))
  unfolding gives
  takes w n from m = refl

  pub goes : (w : World) (n : ℕ) → after_input b (broker n) (w.life (broker n)) Going ≡ life-with (w.life (broker n)) (turned w n desks.Go)
  unfolding gives
  goes w n = refl

  -- the desk at the new log is where the turn has led
  pub desk-after : (w : World) (n : ℕ) (i : desks.Input) → let l : Life = life-with (w.life (broker n)) (turned w n i) in
      (reverse (all_effects l) ≡ desks.all_effects (turned w n i)) × (l.mind.heard ≡ (turned w n i).heard)
  desk-after w n i =
      let l : Life = w.life (broker n) in
      let d : Desk = turned w n i in
      let base : d.past ≡ log_of w (broker n) = (turn-added b.script n b.run (tasks_of b n) (desk_of b w n) i).past in
      (grown-log l.gated l.fresh d.added ∙ ap (λ z. d.added ++ z) (sym base), refl)

-- ---- the turn of one node

-- a copy of one message is no copy of another
other-copies : (k j : ℕ) (ts : List ℕ) → (k == j) ≡ false → count j (k ∷ ts) ≡ count j ts
other-copies k j ts e = let one : Bool → ℕ = λ b. cond b 1 0 in let x : ◌≡◌ {A = ℕ} (one (k == j)) 0 = ap one e in omega (arith, x)

pub parted : (n m : NodeId) → (m ≡ n) ⊎ (m ≢ n)
parted n m = (elim (same_node n m) as (λ t. same_node n m ≡ t → (m ≡ n) ⊎ (m ≢ n)) [ true ↦ λ e. inl (sym (same_is n m e)) | false ↦ λ e. inr (λ q. false≢true (sym e ∙ subst (λ z. same_node n z ≡ true) (sym q) (same_node-refl n))) ]) refl

pub not-same : (n m : NodeId) → m ≢ n → same_node n m ≡ false
not-same n m ne = (elim (same_node n m) as (λ t. same_node n m ≡ t → t ≡ false) [ true ↦ λ e. absurd (ne (sym (same_is n m e))) | false ↦ λ e. refl ]) refl

-- `l` is the node's life after it, and of a message that it took `Taken` holds
pub record OneTurn (w w' : World) (n : NodeId) (l : Life) (Taken : Post → Type 0) : Type 0 where
  pub here : w'.life n ≡ l
  pub there : (m : NodeId) → (m ≡ n) ⊎ ((m ≢ n) × (w'.life m ≡ w.life m))
  pub outs : (o : Out) → Has o (w.life n).outs → Has o l.outs
  pub sendings : w'.sendings ≡ w.sendings
  pub ticks : w'.ticks ≡ w.ticks
  pub ups : (m : NodeId) → (w'.flags m).up ≡ (w.flags m).up
  pub knowns : (m : NodeId) → (w'.flags m).known ≡ (w.flags m).known
  pub mine : (w.flags n).known ≡ true
  pub due : (w'.flags n).due ≡ true
  pub dues : (m : NodeId) → m ≢ n → (w'.flags m).due ≡ (w.flags m).due
  pub gones : (m : NodeId) → m ≢ n → (w'.flags m).gone ≡ (w.flags m).gone
  pub copies : (k : ℕ) (s : Sending) → numbered w.sendings k ≡ Some s → times_taken w k ≡ 0 → (times_taken w' k ≡ 0) ⊎ Taken s.post
  pub untaken : (k : ℕ) → numbered w'.sendings k ≡ None → times_taken w' k ≡ 0

module _ (w w' : World) (n : NodeId) (l : Life) (Taken : Post → Type 0) (turn : OneTurn w w' n l Taken) where
  -- a message on its way stays so, unless it was the one that was taken
  pub turn-flies : (from : NodeId) (o : Out) → Flying w from o → Flying w' from o ⊎ Taken (post from o)
  turn-flies from o (inl h) = elim (turn.there from) [
    | inl e ↦ inl (inl (subst (λ z. Has o (w'.life z).outs) (sym e) (subst (λ (x : Life). Has o x.outs) (sym turn.here) (turn.outs o (subst (λ z. Has o (w.life z).outs) e h)))))
    | inr e ↦ inl (inl (subst (λ (x : Life). Has o x.outs) (sym e.1) h))
  ]
  turn-flies from o (inr (k, s, at, is, none)) = elim (turn.copies k s at none) [
    | inl z ↦ inl (inr (k, s, subst (λ x. numbered x k ≡ Some s) (sym turn.sendings) at, is, z))
    | inr t ↦ inr (subst Taken is t)
  ]

  pub turn-sent : sent_by w' ≡ sent_by w
  turn-sent = ap (map (λ (s : Sending). s.post)) turn.sendings

  module _ (b : Base) (calm : CalmWorld b w) where
    pub turn-ups : (m : NodeId) → (w'.flags m).up ≡ (w'.flags m).known
    turn-ups m = turn.ups m ∙ calm.ups m ∙ sym (turn.knowns m)

    pub turn-outside : (m : NodeId) → (w'.flags m).known ≡ false → w'.life m ≡ opened_life b.start []
    turn-outside m e = elim (turn.there m) [
      | inl q ↦ absurd (true≢false (sym turn.mine ∙ subst (λ z. (w.flags z).known ≡ false) q (sym (turn.knowns m) ∙ e)))
      | inr q ↦ q.1 ∙ calm.outside m (sym (turn.knowns m) ∙ e)
    ]

    pub turn-shut : (m : NodeId) → (w'.flags m).due ≡ false → ((w'.life m).fresh ≡ []) × ((w'.life m).outs ≡ [])
    turn-shut m e = elim (turn.there m) [
      | inl q ↦ absurd (true≢false (sym turn.due ∙ subst (λ z. (w'.flags z).due ≡ false) q e))
      | inr q ↦ subst (λ (x : Life). (x.fresh ≡ []) × (x.outs ≡ [])) (sym q.1) (calm.shut m (sym (turn.dues m q.0) ∙ e))
    ]

    pub turn-still : (s : Sending) → Has s w'.sendings → s.ticks ≤ w'.ticks
    turn-still s h = subst (λ z. s.ticks ≤ z) (sym turn.ticks) (calm.still s (subst (Has s) turn.sendings h))

module _ (b : Base) (w : World) (calm : CalmWorld b w) (n : NodeId) where
  -- an entry that names this node alone, and leaves it up and known
  pub one-turn : (e : Entry) → ((m : NodeId) → names m e ≡ same_node n m) → (w.flags n).up ≡ true → ((k : NodeKind) (x : Flags) → ((flagged w.last k x e).up ≡ x.up) × ((flagged w.last k x e).known ≡ x.known)) →
      (flagged w.last n.kind (w.flags n) e).due ≡ true → (step b w e).sendings ≡ w.sendings → (step b w e).ticks ≡ w.ticks → (l : Life) (Taken : Post → Type 0) → lives_on b w n (w.life n) e ≡ l →
      ((o : Out) → Has o (w.life n).outs → Has o l.outs) → ((k : ℕ) (s : Sending) → numbered w.sendings k ≡ Some s → times_taken w k ≡ 0 → (times_taken (step b w e) k ≡ 0) ⊎ Taken s.post) →
      ((k : ℕ) → numbered (step b w e).sendings k ≡ None → times_taken (step b w e) k ≡ 0) → OneTurn w (step b w e) n l Taken
  one-turn e named up keeps due sendings ticks l Taken lives outs copies untaken = record {
    here = both-on (names n e) (w.flags n).known (lives_on b w n (w.life n) e) (w.life n) (named n ∙ same_node-refl n) known ∙ lives;
    there = λ m. elim (parted n m) [ inl q ↦ inl q | inr ne ↦ inr (ne, all-off (names m e) (w.flags m).known (lives_on b w m (w.life m) e) (w.life m) (others m ne)) ];
    outs = outs;
    sendings = sendings;
    ticks = ticks;
    ups = λ m. (flags-kept m (names m e && (w.flags m).known)).0;
    knowns = λ m. (flags-kept m (names m e && (w.flags m).known)).1;
    mine = known;
    due = ap (λ (x : Flags). x.due) (both-on (names n e) (w.flags n).known (flagged w.last n.kind (w.flags n) e) (w.flags n) (named n ∙ same_node-refl n) known) ∙ due;
    dues = λ m ne. ap (λ (x : Flags). x.due) (all-off (names m e) (w.flags m).known (flagged w.last m.kind (w.flags m) e) (w.flags m) (others m ne));
    gones = λ m ne. ap (λ (x : Flags). x.gone) (all-off (names m e) (w.flags m).known (flagged w.last m.kind (w.flags m) e) (w.flags m) (others m ne));
    copies = copies;
    untaken = untaken;
  }
    where
      known : (w.flags n).known ≡ true
      known = sym (calm.ups n) ∙ up

      others : (m : NodeId) → m ≢ n → names m e ≡ false
      others m ne = named m ∙ not-same n m ne

      flags-kept : (m : NodeId) (t : Bool) → ((if t then flagged w.last m.kind (w.flags m) e else w.flags m).up ≡ (w.flags m).up) × ((if t then flagged w.last m.kind (w.flags m) e else w.flags m).known ≡ (w.flags m).known)
      flags-kept m true = keeps m.kind (w.flags m)
      flags-kept m false = (refl, refl)

  -- it takes a message
  module _ (k : ℕ) (fates : List Fate) (may : MayTake fates w n k) where
    abbrev pub came : Post
    came = record { from = may.sending.post.from; to = n; message = may.sending.post.message }

    is-came : may.sending.post ≡ came
    is-came = ap (λ z. let p : Post = record { from = may.sending.post.from; to = z; message = may.sending.post.message } in p) may.to

    pub came-sent : Has came (sent_by w)
    came-sent = subst (λ p. Has p (sent_by w)) is-came (numbered-has (λ (x : Sending). x.post) w.sendings k may.sending may.sent)

    pub take-turn : (l : Life) → after_input b n (w.life n) (Taking may.sending.post.from may.sending.post.message) ≡ l → ((o : Out) → Has o (w.life n).outs → Has o l.outs) → OneTurn w (step b w (entry.Take n k)) n l (λ p. p ≡ came)
    take-turn l lives outs =
        one-turn (entry.Take n k) (λ m. refl) may.up (λ kd x. (refl, refl)) refl refl refl l (λ p. p ≡ came) (ap (took b n (w.life n)) may.sent ∙ lives) outs (λ j s at none. copies j s at none (k == j) refl) (λ j e. untaken j e (k == j) refl)
      where
        copies : (j : ℕ) (s : Sending) → numbered w.sendings j ≡ Some s → times_taken w j ≡ 0 → (t : Bool) → (k == j) ≡ t → (count j (k ∷ w.taken) ≡ 0) ⊎ (s.post ≡ came)
        copies j s at none false e = inl (other-copies k j w.taken e ∙ none)
        copies j s at none true e =
            let q : Some may.sending ≡ Some s = sym may.sent ∙ ap (numbered w.sendings) (eq-from k j e) ∙ at in
            let is : may.sending ≡ s = cc q in
            inr (ap (λ (x : Sending). x.post) (sym is) ∙ is-came)

        untaken : (j : ℕ) → numbered w.sendings j ≡ None → (t : Bool) → (k == j) ≡ t → count j (k ∷ w.taken) ≡ 0
        untaken j e false q = other-copies k j w.taken q ∙ calm.untaken j e
        untaken j e true q = let no : Some may.sending ≡ None = sym may.sent ∙ ap (numbered w.sendings) (eq-from k j q) ∙ e in absurd (cc no)
