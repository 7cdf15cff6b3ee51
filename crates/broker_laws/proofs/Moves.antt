-- how one fitting effect moves the tries of the book, and what it leaves true
use Rattle.broker_laws.proofs.Names.{StampParts, TimeParts, Effect, Outcome, Message, NodeId, Act, Book, Try, book, close, enter, find, finish, gain, if_open, new_try, on_front, on_try, open_front, open_of, tries, tries_of, stop_of, EndFits, EndsBy, FitsBook, FitsLog, IsAsked, IsTidy, MayTry, Clocks, Distinct, IsAskOf, IsBelow, IsKnown, IsLater, MayCommit, PostHolds, same_stamp-is, Every, same_stamp, Answer, Asks, Got, Over, Request, Stored, Tree, stop, Grew, ◌≡◌, ℕ, ◌<◌, ◌≤◌, max, Bool, true, false, List, [], ◌∷◌, ◌++◌, refl, sym, ◌∙◌, ap, subst, Option, Some, None, ◌⊎◌, inl, inr, arith, append_assoc, append-nil, if◌then◌else◌, IsCommitOf}
use Rattle.effect_form.specs.declared.effects.Effect.TheVariants as effect
use Rattle.effect_form.specs.declared.outcomes.Outcome.TheVariants as outcome
use Rattle.message_form.specs.declared.messages.Message.TheVariants as message
use Rattle.value_form.specs.declared.endings.Ending.TheVariants as ending
use Rattle.broker_laws.proofs.TestLemmas.{same_stamp-below}

-- the open try is the first of all

pub if-open : (x : Try) (o : Option Outcome) (t : Try) → if_open x o ≡ Some t → (x ≡ t) × (o ≡ None)
if-open x None t e = (cc, refl)
if-open x (Some o) t e = cc

at-front : (g : Try → Try) (ts more : List Try) (t : Try) → open_front ts ≡ Some t → (rest : List Try) × (ts ++ more ≡ t ∷ rest) × (on_front g ts ++ more ≡ g t ∷ rest) × (t.end ≡ None)
at-front g [] more t e = cc
at-front g (x ∷ ts) more t e =
    let h = if-open x x.end t e in
    (ts ++ more, ap (λ y. y ∷ (ts ++ more)) h.0, ap (λ y. g y ∷ (ts ++ more)) h.0, subst (λ (y : Try). y.end ≡ None) h.0 h.1)

pub at-open : (g : Try → Try) (acts past : List Act) (t : Try) → open_of acts ≡ Some t →
    (rest : List Try) × (tries_of (acts ++ past) ≡ t ∷ rest) × (tries_of (on_try g acts ++ past) ≡ g t ∷ rest) × (t.end ≡ None)
at-open g [] past t e = cc
at-open g (a ∷ acts) past t e = at-front g a.tries (tries_of (acts ++ past)) t e

-- a new stamp is in no try
pub is-new : (me clock : ℕ) (s : StampParts) (ts : List Try) → clock < s.clock → Every (IsBelow me clock) ts → find s ts ≡ None
is-new me clock s [] h all = refl
is-new me clock s (t ∷ ts) h all = rw (same_stamp-below t.stamp s (let b = all.0.0 in omega arith)) (is-new me clock s ts h all.1)

-- one effect: the tries stay; there is a new one; the first gains an answer; the first gets its End
pub data Moved (script : List ℕ → Tree) : List Try → List Try → Type 0 where
  same : {ts : List Try} → Moved script ts ts
  tried : {ts : List Try} (t : Try) → find t.stamp ts ≡ None → t.answers ≡ [] → t.end ≡ None → Moved script ts (t ∷ ts)
  gained : {ts : List Try} (t : Try) (a : Answer) → t.end ≡ None → IsAsked script t a → Moved script (t ∷ ts) (gain a t ∷ ts)
  ended : {ts : List Try} (t : Try) (o : Outcome) → t.end ≡ None → EndsBy script t o → Moved script (t ∷ ts) (finish o t ∷ ts)

module _ (script : List ℕ → Tree) (me : ℕ) where
  moved-gain : (a : Answer) (acts past : List Act) (t : Try) → open_of acts ≡ Some t → IsAsked script t a → Moved script (tries_of (acts ++ past)) (tries_of (on_try (gain a) acts ++ past))
  moved-gain a acts past t e h =
      let w = at-open (gain a) acts past t e in
      subst (λ xs. Moved script xs (tries_of (on_try (gain a) acts ++ past))) (sym w.1)
      (subst (λ ys. Moved script (t ∷ w.0) ys) (sym w.2) (gained t a w.3 h))

  moved-end : (o : Outcome) (acts past : List Act) (t : Try) → open_of acts ≡ Some t → EndsBy script t o → Moved script (tries_of (acts ++ past)) (tries_of (on_try (finish o) acts ++ past))
  moved-end o acts past t e h =
      let w = at-open (finish o) acts past t e in
      subst (λ xs. Moved script xs (tries_of (on_try (finish o) acts ++ past))) (sym w.1)
      (subst (λ ys. Moved script (t ∷ w.0) ys) (sym w.2) (ended t o w.3 h))

  moved-try : (i : ℕ) (s : StampParts) (b : Book) (acts past : List Act) (P : Act → Type 0) → MayTry i acts P → find s (tries_of (acts ++ past)) ≡ None →
      Moved script (tries_of (acts ++ past)) (tries_of ((enter (effect.Try i s) (record b { acts = acts; past = past })).acts ++ past))
  moved-try i s b [] past P h n = absurd h
  moved-try i s b (a ∷ acts) past P h n = tried (new_try a s) n refl refl

  moved-close : (i : ℕ) (o : Outcome) (b : Book) → EndFits script i o b → Moved script (tries b) (tries (close o b))
  moved-close i (outcome.Spent c) b h = moved-spent b.acts b.past
    where
      moved-spent : (acts past : List Act) → Moved script (tries_of (acts ++ past)) (tries_of ((close (outcome.Spent c) (record b { acts = acts; past = past })).acts ++ past))
      moved-spent [] past = same
      moved-spent (a ∷ acts) past = same
  moved-close i o b h = moved-end o b.acts b.past h.0 h.1 h.2.1

  above : (i : ℕ) (s : StampParts) (acts : List Act) (clock : ℕ) → MayTry i acts (λ a. (s.broker ≡ me) × (s.home ≡ a.task.home) × (clock < s.clock)) → clock < s.clock
  above i s [] clock h = absurd h
  above i s (a ∷ acts) clock h = h.3.2

  pub moved : (b : Book) (f : Effect) → Clocks me b → FitsBook script me b f → Moved script (tries b) (tries (enter f b))
  moved b (effect.Run n) c h = same
  moved b (effect.Act i x t k y z) c h = same
  moved b (effect.Try i s) c h = moved-try i s b b.acts b.past _ h (is-new me b.clock s (tries b) (above i s b.acts b.clock h) c)
  moved b (effect.Got k v) c h = moved-gain (Got v) b.acts b.past h.0 h.1 h.2.1
  moved b (effect.Acked k) c h = moved-gain Stored b.acts b.past h.0 h.1 h.2.1
  moved b (effect.End i o) c h = moved-close i o b h
  moved b f c h = absurd h

  -- clocks
  below-more : (c d : ℕ) (ts : List Try) → c ≤ d → Every (IsBelow me c) ts → Every (IsBelow me d) ts
  below-more c d [] h all = tt
  below-more c d (t ∷ ts) h all = ((let b = all.0.0 in omega arith, all.0.1), below-more c d ts h all.1)

  clocks-try : (i : ℕ) (s : StampParts) (clock : ℕ) (acts past : List Act) →
      MayTry i acts (λ a. (s.broker ≡ me) × (s.home ≡ a.task.home) × (clock < s.clock)) →
      Every (IsBelow me clock) (tries_of (acts ++ past)) →
      Every (IsBelow me (max clock s.clock)) (tries_of ((enter (effect.Try i s) (record { run = 0; clock = 0; shown = 0; acts = acts; past = past })).acts ++ past))
  clocks-try i s clock [] past h all = absurd h
  clocks-try i s clock (a ∷ acts) past h all = ((omega arith, h.3.0), below-more clock (max clock s.clock) _ (omega arith) all)

  clocks-open : (g : Try → Try) (c : ℕ) (acts past : List Act) (t : Try) → (g t).stamp ≡ t.stamp → open_of acts ≡ Some t →
      Every (IsBelow me c) (tries_of (acts ++ past)) → Every (IsBelow me c) (tries_of (on_try g acts ++ past))
  clocks-open g c acts past t s e all =
      let w = at-open g acts past t e in
      let old : Every (IsBelow me c) (t ∷ w.0) = subst (λ xs. Every (IsBelow me c) xs) w.1 all in
      subst (λ xs. Every (IsBelow me c) xs) (sym w.2) (subst (λ (x : StampParts). (x.clock ≤ c) × (x.broker ≡ me)) (sym s) old.0, old.1)

  clocks-close : (i : ℕ) (o : Outcome) (b : Book) → EndFits script i o b → Clocks me b → Clocks me (close o b)
  clocks-close i (outcome.Spent c) b h all = spent b.acts b.past all
    where
      spent : (acts past : List Act) → Every (IsBelow me b.clock) (tries_of (acts ++ past)) →
          Every (IsBelow me b.clock) (tries_of ((close (outcome.Spent c) (record b { acts = acts; past = past })).acts ++ past))
      spent [] past all = all
      spent (a ∷ acts) past all = all
  clocks-close i o b h all = clocks-open (finish o) b.clock b.acts b.past h.0 refl h.1 all

  pub clocks-kept : (b : Book) (f : Effect) → FitsBook script me b f → Clocks me b → Clocks me (enter f b)
  clocks-kept b (effect.Run n) h c = c
  clocks-kept b (effect.Act i x t k y z) h c = c
  clocks-kept b (effect.Try i s) h c = clocks-try i s b.clock b.acts b.past h c
  clocks-kept b (effect.Got k v) h c = clocks-open (gain (Got v)) b.clock b.acts b.past h.0 refl h.1 c
  clocks-kept b (effect.Acked k) h c = clocks-open (gain Stored) b.clock b.acts b.past h.0 refl h.1 c
  clocks-kept b (effect.End i o) h c = clocks-close i o b h c
  clocks-kept b f h c = absurd h

  pub clocks : (log : List Effect) → IsTidy script me log → Clocks me (book log)
  unfolding book
  clocks [] h = tt
  clocks (f ∷ log) h = clocks-kept (book log) f h.1 (clocks log h.0)

  distinct-moved : {ts us : List Try} → Moved script ts us → Distinct ts → Distinct us
  distinct-moved same d = d
  distinct-moved (tried t n a e) d = (n, d)
  distinct-moved (gained t a e h) d = d
  distinct-moved (ended t o e h) d = d

  pub distinct : (log : List Effect) → IsTidy script me log → Distinct (tries (book log))
  unfolding book
  distinct [] h = tt
  distinct (f ∷ log) h = distinct-moved (moved (book log) f (clocks log h.0) h.1) (distinct log h.0)

  -- a try is found later too
  found : (g : Try → Try) (c : Bool) (n : Try) (r : Option Try) (t : Try) → (if c then Some n else r) ≡ Some t →
      ((if c then Some (g n) else r) ≡ Some t) ⊎ ((n ≡ t) × ((if c then Some (g n) else r) ≡ Some (g t)))
  found g true n r t h = let e : n ≡ t = cc in inr (e, ap (λ x. Some (g x)) e)
  found g false n r t h = inl h

  other : (c : Bool) (s : StampParts) (n : Try) (ts : List Try) (t : Try) → same_stamp n.stamp s ≡ c → find n.stamp ts ≡ None → find s ts ≡ Some t → (if c then Some n else find s ts) ≡ Some t
  other true s n ts t e h k = let no : None ≡ Some t = sym (subst (λ z. find z ts ≡ None) (same_stamp-is n.stamp s e) h) ∙ k in cc
  other false s n ts t e h k = k

  pub later-refl : (t : Try) → IsLater t t
  later-refl t = record { task = refl; stamp = refl; answers = ([], sym (append-nil t.answers)); ended = λ o e. e }

  later-gain : (t : Try) (a : Answer) → IsLater t (gain a t)
  later-gain t a = record { task = refl; stamp = refl; answers = (a ∷ [], refl); ended = λ o e. e }

  later-end : (t : Try) (o : Outcome) → t.end ≡ None → IsLater t (finish o t)
  later-end t o n = record { task = refl; stamp = refl; answers = ([], sym (append-nil t.answers)); ended = λ p e. let no : None ≡ Some p = sym n ∙ e in cc }

  pub later : {ts us : List Try} → Moved script ts us → (s : StampParts) (t : Try) → find s ts ≡ Some t → (u : Try) × (find s us ≡ Some u) × IsLater t u
  later same s t h = (t, h, later-refl t)
  later {ts} (tried n new a e) s t h = (t, other (same_stamp n.stamp s) s n ts t refl new h, later-refl t)
  later (gained {ts} n a e w) s t h =
      elim (found (gain a) (same_stamp n.stamp s) n (find s ts) t h) [ inl k ↦ (t, k, later-refl t) | inr k ↦ (gain a t, k.1, later-gain t a) ]
  later (ended {ts} n o e w) s t h =
      elim (found (finish o) (same_stamp n.stamp s) n (find s ts) t h) [ inl k ↦ (t, k, later-refl t) | inr k ↦ (finish o t, k.1, later-end t o (subst (λ (y : Try). y.end ≡ None) k.0 e)) ]

  pub later-kept : (log : List Effect) (f : Effect) (s : StampParts) (t : Try) → IsTidy script me log → FitsBook script me (book log) f →
      find s (tries (book log)) ≡ Some t → (u : Try) × (find s (tries (book (f ∷ log))) ≡ Some u) × IsLater t u
  unfolding book
  later-kept log f s t tidy fits h = later (moved (book log) f (clocks log tidy) fits) s t h

  -- what was sent stays right
  ask-kept : {ts us : List Try} → Moved script ts us → (x : TimeParts) (q : Request) → IsAskOf script ts x q → IsAskOf script us x q
  ask-kept m x q h =
      let l = later m x.stamp h.0 h.1 in
      let w = l.2.answers in (
        l.0,
        l.1,
        (h.2.0, h.2.1 ++ w.0, w.1 ∙ ap (λ xs. xs ++ w.0) h.2.2 ∙ append_assoc h.2.0 h.2.1 w.0, h.2.3, subst (λ y. stop (script y.script) h.2.0 ≡ Asks q) (sym l.2.task) h.2.4),
      )

  known-kept : {ts us : List Try} → Moved script ts us → (s : StampParts) (to : NodeId) → IsKnown me ts s to → IsKnown me us s to
  known-kept m s to h = let l = later m s h.2.0 h.2.1 in (h.0, h.1, (l.0, l.1))

  finished : (n t : Try) (q : Request) → n ≡ t → stop_of script n ≡ Asks q → stop_of script t ≡ Over ending.Finished → ⊥
  finished n t q e a o = let b : Asks q ≡ Over ending.Finished = sym a ∙ ap (λ y. stop_of script y) e ∙ o in cc

  gain-finished : (n t : Try) (a : Answer) → n ≡ t → IsAsked script n a → stop_of script t ≡ Over ending.Finished → ⊥
  gain-finished n t (Got v) e h o = finished n t _ e h.1 o
  gain-finished n t Stored e h o = finished n t _ e h.2 o

  quiet : (n t : Try) (o : Outcome) → n ≡ t → EndsBy script n o → stop_of script t ≡ Over ending.Finished → MayCommit (Some o)
  quiet n t (outcome.Withdrawn l) e h f = let b : Over (ending.Withdrawn l) ≡ Over ending.Finished = sym h ∙ ap (λ y. stop_of script y) e ∙ f in cc
  quiet n t (outcome.Failed l k) e h f = let b : Over (ending.Failed l k) ≡ Over ending.Finished = sym h ∙ ap (λ y. stop_of script y) e ∙ f in cc
  quiet n t (outcome.LaterRead o x) e (inl h) f = finished n t _ e h f
  quiet n t (outcome.LaterRead o x) e (inr h) f = finished n t _ e h.1 f
  quiet n t (outcome.LaterVersion o x) e h f = finished n t _ e h.1 f
  quiet n t (outcome.Spent c) e h f = h
  quiet n t _ e h f = tt

  commit-kept : {ts us : List Try} → Moved script ts us → (s : StampParts) → IsCommitOf script ts s → IsCommitOf script us s
  commit-kept same s h = h
  commit-kept {ts} (tried n new a e) s h = (h.0, other (same_stamp n.stamp s) s n ts h.0 refl new h.1, h.2, h.3)
  commit-kept (gained {ts} n a e w) s h =
      elim (found (gain a) (same_stamp n.stamp s) n (find s ts) h.0 h.1) [ inl k ↦ (h.0, k, h.2, h.3) | inr k ↦ absurd (gain-finished n h.0 a k.0 w h.3) ]
  commit-kept (ended {ts} n o e w) s h =
      elim (found (finish o) (same_stamp n.stamp s) n (find s ts) h.0 h.1) [ inl k ↦ (h.0, k, h.2, h.3) | inr k ↦ (finish o h.0, k.1, quiet n h.0 o k.0 w h.3, h.3) ]

  pub post-moved : {ts us : List Try} → Moved script ts us → (to : NodeId) (m : Message) → PostHolds script me ts to m → PostHolds script me us to m
  post-moved w to (message.Begin s d) h = known-kept w s to h
  post-moved w to (message.Withdraw s) h = known-kept w s to h
  post-moved w to (message.Read x o) h = (h.0, h.1, ask-kept w x _ h.2)
  post-moved w to (message.Write x o v) h = (h.0, h.1, ask-kept w x _ h.2)
  post-moved w to (message.Commit s) h = (h.0, h.1, commit-kept w s h.2)
  post-moved w to m h = h

  -- a message that was sent stays right
  pub post-kept : (log : List Effect) (f : Effect) (to : NodeId) (m : Message) → IsTidy script me log → FitsBook script me (book log) f →
      PostHolds script me (tries (book log)) to m → PostHolds script me (tries (book (f ∷ log))) to m
  unfolding book
  post-kept log f to m tidy fits h = post-moved (moved (book log) f (clocks log tidy) fits) to m h

  -- growth
  pub grown : (log added : List Effect) → IsTidy script me log → Grew (FitsLog script me) log added → IsTidy script me (added ++ log)
  grown log [] t g = t
  grown log (f ∷ added) t g = (grown log added t g.0, g.1)

  pub post-grown : (log added : List Effect) (to : NodeId) (m : Message) → IsTidy script me log → Grew (FitsLog script me) log added →
      PostHolds script me (tries (book log)) to m → PostHolds script me (tries (book (added ++ log))) to m
  post-grown log [] to m t g h = h
  post-grown log (f ∷ added) to m t g h = post-kept (added ++ log) f to m (grown log added t g.0) g.1 (post-grown log added to m t g.0 h)

  -- a crash keeps the older part
  pub cut : (log late added : List Effect) → Grew (FitsLog script me) log (late ++ added) → Grew (FitsLog script me) log added
  cut log [] added g = g
  cut log (f ∷ late) added g = cut log late added g.0
