-- What a node keeps of its life, from call to call.
use Rattle.node_inputs.proofs.Names.{every-append, StampParts, NodeId, NodeKind, Repository, Broker, is_broker, Rose, Image, NoMore, Effect, Out, AreEffects, AreOuts, HistoryFault, storage, Entry, Input, Base, Life, Flags, after_input, all_effects, walk, with_due, WireParts, base_from, Sight, origin_in, base_at, life_at, flags_at, IsOf, IsAsBefore, Looked, Added, Visited, Tested, given_for, DraftParts, IsKept, StaysReady, HasLife, up_flags, IsUnwritten, IsUp, IsStored, IsStruck, IsAfter, ◌≡◌, Bool, true, false, List, [], ◌++◌, length, Option, Result, Ok, Err, IsTrue, IfOk, IfErr, OnOk, OnErr, IsErrOf, ◌||◌, refl, sym, ap, subst, ◌∙◌, arith, append_assoc, append-nil, Media, went, learned, given, TakesOne, Meanings, HasTurn, IsGiven}
use Rattle.effect_form.specs.Effects.{IsEffect}
use Rattle.message_form.specs.declared.turns.Turn.{Turn}
use Rattle.message_form.specs.Messages.{IsMessage}
use Rattle.object_history.specs.declared.steps.HistoryFault.TheVariants as fault
use Rattle.object_history.specs.Causes.{IsNotDamage}
use Rattle.wire_core.specs.declared.takens.Taken.{Taken}
use Rattle.node_inputs.proofs.ReadyLemmas.{ready-told, asks-told}

-- ---- results

pub on-ok : {T E : Type 0} (r : Result T E) (v : T) (P : Type 0) → r ≡ Ok v → OnOk r P → P
on-ok {T} {E} r v P e h = subst (λ (x : Result T E). OnOk x P) e h

pub if-ok : {T E : Type 0} (r : Result T E) (v : T) (P : T → Type 0) → r ≡ Ok v → IfOk r P → P v
if-ok {T} {E} r v P e h = subst (λ (x : Result T E). IfOk x P) e h

pub if-err : {T E : Type 0} (r : Result T E) (f : E) (P : E → Type 0) → r ≡ Err f → IfErr r P → P f
if-err {T} {E} r f P e h = subst (λ (x : Result T E). IfErr x P) e h

pub on-err : {T E : Type 0} (r : Result T E) (f : E) (P : Type 0) → r ≡ Err f → OnErr r P → P
on-err {T} {E} r f P e h = subst (λ (x : Result T E). OnErr x P) e h

-- ---- flags

pub went-up : (kind : NodeKind) (f : Flags) (gone due : Bool) → is_broker kind ≡ true → f ≡ up_flags gone due → went kind f ≡ up_flags true true
went-up Repository f gone due h e = absurd (cc h)
went-up Broker f gone due h e = ap (λ (x : Flags). went Broker x) e

pub learned-up : (kind : NodeKind) (f : Flags) (gone due : Bool) → is_broker kind ≡ false → f ≡ up_flags gone due → learned kind f ≡ up_flags gone true
learned-up Repository f gone due h e = ap with_due e
learned-up Broker f gone due h e = absurd (cc h)

-- a node that went now, or before
pub either-gone : (a b : Bool) → b ≡ true → (a || b) ≡ true
either-gone true b h = refl
either-gone false b h = h

-- ---- lives

-- an image of the durable log has none of the new effects
pub kept-none : (l : Life) (c : Image) (log : List Effect) → log ≡ l.gated → storage c ≡ Ok log → IsKept l c
kept-none l c log e is = record {
  kept = 0;
  few = omega arith;
  is = is ∙ (ap (λ x. Ok x) e ∙ ap (λ x. Ok x) (sym (append-nil l.gated)));
}

-- a node after an input, by what its core gave
pub has-told : (b : Base) (n : NodeId) (d : DraftParts) (lives lives' : Life → Type 0) (images images' : Image → Type 0) (l : Life) (input : Input) (t : Turn)
    → HasLife b n d lives images l → HasTurn (given_for b n l input) t → lives' (after_input b n l input) → NoMore images images'
    → HasLife b n (record { durable = d.durable; effects = d.effects ++ t.effects; outs = d.outs ++ t.outs }) lives' images' (after_input b n l input)
has-told b n d lives lives' images images' l input t h turn now fewer = record {
  core = now;
  durable = h.durable;
  effects = ap (λ es. es ++ t.effects) h.effects ∙ ap (λ es. l.fresh ++ es) turn.0;
  outs = ap (λ os. os ++ t.outs) h.outs ∙ ap (λ os. l.outs ++ os) turn.1;
  images_left = λ c i. h.images_left c (fewer c i);
  ready = ready-told b n l input h.ready;
  asks = asks-told b n l input h.asks;
}

-- ---- sights

-- of a pass that kept its base and its owner
pub record Follows (n : NodeId) (k k' : Sight) : Type 0 where
  pub base : base_at k' ≡ base_at k
  pub own : IsOf n k → IsOf n k'

pub follows-of : (n : NodeId) (k k' : Sight) → k'.base ≡ k.base → k'.owner ≡ k.owner → Follows n k k'
follows-of n k k' b o = record {
  base = ap (λ (w : Option WireParts). base_from (origin_in w)) b;
  own = λ is. o ∙ is;
}

pub follows-added : (n : NodeId) {k k' : Sight} {e : Entry} → Added k k' e → Follows n k k'
follows-added n {k} {k'} {e} a = follows-of n k k' (ap (λ (s : Sight). s.base) a.kept) (ap (λ (s : Sight). s.owner) a.kept)

pub follows-looked : (n : NodeId) {k k' : Sight} → Looked k k' → Follows n k k'
follows-looked n {k} {k'} look = follows-of n k k' (ap (λ (s : Sight). s.base) look.kept) (ap (λ (s : Sight). s.owner) look.kept)

-- what a pass that saw more of others knows of its own node
pub life-seen : (n : NodeId) (k k' : Sight) → base_at k' ≡ base_at k → IsAsBefore k k'.story → IsOf n k → life_at k' n ≡ life_at k n
life-seen n k k' b before is = ap (λ (x : Base). (walk x k'.story).life n) b ∙ before.life n is

pub flags-seen : (n : NodeId) (k k' : Sight) → base_at k' ≡ base_at k → IsAsBefore k k'.story → IsOf n k → flags_at k' n ≡ flags_at k n
flags-seen n k k' b before is = ap (λ (x : Base). (walk x k'.story).flags n) b ∙ before.flags n is

pub life-looked : (n : NodeId) {k k' : Sight} → IsOf n k → Looked k k' → life_at k' n ≡ life_at k n
life-looked n {k} {k'} is look = let f = follows-looked n look in life-seen n k k' f.base look.before is

pub life-tested : (n : NodeId) {k k' : Sight} {stamp : StampParts} {answer : Option Bool} → IsOf n k → Tested k k' stamp answer → life_at k' n ≡ life_at k n
life-tested n {k} {k'} is t = let f = follows-of n k k' (ap (λ (s : Sight). s.base) t.kept) (ap (λ (s : Sight). s.owner) t.kept) in life-seen n k k' f.base t.before is

-- ---- nodes

module _ {K M : Type 0} {w : Media M} {m : Meanings K M} where
  -- an up node stays so as its pass sees more of others
  pub up-seen : {core : K} {k k' : Sight} {n : NodeId} {gone due : Bool} {d : DraftParts} → IsUp w m core k n gone due d → k'.base ≡ k.base → k'.owner ≡ k.owner → IsAsBefore k k'.story
      → IsUp w m core k' n gone due d
  up-seen {core} {k} {k'} {n} {gone} {due} {d} u sb so before =
      let f : Follows n k k' = follows-of n k k' sb so in
      record {
        node = u.node;
        able = u.able;
        owed = u.owed;
        effects_fit = u.effects_fit;
        outs_fit = u.outs_fit;
        run = subst (λ b. m.fits b core) (sym f.base) u.run;
        own = f.own u.own;
        flags = flags-seen n k k' f.base before u.own ∙ u.flags;
        life = λ t. subst (λ b. HasLife b n d (m.lives b core) (w.may_leave (m.parts core).medium) (life_at k' n)) (sym f.base)
            (subst (HasLife (base_at k) n d (m.lives (base_at k) core) (w.may_leave (m.parts core).medium)) (sym (life-seen n k k' f.base before u.own)) (u.life t));
      }

  pub up-looked : {core : K} {k k' : Sight} {n : NodeId} {gone due : Bool} {d : DraftParts} → IsUp w m core k n gone due d → Looked k k' → IsUp w m core k' n gone due d
  up-looked u look = up-seen u (ap (λ (s : Sight). s.base) look.kept) (ap (λ (s : Sight). s.owner) look.kept) look.before

  pub up-tested : {core : K} {k k' : Sight} {n : NodeId} {gone due : Bool} {d : DraftParts} {stamp : StampParts} {answer : Option Bool} → IsUp w m core k n gone due d → Tested k k' stamp answer → IsUp w m core k' n gone due d
  up-tested u t = up-seen u (ap (λ (s : Sight). s.base) t.kept) (ap (λ (s : Sight). s.owner) t.kept) t.before

  -- what an up node has on its medium
  pub up-stored : {core : K} {k : Sight} {n : NodeId} {gone due : Bool} {d : DraftParts} → IsUp w m core k n gone due d → IsStored w m core k n
  up-stored {core} {k} {n} {gone} {due} {d} u = record {
    node = u.node;
    run = u.run;
    own = u.own;
    kept = λ t c i. kept-none (life_at k n) c (life_at k n).gated refl ((u.life t).images_left c i);
  }

  pub stored-looked : {core : K} {k k' : Sight} {n : NodeId} → IsStored w m core k n → Looked k k' → IsStored w m core k' n
  stored-looked {core} {k} {k'} {n} s look =
      let f : Follows n k k' = follows-looked n look in
      record {
        node = s.node;
        run = subst (λ b. m.fits b core) (sym f.base) s.run;
        own = f.own s.own;
        kept = λ t c i. subst (λ l. IsKept l c) (sym (life-looked n s.own look)) (s.kept t c i);
      }

module _ {K M : Type 0} {w : Media M} {m : Meanings K M} where
  module _ {old new : K} {k k' : Sight} {n : NodeId} {gone gone' due : Bool} {d : DraftParts} {e : Entry} {flags : Flags} {input : Input} {result : Result Turn HistoryFault}
      (u : IsUp w m old k n gone due d) (v : Visited w.tells n k k' e (given n k input) flags) (flags_are : flags ≡ up_flags gone' true)
      (g : IsGiven w m old new input result) where
    f : Follows n k k'
    f = follows-added n v.added

    here : (t : IsTrue w.tells) → life_at k' n ≡ after_input (base_at k) n (life_at k n) input
    here t = v.lives t

    -- the input was given, and the turn is added to the draft
    up-given : (turn : Turn) → result ≡ Ok turn → IsUp w m new k' n gone' true (record { durable = d.durable; effects = d.effects ++ turn.effects; outs = d.outs ++ turn.outs })
    up-given turn ok = record {
      node = g.same.node ∙ u.node;
      able = on-ok result turn ((m.parts new).able ≡ true) ok g.able;
      owed = if-ok result turn (λ t. m.owes new (d.effects ++ t.effects)) ok (g.owed d.effects u.owed);
      effects_fit = every-append IsEffect d.effects turn.effects u.effects_fit (if-ok result turn (λ t. AreEffects t.effects × AreOuts t.outs) ok g.in_range).0;
      outs_fit = every-append (λ (o : Out). IsMessage o.message) d.outs turn.outs u.outs_fit (if-ok result turn (λ t. AreEffects t.effects × AreOuts t.outs) ok g.in_range).1;
      run = subst (λ b. m.fits b new) (sym f.base) (g.same.run (base_at k) u.run);
      own = f.own u.own;
      flags = v.stands ∙ flags_are;
      life = λ t.
          let b : Base = base_at k in
          let l : Life = life_at k n in
          let gave : HasTurn (given_for b (m.parts old).node l input) turn × m.lives b new (after_input b (m.parts old).node l input) =
          if-ok result turn (λ x. HasTurn (given_for b (m.parts old).node l input) x × m.lives b new (after_input b (m.parts old).node l input)) ok (g.gave t b l u.run (u.life t).core) in
          let at : HasTurn (given_for b n l input) turn × m.lives b new (after_input b n l input) =
          subst (λ (x : NodeId). HasTurn (given_for b x l input) turn × m.lives b new (after_input b x l input)) u.node gave in
          let d' : DraftParts = record { durable = d.durable; effects = d.effects ++ turn.effects; outs = d.outs ++ turn.outs } in
          let has : HasLife b n d' (m.lives b new) (w.may_leave (m.parts new).medium) (after_input b n l input) =
          has-told b n d (m.lives b old) (m.lives b new) (w.may_leave (m.parts old).medium) (w.may_leave (m.parts new).medium) l input turn (u.life t) at.0 at.1 (g.images t) in
          subst (λ (c : Base). HasLife c n d' (m.lives c new) (w.may_leave (m.parts new).medium) (life_at k' n)) (sym f.base) (subst (HasLife b n d' (m.lives b new) (w.may_leave (m.parts new).medium)) (sym (here t)) has);
    }

    stored-given : IsStored w m new k' n
    stored-given = record {
      node = g.same.node ∙ u.node;
      run = subst (λ b. m.fits b new) (sym f.base) (g.same.run (base_at k) u.run);
      own = f.own u.own;
      kept = λ t c i. kept-none (life_at k' n) c (life_at k n).gated (sym (ap (λ (l : Life). l.gated) (here t))) ((u.life t).images_left c (g.images t c i));
    }

    struck-given : IsStruck w m new k' n d.durable
    struck-given = record {
      stored = stored-given;
      up = ap (λ (x : Flags). x.up) (v.stands ∙ flags_are);
      due = ap (λ (x : Flags). x.due) (v.stands ∙ flags_are);
      count = λ t. (u.life t).durable ∙ sym (ap (λ (l : Life). length l.gated) (here t));
      ready = λ t. subst (λ (c : Base). StaysReady c n (life_at k' n)) (sym f.base) (subst (StaysReady (base_at k) n) (sym (here t)) (ready-told (base_at k) n (life_at k n) input (u.life t).ready));
    }

    -- the core answered a fault
    after-given : (h : HistoryFault) → result ≡ Err h → IsAfter w m h new k' n d.durable
    after-given fault.NoMemory err = stored-given
    after-given fault.Medium err = struck-given
    after-given (fault.Damaged page) err = (struck-given, λ t. if-err result (fault.Damaged page) IsNotDamage err (g.sound t))

    -- with what became of the draft
    module _ {T : Type 0} (done : Result T HistoryFault) (d' : DraftParts) (ok : OnOk done (IfOk result (λ t. d' ≡ record { durable = d.durable; effects = d.effects ++ t.effects; outs = d.outs ++ t.outs })))
        (err : IfErr result (λ h. done ≡ Err h)) (wanting : IfOk result (λ t. IfErr done (λ h. h ≡ fault.NoMemory))) where
      pub up-added : OnOk done (IsUp w m new k' n gone' true d')
      up-added = go result done refl refl ok err
        where
          go : (r : Result Turn HistoryFault) (x : Result T HistoryFault) → result ≡ r → done ≡ x → OnOk x (IfOk r (λ t. d' ≡ record { durable = d.durable; effects = d.effects ++ t.effects; outs = d.outs ++ t.outs }))
              → IfErr r (λ h. done ≡ Err h) → OnOk done (IsUp w m new k' n gone' true d')
          go r (Err h) p q a b = subst (λ (z : Result T HistoryFault). OnOk z (IsUp w m new k' n gone' true d')) (sym q) tt
          go (Ok turn) (Ok v) p q a b = subst (λ (z : Result T HistoryFault). OnOk z (IsUp w m new k' n gone' true d')) (sym q) (subst (IsUp w m new k' n gone' true) (sym a) (up-given turn p))
          go (Err h) (Ok v) p q a b = absurd (let z : Ok v ≡ Err h = sym q ∙ b in cc z)

      pub after-added : IfErr done (λ h. IsAfter w m h new k' n d.durable)
      after-added = go result done refl refl err wanting
        where
          After : HistoryFault → Type 0
          After h = IsAfter w m h new k' n d.durable

          go : (r : Result Turn HistoryFault) (x : Result T HistoryFault) → result ≡ r → done ≡ x → IfErr r (λ h. done ≡ Err h) → IfOk r (λ t. IfErr done (λ h. h ≡ fault.NoMemory)) → IfErr done After
          go r (Ok v) p q a b = subst (λ (z : Result T HistoryFault). IfErr z After) (sym q) tt
          go (Err h) (Err g') p q a b = subst (λ (z : Result T HistoryFault). IfErr z After) (sym a) (after-given h p)
          go (Ok turn) (Err g') p q a b = subst (λ (z : Result T HistoryFault). IfErr z After) (sym q) (subst After (sym (if-err done g' (λ h. h ≡ fault.NoMemory) q b)) stored-given)

      pub cause-added : IsErrOf done fault.Medium → Rose (w.faults (m.parts old).medium) (w.faults (m.parts new).medium)
      cause-added = go result refl err wanting
        where
          go : (r : Result Turn HistoryFault) → result ≡ r → IfErr r (λ h. done ≡ Err h) → IfOk r (λ t. IfErr done (λ h. h ≡ fault.NoMemory)) → done ≡ Err fault.Medium → Rose (w.faults (m.parts old).medium) (w.faults (m.parts new).medium)
          go (Ok turn) p a b z = absurd (let x : fault.Medium ≡ fault.NoMemory = if-err done fault.Medium (λ h. h ≡ fault.NoMemory) z b in cc x)
          go (Err h) p a b z = let y : ◌≡◌ {A = Result T HistoryFault} (Err h) (Err fault.Medium) = sym a ∙ z in let x : h ≡ fault.Medium = cc y in g.cause (p ∙ ap (λ y. Err y) x)

-- ---- taking

-- what taking left, by what came
pub taken-at : (tells : Bool) (n : NodeId) (k k' : Sight) {came came' : Taken} → came ≡ came' → TakesOne tells n k k' came → TakesOne tells n k k' came'
taken-at tells n k k' e h = subst (TakesOne tells n k k') e h

-- ---- media that weren't written

pub unwritten-none : {M : Type 0} (w : Media M) (x : M) → IsUnwritten w x x
unwritten-none w x = record { later = omega arith; still = λ t. refl; stages_still = λ t. refl }

pub unwritten-joins : {M : Type 0} {w : Media M} {a b c : M} → IsUnwritten w a b → IsUnwritten w b c → IsUnwritten w a c
unwritten-joins {M} {w} {a} {b} {c} p q = record { later = let x = p.later in let y = q.later in omega (arith, x, y); still = λ t. q.still t ∙ p.still t; stages_still = λ t. q.stages_still t ∙ p.stages_still t }

module _ {K M : Type 0} {w : Media M} {m : Meanings K M} where
  -- a turn that had begun
  pub up-or : {core : K} {k : Sight} {n : NodeId} {gone : Bool} {d : DraftParts} (t : Bool) → IsUp w m core k n gone (t || true) d → IsUp w m core k n gone true d
  up-or true u = u
  up-or false u = u

-- ---- logs that grow within a turn

-- the log of a node whose pass saw more of others
pub log-same : (k k' : Sight) (n : NodeId) → life_at k' n ≡ life_at k n → (more : List Effect) × (all_effects (life_at k' n) ≡ all_effects (life_at k n) ++ more)
log-same k k' n e = ([], ap all_effects e ∙ sym (append-nil (all_effects (life_at k n))))

-- an input's effects join it
pub log-told : (b : Base) (n : NodeId) (l x : Life) (input : Input) → x ≡ after_input b n l input → (more : List Effect) × (all_effects x ≡ all_effects l ++ more)
log-told b n l x input e = ((given_for b n l input).effects, ap all_effects e ∙ sym (append_assoc l.gated l.fresh (given_for b n l input).effects))

pub log-joins : (a b c : List Effect) → (more : List Effect) × (b ≡ a ++ more) → (more : List Effect) × (c ≡ b ++ more) → (more : List Effect) × (c ≡ a ++ more)
log-joins a b c p q = (p.0 ++ q.0, q.1 ∙ (ap (λ l. l ++ q.0) p.1 ∙ append_assoc a p.0 q.0))
