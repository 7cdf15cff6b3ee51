-- What an append leaves of a node, and the gate after it.
use Rattle.node_turn.proofs.Names.{is_blank, NodeId, Rose, Image, Effect, Out, AreEffects, StoreFault, HasPrefix, filling, storage, Gate, leaves, Base, Life, Flags, all_effects, gated_life, owed, Decided, Sight, base_at, world_at, life_at, flags_at, Gated, closed, LeavesLog, IsAppended, IsFull, DraftParts, no_draft, IsKept, HasLife, IsUp, IsStored, IsStruck, IsCause, ◌≡◌, ◌≢◌, ℕ, ◌+◌, ◌≤◌, Bool, true, false, List, [], ◌++◌, length, take, Result, Ok, Err, IsTrue, refl, sym, ap, subst, ◌∙◌, arith, filter, count_by, ◌<◌, Media, Meanings, IsAfterAppend}
use Rattle.std.proofs.lemmas.List.{length-append, take_all}
use Rattle.node_inputs.specs.DownCause.TheVariants as down
use Rattle.node_inputs.specs.StoreFault.TheVariants as adding
use Rattle.node_inputs.proofs.ReadyLemmas.{ready-whole, ready-durable}
use Rattle.node_inputs.proofs.LifeLemmas.{Follows, follows-of, on-ok, if-err, kept-none}

-- an image of a log that a beginning of these effects was added to
pub kept-prefix : (l : Life) (log es : List Effect) (c : Image) → log ≡ l.gated → es ≡ l.fresh → HasPrefix log es c → IsKept l c
kept-prefix l log es c g f h = record {
  kept = h.kept;
  few = subst (λ x. h.kept ≤ length x) f h.few;
  is = h.is ∙ (ap (λ x. Ok (x ++ take h.kept es)) g ∙ ap (λ x. Ok (l.gated ++ take h.kept x)) f);
}

-- an image of the log that all of them were added to
pub kept-whole : (l : Life) (es : List Effect) (c : Image) → es ≡ l.fresh → storage c ≡ Ok (l.gated ++ es) → IsKept l c
kept-whole l es c f is = record {
  kept = length l.fresh;
  few = omega arith;
  is = is ∙ ap (λ x. Ok (l.gated ++ x)) (f ∙ sym (take_all (length l.fresh) l.fresh (omega arith)));
}

not-medium-none : adding.NoMemory ≢ adding.Medium
not-medium-none e = cc e

not-medium-full : (n : ℕ) → adding.Full n ≢ adding.Medium
not-medium-full n e = cc e

-- of equal effects
pub appended-at : {K M : Type 0} {w : Media M} {m : Meanings K M} {T : Type 0} {core new : K} {es es' : List Effect} {result : Result T StoreFault} → es ≡ es'
    → IsAppended w m core new es result → IsAppended w m core new es' result
appended-at {K} {M} {w} {m} {T} {core} {new} {es} {es'} {result} e a =
    subst (λ (x : List Effect). IsAppended w m core new x result) e a

module _ {K M : Type 0} {w : Media M} {m : Meanings K M} {T : Type 0} {core new : K} {k : Sight} {n : NodeId} {gone : Bool} {d : DraftParts} {result : Result T StoreFault}
    (u : IsUp w m core k n gone true d) (a : IsAppended w m core new d.effects result) where
  -- the node, by what its medium has after the append
  stored-by : (IsTrue w.tells → (c : Image) → w.may_leave (m.parts new).medium c → IsKept (life_at k n) c) → IsStored w m new k n
  stored-by kept = record {
    node = a.same.node ∙ u.node;
    run = a.same.run (base_at k) u.run;
    own = u.own;
    kept = kept;
  }

  struck-by : (IsTrue w.tells → (c : Image) → w.may_leave (m.parts new).medium c → IsKept (life_at k n) c) → IsStruck w m new k n d.durable
  struck-by kept = record {
    stored = stored-by kept;
    up = ap (λ (x : Flags). x.up) u.flags;
    due = ap (λ (x : Flags). x.due) u.flags;
    count = λ t. (u.life t).durable;
    ready = λ t. (u.life t).ready;
  }

  kept-failed : IsTrue w.tells → (c : Image) → w.may_leave (m.parts new).medium c → IsKept (life_at k n) c
  kept-failed t c i = kept-prefix (life_at k n) (life_at k n).gated d.effects c refl (u.life t).effects (a.images t (life_at k n).gated (u.life t).images_left c i)

  -- nothing was written
  kept-same : (m.parts new).medium ≡ (m.parts core).medium → IsTrue w.tells → (c : Image) → w.may_leave (m.parts new).medium c → IsKept (life_at k n) c
  kept-same e t c i = kept-none (life_at k n) c (life_at k n).gated refl ((u.life t).images_left c (subst (λ (x : M). w.may_leave x c) e i))

  full-new : ((x : M) → IsTrue w.tells → w.may_leave x (w.reads x)) → (number : ℕ) → (m.parts new).medium ≡ (m.parts core).medium → IsFull w m (m.parts core).medium d.effects number → IsCause w (down.Full number) (m.parts new).medium (life_at k n)
  full-new now number e f =
      subst (λ (x : M). IsCause w (down.Full number) x (life_at k n)) (sym e) (
        f.all,
        λ t. record {
          durable = (u.life t).images_left (w.reads (m.parts core).medium) (now (m.parts core).medium t);
          ranges = subst AreEffects (u.life t).effects u.effects_fit;
          blank = subst (λ es. count_by is_blank (w.reads (m.parts core).medium) < length (filling es)) (u.life t).effects (f.blank t);
        },
      )

  -- the append answered a fault
  pub after-append : ((x : M) → IsTrue w.tells → w.may_leave x (w.reads x)) → (f : StoreFault) → result ≡ Err f → IsAfterAppend w m f new k n d.durable
  after-append now adding.NoMemory e = stored-by (kept-same (if-err result adding.NoMemory (λ f. f ≢ adding.Medium → (m.parts new).medium ≡ (m.parts core).medium) e a.nothing not-medium-none))
  after-append now adding.Medium e = struck-by kept-failed
  after-append now (adding.Full number) e =
      let same : (m.parts new).medium ≡ (m.parts core).medium = if-err result (adding.Full number) (λ f. f ≢ adding.Medium → (m.parts new).medium ≡ (m.parts core).medium) e a.nothing (not-medium-full number) in (
        struck-by (kept-same same),
        full-new now number same (if-err result (adding.Full number) (λ f. (x : ℕ) → f ≡ adding.Full x → IsFull w m (m.parts core).medium d.effects x) e a.full number refl),
      )

  pub full-same : (f : StoreFault) → result ≡ Err f → (number : ℕ) → f ≡ adding.Full number → (m.parts new).medium ≡ (m.parts core).medium
  full-same f e number is = if-err result f (λ x. x ≢ adding.Medium → (m.parts new).medium ≡ (m.parts core).medium) e a.nothing (λ x. not-medium-full number (sym is ∙ x))

  pub cause-append : (f : StoreFault) → result ≡ Err f → f ≡ adding.Medium → Rose (w.faults (m.parts core).medium) (w.faults (m.parts new).medium)
  cause-append f e is = a.cause (e ∙ ap (λ x. Err x) is)

  module _ (v : T) (ok : result ≡ Ok v) where
    pub left-log : IsTrue w.tells → LeavesLog (w.may_leave (m.parts new).medium) ((life_at k n).gated ++ d.effects)
    left-log t = on-ok result v _ ok (a.left t (life_at k n).gated (u.life t).images_left)

    -- the effects are durable, and the gate wasn't opened
    pub stored-appended : IsStored w m new k n
    stored-appended = stored-by (λ t c i. kept-whole (life_at k n) d.effects c (u.life t).effects (left-log t c i))

    -- the gate was opened
    pub up-gated : {k' : Sight} {ds : List Decided} (durable : ℕ) → durable ≡ d.durable + length d.effects → Gated w.tells n k k' (Gate n) (gated_life (life_at k n)) (closed (flags_at k n)) ds
        → IsUp w m new k' n gone false (no_draft durable)
    up-gated {k'} {ds} durable count g =
        let f : Follows n k k' = follows-of n k k' (ap (λ (s : Sight). s.base) g.kept) (ap (λ (s : Sight). s.owner) g.kept) in
        record {
          node = a.same.node ∙ u.node;
          able = (on-ok result v (((m.parts new).able ≡ true) × m.owes new []) ok a.able).0;
          owed = (on-ok result v (((m.parts new).able ≡ true) × m.owes new []) ok a.able).1;
          effects_fit = tt;
          outs_fit = tt;
          run = subst (λ b. m.fits b new) (sym f.base) (a.same.run (base_at k) u.run);
          own = f.own u.own;
          flags = g.stands ∙ ap closed u.flags;
          life = λ t.
              let b : Base = base_at k in
              let l : Life = life_at k n in
              let h : HasLife b n d (m.lives b core) (w.may_leave (m.parts core).medium) l = u.life t in
              let e : length (l.gated ++ l.fresh) ≡ length l.gated + length l.fresh = length-append l.gated l.fresh in
              let o : length d.effects ≡ length l.fresh = ap length h.effects in
              let z : HasLife b n (no_draft durable) (m.lives b new) (w.may_leave (m.parts new).medium) (gated_life l) = record {
                core = on-ok result v (m.lives b new (gated_life l)) ok (a.has t b l h.core (sym h.effects));
                durable = count ∙ (let x = h.durable in omega (arith, e, o, x));
                effects = refl;
                outs = refl;
                images_left = λ c i. left-log t c i ∙ ap (λ es. Ok (l.gated ++ es)) h.effects;
                ready = ready-durable b n (gated_life l) refl (ready-whole b n l h.ready);
                asks = λ broker. tt;
              } in
              subst (λ (c : Base). HasLife c n (no_draft durable) (m.lives c new) (w.may_leave (m.parts new).medium) (life_at k' n)) (sym f.base)
              (subst (HasLife b n (no_draft durable) (m.lives b new) (w.may_leave (m.parts new).medium)) (sym (g.lives t)) z);
        }

-- what a gate has to send is what leaves of the draft
pub owed-is : (k : Sight) (n : NodeId) (outs all : List Out) → outs ≡ (life_at k n).outs → all ≡ filter (leaves (all_effects (life_at k n))) outs → all ≡ owed (world_at k) n
owed-is k n outs all o is = is ∙ ap (filter (leaves (all_effects (life_at k n)))) o
