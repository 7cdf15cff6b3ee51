-- How the nodes of shares have gone, told of them in one list.
use Rattle.run_rounds.proofs.Names.{View, Founding, LockTable, Entry, WireParts, IsWirePass, Sight, base_at, tick_count, NodeParts, Limits, Reason, GoesOn, IsKeptThrough, IsUp, HasMemory, IsDone, IsLateAfter, TicksAreWanted, Media, HaveCome, ListEnds, Pass, IsDealt, ◌≡◌, ◌≤◌, ◌<◌, ℕ, Bool, IsTrue, List, [], ◌∷◌, ◌++◌, length, map, All, ap, sym, subst, ◌∙◌, AllZip, Vec, Global, All-append, All-cons, All-map, All-nil, AllZip-long, EachNode, EachPlace, HasAllOf, HasPass, Shares, EndsFor, IsDown, dealt-along, each-listed, some-listed}
use Rattle.run_rounds.proofs.Names.{Base, NodeId, Owns, arith, false, true, is_done_after, refl, story-ticks, tick-before}
use Rattle.run_starts.specs.Sights.{Looked}
use Rattle.run_starts.proofs.PairLemmas.{any-through, zip-through, zip-with}
use Rattle.run_starts.proofs.RoundLemmas.{goes-joins, kept-joins, looked-own, looked-owner}
use Rattle.run_rounds.specs.Closings.{TicksWereWanted}
use Rattle.std.specs.Prelude.{MatchBool}
use Rattle.run_starts.specs.Reasons.{SeesMore}
use Rattle.run_rounds.specs.Closings.{HaveGoneOn, PauseEnds}
use Rattle.run_rounds.specs.Settled.{AreSettled, IsToldIdle, SettledEnds}
use Rattle.run_starts.specs.Reason.TheVariants as reason

module _ {M : Type 0} (W : ℕ) (pos : 0 < W) (nodes : List (NodeParts M)) (shares : List (Vec (NodeParts M) Global)) (d : IsDealt W nodes shares) (size : length shares ≡ W) where
  -- why the rounds ended
  pub ends-listed : (tells : Bool) (limits : Limits) (why : Reason) (k : Sight) → EndsFor tells limits why shares k → ListEnds tells limits why nodes k
  ends-listed tells limits reason.Down k h = (each-listed W pos HasMemory nodes shares d size h.0, some-listed W pos IsDown nodes shares d size h.1)
  ends-listed tells limits reason.Done k h = (each-listed W pos IsUp nodes shares d size h.0, λ t. each-listed W pos IsDone nodes shares d size (h.1 t))
  ends-listed tells limits reason.Enough k h = (each-listed W pos IsUp nodes shares d size h.0, h.1)
  ends-listed tells limits reason.RunOut k h = (each-listed W pos IsUp nodes shares d size h.0, h.1, h.2)
  ends-listed tells limits reason.Wanting k h = tt

-- as many shares after as before
pub as-many : {M : Type 0} (R : NodeParts M → NodeParts M → Type 0) (W : ℕ) (old new : List (Vec (NodeParts M) Global)) → length old ≡ W → AllZip (λ (a b : Vec (NodeParts M) Global). AllZip R a.items b.items) old new → length new ≡ W
as-many {M} R W old new size zip = AllZip-long (λ (a b : Vec (NodeParts M) Global). AllZip R a.items b.items) old new zip ∙ size

-- the shares of nodes went on: so did the nodes, which are again dealt to them
module _ {M : Type 0} (w : Media M) (W : ℕ) (pos : 0 < W) (begun : List (NodeParts M)) (old new : Shares M) (d : IsDealt W begun old) (size : length old ≡ W) (went : EachPlace (GoesOn w.tells w.faults w.reads) old new) where
  abbrev pub as-dealt : (ys : List (NodeParts M)) × IsDealt W ys new × AllZip (GoesOn w.tells w.faults w.reads) begun ys
  as-dealt = dealt-along W pos (GoesOn w.tells w.faults w.reads) begun old new d size went

  pub shares-count : length new ≡ W
  shares-count = as-many (GoesOn w.tells w.faults w.reads) W old new size went

  -- as collecting asks it
  abbrev pub dealt-again : (xs : List (NodeParts M)) × IsDealt (length new) xs new × (length xs ≡ length begun)
  dealt-again = (as-dealt.0, subst (λ (n : ℕ). IsDealt n as-dealt.0 new) (sym shares-count) as-dealt.1, AllZip-long (GoesOn w.tells w.faults w.reads) begun as-dealt.0 as-dealt.2)

  module _ (nodes : List (NodeParts M)) (whole : (xs : List (NodeParts M)) → IsDealt (length new) xs new → length xs ≡ length begun → nodes ≡ xs) where
    nodes-are : nodes ≡ as-dealt.0
    nodes-are = whole dealt-again.0 dealt-again.1 dealt-again.2

    nodes-dealt : IsDealt W nodes new
    nodes-dealt = subst (λ (xs : List (NodeParts M)). IsDealt W xs new) (sym nodes-are) as-dealt.1

    pub nodes-count : length nodes ≡ length begun
    nodes-count = ap length nodes-are ∙ dealt-again.2

    -- what crashes left of each share they left of the nodes
    kept-listed : EachPlace (IsKeptThrough w.tells w.stages) old new → AllZip (IsKeptThrough w.tells w.stages) begun nodes
    kept-listed kept =
        let k = dealt-along W pos (IsKeptThrough w.tells w.stages) begun old new d size kept in
        let are : nodes ≡ k.0 = whole k.0 (subst (λ (n : ℕ). IsDealt n k.0 new) (sym shares-count) k.1) (AllZip-long (IsKeptThrough w.tells w.stages) begun k.0 k.2) in
        subst (λ (xs : List (NodeParts M)). AllZip (IsKeptThrough w.tells w.stages) begun xs) (sym are) k.2

    -- what holds of each node of the shares holds of each of the nodes
    pub each-node : (P : NodeParts M → Type 0) → EachNode P new → All P nodes
    each-node P each = each-listed W pos P nodes new nodes-dealt shares-count each

    module _ (limits : Limits) (why : Reason) (k : Sight) where
      -- the rounds of a run
      pub have-come : EachPlace (IsKeptThrough w.tells w.stages) old new → EachNode (HasAllOf k.story) new → k.owner ≡ 0 → tick_count k.own ≤ limits.ticks
          → (IsTrue w.tells → TicksAreWanted (base_at k) k.story new)
          → EndsFor w.tells limits why new k → HaveCome w limits begun why nodes k
      have-come kept each owner ticks wanted ends = record {
        on = record {
          went = subst (λ (xs : List (NodeParts M)). AllZip (GoesOn w.tells w.faults w.reads) begun xs) (sym nodes-are) as-dealt.2;
          kept = kept-listed kept;
          all = each-node (HasAllOf k.story) each;
          owner = owner;
        };
        ticks = ticks;
        wanted = λ told front moment more is. some-listed W pos (IsLateAfter (base_at k) front) nodes new nodes-dealt shares-count (wanted told front moment more is);
        ends = ends-listed W pos nodes new nodes-dealt shares-count w.tells limits why k ends;
      }

-- nodes whose brokers are all done are at work
pub ends-up : {M : Type 0} (tells : Bool) (limits : Limits) (why : Reason) (nodes : List (NodeParts M)) (k : Sight) → ListEnds tells limits why nodes k → why ≡ reason.Done → All IsUp nodes
ends-up tells limits reason.Done nodes k h e = h.0
ends-up tells limits reason.Down nodes k h e = absurd (cc e)
ends-up tells limits reason.Enough nodes k h e = absurd (cc e)
ends-up tells limits reason.RunOut nodes k h e = absurd (cc e)
ends-up tells limits reason.Wanting nodes k h e = absurd (cc e)

-- all passes are the wire's
pub all-passes : {M Q A : Type 0} (lock : LockTable WireParts (View WireParts Entry) (Founding WireParts) Q A) (nodes : List (NodeParts M)) (passes : List Pass) (conductor : Pass) → passes ≡ map (λ (n : NodeParts M). n.pass) nodes ++ conductor ∷ []
    → All (HasPass lock) nodes → IsWirePass lock conductor → All (IsWirePass lock) passes
all-passes {M} lock nodes passes conductor are each own =
    subst (All (IsWirePass lock)) (sym are)
    (All-append (IsWirePass lock) (map (λ (n : NodeParts M). n.pass) nodes) (conductor ∷ []) (All-map (IsWirePass lock) (λ (n : NodeParts M). n.pass) nodes each)
    (All-cons (IsWirePass lock) conductor [] own (All-nil (IsWirePass lock))))

-- ---- repositories that settled

-- nodes at work that had gone on so far settled
module _ {M : Type 0} (w : Media M) (begun old new : List (NodeParts M)) (k now : Sight) (up : All IsUp old) (went : AllZip (GoesOn w.tells w.faults w.reads) old new)
    (kept : AllZip (IsKeptThrough w.tells w.stages) old new) (looked : Looked k now) (all : All (HasAllOf now.story) new) where
  pub on-settled : HaveGoneOn w begun old k → HaveGoneOn w begun new now
  on-settled on = record {
    went = zip-through (GoesOn w.tells w.faults w.reads) (λ y z. IsUp y × GoesOn w.tells w.faults w.reads y z) (GoesOn w.tells w.faults w.reads) (λ x y z p q. goes-joins w.tells w.faults w.reads x y z p q.0 q.1) begun old new on.went
        (zip-with IsUp (GoesOn w.tells w.faults w.reads) (λ y z. IsUp y × GoesOn w.tells w.faults w.reads y z) (λ y z u g. (u, g)) old new up went);
    kept = zip-through (IsKeptThrough w.tells w.stages) (λ y z. IsUp y × IsKeptThrough w.tells w.stages y z) (IsKeptThrough w.tells w.stages) (λ x y z p q. kept-joins w.tells w.stages x y z p q.0 q.1) begun old new on.kept
        (zip-with IsUp (IsKeptThrough w.tells w.stages) (λ y z. IsUp y × IsKeptThrough w.tells w.stages y z) (λ y z u g. (u, g)) old new up kept);
    all = all;
    owner = looked-owner looked ∙ on.owner;
  }

module _ {M : Type 0} (w : Media M) (limits : Limits) (begun old new : List (NodeParts M)) (k now : Sight) (came : HaveCome w limits begun reason.Done old k) (went : AllZip (GoesOn w.tells w.faults w.reads) old new)
    (kept : AllZip (IsKeptThrough w.tells w.stages) old new) (looked : Looked k now) (owns : Owns k) (still : Owns now) (all : All (HasAllOf now.story) new) where
  at-base : base_at now ≡ base_at k
  at-base = ap base_at looked.kept

  wanted-still : IsTrue w.tells → TicksWereWanted now new
  wanted-still told front moment rest is =
      let owner = looked-owner looked ∙ came.on.owner in
      let a = story-ticks k came.on.owner owns in
      let b = story-ticks now owner still in
      let own = ap tick_count (looked-own looked) in
      let h = tick-before k.story now.story front moment rest looked.before.carries.begins (omega (arith, a, b, own)) is in
      any-through (IsLateAfter (base_at k) front) (GoesOn w.tells w.faults w.reads) (IsLateAfter (base_at now) front)
      (λ x y late g. subst (λ (z : Base). is_done_after z front y.node ≡ false) (sym at-base) (subst (λ (n : NodeId). is_done_after (base_at k) front n ≡ false) (sym g.node) late)) old new (came.wanted told front moment h.0 h.1) went

  ends-still : (r : Reason) → SettledEnds r new → (IsTrue w.tells → r ≡ reason.Done → All IsDone old → All IsDone new) → ListEnds w.tells limits r new now
  ends-still reason.Down h done = h
  ends-still reason.Done h done = (h, λ told. done told refl (came.ends.1 told))
  ends-still reason.Wanting h done = tt
  ends-still reason.Enough h done = absurd h
  ends-still reason.RunOut h done = absurd h

  -- nodes that had come so far, and settled
  pub come-settled : (r : Reason) → SettledEnds r new → (IsTrue w.tells → r ≡ reason.Done → All IsDone old → All IsDone new) → HaveCome w limits begun r new now
  come-settled r ends done = record {
    on = on-settled w begun old new k now came.ends.0 went kept looked all came.on;
    ticks = subst (λ (es : List Entry). tick_count es ≤ limits.ticks) (sym (looked-own looked)) came.ticks;
    wanted = wanted-still;
    ends = ends-still r ends done;
  }

-- ---- a run that only settles

module _ {M : Type 0} (tells : Bool) (nodes : List (NodeParts M)) where
  pub pause-ends : (why told : Reason) → IsToldIdle why told → SettledEnds why nodes → (IsTrue tells → why ≡ reason.Done → AreSettled nodes) → PauseEnds tells told nodes
  pause-ends reason.Done told is ends settled = subst (λ (r : Reason). PauseEnds tells r nodes) (sym is) (ends, λ yes. settled yes refl)
  pause-ends reason.Down told is ends settled = subst (λ (r : Reason). PauseEnds tells r nodes) (sym is) ends
  pause-ends reason.Wanting told is ends settled = subst (λ (r : Reason). PauseEnds tells r nodes) (sym is) tt
  pause-ends reason.Enough told is ends settled = absurd ends
  pause-ends reason.RunOut told is ends settled = absurd ends

-- of an idle wire alone it is told that nothing is left to do
pub was-done : (why told : Reason) → IsToldIdle why told → told ≡ reason.RunOut → (why ≡ reason.RunOut → ⊥) → why ≡ reason.Done
was-done reason.Done told is out not = refl
was-done reason.Down told is out not = absurd (let z : reason.Down ≡ reason.RunOut = sym is ∙ out in cc z)
was-done reason.Wanting told is out not = absurd (let z : reason.Wanting ≡ reason.RunOut = sym is ∙ out in cc z)
was-done reason.Enough told is out not = absurd (let z : reason.Enough ≡ reason.RunOut = sym is ∙ out in cc z)
was-done reason.RunOut told is out not = absurd (not refl)

-- nodes that are done are at work
pub settled-up : {M : Type 0} (why : Reason) (nodes : List (NodeParts M)) → SettledEnds why nodes → why ≡ reason.Done → All IsUp nodes
settled-up reason.Done nodes h is = h
settled-up reason.Down nodes h is = absurd (cc is)
settled-up reason.Wanting nodes h is = absurd (cc is)
settled-up reason.Enough nodes h is = absurd (cc is)
settled-up reason.RunOut nodes h is = absurd (cc is)

-- and such nodes haven't run out
pub never-out : {M : Type 0} (why : Reason) (nodes : List (NodeParts M)) → SettledEnds why nodes → why ≡ reason.RunOut → ⊥
never-out reason.Done nodes h is = cc is
never-out reason.Down nodes h is = cc is
never-out reason.Wanting nodes h is = cc is
never-out reason.Enough nodes h is = cc is
never-out reason.RunOut nodes h is = h

module _ (a b : Sight) (none : tick_count a.own ≡ 0) where
  pub one-at-most : (made : Bool) → MatchBool made (SeesMore 1 a b) (SeesMore 0 a b) → tick_count b.own ≤ 1
  one-at-most true h = let t = h.ticked in omega (arith, t, none)
  one-at-most false h = let t = h.ticked in omega (arith, t, none)

  pub one-made : (made : Bool) → made ≡ true → MatchBool made (SeesMore 1 a b) (SeesMore 0 a b) → tick_count b.own ≡ 1
  one-made true is h = let t = h.ticked in omega (arith, t, none)
  one-made false is h = absurd (cc is)

pub sees-owner : (made : Bool) (a b : Sight) → MatchBool made (SeesMore 1 a b) (SeesMore 0 a b) → b.owner ≡ a.owner
sees-owner true a b h = h.owner
sees-owner false a b h = h.owner
