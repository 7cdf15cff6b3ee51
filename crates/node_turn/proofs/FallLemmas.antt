-- What a node has after it went down, or after it was opened anew.
use Rattle.node_turn.proofs.Names.{NodeId, DownCause, Effect, OpenFault, Entry, Base, Life, Flags, opened_life, Sight, base_at, life_at, flags_at, Owns, Looked, Added, Falls, Crashes, IsReady, HasFound, IsReopened, no_draft, IsKept, HasLife, up_flags, IsUp, IsStored, IsStruck, IsCause, IsDown, storage, cost_of_cause, PaysFor, ◌≡◌, ℕ, ◌+◌, ◌-◌, ◌≤◌, ◌<◌, Bool, true, false, List, [], ◌++◌, length, take, Option, Some, Result, Ok, Err, IsTrue, refl, sym, ap, subst, ◌∙◌, arith, length-append, ⊎_elim, append-nil, length-take-le, Media, HadNothing, crashed, looked-of, Meanings, IsFullFor}
use Rattle.node_inputs.specs.DownCause.TheVariants as down
use Rattle.node_inputs.specs.OpenFault.TheVariants as opening
use Rattle.node_inputs.specs.StoreCauses.{down_of_opening}
use Rattle.node_turn.proofs.CostLemmas.{pays-none, pays-one}
use Rattle.node_inputs.proofs.ReadyLemmas.{ready-durable}
use Rattle.node_inputs.proofs.LifeLemmas.{Follows, follows-added, on-ok, if-ok}
use Rattle.node_turn.proofs.DueLemmas.{due-moved}

-- a node with something to close is no node that had nothing
pub had-nothing : (n : NodeId) (k : Sight) → (flags_at k n).due ≡ true → HadNothing n k
had-nothing n k due still = absurd (let z : true ≡ false = sym (due-moved (base_at k) k.story n due) ∙ still in cc z)

pub looked-none : (k : Sight) → Owns k → Looked k k
looked-none k owns = looked-of k k k.story owns refl (record { begins = ([], append-nil k.story); own = owns })

-- a cause says the same of the same life
pub cause-same : {M : Type 0} (w : Media M) (cause : DownCause) (m : M) (l x : Life) → (IsTrue w.tells → x ≡ l) → IsCause w cause m l → IsCause w cause m x
cause-same w down.Medium m l x e h = tt
cause-same w (down.Damaged page) m l x e h = h
cause-same w (down.Full number) m l x e h = (h.0, λ t. subst (λ (y : Life). IsFullFor y (w.reads m)) (sym (e t)) (h.1 t))

some-same : {A : Type 0} {x y : A} → ◌≡◌ {A = Option A} (Some x) (Some y) → x ≡ y
some-same {A} {x} {y} e = cc e

ok-same : {A E : Type 0} (x y : A) → ◌≡◌ {A = Result A E} (Ok x) (Ok y) → x ≡ y
ok-same x y e = cc e

ok-no-err : {A E : Type 0} (x : A) (y : E) → ◌≡◌ {A = Result A E} (Ok x) (Err y) → ⊥
ok-no-err x y e = cc e

module _ {K M : Type 0} {w : Media M} {m : Meanings K M} where
  -- an entry of the node left its life
  stored-added : {core : K} {k k' : Sight} {n : NodeId} {e : Entry} → IsStored w m core k n → Added k k' e → (IsTrue w.tells → life_at k' n ≡ life_at k n)
      → IsStored w m core k' n
  stored-added {core} {k} {k'} {n} {e} s a same =
      let f : Follows n k k' = follows-added n a in
      record {
        node = s.node;
        run = subst (λ b. m.fits b core) (sym f.base) s.run;
        own = f.own s.own;
        kept = λ t c i. subst (λ l. IsKept l c) (sym (same t)) (s.kept t c i);
      }

  pub down-fallen : {core : K} {k k' : Sight} {n : NodeId} {durable : ℕ} (cause : DownCause) → IsStruck w m core k n durable
      → IsCause w cause (m.parts core).medium (life_at k n) → Falls w.tells n k k' cause → IsDown w m core k' n cause
  down-fallen {core} {k} {k'} {n} {durable} cause s why v = record {
    stored = stored-added s.stored v.added v.lives;
    down = ap (λ (x : Flags). x.up) v.stands;
    due = ap (λ (x : Flags). x.due) v.stands ∙ s.due;
    before = k.own;
    last = ap (λ (x : Sight). x.own) v.added.kept;
    caused = cause-same w cause (m.parts core).medium (life_at k n) (life_at k' n) v.lives why;
  }

module _ {K M : Type 0} {w : Media M} {m : Meanings K M} {core new : K} {k : Sight} {n : NodeId} {durable : ℕ} {result : Result ℕ OpenFault}
    (s : IsStruck w m core k n durable) (r : IsReopened w m core new result) where
  -- what was found is the durable log with so many of the new effects
  pub record Found (log : List Effect) (count : ℕ) : Type 0 where
    pub few : count - durable ≤ length (life_at k n).fresh
    pub is : log ≡ (life_at k n).gated ++ take (count - durable) (life_at k n).fresh

  pub found-is : (count : ℕ) → result ≡ Ok count → (t : IsTrue w.tells) → (h : HasFound w m core new count) → Found h.log count
  found-is count ok t h =
      let l : Life = life_at k n in
      let x : IsKept l h.image = s.stored.kept t h.image h.left in
      let e : h.log ≡ l.gated ++ take x.kept l.fresh = ok-same h.log (l.gated ++ take x.kept l.fresh) (sym h.is ∙ x.is) in
      let y : length (l.gated ++ take x.kept l.fresh) ≡ length l.gated + length (take x.kept l.fresh) = length-append l.gated (take x.kept l.fresh) in
      let z : length (take x.kept l.fresh) ≡ x.kept = length-take-le x.kept l.fresh x.few in
      let v : length h.log ≡ length (l.gated ++ take x.kept l.fresh) = ap length e in
      let g : durable ≡ length l.gated = s.count t in
      let j : count - durable ≡ x.kept = (let q = h.size in omega (arith, y, z, v, g, q)) in
      record {
        few = (let q = x.few in omega (arith, j, q));
        is = e ∙ ap (λ i. l.gated ++ take i l.fresh) (sym j);
      }

  -- the crash visit may keep them
  pub crash-few : (count : ℕ) → result ≡ Ok count → IsTrue w.tells → count - durable ≤ length (life_at k n).fresh
  crash-few count ok t = (found-is count ok t (if-ok result count (HasFound w m core new) ok (r.found t))).few

  -- the node was opened anew
  pub up-crashed : {k' : Sight} (count : ℕ) → result ≡ Ok count → Crashes w.tells n k k' (count - durable) → (flags_at k n).known ≡ true → IsUp w m new k' n false false (no_draft count)
  up-crashed {k'} count ok v known =
      let f : Follows n k k' = follows-added n v.added in
      record {
        node = r.same.node ∙ s.stored.node;
        able = (on-ok result count (((m.parts new).able ≡ true) × m.owes new []) ok r.able).0;
        owed = (on-ok result count (((m.parts new).able ≡ true) × m.owes new []) ok r.able).1;
        effects_fit = tt;
        outs_fit = tt;
        run = subst (λ b. m.fits b new) (sym f.base) (r.same.run (base_at k) s.stored.run);
        own = f.own s.stored.own;
        flags = v.stands ∙ flags-crashed (flags_at k n) known s.up;
        life = λ t.
            let b : Base = base_at k in
            let l : Life = life_at k n in
            let h : HasFound w m core new count = if-ok result count (HasFound w m core new) ok (r.found t) in
            let x : Found h.log count = found-is count ok t h in
            let y : Life = opened_life b.start h.log in
            let e : life_at k' n ≡ y = v.lives t ∙ ap (opened_life b.start) (sym x.is) in
            let z : HasLife b n (no_draft count) (m.lives b new) (w.may_leave (m.parts new).medium) y = record {
              core = h.has b s.stored.run;
              durable = sym h.size;
              effects = refl;
              outs = refl;
              images_left = h.only;
              ready = ready-durable b n y refl (subst (IsReady b n) (sym x.is) (s.ready t (count - durable)));
              asks = λ broker. tt;
            } in
            subst (λ (c : Base). HasLife c n (no_draft count) (m.lives c new) (w.may_leave (m.parts new).medium) (life_at k' n)) (sym f.base)
            (subst (HasLife b n (no_draft count) (m.lives b new) (w.may_leave (m.parts new).medium)) (sym e) z);
      }
    where
      flags-crashed : (x : Flags) → x.known ≡ true → x.up ≡ true → crashed x ≡ up_flags false false
      flags-crashed x p q = ap (λ (a : Bool). record { known = a; up = x.up; gone = false; due = false }) p ∙ ap (λ (a : Bool). record { known = true; up = a; gone = false; due = false }) q

  -- the medium after an opening, whatever it came to
  pub stored-reopened : IsStored w m new k n
  stored-reopened = record {
    node = r.same.node ∙ s.stored.node;
    run = r.same.run (base_at k) s.stored.run;
    own = s.stored.own;
    kept = λ t c i. s.stored.kept t c (r.images t c i);
  }

  pub struck-reopened : IsStruck w m new k n durable
  struck-reopened = record { stored = stored-reopened; up = s.up; due = s.due; count = s.count; ready = s.ready }

  -- where media tell, an opening finds no damage: whatever a crash could leave is a log with which the node is ready
  pub undamaged : (page : ℕ) → result ≡ Err (opening.Damaged page) → IsTrue w.tells → ⊥
  undamaged page e t =
      let b : Base = base_at k in
      let l : Life = life_at k n in
      let d = r.damaged t b s.stored.run page e in
      let x : IsKept l d.0 = s.stored.kept t d.0 d.1 in
      let log : List Effect = l.gated ++ take x.kept l.fresh in
      ⊎_elim
      (λ (bad : storage d.0 ≡ Err page). ok-no-err log page (sym x.is ∙ bad))
      (λ (other : (page ≡ 0) × (found : List Effect) × (storage d.0 ≡ Ok found) × (IsReady b (m.parts core).node found → ⊥)). other.3 (subst (IsReady b (m.parts core).node) (ok-same log other.1 (sym x.is ∙ other.2)) (subst (λ (x : NodeId). IsReady b x log) (sym s.stored.node) (s.ready t x.kept))))
      d.2

  -- why the node goes down after an opening
  pub opening-cause : (f : OpenFault) (cause : DownCause) → result ≡ Err f → down_of_opening f ≡ Some cause → IsCause w cause (m.parts new).medium (life_at k n)
  opening-cause opening.Medium cause e is = subst (λ (x : DownCause). IsCause w x (m.parts new).medium (life_at k n)) (some-same is) tt
  opening-cause (opening.Damaged page) cause e is = subst (λ (x : DownCause). IsCause w x (m.parts new).medium (life_at k n)) (some-same is) (undamaged page e)
  opening-cause opening.NoMemory cause e is = absurd (cc is)

  -- and what that costs
  pub opening-pays : (f : OpenFault) (cause : DownCause) (old cost : ℕ) → result ≡ Err f → down_of_opening f ≡ Some cause → cost ≤ cost_of_cause cause → PaysFor (old + 1) (w.faults (m.parts core).medium) (old + cost) (w.faults (m.parts new).medium)
  opening-pays opening.Medium cause old cost e is le =
      let c : cost ≤ 2 = subst (λ (x : DownCause). cost ≤ cost_of_cause x) (sym (some-same is)) le in
      pays-one (old + 1) (old + cost) _ _ (omega (arith, c)) (r.cause e)
  opening-pays (opening.Damaged page) cause old cost e is le =
      let c : cost ≤ 0 = subst (λ (x : DownCause). cost ≤ cost_of_cause x) (sym (some-same is)) le in
      pays-none (old + 1) (old + cost) _ _ (omega (arith, c)) r.same.later
  opening-pays opening.NoMemory cause old cost e is le = absurd (cc is)

  pub opening-dear : (f : OpenFault) (cause : DownCause) (old cost : ℕ) → result ≡ Err f → down_of_opening f ≡ Some cause → cost ≡ cost_of_cause cause → IsTrue w.tells → old < old + cost
  opening-dear opening.Medium cause old cost e is same t = let c : cost ≡ 2 = same ∙ ap cost_of_cause (sym (some-same is)) in omega (arith, c)
  opening-dear (opening.Damaged page) cause old cost e is same t = absurd (undamaged page e t)
  opening-dear opening.NoMemory cause old cost e is same t = absurd (cc is)
