-- Nodes that settle: what becomes of each, and what is left in doubt.
use Rattle.run_rounds.proofs.Names.{Every, Has, NodeId, is_broker, repository, NodeKind, Repository, Broker, View, Founding, LockTable, Entry, Base, walk, base_from, IsOf, base_at, life_at, world_at, costs, NodeParts, sight, is_done_at, is_over, GoesOn, IsKeptThrough, IsUp, HasPass, IsDone, HasAllOf, WireParts, pass-origin, Media, Effect, Life, zip-back, all-at, slice_get, slice_get_within, get_or_from_slice_get, get_or, All, AllZip, IsTrue, Bool, true, false, ℕ, Option, Some, None, List, [], ◌∷◌, ◌++◌, is_some, ◌≡◌, ◌+◌, ◌==◌, ◌&&◌, if◌then◌else◌, refl, sym, ap, subst, ◌∙◌, arith, inl, inr, lock_base, eq-eqb}
use Rattle.std.specs.Prelude.{Any, reverse}
use Rattle.std.specs.declared.vec.Vec.{Vec}
use Rattle.std.specs.declared.alloc.Global.{Global}
use Rattle.pseudo_time.specs.StampParts.{StampParts}
use Rattle.run_starts.specs.Condition.TheVariants as condition
use Rattle.run_starts.specs.Doubts.{HasDecided, decided_at, decision_of, doubts, doubts_of, is_plain}
use Rattle.run_starts.specs.Nodes.{HasMet, HasSeen, IsReady}
use Rattle.run_starts.specs.Reason.{Reason}
use Rattle.run_starts.specs.Reason.TheVariants as reason
use Rattle.run_starts.specs.Reasons.{HasMemory}
use Rattle.run_starts.specs.Settled.{AllStand, Decided, HasSettled, HaveSettled}
use Rattle.run_starts.specs.Settles.{AreKnown, Learns, SettlesTo, Stand}
use Rattle.run_starts.proofs.DoubtLemmas.{home-decided, home-undecided, settled-then}
use Rattle.run_starts.proofs.RoundLemmas.{begins-joins, goes-joins, goes-met, goes-same, kept-joins, kept-met, kept-same, looked-own, looked-owner}
use Rattle.run_starts.proofs.PairLemmas.{all-through}
use Rattle.world_core.proofs.Lives.{stands-stays}
use Rattle.world_core.specs.Legal.{IsDecidedAs}
use Rattle.run_rounds.proofs.ListLemmas.{all-first, all-rest}
use Rattle.effect_form.specs.declared.effects.Effect.TheVariants.{Decide}
use Rattle.repository_log.specs.Logs.{known}
use Rattle.pseudo_time.proofs.ListLemmas.{every-append, has-either, has-left, has-right}
use Rattle.std.proofs.Common.{IsPermutation, ⊎_elim}
use Rattle.std.proofs.lemmas.List.Sorted.{All-permutation, IsPermutation-sym}
use Rattle.std.proofs.lemmas.List.Elements.{All-cons, All-nil, All-weaker}
use Rattle.std.proofs.lemmas.Bool.Decides.{nat_tests}
use Rattle.run_starts.proofs.TrailLemmas.{costs-append}
use Rattle.run_starts.specs.TurnNodes.{Adds}
use Rattle.std.proofs.lemmas.Option.{slice_get-get_or}
use Rattle.run_rounds.specs.Settled.{AreSettled, entry_for, IsFound, IsListFor, IsListOf, IsOwn, IsSettledBy, SettledEnds}

-- ---- what a node learned, and its meetings

up-memory : {M : Type 0} (n : NodeParts M) → IsUp n → HasMemory n
up-memory n up e = let z : condition.AtWork ≡ condition.Wanting = sym up ∙ e in absurd (cc z)

module _ {M : Type 0} where
  -- a node that met another has the life that it had
  life-met : (a b : NodeParts M) → IsOwn a → HasMet a b → life_at (sight b) b.node ≡ life_at (sight a) a.node
  life-met a b own m =
      let base : base_at (sight b) ≡ base_at (sight a) = ap base_at m.looked.kept in
      ap (life_at (sight b)) m.node ∙ (ap (λ (x : Base). (walk x (sight b).story).life a.node) base ∙ m.looked.before.life a.node own)

  own-met : (a b : NodeParts M) → IsOwn a → HasMet a b → IsOwn b
  own-met a b own m = subst (λ (n : NodeId). IsOf n (sight b)) (sym m.node) (looked-owner m.looked ∙ own)

  -- a broker that is done is so after it met another
  done-met : (a b : NodeParts M) → IsOwn a → HasMet a b → IsDone a → IsDone b
  done-met a b own m done =
      let base : base_at (sight b) ≡ base_at (sight a) = ap base_at m.looked.kept in
      ap (λ (n : NodeId). is_done_at (sight b) n) m.node
      ∙ (ap (λ (x : Base). if is_broker a.node.kind then is_over x a.node.number ((walk x (sight b).story).life a.node) else true) base
      ∙ (ap (λ (l : Life). if is_broker a.node.kind then is_over (base_at (sight a)) a.node.number l else true) (m.looked.before.life a.node own) ∙ done))

  -- a repository always is
  done-repository : (a : NodeParts M) → is_broker a.node.kind ≡ false → IsDone a
  done-repository a kind = ap (λ (t : Bool). if t then is_over (base_at (sight a)) a.node.number (life_at (sight a) a.node) else true) kind

module _ {M : Type 0} (w : Media M) where
  goes-settled : (list : List Decided) (a b : NodeParts M) → HasSettled w list a b → GoesOn w.tells w.faults w.reads a b
  goes-settled list a b h = by (is_broker a.node.kind) refl
    where
      by : (t : Bool) → is_broker a.node.kind ≡ t → GoesOn w.tells w.faults w.reads a b
      by true e = subst (λ x. GoesOn w.tells w.faults w.reads a x) (sym (h.0 e)) (goes-same w.tells w.faults w.reads a)
      by false e = let s = h.1 e in record { node = s.node; adds = s.adds; paid = s.paid; whole = s.whole }

  kept-settled : (list : List Decided) (a b : NodeParts M) → HasSettled w list a b → IsKeptThrough w.tells w.stages a b
  kept-settled list a b h = by (is_broker a.node.kind) refl
    where
      by : (t : Bool) → is_broker a.node.kind ≡ t → IsKeptThrough w.tells w.stages a b
      by true e = subst (λ x. IsKeptThrough w.tells w.stages a x) (sym (h.0 e)) (kept-same w.tells w.stages a)
      by false e = let s = h.1 e in record { node = s.node; passes = λ told ne k. s.passes told ne }

-- ---- all three steps of a node

module _ {M Q A : Type 0} (w : Media M) (lock : LockTable WireParts (View WireParts Entry) (Founding WireParts) Q A) where
  -- A node met the conductor, settled, and met it again. `all` are the nodes before.
  pub record Went (all : List (NodeParts M)) (old new : NodeParts M) : Type 0 where
    pub list : List Decided
    pub met : NodeParts M
    pub settled : NodeParts M
    pub ready : IsReady lock old
    pub own : IsOwn old
    pub first : HasMet old met
    pub pass : HasPass lock met
    pub settles : HasSettled w list met settled
    pub second : HasPass lock settled
    pub last : HasMet settled new
    pub lists : IsTrue w.tells → IsListFor all old list

  module _ (all : List (NodeParts M)) (old new : NodeParts M) (s : Went all old new) where
    up-met : s.met.condition ≡ condition.AtWork
    up-met = s.first.condition ∙ s.ready.up

    pub went-goes : GoesOn w.tells w.faults w.reads old new
    went-goes =
        let T = w.tells in
        goes-met T w.faults w.reads old s.settled new
        (goes-joins T w.faults w.reads old s.met s.settled (goes-met T w.faults w.reads old old s.met (goes-same T w.faults w.reads old) s.first) up-met (goes-settled w s.list s.met s.settled s.settles)) s.last

    pub went-kept : IsKeptThrough w.tells w.stages old new
    went-kept =
        kept-met w.tells w.stages old s.settled new
        (kept-joins w.tells w.stages old s.met s.settled (kept-met w.tells w.stages old old s.met (kept-same w.tells w.stages old) s.ready.pass.own s.first) up-met (kept-settled w s.list s.met s.settled s.settles)) s.second.own s.last

    pub went-name : new.node ≡ old.node
    went-name = went-goes.node

    name-met : s.met.node ≡ old.node
    name-met = s.first.node

    -- a repository learned, and nothing else
    module _ (told : IsTrue w.tells) (up : IsUp new) (kind : is_broker old.node.kind ≡ false) where
      to : SettlesTo w s.list s.met s.settled
      to = s.settles.1 (ap (λ (n : NodeId). is_broker n.kind) name-met ∙ kind)

      up-settled : IsUp s.settled
      up-settled = sym s.last.condition ∙ up

      -- it was its own pass all along
      own-settled : IsOwn s.settled
      own-settled = subst (λ (n : NodeId). IsOf n (sight s.settled)) (sym to.node) (owner-kept ∙ own-met old s.met s.own s.first)
        where
          owner-kept : (sight s.settled).owner ≡ (sight s.met).owner
          owner-kept = (to.passes told (up-memory s.settled up-settled)).names

      life-last : life_at (sight new) new.node ≡ life_at (sight s.settled) s.settled.node
      life-last = life-met s.settled new own-settled s.last

      pub learns : Learns (life_at (sight old) old.node).gated (life_at (sight new) new.node).gated
      learns =
          let g : Learns (life_at (sight s.met) s.met.node).gated (life_at (sight s.settled) s.met.node).gated = to.grown told (up-memory s.settled up-settled) in
          subst (λ (l : List Effect). Learns l (life_at (sight new) new.node).gated) (ap (λ (l : Life). l.gated) (life-met old s.met s.own s.first))
          (subst (λ (l : List Effect). Learns (life_at (sight s.met) s.met.node).gated l) (sym (ap (λ (l : Life). l.gated) (life-last ∙ ap (life_at (sight s.settled)) to.node))) g)

      -- where no crash of it was counted it knows its list
      pub knows-list : costs (sight new).own ≡ 0 → AreKnown (life_at (sight new) new.node).gated s.list
      knows-list none =
          let a : costs (sight s.settled).own ≡ 0 = sym (ap costs (looked-own s.last.looked)) ∙ none in
          let b = cost-before (sight s.met).own (sight s.settled).own to.adds a in
          subst (λ (l : List Effect). AreKnown l s.list) (sym (ap (λ (l : Life). l.gated) (life-last ∙ ap (life_at (sight s.settled)) to.node)))
          (to.known told up-settled (a ∙ sym b))
        where
          cost-before : (es fs : List Entry) → Adds es fs → costs fs ≡ 0 → costs es ≡ 0
          cost-before es fs x none = let e = ap costs x.1 ∙ costs-append es x.0 in omega (arith, e, none)

    pub went-done : IsTrue w.tells → IsUp new → IsDone old → IsDone new
    went-done told up done = by (is_broker old.node.kind) refl
      where
        by : (t : Bool) → is_broker old.node.kind ≡ t → IsDone new
        by false e = done-repository new (ap (λ (n : NodeId). is_broker n.kind) went-name ∙ e)
        by true e =
            let same : s.settled ≡ s.met = s.settles.0 (ap (λ (n : NodeId). is_broker n.kind) name-met ∙ e) in
            done-met s.settled new (subst IsOwn (sym same) (own-met old s.met s.own s.first)) s.last (subst IsDone (sym same) (done-met old s.met s.own s.first done))

-- ---- what is left in doubt

and-first : (a b : Bool) → (a && b) ≡ true → (a ≡ true) × (b ≡ true)
and-first true true e = (refl, refl)
and-first true false e = absurd (cc e)
and-first false b e = absurd (cc e)

-- what its log says that it decided, a home tells
decided-knows : (number : ℕ) (log : List Effect) (s : StampParts) → s.home ≡ number → HasDecided log s → is_some (decided_at number log s) ≡ true
decided-knows number log s home h =
    by (s.home == number) (eq-eqb s.home number home) (is_plain number log) (subst (λ (r : ℕ). is_plain r log ≡ true) home h.0) (known (reverse log) s) refl
  where
    by : (t : Bool) → t ≡ true → (plain : Bool) → plain ≡ true → (o : Option Bool) → known (reverse log) s ≡ o → is_some (if t && plain then known (reverse log) s else None) ≡ true
    by true t true plain (Some c) e = ap is_some e
    by true t true plain None e = absurd (home-undecided log s h.1 e h.2)
    by true t false plain o e = absurd (cc plain)
    by false t plain p o e = absurd (cc t)

module _ {M Q A : Type 0} (w : Media M) (lock : LockTable WireParts (View WireParts Entry) (Founding WireParts) Q A) (nodes after : List (NodeParts M)) (went : AllZip (Went w lock nodes) nodes after) (told : IsTrue w.tells) (up : All IsUp after) where
  -- each of the nodes after it settled, with the one before
  at : (i : ℕ) (n : NodeParts M) → slice_get after i ≡ Some n → (x : NodeParts M) × (slice_get nodes i ≡ Some x) × Went w lock nodes x n
  at i n e = zip-back (Went w lock nodes) nodes after i n went e

  any-of : (P : NodeParts M → Type 0) (i : ℕ) (x : NodeParts M) → slice_get nodes i ≡ Some x → P x → Any P nodes
  any-of P i x e p = (i, x, slice_get_within nodes i x e, get_or_from_slice_get nodes i x x e, p)

  module _ (i j : ℕ) (n h : NodeParts M) (at-n : slice_get after i ≡ Some n) (at-h : slice_get after j ≡ Some h) (n-kind : is_broker n.node.kind ≡ false) where
    settled-by : IsSettledBy n h
    settled-by none h-kind s home doubt decided =
        let x = at i n at-n in
        let y = at j h at-h in
        let nx = went-name w lock nodes x.0 n x.2 in
        let hy = went-name w lock nodes y.0 h y.2 in
        let kx : is_broker x.0.node.kind ≡ false = sym (ap (λ (m : NodeId). is_broker m.kind) nx) ∙ n-kind in
        let ky : is_broker y.0.node.kind ≡ false = sym (ap (λ (m : NodeId). is_broker m.kind) hy) ∙ h-kind in
        let up-n : IsUp n = all-at IsUp after i n up at-n in
        let up-h : IsUp h = all-at IsUp after j h up at-h in
        let home-y : s.home ≡ y.0.node.number = home ∙ ap (λ (m : NodeId). m.number) hy in
        settled-then x.0.node.number (life_at (sight x.0) x.0.node).gated (life_at (sight n) n.node).gated (life_at (sight y.0) y.0.node).gated (life_at (sight h) h.node).gated x.2.list s
        (learns w lock nodes x.0 n x.2 told up-n kx) (learns w lock nodes y.0 h y.2 told up-h ky)
        (λ was there. (x.2.lists told).whole s (doubted x.0 kx s was) (any-of (λ (z : NodeParts M). is_some (decision_of z s) ≡ true) j y.0 y.1 (decides y.0 ky s home-y there)))
        (knows-list w lock nodes x.0 n x.2 told up-n kx none) (undoubted x.0 nx) decided
      where
        -- what the definitions say of a repository
        doubted : (x : NodeParts M) → is_broker x.node.kind ≡ false → (s : StampParts) → Has s (doubts x.node.number (life_at (sight x) x.node).gated) → Has s (doubts_of x)
        doubted x kind s h = subst (λ (t : Bool). Has s (if t then [] else doubts x.node.number (life_at (sight x) x.node).gated)) (sym kind) h

        undoubted : (x : NodeParts M) → n.node ≡ x.node → Has s (doubts x.node.number (life_at (sight n) n.node).gated)
        undoubted x name = subst (λ (m : NodeId). Has s (doubts m.number (life_at (sight n) n.node).gated)) name
            (subst (λ (t : Bool). Has s (if t then [] else doubts n.node.number (life_at (sight n) n.node).gated)) n-kind doubt)

        decides : (y : NodeParts M) → is_broker y.node.kind ≡ false → (s : StampParts) → s.home ≡ y.node.number → HasDecided (life_at (sight y) y.node).gated s → is_some (decision_of y s) ≡ true
        decides y kind s home there =
            ap (λ (t : Bool). is_some (if t then None else decided_at y.node.number (life_at (sight y) y.node).gated s)) kind
            ∙ decided-knows y.node.number (life_at (sight y) y.node).gated s home there

  pub are-settled : AreSettled after
  are-settled = λ i n lt j h below. by i j (get_or after i n) (get_or after j h) (slice_get-get_or after i n lt) (slice_get-get_or after j h below)
    where
      by : (i j : ℕ) (n h : NodeParts M) → slice_get after i ≡ Some n → slice_get after j ≡ Some h → IsSettledBy n h
      by i j n h at-n at-h = kind (is_broker n.node.kind) refl
        where
          kind : (t : Bool) → is_broker n.node.kind ≡ t → IsSettledBy n h
          kind false e = settled-by i j n h at-n at-h e
          kind true e = λ none h-kind s home doubt decided. subst (λ (t : Bool). Has s (if t then [] else doubts n.node.number (life_at (sight n) n.node).gated)) e doubt

-- ---- decisions stand in what others have seen

module _ {M Q A : Type 0} (lock : LockTable WireParts (View WireParts Entry) (Founding WireParts) Q A) (all : List (NodeParts M)) (story : List Entry) (whole : All (HasAllOf story) all) (ready : All (IsReady lock) all) where
  base-is : (n : NodeParts M) → HasPass lock n → base_at (sight n) ≡ base_from (lock_base lock).origin
  base-is n pass = ap base_from (sym (pass-origin lock n.pass pass.of_lock))

  -- a node's decision stands in its own sight
  own-stands : (h : NodeParts M) (s : StampParts) (committed : Bool) → decision_of h s ≡ Some committed → IsDecidedAs (world_at (sight h)) s committed
  own-stands h s committed e = by h.node refl e
    where
      log : List Effect
      log = (life_at (sight h) h.node).gated

      at : (number : ℕ) → h.node ≡ repository number → (t plain : Bool) → (s.home == number) ≡ t → is_plain number log ≡ plain → (if t && plain then known (reverse log) s else None) ≡ Some committed → IsDecidedAs (world_at (sight h)) s committed
      at number name true true same plain e =
          let home : s.home ≡ number = grind (arith, nat_tests) in
          let d = home-decided log s committed (subst (λ (r : ℕ). is_plain r log ≡ true) (sym home) plain) e in
          let there : h.node ≡ repository s.home = name ∙ ap repository (sym home) in
          (d.0, subst (λ (m : NodeId). Has (Decide s d.0) (life_at (sight h) m).gated) there d.1, d.2)
      at number name true false same plain e = absurd (cc e)
      at number name false plain same is e = absurd (cc e)

      by : (n : NodeId) → h.node ≡ n → decision_of h s ≡ Some committed → IsDecidedAs (world_at (sight h)) s committed
      by n name e = kind n.kind n.number name
        where
          kind : (k : NodeKind) (number : ℕ) → h.node ≡ record { kind = k; number = number } → IsDecidedAs (world_at (sight h)) s committed
          kind Repository number same = at number same (s.home == number) (is_plain number log) refl refl
              (sym (ap (λ (m : NodeId). if is_broker m.kind then None else decided_at m.number log s) same) ∙ e)
          kind Broker number same = let z : None ≡ Some committed = sym (ap (λ (m : NodeId). if is_broker m.kind then None else decided_at m.number log s) same) ∙ e in absurd (cc z)

  -- and in that of a node that has seen all
  all-stands : (h n : NodeParts M) → HasAllOf story h → HasPass lock h → HasSeen story n → HasPass lock n → (s : StampParts) (committed : Bool) → decision_of h s ≡ Some committed → IsDecidedAs (world_at (sight n)) s committed
  all-stands h n has pass-h seen pass-n s committed e =
      let more = begins-joins (sight h).story story (sight n).story has.begins seen in
      let b = base-is h pass-h in
      subst (λ (x : Base). IsDecidedAs (walk x (sight n).story) s committed) (b ∙ sym (base-is n pass-n))
      (subst (λ (l : List Entry). IsDecidedAs (walk (base_at (sight h)) l) s committed) more.1
      (stands-stays (base_at (sight h)) (sight h).story more.0 s committed (own-stands h s committed e)))

  list-stands : (n : NodeParts M) → HasSeen story n → HasPass lock n → (list : List Decided) → Every (λ (d : Decided). Any (λ h. decision_of h d.0 ≡ Some d.1) all) list → Stand (world_at (sight n)) list
  list-stands n seen pass [] h = tt
  list-stands n seen pass (d ∷ list) h = (one d h.0, list-stands n seen pass list h.1)
    where
      one : (d : Decided) → Any (λ x. decision_of x d.0 ≡ Some d.1) all → IsDecidedAs (world_at (sight n)) d.0 d.1
      one d (i, x, lt, is, e) = all-stands x n (subst (HasAllOf story) is (whole i x lt)) (subst (HasPass lock) is (ready i x lt).pass) seen pass d.0 d.1 e

-- ---- lists beside each other

pub zip-weaker : {A B : Type 0} (R S : A → B → Type 0) → ((x : A) (y : B) → R x y → S x y) → (xs : List A) (ys : List B) → AllZip R xs ys → AllZip S xs ys
zip-weaker R S f [] [] h = tt
zip-weaker R S f [] (y ∷ ys) h = absurd h
zip-weaker R S f (x ∷ xs) [] h = absurd h
zip-weaker R S f (x ∷ xs) (y ∷ ys) h = (f x y h.0, zip-weaker R S f xs ys h.1)

-- pairs, and what holds of each second element
zip-right : {A B : Type 0} (R : A → B → Type 0) (Q : B → Type 0) (xs : List A) (ys : List B) → AllZip R xs ys → All Q ys → AllZip (λ x y. Q y × R x y) xs ys
zip-right R Q [] [] h k = tt
zip-right R Q [] (y ∷ ys) h k = absurd h
zip-right R Q (x ∷ xs) [] h k = absurd h
zip-right R Q (x ∷ xs) (y ∷ ys) h k = ((all-first Q y ys k, h.0), zip-right R Q xs ys h.1 (all-rest Q y ys k))

-- why nodes that settled are at work
pub ends-done : {M : Type 0} (r : Reason) (nodes : List (NodeParts M)) → SettledEnds r nodes → r ≡ reason.Done → All IsUp nodes
ends-done reason.Done nodes h e = h
ends-done reason.Down nodes h e = absurd (cc e)
ends-done reason.Wanting nodes h e = absurd (cc e)
ends-done reason.Enough nodes h e = absurd h
ends-done reason.RunOut nodes h e = absurd h

module _ {M Q A : Type 0} (w : Media M) (lock : LockTable WireParts (View WireParts Entry) (Founding WireParts) Q A) (all : List (NodeParts M)) where
  -- the list of a node, which has its own pass
  abbrev pub Listed : NodeParts M → Vec Decided Global → Type 0
  Listed n list = (IsTrue w.tells → IsListFor all n list.items) × IsOwn n

  pub went-all : (old : List (NodeParts M)) (lists : List (Vec Decided Global)) (met settled new : List (NodeParts M)) → All (IsReady lock) old → AllZip Listed old lists → AllZip HasMet old met → All (HasPass lock) met
      → HaveSettled w met lists settled → All (HasPass lock) settled → AllZip HasMet settled new → AllZip (Went w lock all) old new
  went-all [] [] [] [] [] r l m p s q n = tt
  went-all [] (a ∷ ls) met settled new r l m p s q n = absurd l
  went-all [] [] (b ∷ met) settled new r l m p s q n = absurd m
  went-all [] [] [] (c ∷ settled) new r l m p s q n = absurd s
  went-all [] [] [] [] (d ∷ new) r l m p s q n = absurd n
  went-all (x ∷ old) [] met settled new r l m p s q n = absurd l
  went-all (x ∷ old) (a ∷ ls) [] settled new r l m p s q n = absurd m
  went-all (x ∷ old) (a ∷ ls) (b ∷ met) [] new r l m p s q n = absurd s
  went-all (x ∷ old) (a ∷ ls) (b ∷ met) (c ∷ settled) [] r l m p s q n = absurd n
  went-all (x ∷ old) (a ∷ ls) (b ∷ met) (c ∷ settled) (d ∷ new) r l m p s q n = (
    record {
      list = a.items;
      met = b;
      settled = c;
      ready = all-first (IsReady lock) x old r;
      own = l.0.1;
      first = m.0;
      pass = all-first (HasPass lock) b met p;
      settles = s.0;
      second = all-first (HasPass lock) c settled q;
      last = n.0;
      lists = l.0.0;
    },
    went-all old ls met settled new (all-rest (IsReady lock) x old r) l.1 m.1 (all-rest (HasPass lock) b met p) s.1 (all-rest (HasPass lock) c settled q) n.1,
  )

  module _ (told : IsTrue w.tells) (story : List Entry) (whole : All (HasAllOf story) all) (ready : All (IsReady lock) all) where
    pub stand-all : (old : List (NodeParts M)) (lists : List (Vec Decided Global)) (met : List (NodeParts M)) → AllZip Listed old lists → AllZip HasMet old met → All (HasSeen story) met → All (HasPass lock) met → AllZip AllStand met lists
    stand-all [] [] [] l m s p = tt
    stand-all [] [] (b ∷ met) l m s p = absurd m
    stand-all [] (a ∷ ls) met l m s p = absurd l
    stand-all (x ∷ old) [] met l m s p = absurd l
    stand-all (x ∷ old) (a ∷ ls) [] l m s p = absurd m
    stand-all (x ∷ old) (a ∷ ls) (b ∷ met) l m s p = (
      list-stands lock all story whole ready b (all-first (HasSeen story) b met s) (all-first (HasPass lock) b met p) a.items (l.0.0 told).sound,
      stand-all old ls met l.1 m.1 (all-rest (HasSeen story) b met s) (all-rest (HasPass lock) b met p),
    )

  -- nodes at work that met another may have a turn
  pub ready-met : (old met : List (NodeParts M)) → All (IsReady lock) old → AllZip HasMet old met → All (HasPass lock) met → All (IsReady lock) met
  ready-met old met r m p = all-through (IsReady lock) (λ x y. HasPass lock y × HasMet x y) (IsReady lock) (λ x y ready h. record { pass = h.0; up = h.1.condition ∙ ready.up }) old met r (zip-right HasMet (HasPass lock) old met m p)

  -- brokers that were done are done
  pub done-all : IsTrue w.tells → (old new : List (NodeParts M)) → AllZip (Went w lock all) old new → All IsUp new → All IsDone old → All IsDone new
  done-all told old new went up done = all-through IsDone (λ x y. IsUp y × Went w lock all x y) IsDone (λ x y d h. went-done w lock all x y h.1 told h.0 d) old new done (zip-right (Went w lock all) IsUp old new went up)

-- ---- elements in another order

all-has : {A : Type 0} (P : A → Type 0) (xs : List A) (x : A) → All P xs → Has x xs → P x
all-has P [] x h k = absurd k
all-has P (y ∷ xs) x h (inl e) = subst P e (all-first P y xs h)
all-has P (y ∷ xs) x h (inr k) = all-has P xs x (all-rest P y xs h) k

all-itself : {A : Type 0} (xs : List A) → All (λ x. Has x xs) xs
all-itself [] = All-nil _
all-itself (x ∷ xs) = All-cons (λ y. Has y (x ∷ xs)) x xs (inl refl) (All-weaker (λ y. Has y xs) (λ y. Has y (x ∷ xs)) (λ y h. inr h) xs (all-itself xs))

has-moved : {A : Type 0} (xs ys : List A) → IsPermutation xs ys → (x : A) → Has x xs → Has x ys
has-moved xs ys p x h = all-has (λ y. Has y ys) xs x (All-permutation (λ y. Has y ys) ys xs (IsPermutation-sym xs ys p) (all-itself ys)) h

-- ---- lists of decisions

module _ {M : Type 0} (nodes : List (NodeParts M)) where
  pub no-list : IsListOf nodes [] []
  no-list = record { sound = tt; whole = λ s h. absurd h }

  none-decided : (s : StampParts) → IsFound nodes s None → Any (λ h. is_some (decision_of h s) ≡ true) nodes → ⊥
  none-decided s none (i, x, lt, is, e) = let z : false ≡ true = sym (ap is_some (subst (λ h. decision_of h s ≡ None) is (none i x lt))) ∙ e in cc z

  -- a stamp more, with its decision if one of them decided
  pub list-added : (stamps : List StampParts) (s : StampParts) (found : Option Bool) (list : List Decided) → IsFound nodes s found → IsListOf nodes stamps list → IsListOf nodes (stamps ++ s ∷ []) (list ++ entry_for s found)
  list-added stamps s None list none l = record {
    sound = every-append (λ (d : Decided). Any (λ h. decision_of h d.0 ≡ Some d.1) nodes) list [] l.sound tt;
    whole = λ t h any. ⊎_elim (λ k. (let z = l.whole t k any in (z.0, has-left list [] (t, z.0) z.1))) (λ k. absurd (none-decided s none (subst (λ (u : StampParts). Any (λ x. is_some (decision_of x u) ≡ true) nodes) (one t k) any))) (has-either stamps (s ∷ []) t h);
  }
    where
      one : (t : StampParts) → Has t (s ∷ []) → t ≡ s
      one t (inl e) = sym e
      one t (inr h) = absurd h
  list-added stamps s (Some committed) list found l = record {
    sound = every-append (λ (d : Decided). Any (λ h. decision_of h d.0 ≡ Some d.1) nodes) list ((s, committed) ∷ []) l.sound (found, tt);
    whole = λ t h any. ⊎_elim (λ k. (let z = l.whole t k any in (z.0, has-left list ((s, committed) ∷ []) (t, z.0) z.1))) (λ k. last t k) (has-either stamps (s ∷ []) t h);
  }
    where
      last : (t : StampParts) → Has t (s ∷ []) → (c : Bool) × Has {A = Decided} (t, c) (list ++ (s, committed) ∷ [])
      last t (inl e) = (committed, has-right list ((s, committed) ∷ []) (t, committed) (inl (ap (λ (u : StampParts). (u, committed)) e)))
      last t (inr h) = absurd h

  -- the stamps in another order
  pub list-moved : (stamps moved : List StampParts) (list : List Decided) → IsPermutation stamps moved → IsListOf nodes moved list → IsListOf nodes stamps list
  list-moved stamps moved list p l = record { sound = l.sound; whole = λ s h any. l.whole s (has-moved stamps moved p s h) any }
