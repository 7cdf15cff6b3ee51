-- What crashes leave of a node's medium at each place of a run.
use Rattle.run_rounds.proofs.Names.{NodeId, Asked, Image, LeftNow, Goes, goes_nowhere, Effect, medium_of, Plan, View, Founding, LockTable, fresh, knows, reading, Entry, Trace, base_of, Base, Life, names, opened_life, opened_log, own, walk_from, WireParts, base_from, owner_for, Sight, base_at, life_at, IsKept, NodeParts, sight, Passes, cuts_of, kept-none, IsKeptThrough, HasMemory, Opening, Open, Shut, Wanting, Media, HasOpened, IsOpen, log_in, node_at, node_count, place_of, at-place, Along, IsNewNode, IsSetUp, fresh_for, zip-at, all-at, Pass, KeepsThroughout, SurvivesKills, inner, ◌≡◌, ◌<◌, ◌+◌, ◌++◌, ◌∙◌, ℕ, suc, IsTrue, List, [], ◌∷◌, Option, Some, None, cond, length, map, slice_get, refl, ap, sym, subst, arith, All, AllZip, unwrap_or, append-nil, length-map, filter-append, same_Some, Stage, lock_base, looked-of, IsNext, KeptAlong, Mark, PassesOn, entries_in, IsKeptNow, IsOpened, KeepsPlaces}
use Rattle.version_store.specs.declared.stores.Store.{Store}
use Rattle.run_starts.proofs.PhaseLemmas.{kept-on, passes-beside, passes-on}
use Rattle.run_starts.proofs.WindowLemmas.{place-of}
use Rattle.run_rounds.proofs.ListLemmas.{along-at, along-unmapped, get-mapped}
use Rattle.run_rounds.proofs.KnownLemmas.{HaveStood, Known, base}
use Rattle.run_rounds.proofs.LogLemmas.{opened-at}
use Rattle.run_rounds.proofs.PlaceLemmas.{fresh-along}

-- ---- the places of a trace

module _ (b : Base) (n : NodeId) where
  own-append : (xs ys : List Entry) → own n (xs ++ ys) ≡ own n xs ++ own n ys
  own-append xs ys = filter-append (names n) xs ys

  own-one : (m : Mark) (next : IsNext n m.entries) → own n m.entries ≡ next.entry ∷ []
  own-one m next = ap (own n) next.is ∙ (own-append next.others (next.entry ∷ []) ∙ (ap (λ (l : List Entry). l ++ own n (next.entry ∷ [])) next.none ∙ ap (λ t. cond t (next.entry ∷ []) []) next.named))

  -- each mark has one entry of the node's own
  marks-own : (es : List Entry) (from to : List Stage) (ms : List Mark) → KeptAlong b n es from ms to → length (own n (entries_in ms)) ≡ length ms
  marks-own es from to [] kept = refl
  marks-own es from to (m ∷ ms) kept =
      ap length (own-append m.entries (entries_in ms))
      ∙ (ap (λ (l : List Entry). length (l ++ own n (entries_in ms))) (own-one m kept.1) ∙ ap suc (marks-own (es ++ m.entries) m.stages to ms kept.2))

module _ (plan : Plan) (t : Trace) (n : NodeId) (from all : List Stage) (p : Passes (base_of (reading plan.acts) plan t) n [] t.entries from all) where
  -- the window of each place, by what the medium went through along the whole trace
  pub keeps-places : KeepsPlaces plan t n (record { begun = from; cuts = cuts_of p.marks }) all
  keeps-places = record {
    each = length-map p.marks (λ (m : Mark). m.stages) ∙ sym whole;
    kept = λ front rest is. place-of (base_of (reading plan.acts) plan t) n t.entries front rest from all p is;
  }
    where
      whole : length (own n t.entries) ≡ length p.marks
      whole =
          ap (λ (l : List Entry). length (own n l)) p.story
          ∙ (ap length (own-append (base_of (reading plan.acts) plan t) n (entries_in p.marks) p.rest)
          ∙ (ap (λ (l : List Entry). length (own n (entries_in p.marks) ++ l)) p.none
          ∙ (ap length (append-nil (own n (entries_in p.marks))) ∙ marks-own (base_of (reading plan.acts) plan t) n [] from all p.marks p.kept)))

-- ---- a node of the rounds

-- a node in its place whose pass has seen nothing
abbrev pub IsUnseenAt : {M : Type 0} {g : _} → Plan → WireParts → ℕ → Opening M g → NodeParts M → Type 0
IsUnseenAt plan wire i op b = sight b ≡ fresh wire (owner_for (node_at plan i))

abbrev IsNewPass : {M : Type 0} {g : _} → Plan → WireParts → ℕ → Opening M g → Pass → Type 0
IsNewPass plan wire i op pass = knows pass ≡ fresh wire (owner_for (node_at plan i))

-- nodes with the new passes of a run have seen nothing
pub unseen-nodes : {M : Type 0} {g : _} (plan : Plan) (os : List (Opening M g)) (asked : List Asked) (answers : Option (List ℕ)) (wire : WireParts) → IsSetUp plan os asked answers wire.origin → (passes : List Pass) → map knows passes ≡ fresh_for wire wire.origin.opened
    → (nodes : List (NodeParts M)) → map (λ (n : NodeParts M). n.pass) nodes ≡ passes → Along (IsUnseenAt plan wire) 0 os nodes
unseen-nodes {M} plan os asked answers wire set passes unseen nodes are =
    along-unmapped (IsNewPass plan wire) (λ (n : NodeParts M). n.pass) 0 os nodes
    (subst (Along (IsNewPass plan wire) 0 os) (sym are) (fresh-along plan os asked answers wire set passes unseen (IsNewPass plan wire) (λ i o p there is. is)))

module _ {M Q A : Type 0} (w : Media M) (only : (m : M) (c : Image) → IsTrue w.tells → LeftNow (w.stages m) c → w.may_leave m c) (plan : Plan) (lock : LockTable WireParts (View WireParts Entry) (Founding WireParts) Q A) (t : Trace) where
  abbrev wire : WireParts
  wire = lock_base lock

  module _ {g : _} (i : ℕ) (old : M) (store : Store M g) (log : List Effect) (b p : NodeParts M) (h : IsOpened w old store log) (name : b.node ≡ node_at plan i) (same : medium_of store ≡ b.medium) (unseen : sight b ≡ fresh wire (owner_for (node_at plan i)))
      (opened : opened_log wire.origin.opened (node_at plan i) ≡ Some log) (kept : IsKeptThrough w.tells w.stages b p) (known : Known w plan lock t p.pass) (memory : HasMemory p) (bases : base_from wire.origin ≡ base w plan lock t) (told : IsTrue w.tells) where
    life-new : life_at (sight b) b.node ≡ opened_life wire.origin.start log
    unfolding walk_from
    life-new =
        ap (λ (k : Sight). life_at k b.node) unseen
        ∙ (ap (λ (m : NodeId). opened_life wire.origin.start (unwrap_or (opened_log wire.origin.opened m) [])) name ∙ ap (λ (o : Option (List Effect)). opened_life wire.origin.start (unwrap_or o [])) opened)

    kept-new : IsKeptNow w.stages b
    kept-new = record {
      own = ap (λ (k : Sight). k.owner) unseen ∙ ap owner_for (sym name);
      left = λ c now. kept-none (life_at (sight b) b.node) c log (sym (ap (λ (l : Life). l.gated) life-new)) (h.left told c (subst (λ (m : M). w.may_leave m c) (sym same) (only b.medium c told now)));
    }

    -- all entries, behind those that its pass has seen
    abbrev closed : Sight
    closed = record (sight p) { story = t.entries }

    run-on : PassesOn b.node (sight b) closed (w.stages b.medium) (w.stages p.medium)
    run-on =
        let s : List Stage = w.stages p.medium in
        let first : PassesOn b.node (sight b) (sight p) (w.stages b.medium) s = kept.passes told memory kept-new in
        passes-on first
        (passes-beside b.node (sight p) closed s s (first.names ∙ kept-new.own) known.wire.own (looked-of (sight p) closed t.entries known.wire.own refl known.carries) (goes_nowhere s (IsKept (life_at (sight p) b.node)) (kept-on first)))

    passes-whole : Passes (base w plan lock t) (node_at plan i) [] t.entries (w.stages b.medium) (w.stages p.medium)
    passes-whole =
        subst (λ (x : Base). Passes x (node_at plan i) [] t.entries (w.stages b.medium) (w.stages p.medium)) (ap base_at unseen ∙ bases)
        (subst (λ (m : NodeId). Passes (base_at (sight b)) m [] t.entries (w.stages b.medium) (w.stages p.medium)) name
        (subst (λ (l : List Entry). Passes (base_at (sight b)) b.node l t.entries (w.stages b.medium) (w.stages p.medium)) (ap (λ (k : Sight). k.story) unseen) run-on.passes))

    keeps-open : KeepsThroughout w plan t (node_at plan i) old p.medium
    keeps-open = record {
      course = record { begun = w.stages b.medium; cuts = cuts_of passes-whole.marks };
      opening = subst (λ (m : M). Goes (w.stages old) (w.stages m) (w.may_leave old)) same (h.same.at_moments told);
      places = keeps-places plan t (node_at plan i) (w.stages b.medium) (w.stages p.medium) passes-whole;
    }

  keeps-node : {g : _} (i : ℕ) (old : M) (op : Opening M g) (b p : NodeParts M) → HasOpened w (Some old) op → IsOpen op → IsNewNode plan i op b → IsUnseenAt plan wire i op b → opened_log wire.origin.opened (node_at plan i) ≡ Some (log_in op) → IsKeptThrough w.tells w.stages b p
      → Known w plan lock t p.pass → HasMemory p → base_from wire.origin ≡ base w plan lock t → IsTrue w.tells → KeepsThroughout w plan t (node_at plan i) old p.medium
  keeps-node i old (Open store effects) b p h is new unseen opened kept known memory bases told = keeps-open i old store effects.items b p h new.name (same_Some _ _ new.medium) unseen opened kept known memory bases told
  keeps-node i old (Shut medium cause) b p h is new unseen opened kept known memory bases told = absurd is
  keeps-node i old (Wanting medium) b p h is new unseen opened kept known memory bases told = absurd is

-- ---- the run

pub inner-some : {M : Type 0} (x : Option (Option M)) (m : M) → inner x ≡ Some m → x ≡ Some (Some m)
inner-some None m e = absurd cc
inner-some (Some x) m e = ap (λ y. Some y) e

module _ {M Q A : Type 0} {g : _} (w : Media M) (only : (m : M) (c : Image) → IsTrue w.tells → LeftNow (w.stages m) c → w.may_leave m c) (plan : Plan) (lock : LockTable WireParts (View WireParts Entry) (Founding WireParts) Q A) (t : Trace)
    (first : List (Option M)) (os : List (Opening M g)) (opened : AllZip (HasOpened w) first os) (are-open : All IsOpen os) (count : length os ≡ node_count plan) (begun : List (NodeParts M)) (new : Along (IsNewNode plan) 0 os begun)
    (unseen : Along (IsUnseenAt plan (lock_base lock)) 0 os begun) (logs : (k : ℕ) (op : Opening M g) → slice_get os k ≡ Some op → opened_log (lock_base lock).origin.opened (node_at plan (0 + k)) ≡ Some (log_in op))
    (nodes : List (NodeParts M)) (kept : AllZip (IsKeptThrough w.tells w.stages) begun nodes) (stood : HaveStood w plan lock t first nodes) (known : All (λ (p : NodeParts M). Known w plan lock t p.pass) nodes) (told : IsTrue w.tells) where
  abbrev left-by : List (Option M)
  left-by = map (λ (p : NodeParts M). Some p.medium) nodes

  keeps-at : (i : ℕ) (old back : M) → i < length os → slice_get first i ≡ Some (Some old) → slice_get left-by i ≡ Some (Some back) → KeepsThroughout w plan t (node_at plan (0 + i)) old back
  keeps-at i old back lt before after =
      let o = zip-at (HasOpened w) first os i (Some old) opened before in
      let x = along-at (IsNewNode plan) 0 os begun i new lt in
      let y = along-at (IsUnseenAt plan (lock_base lock)) 0 os begun i unseen lt in
      let p = zip-at (IsKeptThrough w.tells w.stages) begun nodes i x.1 kept x.3 in
      let is-op : x.0 ≡ o.0 = same_Some _ _ (sym x.2 ∙ o.1) in
      let is-node : y.1 ≡ x.1 = same_Some _ _ (sym y.3 ∙ x.3) in
      let is-back : p.0.medium ≡ back = same_Some _ _ (same_Some _ _ (sym (get-mapped (λ (q : NodeParts M). Some q.medium) nodes i p.0 p.1) ∙ after)) in
      subst (KeepsThroughout w plan t (node_at plan (0 + i)) old) is-back
      (keeps-node w only plan lock t (0 + i) old o.0 x.1 p.0 o.2 (all-at IsOpen os i o.0 are-open o.1) (subst (λ (op : Opening M g). IsNewNode plan (0 + i) op x.1) is-op x.4)
      (subst (λ (b : NodeParts M). sight b ≡ fresh (lock_base lock) (owner_for (node_at plan (0 + i)))) is-node y.4) (logs i o.0 o.1) p.2 (all-at (λ (q : NodeParts M). Known w plan lock t q.pass) nodes i p.0 known p.1)
      (all-at HasMemory nodes i p.0 stood.memory p.1) stood.same told)

  -- a kill at any place loses nothing
  pub survives : SurvivesKills w first left-by plan t
  survives = record {
    opened = λ n old back here was became.
        let at = at-place plan n here in
        let lt = at.0 in
        let z : 0 + place_of plan n ≡ place_of plan n = omega arith in
        subst (λ (m : NodeId). KeepsThroughout w plan t m old back) (ap (node_at plan) z ∙ at.1)
        (keeps-at (place_of plan n) old back (omega (arith, lt, count)) (inner-some (slice_get first (place_of plan n)) old became.0) (inner-some (slice_get left-by (place_of plan n)) back became.1));
    unopened = λ n old back here not became. absurd (opened-at w plan lock t first nodes stood n here not);
  }
