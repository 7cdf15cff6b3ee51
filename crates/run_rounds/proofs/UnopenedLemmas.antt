-- A run of which a node couldn't be opened.
use Rattle.std.proofs.Common.{◌≡◌, ◌≢◌, ◌+◌, ◌⊎◌, inl, inr, ◌∙◌, ◌++◌, ℕ, true, IsTrue, List, [], ◌∷◌, length, map, Option, Some, None, Ok, All, slice_get, take, refl, ap, sym, subst, arith, append-nil}
use Rattle.run_rounds.proofs.Names.{Every, NodeId, DownCause, Asked, RoseBy, rose_by_none, Image, LeftNow, Goes, goes_nowhere, Effect, storage, Plan, CanRun, IsOneOf, entries_of, CarriesOn, fresh, knows, Entry, Down, Opened, Trace, Life, opened_life, opened_log, own, walk, base_of, in_plan, WasNotOpened, life_after, reading, WireParts, owner_for, owner_of, Sight, owners_for, down_cause, IsIntact, costs, IsKept, kept-none, Reason, Opening, Open, Shut, Wanting, Media, Passes, cuts_of, AreReady, HasOpened, IsOpen, log_in, medium_in, opened_from, node_at, node_count, place_of, at-place, in-at, log-at, place-at, Along, HasFallen, IsSetUp, downs_of, zip-at, zip-back, End, Pass, ClosedAs, IfRan, account_of, tellers, KeepsThroughout, SurvivesKills, AreCounted, Became, HaveCauses, KeepsLog, RestoresLogs, inner, medium_at, AllZip, option_map, unwrap_or, take-length, slice_get-map, slice_get_within, same_Some, IsAsItWas, IsShutFor, one-place, some-within, all-front, all-last}
use Rattle.pseudo_time.specs.declared.down_causes.DownCause.TheVariants as down
use Rattle.run_starts.proofs.TurnPageLemmas.{whole-same}
use Rattle.run_starts.proofs.StepLemmas.{passes-between}
use Rattle.run_starts.specs.Reason.TheVariants as reason
use Rattle.run_rounds.specs.declared.ends.End.TheVariants as end
use Rattle.run_rounds.specs.Ends.{IsUnopened}
use Rattle.run_rounds.specs.Finishes.{EndsTo}
use Rattle.run_rounds.specs.Runs.{RanTo}
use Rattle.run_rounds.proofs.BackLemmas.{opened-alone, opened-back, opened-in-range, opened-kept, ready-at}
use Rattle.run_rounds.proofs.DownTraces.{AreOwn, IsFall, all-downs, all-falls, cause-at, cause-of, fall-of, falls-at, life-still, none-of, own-along}
use Rattle.run_rounds.proofs.KillLemmas.{inner-some, keeps-places}
use Rattle.run_rounds.proofs.RangeLemmas.{ranges-of}
use Rattle.run_rounds.proofs.ToldLemmas.{is-told, nodes-told, ready-told}

module _ {M : Type 0} {g : _} (w : Media M) where
  -- ---- what came of opening a medium

  shut-cause : (o : Opening M g) (a b : Option M) (y z : DownCause) → o ≡ Shut a y → o ≡ Shut b z → y ≡ z
  shut-cause o a b y z p q = cc

  as-it-was : (old : M) (o : Opening M g) (new : M) → HasOpened w (Some old) o → medium_in o ≡ Some new → IsAsItWas w old new
  as-it-was old (Open store effects) new h e = subst (IsAsItWas w old) (same_Some _ _ e) h.same
  as-it-was old (Shut None cause) new h e = absurd h
  as-it-was old (Shut (Some x) cause) new h e = subst (IsAsItWas w old) (same_Some _ _ e) h.0
  as-it-was old (Wanting x) new h e = subst (IsAsItWas w old) (same_Some _ _ e) h

  shut-for : (old : M) (o : Opening M g) (m : Option M) (cause : DownCause) (new : M) → o ≡ Shut m cause → HasOpened w (Some old) o → medium_in o ≡ Some new → IsShutFor w cause old new
  shut-for old (Open store effects) m cause new is h e = absurd cc
  shut-for old (Shut None c) m cause new is h e = absurd h
  shut-for old (Shut (Some x) c) m cause new is h e = subst (λ (y : DownCause). IsShutFor w y old new) (shut-cause (Shut (Some x) c) (Some x) m c cause refl is) (subst (IsShutFor w c old) (same_Some _ _ e) h.1)
  shut-for old (Wanting x) m cause new is h e = absurd cc

  shut-missing : (o : Opening M g) → HasOpened w None o → (m : Option M) × (o ≡ Shut m down.Medium)
  shut-missing (Open store effects) h = absurd h
  shut-missing (Shut None cause) h = (None, ap (Shut None) h)
  shut-missing (Shut (Some x) cause) h = absurd h
  shut-missing (Wanting x) h = absurd h

  medium-or-page : (x : Option M) (o : Opening M g) (m : Option M) (cause : DownCause) → o ≡ Shut m cause → HasOpened w x o → (cause ≡ down.Medium) ⊎ ((page : ℕ) × (cause ≡ down.Damaged page))
  medium-or-page None (Open store effects) m cause is h = absurd h
  medium-or-page (Some old) (Open store effects) m cause is h = absurd cc
  medium-or-page None (Shut None c) m cause is h = inl (sym (shut-cause (Shut None c) None m c cause refl is) ∙ h)
  medium-or-page None (Shut (Some new) c) m cause is h = absurd h
  medium-or-page (Some old) (Shut None c) m cause is h = absurd h
  medium-or-page (Some old) (Shut (Some new) down.Medium) m cause is h = inl (sym (shut-cause (Shut (Some new) down.Medium) (Some new) m down.Medium cause refl is))
  medium-or-page (Some old) (Shut (Some new) (down.Damaged page)) m cause is h = inr (page, sym (shut-cause (Shut (Some new) (down.Damaged page)) (Some new) m (down.Damaged page) cause refl is))
  medium-or-page (Some old) (Shut (Some new) (down.Full pages)) m cause is h = absurd h.1
  medium-or-page None (Wanting new) m cause is h = absurd h
  medium-or-page (Some old) (Wanting new) m cause is h = absurd cc

  -- ---- the run

  module _ (plan : Plan) (first : List (Option M)) (os : List (Opening M g)) (t : Trace) (opened-as : t.opened ≡ opened_from plan 0 os) (count : length os ≡ node_count plan) (ready : AreReady plan 0 os)
      (opened : AllZip (HasOpened w) first os) (falls : Every (IsFall plan os) t.entries) (owned : AreOwn plan os t.entries) where
    -- what came of the node's medium
    at-node : (n : NodeId) (old new : M) → Became plan first (map medium_in os) n old new → (o : Opening M g) × (slice_get os (place_of plan n) ≡ Some o) × HasOpened w (Some old) o × (medium_in o ≡ Some new)
    at-node n old new b =
        let z = zip-at (HasOpened w) first os (place_of plan n) (Some old) opened (inner-some (slice_get first (place_of plan n)) old b.0) in
        let m : slice_get (map medium_in os) (place_of plan n) ≡ Some (medium_in z.0) = slice_get-map medium_in os (place_of plan n) ∙ ap (option_map medium_in) z.1 in
        (z.0, z.1, z.2, sym (ap inner m) ∙ b.1)

    as-before : (n : NodeId) (old new : M) → Became plan first (map medium_in os) n old new → IsAsItWas w old new
    as-before n old new b = let a = at-node n old new b in as-it-was old a.0 new a.2 a.3

    in-place : (n : NodeId) → in_plan plan n ≡ true → (o : Opening M g) × (slice_get os (place_of plan n) ≡ Some o) × (node_at plan (place_of plan n) ≡ n)
    in-place n here =
        let p = at-place plan n here in
        let o = some-within os (place_of plan n) (let lt = p.0 in omega (arith, lt, count)) in
        (o.0, o.1, p.1)

    not-wanting : (i : ℕ) (o : Opening M g) (m : M) → slice_get os i ≡ Some (Wanting m) → ⊥
    not-wanting i o m e = (ready-at plan 0 os i (Wanting m) ready e).1 tt

    -- a node that can't be opened has one cause
    one-cause : (i : ℕ) (m : Option M) (c : DownCause) → slice_get os i ≡ Some (Shut m c) → (j : ℕ) (x : Option M) (d : DownCause) → slice_get os j ≡ Some (Shut x d) → node_at plan j ≡ node_at plan i → d ≡ c
    one-cause i m c there j x d e name =
        let same : j ≡ i = one-place plan j i name in
        shut-cause (Shut x d) x m d c refl (same_Some _ _ (sym e ∙ (ap (slice_get os) same ∙ there)))

    caused : (i : ℕ) (m : Option M) (c : DownCause) → slice_get os i ≡ Some (Shut m c) → down_cause (node_at plan i) t.entries ≡ Some c
    caused i m c there = cause-at plan os t.entries falls owned i m c there (one-cause i m c there)

    fallen : (i : ℕ) (m : Option M) (c : DownCause) → slice_get os i ≡ Some (Shut m c) → WasNotOpened t.entries (node_at plan i)
    fallen i m c there = ((c, falls-at plan os t.entries falls owned i m c there), all-downs plan os t.entries falls)

    -- what came of a node that is down
    of-cause : (n : NodeId) (c : DownCause) (old new : M) → down_cause n t.entries ≡ Some c → Became plan first (map medium_in os) n old new → WasNotOpened t.entries n × IsShutFor w c old new
    of-cause n c old new e b =
        let f = cause-of plan os t.entries falls n c e in
        let a = at-node n old new b in
        let p : place_of plan n ≡ f.0 = ap (place_of plan) (sym f.3) ∙ place-at plan f.0 in
        let is : a.0 ≡ Shut f.1 c = same_Some _ _ (sym a.1 ∙ (ap (slice_get os) p ∙ f.2)) in
        (subst (WasNotOpened t.entries) f.3 (fallen f.0 f.1 c f.2), shut-for old a.0 f.1 c new is a.2 a.3)

    -- a node that was opened
    opened-at : (n : NodeId) → in_plan plan n ≡ true → (WasNotOpened t.entries n → ⊥) → (o : Opening M g) × (slice_get os (place_of plan n) ≡ Some o) × (node_at plan (place_of plan n) ≡ n) × IsOpen o
    opened-at n here was = (let p = in-place n here in go p.0 p.1 p.2)
      where
        go : (o : Opening M g) → slice_get os (place_of plan n) ≡ Some o → node_at plan (place_of plan n) ≡ n → (o : Opening M g) × (slice_get os (place_of plan n) ≡ Some o) × (node_at plan (place_of plan n) ≡ n) × IsOpen o
        go (Open store effects) e name = (Open store effects, e, name, tt)
        go (Shut m c) e name = absurd (was (subst (WasNotOpened t.entries) name (fallen (place_of plan n) m c e)))
        go (Wanting m) e name = absurd (not-wanting (place_of plan n) (Wanting m) m e)

    -- ---- logs

    life-is : (n : NodeId) (log : List Effect) → opened_log t.opened n ≡ Some log → life_after plan t n ≡ opened_life t.start log
    life-is n log e = life-still (base_of (reading plan.acts) plan t) n t.entries (all-downs plan os t.entries falls) ∙ ap (λ (x : Option (List Effect)). opened_life t.start (unwrap_or x [])) e

    log-of : (n : NodeId) (o : Opening M g) → slice_get os (place_of plan n) ≡ Some o → node_at plan (place_of plan n) ≡ n → opened_log t.opened n ≡ Some (log_in o)
    log-of n o e name =
        let z : 0 + place_of plan n ≡ place_of plan n = omega arith in
        ap (λ (l : List Opened). opened_log l n) opened-as
        ∙ subst (λ (m : NodeId). opened_log (opened_from plan 0 os) m ≡ Some (log_in o)) (ap (node_at plan) z ∙ name) (log-at plan 0 os (place_of plan n) o e)

    -- of a node that wasn't opened there is none
    no-log : (n : NodeId) → WasNotOpened t.entries n → opened_log t.opened n ≡ Some []
    no-log n was =
        let f = fall-of plan os t.entries falls n was.0.0 was.0.1 in
        let p : place_of plan n ≡ f.0 = ap (place_of plan) (sym f.3) ∙ place-at plan f.0 in
        log-of n (Shut f.1 was.0.0) (ap (slice_get os) p ∙ f.2) (ap (node_at plan) p ∙ f.3)

    keeps : (n : NodeId) (o : Opening M g) (old new : M) → IsOpen o → HasOpened w (Some old) o → medium_in o ≡ Some new → opened_log t.opened n ≡ Some (log_in o) → IsTrue w.tells → KeepsLog w first (map medium_in os) plan t n old new
    keeps n (Open store effects) old new opens h m log told = record {
      opened = λ other e. subst (λ (l : List Effect). storage (w.reads old) ≡ Ok l) (same_Some _ _ (sym log ∙ e)) (h.held told);
      images = λ c leaves. kept c (h.left told c (subst (λ (x : M). w.may_leave x c) (sym (same_Some _ _ m)) leaves));
      up = λ none. ap (λ (l : Life). l.fresh) (life-is n effects.items log);
    }
      where
        kept : (c : Image) → storage c ≡ Ok effects.items → IsKept (life_after plan t n) c
        kept c is = subst (λ (l : Life). IsKept l c) (sym (life-is n effects.items log)) (record { kept = 0; few = omega arith; is = is ∙ ap (λ (l : List Effect). Ok l) (sym (append-nil effects.items)) })
    keeps n (Shut medium cause) old new opens h m log told = absurd opens
    keeps n (Wanting medium) old new opens h m log told = absurd opens

    logs-kept : RestoresLogs w first (map medium_in os) plan t
    logs-kept = record {
      back = opened-back w first os opened;
      opened = λ n here was. restored n here (opened-at n here was);
      unopened = λ n old new here was b. (as-before n old new b).untouched;
      empty = λ n here was. no-log n was;
    }
      where
        restored : (n : NodeId) → in_plan plan n ≡ true → (o : Opening M g) × (slice_get os (place_of plan n) ≡ Some o) × (node_at plan (place_of plan n) ≡ n) × IsOpen o
            → (old : M) × (new : M) × Became plan first (map medium_in os) n old new × (IsTrue w.tells → KeepsLog w first (map medium_in os) plan t n old new)
        restored n here (o, e, name, opens) = go o e opens (zip-back (HasOpened w) first os (place_of plan n) o opened e)
          where
            go : (o : Opening M g) → slice_get os (place_of plan n) ≡ Some o → IsOpen o → (x : Option M) × (slice_get first (place_of plan n) ≡ Some x) × HasOpened w x o
                → (old : M) × (new : M) × Became plan first (map medium_in os) n old new × (IsTrue w.tells → KeepsLog w first (map medium_in os) plan t n old new)
            go (Open store effects) e opens (None, f, h) = absurd h
            go (Open store effects) e opens (Some old, f, h) =
                let m : slice_get (map medium_in os) (place_of plan n) ≡ Some (medium_in (Open store effects)) = slice_get-map medium_in os (place_of plan n) ∙ ap (option_map medium_in) e in
                (old, _, (ap inner f, ap inner m), keeps n (Open store effects) old _ opens h refl (log-of n (Open store effects) e name))
            go (Shut medium cause) e opens z = absurd opens
            go (Wanting medium) e opens z = absurd opens

    -- ---- counts and causes

    nothing-own : (n : NodeId) → in_plan plan n ≡ true → (WasNotOpened t.entries n → ⊥) → own n t.entries ≡ []
    nothing-own n here was = none-of plan os t.entries falls n (λ i m c e name. was (subst (WasNotOpened t.entries) name (fallen i m c e)))

    counts-kept : AreCounted w first (map medium_in os) plan t
    counts-kept = record {
      opened = λ n old new here was b. subst (λ (l : List Entry). RoseBy (costs l) (w.faults old) (w.faults new)) (sym (nothing-own n here was)) (rose_by_none (w.faults old) (w.faults new) (as-before n old new b).later);
      unopened = λ n old new here was e b. (of-cause n down.Medium old new e b).1;
      missing = missing;
    }
      where
        missing : (n : NodeId) → in_plan plan n ≡ true → medium_at plan first n ≡ None → down_cause n t.entries ≡ Some down.Medium
        missing n here none =
            let p = in-place n here in
            let z = zip-back (HasOpened w) first os (place_of plan n) p.0 opened p.1 in
            let gone : z.0 ≡ None = sym (ap inner z.1) ∙ none in
            let s = shut-missing p.0 (subst (λ (x : Option M). HasOpened w x p.0) gone z.2) in
            subst (λ (m : NodeId). down_cause m t.entries ≡ Some down.Medium) p.2 (caused (place_of plan n) s.0 down.Medium (p.1 ∙ ap (λ (y : Opening M g). Some y) s.1))

    causes-kept : IsTrue w.tells → HaveCauses w first (map medium_in os) plan t
    causes-kept told = record {
      unopened = λ n here was. unopened n was;
      damaged = λ n old new page here e b. (let h = of-cause n (down.Damaged page) old new e b in (h.0, h.1 told));
      full = λ n old new pages here e b. absurd (of-cause n (down.Full pages) old new e b).1;
      intact = λ n old new here none b. subst (IsIntact (w.reads old)) (sym ((as-before n old new b).still told)) (whole-same (w.reads old));
    }
      where
        unopened : (n : NodeId) → WasNotOpened t.entries n → (down_cause n t.entries ≡ Some down.Medium) ⊎ ((page : ℕ) × (down_cause n t.entries ≡ Some (down.Damaged page)))
        unopened n was =
            let f = fall-of plan os t.entries falls n was.0.0 was.0.1 in
            let z = zip-back (HasOpened w) first os f.0 (Shut f.1 was.0.0) opened f.2 in
            let e : down_cause n t.entries ≡ Some was.0.0 = subst (λ (m : NodeId). down_cause m t.entries ≡ Some was.0.0) f.3 (caused f.0 f.1 was.0.0 f.2) in
            go was.0.0 e (medium-or-page z.0 (Shut f.1 was.0.0) f.1 was.0.0 refl z.2)
          where
            go : (c : DownCause) → down_cause n t.entries ≡ Some c → (c ≡ down.Medium) ⊎ ((page : ℕ) × (c ≡ down.Damaged page)) → (down_cause n t.entries ≡ Some down.Medium) ⊎ ((page : ℕ) × (down_cause n t.entries ≡ Some (down.Damaged page)))
            go c e (inl m) = inl (e ∙ ap (λ x. Some x) m)
            go c e (inr (page, d)) = inr (page, e ∙ ap (λ x. Some x) d)

    -- ---- kills

    abbrev Only : Type 0
    Only = (m : M) (c : Image) → IsTrue w.tells → LeftNow (w.stages m) c → w.may_leave m c

    -- a medium that was opened, and then left alone, keeps each place
    keeps-still : Only → (n : NodeId) (o : Opening M g) (old new : M) → IsOpen o → HasOpened w (Some old) o → medium_in o ≡ Some new → opened_log t.opened n ≡ Some (log_in o) → own n t.entries ≡ [] → IsTrue w.tells → KeepsThroughout w plan t n old new
    keeps-still only n (Open store effects) old new opens h m log none told = record {
      course = record { begun = w.stages new; cuts = cuts_of still.marks };
      opening = subst (λ (x : M). Goes (w.stages old) (w.stages x) (w.may_leave old)) (same_Some _ _ m) (h.same.at_moments told);
      places = keeps-places plan t n (w.stages new) (w.stages new) still;
    }
      where
        begins : (walk (base_of (reading plan.acts) plan t) []).life n ≡ opened_life t.start effects.items
        begins = life-still (base_of (reading plan.acts) plan t) n [] tt ∙ ap (λ (x : Option (List Effect)). opened_life t.start (unwrap_or x [])) log

        kept : (c : Image) → LeftNow (w.stages new) c → IsKept ((walk (base_of (reading plan.acts) plan t) []).life n) c
        kept c now = kept-none ((walk (base_of (reading plan.acts) plan t) []).life n) c effects.items (sym (ap (λ (l : Life). l.gated) begins)) (h.left told c (subst (λ (x : M). w.may_leave x c) (sym (same_Some _ _ m)) (only new c told now)))

        still : Passes (base_of (reading plan.acts) plan t) n [] t.entries (w.stages new) (w.stages new)
        still = passes-between (base_of (reading plan.acts) plan t) n [] t.entries (w.stages new) (w.stages new) none (goes_nowhere (w.stages new) (IsKept ((walk (base_of (reading plan.acts) plan t) []).life n)) kept)
    keeps-still only n (Shut medium cause) old new opens h m log none told = absurd opens
    keeps-still only n (Wanting medium) old new opens h m log none told = absurd opens

    pub kills-kept : Only → IsTrue w.tells → SurvivesKills w first (map medium_in os) plan t
    kills-kept only told = record {
      opened = λ n old new here was b.
          let a = at-node n old new b in
          let o = opened-at n here was in
          let same : o.0 ≡ a.0 = same_Some _ _ (sym o.1 ∙ a.1) in
          keeps-still only n a.0 old new (subst IsOpen same o.3) a.2 a.3 (log-of n a.0 a.1 o.2) (nothing-own n here was) told;
      unopened = λ n old new here not b. (as-before n old new b).at_moments told;
    }

    -- a node of the plan wasn't opened
    some-unopened : (place : ℕ) (o : Opening M g) → slice_get os place ≡ Some o → (IsOpen o → ⊥) → IsUnopened plan t
    some-unopened place (Open store effects) e shut = absurd (shut tt)
    some-unopened place (Shut m c) e shut = (node_at plan place, in-at plan place (let lt = slice_get_within os place (Shut m c) e in omega (arith, lt, count)), fallen place m c e)
    some-unopened place (Wanting m) e shut = absurd (not-wanting place (Wanting m) m e)

-- what the conductor of a run without rounds has seen of its own
fresh-own : (k : Sight) (wire : WireParts) (es : List Entry) → k ≡ fresh wire 0 → CarriesOn owner_of k es → entries_of owner_of 0 es ≡ []
fresh-own k wire es unseen car = subst (λ (s : Sight). entries_of owner_of s.owner es ≡ s.own) unseen car.own

module _ {M : Type 0} {g : _} (w : Media M) (plan : Plan) (wire : WireParts) (first : List (Option M)) (os : List (Opening M g)) (front passes : List Pass) (conductor : Pass) (why : Reason) (asked : List Asked) (answers : Option (List ℕ))
    (set : IsSetUp plan os wire.origin.asked wire.origin.answers wire.origin) (language : CanRun plan) (count : length os ≡ node_count plan) (ready : AreReady plan 0 os) (opened : AllZip (HasOpened w) first os)
    (are : passes ≡ front ++ conductor ∷ []) (unseen : knows conductor ≡ fresh wire 0) (why-is : (why ≡ reason.Down) ⊎ (why ≡ reason.Wanting)) (n : ℕ) (size : n ≡ length os)
    (fell : why ≡ reason.Down → Along (λ i o pass. HasFallen wire (node_at plan i) o pass) 0 (take n os) front)
    (shut : (place : ℕ) × (o : Opening M g) × (slice_get os place ≡ Some o) × (IsOpen o → ⊥)) (only : (m : M) (c : Image) → IsTrue w.tells → LeftNow (w.stages m) c → w.may_leave m c) where
  came-down : why ≢ reason.Wanting → why ≡ reason.Down
  came-down other = go why-is
    where
      go : (why ≡ reason.Down) ⊎ (why ≡ reason.Wanting) → why ≡ reason.Down
      go (inl e) = e
      go (inr e) = absurd (other e)

  all-fell : why ≡ reason.Down → Along (λ i o pass. HasFallen wire (node_at plan i) o pass) 0 os front
  all-fell e = subst (λ (l : List (Opening M g)). Along (λ i o pass. HasFallen wire (node_at plan i) o pass) 0 l front) (ap (λ (m : ℕ). take m os) size ∙ take-length os) (fell e)

  module _ (t : Trace) (close : ClosedAs w.tells wire.origin passes why t asked answers) where
    carry : All (λ pass. CarriesOn owner_of (knows pass) t.entries) front
    carry = all-front (λ pass. CarriesOn owner_of (knows pass) t.entries) passes front conductor are close.carries

    owned : AreOwn plan os t.entries
    owned i o e =
        let z : 0 + i ≡ i = omega arith in
        subst (λ (j : ℕ). AreAt j o) z (own-along plan os wire t.entries 0 os front (all-fell (came-down close.memory)) carry i o e)
      where
        AreAt : ℕ → Opening M g → Type 0
        AreAt j o = entries_of owner_of (owner_for (node_at plan j)) t.entries ≡ downs_of (node_at plan j) o

    falls : Every (IsFall plan os) t.entries
    falls = all-falls plan os t.entries owned (fresh-own (knows conductor) wire t.entries unseen (all-last (λ pass. CarriesOn owner_of (knows pass) t.entries) passes front conductor are close.carries))
        (subst (λ (l : List Opened). All (λ e. IsOneOf (owners_for l) (owner_of e)) t.entries) set.opened close.owned)

    ran : RanTo w (IsUnopened plan) plan (account_of t (tellers wire.origin.asked asked wire.origin.answers answers)) first (map medium_in os)
    ran =
        let opened-as = close.whole.opened ∙ set.opened in
        record {
          nodes = nodes-told plan os wire.origin t set language count ready close.whole.opened;
          ready = ready-told plan os wire.origin t set language count ready close.whole.opened;
          ranges = ranges-of plan language os wire.origin.asked asked wire.origin.answers answers wire.origin w.tells t set count (opened-in-range w first os opened) close.whole;
          is_told = λ told. is-told plan os wire.origin t set language count ready w.tells asked answers told close.whole;
          over = λ told. (some-unopened w plan first os t opened-as count ready opened falls owned shut.0 shut.1 shut.2 shut.3);
          logs = logs-kept w plan first os t opened-as count ready opened falls owned;
          counts = counts-kept w plan first os t opened-as count ready opened falls owned;
          stops = λ told. causes-kept w plan first os t opened-as count ready opened falls owned told;
          kills = λ told. kills-kept w plan first os t opened-as count ready opened falls owned only told;
        }

  -- how a run ends of which a node couldn't be opened
  pub ends-unopened : (e : End) → IfRan e (λ t. ClosedAs w.tells wire.origin passes why t asked answers) → EndsTo w (IsUnopened plan) plan (tellers wire.origin.asked asked wire.origin.answers answers) first (map medium_in os) e
  ends-unopened (end.Ran t) close = ran t close
  ends-unopened (end.Refused fault) close = absurd close
  ends-unopened end.NoMemory close = (opened-back w first os opened, opened-kept w first os opened, λ told. inl (opened-alone w first os opened))
