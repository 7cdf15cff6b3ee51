-- What a run's closing leaves known of each node.
use Rattle.run_rounds.proofs.Names.{Has, NodeId, DownCause, Asked, Plan, View, Founding, LockTable, CarriesOn, knows, reading, Entry, Down, Opened, Trace, Base, Flags, opened_log, start_world, walk, base_of, WasNotOpened, life_after, Origin, WireParts, base_from, owner_of, IsOf, IsWirePass, base_at, flags_at, life_at, pass-origin, down_cause, Condition, IsCause, NodeParts, Stands, sight, HasMemory, Opening, Media, node_count, Along, IsSetUp, Pass, life-whole, ◌≡◌, ◌∙◌, ◌++◌, ℕ, true, false, IsTrue, List, [], ◌∷◌, Option, Some, None, is_some, length, refl, ap, sym, subst, All, lock_base}
use Rattle.run_starts.specs.Condition.TheVariants as condition
use Rattle.run_rounds.proofs.EndLemmas.{down-in, flags-whole}
use Rattle.run_rounds.proofs.FlagLemmas.{down-ends, none-due, told-of}
use Rattle.run_rounds.proofs.SeenLemmas.{At, Went}

-- a walk over the trace of a run that was set up begins with what its wire began with
pub same-base : {M : Type 0} {g : _} (plan : Plan) (os : List (Opening M g)) (asked : List Asked) (answers : Option (List ℕ)) (o : Origin) (t : Trace) → IsSetUp plan os asked answers o → t.start ≡ o.start → t.opened ≡ o.opened → base_from o ≡ base_of (reading plan.acts) plan t
same-base plan os asked answers o t s start opened i = record { script = reading (s.acts i); run = s.run i; acts = s.acts i; start = sym start i; opened = sym opened i }

module _ {M Q A : Type 0} (w : Media M) (plan : Plan) (lock : LockTable WireParts (View WireParts Entry) (Founding WireParts) Q A) (t : Trace) where
  abbrev pub origin : Origin
  origin = (lock_base lock).origin

  abbrev pub base : Base
  base = base_of (reading plan.acts) plan t

  -- a pass of the wire, from whose story the whole list goes on
  pub record Known (pass : Pass) : Type 0 where
    pub wire : IsWirePass lock pass
    pub carries : CarriesOn owner_of (knows pass) t.entries

  pub at-base : (pass : Pass) → IsWirePass lock pass → base_at (knows pass) ≡ base_from origin
  at-base pass is = ap base_from (sym (pass-origin lock pass is.of_lock))

  -- How the nodes of a run stood when it closed whole: each node of the plan in its place, none of which wanted memory.
  pub record HaveStood (first : List (Option M)) (ps : List (NodeParts M)) : Type 0 where
    pub along : Along (At w plan origin Known) 0 first ps
    pub count : length first ≡ node_count plan
    pub same : base_from origin ≡ base
    pub opened : t.opened ≡ origin.opened
    pub memory : All HasMemory ps

  -- ---- one node

  module _ (same : base_from origin ≡ base) (logs : t.opened ≡ origin.opened) (n : NodeId) (old : M) (p : NodeParts M) (went : Went w plan origin Known n old p) where
    is-own : IsOf n (sight p)
    is-own = subst (λ (m : NodeId). IsOf m (sight p)) went.name went.rest.own

    from-base : base_at (sight p) ≡ base
    from-base = at-base p.pass went.pass.wire ∙ same

    -- at the end it has the life and the flags that its pass has seen
    pub life-end : life_after plan t n ≡ life_at (sight p) n
    life-end = life-whole (sight p) n t.entries base is-own went.pass.wire.own went.pass.carries from-base

    flags-end : (walk base t.entries).flags n ≡ flags_at (sight p) n
    flags-end = flags-whole (sight p) n t.entries base is-own went.pass.wire.own went.pass.carries from-base

    -- it was opened with its log
    pub log-end : opened_log t.opened n ≡ Some went.log
    log-end = ap (λ (l : List Opened). opened_log l n) logs ∙ went.opened

    pub known-end : ((start_world base).flags n).known ≡ true
    known-end = ap is_some log-end

    stood : (c : Condition) → p.condition ≡ c → Stands w c p
    stood c e = subst (λ (x : Condition). Stands w x p) e went.rest.stands

    pub up-at : p.condition ≡ condition.AtWork → (flags_at (sight p) n).up ≡ true
    up-at e = subst (λ (m : NodeId). (flags_at (sight p) m).up ≡ true) went.name (stood condition.AtWork e).0

    pub fresh-at : p.condition ≡ condition.AtWork → IsTrue w.tells → (life_at (sight p) n).fresh ≡ []
    fresh-at e told = subst (λ (m : NodeId). (life_at (sight p) m).fresh ≡ []) went.name ((stood condition.AtWork e).1 told)

    module _ (cause : DownCause) (e : p.condition ≡ condition.Down cause) where
      due-at : (flags_at (sight p) n).due ≡ true
      due-at = subst (λ (m : NodeId). (flags_at (sight p) m).due ≡ true) went.name (stood (condition.Down cause) e).1

      last-at : (before : List Entry) × ((sight p).own ≡ before ++ Down n cause ∷ [])
      last-at = subst (λ (m : NodeId). (before : List Entry) × ((sight p).own ≡ before ++ Down m cause ∷ [])) went.name (stood (condition.Down cause) e).2

      pub cause-at : IsCause w cause p.medium (life_at (sight p) n)
      cause-at = subst (λ (m : NodeId). IsCause w cause p.medium (life_at (sight p) m)) went.name (stood (condition.Down cause) e).3

      -- its Down stands
      pub has-down : Has (Down n cause) t.entries
      has-down = down-in (sight p) t.entries last-at.0 n cause went.pass.carries last-at.1

    -- ---- what it comes to

    -- of a node that is at work no Down stands
    none-at : p.condition ≡ condition.AtWork → (c : DownCause) → down_cause n t.entries ≡ Some c → ⊥
    none-at e c h =
        let z : true ≡ false = sym (up-at e) ∙ (sym (ap (λ (f : Flags). f.up) flags-end) ∙ down-ends base (start_world base) t.entries n c known-end h) in
        absurd (cc z)

    -- a node whose Down stands is down
    pub down-at : HasMemory p → (c : DownCause) → down_cause n t.entries ≡ Some c → (cause : DownCause) × (p.condition ≡ condition.Down cause)
    down-at memory c h = go p.condition refl
      where
        go : (x : Condition) → p.condition ≡ x → (cause : DownCause) × (p.condition ≡ condition.Down cause)
        go condition.AtWork e = absurd (none-at e c h)
        go (condition.Down cause) e = (cause, e)
        go condition.Wanting e = absurd (memory e)

    -- where no cause is told it has nothing open
    pub none-open : HasMemory p → IsTrue w.tells → down_cause n t.entries ≡ None → (life_at (sight p) n).fresh ≡ []
    none-open memory told h = go p.condition refl
      where
        go : (x : Condition) → p.condition ≡ x → (life_at (sight p) n).fresh ≡ []
        go condition.AtWork e = fresh-at e told
        go (condition.Down cause) e = let x = told-of n cause t.entries (has-down cause e) in let z : Some x.0 ≡ None = sym x.1 ∙ h in absurd (cc z)
        go condition.Wanting e = absurd (memory e)

    -- it was opened: something other than Downs stands, or no Down of it
    pub was-opened : HasMemory p → WasNotOpened t.entries n → ⊥
    was-opened memory not = go (down-at memory told.0 told.1)
      where
        told : (x : DownCause) × (down_cause n t.entries ≡ Some x)
        told = told-of n not.0.0 t.entries not.0.1

        go : (cause : DownCause) × (p.condition ≡ condition.Down cause) → ⊥
        go d =
            let z : true ≡ false = sym (due-at d.0 d.1) ∙ (sym (ap (λ (f : Flags). f.due) flags-end) ∙ none-due base (start_world base) t.entries n not.1 refl) in
            absurd (cc z)
