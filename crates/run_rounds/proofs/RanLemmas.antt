-- From how its nodes ended, and what the closing of its wire tells, to the end of a run.
use Rattle.run_rounds.proofs.Names.{NodeId, broker, is_broker, NodeKind, Repository, Broker, DownCause, Asked, Image, LeftNow, View, Founding, LockTable, CarriesOn, knows, Plan, CanRun, reading, Entry, Trace, Base, walk, Idle, base_of, fates_of, in_plan, is_within, most_of, Origin, WireParts, owner_of, IsOf, IsWirePass, LeavesUntold, tick_count, Condition, NodeParts, IsAtRest, Stands, sight, is_over, Limits, Reason, HasMemory, IsDone, IsLateAfter, is_done_at, Opening, Media, AreReady, HasOpened, IsOpen, node_at, node_count, in-at, Along, IsNewNode, IsSetUp, End, ClosedAs, HaveGone, IfRan, IfWanting, ListEnds, Pass, IsKeptWhole, account_of, tellers, IsTold, along-length, ◌≡◌, ◌≢◌, ◌⊎◌, ◌≤◌, ◌<◌, ◌++◌, ◌∙◌, ◌+◌, ℕ, Bool, true, false, if◌then◌else◌, IsTrue, List, [], ◌∷◌, Option, Some, length, map, get_or, inl, inr, refl, ap, sym, subst, arith, All, AllZip, get_or_from_slice_get, slice_get_within, AllZip-long, lock_base, IsUntold, is_done_after, HasClosed, RanUntold, story-ticks, tick-before, ticks-whole}
use Rattle.run_starts.specs.Condition.TheVariants as condition
use Rattle.run_starts.specs.Reason.TheVariants as reason
use Rattle.run_rounds.specs.declared.ends.End.TheVariants as end
use Rattle.world_core.specs.Readings.{IsLegal}
use Rattle.pseudo_time.specs.Lists.{Has}
use Rattle.pseudo_time.specs.Nodes.{repository}
use Rattle.run_starts.specs.Doubts.{HasDecided, doubts}
use Rattle.run_starts.specs.Sights.{life_at}
use Rattle.world_core.specs.Walks.{Life}
use Rattle.run_rounds.specs.Settled.{AreSettled, IsSettledBy}
use Rattle.run_rounds.specs.declared.goals.Course.{Course}
use Rattle.run_rounds.specs.declared.goals.Course.TheVariants.{Acts, Settling}
use Rattle.run_rounds.specs.Closings.{CourseEnds, PauseEnds, RoundsEnd, SettlingEnds}
use Rattle.run_rounds.specs.Ends.{AllDone, AllSettled, HasDoneSo, HasEnded, HasRunOut, HasSettled, IsOver, TicksAreWanted, broker_done_after, some_down}
use Rattle.run_rounds.specs.Finishes.{EndsTo}
use Rattle.run_rounds.specs.Runs.{RanTo}
use Rattle.world_core.specs.Readings.{world_after}
use Rattle.run_rounds.proofs.ListLemmas.{all-end, all-front, all-mapped, along-at, one-of}
use Rattle.run_rounds.proofs.EndLemmas.{down-whole, done-whole, enough-whole}
use Rattle.run_rounds.proofs.SeenLemmas.{At, are-back, logs-of, went-along}
use Rattle.run_rounds.proofs.KnownLemmas.{HaveStood, Known, at-base, life-end, same-base}
use Rattle.run_rounds.proofs.LogLemmas.{all-live, restores, stood-at}
use Rattle.run_rounds.proofs.CountLemmas.{are-counted, costless, have-causes}
use Rattle.run_rounds.proofs.KeptLemmas.{all-kept}
use Rattle.run_rounds.proofs.KillLemmas.{IsUnseenAt, survives}
use Rattle.run_rounds.proofs.RangeLemmas.{ranges-of, ranges-opened}
use Rattle.run_rounds.proofs.ToldLemmas.{is-told, nodes-told, ready-told, run as run-of}

-- ---- memory

up-memory : {c : Condition} → c ≡ condition.AtWork → c ≢ condition.Wanting
up-memory e f = let z : condition.AtWork ≡ condition.Wanting = sym e ∙ f in absurd (cc z)

rounds-memory : {M : Type 0} (tells : Bool) (limits : Limits) (why : Reason) (nodes : List (NodeParts M)) (k : _) → ListEnds tells limits why nodes k → why ≢ reason.Wanting → All HasMemory nodes
rounds-memory tells limits reason.Down nodes k h memory = h.0
rounds-memory tells limits reason.Done nodes k h memory = λ i d lt. up-memory (h.0 i d lt)
rounds-memory tells limits reason.Enough nodes k h memory = λ i d lt. up-memory (h.0 i d lt)
rounds-memory tells limits reason.RunOut nodes k h memory = λ i d lt. up-memory (h.0 i d lt)
rounds-memory tells limits reason.Wanting nodes k h memory = absurd (memory refl)

pause-memory : {M : Type 0} (tells : Bool) (why : Reason) (nodes : List (NodeParts M)) → PauseEnds tells why nodes → why ≢ reason.Wanting → All HasMemory nodes
pause-memory tells reason.Down nodes h memory = h.0
pause-memory tells reason.Done nodes h memory = absurd h
pause-memory tells reason.Enough nodes h memory = absurd h
pause-memory tells reason.RunOut nodes h memory = λ i d lt. up-memory (h.0 i d lt)
pause-memory tells reason.Wanting nodes h memory = absurd (memory refl)

-- in a run that doesn't end because memory ran out, no node's memory did
memory-of : {M : Type 0} (tells : Bool) (course : Course) (why : Reason) (nodes : List (NodeParts M)) (k : _) → CourseEnds tells course why nodes k → why ≢ reason.Wanting → All HasMemory nodes
memory-of tells (Acts limits) why nodes k h memory = rounds-memory tells limits why nodes k h.ends memory
memory-of tells Settling why nodes k h memory = pause-memory tells why nodes h.ends memory

module _ {M Q A : Type 0} (w : Media M) (course : Course) (plan : Plan) (lock : LockTable WireParts (View WireParts Entry) (Founding WireParts) Q A) (t : Trace) (begun : List (NodeParts M)) (why : Reason) (media : List (Option M))
    (passes : List Pass) (gone : HaveGone w course begun why media passes) (wires : All (IsWirePass lock) passes) (carries : All (λ (pass : Pass). CarriesOn owner_of (knows pass) t.entries) passes) where
  known : All (Known w plan lock t) (map (λ (n : NodeParts M). n.pass) gone.nodes ++ gone.conductor ∷ [])
  known = subst (All (Known w plan lock t)) gone.passes_are (λ k d lt. record { wire = wires k d lt; carries = carries k d lt })

  -- the entries go on from what the pass of each node has seen
  pub nodes-known : All (λ (n : NodeParts M). Known w plan lock t n.pass) gone.nodes
  nodes-known = all-mapped (Known w plan lock t) (λ (n : NodeParts M). n.pass) gone.nodes
      (all-front (Known w plan lock t) (map (λ (n : NodeParts M). n.pass) gone.nodes) (gone.conductor ∷ []) known)

  -- and the conductor's
  pub conductor-known : Known w plan lock t gone.conductor
  conductor-known = all-end (Known w plan lock t) (map (λ (n : NodeParts M). n.pass) gone.nodes) gone.conductor known

module _ {M Q A : Type 0} (w : Media M) (course : Course) (plan : Plan) (lock : LockTable WireParts (View WireParts Entry) (Founding WireParts) Q A) (t : Trace) (asked : List Asked) (answers : Option (List ℕ)) where
  abbrev origin : Origin
  origin = (lock_base lock).origin

  abbrev IsKnown : Pass → Type 0
  IsKnown pass = Known w plan lock t pass

  module _ (begun : List (NodeParts M)) (why : Reason) (media : List (Option M)) (passes : List Pass) (gone : HaveGone w course begun why media passes) (wires : All (IsWirePass lock) passes) (close : ClosedAs w.tells origin passes why t asked answers) where
    pub of-node : All (λ (n : NodeParts M). IsKnown n.pass) gone.nodes
    of-node = nodes-known w course plan lock t begun why media passes gone wires close.carries

    conductor : IsKnown gone.conductor
    conductor = conductor-known w course plan lock t begun why media passes gone wires close.carries

    pub has-memory : All HasMemory gone.nodes
    has-memory = memory-of w.tells course why gone.nodes (knows gone.conductor) gone.ends close.memory

    ticks-are : tick_count t.entries ≡ tick_count (knows gone.conductor).own
    ticks-are = ticks-whole (knows gone.conductor) t.entries gone.on.owner conductor.carries

    some-down : (i : ℕ) (p : NodeParts M) → i < length gone.nodes → get_or gone.nodes i p ≡ p → (cause : DownCause) → p.condition ≡ condition.Down cause → some_down t.entries ≡ true
    some-down i p lt is cause down =
        let rest = one-of (IsAtRest w) gone.nodes i p gone.rest lt is in
        let k = one-of (λ (n : NodeParts M). IsKnown n.pass) gone.nodes i p of-node lt is in
        let stands = subst (λ (c : Condition). Stands w c p) down rest.stands in
        down-whole (sight p) t.entries stands.2.0 p.node cause k.carries stands.2.1

    module _ (first : List (Option M)) (stood : HaveStood w plan lock t first gone.nodes) (told : IsTrue w.tells) (few : plan.repositories ≤ 16) (legal : IsLegal plan asked t) where
      -- the node in a place is one of the plan
      at-name : (i : ℕ) (p : NodeParts M) → i < length gone.nodes → get_or gone.nodes i p ≡ p → in_plan plan p.node ≡ true
      at-name i p lt is =
          let long = along-length (At w plan origin (Known w plan lock t)) 0 first gone.nodes stood.along in
          let count = stood.count in
          let h = along-at (At w plan origin (Known w plan lock t)) 0 first gone.nodes i stood.along (omega (arith, lt, long)) in
          let same : h.1 ≡ p = sym (get_or_from_slice_get gone.nodes i h.1 p h.3) ∙ is in
          let name : h.1.node ≡ node_at plan (0 + i) = h.4.2.name in
          subst (λ (q : NodeParts M). in_plan plan q.node ≡ true) same
          (subst (λ (m : NodeId). in_plan plan m ≡ true) (sym name) (in-at plan (0 + i) (omega (arith, lt, long, count))))

      all-done : All IsDone gone.nodes → AllDone plan t
      all-done done b within =
          let s = stood-at w plan lock t first gone.nodes stood (broker b) within in
          let p = s.node in
          let d = one-of IsDone gone.nodes s.place p done (slice_get_within gone.nodes s.place p s.here) (get_or_from_slice_get gone.nodes s.place p p s.here) in
          done-whole (sight p) (broker b) t.entries (base_of (reading plan.acts) plan t) (subst (λ (n : NodeId). IsOf n (sight p)) s.went.name s.went.rest.own) s.went.pass.wire.own s.went.pass.carries
          (at-base w plan lock t p.pass s.went.pass.wire ∙ stood.same) refl (subst (λ (n : NodeId). is_done_at (sight p) n ≡ true) s.went.name d)

      -- what is decided is settled
      all-settled : AreSettled gone.nodes → AllSettled plan t
      all-settled are r within none s home doubt decided =
          let a = stood-at w plan lock t first gone.nodes stood (repository r) within in
          let b = stood-at w plan lock t first gone.nodes stood (repository s.home) home in
          let n = a.node in
          let h = b.node in
          let settled = one-of (IsSettledBy n) gone.nodes b.place h
          (one-of (λ (x : NodeParts M). All (IsSettledBy x) gone.nodes) gone.nodes a.place n are (slice_get_within gone.nodes a.place n a.here) (get_or_from_slice_get gone.nodes a.place n n a.here))
          (slice_get_within gone.nodes b.place h b.here) (get_or_from_slice_get gone.nodes b.place h h b.here) in
          settled (costless w plan lock t first gone.nodes stood asked few told legal (repository r) a within none) (ap (λ (m : NodeId). is_broker m.kind) b.went.name) s (sym (ap (λ (m : NodeId). m.number) b.went.name))
          (subst (λ (m : NodeId). Has s (if is_broker m.kind then [] else doubts m.number (life_at (sight n) m).gated)) (sym a.went.name)
          (subst (λ (l : Life). Has s (doubts r l.gated)) (life-end w plan lock t stood.same stood.opened (repository r) a.old n a.went) doubt))
          (subst (λ (m : NodeId). HasDecided (life_at (sight h) m).gated s) (sym b.went.name)
          (subst (λ (l : Life). HasDecided l.gated s) (life-end w plan lock t stood.same stood.opened (repository s.home) b.old h b.went) decided))

      -- where a run has run out no node that is up has anything to do
      is-idle : why ≡ reason.RunOut → Idle (fates_of t.sent) (world_after plan t)
      is-idle out = subst (λ (b : Base). Idle (fates_of t.sent) (walk b t.entries)) stood.same (close.idle told out)

      -- a node that isn't done is a broker of the plan
      late-broker : (front : List Entry) (i : ℕ) (p : NodeParts M) → i < length gone.nodes → get_or gone.nodes i p ≡ p → IsLateAfter (base_of (reading plan.acts) plan t) front p
          → (b : ℕ) × (is_within b plan.brokers ≡ true) × (broker_done_after plan t front b ≡ false)
      late-broker front i p lt is late = by p.node (at-name i p lt is) late
        where
          by : (n : NodeId) → in_plan plan n ≡ true → is_done_after (base_of (reading plan.acts) plan t) front n ≡ false → (b : ℕ) × (is_within b plan.brokers ≡ true) × (broker_done_after plan t front b ≡ false)
          by n within late = go n.kind refl
            where
              go : (k : NodeKind) → n.kind ≡ k → (b : ℕ) × (is_within b plan.brokers ≡ true) × (broker_done_after plan t front b ≡ false)
              go Repository e = absurd (let z : true ≡ false = sym (ap (λ (x : NodeKind). if is_broker x then is_over (base_of (reading plan.acts) plan t) n.number ((walk (base_of (reading plan.acts) plan t) front).life n) else true) e) ∙ late in cc z)
              go Broker e = (
                n.number,
                subst (λ (x : NodeKind). is_within n.number (most_of plan x) ≡ true) e within,
                ap (λ (x : NodeKind). is_over (base_of (reading plan.acts) plan t) n.number ((walk (base_of (reading plan.acts) plan t) front).life (record { kind = x; number = n.number }))) (sym e)
                    ∙ (sym (ap (λ (x : NodeKind). if is_broker x then is_over (base_of (reading plan.acts) plan t) n.number ((walk (base_of (reading plan.acts) plan t) front).life n) else true) e) ∙ late),
              )

      -- how a run for acts ends
      module _ (limits : Limits) (rounds : RoundsEnd w.tells limits why gone.nodes (knows gone.conductor)) where
        ends-so : (r : Reason) → r ≡ why → ListEnds w.tells limits r gone.nodes (knows gone.conductor)
            → (some_down t.entries ≡ true) ⊎ ((AllDone plan t × AllSettled plan t) ⊎ ((limits.messages ≤ length t.sent) ⊎ HasRunOut limits.ticks plan t))
        ends-so reason.Down e h = let d = h.1 in inl (some-down d.0 d.1 d.2 d.3 d.4.0 d.4.1)
        ends-so reason.Done e h = inr (inl (all-done (h.1 told), all-settled (rounds.settled told (sym e))))
        ends-so reason.Enough e h = inr (inr (inl (enough-whole (knows gone.conductor) origin t limits.messages (at-base w plan lock t gone.conductor conductor.wire) conductor.carries (close.whole.sent told) (h.1 told))))
        ends-so reason.RunOut e h = inr (inr (inr (is-idle (sym e), ticks-are ∙ h.2)))
        ends-so reason.Wanting e h = absurd (close.memory (sym e))

        -- each Tick stands where some broker isn't done
        ticks-wanted : TicksAreWanted plan t
        ticks-wanted front moment rest is =
            let k = knows gone.conductor in
            let s = story-ticks k gone.on.owner conductor.wire.own in
            let h = tick-before k.story t.entries front moment rest conductor.carries.begins (omega (arith, ticks-are, s)) is in
            let found = rounds.wanted told front moment h.0 h.1 in
            late-broker front found.0 found.1 found.2 found.3 (subst (λ (b : Base). IsLateAfter b front found.1) (at-base w plan lock t gone.conductor conductor.wire ∙ stood.same) found.4)

        has-ended : HasEnded limits.ticks limits.messages plan t
        has-ended = record { few = (let few = rounds.ticks in omega (arith, ticks-are, few)); wanted = ticks-wanted; why = ends-so why refl rounds.ends }

      -- how a run ends that only settles
      module _ (settling : SettlingEnds w.tells why gone.nodes (knows gone.conductor)) where
        pauses-so : (r : Reason) → r ≡ why → PauseEnds w.tells r gone.nodes → (some_down t.entries ≡ true) ⊎ (HasRunOut 1 plan t × AllSettled plan t)
        pauses-so reason.Down e h = let d = h.1 in inl (some-down d.0 d.1 d.2 d.3 d.4.0 d.4.1)
        pauses-so reason.Done e h = absurd h
        pauses-so reason.Enough e h = absurd h
        pauses-so reason.RunOut e h = inr ((is-idle (sym e), ticks-are ∙ settling.once (sym e)), all-settled (h.1 told))
        pauses-so reason.Wanting e h = absurd (close.memory (sym e))

        has-settled : HasSettled plan t
        has-settled = record { few = (let few = settling.few in omega (arith, ticks-are, few)); why = pauses-so why refl settling.ends }

      -- the run has ended as it is for
      pub done-so : (c : Course) → CourseEnds w.tells c why gone.nodes (knows gone.conductor) → HasDoneSo c plan t
      done-so (Acts limits) h = has-ended limits h
      done-so Settling h = has-settled h

-- ---- the end

module _ {M Q A : Type 0} {g : _} (w : Media M) (course : Course) (plan : Plan) (lang : CanRun plan) (lock : LockTable WireParts (View WireParts Entry) (Founding WireParts) Q A) (asked : List Asked) (answers : Option (List ℕ))
    (first : List (Option M)) (os : List (Opening M g)) (opened : AllZip (HasOpened w) first os) (are-open : All IsOpen os) (count : length os ≡ node_count plan) (ready : AreReady plan 0 os)
    (set : IsSetUp plan os (lock_base lock).origin.asked (lock_base lock).origin.answers (lock_base lock).origin) (begun : List (NodeParts M)) (new : Along (IsNewNode plan) 0 os begun)
    (unseen : All (λ (b : NodeParts M). (sight b).own ≡ []) begun) (fresh : Along (IsUnseenAt plan (lock_base lock)) 0 os begun) (only : (m : M) (c : Image) → IsTrue w.tells → LeftNow (w.stages m) c → w.may_leave m c) where
  first-count : length first ≡ node_count plan
  first-count = sym (AllZip-long (HasOpened w) first os opened) ∙ count

  module _ (why : Reason) (media : List (Option M)) (passes : List Pass) (gone : HaveGone w course begun why media passes) (wires : All (IsWirePass lock) passes) where
    -- what is known of each node's place, by what is known of its pass
    places : (Q : Pass → Type 0) → All (λ (n : NodeParts M). Q n.pass) gone.nodes → Along (At w plan (lock_base lock).origin Q) 0 first gone.nodes
    places Q all = went-along w plan (lock_base lock).origin Q 0 first os begun gone.nodes opened are-open new unseen gone.on.went gone.rest all
        (logs-of w plan (lock_base lock).origin Q os (lock_base lock).origin.asked (lock_base lock).origin.answers set)

    node-wires : All (λ (n : NodeParts M). IsWirePass lock n.pass) gone.nodes
    node-wires = all-mapped (IsWirePass lock) (λ (n : NodeParts M). n.pass) gone.nodes
        (all-front (IsWirePass lock) (map (λ (n : NodeParts M). n.pass) gone.nodes) (gone.conductor ∷ []) (subst (All (IsWirePass lock)) gone.passes_are wires))

    module _ (t : Trace) (close : ClosedAs w.tells (lock_base lock).origin passes why t asked answers) where
      stood : HaveStood w plan lock t first gone.nodes
      stood = record {
        along = places (Known w plan lock t) (of-node w course plan lock t asked answers begun why media passes gone wires close);
        count = first-count;
        same = same-base plan os (lock_base lock).origin.asked (lock_base lock).origin.answers (lock_base lock).origin t set close.whole.start close.whole.opened;
        opened = close.whole.opened;
        memory = has-memory w course plan lock t asked answers begun why media passes gone wires close;
      }

      told-as : IsTrue w.tells → IsTold plan (account_of t (tellers (lock_base lock).origin.asked asked (lock_base lock).origin.answers answers))
      told-as told = is-told plan os (lock_base lock).origin t set lang count ready w.tells asked answers told close.whole

      has-ran : RanTo w (IsOver course plan) plan (account_of t (tellers (lock_base lock).origin.asked asked (lock_base lock).origin.answers answers)) first (map (λ (n : NodeParts M). Some n.medium) gone.nodes)
      has-ran = record {
        nodes = nodes-told plan os (lock_base lock).origin t set lang count ready close.whole.opened;
        ready = ready-told plan os (lock_base lock).origin t set lang count ready close.whole.opened;
        ranges = ranges-of plan lang os (lock_base lock).origin.asked asked (lock_base lock).origin.answers answers (lock_base lock).origin w.tells t set count (ranges-opened w first os opened) close.whole;
        is_told = told-as;
        over = λ told. inl (done-so w course plan lock t asked answers begun why media passes gone wires close first stood told lang.repositories.1 (told-as told).legal course gone.ends);
        logs = restores w plan lock t first gone.nodes stood;
        counts = are-counted w plan lock t first gone.nodes stood;
        stops = λ told. have-causes w plan lock t first gone.nodes stood asked lang.repositories.1 told
            (told-as told).legal;
        kills = λ told. survives w only plan lock t first os opened are-open count begun new fresh (logs-of w plan (lock_base lock).origin (Known w plan lock t) os (lock_base lock).origin.asked (lock_base lock).origin.answers set)
            gone.nodes gone.on.kept stood (of-node w course plan lock t asked answers begun why media passes gone wires close) told;
      }

    -- nothing that stood in a log is lost, however the run ends
    pub ran-kept : AllZip (IsKeptWhole w) first (map (λ (n : NodeParts M). Some n.medium) gone.nodes)
    ran-kept = all-kept w plan lock first gone.nodes (places (IsWirePass lock) node-wires)

    -- and there was a run, whose trace isn't told
    module _ (t : Trace) (un : IsUntold w.tells (lock_base lock).origin t) (carries : All (λ (pass : Pass). CarriesOn owner_of (knows pass) t.entries) passes) where
      ran-untold : IsTrue w.tells → RanUntold w plan (lock_base lock).origin.asked first (map (λ (n : NodeParts M). Some n.medium) gone.nodes)
      ran-untold told = record {
        trace = t;
        nodes = nodes-told plan os (lock_base lock).origin t set lang count ready un.opened;
        ready = ready-told plan os (lock_base lock).origin t set lang count ready un.opened;
        legal = un.legal told plan (run-of plan os (lock_base lock).origin t set lang count ready);
        logs = all-live w plan lock t first gone.nodes (places (Known w plan lock t) (nodes-known w course plan lock t begun why media passes gone wires carries)) first-count
            (same-base plan os (lock_base lock).origin.asked (lock_base lock).origin.answers (lock_base lock).origin t set un.start un.opened) un.opened told;
      }

    -- by the end that is told
    ends-by : (e : End) → IfRan e (λ t. ClosedAs w.tells (lock_base lock).origin passes why t asked answers) → IfWanting e (LeavesUntold w.tells (lock_base lock).origin passes)
        → EndsTo w (IsOver course plan) plan (tellers (lock_base lock).origin.asked asked (lock_base lock).origin.answers answers) first (map (λ (n : NodeParts M). Some n.medium) gone.nodes) e
    ends-by (end.Ran t) close un = has-ran t close
    ends-by (end.Refused fault) close un = absurd close
    ends-by end.NoMemory close (t, un, carries, owned) = (
      are-back w plan (lock_base lock).origin (IsWirePass lock) first gone.nodes (places (IsWirePass lock) node-wires),
      ran-kept,
      λ told. inr (ran-untold t un carries told),
    )

  -- a run whose nodes were opened ends as it is told
  pub ends-as : (media : List (Option M)) (e : End) → HasClosed w lock course begun media e asked answers
      → EndsTo w (IsOver course plan) plan (tellers (lock_base lock).origin.asked asked (lock_base lock).origin.answers answers) first media e
  ends-as media e run =
      subst (λ (l : List (Option M)). EndsTo w (IsOver course plan) plan (tellers (lock_base lock).origin.asked asked (lock_base lock).origin.answers answers) first l e) (sym run.gone.media_are)
      (ends-by run.why media run.passes run.gone run.wires e run.closed run.untold)
