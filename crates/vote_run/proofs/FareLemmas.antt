-- How members' media fare over turns, rounds and Ticks.
use Rattle.vote_run.proofs.Names.{same_node, DownCause, NodeId, Out, Turn, same_node-refl, Effect, medium_of, Store, MemberState, MemberNumber, First, Second, Third, PollState, member, Entry, Gate, Crash, Down, Tick, is_down, names, own, Media, down_cause, IsFallenFor, cost_of, costs, CourierParts, tick_moment, never-false, Follows, AllFare, Lengthens, Begins, EndsAs, IsDown, IsGated, IsReopened, Turns, Wants, all_late, late, some_wants, wants, Limits, Next, Over, Round, Ticked, Members, Seat, Up, Fallen, Wanting, ◌≡◌, ◌≢◌, ℕ, ◌+◌, ◌≤◌, Bool, true, false, List, [], ◌∷◌, ◌++◌, inl, inr, refl, sym, ap, subst, ◌∙◌, arith, append_assoc, zero-add, Ok, append-nil, Option, Some, None, ◌-◌, ◌==◌, length, drop, slice_index, IsTrue, if◌then◌else◌, cases_Bool, Grows, HasGrown, Fares, FaresWell, FellLater, HasPaid, NeverOpened}
use Rattle.pseudo_time.specs.declared.down_causes.DownCause.TheVariants as down
use Rattle.stream_port.specs.Causes.{RoseBy, rises_add}
use Rattle.medium_port.specs.Image.{Image, page_of}
use Rattle.page_gate.specs.States.{is_blank, state_of}
use Rattle.page_gate.specs.declared.pages.PageState.{PageState}
use Rattle.page_gate.specs.declared.pages.PageState.TheVariants.{Blank, Gated, Spoiled}
use Rattle.version_store.specs.Filling.{KeepsPages, StaysClean, pages_apart}
use Rattle.vote_run.proofs.EntryLemmas.{begun-entry, begun-up, costs-more, down-more, down-still, lengthens-join, lengthens-one, lengthens-still, none-begun, out-stays, own-still}
use Rattle.vote_run.proofs.MembersLemmas.{or-parts}

-- a blank page isn't spoiled
blank-clean : (bytes : List ℕ) → is_blank bytes ≡ true → state_of bytes ≢ Spoiled
blank-clean bytes blank spoiled =
    let still : state_of bytes ≡ Blank = ap (λ t. if t then Blank else (if slice_index bytes 0 == 165 then Gated (drop 1 bytes) else Spoiled)) blank in
    let e : ◌≡◌ {A = PageState} Blank Spoiled = sym still ∙ spoiled in cc e

-- pages that are kept, and clean ones, over two runs
keeps-joins : (a b c : Image) → KeepsPages a b → KeepsPages b c → KeepsPages a c
keeps-joins a b c first second page marked =
    let same = first page marked in
    second page (ap is_blank same ∙ marked) ∙ same

clean-joins : (a b c : Image) → StaysClean a b → KeepsPages b c → StaysClean b c → StaysClean a c
clean-joins a b c first kept second page blank = elim (cases_Bool (is_blank (page_of b page))) [
  | inl still ↦ second page still
  | inr marked ↦ subst (λ (p : List ℕ). state_of p ≢ Spoiled) (sym (kept page marked)) (first page blank)
]

apart-append : (xs ys : List Effect) → pages_apart (xs ++ ys) ≡ pages_apart xs + pages_apart ys
apart-append [] ys = sym (zero-add (pages_apart ys))
apart-append (x ∷ xs) ys = let e : pages_apart (xs ++ ys) ≡ pages_apart xs + pages_apart ys = apart-append xs ys in omega (arith, e)

-- a log that grew, and grew again
grows-joins : (a b c : Image) → Grows a b → Grows b c → Grows a c
grows-joins a b c first second log is =
    let one : HasGrown log a b = first log is in
    let two : HasGrown (log ++ one.more) b c = second (log ++ one.more) one.is in
    let x = one.pages in
    let y = two.pages in
    record { more = one.more ++ two.more; is = two.is ∙ ap (λ l. Ok l) (append_assoc log one.more two.more); pages = omega (arith, x, y, apart-append one.more two.more) }

-- the same image
pub grows-same : (image : Image) → Grows image image
grows-same image log is = record { more = []; is = is ∙ ap (λ l. Ok l) (sym (append-nil log)); pages = omega arith }

module _ {M : Type 0} (w : Media M) (n : NodeId) where
  -- ---- what was paid

  -- another entry of the node's own, and a medium that failed as often
  paid-more : (es : List Entry) (e : Entry) (taken old new : M) → names n e ≡ true → HasPaid w n es taken old → RoseBy (cost_of e) (w.faults old) (w.faults new)
      → (IsTrue w.tells → cost_of e ≡ 0 → KeepsPages (w.reads old) (w.reads new) × StaysClean (w.reads old) (w.reads new) × Grows (w.reads old) (w.reads new)) → HasPaid w n (es ++ e ∷ []) taken new
  paid-more es e taken old new is h rose whole =
      let sum : costs (own n (es ++ e ∷ [])) ≡ costs (own n es) + cost_of e = costs-more n es e is in
      let first : costs (own n (es ++ e ∷ [])) ≡ 0 → costs (own n es) ≡ 0 = (λ free. omega (arith, sum, free)) in
      let second : costs (own n (es ++ e ∷ [])) ≡ 0 → cost_of e ≡ 0 = (λ free. omega (arith, sum, free)) in
      record {
        paid = subst (λ k. RoseBy k (w.faults taken) (w.faults new)) (sym sum) (rises_add (costs (own n es)) (cost_of e) (w.faults taken) (w.faults old) (w.faults new) h.paid rose);
        kept = λ told free. keeps-joins (w.reads taken) (w.reads old) (w.reads new) (h.kept told (first free)) (whole told (second free)).0;
        clean = λ told free. clean-joins (w.reads taken) (w.reads old) (w.reads new) (h.clean told (first free)) (whole told (second free)).0 (whole told (second free)).1;
        grows = λ told free. grows-joins (w.reads taken) (w.reads old) (w.reads new) (h.grows told (first free)) (whole told (second free)).2;
      }

  -- entries of others alone, over the same medium
  paid-still : (es more : List Entry) (taken now : M) → own n more ≡ [] → HasPaid w n es taken now → HasPaid w n (es ++ more) taken now
  paid-still es more taken now none h =
      let same : costs (own n (es ++ more)) ≡ costs (own n es) = ap costs (own-still n es more none) in
      record {
        paid = subst (λ k. RoseBy k (w.faults taken) (w.faults now)) (sym same) h.paid;
        kept = λ told free. h.kept told (sym same ∙ free);
        clean = λ told free. h.clean told (sym same ∙ free);
        grows = λ told free. h.grows told (sym same ∙ free);
      }

  same-pages : (m : M) → KeepsPages (w.reads m) (w.reads m)
  same-pages m page written = refl

  pub clean-same : (m : M) → StaysClean (w.reads m) (w.reads m)
  clean-same m page blank = blank-clean (page_of (w.reads m) page) blank

  no-rise : (x y : ℕ) → x ≤ y → RoseBy 0 x y
  no-rise x y h = omega (arith, h)

  -- ---- others' entries

  longer-out : (first : Option M) (es more : List Entry) (left : Option M) → own n more ≡ [] → NeverOpened w n first left es → NeverOpened w n first left (es ++ more)
  longer-out first es more left none h = record { out = out-stays n es more h.out; cause = h.cause; down_is = down-still n es more none (Some h.cause) h.down_is; shut = h.shut }

  module _ {g : _} (first : Option M) where
    pub fares-longer : (es more : List Entry) (seat : Seat M g) → own n more ≡ [] → Fares w n first es seat → Fares w n first (es ++ more) seat
    fares-longer es more (Up m store durable behind) none h = record {
      taken = h.taken;
      was = h.was;
      never = down-still n es more none None h.never;
      has_paid = paid-still es more h.taken (medium_of store) none h.has_paid;
    }
    fares-longer es more (Fallen None) none h = longer-out first es more None none h
    fares-longer es more (Fallen (Some now)) none (inl h) = inl (record {
      taken = h.taken;
      was = h.was;
      before = h.before;
      deed = h.deed;
      after = h.after ++ more;
      are = ap (λ l. l ++ more) h.are ∙ append_assoc h.before (h.deed ∷ h.after) more;
      acted = h.acted;
      up = h.up;
      cause = h.cause;
      down_is = down-still n es more none (Some h.cause) h.down_is;
      has_paid = paid-still es more h.taken now none h.has_paid;
    })
    fares-longer es more (Fallen (Some now)) none (inr h) = inr (longer-out first es more (Some now) none h)
    fares-longer es more (Wanting left) none h = absurd h

    pub fares-along : (of : NodeId → Bool) (es fs : List Entry) (seat : Seat M g) → Lengthens of es fs → of n ≡ false → Fares w n first es seat → Fares w n first fs seat
    fares-along of es fs seat l apart h = subst (λ z. Fares w n first z seat) (sym l.longer) (fares-longer es l.more seat (l.own_entries n apart) h)

    -- ---- its own turn

    module _ (c mid d : CourierParts) (m k : MemberState) (before : Store M g) (durable : ℕ) (behind : Bool) (moment : ℕ) (t : Turn) (b : Begins behind n moment c mid m k (Some t))
        (f : FaresWell w n first c.entries (medium_of before)) where
      abbrev deed : (e : Entry) × (mid.entries ≡ c.entries ++ e ∷ []) × ((j : NodeId) → names j e ≡ same_node n j) × (is_down e ≡ false) × (cost_of e ≡ 0)
      deed = begun-entry behind n moment c mid m k t b

      own-deed : names n deed.0 ≡ true
      own-deed = deed.2 n ∙ same_node-refl n

      -- nothing was paid for it
      acted-paid : HasPaid w n mid.entries f.taken (medium_of before)
      acted-paid = subst (λ z. HasPaid w n z f.taken (medium_of before)) (sym deed.1)
          (paid-more c.entries deed.0 f.taken (medium_of before) (medium_of before) own-deed f.has_paid
          (subst (λ z. RoseBy z (w.faults (medium_of before)) (w.faults (medium_of before))) (sym deed.4) (no-rise (w.faults (medium_of before)) (w.faults (medium_of before)) (omega arith)))
          (λ told free. (same-pages (medium_of before), clean-same (medium_of before), grows-same (w.reads (medium_of before)))))

      acted-up : down_cause n mid.entries ≡ None
      acted-up = begun-up behind n moment c mid m k t b f.never

      gated-fares : (outs : List Out) (j : MemberState) (store : Store M g) → IsGated w n outs mid d before t.effects k j store → FaresWell w n first d.entries (medium_of store)
      gated-fares outs j store e = record {
        taken = f.taken;
        was = f.was;
        never = subst (λ z. down_cause n z ≡ None) (sym e.sends.entries) (down-more n mid.entries (Gate n ∷ []) acted-up);
        has_paid = subst (λ z. HasPaid w n z f.taken (medium_of store)) (sym e.sends.entries)
            (paid-more mid.entries (Gate n) f.taken (medium_of before) (medium_of store) (same_node-refl n) acted-paid
            (no-rise (w.faults (medium_of before)) (w.faults (medium_of store)) e.durable.later) (λ told free. (e.durable.kept told, e.durable.clean told, e.durable.grows told)));
      }

      reopened-fares : (j : MemberState) (store : Store M g) → IsReopened w n durable mid d before t.effects k j store → FaresWell w n first d.entries (medium_of store)
      reopened-fares j store e =
          let entry : Entry = Crash n (length e.found - durable) in
          let es : d.entries ≡ mid.entries ++ entry ∷ [] = ap (λ (z : CourierParts). z.entries) e.entry in
          record {
            taken = f.taken;
            was = f.was;
            never = subst (λ z. down_cause n z ≡ None) (sym es) (down-more n mid.entries (entry ∷ []) acted-up);
            has_paid = subst (λ z. HasPaid w n z f.taken (medium_of store)) (sym es)
                (paid-more mid.entries entry f.taken (medium_of before) (medium_of store) (same_node-refl n) acted-paid e.crashed.count (λ told free. absurd (let never : ⊥ = omega (arith, free) in never)));
          }

      fallen-paid : (cause : DownCause) (left : M) → IsFallenFor w cause before t.effects left → w.faults (medium_of before) ≤ w.faults left → HasPaid w n (mid.entries ++ Down n cause ∷ []) f.taken left
      fallen-paid down.Medium left e later =
          paid-more mid.entries (Down n down.Medium) f.taken (medium_of before) left (same_node-refl n) acted-paid e (λ told free. absurd (let never : ⊥ = omega (arith, free) in never))
      fallen-paid (down.Damaged page) left e later =
          paid-more mid.entries (Down n (down.Damaged page)) f.taken (medium_of before) left (same_node-refl n) acted-paid (no-rise (w.faults (medium_of before)) (w.faults left) later) (λ told free. absurd (e told))
      fallen-paid (down.Full pages) left e later =
          paid-more mid.entries (Down n (down.Full pages)) f.taken (medium_of before) left (same_node-refl n) acted-paid (no-rise (w.faults (medium_of before)) (w.faults left) later)
          (λ told free. (
            subst (λ z. KeepsPages (w.reads (medium_of before)) (w.reads z)) (sym e.0) (same-pages (medium_of before)),
            subst (λ z. StaysClean (w.reads (medium_of before)) (w.reads z)) (sym e.0) (clean-same (medium_of before)),
            subst (λ z. Grows (w.reads (medium_of before)) (w.reads z)) (sym e.0) (grows-same (w.reads (medium_of before))),
          ))

      fallen-fares : (left : M) → IsDown w n mid d before t.effects left → FellLater w n first d.entries left
      fallen-fares left e =
          let es : d.entries ≡ mid.entries ++ Down n e.cause ∷ [] = ap (λ (z : CourierParts). z.entries) e.entry in
          record {
            taken = f.taken;
            was = f.was;
            before = c.entries;
            deed = deed.0;
            after = Down n e.cause ∷ [];
            are = es ∙ ap (λ l. l ++ Down n e.cause ∷ []) deed.1 ∙ append_assoc c.entries (deed.0 ∷ []) (Down n e.cause ∷ []);
            acted = deed.3;
            up = f.never;
            cause = e.cause;
            down_is = subst (λ z. down_cause n z ≡ Some e.cause) (sym es) (down-more n mid.entries (Down n e.cause ∷ []) acted-up ∙ ap (λ t. if t then Some e.cause else None) (same_node-refl n));
            has_paid = subst (λ z. HasPaid w n z f.taken left) (sym es) (fallen-paid e.cause left e.caused e.gone.later);
          }

      ended-fares : (outs : List Out) (seat : Seat M g) → EndsAs w n durable mid d before t.effects outs k seat → wants seat ≡ false → Fares w n first d.entries seat
      ended-fares outs (Up j store count late) (inl e) enough = gated-fares outs j store e.0
      ended-fares outs (Up j store count late) (inr e) enough = reopened-fares j store e.0
      ended-fares outs (Fallen None) e enough = absurd e
      ended-fares outs (Fallen (Some left)) e enough = inl (fallen-fares left e)
      ended-fares outs (Wanting left) e enough = never-false enough

    wants-fares : (old : M) (es : List Entry) (seat : Seat M g) → Wants w old seat → wants seat ≡ false → Fares w n first es seat
    wants-fares old es (Up m store durable behind) h enough = absurd h
    wants-fares old es (Fallen left) h enough = absurd h
    wants-fares old es (Wanting left) h enough = never-false enough

    pub turn-fares : (c d : CourierParts) (old seat : Seat M g) → Turns w n c d old seat → wants seat ≡ false → Fares w n first c.entries old → Fares w n first d.entries seat
    turn-fares c d (Up m before durable behind) seat (inl a) enough f = ended-fares c a.mid d m a.state before durable behind _ a.turn a.begins f a.turn.outs seat a.ends enough
    turn-fares c d (Up m before durable behind) seat (inr (inl a)) enough f =
        subst (Fares w n first d.entries) (sym a.same) (subst (λ (z : CourierParts). FaresWell w n first z.entries (medium_of before)) (sym (none-begun behind n _ c d m m a.none)) f)
    turn-fares c d (Up m before durable behind) seat (inr (inr a)) enough f = wants-fares (medium_of before) d.entries seat a enough
    turn-fares c d (Fallen left) seat (still, same) enough f = subst (Fares w n first d.entries) (sym same) (subst (λ (z : CourierParts). Fares w n {g = g} first z.entries (Fallen left)) (sym still) f)
    turn-fares c d (Wanting left) seat (still, same) enough f = absurd f

    -- which entries it adds, unless memory ran out
    ended-longer : (c mid d : CourierParts) (m k : MemberState) (before : Store M g) (durable : ℕ) (behind : Bool) (moment : ℕ) (t : Turn) (outs : List Out) (seat : Seat M g) → Begins behind n moment c mid m k (Some t)
        → EndsAs w n durable mid d before t.effects outs k seat → wants seat ≡ false → Lengthens (same_node n) c.entries d.entries
    ended-longer c mid d m k before durable behind moment t outs seat b ends enough =
        let deed = begun-entry behind n moment c mid m k t b in
        let one = lengthens-one (same_node n) n deed.0 c.entries mid.entries (λ j apart. apart) deed.2 deed.1 in
        lengthens-join (same_node n) c.entries mid.entries d.entries one (last seat ends enough)
      where
        own-one : (e : Entry) → ((j : NodeId) → names j e ≡ same_node n j) → d.entries ≡ mid.entries ++ e ∷ [] → Lengthens (same_node n) mid.entries d.entries
        own-one e is longer = lengthens-one (same_node n) n e mid.entries d.entries (λ j apart. apart) is longer

        last : (seat : Seat M g) → EndsAs w n durable mid d before t.effects outs k seat → wants seat ≡ false → Lengthens (same_node n) mid.entries d.entries
        last (Up j store count late) (inl e) enough = own-one (Gate n) (λ j. refl) e.0.sends.entries
        last (Up j store count late) (inr e) enough = own-one (Crash n (length e.0.found - durable)) (λ j. refl) (ap (λ (z : CourierParts). z.entries) e.0.entry)
        last (Fallen None) e enough = absurd e
        last (Fallen (Some left)) e enough = own-one (Down n e.cause) (λ j. refl) (ap (λ (z : CourierParts). z.entries) e.entry)
        last (Wanting left) e enough = never-false enough

    wants-longer : (old : M) (es fs : List Entry) (seat : Seat M g) → Wants w old seat → wants seat ≡ false → Lengthens (same_node n) es fs
    wants-longer old es fs (Up m store durable behind) h enough = absurd h
    wants-longer old es fs (Fallen left) h enough = absurd h
    wants-longer old es fs (Wanting left) h enough = never-false enough

    pub turn-longer : (c d : CourierParts) (old seat : Seat M g) → Turns w n c d old seat → wants seat ≡ false → Lengthens (same_node n) c.entries d.entries
    turn-longer c d (Up m before durable behind) seat (inl a) enough = ended-longer c a.mid d m a.state before durable behind _ a.turn a.turn.outs seat a.begins a.ends enough
    turn-longer c d (Up m before durable behind) seat (inr (inl a)) enough = lengthens-still (same_node n) c.entries d.entries (ap (λ (z : CourierParts). z.entries) (none-begun behind n _ c d m m a.none))
    turn-longer c d (Up m before durable behind) seat (inr (inr a)) enough = wants-longer (medium_of before) c.entries d.entries seat a enough
    turn-longer c d (Fallen left) seat (still, same) enough = lengthens-still (same_node n) c.entries d.entries (ap (λ (z : CourierParts). z.entries) still)
    turn-longer c d (Wanting left) seat (still, same) enough = lengthens-still (same_node n) c.entries d.entries (ap (λ (z : CourierParts). z.entries) still)

    late-fares : (es : List Entry) (seat : Seat M g) → Fares w n first es seat → Fares w n first es (late seat)
    late-fares es (Up m store durable behind) h = h
    late-fares es (Fallen left) h = h
    late-fares es (Wanting left) h = h

-- ---- all members

module _ {M : Type 0} {g : _} (w : Media M) (first : MemberNumber → Option M) where
  pub all-along : (of : NodeId → Bool) (es fs : List Entry) (ms : Members M g) → Lengthens of es fs → ((s : MemberNumber) → of (member s) ≡ false) → AllFare w first es ms → AllFare w first fs ms
  all-along of es fs ms l apart h = record {
    one = fares-along w (member First) (first First) of es fs ms.first l (apart First) h.one;
    two = fares-along w (member Second) (first Second) of es fs ms.second l (apart Second) h.two;
    three = fares-along w (member Third) (first Third) of es fs ms.third l (apart Third) h.three;
  }

  module _ (a b c d : CourierParts) (old new : Members M g) (one : Turns w (member First) a b old.first new.first) (two : Turns w (member Second) b c old.second new.second) (three : Turns w (member Third) c d old.third new.third)
      (enough : some_wants new ≡ false) where
    abbrev none : (wants new.first ≡ false) × (wants new.second ≡ false) × (wants new.third ≡ false)
    none = or-parts (wants new.first) (wants new.second) (wants new.third) enough

    longer-one : Lengthens (same_node (member First)) a.entries b.entries
    longer-one = turn-longer w (member First) (first First) a b old.first new.first one none.0

    longer-two : Lengthens (same_node (member Second)) b.entries c.entries
    longer-two = turn-longer w (member Second) (first Second) b c old.second new.second two none.1

    longer-three : Lengthens (same_node (member Third)) c.entries d.entries
    longer-three = turn-longer w (member Third) (first Third) c d old.third new.third three none.2

    pub all-turned : AllFare w first a.entries old → AllFare w first d.entries new
    all-turned h = record {
      one = fares-along w (member First) (first First) (same_node (member Third)) c.entries d.entries new.first longer-three refl
          (fares-along w (member First) (first First) (same_node (member Second)) b.entries c.entries new.first longer-two refl (turn-fares w (member First) (first First) a b old.first new.first one none.0 h.one));
      two = fares-along w (member Second) (first Second) (same_node (member Third)) c.entries d.entries new.second longer-three refl
          (turn-fares w (member Second) (first Second) b c old.second new.second two none.1 (fares-along w (member Second) (first Second) (same_node (member First)) a.entries b.entries old.second longer-one refl h.two));
      three = turn-fares w (member Third) (first Third) c d old.third new.third three none.2
          (fares-along w (member Third) (first Third) (same_node (member Second)) b.entries c.entries old.third longer-two refl
          (fares-along w (member Third) (first Third) (same_node (member First)) a.entries b.entries old.third longer-one refl h.three));
    }

  -- what follows a round
  abbrev pub next_members : Next → Members M g → Members M g
  next_members Over ms = ms
  next_members Round ms = ms
  next_members Ticked ms = all_late ms

  pub all-late-fare : (es : List Entry) (ms : Members M g) → AllFare w first es ms → AllFare w first es (all_late ms)
  all-late-fare es ms h = record {
    one = late-fares w (member First) (first First) es ms.first h.one;
    two = late-fares w (member Second) (first Second) es ms.second h.two;
    three = late-fares w (member Third) (first Third) es ms.third h.three;
  }

  pub all-followed : (limits : Limits) (late_one : Bool) (ticks : ℕ) (ps : List PollState) (c d : CourierParts) (ms : Members M g) (next : Next) → Follows limits late_one ticks ps c d next → AllFare w first c.entries ms
      → AllFare w first d.entries (next_members next ms)
  all-followed limits late_one ticks ps c d ms Over f h = subst (λ (z : CourierParts). AllFare w first z.entries ms) (sym f.0) h
  all-followed limits late_one ticks ps c d ms Round f h = subst (λ (z : CourierParts). AllFare w first z.entries ms) (sym f) h
  all-followed limits late_one ticks ps c d ms Ticked f h =
      all-late-fare d.entries ms (all-along (λ m. false) c.entries d.entries ms (record { more = Tick (tick_moment c f.3.answer) ∷ []; longer = f.3.entries; own_entries = λ m apart. refl }) (λ s. refl) h)

  pub step-fares : (limits : Limits) (late_one : Bool) (ticks : ℕ) (ps : List PollState) (c d : CourierParts) (ms : Members M g) (next named : Next) → next ≡ named → Follows limits late_one ticks ps c d next → AllFare w first c.entries ms
      → AllFare w first d.entries (next_members named ms)
  step-fares limits late_one ticks ps c d ms next named is f h = all-followed limits late_one ticks ps c d ms named (subst (Follows limits late_one ticks ps c d) is f) h
