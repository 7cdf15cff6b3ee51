-- How a run of votes begins: who can't be opened is down, and the others sit.
use Rattle.vote_call.proofs.Names.{Option, Some, None, cond, ◌⊎◌, not, nat_lt, slice_get, IsTrue, unwrap_or, nat_tests, append-nil, same_Some, broker, same_node, DownCause, NodeId, RoseBy, StaysClean, PollState, member, number_of, Line, new_poll, MemberNumber, First, Second, Third, Entry, Down, opened_log, own, Opening, Media, HasOpened, IsAsItWas, IsWanting, log_in, down_cause, PollLine, Grows, costs, Base, Hall, line_at, start_hall, walk_from, base_of, CourierParts, Keeps, Stands, hall_of, trace_of, never-false, Fares, Lengthens, ShutAs, KeepsWhole, Lasts, wants, PollsGo, MemberIsAt, Sits, SitsUp, opened_voters, Seat, Up, Fallen, Wanting, clean-same, grows-same, lines_of, polls_from, Falls, seat_for, ◌≡◌, ℕ, zero, suc, ◌+◌, ◌<◌, Bool, true, false, List, [], ◌∷◌, ◌++◌, length, inl, inr, refl, sym, ap, subst, ◌∙◌, arith, if◌then◌else◌, KeepsPages, is_within, Flags, is_down, LeavesLog, walk, IsOfDowns, with_entry, OnlyChanges, down-called, flags-on, keeps, keeps-still, leads, downs-legal, FaresWell, HasPaid, NeverOpened, down-more, none-own, own-still, line_of, SeatsAs}
use Rattle.medium_port.specs.Image.{page_of}
use Rattle.effect_form.specs.declared.effects.Effect.{Effect}
use Rattle.message_core.proofs.NodeLemmas.{same_node-refl}
use Rattle.version_store.specs.StoreWords as words
use Rattle.world_core.specs.declared.traces.Opened.{Opened}
use Rattle.vote_run.specs.Opening.TheVariants as opening
use Rattle.vote_run.specs.MemberTurns.{MayTurn}
use Rattle.vote_run.proofs.PollLemmas.{new-stays, ready-stays}

-- ---- what was opened

untouched : {M : Type 0} (w : Media M) (old new : M) → IsAsItWas w old new → IsTrue w.tells → KeepsWhole w (Some old) (Some new)
untouched w old new h told = inl (h.untouched told)

module _ {M : Type 0} {g : Media M} (w : Media M) where
  may-for : (number start : ℕ) (first : Option M) (o : Opening M g) → HasOpened w first o → MayTurn w number (seat_for number start o)
  may-for number start None (opening.Open store effects) h = absurd h
  may-for number start (Some old) (opening.Open store effects) h = (refl, h.sound)
  may-for number start first (opening.Shut left cause) h = tt
  may-for number start first (opening.Wanting left) h = tt

  pub may-sit : (number start : ℕ) (first : Option M) (o : Opening M g) (seat : Seat M g) → HasOpened w first o → SeatsAs number start o seat → MayTurn w number seat
  may-sit number start first o seat h (inl same) = subst (MayTurn w number) (sym same) (may-for number start first o h)
  may-sit number start first (opening.Open store effects) (Wanting left) h (inr wanted) = tt
  may-sit number start first (opening.Open store effects) (Up m s durable behind) h (inr wanted) = absurd wanted
  may-sit number start first (opening.Open store effects) (Fallen left) h (inr wanted) = absurd wanted
  may-sit number start first (opening.Shut left cause) seat h (inr wanted) = absurd wanted
  may-sit number start first (opening.Wanting left) seat h (inr wanted) = absurd wanted

  -- ---- what lasts

  lasts-for : (number start : ℕ) (first : Option M) (o : Opening M g) → HasOpened w first o → Lasts w first (seat_for number start o)
  lasts-for number start None (opening.Open store effects) h = absurd h
  lasts-for number start (Some old) (opening.Open store effects) h = record {
    back = tt;
    safe = λ told. record {
      taken = old;
      was = refl;
      log = effects.items;
      held = h.held told;
      more = [];
      has = h.has told ∙ sym (append-nil effects.items);
      left = subst (LeavesLog w (words.medium_of store)) (sym (append-nil effects.items)) (h.left told);
    };
  }
  lasts-for number start None (opening.Shut None cause) h = record { back = tt; safe = λ told. tt }
  lasts-for number start None (opening.Shut (Some new) cause) h = absurd h
  lasts-for number start (Some old) (opening.Shut None cause) h = absurd h
  lasts-for number start (Some old) (opening.Shut (Some new) cause) h = record { back = tt; safe = untouched w old new h.0 }
  lasts-for number start None (opening.Wanting new) h = absurd h
  lasts-for number start (Some old) (opening.Wanting new) h = record { back = tt; safe = untouched w old new h }

  pub lasts-sit : (number start : ℕ) (first : Option M) (o : Opening M g) (seat : Seat M g) → HasOpened w first o → SeatsAs number start o seat → Lasts w first seat
  lasts-sit number start first o seat h (inl same) = subst (Lasts w first) (sym same) (lasts-for number start first o h)
  lasts-sit number start None (opening.Open store effects) seat h (inr wanted) = absurd h
  lasts-sit number start (Some old) (opening.Open store effects) (Wanting left) h (inr wanted) =
      record { back = tt; safe = λ told. subst (λ z. KeepsWhole w (Some old) (Some z)) (sym wanted) (untouched w old (words.medium_of store) h.same told) }
  lasts-sit number start (Some old) (opening.Open store effects) (Up m s durable behind) h (inr wanted) = absurd wanted
  lasts-sit number start (Some old) (opening.Open store effects) (Fallen left) h (inr wanted) = absurd wanted
  lasts-sit number start first (opening.Shut left cause) seat h (inr wanted) = absurd wanted
  lasts-sit number start first (opening.Wanting left) seat h (inr wanted) = absurd wanted

  -- ---- a seat whose memory didn't run out

  for-wants : (number start : ℕ) (o : Opening M g) → wants (seat_for number start o) ≡ false → IsWanting o → ⊥
  for-wants number start (opening.Open store effects) enough is = is
  for-wants number start (opening.Shut left cause) enough is = is
  for-wants number start (opening.Wanting left) enough is = never-false enough

  pub seated : (number start : ℕ) (o : Opening M g) (seat : Seat M g) → SeatsAs number start o seat → wants seat ≡ false → (seat ≡ seat_for number start o) × (IsWanting o → ⊥)
  seated number start o seat (inl same) enough = (same, for-wants number start o (sym (ap wants same) ∙ enough))
  seated number start (opening.Open store effects) (Wanting left) (inr wanted) enough = never-false enough
  seated number start (opening.Open store effects) (Up m s durable behind) (inr wanted) enough = absurd wanted
  seated number start (opening.Open store effects) (Fallen left) (inr wanted) enough = absurd wanted
  seated number start (opening.Shut left cause) seat (inr wanted) enough = absurd wanted
  seated number start (opening.Wanting left) seat (inr wanted) enough = absurd wanted

-- ---- entries: Downs of others alone

pub record AreOthers (n : NodeId) (es : List Entry) : Type 0 where
  pub downs : IsOfDowns es
  pub others : own n es ≡ []

downs-more : (es : List Entry) (e : Entry) → is_down e ≡ true → IsOfDowns es → IsOfDowns (es ++ e ∷ [])
downs-more [] e is h = (is, tt)
downs-more (x ∷ es) e is h = (h.0, downs-more es e is h.1)

module _ (n : NodeId) where
  others-longer : (m : NodeId) (es fs : List Entry) → same_node n m ≡ false → (fs ≡ es) ⊎ ((cause : DownCause) × (fs ≡ es ++ Down n cause ∷ [])) → AreOthers m es → AreOthers m fs
  others-longer m es fs apart (inl same) h = subst (AreOthers m) (sym same) h
  others-longer m es fs apart (inr (cause, longer)) h =
      subst (AreOthers m) (sym longer) (record { downs = downs-more es (Down n cause) refl h.downs; others = own-still m es (Down n cause ∷ []) (ap (λ t. cond t (Down n cause ∷ []) []) apart) ∙ h.others })

  lengthens-by : (es fs : List Entry) → (fs ≡ es) ⊎ ((cause : DownCause) × (fs ≡ es ++ Down n cause ∷ [])) → Lengthens (same_node n) es fs
  lengthens-by es fs (inl same) = record { more = []; longer = same ∙ sym (append-nil es); own_entries = λ m apart. refl }
  lengthens-by es fs (inr (cause, longer)) = record { more = Down n cause ∷ []; longer = longer; own_entries = λ m apart. ap (λ t. cond t (Down n cause ∷ []) []) apart }

  module _ {M : Type 0} (w : Media M) where
    keeps-same : (old new : M) → w.reads new ≡ w.reads old → KeepsPages (w.reads old) (w.reads new)
    keeps-same old new same page written = ap (λ z. page_of z page) same

    begun-paid : (es : List Entry) (old new : M) → own n es ≡ [] → IsAsItWas w old new → HasPaid w n es old new
    begun-paid es old new none h = record {
      paid = subst (λ (l : List Entry). RoseBy (costs l) (w.faults old) (w.faults new)) (sym none) (let later = h.later in omega (arith, later));
      kept = λ told free. keeps-same old new (h.still told);
      clean = λ told free. subst (λ z. StaysClean (w.reads old) z) (sym (h.still told)) (clean-same w n old);
      grows = λ told free. subst (λ z. Grows (w.reads old) z) (sym (h.still told)) (grows-same (w.reads old));
    }

    out-of : (first left : Option M) (cause : DownCause) (c d : CourierParts) → d.entries ≡ c.entries ++ Down n cause ∷ [] → ShutAs w n first left cause → AreOthers n c.entries → NeverOpened w n first left d.entries
    out-of first left cause c d longer shut a = record {
      out = (c.entries, [], cause, longer, a.downs);
      cause = cause;
      down_is = subst (λ z. down_cause n z ≡ Some cause) (sym longer) (down-more n c.entries (Down n cause ∷ []) (none-own n c.entries a.others) ∙ ap (λ t. if t then Some cause else None) (same_node-refl n));
      shut = shut;
    }

module _ {M : Type 0} {g : Media M} (n : NodeId) where
  fallen-entries : (o : Opening M g) (c d : CourierParts) → Falls n o c d → (d.entries ≡ c.entries) ⊎ ((cause : DownCause) × (d.entries ≡ c.entries ++ Down n cause ∷ []))
  fallen-entries (opening.Open store effects) c d f = inl (ap (λ (z : CourierParts). z.entries) f)
  fallen-entries (opening.Shut left cause) c d f = inr (cause, ap (λ (z : CourierParts). z.entries) f.1)
  fallen-entries (opening.Wanting left) c d f = inl (ap (λ (z : CourierParts). z.entries) f)

  pub others-stay : (m : NodeId) (o : Opening M g) (c d : CourierParts) → same_node n m ≡ false → Falls n o c d → AreOthers m c.entries → AreOthers m d.entries
  others-stay m o c d apart f h = others-longer n m c.entries d.entries apart (fallen-entries o c d f) h

  pub falls-longer : (o : Opening M g) (c d : CourierParts) → Falls n o c d → Lengthens (same_node n) c.entries d.entries
  falls-longer o c d f = lengthens-by n c.entries d.entries (fallen-entries o c d f)

  -- ---- how media fare

  module _ (w : Media M) where
    pub fares-open : (first : Option M) (number start : ℕ) (o : Opening M g) (c d : CourierParts) → HasOpened w first o → Falls n o c d → AreOthers n c.entries → (IsWanting o → ⊥) → Fares w n first d.entries (seat_for number start o)
    fares-open None number start (opening.Open store effects) c d h f a not = absurd h
    fares-open (Some old) number start (opening.Open store effects) c d h f a not =
        subst (λ (z : CourierParts). FaresWell w n (Some old) z.entries (words.medium_of store)) (sym f)
        (record { taken = old; was = refl; never = none-own n c.entries a.others; has_paid = begun-paid n w c.entries old (words.medium_of store) a.others h.same })
    fares-open None number start (opening.Shut None cause) c d h f a not = out-of n w None None cause c d (ap (λ (z : CourierParts). z.entries) f.1) h a
    fares-open None number start (opening.Shut (Some new) cause) c d h f a not = absurd h
    fares-open (Some old) number start (opening.Shut None cause) c d h f a not = absurd h
    fares-open (Some old) number start (opening.Shut (Some new) cause) c d h f a not = inr (out-of n w (Some old) (Some new) cause c d (ap (λ (z : CourierParts). z.entries) f.1) h a)
    fares-open first number start (opening.Wanting left) c d h f a not = absurd (not tt)

-- ---- the hall at the beginning

pub none-walked : (b : Base) (es : List Entry) → es ≡ [] → walk b es ≡ start_hall b
unfolding walk_from
none-walked b es none = ap (walk b) none

log-kept : (xs ys : List Opened) (n : NodeId) (l : List Effect) → opened_log xs n ≡ Some l → opened_log (xs ++ ys) n ≡ Some l
log-kept [] ys n l h = absurd (let never : ⊥ = cc h in never)
log-kept (x ∷ xs) ys n l h = go (same_node x.node n) h (λ e. log-kept xs ys n l e)
  where
    go : (t : Bool) → (if t then Some x.effects else opened_log xs n) ≡ Some l → (opened_log xs n ≡ Some l → opened_log (xs ++ ys) n ≡ Some l) → (if t then Some x.effects else opened_log (xs ++ ys) n) ≡ Some l
    go true h rest = h
    go false h rest = rest h

module _ (one two three : List Effect) where
  abbrev given_log : MemberNumber → List Effect
  given_log First = one
  given_log Second = two
  given_log Third = three

  pub voter-log : (polls : ℕ) (s : MemberNumber) → opened_log (opened_voters one two three polls) (member s) ≡ Some (given_log s)
  voter-log zero First = refl
  voter-log zero Second = refl
  voter-log zero Third = refl
  voter-log (suc polls) s = log-kept (opened_voters one two three polls) (record { node = broker (suc polls); effects = [] } ∷ []) (member s) (given_log s) (voter-log polls s)

-- the polls that are made of lines
pub polls-at : (i k : ℕ) (ls : List PollLine) (p : PollState) → slice_get (polls_from i ls) k ≡ Some p → p ≡ new_poll (i + k) (line_at (lines_of ls) (suc k))
polls-at i k [] p h = absurd (let never : ⊥ = cc h in never)
polls-at i zero (l ∷ ls) p h = let n : i ≡ i + 0 = omega arith in sym (same_Some _ _ h) ∙ ap (λ j. new_poll j (line_of l)) n
polls-at i (suc k) (l ∷ ls) p h = let n : suc i + k ≡ i + suc k = omega arith in polls-at (suc i) k ls p h ∙ ap (λ j. new_poll j (line_at (lines_of ls) (suc k))) n

pub polls-count : (i : ℕ) (ls : List PollLine) → length (polls_from i ls) ≡ length ls
polls-count i [] = refl
polls-count i (l ∷ ls) = ap suc (polls-count (suc i) ls)

pub lines-count : (ls : List PollLine) → length (lines_of ls) ≡ length ls
lines-count [] = refl
lines-count (l ∷ ls) = ap suc (lines-count ls)

pub none-below : (k : ℕ) → nat_lt k 0 ≡ false
none-below k = grind (arith, nat_tests)

pub within-lines : (k n : ℕ) → k < n → is_within (suc k) n ≡ true
within-lines k n less = grind (arith, nat_tests, less)

module _ (lines : List Line) where
  -- a member that isn't named stays at its place
  pub member-stays : (of : NodeId → Bool) (c d : CourierParts) (s : MemberNumber) (log : List Effect) (moment : ℕ) → OnlyChanges of (hall_of lines c) (hall_of lines d) → of (member s) ≡ false
      → MemberIsAt (hall_of lines c) s (record { number = number_of s; log = log; moment = moment }) false → MemberIsAt (hall_of lines d) s (record { number = number_of s; log = log; moment = moment }) false
  member-stays of c d s log moment o f at = record { ready = ready-stays of (hall_of lines c) (hall_of lines d) o (member s) false f at.ready; member = o.members s f ∙ at.member }

  pub polls-stay : (of : NodeId → Bool) (c d : CourierParts) (ps : List PollState) → OnlyChanges of (hall_of lines c) (hall_of lines d) → ((i : ℕ) → of (broker i) ≡ false) → PollsGo (hall_of lines c) 0 ps → PollsGo (hall_of lines d) 0 ps
  polls-stay of c d ps o f go = record {
    before = λ k p there early. new-stays of (hall_of lines c) (hall_of lines d) o (suc k) p (f (suc k)) (go.before k p there early);
    after = λ k p there late. never-false (sym late ∙ none-below k);
  }

  fall-down : (s : MemberNumber) (cause : DownCause) (c d : CourierParts) → Stands lines c → ((hall_of lines c).flags (member s)).up ≡ true → d ≡ record (with_entry c (Down (member s) cause)) { flight = d.flight } → ((hall_of lines d).flags (member s)).up ≡ false
  fall-down s cause c d st up same =
      ap (λ (z : Hall). (z.flags (member s)).up) (leads lines (member s) (Down (member s) cause) [] c d (down-called (member s) cause c d same))
      ∙ ap (λ (z : Flags). z.up) (flags-on (base_of lines (trace_of c)) (hall_of lines c) (Down (member s) cause) (member s) (same_node-refl (member s)) (st.known (member s) up))

  module _ {M : Type 0} {g : Media M} (s : MemberNumber) where
    -- ---- the fall of a member

    pub fall-keeps : (o : Opening M g) (c d : CourierParts) → Stands lines c → ((hall_of lines c).flags (member s)).up ≡ true → opened_log c.opened (member s) ≡ Some (log_in o) → Falls (member s) o c d → Keeps lines (same_node (member s)) c d
    fall-keeps (opening.Open store effects) c d st up log f = keeps-still lines (same_node (member s)) c d st f
    fall-keeps (opening.Shut left cause) c d st up log f =
        keeps lines (member s) (Down (member s) cause) [] c d (down-called (member s) cause c d f.1) (downs-legal lines (member s) cause c d st (refl, record { up = up; none = λ still. ap (λ o. unwrap_or o []) log }) f.0 f.1)
    fall-keeps (opening.Wanting left) c d st up log f = keeps-still lines (same_node (member s)) c d st f

    -- it sits, or is down
    pub own-sits : (w : Media M) → IsTrue w.tells → (first : Option M) (start : ℕ) (o : Opening M g) (c d : CourierParts) → HasOpened w first o → Stands lines c
        → MemberIsAt (hall_of lines c) s (record { number = number_of s; log = log_in o; moment = start }) false → AreOthers (member s) c.entries → Falls (member s) o c d → (IsWanting o → ⊥) → Sits w lines d s (seat_for (number_of s) start o)
    own-sits w told None start (opening.Open store effects) c d h st at a f not = absurd h
    own-sits w told (Some old) start (opening.Open store effects) c d h st at a f not =
        subst (λ z. SitsUp w lines z s (record { number = number_of s; log = effects.items; moment = start }) store (length effects.items) false) (sym f) (record {
          number = refl;
          sound = h.sound;
          count = refl;
          at = at;
          has = h.has told;
          left = h.left told;
          never = none-own (member s) c.entries a.others;
        })
    own-sits w told first start (opening.Shut left cause) c d h st at a f not =
        inr (record { down = fall-down s cause c d st at.ready.up f.1; out = (c.entries, [], cause, ap (λ (z : CourierParts). z.entries) f.1, a.downs) })
    own-sits w told first start (opening.Wanting left) c d h st at a f not = absurd (not tt)
