-- Turns of members over their media.
use Rattle.vote_run.proofs.Names.{same_node, DownCause, NodeId, same_node-refl, Effect, Turn, effects_of, entries, log_of, effects_in, medium_of, Store, MemberState, MemberNumber, member, number_of, Line, Crash, Down, Gate, Media, down_cause, IsDurable, IsFallenFor, LeavesLog, Hall, CourierParts, with_entry, Stands, hall_of, Keeps, keeps-join, keeps-still, Begins, EndsAs, IsDown, IsGated, IsReopened, Turns, Wants, moment_of, MemberIsAt, MemberOwes, SatOn, Sits, Seat, Up, Fallen, Wanting, ◌≡◌, ℕ, ◌+◌, ◌-◌, ◌≤◌, Bool, true, false, List, [], ◌∷◌, ◌++◌, take, length, inl, inr, refl, sym, ap, subst, ◌∙◌, arith, Some, None, ◌⊎◌, is_some, IsTrue, Result, Ok, Err, if◌then◌else◌, length-append, length-take-le, Log, effects_found, log_or_none, opened, LeavesPrefix, ShowsCause, SitsDown, SitsFallen, SitsUp}
use Rattle.pseudo_time.specs.declared.down_causes.DownCause.TheVariants as down
use Rattle.vote_run.proofs.EntryLemmas.{begun-up, down-more, none-begun}
use Rattle.vote_run.proofs.MemberLemmas.{begins-kept, crash-kept, down-kept, gates-kept, none-kept}

-- the log of an image, by the effects found there
pub read-so : (r : Result Log ℕ) (l : List Effect) → effects_found r ≡ Ok l → effects_of (log_or_none r) ≡ l
read-so (Ok log) l e = cc e
read-so (Err page) l e = absurd (let never : ⊥ = cc e in never)

-- how many were found beyond the durable ones
taken-count : (log found effects : List Effect) (kept durable : ℕ) → durable ≡ length log → kept ≤ length effects → found ≡ log ++ take kept effects → length found - durable ≡ kept
taken-count log found effects kept durable count most is =
    let whole : length found ≡ length log + length (take kept effects) = ap length is ∙ length-append log (take kept effects) in
    let few : length (take kept effects) ≡ kept = length-take-le kept effects most in
    omega (arith, count, whole, few)

-- the state after an input
state-log : (behind : Bool) (n : NodeId) (moment : ℕ) (c mid : CourierParts) (m k : MemberState) (t : Turn) → Begins behind n moment c mid m k (Some t) → (k.number ≡ m.number) × (k.log ≡ m.log ++ t.effects)
state-log true n moment c mid m k t x = (ap (λ (z : MemberState). z.number) x.state, ap (λ (z : MemberState). z.log) x.state)
state-log false n moment c mid m k t x = (ap (λ (z : MemberState). z.number) x.state, ap (λ (z : MemberState). z.log) x.state)

at-state : (s : MemberNumber) (h : Hall) (m : MemberState) (log : List Effect) (moment : ℕ) (behind : Bool) → m.log ≡ log → m.moment ≡ moment
    → MemberIsAt h s (record { number = number_of s; log = log; moment = moment }) behind → MemberIsAt h s m behind
at-state s h m log moment behind same when at = record { ready = at.ready; member = at.member ∙ ap (opened moment) (sym same) ∙ ap (λ t. opened t m.log) (sym when) }

module _ {M : Type 0} {g : _} (w : Media M) (told : IsTrue w.tells) (lines : List Line) (s : MemberNumber) where
  -- a durable log is left whole
  durable-left : (c : CourierParts) (m : MemberState) (before : Store M g) (durable : ℕ) (behind : Bool) → SitsUp w lines c s m before durable behind → (t : Turn) (store : Store M g) → IsDurable w before store t.effects
      → LeavesLog w (medium_of store) (m.log ++ t.effects)
  durable-left c m before durable behind sits t store e image left =
      let p = e.leaves told image left in
      let reads : effects_of (log_of image) ≡ effects_in w.reads store = ap (λ z. effects_of (log_of z)) (e.left told image left) in
      p.is ∙ ap Ok (sym (read-so (entries image) (effects_in w.reads before ++ take p.kept t.effects) p.is) ∙ reads ∙ e.has told ∙ ap (λ l. l ++ t.effects) sits.has)

  module _ (c mid d : CourierParts) (m k : MemberState) (before : Store M g) (durable : ℕ) (behind : Bool) (t : Turn) (st : Stands lines c) (sits : SitsUp w lines c s m before durable behind)
      (x : Begins behind (member s) (moment_of c) c mid m k (Some t)) where
    abbrev begun : Keeps lines (same_node (member s)) c mid × MemberOwes (hall_of lines mid) s m.log t.effects t.outs k.moment
    begun = begins-kept lines s behind m k t c mid st sits.at x

    up : down_cause (member s) mid.entries ≡ None
    up = begun-up behind (member s) (moment_of c) c mid m k t x sits.never

    gated : (j : MemberState) (store : Store M g) (count : ℕ) (late : Bool) → IsGated w (member s) t.outs mid d before t.effects k j store → count ≡ durable + length t.effects → late ≡ false
        → Keeps lines (same_node (member s)) c d × SitsUp w lines d s j store count late
    gated j store count late e counts never =
        let was = state-log behind (member s) (moment_of c) c mid m k t x in
        let log : j.log ≡ m.log ++ t.effects = ap (λ (z : MemberState). z.log) e.state ∙ was.1 in
        let r = gates-kept lines s m.log t.effects t.outs k.moment mid begun.0.stands begun.1 d e.sends in
        let has : effects_in w.reads store ≡ j.log = e.durable.has told ∙ ap (λ l. l ++ t.effects) sits.has ∙ sym log in (
          keeps-join lines (same_node (member s)) c mid d begun.0 r.0,
          record {
            number = ap (λ (z : MemberState). z.number) e.state ∙ was.0 ∙ sits.number;
            sound = e.durable.sound;
            count = counts ∙ ap (λ l. l + length t.effects) sits.count ∙ sym (length-append m.log t.effects) ∙ ap length (sym log);
            at = subst (λ b. MemberIsAt (hall_of lines d) s j b) (sym never) (at-state s (hall_of lines d) j (m.log ++ t.effects) k.moment false log (ap (λ (z : MemberState). z.moment) e.state) r.1);
            has = has;
            left = subst (LeavesLog w (medium_of store)) (sym log) (durable-left c m before durable behind sits t store e.durable);
            never = subst (λ z. down_cause (member s) z ≡ None) (sym e.sends.entries) (down-more (member s) mid.entries (Gate (member s) ∷ []) up);
          },
        )

    reopened : (j : MemberState) (store : Store M g) (count : ℕ) (late : Bool) → IsReopened w (member s) durable mid d before t.effects k j store → count ≡ length j.log → late ≡ is_some mid.last
        → Keeps lines (same_node (member s)) c d × SitsUp w lines d s j store count late
    reopened j store count late e counts after =
        let was = state-log behind (member s) (moment_of c) c mid m k t x in
        let kept = e.crashed.kept told in
        let found : e.found ≡ m.log ++ take kept.0 t.effects = kept.2 ∙ ap (λ l. l ++ take kept.0 t.effects) sits.has in
        let r = crash-kept lines s m.log t.effects t.outs k.moment mid begun.0.stands begun.1 kept.0 kept.1 in
        let there : with_entry mid (Crash (member s) kept.0) ≡ d = ap (λ v. with_entry mid (Crash (member s) v)) (sym (taken-count m.log e.found t.effects kept.0 durable sits.count kept.1 found)) ∙ sym e.entry in
        let log : j.log ≡ e.found = ap (λ (z : MemberState). z.log) e.state in (
          keeps-join lines (same_node (member s)) c mid d begun.0 (subst (Keeps lines (same_node (member s)) mid) there r.0),
          record {
            number = ap (λ (z : MemberState). z.number) e.state ∙ was.0 ∙ sits.number;
            sound = e.crashed.log.sound;
            count = counts;
            at = subst (λ b. MemberIsAt (hall_of lines d) s j b) (sym after) (at-state s (hall_of lines d) j (m.log ++ take kept.0 t.effects) mid.start (is_some mid.last) (log ∙ found) (ap (λ (z : MemberState). z.moment) e.state)
                (subst (λ z. MemberIsAt (hall_of lines z) s (record { number = number_of s; log = m.log ++ take kept.0 t.effects; moment = mid.start }) (is_some mid.last)) there r.1));
            has = e.crashed.log.has told ∙ sym log;
            left = subst (LeavesLog w (medium_of store)) (sym log) (e.crashed.log.left told);
            never = subst (λ (z : CourierParts). down_cause (member s) z.entries ≡ None) (sym e.entry) (down-more (member s) mid.entries (Crash (member s) (length e.found - durable) ∷ []) up);
          },
        )

    shown : (cause : DownCause) (left : M) → IsFallenFor w cause before t.effects left → ShowsCause w cause left m.log t.effects
    shown down.Medium left e = tt
    shown (down.Damaged page) left e = e told
    shown (down.Full pages) left e = (e.1, sits.left (w.reads left) (subst (λ z. w.may_leave z (w.reads left)) e.0 (e.3 told)), e.2 told)

    fallen : (left : M) → IsDown w (member s) mid d before t.effects left → Keeps lines (same_node (member s)) c d × SitsFallen w lines d s (Some left)
    fallen left e =
        let r = down-kept lines s m.log t.effects t.outs k.moment mid begun.0.stands begun.1 e.cause d e.flight e.entry in (
          keeps-join lines (same_node (member s)) c mid d begun.0 r.0,
          record {
            medium = left;
            is = refl;
            log = m.log;
            effects = t.effects;
            at = r.1;
            leaves = subst (λ l. LeavesPrefix w left l t.effects) sits.has (e.gone.left told);
            cause = e.cause;
            down_is = subst (λ (z : CourierParts). down_cause (member s) z.entries ≡ Some e.cause) (sym e.entry)
                (down-more (member s) mid.entries (Down (member s) e.cause ∷ []) up ∙ ap (λ v. if v then Some e.cause else None) (same_node-refl (member s)));
            shows = shown e.cause left e.caused;
          },
        )

    ended : (seat : Seat M g) → EndsAs w (member s) durable mid d before t.effects t.outs k seat → SatOn w lines c d s seat
    ended (Up j store count late) (inl e) = gated j store count late e.0 e.1 e.2
    ended (Up j store count late) (inr e) = reopened j store count late e.0 e.1 e.2
    ended (Fallen None) e = absurd e
    ended (Fallen (Some left)) e = (let r = fallen left e in (r.0, inl r.1))
    ended (Wanting left) e = tt

  stayed : (c d : CourierParts) (m : MemberState) (before : Store M g) (durable : ℕ) (behind : Bool) → Stands lines c → SitsUp w lines c s m before durable behind → Begins behind (member s) (moment_of c) c d m m None
      → Keeps lines (same_node (member s)) c d × SitsUp w lines d s m before durable behind
  stayed c d m before durable behind st sits x =
      let r = none-kept lines s behind m c d st sits.at x in (
        r.0,
        record {
          number = sits.number;
          sound = sits.sound;
          count = sits.count;
          at = r.1;
          has = sits.has;
          left = sits.left;
          never = subst (λ (z : CourierParts). down_cause (member s) z.entries ≡ None) (sym (none-begun behind (member s) (moment_of c) c d m m x)) sits.never;
        },
      )

  wanted : (c d : CourierParts) (old : M) (seat : Seat M g) → Wants w old seat → SatOn w lines c d s seat
  wanted c d old (Up m store durable behind) h = absurd h
  wanted c d old (Fallen left) h = absurd h
  wanted c d old (Wanting left) h = tt

  pub sat-on : (c d : CourierParts) (old seat : Seat M g) → Stands lines c → Sits w lines c s old → Turns w (member s) c d old seat → SatOn w lines c d s seat
  sat-on c d (Up m before durable behind) seat st sits (inl a) = ended c a.mid d m a.state before durable behind a.turn st sits a.begins seat a.ends
  sat-on c d (Up m before durable behind) seat st sits (inr (inl a)) = subst (SatOn w lines c d s) (sym a.same) (stayed c d m before durable behind st sits a.none)
  sat-on c d (Up m before durable behind) seat st sits (inr (inr a)) = wanted c d (medium_of before) seat a
  sat-on c d (Fallen left) seat st sits (still, same) = subst (SatOn w lines c d s) (sym same)
      (keeps-still lines (same_node (member s)) c d st still, subst (λ z. SitsFallen w lines z s left ⊎ SitsDown lines z s) (sym still) sits)
  sat-on c d (Wanting left) seat st sits (still, same) = absurd sits
