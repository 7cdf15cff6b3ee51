-- Turns of members keep the trace legal.
use Rattle.vote_run.proofs.Names.{same_node, DownCause, NodeId, Repository, Effect, Out, Turn, state_of, same_node-refl, MemberState, MemberNumber, First, Second, Third, member, number_of, Line, Member, Entry, Take, Hear, Gate, Crash, Down, is_behind, Flags, Base, Hall, world_of, base_of, CourierParts, HasSent, with_entry, Stands, hall_of, trace_of, Keeps, and-false, keeps-still, never-false, Begins, moment_of, MemberIsAt, MemberOwes, ◌≡◌, ℕ, ◌≤◌, Bool, true, false, List, [], ◌++◌, take, length, refl, sym, ap, subst, ◌∙◌, Option, Some, None, ◌&&◌, not, is_some, if◌then◌else◌, unwrap_or, append-nil, was_shut, crashed, heard, shut, took, with_due, behind-parts, life_of, life_with, member_heard, member_took, owes, takes-legal, notes-legal, gates-legal, downs-legal, Called, down-called, flags-on, heard-due, keeps, leads, member-on, noted, sent-called, taken-is, took-called, HearsMoment, TakesCopy, MemberIsDown}
use Rattle.message_form.specs.Posts.{Post}
use Rattle.record_votes.specs.Members.{Given, on_message, on_moment}

life-member : (h : Hall) (s : MemberNumber) → life_of h Repository (number_of s) ≡ life_with (h.members s).gated (h.members s).fresh (h.members s).owed
life-member h First = refl
life-member h Second = refl
life-member h Third = refl

some-of : (o : Option ℕ) (x : ℕ) → is_some o ≡ true → o ≡ Some (unwrap_or o x)
some-of None x some = never-false (sym some)
some-of (Some t) x some = refl

and-true : (x : Bool) → (x && true) ≡ x
and-true true = refl
and-true false = refl

-- a turn's effects and messages over this log
abbrev owing : List Effect → ℕ → Given → Member
owing log moment g = record { gated = log; fresh = g.effects; owed = g.outs; moment = moment }

module _ (lines : List Line) (s : MemberNumber) where
  abbrev n : NodeId
  n = member s

  hears-kept : (m k : MemberState) (t : Turn) (c mid : CourierParts) → Stands lines c → MemberIsAt (hall_of lines c) s m true → HearsMoment n (moment_of c) c mid m k t
      → Keeps lines (same_node n) c mid × MemberOwes (hall_of lines mid) s m.log t.effects t.outs k.moment
  hears-kept m k t c mid st at x =
      let h : Hall = hall_of lines c in
      let b : Base = base_of lines (trace_of c) in
      let e : Entry = Hear n in
      let there : CourierParts = with_entry c e in
      let a : Called n e [] c there = noted n e c (λ j. refl) in
      let p = leads lines n e [] c there a in
      let is = same_node-refl n in
      let late = behind-parts (world_of h) n at.ready.behind_is in
      let last : h.last ≡ Some (moment_of c) = sym st.last ∙ some-of c.last c.start (ap is_some st.last ∙ late.0) in
      let f : (hall_of lines there).flags n ≡ with_due (h.flags n) =
      ap (λ (z : Hall). z.flags n) p ∙ flags-on b h e n is (st.known n at.ready.up) ∙ heard-due h.last (h.flags n) late.0 in
      let o : MemberOwes (hall_of lines there) s m.log t.effects t.outs (moment_of c) = record {
        up = ap (λ (z : Flags). z.up) f ∙ at.ready.up;
        due = ap (λ (z : Flags). z.due) f;
        heard = ap (λ (z : Hall). is_behind (world_of z) n) p ∙ ap (λ v. is_some h.last && not (if v then is_some h.last else h.heard n)) is ∙ ap (λ v. is_some h.last && not v) late.0 ∙ and-false (is_some h.last);
        moved = ap (λ (z : Hall). z.moved) p;
        member = ap (λ (z : Hall). z.members s) p ∙ member-on b h e s is ∙ ap (member_heard (h.members s)) last ∙ ap (λ v. heard v (moment_of c)) at.member
            ∙ ap (λ l. owing m.log (moment_of c) (on_moment l (moment_of c))) (append-nil m.log) ∙ ap (owing m.log (moment_of c)) (sym x.gives);
      } in
      subst (λ z. Keeps lines (same_node n) c z × MemberOwes (hall_of lines z) s m.log t.effects t.outs k.moment) (sym x.entry) (
        keeps lines n e [] c there a (notes-legal lines c e st tt (record { up = at.ready.up; some = late.0; behind = late.1 })),
        subst (λ z. MemberOwes (hall_of lines there) s m.log t.effects t.outs z) (sym (ap (λ (z : MemberState). z.moment) x.state)) o,
      )

  takes-kept : (m k : MemberState) (t : Turn) (c mid : CourierParts) → Stands lines c → MemberIsAt (hall_of lines c) s m false → TakesCopy n c mid m k t
      → Keeps lines (same_node n) c mid × MemberOwes (hall_of lines mid) s m.log t.effects t.outs k.moment
  takes-kept m k t c mid st at x =
      let h : Hall = hall_of lines c in
      let b : Base = base_of lines (trace_of c) in
      let e : Entry = Take n x.arrival.number in
      let a : Called n e [] c mid = took-called n c mid x.arrival x.takes in
      let p = leads lines n e [] c mid a in
      let is = same_node-refl n in
      let y = taken-is lines n c mid x.arrival st x.takes in
      let f : (hall_of lines mid).flags n ≡ with_due (h.flags n) = ap (λ (z : Hall). z.flags n) p ∙ flags-on b h e n is (st.known n at.ready.up) in
      let o : MemberOwes (hall_of lines mid) s m.log t.effects t.outs m.moment = record {
        up = ap (λ (z : Flags). z.up) f ∙ at.ready.up;
        due = ap (λ (z : Flags). z.due) f;
        heard = ap (λ (z : Hall). is_behind (world_of z) n) p ∙ at.ready.behind_is;
        moved = ap (λ (z : Hall). z.moved) p;
        member = ap (λ (z : Hall). z.members s) p ∙ member-on b h e s is ∙ ap (member_took (h.members s)) y.1
            ∙ ap (λ (z : Post). took (h.members s) z.from z.message) y.2 ∙ ap (λ v. took v x.arrival.from x.arrival.message) at.member
            ∙ ap (λ l. owing m.log m.moment (on_message l m.moment x.arrival.from x.arrival.message)) (append-nil m.log) ∙ ap (owing m.log m.moment) (sym x.gives);
      } in (
        keeps lines n e [] c mid a (takes-legal lines n c mid x.arrival st (record { up = at.ready.up; gone = at.ready.gone; heard = at.ready.behind_is }) x.takes),
        subst (λ z. MemberOwes (hall_of lines mid) s m.log t.effects t.outs z) (sym (ap (λ (z : MemberState). z.moment) x.state)) o,
      )

  -- it hears, or takes a copy
  pub begins-kept : (behind : Bool) (m k : MemberState) (t : Turn) (c mid : CourierParts) → Stands lines c → MemberIsAt (hall_of lines c) s m behind → Begins behind n (moment_of c) c mid m k (Some t)
      → Keeps lines (same_node n) c mid × MemberOwes (hall_of lines mid) s m.log t.effects t.outs k.moment
  begins-kept true m k t c mid st at x = hears-kept m k t c mid st at x
  begins-kept false m k t c mid st at x = takes-kept m k t c mid st at x

  module _ (log effects : List Effect) (outs : List Out) (moment : ℕ) (c : CourierParts) (st : Stands lines c) (o : MemberOwes (hall_of lines c) s log effects outs moment) where
    abbrev h : Hall
    h = hall_of lines c

    abbrev b : Base
    b = base_of lines (trace_of c)

    -- its effects are durable, and its messages are sent
    pub gates-kept : (d : CourierParts) → HasSent n outs c d → Keeps lines (same_node n) c d × MemberIsAt (hall_of lines d) s (record { number = number_of s; log = log ++ effects; moment = moment }) false
    gates-kept d g =
        let e : Entry = Gate n in
        let a = sent-called n outs c d g in
        let p = leads lines n e g.news c d a in
        let is = same_node-refl n in
        let owed : owes lines c n ≡ outs = ap (λ l. l.outs) (life-member h s) ∙ ap (λ (z : Member). z.owed) o.member in
        let f : (hall_of lines d).flags n ≡ record { known = (h.flags n).known; up = (h.flags n).up; gone = (h.flags n).gone; due = false } =
        ap (λ (z : Hall). z.flags n) p ∙ flags-on b h e n is (st.known n o.up) in (
          keeps lines n e g.news c d a (gates-legal lines n outs c d st o.up o.due (sym owed) g),
          record {
            ready = record {
              up = ap (λ (z : Flags). z.up) f ∙ o.up;
              closed = ap (λ (z : Flags). z.due) f;
              gone = λ never. never-false (sym never);
              behind_is = ap (λ (z : Hall). is_behind (world_of z) n) p ∙ o.heard;
            };
            member = ap (λ (z : Hall). z.members s) p ∙ member-on b h e s is ∙ ap shut o.member;
          },
        )

    -- it resumes from its log with the first of its effects
    pub crash-kept : (kept : ℕ) → kept ≤ length effects
        → Keeps lines (same_node n) c (with_entry c (Crash n kept)) × MemberIsAt (hall_of lines (with_entry c (Crash n kept))) s (record { number = number_of s; log = log ++ take kept effects; moment = c.start }) (is_some c.last)
    crash-kept kept most =
        let e : Entry = Crash n kept in
        let d : CourierParts = with_entry c e in
        let a : Called n e [] c d = noted n e c (λ j. refl) in
        let p = leads lines n e [] c d a in
        let is = same_node-refl n in
        let fresh : (life_of h Repository (number_of s)).fresh ≡ effects = ap (λ l. l.fresh) (life-member h s) ∙ ap (λ (z : Member). z.fresh) o.member in
        let f : (hall_of lines d).flags n ≡ record { known = (h.flags n).known; up = (h.flags n).up; gone = false; due = false } =
        ap (λ (z : Hall). z.flags n) p ∙ flags-on b h e n is (st.known n o.up) in (
          keeps lines n e [] c d a (notes-legal lines c e st tt (refl, record { up = o.up; most = subst (λ l. kept ≤ length l) (sym fresh) most })),
          record {
            ready = record {
              up = ap (λ (z : Flags). z.up) f ∙ o.up;
              closed = ap (λ (z : Flags). z.due) f;
              gone = λ never. never-false (sym never);
              behind_is = ap (λ (z : Hall). is_behind (world_of z) n) p ∙ ap (λ v. is_some h.last && not (if v then false else h.heard n)) is ∙ and-true (is_some h.last) ∙ ap is_some (sym st.last);
            };
            member = ap (λ (z : Hall). z.members s) p ∙ member-on b h e s is ∙ ap (λ v. crashed v kept c.start) o.member;
          },
        )

    -- it is down
    pub down-kept : (cause : DownCause) (d : CourierParts) → state_of d.flight ≡ was_shut (state_of c.flight) n → d ≡ record (with_entry c (Down n cause)) { flight = d.flight }
        → Keeps lines (same_node n) c d × MemberIsDown (hall_of lines d) s log effects
    down-kept cause d flew same =
        let e : Entry = Down n cause in
        let a = down-called n cause c d same in
        let p = leads lines n e [] c d a in
        let is = same_node-refl n in
        let f : (hall_of lines d).flags n ≡ record { known = (h.flags n).known; up = false; gone = (h.flags n).gone; due = (h.flags n).due } =
        ap (λ (z : Hall). z.flags n) p ∙ flags-on b h e n is (st.known n o.up) in
        let m : (hall_of lines d).members s ≡ h.members s = ap (λ (z : Hall). z.members s) p ∙ member-on b h e s is in (
          keeps lines n e [] c d a (downs-legal lines n cause c d st (refl, record { up = o.up; none = λ never. never-false (sym o.moved ∙ never) }) flew same),
          record {
            down = ap (λ (z : Flags). z.up) f;
            gated = ap (λ (z : Member). z.gated) (m ∙ o.member);
            fresh = ap (λ (z : Member). z.fresh) (m ∙ o.member);
          },
        )

  pub none-kept : (behind : Bool) (m : MemberState) (c d : CourierParts) → Stands lines c → MemberIsAt (hall_of lines c) s m behind → Begins behind n (moment_of c) c d m m None
      → Keeps lines (same_node n) c d × MemberIsAt (hall_of lines d) s m behind
  none-kept true m c d st at x = absurd x
  none-kept false m c d st at x = (keeps-still lines (same_node n) c d st x.still, subst (λ z. MemberIsAt (hall_of lines z) s m false) (sym x.still) at)
