-- What an entry of a node changes, and that turns of polls keep the trace legal.
use Rattle.vote_courier.proofs.Names.{◌≡◌, ℕ, ◌+◌, Bool, true, false, List, [], ◌∷◌, ◌++◌, map, inl, inr, refl, sym, ap, subst, ◌∙◌, append_assoc, Option, Some, None, ◌&&◌, not, cond, is_some, if◌then◌else◌, append-nil, map-append, broker, same_node, DownCause, NodeId, Out, Post, Asked, Arrival, state_of, numbered, Line, Entry, Take, Go, Learn, Hear, Gate, Crash, Down, Tick, Sent, asked_of, is_behind, Flags, Sending, flagged, has_heard, heard_after, last_after, names, own, ticks_after, with_due, is-copy, numbered-from, Base, Hall, member_on, owed_on, poll_heard, poll_on, poll_took, step, walk, world_of, base_of, walk-more, CourierParts, HasSent, Takes, with_entry, Stands, hall_of, trace_of}
use Rattle.std.proofs.lemmas.List.Elements.{filter-append}
use Rattle.message_core.proofs.NodeLemmas.{same_node-refl}
use Rattle.record_votes.specs.declared.member_numbers.MemberNumber.{MemberNumber}
use Rattle.record_votes.specs.Polls.{PollState, PollGiven, member, poll_goes, poll_hears, poll_takes}
use Rattle.vote_wire.specs.Clocked.{IsClocked, tick_moments}
use Rattle.vote_wire.proofs.MomentLemmas.{clocked-still}
use Rattle.vote_wire.proofs.QuietLemmas.{behind-parts}
use Rattle.vote_courier.specs.Places.{PollIsAt, PollIsNew, PollOwes, OnlyChanges, Tells, Adds, Keeps}
use Rattle.vote_courier.specs.Turns.{Goes, HearsTick, TookCopy, FoundNone, PollTurns}
use Rattle.vote_courier.proofs.StationLemmas.{takes-legal, notes-legal, gates-legal}

-- ---- one entry of a node

pub never-false : {X : Type 0} → true ≡ false → X
never-false e = absurd (cc e)

module _ (h : Hall) (n : NodeId) where
  heard-elsewhere : (e : Entry) → ((m : NodeId) → names m e ≡ same_node n m) → (m : NodeId) → same_node n m ≡ false → heard_after (world_of h) e m ≡ h.heard m
  heard-elsewhere (Take node number) own m f = refl
  heard-elsewhere (Go node) own m f = refl
  heard-elsewhere (Learn node stamp committed) own m f = refl
  heard-elsewhere (Hear node) own m f = ap (λ t. if t then is_some h.last else h.heard m) (own m ∙ f)
  heard-elsewhere (Gate node) own m f = refl
  heard-elsewhere (Crash node kept) own m f = ap (λ t. if t then false else h.heard m) (own m ∙ f)
  heard-elsewhere (Down node cause) own m f = refl
  heard-elsewhere (Tick moment) own m f = never-false (sym (same_node-refl n) ∙ sym (own n))

  last-kept : (e : Entry) → ((m : NodeId) → names m e ≡ same_node n m) → last_after h.last e ≡ h.last
  last-kept (Take node number) own = refl
  last-kept (Go node) own = refl
  last-kept (Learn node stamp committed) own = refl
  last-kept (Hear node) own = refl
  last-kept (Gate node) own = refl
  last-kept (Crash node kept) own = refl
  last-kept (Down node cause) own = refl
  last-kept (Tick moment) own = never-false (sym (same_node-refl n) ∙ sym (own n))

  ticks-kept : (e : Entry) → ((m : NodeId) → names m e ≡ same_node n m) → ticks_after h.ticks e ≡ h.ticks
  ticks-kept (Take node number) own = refl
  ticks-kept (Go node) own = refl
  ticks-kept (Learn node stamp committed) own = refl
  ticks-kept (Hear node) own = refl
  ticks-kept (Gate node) own = refl
  ticks-kept (Crash node kept) own = refl
  ticks-kept (Down node cause) own = refl
  ticks-kept (Tick moment) own = never-false (sym (same_node-refl n) ∙ sym (own n))

moments-none : (n : NodeId) (e : Entry) → ((m : NodeId) → names m e ≡ same_node n m) → tick_moments (e ∷ []) ≡ []
moments-none n (Take node number) own = refl
moments-none n (Go node) own = refl
moments-none n (Learn node stamp committed) own = refl
moments-none n (Hear node) own = refl
moments-none n (Gate node) own = refl
moments-none n (Crash node kept) own = refl
moments-none n (Down node cause) own = refl
moments-none n (Tick moment) own = never-false (sym (same_node-refl n) ∙ sym (own n))

module _ (b : Base) (h : Hall) (e : Entry) where
  -- an entry of this node changes no other
  pub elsewhere : (n : NodeId) → ((m : NodeId) → names m e ≡ same_node n m) → OnlyChanges (same_node n) h (step b h e)
  elsewhere n own = record {
    flags = λ m f. ap (λ t. if t && (h.flags m).known then flagged h.last m.kind (h.flags m) e else h.flags m) (own m ∙ f);
    heard = heard-elsewhere h n e own;
    members = λ s f. ap (λ t. if t then member_on b h (h.members s) e else h.members s) (own (member s) ∙ f);
    polls = λ i f. ap (λ t. if t then poll_on h (h.polls i) e else h.polls i) (own (broker i) ∙ f);
    owed = λ i f. ap (λ t. if t then owed_on h (h.polls i) (h.owed i) e else h.owed i) (own (broker i) ∙ f);
    last = last-kept h n e own;
    ticks = ticks-kept h n e own;
  }

  -- and its own parts so
  pub flags-on : (n : NodeId) → names n e ≡ true → (h.flags n).known ≡ true → (step b h e).flags n ≡ flagged h.last n.kind (h.flags n) e
  flags-on n is known = ap (λ t. if t && (h.flags n).known then flagged h.last n.kind (h.flags n) e else h.flags n) is ∙ ap (λ t. if t then flagged h.last n.kind (h.flags n) e else h.flags n) known

  pub member-on : (s : MemberNumber) → names (member s) e ≡ true → (step b h e).members s ≡ member_on b h (h.members s) e
  member-on s is = ap (λ t. if t then member_on b h (h.members s) e else h.members s) is

  pub poll-on : (i : ℕ) → names (broker i) e ≡ true → (step b h e).polls i ≡ poll_on h (h.polls i) e
  poll-on i is = ap (λ t. if t then poll_on h (h.polls i) e else h.polls i) is

  pub owed-on : (i : ℕ) → names (broker i) e ≡ true → (step b h e).owed i ≡ owed_on h (h.polls i) (h.owed i) e
  owed-on i is = ap (λ t. if t then owed_on h (h.polls i) (h.owed i) e else h.owed i) is

pub changes-join : (of : NodeId → Bool) (h k l : Hall) → OnlyChanges of h k → OnlyChanges of k l → OnlyChanges of h l
changes-join of h k l a c = record {
  flags = λ m f. c.flags m f ∙ a.flags m f;
  heard = λ m f. c.heard m f ∙ a.heard m f;
  members = λ s f. c.members s f ∙ a.members s f;
  polls = λ i f. c.polls i f ∙ a.polls i f;
  owed = λ i f. c.owed i f ∙ a.owed i f;
  last = c.last ∙ a.last;
  ticks = c.ticks ∙ a.ticks;
}

pub changes-none : (of : NodeId → Bool) (h : Hall) → OnlyChanges of h h
changes-none of h = record { flags = λ m f. refl; heard = λ m f. refl; members = λ s f. refl; polls = λ i f. refl; owed = λ i f. refl; last = refl; ticks = refl }

-- ---- one call

-- It adds this entry of the node, and these messages.
pub record Called (n : NodeId) (e : Entry) (news : List Sent) (c d : CourierParts) : Type 0 where
  pub own : (m : NodeId) → names m e ≡ same_node n m
  pub start : d.start ≡ c.start
  pub opened : d.opened ≡ c.opened
  pub answers : d.answers ≡ c.answers
  pub entries : d.entries ≡ c.entries ++ e ∷ []
  pub sent : d.sent ≡ c.sent ++ news
  pub asked : d.asked ≡ c.asked ++ map asked_of news

-- where it leads
pub there : (lines : List Line) (c d : CourierParts) (e : Entry) → d.start ≡ c.start → d.opened ≡ c.opened → d.entries ≡ c.entries ++ e ∷ [] → hall_of lines d ≡ step (base_of lines (trace_of c)) (hall_of lines c) e
there lines c d e start opened entries =
    let along : hall_of lines d ≡ walk (base_of lines (trace_of c)) (c.entries ++ e ∷ []) = (λ i. walk (record { start = start i; opened = opened i; lines = lines }) (entries i)) in
    along ∙ walk-more (base_of lines (trace_of c)) c.entries e

module _ (n : NodeId) (e : Entry) (news : List Sent) (c d : CourierParts) (a : Called n e news c d) where
  tells-on : (asked : List Asked) (answers : Option (List ℕ)) → Tells asked answers c → Tells asked answers d
  tells-on asked answers t = record {
    fates = a.asked ∙ ap (λ l. l ++ map asked_of news) t.fates ∙ append_assoc asked (map asked_of c.sent) (map asked_of news) ∙ ap (λ l. asked ++ l) (sym (map-append asked_of c.sent news) ∙ ap (map asked_of) (sym a.sent));
    clock = subst (λ (es : List Entry). IsClocked answers d.answers d.start es) (sym a.entries)
        (subst (λ k. IsClocked answers d.answers k (c.entries ++ e ∷ [])) (sym a.start)
        (subst (λ o. IsClocked answers o c.start (c.entries ++ e ∷ [])) (sym a.answers) (clocked-still answers c.answers c.start c.entries e (moments-none n e a.own) t.clock)));
  }

  pub adds : Adds (same_node n) c d
  adds = record {
    more = e ∷ [];
    longer = a.entries;
    own_entries = λ m f. ap (λ t. cond t (e ∷ []) []) (a.own m ∙ f);
    start = a.start;
    opened = a.opened;
    tells = tells-on;
  }

module _ (lines : List Line) (n : NodeId) (e : Entry) (news : List Sent) (c d : CourierParts) (a : Called n e news c d) where
  pub leads : hall_of lines d ≡ step (base_of lines (trace_of c)) (hall_of lines c) e
  leads = there lines c d e a.start a.opened a.entries

  pub keeps : Stands lines d → Keeps lines (same_node n) c d
  keeps s = record {
    stands = s;
    others = subst (OnlyChanges (same_node n) (hall_of lines c)) (sym leads) (elsewhere (base_of lines (trace_of c)) (hall_of lines c) e n a.own);
    adds = adds n e news c d a;
  }

pub adds-join : (of : NodeId → Bool) (c d f : CourierParts) → Adds of c d → Adds of d f → Adds of c f
adds-join of c d f a g = record {
  more = a.more ++ g.more;
  longer = g.longer ∙ ap (λ l. l ++ g.more) a.longer ∙ append_assoc c.entries a.more g.more;
  own_entries = λ m apart. filter-append (names m) a.more g.more ∙ ap (λ l. l ++ own m g.more) (a.own_entries m apart) ∙ g.own_entries m apart;
  start = g.start ∙ a.start;
  opened = g.opened ∙ a.opened;
  tells = λ asked answers t. g.tells asked answers (a.tells asked answers t);
}

pub adds-still : (of : NodeId → Bool) (c d : CourierParts) → d ≡ c → Adds of c d
adds-still of c d is = subst (Adds of c) (sym is) (record { more = []; longer = sym (append-nil c.entries); own_entries = λ m apart. refl; start = refl; opened = refl; tells = λ asked answers t. t })

pub keeps-join : (lines : List Line) (of : NodeId → Bool) (c d f : CourierParts) → Keeps lines of c d → Keeps lines of d f → Keeps lines of c f
keeps-join lines of c d f a g = record {
  stands = g.stands;
  others = changes-join of (hall_of lines c) (hall_of lines d) (hall_of lines f) a.others g.others;
  adds = adds-join of c d f a.adds g.adds;
}

pub keeps-still : (lines : List Line) (of : NodeId → Bool) (c d : CourierParts) → Stands lines c → d ≡ c → Keeps lines of c d
keeps-still lines of c d s is = record {
  stands = subst (Stands lines) (sym is) s;
  others = subst (λ z. OnlyChanges of (hall_of lines c) (hall_of lines z)) (sym is) (changes-none of (hall_of lines c));
  adds = adds-still of c d is;
}

-- what changes these nodes alone changes those alone that they are among
pub keeps-wider : (lines : List Line) (of wider : NodeId → Bool) (c d : CourierParts) → ((m : NodeId) → wider m ≡ false → of m ≡ false) → Keeps lines of c d → Keeps lines wider c d
keeps-wider lines of wider c d all k = record {
  stands = k.stands;
  others = record {
    flags = λ m f. k.others.flags m (all m f);
    heard = λ m f. k.others.heard m (all m f);
    members = λ s f. k.others.members s (all (member s) f);
    polls = λ i f. k.others.polls i (all (broker i) f);
    owed = λ i f. k.others.owed i (all (broker i) f);
    last = k.others.last;
    ticks = k.others.ticks;
  };
  adds = record { more = k.adds.more; longer = k.adds.longer; own_entries = λ m f. k.adds.own_entries m (all m f); start = k.adds.start; opened = k.adds.opened; tells = k.adds.tells };
}

pub noted : (n : NodeId) (e : Entry) (c : CourierParts) → ((m : NodeId) → names m e ≡ same_node n m) → Called n e [] c (with_entry c e)
noted n e c own = record { own = own; start = refl; opened = refl; answers = refl; entries = refl; sent = sym (append-nil c.sent); asked = sym (append-nil c.asked) }

pub took-called : (n : NodeId) (c d : CourierParts) (a : Arrival) → Takes n c d (Some a) → Called n (Take n a.number) [] c d
took-called n c d a (front, flew, same) = record {
  own = λ m. refl;
  start = ap (λ (z : CourierParts). z.start) same;
  opened = ap (λ (z : CourierParts). z.opened) same;
  answers = ap (λ (z : CourierParts). z.answers) same;
  entries = ap (λ (z : CourierParts). z.entries) same;
  sent = ap (λ (z : CourierParts). z.sent) same ∙ sym (append-nil c.sent);
  asked = ap (λ (z : CourierParts). z.asked) same ∙ sym (append-nil c.asked);
}

pub sent-called : (n : NodeId) (outs : List Out) (c d : CourierParts) → (g : HasSent n outs c d) → Called n (Gate n) g.news c d
sent-called n outs c d g = record { own = λ m. refl; start = g.start; opened = g.opened; answers = g.answers; entries = g.entries; sent = g.sent; asked = g.asked }

pub down-called : (n : NodeId) (cause : DownCause) (c d : CourierParts) → d ≡ record (with_entry c (Down n cause)) { flight = d.flight } → Called n (Down n cause) [] c d
down-called n cause c d same = record {
  own = λ m. refl;
  start = ap (λ (z : CourierParts). z.start) same;
  opened = ap (λ (z : CourierParts). z.opened) same;
  answers = ap (λ (z : CourierParts). z.answers) same;
  entries = ap (λ (z : CourierParts). z.entries) same;
  sent = ap (λ (z : CourierParts). z.sent) same ∙ sym (append-nil c.sent);
  asked = ap (λ (z : CourierParts). z.asked) same ∙ sym (append-nil c.asked);
}

-- ---- what was taken

-- the message that a taken copy is one of
pub taken-is : (lines : List Line) (n : NodeId) (c d : CourierParts) (a : Arrival) → Stands lines c → Takes n c d (Some a)
    → (x : Sending) × (numbered (hall_of lines c).sendings a.number ≡ Some x) × (x.post ≡ record { from = a.from; to = n; message = a.message })
taken-is lines n c d a s (front, flew, same) =
    let h : Hall = hall_of lines c in
    let copy = is-copy (state_of c.flight) (world_of h) c.sent s.marks s.carried.tied s.in_range n a front in
    numbered-from (λ (x : Sending). x.post) h.sendings a.number (record { from = a.from; to = n; message = a.message }) (ap (λ l. numbered l a.number) (sym s.legal.sent) ∙ copy)

-- ---- polls

pub and-false : (x : Bool) → (x && false) ≡ false
and-false true = refl
and-false false = refl

pub heard-due : (last : Option ℕ) (f : Flags) → is_some last ≡ true → has_heard last f ≡ with_due f
heard-due None f some = never-false (sym some)
heard-due (Some t) f some = refl

heard-poll : (p : PollState) (last : Option ℕ) → is_some last ≡ true → poll_heard p last ≡ poll_hears p
heard-poll p None some = never-false (sym some)
heard-poll p (Some t) some = refl

module _ (lines : List Line) (i : ℕ) where
  -- it sends what it owes
  gates-poll : (p : PollState) (outs : List Out) (c d : CourierParts) → Stands lines c → PollOwes (hall_of lines c) i p outs → HasSent (broker i) outs c d
      → Keeps lines (same_node (broker i)) c d × PollIsAt (hall_of lines d) i p false
  gates-poll p outs c d s o g =
      let h : Hall = hall_of lines c in
      let b : Base = base_of lines (trace_of c) in
      let n : NodeId = broker i in
      let a = sent-called n outs c d g in
      let t = leads lines n (Gate n) g.news c d a in
      let is = same_node-refl n in
      let f : (hall_of lines d).flags n ≡ record { known = (h.flags n).known; up = (h.flags n).up; gone = (h.flags n).gone; due = false } =
      ap (λ (z : Hall). z.flags n) t ∙ flags-on b h (Gate n) n is (s.known n o.up) in (
        keeps lines n (Gate n) g.news c d a (gates-legal lines n outs c d s o.up o.due (sym o.owed) g),
        record {
          ready = record {
            up = ap (λ (z : Flags). z.up) f ∙ o.up;
            closed = ap (λ (z : Flags). z.due) f;
            gone = λ _. ap (λ (z : Flags). z.gone) f ∙ o.gone;
            behind_is = ap (λ (z : Hall). is_behind (world_of z) n) t ∙ o.heard;
          };
          poll = ap (λ (z : Hall). z.polls i) t ∙ poll-on b h (Gate n) i is ∙ o.poll;
          owed = ap (λ (z : Hall). z.owed i) t ∙ owed-on b h (Gate n) i is;
        },
      )

  pub goes-kept : (p q : PollState) (c d : CourierParts) → Stands lines c → PollIsNew (hall_of lines c) i p → Goes (broker i) c d p q → Keeps lines (same_node (broker i)) c d × PollIsAt (hall_of lines d) i q false
  goes-kept p q c d s at (same, g) =
      let h : Hall = hall_of lines c in
      let b : Base = base_of lines (trace_of c) in
      let n : NodeId = broker i in
      let mid : CourierParts = with_entry c (Go n) in
      let a = noted n (Go n) c (λ m. refl) in
      let t = leads lines n (Go n) [] c mid a in
      let is = same_node-refl n in
      let f : (hall_of lines mid).flags n ≡ record { known = (h.flags n).known; up = (h.flags n).up; gone = true; due = true } =
      ap (λ (z : Hall). z.flags n) t ∙ flags-on b h (Go n) n is (s.known n at.up) in
      let s1 : Stands lines mid = notes-legal lines c (Go n) s tt (record { up = at.up; broker = refl; fresh = at.fresh }) in
      let o : PollOwes (hall_of lines mid) i p (poll_goes p) = record {
        up = ap (λ (z : Flags). z.up) f ∙ at.up;
        due = ap (λ (z : Flags). z.due) f;
        gone = ap (λ (z : Flags). z.gone) f;
        heard = ap (λ (z : Hall). is_behind (world_of z) n) t ∙ ap (λ l. is_some l && not (h.heard n)) at.still;
        poll = ap (λ (z : Hall). z.polls i) t ∙ poll-on b h (Go n) i is ∙ at.poll;
        owed = ap (λ (z : Hall). z.owed i) t ∙ owed-on b h (Go n) i is ∙ ap (λ l. l ++ poll_goes (h.polls i)) at.owed ∙ ap poll_goes at.poll;
      } in
      let r = gates-poll p (poll_goes p) mid d s1 o g in
      (keeps-join lines (same_node n) c mid d (keeps lines n (Go n) [] c mid a s1) r.0, subst (λ z. PollIsAt (hall_of lines d) i z false) (sym same) r.1)

  hears-kept : (p q : PollState) (c d : CourierParts) → Stands lines c → PollIsAt (hall_of lines c) i p true → HearsTick (broker i) c d p q → Keeps lines (same_node (broker i)) c d × PollIsAt (hall_of lines d) i q false
  hears-kept p q c d s at (same, g) =
      let h : Hall = hall_of lines c in
      let b : Base = base_of lines (trace_of c) in
      let n : NodeId = broker i in
      let mid : CourierParts = with_entry c (Hear n) in
      let a = noted n (Hear n) c (λ m. refl) in
      let t = leads lines n (Hear n) [] c mid a in
      let is = same_node-refl n in
      let late = behind-parts (world_of h) n at.ready.behind_is in
      let f : (hall_of lines mid).flags n ≡ with_due (h.flags n) =
      ap (λ (z : Hall). z.flags n) t ∙ flags-on b h (Hear n) n is (s.known n at.ready.up) ∙ heard-due h.last (h.flags n) late.0 in
      let s1 : Stands lines mid = notes-legal lines c (Hear n) s tt (record { up = at.ready.up; some = late.0; behind = late.1 }) in
      let o : PollOwes (hall_of lines mid) i p (poll_hears p) = record {
        up = ap (λ (z : Flags). z.up) f ∙ at.ready.up;
        due = ap (λ (z : Flags). z.due) f;
        gone = ap (λ (z : Flags). z.gone) f ∙ at.ready.gone refl;
        heard = ap (λ (z : Hall). is_behind (world_of z) n) t ∙ ap (λ x. is_some h.last && not (if x then is_some h.last else h.heard n)) is ∙ ap (λ x. is_some h.last && not x) late.0 ∙ and-false (is_some h.last);
        poll = ap (λ (z : Hall). z.polls i) t ∙ poll-on b h (Hear n) i is ∙ at.poll;
        owed = ap (λ (z : Hall). z.owed i) t ∙ owed-on b h (Hear n) i is ∙ ap (λ l. l ++ poll_heard (h.polls i) h.last) at.owed ∙ heard-poll (h.polls i) h.last late.0 ∙ ap poll_hears at.poll;
      } in
      let r = gates-poll p (poll_hears p) mid d s1 o g in
      (keeps-join lines (same_node n) c mid d (keeps lines n (Hear n) [] c mid a s1) r.0, subst (λ z. PollIsAt (hall_of lines d) i z false) (sym same) r.1)

  takes-kept : (p q : PollState) (c d : CourierParts) → Stands lines c → PollIsAt (hall_of lines c) i p false → TookCopy (broker i) c d p q → Keeps lines (same_node (broker i)) c d × PollIsAt (hall_of lines d) i q false
  takes-kept p q c d s at k =
      let h : Hall = hall_of lines c in
      let b : Base = base_of lines (trace_of c) in
      let n : NodeId = broker i in
      let e : Entry = Take n k.arrival.number in
      let a = took-called n c k.mid k.arrival k.takes in
      let t = leads lines n e [] c k.mid a in
      let is = same_node-refl n in
      let x = taken-is lines n c k.mid k.arrival s k.takes in
      let f : (hall_of lines k.mid).flags n ≡ with_due (h.flags n) = ap (λ (z : Hall). z.flags n) t ∙ flags-on b h e n is (s.known n at.ready.up) in
      let s1 : Stands lines k.mid = takes-legal lines n c k.mid k.arrival s (record { up = at.ready.up; gone = at.ready.gone; heard = at.ready.behind_is }) k.takes in
      let gives : poll_took (h.polls i) (numbered h.sendings k.arrival.number) ≡ poll_takes p k.arrival.from k.arrival.message =
      ap (poll_took (h.polls i)) x.1 ∙ ap (λ (y : Post). poll_takes (h.polls i) y.from y.message) x.2 ∙ ap (λ z. poll_takes z k.arrival.from k.arrival.message) at.poll in
      let o : PollOwes (hall_of lines k.mid) i (poll_takes p k.arrival.from k.arrival.message).poll (poll_takes p k.arrival.from k.arrival.message).outs = record {
        up = ap (λ (z : Flags). z.up) f ∙ at.ready.up;
        due = ap (λ (z : Flags). z.due) f;
        gone = ap (λ (z : Flags). z.gone) f ∙ at.ready.gone refl;
        heard = ap (λ (z : Hall). is_behind (world_of z) n) t ∙ at.ready.behind_is;
        poll = ap (λ (z : Hall). z.polls i) t ∙ poll-on b h e i is ∙ ap (λ (z : PollGiven). z.poll) gives;
        owed = ap (λ (z : Hall). z.owed i) t ∙ owed-on b h e i is ∙ ap (λ l. l ++ (poll_took (h.polls i) (numbered h.sendings k.arrival.number)).outs) at.owed ∙ ap (λ (z : PollGiven). z.outs) gives;
      } in
      let r = gates-poll (poll_takes p k.arrival.from k.arrival.message).poll (poll_takes p k.arrival.from k.arrival.message).outs k.mid d s1 o k.sends in
      (keeps-join lines (same_node n) c k.mid d (keeps lines n e [] c k.mid a s1) r.0, subst (λ z. PollIsAt (hall_of lines d) i z false) (sym k.poll) r.1)

  none-kept : (p q : PollState) (c d : CourierParts) → Stands lines c → PollIsAt (hall_of lines c) i p false → FoundNone (broker i) c d p q → Keeps lines (same_node (broker i)) c d × PollIsAt (hall_of lines d) i q false
  none-kept p q c d s at k =
      (keeps-still lines (same_node (broker i)) c d s k.still, subst (λ z. PollIsAt (hall_of lines z) i q false) (sym k.still) (subst (λ z. PollIsAt (hall_of lines c) i z false) (sym k.poll) at))

  pub turns-kept : (behind : Bool) (p q : PollState) (c d : CourierParts) → Stands lines c → PollIsAt (hall_of lines c) i p behind → PollTurns behind (broker i) c d p q → Keeps lines (same_node (broker i)) c d × PollIsAt (hall_of lines d) i q false
  turns-kept true p q c d s at t = hears-kept p q c d s at t
  turns-kept false p q c d s at (inl k) = none-kept p q c d s at k
  turns-kept false p q c d s at (inr k) = takes-kept p q c d s at k
