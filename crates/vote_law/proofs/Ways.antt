-- Who writes to whom, and how many messages that makes.
use Rattle.vote_law.proofs.Names.{Every, every-append, repository, broker, is_broker, same_node, NodeId, NodeKind, same_stamp, StampParts, Decision, Effect, Message, Out, Post, numbered, same_is, same_node-refl, Fate, RecordState, Unknown, Decided, record_of, Ballot, MemberNumber, First, Second, Third, book, quiet, begin_by, close_by, row, on_message, Given, member, voter_at, voter_of, PollState, PollGiven, ballot, held, asked, unless_held, begin_to, begun_heard, vote_heard, heard_from, heard_by, ignored, poll_goes, poll_takes, Member, Line, all_effects, shut, voter-member, Entry, Take, Go, Learn, Hear, Gate, Crash, Down, Tick, MayTake, Flags, Sending, names, flagged, Base, Hall, world_of, member_took, poll_took, voter_life, life_of, step, Rule, flagged-up, ◌≡◌, ℕ, zero, suc, ◌+◌, ◌*◌, ◌≤◌, Bool, true, false, List, [], ◌∷◌, ◌++◌, length, inl, inr, refl, sym, ap, subst, ◌∙◌, arith, Option, Some, None, ◌==◌, ◌&&◌, ◌⊎◌, is_some, slice_get, if◌then◌else◌, eqb-true, eqb-false}
use Rattle.pseudo_time.specs.declared.nodes.NodeKind.TheVariants as kind
use Rattle.message_form.specs.declared.messages.Message.TheVariants as message
use Rattle.vote_law.proofs.Letters.{marked, is_taken, sendings_of, between, marks}
use Rattle.vote_law.proofs.Halls.{either-way, no, node, number-place, is_quiet}

-- poll i has a line
pub record HasLine (lines : List Line) (i : ℕ) : Type 0 where
  pub line : Line
  pub there : numbered lines i ≡ Some line

-- a message of a poll to a member, or of a member to a poll
pub record IsAsk (lines : List Line) (p : Post) : Type 0 where
  pub poll : ℕ
  pub member_is : MemberNumber
  pub has : HasLine lines poll
  pub from_is : p.from ≡ broker poll
  pub to_is : p.to ≡ member member_is

pub record IsAnswer (lines : List Line) (p : Post) : Type 0 where
  pub poll : ℕ
  pub member_is : MemberNumber
  pub has : HasLine lines poll
  pub from_is : p.from ≡ member member_is
  pub to_is : p.to ≡ broker poll

abbrev pub IsWay : List Line → Post → Type 0
IsWay lines p = IsAsk lines p ⊎ IsAnswer lines p

abbrev pub ToMember : Out → Type 0
ToMember o = (s : MemberNumber) × (o.to ≡ member s)

abbrev pub ToPoll : List Line → Out → Type 0
ToPoll lines o = (i : ℕ) × HasLine lines i × (o.to ≡ broker i)

-- ---- what polls and members say

module _ (p : PollState) where
  asked-ways : (s : MemberNumber) (begun : Bool) (v : Option Bool) → Every ToMember (asked p s begun v)
  asked-ways s begun (Some v) = tt
  asked-ways s begun None = ((s, refl), tt)

  if-ways : (t : Bool) (outs : List Out) → Every ToMember outs → Every ToMember (if t then [] else outs)
  if-ways true outs h = tt
  if-ways false outs h = h

  begun-ways : (s : MemberNumber) (b : Ballot) → Every ToMember (begun_heard p s b).outs
  begun-ways s b = if-ways b.begun (unless_held p (asked p s true b.vote)) (if-ways (is_some (held p)) (asked p s true b.vote) (asked-ways s true b.vote))

  vote-ways : (s : MemberNumber) (d : Decision) (b : Ballot) (v : Option Bool) → Every ToMember (vote_heard p s d b v).outs
  vote-ways s d b None = tt
  vote-ways s d b (Some v) = tt

  given-ways : (t : Bool) (g : PollGiven) → Every ToMember g.outs → Every ToMember (if t then g else ignored p).outs
  given-ways true g h = h
  given-ways false g h = tt

  from-ways : (s : MemberNumber) (m : Message) → Every ToMember (heard_from p s m).outs
  from-ways s (message.Begun x) = given-ways (same_stamp x p.stamp) (begun_heard p s (ballot p s)) (begun-ways s (ballot p s))
  from-ways s (message.Decided x d) = given-ways (same_stamp x p.stamp) (vote_heard p s d (ballot p s) (ballot p s).vote) (vote-ways s d (ballot p s) (ballot p s).vote)
  from-ways s m = tt

  by-ways : (o : Option MemberNumber) (m : Message) → Every ToMember (heard_by p o m).outs
  by-ways None m = tt
  by-ways (Some s) m = from-ways s m

  takes-ways : (from : NodeId) (m : Message) → Every ToMember (poll_takes p from m).outs
  unfolding poll_takes
  takes-ways from m = by-ways (voter_of from) m

  goes-ways : Every ToMember (poll_goes p)
  unfolding poll_goes
  goes-ways = if-ways (is_some (held p)) (begin_to p First ++ (begin_to p Second ++ begin_to p Third)) (every-append ToMember (begin_to p First) (begin_to p Second ++ begin_to p Third) ((First, refl), tt) (every-append ToMember (begin_to p Second) (begin_to p Third) ((Second, refl), tt) ((Third, refl), tt)))

module _ (lines : List Line) (from : NodeId) (asker : (i : ℕ) × HasLine lines i × (from ≡ broker i)) where
  one-way : (m : Message) → ToPoll lines (record { to = from; message = m })
  one-way m = asker

  begin-ways : (moment : ℕ) (s : StampParts) (timeout : ℕ) (r : Option RecordState) → Every (ToPoll lines) (begin_by moment from s timeout r).outs
  begin-ways moment s timeout None = (asker, tt)
  begin-ways moment s timeout (Some (Unknown t)) = (asker, tt)
  begin-ways moment s timeout (Some (Decided d)) = (asker, tt)

  close-ways : (s : StampParts) (d : Decision) (r : Option RecordState) → Every (ToPoll lines) (close_by from s d r).outs
  close-ways s d None = tt
  close-ways s d (Some (Unknown t)) = (asker, tt)
  close-ways s d (Some (Decided x)) = (asker, tt)

  row-ways : (log : List Effect) (moment : ℕ) (m : Message) → Every (ToPoll lines) (row log moment from m).outs
  row-ways log moment (message.Begin s timeout) = begin-ways moment s timeout (record_of (book log) s)
  row-ways log moment (message.Commit s) = close-ways s _ (record_of (book log) s)
  row-ways log moment (message.Withdraw s) = close-ways s _ (record_of (book log) s)
  row-ways log moment m = tt

  quiet-ways : (t : Bool) (g : Given) → Every (ToPoll lines) g.outs → Every (ToPoll lines) (if t then g else quiet).outs
  quiet-ways true g h = h
  quiet-ways false g h = tt

  message-ways : (log : List Effect) (moment : ℕ) (m : Message) → Every (ToPoll lines) (on_message log moment from m).outs
  unfolding on_message
  message-ways log moment m = quiet-ways (is_broker from.kind) (row log moment from m) (row-ways log moment m)

-- ---- the whole hall

pub record HallWays (b : Base) (h : Hall) : Type 0 where
  pub sent : Every (λ (x : Sending). IsWay b.lines x.post) h.sendings
  pub polls : (i : ℕ) → Every ToMember (h.owed i)
  pub members : (s : MemberNumber) → Every (ToPoll b.lines) (h.members s).owed
  pub lines : (i : ℕ) → (h.flags (broker i)).up ≡ true → HasLine b.lines i

not-both : (i : ℕ) (s : MemberNumber) → broker i ≡ member s → ⊥
not-both i s e = let q : is_broker (broker i).kind ≡ is_broker (member s).kind = ap (λ (n : NodeId). is_broker n.kind) e in let k : true ≡ false = q in cc k

pub every-place : (P : Sending → Type 0) (ss : List Sending) (j : ℕ) (x : Sending) → Every P ss → slice_get ss j ≡ Some x → P x
every-place P [] j x h e = absurd (cc e)
every-place P (y ∷ ss) zero x h e = subst P (let k : y ≡ x = cc e in k) h.0
every-place P (y ∷ ss) (suc j) x h e = every-place P ss j x h.1 e

module _ (b : Base) (h : Hall) (c : HallWays b h) (fates : List Fate) where
  pub asker-of : (s : MemberNumber) (p : Post) → IsWay b.lines p → p.to ≡ member s → (i : ℕ) × HasLine b.lines i × (p.from ≡ broker i)
  asker-of s p (inl a) e = (a.poll, a.has, a.from_is)
  asker-of s p (inr a) e = absurd (not-both a.poll s (sym a.to_is ∙ e))

  pub way-of : (n : NodeId) (number : ℕ) (r : MayTake fates (world_of h) n number) → IsWay b.lines r.sending.post
  way-of n number r = let p : (j : ℕ) × (number ≡ j + 1) × (slice_get h.sendings j ≡ Some r.sending) = number-place h.sendings number r.sending r.sent in
      every-place (λ (x : Sending). IsWay b.lines x.post) h.sendings p.0 r.sending c.sent p.2

  abbrev Owes : Member → Type 0
  Owes m = Every (ToPoll b.lines) m.owed

  took-members : (n : NodeId) (number : ℕ) (r : MayTake fates (world_of h) n number) (s : MemberNumber) → Owes (if same_node n (member s) then member_took (h.members s) (numbered h.sendings number) else h.members s)
  took-members n number r s = either-way Owes (same_node n (member s)) (member_took (h.members s) (numbered h.sendings number)) (h.members s)
      (λ e. subst (λ o. Owes (member_took (h.members s) o)) (sym r.sent)
      (every-append (ToPoll b.lines) (h.members s).owed (on_message (all_effects (h.members s)) (h.members s).moment r.sending.post.from r.sending.post.message).outs (c.members s)
      (message-ways b.lines r.sending.post.from (asker-of s r.sending.post (way-of n number r) (r.to ∙ same_is n (member s) e)) (all_effects (h.members s)) (h.members s).moment r.sending.post.message)))
      (λ _. c.members s)

  members-on : (e : Entry) → Rule b fates h e → is_quiet e ≡ true → h.last ≡ None → (s : MemberNumber) → Owes ((step b h e).members s)
  members-on (Take n number) r q l s = took-members n number r s
  members-on (Go n) r q l s = either-way Owes (same_node n (member s)) (h.members s) (h.members s) (λ _. c.members s) (λ _. c.members s)
  members-on (Learn n stamp committed) r q l s = absurd r
  members-on (Hear n) r q l s = no (sym (ap is_some l) ∙ r.some)
  members-on (Gate n) r q l s = either-way Owes (same_node n (member s)) (shut (h.members s)) (h.members s) (λ _. tt) (λ _. c.members s)
  members-on (Down n cause) r q l s = either-way Owes (same_node n (member s)) (h.members s) (h.members s) (λ _. c.members s) (λ _. c.members s)
  members-on _ r q l s = no q

  took-says : (p : PollState) (o : Option Sending) → Every ToMember (poll_took p o).outs
  took-says p None = tt
  took-says p (Some x) = takes-ways p x.post.from x.post.message

  polls-on : (e : Entry) → Rule b fates h e → is_quiet e ≡ true → h.last ≡ None → (i : ℕ) → Every ToMember ((step b h e).owed i)
  polls-on (Take n number) r q l i = either-way (Every ToMember) (same_node n (broker i)) (h.owed i ++ (poll_took (h.polls i) (numbered h.sendings number)).outs) (h.owed i)
      (λ _. every-append ToMember (h.owed i) (poll_took (h.polls i) (numbered h.sendings number)).outs (c.polls i) (took-says (h.polls i) (numbered h.sendings number))) (λ _. c.polls i)
  polls-on (Go n) r q l i = either-way (Every ToMember) (same_node n (broker i)) (h.owed i ++ poll_goes (h.polls i)) (h.owed i) (λ _. every-append ToMember (h.owed i) (poll_goes (h.polls i)) (c.polls i) (goes-ways (h.polls i))) (λ _. c.polls i)
  polls-on (Learn n stamp committed) r q l i = absurd r
  polls-on (Hear n) r q l i = no (sym (ap is_some l) ∙ r.some)
  polls-on (Gate n) r q l i = either-way (Every ToMember) (same_node n (broker i)) [] (h.owed i) (λ _. tt) (λ _. c.polls i)
  polls-on (Down n cause) r q l i = either-way (Every ToMember) (same_node n (broker i)) (h.owed i) (h.owed i) (λ _. c.polls i) (λ _. c.polls i)
  polls-on _ r q l i = no q

  ask-ways : (i ticks : ℕ) (outs : List Out) → HasLine b.lines i → Every ToMember outs → Every (λ (x : Sending). IsWay b.lines x.post) (sendings_of ticks (broker i) outs)
  ask-ways i ticks [] has h = tt
  ask-ways i ticks (o ∷ outs) has h = (inl (record { poll = i; member_is = h.0.0; has = has; from_is = refl; to_is = h.0.1 }), ask-ways i ticks outs has h.1)

  answer-ways : (n : NodeId) (s : MemberNumber) (ticks : ℕ) (outs : List Out) → n ≡ member s → Every (ToPoll b.lines) outs → Every (λ (x : Sending). IsWay b.lines x.post) (sendings_of ticks n outs)
  answer-ways n s ticks [] e h = tt
  answer-ways n s ticks (o ∷ outs) e h = (inr (record { poll = h.0.0; member_is = s; has = h.0.1; from_is = e; to_is = h.0.2 }), answer-ways n s ticks outs e h.1)

  sent-from : (k : NodeKind) (j : ℕ) → (h.flags (node k j)).up ≡ true → Every (λ (x : Sending). IsWay b.lines x.post) (sendings_of h.ticks (node k j) (life_of h k j).outs)
  sent-from kind.Repository j up = by-voter (voter_at j) refl
    where
      by-voter : (o : Option MemberNumber) → voter_at j ≡ o → Every (λ (x : Sending). IsWay b.lines x.post) (sendings_of h.ticks (repository j) (voter_life h o).outs)
      by-voter None e = tt
      by-voter (Some s) e = answer-ways (repository j) s h.ticks (h.members s).owed (voter-member (repository j) s e) (c.members s)
  sent-from kind.Broker j up = ask-ways j h.ticks (h.owed j) (c.lines j up) (c.polls j)

  sent-on : (e : Entry) → Rule b fates h e → is_quiet e ≡ true → Every (λ (x : Sending). IsWay b.lines x.post) (step b h e).sendings
  sent-on (Gate n) r q = every-append (λ (x : Sending). IsWay b.lines x.post) h.sendings (sendings_of h.ticks n (life_of h n.kind n.number).outs) c.sent (sent-from n.kind n.number r.up)
  sent-on (Crash n kept) r q = no q
  sent-on (Tick moment) r q = no q
  sent-on _ r q = c.sent

  lines-on : (e : Entry) (i : ℕ) → ((step b h e).flags (broker i)).up ≡ true → HasLine b.lines i
  lines-on e i = either-way (λ (f : Flags). f.up ≡ true → HasLine b.lines i) (names (broker i) e && (h.flags (broker i)).known) (flagged h.last kind.Broker (h.flags (broker i)) e) (h.flags (broker i))
      (λ _ up. c.lines i (flagged-up h.last kind.Broker (h.flags (broker i)) e up)) (λ _. c.lines i)

  pub step-ways : (e : Entry) → Rule b fates h e → is_quiet e ≡ true → h.last ≡ None → HallWays b (step b h e)
  step-ways e r q l = record { sent = sent-on e r q; polls = polls-on e r q l; members = members-on e r q l; lines = lines-on e }

-- ---- counting

-- so many messages go between poll i and the members
module _ (taken : List ℕ) where
  abbrev pub of-member : ℕ → List Sending → ℕ → MemberNumber → ℕ
  of-member k ss i s = length (marks (broker i) (member s) taken k ss) + length (marks (member s) (broker i) taken k ss)

  abbrev pub of-poll : ℕ → List Sending → ℕ → ℕ
  of-poll k ss i = of-member k ss i First + (of-member k ss i Second + of-member k ss i Third)

  abbrev pub of-polls : ℕ → List Sending → ℕ → ℕ
  of-polls k ss zero = 0
  of-polls k ss (suc n) = of-poll k ss (suc n) + of-polls k ss n

  more-marks : (from to : NodeId) (k : ℕ) (x : Sending) (ss : List Sending) → length (marks from to taken (suc k) ss) ≤ length (marks from to taken k (x ∷ ss))
  more-marks from to k x ss = elim (between from to x.post) as (λ t. length (marks from to taken (suc k) ss) ≤ length (marked t x.post.message (is_taken taken k) ++ marks from to taken (suc k) ss)) [ true ↦ omega arith | false ↦ omega arith ]

  one-more : (from to : NodeId) (k : ℕ) (x : Sending) (ss : List Sending) → between from to x.post ≡ true → length (marks from to taken k (x ∷ ss)) ≡ suc (length (marks from to taken (suc k) ss))
  one-more from to k x ss e = ap (λ t. length (marked t x.post.message (is_taken taken k) ++ marks from to taken (suc k) ss)) e

  more-of-member : (k : ℕ) (x : Sending) (ss : List Sending) (i : ℕ) (s : MemberNumber) → of-member (suc k) ss i s ≤ of-member k (x ∷ ss) i s
  more-of-member k x ss i s = omega (arith, more-marks (broker i) (member s) k x ss, more-marks (member s) (broker i) k x ss)

  more-of-poll : (k : ℕ) (x : Sending) (ss : List Sending) (i : ℕ) → of-poll (suc k) ss i ≤ of-poll k (x ∷ ss) i
  more-of-poll k x ss i = omega (arith, more-of-member k x ss i First, more-of-member k x ss i Second, more-of-member k x ss i Third)

  more-of-polls : (k : ℕ) (x : Sending) (ss : List Sending) (n : ℕ) → of-polls (suc k) ss n ≤ of-polls k (x ∷ ss) n
  more-of-polls k x ss zero = omega arith
  more-of-polls k x ss (suc n) = omega (arith, more-of-poll k x ss (suc n), more-of-polls k x ss n)

  abbrev Between : ℕ → MemberNumber → Post → Type 0
  Between i s p = (between (broker i) (member s) p ≡ true) ⊎ (between (member s) (broker i) p ≡ true)

  one-of-member : (k : ℕ) (x : Sending) (ss : List Sending) (i : ℕ) (s : MemberNumber) → Between i s x.post → suc (of-member (suc k) ss i s) ≤ of-member k (x ∷ ss) i s
  one-of-member k x ss i s (inl e) = omega (arith, one-more (broker i) (member s) k x ss e, more-marks (member s) (broker i) k x ss)
  one-of-member k x ss i s (inr e) = omega (arith, one-more (member s) (broker i) k x ss e, more-marks (broker i) (member s) k x ss)

  one-of-poll : (k : ℕ) (x : Sending) (ss : List Sending) (i : ℕ) (s : MemberNumber) → Between i s x.post → suc (of-poll (suc k) ss i) ≤ of-poll k (x ∷ ss) i
  one-of-poll k x ss i First e = omega (arith, one-of-member k x ss i First e, more-of-member k x ss i Second, more-of-member k x ss i Third)
  one-of-poll k x ss i Second e = omega (arith, more-of-member k x ss i First, one-of-member k x ss i Second e, more-of-member k x ss i Third)
  one-of-poll k x ss i Third e = omega (arith, more-of-member k x ss i First, more-of-member k x ss i Second, one-of-member k x ss i Third e)

  one-of-polls : (k : ℕ) (x : Sending) (ss : List Sending) (n i : ℕ) (s : MemberNumber) → 1 ≤ i → i ≤ n → Between i s x.post → suc (of-polls (suc k) ss n) ≤ of-polls k (x ∷ ss) n
  one-of-polls k x ss zero i s above most e = absurd (omega (arith, above, most))
  one-of-polls k x ss (suc n) i s above most e = go (i == suc n) refl (λ below. one-of-polls k x ss n i s above below e)
    where
      go : (t : Bool) → (i == suc n) ≡ t → (i ≤ n → suc (of-polls (suc k) ss n) ≤ of-polls k (x ∷ ss) n) → suc (of-polls (suc k) ss (suc n)) ≤ of-polls k (x ∷ ss) (suc n)
      go true is more = let q : i ≡ suc n = eqb-true i (suc n) is in
          omega (arith, one-of-poll k x ss (suc n) s (subst (λ j. Between j s x.post) q e), more-of-polls k x ss n)
      go false is more = let q : i ≤ n = omega (arith, most, eqb-false i (suc n) is) in let r : suc (of-polls (suc k) ss n) ≤ of-polls k (x ∷ ss) n = more q in omega (arith, more-of-poll k x ss (suc n), r)

  pub line-place : (lines : List Line) (i : ℕ) (l : Line) → numbered lines i ≡ Some l → (1 ≤ i) × (i ≤ length lines)
  line-place lines zero l e = absurd (cc e)
  line-place [] (suc i) l e = absurd (cc e)
  line-place (x ∷ lines) (suc zero) l e = (omega arith, omega arith)
  line-place (x ∷ lines) (suc (suc i)) l e = let k : (1 ≤ suc i) × (suc i ≤ length lines) = line-place lines (suc i) l e in (omega arith, omega (arith, k.1))

  ask-between : (lines : List Line) (p : Post) (a : IsAsk lines p) → between (broker a.poll) (member a.member_is) p ≡ true
  ask-between lines p a = ap (λ n. same_node n (broker a.poll) && same_node p.to (member a.member_is)) a.from_is ∙ ap (λ t. t && same_node p.to (member a.member_is)) (same_node-refl (broker a.poll))
      ∙ ap (λ n. same_node n (member a.member_is)) a.to_is ∙ same_node-refl (member a.member_is)

  answer-between : (lines : List Line) (p : Post) (a : IsAnswer lines p) → between (member a.member_is) (broker a.poll) p ≡ true
  answer-between lines p a = ap (λ n. same_node n (member a.member_is) && same_node p.to (broker a.poll)) a.from_is ∙ ap (λ t. t && same_node p.to (broker a.poll)) (same_node-refl (member a.member_is))
      ∙ ap (λ n. same_node n (broker a.poll)) a.to_is ∙ same_node-refl (broker a.poll)

  one-of-way : (lines : List Line) (k : ℕ) (x : Sending) (ss : List Sending) → IsWay lines x.post → suc (of-polls (suc k) ss (length lines)) ≤ of-polls k (x ∷ ss) (length lines)
  one-of-way lines k x ss (inl a) = let p : (1 ≤ a.poll) × (a.poll ≤ length lines) = line-place lines a.poll a.has.line a.has.there in
      one-of-polls k x ss (length lines) a.poll a.member_is p.0 p.1 (inl (ask-between lines x.post a))
  one-of-way lines k x ss (inr a) = let p : (1 ≤ a.poll) × (a.poll ≤ length lines) = line-place lines a.poll a.has.line a.has.there in
      one-of-polls k x ss (length lines) a.poll a.member_is p.0 p.1 (inr (answer-between lines x.post a))

  -- all messages are such
  pub counted : (lines : List Line) (k : ℕ) (ss : List Sending) → Every (λ (x : Sending). IsWay lines x.post) ss → length ss ≤ of-polls k ss (length lines)
  counted lines k [] h = omega arith
  counted lines k (x ∷ ss) h = omega (arith, one-of-way lines k x ss h.0, counted lines (suc k) ss h.1)

  -- at most two each way make twelve for each poll
  pub few-of-polls : (k : ℕ) (ss : List Sending) (n : ℕ)
      → ((i : ℕ) (s : MemberNumber) → 1 ≤ i → i ≤ n → (length (marks (broker i) (member s) taken k ss) ≤ 2) × (length (marks (member s) (broker i) taken k ss) ≤ 2)) → of-polls k ss n ≤ 12 * n
  few-of-polls k ss zero f = omega arith
  few-of-polls k ss (suc n) f =
      let a = f (suc n) First (omega arith) (omega arith) in
      let c = f (suc n) Second (omega arith) (omega arith) in
      let d = f (suc n) Third (omega arith) (omega arith) in
      omega (arith, a.0, a.1, c.0, c.1, d.0, d.1, few-of-polls k ss n (λ i s above most. f i s above (omega (arith, most))))
