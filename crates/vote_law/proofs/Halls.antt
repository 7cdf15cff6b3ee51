-- What polls and members have said at each place of a trace without a Crash and without a Tick, where each message has one copy.
use Rattle.vote_law.proofs.Names.{Every, every-append, repository, broker, is_broker, same_node, NodeId, NodeKind, Effect, Message, Out, count, numbered, same_is, Fate, RecordState, Unknown, Decided, StampParts, Decision, same_stamp, record_of, Ballot, MemberNumber, First, Second, Third, book, quiet, owed, begin_by, close_by, row, on_message, Given, number_of, member, voter_of, PollState, PollGiven, ballot, with_ballot, held, outstanding, asked, unless_held, begun_heard, vote_heard, heard_from, heard_by, ignored, poll_goes, poll_takes, Member, Line, all_effects, took, shut, voter-member, Entry, Take, Go, Learn, Hear, Gate, Crash, Down, Tick, MayTake, Flags, Sending, names, flagged, Base, Hall, world_of, member_took, poll_took, life_of, step, Rule, IsPlain, ◌≡◌, ℕ, zero, suc, ◌+◌, ◌<◌, Bool, true, false, List, [], ◌∷◌, ◌++◌, length, refl, sym, ap, subst, ◌∙◌, arith, Option, Some, None, ◌&&◌, is_some, min, slice_get, if◌then◌else◌, eqb-true, and_parts, and-false, append-nil, append_assoc, length-append, takes-hears, held-stays, MayGo, with_due}
use Rattle.pseudo_time.specs.declared.nodes.NodeKind.TheVariants as kind
use Rattle.pseudo_time.specs.declared.down_causes.DownCause.{DownCause}
use Rattle.message_form.specs.declared.messages.Message.TheVariants as message
use Rattle.vote_law.proofs.Letters.{Mark, marked, sendings_of, FreeFrom, other-number, waiting, waiting-append, Flips, flips-behind, between, marks, marks-append, own-marks, other-marks, passed-marks, flipped-marks}
use Rattle.vote_law.proofs.Talks.{Says, Talks, member-gives, poll-gives, talks-later, poll-holds-none, poll-went, with-says}

-- ---- small things

pub either-way : {X : Type 0} (P : X → Type 0) (t : Bool) (x y : X) → (t ≡ true → P x) → (t ≡ false → P y) → P (if t then x else y)
either-way P true x y f g = f refl
either-way P false x y f g = g refl

pub if-same : {X : Type 0} (t : Bool) (x : X) → (if t then x else x) ≡ x
if-same true x = refl
if-same false x = refl

pub no : {X : Type 0} → false ≡ true → X
no e = absurd (let q : false ≡ true = e in cc q)

-- ---- whom messages go to

-- a member answers who asked
row-to : (log : List Effect) (moment : ℕ) (from n : NodeId) (m : Message) → same_node from n ≡ false → waiting n (row log moment from m).outs ≡ []
row-to log moment from n m not-it = go m
  where
    one : (x : Message) → waiting n (owed from x) ≡ []
    one x = ap (λ t. marked t x false ++ []) not-it

    begin-to : (s : StampParts) (timeout : ℕ) (r : Option RecordState) → waiting n (begin_by moment from s timeout r).outs ≡ []
    begin-to s timeout None = one (message.Begun s)
    begin-to s timeout (Some (Unknown t)) = one (message.Begun s)
    begin-to s timeout (Some (Decided d)) = one (message.Decided s d)

    close-to : (s : StampParts) (d : Decision) (r : Option RecordState) → waiting n (close_by from s d r).outs ≡ []
    close-to s d None = refl
    close-to s d (Some (Unknown t)) = one (message.Decided s d)
    close-to s d (Some (Decided x)) = one (message.Decided s x)

    go : (x : Message) → waiting n (row log moment from x).outs ≡ []
    go (message.Begin s timeout) = begin-to s timeout (record_of (book log) s)
    go (message.Commit s) = close-to s _ (record_of (book log) s)
    go (message.Withdraw s) = close-to s _ (record_of (book log) s)
    go x = refl

if-none : (t : Bool) (n : NodeId) (g : Given) → waiting n g.outs ≡ [] → waiting n (if t then g else quiet).outs ≡ []
if-none true n g h = h
if-none false n g h = refl

message-to : (log : List Effect) (moment : ℕ) (from n : NodeId) (m : Message) → same_node from n ≡ false → waiting n (on_message log moment from m).outs ≡ []
unfolding on_message
message-to log moment from n m not-it = if-none (is_broker from.kind) n (row log moment from m) (row-to log moment from n m not-it)

-- a poll that hears one member says nothing to another, and keeps what it heard of it
ballot-kept : (p : PollState) (k s : MemberNumber) (b : Ballot) → same_node (member k) (member s) ≡ false → ballot (with_ballot p k b) s ≡ ballot p s
ballot-kept p First First b e = no (sym e)
ballot-kept p Second Second b e = no (sym e)
ballot-kept p _ First b e = refl
ballot-kept p _ Second b e = refl
ballot-kept p Third Third b e = no (sym e)
ballot-kept p _ Third b e = refl

module _ (p : PollState) (s : MemberNumber) where
  abbrev Passes : PollGiven → Type 0
  Passes g = (waiting (member s) g.outs ≡ []) × (ballot g.poll s ≡ ballot p s)

  unless-none : (t : Bool) (outs : List Out) → waiting (member s) outs ≡ [] → waiting (member s) (if t then [] else outs) ≡ []
  unless-none true outs h = refl
  unless-none false outs h = h

  module _ (k : MemberNumber) (other : same_node (member k) (member s) ≡ false) where
    asked-none : (begun : Bool) (v : Option Bool) → waiting (member s) (asked p k begun v) ≡ []
    asked-none begun (Some v) = refl
    asked-none begun None = ap (λ t. marked t (outstanding p begun) false ++ []) other

    begun-passes : (b : Ballot) → Passes (begun_heard p k b)
    begun-passes b = (unless-none b.begun (unless_held p (asked p k true b.vote)) (unless-none (is_some (held p)) (asked p k true b.vote) (asked-none true b.vote)), ballot-kept p k s _ other)

    vote-passes : (d : Decision) (b : Ballot) (v : Option Bool) → Passes (vote_heard p k d b v)
    vote-passes d b None = (refl, ballot-kept p k s _ other)
    vote-passes d b (Some v) = (refl, refl)

    if-passes : (t : Bool) (g : PollGiven) → Passes g → Passes (if t then g else ignored p)
    if-passes true g h = h
    if-passes false g h = (refl, refl)

    from-passes : (m : Message) → Passes (heard_from p k m)
    from-passes (message.Begun x) = if-passes (same_stamp x p.stamp) (begun_heard p k (ballot p k)) (begun-passes (ballot p k))
    from-passes (message.Decided x d) = if-passes (same_stamp x p.stamp) (vote_heard p k d (ballot p k) (ballot p k).vote) (vote-passes d (ballot p k) (ballot p k).vote)
    from-passes m = (refl, refl)

  by-passes : (from : NodeId) (m : Message) (o : Option MemberNumber) → voter_of from ≡ o → same_node from (member s) ≡ false → Passes (heard_by p o m)
  by-passes from m None e other = (refl, refl)
  by-passes from m (Some k) e other = from-passes k (ap (λ n. same_node n (member s)) (sym (voter-member from k e)) ∙ other) m

  takes-passes : (from : NodeId) (m : Message) → same_node from (member s) ≡ false → Passes (poll_takes p from m)
  unfolding poll_takes
  takes-passes from m other = by-passes from m (voter_of from) refl other

-- a poll stays the line's, and what it holds
module _ (p : PollState) (l : Line) (h : Says p l) where
  vote-says : (k : MemberNumber) (d : Decision) (b : Ballot) (v : Option Bool) → Says (vote_heard p k d b v).poll l
  vote-says k d b None = with-says p l k _ h
  vote-says k d b (Some v) = h

  if-says : (t : Bool) (g : PollGiven) → Says g.poll l → Says (if t then g else ignored p).poll l
  if-says true g k = k
  if-says false g k = h

  from-says : (k : MemberNumber) (m : Message) → Says (heard_from p k m).poll l
  from-says k (message.Begun x) = if-says (same_stamp x p.stamp) (begun_heard p k (ballot p k)) (with-says p l k _ h)
  from-says k (message.Decided x d) = if-says (same_stamp x p.stamp) (vote_heard p k d (ballot p k) (ballot p k).vote) (vote-says k d (ballot p k) (ballot p k).vote)
  from-says k m = h

  by-says : (o : Option MemberNumber) (m : Message) → Says (heard_by p o m).poll l
  by-says None m = h
  by-says (Some k) m = from-says k m

  takes-says : (from : NodeId) (m : Message) → Says (poll_takes p from m).poll l
  unfolding poll_takes
  takes-says from m = by-says (voter_of from) m

some-held : (p q : PollState) (o : Option Bool) → held p ≡ o → ((c : Bool) → held p ≡ Some c → held q ≡ Some c) → is_some (held p) ≡ true → is_some (held q) ≡ true
some-held p q None e f h = no (sym (ap is_some e) ∙ h)
some-held p q (Some c) e f h = ap is_some (f c e)

takes-holds : (p : PollState) (from : NodeId) (m : Message) → is_some (held p) ≡ true → is_some (held (poll_takes p from m).poll) ≡ true
takes-holds p from m h = some-held p (poll_takes p from m).poll (held p) refl (λ c e. held-stays p (poll_takes p from m).poll c (takes-hears from m p).stays e) h

-- ---- where all have come to

abbrev pub asks_of : Hall → ℕ → MemberNumber → List Mark
asks_of h i s = marks (broker i) (member s) h.taken 1 h.sendings ++ waiting (member s) (h.owed i)

abbrev pub answers_of : Hall → ℕ → MemberNumber → List Mark
answers_of h i s = marks (member s) (broker i) h.taken 1 h.sendings ++ waiting (broker i) (h.members s).owed

abbrev pub TalksAt : Hall → ℕ → Line → MemberNumber → Type 0
TalksAt h i l s = Talks l (asks_of h i s) (answers_of h i s) (ballot (h.polls i) s) (all_effects (h.members s)) (is_some (held (h.polls i))) (h.flags (broker i)).gone

-- a poll that was opened
pub record PollFacts (h : Hall) (i : ℕ) (l : Line) : Type 0 where
  pub says : Says (h.polls i) l
  pub up : (h.flags (broker i)).up ≡ true
  pub known : (h.flags (broker i)).known ≡ true
  pub talks : (s : MemberNumber) → TalksAt h i l s

-- ---- a copy is taken

pub number-place : (ss : List Sending) (number : ℕ) (x : Sending) → numbered ss number ≡ Some x → (j : ℕ) × (number ≡ j + 1) × (slice_get ss j ≡ Some x)
number-place ss zero x e = absurd (cc e)
number-place ss (suc j) x e = (j, omega arith, e)

pub plain-at : (fates : List Fate) (j : ℕ) (f : Fate) → Every IsPlain fates → slice_get fates j ≡ Some f → IsPlain f
plain-at [] j f h e = absurd (cc e)
plain-at (x ∷ fates) zero f h e = subst IsPlain (let k : x ≡ f = cc e in k) h.0
plain-at (x ∷ fates) (suc j) f h e = plain-at fates j f h.1 e

pub plain-of : (fates : List Fate) (number : ℕ) (f : Fate) → Every IsPlain fates → numbered fates number ≡ Some f → IsPlain f
plain-of fates zero f h e = absurd (cc e)
plain-of fates (suc j) f h e = plain-at fates j f h e

no-copy-yet : (n : ℕ) (f : Fate) → IsPlain f → n < min f.copies 3 → n ≡ 0
no-copy-yet n f p less = let k : n < min 1 3 = subst (λ c. n < min c 3) p.0 less in omega (arith, k)

module _ (b : Base) (h : Hall) (number : ℕ) (x : Sending) (sent : numbered h.sendings number ≡ Some x) (free : count number h.taken ≡ 0) where
  abbrev later : List ℕ
  later = number ∷ h.taken

  -- letters between others stay as they are
  pub same-marks : (from to : NodeId) → between from to x.post ≡ false → marks from to later 1 h.sendings ≡ marks from to h.taken 1 h.sendings
  same-marks from to not-it = let p : (j : ℕ) × (number ≡ j + 1) × (slice_get h.sendings j ≡ Some x) = number-place h.sendings number x sent in
      passed-marks from to h.taken 1 p.0 number h.sendings x p.1 p.2 not-it

  pub these-flip : (from to : NodeId) → between from to x.post ≡ true → Flips (marks from to h.taken 1 h.sendings) (marks from to later 1 h.sendings) x.post.message
  these-flip from to it = let p : (j : ℕ) × (number ≡ j + 1) × (slice_get h.sendings j ≡ Some x) = number-place h.sendings number x sent in
      flipped-marks from to h.taken 1 p.0 number h.sendings x p.1 p.2 it free

  not-from : (from to : NodeId) → same_node x.post.from from ≡ false → between from to x.post ≡ false
  not-from from to e = ap (λ t. t && same_node x.post.to to) e

  pub not-to : (from to : NodeId) → same_node x.post.to to ≡ false → between from to x.post ≡ false
  not-to from to e = ap (λ t. same_node x.post.from from && t) e ∙ and-false (same_node x.post.from from)

  pub it-is : (from to : NodeId) → same_node x.post.from from ≡ true → same_node x.post.to to ≡ true → between from to x.post ≡ true
  it-is from to e f = ap (λ t. t && same_node x.post.to to) e ∙ f

  -- a member takes it
  module _ (i : ℕ) (l : Line) (s : MemberNumber) (old : TalksAt h i l s) where
    abbrev With : List Mark → Member → Type 0
    With asks m = Talks l asks (marks (member s) (broker i) later 1 h.sendings ++ waiting (broker i) m.owed) (ballot (h.polls i) s) (all_effects m) (is_some (held (h.polls i))) (h.flags (broker i)).gone

    abbrev gave : Given
    gave = on_message (all_effects (h.members s)) (h.members s).moment x.post.from x.post.message

    -- its turn, as a hall keeps it
    as-took : (asks : List Mark) → marks (member s) (broker i) later 1 h.sendings ≡ marks (member s) (broker i) h.taken 1 h.sendings
        → Talks l asks (answers_of h i s ++ waiting (broker i) gave.outs) (ballot (h.polls i) s) (all_effects (h.members s) ++ gave.effects) (is_some (held (h.polls i))) (h.flags (broker i)).gone
        → With asks (took (h.members s) x.post.from x.post.message)
    as-took asks same t =
        let answers : answers_of h i s ++ waiting (broker i) gave.outs ≡ marks (member s) (broker i) later 1 h.sendings ++ waiting (broker i) ((h.members s).owed ++ gave.outs) =
        append_assoc (marks (member s) (broker i) h.taken 1 h.sendings) (waiting (broker i) (h.members s).owed) (waiting (broker i) gave.outs)
        ∙ ap (λ z. z ++ (waiting (broker i) (h.members s).owed ++ waiting (broker i) gave.outs)) (sym same)
        ∙ ap (λ z. marks (member s) (broker i) later 1 h.sendings ++ z) (sym (waiting-append (broker i) (h.members s).owed gave.outs)) in
        let log : all_effects (h.members s) ++ gave.effects ≡ (h.members s).gated ++ ((h.members s).fresh ++ gave.effects) = append_assoc (h.members s).gated (h.members s).fresh gave.effects in
        subst (λ z. Talks l asks z (ballot (h.polls i) s) ((h.members s).gated ++ ((h.members s).fresh ++ gave.effects)) (is_some (held (h.polls i))) (h.flags (broker i)).gone) answers
        (subst (λ z. Talks l asks (answers_of h i s ++ waiting (broker i) gave.outs) (ballot (h.polls i) s) z (is_some (held (h.polls i))) (h.flags (broker i)).gone) log t)

    abbrev asks-later : List Mark
    asks-later = marks (broker i) (member s) later 1 h.sendings ++ waiting (member s) (h.owed i)

    mine-took : same_node x.post.to (member s) ≡ true → (u : Bool) → same_node x.post.from (broker i) ≡ u → same_node x.post.to (broker i) ≡ false → With asks-later (took (h.members s) x.post.from x.post.message)
    mine-took to-me true from-it not-back =
        as-took asks-later (same-marks (member s) (broker i) (not-to (member s) (broker i) not-back))
        (subst (λ n. Talks l asks-later (answers_of h i s ++ waiting (broker i) (on_message (all_effects (h.members s)) (h.members s).moment n x.post.message).outs) (ballot (h.polls i) s)
        (all_effects (h.members s) ++ (on_message (all_effects (h.members s)) (h.members s).moment n x.post.message).effects) (is_some (held (h.polls i))) (h.flags (broker i)).gone)
        (sym (same_is x.post.from (broker i) from-it))
        (member-gives l i (h.members s).moment (ballot (h.polls i) s) (all_effects (h.members s)) (is_some (held (h.polls i))) (asks_of h i s) asks-later (answers_of h i s) (h.flags (broker i)).gone x.post.message
        (flips-behind (marks (broker i) (member s) h.taken 1 h.sendings) (marks (broker i) (member s) later 1 h.sendings) (waiting (member s) (h.owed i)) x.post.message
        (these-flip (broker i) (member s) (it-is (broker i) (member s) from-it to-me))) old))
    mine-took to-me false from-other not-back =
        let asks-same : asks_of h i s ≡ asks-later = ap (λ z. z ++ waiting (member s) (h.owed i)) (sym (same-marks (broker i) (member s) (not-from (broker i) (member s) from-other))) in
        let nothing : answers_of h i s ≡ answers_of h i s ++ waiting (broker i) gave.outs =
        sym (ap (λ z. answers_of h i s ++ z) (message-to (all_effects (h.members s)) (h.members s).moment x.post.from (broker i) x.post.message from-other) ∙ append-nil (answers_of h i s)) in
        as-took asks-later (same-marks (member s) (broker i) (not-to (member s) (broker i) not-back))
        (subst (λ z. Talks l z (answers_of h i s ++ waiting (broker i) gave.outs) (ballot (h.polls i) s) (all_effects (h.members s) ++ gave.effects) (is_some (held (h.polls i))) (h.flags (broker i)).gone) asks-same
        (subst (λ z. Talks l (asks_of h i s) z (ballot (h.polls i) s) (all_effects (h.members s) ++ gave.effects) (is_some (held (h.polls i))) (h.flags (broker i)).gone) nothing
        (talks-later l (asks_of h i s) (answers_of h i s) (ballot (h.polls i) s) (all_effects (h.members s)) gave.effects (is_some (held (h.polls i))) (is_some (held (h.polls i))) (h.flags (broker i)).gone (λ e. e) old)))

    others-took : same_node x.post.to (member s) ≡ false → same_node x.post.to (broker i) ≡ false → With asks-later (h.members s)
    others-took not-me not-back =
        subst (λ z. Talks l z (marks (member s) (broker i) later 1 h.sendings ++ waiting (broker i) (h.members s).owed) (ballot (h.polls i) s) (all_effects (h.members s)) (is_some (held (h.polls i))) (h.flags (broker i)).gone)
        (ap (λ z. z ++ waiting (member s) (h.owed i)) (sym (same-marks (broker i) (member s) (not-to (broker i) (member s) not-me))))
        (subst (λ z. Talks l (asks_of h i s) (z ++ waiting (broker i) (h.members s).owed) (ballot (h.polls i) s) (all_effects (h.members s)) (is_some (held (h.polls i))) (h.flags (broker i)).gone)
        (sym (same-marks (member s) (broker i) (not-to (member s) (broker i) not-back))) old)

  -- ---- a poll takes it

  module _ (i : ℕ) (l : Line) (says : Says (h.polls i) l) (s : MemberNumber) (old : TalksAt h i l s) where
    abbrev WithPoll : List Mark → PollState → List Out → Type 0
    WithPoll answers p outs = Talks l (marks (broker i) (member s) later 1 h.sendings ++ waiting (member s) outs) answers (ballot p s) (all_effects (h.members s)) (is_some (held p)) (h.flags (broker i)).gone

    abbrev said : PollGiven
    said = poll_takes (h.polls i) x.post.from x.post.message

    abbrev answers-later : List Mark
    answers-later = marks (member s) (broker i) later 1 h.sendings ++ waiting (broker i) (h.members s).owed

    as-said : marks (broker i) (member s) later 1 h.sendings ≡ marks (broker i) (member s) h.taken 1 h.sendings
        → Talks l (asks_of h i s ++ waiting (member s) said.outs) answers-later (ballot said.poll s) (all_effects (h.members s)) (is_some (held said.poll)) (h.flags (broker i)).gone
        → WithPoll answers-later said.poll (h.owed i ++ said.outs)
    as-said same t = subst (λ z. Talks l z answers-later (ballot said.poll s) (all_effects (h.members s)) (is_some (held said.poll)) (h.flags (broker i)).gone)
        (append_assoc (marks (broker i) (member s) h.taken 1 h.sendings) (waiting (member s) (h.owed i)) (waiting (member s) said.outs)
        ∙ ap (λ z. z ++ (waiting (member s) (h.owed i) ++ waiting (member s) said.outs)) (sym same)
        ∙ ap (λ z. marks (broker i) (member s) later 1 h.sendings ++ z) (sym (waiting-append (member s) (h.owed i) said.outs))) t

    poll-took : same_node x.post.to (broker i) ≡ true → same_node x.post.to (member s) ≡ false → (u : Bool) → same_node x.post.from (member s) ≡ u → WithPoll answers-later said.poll (h.owed i ++ said.outs)
    poll-took to-me not-back true from-it =
        as-said (same-marks (broker i) (member s) (not-to (broker i) (member s) not-back))
        (subst (λ n. Talks l (asks_of h i s ++ waiting (member s) (poll_takes (h.polls i) n x.post.message).outs) answers-later (ballot (poll_takes (h.polls i) n x.post.message).poll s) (all_effects (h.members s))
        (is_some (held (poll_takes (h.polls i) n x.post.message).poll)) (h.flags (broker i)).gone)
        (sym (same_is x.post.from (member s) from-it))
        (poll-gives l s (all_effects (h.members s)) (h.polls i) (asks_of h i s) (answers_of h i s) answers-later (is_some (held (h.polls i))) (h.flags (broker i)).gone x.post.message says
        (flips-behind (marks (member s) (broker i) h.taken 1 h.sendings) (marks (member s) (broker i) later 1 h.sendings) (waiting (broker i) (h.members s).owed) x.post.message
        (these-flip (member s) (broker i) (it-is (member s) (broker i) from-it to-me))) old))
    poll-took to-me not-back false from-other =
        let answers-same : answers_of h i s ≡ answers-later = ap (λ z. z ++ waiting (broker i) (h.members s).owed) (sym (same-marks (member s) (broker i) (not-from (member s) (broker i) from-other))) in
        let p : Passes (h.polls i) s said = takes-passes (h.polls i) s x.post.from x.post.message from-other in
        let nothing : asks_of h i s ≡ asks_of h i s ++ waiting (member s) said.outs = sym (ap (λ z. asks_of h i s ++ z) p.0 ∙ append-nil (asks_of h i s)) in
        as-said (same-marks (broker i) (member s) (not-to (broker i) (member s) not-back))
        (subst (λ z. Talks l z answers-later (ballot said.poll s) (all_effects (h.members s)) (is_some (held said.poll)) (h.flags (broker i)).gone) nothing
        (subst (λ z. Talks l (asks_of h i s) z (ballot said.poll s) (all_effects (h.members s)) (is_some (held said.poll)) (h.flags (broker i)).gone) answers-same
        (subst (λ z. Talks l (asks_of h i s) (answers_of h i s) z (all_effects (h.members s)) (is_some (held said.poll)) (h.flags (broker i)).gone) (sym p.1)
        (subst (λ z. Talks l (asks_of h i s) (answers_of h i s) (ballot (h.polls i) s) z (is_some (held said.poll)) (h.flags (broker i)).gone) (append-nil (all_effects (h.members s)))
        (talks-later l (asks_of h i s) (answers_of h i s) (ballot (h.polls i) s) (all_effects (h.members s)) [] (is_some (held (h.polls i))) (is_some (held said.poll)) (h.flags (broker i)).gone
        (takes-holds (h.polls i) x.post.from x.post.message) old)))))

    others-said : same_node x.post.to (broker i) ≡ false → same_node x.post.to (member s) ≡ false → WithPoll answers-later (h.polls i) (h.owed i)
    others-said not-me not-back =
        subst (λ z. Talks l (z ++ waiting (member s) (h.owed i)) answers-later (ballot (h.polls i) s) (all_effects (h.members s)) (is_some (held (h.polls i))) (h.flags (broker i)).gone)
        (sym (same-marks (broker i) (member s) (not-to (broker i) (member s) not-back)))
        (subst (λ z. Talks l (asks_of h i s) (z ++ waiting (broker i) (h.members s).owed) (ballot (h.polls i) s) (all_effects (h.members s)) (is_some (held (h.polls i))) (h.flags (broker i)).gone)
        (sym (same-marks (member s) (broker i) (not-to (member s) (broker i) not-me))) old)

-- ---- flags

gone-taken : (t : Bool) (f : Flags) → (if t then with_due f else f).gone ≡ f.gone
gone-taken true f = refl
gone-taken false f = refl

abbrev pub node : NodeKind → ℕ → NodeId
node k j = record { kind = k; number = j }

-- what both are, by one test
both-ways : {X Y : Type 0} (P : X → Y → Type 0) (t : Bool) (x u : X) (y v : Y) → (t ≡ true → P x y) → (t ≡ false → P u v) → P (if t then x else u) (if t then y else v)
both-ways P true x u y v f g = f refl
both-ways P false x u y v f g = g refl

module _ (b : Base) (h : Hall) where
  -- ---- the facts of a poll after each kind of entry

  module _ (j number i : ℕ) (l : Line) (x : Sending) (sent : numbered h.sendings number ≡ Some x) (to : x.post.to ≡ repository j) (free : count number h.taken ≡ 0) (f : PollFacts h i l) where
    not-back-m : same_node x.post.to (broker i) ≡ false
    not-back-m = ap (λ n. same_node n (broker i)) to

    here-m : (s : MemberNumber) → same_node x.post.to (member s) ≡ same_node (repository j) (member s)
    here-m s = ap (λ n. same_node n (member s)) to

    abbrev NowM : MemberNumber → Member → Type 0
    NowM s m = With b h number x sent free i l s (f.talks s) (asks-later b h number x sent free i l s (f.talks s)) m

    member-talks : (s : MemberNumber) → TalksAt (step b h (Take (repository j) number)) i l s
    member-talks s = either-way (NowM s) (same_node (repository j) (member s)) (member_took (h.members s) (numbered h.sendings number)) (h.members s)
        (λ e. subst (λ o. NowM s (member_took (h.members s) o)) (sym sent) (mine-took b h number x sent free i l s (f.talks s) (here-m s ∙ e) (same_node x.post.from (broker i)) refl not-back-m))
        (λ e. others-took b h number x sent free i l s (f.talks s) (here-m s ∙ e) not-back-m)

    member-taking : PollFacts (step b h (Take (repository j) number)) i l
    member-taking = record { says = f.says; up = f.up; known = f.known; talks = member-talks }

  module _ (j number i : ℕ) (l : Line) (x : Sending) (sent : numbered h.sendings number ≡ Some x) (to : x.post.to ≡ broker j) (free : count number h.taken ≡ 0) (f : PollFacts h i l) where
    abbrev mine-p : Bool
    mine-p = same_node (broker j) (broker i)

    abbrev p-p : PollState
    p-p = h.polls i

    abbrev said-now : PollGiven
    said-now = poll_takes (h.polls i) x.post.from x.post.message

    not-member : (s : MemberNumber) → same_node x.post.to (member s) ≡ false
    not-member s = ap (λ n. same_node n (member s)) to

    here-p : same_node x.post.to (broker i) ≡ mine-p
    here-p = ap (λ n. same_node n (broker i)) to

    abbrev NowP : MemberNumber → PollState → List Out → Type 0
    NowP s q outs = WithPoll b h number x sent free i l f.says s (f.talks s) (answers-later b h number x sent free i l f.says s (f.talks s)) q outs

    poll-talks : (s : MemberNumber) → TalksAt (step b h (Take (broker j) number)) i l s
    poll-talks s =
        subst (λ g. Talks l (marks (broker i) (member s) (number ∷ h.taken) 1 h.sendings ++ waiting (member s) (if mine-p then h.owed i ++ (poll_took p-p (numbered h.sendings number)).outs else h.owed i))
        (answers-later b h number x sent free i l f.says s (f.talks s)) (ballot (if mine-p then (poll_took p-p (numbered h.sendings number)).poll else p-p) s) (all_effects (h.members s))
        (is_some (held (if mine-p then (poll_took p-p (numbered h.sendings number)).poll else p-p))) g)
        (sym (gone-taken (mine-p && (h.flags (broker i)).known) (h.flags (broker i))))
        (subst (λ o. NowP s (if mine-p then (poll_took p-p o).poll else p-p) (if mine-p then h.owed i ++ (poll_took p-p o).outs else h.owed i)) (sym sent)
        (both-ways (NowP s) mine-p said-now.poll p-p (h.owed i ++ said-now.outs) (h.owed i)
        (λ e. poll-took b h number x sent free i l f.says s (f.talks s) (here-p ∙ e) (not-member s) (same_node x.post.from (member s)) refl)
        (λ e. others-said b h number x sent free i l f.says s (f.talks s) (here-p ∙ e) (not-member s))))

    poll-taking : PollFacts (step b h (Take (broker j) number)) i l
    poll-taking = record {
      says = subst (λ o. Says (if mine-p then (poll_took p-p o).poll else p-p) l) (sym sent) (either-way (λ q. Says q l) mine-p said-now.poll p-p (λ _. takes-says p-p l f.says x.post.from x.post.message) (λ _. f.says));
      up = either-way (λ (z : Flags). z.up ≡ true) (mine-p && (h.flags (broker i)).known) (with_due (h.flags (broker i))) (h.flags (broker i)) (λ _. f.up) (λ _. f.up);
      known = either-way (λ (z : Flags). z.known ≡ true) (mine-p && (h.flags (broker i)).known) (with_due (h.flags (broker i))) (h.flags (broker i)) (λ _. f.known) (λ _. f.known);
      talks = poll-talks;
    }

  -- ---- a poll goes

  module _ (j i : ℕ) (l : Line) (fresh : (h.flags (broker j)).gone ≡ false) (f : PollFacts h i l) where
    abbrev mine-g : Bool
    mine-g = same_node (broker j) (broker i)

    abbrev p-g : PollState
    p-g = h.polls i

    abbrev went-flags : Flags
    went-flags = record { known = (h.flags (broker i)).known; up = (h.flags (broker i)).up; gone = true; due = true }

    abbrev asks-now : MemberNumber → Bool → List Mark
    asks-now s t = marks (broker i) (member s) h.taken 1 h.sendings ++ waiting (member s) (if t then h.owed i ++ poll_goes p-g else h.owed i)

    abbrev gone-now : Bool → Bool
    gone-now t = (if t && (h.flags (broker i)).known then went-flags else h.flags (broker i)).gone

    abbrev NowG : MemberNumber → List Mark → Bool → Type 0
    NowG s asks gone = Talks l asks (answers_of h i s) (ballot p-g s) (all_effects (h.members s)) (is_some (held p-g)) gone

    not-gone : mine-g ≡ true → (h.flags (broker i)).gone ≡ false
    not-gone e = subst (λ n. (h.flags n).gone ≡ false) (same_is (broker j) (broker i) e) fresh

    gone-talks : (s : MemberNumber) (t : Bool) → mine-g ≡ t → NowG s (asks-now s t) (gone-now t)
    gone-talks s true e =
        let was : (k : MemberNumber) → NowG k (asks_of h i k) false = (λ k. subst (λ g. NowG k (asks_of h i k) g) (not-gone e) (f.talks k)) in
        let none : held p-g ≡ None = poll-holds-none l p-g (asks_of h i) (answers_of h i) (λ k. all_effects (h.members k)) (is_some (held p-g)) was in
        let went : NowG s (asks_of h i s ++ waiting (member s) (poll_goes p-g)) true = poll-went l p-g s (asks_of h i s) (answers_of h i s) (all_effects (h.members s)) (is_some (held p-g)) f.says none (was s) in
        let asks : asks_of h i s ++ waiting (member s) (poll_goes p-g) ≡ asks-now s true =
        append_assoc (marks (broker i) (member s) h.taken 1 h.sendings) (waiting (member s) (h.owed i)) (waiting (member s) (poll_goes p-g))
        ∙ ap (λ z. marks (broker i) (member s) h.taken 1 h.sendings ++ z) (sym (waiting-append (member s) (h.owed i) (poll_goes p-g))) in
        subst (λ g. NowG s (asks-now s true) (if g then went-flags else h.flags (broker i)).gone) (sym f.known) (subst (λ z. NowG s z true) asks went)
    gone-talks s false e = f.talks s

    going : PollFacts (step b h (Go (broker j))) i l
    going = record {
      says = subst (λ q. Says q l) (sym (if-same mine-g p-g)) f.says;
      up = either-way (λ (z : Flags). z.up ≡ true) (mine-g && (h.flags (broker i)).known) went-flags (h.flags (broker i)) (λ _. f.up) (λ _. f.up);
      known = either-way (λ (z : Flags). z.known ≡ true) (mine-g && (h.flags (broker i)).known) went-flags (h.flags (broker i)) (λ _. f.known) (λ _. f.known);
      talks = λ s. subst (λ q. Talks l (asks-now s mine-g) (answers_of h i s) (ballot q s) (all_effects (h.members s)) (is_some (held q)) (gone-now mine-g)) (sym (if-same mine-g p-g)) (gone-talks s mine-g refl);
    }

  -- ---- a node's gate

  gate-letters : (from to : NodeId) (taken : List ℕ) (ss : List Sending) (ticks : ℕ) (n : NodeId) (outs own : List Out) (t : Bool) → same_node n from ≡ t → (t ≡ true → outs ≡ own) → FreeFrom taken (1 + length ss)
      → marks from to taken 1 (ss ++ sendings_of ticks n outs) ++ waiting to (if t then [] else own) ≡ marks from to taken 1 ss ++ waiting to own
  gate-letters from to taken ss ticks n outs own true e f free =
      append-nil (marks from to taken 1 (ss ++ sendings_of ticks n outs)) ∙ marks-append from to taken 1 ss (sendings_of ticks n outs)
      ∙ ap (λ z. marks from to taken 1 ss ++ z) (own-marks from to taken (1 + length ss) ticks n outs e free ∙ ap (waiting to) (f refl))
  gate-letters from to taken ss ticks n outs own false e f free =
      ap (λ z. z ++ waiting to own) (marks-append from to taken 1 ss (sendings_of ticks n outs) ∙ ap (λ z. marks from to taken 1 ss ++ z) (other-marks from to taken (1 + length ss) ticks n outs e) ∙ append-nil (marks from to taken 1 ss))

  shut-owed : (t : Bool) (m : Member) → (if t then shut m else m).owed ≡ (if t then [] else m.owed)
  shut-owed true m = refl
  shut-owed false m = refl

  pub shut-log : (t : Bool) (m : Member) → all_effects m ≡ all_effects (if t then shut m else m)
  shut-log true m = sym (append-nil (all_effects m))
  shut-log false m = refl

  poll-outs : (n : NodeId) (i : ℕ) → same_node n (broker i) ≡ true → (life_of h n.kind n.number).outs ≡ h.owed i
  poll-outs n i e = ap (λ (z : NodeId). (life_of h z.kind z.number).outs) (same_is n (broker i) e)

  own-life : (s : MemberNumber) → (life_of h kind.Repository (number_of s)).outs ≡ (h.members s).owed
  own-life First = refl
  own-life _ = refl

  member-outs : (n : NodeId) (s : MemberNumber) → same_node n (member s) ≡ true → (life_of h n.kind n.number).outs ≡ (h.members s).owed
  member-outs n s e = ap (λ (z : NodeId). (life_of h z.kind z.number).outs) (same_is n (member s) e) ∙ own-life s

  module _ (n : NodeId) (i : ℕ) (l : Line) (free : FreeFrom h.taken (1 + length h.sendings)) (f : PollFacts h i l) where
    abbrev mine-t : Bool
    mine-t = same_node n (broker i)

    abbrev p-t : PollState
    p-t = h.polls i

    abbrev gated-flags : Flags
    gated-flags = record { known = (h.flags (broker i)).known; up = (h.flags (broker i)).up; gone = (h.flags (broker i)).gone; due = false }

    abbrev all : List Sending
    all = h.sendings ++ sendings_of h.ticks n (life_of h n.kind n.number).outs

    gone-same : (t : Bool) → (h.flags (broker i)).gone ≡ (if t then gated-flags else h.flags (broker i)).gone
    gone-same true = refl
    gone-same false = refl

    gated-talks : (s : MemberNumber) → TalksAt (step b h (Gate n)) i l s
    gated-talks s =
        let u : Bool = same_node n (member s) in
        let asks : marks (broker i) (member s) h.taken 1 all ++ waiting (member s) (if mine-t then [] else h.owed i) ≡ asks_of h i s =
        gate-letters (broker i) (member s) h.taken h.sendings h.ticks n (life_of h n.kind n.number).outs (h.owed i) mine-t refl (poll-outs n i) free in
        let answers : marks (member s) (broker i) h.taken 1 all ++ waiting (broker i) (if u then shut (h.members s) else h.members s).owed ≡ answers_of h i s =
        ap (λ z. marks (member s) (broker i) h.taken 1 all ++ waiting (broker i) z) (shut-owed u (h.members s))
        ∙ gate-letters (member s) (broker i) h.taken h.sendings h.ticks n (life_of h n.kind n.number).outs (h.members s).owed u refl (member-outs n s) free in
        subst (λ g. Talks l (marks (broker i) (member s) h.taken 1 all ++ waiting (member s) (if mine-t then [] else h.owed i)) (marks (member s) (broker i) h.taken 1 all ++ waiting (broker i) (if u then shut (h.members s) else h.members s).owed)
        (ballot (if mine-t then p-t else p-t) s) (all_effects (if u then shut (h.members s) else h.members s)) (is_some (held (if mine-t then p-t else p-t))) g) (gone-same (mine-t && (h.flags (broker i)).known))
        (subst (λ q. Talks l (marks (broker i) (member s) h.taken 1 all ++ waiting (member s) (if mine-t then [] else h.owed i)) (marks (member s) (broker i) h.taken 1 all ++ waiting (broker i) (if u then shut (h.members s) else h.members s).owed)
        (ballot q s) (all_effects (if u then shut (h.members s) else h.members s)) (is_some (held q)) (h.flags (broker i)).gone) (sym (if-same mine-t p-t))
        (subst (λ z. Talks l z (marks (member s) (broker i) h.taken 1 all ++ waiting (broker i) (if u then shut (h.members s) else h.members s).owed)
        (ballot p-t s) (all_effects (if u then shut (h.members s) else h.members s)) (is_some (held p-t)) (h.flags (broker i)).gone) (sym asks)
        (subst (λ z. Talks l (asks_of h i s) z (ballot p-t s) (all_effects (if u then shut (h.members s) else h.members s)) (is_some (held p-t)) (h.flags (broker i)).gone) (sym answers)
        (subst (λ z. Talks l (asks_of h i s) (answers_of h i s) (ballot p-t s) z (is_some (held p-t)) (h.flags (broker i)).gone) (shut-log u (h.members s)) (f.talks s)))))

    gating : PollFacts (step b h (Gate n)) i l
    gating = record {
      says = subst (λ q. Says q l) (sym (if-same mine-t p-t)) f.says;
      up = either-way (λ (z : Flags). z.up ≡ true) (mine-t && (h.flags (broker i)).known) gated-flags (h.flags (broker i)) (λ _. f.up) (λ _. f.up);
      known = either-way (λ (z : Flags). z.known ≡ true) (mine-t && (h.flags (broker i)).known) gated-flags (h.flags (broker i)) (λ _. f.known) (λ _. f.known);
      talks = gated-talks;
    }

  -- ---- a member goes down

  falling : (j : ℕ) (cause : DownCause) (i : ℕ) (l : Line) → PollFacts h i l → PollFacts (step b h (Down (repository j) cause)) i l
  falling j cause i l f = record {
    says = f.says;
    up = f.up;
    known = f.known;
    talks = λ s. subst (λ (m : Member). Talks l (asks_of h i s) (marks (member s) (broker i) h.taken 1 h.sendings ++ waiting (broker i) m.owed) (ballot (h.polls i) s) (all_effects m) (is_some (held (h.polls i))) (h.flags (broker i)).gone)
        (sym (if-same (same_node (repository j) (member s)) (h.members s))) (f.talks s);
  }

-- ---- the whole hall

-- an entry of a calm trace
abbrev pub is_quiet : Entry → Bool
is_quiet (Crash n kept) = false
is_quiet (Tick moment) = false
is_quiet _ = true

pub record HallFacts (b : Base) (h : Hall) : Type 0 where
  pub polls : (i : ℕ) (l : Line) → numbered b.lines i ≡ Some l → PollFacts h i l
  -- no number is taken that wasn't sent
  pub free : FreeFrom h.taken (1 + length h.sendings)
  pub known : (n : NodeId) → (h.flags n).up ≡ true → (h.flags n).known ≡ true
  -- a node that has nothing to close owes nothing
  pub polls_closed : (i : ℕ) → (h.flags (broker i)).due ≡ false → h.owed i ≡ []
  pub members_closed : (s : MemberNumber) → (h.flags (member s)).due ≡ false → (h.members s).owed ≡ []
  -- no time has passed
  pub last : h.last ≡ None
  pub ticks : h.ticks ≡ 0
  pub early : Every (λ (x : Sending). x.ticks ≡ 0) h.sendings

module _ (b : Base) (h : Hall) (c : HallFacts b h) (fates : List Fate) (plain : Every IsPlain fates) where
  pub untaken : (n : NodeId) (number : ℕ) → MayTake fates (world_of h) n number → count number h.taken ≡ 0
  untaken n number r = no-copy-yet (count number h.taken) r.fate (plain-of fates number r.fate plain r.fated) r.fewer

  -- ---- polls

  took-polls : (k : NodeKind) (j number : ℕ) (r : MayTake fates (world_of h) (node k j) number) (i : ℕ) (l : Line) → PollFacts h i l → PollFacts (step b h (Take (node k j) number)) i l
  took-polls kind.Repository j number r i l f = member-taking b h j number i l r.sending r.sent r.to (untaken (repository j) number r) f
  took-polls kind.Broker j number r i l f = poll-taking b h j number i l r.sending r.sent r.to (untaken (broker j) number r) f

  went-polls : (k : NodeKind) (j : ℕ) (r : MayGo (world_of h) (node k j)) (i : ℕ) (l : Line) → PollFacts h i l → PollFacts (step b h (Go (node k j))) i l
  went-polls kind.Repository j r i l f = no r.broker
  went-polls kind.Broker j r i l f = going b h j i l r.fresh f

  fell-polls : (k : NodeKind) (j : ℕ) (cause : DownCause) → is_broker k ≡ false → (i : ℕ) (l : Line) → PollFacts h i l → PollFacts (step b h (Down (node k j) cause)) i l
  fell-polls kind.Repository j cause e i l f = falling b h j cause i l f
  fell-polls kind.Broker j cause e i l f = no (sym e)

  not-heard : (n : NodeId) → is_some h.last ≡ true → ⊥
  not-heard n e = no (sym (ap is_some c.last) ∙ e)

  polls-on : (e : Entry) → Rule b fates h e → is_quiet e ≡ true → (i : ℕ) (l : Line) → PollFacts h i l → PollFacts (step b h e) i l
  polls-on (Take n number) r q i l f = took-polls n.kind n.number number r i l f
  polls-on (Go n) r q i l f = went-polls n.kind n.number r i l f
  polls-on (Learn n stamp committed) r q i l f = absurd r
  polls-on (Hear n) r q i l f = absurd (not-heard n r.some)
  polls-on (Gate n) r q i l f = gating b h n i l c.free f
  polls-on (Down n cause) r q i l f = fell-polls n.kind n.number cause r.0 i l f
  polls-on _ r q i l f = no q

  -- ---- numbers

  within-list : {X : Type 0} (xs : List X) (j : ℕ) (x : X) → slice_get xs j ≡ Some x → j < length xs
  within-list [] j x e = absurd (cc e)
  within-list (y ∷ xs) zero x e = omega arith
  within-list (y ∷ xs) (suc j) x e = let k : j < length xs = within-list xs j x e in omega (arith, k)

  took-free : (n : NodeId) (number : ℕ) → MayTake fates (world_of h) n number → FreeFrom (number ∷ h.taken) (1 + length h.sendings)
  took-free n number r j above =
      let p : (k : ℕ) × (number ≡ k + 1) × (slice_get h.sendings k ≡ Some r.sending) = number-place h.sendings number r.sending r.sent in
      other-number number j (λ e. (let is : number ≡ j = eqb-true number j e in absurd (omega (arith, is, p.1, within-list h.sendings p.0 r.sending p.2, above)))) h.taken ∙ c.free j above

  gated-free : (n : NodeId) → FreeFrom h.taken (1 + length (h.sendings ++ sendings_of h.ticks n (life_of h n.kind n.number).outs))
  gated-free n j above = c.free j (omega (arith, above, length-append h.sendings (sendings_of h.ticks n (life_of h n.kind n.number).outs)))

  free-on : (e : Entry) → Rule b fates h e → is_quiet e ≡ true → FreeFrom (step b h e).taken (1 + length (step b h e).sendings)
  free-on (Take n number) r q = took-free n number r
  free-on (Learn n stamp committed) r q = absurd r
  free-on (Gate n) r q = gated-free n
  free-on (Crash n kept) r q = no q
  free-on (Tick moment) r q = no q
  free-on _ r q = c.free

  early-sendings : (ticks : ℕ) (n : NodeId) (outs : List Out) → ticks ≡ 0 → Every (λ (x : Sending). x.ticks ≡ 0) (sendings_of ticks n outs)
  early-sendings ticks n [] e = tt
  early-sendings ticks n (o ∷ outs) e = (e, early-sendings ticks n outs e)

  early-on : (e : Entry) → is_quiet e ≡ true → Every (λ (x : Sending). x.ticks ≡ 0) (step b h e).sendings
  early-on (Gate n) q = every-append (λ (x : Sending). x.ticks ≡ 0) h.sendings (sendings_of h.ticks n (life_of h n.kind n.number).outs) c.early (early-sendings h.ticks n (life_of h n.kind n.number).outs c.ticks)
  early-on (Crash n kept) q = no q
  early-on (Tick moment) q = no q
  early-on _ q = c.early

  -- ---- flags

  known-flagged : (k : NodeKind) (f : Flags) (e : Entry) → (flagged h.last k f e).known ≡ f.known
  known-flagged kind.Repository f (Go n) = refl
  known-flagged kind.Broker f (Go n) = refl
  known-flagged kind.Repository f (Learn n stamp committed) = refl
  known-flagged kind.Broker f (Learn n stamp committed) = refl
  known-flagged k f (Hear n) = elim h.last as (λ last. (flagged last k f (Hear n)).known ≡ f.known) [ None ↦ refl | Some t ↦ refl ]
  known-flagged k f _ = refl

  known-on : (e : Entry) (n : NodeId) → ((step b h e).flags n).up ≡ true → ((step b h e).flags n).known ≡ true
  known-on e n = either-way (λ (f : Flags). f.up ≡ true → f.known ≡ true) (names n e && (h.flags n).known) (flagged h.last n.kind (h.flags n) e) (h.flags n)
      (λ is up. known-flagged n.kind (h.flags n) e ∙ (and_parts (names n e) (h.flags n).known is).1) (λ is. c.known n)

  -- what a node owes, and whether it has something to close, after an entry of its own or of another's
  closed-both : (own : Bool) (f after : Flags) (now old : List Out) → (own ≡ true → f.known ≡ true) → (after.due ≡ false → now ≡ []) → (f.due ≡ false → old ≡ [])
      → (if own && f.known then after else f).due ≡ false → (if own then now else old) ≡ []
  closed-both true f after now old known a o due = a (subst (λ t. (if t then after else f).due ≡ false) (known refl) due)
  closed-both false f after now old known a o due = o due

  closed-same : (own : Bool) (f after : Flags) (old : List Out) → after.due ≡ f.due → (f.due ≡ false → old ≡ []) → (if own && f.known then after else f).due ≡ false → old ≡ []
  closed-same true f after old same o due = (elim f.known as (λ t. f.known ≡ t → (if t then after else f).due ≡ false → old ≡ []) [ true ↦ λ e d. o (sym same ∙ d) | false ↦ λ e d. o d ]) refl due
  closed-same false f after old same o due = o due

  no-due : {X : Type 0} → true ≡ false → X
  no-due e = absurd (let q : true ≡ false = e in cc q)

  polls-closed-on : (e : Entry) → Rule b fates h e → is_quiet e ≡ true → (i : ℕ) → ((step b h e).flags (broker i)).due ≡ false → (step b h e).owed i ≡ []
  polls-closed-on (Take n number) r q i = closed-both (same_node n (broker i)) (h.flags (broker i)) (with_due (h.flags (broker i))) (h.owed i ++ (poll_took (h.polls i) (numbered h.sendings number)).outs) (h.owed i)
      (λ e. c.known (broker i) (subst (λ z. (h.flags z).up ≡ true) (same_is n (broker i) e) r.up)) no-due (c.polls_closed i)
  polls-closed-on (Go n) r q i = closed-both (same_node n (broker i)) (h.flags (broker i)) (record { known = (h.flags (broker i)).known; up = (h.flags (broker i)).up; gone = true; due = true }) (h.owed i ++ poll_goes (h.polls i)) (h.owed i)
      (λ e. c.known (broker i) (subst (λ z. (h.flags z).up ≡ true) (same_is n (broker i) e) r.up)) no-due (c.polls_closed i)
  polls-closed-on (Learn n stamp committed) r q i = absurd r
  polls-closed-on (Hear n) r q i = absurd (not-heard n r.some)
  polls-closed-on (Gate n) r q i = closed-both (same_node n (broker i)) (h.flags (broker i)) (record { known = (h.flags (broker i)).known; up = (h.flags (broker i)).up; gone = (h.flags (broker i)).gone; due = false }) [] (h.owed i)
      (λ e. c.known (broker i) (subst (λ z. (h.flags z).up ≡ true) (same_is n (broker i) e) r.up)) (λ _. refl) (c.polls_closed i)
  polls-closed-on (Down n cause) r q i = fell n.kind n.number r.0
    where
      fell : (k : NodeKind) (j : ℕ) → is_broker k ≡ false → ((step b h (Down (node k j) cause)).flags (broker i)).due ≡ false → (step b h (Down (node k j) cause)).owed i ≡ []
      fell kind.Repository j e = c.polls_closed i
      fell kind.Broker j e = no (sym e)
  polls-closed-on _ r q i = no q

  abbrev Closed : Member → Type 0
  Closed m = m.owed ≡ []

  owed-if : (t : Bool) (x y : Member) → (if t then x.owed else y.owed) ≡ [] → (if t then x else y).owed ≡ []
  owed-if true x y e = e
  owed-if false x y e = e

  members-closed-on : (e : Entry) → Rule b fates h e → is_quiet e ≡ true → (s : MemberNumber) → ((step b h e).flags (member s)).due ≡ false → ((step b h e).members s).owed ≡ []
  members-closed-on (Take n number) r q s due = owed-if (same_node n (member s)) (member_took (h.members s) (numbered h.sendings number)) (h.members s)
      (closed-both (same_node n (member s)) (h.flags (member s)) (with_due (h.flags (member s))) (member_took (h.members s) (numbered h.sendings number)).owed (h.members s).owed
      (λ e. c.known (member s) (subst (λ z. (h.flags z).up ≡ true) (same_is n (member s) e) r.up)) no-due (c.members_closed s) due)
  members-closed-on (Go n) r q s due = went n.kind n.number r.broker due
    where
      went : (k : NodeKind) (j : ℕ) → is_broker k ≡ true → ((step b h (Go (node k j))).flags (member s)).due ≡ false → ((step b h (Go (node k j))).members s).owed ≡ []
      went kind.Repository j e due = no e
      went kind.Broker j e due = c.members_closed s due
  members-closed-on (Learn n stamp committed) r q s due = absurd r
  members-closed-on (Hear n) r q s due = absurd (not-heard n r.some)
  members-closed-on (Gate n) r q s due = owed-if (same_node n (member s)) (shut (h.members s)) (h.members s)
      (closed-both (same_node n (member s)) (h.flags (member s)) (record { known = (h.flags (member s)).known; up = (h.flags (member s)).up; gone = (h.flags (member s)).gone; due = false }) [] (h.members s).owed
      (λ e. c.known (member s) (subst (λ z. (h.flags z).up ≡ true) (same_is n (member s) e) r.up)) (λ _. refl) (c.members_closed s) due)
  members-closed-on (Down n cause) r q s due = ap (λ (m : Member). m.owed) (if-same (same_node n (member s)) (h.members s))
      ∙ closed-same (same_node n (member s)) (h.flags (member s)) (record { known = (h.flags (member s)).known; up = false; gone = (h.flags (member s)).gone; due = (h.flags (member s)).due }) (h.members s).owed refl (c.members_closed s) due
  members-closed-on _ r q s due = no q

  last-on : (e : Entry) → is_quiet e ≡ true → (step b h e).last ≡ None
  last-on (Crash n kept) q = no q
  last-on (Tick moment) q = no q
  last-on _ q = c.last

  ticks-on : (e : Entry) → is_quiet e ≡ true → (step b h e).ticks ≡ 0
  ticks-on (Crash n kept) q = no q
  ticks-on (Tick moment) q = no q
  ticks-on _ q = c.ticks

  pub step-facts : (e : Entry) → Rule b fates h e → is_quiet e ≡ true → HallFacts b (step b h e)
  step-facts e r q = record {
    polls = λ i l there. polls-on e r q i l (c.polls i l there);
    free = free-on e r q;
    known = known-on e;
    polls_closed = polls-closed-on e r q;
    members_closed = members-closed-on e r q;
    last = last-on e q;
    ticks = ticks-on e q;
    early = early-on e q;
  }
