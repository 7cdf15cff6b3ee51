-- What a poll and a member say to each other, where each message has one copy, nothing is said twice and the member doesn't crash.
use Rattle.vote_law.proofs.Names.{Every, broker, same_node, same_stamp, StampParts, Decision, NodeId, Effect, Message, Out, same_node-refl, RecordState, Unknown, Decided, is_commit, record_of, Wish, Ballot, MemberNumber, First, Second, Third, book, owed, begin_by, close_by, row, on_message, Given, member, voter_of, PollState, PollGiven, ballot, with_ballot, held, held_of, to_member, outstanding, asked, unless_held, begin_to, begun_heard, vote_heard, heard_from, heard_by, ignored, poll_goes, poll_takes, Line, ◌≡◌, ℕ, ◌+◌, ◌≤◌, Bool, true, false, List, [], ◌∷◌, ◌++◌, length, inl, inr, refl, sym, ap, subst, ◌∙◌, arith, Option, Some, None, ◌⊎◌, is_some, if◌then◌else◌, append-nil, first_begin, decision_of, record_from, wish_for, begin-stays}
use Rattle.pseudo_time.proofs.OrderLemmas.{same_stamp-self, same_stamp-of}
use Rattle.pseudo_time.specs.declared.decisions.Decision.TheVariants as decision
use Rattle.effect_form.specs.declared.effects.Effect.TheVariants as effect
use Rattle.message_form.specs.declared.messages.Message.TheVariants as message
use Rattle.object_history.specs.History.{or_else}
use Rattle.record_votes.specs.declared.ballots.Wish.TheVariants as wish
use Rattle.record_votes.proofs.BookLemmas.{book-begin}
use Rattle.vote_law.proofs.Letters.{Mark, marked, waiting, Flips}

-- ---- how far a poll and a member have come

pub data Stage : Type 0 where
  -- the poll hasn't gone
  Silent : Stage
  -- the member's Begun or Decided is next
  BeginSent : Stage
  BegunSaid : Stage
  EarlyVoted : Decision → Stage
  EarlyHeard : Decision → Stage
  -- the poll held a decision when it heard Begun
  Passed : Stage
  WishSent : Stage
  Voted : Decision → Stage
  Heard : Decision → Stage

abbrev pub has_gone : Stage → Bool
has_gone Silent = false
has_gone _ = true

-- its wish may still come to the member
abbrev pub may_wish : Stage → Bool
may_wish BegunSaid = true
may_wish WishSent = true
may_wish _ = false

abbrev pub is_passed : Stage → Bool
is_passed Passed = true
is_passed _ = false

abbrev pub ballot_at : Stage → Ballot
ballot_at (EarlyHeard d) = record { begun = false; vote = Some (is_commit d) }
ballot_at Passed = record { begun = true; vote = None }
ballot_at WishSent = record { begun = true; vote = None }
ballot_at (Voted d) = record { begun = true; vote = None }
ballot_at (Heard d) = record { begun = true; vote = Some (is_commit d) }
ballot_at _ = record { begun = false; vote = None }

abbrev pub begin_of : Line → Message
begin_of l = message.Begin l.stamp l.timeout

abbrev pub wish_of : Line → Message
wish_of l = wish_for l.wish l.stamp

-- what the poll said to the member, and what of that was taken
abbrev pub asks_at : Line → Stage → List Mark
asks_at l Silent = []
asks_at l BeginSent = (begin_of l, false) ∷ []
asks_at l WishSent = (begin_of l, true) ∷ (wish_of l, false) ∷ []
asks_at l (Voted d) = (begin_of l, true) ∷ (wish_of l, true) ∷ []
asks_at l (Heard d) = (begin_of l, true) ∷ (wish_of l, true) ∷ []
asks_at l _ = (begin_of l, true) ∷ []

-- and the member to the poll
abbrev pub answers_at : Line → Stage → List Mark
answers_at l BegunSaid = (message.Begun l.stamp, false) ∷ []
answers_at l (EarlyVoted d) = (message.Decided l.stamp d, false) ∷ []
answers_at l (EarlyHeard d) = (message.Decided l.stamp d, true) ∷ []
answers_at l Passed = (message.Begun l.stamp, true) ∷ []
answers_at l WishSent = (message.Begun l.stamp, true) ∷ []
answers_at l (Voted d) = (message.Begun l.stamp, true) ∷ (message.Decided l.stamp d, false) ∷ []
answers_at l (Heard d) = (message.Begun l.stamp, true) ∷ (message.Decided l.stamp d, true) ∷ []
answers_at l _ = []

abbrev pub HasBegun : List Effect → StampParts → Type 0
HasBegun log s = (t : ℕ) × (first_begin (book log) s ≡ Some t)

-- They have come so far, where this was said, the poll has this ballot of the member and holds a decision or not, and the member has this log.
pub record Talk (l : Line) (asks answers : List Mark) (b : Ballot) (log : List Effect) (holds : Bool) (stage : Stage) : Type 0 where
  pub asks_are : asks ≡ asks_at l stage
  pub answers_are : answers ≡ answers_at l stage
  pub ballot_is : b ≡ ballot_at stage
  pub begun : may_wish stage ≡ true → HasBegun log l.stamp
  pub passed : is_passed stage ≡ true → holds ≡ true

-- somewhere, and the poll has gone or not as before
pub record Talks (l : Line) (asks answers : List Mark) (b : Ballot) (log : List Effect) (holds gone : Bool) : Type 0 where
  pub stage : Stage
  pub talk : Talk l asks answers b log holds stage
  pub went : gone ≡ has_gone stage

-- ---- lists of one and of two

no-mark : (front back : List Mark) (x : Mark) → [] ≡ front ++ x ∷ back → ⊥
no-mark [] back x e = cc e
no-mark (y ∷ front) back x e = cc e

untrue : true ≡ false → ⊥
untrue e = cc e

-- of one message the one that wasn't taken is it
one-flip : (a m : Message) (t : Bool) (front back : List Mark) → (a, t) ∷ [] ≡ front ++ (m, false) ∷ back → (a ≡ m) × (t ≡ false) × (front ++ (m, true) ∷ back ≡ (a, true) ∷ [])
one-flip a m t [] back e =
    let both : (a, t) ≡ (m, false) = cc e in
    let is : a ≡ m = ap (λ (z : Mark). z.0) both in
    let flag : t ≡ false = ap (λ (z : Mark). z.1) both in
    let none : [] ≡ back = cc e in
    (is, flag, ap (λ l. (m, true) ∷ l) (sym none) ∙ ap (λ z. (z, true) ∷ []) (sym is))
one-flip a m t (x ∷ front) back e = let none : [] ≡ front ++ (m, false) ∷ back = cc e in absurd (no-mark front back (m, false) none)

-- of two, the first of which was taken, it is the second
two-flip : (a c m : Message) (t : Bool) (front back : List Mark) → (a, true) ∷ (c, t) ∷ [] ≡ front ++ (m, false) ∷ back
    → (c ≡ m) × (t ≡ false) × (front ++ (m, true) ∷ back ≡ (a, true) ∷ (c, true) ∷ [])
two-flip a c m t [] back e = let both : (a, true) ≡ (m, false) = cc e in absurd (untrue (ap (λ (z : Mark). z.1) both))
two-flip a c m t (x ∷ front) back e =
    let head : (a, true) ≡ x = cc e in
    let tail : (c, t) ∷ [] ≡ front ++ (m, false) ∷ back = cc e in
    let r : (c ≡ m) × (t ≡ false) × (front ++ (m, true) ∷ back ≡ (c, true) ∷ []) = one-flip c m t front back tail in
    (r.0, r.1, ap (λ l. x ∷ l) r.2 ∙ ap (λ z. z ∷ (c, true) ∷ []) (sym head))

-- ---- the member's turn

marked-same : (t : Bool) (m : Message) → t ≡ true → marked t m false ++ [] ≡ (m, false) ∷ []
marked-same true m e = refl
marked-same false m e = absurd (let q : false ≡ true = e in cc q)

-- a message to a node waits for it
one-waiting : (n : NodeId) (m : Message) → waiting n (owed n m) ≡ (m, false) ∷ []
one-waiting n m = marked-same (same_node n n) m (same_node-refl n)

else-some : (o : Option ℕ) (d : ℕ) → (t : ℕ) × (or_else o d ≡ Some t)
else-some None d = (d, refl)
else-some (Some t) d = (t, refl)

said-some : (t : Bool) (o : Option ℕ) (d : ℕ) → t ≡ true → (k : ℕ) × ((if t then or_else o d else o) ≡ Some k)
said-some true o d e = else-some o d
said-some false o d e = absurd (let q : false ≡ true = e in cc q)

-- a Begin begins it
begins : (log : List Effect) (s : StampParts) (d : ℕ) → HasBegun (log ++ effect.Begin s d ∷ []) s
unfolding first_begin
begins log s d = subst (λ z. (t : ℕ) × (first_begin z s ≡ Some t)) (sym (book-begin log s d)) (said-some (same_stamp s s) (first_begin (book log) s) d (same_stamp-self s))

pub begun-later : (log more : List Effect) (s : StampParts) → HasBegun log s → HasBegun (log ++ more) s
begun-later log more s h = (h.0, begin-stays log more s h.0 h.1)

from-begun : (o : Option ℕ) (d : Option Decision) (r : RecordState) → record_from o d ≡ Some r → (t : ℕ) × (o ≡ Some t)
from-begun None d r e = absurd (cc e)
from-begun (Some t) d r e = (t, refl)

record-begun : (log : List Effect) (s : StampParts) (r : RecordState) → record_of (book log) s ≡ Some r → HasBegun log s
record-begun log s r e = from-begun (first_begin (book log) s) (decision_of (book log) s) r e

module _ (l : Line) (n : NodeId) (moment : ℕ) (b : Ballot) (holds : Bool) where
  -- what comes of the member's answer
  abbrev Answered : List Mark → List Effect → Given → List Mark → Type 0
  Answered asks log g answers = Talks l asks (answers ++ waiting n g.outs) b (log ++ g.effects) holds true

  begin-answered : (log : List Effect) (r : Option RecordState) → record_of (book log) l.stamp ≡ r → b ≡ ballot_at BeginSent
      → Answered ((begin_of l, true) ∷ []) log (begin_by moment n l.stamp l.timeout r) []
  begin-answered log None e is = record {
    stage = BegunSaid;
    talk = record { asks_are = refl; answers_are = one-waiting n (message.Begun l.stamp); ballot_is = is; begun = λ _. begins log l.stamp (moment + l.timeout); passed = λ e. absurd (let q : false ≡ true = e in cc q) };
    went = refl;
  }
  begin-answered log (Some (Unknown t)) e is = record {
    stage = BegunSaid;
    talk = record { asks_are = refl; answers_are = one-waiting n (message.Begun l.stamp); ballot_is = is; begun = λ _. begun-later log [] l.stamp (record-begun log l.stamp (Unknown t) e); passed = λ e. absurd (let q : false ≡ true = e in cc q) };
    went = refl;
  }
  begin-answered log (Some (Decided d)) e is = record {
    stage = EarlyVoted d;
    talk = record { asks_are = refl; answers_are = one-waiting n (message.Decided l.stamp d); ballot_is = is; begun = λ e. absurd (let q : false ≡ true = e in cc q); passed = λ e. absurd (let q : false ≡ true = e in cc q) };
    went = refl;
  }

  abbrev said-begun : List Mark
  said-begun = (message.Begun l.stamp, true) ∷ []

  voted : (log : List Effect) (d : Decision) → b ≡ ballot_at WishSent → Talks l ((begin_of l, true) ∷ (wish_of l, true) ∷ []) (said-begun ++ waiting n (owed n (message.Decided l.stamp d))) b log holds true
  voted log d is = record {
    stage = Voted d;
    talk = record { asks_are = refl; answers_are = ap (λ z. said-begun ++ z) (one-waiting n (message.Decided l.stamp d)); ballot_is = is; begun = λ e. absurd (let q : false ≡ true = e in cc q); passed = λ e. absurd (let q : false ≡ true = e in cc q) };
    went = refl;
  }

  close-answered : (log : List Effect) (d : Decision) (o : Option ℕ) (x : Option Decision) (t : ℕ) → o ≡ Some t → b ≡ ballot_at WishSent
      → Answered ((begin_of l, true) ∷ (wish_of l, true) ∷ []) log (close_by n l.stamp d (record_from o x)) said-begun
  close-answered log d None x t e is = absurd (cc e)
  close-answered log d (Some t) None u e is = voted (log ++ effect.Decide l.stamp d ∷ []) d is
  close-answered log d (Some t) (Some x) u e is = voted (log ++ []) x is

-- no copy of it was left to take
none-left : (a m : Message) (front back : List Mark) → (a, true) ∷ [] ≡ front ++ (m, false) ∷ back → ⊥
none-left a m front back e = untrue (one-flip a m true front back e).1

none-left-of-two : (a c m : Message) (front back : List Mark) → (a, true) ∷ (c, true) ∷ [] ≡ front ++ (m, false) ∷ back → ⊥
none-left-of-two a c m front back e = untrue (two-flip a c m true front back e).1

row-of-wish : (l : Line) (n : NodeId) (moment : ℕ) (log : List Effect) (w : Wish) → (d : Decision) × (row log moment n (wish_for w l.stamp) ≡ close_by n l.stamp d (record_of (book log) l.stamp))
row-of-wish l n moment log wish.Commit = (decision.Committed, refl)
row-of-wish l n moment log wish.Withdraw = (decision.Withdrawn, refl)

-- The member takes what the poll said.
module _ (l : Line) (i moment : ℕ) (b : Ballot) (log : List Effect) (holds : Bool) where
  abbrev Gave : List Mark → List Mark → Message → Type 0
  Gave new answers m = Talks l new (answers ++ waiting (broker i) (on_message log moment (broker i) m).outs) b (log ++ (on_message log moment (broker i) m).effects) holds true

  begin-gives : (m : Message) → begin_of l ≡ m → b ≡ ballot_at BeginSent → Gave ((begin_of l, true) ∷ []) [] m
  unfolding on_message
  begin-gives m is ballot = subst (λ z. Gave ((begin_of l, true) ∷ []) [] z) is (begin-answered l (broker i) moment b holds log (record_of (book log) l.stamp) refl ballot)

  wish-gives : (m : Message) → wish_of l ≡ m → b ≡ ballot_at WishSent → HasBegun log l.stamp → Gave ((begin_of l, true) ∷ (wish_of l, true) ∷ []) ((message.Begun l.stamp, true) ∷ []) m
  unfolding on_message
  wish-gives m is ballot begun =
      let r : (d : Decision) × (row log moment (broker i) (wish_of l) ≡ close_by (broker i) l.stamp d (record_of (book log) l.stamp)) = row-of-wish l (broker i) moment log l.wish in
      let both : List Mark = (begin_of l, true) ∷ (wish_of l, true) ∷ [] in
      let said : List Mark = (message.Begun l.stamp, true) ∷ [] in
      subst (λ z. Gave both said z) is
      (subst (λ (g : Given). Talks l both (said ++ waiting (broker i) g.outs) b (log ++ g.effects) holds true) (sym r.1)
      (close-answered l (broker i) moment b holds log r.0 (first_begin (book log) l.stamp) (decision_of (book log) l.stamp) begun.0 begun.1 ballot))

  gives-at : (stage : Stage) (front back answers : List Mark) (m : Message) → asks_at l stage ≡ front ++ (m, false) ∷ back → answers ≡ answers_at l stage → b ≡ ballot_at stage
      → (may_wish stage ≡ true → HasBegun log l.stamp) → Gave (front ++ (m, true) ∷ back) answers m × (has_gone stage ≡ true)
  gives-at Silent front back answers m e a is begun = absurd (no-mark front back (m, false) e)
  gives-at BeginSent front back answers m e a is begun =
      let f : (begin_of l ≡ m) × (false ≡ false) × (front ++ (m, true) ∷ back ≡ (begin_of l, true) ∷ []) = one-flip (begin_of l) m false front back e in
      (subst (λ x. Gave x answers m) (sym f.2) (subst (λ x. Gave ((begin_of l, true) ∷ []) x m) (sym a) (begin-gives m f.0 is)), refl)
  gives-at WishSent front back answers m e a is begun =
      let f : (wish_of l ≡ m) × (false ≡ false) × (front ++ (m, true) ∷ back ≡ (begin_of l, true) ∷ (wish_of l, true) ∷ []) = two-flip (begin_of l) (wish_of l) m false front back e in
      (subst (λ x. Gave x answers m) (sym f.2) (subst (λ x. Gave ((begin_of l, true) ∷ (wish_of l, true) ∷ []) x m) (sym a) (wish-gives m f.0 is (begun refl))), refl)
  gives-at (Voted d) front back answers m e a is begun = absurd (none-left-of-two (begin_of l) (wish_of l) m front back e)
  gives-at (Heard d) front back answers m e a is begun = absurd (none-left-of-two (begin_of l) (wish_of l) m front back e)
  gives-at _ front back answers m e a is begun = absurd (none-left (begin_of l) m front back e)

  pub member-gives : (asks new answers : List Mark) (gone : Bool) (m : Message) → Flips asks new m → Talks l asks answers b log holds gone
      → Talks l new (answers ++ waiting (broker i) (on_message log moment (broker i) m).outs) b (log ++ (on_message log moment (broker i) m).effects) holds gone
  member-gives asks new answers gone m f t =
      let g : Gave (f.front ++ (m, true) ∷ f.back) answers m × (has_gone t.stage ≡ true) =
      gives-at t.stage f.front f.back answers m (sym t.talk.asks_are ∙ f.was) t.talk.answers_are t.talk.ballot_is t.talk.begun in
      subst (λ x. Talks l x (answers ++ waiting (broker i) (on_message log moment (broker i) m).outs) b (log ++ (on_message log moment (broker i) m).effects) holds gone) (sym f.is)
      (subst (λ x. Talks l (f.front ++ (m, true) ∷ f.back) (answers ++ waiting (broker i) (on_message log moment (broker i) m).outs) b (log ++ (on_message log moment (broker i) m).effects) holds x) (sym (t.went ∙ g.1)) g.0)

-- ---- the poll's turn

-- the poll is the line's
pub record Says (p : PollState) (l : Line) : Type 0 where
  pub stamp : p.stamp ≡ l.stamp
  pub timeout : p.timeout ≡ l.timeout
  pub wish : p.wish ≡ l.wish

pub with-says : (p : PollState) (l : Line) (s : MemberNumber) (b : Ballot) → Says p l → Says (with_ballot p s b) l
with-says p l First b h = record { stamp = h.stamp; timeout = h.timeout; wish = h.wish }
with-says p l _ b h = record { stamp = h.stamp; timeout = h.timeout; wish = h.wish }

with-own : (p : PollState) (s : MemberNumber) (b : Ballot) → ballot (with_ballot p s b) s ≡ b
with-own p First b = refl
with-own p _ b = refl

voter-own : (s : MemberNumber) → voter_of (member s) ≡ Some s
voter-own First = refl
voter-own _ = refl

-- hearing Begun changes no vote
begun-holds : (p : PollState) (s : MemberNumber) → held (begun_heard p s (ballot p s)).poll ≡ held p
begun-holds p First = refl
begun-holds p _ = refl

module _ (l : Line) (s : MemberNumber) (log : List Effect) where
  -- what comes of what the poll heard
  abbrev Took : PollState → List Mark → List Mark → Message → Type 0
  Took p asks new m = Talks l (asks ++ waiting (member s) (poll_takes p (member s) m).outs) new (ballot (poll_takes p (member s) m).poll s) log (is_some (held (poll_takes p (member s) m).poll)) true

  abbrev TookSo : PollGiven → List Mark → List Mark → Type 0
  TookSo g asks new = Talks l (asks ++ waiting (member s) g.outs) new (ballot g.poll s) log (is_some (held g.poll)) true

  wish-said : (p : PollState) → Says p l → waiting (member s) (to_member s (outstanding p true)) ≡ (wish_of l, false) ∷ []
  wish-said p h = one-waiting (member s) (outstanding p true) ∙ ap (λ w. (wish_for w p.stamp, false) ∷ []) h.wish ∙ ap (λ x. (wish_for l.wish x, false) ∷ []) h.stamp

  begun-took : (p : PollState) (holds : Bool) → Says p l → ballot p s ≡ ballot_at BegunSaid → HasBegun log l.stamp → is_some (held p) ≡ holds
      → TookSo (begun_heard p s (ballot p s)) ((begin_of l, true) ∷ []) ((message.Begun l.stamp, true) ∷ [])
  begun-took p holds h is begun e = subst (λ (z : List Out). Talks l ((begin_of l, true) ∷ waiting (member s) z) ((message.Begun l.stamp, true) ∷ []) (ballot (begun_heard p s (ballot p s)).poll s) log (is_some (held (begun_heard p s (ballot p s)).poll)) true)
      (sym outs) (go holds e)
    where
      outs : (begun_heard p s (ballot p s)).outs ≡ (if is_some (held p) then [] else to_member s (outstanding p true))
      outs = ap (λ (z : Ballot). if z.begun then [] else unless_held p (asked p s true z.vote)) is

      ballot-is : ballot (begun_heard p s (ballot p s)).poll s ≡ record { begun = true; vote = None }
      ballot-is = with-own p s (record (ballot p s) { begun = true }) ∙ ap (λ (z : Ballot). let r : Ballot = record z { begun = true } in r) is

      go : (t : Bool) → is_some (held p) ≡ t
          → Talks l ((begin_of l, true) ∷ waiting (member s) (if is_some (held p) then [] else to_member s (outstanding p true))) ((message.Begun l.stamp, true) ∷ []) (ballot (begun_heard p s (ballot p s)).poll s) log
          (is_some (held (begun_heard p s (ballot p s)).poll)) true
      go true k = record {
        stage = Passed;
        talk = record {
          asks_are = ap (λ t. (begin_of l, true) ∷ waiting (member s) (if t then [] else to_member s (outstanding p true))) k;
          answers_are = refl;
          ballot_is = ballot-is;
          begun = λ e. absurd (let q : false ≡ true = e in cc q);
          passed = λ _. (ap is_some (begun-holds p s)) ∙ k;
        };
        went = refl;
      }
      go false k = record {
        stage = WishSent;
        talk = record {
          asks_are = ap (λ t. (begin_of l, true) ∷ waiting (member s) (if t then [] else to_member s (outstanding p true))) k ∙ ap (λ z. (begin_of l, true) ∷ z) (wish-said p h);
          answers_are = refl;
          ballot_is = ballot-is;
          begun = λ _. begun;
          passed = λ e. absurd (let q : false ≡ true = e in cc q);
        };
        went = refl;
      }

  -- the vote of a ballot that had none
  vote-took : (p : PollState) (d : Decision) (begun : Bool) (asks new : List Mark) (stage : Stage) → ballot p s ≡ record { begun = begun; vote = None }
      → asks ≡ asks_at l stage → new ≡ answers_at l stage → ballot_at stage ≡ record { begun = begun; vote = Some (is_commit d) } → may_wish stage ≡ false → is_passed stage ≡ false → has_gone stage ≡ true
      → TookSo (vote_heard p s d (ballot p s) (ballot p s).vote) asks new
  vote-took p d begun asks new stage is a n b w q g =
      subst (λ (v : Option Bool). TookSo (vote_heard p s d (ballot p s) v) asks new) (sym (ap (λ (z : Ballot). z.vote) is))
      record {
        stage = stage;
        talk = record {
          asks_are = append-nil asks ∙ a;
          answers_are = n;
          ballot_is = with-own p s (record (ballot p s) { vote = Some (is_commit d) }) ∙ ap (λ (z : Ballot). let r : Ballot = record z { vote = Some (is_commit d) } in r) is ∙ sym b;
          begun = λ e. absurd (let k : false ≡ true = sym w ∙ e in cc k);
          passed = λ e. absurd (let k : false ≡ true = sym q ∙ e in cc k);
        };
        went = sym g;
      }

  if-mine : (p : PollState) (t : Bool) (g : PollGiven) (asks new : List Mark) → t ≡ true → TookSo g asks new → TookSo (if t then g else ignored p) asks new
  if-mine p true g asks new e h = h
  if-mine p false g asks new e h = absurd (let q : false ≡ true = e in cc q)

  mine : (p : PollState) → Says p l → same_stamp l.stamp p.stamp ≡ true
  mine p h = same_stamp-of l.stamp p.stamp (sym h.stamp)

  by-voter : (p : PollState) (m : Message) (asks new : List Mark) → TookSo (heard_from p s m) asks new → Took p asks new m
  unfolding poll_takes
  by-voter p m asks new h = subst (λ o. TookSo (heard_by p o m) asks new) (sym (voter-own s)) h

  begun-gives : (p : PollState) (m : Message) → Says p l → message.Begun l.stamp ≡ m → ballot p s ≡ ballot_at BegunSaid → HasBegun log l.stamp → Took p ((begin_of l, true) ∷ []) ((message.Begun l.stamp, true) ∷ []) m
  begun-gives p m h is b begun = subst (λ z. Took p ((begin_of l, true) ∷ []) ((message.Begun l.stamp, true) ∷ []) z) is
      (by-voter p (message.Begun l.stamp) ((begin_of l, true) ∷ []) ((message.Begun l.stamp, true) ∷ [])
      (if-mine p (same_stamp l.stamp p.stamp) (begun_heard p s (ballot p s)) ((begin_of l, true) ∷ []) ((message.Begun l.stamp, true) ∷ []) (mine p h) (begun-took p (is_some (held p)) h b begun refl)))

  decided-gives : (p : PollState) (m : Message) (d : Decision) (begun : Bool) (stage : Stage) → Says p l → message.Decided l.stamp d ≡ m → ballot p s ≡ record { begun = begun; vote = None }
      → ballot_at stage ≡ record { begun = begun; vote = Some (is_commit d) } → may_wish stage ≡ false → is_passed stage ≡ false → has_gone stage ≡ true → Took p (asks_at l stage) (answers_at l stage) m
  decided-gives p m d begun stage h is b s-ballot w q g = subst (λ z. Took p (asks_at l stage) (answers_at l stage) z) is
      (by-voter p (message.Decided l.stamp d) (asks_at l stage) (answers_at l stage)
      (if-mine p (same_stamp l.stamp p.stamp) (vote_heard p s d (ballot p s) (ballot p s).vote) (asks_at l stage) (answers_at l stage) (mine p h)
      (vote-took p d begun (asks_at l stage) (answers_at l stage) stage b refl refl s-ballot w q g)))

  took-at : (p : PollState) (stage : Stage) (front back : List Mark) (m : Message) → Says p l → answers_at l stage ≡ front ++ (m, false) ∷ back → ballot p s ≡ ballot_at stage
      → (may_wish stage ≡ true → HasBegun log l.stamp) → Took p (asks_at l stage) (front ++ (m, true) ∷ back) m × (has_gone stage ≡ true)
  took-at p BegunSaid front back m h e is begun =
      let f : (message.Begun l.stamp ≡ m) × (false ≡ false) × (front ++ (m, true) ∷ back ≡ (message.Begun l.stamp, true) ∷ []) = one-flip (message.Begun l.stamp) m false front back e in
      (subst (λ x. Took p ((begin_of l, true) ∷ []) x m) (sym f.2) (begun-gives p m h f.0 is (begun refl)), refl)
  took-at p (EarlyVoted d) front back m h e is begun =
      let f : (message.Decided l.stamp d ≡ m) × (false ≡ false) × (front ++ (m, true) ∷ back ≡ (message.Decided l.stamp d, true) ∷ []) = one-flip (message.Decided l.stamp d) m false front back e in
      (subst (λ x. Took p ((begin_of l, true) ∷ []) x m) (sym f.2) (decided-gives p m d false (EarlyHeard d) h f.0 is refl refl refl refl), refl)
  took-at p (EarlyHeard d) front back m h e is begun = absurd (none-left (message.Decided l.stamp d) m front back e)
  took-at p Passed front back m h e is begun = absurd (none-left (message.Begun l.stamp) m front back e)
  took-at p WishSent front back m h e is begun = absurd (none-left (message.Begun l.stamp) m front back e)
  took-at p (Voted d) front back m h e is begun =
      let f : (message.Decided l.stamp d ≡ m) × (false ≡ false) × (front ++ (m, true) ∷ back ≡ (message.Begun l.stamp, true) ∷ (message.Decided l.stamp d, true) ∷ []) =
      two-flip (message.Begun l.stamp) (message.Decided l.stamp d) m false front back e in
      (subst (λ x. Took p (asks_at l (Voted d)) x m) (sym f.2) (decided-gives p m d true (Heard d) h f.0 is refl refl refl refl), refl)
  took-at p (Heard d) front back m h e is begun = absurd (none-left-of-two (message.Begun l.stamp) (message.Decided l.stamp d) m front back e)
  took-at p _ front back m h e is begun = absurd (no-mark front back (m, false) e)

  pub poll-gives : (p : PollState) (asks answers new : List Mark) (holds gone : Bool) (m : Message) → Says p l → Flips answers new m → Talks l asks answers (ballot p s) log holds gone
      → Talks l (asks ++ waiting (member s) (poll_takes p (member s) m).outs) new (ballot (poll_takes p (member s) m).poll s) log (is_some (held (poll_takes p (member s) m).poll)) gone
  poll-gives p asks answers new holds gone m h f t =
      let g : Took p (asks_at l t.stage) (f.front ++ (m, true) ∷ f.back) m × (has_gone t.stage ≡ true) =
      took-at p t.stage f.front f.back m h (sym t.talk.answers_are ∙ f.was) t.talk.ballot_is t.talk.begun in
      let a : Took p asks (f.front ++ (m, true) ∷ f.back) m = subst (λ x. Took p x (f.front ++ (m, true) ∷ f.back) m) (sym t.talk.asks_are) g.0 in
      let b : Took p asks new m = subst (λ x. Took p asks x m) (sym f.is) a in
      subst (λ x. Talks l (asks ++ waiting (member s) (poll_takes p (member s) m).outs) new (ballot (poll_takes p (member s) m).poll s) log (is_some (held (poll_takes p (member s) m).poll)) x) (sym (t.went ∙ g.1)) b

-- ---- what changes nothing between them

-- the member's log grows, and the poll may hold a decision now
pub talks-later : (l : Line) (asks answers : List Mark) (b : Ballot) (log more : List Effect) (holds held-now gone : Bool) → (holds ≡ true → held-now ≡ true) → Talks l asks answers b log holds gone
    → Talks l asks answers b (log ++ more) held-now gone
talks-later l asks answers b log more holds held-now gone f t = record {
  stage = t.stage;
  talk = record {
    asks_are = t.talk.asks_are;
    answers_are = t.talk.answers_are;
    ballot_is = t.talk.ballot_is;
    begun = λ e. begun-later log more l.stamp (t.talk.begun e);
    passed = λ e. f (t.talk.passed e);
  };
  went = t.went;
}

-- ---- a poll goes

-- it hadn't, so nothing was said
silent : (stage : Stage) → false ≡ has_gone stage → stage ≡ Silent
silent Silent e = refl
silent _ e = absurd (let q : false ≡ true = e in cc q)

-- with three ballots without a vote it holds nothing
holds-none : (p : PollState) → p.first.vote ≡ None → p.second.vote ≡ None → p.third.vote ≡ None → held p ≡ None
holds-none p a b c = ap (λ x. held_of x p.second.vote p.third.vote) a ∙ ap (λ x. held_of None x p.third.vote) b ∙ ap (λ x. held_of None None x) c

begins-to : (p : PollState) (s : MemberNumber) → waiting (member s) (begin_to p First ++ (begin_to p Second ++ begin_to p Third)) ≡ (message.Begin p.stamp p.timeout, false) ∷ []
begins-to p First = refl
begins-to p _ = refl

goes-to : (p : PollState) (s : MemberNumber) → held p ≡ None → waiting (member s) (poll_goes p) ≡ (message.Begin p.stamp p.timeout, false) ∷ []
unfolding poll_goes
goes-to p s e = ap (λ o. waiting (member s) (if is_some o then [] else begin_to p First ++ (begin_to p Second ++ begin_to p Third))) e ∙ begins-to p s

silent-vote : (l : Line) (asks answers : List Mark) (b : Ballot) (log : List Effect) (holds : Bool) → Talks l asks answers b log holds false → b.vote ≡ None
silent-vote l asks answers b log holds t = ap (λ (z : Ballot). z.vote) (t.talk.ballot_is ∙ ap ballot_at (silent t.stage t.went))

pub poll-holds-none : (l : Line) (p : PollState) (asks answers : MemberNumber → List Mark) (log : MemberNumber → List Effect) (holds : Bool)
    → ((s : MemberNumber) → Talks l (asks s) (answers s) (ballot p s) (log s) holds false) → held p ≡ None
poll-holds-none l p asks answers log holds t = holds-none p (silent-vote l (asks First) (answers First) p.first (log First) holds (t First))
    (silent-vote l (asks Second) (answers Second) p.second (log Second) holds (t Second)) (silent-vote l (asks Third) (answers Third) p.third (log Third) holds (t Third))

pub poll-went : (l : Line) (p : PollState) (s : MemberNumber) (asks answers : List Mark) (log : List Effect) (holds : Bool) → Says p l → held p ≡ None
    → Talks l asks answers (ballot p s) log holds false → Talks l (asks ++ waiting (member s) (poll_goes p)) answers (ballot p s) log holds true
poll-went l p s asks answers log holds h none t =
    let is : t.stage ≡ Silent = silent t.stage t.went in
    record {
      stage = BeginSent;
      talk = record {
        asks_are = ap (λ z. z ++ waiting (member s) (poll_goes p)) (t.talk.asks_are ∙ ap (asks_at l) is) ∙ goes-to p s none
            ∙ ap (λ x. (message.Begin x p.timeout, false) ∷ []) h.stamp ∙ ap (λ x. (message.Begin l.stamp x, false) ∷ []) h.timeout;
        answers_are = t.talk.answers_are ∙ ap (answers_at l) is;
        ballot_is = t.talk.ballot_is ∙ ap ballot_at is;
        begun = λ e. absurd (let q : false ≡ true = e in cc q);
        passed = λ e. absurd (let q : false ≡ true = e in cc q);
      };
      went = refl;
    }

-- ---- where all was taken

-- then the member has voted, or the poll held a decision
pub settled : (l : Line) (asks answers : List Mark) (b : Ballot) (log : List Effect) (holds : Bool) → Talks l asks answers b log holds true
    → Every (λ (m : Mark). m.1 ≡ true) asks → Every (λ (m : Mark). m.1 ≡ true) answers → (is_some b.vote ≡ true) ⊎ (holds ≡ true)
settled l asks answers b log holds t all-asks all-answers =
    at t.stage t.went t.talk.ballot_is t.talk.passed (subst (Every (λ (m : Mark). m.1 ≡ true)) t.talk.asks_are all-asks) (subst (Every (λ (m : Mark). m.1 ≡ true)) t.talk.answers_are all-answers)
  where
    voted-at : (v : Bool) → b.vote ≡ Some v → is_some b.vote ≡ true
    voted-at v e = ap is_some e

    not-so : {X : Type 0} → false ≡ true → X
    not-so e = absurd (let q : false ≡ true = e in cc q)

    at : (stage : Stage) → true ≡ has_gone stage → b ≡ ballot_at stage → (is_passed stage ≡ true → holds ≡ true)
        → Every (λ (m : Mark). m.1 ≡ true) (asks_at l stage) → Every (λ (m : Mark). m.1 ≡ true) (answers_at l stage) → (is_some b.vote ≡ true) ⊎ (holds ≡ true)
    at Silent w e f a n = not-so (sym w)
    at BeginSent w e f a n = not-so a.0
    at (EarlyHeard d) w e f a n = inl (voted-at (is_commit d) (ap (λ (z : Ballot). z.vote) e))
    at Passed w e f a n = inr (f refl)
    at WishSent w e f a n = not-so a.1.0
    at (Voted d) w e f a n = not-so n.1.0
    at (Heard d) w e f a n = inl (voted-at (is_commit d) (ap (λ (z : Ballot). z.vote) e))
    at _ w e f a n = not-so n.0

-- and no more than two messages were said each way
pub few-asks : (l : Line) (asks answers : List Mark) (b : Ballot) (log : List Effect) (holds gone : Bool) → Talks l asks answers b log holds gone → length asks ≤ 2
few-asks l asks answers b log holds gone t = subst (λ z. length z ≤ 2) (sym t.talk.asks_are) (elim t.stage as (λ stage. length (asks_at l stage) ≤ 2) [ Silent ↦ omega arith | _ ↦ omega arith ])

pub few-answers : (l : Line) (asks answers : List Mark) (b : Ballot) (log : List Effect) (holds gone : Bool) → Talks l asks answers b log holds gone → length answers ≤ 2
few-answers l asks answers b log holds gone t = subst (λ z. length z ≤ 2) (sym t.talk.answers_are) (elim t.stage as (λ stage. length (answers_at l stage) ≤ 2) [ Silent ↦ omega arith | _ ↦ omega arith ])
