-- Each decision of a member has its cause.
use Rattle.std.specs.List.{filter}
use Rattle.std.specs.Option.{unwrap_or}
use Rattle.std.proofs.lemmas.Bool.Decides.{nat_tests}
use Rattle.vote_traces.proofs.Names.{Has, has-left, has-right, broker, is_broker, same_stamp, NodeId, NodeKind, Message, Out, Post, posts, numbered, Asked, Fate, first_begin, decision_of, MemberNumber, First, Second, Third, on_message, member, voter_at, voter_of, PollState, held, poll_goes, poll_hears, poll_takes, Member, Line, shut, crashed, Entry, Take, Go, Learn, Hear, Gate, Crash, Down, Tick, Trace, fates_of, Sending, names, Base, Hall, line_at, log_at, start_hall, member_took, member_heard, poll_took, poll_heard, voter_life, step, walk_from, Rule, Meets, Legal, base_of, hall_after, ◌≡◌, ℕ, zero, suc, ◌+◌, ◌≤◌, Bool, true, false, List, [], ◌∷◌, ◌++◌, map, take, drop, length, inl, refl, sym, ap, subst, ◌∙◌, arith, Option, Some, None, ◌&&◌, is_some, nat_le, reverse, cond, if◌then◌else◌, and_parts, le-leb, append-nil, append_assoc, reverse-append, take-append-drop, Every, every-append, same_node, first_said, begun_by, record_from, record_of, begun, own, book, quiet, owed, begin_by, close_by, row, on_moment, decides, Given, PollGiven, ballot, with_ballot, wish_for, outstanding, asked, asked_again, unless_held, begin_to, begun_heard, vote_heard, heard_from, heard_by, ignored, all_effects, is_within, Flags, opened_log, flagged, last_after, no_line, member_on, poll_on, owed_on, life_of, leaving}
use Rattle.pseudo_time.specs.StampParts.{StampParts}
use Rattle.pseudo_time.specs.declared.decisions.Decision.{Decision}
use Rattle.pseudo_time.specs.declared.decisions.Decision.TheVariants as decision
use Rattle.pseudo_time.specs.declared.nodes.NodeKind.TheVariants as kind
use Rattle.effect_form.specs.declared.effects.Effect.{Effect}
use Rattle.effect_form.specs.declared.effects.Effect.TheVariants as effect
use Rattle.message_form.specs.declared.messages.Message.TheVariants as message
use Rattle.message_core.proofs.NodeLemmas.{same_is}
use Rattle.commit_record.specs.declared.states.RecordState.{RecordState}
use Rattle.commit_record.specs.declared.states.RecordState.TheVariants.{Unknown, Decided}
use Rattle.repository_log.specs.Expiries.{is_due, expiry_of, expiries}
use Rattle.record_votes.specs.declared.ballots.Wish.{Wish}
use Rattle.record_votes.specs.declared.ballots.Wish.TheVariants as wish
use Rattle.record_votes.specs.declared.ballots.Ballot.{Ballot}
use Rattle.vote_traces.specs.Causes.{IsWanted, IsCaused, HasCause, HaveCauses}

-- ---- causes stay as entries and logs go on

caused-later : (lines : List Line) (es more : List Entry) (log : List Effect) (s : StampParts) (d : Decision) → IsCaused lines es log s d → IsCaused lines (es ++ more) log s d
caused-later lines es more log s (decision.Expired deadline moment) h = (h.0, has-left es more (Tick moment) h.1, h.2)
caused-later lines es more log s _ h = h

cause-later : (lines : List Line) (es more : List Entry) (log : List Effect) (e : Effect) → HasCause lines es log e → HasCause lines (es ++ more) log e
cause-later lines es more log (effect.Decide s d) h = caused-later lines es more log s d h
cause-later lines es more log e h = tt

causes-later : (lines : List Line) (es more : List Entry) (log late : List Effect) → HaveCauses lines es log late → HaveCauses lines (es ++ more) log late
causes-later lines es more log [] h = tt
causes-later lines es more log (e ∷ late) h = (cause-later lines es more log e h.0, causes-later lines es more (log ++ e ∷ []) late h.1)

module _ (lines : List Line) (es : List Entry) where
  causes-append : (log late more : List Effect) → HaveCauses lines es log late → HaveCauses lines es (log ++ late) more → HaveCauses lines es log (late ++ more)
  causes-append log [] more h g = subst (λ l. HaveCauses lines es l more) (append-nil log) g
  causes-append log (e ∷ late) more h g = (h.0, causes-append (log ++ e ∷ []) late more h.1 (subst (λ l. HaveCauses lines es l more) (sym (append_assoc log (e ∷ []) late)) g))

  pub causes-front : (log late more : List Effect) → HaveCauses lines es log (late ++ more) → HaveCauses lines es log late
  causes-front log [] more h = tt
  causes-front log (e ∷ late) more h = (h.0, causes-front (log ++ e ∷ []) late more h.1)

-- ---- the first Begin stays

begin-if : (t : Bool) (x deadline : ℕ) → (if t then Some deadline else Some deadline) ≡ Some deadline
begin-if true x deadline = refl
begin-if false x deadline = refl

begin-said : (o : Option (StampParts × ℕ)) (s : StampParts) (deadline : ℕ) → first_said o (Some deadline) s ≡ Some deadline
begin-said None s deadline = refl
begin-said (Some e) s deadline = begin-if (same_stamp e.0 s) e.1 deadline

begin-behind : (xs log : List Effect) (s : StampParts) (deadline : ℕ) → first_begin log s ≡ Some deadline → first_begin (xs ++ log) s ≡ Some deadline
unfolding first_begin
begin-behind [] log s deadline h = h
begin-behind (x ∷ xs) log s deadline h = ap (λ z. first_said (begun_by x) z s) (begin-behind xs log s deadline h) ∙ begin-said (begun_by x) s deadline

own-append : (xs ys : List Effect) → own (xs ++ ys) ≡ own xs ++ own ys
own-append [] ys = refl
own-append (effect.Begin s t ∷ xs) ys = ap (λ z. effect.Begin s t ∷ z) (own-append xs ys)
own-append (effect.Decide s d ∷ xs) ys = ap (λ z. effect.Decide s d ∷ z) (own-append xs ys)
own-append (effect.Put o x v ∷ xs) ys = own-append xs ys
own-append (effect.Stretch o x ∷ xs) ys = own-append xs ys
own-append (effect.Learn s c ∷ xs) ys = own-append xs ys
own-append (effect.Run n ∷ xs) ys = own-append xs ys
own-append (effect.Act i h t n c b ∷ xs) ys = own-append xs ys
own-append (effect.Try i s ∷ xs) ys = own-append xs ys
own-append (effect.Got k v ∷ xs) ys = own-append xs ys
own-append (effect.Acked k ∷ xs) ys = own-append xs ys
own-append (effect.End i e ∷ xs) ys = own-append xs ys
own-append (effect.Mark at ∷ xs) ys = own-append xs ys
own-append (effect.Whole ∷ xs) ys = own-append xs ys

pub begin-stays : (log more : List Effect) (s : StampParts) (deadline : ℕ) → first_begin (book log) s ≡ Some deadline → first_begin (book (log ++ more)) s ≡ Some deadline
begin-stays log more s deadline h =
    subst (λ l. first_begin l s ≡ Some deadline) (sym (ap own (reverse-append log more) ∙ own-append (reverse more) (reverse log))) (begin-behind (own (reverse more)) (book log) s deadline h)

-- ---- what a message wishes

pub record Wishes (lines : List Line) (m : Message) : Type 0 where
  pub commit : (x : StampParts) → m ≡ message.Commit x → IsWanted lines x wish.Commit
  pub withdraw : (x : StampParts) → m ≡ message.Withdraw x → IsWanted lines x wish.Withdraw

abbrev AllWish : List Line → List Out → Type 0
AllWish lines outs = Every (λ (o : Out). Wishes lines o.message) outs

module _ (lines : List Line) where
  begin-wishes : (x : StampParts) (t : ℕ) → Wishes lines (message.Begin x t)
  begin-wishes x t = record { commit = λ y e. absurd (cc e); withdraw = λ y e. absurd (cc e) }

  begun-wishes : (x : StampParts) → Wishes lines (message.Begun x)
  begun-wishes x = record { commit = λ y e. absurd (cc e); withdraw = λ y e. absurd (cc e) }

  decided-wishes : (x : StampParts) (d : Decision) → Wishes lines (message.Decided x d)
  decided-wishes x d = record { commit = λ y e. absurd (cc e); withdraw = λ y e. absurd (cc e) }

  wish-wishes : (w : Wish) (s : StampParts) → IsWanted lines s w → Wishes lines (wish_for w s)
  wish-wishes wish.Commit s h = record { commit = λ y e. (let k : s ≡ y = cc e in subst (λ z. IsWanted lines z wish.Commit) k h); withdraw = λ y e. absurd (cc e) }
  wish-wishes wish.Withdraw s h = record { commit = λ y e. absurd (cc e); withdraw = λ y e. (let k : s ≡ y = cc e in subst (λ z. IsWanted lines z wish.Withdraw) k h) }

  -- ---- polls

  module _ (p : PollState) (wanted : IsWanted lines p.stamp p.wish) where
    outstanding-wishes : (begun : Bool) → Wishes lines (outstanding p begun)
    outstanding-wishes false = begin-wishes p.stamp p.timeout
    outstanding-wishes true = wish-wishes p.wish p.stamp wanted

    asked-wish : (s : MemberNumber) (begun : Bool) (vote : Option Bool) → AllWish lines (asked p s begun vote)
    asked-wish s begun (Some v) = tt
    asked-wish s begun None = (outstanding-wishes begun, tt)

    begin-wish : (s : MemberNumber) → AllWish lines (begin_to p s)
    begin-wish s = (begin-wishes p.stamp p.timeout, tt)

    three-wish : (a b c : List Out) → AllWish lines a → AllWish lines b → AllWish lines c → AllWish lines (a ++ (b ++ c))
    three-wish a b c f g h = every-append (λ (o : Out). Wishes lines o.message) a (b ++ c) f (every-append (λ (o : Out). Wishes lines o.message) b c g h)

    if-wish : (t : Bool) (outs : List Out) → AllWish lines outs → AllWish lines (if t then [] else outs)
    if-wish true outs h = tt
    if-wish false outs h = h

    goes-wish : AllWish lines (poll_goes p)
    unfolding poll_goes
    goes-wish = if-wish (is_some (held p)) (begin_to p First ++ (begin_to p Second ++ begin_to p Third)) (three-wish (begin_to p First) (begin_to p Second) (begin_to p Third) (begin-wish First) (begin-wish Second) (begin-wish Third))

    hears-wish : AllWish lines (poll_hears p)
    unfolding poll_hears
    hears-wish = if-wish (is_some (held p)) (asked_again p First ++ (asked_again p Second ++ asked_again p Third)) (three-wish (asked_again p First) (asked_again p Second) (asked_again p Third)
        (asked-wish First (ballot p First).begun (ballot p First).vote) (asked-wish Second (ballot p Second).begun (ballot p Second).vote) (asked-wish Third (ballot p Third).begun (ballot p Third).vote))

    begun-wish : (s : MemberNumber) (b : Ballot) → AllWish lines (begun_heard p s b).outs
    begun-wish s b = if-wish b.begun (unless_held p (asked p s true b.vote)) (if-wish (is_some (held p)) (asked p s true b.vote) (asked-wish s true b.vote))

    vote-wish : (s : MemberNumber) (d : Decision) (b : Ballot) (v : Option Bool) → AllWish lines (vote_heard p s d b v).outs
    vote-wish s d b None = tt
    vote-wish s d b (Some v) = tt

    given-if : (t : Bool) (g : PollGiven) → AllWish lines g.outs → AllWish lines (if t then g else ignored p).outs
    given-if true g h = h
    given-if false g h = tt

    from-wish : (s : MemberNumber) (m : Message) → AllWish lines (heard_from p s m).outs
    from-wish s (message.Begun x) = given-if (same_stamp x p.stamp) (begun_heard p s (ballot p s)) (begun-wish s (ballot p s))
    from-wish s (message.Decided x d) = given-if (same_stamp x p.stamp) (vote_heard p s d (ballot p s) (ballot p s).vote) (vote-wish s d (ballot p s) (ballot p s).vote)
    from-wish s m = tt

    by-wish : (s : Option MemberNumber) (m : Message) → AllWish lines (heard_by p s m).outs
    by-wish None m = tt
    by-wish (Some s) m = from-wish s m

    takes-wish : (from : NodeId) (m : Message) → AllWish lines (poll_takes p from m).outs
    unfolding poll_takes
    takes-wish from m = by-wish (voter_of from) m

-- what a poll's line said stays
pub record SamePoll (old new : PollState) : Type 0 where
  pub stamp : new.stamp ≡ old.stamp
  pub wish : new.wish ≡ old.wish

ballot-same : (p : PollState) (s : MemberNumber) (b : Ballot) → SamePoll p (with_ballot p s b)
ballot-same p First b = record { stamp = refl; wish = refl }
ballot-same p _ b = record { stamp = refl; wish = refl }

vote-same : (p : PollState) (s : MemberNumber) (d : Decision) (b : Ballot) (v : Option Bool) → SamePoll p (vote_heard p s d b v).poll
vote-same p s d b None = ballot-same p s _
vote-same p s d b (Some v) = record { stamp = refl; wish = refl }

same-if : (p : PollState) (t : Bool) (g : PollGiven) → SamePoll p g.poll → SamePoll p (if t then g else ignored p).poll
same-if p true g h = h
same-if p false g h = record { stamp = refl; wish = refl }

from-same : (p : PollState) (s : MemberNumber) (m : Message) → SamePoll p (heard_from p s m).poll
from-same p s (message.Begun x) = same-if p (same_stamp x p.stamp) (begun_heard p s (ballot p s)) (ballot-same p s _)
from-same p s (message.Decided x d) = same-if p (same_stamp x p.stamp) (vote_heard p s d (ballot p s) (ballot p s).vote) (vote-same p s d (ballot p s) (ballot p s).vote)
from-same p s m = record { stamp = refl; wish = refl }

by-same : (p : PollState) (s : Option MemberNumber) (m : Message) → SamePoll p (heard_by p s m).poll
by-same p None m = record { stamp = refl; wish = refl }
by-same p (Some s) m = from-same p s m

takes-same : (p : PollState) (from : NodeId) (m : Message) → SamePoll p (poll_takes p from m).poll
unfolding poll_takes
takes-same p from m = by-same p (voter_of from) m

-- ---- a member's turns

module _ (lines : List Line) (es : List Entry) where
  begin-caused : (log : List Effect) (moment : ℕ) (from : NodeId) (s : StampParts) (timeout : ℕ) (r : Option RecordState) → HaveCauses lines es log (begin_by moment from s timeout r).effects
  begin-caused log moment from s timeout None = (tt, tt)
  begin-caused log moment from s timeout (Some (Unknown t)) = tt
  begin-caused log moment from s timeout (Some (Decided d)) = tt

  close-caused : (log : List Effect) (from : NodeId) (s : StampParts) (d : Decision) (r : Option RecordState) → IsCaused lines es log s d → HaveCauses lines es log (close_by from s d r).effects
  close-caused log from s d None h = tt
  close-caused log from s d (Some (Unknown t)) h = (h, tt)
  close-caused log from s d (Some (Decided e)) h = tt

  row-caused : (log : List Effect) (moment : ℕ) (from : NodeId) (m : Message) → Wishes lines m → HaveCauses lines es log (row log moment from m).effects
  row-caused log moment from (message.Begin s timeout) h = begin-caused log moment from s timeout (record_of (book log) s)
  row-caused log moment from (message.Commit s) h = close-caused log from s decision.Committed (record_of (book log) s) (h.commit s refl)
  row-caused log moment from (message.Withdraw s) h = close-caused log from s decision.Withdrawn (record_of (book log) s) (h.withdraw s refl)
  row-caused log moment from m h = tt

  caused-if : (t : Bool) (log : List Effect) (g : Given) → HaveCauses lines es log g.effects → HaveCauses lines es log (if t then g else quiet).effects
  caused-if true log g h = h
  caused-if false log g h = tt

  message-caused : (log : List Effect) (moment : ℕ) (from : NodeId) (m : Message) → Wishes lines m → HaveCauses lines es log (on_message log moment from m).effects
  unfolding on_message
  message-caused log moment from m h = caused-if (is_broker from.kind) log (row log moment from m) (row-caused log moment from m h)

  -- why a record expires
  record IsExpiry (log : List Effect) (moment : ℕ) (e : StampParts × Decision) : Type 0 where
    deadline : ℕ
    begin : first_begin (book log) e.0 ≡ Some deadline
    decided : e.1 ≡ decision.Expired deadline moment
    most : deadline ≤ moment

  due-expiry : (log : List Effect) (m : ℕ) (s : StampParts) (first : Option ℕ) (said : Option Decision) → first_begin (book log) s ≡ first → is_due m (record_from first said) ≡ true → IsExpiry log m (s, expiry_of m (record_from first said))
  due-expiry log m s None said e h = let k : false ≡ true = h in absurd (cc k)
  due-expiry log m s (Some t) None e h = record { deadline = t; begin = e; decided = refl; most = (let k : nat_le t m ≡ true = h in grind (arith, nat_tests)) }
  due-expiry log m s (Some t) (Some d) e h = let k : false ≡ true = h in absurd (cc k)

  all-expiries : (log : List Effect) (m : ℕ) (ks : List StampParts)
      → Every (IsExpiry log m) (map (λ s. (s, expiry_of m (record_of (book log) s))) (filter (λ s. is_due m (record_of (book log) s)) ks))
  all-expiries log m [] = tt
  all-expiries log m (k ∷ ks) = go (is_due m (record_of (book log) k)) refl (all-expiries log m ks)
    where
      go : (t : Bool) → is_due m (record_of (book log) k) ≡ t
          → Every (IsExpiry log m) (map (λ s. (s, expiry_of m (record_of (book log) s))) (filter (λ s. is_due m (record_of (book log) s)) ks))
          → Every (IsExpiry log m) (map (λ s. (s, expiry_of m (record_of (book log) s))) (cond t (k ∷ filter (λ s. is_due m (record_of (book log) s)) ks) (filter (λ s. is_due m (record_of (book log) s)) ks)))
      go true e rest = (due-expiry log m k (first_begin (book log) k) (decision_of (book log) k) refl e, rest)
      go false e rest = rest

  expiries-caused : (log before : List Effect) (m : ℕ) (ds : List (StampParts × Decision)) → Has (Tick m) es → Every (IsExpiry log m) ds → HaveCauses lines es (log ++ before) (decides ds)
  expiries-caused log before m [] tick h = tt
  expiries-caused log before m (e ∷ ds) tick h = (
    subst (IsCaused lines es (log ++ before) e.0) (sym h.0.decided) (begin-stays log before e.0 h.0.deadline h.0.begin, tick, h.0.most),
    subst (λ l. HaveCauses lines es l (decides ds)) (sym (append_assoc log before (effect.Decide e.0 e.1 ∷ []))) (expiries-caused log (before ++ effect.Decide e.0 e.1 ∷ []) m ds tick h.1),
  )

  moment-caused : (log : List Effect) (m : ℕ) → Has (Tick m) es → HaveCauses lines es log (on_moment log m).effects
  unfolding on_moment
  moment-caused log m tick = subst (λ l. HaveCauses lines es l (decides (expiries m (book log)))) (append-nil log) (expiries-caused log [] m (expiries m (book log)) tick (all-expiries log m (begun (book log))))

  -- what it owes wishes nothing
  begin-owes : (moment : ℕ) (from : NodeId) (s : StampParts) (timeout : ℕ) (r : Option RecordState) → AllWish lines (begin_by moment from s timeout r).outs
  begin-owes moment from s timeout None = (begun-wishes lines s, tt)
  begin-owes moment from s timeout (Some (Unknown t)) = (begun-wishes lines s, tt)
  begin-owes moment from s timeout (Some (Decided d)) = (decided-wishes lines s d, tt)

  close-owes : (from : NodeId) (s : StampParts) (d : Decision) (r : Option RecordState) → AllWish lines (close_by from s d r).outs
  close-owes from s d None = tt
  close-owes from s d (Some (Unknown t)) = (decided-wishes lines s d, tt)
  close-owes from s d (Some (Decided e)) = (decided-wishes lines s e, tt)

  row-owes : (log : List Effect) (moment : ℕ) (from : NodeId) (m : Message) → AllWish lines (row log moment from m).outs
  row-owes log moment from (message.Begin s timeout) = begin-owes moment from s timeout (record_of (book log) s)
  row-owes log moment from (message.Commit s) = close-owes from s decision.Committed (record_of (book log) s)
  row-owes log moment from (message.Withdraw s) = close-owes from s decision.Withdrawn (record_of (book log) s)
  row-owes log moment from m = tt

  owes-if : (t : Bool) (g : Given) → AllWish lines g.outs → AllWish lines (if t then g else quiet).outs
  owes-if true g h = h
  owes-if false g h = tt

  message-owes : (log : List Effect) (moment : ℕ) (from : NodeId) (m : Message) → AllWish lines (on_message log moment from m).outs
  unfolding on_message
  message-owes log moment from m = owes-if (is_broker from.kind) (row log moment from m) (row-owes log moment from m)

  moment-owes : (log : List Effect) (m : ℕ) → AllWish lines (on_moment log m).outs
  unfolding on_moment
  moment-owes log m = tt

-- ---- a member at a place of the trace

pub record MemberCauses (lines : List Line) (es : List Entry) (opened : List Effect) (m : Member) : Type 0 where
  pub late : List Effect
  pub gated_is : m.gated ≡ opened ++ late
  pub caused : HaveCauses lines es opened (late ++ m.fresh)
  pub owes : AllWish lines m.owed

module _ (lines : List Line) (es : List Entry) (opened : List Effect) where
  whole-is : (m : Member) (c : MemberCauses lines es opened m) → all_effects m ≡ opened ++ (c.late ++ m.fresh)
  whole-is m c = ap (λ l. l ++ m.fresh) c.gated_is ∙ append_assoc opened c.late m.fresh

  turned-causes : (m : Member) (moment : ℕ) (g : Given) → MemberCauses lines es opened m → HaveCauses lines es (all_effects m) g.effects → AllWish lines g.outs
      → MemberCauses lines es opened (record { gated = m.gated; fresh = m.fresh ++ g.effects; owed = m.owed ++ g.outs; moment = moment })
  turned-causes m moment g c h owes = record {
    late = c.late;
    gated_is = c.gated_is;
    caused = subst (HaveCauses lines es opened) (append_assoc c.late m.fresh g.effects)
        (causes-append lines es opened (c.late ++ m.fresh) g.effects c.caused (subst (λ l. HaveCauses lines es l g.effects) (whole-is m c) h));
    owes = every-append (λ (o : Out). Wishes lines o.message) m.owed g.outs c.owes owes;
  }

  took-causes : (m : Member) (found : Option Sending) → MemberCauses lines es opened m → ((s : Sending) → found ≡ Some s → Wishes lines s.post.message) → MemberCauses lines es opened (member_took m found)
  took-causes m None c h = c
  took-causes m (Some s) c h =
      turned-causes m m.moment (on_message (all_effects m) m.moment s.post.from s.post.message) c (message-caused lines es (all_effects m) m.moment s.post.from s.post.message (h s refl)) (message-owes lines es (all_effects m) m.moment s.post.from s.post.message)

  heard-causes : (m : Member) (last : Option ℕ) → MemberCauses lines es opened m → ((t : ℕ) → last ≡ Some t → Has (Tick t) es) → MemberCauses lines es opened (member_heard m last)
  heard-causes m None c h = c
  heard-causes m (Some t) c h = turned-causes m t (on_moment (all_effects m) t) c (moment-caused lines es (all_effects m) t (h t refl)) (moment-owes lines es (all_effects m) t)

  shut-causes : (m : Member) → MemberCauses lines es opened m → MemberCauses lines es opened (shut m)
  shut-causes m c = record { late = c.late ++ m.fresh; gated_is = whole-is m c; caused = subst (HaveCauses lines es opened) (sym (append-nil (c.late ++ m.fresh))) c.caused; owes = tt }

  crashed-causes : (m : Member) (kept moment : ℕ) → MemberCauses lines es opened m → MemberCauses lines es opened (crashed m kept moment)
  crashed-causes m kept moment c = record {
    late = c.late ++ take kept m.fresh;
    gated_is = ap (λ l. l ++ take kept m.fresh) c.gated_is ∙ append_assoc opened c.late (take kept m.fresh);
    caused = subst (HaveCauses lines es opened) (sym (append-nil (c.late ++ take kept m.fresh)))
        (causes-front lines es opened (c.late ++ take kept m.fresh) (drop kept m.fresh)
        (subst (HaveCauses lines es opened) (ap (λ l. c.late ++ l) (sym (take-append-drop kept m.fresh)) ∙ sym (append_assoc c.late (take kept m.fresh) (drop kept m.fresh))) c.caused));
    owes = tt;
  }

member-later : (lines : List Line) (es more : List Entry) (opened : List Effect) (m : Member) → MemberCauses lines es opened m → MemberCauses lines (es ++ more) opened m
member-later lines es more opened m c = record { late = c.late; gated_is = c.gated_is; caused = causes-later lines es more opened (c.late ++ m.fresh) c.caused; owes = c.owes }

-- ---- the hall at a place of the trace

pub record HallCauses (b : Base) (es : List Entry) (h : Hall) : Type 0 where
  pub members : (s : MemberNumber) → MemberCauses b.lines es (log_at b.opened s) (h.members s)
  pub polls : (i : ℕ) → ((h.polls i).stamp ≡ (line_at b.lines i).stamp) × ((h.polls i).wish ≡ (line_at b.lines i).wish)
  pub owed : (i : ℕ) → AllWish b.lines (h.owed i)
  pub sent : Every (λ (s : Sending). Wishes b.lines s.post.message) h.sendings
  pub known : (n : NodeId) → (h.flags n).up ≡ true → is_some (opened_log b.opened n) ≡ true
  pub last : (t : ℕ) → h.last ≡ Some t → Has (Tick t) es

-- each poll that was opened has a line
abbrev pub HaveLines : Base → Type 0
HaveLines b = (i : ℕ) → is_some (opened_log b.opened (broker i)) ≡ true → (l : Line) × (numbered b.lines i ≡ Some l)

pub at-if : {X : Type 0} (P : X → Type 0) (t : Bool) (x y : X) → (t ≡ true → P x) → P y → P (if t then x else y)
at-if P true x y f h = f refl
at-if P false x y f h = h

pub flagged-up : (last : Option ℕ) (k : NodeKind) (f : Flags) (e : Entry) → (flagged last k f e).up ≡ true → f.up ≡ true
flagged-up last k f (Take node number) h = h
flagged-up last kind.Repository f (Go node) h = h
flagged-up last kind.Broker f (Go node) h = h
flagged-up last kind.Repository f (Learn node stamp committed) h = h
flagged-up last kind.Broker f (Learn node stamp committed) h = h
flagged-up None k f (Hear node) h = h
flagged-up (Some t) k f (Hear node) h = h
flagged-up last k f (Gate node) h = h
flagged-up last k f (Crash node kept) h = h
flagged-up last k f (Down node cause) h = absurd (let j : false ≡ true = h in cc j)
flagged-up last k f (Tick moment) h = h

every-numbered : (P : Sending → Type 0) (ss : List Sending) (k : ℕ) (s : Sending) → Every P ss → numbered ss k ≡ Some s → P s
every-numbered P ss zero s h e = absurd (cc e)
every-numbered P [] (suc k) s h e = absurd (cc e)
every-numbered P (x ∷ ss) (suc zero) s h e = let k : x ≡ s = cc e in subst P k h.0
every-numbered P (x ∷ ss) (suc (suc k)) s h e = every-numbered P ss (suc k) s h.1 e

sendings-wish : (lines : List Line) (n : NodeId) (ticks : ℕ) (outs : List Out) → AllWish lines outs
    → Every (λ (s : Sending). Wishes lines s.post.message) (map (λ (p : Post). let r : Sending = record { post = p; ticks = ticks } in r) (posts n outs))
sendings-wish lines n ticks [] h = tt
sendings-wish lines n ticks (o ∷ outs) h = (h.0, sendings-wish lines n ticks outs h.1)

last-said : (es : List Entry) (last : Option ℕ) (e : Entry) → ((t : ℕ) → last ≡ Some t → Has (Tick t) es) → (t : ℕ) → last_after last e ≡ Some t → Has (Tick t) (es ++ e ∷ [])
last-said es last (Take node number) f t h = has-left es (Take node number ∷ []) (Tick t) (f t h)
last-said es last (Go node) f t h = has-left es (Go node ∷ []) (Tick t) (f t h)
last-said es last (Learn node stamp committed) f t h = has-left es (Learn node stamp committed ∷ []) (Tick t) (f t h)
last-said es last (Hear node) f t h = has-left es (Hear node ∷ []) (Tick t) (f t h)
last-said es last (Gate node) f t h = has-left es (Gate node ∷ []) (Tick t) (f t h)
last-said es last (Crash node kept) f t h = has-left es (Crash node kept ∷ []) (Tick t) (f t h)
last-said es last (Down node cause) f t h = has-left es (Down node cause ∷ []) (Tick t) (f t h)
last-said es last (Tick moment) f t h = has-right es (Tick moment ∷ []) (Tick t) (inl (ap (λ z. Tick z) (let k : moment ≡ t = cc h in k)))

module _ (b : Base) (have : HaveLines b) (es : List Entry) (h : Hall) (c : HallCauses b es h) where
  -- a poll that is up wishes what its line says
  wanted : (n : NodeId) (i : ℕ) → same_node n (broker i) ≡ true → (h.flags n).up ≡ true → IsWanted b.lines (h.polls i).stamp (h.polls i).wish
  wanted n i same up =
      let is : n ≡ broker i = same_is n (broker i) same in
      let l : (l : Line) × (numbered b.lines i ≡ Some l) = have i (c.known (broker i) (subst (λ z. (h.flags z).up ≡ true) is up)) in
      let at : line_at b.lines i ≡ l.0 = ap (λ o. unwrap_or o no_line) l.1 in
      record { poll = i; line = l.0; there = l.1; stamp = sym (ap (λ (z : Line). z.stamp) at) ∙ sym (c.polls i).0; wish = sym (ap (λ (z : Line). z.wish) at) ∙ sym (c.polls i).1 }

  member-on : (fates : List Fate) (s : MemberNumber) (e : Entry) → MemberCauses b.lines es (log_at b.opened s) (member_on b h (h.members s) e)
  member-on fates s (Take node number) = took-causes b.lines es (log_at b.opened s) (h.members s) (numbered h.sendings number) (c.members s) (λ x e. every-numbered (λ (z : Sending). Wishes b.lines z.post.message) h.sendings number x c.sent e)
  member-on fates s (Hear node) = heard-causes b.lines es (log_at b.opened s) (h.members s) h.last (c.members s) c.last
  member-on fates s (Gate node) = shut-causes b.lines es (log_at b.opened s) (h.members s) (c.members s)
  member-on fates s (Crash node kept) = crashed-causes b.lines es (log_at b.opened s) (h.members s) kept b.start (c.members s)
  member-on fates s _ = c.members s

  abbrev SaysLine : ℕ → PollState → Type 0
  SaysLine i p = (p.stamp ≡ (line_at b.lines i).stamp) × (p.wish ≡ (line_at b.lines i).wish)

  took-line : (i : ℕ) (p : PollState) (found : Option Sending) → SaysLine i p → SaysLine i (poll_took p found).poll
  took-line i p None g = g
  took-line i p (Some s) g = let k : SamePoll p (poll_takes p s.post.from s.post.message).poll = takes-same p s.post.from s.post.message in (k.stamp ∙ g.0, k.wish ∙ g.1)

  poll-on : (i : ℕ) (e : Entry) → SaysLine i (poll_on h (h.polls i) e)
  poll-on i (Take node number) = took-line i (h.polls i) (numbered h.sendings number) (c.polls i)
  poll-on i _ = c.polls i

  took-outs : (p : PollState) (found : Option Sending) → IsWanted b.lines p.stamp p.wish → AllWish b.lines (poll_took p found).outs
  took-outs p None g = tt
  took-outs p (Some s) g = takes-wish b.lines p g s.post.from s.post.message

  heard-outs : (p : PollState) (last : Option ℕ) → IsWanted b.lines p.stamp p.wish → AllWish b.lines (poll_heard p last)
  heard-outs p None g = tt
  heard-outs p (Some t) g = hears-wish b.lines p g

  abbrev WishOuts : List Out → Type 0
  WishOuts outs = AllWish b.lines outs

  owed-on-rule : (fates : List Fate) (i : ℕ) (e : Entry) → Rule b fates h e → names (broker i) e ≡ true → WishOuts (owed_on h (h.polls i) (h.owed i) e)
  owed-on-rule fates i (Take node number) r is = every-append (λ (o : Out). Wishes b.lines o.message) (h.owed i) (poll_took (h.polls i) (numbered h.sendings number)).outs (c.owed i) (took-outs (h.polls i) (numbered h.sendings number) (wanted node i is r.up))
  owed-on-rule fates i (Go node) r is = every-append (λ (o : Out). Wishes b.lines o.message) (h.owed i) (poll_goes (h.polls i)) (c.owed i) (goes-wish b.lines (h.polls i) (wanted node i is r.up))
  owed-on-rule fates i (Hear node) r is = every-append (λ (o : Out). Wishes b.lines o.message) (h.owed i) (poll_heard (h.polls i) h.last) (c.owed i) (heard-outs (h.polls i) h.last (wanted node i is r.up))
  owed-on-rule fates i (Gate node) r is = tt
  owed-on-rule fates i _ r is = c.owed i

  leaving-wish : (k : NodeKind) (i : ℕ) → WishOuts (life_of h k i).outs
  leaving-wish kind.Repository i = by-voter (voter_at i)
    where
      by-voter : (s : Option MemberNumber) → WishOuts (voter_life h s).outs
      by-voter None = tt
      by-voter (Some s) = (c.members s).owes
  leaving-wish kind.Broker i = c.owed i

  sent-on : (e : Entry) → Every (λ (s : Sending). Wishes b.lines s.post.message) (step b h e).sendings
  sent-on (Gate node) = every-append (λ (s : Sending). Wishes b.lines s.post.message) h.sendings (map (λ (p : Post). let r : Sending = record { post = p; ticks = h.ticks } in r) (leaving h node)) c.sent
      (sendings-wish b.lines node h.ticks (life_of h node.kind node.number).outs (leaving-wish node.kind node.number))
  sent-on _ = c.sent

  step-causes : (fates : List Fate) (e : Entry) → Rule b fates h e → HallCauses b (es ++ e ∷ []) (step b h e)
  step-causes fates e r = record {
    members = λ s. member-later b.lines es (e ∷ []) (log_at b.opened s) ((step b h e).members s)
        (at-if (MemberCauses b.lines es (log_at b.opened s)) (names (member s) e) (member_on b h (h.members s) e) (h.members s) (λ is. member-on fates s e) (c.members s));
    polls = λ i. at-if (SaysLine i) (names (broker i) e) (poll_on h (h.polls i) e) (h.polls i) (λ is. poll-on i e) (c.polls i);
    owed = λ i. at-if WishOuts (names (broker i) e) (owed_on h (h.polls i) (h.owed i) e) (h.owed i) (λ is. owed-on-rule fates i e r is) (c.owed i);
    sent = sent-on e;
    known = λ n. at-if (λ (f : Flags). f.up ≡ true → is_some (opened_log b.opened n) ≡ true) (names n e && (h.flags n).known) (flagged h.last n.kind (h.flags n) e) (h.flags n) (λ is up. c.known n (flagged-up h.last n.kind (h.flags n) e up)) (c.known n);
    last = last-said es h.last e c.last;
  }

pub start-causes : (b : Base) → HallCauses b [] (start_hall b)
start-causes b = record {
  members = λ s. record { late = []; gated_is = sym (append-nil (log_at b.opened s)); caused = tt; owes = tt };
  polls = λ i. (refl, refl);
  owed = λ i. tt;
  sent = tt;
  known = λ n up. up;
  last = λ t e. absurd (cc e);
}

pub walk-causes : (b : Base) (have : HaveLines b) (fates : List Fate) (es more : List Entry) (h : Hall) → HallCauses b es h → Meets b fates h more → HallCauses b (es ++ more) (walk_from b h more)
unfolding Meets walk_from
walk-causes b have fates es [] h c m = subst (λ l. HallCauses b l h) (sym (append-nil es)) c
walk-causes b have fates es (e ∷ more) h c m =
    subst (λ l. HallCauses b l (walk_from b (step b h e) more)) (append_assoc es (e ∷ []) more) (walk-causes b have fates (es ++ e ∷ []) more (step b h e) (step-causes b have es h c fates e m.0) m.1)

-- ---- legal traces

pub numbered-within : (lines : List Line) (i : ℕ) → is_within i (length lines) ≡ true → (l : Line) × (numbered lines i ≡ Some l)
numbered-within lines zero h = absurd (let k : false ≡ true = h in cc k)
numbered-within [] (suc i) h =
    let k : (nat_le 1 (suc i) ≡ true) × (nat_le (suc i) 0 ≡ true) = and_parts (nat_le 1 (suc i)) (nat_le (suc i) 0) h in
    let z = k.1 in
    let over : suc i ≤ 0 = grind (arith, nat_tests) in absurd (omega (arith, over))
numbered-within (l ∷ lines) (suc zero) h = (l, refl)
numbered-within (l ∷ lines) (suc (suc i)) h =
    let k : (nat_le 1 (suc (suc i)) ≡ true) × (nat_le (suc (suc i)) (length (l ∷ lines)) ≡ true) = and_parts (nat_le 1 (suc (suc i))) (nat_le (suc (suc i)) (length (l ∷ lines))) h in
    let z = k.1 in
    let under : suc (suc i) ≤ length (l ∷ lines) = grind (arith, nat_tests) in
    numbered-within lines (suc i) (ap (λ t. t && nat_le (suc i) (length lines)) (le-leb 1 (suc i) (omega arith)) ∙ le-leb (suc i) (length lines) (omega (arith, under)))

pub decisions-caused : (lines : List Line) (asked : List Asked) (t : Trace) (s : MemberNumber) → Legal lines asked t
    → (late : List Effect) × (((hall_after lines t).members s).gated ≡ log_at t.opened s ++ late) × HaveCauses lines t.entries (log_at t.opened s) (late ++ ((hall_after lines t).members s).fresh)
decisions-caused lines asked t s legal =
    let have : HaveLines (base_of lines t) = (λ i known. numbered-within lines i (sym (legal.nodes.just (broker i)) ∙ known)) in
    let c : HallCauses (base_of lines t) t.entries (hall_after lines t) = walk-causes (base_of lines t) have (fates_of t.sent) [] t.entries (start_hall (base_of lines t)) (start-causes (base_of lines t)) legal.meets in
    ((c.members s).late, (c.members s).gated_is, (c.members s).caused)
