-- What holds at each place of a vote world.
use Rattle.record_votes.proofs.Names.{◌≡◌, ℕ, zero, suc, Bool, true, false, List, [], ◌∷◌, ◌++◌, take, drop, inl, inr, refl, sym, ◌∙◌, ap, subst, Option, Some, None, ◌==◌, if◌then◌else◌, append-nil, append_assoc, take-append-drop, eqb-true, Has, has-either, has-left, StampParts, Decision, NodeId, NodeKind, Effect, Message, Out, is_commit, broker, MemberNumber, First, Second, Third, Given, on_message, on_moment, member, voter_at, voter_of, PollState, ballot, held, poll_goes, poll_hears, poll_takes, PollGiven}
use Rattle.pseudo_time.specs.declared.nodes.NodeKind.TheVariants as kind
use Rattle.effect_form.specs.declared.effects.Effect.TheVariants as effect
use Rattle.message_form.specs.declared.messages.Message.TheVariants as message
use Rattle.message_form.specs.Posts.{Post, post, posts}
use Rattle.record_votes.specs.Voting.{Member, World, all_effects, opened, turned, took, heard, shut, crashed, Event, Goes, Delivered, Gates, Crashes, Hears, Polled, is_same_voter, with_member, with_poll, with_sent, post_at, to_poll, to_voter, delivered_to, delivered, after, run, Line, new_poll, founded, reached, gated, IsDecided, TwoDecided, Logs, entered, no_logs, Call, ended, left, logs_after}
use Rattle.record_votes.proofs.LogLemmas.{voted, voted-more, voted-has, Once, Single, Tidy, tidy-front, tidy-more, tidy-none, tidy-apart, single-front, some-same}
use Rattle.record_votes.proofs.MemberLemmas.{said, Says, message-says, moment-says}
use Rattle.record_votes.proofs.PollLemmas.{Two, votes_of, held-two, takes-hears, held-stays, shared}
use Rattle.record_votes.proofs.PollLemmas as polls

-- ---- a member

-- no premise
abbrev Sure : Type 0
Sure = Unit {0}

-- That its log decides each stamp once holds on a premise: that the logs that were opened did so.
pub record MemberFacts (P : Type 0) (m : Member) : Type 0 where
  pub once : P → Tidy (all_effects m)
  pub answers : (to : NodeId) (x : StampParts) (d : Decision) → Has (said to x d) m.owed → voted (all_effects m) x ≡ Some d

-- its durable log goes on
pub record Grows (old new : Member) : Type 0 where
  pub more : List Effect
  pub grown : new.gated ≡ old.gated ++ more

whole-turned : (m : Member) (moment : ℕ) (g : Given) → all_effects (turned m moment g) ≡ all_effects m ++ g.effects
whole-turned m moment g = sym (append_assoc m.gated m.fresh g.effects)

turned-facts : (P : Type 0) (m : Member) (moment : ℕ) (g : Given) → Says (all_effects m) g → MemberFacts P m → MemberFacts P (turned m moment g)
turned-facts P m moment g says facts = record {
  once = λ p. subst Tidy (sym (whole-turned m moment g)) (tidy-more (all_effects m) g.effects (facts.once p) says.fits);
  answers = λ to x d h. subst (λ l. voted l x ≡ Some d) (sym (whole-turned m moment g)) (elim (has-either m.owed g.outs (said to x d) h) [
    | inl k ↦ voted-more (all_effects m) g.effects x d (facts.answers to x d k)
    | inr k ↦ says.answers to x d k
  ]);
}

opened-facts : (P : Type 0) (moment : ℕ) (log : List Effect) → (P → Tidy log) → MemberFacts P (opened moment log)
opened-facts P moment log once = record { once = λ p. subst Tidy (sym (append-nil log)) (once p); answers = λ to x d h. absurd h }

kept-once : (m : Member) (kept : ℕ) → Tidy (all_effects m) → Tidy (m.gated ++ take kept m.fresh)
kept-once m kept once = tidy-front (m.gated ++ take kept m.fresh) (drop kept m.fresh)
    (subst Tidy (sym (append_assoc m.gated (take kept m.fresh) (drop kept m.fresh) ∙ ap (λ z. m.gated ++ z) (take-append-drop kept m.fresh))) once)

-- ---- the world

pub record Facts (P : Type 0) (lines : ℕ → Line) (w : World) : Type 0 where
  pub members : (s : MemberNumber) → MemberFacts P (w.members s)
  pub sent : (s : MemberNumber) (to : NodeId) (x : StampParts) (d : Decision) → Has (post (member s) (said to x d)) w.sent → voted (gated w s) x ≡ Some d
  pub stamps : (i : ℕ) → (w.polls i).stamp ≡ (lines i).stamp
  pub ballots : (i : ℕ) (s : MemberNumber) (c : Bool) → (ballot (w.polls i) s).vote ≡ Some c → (d : Decision) × (is_commit d ≡ c) × (voted (gated w s) (lines i).stamp ≡ Some d)

-- what never ends: durable logs go on, and votes stay
pub record Onward (old new : World) : Type 0 where
  pub logs : (s : MemberNumber) → Grows (old.members s) (new.members s)
  pub votes : (i : ℕ) (s : MemberNumber) (c : Bool) → (ballot (old.polls i) s).vote ≡ Some c → (ballot (new.polls i) s).vote ≡ Some c

same-log : (m : Member) → Grows m m
same-log m = record { more = []; grown = sym (append-nil m.gated) }

turned-grows : (m : Member) (moment : ℕ) (g : Given) → Grows m (turned m moment g)
turned-grows m moment g = record { more = []; grown = sym (append-nil m.gated) }

pub onward-same : (w : World) → Onward w w
onward-same w = record { logs = λ s. same-log (w.members s); votes = λ i s c h. h }

pub onward-on : (a b c : World) → Onward a b → Onward b c → Onward a c
onward-on a b c f g = record {
  logs = λ s. record { more = (f.logs s).more ++ (g.logs s).more; grown = (g.logs s).grown ∙ ap (λ z. z ++ (g.logs s).more) (f.logs s).grown ∙ append_assoc (gated a s) (f.logs s).more (g.logs s).more };
  votes = λ i s v h. g.votes i s v (f.votes i s v h);
}

grows-voted : (old new : Member) → Grows old new → (x : StampParts) (d : Decision) → voted old.gated x ≡ Some d → voted new.gated x ≡ Some d
grows-voted old new g x d h = subst (λ l. voted l x ≡ Some d) (sym g.grown) (voted-more old.gated g.more x d h)

at-voter : (P : MemberNumber → Member → Type 0) (f : MemberNumber → Member) (s : MemberNumber) (m : Member) → P s m → ((k : MemberNumber) → P k (f k)) → (k : MemberNumber) → P k (if is_same_voter s k then m else f k)
at-voter P f First m h g First = h
at-voter P f First m h g Second = g Second
at-voter P f First m h g Third = g Third
at-voter P f Second m h g First = g First
at-voter P f Second m h g Second = h
at-voter P f Second m h g Third = g Third
at-voter P f Third m h g First = g First
at-voter P f Third m h g Second = g Second
at-voter P f Third m h g Third = h

at-own : (f : MemberNumber → Member) (s : MemberNumber) (m : Member) → (if is_same_voter s s then m else f s) ≡ m
at-own f First m = refl
at-own f Second m = refl
at-own f Third m = refl

module _ (P : Type 0) (lines : ℕ → Line) where
  -- one member changes
  member-facts : (w : World) (s : MemberNumber) (m : Member) → MemberFacts P m → Grows (w.members s) m → Facts P lines w → Facts P lines (with_member w s m)
  member-facts w s m h g facts = record {
    members = at-voter (λ k z. MemberFacts P z) w.members s m h facts.members;
    sent = at-voter (λ k z. (to : NodeId) (x : StampParts) (d : Decision) → Has (post (member k) (said to x d)) w.sent → voted z.gated x ≡ Some d) w.members s m
        (λ to x d k. grows-voted (w.members s) m g x d (facts.sent s to x d k)) facts.sent;
    stamps = facts.stamps;
    ballots = λ i. at-voter (λ k z. (c : Bool) → (ballot (w.polls i) k).vote ≡ Some c → (d : Decision) × (is_commit d ≡ c) × (voted z.gated (lines i).stamp ≡ Some d)) w.members s m
        (λ c k. let b : (d : Decision) × (is_commit d ≡ c) × (voted (gated w s) (lines i).stamp ≡ Some d) = facts.ballots i s c k in (b.0, b.1, grows-voted (w.members s) m g (lines i).stamp b.0 b.2)) (facts.ballots i);
  }

  -- messages are sent
  sent-facts : (w : World) (more : List Post) → ((s : MemberNumber) (to : NodeId) (x : StampParts) (d : Decision) → Has (post (member s) (said to x d)) more → voted (gated w s) x ≡ Some d)
      → Facts P lines w → Facts P lines (with_sent w more)
  sent-facts w more f facts = record {
    members = facts.members;
    sent = λ s to x d h. elim (has-either w.sent more (post (member s) (said to x d)) h) [
      | inl k ↦ facts.sent s to x d k
      | inr k ↦ f s to x d k
    ];
    stamps = facts.stamps;
    ballots = facts.ballots;
  }

member-onward : (w : World) (s : MemberNumber) (m : Member) → Grows (w.members s) m → Onward w (with_member w s m)
member-onward w s m g = record { logs = at-voter (λ k z. Grows (w.members k) z) w.members s m g (λ k. same-log (w.members k)); votes = λ i k c h. h }

-- ---- posts

has-post : (from : NodeId) (outs : List Out) (p : Post) → Has p (posts from outs) → (p.from ≡ from) × Has (record { to = p.to; message = p.message }) outs
has-post from [] p h = absurd h
has-post from (o ∷ outs) p (inl e) = (sym (ap (λ z. z.from) e), inl (ap (λ (z : Post). let r : Out = record { to = z.to; message = z.message } in r) e))
has-post from (o ∷ outs) p (inr k) = let h : (p.from ≡ from) × Has (record { to = p.to; message = p.message }) outs = has-post from outs p k in (h.0, inr h.1)

member≢broker : (s : MemberNumber) (i : ℕ) → member s ≡ broker i → ⊥
member≢broker s i e = let k : kind.Repository ≡ kind.Broker = ap (λ z. z.kind) e in cc k

voter-back : (s : MemberNumber) → voter_of (member s) ≡ Some s
voter-back First = refl
voter-back Second = refl
voter-back Third = refl

same-voter : (a b : MemberNumber) → member a ≡ member b → a ≡ b
same-voter a b e = let k : Some a ≡ Some b = sym (voter-back a) ∙ ap voter_of e ∙ voter-back b in cc k

broker-post : (w : World) (i : ℕ) (outs : List Out) (s : MemberNumber) (to : NodeId) (x : StampParts) (d : Decision) → Has (post (member s) (said to x d)) (posts (broker i) outs) → voted (gated w s) x ≡ Some d
broker-post w i outs s to x d h = absurd (member≢broker s i (has-post (broker i) outs (post (member s) (said to x d)) h).0)

at-post : (ps : List Post) (k : ℕ) (p : Post) → post_at ps k ≡ Some p → Has p ps
at-post [] k p h = absurd (cc h)
at-post (q ∷ ps) zero p h = let e : q ≡ p = cc h in inl e
at-post (q ∷ ps) (suc k) p h = inr (at-post ps k p h)

-- ---- a poll changes

at-if : (P : ℕ → PollState → Type 0) (i k : ℕ) (p q : PollState) (b : Bool) → (b ≡ true → i ≡ k) → P i p → P k q → P k (if b then p else q)
at-if P i k p q true e h g = subst (λ z. P z p) (e refl) h
at-if P i k p q false e h g = g

at-poll : (P : ℕ → PollState → Type 0) (f : ℕ → PollState) (i : ℕ) (p : PollState) → P i p → ((k : ℕ) → P k (f k)) → (k : ℕ) → P k (if i == k then p else f k)
at-poll P f i p h g k = at-if P i k p (f k) (i == k) (eqb-true i k) h (g k)

module _ (lines : ℕ → Line) where
  abbrev IsBacked : World → ℕ → MemberNumber → Bool → Type 0
  IsBacked w i s c = (d : Decision) × (is_commit d ≡ c) × (voted (gated w s) (lines i).stamp ≡ Some d)

module _ (P : Type 0) (lines : ℕ → Line) where
  poll-facts : (w : World) (i : ℕ) (p : PollState) → p.stamp ≡ (lines i).stamp → ((s : MemberNumber) (c : Bool) → (ballot p s).vote ≡ Some c → IsBacked lines w i s c) → Facts P lines w → Facts P lines (with_poll w i p)
  poll-facts w i p e f facts = record {
    members = facts.members;
    sent = facts.sent;
    stamps = at-poll (λ k q. q.stamp ≡ (lines k).stamp) w.polls i p e facts.stamps;
    ballots = at-poll (λ k q. (s : MemberNumber) (c : Bool) → (ballot q s).vote ≡ Some c → IsBacked lines w k s c) w.polls i p f facts.ballots;
  }

  to-poll-facts : (w : World) (i : ℕ) (p : Post) → Has p w.sent → Facts P lines w → Facts P lines (to_poll w i (poll_takes (w.polls i) p.from p.message))
  to-poll-facts w i p come facts =
      let g : PollGiven = poll_takes (w.polls i) p.from p.message in
      let h : polls.Hears p.from p.message (w.polls i) g.poll = takes-hears p.from p.message (w.polls i) in
      sent-facts P lines (with_poll w i g.poll) (posts (broker i) g.outs) (broker-post (with_poll w i g.poll) i g.outs)
      (poll-facts w i g.poll (h.stamp ∙ facts.stamps i)
      (λ s c k. elim (h.cause s c k) [
        | inl old ↦ facts.ballots i s c old
        | inr new ↦ (let d : Decision = new.0 in
            let from_there : p.from ≡ member s = new.2 in
            let decided : p.message ≡ message.Decided (lines i).stamp d = new.3 ∙ ap (λ z. message.Decided z d) (facts.stamps i) in
            let there : p ≡ post (member s) (said p.to (lines i).stamp d) =
            ap (λ z. let r : Post = record { from = z; to = p.to; message = p.message } in r) from_there
            ∙ ap (λ z. let r : Post = record { from = member s; to = p.to; message = z } in r) decided in
            (d, new.1, facts.sent s p.to (lines i).stamp d (subst (λ z. Has z w.sent) there come)))
      ]) facts)

  to-voter-facts : (w : World) (from : NodeId) (m : Message) (s : Option MemberNumber) → Facts P lines w → Facts P lines (to_voter w from m s)
  to-voter-facts w from m None facts = facts
  to-voter-facts w from m (Some s) facts =
      let x : Member = w.members s in
      member-facts P lines w s (took x from m) (turned-facts P x x.moment (on_message (all_effects x) x.moment from m) (message-says (all_effects x) x.moment from m) (facts.members s)) (turned-grows x x.moment (on_message (all_effects x) x.moment from m)) facts

  to-kind-facts : (w : World) (p : Post) (k : NodeKind) → Has p w.sent → Facts P lines w → Facts P lines (delivered_to w p k)
  to-kind-facts w p kind.Broker come facts = to-poll-facts w p.to.number p come facts
  to-kind-facts w p kind.Repository come facts = to-voter-facts w p.from p.message (voter_at p.to.number) facts

  delivered-facts : (w : World) (p : Option Post) → ((q : Post) → p ≡ Some q → Has q w.sent) → Facts P lines w → Facts P lines (delivered w p)
  delivered-facts w None come facts = facts
  delivered-facts w (Some p) come facts = to-kind-facts w p p.to.kind (come p refl) facts

  shut-sent : (w : World) (s : MemberNumber) → Facts P lines w → (k : MemberNumber) (to : NodeId) (x : StampParts) (d : Decision)
      → Has (post (member k) (said to x d)) (posts (member s) (w.members s).owed) → voted (gated (with_member w s (shut (w.members s))) k) x ≡ Some d
  shut-sent w s facts k to x d h =
      let p : (member k ≡ member s) × Has (said to x d) (w.members s).owed = has-post (member s) (w.members s).owed (post (member k) (said to x d)) h in
      subst (λ z. voted (gated (with_member w s (shut (w.members s))) z) x ≡ Some d) (sym (same-voter k s p.0))
      (subst (λ z. voted z.gated x ≡ Some d) (sym (at-own w.members s (shut (w.members s)))) ((facts.members s).answers to x d p.1))

  step-facts : (w : World) (e : Event) → Facts P lines w → Facts P lines (after w e)
  step-facts w (Goes i) facts = sent-facts P lines w (posts (broker i) (poll_goes (w.polls i))) (broker-post w i (poll_goes (w.polls i))) facts
  step-facts w (Delivered k) facts = delivered-facts w (post_at w.sent k) (λ q h. at-post w.sent k q h) facts
  step-facts w (Gates s) facts =
      let x : Member = w.members s in
      sent-facts P lines (with_member w s (shut x)) (posts (member s) x.owed) (shut-sent w s facts)
      (member-facts P lines w s (shut x) (opened-facts P x.moment (all_effects x) (facts.members s).once) (record { more = x.fresh; grown = refl }) facts)
  step-facts w (Crashes s kept moment) facts =
      let x : Member = w.members s in
      member-facts P lines w s (crashed x kept moment) (opened-facts P moment (x.gated ++ take kept x.fresh) (λ p. kept-once x kept ((facts.members s).once p))) (record { more = take kept x.fresh; grown = refl }) facts
  step-facts w (Hears s moment) facts =
      let x : Member = w.members s in
      member-facts P lines w s (heard x moment) (turned-facts P x moment (on_moment (all_effects x) moment) (moment-says (all_effects x) moment) (facts.members s)) (turned-grows x moment (on_moment (all_effects x) moment)) facts
  step-facts w (Polled i moment) facts = sent-facts P lines w (posts (broker i) (poll_hears (w.polls i))) (broker-post w i (poll_hears (w.polls i))) facts

  pub run-facts : (w : World) (es : List Event) → Facts P lines w → Facts P lines (run w es)
  run-facts w [] facts = facts
  run-facts w (e ∷ es) facts = run-facts (after w e) es (step-facts w e facts)

  pub founded-facts : (start : MemberNumber → ℕ) → Facts P lines (founded start lines)
  founded-facts start = record {
    members = λ s. opened-facts P (start s) [] (λ p. tidy-none);
    sent = λ s to x d h. absurd h;
    stamps = λ i. refl;
    ballots = λ i s c. elim s as (λ s. (ballot (new_poll i (lines i)) s).vote ≡ Some c → IsBacked lines (founded start lines) i s c) [ First ↦ λ h. absurd (cc h) | Second ↦ λ h. absurd (cc h) | Third ↦ λ h. absurd (cc h) ];
  }

  pub reached-facts : (start : MemberNumber → ℕ) (es : List Event) → Facts P lines (reached start lines es)
  reached-facts start es = run-facts (founded start lines) es (founded-facts start)

-- ---- what never ends

poll-onward : (w : World) (i : ℕ) (p : PollState) → ((s : MemberNumber) (c : Bool) → (ballot (w.polls i) s).vote ≡ Some c → (ballot p s).vote ≡ Some c) → Onward w (with_poll w i p)
poll-onward w i p f = record {
  logs = λ s. same-log (w.members s);
  votes = at-poll (λ k q. (s : MemberNumber) (c : Bool) → (ballot (w.polls k) s).vote ≡ Some c → (ballot q s).vote ≡ Some c) w.polls i p f (λ k s c h. h);
}

sent-onward : (old w : World) (more : List Post) → Onward old w → Onward old (with_sent w more)
sent-onward old w more h = record { logs = h.logs; votes = h.votes }

voter-onward : (w : World) (from : NodeId) (m : Message) (s : Option MemberNumber) → Onward w (to_voter w from m s)
voter-onward w from m None = onward-same w
voter-onward w from m (Some s) =
    let x : Member = w.members s in
    member-onward w s (took x from m) (turned-grows x x.moment (on_message (all_effects x) x.moment from m))

kind-onward : (w : World) (p : Post) (k : NodeKind) → Onward w (delivered_to w p k)
kind-onward w p kind.Broker =
    let i : ℕ = p.to.number in
    let g : PollGiven = poll_takes (w.polls i) p.from p.message in
    sent-onward w (with_poll w i g.poll) (posts (broker i) g.outs) (poll-onward w i g.poll (takes-hears p.from p.message (w.polls i)).stays)
kind-onward w p kind.Repository = voter-onward w p.from p.message (voter_at p.to.number)

delivered-onward : (w : World) (p : Option Post) → Onward w (delivered w p)
delivered-onward w None = onward-same w
delivered-onward w (Some p) = kind-onward w p p.to.kind

step-onward : (w : World) (e : Event) → Onward w (after w e)
step-onward w (Goes i) = sent-onward w w (posts (broker i) (poll_goes (w.polls i))) (onward-same w)
step-onward w (Delivered k) = delivered-onward w (post_at w.sent k)
step-onward w (Gates s) =
    let x : Member = w.members s in
    sent-onward w (with_member w s (shut x)) (posts (member s) x.owed) (member-onward w s (shut x) (record { more = x.fresh; grown = refl }))
step-onward w (Crashes s kept moment) =
    let x : Member = w.members s in
    member-onward w s (crashed x kept moment) (record { more = take kept x.fresh; grown = refl })
step-onward w (Hears s moment) =
    let x : Member = w.members s in
    member-onward w s (heard x moment) (turned-grows x moment (on_moment (all_effects x) moment))
step-onward w (Polled i moment) = sent-onward w w (posts (broker i) (poll_hears (w.polls i))) (onward-same w)

pub run-onward : (w : World) (es : List Event) → Onward w (run w es)
run-onward w [] = onward-same w
run-onward w (e ∷ es) = onward-on w (after w e) (run (after w e) es) (step-onward w e) (run-onward (after w e) es)

run-append : (w : World) (es more : List Event) → run w (es ++ more) ≡ run (run w es) more
run-append w [] more = refl
run-append w (e ∷ es) more = run-append (after w e) es more

-- ---- the law

module _ (start : MemberNumber → ℕ) (lines : ℕ → Line) where
  abbrev at : List Event → World
  at es = reached start lines es

  -- a vote that a poll holds stands in that member's durable log
  backed : (es : List Event) (i : ℕ) (s : MemberNumber) (c : Bool) → (ballot ((at es).polls i) s).vote ≡ Some c → IsDecided (gated (at es) s) (lines i).stamp c
  backed es i s c h =
      let b : IsBacked lines (at es) i s c = (reached-facts Sure lines start es).ballots i s c h in
      (b.0, b.1, voted-has (gated (at es) s) (lines i).stamp b.0 b.2)

  pub later-held : (es more : List Event) (i : ℕ) (c : Bool) → held ((at es).polls i) ≡ Some c → held ((at (es ++ more)).polls i) ≡ Some c
  later-held es more i c h = subst (λ z. held (z.polls i) ≡ Some c) (sym (run-append (founded start lines) es more))
      (held-stays ((at es).polls i) ((run (at es) more).polls i) c ((run-onward (at es) more).votes i) h)

  two-now : (es : List Event) (i : ℕ) (c : Bool) → held ((at es).polls i) ≡ Some c → TwoDecided (at es) (lines i).stamp c
  two-now es i c h =
      let t : Two (votes_of ((at es).polls i)) c = held-two ((at es).polls i) c h in
      record { one = t.one; other = t.other; apart = t.apart; one_decided = backed es i t.one c t.one_vote; other_decided = backed es i t.other c t.other_vote }

  pub two-decided : (es more : List Event) (i : ℕ) (c : Bool) → held ((at es).polls i) ≡ Some c → TwoDecided (at (es ++ more)) (lines i).stamp c
  two-decided es more i c h = two-now (es ++ more) i c (later-held es more i c h)

  pub decided-once : (es : List Event) (m : MemberNumber) (s : StampParts) (d e : Decision) → Has (effect.Decide s d) (gated (at es) m) → Has (effect.Decide s e) (gated (at es) m) → d ≡ e
  decided-once es m s d e h k =
      let x : Member = (at es).members m in
      let o : Once (all_effects x) = (((reached-facts Sure lines start es).members m).once tt).once in
      some-same (voted (all_effects x) s) d e (o s d (has-left x.gated x.fresh (effect.Decide s d) h)) (o s e (has-left x.gated x.fresh (effect.Decide s e) k))

  pub decided-single : (es : List Event) (m : MemberNumber) (a b : List Effect) (s : StampParts) (d e : Decision) → gated (at es) m ≡ a ++ effect.Decide s d ∷ b → Has (effect.Decide s e) b → ⊥
  decided-single es m a b s d e is h =
      let x : Member = (at es).members m in
      tidy-apart a b s d e (subst Single is (single-front x.gated x.fresh (((reached-facts Sure lines start es).members m).once tt).single)) h

  one-way : (es : List Event) (m : MemberNumber) (s : StampParts) (c d : Bool) → IsDecided (gated (at es) m) s c → IsDecided (gated (at es) m) s d → c ≡ d
  one-way es m s c d h k = sym h.1 ∙ ap is_commit (decided-once es m s h.0 k.0 h.2 k.2) ∙ k.1

  two-agree : (es : List Event) (s : StampParts) (c d : Bool) → TwoDecided (at es) s c → TwoDecided (at es) s d → c ≡ d
  two-agree es s c d a b = elim (shared a.one a.other b.one b.other a.apart b.apart) [
    | inl h ↦ elim h [
      | inl e ↦ one-way es b.one s c d (subst (λ z. IsDecided (gated (at es) z) s c) e a.one_decided) b.one_decided
      | inr e ↦ one-way es b.other s c d (subst (λ z. IsDecided (gated (at es) z) s c) e a.one_decided) b.other_decided
    ]
    | inr h ↦ elim h [
      | inl e ↦ one-way es b.one s c d (subst (λ z. IsDecided (gated (at es) z) s c) e a.other_decided) b.one_decided
      | inr e ↦ one-way es b.other s c d (subst (λ z. IsDecided (gated (at es) z) s c) e a.other_decided) b.other_decided
    ]
  ]

  pub no-two : (es more : List Event) (i j : ℕ) (c d : Bool) → (lines i).stamp ≡ (lines j).stamp
      → held ((at es).polls i) ≡ Some c → held ((at (es ++ more)).polls j) ≡ Some d → c ≡ d
  no-two es more i j c d e h k =
      two-agree (es ++ more) (lines j).stamp c d (subst (λ z. TwoDecided (at (es ++ more)) z c) e (two-decided es more i c h)) (two-now (es ++ more) j d k)

-- ---- one call after the other

pub facts-two : (P : Type 0) (lines : ℕ → Line) (w : World) → Facts P lines w → (i : ℕ) (c : Bool) → held (w.polls i) ≡ Some c → TwoDecided w (lines i).stamp c
facts-two P lines w facts i c h =
    let t : Two (votes_of (w.polls i)) c = held-two (w.polls i) c h in
    record { one = t.one; other = t.other; apart = t.apart; one_decided = stands t.one t.one_vote; other_decided = stands t.other t.other_vote }
  where
    stands : (s : MemberNumber) → (ballot (w.polls i) s).vote ≡ Some c → IsDecided (gated w s) (lines i).stamp c
    stands s v = let b : IsBacked lines w i s c = facts.ballots i s c v in (b.0, b.1, voted-has (gated w s) (lines i).stamp b.0 b.2)

facts-one : (lines : ℕ → Line) (w : World) → Facts Sure lines w → (m : MemberNumber) (s : StampParts) (c d : Bool) → IsDecided (gated w m) s c → IsDecided (gated w m) s d → c ≡ d
facts-one lines w facts m s c d h k =
    let x : Member = w.members m in
    let o : Once (all_effects x) = ((facts.members m).once tt).once in
    let e : h.0 ≡ k.0 = some-same (voted (all_effects x) s) h.0 k.0 (o s h.0 (has-left x.gated x.fresh (effect.Decide s h.0) h.2)) (o s k.0 (has-left x.gated x.fresh (effect.Decide s k.0) k.2)) in
    sym h.1 ∙ ap is_commit e ∙ k.1

facts-agree : (lines : ℕ → Line) (w : World) → Facts Sure lines w → (s : StampParts) (c d : Bool) → TwoDecided w s c → TwoDecided w s d → c ≡ d
facts-agree lines w facts s c d a b = elim (shared a.one a.other b.one b.other a.apart b.apart) [
  | inl h ↦ elim h [
    | inl e ↦ facts-one lines w facts b.one s c d (subst (λ z. IsDecided (gated w z) s c) e a.one_decided) b.one_decided
    | inr e ↦ facts-one lines w facts b.other s c d (subst (λ z. IsDecided (gated w z) s c) e a.one_decided) b.other_decided
  ]
  | inr h ↦ elim h [
    | inl e ↦ facts-one lines w facts b.one s c d (subst (λ z. IsDecided (gated w z) s c) e a.other_decided) b.one_decided
    | inr e ↦ facts-one lines w facts b.other s c d (subst (λ z. IsDecided (gated w z) s c) e a.other_decided) b.other_decided
  ]
]

abbrev Onces : Logs → Type 0
Onces logs = (s : MemberNumber) → Tidy (logs s)

pub entered-facts : (P : Type 0) (start : MemberNumber → ℕ) (logs : Logs) (lines : ℕ → Line) → (P → Onces logs) → Facts P lines (entered start logs lines)
entered-facts P start logs lines once = record {
  members = λ s. opened-facts P (start s) (logs s) (λ p. once p s);
  sent = λ s to x d h. absurd h;
  stamps = λ i. refl;
  ballots = λ i s c. elim s as (λ s. (ballot (new_poll i (lines i)) s).vote ≡ Some c → IsBacked lines (entered start logs lines) i s c) [ First ↦ λ h. absurd (cc h) | Second ↦ λ h. absurd (cc h) | Third ↦ λ h. absurd (cc h) ];
}

ended-facts : (logs : Logs) (c : Call) → Onces logs → Facts Sure c.lines (ended logs c)
ended-facts logs c once = run-facts Sure c.lines (entered c.start logs c.lines) c.events (entered-facts Sure c.start logs c.lines (λ p. once))

left-onces : (logs : Logs) (c : Call) → Onces logs → Onces (left logs c)
left-onces logs c once s = kept-once ((ended logs c).members s) (c.kept s) (((ended-facts logs c once).members s).once tt)

after-onces : (logs : Logs) (cs : List Call) → Onces logs → Onces (logs_after logs cs)
after-onces logs [] once = once
after-onces logs (c ∷ cs) once = after-onces (left logs c) cs (left-onces logs c once)

-- what stands when a call begins stands in its durable logs
entered-has : (logs : Logs) (c : Call) (s : MemberNumber) (f : Effect) → Has f (logs s) → Has f (gated (ended logs c) s)
entered-has logs c s f h =
    let g : Grows (opened (c.start s) (logs s)) ((ended logs c).members s) = (run-onward (entered c.start logs c.lines) c.events).logs s in
    subst (Has f) (sym g.grown) (has-left (logs s) g.more f h)

left-has : (logs : Logs) (c : Call) (s : MemberNumber) (f : Effect) → Has f (gated (ended logs c) s) → Has f (left logs c s)
left-has logs c s f h = has-left (gated (ended logs c) s) (take (c.kept s) ((ended logs c).members s).fresh) f h

after-has : (logs : Logs) (cs : List Call) (s : MemberNumber) (f : Effect) → Has f (logs s) → Has f (logs_after logs cs s)
after-has logs [] s f h = h
after-has logs (c ∷ cs) s f h = after-has (left logs c) cs s f (left-has logs c s f (entered-has logs c s f h))

after-append : (logs : Logs) (a b : List Call) → logs_after logs (a ++ b) ≡ logs_after (logs_after logs a) b
after-append logs [] b = refl
after-append logs (c ∷ a) b = after-append (left logs c) a b

later-two : (logs : Logs) (c d : Call) (between : List Call) (s : StampParts) (v : Bool) → TwoDecided (ended logs c) s v → TwoDecided (ended (logs_after logs (c ∷ between)) d) s v
later-two logs c d between s v t = record { one = t.one; other = t.other; apart = t.apart; one_decided = later t.one t.one_decided; other_decided = later t.other t.other_decided }
  where
    later : (m : MemberNumber) → IsDecided (gated (ended logs c) m) s v → IsDecided (gated (ended (logs_after logs (c ∷ between)) d) m) s v
    later m h = (h.0, h.1, entered-has (logs_after logs (c ∷ between)) d m (effect.Decide s h.0) (after-has (left logs c) between m (effect.Decide s h.0) (left-has logs c m (effect.Decide s h.0) h.2)))

-- two polls of one stamp, in whatever calls
pub no-two-calls : (before between : List Call) (c d : Call) (i j : ℕ) (x y : Bool) → (c.lines i).stamp ≡ (d.lines j).stamp
    → held ((ended (logs_after no_logs before) c).polls i) ≡ Some x → held ((ended (logs_after no_logs (before ++ c ∷ between)) d).polls j) ≡ Some y → x ≡ y
no-two-calls before between c d i j x y e h k =
    let logs : Logs = logs_after no_logs before in
    let next : Logs = logs_after logs (c ∷ between) in
    let once : Onces logs = after-onces no_logs before (λ s. tidy-none) in
    let later : Onces next = after-onces logs (c ∷ between) once in
    let a : TwoDecided (ended next d) (d.lines j).stamp x = subst (λ z. TwoDecided (ended next d) z x) e (later-two logs c d between (c.lines i).stamp x (facts-two Sure c.lines (ended logs c) (ended-facts logs c once) i x h)) in
    let b : TwoDecided (ended next d) (d.lines j).stamp y = facts-two Sure d.lines (ended next d) (ended-facts next d later) j y
    (subst (λ z. held ((ended z d).polls j) ≡ Some y) (after-append no_logs before (c ∷ between)) k) in
    facts-agree d.lines (ended next d) (ended-facts next d later) (d.lines j).stamp x y a b
