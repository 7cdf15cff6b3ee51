-- A legal vote trace is a run of the world of votes, in which a poll's messages are sent when it owes them.
use Rattle.std.proofs.Math.Path.{fun_ext}
use Rattle.vote_traces.proofs.Names.{Has, has-left, has-right, repository, broker, is_broker, NodeId, NodeKind, Out, Post, posts, numbered, Fate, MemberNumber, First, Second, Third, member, voter_at, PollState, poll_goes, poll_hears, poll_takes, held, Member, took, heard, shut, crashed, Line, Entry, Take, Go, Learn, Hear, Gate, Crash, Down, Tick, Sending, Base, Hall, line_at, log_at, start_hall, member_took, member_heard, poll_took, poll_heard, voter_life, step, walk_from, Trace, fates_of, Rule, Meets, Legal, base_of, hall_after, Asked, ◌≡◌, ℕ, zero, suc, Bool, true, false, List, [], ◌∷◌, ◌++◌, map, take, inl, inr, refl, sym, ap, subst, ◌∙◌, Option, Some, None, ◌==◌, if◌then◌else◌, eqb-true, append-nil, has-either, post, number_of, is_same_voter, with_member, with_poll, with_sent, post_at, to_poll, to_voter, delivered, Event, Goes, Delivered, Gates, Crashes, Hears, Polled, Logs, entered, run, ended, left, no_logs, IsDecided}
use Rattle.pseudo_time.specs.declared.nodes.NodeKind.TheVariants as kind
use Rattle.record_votes.specs.Voting as voting
use Rattle.record_votes.proofs.PollLemmas.{voter-member}
use Rattle.record_votes.proofs.WorldLemmas.{run-facts, entered-facts, facts-two, no-two-calls}
use Rattle.vote_traces.specs.Replays.{IsRun, TwoDecided, Call, IsCall, AreCalls, log_left, logs_after}
use Rattle.pseudo_time.specs.declared.down_causes.DownCause.{DownCause}

-- The world has the same members and polls, and all that was sent; and what polls owe.
pub record Follows (members : MemberNumber → Member) (polls : ℕ → PollState) (owed : ℕ → List Out) (sendings : List Sending) (w : voting.World) : Type 0 where
  pub members_are : w.members ≡ members
  pub polls_are : w.polls ≡ polls
  pub sent : (s : Sending) → Has s sendings → Has s.post w.sent
  pub ready : (i : ℕ) (o : Out) → Has o (owed i) → Has (post (broker i) o) w.sent

abbrev pub Follow : Hall → voting.World → Type 0
Follow h w = Follows h.members h.polls h.owed h.sendings w

-- ---- one member, one poll

if-same : {X : Type 0} (t : Bool) (x : X) → (if t then x else x) ≡ x
if-same true x = refl
if-same false x = refl

own-member : (f : MemberNumber → Member) (F : Member → Member) (s k : MemberNumber) → (if is_same_voter s k then F (f s) else f k) ≡ (if is_same_voter s k then F (f k) else f k)
own-member f F First First = refl
own-member f F First Second = refl
own-member f F First Third = refl
own-member f F Second First = refl
own-member f F Second Second = refl
own-member f F Second Third = refl
own-member f F Third First = refl
own-member f F Third Second = refl
own-member f F Third Third = refl

own-if : {X : Type 0} (f : ℕ → X) (F : X → X) (i k : ℕ) (t : Bool) → (t ≡ true → i ≡ k) → (if t then F (f i) else f k) ≡ (if t then F (f k) else f k)
own-if f F i k true e = ap (λ z. F (f z)) (e refl)
own-if f F i k false e = refl

own-poll : {X : Type 0} (f : ℕ → X) (F : X → X) (i k : ℕ) → (if i == k then F (f i) else f k) ≡ (if i == k then F (f k) else f k)
own-poll f F i k = own-if f F i k (i == k) (eqb-true i k)

has-sending : (ticks : ℕ) (ps : List Post) (s : Sending) → Has s (map (λ (p : Post). let r : Sending = record { post = p; ticks = ticks } in r) ps) → Has s.post ps
has-sending ticks [] s h = absurd h
has-sending ticks (p ∷ ps) s (inl e) = inl (ap (λ (z : Sending). z.post) e)
has-sending ticks (p ∷ ps) s (inr k) = inr (has-sending ticks ps s k)

has-posts : (n : NodeId) (outs : List Out) (p : Post) → Has p (posts n outs) → (o : Out) × Has o outs × (p ≡ post n o)
has-posts n [] p h = absurd h
has-posts n (o ∷ outs) p (inl e) = (o, inl refl, sym e)
has-posts n (o ∷ outs) p (inr k) = let h : (q : Out) × Has q outs × (p ≡ post n q) = has-posts n outs p k in (h.0, inr h.1, h.2)

posts-has : (n : NodeId) (outs : List Out) (o : Out) → Has o outs → Has (post n o) (posts n outs)
posts-has n [] o h = absurd h
posts-has n (x ∷ outs) o (inl e) = inl (ap (post n) e)
posts-has n (x ∷ outs) o (inr k) = inr (posts-has n outs o k)

place-of : (ps : List Post) (p : Post) → Has p ps → (k : ℕ) × (post_at ps k ≡ Some p)
place-of [] p h = absurd h
place-of (q ∷ ps) p (inl e) = (0, ap Some e)
place-of (q ∷ ps) p (inr k) = let r : (j : ℕ) × (post_at ps j ≡ Some p) = place-of ps p k in (suc r.0, r.1)

numbered-has : (ss : List Sending) (k : ℕ) (s : Sending) → numbered ss k ≡ Some s → Has s ss
numbered-has ss zero s h = absurd (cc h)
numbered-has [] (suc k) s h = absurd (cc h)
numbered-has (x ∷ ss) (suc zero) s h = inl (cc h)
numbered-has (x ∷ ss) (suc (suc k)) s h = inr (numbered-has ss (suc k) s h)

module _ (members : MemberNumber → Member) (polls : ℕ → PollState) (owed : ℕ → List Out) (sendings : List Sending) (w : voting.World) (f : Follows members polls owed sendings w) where
  -- a member changes, and what was sent may grow by as much
  change-member : (F : Member → Member) (s : MemberNumber) → Follows (λ k. if is_same_voter s k then F (members k) else members k) polls owed sendings (with_member w s (F (w.members s)))
  change-member F s = record {
    members_are = ap (λ (g : MemberNumber → Member). λ k. if is_same_voter s k then F (g s) else g k) f.members_are ∙ fun_ext (own-member members F s);
    polls_are = f.polls_are;
    sent = f.sent;
    ready = f.ready;
  }

  -- a poll changes, and owes more
  change-poll : (F : PollState → PollState) (G : PollState → List Out) (i : ℕ)
      → Follows members (λ k. if i == k then F (polls k) else polls k) (λ k. if i == k then owed k ++ G (polls k) else owed k) sendings
      (with_sent (with_poll w i (F (w.polls i))) (posts (broker i) (G (w.polls i))))
  change-poll F G i = record {
    members_are = f.members_are;
    polls_are = ap (λ (g : ℕ → PollState). λ k. if i == k then F (g i) else g k) f.polls_are ∙ fun_ext (own-poll polls F i);
    sent = λ s h. has-left w.sent (posts (broker i) (G (w.polls i))) s.post (f.sent s h);
    ready = λ k o h. owes k (i == k) (eqb-true i k) o h;
  }
    where
      owes : (k : ℕ) (t : Bool) → (t ≡ true → i ≡ k) → (o : Out) → Has o (if t then owed k ++ G (polls k) else owed k) → Has (post (broker k) o) (w.sent ++ posts (broker i) (G (w.polls i)))
      owes k true e o h = elim (has-either (owed k) (G (polls k)) o h) [
        | inl old ↦ has-left w.sent (posts (broker i) (G (w.polls i))) (post (broker k) o) (f.ready k o old)
        | inr new ↦ has-right w.sent (posts (broker i) (G (w.polls i))) (post (broker k) o)
            (subst (λ z. Has (post (broker z) o) (posts (broker i) (G (w.polls i)))) (e refl)
            (posts-has (broker i) (G (w.polls i)) o (subst (λ (q : PollState). Has o (G q)) (ap polls (sym (e refl)) ∙ sym (ap (λ (g : ℕ → PollState). g i) f.polls_are)) new)))
      ]
      owes k false e o h = has-left w.sent (posts (broker i) (G (w.polls i))) (post (broker k) o) (f.ready k o h)

  -- a poll owes more, and is as before
  more-owed : (G : PollState → List Out) (i : ℕ)
      → Follows members (λ k. if i == k then polls k else polls k) (λ k. if i == k then owed k ++ G (polls k) else owed k) sendings (with_sent w (posts (broker i) (G (w.polls i))))
  more-owed G i =
      let h = change-poll (λ q. q) G i in
      record { members_are = f.members_are; polls_are = f.polls_are ∙ fun_ext (λ k. sym (if-same (i == k) (polls k))); sent = h.sent; ready = h.ready }

  -- nothing changes but the messages, all of which were sent before
  more-sendings : (n : NodeId) (ticks : ℕ) (outs : List Out) (all : voting.World) → Follows members polls owed sendings all → ((o : Out) → Has o outs → Has (post n o) all.sent)
      → Follows members polls owed (sendings ++ map (λ (p : Post). let r : Sending = record { post = p; ticks = ticks } in r) (posts n outs)) all
  more-sendings n ticks outs all g were = record {
    members_are = g.members_are;
    polls_are = g.polls_are;
    sent = λ s h. elim (has-either sendings (map (λ (p : Post). let r : Sending = record { post = p; ticks = ticks } in r) (posts n outs)) s h) [
      | inl old ↦ g.sent s old
      | inr new ↦ (let q : (o : Out) × Has o outs × (s.post ≡ post n o) = has-posts n outs s.post (has-sending ticks (posts n outs) s new) in
          subst (λ z. Has z all.sent) (sym q.2) (were q.0 q.1))
    ];
    ready = g.ready;
  }

-- the same hall, said otherwise
same-hall : (ms ms' : MemberNumber → Member) (ps ps' : ℕ → PollState) (owed : ℕ → List Out) (ss : List Sending) (w : voting.World) → ms ≡ ms' → ps ≡ ps' → Follows ms ps owed ss w → Follows ms' ps' owed ss w
same-hall ms ms' ps ps' owed ss w e d f = record { members_are = f.members_are ∙ e; polls_are = f.polls_are ∙ d; sent = f.sent; ready = f.ready }

-- what a poll no longer owes
less-owed : (ms : MemberNumber → Member) (ps : ℕ → PollState) (owed fewer : ℕ → List Out) (ss : List Sending) (w : voting.World) → ((i : ℕ) (o : Out) → Has o (fewer i) → Has o (owed i)) → Follows ms ps owed ss w → Follows ms ps fewer ss w
less-owed ms ps owed fewer ss w less f = record { members_are = f.members_are; polls_are = f.polls_are; sent = f.sent; ready = λ i o h. f.ready i o (less i o h) }

-- ---- no member has another number

is-voter : (i : ℕ) (s : MemberNumber) → (i == number_of s) ≡ true → voter_at i ≡ Some s
is-voter i s h = ap voter_at (eqb-true i (number_of s) h) ∙ at-number s
  where
    at-number : (s : MemberNumber) → voter_at (number_of s) ≡ Some s
    at-number First = refl
    at-number _ = refl

no-voter : (i : ℕ) (s : MemberNumber) (x y : Member) → voter_at i ≡ None → (if i == number_of s then x else y) ≡ y
no-voter i s x y none = go (i == number_of s) refl
  where
    go : (t : Bool) → (i == number_of s) ≡ t → (if t then x else y) ≡ y
    go true e = let k : ◌≡◌ {A = Option MemberNumber} None (Some s) = sym none ∙ is-voter i s e in absurd (cc k)
    go false e = refl

-- ---- one entry

module _ (b : Base) where
  -- the events of an entry, and where they lead
  abbrev Goes-on : Hall → voting.World → Type 0
  Goes-on h w = (es : List Event) × Follow h (run w es)

  -- a node of this kind and number
  abbrev node : NodeKind → ℕ → NodeId
  node k i = record { kind = k; number = i }

  -- ---- a member's entry

  abbrev members-with : Hall → (Member → Member) → ℕ → MemberNumber → Member
  members-with h F i s = if i == number_of s then F (h.members s) else h.members s

  -- where this member is, or none is
  at-member : (h : Hall) (w : voting.World) (F : Member → Member) (i : ℕ) (found : Option MemberNumber) → voter_at i ≡ found → Follow h w
      → Follows (members-with h F i) h.polls h.owed h.sendings (elim found [ None ↦ w | Some s ↦ with_member w s (F (w.members s)) ])
  at-member h w F i None e f = same-hall h.members (members-with h F i) h.polls h.polls h.owed h.sendings w (fun_ext (λ s. sym (no-voter i s (F (h.members s)) (h.members s) e))) refl f
  at-member h w F i (Some s) e f =
      let is : i ≡ number_of s = ap (λ (n : NodeId). n.number) (voter-member (repository i) s e) in
      subst (λ j. Follows (members-with h F j) h.polls h.owed h.sendings (with_member w s (F (w.members s)))) (sym is)
      (change-member h.members h.polls h.owed h.sendings w f F s)

  -- ---- takings

  taken-hall : (h : Hall) (w : voting.World) (k : NodeKind) (i : ℕ) (number : ℕ) (s : Sending) → numbered h.sendings number ≡ Some s → s.post.to ≡ node k i → Follow h w
      → Goes-on (step b h (Take (node k i) number)) w
  taken-hall h w kind.Repository i number s sent to f =
      let p : Post = record { from = s.post.from; to = repository i; message = s.post.message } in
      let there : Has p w.sent = subst (λ z. Has z w.sent) (λ j. record { from = s.post.from; to = to j; message = s.post.message }) (f.sent s (numbered-has h.sendings number s sent)) in
      let place : (k : ℕ) × (post_at w.sent k ≡ Some p) = place-of w.sent p there in
      let F : Member → Member = λ m. took m s.post.from s.post.message in
      let led : Follows (members-with h F i) h.polls h.owed h.sendings (to_voter w p.from p.message (voter_at i)) =
      led-to (voter_at i) refl in
      let here : Follow (step b h (Take (repository i) number)) (to_voter w p.from p.message (voter_at i)) =
      same-hall (members-with h F i) (λ s. members-with h (λ m. member_took m (numbered h.sendings number)) i s) h.polls h.polls h.owed h.sendings (to_voter w p.from p.message (voter_at i))
      (ap (λ found. λ s. members-with h (λ m. member_took m found) i s) (sym sent)) refl led in
      (Delivered place.0 ∷ [], subst (λ z. Follow (step b h (Take (repository i) number)) (delivered w z)) (sym place.1) here)
    where
      led-to : (found : Option MemberNumber) → voter_at i ≡ found → Follows (members-with h (λ m. took m s.post.from s.post.message) i) h.polls h.owed h.sendings (to_voter w s.post.from s.post.message found)
      led-to None e = at-member h w (λ m. took m s.post.from s.post.message) i None e f
      led-to (Some v) e = at-member h w (λ m. took m s.post.from s.post.message) i (Some v) e f
  taken-hall h w kind.Broker i number s sent to f =
      let p : Post = record { from = s.post.from; to = broker i; message = s.post.message } in
      let there : Has p w.sent = subst (λ z. Has z w.sent) (λ j. record { from = s.post.from; to = to j; message = s.post.message }) (f.sent s (numbered-has h.sendings number s sent)) in
      let place : (k : ℕ) × (post_at w.sent k ≡ Some p) = place-of w.sent p there in
      let led = change-poll h.members h.polls h.owed h.sendings w f (λ q. (poll_takes q s.post.from s.post.message).poll) (λ q. (poll_takes q s.post.from s.post.message).outs) i in
      let here : Follow (step b h (Take (broker i) number)) (to_poll w i (poll_takes (w.polls i) p.from p.message)) =
      subst (λ found. Follows h.members (λ k. if i == k then (poll_took (h.polls k) found).poll else h.polls k) (λ k. if i == k then h.owed k ++ (poll_took (h.polls k) found).outs else h.owed k) h.sendings
      (to_poll w i (poll_takes (w.polls i) p.from p.message))) (sym sent) led in
      (Delivered place.0 ∷ [], subst (λ z. Follow (step b h (Take (broker i) number)) (delivered w z)) (sym place.1) here)

  -- ---- hearing

  heard-hall : (h : Hall) (w : voting.World) (k : NodeKind) (i : ℕ) (last : Option ℕ) → h.last ≡ last → Follow h w → Goes-on (step b h (Hear (node k i))) w
  heard-hall h w kind.Repository i None e f = (
    [],
    same-hall h.members (members-with h (λ m. member_heard m h.last) i) h.polls h.polls h.owed h.sendings w
        (fun_ext (λ s. sym (if-same (i == number_of s) (h.members s))) ∙ ap (λ last. members-with h (λ m. member_heard m last) i) (sym e)) refl f,
  )
  heard-hall h w kind.Repository i (Some moment) e f = led (voter_at i) refl
    where
      led : (found : Option MemberNumber) → voter_at i ≡ found → Goes-on (step b h (Hear (repository i))) w
      led None q = ([], subst (λ last. Follows (members-with h (λ m. member_heard m last) i) h.polls h.owed h.sendings w) (sym e) (at-member h w (λ m. heard m moment) i None q f))
      led (Some s) q = (Hears s moment ∷ [], subst (λ last. Follows (members-with h (λ m. member_heard m last) i) h.polls h.owed h.sendings (run w (Hears s moment ∷ []))) (sym e) (at-member h w (λ m. heard m moment) i (Some s) q f))
  heard-hall h w kind.Broker i None e f = (
    [],
    less-owed h.members (λ k. if i == k then h.polls k else h.polls k) h.owed (λ k. if i == k then h.owed k ++ poll_heard (h.polls k) h.last else h.owed k) h.sendings w less
        (same-hall h.members h.members h.polls (λ k. if i == k then h.polls k else h.polls k) h.owed h.sendings w refl (fun_ext (λ k. sym (if-same (i == k) (h.polls k)))) f),
  )
    where
      less : (k : ℕ) (o : Out) → Has o (if i == k then h.owed k ++ poll_heard (h.polls k) h.last else h.owed k) → Has o (h.owed k)
      less k o = subst (λ last. Has o (if i == k then h.owed k ++ poll_heard (h.polls k) last else h.owed k) → Has o (h.owed k)) (sym e) (lesser (i == k))
        where
          lesser : (t : Bool) → Has o (if t then h.owed k ++ [] else h.owed k) → Has o (h.owed k)
          lesser true g = subst (Has o) (append-nil (h.owed k)) g
          lesser false g = g
  heard-hall h w kind.Broker i (Some moment) e f = (
    Polled i moment ∷ [],
    subst (λ last. Follows h.members (λ k. if i == k then h.polls k else h.polls k) (λ k. if i == k then h.owed k ++ poll_heard (h.polls k) last else h.owed k) h.sendings (run w (Polled i moment ∷ []))) (sym e)
        (more-owed h.members h.polls h.owed h.sendings w f poll_hears i),
  )

  -- ---- gates

  abbrev sent-by : Hall → ℕ → Option MemberNumber → List Sending
  sent-by h i found = h.sendings ++ map (λ (p : Post). let r : Sending = record { post = p; ticks = h.ticks } in r) (posts (repository i) (voter_life h found).outs)

  gated-hall : (h : Hall) (w : voting.World) (k : NodeKind) (i : ℕ) → Follow h w → Goes-on (step b h (Gate (node k i))) w
  gated-hall h w kind.Repository i f = led (voter_at i) refl
    where
      led : (found : Option MemberNumber) → voter_at i ≡ found → Goes-on (step b h (Gate (repository i))) w
      led None q = (
        [],
        subst (λ found. Follows (members-with h shut i) h.polls h.owed (sent-by h i found) w) (sym q)
            (let g : Follows (members-with h shut i) h.polls h.owed h.sendings w = at-member h w shut i None q f in
            more-sendings (members-with h shut i) h.polls h.owed h.sendings w g (repository i) h.ticks [] w g (λ o k. absurd k)),
      )
      led (Some s) q =
          let after : voting.World = with_sent (with_member w s (shut (w.members s))) (posts (member s) (w.members s).owed) in
          let grown : Follows (members-with h shut i) h.polls h.owed h.sendings after =
          (let g : Follows (members-with h shut i) h.polls h.owed h.sendings (with_member w s (shut (w.members s))) = at-member h w shut i (Some s) q f in
          record { members_are = g.members_are; polls_are = g.polls_are; sent = λ x j. has-left w.sent (posts (member s) (w.members s).owed) x.post (g.sent x j); ready = λ k o j. has-left w.sent (posts (member s) (w.members s).owed) (post (broker k) o) (g.ready k o j) }) in
          let owes : (o : Out) → Has o (h.members s).owed → Has (post (repository i) o) after.sent =
          (λ o g. has-right w.sent (posts (member s) (w.members s).owed) (post (repository i) o)
          (subst (λ n. Has (post n o) (posts (member s) (w.members s).owed)) (sym (voter-member (repository i) s q))
          (posts-has (member s) (w.members s).owed o (subst (λ (z : Member). Has o z.owed) (sym (ap (λ (fn : MemberNumber → Member). fn s) f.members_are)) g)))) in (
            Gates s ∷ [],
            subst (λ found. Follows (members-with h shut i) h.polls h.owed (sent-by h i found) after) (sym q)
                (more-sendings (members-with h shut i) h.polls h.owed h.sendings after grown (repository i) h.ticks (h.members s).owed after grown owes),
          )
  gated-hall h w kind.Broker i f = (
    [],
    less-owed h.members (λ k. if i == k then h.polls k else h.polls k) h.owed (λ k. if i == k then [] else h.owed k)
        (h.sendings ++ map (λ (p : Post). let r : Sending = record { post = p; ticks = h.ticks } in r) (posts (broker i) (h.owed i))) w (λ k o g. less k (i == k) o g)
        (more-sendings h.members (λ k. if i == k then h.polls k else h.polls k) h.owed h.sendings w
        same (broker i) h.ticks (h.owed i) w same (f.ready i)),
  )
    where
      same : Follows h.members (λ k. if i == k then h.polls k else h.polls k) h.owed h.sendings w
      same = same-hall h.members h.members h.polls (λ k. if i == k then h.polls k else h.polls k) h.owed h.sendings w refl (fun_ext (λ k. sym (if-same (i == k) (h.polls k)))) f

      less : (k : ℕ) (t : Bool) (o : Out) → Has o (if t then [] else h.owed k) → Has o (h.owed k)
      less k true o g = absurd g
      less k false o g = g

  -- ---- the others

  crashed-hall : (h : Hall) (w : voting.World) (k : NodeKind) (i kept : ℕ) → is_broker k ≡ false → Follow h w → Goes-on (step b h (Crash (node k i) kept)) w
  crashed-hall h w kind.Repository i kept is f = led (voter_at i) refl
    where
      led : (found : Option MemberNumber) → voter_at i ≡ found → Goes-on (step b h (Crash (repository i) kept)) w
      led None q = ([], at-member h w (λ m. crashed m kept b.start) i None q f)
      led (Some s) q = (Crashes s kept b.start ∷ [], at-member h w (λ m. crashed m kept b.start) i (Some s) q f)
  crashed-hall h w kind.Broker i kept is f = absurd (cc is)

  gone-hall : (h : Hall) (w : voting.World) (k : NodeKind) (i : ℕ) → is_broker k ≡ true → Follow h w → Goes-on (step b h (Go (node k i))) w
  gone-hall h w kind.Repository i is f = absurd (cc is)
  gone-hall h w kind.Broker i is f = (Goes i ∷ [], more-owed h.members h.polls h.owed h.sendings w f poll_goes i)

  down-hall : (h : Hall) (w : voting.World) (k : NodeKind) (i : ℕ) (cause : DownCause) → is_broker k ≡ false → Follow h w → Goes-on (step b h (Down (node k i) cause)) w
  down-hall h w kind.Repository i cause is f =
      ([], same-hall h.members (members-with h (λ m. m) i) h.polls h.polls h.owed h.sendings w (fun_ext (λ s. sym (if-same (i == number_of s) (h.members s)))) refl f)
  down-hall h w kind.Broker i cause is f = absurd (cc is)

  step-follows : (fates : List Fate) (h : Hall) (w : voting.World) (e : Entry) → Rule b fates h e → Follow h w → Goes-on (step b h e) w
  step-follows fates h w (Take n number) r f = taken-hall h w n.kind n.number number r.sending r.sent r.to f
  step-follows fates h w (Go n) r f = gone-hall h w n.kind n.number r.broker f
  step-follows fates h w (Learn n stamp committed) r f = absurd r
  step-follows fates h w (Hear n) r f = heard-hall h w n.kind n.number h.last refl f
  step-follows fates h w (Gate n) r f = gated-hall h w n.kind n.number f
  step-follows fates h w (Crash n kept) r f = crashed-hall h w n.kind n.number kept r.0 f
  step-follows fates h w (Down n cause) r f = down-hall h w n.kind n.number cause r.0 f
  step-follows fates h w (Tick moment) r f = ([], f)

  -- ---- all entries

  run-then : (w : voting.World) (es more : List Event) → run w (es ++ more) ≡ run (run w es) more
  run-then w [] more = refl
  run-then w (e ∷ es) more = run-then (voting.after w e) es more

  pub walk-follows : (fates : List Fate) (h : Hall) (w : voting.World) (es : List Entry) → Meets b fates h es → Follow h w → Goes-on (walk_from b h es) w
  unfolding Meets walk_from
  walk-follows fates h w [] m f = ([], f)
  walk-follows fates h w (e ∷ es) m f =
      let one : Goes-on (step b h e) w = step-follows fates h w e m.0 f in
      let more : Goes-on (walk_from b (step b h e) es) (run w one.0) = walk-follows fates (step b h e) (run w one.0) es m.1 one.1 in
      (one.0 ++ more.0, subst (Follow (walk_from b (step b h e) es)) (sym (run-then w one.0 more.0)) more.1)

-- ---- a whole trace

pub replayed : (lines : List Line) (asked : List Asked) (t : Trace) → Legal lines asked t → (events : List Event) × IsRun lines t events
replayed lines asked t legal =
    let begun : Follow (start_hall (base_of lines t)) (entered (λ s. t.start) (log_at t.opened) (line_at lines)) =
    record { members_are = refl; polls_are = refl; sent = λ s h. absurd h; ready = λ i o h. absurd h } in
    let led = walk-follows (base_of lines t) (fates_of t.sent) (start_hall (base_of lines t)) (entered (λ s. t.start) (log_at t.opened) (line_at lines)) t.entries legal.meets begun in
    (led.0, record { members = led.1.members_are; polls = led.1.polls_are })

-- two members stand behind what a poll holds
pub two-decided : (lines : List Line) (asked : List Asked) (t : Trace) (i : ℕ) (c : Bool) → Legal lines asked t → held ((hall_after lines t).polls i) ≡ Some c → TwoDecided (hall_after lines t) (line_at lines i).stamp c
two-decided lines asked t i c legal h =
    let r : (events : List Event) × IsRun lines t events = replayed lines asked t legal in
    let begun : voting.World = entered (λ s. t.start) (log_at t.opened) (line_at lines) in
    let facts = run-facts ⊥ (line_at lines) begun r.0 (entered-facts ⊥ (λ s. t.start) (log_at t.opened) (line_at lines) (λ p. absurd p)) in
    let two = facts-two ⊥ (line_at lines) (run begun r.0) facts i c (ap (λ (ps : ℕ → PollState). held (ps i)) r.1.polls ∙ h) in
    record {
      one = two.one;
      other = two.other;
      apart = two.apart;
      one_decided = subst (λ (ms : MemberNumber → Member). IsDecided (ms two.one).gated (line_at lines i).stamp c) r.1.members two.one_decided;
      other_decided = subst (λ (ms : MemberNumber → Member). IsDecided (ms two.other).gated (line_at lines i).stamp c) r.1.members two.other_decided;
    }

-- ---- one call after the other

-- the call as one of the world of votes
abbrev as-call : Call → List Event → voting.Call
as-call c events = record { lines = line_at c.lines; start = λ s. c.trace.start; events = events; kept = c.kept }

-- what the call was, of the world of votes
pub record WasCall (logs : Logs) (c : Call) : Type 0 where
  pub events : List Event
  pub members : (ended logs (as-call c events)).members ≡ (hall_after c.lines c.trace).members
  pub polls : (ended logs (as-call c events)).polls ≡ (hall_after c.lines c.trace).polls

was-call : (logs : Logs) (c : Call) → IsCall logs c → WasCall logs c
was-call logs c h =
    let r : (events : List Event) × IsRun c.lines c.trace events = replayed c.lines c.asked c.trace h.legal in
    let same : log_at c.trace.opened ≡ logs = fun_ext h.agrees in
    record {
      events = r.0;
      members = ap (λ l. (run (entered (λ s. c.trace.start) l (line_at c.lines)) r.0).members) (sym same) ∙ r.1.members;
      polls = ap (λ l. (run (entered (λ s. c.trace.start) l (line_at c.lines)) r.0).polls) (sym same) ∙ r.1.polls;
    }

left-same : (logs : Logs) (c : Call) (w : WasCall logs c) → left logs (as-call c w.events) ≡ log_left c
left-same logs c w = ap (λ (ms : MemberNumber → Member). λ s. (ms s).gated ++ take (c.kept s) (ms s).fresh) w.members

-- the calls of the world, of these calls
pub record WereCalls (logs : Logs) (cs : List Call) : Type 0 where
  pub calls : List voting.Call
  pub left : voting.logs_after logs calls ≡ logs_after logs cs

were-calls : (logs : Logs) (cs : List Call) → AreCalls logs cs → WereCalls logs cs
were-calls logs [] h = record { calls = []; left = refl }
were-calls logs (c ∷ cs) h =
    let w : WasCall logs c = was-call logs c h.0 in
    let rest : WereCalls (log_left c) cs = were-calls (log_left c) cs h.1 in
    record { calls = as-call c w.events ∷ rest.calls; left = ap (λ l. voting.logs_after l rest.calls) (left-same logs c w) ∙ rest.left }

calls-parts : (logs : Logs) (cs more : List Call) → AreCalls logs (cs ++ more) → AreCalls logs cs × AreCalls (logs_after logs cs) more
calls-parts logs [] more h = (tt, h)
calls-parts logs (c ∷ cs) more h = let r : AreCalls (log_left c) cs × AreCalls (logs_after (log_left c) cs) more = calls-parts (log_left c) cs more h.1 in ((h.0, r.0), r.1)

held-there : (logs : Logs) (c : Call) (w : WasCall logs c) (i : ℕ) (x : Bool) → held ((hall_after c.lines c.trace).polls i) ≡ Some x → held ((ended logs (as-call c w.events)).polls i) ≡ Some x
held-there logs c w i x h = ap (λ (ps : ℕ → PollState). held (ps i)) w.polls ∙ h

pub no-two : (before between : List Call) (c d : Call) (i j : ℕ) (x y : Bool) → AreCalls no_logs (before ++ (c ∷ (between ++ (d ∷ [])))) → (line_at c.lines i).stamp ≡ (line_at d.lines j).stamp
    → held ((hall_after c.lines c.trace).polls i) ≡ Some x → held ((hall_after d.lines d.trace).polls j) ≡ Some y → x ≡ y
no-two before between c d i j x y are same hx hy =
    let one : AreCalls no_logs before × AreCalls (logs_after no_logs before) (c ∷ (between ++ (d ∷ []))) = calls-parts no_logs before (c ∷ (between ++ (d ∷ []))) are in
    let two : AreCalls (log_left c) between × AreCalls (logs_after (log_left c) between) (d ∷ []) = calls-parts (log_left c) between (d ∷ []) one.1.1 in
    let b : WereCalls no_logs before = were-calls no_logs before one.0 in
    let logs : Logs = voting.logs_after no_logs b.calls in
    let call : IsCall logs c = subst (λ l. IsCall l c) (sym b.left) one.1.0 in
    let w : WasCall logs c = was-call logs c call in
    let m : WereCalls (log_left c) between = were-calls (log_left c) between two.0 in
    let next : voting.logs_after no_logs (b.calls ++ as-call c w.events ∷ m.calls) ≡ logs_after (log_left c) between =
    after-append no_logs b.calls (as-call c w.events ∷ m.calls) ∙ ap (λ l. voting.logs_after l m.calls) (left-same logs c w) ∙ m.left in
    let v : WasCall (voting.logs_after no_logs (b.calls ++ as-call c w.events ∷ m.calls)) d = was-call (voting.logs_after no_logs (b.calls ++ as-call c w.events ∷ m.calls)) d (subst (λ l. IsCall l d) (sym next) two.1.0) in
    no-two-calls b.calls m.calls (as-call c w.events) (as-call d v.events) i j x y same (held-there logs c w i x hx) (held-there (voting.logs_after no_logs (b.calls ++ as-call c w.events ∷ m.calls)) d v j y hy)
  where
    after-append : (logs : Logs) (a b : List voting.Call) → voting.logs_after logs (a ++ b) ≡ voting.logs_after (voting.logs_after logs a) b
    after-append logs [] b = refl
    after-append logs (e ∷ a) b = after-append (voting.left logs e) a b
