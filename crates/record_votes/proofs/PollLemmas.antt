-- A poll's ballots and what it holds.
use Rattle.record_votes.proofs.Names.{◌≡◌, ℕ, Bool, true, false, inl, inr, refl, sym, ◌∙◌, ap, ◌⊎◌, ◌≢◌, Option, Some, None, ◌==◌, if◌then◌else◌, eqb-true, same_stamp, same_stamp-is, Decision, NodeId, NodeKind, Message, is_commit, MemberNumber, First, Second, Third, number_of, member, voter_by, voter_of, PollState, ballot, with_ballot, held, held_of, heard_from, heard_by, begun_heard, vote_heard, poll_takes, PollGiven, ignored}
use Rattle.pseudo_time.specs.declared.nodes.NodeKind.TheVariants as kind
use Rattle.message_form.specs.declared.messages.Message.TheVariants as message
use Rattle.record_votes.specs.declared.ballots.Ballot.{Ballot}

-- ---- voters

first≢second : First ≢ Second
first≢second e = cc e

first≢third : First ≢ Third
first≢third e = cc e

second≢third : Second ≢ Third
second≢third e = cc e

voter-if : (a b c : Bool) (n : ℕ) (s : MemberNumber) → (a ≡ true → n ≡ 1) → (b ≡ true → n ≡ 2) → (c ≡ true → n ≡ 3)
    → (if a then Some First else if b then Some Second else if c then Some Third else None) ≡ Some s → n ≡ number_of s
voter-if true b c n s f g k h = let e : First ≡ s = cc h in f refl ∙ ap number_of e
voter-if false true c n s f g k h = let e : Second ≡ s = cc h in g refl ∙ ap number_of e
voter-if false false true n s f g k h = let e : Third ≡ s = cc h in k refl ∙ ap number_of e
voter-if false false false n s f g k h = absurd (cc h)

voter-kind : (k : NodeKind) (n : ℕ) (s : MemberNumber) → voter_by k n ≡ Some s → record { kind = k; number = n } ≡ member s
voter-kind kind.Repository n s h =
    ap (λ z. record { kind = kind.Repository; number = z }) (voter-if (n == 1) (n == 2) (n == 3) n s (eqb-true n 1) (eqb-true n 2) (eqb-true n 3) h)
voter-kind kind.Broker n s h = absurd (cc h)

pub voter-member : (from : NodeId) (s : MemberNumber) → voter_of from ≡ Some s → from ≡ member s
voter-member from s h = voter-kind from.kind from.number s h

-- ---- two of three

abbrev pub Ballots : Type 0
Ballots = MemberNumber → Option Bool

pub record Two (votes : Ballots) (c : Bool) : Type 0 where
  pub one : MemberNumber
  pub other : MemberNumber
  pub apart : one ≢ other
  pub one_vote : votes one ≡ Some c
  pub other_vote : votes other ≡ Some c

abbrev pub votes_of : PollState → Ballots
votes_of p s = (ballot p s).vote

abbrev pub three : Option Bool → Option Bool → Option Bool → Ballots
three x y z First = x
three x y z Second = y
three x y z Third = z

two-held : (x y z : Option Bool) (c : Bool) → held_of x y z ≡ Some c → Two (three x y z) c
two-held (Some true) (Some true) z c h = let e : true ≡ c = cc h in record { one = First; other = Second; apart = first≢second; one_vote = ap (λ b. Some b) e; other_vote = ap (λ b. Some b) e }
two-held (Some false) (Some false) (Some true) c h = let e : false ≡ c = cc h in record { one = First; other = Second; apart = first≢second; one_vote = ap (λ b. Some b) e; other_vote = ap (λ b. Some b) e }
two-held (Some false) (Some false) (Some false) c h = let e : false ≡ c = cc h in record { one = First; other = Second; apart = first≢second; one_vote = ap (λ b. Some b) e; other_vote = ap (λ b. Some b) e }
two-held (Some false) (Some false) None c h = let e : false ≡ c = cc h in record { one = First; other = Second; apart = first≢second; one_vote = ap (λ b. Some b) e; other_vote = ap (λ b. Some b) e }
two-held (Some true) (Some false) (Some true) c h = let e : true ≡ c = cc h in record { one = First; other = Third; apart = first≢third; one_vote = ap (λ b. Some b) e; other_vote = ap (λ b. Some b) e }
two-held (Some true) (Some false) (Some false) c h = let e : false ≡ c = cc h in record { one = Second; other = Third; apart = second≢third; one_vote = ap (λ b. Some b) e; other_vote = ap (λ b. Some b) e }
two-held (Some true) (Some false) None c h = absurd (cc h)
two-held (Some false) (Some true) (Some true) c h = let e : true ≡ c = cc h in record { one = Second; other = Third; apart = second≢third; one_vote = ap (λ b. Some b) e; other_vote = ap (λ b. Some b) e }
two-held (Some false) (Some true) (Some false) c h = let e : false ≡ c = cc h in record { one = First; other = Third; apart = first≢third; one_vote = ap (λ b. Some b) e; other_vote = ap (λ b. Some b) e }
two-held (Some false) (Some true) None c h = absurd (cc h)
two-held (Some true) None (Some true) c h = let e : true ≡ c = cc h in record { one = First; other = Third; apart = first≢third; one_vote = ap (λ b. Some b) e; other_vote = ap (λ b. Some b) e }
two-held (Some false) None (Some false) c h = let e : false ≡ c = cc h in record { one = First; other = Third; apart = first≢third; one_vote = ap (λ b. Some b) e; other_vote = ap (λ b. Some b) e }
two-held (Some true) None (Some false) c h = absurd (cc h)
two-held (Some true) None None c h = absurd (cc h)
two-held (Some false) None (Some true) c h = absurd (cc h)
two-held (Some false) None None c h = absurd (cc h)
two-held None (Some true) (Some true) c h = let e : true ≡ c = cc h in record { one = Second; other = Third; apart = second≢third; one_vote = ap (λ b. Some b) e; other_vote = ap (λ b. Some b) e }
two-held None (Some false) (Some false) c h = let e : false ≡ c = cc h in record { one = Second; other = Third; apart = second≢third; one_vote = ap (λ b. Some b) e; other_vote = ap (λ b. Some b) e }
two-held None (Some true) (Some false) c h = absurd (cc h)
two-held None (Some true) None c h = absurd (cc h)
two-held None (Some false) (Some true) c h = absurd (cc h)
two-held None (Some false) None c h = absurd (cc h)
two-held None None z c h = absurd (cc h)

three-votes : (p : PollState) (s : MemberNumber) → three p.first.vote p.second.vote p.third.vote s ≡ votes_of p s
three-votes p First = refl
three-votes p Second = refl
three-votes p Third = refl

pub held-two : (p : PollState) (c : Bool) → held p ≡ Some c → Two (votes_of p) c
held-two p c h =
    let t : Two (three p.first.vote p.second.vote p.third.vote) c = two-held p.first.vote p.second.vote p.third.vote c h in
    record { one = t.one; other = t.other; apart = t.apart; one_vote = sym (three-votes p t.one) ∙ t.one_vote; other_vote = sym (three-votes p t.other) ∙ t.other_vote }

-- ---- a poll takes a message

-- what its ballots become: the stamp stays, a vote stays, and a new vote was heard in a Decided from that member
pub record Hears (from : NodeId) (m : Message) (old new : PollState) : Type 0 where
  pub stamp : new.stamp ≡ old.stamp
  pub stays : (s : MemberNumber) (c : Bool) → (ballot old s).vote ≡ Some c → (ballot new s).vote ≡ Some c
  pub cause : (s : MemberNumber) (c : Bool) → (ballot new s).vote ≡ Some c → ((ballot old s).vote ≡ Some c) ⊎ ((d : Decision) × (is_commit d ≡ c) × (from ≡ member s) × (m ≡ message.Decided old.stamp d))

hears-nothing : (from : NodeId) (m : Message) (p : PollState) → Hears from m p p
hears-nothing from m p = record { stamp = refl; stays = λ s c h. h; cause = λ s c h. inl h }

-- what holds of the new ballot and of the old ones holds of all
with-at : (P : MemberNumber → Ballot → Type 0) (p : PollState) (s : MemberNumber) (b : Ballot) → P s b → ((k : MemberNumber) → P k (ballot p k)) → (k : MemberNumber) → P k (ballot (with_ballot p s b) k)
with-at P p First b h f First = h
with-at P p First b h f Second = f Second
with-at P p First b h f Third = f Third
with-at P p Second b h f First = f First
with-at P p Second b h f Second = h
with-at P p Second b h f Third = f Third
with-at P p Third b h f First = f First
with-at P p Third b h f Second = f Second
with-at P p Third b h f Third = h

with-stamp : (p : PollState) (s : MemberNumber) (b : Ballot) → (with_ballot p s b).stamp ≡ p.stamp
with-stamp p First b = refl
with-stamp p Second b = refl
with-stamp p Third b = refl

abbrev Cause : NodeId → Message → PollState → MemberNumber → Bool → Type 0
Cause from m p s c = ((ballot p s).vote ≡ Some c) ⊎ ((d : Decision) × (is_commit d ≡ c) × (from ≡ member s) × (m ≡ message.Decided p.stamp d))

hears-by : (from : NodeId) (m : Message) (p : PollState) (s : MemberNumber) (b : Ballot)
    → ((c : Bool) → (ballot p s).vote ≡ Some c → b.vote ≡ Some c) → ((c : Bool) → b.vote ≡ Some c → Cause from m p s c) → Hears from m p (with_ballot p s b)
hears-by from m p s b f g = record {
  stamp = with-stamp p s b;
  stays = with-at (λ k z. (c : Bool) → (ballot p k).vote ≡ Some c → z.vote ≡ Some c) p s b f (λ k c h. h);
  cause = with-at (λ k z. (c : Bool) → z.vote ≡ Some c → Cause from m p k c) p s b g (λ k c h. inl h);
}

begun-hears : (from : NodeId) (m : Message) (p : PollState) (s : MemberNumber) → Hears from m p (begun_heard p s (ballot p s)).poll
begun-hears from m p s = hears-by from m p s (record (ballot p s) { begun = true }) (λ c h. h) (λ c h. inl h)

vote-hears : (from : NodeId) (m : Message) (p : PollState) (s : MemberNumber) (d : Decision) (v : Option Bool) → (ballot p s).vote ≡ v
    → from ≡ member s → m ≡ message.Decided p.stamp d → Hears from m p (vote_heard p s d (ballot p s) v).poll
vote-hears from m p s d None none e f = hears-by from m p s (record (ballot p s) { vote = Some (is_commit d) })
    (λ c h. let k : None ≡ Some c = sym none ∙ h in absurd (cc k)) (λ c h. let k : is_commit d ≡ c = cc h in inr (d, k, e, f))
vote-hears from m p s d (Some v) none e f = hears-nothing from m p

hears-if : (b : Bool) (from : NodeId) (m : Message) (p : PollState) (g : PollGiven) → (b ≡ true → Hears from m p g.poll) → Hears from m p (if b then g else ignored p).poll
hears-if true from m p g h = h refl
hears-if false from m p g h = hears-nothing from m p

from-hears : (from : NodeId) (m : Message) (p : PollState) (s : MemberNumber) → from ≡ member s → Hears from m p (heard_from p s m).poll
from-hears from (message.Begun x) p s e = hears-if (same_stamp x p.stamp) from (message.Begun x) p (begun_heard p s (ballot p s)) (λ h. begun-hears from (message.Begun x) p s)
from-hears from (message.Decided x d) p s e = hears-if (same_stamp x p.stamp) from (message.Decided x d) p (vote_heard p s d (ballot p s) (ballot p s).vote)
    (λ h. vote-hears from (message.Decided x d) p s d (ballot p s).vote refl e (ap (λ z. message.Decided z d) (same_stamp-is x p.stamp h)))
from-hears from m p s e = hears-nothing from m p

by-hears : (from : NodeId) (m : Message) (p : PollState) (s : Option MemberNumber) → voter_of from ≡ s → Hears from m p (heard_by p s m).poll
by-hears from m p None e = hears-nothing from m p
by-hears from m p (Some s) e = from-hears from m p s (voter-member from s e)

pub takes-hears : (from : NodeId) (m : Message) (p : PollState) → Hears from m p (poll_takes p from m).poll
unfolding poll_takes
takes-hears from m p = by-hears from m p (voter_of from) refl

-- ---- what is held stays

-- where two voted so, that is what is held
is-held : (x y z : Option Bool) (c : Bool) → Two (three x y z) c → held_of x y z ≡ Some c
is-held x y z c t = by-voters x y z c t.one t.other t.apart t.one_vote t.other_vote
  where
    first-two : (z : Option Bool) (c : Bool) → held_of (Some c) (Some c) z ≡ Some c
    first-two z true = refl
    first-two (Some true) false = refl
    first-two (Some false) false = refl
    first-two None false = refl

    outer-two : (y : Option Bool) (c : Bool) → held_of (Some c) y (Some c) ≡ Some c
    outer-two (Some true) true = refl
    outer-two (Some false) true = refl
    outer-two None true = refl
    outer-two (Some true) false = refl
    outer-two (Some false) false = refl
    outer-two None false = refl

    last-two : (x : Option Bool) (c : Bool) → held_of x (Some c) (Some c) ≡ Some c
    last-two (Some true) true = refl
    last-two (Some false) true = refl
    last-two None true = refl
    last-two (Some true) false = refl
    last-two (Some false) false = refl
    last-two None false = refl

    by-voters : (x y z : Option Bool) (c : Bool) (a b : MemberNumber) → a ≢ b → three x y z a ≡ Some c → three x y z b ≡ Some c → held_of x y z ≡ Some c
    by-voters x y z c First First n h k = absurd (n refl)
    by-voters x y z c First Second n h k = ap (λ u. held_of u y z) h ∙ ap (λ u. held_of (Some c) u z) k ∙ first-two z c
    by-voters x y z c First Third n h k = ap (λ u. held_of u y z) h ∙ ap (λ u. held_of (Some c) y u) k ∙ outer-two y c
    by-voters x y z c Second First n h k = ap (λ u. held_of u y z) k ∙ ap (λ u. held_of (Some c) u z) h ∙ first-two z c
    by-voters x y z c Second Second n h k = absurd (n refl)
    by-voters x y z c Second Third n h k = ap (λ u. held_of x u z) h ∙ ap (λ u. held_of x (Some c) u) k ∙ last-two x c
    by-voters x y z c Third First n h k = ap (λ u. held_of u y z) k ∙ ap (λ u. held_of (Some c) y u) h ∙ outer-two y c
    by-voters x y z c Third Second n h k = ap (λ u. held_of x u z) k ∙ ap (λ u. held_of x (Some c) u) h ∙ last-two x c
    by-voters x y z c Third Third n h k = absurd (n refl)

pub two-hold : (p : PollState) (c : Bool) → Two (votes_of p) c → held p ≡ Some c
two-hold p c t = is-held p.first.vote p.second.vote p.third.vote c
    (record { one = t.one; other = t.other; apart = t.apart; one_vote = three-votes p t.one ∙ t.one_vote; other_vote = three-votes p t.other ∙ t.other_vote })

-- votes that stay keep what is held
pub held-stays : (old new : PollState) (c : Bool) → ((s : MemberNumber) (v : Bool) → (ballot old s).vote ≡ Some v → (ballot new s).vote ≡ Some v) → held old ≡ Some c → held new ≡ Some c
held-stays old new c f h =
    let t : Two (votes_of old) c = held-two old c h in
    two-hold new c (record { one = t.one; other = t.other; apart = t.apart; one_vote = f t.one c t.one_vote; other_vote = f t.other c t.other_vote })

-- ---- two pairs of three have one in common

pub shared : (a b x y : MemberNumber) → a ≢ b → x ≢ y → ((a ≡ x) ⊎ (a ≡ y)) ⊎ ((b ≡ x) ⊎ (b ≡ y))
shared First b First y n m = inl (inl refl)
shared Second b Second y n m = inl (inl refl)
shared Third b Third y n m = inl (inl refl)
shared First b x First n m = inl (inr refl)
shared Second b x Second n m = inl (inr refl)
shared Third b x Third n m = inl (inr refl)
shared a First First y n m = inr (inl refl)
shared a Second Second y n m = inr (inl refl)
shared a Third Third y n m = inr (inl refl)
shared a First x First n m = inr (inr refl)
shared a Second x Second n m = inr (inr refl)
shared a Third x Third n m = inr (inr refl)
shared First First x y n m = absurd (n refl)
shared Second Second x y n m = absurd (n refl)
shared Third Third x y n m = absurd (n refl)
shared a b First First n m = absurd (m refl)
shared a b Second Second n m = absurd (m refl)
shared a b Third Third n m = absurd (m refl)
