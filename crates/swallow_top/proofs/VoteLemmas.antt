-- What votes over the shelf's media come to is what is promised of them.
use Rattle.swallow_top.proofs.Names.{length-map, Rose, Trace, AreBack, Media, Account, no_trace, AllKept, ShelfSight, Kept, all-kept, Options, VoteEnd, Told, PollLine, HasNoRun, AskedNothing, HavePolled, TellsVotes, limits_of, tellers_of, votes_status, EndsIfAny, Sinking, ◌≡◌, ◌⊎◌, ◌≤◌, inl, inr, ℕ, IsTrue, List, length, sym, ap, subst, ◌∙◌, arith, AreFew, tick_count}
use Rattle.votes_command.specs.VoteEnd.TheVariants.{NoMemory}
use Rattle.votes_command.specs.Ends.{EndsAs}
use Rattle.votes_command.specs.MemberMedia.{MemberMedia}
use Rattle.votes_command.specs.Clauses.{AllHold, Tellers}
use Rattle.votes_command.specs.Polls.{lines_of}
use Rattle.votes_command.specs.Statuses.{status_with}
use Rattle.votes_command.specs.Tellings.{some_down, told_text}
use Rattle.votes_command.proofs.HeldLemmas.{all-told}
use Rattle.votes_command.specs.PollStanding.{PollStanding}
use Rattle.votes_command.specs.Limits.{Limits}
use Rattle.votes_command.specs.Members.{in_order, member_names}
use Rattle.votes_command.specs.Votes.{AreSmooth, TookNothing, VotesOver}

module _ {M : Type 0} (w : Media M) (old new : ShelfSight) where
  -- there is one standing for each poll
  few-told : (limits : Limits) (polls : List PollLine) (told : Tellers) (media left : MemberMedia M) (end : VoteEnd) → length polls ≤ 16 → EndsAs w limits polls told media left end → AreFew end
  few-told limits polls told media left (Told t standings) few h =
      let shown = length-map standings (λ (s : PollStanding). s.stamp) in
      let asked = length-map polls (λ (l : PollLine). l.stamp) in
      let same = ap length h.1.stamps in
      omega (arith, shown, asked, same, few)
  few-told limits polls told media left NoMemory few h = tt

  pub few-end : (limits : Limits) (polls : List PollLine) (told : Tellers) (kept : List (Kept M)) (end : VoteEnd) → length polls ≤ 16 → TookNothing w old new told kept end ⊎ VotesOver w old new limits polls told kept end → AreFew end
  few-end limits polls told kept end few (inl h) = subst AreFew (sym h.wanting) tt
  few-end limits polls told kept end few (inr h) = few-told limits polls told h.media h.left end few h.ended

  -- where all is smooth
  comes-to : (polls : List PollLine) (o : Options) (told : Tellers) (votes : Trace) (kept : List (Kept M)) (s : Sinking) (status : ℕ) (end : VoteEnd) (h : VotesOver w old new (limits_of o) polls told kept end) → TellsVotes end votes status s
      → IsTrue w.tells → AreSmooth w polls o.messages h.media h.left votes → (Rose s.faults_before s.faults → ⊥) → (status ≡ 7) ⊎ ((status ≡ 0) × (tick_count votes.entries ≡ 0))
  comes-to polls o told votes kept s status (Told t standings) h tells content smooth calm = by tells.1
    where
      done : (tick_count t.entries ≡ 0) × AllHold (lines_of polls) t
      done = h.ended.0.completes content (subst (λ x. AreSmooth w polls o.messages h.media h.left x) tells.0 smooth)

      by : EndsIfAny status s (votes_status t standings) (told_text t standings) → (status ≡ 7) ⊎ ((status ≡ 0) × (tick_count votes.entries ≡ 0))
      by (inl e) = inl e.0
      by (inr (inl e)) = inr (e.0 ∙ ap (λ b. status_with b (some_down t.entries)) (all-told polls t standings (h.ended.1.held content) done.1), ap (λ (x : Trace). tick_count x.entries) tells.0 ∙ done.0)
      by (inr (inr e)) = absurd (calm e.1.1)
  comes-to polls o told votes kept s status NoMemory h tells content smooth calm = let short = tells.1 in inl short.0

  -- so it is promised
  polled-so : (polls : List PollLine) (o : Options) (told : Account) (votes : Trace) (kept : List (Kept M)) (s : Sinking) (status : ℕ) (end : VoteEnd) →
      TookNothing w old new (tellers_of told) kept end ⊎ VotesOver w old new (limits_of o) polls (tellers_of told) kept end → TellsVotes end votes status s → told.trace ≡ no_trace →
      (AskedNothing w old new kept s status × HasNoRun told × (votes ≡ no_trace)) ⊎ HavePolled w old new polls o told votes kept s status
  polled-so polls o told votes kept s status end (inl h) tells none =
      let k = subst (λ e. TellsVotes e votes status s) h.wanting tells in
      let short = k.1 in
      inl (record { wanting = short.0; unwritten = short.1; none = h.none; unasked = h.unasked; left = h.left }, record { trace = none; fates = h.fates; clock = h.clock }, k.0)
  polled-so polls o told votes kept s status end (inr h) tells none = inr (record { end = end; over = h; written = tells; no_run = none; completes = comes-to polls o (tellers_of told) votes kept s status end h tells })

  pub polled : (polls : List PollLine) (o : Options) (limits : Limits) (told : Account) (votes : Trace) (media kept : List (Kept M)) (s : Sinking) (status : ℕ) (end : VoteEnd) → limits ≡ limits_of o → kept ≡ media →
      TookNothing w old new (tellers_of told) media end ⊎ VotesOver w old new limits polls (tellers_of told) media end → TellsVotes end votes status s → told.trace ≡ no_trace →
      (AskedNothing w old new kept s status × HasNoRun told × (votes ≡ no_trace)) ⊎ HavePolled w old new polls o told votes kept s status
  polled polls o limits told votes media kept s status end same is h tells none =
      polled-so polls o told votes kept s status end
      (subst (λ k. TookNothing w old new (tellers_of told) k end ⊎ VotesOver w old new (limits_of o) polls (tellers_of told) k end) (sym is)
      (subst (λ l. TookNothing w old new (tellers_of told) media end ⊎ VotesOver w old new l polls (tellers_of told) media end) same h)) tells none

  -- the members' media are handed back
  pub votes-kept : (limits : Limits) (polls : List PollLine) (told : Tellers) (kept : List (Kept M)) (end : VoteEnd) → VotesOver w old new limits polls told kept end → AllKept old new kept
  votes-kept limits polls told kept end h =
      let back : AreBack (in_order h.media) (in_order h.left) = (h.safe.first.back, (h.safe.second.back, (h.safe.third.back, tt))) in
      subst (AllKept old new) (sym h.handed) (all-kept w old new member_names (in_order h.media) (in_order h.left) h.taken back)
