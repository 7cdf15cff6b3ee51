-- Poll lines are read as they are written.
use Rattle.std.proofs.Common.{◌≡◌, ℕ, ◌-◌, ◌^◌, List, ◌++◌, Option, Some, None, refl, sym, ap, ◌∙◌, subst, arith, true, cond}
use Rattle.std.specs.Prelude.{decimal, codes, ◌==◌}
use Rattle.std.specs.Char.{is_ascii_digit}
use Rattle.std.specs.Cmp.Lexicographic.{pointwise}
use Rattle.std.proofs.lemmas.Bool.Decides.{Decides-eqb}
use Rattle.std.proofs.lemmas.Slice.Eq.{slice_eq-Decides}
use Rattle.pseudo_time.specs.StampParts.{StampParts, IsStamp}
use Rattle.token_form.proofs.Runs.{by_test, Stops}
use Rattle.plan_form.specs.Reading.{number_behind}
use Rattle.plan_form.proofs.NumberLemmas.{bind_some, bind_is, pairs_are, number_behind-written, number_behind-is}
use Rattle.record_votes.specs.declared.ballots.Wish.{Wish}
use Rattle.record_votes.specs.declared.ballots.Wish.TheVariants.{Commit, Withdraw}
use Rattle.vote_form.specs.declared.poll_lines.PollLine.{PollLine}
use Rattle.vote_form.specs.Inputs.{wish_text, poll_text, IsPoll}
use Rattle.vote_form.specs.Reading.{wish_at, stamp_at, poll_at}

-- a poll line up to its stamp, and what follows
abbrev said : StampParts → List ℕ → List ℕ
said s rest = codes "poll " ++ (decimal s.clock ++ (codes "." ++ (decimal s.broker ++ (codes "." ++ (decimal s.home ++ rest)))))

-- ---- what is written is read

wish-written : (w : Wish) → wish_at (wish_text w) ≡ Some w
wish-written Commit = refl
wish-written Withdraw = refl

wish-stops : (w : Wish) → Stops is_ascii_digit (wish_text w)
wish-stops Commit = refl
wish-stops Withdraw = refl

stamp-written : (s : StampParts) (more : List ℕ) → IsStamp s → stamp_at (said s (codes " timeout " ++ more)) ≡ Some (s, codes " timeout " ++ more)
stamp-written s more is =
    let high = is.clock_high in
    bind_some _ (s.clock, _) _ (number_behind-written (codes "poll ") (codes "." ++ (decimal s.broker ++ (codes "." ++ (decimal s.home ++ (codes " timeout " ++ more))))) (2 ^ 40 - 1) s.clock (omega arith) (is.clock_low, omega (arith, high)) refl)
    ∙ bind_some _ (s.broker, _) _ (number_behind-written (codes ".") (codes "." ++ (decimal s.home ++ (codes " timeout " ++ more))) 16 s.broker (omega arith) (is.broker_low, is.broker_high) refl)
    ∙ bind_some _ (s.home, _) _ (number_behind-written (codes ".") (codes " timeout " ++ more) 16 s.home (omega arith) (is.home_low, is.home_high) refl)

pub poll-written : (p : PollLine) → IsPoll p → poll_at (poll_text p) ≡ Some p
poll-written p is =
    bind_some _ (p.stamp, _) _ (stamp-written p.stamp (decimal p.timeout ++ wish_text p.wish) is.stamp)
    ∙ bind_some _ (p.timeout, _) _ (number_behind-written (codes " timeout ") (wish_text p.wish) 1000000 p.timeout (omega arith) is.timeout (wish-stops p.wish))
    ∙ bind_some _ p.wish _ (wish-written p.wish)

-- ---- what is read is written

is-text : (bytes text : List ℕ) → pointwise ◌==◌ bytes text ≡ true → bytes ≡ text
is-text bytes text h = (slice_eq-Decides Decides-eqb bytes text (pointwise ◌==◌ bytes text) refl).0 h

wish-is : (bytes : List ℕ) (w : Wish) → wish_at bytes ≡ Some w → bytes ≡ wish_text w
wish-is bytes w e =
    by_test (pointwise ◌==◌ bytes (codes " commit")) (λ p. pointwise ◌==◌ bytes (codes " commit") ≡ p → cond p (Some Commit) (cond (pointwise ◌==◌ bytes (codes " withdraw")) (Some Withdraw) None) ≡ Some w → bytes ≡ wish_text w)
    (λ is k h. let same : Commit ≡ w = cc in is-text bytes (codes " commit") is ∙ ap wish_text same)
    (λ is k h. withdrawn h) refl e
  where
    withdrawn : cond (pointwise ◌==◌ bytes (codes " withdraw")) (Some Withdraw) None ≡ Some w → bytes ≡ wish_text w
    withdrawn e = by_test (pointwise ◌==◌ bytes (codes " withdraw")) (λ p. pointwise ◌==◌ bytes (codes " withdraw") ≡ p → cond p (Some Withdraw) None ≡ Some w → bytes ≡ wish_text w)
        (λ is k h. let same : Withdraw ≡ w = cc in is-text bytes (codes " withdraw") is ∙ ap wish_text same)
        (λ is k h. absurd (cc)) refl e

stamp-is : (bytes rest : List ℕ) (s : StampParts) → stamp_at bytes ≡ Some (s, rest) → IsStamp s × (bytes ≡ said s rest)
stamp-is bytes rest s e =
    let clock = bind_is (number_behind (codes "poll ") (2 ^ 40 - 1) bytes) _ (s, rest) e in
    let broker = bind_is (number_behind (codes ".") 16 clock.0.1) _ (s, rest) clock.2 in
    let home = bind_is (number_behind (codes ".") 16 broker.0.1) _ (s, rest) broker.2 in
    let is1 = number_behind-is (codes "poll ") bytes clock.0.1 (2 ^ 40 - 1) clock.0.0 (omega arith) clock.1 in
    let is2 = number_behind-is (codes ".") clock.0.1 broker.0.1 16 broker.0.0 (omega arith) broker.1 in
    let is3 = number_behind-is (codes ".") broker.0.1 home.0.1 16 home.0.0 (omega arith) home.1 in
    let u : StampParts = record { clock = clock.0.0; broker = broker.0.0; home = home.0.0 } in
    let same = pairs_are u s home.0.1 rest home.2 in
    let high = is1.0.1 in (
      subst IsStamp same.0 (record { clock_low = is1.0.0; clock_high = omega (arith, high); broker_low = is2.0.0; broker_high = is2.0.1; home_low = is3.0.0; home_high = is3.0.1 }),
      is1.1
          ∙ ap (λ z. codes "poll " ++ (decimal clock.0.0 ++ z)) (is2.1 ∙ ap (λ z. codes "." ++ (decimal broker.0.0 ++ z)) is3.1)
          ∙ ap (λ z. said z home.0.1) same.0 ∙ ap (said s) same.1,
    )

pub poll-is : (line : List ℕ) (p : PollLine) → poll_at line ≡ Some p → IsPoll p × (line ≡ poll_text p)
poll-is line p e =
    let stamp = bind_is (stamp_at line) _ p e in
    let timeout = bind_is (number_behind (codes " timeout ") 1000000 stamp.0.1) _ p stamp.2 in
    let wish = bind_is (wish_at timeout.0.1) _ p timeout.2 in
    let is1 = stamp-is line stamp.0.1 stamp.0.0 stamp.1 in
    let is2 = number_behind-is (codes " timeout ") stamp.0.1 timeout.0.1 1000000 timeout.0.0 (omega arith) timeout.1 in
    let u : PollLine = record { stamp = stamp.0.0; timeout = timeout.0.0; wish = wish.0 } in
    let same : u ≡ p = (let k : ◌≡◌ {A = Option PollLine} (Some u) (Some p) = wish.2 in cc) in (
      subst IsPoll same (record { stamp = is1.0; timeout = is2.0 }),
      is1.1 ∙ ap (said stamp.0.0) (is2.1 ∙ ap (λ z. codes " timeout " ++ (decimal timeout.0.0 ++ z)) (wish-is timeout.0.1 wish.0 wish.1)) ∙ ap poll_text same,
    )

-- two polls of one line are the same
pub one-poll : (p q : PollLine) → IsPoll p → IsPoll q → poll_text p ≡ poll_text q → p ≡ q
one-poll p q h k e =
    let s : ◌≡◌ {A = Option PollLine} (Some p) (Some q) = sym (poll-written p h) ∙ ap poll_at e ∙ poll-written q k in cc
