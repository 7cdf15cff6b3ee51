-- The trace that is legal, with another list of what was sent, or of the fates that were asked for: each is refused.
use Rattle.std.proofs.lemmas.Bool.{true≢false}
use Rattle.trace_logs.proofs.Names.{Every, Post, Asked, Sent, Trace, Legal, post_of, ◌≡◌, ◌<◌, ◌+◌, ℕ, Bool, true, false, ◌==◌, List, [], ◌∷◌, ◌++◌, map, drop, length, Option, Some, None, slice_get, refl, ap, sym, ◌∙◌, arith, length-append, asked_of, kind_number, tag_of}
use Rattle.pseudo_time.specs.declared.decisions.Decision.TheVariants as decision
use Rattle.message_form.specs.declared.messages.Message.TheVariants as message
use Rattle.trace_logs.proofs.WorkedTraces.{home, desk, stamp, blank, prompt}
use Rattle.trace_logs.proofs.WorkedTurns.{object, ten, plan, script, entries, at, request, answer, question, sent, asked, trace}
use Rattle.trace_logs.proofs.LegalTraces.{legal, sent-by-gates}

abbrev with_sent : List Sent → Trace
with_sent sent = record { start = 0; opened = blank; sent = sent; entries = entries }

-- all of its fates were asked for, and none else
abbrev Unsent : List Sent → Type 0
Unsent sent = Legal script plan (map asked_of sent) (with_sent sent) → ⊥

gates-sent : (xs : List Sent) → Legal script plan (map asked_of xs) (with_sent xs) → map post_of xs ≡ map post_of sent
gates-sent xs l = l.sent ∙ sent-by-gates

-- what differs in a test isn't the same
apart : {A : Type 0} {x y : A} (f : A → Bool) → f x ≡ true → f y ≡ false → x ≡ y → ⊥
apart f p q e = true≢false (sym p ∙ ap f e ∙ q)

-- ---- the messages

-- of what stands at a place: the kind of its sender and of its receiver, and its tag
from_at : Option Post → ℕ
from_at None = 0
from_at (Some p) = kind_number p.from.kind

to_at : Option Post → ℕ
to_at None = 0
to_at (Some p) = kind_number p.to.kind

tag_at : Option Post → ℕ
tag_at None = 0
tag_at (Some p) = tag_of p.message

-- without the last, the first six with the last, and with one more
abbrev front : List Sent
front = request 1 (message.Begin stamp 5) ∷ answer 2 (message.Begun stamp) ∷ request 3 (message.Write (at 1) object ten) ∷ answer 4 (message.Stored (at 1))
    ∷ request 5 (message.Read (at 2) object) ∷ answer 6 (message.Value (at 2) ten) ∷ []

abbrev last_left_out : List Sent
last_left_out = front ++ request 7 (message.Commit stamp) ∷ []

no-last_left_out : Unsent last_left_out
no-last_left_out l = apart (λ xs. length xs == 7) refl refl (gates-sent last_left_out l)

abbrev commit_left_out : List Sent
commit_left_out = front ++ answer 7 (message.Decided stamp decision.Committed) ∷ []

no-commit_left_out : Unsent commit_left_out
no-commit_left_out l = apart (λ xs. length xs == 7) refl refl (gates-sent commit_left_out l)

abbrev one_too_many : List Sent
one_too_many = sent ++ answer 9 (message.Decided stamp decision.Committed) ∷ []

no-one_too_many : Unsent one_too_many
no-one_too_many l = apart (λ xs. length xs == 9) refl refl (gates-sent one_too_many l)

-- the last two in the other order
abbrev turned_round : List Sent
turned_round = front ++ answer 7 (message.Decided stamp decision.Committed) ∷ request 8 (message.Commit stamp) ∷ []

no-turned_round : Unsent turned_round
unfolding from_at
no-turned_round l = apart (λ xs. from_at (slice_get xs 6) == 1) refl refl (gates-sent turned_round l)

-- another message in the place of the Commit, another sender, and another receiver
abbrev withdraw_for_commit : List Sent
withdraw_for_commit = front ++ request 7 (message.Withdraw stamp) ∷ answer 8 (message.Decided stamp decision.Committed) ∷ []

no-withdraw_for_commit : Unsent withdraw_for_commit
unfolding tag_at
no-withdraw_for_commit l = apart (λ xs. tag_at (slice_get xs 6) == 11) refl refl (gates-sent withdraw_for_commit l)

abbrev from_itself : List Sent
from_itself = front ++ request 7 (message.Commit stamp) ∷ record { number = 8; from = desk; to = desk; message = message.Decided stamp decision.Committed; fate = prompt } ∷ []

no-from_itself : Unsent from_itself
unfolding from_at
no-from_itself l = apart (λ xs. from_at (slice_get xs 7) == 2) refl refl (gates-sent from_itself l)

abbrev to_itself : List Sent
to_itself = front ++ request 7 (message.Commit stamp) ∷ record { number = 8; from = home; to = home; message = message.Decided stamp decision.Committed; fate = prompt } ∷ []

no-to_itself : Unsent to_itself
unfolding to_at
no-to_itself l = apart (λ xs. to_at (slice_get xs 7) == 1) refl refl (gates-sent to_itself l)

-- ---- the numbers

-- a number twice, and a number left out
abbrev number_twice : List Sent
number_twice = front ++ request 7 (message.Commit stamp) ∷ answer 7 (message.Decided stamp decision.Committed) ∷ []

no-number_twice : Unsent number_twice
no-number_twice l = let e = l.numbers.1.1.1.1.1.1.1.0 in absurd (cc e)

abbrev number_left_out : List Sent
number_left_out = front ++ request 7 (message.Commit stamp) ∷ answer 9 (message.Decided stamp decision.Committed) ∷ []

no-number_left_out : Unsent number_left_out
no-number_left_out l = let e = l.numbers.1.1.1.1.1.1.1.0 in absurd (cc e)

-- numbered from 0
abbrev from_zero : List Sent
from_zero = request 0 (message.Begin stamp 5) ∷ answer 1 (message.Begun stamp) ∷ request 2 (message.Write (at 1) object ten) ∷ answer 3 (message.Stored (at 1))
    ∷ request 4 (message.Read (at 2) object) ∷ answer 5 (message.Value (at 2) ten) ∷ request 6 (message.Commit stamp) ∷ answer 7 (message.Decided stamp decision.Committed) ∷ []

no-from_zero : Unsent from_zero
no-from_zero l = let e = l.numbers.0 in absurd (cc e)

-- as one table
pub unsent : Every Unsent
    (last_left_out ∷ commit_left_out ∷ one_too_many ∷ turned_round ∷ withdraw_for_commit ∷ from_itself ∷ to_itself ∷ number_twice ∷ number_left_out ∷ from_zero ∷ [])
unsent = (no-last_left_out, (no-commit_left_out, (no-one_too_many, (no-turned_round, (no-withdraw_for_commit, (no-from_itself, (no-to_itself, (no-number_twice, (no-number_left_out, (no-from_zero, tt))))))))))

-- ---- the fates

number_of : Option Asked → ℕ
number_of None = 0
number_of (Some a) = a.number

tag_of_question : Option Asked → ℕ
tag_of_question None = 0
tag_of_question (Some a) = a.tag

copies_in : Option Asked → ℕ
copies_in None = 0
copies_in (Some a) = a.fate.copies

abbrev Unasked : List Asked → Type 0
Unasked asked = Legal script plan asked (with_sent sent) → ⊥

-- as many, and fewer
same-ends : (before xs ys : List Asked) → xs ≡ before ++ ys → length xs ≡ length ys → xs ≡ ys
same-ends [] xs ys e h = e
same-ends (a ∷ before) xs ys e h = absurd (omega (arith, h, ap length e ∙ length-append (a ∷ before) ys))

no-fewer : (before xs ys : List Asked) → xs ≡ before ++ ys → length xs < length ys → ⊥
no-fewer before xs ys e h = omega (arith, h, ap length e ∙ length-append before ys)

-- one more
ends-behind : (before xs ys : List Asked) → xs ≡ before ++ ys → length xs ≡ length ys + 1 → drop 1 xs ≡ ys
ends-behind [] xs ys e h = absurd (omega (arith, h, ap length e))
ends-behind (a ∷ []) xs ys e h = ap (drop 1) e
ends-behind (a ∷ b ∷ before) xs ys e h = absurd (omega (arith, h, ap length e ∙ length-append (a ∷ b ∷ before) ys))

fates-asked : (xs : List Asked) → length xs ≡ 8 → Legal script plan xs (with_sent sent) → xs ≡ asked
fates-asked xs h l = same-ends l.before xs asked l.fated h

abbrev asked_front : List Asked
asked_front = question 1 1 ∷ question 2 2 ∷ question 3 5 ∷ question 4 6 ∷ question 5 3 ∷ question 6 4 ∷ []

-- the fate of a message with another number, with another tag, and another fate
abbrev other_number : List Asked
other_number = asked_front ++ question 7 10 ∷ question 9 12 ∷ []

no-other_number : Unasked other_number
unfolding number_of
no-other_number l = apart (λ xs. number_of (slice_get xs 7) == 9) refl refl (fates-asked other_number refl l)

abbrev other_tag : List Asked
other_tag = asked_front ++ question 7 11 ∷ question 8 12 ∷ []

no-other_tag : Unasked other_tag
unfolding tag_of_question
no-other_tag l = apart (λ xs. tag_of_question (slice_get xs 6) == 11) refl refl (fates-asked other_tag refl l)

abbrev other_fate : List Asked
other_fate = asked_front ++ question 7 10 ∷ record { number = 8; tag = 12; fate = record { copies = 2; overtake = 0; hold = 0 } } ∷ []

no-other_fate : Unasked other_fate
unfolding copies_in
no-other_fate l = apart (λ xs. copies_in (slice_get xs 7) == 2) refl refl (fates-asked other_fate refl l)

-- the last two in the other order
abbrev asked_round : List Asked
asked_round = asked_front ++ question 8 12 ∷ question 7 10 ∷ []

no-asked_round : Unasked asked_round
unfolding number_of
no-asked_round l = apart (λ xs. number_of (slice_get xs 6) == 8) refl refl (fates-asked asked_round refl l)

-- one that was never asked for, and one asked for behind all others
abbrev never_asked : List Asked
never_asked = asked_front ++ question 7 10 ∷ []

no-never_asked : Unasked never_asked
no-never_asked l = no-fewer l.before never_asked asked l.fated (omega arith)

abbrev asked_later : List Asked
asked_later = asked ++ question 9 12 ∷ []

no-asked_later : Unasked asked_later
unfolding number_of
no-asked_later l = apart (λ xs. number_of (slice_get xs 7) == 9) refl refl (ends-behind l.before asked_later asked l.fated refl)

pub unasked : Every Unasked (other_number ∷ other_tag ∷ other_fate ∷ asked_round ∷ never_asked ∷ asked_later ∷ [])
unasked = (no-other_number, (no-other_tag, (no-other_fate, (no-asked_round, (no-never_asked, (no-asked_later, tt))))))

-- fates that were asked for before the run are no hindrance
pub asked-before : Legal script plan (question 1 1 ∷ asked) trace
asked-before = record {
  scripted = legal.scripted;
  nodes = legal.nodes;
  ready = legal.ready;
  meets = legal.meets;
  sent = legal.sent;
  numbers = legal.numbers;
  before = question 1 1 ∷ [];
  fated = refl;
}
