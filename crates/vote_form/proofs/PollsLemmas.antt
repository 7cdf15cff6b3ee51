-- Lines read one after another, and what they are.
use Rattle.std.proofs.Common.{◌≡◌, ℕ, ◌+◌, ◌<◌, ◌≤◌, inl, inr, List, [], ◌∷◌, ◌++◌, map, length, Option, Some, None, refl, sym, ap, ◌∙◌, append_assoc, append-nil, length-append, arith}
use Rattle.std.proofs.lemmas.List.{map-append, length-map}
use Rattle.pseudo_time.specs.Lists.{Every}
use Rattle.pseudo_time.proofs.ListLemmas.{every-append}
use Rattle.script_form.specs.Lines.{lines}
use Rattle.plan_form.specs.PlanFaults.{Lacks}
use Rattle.vote_form.specs.declared.poll_lines.PollLine.{PollLine}
use Rattle.vote_form.specs.Inputs.{title, poll_text, IsPoll, IsInput}
use Rattle.vote_form.specs.Faults.{BeginVotes, FaultAt, IsLinesFault, IsInputFault}
use Rattle.vote_form.specs.Reading.{poll_at}
use Rattle.vote_form.proofs.LineLemmas.{poll-written, poll-is, one-poll}

-- the lines so far are these polls
pub record Reading (bytes rest : List ℕ) (polls : List PollLine) : Type 0 where
  pub parts : lines bytes ≡ map poll_text polls ++ lines rest
  pub each : Every IsPoll polls
  pub few : length polls ≤ 16

pub reading-one : (bytes rest after line : List ℕ) (polls : List PollLine) (p : PollLine) → Reading bytes rest polls → lines rest ≡ line ∷ lines after → length polls < 16 → poll_at line ≡ Some p
    → Reading bytes after (polls ++ p ∷ [])
reading-one bytes rest after line polls p r first small e =
    let is : IsPoll p × (line ≡ poll_text p) = poll-is line p e in
    record {
      parts = r.parts ∙ ap (λ z. map poll_text polls ++ z) (first ∙ ap (λ z. z ∷ lines after) is.1) ∙ sym (append_assoc (map poll_text polls) (poll_text p ∷ []) (lines after)) ∙ ap (λ z. z ++ lines after) (sym (map-append poll_text polls (p ∷ [])));
      each = every-append IsPoll polls (p ∷ []) r.each (is.0, tt);
      few = (let n = length-append polls (p ∷ []) in omega (arith, n, small));
    }

-- the poll of a line of an input, and how many stand before it
pub record Picked (before : List (List ℕ)) (line : List ℕ) (polls : List PollLine) : Type 0 where
  pub poll : PollLine
  pub is_poll : IsPoll poll
  pub says : line ≡ poll_text poll
  pub count : length before < length polls

picked : (before more : List (List ℕ)) (line : List ℕ) (polls : List PollLine) → (before ++ line ∷ []) ++ more ≡ map poll_text polls → Every IsPoll polls → Picked before line polls
picked [] more line [] e h = absurd (cc e)
picked [] more line (p ∷ ps) e h = record { poll = p; is_poll = h.0; says = cc e; count = omega arith }
picked (b ∷ before) more line [] e h = absurd (cc e)
picked (b ∷ before) more line (p ∷ ps) e h =
    let r : Picked before line ps = picked before more line ps (cc e) h.1 in
    let n = r.count in
    record { poll = r.poll; is_poll = r.is_poll; says = r.says; count = omega (arith, n) }

tails : (x y : List ℕ) (xs ys : List (List ℕ)) → x ∷ xs ≡ y ∷ ys → (x ≡ y) × (xs ≡ ys)
tails x y xs ys e = (cc e, cc e)

-- lines that go on with one that is no poll, or one too many, begin no input
no-votes : (polls : List PollLine) (line : List ℕ) → ((p : PollLine) → IsPoll p → line ≡ poll_text p → length polls < 16 → ⊥) → BeginVotes (title ∷ (map poll_text polls ++ line ∷ [])) → ⊥
no-votes polls line never b =
    let r : Picked (map poll_text polls) line b.0 = picked (map poll_text polls) b.1 line b.0 (tails title title ((map poll_text polls ++ line ∷ []) ++ b.1) (map poll_text b.0) b.2.are).1 b.2.each in
    let few = b.2.few in
    let count = r.count in
    let size = length-map polls poll_text in
    never r.poll r.is_poll r.says (omega (arith, few, count, size))

pub reading-fault : (bytes rest after line : List ℕ) (polls : List PollLine) (at : ℕ) → Reading bytes rest polls → lines rest ≡ line ∷ lines after → at ≡ length polls + 2
    → ((p : PollLine) → IsPoll p → line ≡ poll_text p → length polls < 16 → ⊥) → FaultAt (title ∷ lines bytes) at
reading-fault bytes rest after line polls at r first count never = record {
  before = title ∷ map poll_text polls;
  line = line;
  rest = lines after;
  are = ap (λ z. title ∷ z) (r.parts ∙ ap (λ z. map poll_text polls ++ z) first);
  count = (let size = length-map polls poll_text in omega (arith, count, size));
  begins = (polls, [], record { are = ap (λ z. title ∷ z) (append-nil (map poll_text polls)); each = r.each; few = r.few });
  never = no-votes polls line never;
}

pub too-many : (polls : List PollLine) (line : List ℕ) → 16 ≤ length polls → (p : PollLine) → IsPoll p → line ≡ poll_text p → length polls < 16 → ⊥
too-many polls line many p is says few = omega (arith, many, few)

pub no-poll : (polls : List PollLine) (line : List ℕ) → None ≡ poll_at line → (p : PollLine) → IsPoll p → line ≡ poll_text p → length polls < 16 → ⊥
no-poll polls line none p is says few = let k : ◌≡◌ {A = Option PollLine} None (Some p) = none ∙ ap poll_at says ∙ poll-written p is in absurd (cc)

-- ---- the first line

pub title-missing : (ls : List (List ℕ)) (line : List ℕ) (rest : List (List ℕ)) → ls ≡ line ∷ rest → (line ≡ title → ⊥) → FaultAt ls 1
title-missing ls line rest e never = record {
  before = [];
  line = line;
  rest = rest;
  are = e;
  count = refl;
  begins = ([], title ∷ [], record { are = refl; each = tt; few = omega arith });
  never = λ b. never (tails line title b.1 (map poll_text b.0) b.2.are).0;
}

-- what is wrong where the title isn't there
pub title-fault : (bytes : List ℕ) → length bytes ≤ 4194304 → Lacks (λ l. l ≡ title) (lines bytes) → IsInputFault bytes 1
title-fault bytes small lacks = inr (small, first (lines bytes) refl lacks)
  where
    first : (ls : List (List ℕ)) → lines bytes ≡ ls → Lacks (λ l. l ≡ title) ls → IsLinesFault (lines bytes) 1
    first [] e never = inl (e, refl)
    first (l ∷ ls) e never = inr (title-missing (lines bytes) l ls e never)

-- ---- one input

one-list : (xs ys : List PollLine) → Every IsPoll xs → Every IsPoll ys → map poll_text xs ≡ map poll_text ys → xs ≡ ys
one-list [] [] h k e = refl
one-list [] (y ∷ ys) h k e = absurd (cc e)
one-list (x ∷ xs) [] h k e = absurd (cc e)
one-list (x ∷ xs) (y ∷ ys) h k e =
    let t : (poll_text x ≡ poll_text y) × (map poll_text xs ≡ map poll_text ys) = tails (poll_text x) (poll_text y) (map poll_text xs) (map poll_text ys) e in
    ap (λ z. z ∷ xs) (one-poll x y h.0 k.0 t.0) ∙ ap (λ z. y ∷ z) (one-list xs ys h.1 k.1 t.1)

pub one-input : (bytes : List ℕ) (a b : List PollLine) → IsInput bytes a → IsInput bytes b → a ≡ b
one-input bytes a b h k = one-list a b h.1.each k.1.each (tails title title (map poll_text a) (map poll_text b) (sym h.1.are ∙ k.1.are)).1

pub fault-of-none : (bytes : List ℕ) (line : ℕ) (polls : List PollLine) → IsInputFault bytes line → IsInput bytes polls → ⊥
fault-of-none bytes line polls (inl h) k = let small = k.0 in let over = h.0 in omega (arith, small, over)
fault-of-none bytes line polls (inr (small, inl h)) k = let e : [] ≡ title ∷ map poll_text polls = sym h.0 ∙ k.1.are in absurd (cc e)
fault-of-none bytes line polls (inr (small, inr f)) k =
    f.never (polls, f.rest, record { are = append_assoc f.before (f.line ∷ []) f.rest ∙ sym f.are ∙ k.1.are; each = k.1.each; few = k.1.few })
