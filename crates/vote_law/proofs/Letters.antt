-- The messages from one node to another: those that were sent, each with whether its copy was taken, and those that wait for a gate.
use Rattle.std.proofs.Math.Dec.{eqb-suc-zero}
use Rattle.vote_law.proofs.Names.{Every, every-append, same_node, NodeId, Message, Out, Post, posts, count, Sending, ◌≡◌, ℕ, zero, suc, ◌+◌, ◌≤◌, ◌<◌, Bool, true, false, List, [], ◌∷◌, ◌++◌, map, length, refl, sym, ap, subst, ◌∙◌, arith, zero-add, Some, ◌==◌, ◌&&◌, not, cond, slice_get, eqb-true, eq-eqb, append_assoc}

-- a message, and whether its copy was taken
abbrev pub Mark : Type 0
Mark = Message × Bool

abbrev pub marked : Bool → Message → Bool → List Mark
marked true m t = (m, t) ∷ []
marked false m t = []

abbrev pub Taken : Mark → Type 0
Taken m = m.1 ≡ true

abbrev pub is_taken : List ℕ → ℕ → Bool
is_taken taken k = not (count k taken == 0)

-- messages on their way out, at this moment
abbrev pub sendings_of : ℕ → NodeId → List Out → List Sending
sendings_of ticks n outs = map (λ (p : Post). let r : Sending = record { post = p; ticks = ticks } in r) (posts n outs)

abbrev pub FreeFrom : List ℕ → ℕ → Type 0
FreeFrom taken k = (j : ℕ) → k ≤ j → count j taken ≡ 0

below-free : (taken : List ℕ) (k : ℕ) → FreeFrom taken k → FreeFrom taken (suc k)
below-free taken k f j h = f j (omega (arith, h))

pub other-number : (k j : ℕ) → ((k == j) ≡ true → ⊥) → (taken : List ℕ) → count j (k ∷ taken) ≡ count j taken
other-number k j differ taken = (elim (k == j) as (λ t. (k == j) ≡ t → cond t 1 0 + count j taken ≡ count j taken) [ true ↦ λ e. absurd (differ e) | false ↦ λ e. zero-add (count j taken) ]) refl

-- those that wait, to this node
module _ (to : NodeId) where
  abbrev pub waiting : List Out → List Mark
  waiting [] = []
  waiting (o ∷ outs) = marked (same_node o.to to) o.message false ++ waiting outs

  pub waiting-append : (xs ys : List Out) → waiting (xs ++ ys) ≡ waiting xs ++ waiting ys
  waiting-append [] ys = refl
  waiting-append (x ∷ xs) ys = ap (λ l. marked (same_node x.to to) x.message false ++ l) (waiting-append xs ys) ∙ sym (append_assoc (marked (same_node x.to to) x.message false) (waiting xs) (waiting ys))

-- a message whose copy was not taken before
pub record Flips (old new : List Mark) (m : Message) : Type 0 where
  pub front : List Mark
  pub back : List Mark
  pub was : old ≡ front ++ (m, false) ∷ back
  pub is : new ≡ front ++ (m, true) ∷ back

pub flips-behind : (old new more : List Mark) (m : Message) → Flips old new m → Flips (old ++ more) (new ++ more) m
flips-behind old new more m f = record {
  front = f.front;
  back = f.back ++ more;
  was = ap (λ l. l ++ more) f.was ∙ append_assoc f.front ((m, false) ∷ f.back) more;
  is = ap (λ l. l ++ more) f.is ∙ append_assoc f.front ((m, true) ∷ f.back) more;
}

flips-before : (old new more : List Mark) (m : Message) → Flips old new m → Flips (more ++ old) (more ++ new) m
flips-before old new more m f = record {
  front = more ++ f.front;
  back = f.back;
  was = ap (λ l. more ++ l) f.was ∙ sym (append_assoc more f.front ((m, false) ∷ f.back));
  is = ap (λ l. more ++ l) f.is ∙ sym (append_assoc more f.front ((m, true) ∷ f.back));
}

taken-now : (k : ℕ) (taken : List ℕ) → (t : Bool) → t ≡ true → not (cond t 1 0 + count k taken == 0) ≡ true
taken-now k taken true e = let one : cond true 1 0 + count k taken ≡ suc (count k taken) = omega arith in ap (λ n. not (n == 0)) one ∙ ap (λ t. not t) (eqb-suc-zero (count k taken))
taken-now k taken false e = absurd (let q : false ≡ true = e in cc q)

module _ (from to : NodeId) where
  -- it goes from the one to the other
  abbrev pub between : Post → Bool
  between p = same_node p.from from && same_node p.to to

  abbrev pub marks : List ℕ → ℕ → List Sending → List Mark
  marks taken k [] = []
  marks taken k (s ∷ ss) = marked (between s.post) s.post.message (is_taken taken k) ++ marks taken (suc k) ss

  pub marks-append : (taken : List ℕ) (k : ℕ) (xs ys : List Sending) → marks taken k (xs ++ ys) ≡ marks taken k xs ++ marks taken (k + length xs) ys
  marks-append taken k [] ys = let same : k ≡ k + 0 = omega arith in ap (λ j. marks taken j ys) same
  marks-append taken k (x ∷ xs) ys =
      let more : List Mark = marked (between x.post) x.post.message (is_taken taken k) in
      let same : suc k + length xs ≡ k + length (x ∷ xs) = omega arith in
      ap (λ l. more ++ l) (marks-append taken (suc k) xs ys ∙ ap (λ j. marks taken (suc k) xs ++ marks taken j ys) same) ∙ sym (append_assoc more (marks taken (suc k) xs) (marks taken (k + length (x ∷ xs)) ys))

  -- ---- what a gate sends

  marked-own : (a b : Bool) (m : Message) (n : ℕ) → a ≡ true → n ≡ 0 → marked (a && b) m (not (n == 0)) ≡ marked b m false
  marked-own a b m n e f = ap (λ t. marked (t && b) m (not (n == 0))) e ∙ ap (λ j. marked b m (not (j == 0))) f

  pub own-marks : (taken : List ℕ) (k ticks : ℕ) (n : NodeId) (outs : List Out) → same_node n from ≡ true → FreeFrom taken k → marks taken k (sendings_of ticks n outs) ≡ waiting to outs
  own-marks taken k ticks n [] is free = refl
  own-marks taken k ticks n (o ∷ outs) is free =
      ap (λ l. l ++ marks taken (suc k) (sendings_of ticks n outs)) (marked-own (same_node n from) (same_node o.to to) o.message (count k taken) is (free k (omega arith)))
      ∙ ap (λ l. marked (same_node o.to to) o.message false ++ l) (own-marks taken (suc k) ticks n outs is (below-free taken k free))

  pub other-marks : (taken : List ℕ) (k ticks : ℕ) (n : NodeId) (outs : List Out) → same_node n from ≡ false → marks taken k (sendings_of ticks n outs) ≡ []
  other-marks taken k ticks n [] is = refl
  other-marks taken k ticks n (o ∷ outs) is = ap (λ t. marked (t && same_node o.to to) o.message (is_taken taken k) ++ marks taken (suc k) (sendings_of ticks n outs)) is ∙ other-marks taken (suc k) ticks n outs is

  -- ---- what a taking changes

  -- a number before these
  before-marks : (taken : List ℕ) (number k : ℕ) (ss : List Sending) → number < k → marks (number ∷ taken) k ss ≡ marks taken k ss
  before-marks taken number k [] less = refl
  before-marks taken number k (s ∷ ss) less =
      let same : count k (number ∷ taken) ≡ count k taken = other-number number k (λ e. (let q : number ≡ k = eqb-true number k e in absurd (omega (arith, q, less)))) taken in
      ap (λ c. marked (between s.post) s.post.message (not (c == 0)) ++ marks (number ∷ taken) (suc k) ss) same
      ∙ ap (λ l. marked (between s.post) s.post.message (is_taken taken k) ++ l) (before-marks taken number (suc k) ss (omega (arith, less)))

  -- a message between others
  pub passed-marks : (taken : List ℕ) (k j number : ℕ) (ss : List Sending) (x : Sending) → number ≡ j + k → slice_get ss j ≡ Some x → between x.post ≡ false → marks (number ∷ taken) k ss ≡ marks taken k ss
  passed-marks taken k j number [] x at there not-it = absurd (cc there)
  passed-marks taken k zero number (s ∷ ss) x at there not-it =
      let is : s ≡ x = cc there in
      let none : between s.post ≡ false = ap (λ (z : Sending). between z.post) is ∙ not-it in
      ap (λ t. marked t s.post.message (is_taken (number ∷ taken) k) ++ marks (number ∷ taken) (suc k) ss) none
      ∙ before-marks taken number (suc k) ss (omega (arith, at))
      ∙ sym (ap (λ t. marked t s.post.message (is_taken taken k) ++ marks taken (suc k) ss) none)
  passed-marks taken k (suc j) number (s ∷ ss) x at there not-it =
      let same : count k (number ∷ taken) ≡ count k taken = other-number number k (λ e. (let q : number ≡ k = eqb-true number k e in absurd (omega (arith, q, at)))) taken in
      ap (λ c. marked (between s.post) s.post.message (not (c == 0)) ++ marks (number ∷ taken) (suc k) ss) same
      ∙ ap (λ l. marked (between s.post) s.post.message (is_taken taken k) ++ l) (passed-marks taken (suc k) j number ss x (omega (arith, at)) there not-it)

  pub flipped-marks : (taken : List ℕ) (k j number : ℕ) (ss : List Sending) (x : Sending) → number ≡ j + k → slice_get ss j ≡ Some x → between x.post ≡ true → count number taken ≡ 0
      → Flips (marks taken k ss) (marks (number ∷ taken) k ss) x.post.message
  flipped-marks taken k j number [] x at there it free = absurd (cc there)
  flipped-marks taken k zero number (s ∷ ss) x at there it free =
      let is : s ≡ x = cc there in
      let one : between s.post ≡ true = ap (λ (z : Sending). between z.post) is ∙ it in
      let here : number ≡ k = omega (arith, at) in
      record {
        front = [];
        back = marks taken (suc k) ss;
        was = ap (λ t. marked t s.post.message (is_taken taken k) ++ marks taken (suc k) ss) one
            ∙ ap (λ c. (s.post.message, not (c == 0)) ∷ marks taken (suc k) ss) (ap (λ q. count q taken) (sym here) ∙ free)
            ∙ ap (λ (z : Sending). (z.post.message, false) ∷ marks taken (suc k) ss) is;
        is = ap (λ t. marked t s.post.message (is_taken (number ∷ taken) k) ++ marks (number ∷ taken) (suc k) ss) one
            ∙ ap (λ t. (s.post.message, t) ∷ marks (number ∷ taken) (suc k) ss) (subst (λ q. is_taken (q ∷ taken) k ≡ true) (sym here) (taken-now k taken (k == k) (eq-eqb k k refl)))
            ∙ ap (λ l. (s.post.message, true) ∷ l) (before-marks taken number (suc k) ss (omega (arith, here)))
            ∙ ap (λ (z : Sending). (z.post.message, true) ∷ marks taken (suc k) ss) is;
      }
  flipped-marks taken k (suc j) number (s ∷ ss) x at there it free =
      let same : count k (number ∷ taken) ≡ count k taken = other-number number k (λ e. (let q : number ≡ k = eqb-true number k e in absurd (omega (arith, q, at)))) taken in
      let more : List Mark = marked (between s.post) s.post.message (is_taken taken k) in
      let f : Flips (more ++ marks taken (suc k) ss) (more ++ marks (number ∷ taken) (suc k) ss) x.post.message =
      flips-before (marks taken (suc k) ss) (marks (number ∷ taken) (suc k) ss) more x.post.message (flipped-marks taken (suc k) j number ss x (omega (arith, at)) there it free) in
      subst (λ l. Flips (more ++ marks taken (suc k) ss) l x.post.message)
      (sym (ap (λ c. marked (between s.post) s.post.message (not (c == 0)) ++ marks (number ∷ taken) (suc k) ss) same)) f

  -- ---- where all were taken

  pub all-taken : (taken : List ℕ) (k : ℕ) (ss : List Sending)
      → ((j : ℕ) (x : Sending) → slice_get ss j ≡ Some x → between x.post ≡ true → is_taken taken (k + j) ≡ true) → Every Taken (marks taken k ss)
  all-taken taken k [] f = tt
  all-taken taken k (s ∷ ss) f =
      every-append Taken (marked (between s.post) s.post.message (is_taken taken k)) (marks taken (suc k) ss) (one (between s.post) refl)
      (all-taken taken (suc k) ss (λ j x there it. subst (λ q. is_taken taken q ≡ true) (let q : k + suc j ≡ suc k + j = omega arith in q) (f (suc j) x there it)))
    where
      one : (t : Bool) → between s.post ≡ t → Every Taken (marked t s.post.message (is_taken taken k))
      one true e = (subst (λ q. is_taken taken q ≡ true) (let q : k + 0 ≡ k = omega arith in q) (f 0 s refl e), tt)
      one false e = tt
