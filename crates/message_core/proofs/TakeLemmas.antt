-- The front copy of a queue, and its letter.
use Rattle.message_core.proofs.Names.{◌≡◌, ℕ, zero, suc, ◌-◌, ◌≤◌, ◌<◌, List, [], ◌∷◌, length, get_or, refl, sym, ap, ◌∙◌, subst, arith, ◌↔◌, Option, Some, None, slice_get, unwrap_or, Vec, VecDeque, slice_get_within, slice_get-get_or, NodeId, IsMessage, message_bytes, Letter, HeldCopy, waiting, AllEmpty, IsFront, queue_in, WentTo, AllWentTo, HasText, AllHaveText, IsSound}
use Rattle.message_core.specs.declared.letters.Arrival.{Arrival}
use Rattle.message_core.proofs.SoundLemmas.{front_went}
use Rattle.message_core.proofs.StateLemmas.{now, queue_seen}

pub text_at : (ls : List Letter) (i : ℕ) (d : Letter) → i < length ls → AllHaveText ls → HasText (get_or ls i d)
text_at [] i d within all = absurd (let never : ⊥ = omega (arith, within) in never)
text_at (l ∷ ls) zero d within all = all.0
text_at (l ∷ ls) (suc i) d within all = text_at ls i d (omega (arith, within)) all.1

letter_is : (x y d : Letter) → Some x ≡ Some y → x ≡ y
letter_is x y d is = ap (λ (o : Option Letter). unwrap_or o d) is

-- the letter of a copy that went to a node
pub letter_at : (ls : List Letter) (node : NodeId) (k : ℕ) (d : Letter) (text : List ℕ) → WentTo ls node k → d ≡ get_or ls (k - 1) d → d.text ≡ text → slice_get ls (k - 1) ≡ Some (record { from = d.from; to = node; text = text })
letter_at ls node k d text went is same =
    let within = slice_get_within ls (k - 1) went.letter went.there in
    let got : slice_get ls (k - 1) ≡ Some d = slice_get-get_or ls (k - 1) d within ∙ ap Some (sym is) in
    let one : d ≡ went.letter = letter_is d went.letter d (sym got ∙ went.there) in
    let to : d.to ≡ node = ap (λ (l : Letter). l.to) one ∙ went.to in
    got ∙ (λ i. Some (record { from = d.from; to = to i; text = same i }))

pub within : (ls : List Letter) (node : NodeId) (k : ℕ) → WentTo ls node k → k ≤ length ls
within ls node k went = let below = slice_get_within ls (k - 1) went.letter went.there in let one = went.from_one in omega (arith, below, one)

pub no_front : (queue : List ℕ) → None ≡ slice_get queue 0 → queue ≡ []
no_front [] none = refl
no_front (k ∷ queue) none = absurd (let never : ⊥ = cc none in never)

waiting_went : (ls : List Letter) (node : NodeId) (o : Option (List ℕ)) (k : ℕ) → ((queue : List ℕ) → o ≡ Some queue → AllWentTo ls node queue) → slice_get (unwrap_or o []) 0 ≡ Some k → WentTo ls node k
waiting_went ls node None k all is = absurd (let never : ⊥ = cc is in never)
waiting_went ls node (Some queue) k all is = front_went ls node queue k (all queue refl) is

module _ {A : Type 0} (ls : List Letter) (t : ℕ) (qs : List (NodeId × VecDeque ℕ A)) (hs : List (ℕ × Vec HeldCopy)) where
  pub waiting_is : (node : NodeId) → waiting (now ls t qs hs) node ≡ unwrap_or (queue_in qs node) []
  waiting_is node = ap (λ o. unwrap_or o []) (queue_seen qs node)

  pub took_went : (node : NodeId) (k : ℕ) → IsSound (now ls t qs hs) → Some k ≡ slice_get (unwrap_or (queue_in qs node) []) 0 → WentTo ls node k
  took_went node k sound is = waiting_went ls node ((now ls t qs hs).queues node) k (sound.queued node) (ap (λ queue. slice_get queue 0) (waiting_is node) ∙ sym is)

  -- what the code makes of the front copy's letter
  pub is_front : (node : NodeId) (k : ℕ) (a : Arrival) (shown : List Letter) → IsSound (now ls t qs hs) → Some k ≡ slice_get (unwrap_or (queue_in qs node) []) 0 → shown ≡ ls → a.number ≡ k
      → ((n : NodeId) → WentTo shown n k → slice_get shown (k - 1) ≡ Some (record { from = a.from; to = n; text = message_bytes a.message })) → IsMessage a.message → IsFront (now ls t qs hs) node a
  is_front node k a shown sound is same number letter in_range =
      let went = took_went node k sound is in
      let found = subst (λ (xs : List Letter). (n : NodeId) → WentTo xs n k → slice_get xs (k - 1) ≡ Some (record { from = a.from; to = n; text = message_bytes a.message })) same letter in
      record {
        front = ap (λ queue. slice_get queue 0) (waiting_is node) ∙ sym is ∙ ap Some (sym number);
        from_one = subst (λ (m : ℕ). 1 ≤ m) (sym number) went.from_one;
        letter = ap (λ m. slice_get ls (m - 1)) number ∙ found node went;
        in_range = in_range;
      }

  pub empty_seen : ((n : NodeId) → unwrap_or (queue_in qs n) [] ≡ []) ↔ AllEmpty (now ls t qs hs)
  empty_seen = (λ all n. waiting_is n ∙ all n, λ all n. sym (waiting_is n) ∙ all n)
