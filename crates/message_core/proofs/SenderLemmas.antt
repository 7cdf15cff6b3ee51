-- The message of a letter among the messages sent.
use Rattle.message_core.proofs.Names.{◌≡◌, ℕ, zero, suc, List, [], ◌∷◌, ◌++◌, map, ap, Option, Some, slice_get, unwrap_or, NodeId, IsMessage, message_bytes, Letter}
use Rattle.message_form.specs.declared.messages.Message.{Message}
use Rattle.message_form.specs.Posts.{Post}
use Rattle.message_core.specs.Senders.{letter_of, AllInRange}

same_letter : (a b : Letter) → Some a ≡ Some b → a ≡ b
same_letter a b is = ap (λ (o : Option Letter). unwrap_or o a) is

module _ (apart : (a b : Message) (x y : List ℕ) → IsMessage a → IsMessage b → message_bytes a ++ x ≡ message_bytes b ++ y → (a ≡ b) × (x ≡ y)) where
  same_post : (p : Post) (from to : NodeId) (m : Message) → IsMessage p.message → IsMessage m → letter_of p ≡ record { from = from; to = to; text = message_bytes m } → p ≡ record { from = from; to = to; message = m }
  same_post p from to m one two is =
      let text : message_bytes p.message ≡ message_bytes m = ap (λ (l : Letter). l.text) is in
      let message : p.message ≡ m = (apart p.message m [] [] one two (ap (λ z. z ++ []) text)).0 in
      λ i. record { from = (is i).from; to = (is i).to; message = message i }

  pub was_sent : (posts : List Post) (place : ℕ) (from to : NodeId) (m : Message) → AllInRange posts → IsMessage m → slice_get (map letter_of posts) place ≡ Some (record { from = from; to = to; text = message_bytes m })
      → slice_get posts place ≡ Some (record { from = from; to = to; message = m })
  was_sent [] place from to m all two is = absurd (let never : ⊥ = cc is in never)
  was_sent (p ∷ posts) zero from to m all two is = ap Some (same_post p from to m all.0 two (same_letter (letter_of p) (record { from = from; to = to; text = message_bytes m }) is))
  was_sent (p ∷ posts) (suc k) from to m all two is = was_sent posts k from to m all.1 two is
