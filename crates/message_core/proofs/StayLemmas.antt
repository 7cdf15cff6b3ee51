-- Which nodes have a queue.
use Rattle.message_core.proofs.Names.{◌≡◌, ◌==◌, ◌&&◌, ℕ, Bool, true, false, List, [], refl, Option, Some, None, is_some, not, if◌then◌else◌, option_map, NodeId, same_node, Fate, copies_of, Letter, State, puts, next_number, sent, sent_at_once, sent_later}

abbrev made_if : Bool → Option (List ℕ)
made_if b = if b then Some [] else None

pub made : (b : Bool) → is_some (made_if b) ≡ b
made true = refl
made false = refl

pub kept-map : (f : List ℕ → List ℕ) (o : Option (List ℕ)) → is_some (option_map f o) ≡ is_some o
kept-map f None = refl
kept-map f (Some q) = refl

pub kept-if : (b : Bool) (f : List ℕ → List ℕ) (o : Option (List ℕ)) → is_some (if b then option_map f o else o) ≡ is_some o
kept-if true f o = kept-map f o
kept-if false f o = refl

pub gone : (b : Bool) (o : Option (List ℕ)) → is_some (if b then None else o) ≡ (is_some o && not b)
gone true None = refl
gone true (Some q) = refl
gone false None = refl
gone false (Some q) = refl

pub kept-sent : (s : State) (letter : Letter) (fate : Fate) (n : NodeId) → is_some ((sent s letter fate).queues n) ≡ is_some (s.queues n)
kept-sent s letter fate n = go (fate.hold == 0)
  where
    go : (b : Bool) → is_some ((if b then sent_at_once s letter fate else sent_later s letter fate).queues n) ≡ is_some (s.queues n)
    go true = kept-if (same_node letter.to n) (puts (copies_of fate) (next_number s) fate.overtake) (s.queues n)
    go false = refl
