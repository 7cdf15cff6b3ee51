-- What holds of the nodes of all shares.
use Rattle.node_rounds.proofs.Names.{All, Any, AllZip, All-weaker, NodeParts, Shares, EachNode, EachPlace, SomeNode}
use Rattle.node_rounds.proofs.PairLemmas.{all-through, all-both, any-both, any-through, zip-through, zip-same, zip-with}

module _ {M : Type 0} where
  pub each-weaker : (P Q : NodeParts M → Type 0) → ((n : NodeParts M) → P n → Q n) → (shares : Shares M) → EachNode P shares → EachNode Q shares
  each-weaker P Q f shares = All-weaker (λ nodes. All P nodes.items) (λ nodes. All Q nodes.items) (λ nodes. All-weaker P Q f nodes.items) shares

  pub each-both : (P Q R : NodeParts M → Type 0) → ((n : NodeParts M) → P n → Q n → R n) → (shares : Shares M) → EachNode P shares → EachNode Q shares → EachNode R shares
  each-both P Q R f shares = all-both (λ nodes. All P nodes.items) (λ nodes. All Q nodes.items) (λ nodes. All R nodes.items) (λ nodes. all-both P Q R f nodes.items) shares

  -- what holds of each node before holds of each after, where each place carries it over
  pub each-through : (P : NodeParts M → Type 0) (R : NodeParts M → NodeParts M → Type 0) (Q : NodeParts M → Type 0) → ((x y : NodeParts M) → P x → R x y → Q y)
      → (old new : Shares M) → EachNode P old → EachPlace R old new → EachNode Q new
  each-through P R Q f old new = all-through (λ nodes. All P nodes.items) (λ before after. AllZip R before.items after.items) (λ nodes. All Q nodes.items) (λ x y. all-through P R Q f x.items y.items) old new

  pub place-same : (P : NodeParts M → Type 0) (R : NodeParts M → NodeParts M → Type 0) → ((n : NodeParts M) → P n → R n n) → (shares : Shares M) → EachNode P shares → EachPlace R shares shares
  place-same P R f shares = zip-same (λ nodes. All P nodes.items) (λ before after. AllZip R before.items after.items) (λ nodes. zip-same P R f nodes.items) shares

  pub place-with : (P : NodeParts M → Type 0) (R S : NodeParts M → NodeParts M → Type 0) → ((x y : NodeParts M) → P x → R x y → S x y) → (old new : Shares M) → EachNode P old → EachPlace R old new → EachPlace S old new
  place-with P R S f old new = zip-with (λ nodes. All P nodes.items) (λ before after. AllZip R before.items after.items) (λ before after. AllZip S before.items after.items) (λ x y. zip-with P R S f x.items y.items) old new

  pub place-through : (R S T : NodeParts M → NodeParts M → Type 0) → ((x y z : NodeParts M) → R x y → S y z → T x z)
      → (old mid new : Shares M) → EachPlace R old mid → EachPlace S mid new → EachPlace T old new
  place-through R S T f old mid new = zip-through (λ before after. AllZip R before.items after.items) (λ before after. AllZip S before.items after.items) (λ before after. AllZip T before.items after.items)
      (λ x y z. zip-through R S T f x.items y.items z.items) old mid new

  -- one node of which two things hold
  pub some-both : (P Q R : NodeParts M → Type 0) → ((n : NodeParts M) → P n → Q n → R n) → (shares : Shares M) → SomeNode P shares → EachNode Q shares → SomeNode R shares
  some-both P Q R f shares = any-both (λ nodes. Any P nodes.items) (λ nodes. All Q nodes.items) (λ nodes. Any R nodes.items) (λ nodes. any-both P Q R f nodes.items) shares

  -- what holds of a node before holds of it after, where its place carries it over
  pub some-through : (P : NodeParts M → Type 0) (R : NodeParts M → NodeParts M → Type 0) (Q : NodeParts M → Type 0) → ((x y : NodeParts M) → P x → R x y → Q y)
      → (old new : Shares M) → SomeNode P old → EachPlace R old new → SomeNode Q new
  some-through P R Q f old new = any-through (λ nodes. Any P nodes.items) (λ before after. AllZip R before.items after.items) (λ nodes. Any Q nodes.items) (λ x y. any-through P R Q f x.items y.items) old new
