-- Whose each entry is, and what the words of the commit board may hold.
use Rattle.std.specs.Prelude.{◌≡◌, ◌⊎◌, ℕ, ◌+◌, ◌*◌, ◌^◌, ◌%◌, Bool, List, [], ◌∷◌, ◌++◌, IsTrue, if◌then◌else◌}
use Rattle.std.proofs.Common.{inl, inr}
use Rattle.pseudo_time.specs.StampParts.{StampParts, IsStamp}
use Rattle.pseudo_time.specs.declared.nodes.NodeId.{NodeId}
use Rattle.pseudo_time.specs.declared.nodes.NodeKind.{NodeKind}
use Rattle.pseudo_time.specs.declared.nodes.NodeKind.TheVariants.{Repository, Broker}
use Rattle.world_core.specs.declared.entries.Entry.{Entry}
use Rattle.world_core.specs.declared.entries.Entry.TheVariants.{Take, Go, Learn, Hear, Gate, Crash, Down, Tick}
use Rattle.world_core.specs.Walks.{walk}
use Rattle.world_core.specs.Legal.{IsDecidedAs}
use Rattle.world_core.proofs.Lives.{stands-stays}
use Rattle.wire_core.specs.Wires.{Origin, base_from}

-- ---- owners

abbrev pub owner_with : NodeKind → ℕ → ℕ
owner_with Repository n = n
owner_with Broker n = 16 + n

-- the number of the owner of a node's entries
abbrev pub owner_for : NodeId → ℕ
owner_for n = owner_with n.kind n.number

-- Ticks are the conductor's.
abbrev pub owner_of : Entry → ℕ
owner_of (Take node number) = owner_for node
owner_of (Go node) = owner_for node
owner_of (Learn node stamp committed) = owner_for node
owner_of (Hear node) = owner_for node
owner_of (Gate node) = owner_for node
owner_of (Crash node kept) = owner_for node
owner_of (Down node cause) = owner_for node
owner_of (Tick moment) = 0

-- ---- the board

-- the word that a stamp's decision goes to, of 4,096
abbrev pub place_of : StampParts → ℕ
place_of s = (s.clock + 31 * s.broker + 17 * s.home) % 4096

-- a stamp's decision as a number
abbrev pub number_of : StampParts → Bool → ℕ
number_of s committed = s.clock * 2 ^ 18 + s.broker * 2 ^ 10 + s.home * 4 + (if committed then 1 else 2)

-- the number says how a stamp of this word was decided, which stands in the durable log of its home
pub record IsDecided (o : Origin) (es : List Entry) (word number : ℕ) : Type 0 where
  pub stamp : StampParts
  pub committed : Bool
  pub in_range : IsStamp stamp
  pub place : word ≡ place_of stamp
  pub coded : number ≡ number_of stamp committed
  pub stands : IsDecidedAs (walk (base_from o) es) stamp committed

-- Where media tell their content, a word holds 0 or such a number.
abbrev pub MayHold : Bool → Origin → List Entry → ℕ → ℕ → Type 0
MayHold told o es word number = IsTrue told → (number ≡ 0) ⊎ IsDecided o es word number

-- what may be held stays allowed
pub held-stays : (told : Bool) (o : Origin) (es : List Entry) (e : Entry) (word number : ℕ) → MayHold told o es word number → MayHold told o (es ++ e ∷ []) word number
held-stays told o es e word number h t = go (h t)
  where
    go : (number ≡ 0) ⊎ IsDecided o es word number → (number ≡ 0) ⊎ IsDecided o (es ++ e ∷ []) word number
    go (inl none) = inl none
    go (inr d) = inr (record { stamp = d.stamp; committed = d.committed; in_range = d.in_range; place = d.place; coded = d.coded; stands = stands-stays (base_from o) es (e ∷ []) d.stamp d.committed d.stands })
