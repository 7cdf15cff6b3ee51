-- How repositories settle once all brokers are done: each learns what the homes of its versions decided.
use Rattle.std.specs.Prelude.{◌≡◌, Bool, true, false, List, [], ◌∷◌, Option, Some, None, is_some, All, Any}
use Rattle.pseudo_time.specs.Lists.{Every, Has}
use Rattle.pseudo_time.specs.StampParts.{StampParts}
use Rattle.pseudo_time.specs.Nodes.{is_broker}
use Rattle.run_starts.specs.Costs.{costs}
use Rattle.run_starts.specs.Doubts.{HasDecided, decision_of, doubts_of}
use Rattle.run_starts.specs.Nodes.{IsUp}
use Rattle.run_starts.specs.Reason.{Reason}
use Rattle.run_starts.specs.Reason.TheVariants as reason
use Rattle.run_starts.specs.Reasons.{HasMemory, IsDown}
use Rattle.run_starts.specs.Settled.{Decided}
use Rattle.run_starts.specs.Sights.{IsOf, life_at}
use Rattle.run_starts.specs.TurnNodes.{NodeParts, sight}

-- the stamp with its decision, if there is one
abbrev pub entry_for : StampParts → Option Bool → List Decided
entry_for s None = []
entry_for s (Some committed) = (s, committed) ∷ []

module _ {M : Type 0} where
  -- its pass is its own
  abbrev pub IsOwn : NodeParts M → Type 0
  IsOwn n = IsOf n.node (sight n)

  -- this is how one of the nodes decided the stamp; or none of them did
  abbrev pub IsFound : List (NodeParts M) → StampParts → Option Bool → Type 0
  IsFound nodes s (Some committed) = Any (λ h. decision_of h s ≡ Some committed) nodes
  IsFound nodes s None = All (λ h. decision_of h s ≡ None) nodes

  -- Decisions of these nodes alone, and one for each of these stamps that one of them decided.
  pub record IsListOf (nodes : List (NodeParts M)) (stamps : List StampParts) (list : List Decided) : Type 0 where
    pub sound : Every (λ (d : Decided). Any (λ h. decision_of h d.0 ≡ Some d.1) nodes) list
    pub whole : (s : StampParts) → Has s stamps → Any (λ h. is_some (decision_of h s) ≡ true) nodes → (committed : Bool) × Has {A = Decided} (s, committed) list

  -- so it is of the stamps that the node's log leaves in doubt
  abbrev pub IsListFor : List (NodeParts M) → NodeParts M → List Decided → Type 0
  IsListFor nodes n list = IsListOf nodes (doubts_of n) list

  -- No stamp that a repository leaves in doubt is decided by the other one, as its home; unless a crash of the repository was counted.
  abbrev pub IsSettledBy : NodeParts M → NodeParts M → Type 0
  IsSettledBy n h = costs (sight n).own ≡ 0 → is_broker h.node.kind ≡ false → (s : StampParts) → s.home ≡ h.node.number → Has s (doubts_of n) → HasDecided (life_at (sight h) h.node).gated s → ⊥

  abbrev pub AreSettled : List (NodeParts M) → Type 0
  AreSettled nodes = All (λ n. All (IsSettledBy n) nodes) nodes

  -- why nodes that settled end: a node's memory ran out; or one went down; or all are at work
  abbrev pub SettledEnds : Reason → List (NodeParts M) → Type 0
  SettledEnds reason.Down nodes = All HasMemory nodes × Any IsDown nodes
  SettledEnds reason.Done nodes = All IsUp nodes
  SettledEnds reason.Wanting nodes = Unit {0}
  SettledEnds _ nodes = ⊥

-- why a run that only settles ends: that it has settled is told of an idle wire alone
abbrev pub IsToldIdle : Reason → Reason → Type 0
IsToldIdle reason.Done told = told ≡ reason.RunOut
IsToldIdle why told = told ≡ why
