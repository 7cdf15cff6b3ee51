-- How nodes went on, over rounds and meetings.
use Rattle.node_rounds.proofs.Names.{List, Media, View, Founding, LockTable, Begins, Entry, WireParts, Shares, EachNode, EachPlace, GoesOn, IsKeptThrough, HadTurn, HasAllOf, HasMet, HasPass, IsReady, IsUp}
use Rattle.node_rounds.proofs.RoundLemmas.{goes-same, goes-met, goes-joins, has-more, kept-same, kept-met, kept-joins}
use Rattle.node_rounds.proofs.TurnedLemmas.{went-turned, kept-turned}
use Rattle.node_rounds.proofs.WantedLemmas.{SameName}
use Rattle.node_rounds.proofs.ShareLemmas.{each-weaker, each-both, each-through, place-same, place-with, place-through}

-- a story that goes on has all entries of the nodes too
pub all-more : {M : Type 0} (l l' : List Entry) (nodes : Shares M) → Begins l l' → EachNode (HasAllOf l) nodes → EachNode (HasAllOf l') nodes
all-more l l' nodes b = each-weaker (HasAllOf l) (HasAllOf l') (λ n. has-more n l l' b) nodes

module _ {M Q A : Type 0} (lock : LockTable WireParts (View WireParts Entry) (Founding WireParts) Q A) (w : Media M) where
  abbrev Went : Shares M → Shares M → Type 0
  Went old new = EachPlace (GoesOn w.tells w.faults w.reads) old new

  -- before the first round
  pub went-none : (nodes : Shares M) → EachNode (IsReady lock) nodes → Went nodes nodes
  went-none nodes ready = place-same (IsReady lock) (GoesOn w.tells w.faults w.reads) (λ n r. goes-same w.tells w.faults w.reads n) nodes ready

  -- a round has left each node its pass
  pub passes-after : (old new : Shares M) → EachNode (IsReady lock) old → EachPlace (HadTurn lock w) old new → EachNode (HasPass lock) new
  passes-after old new ready had = each-through (IsReady lock) (HadTurn lock w) (HasPass lock) (λ x y r h. h.pass) old new ready had

  -- a round, and meetings behind it
  pub went-round : (old mid new : Shares M) → EachPlace (HadTurn lock w) old mid → EachPlace HasMet mid new → Went old new
  went-round old mid new had met = place-through (HadTurn lock w) HasMet (GoesOn w.tells w.faults w.reads) (λ x y z h m. goes-met w.tells w.faults w.reads x y z (went-turned lock w x y h) m) old mid new had met

  pub went-met : (old mid new : Shares M) → Went old mid → EachPlace HasMet mid new → Went old new
  went-met old mid new went met = place-through (GoesOn w.tells w.faults w.reads) HasMet (GoesOn w.tells w.faults w.reads) (goes-met w.tells w.faults w.reads) old mid new went met

  -- one round more
  pub went-on : (old mid new : Shares M) → EachNode (IsReady lock) mid → Went old mid → Went mid new → Went old new
  went-on old mid new ready first second = place-through (GoesOn w.tells w.faults w.reads) (λ y z. IsReady lock y × GoesOn w.tells w.faults w.reads y z) (GoesOn w.tells w.faults w.reads) (λ x y z p q. goes-joins w.tells w.faults w.reads x y z p q.0.up q.1)
      old mid new first (place-with (IsReady lock) (GoesOn w.tells w.faults w.reads) (λ y z. IsReady lock y × GoesOn w.tells w.faults w.reads y z) (λ y z r g. (r, g)) mid new ready second)

  -- ---- what crashes leave

  abbrev Kept : Shares M → Shares M → Type 0
  Kept old new = EachPlace (IsKeptThrough w.tells w.stages) old new

  pub kept-none : (nodes : Shares M) → EachNode (IsReady lock) nodes → Kept nodes nodes
  kept-none nodes ready = place-same (IsReady lock) (IsKeptThrough w.tells w.stages) (λ n r. kept-same w.tells w.stages n) nodes ready

  pub kept-round : (old mid new : Shares M) → EachPlace (HadTurn lock w) old mid → EachPlace HasMet mid new → Kept old new
  kept-round old mid new had met = place-through (HadTurn lock w) HasMet (IsKeptThrough w.tells w.stages) (λ x y z h m. kept-met w.tells w.stages x y z (kept-turned lock w x y h) h.pass.own m) old mid new had met

  pub kept-again : (old mid new : Shares M) → EachNode (HasPass lock) mid → Kept old mid → EachPlace HasMet mid new → Kept old new
  kept-again old mid new passes kept met = place-through (IsKeptThrough w.tells w.stages) (λ y z. HasPass lock y × HasMet y z) (IsKeptThrough w.tells w.stages) (λ x y z p q. kept-met w.tells w.stages x y z p q.0.own q.1)
      old mid new kept (place-with (HasPass lock) HasMet (λ y z. HasPass lock y × HasMet y z) (λ y z p m. (p, m)) mid new passes met)

  pub kept-more : (old mid new : Shares M) → EachNode (IsReady lock) mid → Kept old mid → Kept mid new → Kept old new
  kept-more old mid new ready first second = place-through (IsKeptThrough w.tells w.stages) (λ y z. IsReady lock y × IsKeptThrough w.tells w.stages y z) (IsKeptThrough w.tells w.stages) (λ x y z p q. kept-joins w.tells w.stages x y z p q.0.up q.1)
      old mid new first (place-with (IsReady lock) (IsKeptThrough w.tells w.stages) (λ y z. IsReady lock y × IsKeptThrough w.tells w.stages y z) (λ y z r g. (r, g)) mid new ready second)

  -- each place has the node that it had
  pub same-names : (old new : Shares M) → EachNode (IsReady lock) old → Went old new → EachPlace SameName old new
  same-names old new ready went = place-with (IsReady lock) (GoesOn w.tells w.faults w.reads) SameName (λ x y r g. g.node) old new ready went

module _ {M Q A : Type 0} (lock : LockTable WireParts (View WireParts Entry) (Founding WireParts) Q A) where
  -- nodes at work, with passes of the wire, may have a turn
  pub ready-again : (nodes : Shares M) → EachNode (HasPass lock) nodes → EachNode IsUp nodes → EachNode (IsReady lock) nodes
  ready-again nodes passes up = each-both (HasPass lock) IsUp (IsReady lock) (λ n p u. record { pass = p; up = u }) nodes passes up
