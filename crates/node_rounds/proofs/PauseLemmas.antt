-- A Tick, and nodes that met the conductor, had turns, and met it again.
use Rattle.node_rounds.proofs.Names.{◌≡◌, ℕ, Bool, true, false, [], ◌∷◌, ap, sym, Added, Looked, Sight, SeesMore, Tick, tick_count, List, All, AllZip, Media, View, Founding, LockTable, Entry, WireParts, NodeParts, GoesOn, IsKeptThrough, HadTurn, HasMet, HasPass, IsReady, IsUp, sight, ◌∙◌}
use Rattle.std.specs.Prelude.{MatchBool}
use Rattle.node_rounds.proofs.TickLemmas.{sees-joins, sees-looked}
use Rattle.node_rounds.proofs.PairLemmas.{all-both, all-through, zip-through, zip-with}
use Rattle.node_rounds.proofs.RoundLemmas.{begins-joins, goes-joins, goes-met, goes-same, kept-joins, kept-met, kept-same, mets-join}
use Rattle.node_rounds.proofs.TurnedLemmas.{went-turned, kept-turned}
use Rattle.node_rounds.proofs.WantedLemmas.{ticks-append}

-- a Tick more
pub sees-ticked : (a b : Sight) (moment : ℕ) → Added a b (Tick moment) → SeesMore 1 a b
sees-ticked a b moment p = record {
  owner = ap (λ (k : Sight). k.owner) p.kept;
  begins = begins-joins a.story p.found b.story p.before.carries.begins (Tick moment ∷ [], sym (ap (λ (k : Sight). k.story) p.kept));
  ticked = ap (λ (k : Sight). tick_count k.own) p.kept ∙ ticks-append a.own (Tick moment ∷ []);
}

module _ {M Q A : Type 0} (lock : LockTable WireParts (View WireParts Entry) (Founding WireParts) Q A) (w : Media M) where
  pub passes-of : (nodes : List (NodeParts M)) → All (IsReady lock) nodes → All (HasPass lock) nodes
  passes-of nodes ready = λ k d lt. (ready k d lt).pass

  pub passes-turned : (old new : List (NodeParts M)) → All (IsReady lock) old → AllZip (HadTurn lock w) old new → All (HasPass lock) new
  passes-turned old new ready had = all-through (IsReady lock) (HadTurn lock w) (HasPass lock) (λ x y r h. h.pass) old new ready had

  -- a node that met the conductor may still have a turn
  pub ready-met : (old met : List (NodeParts M)) → All (IsReady lock) old → AllZip HasMet old met → All (HasPass lock) met → All (IsReady lock) met
  ready-met old met ready m passes =
      all-both (HasPass lock) IsUp (IsReady lock) (λ n p u. record { pass = p; up = u }) met passes
      (all-through (IsReady lock) HasMet IsUp (λ x y r h. h.condition ∙ r.up) old met ready m)

  module _ (old met turned new : List (NodeParts M)) (ready : All (IsReady lock) old) (first : AllZip HasMet old met) (still : All (IsReady lock) met) (had : AllZip (HadTurn lock w) met turned) (last : AllZip HasMet turned new) where
    readied : AllZip (λ a b. IsReady lock a × HadTurn lock w a b) met turned
    readied = zip-with (IsReady lock) (HadTurn lock w) (λ a b. IsReady lock a × HadTurn lock w a b) (λ a b r h. (r, h)) met turned still had

    begun : AllZip (λ x a. IsReady lock x × HasMet x a) old met
    begun = zip-with (IsReady lock) HasMet (λ x a. IsReady lock x × HasMet x a) (λ x a r m. (r, m)) old met ready first

    pub went-paused : AllZip (GoesOn w.tells w.faults w.reads) old new
    went-paused = zip-through (GoesOn w.tells w.faults w.reads) HasMet (GoesOn w.tells w.faults w.reads) (goes-met w.tells w.faults w.reads) old turned new
        (zip-through HasMet (λ a b. IsReady lock a × HadTurn lock w a b) (GoesOn w.tells w.faults w.reads)
        (λ x a b m p. goes-joins w.tells w.faults w.reads x a b (goes-met w.tells w.faults w.reads x x a (goes-same w.tells w.faults w.reads x) m) p.0.up (went-turned lock w a b p.1)) old met turned first readied) last

    pub kept-paused : AllZip (IsKeptThrough w.tells w.stages) old new
    kept-paused = zip-through (λ x b. IsKeptThrough w.tells w.stages x b × HasPass lock b) HasMet (IsKeptThrough w.tells w.stages) (λ x b z p m. kept-met w.tells w.stages x b z p.0 p.1.own m) old turned new
        (zip-through (λ x a. IsReady lock x × HasMet x a) (λ a b. IsReady lock a × HadTurn lock w a b) (λ x b. IsKeptThrough w.tells w.stages x b × HasPass lock b)
        (λ x a b m p. (kept-joins w.tells w.stages x a b (kept-met w.tells w.stages x x a (kept-same w.tells w.stages x) m.0.pass.own m.1) p.0.up (kept-turned lock w a b p.1), p.1.pass)) old met turned begun readied) last

  -- two meetings, one after the other
  pub met-twice : (old mid new : List (NodeParts M)) → All (IsReady lock) old → AllZip HasMet old mid → AllZip HasMet mid new → AllZip HasMet old new
  met-twice old mid new ready a b = mets-join lock old mid new (passes-of old ready) a b

-- the conductor looked, made a Tick or none, and looked again
pub made-through : (made : Bool) (a b c d e : Sight) → Looked a b → MatchBool made (SeesMore 1 b c) (SeesMore 0 b c) → Looked c d → Looked d e → MatchBool made (SeesMore 1 a e) (SeesMore 0 a e)
made-through true a b c d e p h q r = sees-joins 0 1 a b e (sees-looked a b p) (sees-joins 1 0 b c e h (sees-joins 0 0 c d e (sees-looked c d q) (sees-looked d e r)))
made-through false a b c d e p h q r = sees-joins 0 0 a b e (sees-looked a b p) (sees-joins 0 0 b c e h (sees-joins 0 0 c d e (sees-looked c d q) (sees-looked d e r)))
