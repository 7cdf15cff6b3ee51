-- What the conductor has seen, over looks and Ticks.
use Rattle.node_rounds.proofs.Names.{◌≡◌, ◌+◌, ◌<◌, ◌≤◌, ℕ, Bool, length, length-append, inl, SawMore, WantsAs, true, false, not, IsTrue, List, [], ◌∷◌, ◌++◌, inr, refl, ap, sym, subst, ◌∙◌, arith, cond, sum_by-append, Begins, Entry, Tick, walk, Sight, HasNothingOpen, Looked, base_at, world_at, is_tick, tick_count, Shares, EachNode, EachPlace, HasMet, IsUp, SeesMore, SawRest, Follows}
use Rattle.node_rounds.specs.declared.limits.Limits.{Limits}
use Rattle.node_rounds.specs.declared.reasons.Reason.TheVariants as reason
use Rattle.node_rounds.specs.declared.reasons.Next.{Next}
use Rattle.node_rounds.specs.declared.reasons.Next.TheVariants as next
use Rattle.node_rounds.proofs.RoundLemmas.{begins-joins, looked-own, looked-owner}
use Rattle.node_rounds.proofs.ShareLemmas.{each-through}

-- one Tick more
count-more : (es : List Entry) (moment : ℕ) → tick_count (es ++ Tick moment ∷ []) ≡ tick_count es + 1
count-more es moment = sum_by-append (λ e. cond (is_tick e) 1 0) es (Tick moment ∷ [])

pub sees-looked : (a b : Sight) → Looked a b → SeesMore 0 a b
sees-looked a b p = record { owner = looked-owner p; begins = p.before.carries.begins; ticked = ap tick_count (looked-own p) ∙ omega arith }

pub sees-joins : (m n : ℕ) (a b c : Sight) → SeesMore m a b → SeesMore n b c → SeesMore (m + n) a c
sees-joins m n a b c p q = record {
  owner = q.owner ∙ p.owner;
  begins = begins-joins a.story b.story c.story p.begins q.begins;
  ticked = omega (arith, p.ticked, q.ticked);
}

-- what isn't false
pub is-so : (b : Bool) → not b ≡ false → IsTrue b
is-so true e = refl
is-so false e = absurd cc

-- the conductor saw rest, and then looked once more
pub saw-rest : (a b : Sight) → HasNothingOpen (world_at a) → Looked a b → SawRest b
saw-rest a b rest p = (a.story, p.before.carries.begins, subst (λ (k : Sight). HasNothingOpen (walk (base_at k) a.story)) (sym p.kept) rest)

-- a story that goes on has no fewer entries
pub begins-longer : (es fs : List Entry) → Begins es fs → length es ≤ length fs
begins-longer es fs b = let e = ap length b.1 in let k = length-append es b.0 in omega (arith, e, k)

module _ {M : Type 0} (tells : Bool) (limits : Limits) where
  -- memory ran out for a Tick
  pub wants-tick : (a b c : Sight) (nodes : Shares M) → EachNode IsUp nodes → Looked a b → Looked b c → Follows tells limits (next.End reason.Wanting) nodes a c
  wants-tick a b c nodes up p q = (inr up, sees-joins 0 0 a b c (sees-looked a b p) (sees-looked b c q))

  pub wants-more : (a b c : Sight) (before : ℕ) (nodes : Shares M) → EachNode IsUp nodes → HasNothingOpen (world_at b) → Looked a b → Looked b c → tick_count a.own < limits.ticks → WantsAs tells limits before reason.Wanting nodes c
  wants-more a b c before nodes up rest p q few =
      let m = ap tick_count (looked-own p) in
      let n = ap tick_count (looked-own q) in
      inr (up, inl (omega (arith, m, n, few), saw-rest b c rest q))

  -- the conductor met the nodes again
  pub more-met : (before now : ℕ) (nodes met : Shares M) (k l : Sight) → Looked k l → SawMore tells limits before now next.Ticked nodes k → SawMore tells limits before now next.Ticked met l
  more-met before now nodes met k l p h = let x = begins-longer k.story l.story p.before.carries.begins in (h.0, omega (arith, x, h.1), h.2)

  -- what follows, as seen from before a look
  pub follows-looked : (a b c : Sight) (what : Next) (nodes : Shares M) → Looked a b → Follows tells limits what nodes b c → Follows tells limits what nodes a c
  follows-looked a b c next.Round nodes p f = (f.0, sees-joins 0 0 a b c (sees-looked a b p) f.1)
  follows-looked a b c next.Ticked nodes p f = let e = ap tick_count (looked-own p) in (f.0, omega (arith, e, f.1), sees-joins 0 1 a b c (sees-looked a b p) f.2)
  follows-looked a b c (next.End why) nodes p f = (f.0, sees-joins 0 0 a b c (sees-looked a b p) f.1)

  -- a Tick, behind which the conductor met the nodes again
  pub follows-met : (a b c : Sight) (nodes met : Shares M) → EachPlace HasMet nodes met → Looked b c → Follows tells limits next.Ticked nodes a b → Follows tells limits next.Ticked met a c
  follows-met a b c nodes met m p f = (each-through IsUp HasMet IsUp (λ x y up h. h.condition ∙ up) nodes met f.0 m, f.1, sees-joins 1 0 a b c f.2 (sees-looked b c p))

  -- the conductor's story goes on
  pub follows-begins : (a b : Sight) (what : Next) (nodes : Shares M) → Follows tells limits what nodes a b → Begins a.story b.story
  follows-begins a b next.Round nodes f = f.1.begins
  follows-begins a b next.Ticked nodes f = f.2.begins
  follows-begins a b (next.End why) nodes f = f.1.begins

  -- no Tick was made where what follows isn't behind one
  pub follows-none : (a b : Sight) (what : Next) (nodes : Shares M) → (what ≡ next.Ticked → ⊥) → Follows tells limits what nodes a b → SeesMore 0 a b
  follows-none a b next.Round nodes not f = f.1
  follows-none a b next.Ticked nodes not f = absurd (not refl)
  follows-none a b (next.End why) nodes not f = f.1
