-- Nodes that are down: what they may no longer do, and which nodes may be down before anything else happens.
use Rattle.trace_logs.proofs.Names.{Every, NodeId, Repository, Effect, Asked, Tree, Entry, Take, Go, Learn, Hear, Gate, Crash, Down, Tick, Opened, Sent, Base, names, start_world, JustNodes, Meets, Plan, ◌≡◌, ℕ, true, false, List, [], ◌∷◌, refl, ap, inl, inr, arith}
use Rattle.effect_form.specs.declared.effects.Effect.TheVariants as effect
use Rattle.pseudo_time.specs.declared.down_causes.DownCause.TheVariants as cause
use Rattle.world_core.specs.Pasts.{Call, IsCall, WasNotOpened}
use Rattle.trace_logs.proofs.WorkedTraces.{home, desk, stamp, lone_act, script, blank, base, prompt}
use Rattle.trace_logs.proofs.WorkedTurns.{plan}

abbrev Breaks : List Entry → Type 0
Breaks es = Meets base (prompt ∷ prompt ∷ []) (start_world base) es → ⊥

abbrev down : NodeId → Entry
down n = Down n cause.Medium

-- a repository that isn't one of the plan
abbrev stranger : NodeId
stranger = record { kind = Repository; number = 2 }

strange : Breaks (down stranger ∷ [])
unfolding Meets
strange m = absurd (cc m.0.up)

-- ---- behind its Down a node does nothing

takes : Breaks (Go desk ∷ Gate desk ∷ down home ∷ Take home 1 ∷ [])
unfolding Meets
takes m = absurd (cc m.1.1.1.0.up)

goes : Breaks (down desk ∷ Go desk ∷ [])
unfolding Meets
goes m = absurd (cc m.1.0.up)

learns : Breaks (down home ∷ Learn home stamp true ∷ [])
unfolding Meets
learns m = absurd (cc m.1.0.up)

hears : Breaks (down home ∷ down desk ∷ Tick 1 ∷ Hear home ∷ [])
unfolding Meets
hears m = absurd (cc m.1.1.1.0.up)

gates : Breaks (Go desk ∷ down desk ∷ Gate desk ∷ [])
unfolding Meets
gates m = absurd (cc m.1.1.0.up)

crashes : Breaks (down home ∷ Crash home 0 ∷ [])
unfolding Meets
crashes m = absurd (cc m.1.0.up)

pub refused : Every Breaks
    ((down stranger ∷ []) ∷ (Go desk ∷ Gate desk ∷ down home ∷ Take home 1 ∷ []) ∷ (down desk ∷ Go desk ∷ []) ∷ (down home ∷ Learn home stamp true ∷ [])
    ∷ (down home ∷ down desk ∷ Tick 1 ∷ Hear home ∷ []) ∷ (Go desk ∷ down desk ∷ Gate desk ∷ []) ∷ (down home ∷ Crash home 0 ∷ []) ∷ [])
refused = (strange, (takes, (goes, (learns, (hears, (gates, (crashes, tt)))))))

-- ---- a Down before anything else happened

-- the repository has a log
abbrev begun : List Opened
begun = record { node = home; effects = effect.Begin stamp 5 ∷ [] } ∷ record { node = desk; effects = [] } ∷ []

abbrev begun_base : Base
begun_base = record { script = script; run = 1; acts = lone_act ∷ []; start = 0; opened = begun }

abbrev MeetsBegun : List Entry → Type 0
MeetsBegun es = Meets begun_base [] (start_world begun_base) es

-- a node that has a log was opened: its Down doesn't stand first, nor behind another Down
down-first : MeetsBegun (down home ∷ []) → ⊥
unfolding Meets
down-first m = let e = m.0.none refl in absurd (cc e)

down-next : MeetsBegun (down desk ∷ down home ∷ []) → ⊥
unfolding Meets
down-next m = let e = m.1.0.none refl in absurd (cc e)

-- behind an entry of another kind it may go down
pub down-later : MeetsBegun (Go desk ∷ down home ∷ [])
unfolding Meets
down-later = (record { up = refl; broker = refl; fresh = refl }, (record { up = refl; none = λ e. absurd (cc e) }, tt))

-- a node that had nothing may be down from the start, and all nodes may
pub down-blank : Meets base [] (start_world base) (down home ∷ down desk ∷ [])
unfolding Meets
down-blank = (record { up = refl; none = λ e. refl }, (record { up = refl; none = λ e. refl }, tt))

pub unopened : Every (λ es. MeetsBegun es → ⊥) ((down home ∷ []) ∷ (down desk ∷ down home ∷ []) ∷ [])
unopened = (down-first, (down-next, tt))

-- ---- which nodes a trace opens

-- one of the plan that stands nowhere, one that isn't of the plan, and one that stands twice
desk-alone : JustNodes plan (record { node = desk; effects = [] } ∷ []) → ⊥
desk-alone j = let e = j.just home in absurd (cc e)

stranger-too : JustNodes plan (record { node = home; effects = [] } ∷ record { node = desk; effects = [] } ∷ record { node = stranger; effects = [] } ∷ []) → ⊥
stranger-too j = let e = j.just stranger in absurd (cc e)

home-twice : JustNodes plan (record { node = home; effects = [] } ∷ record { node = desk; effects = [] } ∷ record { node = home; effects = [] } ∷ []) → ⊥
home-twice j = let h = j.once home in absurd (omega (arith, h))

-- ---- runs that logs come from

abbrev down_call : List Asked → List Sent → (NodeId → ℕ) → Call
down_call asked sent kept = record { plan = plan; asked = asked; trace = record { start = 0; opened = blank; sent = sent; entries = down home ∷ down desk ∷ [] }; kept = kept }

-- where nothing but Downs stands, a node with a Down wasn't opened, and the run leaves no logs
pub not-opened : WasNotOpened (down home ∷ down desk ∷ []) home
not-opened = ((cause.Medium, inl refl), (refl, (refl, tt)))

no-down_call : (read : Plan → List ℕ → Tree) (logs : NodeId → List Effect) (asked : List Asked) (sent : List Sent) (kept : NodeId → ℕ) → IsCall read logs (down_call asked sent kept) → ⊥
no-down_call read logs asked sent kept c = c.opened home refl not-opened

-- with an entry of another kind, or no Down of its own, it was
pub opened-behind : WasNotOpened (Go desk ∷ down home ∷ []) home → ⊥
opened-behind w = let e = w.1.0 in absurd (cc e)

pub opened-alone : WasNotOpened (down desk ∷ []) home → ⊥
opened-alone w = elim w.0.1 [
  | inl e ↦ let k : false ≡ true = ap (names home) e in absurd (cc k)
  | inr e ↦ e
]
