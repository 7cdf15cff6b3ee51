-- Traces that aren't legal: for each rule, entries that break it.
use Rattle.trace_logs.proofs.Names.{Every, Entry, Take, Go, Learn, Hear, Gate, Crash, Down, Tick, Fate, same_stamp, NodeId, book, keep, settle_up, gives, Sending, start_world, Meets, ◌≡◌, ◌≤◌, ◌<◌, ◌+◌, ◌^◌, ℕ, true, List, [], ◌∷◌, refl, ap, ◌∙◌, inl, inr, Option, Some, None, arith}
use Rattle.pseudo_time.specs.declared.down_causes.DownCause.TheVariants as cause
use Rattle.stream_port.specs.Fates.{copies_of}
use Rattle.trace_logs.proofs.WorkedTraces.{home, desk, stamp, base, prompt}

abbrev Breaks : List Entry → Type 0
Breaks es = Meets base (prompt ∷ prompt ∷ []) (start_world base) es → ⊥

-- a Take of a message that wasn't sent
unsent : Breaks (Take home 1 ∷ [])
unfolding Meets
unsent m = absurd (cc m.0.sent)

-- a Take by a node that hasn't heard the last Tick
behind : Breaks (Tick 1 ∷ Take home 1 ∷ [])
unfolding Meets
behind m = elim m.1.0.heard [
  | inl e ↦ absurd (cc e)
  | inr e ↦ absurd (cc e)
]

-- a Take by a broker that hasn't gone
resting : Breaks (Take desk 1 ∷ [])
unfolding Meets
resting m = let e = m.0.gone refl in absurd (cc e)

-- a Take by a node that the message wasn't sent to, and a second Take of its one copy
receiver : Option Sending → Option NodeId
receiver None = None
receiver (Some s) = Some s.post.to

sent_at : Option Sending → ℕ
sent_at None = 0
sent_at (Some s) = s.ticks

copies : Option Fate → ℕ
copies None = 0
copies (Some fate) = copies_of fate

hold : Option Fate → ℕ
hold None = 0
hold (Some fate) = fate.hold

elsewhere : Breaks (Go desk ∷ Gate desk ∷ Take desk 1 ∷ [])
unfolding Meets gives settle_up book keep same_stamp receiver
elsewhere m = let e : Some home ≡ Some desk = ap receiver m.1.1.0.sent ∙ ap Some m.1.1.0.to in absurd (cc e)

again : Breaks (Go desk ∷ Gate desk ∷ Take home 1 ∷ Take home 1 ∷ [])
unfolding Meets gives settle_up book keep same_stamp copies
again m =
    let e : 1 ≡ copies_of m.1.1.1.0.fate = ap copies m.1.1.1.0.fated in
    let k : 1 < copies_of m.1.1.1.0.fate = m.1.1.1.0.fewer in absurd (omega (arith, e, k))

-- a Take of a message that is lost, and of one that is held for a tick
abbrev BreaksWith : Fate → List Entry → Type 0
BreaksWith fate es = Meets base (fate ∷ []) (start_world base) es → ⊥

lost : BreaksWith (record { copies = 0; overtake = 0; hold = 0 }) (Go desk ∷ Gate desk ∷ Take home 1 ∷ [])
unfolding Meets gives settle_up book keep same_stamp copies
lost m =
    let e : 0 ≡ copies_of m.1.1.0.fate = ap copies m.1.1.0.fated in
    let k : 0 < copies_of m.1.1.0.fate = m.1.1.0.fewer in absurd (omega (arith, e, k))

held : BreaksWith (record { copies = 1; overtake = 0; hold = 1 }) (Go desk ∷ Gate desk ∷ Take home 1 ∷ [])
unfolding Meets gives settle_up book keep same_stamp hold sent_at
held m =
    let e : 1 ≡ m.1.1.0.fate.hold = ap hold m.1.1.0.fated in
    let f : 0 ≡ m.1.1.0.sending.ticks = ap sent_at m.1.1.0.sent in
    let k : m.1.1.0.sending.ticks + m.1.1.0.fate.hold ≤ 0 = m.1.1.0.released in absurd (omega (arith, e, f, k))

-- a Go of a repository, and a second Go
home-goes : Breaks (Go home ∷ [])
unfolding Meets
home-goes m = absurd (cc m.0.broker)

goes-again : Breaks (Go desk ∷ Go desk ∷ [])
unfolding Meets
goes-again m = absurd (cc m.1.0.fresh)

-- a Hear before any Tick, and a second Hear
nothing-to-hear : Breaks (Hear home ∷ [])
unfolding Meets
nothing-to-hear m = absurd (cc m.0.some)

hears-again : Breaks (Tick 1 ∷ Hear home ∷ Hear home ∷ [])
unfolding Meets
hears-again m = absurd (cc m.1.1.0.behind)

-- a Learn of a broker, and of what isn't decided
desk-learns : Breaks (Learn desk stamp true ∷ [])
unfolding Meets
desk-learns m = absurd (cc m.0.repository)

undecided : Breaks (Learn home stamp true ∷ [])
unfolding Meets
undecided m = m.0.stands.1

-- a Gate with nothing to close
closed : Breaks (Gate home ∷ [])
unfolding Meets
closed m = absurd (cc m.0.due)

-- a Crash that keeps more than there is
keeps-more : Breaks (Crash home 1 ∷ [])
unfolding Meets
keeps-more m = let k = m.0.most in absurd (omega (arith, k))

-- a Down of a node that is down
down-again : Breaks (Down home cause.Medium ∷ Down home cause.Medium ∷ [])
unfolding Meets
down-again m = absurd (cc m.1.0.up)

-- a Tick while a broker has yet to go, and one whose moment isn't above the last
early : Breaks (Tick 1 ∷ [])
unfolding Meets
early m = let e = (m.0.idle desk refl).gone refl in absurd (cc e)

no-later : Breaks (Tick 0 ∷ [])
unfolding Meets
no-later m = let k = m.0.above in absurd (omega (arith, k))

late : Breaks (Tick (2 ^ 62 + 1) ∷ [])
unfolding Meets
late m = let k = m.0.most in absurd (omega (arith, k))

-- as one table
pub refused : Every Breaks
    ((Take home 1 ∷ []) ∷ (Tick 1 ∷ Take home 1 ∷ []) ∷ (Take desk 1 ∷ [])
    ∷ (Go desk ∷ Gate desk ∷ Take desk 1 ∷ []) ∷ (Go desk ∷ Gate desk ∷ Take home 1 ∷ Take home 1 ∷ [])
    ∷ (Go home ∷ []) ∷ (Go desk ∷ Go desk ∷ [])
    ∷ (Hear home ∷ []) ∷ (Tick 1 ∷ Hear home ∷ Hear home ∷ [])
    ∷ (Learn desk stamp true ∷ []) ∷ (Learn home stamp true ∷ [])
    ∷ (Gate home ∷ [])
    ∷ (Crash home 1 ∷ [])
    ∷ (Down home cause.Medium ∷ Down home cause.Medium ∷ [])
    ∷ (Tick 1 ∷ []) ∷ (Tick 0 ∷ []) ∷ (Tick (2 ^ 62 + 1) ∷ [])
    ∷ [])
refused = (unsent, (behind, (resting, (elsewhere, (again, (home-goes, (goes-again, (nothing-to-hear, (hears-again, (desk-learns, (undecided, (closed, (keeps-more, (down-again, (early, (no-later, (late, tt)))))))))))))))))
