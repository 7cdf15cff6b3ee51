-- What the code keeps of the nodes goes on as the walk does.
use Rattle.std.proofs.lemmas.Bool.Decides.{nat_tests}
use Rattle.wire_core.proofs.Names.{NodeId, NodeKind, Repository, Broker, Entry, Take, Go, Learn, Hear, Gate, Crash, Down, Tick, Base, World, Flags, names, flagged, flags_after, last_after, ticks_after, step, is_behind, NodeFlags, Story, flags_at, flags_of, shown, after_own, is_late, standing_at, Fits, HasOneMore, ◌≡◌, ℕ, ◌+◌, ◌≤◌, ◌==◌, Bool, true, false, ◌&&◌, not, List, if◌then◌else◌, refl, sym, ap, subst, ◌∙◌, Option, Some, None, is_some, arith, option_map, heard_after, heard_then, heard_last}

-- ---- flags

known-after : (last : Option ℕ) (k : NodeKind) (f : Flags) (e : Entry) → (flagged last k f e).known ≡ f.known
known-after last k f (Take node number) = refl
known-after last Repository f (Go node) = refl
known-after last Broker f (Go node) = refl
known-after last Repository f (Learn node stamp committed) = refl
known-after last Broker f (Learn node stamp committed) = refl
known-after None k f (Hear node) = refl
known-after (Some m) k f (Hear node) = refl
known-after last k f (Gate node) = refl
known-after last k f (Crash node kept) = refl
known-after last k f (Down node cause) = refl
known-after last k f (Tick moment) = refl

abbrev with_known : Flags → Bool → Flags
with_known f k = record { known = k; up = f.up; gone = f.gone; due = f.due }

shown-after : (last : Option ℕ) (ticks : ℕ) (n : NodeId) (e : Entry) (o : Option NodeFlags) (t : Bool)
    → (if t && (shown o).known then flagged last n.kind (shown o) e else shown o) ≡ shown (if t then option_map (after_own last ticks n.kind e) o else o)
shown-after last ticks n e o false = refl
shown-after last ticks n e None true = refl
shown-after last ticks n e (Some f) true = ap (with_known (flagged last n.kind (flags_of f) e)) (known-after last n.kind (flags_of f) e)

-- ---- hearing

itself : (k : ℕ) → (k == k) ≡ true
itself k = grind (arith, nat_tests)

not-yet : (h k : ℕ) → h ≤ k → false ≡ (h == k + 1)
not-yet h k below = go (h == k + 1) refl
  where
    go : (t : Bool) → (h == k + 1) ≡ t → false ≡ (h == k + 1)
    go true e = absurd (let never : ⊥ = grind (arith, nat_tests) in never)
    go false e = sym e

none-heard : (last : Option ℕ) (ticks : ℕ) → (is_some last ≡ true → 1 ≤ ticks) → false ≡ (is_some last && (0 == ticks))
none-heard None ticks some = refl
none-heard (Some m) ticks some = go (0 == ticks) refl
  where
    go : (t : Bool) → (0 == ticks) ≡ t → false ≡ (0 == ticks)
    go true e = absurd (let one : 1 ≤ ticks = some refl in let never : ⊥ = grind (arith, nat_tests) in never)
    go false e = sym e

now-heard : (last : Option ℕ) (ticks : ℕ) → is_some last ≡ (is_some last && (ticks == ticks))
now-heard None ticks = refl
now-heard (Some m) ticks = sym (itself ticks)

module _ (w : World) (n : NodeId) (f : NodeFlags) (last : Option ℕ) (ticks : ℕ) (last_is : w.last ≡ last) (was : w.heard n ≡ heard_last last ticks f) (past : f.heard ≤ ticks) (ticked : is_some last ≡ true → 1 ≤ ticks) where
  -- after an entry of its own
  heard-own : (e : Entry) → names n e ≡ true → heard_after w e n ≡ heard_last (last_after last e) (ticks_after ticks e) (after_own last ticks n.kind e f)
  heard-own (Take node number) own = was
  heard-own (Go node) own = was
  heard-own (Learn node stamp committed) own = was
  heard-own (Hear node) own = ap (λ t. if t then is_some w.last else w.heard n) own ∙ ap is_some last_is ∙ now-heard last ticks
  heard-own (Gate node) own = was
  heard-own (Crash node kept) own = ap (λ t. if t then false else w.heard n) own ∙ none-heard last ticks ticked
  heard-own (Down node cause) own = was
  heard-own (Tick moment) own = absurd (cc own)

  -- after another's
  heard-other : (e : Entry) → names n e ≡ false → heard_after w e n ≡ heard_last (last_after last e) (ticks_after ticks e) f
  heard-other (Take node number) own = was
  heard-other (Go node) own = was
  heard-other (Learn node stamp committed) own = was
  heard-other (Hear node) own = ap (λ t. if t then is_some w.last else w.heard n) own ∙ was
  heard-other (Gate node) own = was
  heard-other (Crash node kept) own = ap (λ t. if t then false else w.heard n) own ∙ was
  heard-other (Down node cause) own = was
  heard-other (Tick moment) own = not-yet f.heard ticks past

no-fewer : (ticks : ℕ) (e : Entry) → ticks ≤ ticks_after ticks e
no-fewer ticks (Take node number) = omega arith
no-fewer ticks (Go node) = omega arith
no-fewer ticks (Learn node stamp committed) = omega arith
no-fewer ticks (Hear node) = omega arith
no-fewer ticks (Gate node) = omega arith
no-fewer ticks (Crash node kept) = omega arith
no-fewer ticks (Down node cause) = omega arith
no-fewer ticks (Tick moment) = omega arith

past-own : (ticks heard : ℕ) (e : Entry) → heard ≤ ticks → heard_then ticks heard e ≤ ticks
past-own ticks heard (Take node number) past = past
past-own ticks heard (Go node) past = past
past-own ticks heard (Learn node stamp committed) past = past
past-own ticks heard (Hear node) past = omega arith
past-own ticks heard (Gate node) past = past
past-own ticks heard (Crash node kept) past = omega arith
past-own ticks heard (Down node cause) past = past
past-own ticks heard (Tick moment) past = past

ticked-after : (last : Option ℕ) (ticks : ℕ) (e : Entry) → (is_some last ≡ true → 1 ≤ ticks) → is_some (last_after last e) ≡ true → 1 ≤ ticks_after ticks e
ticked-after last ticks (Take node number) was = was
ticked-after last ticks (Go node) was = was
ticked-after last ticks (Learn node stamp committed) was = was
ticked-after last ticks (Hear node) was = was
ticked-after last ticks (Gate node) was = was
ticked-after last ticks (Crash node kept) was = was
ticked-after last ticks (Down node cause) was = was
ticked-after last ticks (Tick moment) was = λ some. omega arith

module _ (b : Base) (w : World) (e : Entry) (s s' : Story) (more : HasOneMore s s' e) (fit : Fits w s.nodes.entries s.ticks s.last) where
  -- a node that is found after the entry was found before
  found-before : (n : NodeId) (f' : NodeFlags) → flags_at s'.nodes.entries n ≡ Some f'
      → (f : NodeFlags) × (flags_at s.nodes.entries n ≡ Some f) × (f' ≡ (if names n e then after_own s.last s.ticks n.kind e f else f))
  found-before n f' at = go (names n e) (flags_at s.nodes.entries n) refl (sym (more.nodes n) ∙ at)
    where
      go : (t : Bool) (o : Option NodeFlags) → flags_at s.nodes.entries n ≡ o → (if t then option_map (after_own s.last s.ticks n.kind e) o else o) ≡ Some f'
          → (f : NodeFlags) × (flags_at s.nodes.entries n ≡ Some f) × (f' ≡ (if t then after_own s.last s.ticks n.kind e f else f))
      go true None there is = absurd (cc is)
      go false None there is = absurd (cc is)
      go true (Some f) there is = (f, there, cc is)
      go false (Some f) there is = (f, there, cc is)

  flags-fit : (n : NodeId) → flags_after w e n ≡ shown (flags_at s'.nodes.entries n)
  flags-fit n =
      ap (λ (g : Flags). if names n e && g.known then flagged w.last n.kind g e else g) (fit.flags n)
      ∙ ap (λ l. if names n e && (shown (flags_at s.nodes.entries n)).known then flagged l n.kind (shown (flags_at s.nodes.entries n)) e else shown (flags_at s.nodes.entries n)) fit.last
      ∙ shown-after s.last s.ticks n e (flags_at s.nodes.entries n) (names n e) ∙ ap shown (sym (more.nodes n))

  heard-at : (n : NodeId) (f : NodeFlags) → flags_at s.nodes.entries n ≡ Some f → (t : Bool) → names n e ≡ t
      → heard_after w e n ≡ heard_last (last_after s.last e) (ticks_after s.ticks e) (if t then after_own s.last s.ticks n.kind e f else f)
  heard-at n f there true own = heard-own w n f s.last s.ticks fit.last (fit.heard n f there) (fit.past n f there) fit.ticked e own
  heard-at n f there false own = heard-other w n f s.last s.ticks fit.last (fit.heard n f there) (fit.past n f there) fit.ticked e own

  heard-fit : (n : NodeId) (f' : NodeFlags) → flags_at s'.nodes.entries n ≡ Some f' → heard_after w e n ≡ heard_last s'.last s'.ticks f'
  heard-fit n f' at =
      let o = found-before n f' at in
      heard-at n o.0 o.1 (names n e) refl
      ∙ ap (λ l. heard_last l (ticks_after s.ticks e) (if names n e then after_own s.last s.ticks n.kind e o.0 else o.0)) (sym more.last)
      ∙ ap (λ k. heard_last s'.last k (if names n e then after_own s.last s.ticks n.kind e o.0 else o.0)) (sym more.ticks)
      ∙ ap (heard_last s'.last s'.ticks) (sym o.2)

  past-at : (f : NodeFlags) (k : NodeKind) (t : Bool) → f.heard ≤ s.ticks → (if t then after_own s.last s.ticks k e f else f).heard ≤ s.ticks
  past-at f k true past = past-own s.ticks f.heard e past
  past-at f k false past = past

  past-fit : (n : NodeId) (f' : NodeFlags) → flags_at s'.nodes.entries n ≡ Some f' → f'.heard ≤ s'.ticks
  past-fit n f' at =
      let o = found-before n f' at in
      let is : f'.heard ≡ (if names n e then after_own s.last s.ticks n.kind e o.0 else o.0).heard = ap (λ (f : NodeFlags). f.heard) o.2 in
      let past = past-at o.0 n.kind (names n e) (fit.past n o.0 o.1) in
      let more_ticks = no-fewer s.ticks e in
      let ticks = more.ticks in
      omega (arith, is, past, more_ticks, ticks)

  -- one entry
  pub fits-on : Fits (step b w e) s'.nodes.entries s'.ticks s'.last
  fits-on = record {
    flags = flags-fit;
    heard = heard-fit;
    past = past-fit;
    ticks = ap (λ k. ticks_after k e) fit.ticks ∙ sym more.ticks;
    last = ap (λ l. last_after l e) fit.last ∙ sym more.last;
    ticked = subst (λ l. is_some l ≡ true → 1 ≤ s'.ticks) (sym more.last) (subst (λ k. is_some (last_after s.last e) ≡ true → 1 ≤ k) (sym more.ticks) (ticked-after s.last s.ticks e fit.ticked));
  }

-- ---- one node

module _ (w : World) (nodes : List (NodeId × NodeFlags)) (ticks : ℕ) (last : Option ℕ) (fit : Fits w nodes ticks last) (n : NodeId) where
  -- a node that is up is known
  pub up-found : (w.flags n).up ≡ true → (f : NodeFlags) × (flags_at nodes n ≡ Some f) × (w.flags n ≡ flags_of f)
  up-found up = go (flags_at nodes n) refl (fit.flags n)
    where
      go : (o : Option NodeFlags) → flags_at nodes n ≡ o → w.flags n ≡ shown (flags_at nodes n) → (f : NodeFlags) × (flags_at nodes n ≡ Some f) × (w.flags n ≡ flags_of f)
      go None at is = absurd (let never : true ≡ false = sym up ∙ ap (λ (f : Flags). f.up) (is ∙ ap shown at) in cc never)
      go (Some f) at is = (f, at, is ∙ ap shown at)

  pub up-known : (w.flags n).up ≡ true → (w.flags n).known ≡ true
  up-known up = ap (λ (f : Flags). f.known) (up-found up).2

  late-is : (a : Option ℕ) (h : Bool) → (is_some a && not (is_some a && h)) ≡ (is_some a && not h)
  late-is None h = refl
  late-is (Some m) h = refl

  pub found-behind : (f : NodeFlags) → flags_at nodes n ≡ Some f → is_late last ticks f ≡ is_behind w n
  found-behind f at =
      sym (late-is last (f.heard == ticks)) ∙ ap (λ h. is_some last && not h) (sym (fit.heard n f at)) ∙ ap (λ l. is_some l && not (w.heard n)) (sym fit.last)

  -- whether a node that is up is behind
  pub behind-is : (w.flags n).up ≡ true → (standing_at last ticks (flags_at nodes n)).behind ≡ is_behind w n
  behind-is up = let f = up-found up in ap (λ o. (standing_at last ticks o).behind) f.1 ∙ found-behind f.0 f.1

  same-standing : (o : Option NodeFlags) → ((standing_at last ticks o).up ≡ (shown o).up) × ((standing_at last ticks o).gone ≡ (shown o).gone) × ((standing_at last ticks o).due ≡ (shown o).due)
  same-standing None = (refl, refl, refl)
  same-standing (Some f) = (refl, refl, refl)

  pub up-is : (standing_at last ticks (flags_at nodes n)).up ≡ (w.flags n).up
  up-is = (same-standing (flags_at nodes n)).0 ∙ ap (λ (f : Flags). f.up) (sym (fit.flags n))

  pub gone-is : (standing_at last ticks (flags_at nodes n)).gone ≡ (w.flags n).gone
  gone-is = (same-standing (flags_at nodes n)).1 ∙ ap (λ (f : Flags). f.gone) (sym (fit.flags n))

  pub due-is : (standing_at last ticks (flags_at nodes n)).due ≡ (w.flags n).due
  due-is = (same-standing (flags_at nodes n)).2 ∙ ap (λ (f : Flags). f.due) (sym (fit.flags n))
