-- A wire with nothing to do, and idle places.
use Rattle.wire_core.proofs.Names.{NodeId, NodeKind, is_broker, waiting, state_of, World, Flags, Idle, is_behind, fates_of, NodeFlags, IsQuiet, TookAll, flags_at, flags_of, shown, is_late, is_idle_at, IsSound, WireParts, world_of, ◌≡◌, ℕ, Bool, true, false, ◌&&◌, ◌||◌, not, List, [], if◌then◌else◌, refl, sym, ap, ◌∙◌, Option, Some, None, is_some, inl, inr, IsTrue, ◌⊎◌, ◌↔◌, unwrap_or, AllEmpty, HasHeard, is_idle}
use Rattle.wire_core.proofs.DueLemmas.{took-all, took-empty}
use Rattle.wire_core.proofs.FitLemmas.{up-found, found-behind}

-- ---- a node that has nothing to do beside taking copies, by cases

three-from : (d l b g : Bool) → ((not d && not l) && (not b || g)) ≡ true → (d ≡ false) × (l ≡ false) × (b ≡ true → g ≡ true)
three-from false false false g h = (refl, refl, λ b. absurd (cc b))
three-from false false true true h = (refl, refl, λ b. refl)
three-from false false true false h = absurd (cc h)
three-from true l b g h = absurd (cc h)
three-from false true b g h = absurd (cc h)

three-to : (d l b g : Bool) → d ≡ false → l ≡ false → (b ≡ true → g ≡ true) → ((not d && not l) && (not b || g)) ≡ true
three-to false false false g a c e = refl
three-to false false true true a c e = refl
three-to false false true false a c e = absurd (let never : false ≡ true = e refl in cc never)
three-to true l b g a c e = absurd (cc a)
three-to false true b g a c e = absurd (cc c)

abbrev IdleParts : Option ℕ → ℕ → NodeKind → NodeFlags → Type 0
IdleParts last ticks kind f = (f.due ≡ false) × (is_late last ticks f ≡ false) × (is_broker kind ≡ true → f.gone ≡ true)

module _ (last : Option ℕ) (ticks : ℕ) (kind : NodeKind) (f : NodeFlags) where
  idle-parts : f.up ≡ true → is_idle last ticks kind f ≡ true → IdleParts last ticks kind f
  idle-parts up h = three-from f.due (is_late last ticks f) (is_broker kind) f.gone (sym (ap (λ t. if t then (not f.due && not (is_late last ticks f)) && (not (is_broker kind) || f.gone) else true) up) ∙ h)

  parts-idle : (f.up ≡ true → IdleParts last ticks kind f) → is_idle last ticks kind f ≡ true
  parts-idle h = go f.up refl
    where
      go : (t : Bool) → f.up ≡ t → is_idle last ticks kind f ≡ true
      go true q = ap (λ t. if t then (not f.due && not (is_late last ticks f)) && (not (is_broker kind) || f.gone) else true) q ∙ three-to f.due (is_late last ticks f) (is_broker kind) f.gone (h q).0 (h q).1 (h q).2
      go false q = ap (λ t. if t then (not f.due && not (is_late last ticks f)) && (not (is_broker kind) || f.gone) else true) q

-- ---- hearing

heard-from : (a : Option ℕ) (h : Bool) → (is_some a && not h) ≡ false → (a ≡ None) ⊎ (h ≡ true)
heard-from None h e = inl refl
heard-from (Some m) true e = inr refl
heard-from (Some m) false e = absurd (cc e)

heard-to : (a : Option ℕ) (h : Bool) → (a ≡ None) ⊎ (h ≡ true) → (is_some a && not h) ≡ false
heard-to a h (inl e) = ap (λ x. is_some x && not h) e
heard-to None true (inr e) = refl
heard-to (Some m) true (inr e) = refl
heard-to a false (inr e) = absurd (cc e)

-- a node that isn't behind has heard the last Tick
pub not-behind : (w : World) (n : NodeId) → is_behind w n ≡ false → HasHeard w n
not-behind w n h = heard-from w.last (w.heard n) h

both-behind : (a : Option ℕ) (h : Bool) → (is_some a && not h) ≡ true → (is_some a ≡ true) × (h ≡ false)
both-behind (Some m) false e = (refl, refl)
both-behind (Some m) true e = absurd (cc e)
both-behind None h e = absurd (cc e)

pub behind-parts : (w : World) (n : NodeId) → is_behind w n ≡ true → (is_some w.last ≡ true) × (w.heard n ≡ false)
behind-parts w n h = both-behind w.last (w.heard n) h

no-from : (r : Bool) → r ≡ false → IsTrue r → ⊥
no-from true h = λ yes. cc h
no-from false h = λ yes. cc yes

module _ (told : Bool) (w : WireParts) (nodes : List (NodeId × NodeFlags)) (ticks : ℕ) (last : Option ℕ) (h : IsSound told w nodes ticks last) (whole : w.broken ≡ false) where
  -- what the code asks is that nothing is to be done
  pub idle-quiet : AllEmpty (state_of w.flight) → ((n : NodeId) → is_idle_at last ticks n (flags_at nodes n) ≡ true) → IsQuiet w
  idle-quiet empty idle n up =
      let f = up-found (world_of w) nodes ticks last h.fits n up in
      let parts = idle-parts last ticks n.kind f.0 (sym (ap (λ (g : Flags). g.up) f.2) ∙ up) (sym (ap (is_idle_at last ticks n) f.1) ∙ idle n) in
      record {
        empty = empty n;
        closed = ap (λ (g : Flags). g.due) f.2 ∙ parts.0;
        heard = sym (found-behind (world_of w) nodes ticks last h.fits n f.0 f.1) ∙ parts.1;
        gone = λ broker. ap (λ (g : Flags). g.gone) f.2 ∙ parts.2 broker;
      }

  quiet-found : IsQuiet w → (n : NodeId) (f : NodeFlags) → flags_at nodes n ≡ Some f → (world_of w).flags n ≡ flags_of f → is_idle last ticks n.kind f ≡ true
  quiet-found quiet n f at is = parts-idle last ticks n.kind f (λ up.
      let q = quiet n (ap (λ (g : Flags). g.up) is ∙ up) in
      (sym (ap (λ (g : Flags). g.due) is) ∙ q.closed, found-behind (world_of w) nodes ticks last h.fits n f at ∙ q.heard, λ broker. sym (ap (λ (g : Flags). g.gone) is) ∙ q.gone broker))

  pub quiet-idle : IsQuiet w → (n : NodeId) → is_idle_at last ticks n (flags_at nodes n) ≡ true
  quiet-idle quiet n = go (flags_at nodes n) refl
    where
      go : (o : Option NodeFlags) → flags_at nodes n ≡ o → is_idle_at last ticks n (flags_at nodes n) ≡ true
      go None at = ap (is_idle_at last ticks n) at
      go (Some f) at = ap (is_idle_at last ticks n) at ∙ quiet-found quiet n f at (h.fits.flags n ∙ ap shown at)

  none-waits : (q : Option (List ℕ)) → is_some q ≡ false → unwrap_or q [] ≡ []
  none-waits None e = refl
  none-waits (Some q) e = absurd (cc e)

  pub quiet-empty : IsQuiet w → AllEmpty (state_of w.flight)
  quiet-empty quiet n = go ((world_of w).flags n).up refl
    where
      go : (t : Bool) → ((world_of w).flags n).up ≡ t → waiting (state_of w.flight) n ≡ []
      go true up = (quiet n up).empty
      go false up = none-waits ((state_of w.flight).queues n) ((h.flown whole).tied.opened n ∙ up)

  -- an idle place is one with nothing to do
  pub quiet-rests : IsTrue told → IsQuiet w → Idle (fates_of w.sent) (world_of w)
  quiet-rests t quiet n up =
      let f = h.flown whole in
      let q = quiet n up in
      record {
        taken = took-all (state_of w.flight) (world_of w) w.sent f.marks f.tied (f.walked t) n q.empty (f.tied.opened n ∙ up);
        closed = q.closed;
        heard = not-behind (world_of w) n q.heard;
        gone = q.gone;
      }

  pub rests-quiet : IsTrue told → Idle (fates_of w.sent) (world_of w) → IsQuiet w
  rests-quiet t idle n up =
      let f = h.flown whole in
      let i = idle n up in
      record {
        empty = took-empty (state_of w.flight) (world_of w) w.sent f.marks f.tied (f.walked t) n i.taken;
        closed = i.closed;
        heard = heard-to (world_of w).last ((world_of w).heard n) i.heard;
        gone = i.gone;
      }

  -- a test of the flight and of the nodes tells it
  pub quiet-by : (i : Bool) → AllEmpty (state_of w.flight) → (IsTrue i ↔ ((n : NodeId) → is_idle_at last ticks n (flags_at nodes n) ≡ true)) → IsTrue i ↔ ((w.broken ≡ false) × IsQuiet w)
  quiet-by i empty idle = (λ yes. (whole, idle-quiet empty (idle.0 yes)), λ quiet. idle.1 (quiet-idle quiet.1))

  pub quiet-not : (e : Bool) → e ≡ false → (IsTrue e ↔ AllEmpty (state_of w.flight)) → IsTrue e ↔ ((w.broken ≡ false) × IsQuiet w)
  quiet-not e some empty = (λ yes. absurd (no-from e some yes), λ quiet. empty.1 (quiet-empty quiet.1))

  pub rests-by : (i : Bool) → (IsTrue i ↔ ((w.broken ≡ false) × IsQuiet w)) → IsTrue told → IsTrue i ↔ ((w.broken ≡ false) × Idle (fates_of w.sent) (world_of w))
  rests-by i quiet t = (λ yes. (whole, quiet-rests t (quiet.0 yes).1), λ idle. quiet.1 (whole, rests-quiet t idle.1))

  -- where nothing is due for a node, it took all
  pub all-taken : IsTrue told → (n : NodeId) → ((world_of w).flags n).up ≡ true → waiting (state_of w.flight) n ≡ [] → TookAll (fates_of w.sent) (world_of w) n
  all-taken t n up none =
      let f = h.flown whole in
      took-all (state_of w.flight) (world_of w) w.sent f.marks f.tied (f.walked t) n none (f.tied.opened n ∙ up)
