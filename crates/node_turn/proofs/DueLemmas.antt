-- Where a node has something to close, more than downs happened.
use Rattle.node_turn.proofs.Names.{NodeId, Entry, Take, Go, Learn, Hear, Gate, Crash, Down, Tick, Base, World, Flags, names, step, start_world, walk_from, walk, ◌≡◌, Bool, true, false, ◌&&◌, List, [], ◌∷◌, refl, sym, ◌∙◌, if◌then◌else◌, flagged}

same-due : (t : Bool) (f g : Flags) → g.due ≡ f.due → (if t then g else f).due ≡ true → f.due ≡ true
same-due true f g e h = sym e ∙ h
same-due false f g e h = h

module _ (b : Base) where
  due-step : (w : World) (e : Entry) (n : NodeId) → ((w.flags n).due ≡ true → w.moved ≡ true) → ((step b w e).flags n).due ≡ true → (step b w e).moved ≡ true
  due-step w (Take node number) n k h = refl
  due-step w (Go node) n k h = refl
  due-step w (Learn node stamp committed) n k h = refl
  due-step w (Hear node) n k h = refl
  due-step w (Gate node) n k h = refl
  due-step w (Crash node kept) n k h = refl
  due-step w (Down node cause) n k h = k (same-due (names n (Down node cause) && (w.flags n).known) (w.flags n) (flagged w.last n.kind (w.flags n) (Down node cause)) refl h)
  due-step w (Tick moment) n k h = refl

  due-from : (w : World) (es : List Entry) (n : NodeId) → ((w.flags n).due ≡ true → w.moved ≡ true) → ((walk_from b w es).flags n).due ≡ true → (walk_from b w es).moved ≡ true
  unfolding walk_from
  due-from w [] n k h = k h
  due-from w (e ∷ es) n k h = due-from (step b w e) es n (due-step w e n k) h

  pub due-moved : (es : List Entry) (n : NodeId) → ((walk b es).flags n).due ≡ true → (walk b es).moved ≡ true
  due-moved es n h = due-from (start_world b) es n (λ z. absurd (cc z)) h
