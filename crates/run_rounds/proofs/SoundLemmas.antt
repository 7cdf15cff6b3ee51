-- What was opened can be seated: what opening the run's nodes asks.
use Rattle.run_rounds.proofs.Names.{Plan, View, Founding, LockTable, knows, Entry, WireParts, IsWirePass, NodeParts, IsReady, Opening, Open, Shut, Wanting, Media, AreReady, HasOpened, IsOpen, Along, IsNewNode, IsSetUp, fresh_for, all-at, Pass, ◌≡◌, ℕ, suc, List, [], ◌∷◌, Option, Some, None, map, sym, subst, All, AllZip, All-nil, All-cons, All-weaker, CanSeat, IsSound}
use Rattle.run_starts.proofs.SeatLemmas.{can-open}
use Rattle.run_rounds.proofs.ListLemmas.{all-first, all-mapped, all-rest}
use Rattle.run_rounds.proofs.PlaceLemmas.{fresh-along}

module _ {M : Type 0} {g : _} (w : Media M) where
  sound-one : (x : Option M) (o : Opening M g) → HasOpened w x o → IsOpen o → IsSound w o
  sound-one None (Open store effects) h is = absurd h
  sound-one (Some old) (Open store effects) h is = (h.sound, h.in_range, h.has)
  sound-one x (Shut medium cause) h is = absurd is
  sound-one x (Wanting medium) h is = absurd is

  -- what was opened and is open is sound
  pub sound-of : (xs : List (Option M)) (os : List (Opening M g)) → AllZip (HasOpened w) xs os → All IsOpen os → All (IsSound w) os
  sound-of [] [] h are-open = All-nil (IsSound w)
  sound-of [] (o ∷ os) h are-open = absurd h
  sound-of (x ∷ xs) [] h are-open = absurd h
  sound-of (x ∷ xs) (o ∷ os) h are-open = All-cons (IsSound w) o os (sound-one x o h.0 (all-first IsOpen o os are-open)) (sound-of xs os h.1 (all-rest IsOpen o os are-open))

  open-one : (o : Opening M g) → IsSound w o → IsOpen o
  open-one (Open store effects) h = tt
  open-one (Shut medium cause) h = absurd h
  open-one (Wanting medium) h = absurd h

  pub open-of : (os : List (Opening M g)) → All (IsSound w) os → All IsOpen os
  open-of os sound = All-weaker (IsSound w) IsOpen open-one os sound

  -- each opening can be seated with its new pass
  pub can-seat : (plan : Plan) (os : List (Opening M g)) (p : WireParts) (start : ℕ) (passes : List Pass) → IsSetUp plan os p.origin.asked p.origin.answers p.origin → start ≡ p.origin.start → AreReady plan 0 os → All (IsSound w) os
      → map knows passes ≡ fresh_for p p.origin.opened → Along (CanSeat w plan start) 0 os passes
  can-seat plan os p start passes s start-is ready sound are =
      fresh-along plan os p.origin.asked p.origin.answers p s passes are (CanSeat w plan start)
      (λ i o pass at unseen. record { sound = all-at (IsSound w) os i o sound at; can = can-open plan os p.origin.asked p.origin.answers p start i o (knows pass) s start-is ready at unseen })

-- ---- new nodes

module _ {M Q A : Type 0} {g : _} (lock : LockTable WireParts (View WireParts Entry) (Founding WireParts) Q A) where
  ready-along : (plan : Plan) (i : ℕ) (os : List (Opening M g)) (ns : List (NodeParts M)) → Along (IsNewNode plan) i os ns → All (λ (n : NodeParts M). IsWirePass lock n.pass) ns → All (IsReady lock) ns
  ready-along plan i [] [] new wires = All-nil (IsReady lock)
  ready-along plan i [] (n ∷ ns) new wires = absurd new
  ready-along plan i (o ∷ os) [] new wires = absurd new
  ready-along plan i (o ∷ os) (n ∷ ns) new wires =
      All-cons (IsReady lock) n ns (record { pass = all-first (λ (x : NodeParts M). IsWirePass lock x.pass) n ns wires; up = new.0.up }) (ready-along plan (suc i) os ns new.1 (all-rest (λ (x : NodeParts M). IsWirePass lock x.pass) n ns wires))

  -- new nodes may have their turns
  pub ready-nodes : (plan : Plan) (os : List (Opening M g)) (ns : List (NodeParts M)) (passes : List Pass) → Along (IsNewNode plan) 0 os ns → map (λ (n : NodeParts M). n.pass) ns ≡ passes → All (IsWirePass lock) passes → All (IsReady lock) ns
  ready-nodes plan os ns passes new are wires = ready-along plan 0 os ns new (all-mapped (IsWirePass lock) (λ (n : NodeParts M). n.pass) ns (subst (All (IsWirePass lock)) (sym are) wires))
