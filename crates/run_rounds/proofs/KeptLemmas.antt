-- Nothing that stood in a node's log is lost, also where memory ran out in a round.
use Rattle.run_rounds.proofs.Names.{NodeId, Image, Effect, storage, Plan, View, Founding, LockTable, Entry, Base, opened_log, walk, walk_from, Origin, WireParts, IsWirePass, base_at, life_at, pass-origin, IsKept, NodeParts, sight, Media, node_at, Along, IsKeptWhole, ◌≡◌, ◌∙◌, ◌++◌, List, [], Option, Some, Ok, map, take, append_assoc, inr, ap, sym, subst, AllZip, unwrap_or, lock_base, gated-grows, HasItsLog}
use Rattle.run_rounds.proofs.ListLemmas.{along-mapped}
use Rattle.run_rounds.proofs.SeenLemmas.{At, Went}

-- a node's durable log begins with the log that it was opened with
pub log-begins : (b : Base) (es : List Entry) (n : NodeId) (log : List Effect) → opened_log b.opened n ≡ Some log → (late : List Effect) × (((walk b es).life n).gated ≡ log ++ late)
unfolding walk_from
log-begins b es n log is =
    let h = gated-grows b [] es n in
    (h.0, h.1 ∙ ap (λ (o : Option (List Effect)). unwrap_or o [] ++ h.0) is)

module _ {M Q A : Type 0} (w : Media M) (plan : Plan) (lock : LockTable WireParts (View WireParts Entry) (Founding WireParts) Q A) where
  abbrev origin : Origin
  origin = (lock_base lock).origin

  has-log : (n : NodeId) (old : M) (p : NodeParts M) → Went w plan origin (IsWirePass lock) n old p → HasItsLog w old p.medium
  has-log n old p went told = (went.log, went.held told, λ c leaves. left c leaves)
    where
      opened : opened_log (base_at (sight p)).opened n ≡ Some went.log
      opened = ap (λ (o : Origin). opened_log o.opened n) (sym (pass-origin lock p.pass went.pass.of_lock)) ∙ went.opened

      left : (c : Image) → w.may_leave p.medium c → (more : List Effect) × (storage c ≡ Ok (went.log ++ more))
      left c leaves =
          let grown = log-begins (base_at (sight p)) (sight p).story n went.log opened in
          let kept : IsKept (life_at (sight p) n) c = subst (λ (m : NodeId). IsKept (life_at (sight p) m) c) went.name (went.rest.kept told c leaves) in
          let more : List Effect = take kept.kept (life_at (sight p) n).fresh in
          (grown.0 ++ more, kept.is ∙ ap (λ (l : List Effect). Ok l) (ap (λ (l : List Effect). l ++ more) grown.1 ∙ append_assoc went.log grown.0 more))

  -- each medium has its log
  pub all-kept : (first : List (Option M)) (ps : List (NodeParts M)) → Along (At w plan origin (IsWirePass lock)) 0 first ps → AllZip (IsKeptWhole w) first (map (λ (p : NodeParts M). Some p.medium) ps)
  all-kept first ps along =
      along-mapped (At w plan origin (IsWirePass lock)) (IsKeptWhole w) (λ (p : NodeParts M). Some p.medium)
      (λ i x p h. subst (λ (z : Option M). IsKeptWhole w z (Some p.medium)) (sym h.1) (inr (has-log (node_at plan i) h.0 p h.2))) 0 first ps along
