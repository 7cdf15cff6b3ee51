-- The logs of the nodes that were opened are the durable logs of the trace; every other node's is empty.
use Rattle.trace_report.proofs.Names.{is_some, unwrap_or, NodeId, same_node, Effect, Plan, reading, Entry, Opened, Trace, gated_log, logs_in, logs_by, ◌≡◌, Bool, true, false, List, [], ◌∷◌, refl, sym, ◌∙◌, ap, Option, Some, None, if◌then◌else◌, and_right, world_after, Base, World, names, flagged, lives_on, opened_log, start_world, step, walk_from}
use Rattle.message_core.proofs.NodeLemmas.{same_is}
use Rattle.world_core.specs.Legal.{base_of}

-- ---- a node that isn't known stays as it is

unknown-flags : (b : Base) (w : World) (e : Entry) (n : NodeId) → (w.flags n).known ≡ false → ((step b w e).flags n).known ≡ false
unknown-flags b w e n h = ap (λ z. (if z then flagged w.last n.kind (w.flags n) e else w.flags n).known) (and_right (names n e) (w.flags n).known h) ∙ h

unknown-life : (b : Base) (w : World) (e : Entry) (n : NodeId) → (w.flags n).known ≡ false → (step b w e).life n ≡ w.life n
unknown-life b w e n h = ap (λ z. if z then lives_on b w n (w.life n) e else w.life n) (and_right (names n e) (w.flags n).known h)

unknown-stays : (b : Base) (w : World) (es : List Entry) (n : NodeId) → (w.flags n).known ≡ false → (walk_from b w es).life n ≡ w.life n
unfolding walk_from
unknown-stays b w [] n h = refl
unknown-stays b w (e ∷ es) n h = unknown-stays b (step b w e) es n (unknown-flags b w e n h) ∙ unknown-life b w e n h

-- ---- the list

abbrev found : Option (List Effect) → List Effect → Option (List Effect)
found None log = None
found (Some opened) log = Some log

opened-if : (c : Bool) (w : World) (o : Opened) (n : NodeId) (front back : Option (List Effect)) → same_node o.node n ≡ c → back ≡ found front (w.life n).gated →
    (if c then Some (w.life o.node).gated else back) ≡ found (if c then Some o.effects else front) (w.life n).gated
opened-if true w o n front back is h = ap (λ z. Some (w.life z).gated) (same_is o.node n is)
opened-if false w o n front back is h = h

opened-in : (w : World) (os : List Opened) (n : NodeId) → opened_log (logs_in w os) n ≡ found (opened_log os n) (w.life n).gated
opened-in w [] n = refl
opened-in w (o ∷ os) n = opened-if (same_node o.node n) w o n (opened_log os n) (opened_log (logs_in w os) n) refl (opened-in w os n)

module _ (plan : Plan) (t : Trace) (n : NodeId) where
  abbrev base : Base
  base = base_of (reading plan.acts) plan t

  -- by whether the node was opened
  logs-if : (o : Option (List Effect)) → opened_log t.opened n ≡ o → unwrap_or (found o (gated_log plan t n)) [] ≡ gated_log plan t n
  logs-if (Some log) is = refl
  logs-if None is =
      sym (ap (λ l. l.gated) (unknown-stays base (start_world base) t.entries n (ap (λ o. is_some o) is)) ∙ ap (λ o. unwrap_or o []) is)

  pub logs-are : logs_by (logs_in (world_after plan t) t.opened) n ≡ gated_log plan t n
  logs-are = ap (λ o. unwrap_or o []) (opened-in (world_after plan t) t.opened n) ∙ logs-if (opened_log t.opened n) refl
