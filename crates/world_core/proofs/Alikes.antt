-- What entries alone decide is the same over any two bases with the same nodes.
use Rattle.world_core.proofs.Names.{NodeId, same_node, Entry, Take, Go, Learn, Hear, Gate, Crash, Down, Tick, Base, World, Flags, names, flagged, flags_after, heard_after, taken_after, ticks_after, last_after, is_down, step, start_world, walk_from, walk, ◌≡◌, true, false, ◌&&◌, List, [], ◌∷◌, if◌then◌else◌, refl, ap, ◌∙◌, is_some, opened_flags}
use Rattle.world_core.specs.Alike.{Alike, HaveSameNodes}

heard-alike : (w v : World) (e : Entry) (n : NodeId) → w.heard n ≡ v.heard n → w.last ≡ v.last → heard_after w e n ≡ heard_after v e n
heard-alike w v (Take node number) n h l = h
heard-alike w v (Go node) n h l = h
heard-alike w v (Learn node stamp committed) n h l = h
heard-alike w v (Hear node) n h l = ap (λ o. if same_node node n then is_some o else w.heard n) l ∙ ap (λ b. if same_node node n then is_some v.last else b) h
heard-alike w v (Gate node) n h l = h
heard-alike w v (Crash node kept) n h l = ap (λ b. if same_node node n then false else b) h
heard-alike w v (Down node cause) n h l = h
heard-alike w v (Tick moment) n h l = refl

flags-alike : (w v : World) (e : Entry) (n : NodeId) → w.flags n ≡ v.flags n → w.last ≡ v.last → flags_after w e n ≡ flags_after v e n
flags-alike w v e n f l =
    ap (λ (x : Flags). if names n e && x.known then flagged w.last n.kind x e else x) f
    ∙ ap (λ o. if names n e && (v.flags n).known then flagged o n.kind (v.flags n) e else v.flags n) l

alike-step : (b c : Base) (w v : World) (e : Entry) → Alike w v → Alike (step b w e) (step c v e)
alike-step b c w v e a = record {
  flags = λ n. flags-alike w v e n (a.flags n) a.last;
  heard = λ n. heard-alike w v e n (a.heard n) a.last;
  taken = ap (λ t. taken_after t e) a.taken;
  ticks = ap (λ t. ticks_after t e) a.ticks;
  last = ap (λ t. last_after t e) a.last;
  moved = ap (λ t. if is_down e then t else true) a.moved;
}

alike-walk : (b c : Base) (w v : World) (es : List Entry) → Alike w v → Alike (walk_from b w es) (walk_from c v es)
unfolding walk_from
alike-walk b c w v [] a = a
alike-walk b c w v (e ∷ es) a = alike-walk b c (step b w e) (step c v e) es (alike-step b c w v e a)

-- two walks over the same entries, from bases with the same nodes
pub alike : (b c : Base) (es : List Entry) → HaveSameNodes b c → Alike (walk b es) (walk c es)
alike b c es same = alike-walk b c (start_world b) (start_world c) es
    (record { flags = λ n. ap opened_flags (same n); heard = λ n. refl; taken = refl; ticks = refl; last = refl; moved = refl })
