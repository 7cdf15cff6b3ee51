-- Nodes that are down, by the entries and by what the code gathers of them.
use Rattle.report_writer.specs.declared.records.Down.{Down as Fallen}
use Rattle.trace_report.proofs.Names.{flat_map, NodeId, same_node, Repository, Broker, Entry, Down, Tick, Trace, Plan, downs_shown, fallen, shown, nodes_of_kind, ◌≡◌, Some, if◌then◌else◌, List, [], ◌∷◌, ◌++◌, refl, sym, ◌∙◌, ap, flat_map-append, down_shown, nodes_of, cause_of}
use Rattle.world_core.specs.Counts.{down_cause}

cause-is : (n : NodeId) (es : List Entry) → cause_of (fallen es) n ≡ down_cause n es
cause-is n [] = refl
cause-is n (Down node cause ∷ es) = ap (λ r. if same_node node n then Some cause else r) (cause-is n es)
cause-is n (Tick moment ∷ es) = cause-is n es
cause-is n (e ∷ es) = cause-is n es

shown-is : (es : List Entry) → ◌≡◌ {A = NodeId → List Fallen} (shown (fallen es)) (λ n. down_shown n (down_cause n es))
shown-is es = λ i n. down_shown n (cause-is n es i)

pub downs-are : (plan : Plan) (t : Trace) (gathered : List Fallen) (first second none : List Fallen) → gathered ≡ fallen t.entries → none ≡ [] → first ≡ none ++ flat_map (shown gathered) (nodes_of_kind Repository plan.repositories) →
    second ≡ first ++ flat_map (shown gathered) (nodes_of_kind Broker plan.brokers) → second ≡ downs_shown plan t
downs-are plan t gathered first second none g empty p q =
    q ∙ ap (λ z. z ++ flat_map (shown gathered) (nodes_of_kind Broker plan.brokers)) (p ∙ ap (λ z. z ++ flat_map (shown gathered) (nodes_of_kind Repository plan.repositories)) empty)
    ∙ sym (flat_map-append (shown gathered) (nodes_of_kind Repository plan.repositories) (nodes_of_kind Broker plan.brokers))
    ∙ ap (λ ds. flat_map (shown ds) (nodes_of plan)) g ∙ ap (λ f. flat_map f (nodes_of plan)) (shown-is t.entries)
