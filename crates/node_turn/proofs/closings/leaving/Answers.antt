use Rattle.node_turn.proofs.Names.{Out, AreOuts, leaves, all_effects, ◌++◌, ◌∷◌, [], List, ◌∙◌, sym, ap, subst, filter}
use Rattle.std.proofs.lemmas.List.Elements.{filter-append}
use Rattle.node_inputs.proofs.ListLemmas.{every-left, every-right}
use Rattle.node_inputs.specs.Works.{AsksNobody}
use Rattle.node_turn.proofs.closings.leaving.Goals as goal

pub loop-out-preserved : goal.loop-out-preserved
loop-out-preserved g c =
    let front = subst (λ (l : List Out). AreOuts l) c.in-Some.ensures.steps.0 c.loop-out.invariant.waiting in
    record {
      leaving = λ t b x h asks.
          let before = c.loop-out.yielded in
          let out = c.in-Some.out in
          c.in_ok-add_leaving.ensures.leaving t b x h (λ broker. (every-right (λ (o : Out). AsksNobody o.message) before (out ∷ []) (asks broker)).0)
          ∙ ap (λ (l : List Out). l ++ filter (leaves (all_effects x)) (out ∷ [])) (c.loop-out.invariant.leaving t b x h (λ broker. every-left (λ (o : Out). AsksNobody o.message) before (out ∷ []) (asks broker)))
          ∙ sym (filter-append (leaves (all_effects x)) before (out ∷ []));
      in_range = c.in_ok-add_leaving.ensures.in_range front.0 c.loop-out.invariant.in_range;
      waiting = front.1;
    }
