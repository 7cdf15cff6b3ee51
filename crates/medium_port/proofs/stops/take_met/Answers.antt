use Rattle.medium_port.proofs.Names.{◌≡◌, ◌<◌, ◌≤◌, ◌∙◌, ap, sym, subst, get_or, true, List, length, arith, rules, Some, Stop, is_at, first_met, without_met}
use Rattle.medium_port.proofs.MetLemmas.{met_here, met_nowhere, same_default}
use Rattle.medium_port.proofs.stops.take_met.Goals as goal

pub returns-then-is_met-clause-met : goal.returns-then-is_met-clause-met
returns-then-is_met-clause-met c =
    let stops = c.loop-index.stops.items in
    let i = c.loop-index.index in
    let d = c.remove.result in
    let within : i < length stops = search rules in
    let here : is_at c.args.call c.args.write (get_or stops i d).at ≡ true = subst (λ (s : Stop). is_at c.args.call c.args.write s.at ≡ true) (c.index.ensures ∙ same_default stops i c.index.result.now d within) (sym c.is_met.ensures ∙ c.if-is_met.true) in
    let met = met_here c.args.call c.args.write stops i d within (λ k low. c.loop-index.invariant.past k d low) here in
    ap (λ (s : Stop). Some s) c.remove.ensures.value ∙ sym met.0 ∙ ap (λ (l : List Stop). first_met c.args.call c.args.write l) c.loop-index.invariant.same

pub returns-then-is_met-clause-rest : goal.returns-then-is_met-clause-rest
returns-then-is_met-clause-rest c =
    let stops = c.loop-index.stops.items in
    let i = c.loop-index.index in
    let d = c.remove.result in
    let within : i < length stops = search rules in
    let here : is_at c.args.call c.args.write (get_or stops i d).at ≡ true = subst (λ (s : Stop). is_at c.args.call c.args.write s.at ≡ true) (c.index.ensures ∙ same_default stops i c.index.result.now d within) (sym c.is_met.ensures ∙ c.if-is_met.true) in
    let met = met_here c.args.call c.args.write stops i d within (λ k low. c.loop-index.invariant.past k d low) here in
    c.remove.ensures.items ∙ sym met.1 ∙ ap (λ (l : List Stop). without_met c.args.call c.args.write l) c.loop-index.invariant.same

pub returns-clause-met : goal.returns-clause-met
returns-clause-met c =
    let stops = c.loop-index.stops.items in
    let whole : length stops ≤ c.loop-index.index = search (arith, rules) in
    let none = met_nowhere c.args.call c.args.write stops (λ k d low. c.loop-index.invariant.past k d (omega (arith, low, whole))) in
    sym none.0 ∙ ap (λ (l : List Stop). first_met c.args.call c.args.write l) c.loop-index.invariant.same

pub returns-clause-rest : goal.returns-clause-rest
returns-clause-rest c =
    let stops = c.loop-index.stops.items in
    let whole : length stops ≤ c.loop-index.index = search (arith, rules) in
    let none = met_nowhere c.args.call c.args.write stops (λ k d low. c.loop-index.invariant.past k d (omega (arith, low, whole))) in
    sym none.1 ∙ ap (λ (l : List Stop). without_met c.args.call c.args.write l) c.loop-index.invariant.same
