use Rattle.run_rounds.proofs.Names.{◌∙◌, List, sym, ap, subst, take, ◌++◌, ◌∷◌, []}
use Rattle.std.proofs.lemmas.List.{take_all, take_more}
use Rattle.pseudo_time.specs.StampParts.{StampParts}
use Rattle.run_rounds.specs.Settled.{IsListOf}
use Rattle.run_rounds.proofs.SettledLemmas.{list-added, list-moved, no-list}
use Rattle.run_rounds.proofs.settled.list_for.Goals as goal

pub loop-stamp-init : goal.loop-stamp-init
loop-stamp-init g c = λ told. subst (IsListOf c.args.nodes.now []) (sym c.new-list.ensures.items) (no-list c.args.nodes.now)

pub loop-stamp-preserved : goal.loop-stamp-preserved
loop-stamp-preserved g c = λ told.
    let items = c.as_slice-stamp-items.result.now in
    let i = c.loop-stamp.stamp-index in
    subst (λ (stamps : List StampParts). IsListOf c.args.nodes.now stamps c.add_found.new.list.items)
    (sym (take_more items i c.stamp-item.result c.loop-stamp-test.true ∙ ap (λ (s : StampParts). take i items ++ s ∷ []) (sym c.stamp-item.is)))
    (subst (IsListOf c.args.nodes.now (take i items ++ c.stamp-item.result ∷ [])) (sym c.in_ok-add_found.ensures)
    (list-added c.args.nodes.now (take i items) c.stamp-item.result c.in_ok-found.field-0 c.loop-stamp.list.items (c.in_ok-found.ensures told) (c.loop-stamp.invariant told)))

pub returns-clause-list : goal.returns-clause-list
returns-clause-list g c = λ told.
    let items = c.as_slice-stamp-items.result.now in
    subst (λ (stamps : List StampParts). IsListOf c.args.nodes.now stamps c.loop-stamp.list.items) (c.in_ok-stamps.ensures told)
    (list-moved c.args.nodes.now c.in_ok-stamps.stamps.items c.sort_unstable.new.self.items c.loop-stamp.list.items c.sort_unstable.ensures.permutation
    (subst (λ (stamps : List StampParts). IsListOf c.args.nodes.now stamps c.loop-stamp.list.items)
    (take_all c.loop-stamp.stamp-index items c.loop-stamp-test.false ∙ c.as_slice-stamp-items.ensures.value) (c.loop-stamp.invariant told)))

pub returns-clause-own : goal.returns-clause-own
returns-clause-own g c = c.node-name.ensures.own c.requires.up.1
