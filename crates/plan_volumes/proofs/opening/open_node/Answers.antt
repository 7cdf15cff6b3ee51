use Rattle.plan_volumes.proofs.Names.{Every, IsWanting, shelf_sight, NodeVolumes, subst, arith}
use Rattle.plan_volumes.proofs.ApartLemmas.{aside-one, ends-some, working-below}
use Rattle.plan_volumes.proofs.opening.open_node.Goals as goal

pub set_aside-opening-requires : goal.set_aside-opening-requires
set_aside-opening-requires g c =
    let volumes = c.open_volumes-volumes.ensures.volumes in
    let items = c.open_volumes-volumes.result.items in
    let below = working-below items (ends-some c.args.node.kind items volumes.1.ends) in
    record { place = omega (arith, below, c.open_volumes-volumes.result.ok) }

pub returns : goal.returns
returns g c =
    let w = g.S.Medium.Medium in
    let volumes = c.open_volumes-volumes.ensures.volumes in
    let items = c.open_volumes-volumes.result.items in
    let v : NodeVolumes w = record { taken = volumes.0; openings = items } in
    let rest = c.set_aside-opening.ensures.rest in (
      v,
      record {
        volumes = volumes.1;
        given = c.set_aside-opening.ensures.given;
        aside = aside-one w (shelf_sight g.S.Shelf c.args.shelf.now) (shelf_sight g.S.Shelf c.open_volumes-volumes.new.shelf) c.args.node v volumes.1 rest.0 c.set_aside-opening.result.1
            (omega (arith, c.open_volumes-volumes.ensures.few, c.open_volumes-volumes.result.ok)) c.set_aside-opening.ensures.place rest.1;
        memory = λ e. subst (λ l. Every (λ o. IsWanting o → ⊥) l) c.as_slice.ensures.value (c.is_wanting-wanting.ensures e);
      },
    )
