use Rattle.object_history.proofs.Names.{Version, tops, reverse, sym, ap, ◌∙◌, None}
use Rattle.object_history.proofs.RisingLemmas.{rising-on, rising-off}
use Rattle.object_history.proofs.versions.Track.add.Goals as goal
use Rattle.object_history.proofs.versions.Track.add.Goals.{then-self, else-self}

pub invariant_of-self-2 : goal.invariant_of-self-2
invariant_of-self-2 c =
    let vs = c.self.inside.versions.items in
    let v : Version = record { place = c.len.result; mark = c.args.mark; start = c.args.start; end = None } in
    elim c.if-self.branch [
      | then-self w ↦ w.rises-is ∙ rising-on vs c.push.new.self.items v w.is_on_top-rises.result (sym c.self.invariant ∙ w.if-self.true)
          (w.is_on_top-rises.ensures ∙ ap (λ xs. tops (reverse xs) c.args.start) w.as_slice.ensures.value) c.in_ok-push.ensures.items
      | else-self w ↦ w.rises-is ∙ w.if-self.false ∙ rising-off vs c.push.new.self.items v (sym c.self.invariant ∙ w.if-self.false) c.in_ok-push.ensures.items
    ]
