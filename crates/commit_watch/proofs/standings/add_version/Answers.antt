use Rattle.commit_watch.proofs.Names.{ap, ◌∙◌, ◌++◌, ◌∷◌, take, drop, Value, Version}
use Rattle.commit_watch.proofs.StandingLemmas.{place-us}
use Rattle.commit_watch.proofs.standings.add_version.Goals as goal

pub returns : goal.returns
returns c =
    let vs = c.args.versions.now.items in
    let at = c.place_for-place in
    let version : Value → Version = λ value. record { object = c.args.put.now.object; start = c.args.put.now.start; value = value } in
    c.in_ok-insert.ensures.items ∙ ap (λ value. take at.result vs ++ version value ∷ drop at.result vs) c.in_ok-value.ensures
    ∙ place-us (version c.args.value.now) vs c.as_slice.result.now at.result c.as_slice.ensures.value at.ensures.within at.ensures.above at.ensures.stops
