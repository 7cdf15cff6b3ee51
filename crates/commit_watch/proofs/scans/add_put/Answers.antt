use Rattle.commit_watch.proofs.Names.{rules, ap, ◌∙◌, subst, unwrap_or, object_cmp, Puts, on_ok, empty_standing, with_version}
use Rattle.commit_watch.proofs.StandingLemmas.{standings-put}
use Rattle.commit_watch.proofs.scans.add_put.Goals as goal

pub returns-in-Some : goal.returns-in-Some
returns-in-Some c =
    let new = c.add.new.self in
    let map = c.get_mut.follows.lender new in
    on_ok c.add.result (λ is. standings-put c.args.standings.now.entries map.entries c.args.put.now.object (with_version c.args.put.now c.args.value.now) new
    ((c.get_mut.follows.holds new).3 (search rules)).0 (is ∙ ap (λ t. with_version c.args.put.now c.args.value.now (unwrap_or t empty_standing)) c.in-Some.ensures.value)) c.add.ensures

pub returns-in_ok-insert-in-None : goal.returns-in_ok-insert-in-None
returns-in_ok-insert-in-None c =
    let new = c.add-in-None.new.self in
    standings-put c.args.standings.now.entries c.insert.new.self.entries c.args.put.now.object (with_version c.args.put.now c.args.value.now) new
    (subst (λ z. Puts object_cmp c.args.put.now.object new z.entries c.insert.new.self.entries) c.get_mut.follows.holds-at-none c.in_ok-insert-in-None.ensures.updates.0)
    (c.in_ok-add-in-None.ensures ∙ ap (with_version c.args.put.now c.args.value.now) (c.new-standing.ensures ∙ ap (λ t. unwrap_or t empty_standing) c.in-None.ensures.value))
