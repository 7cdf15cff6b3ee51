use Rattle.run_command.proofs.Names.{AllZip, length-map, IsLeftAlone, tellers, kept_under, IsAside, all_left, names_from, work_taken, zip-long, ◌∙◌, ap, sym, subst, length, map, arith}
use Rattle.run_command.proofs.RunLemmas.{end-long, end-nodes, end-ranges}
use Rattle.run_command.proofs.ShelfLemmas.{opened-left}
use Rattle.run_command.proofs.runs.run_taken.Goals as goal

pub run_opened-end-requires-clause-opened : goal.run_opened-end-requires-clause-opened
run_opened-end-requires-clause-opened g c κs within = let a = c.requires.taken in (map work_taken a.0, a.1.opened)

pub keep_nodes-kept-requires-clause-asides : goal.keep_nodes-kept-requires-clause-asides
keep_nodes-kept-requires-clause-asides g c = let a = c.requires.taken in (a.0, a.1.aside)

pub keep_nodes-kept-requires-clause-count : goal.keep_nodes-kept-requires-clause-count
keep_nodes-kept-requires-clause-count g c =
    let m = g.M.Medium in
    let a = c.requires.taken in
    let told = tellers (g.F.Fates.asked c.args.fates) (g.F.Fates.asked c.run_opened-end.result.fates) (g.C.Clock.answers c.args.clock) (g.C.Clock.answers c.run_opened-end.result.clock) in
    let left = c.run_opened-end.result.media in
    let o = c.args.options in
    let plan = c.args.plan.now in
    let media = map work_taken a.0 in
    let long = end-long m o.ticks o.messages plan told media left c.run_opened-end.result.end (c.run_opened-end.ensures.ends media a.1.opened) in
    let same = ap length c.into_vec.ensures in
    let many = length-map a.0 work_taken in
    let lined = zip-long IsAside a.0 c.args.taken.asides.items a.1.aside in
    omega (arith, long, same, many, lined, c.into_vec.result.ok, c.args.taken.asides.ok)

pub tell-status-requires-clause-nodes : goal.tell-status-requires-clause-nodes
tell-status-requires-clause-nodes g c =
    let m = g.M.Medium in
    let a = c.requires.taken in
    let told = tellers (g.F.Fates.asked c.args.fates) (g.F.Fates.asked c.run_opened-end.result.fates) (g.C.Clock.answers c.args.clock) (g.C.Clock.answers c.run_opened-end.result.clock) in
    let o = c.args.options in
    let media = map work_taken a.0 in
    end-nodes m o.ticks o.messages c.args.plan.now told media c.run_opened-end.result.media c.run_opened-end.result.end (c.run_opened-end.ensures.ends media a.1.opened)

pub tell-status-requires-clause-ranges : goal.tell-status-requires-clause-ranges
tell-status-requires-clause-ranges g c =
    let m = g.M.Medium in
    let a = c.requires.taken in
    let told = tellers (g.F.Fates.asked c.args.fates) (g.F.Fates.asked c.run_opened-end.result.fates) (g.C.Clock.answers c.args.clock) (g.C.Clock.answers c.run_opened-end.result.clock) in
    let o = c.args.options in
    let media = map work_taken a.0 in
    end-ranges m o.ticks o.messages c.args.plan.now told media c.run_opened-end.result.media c.run_opened-end.result.end (c.run_opened-end.ensures.ends media a.1.opened)

pub returns-clause-ends : goal.returns-clause-ends
returns-clause-ends g c volumes are =
    let w = g.M.Medium in
    let media = map work_taken volumes in
    let plan = c.args.plan.now in
    record {
      left = c.run_opened-end.result.media;
      ending = c.run_opened-end.result.end;
      ends = c.run_opened-end.ensures.ends media are.opened;
      shut = λ is. let e = c.run_opened-end.ensures.memory is in (e.0, subst (AllZip (IsLeftAlone w) media) (sym e.1) (opened-left w media c.args.taken.openings.items are.opened));
      handed = c.of.ensures ∙ (c.keep_nodes-kept.ensures.kept volumes are.aside ∙ ap (λ l. kept_under (names_from plan 0 volumes) (all_left volumes l)) c.into_vec.ensures);
      tells = c.tell-status.ensures;
    }
