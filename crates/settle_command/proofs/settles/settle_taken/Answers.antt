use Rattle.std.proofs.Common.{◌∙◌, ap, sym, subst, length, map, arith}
use Rattle.std.proofs.lemmas.List.{length-map}
use Rattle.std.specs.List.{AllZip}
use Rattle.plan_volumes.proofs.ApartLemmas.{zip-long}
use Rattle.plan_volumes.specs.Asides.{IsAside}
use Rattle.plan_volumes.specs.Kept.{kept_under}
use Rattle.plan_volumes.specs.Media.{IsLeftAlone}
use Rattle.plan_volumes.specs.Volumes.{all_left, names_from, work_taken}
use Rattle.run_command.proofs.ShelfLemmas.{opened-left}
use Rattle.run_rounds.specs.Finishes.{tellers}
use Rattle.settle_command.proofs.SettleLemmas.{end-long, end-nodes, end-ranges}
use Rattle.settle_command.proofs.settles.settle_taken.Goals as goal

pub settle_opened-end-requires-clause-opened : goal.settle_opened-end-requires-clause-opened
settle_opened-end-requires-clause-opened g c κs within = let a = c.requires.taken in (map work_taken a.0, a.1.opened)

pub keep_nodes-kept-requires-clause-asides : goal.keep_nodes-kept-requires-clause-asides
keep_nodes-kept-requires-clause-asides g c = let a = c.requires.taken in (a.0, a.1.aside)

pub keep_nodes-kept-requires-clause-count : goal.keep_nodes-kept-requires-clause-count
keep_nodes-kept-requires-clause-count g c =
    let a = c.requires.taken in
    let run = c.settle_opened-end in
    let told = tellers (g.F.Fates.asked c.args.fates) (g.F.Fates.asked run.result.fates) (g.C.Clock.answers c.args.clock) (g.C.Clock.answers run.result.clock) in
    let media = map work_taken a.0 in
    let long = end-long g.M.Medium c.args.plan.now told media run.result.media run.result.end (run.ensures.ends media a.1.opened) in
    let same = ap length c.into_vec.ensures in
    let many = length-map a.0 work_taken in
    let lined = zip-long IsAside a.0 c.args.taken.asides.items a.1.aside in
    omega (arith, long, same, many, lined, c.into_vec.result.ok, c.args.taken.asides.ok)

pub tell-status-requires-clause-nodes : goal.tell-status-requires-clause-nodes
tell-status-requires-clause-nodes g c =
    let a = c.requires.taken in
    let run = c.settle_opened-end in
    let told = tellers (g.F.Fates.asked c.args.fates) (g.F.Fates.asked run.result.fates) (g.C.Clock.answers c.args.clock) (g.C.Clock.answers run.result.clock) in
    let media = map work_taken a.0 in
    end-nodes g.M.Medium c.args.plan.now told media run.result.media run.result.end (run.ensures.ends media a.1.opened)

pub tell-status-requires-clause-ranges : goal.tell-status-requires-clause-ranges
tell-status-requires-clause-ranges g c =
    let a = c.requires.taken in
    let run = c.settle_opened-end in
    let told = tellers (g.F.Fates.asked c.args.fates) (g.F.Fates.asked run.result.fates) (g.C.Clock.answers c.args.clock) (g.C.Clock.answers run.result.clock) in
    let media = map work_taken a.0 in
    end-ranges g.M.Medium c.args.plan.now told media run.result.media run.result.end (run.ensures.ends media a.1.opened)

pub returns-clause-ends : goal.returns-clause-ends
returns-clause-ends g c volumes are =
    let w = g.M.Medium in
    let run = c.settle_opened-end in
    let media = map work_taken volumes in
    let plan = c.args.plan.now in
    record {
      left = run.result.media;
      ending = run.result.end;
      ends = run.ensures.ends media are.opened;
      shut = λ is. let e = run.ensures.memory is in (e.0, subst (AllZip (IsLeftAlone w) media) (sym e.1) (opened-left w media c.args.taken.openings.items are.opened));
      handed = c.of.ensures ∙ (c.keep_nodes-kept.ensures.kept volumes are.aside ∙ ap (λ l. kept_under (names_from plan 0 volumes) (all_left volumes l)) c.into_vec.ensures);
      tells = c.tell-status.ensures;
    }
