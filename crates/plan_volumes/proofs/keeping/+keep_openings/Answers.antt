use Rattle.plan_volumes.proofs.Names.{kept_as, volume_name, ◌++◌, ◌∙◌, ap, arith}
use Rattle.plan_volumes.proofs.KeepLemmas.{openings-joined}
use Rattle.plan_volumes.proofs.keeping.+keep_openings.Goals as goal

pub returns-clause-kept : goal.returns-clause-kept
returns-clause-kept g t c =
    openings-joined c.args.node c.pop.new.self.items c.args.openings.items c.in-Some.opening c.args.kept.items c.keep_openings-kept.result.items c.keep_one.result.items c.len-volume.result
    c.in-Some.ensures.items (omega (arith, c.len-volume.ensures, c.pop.new.self.ok)) c.keep_openings-kept.ensures.kept
    (c.keep_one.ensures.kept ∙ ap (λ m. c.keep_openings-kept.result.items ++ kept_as (volume_name c.args.node c.len-volume.result) m) c.release.ensures)
