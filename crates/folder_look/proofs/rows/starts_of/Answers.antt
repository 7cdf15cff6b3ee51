use Rattle.folder_look.proofs.StartLemmas.{start-more}
use Rattle.folder_look.proofs.rows.starts_of.Goals as goal

pub loop-version-preserved : goal.loop-version-preserved
loop-version-preserved c =
    start-more c.args.versions.now c.loop-version.version-index c.version-item.result c.loop-version.starts.keys c.insert.new.self.keys c.loop-version-test.true c.version-item.is c.loop-version.invariant c.in_ok-insert.ensures.keys
