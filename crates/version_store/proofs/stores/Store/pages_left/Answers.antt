use Rattle.version_store.proofs.Names.{arith, IsImage}
use Rattle.version_store.proofs.BlankLemmas.{blank_count}
use Rattle.version_store.proofs.stores.Store.pages_left.Goals as goal

pub returns-clause-blank : goal.returns-clause-blank
returns-clause-blank g c told =
    let s = c.args.self.now in
    let m = s.medium in
    let shape : IsImage (g.M.Medium.page_count m) (g.M.Medium.reads m) = g.met.M.Medium.shape m (g.M.Medium.reads m) told (g.met.M.Medium.reads_now m told) in
    let blanks = blank_count _ s.next _ _ (s.at_rest told) in
    omega (arith, blanks, shape.count, s.count)
