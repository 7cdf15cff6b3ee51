use Rattle.report_writer.proofs.Names.{◌∙◌, ap, count_above}
use Rattle.report_writer.proofs.TellingLemmas.{holds-put}
use Rattle.report_writer.proofs.tellings.Telling.put.Goals as goal

pub returns-clause-tells : goal.returns-clause-tells
returns-clause-tells c = λ m h.
    holds-put c.args.self.now.object m c.args.self.now.origin c.args.self.now.versions.items c.insert.new.self.items c.args.self.now.settles c.args.start c.args.value c.place_for-place.result h
    (c.place_for-place.ensures.place ∙ ap (count_above c.args.start) c.as_slice.ensures.value) c.in_ok-insert.ensures.items
