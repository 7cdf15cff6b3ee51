use Rattle.std.proofs.Common.{◌∙◌}
use Rattle.std.proofs.Math.Nat.{le_trans}
use Rattle.folder_reader.specs.Strips.{is_gated}
use Rattle.folder_reader.proofs.StripLemmas.{few-next, gated-next, spoiled-next}
use Rattle.folder_reader.proofs.readings.strip_of.Goals as goal

pub loop-page-preserved : goal.loop-page-preserved
loop-page-preserved g c =
    let image = g.M.Medium.reads c.args.medium.now in
    let read = g.M.Medium.reads c.loop-page.medium in
    let n = c.loop-page.page in
    let s = c.in-Ok.state in
    let so = c.loop-page.invariant in
    let more = c.in_ok-add_page.ensures in
    record {
      open_now = c.in-Ok.ensures.failed;
      size = c.in-Ok.ensures.size ∙ so.size;
      reads = λ told. c.in-Ok.ensures.reads told ∙ so.reads told;
      later = le_trans so.later c.in-Ok.ensures.cause.later;
      few = few-next (is_gated s) n c.loop-page.strip.gated c.add_page.new.strip.gated so.few more.gated;
      gated = λ told. gated-next image read n c.loop-page.strip.gated c.add_page.new.strip.gated s (so.reads told) (c.in-Ok.ensures.found told) (so.gated told) more.gated;
      spoiled = λ told. spoiled-next image read n c.loop-page.strip.spoiled.items c.add_page.new.strip.spoiled.items s (so.reads told) (c.in-Ok.ensures.found told) (so.spoiled told) more.spoiled;
    }
