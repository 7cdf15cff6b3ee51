use Rattle.folder_look.proofs.Names.{◌∙◌, Tally, ap, length}
use Rattle.folder_look.specs.Objects.{objects_of}
use Rattle.folder_look.specs.Page.{tally_text}
use Rattle.folder_look.proofs.Appends.{named-so}
use Rattle.folder_look.proofs.pages.push_counts.Goals as goal

pub returns : goal.returns
returns c =
    named-so c.push_tally.result c.args.out.now.items c.push_tally.new.out.items _ _
    (ap (λ n. tally_text n c.tally_of.result) c.in_ok-objects.ensures ∙ ap (λ (t : Tally). tally_text (length (objects_of c.args.media.now)) t) c.tally_of.ensures)
    c.push_tally.ensures
