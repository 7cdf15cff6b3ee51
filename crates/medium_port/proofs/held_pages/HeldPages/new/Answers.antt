use Rattle.medium_port.proofs.Names.{sym, subst, Image, IsImage, IsBlankImage, with_blanks}
use Rattle.medium_port.proofs.Held.{blank_with, image_with}
use Rattle.medium_port.proofs.held_pages.HeldPages.new.Goals as goal

pub returns-clause-shape : goal.returns-clause-shape
returns-clause-shape c = subst (λ (front : Image). IsImage c.args.count (with_blanks c.args.count front)) (sym c.new.ensures.items) (image_with c.args.count)

pub returns-clause-blank : goal.returns-clause-blank
returns-clause-blank c = subst (λ (front : Image). IsBlankImage (with_blanks c.args.count front)) (sym c.new.ensures.items) (blank_with c.args.count)
