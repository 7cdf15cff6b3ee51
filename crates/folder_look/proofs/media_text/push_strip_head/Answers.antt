use Rattle.folder_look.proofs.Names.{[], ◌∷◌, ap, codes}
use Rattle.folder_look.specs.Pieces.{Number, Words, text_of}
use Rattle.folder_look.proofs.Appends.{named-so}
use Rattle.folder_look.proofs.media_text.push_strip_head.Goals as goal

pub returns : goal.returns
returns c =
    named-so c.push_parts.result c.args.out.now.items c.push_parts.new.out.items _ _
    (ap (λ n. text_of (Words (codes "<span class=\"bars strip\" style=\"--n:") ∷ Number c.args.medium.now.pages ∷ Words (codes "\"><i class=\"gated\" style=\"--w:") ∷ Number n ∷ Words (codes "\"></i>") ∷ [])) c.written.ensures)
    c.push_parts.ensures
