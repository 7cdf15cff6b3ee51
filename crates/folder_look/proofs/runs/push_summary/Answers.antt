use Rattle.folder_look.proofs.Names.{[], ◌∷◌, ap, codes}
use Rattle.folder_look.specs.Pieces.{Number, Words, text_of}
use Rattle.folder_look.proofs.Appends.{named-so}
use Rattle.folder_look.proofs.runs.push_summary.Goals as goal

pub returns : goal.returns
returns c =
    named-so c.push_parts.result c.args.out.now.items c.push_parts.new.out.items _ _
    (ap (λ n. text_of (Words (codes "<summary>run ") ∷ Number c.args.number ∷ Words (codes ", attempts ") ∷ Number n ∷ Words (codes "</summary>\n<table><thead><tr><th scope=\"col\">stamp</th><th scope=\"col\">reads and writes</th><th scope=\"col\">outcome</th></tr></thead><tbody>\n") ∷ [])) c.count_tries.ensures)
    c.push_parts.ensures
