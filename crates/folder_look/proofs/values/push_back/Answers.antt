use Rattle.folder_look.proofs.Names.{◌∙◌, ap, arith, drop}
use Rattle.std.proofs.Common.{length-drop}
use Rattle.std.proofs.lemmas.List.{drop_min}
use lib.Seq.{take_all}
use Rattle.folder_look.specs.Values.{more_values}
use Rattle.folder_look.specs.Shown.{parts_of}
use Rattle.folder_look.proofs.Appends.{named-so}
use Rattle.folder_look.proofs.values.push_back.Goals as goal

pub returns : goal.returns
returns c =
    let rows = c.args.rows.now in
    let k = c.min.result in
    named-so c.push_more.result c.args.out.now.items c.push_more.new.out.items _ _
    (ap (λ rs. more_values (parts_of c.args.shown.now) rs) (take_all _ (drop k rows) (omega (arith, length-drop k rows)) ∙ ap (λ n. drop n rows) c.min.ensures ∙ drop_min 20 rows)) c.push_more.ensures
