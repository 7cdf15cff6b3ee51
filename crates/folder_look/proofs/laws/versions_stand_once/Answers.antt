use Rattle.report_writer.proofs.FallingLemmas.{apart}
use Rattle.folder_look.proofs.OnceLemmas.{all-shown, count}
use Rattle.std.proofs.lemmas.List.{length-map}
use Rattle.folder_look.proofs.Names.{map, ◌∙◌, told_at_home}
use Rattle.folder_look.specs.Rows.{rows_of}
use Rattle.folder_look.proofs.laws.versions_stand_once.Goals as goal

pub returns-clause-count : goal.returns-clause-count
returns-clause-count c = count

pub returns-clause-once : goal.returns-clause-once
returns-clause-once c = apart

pub returns-clause-row : goal.returns-clause-row
returns-clause-row c = λ choice homes most o logs. let told = map (told_at_home homes) (rows_of choice o logs) in all-shown most told ∙ length-map (rows_of choice o logs) (told_at_home homes)
