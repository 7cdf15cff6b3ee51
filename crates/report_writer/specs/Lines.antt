-- Lines that tell why a command gave no text.
use Rattle.std.specs.Prelude.{ℕ, List, [], ◌∷◌, ◌++◌, codes}
use Rattle.pseudo_time.specs.TimeParts.{TimeParts}
use Rattle.value_form.specs.declared.objects.ObjectId.{ObjectId}
use Rattle.report_writer.specs.Reports.{refusal_text}

-- a version below the mark is undecided
abbrev pub undecided_line : ObjectId → TimeParts → List ℕ
undecided_line object start = refusal_text (codes "swallow: undecided ") object start ++ 10 ∷ []
