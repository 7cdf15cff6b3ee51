-- The texts that `watch` writes.
use Rattle.std.specs.Prelude.{ℕ, ℤ, List, [], ◌∷◌, ◌++◌, codes}
use Rattle.std.specs.Fmt.{signed_decimal}
use Rattle.std.specs.List.{flat_map}
use Rattle.pseudo_time.specs.TimeParts.{TimeParts}
use Rattle.pseudo_time.specs.declared.down_causes.DownCause.{DownCause}
use Rattle.value_form.specs.declared.objects.ObjectId.{ObjectId}
use Rattle.commit_watch.specs.declared.moved.Moved.{Moved}
use Rattle.report_writer.specs.Parts.{object_text, time_text}
use Rattle.report_writer.specs.Reports.{cause_text, named, refusal_text}
use Rattle.command_words.specs.declared.rules.Rule.{Rule}
use Rattle.command_words.specs.Words.{rule_word}

abbrev pub rule_text : Rule → List ℕ
rule_text rule = 32 ∷ (rule_word rule ++ 10 ∷ [])

abbrev pub watch_head : ℕ → Rule → List ℕ
watch_head repository rule = named (codes "watch repository ") repository ++ rule_text rule

-- how far the object was folded, and its total
abbrev pub total_line : Moved ℤ → List ℕ
total_line t = codes "total " ++ (object_text t.object ++ (32 ∷ (time_text t.cursor ++ (32 ∷ (signed_decimal t.total ++ 10 ∷ [])))))

abbrev pub watch_text : ℕ → Rule → List (Moved ℤ) → List ℕ
watch_text repository rule list = watch_head repository rule ++ flat_map total_line list

-- no number holds the total with this version
abbrev pub overflow_line : ObjectId → TimeParts → List ℕ
overflow_line object start = refusal_text (codes "swallow: overflow ") object start ++ 10 ∷ []

-- the volume of totals stopped it
abbrev pub down_watch_line : ℕ → DownCause → List ℕ
down_watch_line repository cause = named (codes "down watch ") repository ++ (32 ∷ (cause_text cause ++ 10 ∷ []))
