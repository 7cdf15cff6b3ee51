-- The text of a report.
use Rattle.std.specs.Prelude.{ℕ, List, [], ◌∷◌, ◌++◌, codes, length, Option, Some, None}
use Rattle.std.specs.Fmt.{decimal}
use Rattle.std.specs.List.{flat_map}
use Rattle.pseudo_time.specs.TimeParts.{TimeParts}
use Rattle.pseudo_time.specs.declared.nodes.NodeKind.{NodeKind}
use Rattle.pseudo_time.specs.declared.nodes.NodeKind.TheVariants.{Repository, Broker}
use Rattle.value_form.specs.declared.objects.ObjectId.{ObjectId}
use Rattle.value_form.specs.declared.values.Value.{Value}
use Rattle.value_form.specs.declared.values.Value.TheVariants.{Nothing, Number, Text}
use Rattle.report_writer.specs.declared.records.TryOutcome.{TryOutcome}
use Rattle.report_writer.specs.declared.records.TryOutcome.TheVariants as outcome
use Rattle.report_writer.specs.declared.records.TryReport.{TryReport}
use Rattle.report_writer.specs.declared.records.ActReport.{ActReport}
use Rattle.report_writer.specs.declared.records.ActOutcome.{ActOutcome}
use Rattle.report_writer.specs.declared.records.ActOutcome.TheVariants as standing
use Rattle.report_writer.specs.declared.records.Final.{Final}
use Rattle.report_writer.specs.declared.records.Down.{Down}
use Rattle.pseudo_time.specs.declared.down_causes.DownCause.{DownCause}
use Rattle.pseudo_time.specs.declared.down_causes.DownCause.TheVariants as cause
use Rattle.report_writer.specs.declared.records.Wire.{Wire}
use Rattle.report_writer.specs.declared.records.Report.{Report}
use Rattle.report_writer.specs.Parts.{object_text, stamp_text, time_text, access_text, line_text, kind_text}
use Rattle.report_writer.specs.Standings.{count_of}

-- a word and a number
abbrev pub named : List ℕ → ℕ → List ℕ
named word n = word ++ decimal n

-- a line of a word and a number
abbrev pub numbered_line : List ℕ → ℕ → List ℕ
numbered_line word n = named word n ++ 10 ∷ []

-- two words with a number each
abbrev pub two_named : List ℕ → ℕ → List ℕ → ℕ → List ℕ
two_named first a second b = named first a ++ named second b

-- a word, an object and a pseudotime
abbrev pub refusal_text : List ℕ → ObjectId → TimeParts → List ℕ
refusal_text word object time = word ++ (object_text object ++ 32 ∷ time_text time)

-- ---- attempts and acts

abbrev pub outcome_text : TryOutcome → List ℕ
outcome_text outcome.Open = codes "open"
outcome_text outcome.Committed = codes "committed"
outcome_text (outcome.Withdrawn l) = named (codes "withdrawn line ") l
outcome_text (outcome.Failed l k) = named (codes "failed line ") l ++ 32 ∷ kind_text k
outcome_text (outcome.LaterRead o e) = refusal_text (codes "refused later-read ") o e
outcome_text (outcome.LaterVersion o s) = refusal_text (codes "refused later-version ") o s
outcome_text (outcome.Expired d m) = two_named (codes "expired deadline ") d (codes " moment ") m

-- its stamp, how it ended, and its transcript
abbrev pub try_text : TryReport → List ℕ
try_text t = (codes "try " ++ (stamp_text t.stamp ++ 32 ∷ (outcome_text t.outcome ++ 10 ∷ []))) ++ flat_map line_text t.lines

abbrev pub spent_text : Option ℕ → List ℕ
spent_text None = []
spent_text (Some clock) = numbered_line (codes "spent ") clock

abbrev pub act_line : ActReport → List ℕ
act_line a = named (codes "act ") a.index ++ (named (codes " broker ") a.broker ++ (named (codes " home ") a.home ++ 10 ∷ []))

abbrev pub act_text : ActReport → List ℕ
act_text a = act_line a ++ (flat_map try_text a.tries ++ spent_text a.spent)

-- ---- finals and nodes that are down

-- the final line of an object; one whose value is Nothing has none
abbrev pub final_line : ObjectId → Value → List ℕ
final_line object Nothing = []
final_line object (Number z) = access_text (codes "final ") object (Number z)
final_line object (Text bytes) = access_text (codes "final ") object (Text bytes)

abbrev pub final_text : Final → List ℕ
final_text f = final_line f.object f.value

abbrev pub kind_word : NodeKind → List ℕ
kind_word Repository = codes "repository "
kind_word Broker = codes "broker "

abbrev pub cause_text : DownCause → List ℕ
cause_text cause.Medium = codes "medium"
cause_text (cause.Damaged page) = named (codes "damaged ") page
cause_text (cause.Full pages) = named (codes "full ") pages

abbrev pub down_text : Down → List ℕ
down_text d = codes "down " ++ (named (kind_word d.node.kind) d.node.number ++ 32 ∷ (cause_text d.cause ++ 10 ∷ []))

-- ---- totals

-- a word, and how many acts stand so
abbrev pub count_text : List ℕ → ActOutcome → List ActReport → List ℕ
count_text word which acts = named word (count_of which acts)

-- acts that their scripts ended
abbrev pub ended_text : List ActReport → List ℕ
ended_text acts =
    count_text (codes " committed ") standing.Committed acts
    ++ (count_text (codes " withdrawn ") standing.Withdrawn acts ++ count_text (codes " failed ") standing.Failed acts)

-- acts that were kept from their end
abbrev pub kept_text : List ActReport → List ℕ
kept_text acts =
    count_text (codes " refused ") standing.Refused acts
    ++ (count_text (codes " expired ") standing.Expired acts
    ++ (count_text (codes " spent ") standing.Spent acts ++ count_text (codes " open ") standing.Open acts))

-- how many acts there are, and how many stand so
abbrev pub totals_text : List ActReport → List ℕ
totals_text acts = named (codes "totals acts ") (length acts) ++ (ended_text acts ++ (kept_text acts ++ 10 ∷ []))

abbrev pub wire_line : Wire → List ℕ
wire_line w =
    two_named (codes "wire messages ") w.messages (codes " asks ") w.asks ++ (two_named (codes " ticks ") w.ticks (codes " crashes ") w.crashes ++ 10 ∷ [])

abbrev pub wire_text : Option Wire → List ℕ
wire_text None = []
wire_text (Some w) = wire_line w

-- ---- the whole

abbrev pub head_text : ℕ → List ℕ
head_text run = numbered_line (codes "swallow report 1\nrun ") run

-- what stands behind the acts
abbrev pub rest_text : Report → List ℕ
rest_text r = flat_map final_text r.finals ++ (flat_map down_text r.downs ++ (totals_text r.acts ++ wire_text r.wire))

abbrev pub report_text : Report → List ℕ
report_text r = head_text r.run ++ (flat_map act_text r.acts ++ rest_text r)
