-- The text of an object's history by a repository's log. Marks stand newest first, effects oldest first.
use Rattle.std.specs.Prelude.{ℕ, Bool, true, false, List, [], ◌∷◌, ◌++◌, reverse, codes, Option, Some, None, if◌then◌else◌}
use Rattle.std.specs.List.{flat_map}
use Rattle.pseudo_time.specs.TimeParts.{TimeParts}
use Rattle.pseudo_time.specs.Order.{lt}
use Rattle.value_form.specs.declared.objects.ObjectId.{ObjectId}
use Rattle.value_form.specs.declared.values.Value.{Value}
use Rattle.value_form.specs.ValueText.{value_text}
use Rattle.effect_form.specs.declared.effects.Effect.{Effect}
use Rattle.object_history.specs.declared.marks.Mark.{Mark}
use Rattle.object_history.specs.Objects.{same_object}
use Rattle.object_history.specs.History.{Seen, at_put, settle_of, version_count, reach}
use Rattle.repository_log.specs.Logs.{marks}
use Rattle.report_writer.specs.Parts.{object_text, time_text}

-- ---- the versions of an object

-- a version among others that fall: behind those that start above it
unfoldable pub version_in : Seen → List Seen → List Seen
version_in q [] = q ∷ []
version_in q (p ∷ ps) = if lt q.start p.start then p ∷ version_in q ps else q ∷ p ∷ ps

-- the object's versions, dead or not, the last start first; of equal starts the newest first
unfoldable pub falling : ObjectId → List Mark → List Seen
falling o [] = []
falling o (f ∷ m) =
    at_put (λ a x v below. if same_object a o then version_in (record { place = version_count o m; start = x; value = v }) below else below) f (falling o m)

-- in rising order of start; of equal starts the log's order counts
abbrev pub versions : ObjectId → List Mark → List Seen
versions o m = reverse (falling o m)

-- ---- texts

-- how a version stands by this log alone
abbrev pub state_text : Option Bool → List ℕ
state_text None = codes "undecided"
state_text (Some true) = codes "committed"
state_text (Some false) = codes "aborted"

abbrev pub end_text : Option TimeParts → List ℕ
end_text None = codes " end none" ++ 10 ∷ []
end_text (Some t) = codes " end " ++ (time_text t ++ 10 ∷ [])

abbrev pub version_line : TimeParts → Option Bool → Value → Option TimeParts → List ℕ
version_line start state value end = codes "version " ++ (time_text start ++ (32 ∷ (state_text state ++ (32 ∷ (value_text value ++ end_text end)))))

-- its end is how far it was read
abbrev pub version_text : ObjectId → List Mark → Seen → List ℕ
version_text o m q = version_line q.start (settle_of m q.start.stamp) q.value (reach m o (Some q))

abbrev pub head_text : ObjectId → Option TimeParts → List ℕ
head_text o end = codes "history " ++ (object_text o ++ (10 ∷ (codes "origin" ++ end_text end)))

abbrev pub marks_text : ObjectId → List Mark → List ℕ
marks_text o m = head_text o (reach m o None) ++ flat_map (version_text o m) (versions o m)

abbrev pub history_text : ObjectId → List Effect → List ℕ
history_text o effects = marks_text o (marks (reverse effects))
