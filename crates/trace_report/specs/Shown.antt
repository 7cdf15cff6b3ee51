-- The acts of a plan with what was begun of them, as the code shows them.
use Rattle.std.specs.Prelude.{◌≡◌, ℕ, ◌==◌, List, [], ◌∷◌, map, reverse, Option, Some, None, if◌then◌else◌}
use Rattle.std.specs.Option.{option_map}
use Rattle.std.specs.Ordering.{nat_cmp}
use Rattle.std.specs.Map.{lookup}
use Rattle.std.specs.BTreeMap.{is_at}
use Rattle.value_form.specs.declared.acts.ActSpec.{ActSpec}
use Rattle.value_form.specs.declared.scripts.Stmt.{Stmt}
use Rattle.value_form.specs.Mirror.{block}
use Rattle.serial_model.specs.Questions.{denote, talked}
use Rattle.report_writer.specs.declared.records.TryReport.{TryReport}
use Rattle.report_writer.specs.declared.records.ActReport.{ActReport}
use Rattle.trace_report.specs.declared.begun.BegunAct.{BegunAct}
use Rattle.trace_report.specs.Acts.{shown_end}
use Rattle.trace_report.specs.Begun.{TryParts, ActParts, kept_act}

-- an attempt at an act with this script
abbrev pub try_told : List Stmt → TryParts → TryReport
try_told script t = record { stamp = t.stamp; outcome = shown_end t.end; lines = (talked (denote (block script)) t.answers).lines }

-- the first one first
abbrev pub tries_told : List Stmt → Option ActParts → List TryReport
tries_told script None = []
tries_told script (Some a) = map (try_told script) (reverse a.tries)

abbrev pub spent_told : Option ActParts → Option ℕ
spent_told None = None
spent_told (Some a) = a.spent

abbrev pub act_told : ActSpec → Option ActParts → ActReport
act_told a begun = record {
  index = a.index;
  broker = a.broker;
  home = a.home;
  allowed = a.tries;
  tries = tries_told a.script.lines begun;
  spent = spent_told begun;
}

-- the newest act with this index
abbrev pub part_at : ℕ → List ActParts → Option ActParts
part_at i [] = None
part_at i (a ∷ acts) = if a.index == i then Some a else part_at i acts

-- what a map from indexes to acts has
abbrev pub begun_at : List (ℕ × BegunAct) → ℕ → Option ActParts
begun_at entries i = option_map kept_act (lookup (is_at (nat_cmp i)) entries)

-- it has these acts, the newest with each index
abbrev pub HasActs : List ActParts → List (ℕ × BegunAct) → Type 0
HasActs acts entries = (i : ℕ) → begun_at entries i ≡ part_at i acts
