-- What the parts of a plan's reader give.
use Rattle.std.specs.Prelude.{◌≡◌, ℕ, ◌+◌, ◌<◌, ◌≤◌, true, List, length, Result, Ok, Err}
use Rattle.std.specs.Borrow.{Bor}
use Rattle.value_form.specs.declared.acts.ActSpec.{ActSpec}
use Rattle.value_form.specs.declared.scripts.Script.{Script}
use Rattle.value_form.specs.Mirror.{block}
use Rattle.script_form.specs.Lines.{lines}
use Rattle.script_form.specs.Scripts.{IsScriptLines}
use Rattle.script_form.specs.declared.parse_faults.ParseFault.{ParseFault}
use Rattle.script_form.specs.declared.parse_faults.ParseFault.TheVariants as parse
use Rattle.plan_form.specs.declared.act_lines.Terms.{Terms}
use Rattle.std.specs.declared.vec.Vec.{Vec}
use Rattle.std.specs.declared.alloc.Global.{Global}
use Rattle.plan_form.specs.declared.heads.Head.{Head}
use Rattle.plan_form.specs.declared.act_scripts.ActScript.{ActScript}
use Rattle.plan_form.specs.declared.acts.ReadAct.{ReadAct}
use Rattle.plan_form.specs.declared.plan_faults.PlanKind.{PlanKind}
use Rattle.plan_form.specs.declared.plan_faults.PlanKind.TheVariants as kind
use Rattle.plan_form.specs.declared.plan_faults.PlanFault.{PlanFault}
use Rattle.plan_form.specs.declared.plan_faults.PlanFault.TheVariants.{Fault, NoMemory}
use Rattle.plan_form.specs.Plans.{HasHead, IsActLine, terms, has_done, before_done, behind_done, AreActs}
use Rattle.plan_form.specs.PlanFaults.{ScriptFault, BodyFault, LinesFault}

-- a fault of a script, as one of this line of a plan
abbrev pub script_fault : ℕ → ParseFault → PlanFault
script_fault line (parse.Fault inside what) = Fault line (kind.Script what)
script_fault line parse.NoMemory = NoMemory

-- the head, and the bytes behind it; or the fault
abbrev pub ReadsHead : List ℕ → Result (Head × Bor (List ℕ)) PlanFault → Type 0
ReadsHead bytes (Ok (head, body)) = HasHead (lines bytes) head.run head.repositories head.brokers (lines body.now) × (length body.now ≤ length bytes)
ReadsHead bytes (Err (Fault line what)) = LinesFault (lines bytes) line what
ReadsHead bytes (Err NoMemory) = ⊥

-- The lines behind the line before are the script of an act and its `done`, which is the line at; this is the rest.
pub record IsScriptRead (repositories before : ℕ) (bytes : List ℕ) (script : Script) (rest : List ℕ) (at : ℕ) : Type 0 where
  pub has : has_done (lines bytes) ≡ true
  pub is : IsScriptLines repositories (before_done (lines bytes)) (block script.lines)
  pub behind : lines rest ≡ behind_done (lines bytes)
  pub count : at + length (lines rest) ≡ before + length (lines bytes)
  pub fits : at + length rest ≤ before + length bytes
  pub shorter : length rest < length bytes

-- the script of an act behind this line; or the fault
abbrev pub ReadsScript : (repositories before : ℕ) → List ℕ → Result ActScript PlanFault → Type 0
ReadsScript repositories before bytes (Ok s) = IsScriptRead repositories before bytes s.script s.rest.now s.at
ReadsScript repositories before bytes (Err (Fault line what)) = (inside : ℕ) × (line ≡ before + inside) × ScriptFault repositories (lines bytes) inside what
ReadsScript repositories before bytes (Err NoMemory) = Unit {0}

-- What is wrong with the act of this number, whose act line is the line at.
abbrev pub ActFault : (repositories brokers index at : ℕ) → List ℕ → List (List ℕ) → ℕ → PlanKind → Type 0
ActFault repositories brokers index at first ls line kind.Act = (line ≡ at) × ((t : Terms) → IsActLine repositories brokers t first → ⊥)
ActFault repositories brokers index at first ls line kind.Acts = (line ≡ at) × (10000 < index) × (t : Terms) × IsActLine repositories brokers t first
ActFault repositories brokers index at first ls line what =
    (index ≤ 10000) × (t : Terms) × IsActLine repositories brokers t first × (inside : ℕ) × (line ≡ at + inside) × ScriptFault repositories ls inside what

-- The first line says the terms of this act, and behind it stand its script and `done`.
pub record IsActRead (repositories brokers index at : ℕ) (first bytes : List ℕ) (act : ActSpec) (rest : List ℕ) (last : ℕ) : Type 0 where
  pub few : index ≤ 10000
  pub index_is : act.index ≡ index
  pub says : IsActLine repositories brokers (terms act) first
  pub script : IsScriptRead repositories at bytes act.script rest last

-- the act of this number; or the fault
abbrev pub ReadsAct : (repositories brokers index at : ℕ) → List ℕ → List ℕ → Result ReadAct PlanFault → Type 0
ReadsAct repositories brokers index at first bytes (Ok a) = IsActRead repositories brokers index at first bytes a.act a.rest.now a.at
ReadsAct repositories brokers index at first bytes (Err (Fault line what)) = ActFault repositories brokers index at first (lines bytes) line what
ReadsAct repositories brokers index at first bytes (Err NoMemory) = Unit {0}

-- the acts that the lines behind this one are; or the fault
abbrev pub ReadsActs : (repositories brokers before : ℕ) → List ℕ → Result (Vec ActSpec Global) PlanFault → Type 0
ReadsActs repositories brokers before bytes (Ok acts) = AreActs repositories brokers 1 acts.items (lines bytes) × (length acts.items ≤ 10000)
ReadsActs repositories brokers before bytes (Err (Fault line what)) = (inside : ℕ) × (line ≡ before + inside) × BodyFault repositories brokers (lines bytes) inside what
ReadsActs repositories brokers before bytes (Err NoMemory) = Unit {0}
