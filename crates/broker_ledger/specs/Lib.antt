pub mod Book
pub mod Counted
pub mod Fits
pub mod Heards
pub mod Ledgers
pub mod Notes
pub mod Sound
pub mod TakenUp
pub mod Tasks
pub mod Tests
pub use Rattle.effect_form.specs.Effects
pub use Rattle.effect_form.specs.Outcomes
pub use Rattle.effect_form.specs.declared.effects.Effect
pub use Rattle.effect_form.specs.declared.outcomes.Outcome
pub use Rattle.pseudo_time.specs.Lists
pub use Rattle.pseudo_time.specs.Nodes
pub use Rattle.pseudo_time.specs.Order
pub use Rattle.pseudo_time.specs.StampParts
pub use Rattle.pseudo_time.specs.TimeParts
pub use Rattle.pseudo_time.specs.declared.decisions.Decision
pub use Rattle.pseudo_time.specs.declared.nodes.NodeId
pub use Rattle.script_form.specs.Lines as ScriptLines
pub use Rattle.script_form.specs.Printable
pub use Rattle.script_form.specs.Row as ScriptRow
pub use Rattle.script_form.specs.RowTexts
pub use Rattle.script_form.specs.Rows as ScriptRows
pub use Rattle.script_form.specs.Scripts
pub use Rattle.script_meaning.specs.Meaning
pub use Rattle.script_run.specs.RunParts
pub use Rattle.serial_model.specs.Asked
pub use Rattle.serial_model.specs.Questions
pub use Rattle.serial_model.specs.Ranges as ScriptRanges
pub use Rattle.serial_model.specs.Requests
pub use Rattle.value_form.specs.Mirror
pub use Rattle.value_form.specs.ObjectBytes
pub use Rattle.value_form.specs.ValueBytes
pub use Rattle.value_form.specs.contracts.scripts.Stmt as StmtContracts
pub use Rattle.value_form.specs.declared.acts.ActSpec
pub use Rattle.value_form.specs.declared.endings.Ending
pub use Rattle.value_form.specs.declared.objects.ObjectId
pub use Rattle.value_form.specs.declared.values.Value
