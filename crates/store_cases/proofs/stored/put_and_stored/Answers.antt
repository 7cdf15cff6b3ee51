use Rattle.std.proofs.Common.{rules, [], ◌∷◌, w64, to_z, of_z}
use Rattle.effect_form.specs.declared.effects.Effect.TheVariants as effect
use Rattle.value_form.specs.declared.values.Value.TheVariants as value
use Rattle.object_header.specs.Tables.{ledger_of}
use Rattle.store_cases.proofs.stored.put_and_stored.Goals as goal

-- what is late is the version that was put
pub flush-requires-clause-late : goal.flush-requires-clause-late
flush-requires-clause-late c = c.late_marks.ensures.grown (ledger_of c.args.table) (ledger_of c.write.new.self) _ _ _ _
    (effect.Put c.args.object c.args.start (value.Number (to_z w64 (of_z w64 c.args.number))) ∷ []) c.requires.late c.write.ensures.below (search rules)
