use Rattle.serial_model.proofs.Names.{◌≡◌, ◌-◌, ◌+◌, ◌*◌, drop, block, plain, IsBlock, all_done, turns, over_objects, state_of}
use Rattle.serial_model.proofs.StatementLemmas.{size, size_step}
use Rattle.serial_model.proofs.performances.+statements.Given as goal

-- what is left of the part leads from here to where the whole leads from the start
abbrev pub invariant-all-loop-stmt : goal.invariant-all-loop-stmt
invariant-all-loop-stmt l = record {
  same : all_done over_objects (block (drop l.stmt-index l.part)) (state_of l.work) ≡ all_done over_objects (block l.part) (state_of l.initial.work);
  in_range : IsBlock (block (drop l.stmt-index l.part));
}

-- so do the turns that are left
abbrev pub invariant-turns-turns : goal.invariant-turns-turns
invariant-turns-turns l = turns over_objects (l.count - l._turn) (all_done over_objects (block l.part)) (state_of l.work) ≡ turns over_objects l.count (all_done over_objects (block l.part)) (state_of l.initial.work)

-- a part is smaller than its statement, and a statement than its script
abbrev pub decreases-all : goal.decreases-all
decreases-all l = 4 * size (block l.part.now) + 1

abbrev pub decreases-turns : goal.decreases-turns
decreases-turns l = 4 * size (block l.part.now) + 2

abbrev pub decreases-one : goal.decreases-one
decreases-one l = 4 * size_step (plain l.stmt.now) + 4

abbrev pub decreases-begun : goal.decreases-begun
decreases-begun l = 4 * size_step (plain l.stmt.now) + 3
