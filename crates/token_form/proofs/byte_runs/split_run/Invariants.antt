use Rattle.token_form.proofs.Names.{◌≡◌, ◌++◌, take, drop, passes, front_of, rest_of}
use Rattle.token_form.proofs.byte_runs.split_run.Given as goal

-- the bytes so far pass
abbrev pub invariant-loop-at : goal.invariant-loop-at
invariant-loop-at l = record {
  front : front_of (passes l.run) l.bytes ≡ take l.at l.bytes ++ front_of (passes l.run) (drop l.at l.bytes);
  rest : rest_of (passes l.run) l.bytes ≡ rest_of (passes l.run) (drop l.at l.bytes);
}
