use Rattle.plan_form.proofs.Names.{◌≡◌, ◌++◌, take, drop, digits_of, behind_digits}
use Rattle.plan_form.proofs.digits.split_digits.Given as goal

-- the bytes so far are digits
abbrev pub invariant-loop-at : goal.invariant-loop-at
invariant-loop-at l = record {
  front : digits_of l.bytes ≡ take l.at l.bytes ++ digits_of (drop l.at l.bytes);
  rest : behind_digits l.bytes ≡ behind_digits (drop l.at l.bytes);
}
