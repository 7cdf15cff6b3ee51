use Rattle.std.proofs.Common.{◌≡◌, ◌+◌, drop}
use Rattle.script_form.specs.Targets as spec
use Rattle.script_form.proofs.targets.bracket_at.Given as goal

abbrev pub invariant-brackets : goal.invariant-brackets
invariant-brackets l = record {
  value : spec.bracket_at l.tokens ≡ l.at + spec.bracket_at (drop l.token-index l.tokens);
  at : l.at ≡ l.token-index;
}
