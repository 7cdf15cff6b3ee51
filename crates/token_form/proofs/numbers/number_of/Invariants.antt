use Rattle.token_form.proofs.Names.{◌≡◌, ◌<◌, ◌^◌, drop, is_ascii_digit, AllPass, number_from}
use Rattle.token_form.proofs.numbers.number_of.Given as goal

-- the number so far goes on to the whole number
abbrev pub invariant-loop-digit : goal.invariant-loop-digit
invariant-loop-digit l = record {
  digits : AllPass is_ascii_digit (drop l.digit-index l.digits);
  number : number_from 0 l.digits ≡ number_from l.number (drop l.digit-index l.digits);
  small : l.number < 2 ^ 63;
}
