use Rattle.token_form.proofs.Names.{◌≡◌, [], true, drop, inside, is_spot}
use Rattle.token_form.specs.declared.quotes.Spot.TheVariants as at
use Rattle.token_form.proofs.quotes.text_at.Given as goal

-- the content so far is that of the bytes so far
abbrev pub invariant-loop-at : goal.invariant-loop-at
invariant-loop-at l = record {
  content : inside at.Plain [] l.bytes ≡ inside l.spot l.content.items (drop l.at l.bytes);
  spot : is_spot l.spot ≡ true;
}
