use Rattle.message_core.proofs.Names.{◌-◌, sym, subst, arith, message_bytes, HasText}
use Rattle.message_core.proofs.TakeLemmas.{text_at, letter_at}
use Rattle.message_core.proofs.letters.arrival_of.Goals as goal

pub message_of-requires : goal.message_of-requires
message_of-requires c = subst HasText (sym c.index-letters-number.is) (text_at c.args.letters.now (c.args.number - 1) _ (omega (arith, c.requires.from_one, c.requires.there)) c.requires.texts)

pub returns-clause-letter : goal.returns-clause-letter
returns-clause-letter c = λ node went. letter_at c.args.letters.now node c.args.number c.index-letters-number.result (message_bytes c.in_ok-message.message) went c.index-letters-number.is c.in_ok-message.ensures.text
