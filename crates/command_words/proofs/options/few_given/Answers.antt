use Rattle.command_words.proofs.Names.{arith, length-map, said}
use Rattle.command_words.proofs.WordLemmas.{given-few}
use Rattle.command_words.proofs.options.few_given.Goals as goal

pub returns-then-words-gt-MOST_WORDS : goal.returns-then-words-gt-MOST_WORDS
returns-then-words-gt-MOST_WORDS c = λ g is. omega (arith, given-few g (said c.args.words.now) is, length-map c.args.words.now (λ w. w.now), c.if-words-gt-MOST_WORDS.true)
