use Rattle.token_form.proofs.Names.{◌≡◌, drop, word_in}
use Rattle.token_form.proofs.words.word_among.Given as goal

-- the words so far are spelled otherwise
abbrev pub invariant-loop-word : goal.invariant-loop-word
invariant-loop-word l = word_in l.table l.name ≡ word_in (drop l.word-index l.table) l.name
