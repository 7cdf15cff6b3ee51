use Rattle.command_words.proofs.Names.{sym, subst, MatchOption, Given, AreGiven, said}
use Rattle.command_words.proofs.WordLemmas.{none-behind, some-behind}
use Rattle.command_words.proofs.options.+read_given.Goals as goal

pub returns-in_err-read_given-in-len2-up : goal.returns-in_err-read_given-in-len2-up
returns-in_err-read_given-in-len2-up n c =
    let ws = c.args.words.now in
    subst (λ r. MatchOption r ((g : Given) → AreGiven g (said ws) → ⊥) (λ g. AreGiven g (said ws))) (sym c.from_residual.ensures)
    (none-behind ws c.in-len2-up.len_at_least c.in_err-read_given-in-len2-up.ensures)

pub returns-in_ok-read_given-in-len2-up : goal.returns-in_ok-read_given-in-len2-up
returns-in_ok-read_given-in-len2-up n c =
    some-behind c.args.words.now c.in_ok-read_given-in-len2-up.field-0 c.with.result c.in-len2-up.len_at_least c.in_ok-read_given-in-len2-up.ensures c.with.ensures
