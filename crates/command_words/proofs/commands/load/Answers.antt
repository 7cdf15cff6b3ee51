use Rattle.command_words.proofs.Names.{ℕ, ◌∷◌, sym, subst, MatchOption, codes, Options, AreWords, IsLoad, said}
use Rattle.command_words.proofs.WordLemmas.{load-behind}
use Rattle.command_words.proofs.commands.load.Goals as goal

pub returns-in_err-options : goal.returns-in_err-options
returns-in_err-options c =
    let ws = c.args.words.now in
    subst (λ r. MatchOption r ((seed count : ℕ) (o : Options) → IsLoad seed count o (codes "load" ∷ said ws) → ⊥) (λ d. AreWords d (codes "load" ∷ said ws))) (sym c.from_residual-in_err-options.ensures)
    (λ seed count o is. c.in_err-options.ensures o (load-behind ws seed count o c.in-len2-up.len_at_least is))
