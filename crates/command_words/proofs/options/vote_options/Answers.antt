use Rattle.command_words.proofs.Names.{rules, ◌≡◌, true, sym, ap, ◌∙◌, is_some, said}
use Rattle.std.proofs.lemmas.Bool.{true≢false}
use Rattle.command_words.proofs.WordLemmas.{no-votes}
use Rattle.command_words.proofs.options.vote_options.Goals as goal

pub returns-then-is_some : goal.returns-then-is_some
returns-then-is_some c =
    let some : is_some c.in_ok-given.given.workers ≡ true = search rules in
    no-votes c.in_ok-given.given (said c.args.words.now) c.in_ok-given.ensures (λ e. true≢false (sym some ∙ ap is_some e))
