use Rattle.command_words.proofs.WordLemmas.{run-alone, votes-alone}
use Rattle.command_words.proofs.commands.read_words.Goals as goal

pub returns-in_err-options-in-run-clause-none : goal.returns-in_err-options-in-run-clause-none
returns-in_err-options-in-run-clause-none c = λ e. run-alone c.args.words.now c.in-len1-up.len_at_least c.in-run.is c.in_err-options-in-run.ensures

pub returns-in_err-vote_options-in-votes-clause-none : goal.returns-in_err-vote_options-in-votes-clause-none
returns-in_err-vote_options-in-votes-clause-none c = λ e. votes-alone c.args.words.now c.in-len1-up.len_at_least c.in-votes.is c.in_err-vote_options-in-votes.ensures
