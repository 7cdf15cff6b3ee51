use Rattle.vote_call.proofs.Names.{◌∙◌, length, ap, sym, subst, arith, AreKept}
use Rattle.vote_call.proofs.FinishLemmas.{given-kept}
use Rattle.vote_call.proofs.StartLemmas.{polls-count}
use Rattle.vote_call.proofs.voting.votes.Goals as goal

pub run-requires-clause-few : goal.run-requires-clause-few
run-requires-clause-few g c = let size = ap length c.in-Ok.ensures ∙ polls-count 1 c.args.lines.now in let few = c.requires.few in omega (arith, size, few)

pub returns-in-Err-clause-kept : goal.returns-in-Err-clause-kept
returns-in-Err-clause-kept g c = subst (AreKept g.M.Medium c.args.media) (sym c.wanting-in-Err.ensures.media) (given-kept g.M.Medium c.args.media c.open_members-openings.result c.open_members-openings.ensures)
