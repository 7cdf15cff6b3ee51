use Rattle.swallow_top.proofs.Names.{subst, AreReadAs}
use Rattle.swallow_top.proofs.InputLemmas.{reads-polls}
use Rattle.swallow_top.proofs.votes.read_polls.Goals as goal

pub returns : goal.returns
returns g c =
    reads-polls (g.I.Source.left c.args.source.now) (g.I.Source.left c.read_all.new.source) (g.I.Source.faults c.args.source.now) (g.I.Source.faults c.read_all.new.source) c.in_ok-bytes.bytes.items c.polls_in.result c.in_ok-bytes.ensures.bytes c.in_ok-bytes.ensures.ended
    (subst (λ z. AreReadAs z c.polls_in.result) c.as_slice.ensures.value c.polls_in.ensures)
