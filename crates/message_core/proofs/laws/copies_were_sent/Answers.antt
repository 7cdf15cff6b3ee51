use Rattle.message_core.proofs.SenderLemmas.{was_sent}
use Rattle.message_core.proofs.laws.copies_were_sent.Goals as goal

pub returns : goal.returns
returns c = was_sent c.messages_apart.ensures
