use Rattle.world_core.proofs.Lives.{sent-grows}
use Rattle.world_core.proofs.laws.sent_messages_grow.Goals as goal

pub returns : goal.returns
returns c = sent-grows
