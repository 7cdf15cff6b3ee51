use Rattle.message_form.proofs.ReadLaws.{message_bytes-apart}
use Rattle.message_form.proofs.message_bytes.messages_apart.Goals as goal

pub returns : goal.returns
returns c = message_bytes-apart
