-- Messages that were sent, beside their texts.
use Rattle.std.specs.Prelude.{List}
use Rattle.pseudo_time.specs.Lists.{Every}
use Rattle.message_form.specs.Posts.{Post}
use Rattle.message_form.specs.Messages.{IsMessage, message_bytes}
use Rattle.message_core.specs.declared.letters.Letter.{Letter}

abbrev pub letter_of : Post → Letter
letter_of post = record { from = post.from; to = post.to; text = message_bytes post.message }

abbrev pub AllInRange : List Post → Type 0
AllInRange = Every (λ (post : Post). IsMessage post.message)
