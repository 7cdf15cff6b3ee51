-- The messages that were sent, as the code keeps them.
use Rattle.std.specs.Prelude.{List, map}
use Rattle.pseudo_time.specs.Lists.{Every}
use Rattle.message_form.specs.Messages.{IsMessage}
use Rattle.message_form.specs.Posts.{Post, post}
use Rattle.trace_logs.specs.declared.letters.SentMessage.{SentMessage}

abbrev pub posted : SentMessage → Post
posted l = post l.from l.out

abbrev pub all_posted : List SentMessage → List Post
all_posted letters = map posted letters

-- each message is in range
abbrev pub AreLetters : List SentMessage → Type 0
AreLetters letters = Every (λ (l : SentMessage). IsMessage l.out.message) letters
