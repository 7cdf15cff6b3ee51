-- Messages that were sent.
use Rattle.std.specs.Prelude.{List, map}
use Rattle.pseudo_time.specs.Lists.{Has}
use Rattle.pseudo_time.specs.declared.nodes.NodeId.{NodeId}
use Rattle.message_form.specs.declared.messages.Message.{Message}
use Rattle.message_form.specs.declared.turns.Out.{Out}

-- a message, who sent it and to whom
pub record Post : Type 0 where
  pub from : NodeId
  pub to : NodeId
  pub message : Message

abbrev pub post : NodeId → Out → Post
post from out = record { from = from; to = out.to; message = out.message }

-- the messages that a node sent, in order
abbrev pub posts : NodeId → List Out → List Post
posts from outs = map (post from) outs

-- the message was sent
abbrev pub WasSent : List Post → NodeId → NodeId → Message → Type 0
WasSent ever from to m = Has (record { from = from; to = to; message = m }) ever
