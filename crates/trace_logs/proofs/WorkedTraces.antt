-- A trace worked by hand: an act without a statement is carried out, and nothing is lost.
use Rattle.trace_logs.proofs.Names.{StampParts, same_stamp, same_time, NodeId, Repository, Broker, ActSpec, block, Fate, Tree, denote, book, keep, settle_up, knows, first_begin, decision_of, on_message, on_begin, on_close, release, tell_askers, Entry, Take, Go, Gate, Opened, gives, Base, walk, walk_from, sent_by, ◌≡◌, ℕ, List, [], ◌∷◌, refl}
use Rattle.pseudo_time.specs.declared.decisions.Decision.TheVariants as decision
use Rattle.message_form.specs.declared.messages.Message.TheVariants as message
use Rattle.repository_core.specs.Turns as turns

abbrev pub home : NodeId
home = record { kind = Repository; number = 1 }

abbrev pub desk : NodeId
desk = record { kind = Broker; number = 1 }

abbrev pub stamp : StampParts
stamp = record { clock = 1; broker = 1; home = 1 }

abbrev pub lone_act : ActSpec
lone_act = record { index = 1; broker = 1; home = 1; timeout = 5; tries = 3; clock = 1; script = record { lines = [] } }

abbrev pub script : List ℕ → Tree
script text = denote (block [])

abbrev pub blank : List Opened
blank = record { node = home; effects = [] } ∷ record { node = desk; effects = [] } ∷ []

abbrev pub base : Base
base = record { script = script; run = 1; acts = lone_act ∷ []; start = 0; opened = blank }

-- one copy, at once
abbrev pub prompt : Fate
prompt = record { copies = 1; overtake = 0; hold = 0 }

abbrev pub done_entries : List Entry
done_entries = Go desk ∷ Gate desk ∷ Take home 1 ∷ Gate home ∷ Take desk 2 ∷ Gate desk ∷ Take home 3 ∷ Gate home ∷ Take desk 4 ∷ Gate desk ∷ []

-- the messages of the walk are these
pub done-sent : sent_by (walk base done_entries) ≡ record { from = desk; to = home; message = message.Begin stamp 5 } ∷ record { from = home; to = desk; message = message.Begun stamp }
    ∷ record { from = desk; to = home; message = message.Commit stamp } ∷ record { from = home; to = desk; message = message.Decided stamp decision.Committed } ∷ []
unfolding walk_from gives settle_up book keep knows first_begin decision_of turns.gives on_message on_begin on_close release tell_askers same_stamp same_time
done-sent = refl
