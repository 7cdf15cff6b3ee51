-- What a repository replies by what it has looked up, and which reads and askers wait then.
use Rattle.std.specs.Prelude.{ℕ, Bool, true, false, List, [], ◌∷◌, ◌==◌, ◌||◌, not, if◌then◌else◌}
use Rattle.std.specs.List.{filter}
use Rattle.std.specs.Map.{remove_entry}
use Rattle.std.specs.BTreeMap.{insert_entry, is_at}
use Rattle.std.specs.BTreeSet.{insert_key}
use Rattle.pseudo_time.specs.StampParts.{StampParts, stamp_cmp}
use Rattle.pseudo_time.specs.TimeParts.{TimeParts, time_cmp}
use Rattle.pseudo_time.specs.Order.{same_stamp}
use Rattle.pseudo_time.specs.Nodes.{repository}
use Rattle.pseudo_time.specs.declared.nodes.NodeId.{NodeId}
use Rattle.value_form.specs.declared.objects.ObjectId.{ObjectId}
use Rattle.value_form.specs.declared.values.Value.{Value}
use Rattle.effect_form.specs.declared.effects.Effect.TheVariants as effect
use Rattle.message_form.specs.declared.messages.Message.TheVariants as message
use Rattle.object_history.specs.declared.steps.ReadStep.{ReadStep}
use Rattle.object_history.specs.declared.steps.ReadStep.TheVariants as read
use Rattle.object_history.specs.declared.steps.WriteStep.{WriteStep}
use Rattle.object_history.specs.declared.steps.WriteStep.TheVariants as write
use Rattle.repository_draft.specs.declared.waits.HeldRead.{HeldRead}
use Rattle.repository_draft.specs.declared.waits.Asker.{Asker}
use Rattle.repository_draft.specs.Hands.{Hand, note, send}

-- ---- reads

-- a read that comes again is no longer held; it may be held anew
abbrev pub unhold : TimeParts → Hand → Hand
unhold t h = record h { held = remove_entry (is_at (time_cmp t)) h.held }

abbrev pub hold : TimeParts → HeldRead → Hand → Hand
hold t x h = record h { held = insert_entry time_cmp h.held t x }

abbrev pub waits_for : StampParts → List (TimeParts × HeldRead) → Bool
waits_for s [] = false
waits_for s (e ∷ more) = same_stamp e.1.waits s || waits_for s more

-- the home of another repository's attempt is asked, unless a read was held for that attempt just before
abbrev pub ask_for : List (TimeParts × HeldRead) → StampParts → Hand → Hand
ask_for before w h = if (w.home == h.number) || waits_for w before then h else send (repository w.home) (message.Ask w) h

-- by what the histories answer: a value, stretched where they say so; or the read is held; or below the floor it is refused
abbrev pub read_as : List (TimeParts × HeldRead) → Hand → NodeId → TimeParts → ObjectId → ReadStep → Hand
read_as before h from t o (read.Answer v true) = send from (message.Value t v) (note (effect.Stretch o t) h)
read_as before h from t o (read.Answer v false) = send from (message.Value t v) h
read_as before h from t o (read.Wait w) = ask_for before w (hold t (record { from = from; object = o; waits = w }) h)
read_as before h from t o (read.LaterRead e) = send from (message.LaterRead t e) h

-- ---- writes

-- in this order: it stands already; its attempt is known; or by what the histories answer
abbrev pub write_as : Hand → NodeId → TimeParts → ObjectId → Value → Bool → Bool → WriteStep → Hand
write_as h from t o v true is_known w = send from (message.Stored t) h
write_as h from t o v false true w = send from (message.Ended t) h
write_as h from t o v false false write.Put = send from (message.Stored t) (note (effect.Put o t v) h)
write_as h from t o v false false write.Again = send from (message.Stored t) h
write_as h from t o v false false (write.LaterVersion x) = send from (message.LaterVersion t x) h
write_as h from t o v false false (write.LaterRead e) = send from (message.LaterRead t e) h

-- ---- those who ask, and those who are asked

abbrev pub tells : List Asker → StampParts → Bool → Hand → Hand
tells [] s c h = h
tells (a ∷ more) s c h = tells more s c (send (repository a.repository) (message.Tell s c) h)

-- a Tell to each asker of the attempt, in the order of their numbers
unfoldable pub tell_askers : StampParts → Bool → Hand → Hand
tell_askers s c h = tells (filter (λ a. same_stamp a.stamp s) h.askers) s c (record h { askers = filter (λ a. not (same_stamp a.stamp s)) h.askers })

-- the attempts with another home for which reads are held, in the order of their stamps, beside those that are given
abbrev pub waited : ℕ → List (TimeParts × HeldRead) → List StampParts → List StampParts
waited n [] given = given
waited n (e ∷ more) given = waited n more (if e.1.waits.home == n then given else insert_key stamp_cmp given e.1.waits)

abbrev pub asks : List StampParts → Hand → Hand
asks [] h = h
asks (w ∷ more) h = asks more (send (repository w.home) (message.Ask w) h)

-- the home of each attempt for which a read is held is asked again
unfoldable pub ask_again : Hand → Hand
ask_again h = asks (waited h.number h.held []) h
