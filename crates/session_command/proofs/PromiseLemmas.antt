-- What a session promises, by how it ended.
use Rattle.std.proofs.Common.{◌≡◌, ◌≤◌, ℕ, List, [], inl, inr, refl}
use Rattle.std.specs.Prelude.{Option, Err, Ok}
use Rattle.std.specs.Io.KnownBytes.{prepend_known}
use Rattle.stream_port.specs.Causes.{Rose}
use Rattle.run_command.specs.Written.{HasNoMemory}
use Rattle.medium_port.specs.declared.shelves.Shelf.{Ghosts}
use Rattle.session_form.specs.Sessions.{batch_text}
use Rattle.command_words.specs.declared.commands.Options.{Options}
use Rattle.plan_volumes.specs.Media.{Media}
use Rattle.run_command.specs.declared.stops.Stop.{Stop}
use Rattle.run_command.specs.declared.stops.Stop.TheVariants as stop
use Rattle.session_command.specs.Ahead.{ahead}
use Rattle.session_command.specs.Inputs.{HasHead}
use Rattle.session_command.specs.Sessions.{Call, Held, Promise}
use Rattle.session_command.specs.Standings.{IsStill, sunk}
use Rattle.session_command.specs.Texts.{AreSession}
use Rattle.session_command.specs.Turns.{ToldOf}
use Rattle.session_command.specs.declared.inputs.SessionInput.{SessionInput}
use Rattle.session_command.proofs.SessionLemmas.{held-before}

module _ {H M : Type 0} (g : Ghosts H M) (w : Media M) (c : Call H) where
  -- there is no session by the words, or memory ran out for them
  pub promise-words : ((o : Options) → AreSession o c.words → ⊥) → ToldOf stop.Words c.status (sunk c.before c.after) → IsStill c.before c.after → Promise g w c
  promise-words none told still = inl (record { status = told.0; none = none; still = still; line = told.1 })

  pub promise-memory : HasNoMemory c.status (sunk c.before c.after) → IsStill c.before c.after → Promise g w c
  promise-memory short still = inr (inl (short, still))

  -- there is none by the head
  pub promise-told : (o : Options) → AreSession o c.words → (left : Option (List ℕ)) (why : Stop) → HasHead c.input left (Err why) → (why ≡ stop.Source → Rose c.faults_before c.faults) → ToldOf why c.status (sunk c.before c.after) → IsStill c.before c.after
      → Promise g w c
  promise-told o are left (stop.Fault line what) (text, begins, is) rose told still = inr (inr (o, are, inr (inl (record { text = text; line = line; what = what; begins = begins; is = is; still = still; told = told }))))
  promise-told o are left stop.NoMemory h rose told still = inr (inl (told, still))
  promise-told o are left stop.Source h rose told still = inr (inr (o, are, inl (record { status = told.0; rose = rose refl; still = still; line = told.1 })))
  promise-told o are left stop.Words h rose told still = absurd h
  promise-told o are left (stop.Votes line) h rose told still = absurd h
  promise-told o are left stop.Sink h rose told still = absurd h

  -- it was held
  pub promise-held : (o : Options) → AreSession o c.words → (left : Option (List ℕ)) (s : SessionInput) → HasHead c.input left (Ok s) → (faults_mid : ℕ) → c.faults_before ≤ faults_mid
      → ((repositories brokers : List ℕ) → s.head.items ≡ batch_text repositories brokers [] → Held g w o repositories brokers (prepend_known (ahead s.reader) left) faults_mid c.faults 3 c.status c.before c.after) → Promise g w c
  promise-held o are left s (head, repositories, brokers, is_head, read, head_is, lines) faults_mid later held =
      inr (inr (
        o,
        are,
        inr (inr (record {
          head = head;
          repositories = repositories;
          brokers = brokers;
          is_head = is_head;
          ahead = prepend_known (ahead s.reader) left;
          read = read;
          held = held-before g w o repositories brokers (prepend_known (ahead s.reader) left) c.faults_before faults_mid c.faults 3 c.status c.before c.after later (held repositories brokers head_is);
        })),
      ))
