-- A broker asks nobody for a decision.
use Rattle.broker_laws.proofs.Names.{Every, every-append, Effect, Out, ToRead, ToWrite, Tree, Reply, Ignored, Hears, Adds, Task, owed, row, news, Stage, Asking, stage, standing, Desk, Input, Go, Hear, Take, fuel, hears, note, note_if, send, state, settle_up, say, reply, desk_turn, ℕ, zero, suc, true, List, [], ◌∷◌, Option, Some, None, AsksNobody}

abbrev AskNobody : List Out → Type 0
AskNobody outs = Every (λ o. AsksNobody o.message) outs

abbrev MayStand : Option Out → Type 0
MayStand None = Unit {0}
MayStand (Some o) = AsksNobody o.message

standing-nobody : (st : Stage) → MayStand (standing st)
standing-nobody (Asking t (ToRead o)) = tt
standing-nobody (Asking t (ToWrite o v)) = tt
standing-nobody _ = tt

send-nobody : (o : Option Out) (d : Desk) → MayStand o → AskNobody d.outs → AskNobody (send o d).outs
send-nobody None d k h = h
send-nobody (Some o) d k h = every-append (λ (x : Out). AsksNobody x.message) d.outs (o ∷ []) h (k, tt)

module _ (script : List ℕ → Tree) (me run : ℕ) (acts : List Task) where
  note-outs : (next : Desk → Desk) → ((d : Desk) → AskNobody d.outs → AskNobody (next d).outs) → (o : Option Effect) (d : Desk) → AskNobody d.outs → AskNobody (note_if next o d).outs
  note-outs next keeps None d h = h
  note-outs next keeps (Some f) d h = keeps (note f d) h

  settle-nobody : (n : ℕ) (d : Desk) → AskNobody d.outs → AskNobody (settle_up script me run acts n d).outs
  unfolding settle_up
  settle-nobody zero d h = h
  settle-nobody (suc n) d h = note-outs (settle_up script me run acts n) (settle-nobody n) (owed script me run acts (state script me run acts d) d.heard) d h

  say-nobody : (d : Desk) → AskNobody d.outs → AskNobody (say script me run acts d).outs
  say-nobody d h = send-nobody (standing (stage script run (state script me run acts d) d.heard)) d (standing-nobody (stage script run (state script me run acts d) d.heard)) h

  both-nobody : (d : Desk) → AskNobody d.outs → AskNobody (say script me run acts (settle_up script me run acts (fuel acts) d)).outs
  both-nobody d h = say-nobody (settle_up script me run acts (fuel acts) d) (settle-nobody (fuel acts) d h)

  reply-nobody : (d : Desk) (r : Reply) → AskNobody d.outs → AskNobody (reply script me run acts d r).outs
  reply-nobody d Ignored h = h
  reply-nobody d (Hears x) h = both-nobody (hears x d) h
  reply-nobody d (Adds f) h = both-nobody (note f d) h

  pub turn-nobody : (d : Desk) (i : Input) → AskNobody d.outs → AskNobody (desk_turn script me run acts d i).outs
  turn-nobody d Go h = both-nobody (hears (record d.heard { gone = true }) d) h
  turn-nobody d (Hear m) h = say-nobody d h
  turn-nobody d (Take from m) h = reply-nobody d (row script (stage script run (state script me run acts d) d.heard) d.heard (news m)) h
