-- The promise of a session.
use Rattle.std.specs.Prelude.{◌≡◌, ◌⊎◌, ℕ, ◌+◌, ◌-◌, ◌^◌, List, [], ◌∷◌, ◌++◌, length, Option}
use Rattle.std.specs.Io.KnownBytes.{Consumes}
use Rattle.pseudo_time.specs.Lists.{Every}
use Rattle.stream_port.specs.Causes.{Rose}
use Rattle.medium_port.specs.declared.shelves.Shelf.{Ghosts}
use Rattle.plan_form.specs.declared.plan_faults.PlanKind.{PlanKind}
use Rattle.session_form.specs.Sessions.{AreBatches, IsBatch, IsHead, IsHeadFault, IsRest, counted, lines_in}
use Rattle.command_words.specs.declared.commands.Options.{Options}
use Rattle.plan_volumes.specs.Media.{Media}
use Rattle.run_command.specs.Lines.{source_line, words_line}
use Rattle.run_command.specs.Written.{EndsIfAny, GotLine, HasNoMemory}
use Rattle.session_command.specs.Chains.{Answered, Chain, GoesOn, gravest}
use Rattle.session_command.specs.Lines.{cut_line, fault_line}
use Rattle.session_command.specs.Kept.{AreIdle}
use Rattle.session_command.specs.Texts.{AreSession, BeginsWith, IsAll, own}
use Rattle.session_command.specs.Standings.{IsStill, Standing, sunk}

-- ---- how a session ends after batches

module _ {H : Type 0} (s t : Standing H) where
  -- the input ended, after blank lines and comments at most
  pub record EndsWell (input : Option (List ℕ)) : Type 0 where
    pub rest : List ℕ
    pub ls : List (List ℕ)
    pub last : List ℕ
    pub all : IsAll input rest
    pub is : IsRest rest ls last
    pub idle : AreIdle (ls ++ last ∷ [])
    pub still : t ≡ s

  -- it ended in a batch without a `go`, when so many lines were before the batch, and the sink got the line that says so
  pub record EndsInBatch (input : Option (List ℕ)) (before status : ℕ) : Type 0 where
    pub rest : List ℕ
    pub ls : List (List ℕ)
    pub last : List ℕ
    pub all : IsAll input rest
    pub is : IsRest rest ls last
    pub some : AreIdle (ls ++ last ∷ []) → ⊥
    pub still : IsStill s t
    pub line : EndsIfAny status (sunk s t) 2 (cut_line (counted (before + (length ls + (own last + 1)))))

  -- the source failed
  pub record EndsAtSource (faults_before faults status : ℕ) : Type 0 where
    pub status_is : status ≡ 3
    pub rose : Rose faults_before faults
    pub still : IsStill s t
    pub line : GotLine (sunk s t) source_line

module _ {H M : Type 0} (g : Ghosts H M) (w : Media M) (o : Options) (repositories brokers : List ℕ) where
  -- one more batch was answered, with a status after which the session ends
  pub record EndsAfter (input : Option (List ℕ)) (before status : ℕ) (s t : Standing H) : Type 0 where
    pub front : List ℕ
    pub batch : List (List ℕ)
    pub begins : BeginsWith input front
    pub is : IsBatch front batch
    pub answered : Answered g w o repositories brokers before batch status s t
    pub last : GoesOn status → ⊥

  -- or memory ran out
  abbrev pub Stops : (input : Option (List ℕ)) → (faults_before faults before status : ℕ) → Standing H → Standing H → Type 0
  Stops input faults_before faults before status s t =
      EndsInBatch s t input before status ⊎ (EndsAtSource s t faults_before faults status ⊎ (EndsAfter input before status s t ⊎ ((status ≡ 7) × (t ≡ s))))

  -- The input begins with these batches, which were answered one after another; after each the session went on. So many lines were before the first. Then the session ended: with the input, or since no more batches could
  -- be counted, and the status is the gravest of the batches; or for another cause.
  pub record Held (input : Option (List ℕ)) (faults_before faults before : ℕ) (status : ℕ) (s t : Standing H) : Type 0 where
    pub text : List ℕ
    pub batches : List (List (List ℕ))
    pub are : AreBatches text batches
    pub ahead : Option (List ℕ)
    pub read : Consumes input ahead text
    pub statuses : List ℕ
    pub go_on : Every GoesOn statuses
    pub middle : Standing H
    pub chain : Chain g w o repositories brokers before batches statuses s middle
    pub ends : ((status ≡ gravest statuses) × (EndsWell middle t ahead ⊎ ((length batches ≡ 2 ^ 64 - 1) × (t ≡ middle))))
        ⊎ Stops ahead faults_before faults (counted (before + lines_in batches)) status middle t

-- ---- all that a call was given and gave

pub record Call (H : Type 0) : Type 0 where
  pub words : List (List ℕ)
  pub status : ℕ
  -- what the source had, and how often it had failed and has
  pub input : Option (List ℕ)
  pub faults_before : ℕ
  pub faults : ℕ
  pub before : Standing H
  pub after : Standing H

module _ {H M : Type 0} (g : Ghosts H M) (w : Media M) (c : Call H) where
  -- the words are no session, and the sink got the line that says so
  pub record HasNoWords : Type 0 where
    pub status : c.status ≡ 1
    pub none : (o : Options) → AreSession o c.words → ⊥
    pub still : IsStill c.before c.after
    pub line : GotLine (sunk c.before c.after) words_line

  -- the input doesn't begin with a session's head, and the sink got the line that says why
  pub record HasNoHead : Type 0 where
    pub text : List ℕ
    pub line : ℕ
    pub what : PlanKind
    pub begins : BeginsWith c.input text
    pub is : IsHeadFault text line what
    pub still : IsStill c.before c.after
    pub told : EndsIfAny c.status (sunk c.before c.after) 2 (fault_line line what)

  -- the source failed in the head
  pub record HasNoSource : Type 0 where
    pub status : c.status ≡ 3
    pub rose : Rose c.faults_before c.faults
    pub still : IsStill c.before c.after
    pub line : GotLine (sunk c.before c.after) source_line

  -- the input begins with a head, and the session was held over what follows
  pub record WasHeld (o : Options) : Type 0 where
    pub head : List ℕ
    pub repositories : List ℕ
    pub brokers : List ℕ
    pub is_head : IsHead head repositories brokers
    pub ahead : Option (List ℕ)
    pub read : Consumes c.input ahead head
    pub held : Held g w o repositories brokers ahead c.faults_before c.faults 3 c.status c.before c.after

  -- The words are no session; or memory ran out before anything was run or written; or they are one, and there is no head, or the session was held.
  abbrev pub Promise : Type 0
  Promise = HasNoWords ⊎ ((HasNoMemory c.status (sunk c.before c.after) × IsStill c.before c.after) ⊎ ((o : Options) × AreSession o c.words × (HasNoSource ⊎ (HasNoHead ⊎ WasHeld o))))
