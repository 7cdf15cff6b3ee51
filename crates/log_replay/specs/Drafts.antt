-- The tries of a broker's log, as far as it was read. Tries stand newest first, answers oldest first.
use Rattle.std.specs.Prelude.{ℕ, Bool, true, false, List, [], ◌∷◌, ◌++◌, map, reverse, Option, Some, None, if◌then◌else◌}
use Rattle.pseudo_time.specs.StampParts.{StampParts}
use Rattle.effect_form.specs.declared.effects.Effect.{Effect}
use Rattle.effect_form.specs.declared.effects.Effect.TheVariants as effect
use Rattle.effect_form.specs.declared.outcomes.Outcome.{Outcome}
use Rattle.effect_form.specs.declared.outcomes.Outcome.TheVariants as outcome
use Rattle.script_meaning.specs.Meaning.{Answer, Got, Stored}
use Rattle.serial_model.specs.Questions.{Tree}
use Rattle.broker_core.specs.Book as books
use Rattle.world_core.specs.Deeds.{Try}
use Rattle.script_replay.specs.Attempts.{answers_of}
use Rattle.log_replay.specs.declared.drafts.Draft.{Draft}
use Rattle.log_replay.specs.declared.drafts.Drafts.{Drafts}

-- a try, with the text of its script
pub record DraftParts : Type 0 where
  pub stamp : StampParts
  pub text : List ℕ
  pub answers : List Answer
  pub ended : Option Outcome

-- how far a log was read: the text of the last act of its run, whether that has a try, and all tries
pub record ReadParts : Type 0 where
  pub text : Option (List ℕ)
  pub live : Bool
  pub tries : List DraftParts

abbrev pub nothing_read : ReadParts
nothing_read = record { text = None; live = false; tries = [] }

-- of a try in a book
abbrev pub try_parts : books.Try → DraftParts
try_parts t = record { stamp = t.stamp; text = t.task.script; answers = t.answers; ended = t.end }

-- of those that the code keeps, which stand oldest first
abbrev pub draft_parts : Draft → DraftParts
draft_parts d = record { stamp = d.stamp; text = d.text; answers = answers_of d.replies.items; ended = d.ended }

abbrev pub read_parts : Drafts → ReadParts
read_parts d = record { text = d.text; live = d.live; tries = map draft_parts (reverse d.tries.items) }

-- a try as the run has it
abbrev pub draft_try : (List ℕ → Tree) → DraftParts → Try
draft_try script d = record { stamp = d.stamp; script = script d.text; answers = d.answers; ended = d.ended }

-- ---- what an effect adds

-- a change of the last try
abbrev pub on_last : (DraftParts → DraftParts) → List DraftParts → List DraftParts
on_last g [] = []
on_last g (t ∷ ts) = g t ∷ ts

abbrev pub if_live : (DraftParts → DraftParts) → ReadParts → ReadParts
if_live g r = if r.live then record { text = r.text; live = r.live; tries = on_last g r.tries } else r

abbrev pub gained : Answer → DraftParts → DraftParts
gained x t = record { stamp = t.stamp; text = t.text; answers = t.answers ++ x ∷ []; ended = t.ended }

abbrev pub finished : Outcome → DraftParts → DraftParts
finished o t = record { stamp = t.stamp; text = t.text; answers = t.answers; ended = Some o }

abbrev pub tried : StampParts → Option (List ℕ) → ReadParts → ReadParts
tried s None r = r
tried s (Some x) r = record { text = r.text; live = true; tries = record { stamp = s; text = x; answers = []; ended = None } ∷ r.tries }

-- an End Spent is that of an act
abbrev pub closed : Outcome → ReadParts → ReadParts
closed outcome.Committed r = if_live (finished outcome.Committed) r
closed (outcome.Withdrawn l) r = if_live (finished (outcome.Withdrawn l)) r
closed (outcome.Failed l k) r = if_live (finished (outcome.Failed l k)) r
closed (outcome.LaterRead o e) r = if_live (finished (outcome.LaterRead o e)) r
closed (outcome.LaterVersion o x) r = if_live (finished (outcome.LaterVersion o x)) r
closed (outcome.Expired d m) r = if_live (finished (outcome.Expired d m)) r
closed (outcome.Spent c) r = r

abbrev pub entered : Effect → ReadParts → ReadParts
entered (effect.Run n) r = record { text = None; live = false; tries = r.tries }
entered (effect.Act i h t k c x) r = record { text = Some x; live = false; tries = r.tries }
entered (effect.Try i s) r = tried s r.text r
entered (effect.Got k v) r = if_live (gained (Got v)) r
entered (effect.Acked k) r = if_live (gained Stored) r
entered (effect.End i o) r = closed o r
entered (effect.Mark at) r = r
entered effect.Whole r = r
entered (effect.Put o x v) r = r
entered (effect.Stretch o x) r = r
entered (effect.Begin s d) r = r
entered (effect.Decide s d) r = r
entered (effect.Learn s c) r = r

-- a log, newest effect first
abbrev pub read_off : List Effect → ReadParts
read_off [] = nothing_read
read_off (f ∷ log) = entered f (read_off log)
