-- The acts that a broker has begun, as far as its log was read. Acts and attempts stand newest first, answers oldest first.
use Rattle.std.specs.Prelude.{ℕ, List, [], ◌∷◌, ◌++◌, map, reverse, Option, Some, None}
use Rattle.pseudo_time.specs.StampParts.{StampParts}
use Rattle.effect_form.specs.declared.effects.Effect.{Effect}
use Rattle.effect_form.specs.declared.effects.Effect.TheVariants as effect
use Rattle.effect_form.specs.declared.outcomes.Outcome.{Outcome}
use Rattle.effect_form.specs.declared.outcomes.Outcome.TheVariants as outcome
use Rattle.script_meaning.specs.Meaning.{Answer, Got, Stored}
use Rattle.broker_core.specs.Book.{Act, Try}
use Rattle.trace_report.specs.declared.begun.BegunAct.{BegunAct}
use Rattle.trace_report.specs.declared.begun.BegunTry.{BegunTry}
use Rattle.trace_report.specs.Transcripts.{answers_of}

-- what is kept of an attempt, and of an act
pub record TryParts : Type 0 where
  pub stamp : StampParts
  pub answers : List Answer
  pub end : Option Outcome

pub record ActParts : Type 0 where
  pub index : ℕ
  pub tries : List TryParts
  pub spent : Option ℕ

-- of those in a book
abbrev pub try_parts : Try → TryParts
try_parts t = record { stamp = t.stamp; answers = t.answers; end = t.end }

abbrev pub act_parts : Act → ActParts
act_parts a = record { index = a.task.index; tries = map try_parts a.tries; spent = a.spent }

-- of those that the code keeps, which stand oldest first
abbrev pub kept_try : BegunTry → TryParts
kept_try t = record { stamp = t.stamp; answers = answers_of t.answers.items; end = t.end }

abbrev pub kept_tries : List BegunTry → List TryParts
kept_tries tries = map kept_try (reverse tries)

abbrev pub kept_act : BegunAct → ActParts
kept_act a = record { index = a.index; tries = kept_tries a.tries.items; spent = a.spent }

abbrev pub kept : List BegunAct → List ActParts
kept begun = map kept_act (reverse begun)

-- ---- what an effect that counts adds

abbrev pub on_first : (TryParts → TryParts) → List TryParts → List TryParts
on_first g [] = []
on_first g (t ∷ ts) = g t ∷ ts

-- a change of the last attempt
abbrev pub on_last : (TryParts → TryParts) → List ActParts → List ActParts
on_last g [] = []
on_last g (a ∷ acts) = record { index = a.index; tries = on_first g a.tries; spent = a.spent } ∷ acts

abbrev pub gained : Answer → TryParts → TryParts
gained x t = record { stamp = t.stamp; answers = t.answers ++ x ∷ []; end = t.end }

abbrev pub ended : Outcome → TryParts → TryParts
ended o t = record { stamp = t.stamp; answers = t.answers; end = Some o }

abbrev pub tried : StampParts → List ActParts → List ActParts
tried s [] = []
tried s (a ∷ acts) = record { index = a.index; tries = record { stamp = s; answers = []; end = None } ∷ a.tries; spent = a.spent } ∷ acts

abbrev pub spent_by : ℕ → List ActParts → List ActParts
spent_by c [] = []
spent_by c (a ∷ acts) = record { index = a.index; tries = a.tries; spent = Some c } ∷ acts

abbrev pub closed : Outcome → List ActParts → List ActParts
closed outcome.Committed acts = on_last (ended outcome.Committed) acts
closed (outcome.Withdrawn l) acts = on_last (ended (outcome.Withdrawn l)) acts
closed (outcome.Failed l k) acts = on_last (ended (outcome.Failed l k)) acts
closed (outcome.LaterRead o e) acts = on_last (ended (outcome.LaterRead o e)) acts
closed (outcome.LaterVersion o x) acts = on_last (ended (outcome.LaterVersion o x)) acts
closed (outcome.Expired d m) acts = on_last (ended (outcome.Expired d m)) acts
closed (outcome.Spent c) acts = spent_by c acts

abbrev pub entered : Effect → List ActParts → List ActParts
entered (effect.Run n) acts = []
entered (effect.Act i h t k c x) acts = record { index = i; tries = []; spent = None } ∷ acts
entered (effect.Try i s) acts = tried s acts
entered (effect.Got k v) acts = on_last (gained (Got v)) acts
entered (effect.Acked k) acts = on_last (gained Stored) acts
entered (effect.End i o) acts = closed o acts
entered (effect.Mark at) acts = acts
entered effect.Whole acts = acts
entered (effect.Put o x v) acts = acts
entered (effect.Stretch o x) acts = acts
entered (effect.Begin s d) acts = acts
entered (effect.Decide s d) acts = acts
entered (effect.Learn s c) acts = acts
