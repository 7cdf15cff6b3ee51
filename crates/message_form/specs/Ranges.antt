-- Ranges of what a turn gives: its effects can be stored, and its messages sent.
use Rattle.std.specs.Prelude.{List}
use Rattle.pseudo_time.specs.Lists.{Every}
use Rattle.message_form.specs.Messages.{IsMessage}
use Rattle.message_form.specs.declared.turns.Out.{Out}
pub use Rattle.effect_form.specs.Effects.{IsEffect, AreEffects}

abbrev pub AreOuts : List Out → Type 0
AreOuts outs = Every (λ o. IsMessage o.message) outs
