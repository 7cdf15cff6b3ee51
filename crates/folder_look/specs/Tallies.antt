-- What the logs of a folder count up to.
use Rattle.std.specs.Prelude.{ℕ, ◌+◌, ◌^◌, ◌-◌, min, max, List, [], ◌∷◌}
use Rattle.effect_form.specs.declared.effects.Effect.{Effect}
use Rattle.effect_form.specs.declared.effects.Effect.TheVariants as effect
use Rattle.effect_form.specs.declared.outcomes.Outcome.{Outcome}
use Rattle.effect_form.specs.declared.outcomes.Outcome.TheVariants as outcome
use Rattle.folder_look.specs.declared.tallies.Tally.{Tally}
use Rattle.folder_look.specs.declared.looks.MediumLook.{MediumLook}

-- one more, up to what a counter holds
abbrev pub more : ℕ → ℕ
more n = min (n + 1) (2 ^ 64 - 1)

abbrev pub none : Tally
none = record { runs = 0; acts = 0; tries = 0; committed = 0; others = 0; clock = 0 }

-- with how an attempt or an act ended
abbrev pub ended : Outcome → Tally → Tally
ended outcome.Committed t = record t { committed = more t.committed }
ended (outcome.Withdrawn l) t = record t { others = more t.others }
ended (outcome.Failed l k) t = record t { others = more t.others }
ended (outcome.LaterRead o e) t = record t { others = more t.others }
ended (outcome.LaterVersion o x) t = record t { others = more t.others }
ended (outcome.Expired d m) t = record t { others = more t.others }
ended (outcome.Spent c) t = record t { others = more t.others }

-- with one more effect
abbrev pub counted : Effect → Tally → Tally
counted (effect.Run n) t = record t { runs = max t.runs n }
counted (effect.Act i h u k c x) t = record t { acts = more t.acts }
counted (effect.Try i s) t = record t { tries = more t.tries; clock = max t.clock s.clock }
counted (effect.Got k v) t = t
counted (effect.Acked k) t = t
counted (effect.End i o) t = ended o t
counted (effect.Mark at) t = t
counted effect.Whole t = t
counted (effect.Put o x v) t = t
counted (effect.Stretch o x) t = t
counted (effect.Begin s d) t = t
counted (effect.Decide s d) t = t
counted (effect.Learn s c) t = t

abbrev pub counted_all : List Effect → Tally → Tally
counted_all [] t = t
counted_all (e ∷ es) t = counted_all es (counted e t)

-- over the logs of all media
abbrev pub counted_over : List MediumLook → Tally → Tally
counted_over [] t = t
counted_over (m ∷ ms) t = counted_over ms (counted_all m.log t)

abbrev pub tally_of : List MediumLook → Tally
tally_of media = counted_over media none
