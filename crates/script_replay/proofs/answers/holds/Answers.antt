use Rattle.std.proofs.Common.{ap, sym, ◌∙◌}
use Rattle.std.specs.Prelude.{option_copied}
use Rattle.script_replay.proofs.WorkLemmas.{has-below, has-none, has-write}
use Rattle.script_replay.proofs.answers.holds.Goals as goal

pub returns-in-Some : goal.returns-in-Some
returns-in-Some c =
    let is = has-write c.args.writes.now c.args.map.now c.args.object c.in-Some.held.now (sym c.get.ensures ∙ ap option_copied c.in-Some.is) in
    (λ t. c.is_value.ensures.0 t ∙ is, λ e. c.is_value.ensures.1 (e ∙ sym is))

pub returns-in-Some-get : goal.returns-in-Some-get
returns-in-Some-get c =
    let is = has-below c.args.writes.now c.args.map.now c.args.object c.in-Some-get.held.now (sym c.get.ensures ∙ ap option_copied c.in-None.is) (sym c.get-in-None.ensures ∙ ap option_copied c.in-Some-get.is) in
    (λ t. c.is_value-in-Some-get.ensures.0 t ∙ is, λ e. c.is_value-in-Some-get.ensures.1 (e ∙ sym is))

pub returns-in-None-get : goal.returns-in-None-get
returns-in-None-get c =
    let is = has-none c.args.writes.now c.args.map.now c.args.object (sym c.get.ensures ∙ ap option_copied c.in-None.is) (sym c.get-in-None.ensures ∙ ap option_copied c.in-None-get.is) in
    (λ t. c.is_value-in-None-get.ensures.0 t ∙ is, λ e. c.is_value-in-None-get.ensures.1 (e ∙ sym is))
