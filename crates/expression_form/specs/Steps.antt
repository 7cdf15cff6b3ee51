-- What a step of the code gives.
use Rattle.std.specs.Prelude.{◌≡◌, List, Option, Some, None, Result, Ok, Err}
use Rattle.expression_form.specs.declared.frames.Frame.{Frame}
use Rattle.expression_form.specs.declared.frames.Mode.{Mode}
use Rattle.expression_form.specs.Machine.{State, state}

-- the next mode and stack, or none where the tokens begin no expression
abbrev pub Steps : {E : Type 0} → Option State → Result (Option Mode) E → List Frame → Type 0
Steps next (Ok (Some m)) st = next ≡ Some (state st m)
Steps next (Ok None) st = next ≡ None
Steps next (Err e) st = Unit {0}
