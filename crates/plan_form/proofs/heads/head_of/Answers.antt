use Rattle.plan_form.proofs.Names.{◌∷◌, refl, sym, ap, ◌∙◌, subst, Err, lines, title, run_line, ReadsHead}
use Rattle.plan_form.proofs.heads.head_of.Goals as goal

pub returns-in_default-next_number : goal.returns-in_default-next_number
returns-in_default-next_number c =
    subst (λ z. ReadsHead c.args.bytes.now (Err z)) (sym c.fault-in_default-next_number.ensures)
    (refl, lines c.in-Some.rest.now, c.in-Some.ensures.0, c.in_default-next_number.ensures)

pub returns-in_default-next_number-2 : goal.returns-in_default-next_number-2
returns-in_default-next_number-2 c =
    let run = c.in-Some-next_number.ensures in
    subst (λ z. ReadsHead c.args.bytes.now (Err z)) (sym c.fault-in_default-next_number-2.ensures)
    (refl, c.in-Some-next_number.run', run.0, lines c.in-Some-next_number.rest.now, c.in-Some.ensures.0 ∙ ap (λ z. title ∷ z) run.1, c.in_default-next_number-2.ensures)

pub returns-in_default-next_number-3 : goal.returns-in_default-next_number-3
returns-in_default-next_number-3 c =
    let run = c.in-Some-next_number.ensures in
    let repositories = c.in-Some-next_number-2.ensures in
    subst (λ z. ReadsHead c.args.bytes.now (Err z)) (sym c.fault-in_default-next_number-3.ensures) (
      refl,
      c.in-Some-next_number.run',
      c.in-Some-next_number-2.repositories,
      run.0,
      repositories.0,
      lines c.in-Some-next_number-2.rest.now,
      c.in-Some.ensures.0 ∙ ap (λ z. title ∷ z) run.1 ∙ ap (λ z. title ∷ run_line c.in-Some-next_number.run' ∷ z) repositories.1,
      c.in_default-next_number-3.ensures,
    )
