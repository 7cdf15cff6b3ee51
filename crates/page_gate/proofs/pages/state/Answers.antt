use Rattle.page_gate.proofs.Names.{◌≤◌, length, drop, ap, List, ℕ, sym, ◌∙◌, arith, length-drop, take_all, state_with}
use Rattle.page_gate.specs.declared.pages.Gate.{Gate}
use Rattle.page_gate.specs.declared.pages.PageState.TheVariants.{Gated}
use Rattle.page_gate.proofs.pages.state.Goals as goal

pub returns-in-Open : goal.returns-in-Open
returns-in-Open c =
    let short : length (drop 1 c.args.bytes.now) ≤ 4095 = omega (arith, length-drop 1 c.args.bytes.now, c.told-bytes) in
    ap (λ (b : List ℕ). Gated b) (c.copy_from_slice.ensures.after ∙ take_all 4095 (drop 1 c.args.bytes.now) short) ∙ ap (λ (g : Gate). state_with g (drop 1 c.args.bytes.now)) (sym c.in-Open.is)
