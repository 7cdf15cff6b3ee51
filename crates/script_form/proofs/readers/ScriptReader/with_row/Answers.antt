use Rattle.script_form.proofs.Names.{◌≡◌, ◌+◌, ◌-◌, ◌≤◌, ap, ◌∙◌, sym, subst, SomeIff, Err, Fed, on, row_of, FeedsLine}
use Rattle.script_form.proofs.FeedLemmas.{placed_feeds, block_feeds, size_with_row}
use Rattle.script_form.proofs.readers.ScriptReader.with_row.Goals as goal

pub returns-in-Ok : goal.returns-in-Ok
returns-in-Ok c before line h is deep =
    let old = c.args.self in
    let e : old.size + c.saturating_sub.result + c.in_ok-bytes.bytes + 1 ≡ size_with_row old (row_of c.args.row)
    = ap (λ z. old.size + z + c.in_ok-bytes.bytes + 1) c.saturating_sub.ensures ∙ ap (λ z. old.size + (old.lines + 1 - old.next) + z + 1) c.in_ok-bytes.ensures in
    placed_feeds before line old h (row_of c.args.row) is c.in-Ok.builder c.grown-size.result c.placed.result deep c.in-Ok.ensures
    (subst (λ z. SomeIff c.grown-size.result (z ≤ 3900) z) e c.grown-size.ensures) c.placed.ensures

pub returns-in-Err-Block : goal.returns-in-Err-Block
returns-in-Err-Block c before line h is deep =
    let none = subst (λ z. Fed c.args.self.builder (on (c.args.self.lines + 1) (row_of c.args.row)) (Err z)) c.in-Err-Block.field-0-is c.in-Err-Block.ensures in
    subst (λ z. FeedsLine c.args.self.greatest before line (Err z)) (sym c.fault.ensures) (block_feeds before line c.args.self h (row_of c.args.row) is none)
