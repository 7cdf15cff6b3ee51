use Rattle.node_turn.proofs.Names.{knows, Crashes, ◌≡◌, ◌-◌, ℕ, subst, arith, OnOk}
use Rattle.node_turn.proofs.FallLemmas.{looked-none}
use Rattle.node_turn.proofs.falls.note_crash.Goals as goal

pub returns-in-Err-clause-err : goal.returns-in-Err-clause-err
returns-in-Err-clause-err g c = looked-none (knows c.args.pass) c.requires.pass.own

pub crash-pass-requires-clause-kept : goal.crash-pass-requires-clause-kept
crash-pass-requires-clause-kept g c = λ told.
    let e : c.in-Ok.kept ≡ c.args.found - c.args.durable = (let r = c.in-Ok.ensures.1 in omega (arith, r, c.saturating_sub-kept.ensures)) in
    let m = c.requires.kept told in
    omega (arith, e, m)

pub returns-in-Ok-clause-ok : goal.returns-in-Ok-clause-ok
returns-in-Ok-clause-ok g c =
    let e : c.in-Ok.kept ≡ c.args.found - c.args.durable = (let r = c.in-Ok.ensures.1 in omega (arith, r, c.saturating_sub-kept.ensures)) in
    subst (λ (i : ℕ). OnOk c.crash-pass.result.1 (Crashes g.M.Medium.tells c.args.node (knows c.args.pass) (knows c.crash-pass.result.0) i)) e c.crash-pass.ensures.ok
