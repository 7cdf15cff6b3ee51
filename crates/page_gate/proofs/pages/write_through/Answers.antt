use Rattle.page_gate.proofs.Names.{◌⊎◌, inl, inr, ⊎_elim, ℕ, List, length, Image, Torn, Follows, NoMore, Stage, LeavesOnly, EitherSide, joins}
use Rattle.page_gate.proofs.pages.write_through.Goals as goal

-- a write, and then a sync, which leaves no image more
both : {M : Type 0} (stages : M → List Stage) (may_leave : M → Image → Type 0) (a b c : M) (page at n : ℕ) → LeavesOnly stages a b (EitherSide (may_leave a) (may_leave b)) → LeavesOnly stages b c (EitherSide (may_leave b) (may_leave c)) → Follows (Torn page at n) (may_leave a) (may_leave b) → NoMore (may_leave b) (may_leave c)
    → LeavesOnly stages a c (λ i. may_leave a i ⊎ ((from : Image) × may_leave a from × Torn page at n from i))
both stages may_leave a b c page at n first second torn none = joins stages a b c _ _ _ first second
    (λ i either. ⊎_elim (λ was. inl was) (λ now. inr (torn i now)) either)
    (λ i either. ⊎_elim (λ was. inr (torn i was)) (λ now. inr (torn i (none i now))) either)

pub returns-in_err-sync-clause-any_moment : goal.returns-in_err-sync-clause-any_moment
returns-in_err-sync-clause-any_moment g c told = both g.M.Medium.stages g.M.Medium.may_leave c.args.medium.now c.write.new.self c.sync.new.self c.args.page c.args.at (length c.args.bytes.now)
    (c.write.ensures.time told) (c.sync.ensures.time told) (c.write.ensures.crash told) (c.sync.ensures.crash told)

pub returns-clause-any_moment : goal.returns-clause-any_moment
returns-clause-any_moment g c told = both g.M.Medium.stages g.M.Medium.may_leave c.args.medium.now c.write.new.self c.sync.new.self c.args.page c.args.at (length c.args.bytes.now)
    (c.write.ensures.time told) (c.sync.ensures.time told) (c.write.ensures.crash told) (c.sync.ensures.crash told)
