use Rattle.std.proofs.Common.{◌++◌, ◌∷◌, arith, map, reverse, refl, inl, sym, ◌∙◌, ap, subst}
use Rattle.pseudo_time.specs.Lists.{Has}
use Rattle.pseudo_time.proofs.ListLemmas.{has-right}
use Rattle.log_replay.specs.Drafts.{draft_parts, draft_try}
use Rattle.log_replay.specs.Telling.{AreDecided, left_at, told_at}
use Rattle.log_replay.specs.Tellers.{KeysIn}
use Rattle.log_replay.specs.Unfit.{stamps_of}
use Rattle.log_replay.proofs.DraftLemmas.{read-tries}
use Rattle.log_replay.proofs.TellLemmas.{drafts-are, reads-drafts, told-same}
use Rattle.log_replay.proofs.UnfitLemmas.{cause-map, next-draft, none-left, unfit-here}
use Rattle.log_replay.proofs.tells.Teller.tell_log.Goals as goal

pub loop-draft-preserved : goal.loop-draft-preserved
loop-draft-preserved c =
    let now = c.loop-draft.invariant in
    let done = now.0 in
    let d = c.in-Some.draft in
    let rest = c.pop.new.self.items in
    let next = next-draft c.loop-draft.tries.items rest done d c.in-Some.ensures.items in (
      d ∷ done,
      ap (map draft_parts) (sym next) ∙ now.1,
      c.in-Ok.ensures.commits ∙ now.2,
      λ script k ts reads knows told.
          c.in-Ok.ensures.told script k (map (draft_try script) (map draft_parts done) ++ ts) (reads d (has-right rest (d ∷ done) d (inl refl))) (subst (λ z. AreDecided k z.items) (sym now.2) knows)
          (now.3 script k ts (λ x h. reads x (subst (Has x) next h)) knows told),
      λ ss keys. c.in-Ok.ensures.keys (stamps_of (map draft_parts done) ++ ss) (now.4 ss keys),
      λ all. c.in-Ok.ensures.scripts (now.5 all),
    )

pub returns-in-Err-clause-unfit : goal.returns-in-Err-clause-unfit
returns-in-Err-clause-unfit c = λ ss keys.
    let now = c.loop-draft.invariant in
    cause-map c.args.number _ _ c.in-Err.fault (λ why. unfit-here c.args.log.now ss c.loop-draft.tries.items c.pop.new.self.items now.0 c.in-Some.draft c.in-Some.ensures.items now.1 why)
    (c.in-Err.ensures.unfit (stamps_of (map draft_parts now.0) ++ ss) (now.4 ss keys))

pub returns-clause-told : goal.returns-clause-told
returns-clause-told c = λ script k ts reads knows told.
    let now = c.loop-draft.invariant in
    let left = c.loop-draft.tries.ok in
    let none = none-left c.loop-draft.tries.items (λ low. c.in_default.ensures.variant.1 (omega (arith, low, left))) in
    let parts = ap (λ z. map draft_parts (z ++ now.0)) (sym none) ∙ now.1 in
    told-same k _ _ (told_at c.loop-draft.self.told) (left_at c.loop-draft.self.puts) (ap (λ z. z ++ ts) (drafts-are script now.0 (reverse c.args.log.now) parts))
    (now.3 script k ts (λ d h. reads-drafts script now.0 (reverse c.args.log.now) parts reads d (subst (λ z. Has d (z ++ now.0)) none h)) knows told)

pub returns-clause-scripts : goal.returns-clause-scripts
returns-clause-scripts c = c.loop-draft.invariant.5

pub returns-clause-keys : goal.returns-clause-keys
returns-clause-keys c = λ ss keys.
    let now = c.loop-draft.invariant in
    let left = c.loop-draft.tries.ok in
    let none = none-left c.loop-draft.tries.items (λ low. c.in_default.ensures.variant.1 (omega (arith, low, left))) in
    let parts = ap (λ z. map draft_parts (z ++ now.0)) (sym none) ∙ now.1 in
    subst (λ z. KeysIn (stamps_of z ++ ss) c.loop-draft.self) (parts ∙ read-tries (reverse c.args.log.now)) (now.4 ss keys)
