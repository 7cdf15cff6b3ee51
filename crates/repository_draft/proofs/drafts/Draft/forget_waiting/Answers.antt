use Rattle.repository_draft.proofs.Names.{subst, sym, ap, ◌∙◌, rules, not, filter, same_stamp, IsObject, AreHeld, the_view}
use Rattle.std.proofs.lemmas.Map.Made.{filter_same_pairs}
use Rattle.repository_draft.proofs.HeldLemmas.{every-filter, with_held}
use Rattle.repository_draft.proofs.drafts.Draft.forget_waiting.Goals as goal

pub invariant_of-self : goal.invariant_of-self
invariant_of-self c = (
  c.self.invariant.0,
  subst AreHeld (sym (filter_same_pairs _ (λ e. not (same_stamp e.1.waits c.args.stamp)) _ (λ k v b w f' t. search rules) _ _ c.retain.ensures.filtered))
      (every-filter (λ e. IsObject e.1.object) (λ e. not (same_stamp e.1.waits c.args.stamp)) c.self.inside.held.entries c.self.invariant.1),
  c.self.invariant.2,
  c.self.invariant.3,
)

pub returns : goal.returns
returns c =
    ap (λ es. with_held (the_view c.self.inside) es) (filter_same_pairs _ (λ e. not (same_stamp e.1.waits c.args.stamp)) _ (λ k v b w f' t. search rules) _ _ c.retain.ensures.filtered)
    ∙ ap (λ h. with_held h (filter (λ e. not (same_stamp e.1.waits c.args.stamp)) h.held)) c.self.view_is
