use Rattle.repository_draft.proofs.Names.{ap, ◌∙◌, rules, not, filter, same_stamp, the_view}
use Rattle.std.proofs.lemmas.Fn.{filter_same}
use Rattle.repository_draft.proofs.HeldLemmas.{with_askers}
use Rattle.repository_draft.proofs.drafts.Draft.forget_asking.Goals as goal

pub returns : goal.returns
returns c =
    ap (λ es. with_askers (the_view c.self.inside) es) (filter_same _ (λ a. not (same_stamp a.stamp c.args.stamp)) _ (λ x b f' t. search rules) _ _ c.retain.ensures.filtered)
    ∙ ap (λ h. with_askers h (filter (λ a. not (same_stamp a.stamp c.args.stamp)) h.askers)) c.self.view_is
