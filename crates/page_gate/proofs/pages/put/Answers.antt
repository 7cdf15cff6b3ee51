use Rattle.page_gate.proofs.Names.{◌≡◌, ⊎_elim, [], ◌∷◌, slice_set, ◌∙◌, subst, Image, IsImage, Written, Torn, joins, widens, MayPut}
use Rattle.page_gate.proofs.TornPages.{staged_page}
use Rattle.page_gate.proofs.Puts.{not_begun, body_torn, staged, is_staged, gated, gate_torn}
use Rattle.page_gate.proofs.pages.put.Goals as goal

pub returns-in_err-write_through-clause-any_moment : goal.returns-in_err-write_through-clause-any_moment
returns-in_err-write_through-clause-any_moment g c told =
    let m = c.args.medium.now in
    let body = c.args.body.now in
    let first = body_torn (g.M.Medium.page_count m) c.args.page body c.requires.page c.requires.most in
    widens g.M.Medium.stages m c.write_through.new.medium _ (MayPut c.args.page body (g.M.Medium.may_leave m)) (c.write_through.ensures.any_moment told)
    (λ i either. ⊎_elim (λ was. (i, was, not_begun (g.M.Medium.page_count m) c.args.page body c.requires.page c.requires.most i)) (λ torn. (torn.0, torn.1, first torn.0 i (g.met.M.Medium.shape m torn.0 told torn.1) torn.2)) either)

pub returns-in_err-write_through-2-clause-any_moment : goal.returns-in_err-write_through-2-clause-any_moment
returns-in_err-write_through-2-clause-any_moment g c told =
    let m = c.args.medium.now in
    let mid = c.write_through.new.medium in
    let end = c.write_through-2.new.medium in
    let n = g.M.Medium.page_count m in
    let r = g.M.Medium.reads m in
    let body = c.args.body.now in
    let page = c.args.page in
    let P = MayPut page body (g.M.Medium.may_leave m) in
    let shape : (i : Image) → g.M.Medium.may_leave m i → IsImage n i = λ i left. g.met.M.Medium.shape m i told left in
    let now = g.met.M.Medium.reads_now m told in
    let first = body_torn n page body c.requires.page c.requires.most in
    let begun = widens g.M.Medium.stages m mid _ P (c.write_through.ensures.any_moment told)
    (λ i either. ⊎_elim (λ was. (i, was, not_begun n page body c.requires.page c.requires.most i)) (λ torn. (torn.0, torn.1, first torn.0 i (shape torn.0 torn.1) torn.2)) either) in
    let staged_now = staged n page body c.requires.page c.requires.most r (shape r now) (g.M.Medium.reads mid) (c.requires.blank told) (c.in_ok-write_through.ensures.written told) in
    let only : (i : Image) → g.M.Medium.may_leave mid i → i ≡ slice_set r page (staged_page body) = λ i left. c.in_ok-write_through.ensures.durable told i left ∙ staged_now in
    joins g.M.Medium.stages m mid end P _ P begun (c.write_through-2.ensures.any_moment told) (λ i p. p)
    (λ i either. ⊎_elim
    (λ was. (r, now, is_staged n page body c.requires.page c.requires.most r (shape r now) i (only i was)))
    (λ torn. (r, now, gate_torn n page body c.requires.page c.requires.most r (shape r now) i (subst (λ (d : Image). Torn page 0 1 d i) (only torn.0 torn.1) torn.2))) either)

pub returns-clause-any_moment : goal.returns-clause-any_moment
returns-clause-any_moment g c told =
    let m = c.args.medium.now in
    let mid = c.write_through.new.medium in
    let end = c.write_through-2.new.medium in
    let n = g.M.Medium.page_count m in
    let r = g.M.Medium.reads m in
    let body = c.args.body.now in
    let page = c.args.page in
    let P = MayPut page body (g.M.Medium.may_leave m) in
    let shape : (i : Image) → g.M.Medium.may_leave m i → IsImage n i = λ i left. g.met.M.Medium.shape m i told left in
    let now = g.met.M.Medium.reads_now m told in
    let first = body_torn n page body c.requires.page c.requires.most in
    let begun = widens g.M.Medium.stages m mid _ P (c.write_through.ensures.any_moment told)
    (λ i either. ⊎_elim (λ was. (i, was, not_begun n page body c.requires.page c.requires.most i)) (λ torn. (torn.0, torn.1, first torn.0 i (shape torn.0 torn.1) torn.2)) either) in
    let staged_now = staged n page body c.requires.page c.requires.most r (shape r now) (g.M.Medium.reads mid) (c.requires.blank told) (c.in_ok-write_through.ensures.written told) in
    let only : (i : Image) → g.M.Medium.may_leave mid i → i ≡ slice_set r page (staged_page body) = λ i left. c.in_ok-write_through.ensures.durable told i left ∙ staged_now in
    joins g.M.Medium.stages m mid end P _ P begun (c.write_through-2.ensures.any_moment told) (λ i p. p)
    (λ i either. ⊎_elim
    (λ was. (r, now, is_staged n page body c.requires.page c.requires.most r (shape r now) i (only i was)))
    (λ torn. (r, now, gate_torn n page body c.requires.page c.requires.most r (shape r now) i (subst (λ (d : Image). Torn page 0 1 d i) (only torn.0 torn.1) torn.2))) either)

pub returns-clause-gated : goal.returns-clause-gated
returns-clause-gated g c told =
    let m = c.args.medium.now in
    let n = g.M.Medium.page_count m in
    let r = g.M.Medium.reads m in
    let body = c.args.body.now in
    let shape = g.met.M.Medium.shape m r told (g.met.M.Medium.reads_now m told) in
    let staged_now = staged n c.args.page body c.requires.page c.requires.most r shape (g.M.Medium.reads c.write_through.new.medium) (c.requires.blank told) (c.in_ok-write_through.ensures.written told) in
    gated n c.args.page body c.requires.page c.requires.most r shape (g.M.Medium.reads c.write_through-2.new.medium)
    (subst (λ (i : Image). Written c.args.page 0 (165 ∷ []) i (g.M.Medium.reads c.write_through-2.new.medium)) staged_now (c.in_ok-write_through-2.ensures.written told))
