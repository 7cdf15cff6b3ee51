use Rattle.seat_lock.proofs.Names.{rules, arith, ◌≡◌, ◌≤◌, ℕ, List, [], ◌∷◌, replicate, refl, ap, sym, ◌∙◌, subst, common_steps, opening, meaning, Kept, total, same, founder}
use Rattle.seat_lock.proofs.Sums.{zeros, three_more}
use Rattle.seat_lock.proofs.SplitJoin.{founds}
use Rattle.seat_lock.proofs.Apart.{at_most_once}
use Rattle.seat_lock.proofs.openings.SeatLock+T.found.Goals as goal

pub new-requires : goal.new-requires
new-requires g c =
    let T = g.row.T.Denot in let m = meaning g.T.Storied.story g.T.Storied.stands g.T.Storied.owner g.T.Storied.may_hold in
    let b = c.of.result in let names = c.in-Ok.names.items in let n = c.args.words in
    let board : c.as_slice.result.now ≡ 0 ∷ 0 ∷ 0 ∷ replicate n 0 = c.as_slice.ensures.value ∙ (c.in-Ok-from_elem.ensures.items_if_clones_equal (λ y e. search rules) ∙ three_more n) in
    let slots : c.push_reserved.new.self.items ≡ b.value ∷ [] = first_of (search rules, grind (arith, common_steps)) in
    let owners : names ≡ c.args.owners.now = search rules in
    let differ : (o : ℕ) → total (same o) names ≤ 1 = subst (λ (l : List ℕ). (o : ℕ) → total (same o) l ≤ 1) (sym owners) (at_most_once c.args.owners.now c.requires.owners.1) in
    let stands : g.T.Storied.stands b.value b.value = subst (λ (x : T). g.T.Storied.stands x x) (sym c.of.ensures) c.requires.state.0 in
    let empty : g.T.Storied.story b.value ≡ [] = ap g.T.Storied.story c.of.ensures ∙ c.requires.state.1 in
    let P : List ℕ × List T → Type 0 = λ z. Kept m b.value names (opening z.0 z.1 (founder b names)) in
    subst P (λ i. (sym board i, sym slots i)) (founds m b.value names b refl (replicate n 0) (zeros n) g.T.Storied.none_held (first_of (search rules, grind (arith, common_steps))) differ stands empty)

pub returns-in-Ok-new-clause-seat : goal.returns-in-Ok-new-clause-seat
returns-in-Ok-new-clause-seat g c =
    let made = c.in-Ok-new.ensures.ok in let b = c.of.result in let owners : c.in-Ok.names.items ≡ c.args.owners.now = search rules in
    (made.2, (b, c.of.ensures, made.4 ∙ ap (λ l. (founder b l, [])) owners))
