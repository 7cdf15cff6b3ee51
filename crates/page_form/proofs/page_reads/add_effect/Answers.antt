use Rattle.page_form.proofs.Names.{◌≡◌, ◌-◌, ℕ, List, length, take, drop, Ok, sym, ◌∙◌, ap, arith, effect_at}
use Rattle.page_form.proofs.ReadLemmas.{rest_is, admits}
use Rattle.page_form.proofs.page_reads.add_effect.Goals as goal

pub returns-in_ok-push-in-Ok-clause-found : goal.returns-in_ok-push-in-Ok-clause-found
returns-in_ok-push-in-Ok-clause-found c log was =
    let read = c.in-Ok.ensures.exact in
    let bytes = c.args.bytes.now in
    let noted = c.in_ok-last-in-Ok.ensures in
    let is : effect_at bytes ≡ Ok ((c.in-Ok.effect, c.in-Ok.back), take (length bytes - c.in-Ok.count) (drop c.in-Ok.count bytes)) =
    read.1 ∙ ap (λ (r : List ℕ). Ok ((c.in-Ok.effect, c.in-Ok.back), r)) (rest_is bytes read.0 (c.in-Ok.effect, c.in-Ok.back) c.in-Ok.count (λ i. omega (arith, c.type_inv.bytes i)) read.1 read.2) in
    admits log c.args.place bytes c.in-Ok.effect c.in-Ok.back c.in_ok-last-in-Ok.last (effect_at bytes) _ is (noted.back log was.heads_fit) c.args.heads.now c.note.new.heads c.args.effects.now.items c.push.new.self.items was
    (sym c.is_same.ensures ∙ c.if-not-is_same.false) (noted.heads log was.heads_fit) c.in_ok-push-in-Ok.ensures.items
