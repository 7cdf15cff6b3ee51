use Rattle.forward_copy.proofs.Names.{ap, sym, subst, ◌≡◌, ◌∙◌, false, List, reverse, Effect, between, stays, sifted, has_whole}
use Rattle.effect_form.specs.Effects.{AreEffects, IsEffect}
use Rattle.forward_copy.proofs.RefusalLemmas.{dropped-is, first-told, kept-is, may-retire}
use Rattle.forward_copy.proofs.SiftLemmas.{every-reverse, forward-between, none-whole, sifted-every}
use Rattle.forward_copy.proofs.forwards.forward.Goals as goal

pub returns-in-Some-first_open-clause-undecided : goal.returns-in-Some-first_open-clause-undecided
returns-in-Some-first_open-clause-undecided c = λ o x told.
    first-told (reverse c.args.log.now) c.args.mark c.in_ok-settles.settles c.in-Some-first_open.version o x c.in_ok-settles.ensures c.in_default.ensures.new
    (sym c.first_open.ensures ∙ c.in-Some-first_open.is) told

pub returns-clause-may : goal.returns-clause-may
returns-clause-may c = may-retire (reverse c.args.log.now) c.args.mark c.in_ok-settles.settles c.in_ok-settles.ensures c.requires c.in_default.ensures.new (sym c.first_open.ensures ∙ c.in_default-first_open.is)

pub returns-clause-kept : goal.returns-clause-kept
returns-clause-kept c =
    ap (between c.args.mark) (kept-is (reverse c.args.log.now) c.args.mark c.in_ok-settles.settles c.in_ok-firms.firms c.in_ok-forward.forward.kept.items c.in_ok-settles.ensures c.in_ok-firms.ensures c.in_ok-forward.ensures.kept)
    ∙ forward-between c.args.log.now c.args.mark

pub returns-clause-dropped : goal.returns-clause-dropped
returns-clause-dropped c =
    dropped-is (reverse c.args.log.now) c.args.mark c.in_ok-settles.settles c.in_ok-firms.firms c.in_ok-forward.forward.dropped.items c.in_ok-settles.ensures c.in_ok-firms.ensures c.in_ok-forward.ensures.dropped

pub returns-clause-in_range : goal.returns-clause-in_range
returns-clause-in_range c = λ ranges.
    let l = reverse c.args.log.now in
    subst AreEffects (sym (kept-is l c.args.mark c.in_ok-settles.settles c.in_ok-firms.firms c.in_ok-forward.forward.kept.items c.in_ok-settles.ensures c.in_ok-firms.ensures c.in_ok-forward.ensures.kept))
    (every-reverse IsEffect (sifted (stays l c.args.mark) l) (sifted-every IsEffect (stays l c.args.mark) l (every-reverse IsEffect c.args.log.now ranges)))

pub returns-clause-no_whole : goal.returns-clause-no_whole
returns-clause-no_whole c =
    let l = reverse c.args.log.now in
    subst (λ (k : List Effect). has_whole k ≡ false)
    (sym (kept-is l c.args.mark c.in_ok-settles.settles c.in_ok-firms.firms c.in_ok-forward.forward.kept.items c.in_ok-settles.ensures c.in_ok-firms.ensures c.in_ok-forward.ensures.kept))
    (none-whole l c.args.mark l)
