-- Effects fill no more pages than each of them alone may.
use Rattle.run_command.proofs.Names.{reverse-append, Every, Effect, pages_apart, filled_by, ◌≡◌, ◌+◌, ◌≤◌, ◌∙◌, ◌++◌, nat_le, ℕ, List, [], ◌∷◌, reverse, refl, ap, sym, subst, arith, zero-add, cond-true, full_pages, own_pages, most_filled, own-most}
use Rattle.effect_form.specs.declared.effects.Effect.TheVariants as effect
use Rattle.effect_form.specs.Effects.{IsEffect, size_of}

own-filled : (e : Effect) → IsEffect e → own_pages e ≤ most_filled e
own-filled (effect.Run number) good = subst (λ (n : ℕ). n ≤ 1) (sym (cond-true (nat_le (size_of (effect.Run number)) 4091) 1 (full_pages (effect.Run number) + 1) refl)) (omega arith)
own-filled (effect.Put object start value) good = own-most (effect.Put object start value) good
own-filled (effect.Stretch object end) good = own-most (effect.Stretch object end) good
own-filled (effect.Begin stamp deadline) good = own-most (effect.Begin stamp deadline) good
own-filled (effect.Decide stamp decision) good = own-most (effect.Decide stamp decision) good
own-filled (effect.Learn stamp committed) good = own-most (effect.Learn stamp committed) good
own-filled (effect.Act index home timeout tries clock script) good = own-most (effect.Act index home timeout tries clock script) good
own-filled (effect.Try index stamp) good = own-most (effect.Try index stamp) good
own-filled (effect.Got step value) good = own-most (effect.Got step value) good
own-filled (effect.Acked step) good = own-most (effect.Acked step) good
own-filled (effect.End index outcome) good = own-most (effect.End index outcome) good
own-filled (effect.Mark at) good = own-most (effect.Mark at) good
own-filled effect.Whole good = own-most effect.Whole good

pub apart-filled : (es : List Effect) → Every IsEffect es → pages_apart es ≤ filled_by es
apart-filled [] good = omega arith
apart-filled (e ∷ es) good = let one = own-filled e good.0 in let rest = apart-filled es good.1 in omega (arith, one, rest)

pub filled-append : (a b : List Effect) → filled_by (a ++ b) ≡ filled_by a + filled_by b
filled-append [] b = sym (zero-add (filled_by b))
filled-append (e ∷ a) b = let rest = filled-append a b in omega (arith, rest)

pub filled-reverse : (es : List Effect) → filled_by (reverse es) ≡ filled_by es
filled-reverse [] = refl
filled-reverse (e ∷ es) =
    let rest = filled-reverse es in
    let joined : filled_by (reverse (e ∷ es)) ≡ filled_by (reverse es) + filled_by (e ∷ []) = ap filled_by (reverse-append (e ∷ []) es) ∙ filled-append (reverse es) (e ∷ []) in
    omega (arith, rest, joined)
