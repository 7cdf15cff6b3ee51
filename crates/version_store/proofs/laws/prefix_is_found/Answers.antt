use Rattle.version_store.proofs.Names.{Effect, Image, HasPrefix, ◌≡◌, ◌++◌, List, length, take, Result, Ok, sym, ◌∙◌, ap, arith, length-append, length-take, ℕ, storage}
use Rattle.version_store.proofs.laws.prefix_is_found.Goals as goal

ok_is : (a b : List Effect) → ◌≡◌ {A = Result (List Effect) ℕ} (Ok a) (Ok b) → a ≡ b
ok_is a b is = cc is

found_is : (log effects found : List Effect) (image : Image) → storage image ≡ Ok found → (has : HasPrefix log effects image) → found ≡ log ++ take has.kept effects
found_is log effects found image is has = ok_is found (log ++ take has.kept effects) (sym is ∙ has.is)

pub returns-clause-found : goal.returns-clause-found
returns-clause-found c = found_is

pub returns-clause-kept : goal.returns-clause-kept
returns-clause-kept c log effects found image is has =
    let size = ap (λ (l : List Effect). length l) (found_is log effects found image is has) ∙ length-append log (take has.kept effects) in
    omega (arith, size, length-take has.kept effects, has.few)
