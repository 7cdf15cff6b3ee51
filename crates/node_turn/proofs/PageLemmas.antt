-- An image against itself.
use Rattle.std.proofs.Common.{◌≡◌, Bool, true, ◌==◌, List, [], ℕ, Ok, drop, refl, sym, ap, ◌∙◌, if◌then◌else◌, append-nil, arith}
use Rattle.node_turn.proofs.Names.{Image, is_blank, Effect, IsIntact, slice_index, page_of, state_of}
use Rattle.node_inputs.specs.PageState.{PageState}
use Rattle.node_inputs.specs.PageState.TheVariants.{Blank, Spoiled, Gated}

blank-is : (p : List ℕ) → is_blank p ≡ true → state_of p ≡ Blank
blank-is p h = ap (λ (t : Bool). if t then Blank else if slice_index p 0 == 165 then Gated (drop 1 p) else Spoiled) h

-- no page was written
pub whole-same : (i : Image) → IsIntact i i
whole-same i = record {
  count = refl;
  keeps = λ page h. refl;
  clean = λ page h e. let z : ◌≡◌ {A = PageState} Blank Spoiled = sym (blank-is (page_of i page) h) ∙ e in cc z;
  grown = λ log is. record { more = []; ranges = tt; is = is ∙ ap (λ (l : List Effect). Ok l) (sym (append-nil log)); pages = omega arith };
}
