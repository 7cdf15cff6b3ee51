-- Pages over two runs of turns.
use Rattle.node_rounds.proofs.Names.{◌≡◌, ◌≢◌, ◌∙◌, Bool, true, false, List, ◌++◌, ℕ, Ok, refl, sym, ap, subst, append_assoc, arith, Image, page_of, every-append}
use Rattle.page_gate.specs.States.{is_blank, state_of}
use Rattle.page_gate.specs.declared.pages.PageState.TheVariants.{Spoiled}
use Rattle.effect_form.specs.declared.effects.Effect.{Effect}
use Rattle.effect_form.specs.Effects.{IsEffect}
use Rattle.version_store.specs.Filling.{KeepsPages, StaysClean}
use Rattle.version_store.proofs.FillingLemmas.{apart-append}
use Rattle.broker_node.specs.Cores.{HasGrown, IsIntact}

-- pages that each run keeps
keeps-joins : (a b c : Image) → KeepsPages a b → KeepsPages b c → KeepsPages a c
keeps-joins a b c first second page marked = second page (ap is_blank (first page marked) ∙ marked) ∙ first page marked

-- a page that was blank is still so, or the first run wrote it
clean-joins : (a b c : Image) → StaysClean a b → KeepsPages b c → StaysClean b c → StaysClean a c
clean-joins a b c first kept second page blank = by-page (is_blank (page_of b page)) refl
  where
    by-page : (t : Bool) → is_blank (page_of b page) ≡ t → state_of (page_of c page) ≢ Spoiled
    by-page true still = second page still
    by-page false marked = subst (λ (p : List ℕ). state_of p ≢ Spoiled) (sym (kept page marked)) (first page blank)

-- what both runs added
grown-joins : (a b c : Image) (log : List Effect) (first : HasGrown log a b) → HasGrown (log ++ first.more) b c → HasGrown log a c
grown-joins a b c log first second =
    let both = apart-append first.more second.more in
    let one = first.pages in
    let other = second.pages in
    record {
      more = first.more ++ second.more;
      ranges = every-append IsEffect first.more second.more first.ranges second.ranges;
      is = second.is ∙ ap (λ (l : List Effect). Ok l) (append_assoc log first.more second.more);
      pages = omega (arith, one, other, both);
    }

pub intact-joins : (a b c : Image) → IsIntact a b → IsIntact b c → IsIntact a c
intact-joins a b c first second = record {
  count = second.count ∙ first.count;
  keeps = keeps-joins a b c first.keeps second.keeps;
  clean = clean-joins a b c first.clean second.keeps second.clean;
  grown = λ log is. let more = first.grown log is in grown-joins a b c log more (second.grown (log ++ more.more) more.is);
}
