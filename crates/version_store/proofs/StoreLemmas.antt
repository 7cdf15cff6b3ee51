-- What stands of a medium between two calls, and what an append leaves.
use Rattle.version_store.proofs.Names.{Image, Stage, LeftNow, LeavesOnly, Effect, Log, effects_of, AreEffects, filling, joined, HasPrefix, KeepsPages, Heads, HeadsFit, ArePlaces, Laid, IsAtRest, HasPages, Grows, PagesFit, laid, all_of, body_of, bytes_of, begun, scan, entries, log_of, log_or_none, ◌≡◌, ℕ, zero, suc, ◌+◌, ◌≤◌, List, [], ◌∷◌, ◌++◌, length, map, take, drop, Ok, refl, sym, ◌∙◌, ap, subst, arith, length-take, append_assoc, Vec, Global, take-append-drop, take_at, widens, goes_to, effects_found}
use Rattle.version_store.specs.Settled.{IsSettled}
use Rattle.version_store.proofs.ScanLemmas.{log_at_rest}
use Rattle.page_form.proofs.LogLemmas.{effects_of-append}
use Rattle.version_store.proofs.FillingLemmas.{joined-filling}
use Rattle.page_form.proofs.LayingLemmas.{standing}
use Rattle.version_store.proofs.LaidLemmas.{standing-laid, effects-all_of, effects-laid, length-laid, laid_fits, lasts_are_places}

module _ (log : Log) (n : ℕ) (reads : Image) (may_leave : Image → Type 0) (rest : IsAtRest log n reads may_leave) where
  pub entries_here : entries reads ≡ Ok log
  entries_here = log_at_rest reads n log rest.front rest.blank

  pub log_here : log_of reads ≡ log
  log_here = ap log_or_none entries_here

  pub settled_here : IsSettled reads may_leave
  settled_here = record { only = rest.durable; log = entries_here ∙ ap (λ (l : Log). Ok l) (sym log_here) }

  pub rest_here : IsAtRest (log_of reads) n reads may_leave
  rest_here = subst (λ (l : Log). IsAtRest l n reads may_leave) (sym log_here) rest

-- ---- a prefix of the call's pages, and of its effects

map-take : {A B : Type 0} (f : A → B) (k : ℕ) (xs : List A) → map f (take k xs) ≡ take k (map f xs)
map-take f zero xs = refl
map-take f (suc k) [] = refl
map-take f (suc k) (x ∷ xs) = ap (λ l. f x ∷ l) (map-take f k xs)

joined-append : (a b : List (List Effect)) → joined (a ++ b) ≡ joined a ++ joined b
joined-append [] b = refl
joined-append (es ∷ a) b = ap (λ (l : List Effect). es ++ l) (joined-append a b) ∙ sym (append_assoc es (joined a) (joined b))

-- the effects of the first pages are the first effects
first_effects : (k : ℕ) (effects : List Effect) → joined (take k (filling effects)) ≡ take (length (joined (take k (filling effects)))) effects
first_effects k effects =
    let front = take k (filling effects) in
    let back = drop k (filling effects) in
    let whole : joined front ++ joined back ≡ effects = sym (joined-append front back) ∙ ap joined (take-append-drop k (filling effects)) ∙ joined-filling effects in
    sym (take_at (joined front) (joined back) (length (joined front)) refl) ∙ ap (λ (l : List Effect). take (length (joined front)) l) whole

few_first : (k : ℕ) (effects : List Effect) → length (joined (take k (filling effects))) ≤ length effects
few_first k effects =
    let size = length (joined (take k (filling effects))) in
    let same = ap (λ (l : List Effect). length l) (first_effects k effects) in
    omega (arith, same, length-take size effects)

pub has_prefix : (log : Log) (first : ℕ) (effects : List Effect) (image : Image) → HasPages log (laid log first effects) image → HasPrefix (effects_of log) effects image
has_prefix log first effects image has =
    let k = has.count in
    let pages = laid log first effects in
    let kept : effects_of (all_of (take k pages)) ≡ joined (take k (filling effects)) = effects-all_of (take k pages) ∙ ap joined (map-take standing k pages ∙ ap (λ (l : List (List Effect)). take k l) (standing-laid log first effects)) in
    record {
      pages = k;
      most = omega (arith, has.most, length-laid log first effects);
      kept = length (joined (take k (filling effects)));
      few = few_first k effects;
      whole = first_effects k effects;
      is = ap effects_found has.is ∙ ap (λ (l : List Effect). Ok l) (effects_of-append log (all_of (take k pages)) ∙ ap (λ (l : List Effect). effects_of log ++ l) (kept ∙ first_effects k effects));
    }

-- all of them
pub all_added : (log : Log) (first : ℕ) (effects : List Effect) (now : Log) → now ≡ log ++ all_of (laid log first effects) → effects_of now ≡ effects_of log ++ effects
all_added log first effects now is = ap effects_of is ∙ effects_of-append log (all_of (laid log first effects)) ∙ ap (λ (l : List Effect). effects_of log ++ l) (effects-laid log first effects)

module _ {M : Type 0} (stages : M → List Stage) (reads : M → Image) (may_leave : M → Image → Type 0) (old new : M) where
  -- an image that is left now
  pub images_left : (P : Image → Type 0) → ((c : Image) → may_leave new c → LeftNow (stages new) c) → LeavesOnly stages old new P → (c : Image) → may_leave new c → P c
  images_left P counts run c left = goes_to (stages old) (stages new) P run c (counts c left)

  module _ (log : Log) (first : ℕ) (effects : List Effect) (run : LeavesOnly stages old new (Grows (reads old) log (laid log first effects))) where
    pub prefix_left : LeavesOnly stages old new (HasPrefix (effects_of log) effects)
    prefix_left = widens stages old new _ _ run (λ c grows. has_prefix log first effects c grows.has)

    pub pages_kept : LeavesOnly stages old new (KeepsPages (reads old))
    pages_kept = widens stages old new _ _ run (λ c grows. grows.keeps)

  -- pages that were laid out were written, or some of them
  pub written_run : (bodies bodies' : List (Vec ℕ Global)) (heads : Heads) (log : Log) (first : ℕ) (effects : List Effect) → IsAtRest log first (reads old) (may_leave old) → HeadsFit heads log → ArePlaces heads → AreEffects effects → first + length (filling effects) ≤ 1048576
      → ((l : Log) → HeadsFit heads l → bytes_of bodies ≡ map body_of (laid l first effects)) → bodies' ≡ bodies
      → ((l : Log) (pages : List Laid) → IsAtRest l first (reads old) (may_leave old) → PagesFit (scan begun 0 (take first (reads old))) l first pages → bytes_of bodies' ≡ map body_of pages → LeavesOnly stages old new (Grows (reads old) l pages))
      → LeavesOnly stages old new (Grows (reads old) log (laid log first effects))
  written_run bodies bodies' heads log first effects rest fit places ranges room pages same run =
      run log (laid log first effects) rest (laid_fits (scan begun 0 (take first (reads old))) log first effects rest.front (lasts_are_places heads log fit places) ranges room) (ap bytes_of same ∙ pages log fit)

  pub written_rest : (bodies bodies' : List (Vec ℕ Global)) (heads : Heads) (log : Log) (first needed : ℕ) (effects : List Effect) → IsAtRest log first (reads old) (may_leave old) → HeadsFit heads log → ArePlaces heads → AreEffects effects → first + length (filling effects) ≤ 1048576
      → ((l : Log) → HeadsFit heads l → bytes_of bodies ≡ map body_of (laid l first effects)) → bodies' ≡ bodies → length bodies ≡ length (filling effects) → needed ≡ length (filling effects)
      → ((l : Log) (pages : List Laid) → IsAtRest l first (reads old) (may_leave old) → PagesFit (scan begun 0 (take first (reads old))) l first pages → bytes_of bodies' ≡ map body_of pages → IsAtRest (l ++ all_of pages) (first + length bodies') (reads new) (may_leave new))
      → IsAtRest (log ++ all_of (laid log first effects)) (first + needed) (reads new) (may_leave new)
  written_rest bodies bodies' heads log first needed effects rest fit places ranges room pages same count needed_is all =
      subst (λ (n : ℕ). IsAtRest (log ++ all_of (laid log first effects)) (first + n) (reads new) (may_leave new)) (ap (λ (l : List (Vec ℕ Global)). length l) same ∙ count ∙ sym needed_is)
      (all log (laid log first effects) rest (laid_fits (scan begun 0 (take first (reads old))) log first effects rest.front (lasts_are_places heads log fit places) ranges room) (ap bytes_of same ∙ pages log fit))
