-- A blank image has an empty log, and all of its pages are blank.
use Rattle.run_media.proofs.Names.{◌≡◌, ◌+◌, ◌≤◌, ◌∙◌, ◌==◌, ℕ, suc, Bool, true, List, [], ◌∷◌, Ok, drop, length, refl, ap, arith, if◌then◌else◌, cond, slice_index, slice_index_or, count_by, sum_by-cons}
use Rattle.std.proofs.lemmas.Bool.{eq-eqb}
use Rattle.medium_port.specs.Image.{Image, IsBlankImage, page_of}
use Rattle.page_gate.specs.States.{is_blank, state_of}
use Rattle.page_gate.specs.declared.pages.PageState.{PageState}
use Rattle.page_gate.specs.declared.pages.PageState.TheVariants.{Blank, Spoiled, Gated}
use Rattle.broker_core.proofs.SoundLemmas.{and-both}
use Rattle.version_store.specs.Storage.{Content, Reading, Ended, begun, content_of, effects_found, finish, next, scan, storage}

state-blank : (p : List ℕ) → is_blank p ≡ true → state_of p ≡ Blank
state-blank p e = ap (λ (t : Bool). if t then Blank else if slice_index p 0 == 165 then Gated (drop 1 p) else Spoiled) e

blank-all : (page : List ℕ) → ((at : ℕ) → slice_index_or page at 0 ≡ 0) → is_blank page ≡ true
blank-all [] h = refl
blank-all (b ∷ page) h = and-both (eq-eqb b 0 (h 0)) (blank-all page (λ at. h (suc at)))

blank-more : (p : List ℕ) (pages : Image) → count_by is_blank (p ∷ pages) ≡ cond (is_blank p) 1 0 + count_by is_blank pages
blank-more p pages = sum_by-cons (λ (q : List ℕ). cond (is_blank q) 1 0) p pages

-- all pages of a blank image are blank
pub blank-count : (image : Image) → IsBlankImage image → length image ≤ count_by is_blank image
blank-count [] h = omega arith
blank-count (p ∷ image) h =
    let rest = blank-count image (λ page at. h (suc page) at) in
    let one = blank-more p image ∙ ap (λ (t : Bool). cond t 1 0 + count_by is_blank image) (blank-all p (h 0)) in
    omega (arith, rest, one)

ended-blank : (n : ℕ) (c : Content) (pages : Image) → ((page at : ℕ) → slice_index_or (page_of pages page) at 0 ≡ 0) → scan (Ended c) n pages ≡ Ended c
ended-blank n c [] h = refl
ended-blank n c (p ∷ pages) h = ap (λ (s : PageState). scan (next (Ended c) n s) (n + 1) pages) (state-blank p (blank-all p (h 0))) ∙ ended-blank (n + 1) c pages (λ page at. h (suc page) at)

-- a blank image has an empty log
pub blank-none : (image : Image) → IsBlankImage image → storage image ≡ Ok []
blank-none [] h = refl
blank-none (p ∷ image) h =
    ap (λ (r : Reading). effects_found (finish r)) (ap (λ (s : PageState). scan (next begun 0 s) 1 image) (state-blank p (blank-all p (h 0))) ∙ ended-blank 1 (content_of []) image (λ page at. h (suc page) at))
