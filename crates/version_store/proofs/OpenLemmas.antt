-- How an opening goes on from page to page.
use Rattle.std.proofs.lemmas.List.Folds.{list_all-append}
use Rattle.version_store.proofs.Names.{Image, Only, is_blank, state_of, PageState, Blank, Spoiled, Gated, Effect, Content, content_of, Reading, log_going, Going, Ended, Damaged, begun, next, scan, going_or_damaged, with_sheet, sheet_of, IsAtRest, Heads, IsFound, HeldFit, Reached, reading_of, Held, ◌==◌, ◌≡◌, ℕ, ◌+◌, ◌<◌, List, [], ◌∷◌, length, get_or, take, drop, Bool, true, false, cond, Option, Some, None, refl, sym, ◌∙◌, ap, arith, inl, inr, length-take, list_all, cases_Bool, and_from, cond-true, cond-false, take_more, take_all, drop_all, drop-append-le}
use Rattle.version_store.proofs.ScanLemmas.{scan_more}

blank_from_state : (p : List ℕ) → state_of p ≡ Blank → is_blank p ≡ true
blank_from_state p is = elim (cases_Bool (is_blank p)) [
  | inl all_zero ↦ all_zero
  | inr some_set ↦ elim (cases_Bool (get_or p 0 0 == 165)) [
    | inl gate ↦ absurd (cc (sym is ∙ cond-false (is_blank p) _ _ some_set ∙ cond-true (get_or p 0 0 == 165) _ _ gate))
    | inr other ↦ absurd (cc (sym is ∙ cond-false (is_blank p) _ _ some_set ∙ cond-false (get_or p 0 0 == 165) _ _ other))
  ]
]

not_ended : (page : ℕ) (o : Option Content) (c : Content) → going_or_damaged page o ≡ Ended c → ⊥
not_ended page None c is = cc is
not_ended page (Some l) c is = cc is

-- the content that a reading has
abbrev pub content_in : Reading → Content
content_in (Going c) = c
content_in (Ended c) = c
content_in (Damaged page) = content_of []

-- only a blank page leaves the reading ended
ended_blank : (ended : Bool) (c c' : Content) (page : ℕ) (s : PageState) → next (reading_of ended c) page s ≡ Ended c' → (s ≡ Blank) × (c ≡ c')
ended_blank false c c' page Blank is = (refl, ap content_in is)
ended_blank true c c' page Blank is = (refl, ap content_in is)
ended_blank false c c' page Spoiled is = absurd (cc is)
ended_blank true c c' page Spoiled is = absurd (cc is)
ended_blank false c c' page (Gated body) is = absurd (not_ended page (with_sheet c page (sheet_of body)) c' is)
ended_blank true c c' page (Gated body) is = absurd (cc is)

pub reached_more : (reads : Image) (page : ℕ) (heads heads' : Heads) (effects effects' : List Effect) (held held' : Option Held) (n n' : ℕ) (ended ended' : Bool) → page < length reads → (was : Reached reads page heads effects held n ended)
    → (more : Content) × (next (reading_of ended was.content) page (state_of (get_or reads page [])) ≡ reading_of ended' more) × IsFound heads' effects' more.log × HeldFit held' more.held → n' ≡ cond ended' n (page + 1) → Reached reads (page + 1) heads' effects' held' n' ended'
reached_more reads page heads heads' effects effects' held held' n n' ended false within was more is =
    let reading = scan_more reads page within ∙ ap (λ r. next r page (state_of (get_or reads page []))) was.reading ∙ more.1 in
    record {
      content = more.0;
      stands = more.2;
      pieces = more.3;
      front = ap (λ (k : ℕ). scan begun 0 (take k reads)) is ∙ reading;
      reading = reading;
      blank = ap (λ (k : ℕ). list_all is_blank (drop k (take (page + 1) reads))) is ∙ ap (λ (l : Image). list_all is_blank l) (drop_all (page + 1) (take (page + 1) reads) (omega (arith, length-take (page + 1) reads)));
      within = omega (arith, is);
    }
reached_more reads page heads heads' effects effects' held held' n n' ended true within was more is =
    let p = get_or reads page [] in
    let blank_page = ended_blank ended was.content more.0 page (state_of p) more.1 in
    let long : length (take page reads) ≡ page = omega (arith, length-take page reads, within) in
    record {
      content = more.0;
      stands = more.2;
      pieces = more.3;
      front = ap (λ (k : ℕ). scan begun 0 (take k reads)) is ∙ was.front ∙ ap (λ (c : Content). Going c) blank_page.1;
      reading = scan_more reads page within ∙ ap (λ r. next r page (state_of p)) was.reading ∙ more.1;
      blank =
          ap (λ (k : ℕ). list_all is_blank (drop k (take (page + 1) reads))) is
          ∙ ap (λ (l : Image). list_all is_blank (drop n l)) (take_more reads page [] within)
          ∙ ap (λ (l : Image). list_all is_blank l) (drop-append-le n (take page reads) (p ∷ []) (omega (arith, long, was.within)))
          ∙ list_all-append is_blank (drop n (take page reads)) (p ∷ [])
          ∙ and_from _ _ was.blank (and_from _ _ (blank_from_state p blank_page.0) refl);
      within = omega (arith, is, was.within);
    }

-- all pages were read
pub rest_of : (reads : Image) (pages : ℕ) (heads : Heads) (effects : List Effect) (held : Option Held) (n : ℕ) (ended : Bool) (may_leave : Image → Type 0) → length reads ≡ pages → (r : Reached reads pages heads effects held n ended) → Only reads may_leave → IsAtRest r.content.log n reads may_leave
rest_of reads pages heads effects held n ended may_leave size r only = record {
  front = ap log_going r.front;
  blank = ap (λ (l : Image). list_all is_blank (drop n l)) (sym (take_all pages reads (omega (arith, size)))) ∙ r.blank;
  durable = only;
}
