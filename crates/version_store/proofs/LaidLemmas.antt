-- The pages of a call, as they are read.
use Rattle.version_store.proofs.Names.{Every, Gated, ObjectId, Effect, Place, IsPlace, IsBack, IsWritten, IsEffect, AreEffects, effect_bytes, effect_at, size_of, length-effect_bytes, First, Middle, Last, size_some, Entry, Log, effects_of, put_object, is_object, last_put, back_of, back_in, sizes, Parcel, Shared, Alone, parcels, full_pages, pages_of, filling, joined, Heads, HeadsFit, ArePlaces, Content, content_of, Reading, Going, Sheet, piece_of, log_going, next, going_or_damaged, with_sheet, place_alone, alone, admitted, body_with, padded, place_after, entry_at, Laid, all_of, piece_bodies, laid, PagesFit, ◌≡◌, ℕ, zero, suc, ◌+◌, ◌-◌, ◌≤◌, ◌<◌, List, [], ◌∷◌, ◌++◌, length, map, take, drop, Option, Some, None, refl, sym, ◌∙◌, ap, subst, arith, inl, inr, append_assoc, length-take, length-drop, cases_Bool, cond-true, cond-false, ◌*◌, ◌/◌, option_map, flat_map, append-nil, map-append, length-map, take-append-drop, entry_on, laid_on, whole, ending, laid_in, laid_pages}
use Rattle.page_form.proofs.LogLemmas.{last_from-push, has_back, effects_of-append}
use Rattle.version_store.proofs.FillingLemmas.{FitsPage, FitsPages, filling-fits, joined-filling}
use Rattle.page_form.proofs.ParcelLemmas.{count_of, count-first, count-alone}
use Rattle.version_store.proofs.ScanLemmas.{going}
use Rattle.version_store.proofs.ReadBackLemmas.{IsLaid, page_reads, sheet_of-padded, alone_reads}
use Rattle.page_form.proofs.LayingLemmas.{all-ending, effects-laid_on, ending-more, length-ending, length-laid_on, standing, standing-ending}

-- the last places of a log are places of pages
abbrev pub LastsArePlaces : Log → Type 0
LastsArePlaces log = (object : ObjectId) (place : Place) → last_put log object ≡ Some place → IsPlace place

pub lasts_are_places : (heads : Heads) (log : Log) → HeadsFit heads log → ArePlaces heads → LastsArePlaces log
lasts_are_places heads log fits places object place is = places object place (fits object ∙ is)

lasts-push : (log : Log) (e : Entry) → IsPlace e.place → LastsArePlaces log → LastsArePlaces (log ++ e ∷ [])
lasts-push log e good lasts object place is = elim (cases_Bool (is_object (put_object e.effect) object)) [
  | inl here ↦ subst (λ (p : Place). IsPlace p) (cc (sym (cond-true (is_object (put_object e.effect) object) (Some e.place) (last_put log object) here) ∙ sym (last_from-push None log e object) ∙ is)) good
  | inr other ↦ lasts object place (sym (cond-false (is_object (put_object e.effect) object) (Some e.place) (last_put log object) other) ∙ sym (last_from-push None log e object) ∙ is)
]

back_good : (log : Log) (o : Option ObjectId) → LastsArePlaces log → IsBack (back_of log o)
back_good log None lasts = tt
back_good log (Some object) lasts = good (last_put log object) refl
  where
    good : (b : Option Place) → last_put log object ≡ b → IsBack b
    good None is = tt
    good (Some place) is = lasts object place is

back_none : (log : Log) (e : Effect) → put_object e ≡ None → back_in log e ≡ None
back_none log e is = ap (back_of log) is

-- an entry that is made has bytes
pub entry_written : (log : Log) (place : Place) (e : Effect) → LastsArePlaces log → IsEffect e → IsWritten (e, (entry_at log place e).back)
entry_written log place e lasts good = has_back e (back_in log e) good (back_good log (put_object e) lasts) (back_none log e)

-- ---- the entries of a page

-- each stands behind the one before it
laid_on-laid : (log : Log) (page size : ℕ) (es : List Effect) → LastsArePlaces log → AreEffects es → page < 1048576 → size + sizes es ≤ 4091 → IsLaid log page size (laid_on log page size es) × LastsArePlaces (log ++ laid_on log page size es)
laid_on-laid log page size [] lasts good low fits = (tt, subst LastsArePlaces (sym (append-nil log)) lasts)
laid_on-laid log page size (e ∷ es) lasts good low fits =
    let entry = entry_on log page size e in
    let some = size_some e in
    let place : IsPlace (place_after page size) = record { page = low; offset_low = omega arith; offset_high = omega (arith, some, fits) } in
    let rest = laid_on-laid (log ++ entry ∷ []) page (size + size_of e) es (lasts-push log entry place lasts) good.1 low (omega (arith, fits)) in (
      (entry_written log (place_after page size) e lasts good.0, refl, refl, rest.0),
      subst LastsArePlaces (append_assoc log (entry ∷ []) (laid_on (log ++ entry ∷ []) page (size + size_of e) es)) rest.1,
    )

-- ---- the effects of the pages

standing-laid_in : (log : Log) (page : ℕ) (p : Parcel) → map standing (laid_in log page p) ≡ pages_of p
standing-laid_in log page (Shared es) = ap (λ (l : List Effect). l ∷ []) (effects-laid_on log page 0 es)
standing-laid_in log page (Alone e) = standing-ending (entry_on log page 0 e) 1 (full_pages e) (effect_bytes (e, back_in log e))

standing-laid_pages : (log : Log) (page : ℕ) (ps : List Parcel) → map standing (laid_pages log page ps) ≡ flat_map pages_of ps
standing-laid_pages log page [] = refl
standing-laid_pages log page (p ∷ ps) =
    let rest = laid_pages (log ++ all_of (laid_in log page p)) (page + length (laid_in log page p)) ps in
    map-append standing (laid_in log page p) rest
    ∙ ap (λ (l : List (List Effect)). l ++ map standing rest) (standing-laid_in log page p)
    ∙ ap (λ (l : List (List Effect)). pages_of p ++ l) (standing-laid_pages (log ++ all_of (laid_in log page p)) (page + length (laid_in log page p)) ps)

pub standing-laid : (log : Log) (first : ℕ) (effects : List Effect) → map standing (laid log first effects) ≡ filling effects
standing-laid log first effects = standing-laid_pages log first (parcels effects)

pub effects-all_of : (pages : List Laid) → effects_of (all_of pages) ≡ joined (map standing pages)
effects-all_of [] = refl
effects-all_of (l ∷ pages) = effects_of-append l.adds (all_of pages) ∙ ap (λ (es : List Effect). effects_of l.adds ++ es) (effects-all_of pages)

-- the pages have the effects in order
pub effects-laid : (log : Log) (first : ℕ) (effects : List Effect) → effects_of (all_of (laid log first effects)) ≡ effects
effects-laid log first effects = effects-all_of (laid log first effects) ∙ ap joined (standing-laid log first effects) ∙ joined-filling effects

pub length-laid : (log : Log) (first : ℕ) (effects : List Effect) → length (laid log first effects) ≡ length (filling effects)
length-laid log first effects = sym (length-map (laid log first effects) standing) ∙ ap (λ (l : List (List Effect)). length l) (standing-laid log first effects)

-- ---- the reading goes on over each page

page_goes : (c : Content) (page : ℕ) (es : List Effect) → LastsArePlaces c.log → FitsPage es → page < 1048576 → next (Going c) page (Gated (padded (whole (laid_on c.log page 0 es)).body)) ≡ Going (content_of (c.log ++ laid_on c.log page 0 es))
page_goes c page es lasts fits low =
    let on = laid_on c.log page 0 es in
    let some = fits.some in
    let long = length-laid_on c.log page 0 es in
    ap (going_or_damaged page) (page_reads c page on (laid_on-laid c.log page 0 es lasts fits.ranges low (omega (arith, fits.most))).0 (omega (arith, some, long)) (subst (λ (l : List Effect). sizes l ≤ 4091) (sym (effects-laid_on c.log page 0 es)) fits.most))

-- a first piece, a middle one and the last
first_goes : (c : Content) (page : ℕ) (bytes : List ℕ) → length bytes ≡ 4091 → next (Going c) page (Gated (padded (body_with 1 bytes))) ≡ Going (record { log = c.log; held = Some (page, bytes) })
first_goes c page bytes size = ap (λ (o : Option Sheet). going_or_damaged page (with_sheet c page o)) (sheet_of-padded 1 First bytes (omega (arith, size)) (omega (arith, size)) (ap (λ (n : ℕ). piece_of n 1) size))

middle_goes : (log : Log) (first page : ℕ) (front bytes : List ℕ) → length bytes ≡ 4091
    → next (Going (record { log = log; held = Some (first, front) })) page (Gated (padded (body_with 2 bytes))) ≡ Going (record { log = log; held = Some (first, front ++ bytes) })
middle_goes log first page front bytes size =
    ap (λ (o : Option Sheet). going_or_damaged page (with_sheet (record { log = log; held = Some (first, front) }) page o)) (sheet_of-padded 2 Middle bytes (omega (arith, size)) (omega (arith, size)) (ap (λ (n : ℕ). piece_of n 2) size))

-- an entry that stands in pieces, the first of them on this page
pub record IsPieced (log : Log) (e : Entry) (first : ℕ) : Type 0 where
  pub written : IsWritten (e.effect, e.back)
  pub back : e.back ≡ back_in log e.effect
  pub place : e.place ≡ place_alone first

last_goes : (log : Log) (e : Entry) (first page : ℕ) (front bytes : List ℕ) → IsPieced log e first → 1 ≤ length bytes → length bytes ≤ 4091 → front ++ bytes ≡ effect_bytes (e.effect, e.back)
    → next (Going (record { log = log; held = Some (first, front) })) page (Gated (padded (body_with 3 bytes))) ≡ Going (content_of (log ++ e ∷ []))
last_goes log e first page front bytes is some most text =
    ap (λ (o : Option Sheet). going_or_damaged page (with_sheet (record { log = log; held = Some (first, front) }) page o)) (sheet_of-padded 3 Last bytes some most refl)
    ∙ ap (λ (l : List ℕ). going_or_damaged page (option_map content_of (alone (admitted log (place_alone first) (effect_at l))))) text
    ∙ ap (λ (p : Place). going_or_damaged page (option_map content_of (alone (admitted log p (effect_at (effect_bytes (e.effect, e.back))))))) (sym is.place)
    ∙ ap (λ (o : Option Log). going_or_damaged page (option_map content_of o)) (alone_reads log e is.written is.back)

rest_fit : (n : ℕ) (log : Log) (e : Entry) (first page : ℕ) (front bytes : List ℕ) (rest : List Laid) → IsPieced log e first → 4091 * n < length bytes → length bytes ≤ 4091 * n + 4091 → front ++ bytes ≡ effect_bytes (e.effect, e.back)
    → PagesFit (Going (content_of (log ++ e ∷ []))) (log ++ e ∷ []) (page + (n + 1)) rest
    → PagesFit (Going (record { log = log; held = Some (first, front) })) log page (ending e (piece_bodies 2 n bytes) ++ rest)
rest_fit zero log e first page front bytes rest is low high text behind =
    let goes = last_goes log e first page front bytes is (omega (arith, low)) (omega (arith, high)) text in
    (ap log_going goes, subst (λ r. PagesFit r (log ++ e ∷ []) (page + 1) rest) (sym goes) behind)
rest_fit (suc n) log e first page front bytes rest is low high text behind =
    let piece = take 4091 bytes in
    let after = drop 4091 bytes in
    let size : length piece ≡ 4091 = omega (arith, length-take 4091 bytes, low) in
    let left : length after ≡ length bytes - 4091 = length-drop 4091 bytes in
    let goes = middle_goes log first page front piece size in
    let joined_again : (front ++ piece) ++ after ≡ effect_bytes (e.effect, e.back) = append_assoc front piece after ∙ ap (λ (l : List ℕ). front ++ l) (take-append-drop 4091 bytes) ∙ text in
    let further : page + (suc n + 1) ≡ (page + 1) + (n + 1) = omega arith in
    let more = rest_fit n log e first (page + 1) (front ++ piece) after rest is (omega (arith, low, left)) (omega (arith, high, left)) joined_again (subst (λ (k : ℕ). PagesFit (Going (content_of (log ++ e ∷ []))) (log ++ e ∷ []) k rest) further behind) in
    subst (λ (l : List Laid). PagesFit (Going (record { log = log; held = Some (first, front) })) log page (l ++ rest)) (sym (ending-more e (body_with 2 piece) 2 n after)) (
      ap log_going goes ∙ ap (λ (l : Log). Some l) (sym (append-nil log)),
      subst (λ r. PagesFit r (log ++ []) (page + 1) (ending e (piece_bodies 2 n after) ++ rest)) (sym goes)
          (subst (λ (l : Log). PagesFit (Going (record { log = log; held = Some (first, front ++ piece) })) l (page + 1) (ending e (piece_bodies 2 n after) ++ rest)) (sym (append-nil log)) more),
    )

alone_fit : (n : ℕ) (c : Content) (e : Entry) (page : ℕ) (bytes : List ℕ) (rest : List Laid) → IsPieced c.log e page → 1 ≤ n → 4091 * n < length bytes → length bytes ≤ 4091 * n + 4091 → bytes ≡ effect_bytes (e.effect, e.back)
    → PagesFit (Going (content_of (c.log ++ e ∷ []))) (c.log ++ e ∷ []) (page + (n + 1)) rest
    → PagesFit (Going c) c.log page (ending e (piece_bodies 1 n bytes) ++ rest)
alone_fit zero c e page bytes rest is some low high text behind = absurd (omega (arith, some))
alone_fit (suc n) c e page bytes rest is some low high text behind =
    let piece = take 4091 bytes in
    let after = drop 4091 bytes in
    let size : length piece ≡ 4091 = omega (arith, length-take 4091 bytes, low) in
    let left : length after ≡ length bytes - 4091 = length-drop 4091 bytes in
    let goes = first_goes c page piece size in
    let further : page + (suc n + 1) ≡ (page + 1) + (n + 1) = omega arith in
    let more = rest_fit n c.log e page (page + 1) piece after rest is (omega (arith, low, left)) (omega (arith, high, left)) (take-append-drop 4091 bytes ∙ text) (subst (λ (k : ℕ). PagesFit (Going (content_of (c.log ++ e ∷ []))) (c.log ++ e ∷ []) k rest) further behind) in
    subst (λ (l : List Laid). PagesFit (Going c) c.log page (l ++ rest)) (sym (ending-more e (body_with 1 piece) 2 n after)) (
      ap log_going goes ∙ ap (λ (l : Log). Some l) (sym (append-nil c.log)),
      subst (λ r. PagesFit r (c.log ++ []) (page + 1) (ending e (piece_bodies 2 n after) ++ rest)) (sym goes)
          (subst (λ (l : Log). PagesFit (Going (record { log = c.log; held = Some (page, piece) })) l (page + 1) (ending e (piece_bodies 2 n after) ++ rest)) (sym (append-nil c.log)) more),
    )

-- how long the pages of a long effect are
pub full_pages-are : (e : Effect) → 4091 < size_of e → (1 ≤ full_pages e) × (4091 * full_pages e < size_of e) × (size_of e ≤ 4091 * full_pages e + 4091)
full_pages-are e long = divided (size_of e) long
  where
    divided : (n : ℕ) → 4091 < n → (1 ≤ (n - 1) / 4091) × (4091 * ((n - 1) / 4091) < n) × (n ≤ 4091 * ((n - 1) / 4091) + 4091)
    divided n long = (omega (arith, long), omega (arith, long), omega (arith, long))

pages_fit : (c : Content) (page : ℕ) (ps : List Parcel) → LastsArePlaces c.log → Every FitsPages ps → page + count_of ps ≤ 1048576 → PagesFit (Going c) c.log page (laid_pages c.log page ps)
pages_fit c page [] lasts fit room = tt
pages_fit c page (Shared es ∷ ps) lasts fit room =
    let few = count-first (Shared es) ps in
    let low : page < 1048576 = omega (arith, room, few) in
    let on = laid_on c.log page 0 es in
    let more = content_of (c.log ++ on) in
    let most = fit.0.most in
    let goes = page_goes c page es lasts fit.0 low in (
      ap log_going goes,
      subst (λ r. PagesFit r more.log (page + 1) (laid_pages (c.log ++ (on ++ [])) (page + 1) ps)) (sym goes)
          (subst (λ (l : Log). PagesFit (Going more) more.log (page + 1) (laid_pages (c.log ++ l) (page + 1) ps)) (sym (append-nil on))
          (pages_fit more (page + 1) ps (laid_on-laid c.log page 0 es lasts fit.0.ranges low (omega (arith, most))).1 fit.1 (omega (arith, room, few)))),
    )
pages_fit c page (Alone e ∷ ps) lasts fit room =
    let few = count-first (Alone e) ps in
    let own = count-alone e in
    let sized = full_pages-are e fit.0.0 in
    let low : page < 1048576 = omega (arith, room, few, own) in
    let entry = entry_on c.log page 0 e in
    let bytes = effect_bytes (e, back_in c.log e) in
    let place : IsPlace (place_after page 0) = record { page = low; offset_low = omega arith; offset_high = omega arith } in
    let length_is : length bytes ≡ size_of e = length-effect_bytes e (back_in c.log e) None in
    let pieced : IsPieced c.log entry page = record { written = entry_written c.log (place_after page 0) e lasts fit.0.1; back = refl; place = refl } in
    let more = content_of (c.log ++ entry ∷ []) in
    let behind = pages_fit more (page + (full_pages e + 1)) ps (lasts-push c.log entry place lasts) fit.1 (omega (arith, room, few, own)) in
    alone_fit (full_pages e) c entry page bytes (laid_pages (c.log ++ all_of (laid_in c.log page (Alone e))) (page + length (laid_in c.log page (Alone e))) ps) pieced sized.0 (omega (arith, sized.1, length_is)) (omega (arith, sized.2, length_is)) refl
    (subst (λ (l : Log). PagesFit (Going more) more.log (page + (full_pages e + 1)) (laid_pages (c.log ++ l) (page + length (laid_in c.log page (Alone e))) ps)) (sym (all-ending entry 1 (full_pages e) bytes))
    (subst (λ (k : ℕ). PagesFit (Going more) more.log (page + (full_pages e + 1)) (laid_pages more.log (page + k) ps)) (sym (length-ending entry 1 (full_pages e) bytes)) behind))

pub laid_fits : (reading : Reading) (log : Log) (first : ℕ) (effects : List Effect) → log_going reading ≡ Some log → LastsArePlaces log → AreEffects effects → first + length (filling effects) ≤ 1048576 → PagesFit reading log first (laid log first effects)
laid_fits reading log first effects goes lasts good room =
    let on = going reading log goes in
    subst (λ r. PagesFit r log first (laid log first effects)) (sym on.1)
    (subst (λ (l : Log). PagesFit (Going on.0) l first (laid l first effects)) on.2
    (pages_fit on.0 first (parcels effects) (subst LastsArePlaces (sym on.2) lasts) (filling-fits effects good) room))
