-- A page that was laid out reads back.
use Rattle.version_store.proofs.Names.{◌>>=◌, byte_at, number_at, between, u16_form, between_form, is_blank, Place, Written, IsWritten, effect_bytes, effect_at, size_of, length-effect_bytes, effect_cons, Entry, Log, effects_of, back_in, same_back, sizes, Content, content_of, piece_of, padded_at, new_sheet_at, sheet_of, place_before, admitted, log_at, alone, with_sheet, Piece, Whole, texts, body_with, padded, place_after, ◌≡◌, ℕ, zero, suc, ◌+◌, ◌-◌, ◌^◌, ◌≤◌, ◌<◌, List, [], ◌∷◌, ◌++◌, length, true, cond, Option, Some, None, Result, refl, sym, ◌∙◌, ap, arith, append_assoc, length-append, ◌==◌, replicate, option_map, w16, to_be_bytes, cond-true, eq-eqb, and_from, append-nil, front_again, effect_again}
use Rattle.page_form.proofs.LayingLemmas.{few_effects, length-texts}

same_back-self : (b : Option Place) → same_back b b ≡ true
same_back-self None = refl
same_back-self (Some p) = and_from (p.page == p.page) (p.offset == p.offset) (eq-eqb p.page p.page refl) (eq-eqb p.offset p.offset refl)

-- the entries stand one behind another on the page, from behind so many bytes on, and each has its back place
abbrev pub IsLaid : Log → ℕ → ℕ → Log → Type 0
IsLaid log page size [] = Unit {0}
IsLaid log page size (e ∷ es) = IsWritten (e.effect, e.back) × (e.place ≡ place_after page size) × (e.back ≡ back_in log e.effect) × IsLaid (log ++ e ∷ []) page (size + size_of e.effect) es

-- one step of the reading, where an effect's text stands at the front
log_at-step : (n : ℕ) (log : Log) (page end : ℕ) (w : Written) (rest : List ℕ) → IsWritten w → w.1 ≡ back_in log w.0
    → log_at (suc n) log page end (effect_bytes w ++ rest) ≡ log_at n (log ++ record { effect = w.0; place = place_before page end (length (effect_bytes w ++ rest)); back = w.1 } ∷ []) page end rest
log_at-step n log page end w rest good back =
    let first = effect_cons w in
    let cons : effect_bytes w ++ rest ≡ first.0 ∷ (first.1 ++ rest) = ap (λ (l : List ℕ). l ++ rest) first.2 in
    let at = place_before page end (length (effect_bytes w ++ rest)) in
    ap (λ (l : List ℕ). log_at (suc n) log page end l) cons
    ∙ ap (λ (l : List ℕ). admitted log (place_before page end (length l)) (effect_at l) >>= λ more. log_at n more.0 page end more.1) (sym cons)
    ∙ ap (λ (r : Result (Written × List ℕ) ℕ). admitted log at r >>= λ more. log_at n more.0 page end more.1) (effect_again w rest good)
    ∙ ap (λ (o : Option (Log × List ℕ)). o >>= λ more. log_at n more.0 page end more.1)
    (cond-true (same_back w.1 (back_in log w.0)) _ _ (ap (λ (b : Option Place). same_back w.1 b) (sym back) ∙ same_back-self w.1))

pub reads_back : (n : ℕ) (log : Log) (page size end : ℕ) (es : Log) → IsLaid log page size es → length es ≤ n → end ≡ 5 + size + length (texts es) → log_at n log page end (texts es) ≡ Some (log ++ es)
reads_back n log page size end [] laid few is = nothing n
  where
    nothing : (k : ℕ) → log_at k log page end [] ≡ Some (log ++ [])
    nothing zero = ap (λ (l : Log). Some l) (sym (append-nil log))
    nothing (suc k) = ap (λ (l : Log). Some l) (sym (append-nil log))
reads_back zero log page size end (e ∷ es) laid few is = absurd (omega (arith, few))
reads_back (suc n) log page size end (e ∷ es) laid few is =
    log_at-step n log page end (e.effect, e.back) (texts es) laid.0 laid.2
    ∙ ap (λ (p : Place). log_at n (log ++ record { effect = e.effect; place = p; back = e.back } ∷ []) page end (texts es)) (here ∙ sym laid.1)
    ∙ reads_back n (log ++ e ∷ []) page (size + size_of e.effect) end es laid.3 (omega (arith, few)) (is ∙ behind)
    ∙ ap (λ (l : Log). Some l) (append_assoc log (e ∷ []) es)
  where
    long : length (texts (e ∷ es)) ≡ size_of e.effect + length (texts es)
    long = length-append (effect_bytes (e.effect, e.back)) (texts es) ∙ ap (λ (n : ℕ). n + length (texts es)) (length-effect_bytes e.effect e.back None)

    behind : 5 + size + length (texts (e ∷ es)) ≡ 5 + (size + size_of e.effect) + length (texts es)
    behind = omega (arith, long)

    here : place_before page end (length (texts (e ∷ es))) ≡ place_after page size
    here = ap (λ (o : ℕ). record { page = page; offset = o }) (offset (length (texts (e ∷ es))) is)
      where
        offset : (k : ℕ) → end ≡ 5 + size + k → end - k ≡ 5 + size
        offset k at = omega (arith, at)

zeros : (n : ℕ) → is_blank (replicate n 0) ≡ true
zeros zero = refl
zeros (suc n) = zeros n

-- the outer form of a page
padded_reads : (bytes tail : List ℕ) → is_blank tail ≡ true → padded_at (length bytes) (bytes ++ tail) ≡ Some bytes
unfolding padded_at
padded_reads bytes tail blank = ap (λ (o : Option (List ℕ × List ℕ)). o >>= λ texts. cond (is_blank texts.1) (Some texts.0) None) (front_again bytes tail) ∙ cond-true (is_blank tail) _ _ blank

pub sheet_of-padded : (mark : ℕ) (piece : Piece) (bytes : List ℕ) → 1 ≤ length bytes → length bytes ≤ 4091 → piece_of (length bytes) mark ≡ Some piece → sheet_of (padded (body_with mark bytes)) ≡ Some (piece, 5, bytes)
unfolding sheet_of new_sheet_at
sheet_of-padded mark piece bytes some most is =
    let small : length bytes < 2 ^ 16 = omega (arith, most) in
    let tail = replicate (4095 - length (body_with mark bytes)) 0 in
    let size : (between 1 4091 (number_at w16 (to_be_bytes w16 (length bytes) ++ (mark ∷ (bytes ++ tail))))) ≡ Some (length bytes, mark ∷ (bytes ++ tail)) = (between_form 1 4091 u16_form).again (length bytes) (mark ∷ (bytes ++ tail)) (small, some, most) in
    ap (λ (o : Option (ℕ × List ℕ)). o >>= λ size. byte_at size.1 >>= λ m. piece_of size.0 m.0 >>= λ p. padded_at size.0 m.1 >>= λ t. Some (p, 5, t)) size
    ∙ ap (λ (o : Option Piece). o >>= λ p. padded_at (length bytes) (bytes ++ tail) >>= λ t. Some (p, 5, t)) is
    ∙ ap (λ (o : Option (List ℕ)). o >>= λ t. Some (piece, 5, t)) (padded_reads bytes tail (zeros (4095 - length (body_with mark bytes))))

-- a page with these entries
pub page_reads : (c : Content) (page : ℕ) (es : Log) → IsLaid c.log page 0 es → 1 ≤ length es → sizes (effects_of es) ≤ 4091 → with_sheet c page (sheet_of (padded (body_with 0 (texts es)))) ≡ Some (content_of (c.log ++ es))
page_reads c page es laid some most =
    let all = length-texts es in
    let few = few_effects es in
    ap (λ o. with_sheet c page o) (sheet_of-padded 0 Whole (texts es) (omega (arith, some, few)) (omega (arith, all, most)) refl)
    ∙ ap (λ (o : Option Log). option_map content_of o) (reads_back (length (texts es)) c.log page 0 (5 + length (texts es)) es laid few (omega arith))

-- an effect that was laid out reads back where it stands alone
pub alone_reads : (log : Log) (e : Entry) → IsWritten (e.effect, e.back) → e.back ≡ back_in log e.effect → alone (admitted log e.place (effect_at (effect_bytes (e.effect, e.back)))) ≡ Some (log ++ e ∷ [])
alone_reads log e good back =
    ap (λ (l : List ℕ). alone (admitted log e.place (effect_at l))) (sym (append-nil (effect_bytes (e.effect, e.back))))
    ∙ ap (λ (r : Result (Written × List ℕ) ℕ). alone (admitted log e.place r)) (effect_again (e.effect, e.back) [] good)
    ∙ ap alone (cond-true (same_back e.back (back_in log e.effect)) _ _ (ap (λ (b : Option Place). same_back e.back b) (sym back) ∙ same_back-self e.back))
