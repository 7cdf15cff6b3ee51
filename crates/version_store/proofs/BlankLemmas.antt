-- The pages that are left are those that are blank.
use Rattle.std.proofs.lemmas.List.Sums.{sum_by-append}
use Rattle.version_store.proofs.Names.{Image, is_blank, state_of, Blank, Log, Content, Reading, Going, Ended, Damaged, begun, next, scan, IsAtRest, PageState, Spoiled, Gated, ◌≡◌, inl, inr, ℕ, ◌+◌, ◌-◌, List, [], ◌∷◌, length, take, drop, true, false, Bool, cond, refl, sym, ◌∙◌, ap, subst, arith, length-drop, zero-add, count_by, list_all, cases_Bool, cond-true, and_parts, take-append-drop}
use Rattle.version_store.proofs.ScanLemmas.{going}

-- once ended or damaged, the reading goes on no more
abbrev Stopped : Reading → Type 0
Stopped (Going c) = ⊥
Stopped (Ended c) = Unit {0}
Stopped (Damaged page) = Unit {0}

stopped_next : (reading : Reading) (n : ℕ) (s : PageState) → Stopped reading → Stopped (next reading n s)
stopped_next (Going c) n s h = absurd h
stopped_next (Ended c) n Blank h = tt
stopped_next (Ended c) n Spoiled h = tt
stopped_next (Ended c) n (Gated body) h = tt
stopped_next (Damaged first) n s h = tt

blank_stops : (reading : Reading) (n : ℕ) → Stopped (next reading n Blank)
blank_stops (Going c) n = tt
blank_stops (Ended c) n = tt
blank_stops (Damaged first) n = tt

stopped_scan : (reading : Reading) (n : ℕ) (c : Content) (pages : Image) → Stopped reading → scan reading n pages ≡ Going c → ⊥
stopped_scan reading n c [] h is = subst (λ r. Stopped r) is h
stopped_scan reading n c (page ∷ pages) h is = stopped_scan (next reading n (state_of page)) (n + 1) c pages (stopped_next reading n (state_of page) h) is

one_if : Bool → ℕ
one_if b = cond b 1 0

zero_if : one_if false ≡ 0
unfolding one_if
zero_if = refl

once_if : one_if true ≡ 1
unfolding one_if
once_if = refl

count_first : (page : List ℕ) (pages : Image) → count_by is_blank (page ∷ pages) ≡ one_if (is_blank page) + count_by is_blank pages
unfolding one_if
count_first page pages = sum_by-append (λ (p : List ℕ). cond (is_blank p) 1 0) (page ∷ []) pages ∙ ap (λ (k : ℕ). k + count_by is_blank pages) (zero-add (cond (is_blank page) 1 0))

none_blank : (reading : Reading) (n : ℕ) (c : Content) (pages : Image) → scan reading n pages ≡ Going c → count_by is_blank pages ≡ 0
none_blank reading n c [] is = refl
none_blank reading n c (page ∷ pages) is = elim (cases_Bool (is_blank page)) [
  | inl blank ↦ absurd (stopped_scan (next reading n (state_of page)) (n + 1) c pages (subst (λ s. Stopped (next reading n s)) (sym (cond-true (is_blank page) _ _ blank)) (blank_stops reading n)) is)
  | inr other ↦
      let rest : count_by is_blank pages ≡ 0 = none_blank (next reading n (state_of page)) (n + 1) c pages is in
      let first : one_if (is_blank page) ≡ 0 = ap one_if other ∙ zero_if in
      count_first page pages ∙ omega (arith, first, rest)
]

all_blank : (pages : Image) → list_all is_blank pages ≡ true → count_by is_blank pages ≡ length pages
all_blank [] blank = refl
all_blank (page ∷ pages) blank =
    let parts = and_parts _ _ blank in
    let rest : count_by is_blank pages ≡ length pages = all_blank pages parts.1 in
    let first : one_if (is_blank page) ≡ 1 = ap one_if parts.0 ∙ once_if in
    count_first page pages ∙ omega (arith, first, rest)

pub blank_count : (log : Log) (n : ℕ) (reads : Image) (may_leave : Image → Type 0) → IsAtRest log n reads may_leave → count_by is_blank reads ≡ length reads - n
blank_count log n reads may_leave rest =
    let on = going (scan begun 0 (take n reads)) log rest.front in
    ap (λ (l : Image). count_by is_blank l) (sym (take-append-drop n reads))
    ∙ sum_by-append (λ (p : List ℕ). cond (is_blank p) 1 0) (take n reads) (drop n reads)
    ∙ omega (arith, none_blank begun 0 on.0 (take n reads) on.1, all_blank (drop n reads) rest.blank, length-drop n reads)
