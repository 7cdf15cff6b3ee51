-- A look through a header, and the reading of what it finds, one version after another.
use Rattle.object_header.proofs.Names.{TimeParts, lt, top, Settled, Limit, Span, Look, HeadParts, within, is_living, is_firm, read_up_to, look, marked, current, with_version, AreAlike, ◌≡◌, ℕ, zero, suc, ◌+◌, ◌-◌, ◌≤◌, ◌<◌, Bool, true, false, List, [], ◌∷◌, ◌++◌, length, reverse, take, drop, refl, sym, ◌∙◌, ap, Option, Some, None, slice_set, slice_index_or, arith, if◌then◌else◌, push, reverse-append, append_assoc, take-append-drop, take_all}
use Rattle.object_header.specs.declared.heads.Look.TheVariants as found
use Rattle.object_header.proofs.SpanLemmas.{looked, mark, firm-living, current-cons}

-- ---- looking

reverse-push : (ss : List Span) (s : Span) → reverse (push ss s) ≡ s ∷ reverse ss
reverse-push ss s = reverse-append ss (s ∷ [])

look_cons : (settled : Settled) (l : Limit) (s : Span) (ss : List Span) (b w c : Bool) → is_living settled s.start ≡ b → within l s.start ≡ w → is_firm settled s.start ≡ c → look settled l (s ∷ ss) ≡ looked b w c s (look settled l ss)
unfolding look
look_cons settled l s ss b w c living inside firm =
    ap (λ z. looked z (within l s.start) (is_firm settled s.start) s (look settled l ss)) living ∙ ap (λ z. looked b z (is_firm settled s.start) s (look settled l ss)) inside ∙ ap (λ z. looked b w z s (look settled l ss)) firm

pub look-step : (settled : Settled) (l : Limit) (b w c : Bool) (s : Span) (rest left : List Span) (all : Look) → rest ≡ push left s → is_living settled s.start ≡ b → within l s.start ≡ w → is_firm settled s.start ≡ c →
    look settled l (reverse rest) ≡ all → looked b w c s (look settled l (reverse left)) ≡ all
look-step settled l b w c s rest left all is living inside firm all_is =
    sym (look_cons settled l s (reverse left) b w c living inside firm) ∙ ap (look settled l) (sym (ap reverse is ∙ reverse-push left s)) ∙ all_is

pub look-done : (settled : Settled) (l : Limit) (rest : List Span) (all : Look) → length rest ≡ 0 → look settled l (reverse rest) ≡ all → found.Origin ≡ all
unfolding look
look-done settled l [] all none is = is
look-done settled l (s ∷ rest) all none is = absurd (omega (arith, none))

-- ---- reading

take-last : (xs : List Span) (i : ℕ) (d : Span) → i < length xs → reverse (take (i + 1) xs) ≡ slice_index_or xs i d ∷ reverse (take i xs)
take-last [] i d low = absurd (omega (arith, low))
take-last (x ∷ xs) zero d low = refl
take-last (x ∷ xs) (suc i) d low =
    ap (λ n. reverse (take n (x ∷ xs))) (shift i) ∙ reverse-append (x ∷ []) (take (i + 1) xs) ∙ ap (λ zs. zs ++ x ∷ []) (take-last xs i d (omega (arith, low))) ∙ ap (λ zs. slice_index_or xs i d ∷ zs) (sym (reverse-append (x ∷ []) (take i xs)))
  where
    shift : (n : ℕ) → suc n + 1 ≡ suc (n + 1)
    shift n = omega arith

drop-first : (xs : List Span) (i : ℕ) (d : Span) → i < length xs → drop i xs ≡ slice_index_or xs i d ∷ drop (i + 1) xs
drop-first [] i d low = absurd (omega (arith, low))
drop-first (x ∷ xs) zero d low = refl
drop-first (x ∷ xs) (suc i) d low = drop-first xs i d (omega (arith, low)) ∙ ap (λ n. slice_index_or xs i d ∷ drop n (x ∷ xs)) (shift i)
  where
    shift : (n : ℕ) → suc (n + 1) ≡ suc n + 1
    shift n = omega arith

set-split : (xs : List Span) (i : ℕ) (w : Span) → i < length xs → reverse (slice_set xs i w) ≡ reverse (drop (i + 1) xs) ++ w ∷ reverse (take i xs)
set-split [] i w low = absurd (omega (arith, low))
set-split (x ∷ xs) zero w low = reverse-append (w ∷ []) xs
set-split (x ∷ xs) (suc i) w low =
    reverse-append (x ∷ []) (slice_set xs i w) ∙ ap (λ zs. zs ++ x ∷ []) (set-split xs i w (omega (arith, low))) ∙ append_assoc (reverse (drop (i + 1) xs)) (w ∷ reverse (take i xs)) (x ∷ [])
    ∙ ap (λ zs. reverse (drop (i + 1) xs) ++ w ∷ zs) (sym (reverse-append (x ∷ []) (take i xs))) ∙ ap (λ n. reverse (drop n (x ∷ xs)) ++ w ∷ reverse (x ∷ take i xs)) (shift i)
  where
    shift : (n : ℕ) → suc (n + 1) ≡ suc n + 1
    shift n = omega arith

marked_cons : (settled : Settled) (x : TimeParts) (s : Span) (ss : List Span) (b d c : Bool) → is_living settled s.start ≡ b → lt s.start x ≡ d → is_firm settled s.start ≡ c → marked settled x (s ∷ ss) ≡ mark b d c s (read_up_to x s) ss (marked settled x ss)
unfolding marked
marked_cons settled x s ss b d c living low firm =
    ap (λ z. mark z (lt s.start x) (is_firm settled s.start) s (read_up_to x s) ss (marked settled x ss)) living
    ∙ ap (λ z. mark b z (is_firm settled s.start) s (read_up_to x s) ss (marked settled x ss)) low ∙ ap (λ z. mark b d z s (read_up_to x s) ss (marked settled x ss)) firm

module _ (settled : Settled) (x : TimeParts) (xs : List Span) where
  -- the versions that were passed, and what is made of the others
  abbrev pub so_far : ℕ → List Span
  so_far k = reverse (drop k xs) ++ marked settled x (reverse (take k xs))

  at_one : (i : ℕ) (d : Span) (b w c : Bool) → i < length xs → is_living settled (slice_index_or xs i d).start ≡ b → lt (slice_index_or xs i d).start x ≡ w → is_firm settled (slice_index_or xs i d).start ≡ c →
      so_far (i + 1) ≡ reverse (drop (i + 1) xs) ++ mark b w c (slice_index_or xs i d) (read_up_to x (slice_index_or xs i d)) (reverse (take i xs)) (marked settled x (reverse (take i xs)))
  at_one i d b w c low living is firm =
      ap (λ zs. reverse (drop (i + 1) xs) ++ marked settled x zs) (take-last xs i d low) ∙ ap (λ zs. reverse (drop (i + 1) xs) ++ zs) (marked_cons settled x (slice_index_or xs i d) (reverse (take i xs)) b w c living is firm)

  over_one : (i : ℕ) (d : Span) (zs : List Span) → i < length xs → reverse (drop (i + 1) xs) ++ slice_index_or xs i d ∷ zs ≡ reverse (drop i xs) ++ zs
  over_one i d zs low =
      sym (append_assoc (reverse (drop (i + 1) xs)) (slice_index_or xs i d ∷ []) zs) ∙ ap (λ ys. ys ++ zs) (sym (ap reverse (drop-first xs i d low) ∙ reverse-append (slice_index_or xs i d ∷ []) (drop (i + 1) xs)))

  pub mark-none : so_far 0 ≡ reverse xs
  unfolding marked
  mark-none = append_none (reverse xs)
    where
      append_none : (ys : List Span) → ys ++ [] ≡ ys
      append_none [] = refl
      append_none (y ∷ ys) = ap (λ zs. y ∷ zs) (append_none ys)

  -- a version that is passed over, that ends the walk, or that is read
  pub mark-over : (i : ℕ) (d : Span) (all : List Span) → i < length xs → is_living settled (slice_index_or xs i d).start ≡ false → so_far (i + 1) ≡ all → so_far i ≡ all
  mark-over i d all low living is =
      sym (over_one i d (marked settled x (reverse (take i xs))) low) ∙ sym (at_one i d false (lt (slice_index_or xs i d).start x) (is_firm settled (slice_index_or xs i d).start) low living refl refl) ∙ is

  pub mark-past : (i : ℕ) (d : Span) (all : List Span) → i < length xs → is_living settled (slice_index_or xs i d).start ≡ true → lt (slice_index_or xs i d).start x ≡ false → is_firm settled (slice_index_or xs i d).start ≡ false → so_far (i + 1) ≡ all → so_far i ≡ all
  mark-past i d all low living above firm is = sym (over_one i d (marked settled x (reverse (take i xs))) low) ∙ sym (at_one i d true false false low living above firm) ∙ is

  pub mark-firm : (i : ℕ) (d : Span) (all : List Span) → i < length xs → is_living settled (slice_index_or xs i d).start ≡ true → lt (slice_index_or xs i d).start x ≡ false → is_firm settled (slice_index_or xs i d).start ≡ true → so_far (i + 1) ≡ all → reverse xs ≡ all
  mark-firm i d all low living above firm is =
      ap reverse (sym (whole xs i d low)) ∙ reverse-append (take i xs) (slice_index_or xs i d ∷ drop (i + 1) xs) ∙ ap (λ zs. zs ++ reverse (take i xs)) (reverse-append (slice_index_or xs i d ∷ []) (drop (i + 1) xs))
      ∙ append_assoc (reverse (drop (i + 1) xs)) (slice_index_or xs i d ∷ []) (reverse (take i xs)) ∙ sym (at_one i d true false true low living above firm) ∙ is
    where
      whole : (ys : List Span) (k : ℕ) (e : Span) → k < length ys → take k ys ++ slice_index_or ys k e ∷ drop (k + 1) ys ≡ ys
      whole ys k e less = ap (λ zs. take k ys ++ zs) (sym (drop-first ys k e less)) ∙ take-append-drop k ys

  pub mark-here : (i : ℕ) (d w : Span) (all : List Span) → i < length xs → is_living settled (slice_index_or xs i d).start ≡ true → lt (slice_index_or xs i d).start x ≡ true → w ≡ read_up_to x (slice_index_or xs i d) → so_far (i + 1) ≡ all → reverse (slice_set xs i w) ≡ all
  mark-here i d w all low living below is all_is =
      set-split xs i w low ∙ ap (λ z. reverse (drop (i + 1) xs) ++ z ∷ reverse (take i xs)) is ∙ sym (at_one i d true true (is_firm settled (slice_index_or xs i d).start) low living below refl) ∙ all_is

  -- as the code goes: the version before `left`
  below_one : (left : ℕ) → 0 < left → left - 1 + 1 ≡ left
  below_one left some = omega (arith, some)

  module _ (left : ℕ) (s : Span) (all : List Span) (some : 0 < left) (most : left ≤ length xs) (at : s ≡ slice_index_or xs (left - 1) s) (so : so_far left ≡ all) where
    so_one : so_far (left - 1 + 1) ≡ all
    so_one = ap so_far (below_one left some) ∙ so

    low : left - 1 < length xs
    low = omega (arith, some, most)

    pub over-code : is_living settled s.start ≡ false → so_far (left - 1) ≡ all
    over-code living = mark-over (left - 1) s all low (ap (λ z. is_living settled z.start) (sym at) ∙ living) so_one

    pub past-code : is_living settled s.start ≡ true → lt s.start x ≡ false → is_firm settled s.start ≡ false → so_far (left - 1) ≡ all
    past-code living above firm = mark-past (left - 1) s all low (ap (λ z. is_living settled z.start) (sym at) ∙ living) (ap (λ z. lt z.start x) (sym at) ∙ above) (ap (λ z. is_firm settled z.start) (sym at) ∙ firm) so_one

    pub firm-code : is_living settled s.start ≡ true → lt s.start x ≡ false → is_firm settled s.start ≡ true → reverse xs ≡ all
    firm-code living above firm = mark-firm (left - 1) s all low (ap (λ z. is_living settled z.start) (sym at) ∙ living) (ap (λ z. lt z.start x) (sym at) ∙ above) (ap (λ z. is_firm settled z.start) (sym at) ∙ firm) so_one

    pub here-code : (held other : Span) (end : TimeParts) → held ≡ slice_index_or xs (left - 1) held → other ≡ slice_index_or xs (left - 1) other → Some end ≡ top x other.end → is_living settled s.start ≡ true → lt s.start x ≡ true →
        reverse (slice_set xs (left - 1) (record { start = held.start; end = Some end })) ≡ all
    here-code held other end held_at other_at later living below =
        mark-here (left - 1) s (record { start = held.start; end = Some end }) all low (ap (λ z. is_living settled z.start) (sym at) ∙ living) (ap (λ z. lt z.start x) (sym at) ∙ below)
        (ap (λ z. record { start = z.start; end = Some end }) (one held held_at) ∙ ap (λ e. record { start = (slice_index_or xs (left - 1) s).start; end = e }) (later ∙ ap (λ z. top x z.end) (one other other_at)))
        so_one
      where
        any : (zs : List Span) (p : ℕ) (d e : Span) → p < length zs → slice_index_or zs p d ≡ slice_index_or zs p e
        any [] p d e h = absurd (omega (arith, h))
        any (z ∷ zs) zero d e h = refl
        any (z ∷ zs) (suc p) d e h = any zs p d e (omega (arith, h))

        one : (z : Span) → z ≡ slice_index_or xs (left - 1) z → z ≡ slice_index_or xs (left - 1) s
        one z is = is ∙ any xs (left - 1) z s low

abbrev head : Bool → Option TimeParts → List Span → HeadParts
head odd origin spans = record { odd = odd; origin = origin; spans = spans }

-- a header with these versions is the old one, read so far
pub head-code : (settled : Settled) (x : TimeParts) (odd was : Bool) (origin first : Option TimeParts) (zs ys : List Span) (old : HeadParts) → odd ≡ was → origin ≡ first → head was first (reverse ys) ≡ old → zs ≡ marked settled x (reverse ys) →
    head odd origin zs ≡ head old.odd old.origin (marked settled x old.spans)
head-code settled x odd was origin first zs ys old same_odd same view is =
    ap (λ b. head b origin zs) same_odd ∙ ap (λ o. head was o zs) same ∙ ap (head was first) is ∙ ap (λ (h : HeadParts). head h.odd h.origin (marked settled x h.spans)) view

-- ---- what is let go

current_dead : (settled : Settled) (s : Span) (ss : List Span) → is_living settled s.start ≡ false → current settled (s ∷ ss) ≡ current settled ss
unfolding current
current_dead settled s ss dead = ap (λ b. if b then s ∷ (if is_firm settled s.start then [] else current settled ss) else current settled ss) dead

current_firm : (settled : Settled) (s : Span) (ss : List Span) → is_firm settled s.start ≡ true → current settled (s ∷ ss) ≡ s ∷ []
unfolding current
current_firm settled s ss firm =
    ap (λ b. if b then s ∷ (if is_firm settled s.start then [] else current settled ss) else current settled ss) (firm-living settled s.start firm) ∙ ap (λ b. s ∷ (if b then [] else current settled ss)) firm

pub drop-code : (settled : Settled) (xs : List Span) (left : ℕ) (s : Span) (all : List Span) → 0 < left → left ≤ length xs → s ≡ slice_index_or xs (left - 1) s → is_living settled s.start ≡ false → current settled (reverse (take left xs)) ≡ all → current settled (reverse (take (left - 1) xs)) ≡ all
drop-code settled xs left s all some most at dead is =
    sym (ap (λ n. current settled (reverse (take n xs))) (one left some) ∙ ap (current settled) (take-last xs (left - 1) s (omega (arith, some, most))) ∙ current_dead settled (slice_index_or xs (left - 1) s) (reverse (take (left - 1) xs)) (ap (λ z. is_living settled z.start) (sym at) ∙ dead)) ∙ is
  where
    one : (n : ℕ) → 0 < n → n ≡ n - 1 + 1
    one n h = omega (arith, h)

-- one version alone, where it covers the others
pub cover-code : (settled : Settled) (xs ys : List Span) (count : ℕ) (s : Span) → 1 < count → count ≡ length xs → s ≡ slice_index_or xs (count - 1) s → is_firm settled s.start ≡ true → ys ≡ take 1 (slice_set xs 0 s) → current settled (reverse ys) ≡ current settled (reverse xs)
cover-code settled xs ys count s more long at firm is =
    ap (λ z. current settled (reverse z)) (is ∙ alone xs (omega (arith, more, long))) ∙ current_firm settled s [] firm
    ∙ sym (ap (λ zs. current settled (reverse zs)) (sym (take_all count xs (omega (arith, long))))
    ∙ ap (λ n. current settled (reverse (take n xs))) (one count more) ∙ ap (current settled) (take-last xs (count - 1) s (omega (arith, more, long)) ∙ ap (λ z. z ∷ reverse (take (count - 1) xs)) (sym at))
    ∙ current_firm settled s (reverse (take (count - 1) xs)) firm)
  where
    alone : (zs : List Span) → 0 < length zs → take 1 (slice_set zs 0 s) ≡ s ∷ []
    alone [] h = absurd (omega (arith, h))
    alone (z ∷ zs) h = refl

    one : (n : ℕ) → 1 < n → n ≡ n - 1 + 1
    one n h = omega (arith, h)

pub alike-code : (settled : Settled) (odd was : Bool) (origin first : Option TimeParts) (ys xs : List Span) (old : HeadParts) → odd ≡ was → origin ≡ first → head was first (reverse xs) ≡ old → current settled (reverse ys) ≡ current settled (reverse xs) → AreAlike settled (head odd origin (reverse ys)) old
alike-code settled odd was origin first ys xs old same_odd same view is = record {
  odd = same_odd ∙ ap (λ (h : HeadParts). h.odd) view;
  origin = same ∙ ap (λ (h : HeadParts). h.origin) view;
  spans = is ∙ ap (λ (h : HeadParts). current settled h.spans) view;
}

pub add-code : (settled : Settled) (x : TimeParts) (odd : Bool) (origin : Option TimeParts) (ys xs : List Span) (second first old : HeadParts) → head odd origin (reverse xs) ≡ second → AreAlike settled second first → AreAlike settled first old → ys ≡ xs ++ record { start = x; end = None } ∷ [] →
    AreAlike settled (head odd origin (reverse ys)) (with_version x old)
add-code settled x odd origin ys xs second first old view a b pushed = record {
  odd = ap (λ (h : HeadParts). h.odd) view ∙ a.odd ∙ b.odd;
  origin = ap (λ (h : HeadParts). h.origin) view ∙ a.origin ∙ b.origin;
  spans = ap (λ zs. current settled (reverse zs)) pushed ∙ ap (current settled) (reverse-append xs (record { start = x; end = None } ∷ []))
      ∙ current-cons settled (record { start = x; end = None }) (reverse xs) old.spans (ap (λ (h : HeadParts). current settled h.spans) view ∙ a.spans ∙ b.spans);
}
