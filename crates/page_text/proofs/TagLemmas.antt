-- A text of a log, or a number, leaves a reader of elements where it is.
use Rattle.std.proofs.Common.{◌≡◌, ℕ, ◌/◌, ◌%◌, Bool, true, false, List, [], ◌∷◌, ◌++◌, refl, ◌∙◌, ap, ◌==◌, if◌then◌else◌, arith}
use Prim.Native.Nat.{zero, suc}
use Rattle.std.specs.Fmt.{decimal, digits, digits_onto, digit_glyph}
use Rattle.std.specs.Int.{is_in_range}
use Rattle.std.specs.List.{flat_map}
use Rattle.std.proofs.lemmas.Bool.Decides.{nat_tests}
use Rattle.page_text.specs.Escapes.{hex_digit, page_text, text_byte}
use Rattle.page_text.specs.Tags.{Spot, InText, InTag, HasTagsOf, is_numeric, spot_after, spot_behind}

-- ---- one text behind another

pub spot-append : (tags : List (List ℕ)) (s : Spot) (xs ys : List ℕ) → spot_behind tags s (xs ++ ys) ≡ spot_behind tags (spot_behind tags s xs) ys
spot-append tags s [] ys = refl
spot-append tags s (x ∷ xs) ys = spot-append tags (spot_after tags s x) xs ys

-- what leaves the reader where it is may stand in front
pub through : (tags : List (List ℕ)) (s : Spot) (xs ys : List ℕ) → spot_behind tags s xs ≡ s → spot_behind tags s (xs ++ ys) ≡ spot_behind tags s ys
through tags s xs ys h = spot-append tags s xs ys ∙ ap (λ z. spot_behind tags z ys) h

pub each-through : {A : Type 0} (tags : List (List ℕ)) (f : A → List ℕ) → ((x : A) → HasTagsOf tags (f x)) → (xs : List A) → HasTagsOf tags (flat_map f xs)
each-through tags f h [] = refl
each-through tags f h (x ∷ xs) = through tags InText (f x) (flat_map f xs) (h x) ∙ each-through tags f h xs

-- ---- the text of bytes

either : (P : List ℕ → Type 0) (c : Bool) (x y : List ℕ) → (c ≡ true → P x) → (c ≡ false → P y) → P (if c then x else y)
either P true x y f g = f refl
either P false x y f g = g refl

one-stays : (tags : List (List ℕ)) (b : ℕ) → (b == 60) ≡ false → spot_behind tags InText (b ∷ []) ≡ InText
one-stays tags b h = ap (λ c. if c then InTag false [] else InText) h

two-stay : (tags : List (List ℕ)) (a b : ℕ) → (a == 60) ≡ false → (b == 60) ≡ false → spot_behind tags InText (a ∷ b ∷ []) ≡ InText
two-stay tags a b h k = ap (λ c. spot_behind tags (if c then InTag false [] else InText) (b ∷ [])) h ∙ one-stays tags b k

hex-apart : (d : ℕ) → (hex_digit d == 60) ≡ false
hex-apart d = grind (arith, nat_tests)

byte-stays : (tags : List (List ℕ)) (b : ℕ) → HasTagsOf tags (text_byte b)
byte-stays tags b =
    let P : List ℕ → Type 0 = λ t. HasTagsOf tags t in
    either P (b == 38) _ _ (λ e. refl) (λ e38.
    either P (b == 60) _ _ (λ e. refl) (λ apart.
    either P (b == 62) _ _ (λ e. refl) (λ e62.
    either P (b == 34) _ _ (λ e. refl) (λ e34.
    either P (b == 39) _ _ (λ e. refl) (λ e39.
    either P (b == 10) _ _ (λ e. one-stays tags b apart) (λ e10.
    either P (is_in_range 32 126 b) _ _ (λ e. one-stays tags b apart) (λ e.
    two-stay tags (hex_digit (b / 16)) (hex_digit (b % 16)) (hex-apart (b / 16)) (hex-apart (b % 16)))))))))

pub text-stays : (tags : List (List ℕ)) (bytes : List ℕ) → HasTagsOf tags (page_text bytes)
text-stays tags bytes = each-through tags text_byte (byte-stays tags) bytes

-- ---- numbers

abbrev AllNumeric : List ℕ → Type 0
AllNumeric [] = Unit {0}
AllNumeric (c ∷ cs) = (is_numeric c ≡ true) × AllNumeric cs

if-numeric : (b : Bool) (xs ys : List ℕ) → AllNumeric xs → AllNumeric ys → AllNumeric (if b then xs else ys)
if-numeric true xs ys f g = f
if-numeric false xs ys f g = g

glyph-numeric : (n : ℕ) → is_numeric (digit_glyph false (n % 10)) ≡ true
glyph-numeric n = grind (arith, nat_tests)

onto-numeric : (k n : ℕ) (acc : List ℕ) → AllNumeric acc → AllNumeric (digits_onto k 10 false n acc)
onto-numeric zero n acc h = h
onto-numeric (suc k) n acc h =
    let d = digit_glyph false (n % 10) in
    if-numeric (n / 10 == 0) (d ∷ acc) (digits_onto k 10 false (n / 10) (d ∷ acc)) (glyph-numeric n, h) (onto-numeric k (n / 10) (d ∷ acc) (glyph-numeric n, h))

decimal-numeric : (n : ℕ) → AllNumeric (decimal n)
unfolding digits
decimal-numeric n = onto-numeric 64 n [] tt

numeric-apart : (c : ℕ) → is_numeric c ≡ true → ((c == 60) ≡ false) × ((c == 34) ≡ false)
numeric-apart c h = (grind (arith, nat_tests), grind (arith, nat_tests))

numeric-text : (tags : List (List ℕ)) (cs : List ℕ) → AllNumeric cs → HasTagsOf tags cs
numeric-text tags [] h = refl
numeric-text tags (c ∷ cs) h = through tags InText (c ∷ []) cs (one-stays tags c (numeric-apart c h.0).0) ∙ numeric-text tags cs h.1

-- a numeric byte in quotes isn't kept
numeric-step : (tags : List (List ℕ)) (t : List ℕ) (c : ℕ) → is_numeric c ≡ true → spot_after tags (InTag true t) c ≡ InTag true t
numeric-step tags t c h =
    ap (λ b. if b then InTag false (c ∷ t) else if is_numeric c then InTag true t else InTag true (c ∷ t)) (numeric-apart c h).1
    ∙ ap (λ b. if b then InTag true t else InTag true (c ∷ t)) h

numeric-quoted : (tags : List (List ℕ)) (t cs : List ℕ) → AllNumeric cs → spot_behind tags (InTag true t) cs ≡ InTag true t
numeric-quoted tags t [] h = refl
numeric-quoted tags t (c ∷ cs) h = ap (λ s. spot_behind tags s cs) (numeric-step tags t c h.0) ∙ numeric-quoted tags t cs h.1

-- a number in a text, and in quotes
pub number-stays : (tags : List (List ℕ)) (n : ℕ) → HasTagsOf tags (decimal n)
number-stays tags n = numeric-text tags (decimal n) (decimal-numeric n)

pub number-quoted : (tags : List (List ℕ)) (t : List ℕ) (n : ℕ) → spot_behind tags (InTag true t) (decimal n) ≡ InTag true t
number-quoted tags t n = numeric-quoted tags t (decimal n) (decimal-numeric n)
