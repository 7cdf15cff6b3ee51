-- What holds of the text of each byte holds of the text of bytes.
use Rattle.std.proofs.Common.{◌≡◌, ℕ, ◌<◌, Bool, true, false, List, [], ◌∷◌, ◌++◌, append_assoc, refl, sym, ◌∙◌, ap, ◌==◌, ◌&&◌, if◌then◌else◌, arith, subst}
use Prim.Native.Nat.{zero, suc}
use Rattle.std.specs.List.{flat_map, list_all}
use Rattle.std.proofs.lemmas.Bool.Decides.{nat_tests}
use Rattle.std.proofs.lemmas.List.Folds.{list_all-append}
use Rattle.page_text.specs.Escapes.{AreBytes, Stage, AtByte, AtHash, AtTens, AtOnes, AtEnd, AtX, AtHigh, AtLow, attribute_byte, bytes_ended, has_references, is_inside, is_reference, read_back, read_from, stage_after, text_byte}

-- ---- both of two tests

both : (a b : Bool) → (a && b) ≡ true → (a ≡ true) × (b ≡ true)
both true b e = (refl, e)
both false b e = absurd (cc)

and_true : (a b : Bool) → a ≡ true → b ≡ true → (a && b) ≡ true
and_true a b e f = rw (e, f) refl

-- ---- a test of each number below another

abbrev pub each_below : (ℕ → Bool) → ℕ → Bool
each_below p zero = true
each_below p (suc n) = p n && each_below p n

at_suc : (p : ℕ → Bool) (n b : ℕ) (same : Bool) → (b == n) ≡ same → p n ≡ true → (b < n → p b ≡ true) → b < suc n → p b ≡ true
at_suc p n b true e h f low = let is : b ≡ n = grind (arith, nat_tests) in subst (λ k. p k ≡ true) (sym is) h
at_suc p n b false e h f low = f (grind (arith, nat_tests))

pub at_each : (p : ℕ → Bool) (n b : ℕ) → each_below p n ≡ true → b < n → p b ≡ true
at_each p zero b t low = absurd (omega arith)
at_each p (suc n) b t low =
    let t' = both (p n) (each_below p n) t in
    at_suc p n b (b == n) refl t'.0 (λ k. at_each p n b t'.1 k) low

-- ---- references

reference-front : (xs ys : List ℕ) → is_reference xs ≡ true → is_reference (xs ++ ys) ≡ true
reference-front [] ys e = absurd (cc)
reference-front (h ∷ []) ys e = absurd (cc)
reference-front (h ∷ t ∷ []) ys e = absurd (cc)
reference-front (h ∷ t ∷ o ∷ []) ys e = absurd (cc)
reference-front (h ∷ t ∷ o ∷ s ∷ rest) ys e = e

if-front : (a : Bool) (xs ys : List ℕ) → (if a then is_reference xs else true) ≡ true → (if a then is_reference (xs ++ ys) else true) ≡ true
if-front true xs ys e = reference-front xs ys e
if-front false xs ys e = refl

references-append : (xs ys : List ℕ) → has_references xs ≡ true → has_references ys ≡ true → has_references (xs ++ ys) ≡ true
unfolding has_references
references-append [] ys e f = f
references-append (c ∷ xs) ys e f =
    let t = both (if c == 38 then is_reference xs else true) (has_references xs) e in
    and_true _ _ (if-front (c == 38) xs ys t.0) (references-append xs ys t.1 f)

-- ---- reading

abbrev pub stage_end : Stage → List ℕ → Stage
stage_end stage [] = stage
stage_end stage (c ∷ text) = stage_end (stage_after stage c) text

read-append : (s : Stage) (xs ys : List ℕ) → read_from s (xs ++ ys) ≡ read_from s xs ++ read_from (stage_end s xs) ys
unfolding read_from
read-append s [] ys = refl
read-append s (c ∷ xs) ys = ap (λ z. bytes_ended s c ++ z) (read-append (stage_after s c) xs ys) ∙ sym (append_assoc (bytes_ended s c) (read_from (stage_after s c) xs) (read_from (stage_end (stage_after s c) xs) ys))

abbrev pub is_at_byte : Stage → Bool
is_at_byte AtByte = true
is_at_byte _ = false

at_byte : (s : Stage) → is_at_byte s ≡ true → s ≡ AtByte
at_byte AtByte e = refl
at_byte AtHash e = absurd (cc)
at_byte AtTens e = absurd (cc)
at_byte (AtOnes n) e = absurd (cc)
at_byte (AtEnd n) e = absurd (cc)
at_byte AtX e = absurd (cc)
at_byte AtHigh e = absurd (cc)
at_byte (AtLow n) e = absurd (cc)

abbrev pub is_alone : ℕ → List ℕ → Bool
is_alone b [] = false
is_alone b (x ∷ []) = x == b
is_alone b (x ∷ y ∷ ys) = false

alone : (b : ℕ) (xs : List ℕ) → is_alone b xs ≡ true → xs ≡ b ∷ []
alone b [] e = absurd (cc)
alone b (x ∷ []) e = let is : x ≡ b = grind (arith, nat_tests) in ap (λ k. k ∷ []) is
alone b (x ∷ y ∷ ys) e = absurd (cc)

-- ---- the text of a byte

-- it stays inside, has whole references, and gives the byte back
abbrev pub fits : (ℕ → List ℕ) → ℕ → Bool
fits f b = list_all is_inside (f b) && (has_references (f b) && (is_at_byte (stage_end AtByte (f b)) && is_alone b (read_from AtByte (f b))))

pub record Fits (f : ℕ → List ℕ) (b : ℕ) : Type 0 where
  pub inside : list_all is_inside (f b) ≡ true
  pub references : has_references (f b) ≡ true
  pub ends : stage_end AtByte (f b) ≡ AtByte
  pub gives : read_from AtByte (f b) ≡ b ∷ []

Fits-tested : (f : ℕ → List ℕ) (b : ℕ) → fits f b ≡ true → Fits f b
Fits-tested f b e =
    let x = both (list_all is_inside (f b)) _ e in
    let y = both (has_references (f b)) _ x.1 in
    let z = both (is_at_byte (stage_end AtByte (f b))) _ y.1 in
    record { inside = x.0; references = y.0; ends = at_byte (stage_end AtByte (f b)) z.0; gives = alone b (read_from AtByte (f b)) z.1 }

-- ---- the text of bytes

inside-all : (f : ℕ → List ℕ) (bytes : List ℕ) → ((b : ℕ) → b < 256 → Fits f b) → AreBytes bytes → list_all is_inside (flat_map f bytes) ≡ true
inside-all f [] h all = refl
inside-all f (b ∷ bytes) h all = list_all-append is_inside (f b) (flat_map f bytes) ∙ and_true _ _ (h b all.0).inside (inside-all f bytes h all.1)

references-all : (f : ℕ → List ℕ) (bytes : List ℕ) → ((b : ℕ) → b < 256 → Fits f b) → AreBytes bytes → has_references (flat_map f bytes) ≡ true
unfolding has_references
references-all f [] h all = refl
references-all f (b ∷ bytes) h all = references-append (f b) (flat_map f bytes) (h b all.0).references (references-all f bytes h all.1)

back-all : (f : ℕ → List ℕ) (bytes : List ℕ) → ((b : ℕ) → b < 256 → Fits f b) → AreBytes bytes → read_back (flat_map f bytes) ≡ bytes
unfolding read_from
back-all f [] h all = refl
back-all f (b ∷ bytes) h all =
    read-append AtByte (f b) (flat_map f bytes)
    ∙ ap (λ xs. xs ++ read_from (stage_end AtByte (f b)) (flat_map f bytes)) (h b all.0).gives
    ∙ ap (λ s. b ∷ read_from s (flat_map f bytes)) (h b all.0).ends
    ∙ ap (λ xs. b ∷ xs) (back-all f bytes h all.1)

-- ---- both kinds of texts

tested : (f : ℕ → List ℕ) → each_below (fits f) 256 ≡ true → (b : ℕ) → b < 256 → Fits f b
tested f t b low = Fits-tested f b (at_each (fits f) 256 b t low)

text-fits : (b : ℕ) → b < 256 → Fits text_byte b
unfolding has_references read_from
text-fits = tested text_byte refl

attribute-fits : (b : ℕ) → b < 256 → Fits attribute_byte b
unfolding has_references read_from
attribute-fits = tested attribute_byte refl

pub text-inside : (bytes : List ℕ) → AreBytes bytes → list_all is_inside (flat_map text_byte bytes) ≡ true
text-inside bytes all = inside-all text_byte bytes text-fits all

pub text-references : (bytes : List ℕ) → AreBytes bytes → has_references (flat_map text_byte bytes) ≡ true
text-references bytes all = references-all text_byte bytes text-fits all

pub text-back : (bytes : List ℕ) → AreBytes bytes → read_back (flat_map text_byte bytes) ≡ bytes
text-back bytes all = back-all text_byte bytes text-fits all

pub attribute-inside : (bytes : List ℕ) → AreBytes bytes → list_all is_inside (flat_map attribute_byte bytes) ≡ true
attribute-inside bytes all = inside-all attribute_byte bytes attribute-fits all

pub attribute-references : (bytes : List ℕ) → AreBytes bytes → has_references (flat_map attribute_byte bytes) ≡ true
attribute-references bytes all = references-all attribute_byte bytes attribute-fits all

pub attribute-back : (bytes : List ℕ) → AreBytes bytes → read_back (flat_map attribute_byte bytes) ≡ bytes
attribute-back bytes all = back-all attribute_byte bytes attribute-fits all

-- what is read back the same has one text
pub one-text : (text : List ℕ → List ℕ) → ((bytes : List ℕ) → AreBytes bytes → read_back (text bytes) ≡ bytes) → (a b : List ℕ) → AreBytes a → AreBytes b → text a ≡ text b → a ≡ b
one-text text back a b all also e = sym (back a all) ∙ ap read_back e ∙ back b also
