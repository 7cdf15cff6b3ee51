-- The effects of a page, as they are read.
use Rattle.page_form.proofs.Names.{IsBytes, ◌>>=◌, Effect, Place, Written, effect_bytes, effect_at, effect_takes, length-effect_bytes, size_most, without_back, Log, back_in, same_back, Heads, HeadsFit, IsFound, HeldBelow, HeldFit, Stand, Held, Whole, First, Content, content_of, Sheet, Going, going_or_damaged, with_sheet, place_before, place_alone, admitted, alone, held_more, held_ends, log_at, entry_at, ◌≡◌, ℕ, zero, suc, ◌+◌, ◌-◌, ◌≤◌, ◌<◌, List, [], ◌∷◌, ◌++◌, length, take, drop, Bool, true, false, cond, Option, Some, None, Result, Ok, Err, ⊎_elim, inl, inr, refl, sym, ◌∙◌, ap, subst, arith, length-append, length-drop, ◌==◌, cases_Bool, cond-true, cond-false, and_parts, eqb-true, drop_at, take_all, nat_tests, MatchOption, MatchBool, Vec, Global, option_map}
use Rattle.std.specs.Borrow.{Bor}
use Rattle.page_form.proofs.LogLemmas.{effects_of-append}

pub IsBytes-append : (s t : List ℕ) → IsBytes s → IsBytes t → IsBytes (s ++ t)
IsBytes-append [] t h k i = k i
IsBytes-append (b ∷ s) t h k zero = h zero
IsBytes-append (b ∷ s) t h k (suc i) = IsBytes-append s t (λ j. h (suc j)) k i

pub same_back-is : (a b : Option Place) → same_back a b ≡ true → a ≡ b
same_back-is None None is = refl
same_back-is None (Some b) is = absurd (cc is)
same_back-is (Some a) None is = absurd (cc is)
same_back-is (Some a) (Some b) is =
    let parts = and_parts (a.page == b.page) (a.offset == b.offset) is in
    ap (λ (p : ℕ × ℕ). Some (record { page = p.0; offset = p.1 })) (same (eqb-true a.page b.page parts.0) (eqb-true a.offset b.offset parts.1))
  where
    same : a.page ≡ b.page → a.offset ≡ b.offset → ◌≡◌ {A = ℕ × ℕ} (a.page, a.offset) (b.page, b.offset)
    same p q = ap (λ (n : ℕ). (n, a.offset)) p ∙ ap (λ (n : ℕ). (b.page, n)) q

-- what follows an effect that was read
pub rest_is : (bytes rest : List ℕ) (w : Written) (count : ℕ) → IsBytes bytes → effect_at bytes ≡ Ok (w, rest) → count + length rest ≡ length bytes → rest ≡ take (length bytes - count) (drop count bytes)
rest_is bytes rest w count fits e size =
    let t = effect_takes bytes w rest fits e in
    let sizes : length bytes ≡ length (effect_bytes w) + length rest = ap length t.0.parts ∙ length-append (effect_bytes w) rest in
    let taken : length (effect_bytes w) ≡ count = omega (arith, sizes, size) in
    let after : drop count bytes ≡ rest = ap (drop count) t.0.parts ∙ drop_at (effect_bytes w) rest count taken in
    let whole : take (length bytes - count) (drop count bytes) ≡ drop count bytes = take_all (length bytes - count) (drop count bytes) (omega (arith, length-drop count bytes)) in
    sym (whole ∙ after)

module _ (log : Log) (place : Place) (bytes : List ℕ) (e : Effect) (back last : Option Place) (read : Result (Written × List ℕ) ℕ) (rest : List ℕ) (is : read ≡ Ok ((e, back), rest)) (last_is : last ≡ back_in log e) where
  found : admitted log place read ≡ cond (same_back back (back_in log e)) (Some (log ++ record { effect = e; place = place; back = back } ∷ [], rest)) None
  found = ap (λ r. admitted log place r) is

  -- its back place is another
  pub refused : same_back back last ≡ false → admitted log place read ≡ None
  refused other = found ∙ cond-false (same_back back (back_in log e)) _ _ (ap (λ (b : Option Place). same_back back b) (sym last_is) ∙ other)

  module _ (heads heads' : Heads) (effects effects' : List Effect) (was : IsFound heads effects log) (same : same_back back last ≡ true) (heads_fit : HeadsFit heads' (log ++ entry_at log place e ∷ [])) (pushed : effects' ≡ effects ++ e ∷ []) where
    pub admits : (more : Log) × (admitted log place read ≡ Some (more, rest)) × IsFound heads' effects' more
    admits =
        let back_is : back ≡ back_in log e = same_back-is back last same ∙ last_is in (
          log ++ record { effect = e; place = place; back = back } ∷ [],
          found ∙ cond-true (same_back back (back_in log e)) _ _ (ap (λ (b : Option Place). same_back back b) (sym last_is) ∙ same),
          record {
            heads_fit = subst (λ (b : Option Place). HeadsFit heads' (log ++ record { effect = e; place = place; back = b } ∷ [])) (sym back_is) heads_fit;
            effects_are = pushed ∙ ap (λ (l : List Effect). l ++ e ∷ []) was.effects_are ∙ sym (effects_of-append log (record { effect = e; place = place; back = back } ∷ []));
          },
        )

-- ---- all effects of a page

log_at-some : (n : ℕ) (log : Log) (page end : ℕ) (bytes : List ℕ) → 1 ≤ length bytes → log_at (suc n) log page end bytes ≡ (admitted log (place_before page end (length bytes)) (effect_at bytes) >>= λ more. log_at n more.0 page end more.1)
log_at-some n log page end [] some = absurd (omega (arith, some))
log_at-some n log page end (b ∷ bytes) some = refl

log_at-none : (n : ℕ) (log : Log) (page end : ℕ) (bytes : List ℕ) → length bytes ≡ 0 → log_at n log page end bytes ≡ Some log
log_at-none zero log page end [] none_left = refl
log_at-none (suc n) log page end [] none_left = refl
log_at-none n log page end (b ∷ bytes) none_left = absurd (omega (arith, none_left))

log_at-over : (log : Log) (page end : ℕ) (bytes : List ℕ) → 1 ≤ length bytes → log_at zero log page end bytes ≡ None
log_at-over log page end [] some = absurd (omega (arith, some))
log_at-over log page end (b ∷ bytes) some = refl

-- after i effects, so many bytes are left and the log so far leads to the page's
pub record SoFar (log : Log) (page from : ℕ) (texts : List ℕ) (i : ℕ) (rest : List ℕ) (heads : Heads) (effects : List Effect) : Type 0 where
  pub now : Log
  pub stands : IsFound heads effects now
  pub leads : log_at (length texts - i) now page (from + length texts) rest ≡ log_at (length texts) log page (from + length texts) texts

one_more : (n i : ℕ) → i < n → n - i ≡ suc (n - (i + 1))
one_more n i low = omega arith

over : (n i : ℕ) → n ≤ i → n - i ≡ 0
over n i high = omega arith

module _ (log : Log) (page from : ℕ) (texts : List ℕ) (i : ℕ) (rest : List ℕ) (heads : Heads) (effects : List Effect) (was : SoFar log page from texts i rest heads effects) where
  -- no bytes are left
  pub page_ends : length rest ≡ 0 → (more : Log) × (log_at (length texts) log page (from + length texts) texts ≡ Some more) × IsFound heads effects more
  page_ends none_left = (was.now, sym was.leads ∙ log_at-none (length texts - i) was.now page (from + length texts) rest none_left, was.stands)

  -- bytes are left behind the last effect that may be
  pub page_over : length texts ≤ i → 1 ≤ length rest → log_at (length texts) log page (from + length texts) texts ≡ None
  page_over high some = sym was.leads ∙ ap (λ (k : ℕ). log_at k was.now page (from + length texts) rest) (over (length texts) i high) ∙ log_at-over was.now page (from + length texts) rest some

  step : i < length texts → 1 ≤ length rest → log_at (length texts) log page (from + length texts) texts ≡ (admitted was.now (place_before page (from + length texts) (length rest)) (effect_at rest) >>= λ more. log_at (length texts - (i + 1)) more.0 page (from + length texts) more.1)
  step low some = sym was.leads ∙ ap (λ (k : ℕ). log_at k was.now page (from + length texts) rest) (one_more (length texts) i low) ∙ log_at-some (length texts - (i + 1)) was.now page (from + length texts) rest some

  -- no log has an effect here
  pub page_stops : i < length texts → 1 ≤ length rest → admitted was.now (place_before page (from + length texts) (length rest)) (effect_at rest) ≡ None → log_at (length texts) log page (from + length texts) texts ≡ None
  page_stops low some is = step low some ∙ ap (λ (o : Option (Log × List ℕ)). o >>= λ more. log_at (length texts - (i + 1)) more.0 page (from + length texts) more.1) is

  pub page_goes : i < length texts → 1 ≤ length rest → (rest' : List ℕ) (heads' : Heads) (effects' : List Effect) → (more : Log) × (admitted was.now (place_before page (from + length texts) (length rest)) (effect_at rest) ≡ Some (more, rest')) × IsFound heads' effects' more → SoFar log page from texts (i + 1) rest' heads' effects'
  page_goes low some rest' heads' effects' more = record {
    now = more.0;
    stands = more.2;
    leads = sym (step low some ∙ ap (λ (o : Option (Log × List ℕ)). o >>= λ more. log_at (length texts - (i + 1)) more.0 page (from + length texts) more.1) more.1);
  }

-- ---- an effect in pieces

-- no effect is so long
pub long_none : (log : Log) (place : Place) (bytes : List ℕ) → IsBytes bytes → 65567 < length bytes → alone (admitted log place (effect_at bytes)) ≡ None
long_none log place bytes small long = by_read (effect_at bytes) refl
  where
    by_rest : (w : Written) (rest : List ℕ) → effect_at bytes ≡ Ok (w, rest) → alone (admitted log place (Ok (w, rest))) ≡ None
    by_rest w [] is =
        let t = effect_takes bytes w [] small is in
        let size = ap (λ (l : List ℕ). length l) t.0.parts ∙ length-append (effect_bytes w) [] in
        let most = size_most w.0 (without_back w.0 w.1 t.1) in
        let same = length-effect_bytes w.0 w.1 None in
        absurd (omega (arith, size, most, same, long))
    by_rest w (b ∷ rest) is = elim (cases_Bool (same_back w.1 (back_in log w.0))) [
      | inl same ↦ ap alone (cond-true (same_back w.1 (back_in log w.0)) _ _ same)
      | inr other ↦ ap alone (cond-false (same_back w.1 (back_in log w.0)) _ _ other)
    ]

    by_read : (r : Result (Written × List ℕ) ℕ) → effect_at bytes ≡ r → alone (admitted log place r) ≡ None
    by_read (Err at) is = refl
    by_read (Ok (w, rest)) is = by_rest w rest is

-- what the kept bytes are is what the pieces are
pub stand_alone : (log : Log) (place : Place) (bytes pieces : List ℕ) → IsBytes bytes → IsBytes pieces → Stand bytes pieces → alone (admitted log place (effect_at bytes)) ≡ alone (admitted log place (effect_at pieces))
stand_alone log place bytes pieces small small' stand = ⊎_elim
    (λ same. ap (λ (l : List ℕ). alone (admitted log place (effect_at l))) same)
    (λ long. long_none log place bytes small long.0 ∙ sym (long_none log place pieces small' long.1))
    stand

pub alone_none : (o : Option (Log × List ℕ)) → o ≡ None → alone o ≡ None
alone_none o is = ap alone is

pub alone_some : (o : Option (Log × List ℕ)) (more : Log) (rest : List ℕ) → o ≡ Some (more, rest) → length rest ≡ 0 → alone o ≡ Some more
alone_some o more [] is none_left = ap alone is
alone_some o more (b ∷ rest) is none_left = absurd (omega (arith, none_left))

pub alone_more : (o : Option (Log × List ℕ)) (more : Log) (rest : List ℕ) → o ≡ Some (more, rest) → 1 ≤ length rest → alone o ≡ None
alone_more o more [] is some = absurd (omega (arith, some))
alone_more o more (b ∷ rest) is some = ap alone is

-- ---- what follows an effect, or that there is none

module _ (o : Option (Bor (List ℕ))) (reading : Option (Log × List ℕ)) (heads : Heads) (effects : List Effect) where
  pub at_none : o ≡ None → MatchOption o (reading ≡ None) (λ rest. (more : Log) × (reading ≡ Some (more, rest.now)) × IsFound heads effects more) → reading ≡ None
  at_none is met = subst (λ (q : Option (Bor (List ℕ))). MatchOption q (reading ≡ None) (λ rest. (more : Log) × (reading ≡ Some (more, rest.now)) × IsFound heads effects more)) is met

  pub at_some : (rest : Bor (List ℕ)) → o ≡ Some rest → MatchOption o (reading ≡ None) (λ rest. (more : Log) × (reading ≡ Some (more, rest.now)) × IsFound heads effects more) → (more : Log) × (reading ≡ Some (more, rest.now)) × IsFound heads effects more
  at_some rest is met = subst (λ (q : Option (Bor (List ℕ))). MatchOption q (reading ≡ None) (λ rest. (more : Log) × (reading ≡ Some (more, rest.now)) × IsFound heads effects more)) is met

pub less_at : (o : Option (Bor (List ℕ))) (rest : Bor (List ℕ)) (n : ℕ) → o ≡ Some rest → MatchOption o (Unit {0}) (λ rest. length rest.now ≤ n) → length rest.now ≤ n
less_at o rest n is met = subst (λ (q : Option (Bor (List ℕ))). MatchOption q (Unit {0}) (λ rest. length rest.now ≤ n)) is met

-- ---- pieces that are kept

pub middle_found : (log : Log) (h : Held) (kept : Vec ℕ Global) (held : Option (ℕ × List ℕ)) (piece : List ℕ) → IsBytes piece → HeldFit (Some h) held → ((pieces : List ℕ) → Stand h.bytes.items pieces → Stand kept.items (pieces ++ piece))
    → (more : Content) × (held_more log held piece ≡ Some more) × (more.log ≡ log) × HeldFit (Some (record { first = h.first; bytes = kept })) more.held
middle_found log h kept None piece small fits stand = absurd fits
middle_found log h kept (Some (first, pieces)) piece small fits stand = (record { log = log; held = Some (first, pieces ++ piece) }, refl, refl, (fits.0, stand pieces fits.1, IsBytes-append pieces piece fits.2 small))

-- whether the pieces are an effect, and the log has it then
abbrev Ends : Log → ℕ → List ℕ → Heads → List Effect → Bool → Type 0
Ends log first pieces heads effects good = MatchBool good ((more : Log) × (alone (admitted log (place_alone first) (effect_at pieces)) ≡ Some more) × IsFound heads effects more) (alone (admitted log (place_alone first) (effect_at pieces)) ≡ None)

abbrev EndsHeld : Log → Option (ℕ × List ℕ) → List ℕ → Heads → List Effect → Bool → Type 0
EndsHeld log held piece heads effects good = MatchBool good ((more : Content) × (held_ends log held piece ≡ Some more) × IsFound heads effects more.log × HeldFit None more.held) (held_ends log held piece ≡ None)

ends_held : (log : Log) (first : ℕ) (pieces piece : List ℕ) (heads : Heads) (effects : List Effect) (good : Bool) → Ends log first (pieces ++ piece) heads effects good → EndsHeld log (Some (first, pieces)) piece heads effects good
ends_held log first pieces piece heads effects true met = (content_of met.0, ap (λ (o : Option Log). option_map content_of o) met.1, met.2, tt)
ends_held log first pieces piece heads effects false met = ap (λ (o : Option Log). option_map content_of o) met

-- a last piece, behind those that are kept
pub last_found : (log : Log) (h : Held) (kept : Vec ℕ Global) (heads : Heads) (effects : List Effect) (good : Bool) (piece : List ℕ) → IsBytes piece → ((pieces : List ℕ) → Stand h.bytes.items pieces → Stand kept.items (pieces ++ piece))
    → ((pieces : List ℕ) → Stand kept.items pieces → IsBytes pieces → Ends log h.first pieces heads effects good) → (held : Option (ℕ × List ℕ)) → HeldFit (Some h) held → EndsHeld log held piece heads effects good
last_found log h kept heads effects good piece small stand ends None fits = absurd fits
last_found log h kept heads effects good piece small stand ends (Some (first, pieces)) fits =
    ends_held log first pieces piece heads effects good (subst (λ (k : ℕ). Ends log k (pieces ++ piece) heads effects good) fits.0 (ends (pieces ++ piece) (stand pieces fits.1) (IsBytes-append pieces piece fits.2 small)))

-- the pieces that are kept are an effect, or they aren't
pub held_none : (log : Log) (place : Place) (bytes kept pieces : List ℕ) → bytes ≡ kept → IsBytes bytes → IsBytes pieces → Stand kept pieces → admitted log place (effect_at bytes) ≡ None → alone (admitted log place (effect_at pieces)) ≡ None
held_none log place bytes kept pieces same small small' stand is = sym (stand_alone log place bytes pieces small small' (subst (λ (l : List ℕ). Stand l pieces) (sym same) stand)) ∙ alone_none (admitted log place (effect_at bytes)) is

pub held_some : (log : Log) (place : Place) (bytes kept pieces rest : List ℕ) (heads : Heads) (effects : List Effect) (b : Bool) → bytes ≡ kept → IsBytes bytes → IsBytes pieces → Stand kept pieces → b ≡ (length rest == 0)
    → (more : Log) × (admitted log place (effect_at bytes) ≡ Some (more, rest)) × IsFound heads effects more
    → MatchBool b ((more : Log) × (alone (admitted log place (effect_at pieces)) ≡ Some more) × IsFound heads effects more) (alone (admitted log place (effect_at pieces)) ≡ None)
held_some log place bytes kept pieces rest heads effects b same small small' stand is met = by b is
  where
    alike : alone (admitted log place (effect_at pieces)) ≡ alone (admitted log place (effect_at bytes))
    alike = sym (stand_alone log place bytes pieces small small' (subst (λ (l : List ℕ). Stand l pieces) (sym same) stand))

    by : (q : Bool) → q ≡ (length rest == 0) → MatchBool q ((more : Log) × (alone (admitted log place (effect_at pieces)) ≡ Some more) × IsFound heads effects more) (alone (admitted log place (effect_at pieces)) ≡ None)
    by true e = (met.0, alike ∙ alone_some (admitted log place (effect_at bytes)) met.0 rest met.1 (eqb-true (length rest) 0 (sym e)), met.2)
    by false e = alike ∙ alone_more (admitted log place (effect_at bytes)) met.0 rest met.1 (some (length rest) (sym e))
      where
        some : (n : ℕ) → (n == 0) ≡ false → 1 ≤ n
        some n other = grind (arith, nat_tests)

pub held_below : (n m : ℕ) (held : Option Held) → n ≤ m → HeldBelow n held → HeldBelow m held
held_below n m None le below = tt
held_below n m (Some h) le below = omega (arith, below, le)

-- ---- a page with what it has

pub whole_goes : (c : Content) (page : ℕ) (o : Option Sheet) (from : ℕ) (bytes : List ℕ) (heads : Heads) (effects : List Effect) → o ≡ Some (Whole, from, bytes)
    → (more : Log) × (log_at (length bytes) c.log page (from + length bytes) bytes ≡ Some more) × IsFound heads effects more
    → (more : Content) × (going_or_damaged page (with_sheet c page o) ≡ Going more) × IsFound heads effects more.log × HeldFit None more.held
whole_goes c page o from bytes heads effects is met =
    (content_of met.0, ap (λ (o : Option Sheet). going_or_damaged page (with_sheet c page o)) is ∙ ap (λ (o : Option Log). going_or_damaged page (option_map content_of o)) met.1, met.2, tt)

pub first_goes : (c : Content) (page : ℕ) (o : Option Sheet) (from : ℕ) (bytes : List ℕ) (heads : Heads) (effects : List Effect) (h : Held) → o ≡ Some (First, from, bytes) → IsFound heads effects c.log → h.first ≡ page → h.bytes.items ≡ bytes → IsBytes bytes
    → (more : Content) × (going_or_damaged page (with_sheet c page o) ≡ Going more) × IsFound heads effects more.log × HeldFit (Some h) more.held
first_goes c page o from bytes heads effects h is found first same small =
    (record { log = c.log; held = Some (page, bytes) }, ap (λ (o : Option Sheet). going_or_damaged page (with_sheet c page o)) is, found, (first, inl same, small))

pub when_good : (b : Bool) (P Q : Type 0) → b ≡ true → MatchBool b P Q → P
when_good b P Q is met = subst (λ (q : Bool). MatchBool q P Q) is met

pub when_bad : (b : Bool) (P Q : Type 0) → b ≡ false → MatchBool b P Q → Q
when_bad b P Q is met = subst (λ (q : Bool). MatchBool q P Q) is met
