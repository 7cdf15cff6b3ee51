-- No line of a script is `done`.
use Rattle.plan_form.proofs.Names.{◌≡◌, ℕ, zero, suc, ◌+◌, inl, inr, true, false, Bool, cond, List, [], ◌∷◌, ◌++◌, length, take, drop, refl, sym, ap, ◌∙◌, subst, ◌==◌, codes, pointwise, Decides-eqb, take-append-drop, slice_eq-Decides, Ends, spaces, IsTokens, by_test, both, Block, Numbered, is_blank, LineRow, LinesRows, IsScriptLines, is_space, is_done_word, is_done, has_done}
use Rattle.std.specs.List.{list_all}
use Rattle.token_form.specs.declared.tokens.Token.{Token}
use Rattle.token_form.specs.declared.tokens.Token.TheVariants as t
use Rattle.token_form.specs.declared.tokens.Word.TheVariants as w
use Rattle.token_form.proofs.LineLaws.{one_list}
use Rattle.script_form.specs.RowTokens.{SpellsRow}
use Rattle.script_form.specs.Row.{Row}

spaces_are : (bytes : List ℕ) → list_all is_space bytes ≡ true → bytes ≡ spaces (length bytes)
spaces_are [] e = refl
spaces_are (b ∷ bytes) e = let k = both (is_space b) (list_all is_space bytes) e in ap (λ z. z ∷ bytes) ((Decides-eqb b 32).0 k.0) ∙ ap (λ z. 32 ∷ z) (spaces_are bytes k.1)

-- the bytes are `done` with spaces round it
pub record Done (line : List ℕ) : Type 0 where
  pub front : ℕ
  pub back : ℕ
  pub is : line ≡ spaces front ++ (codes "done" ++ spaces back)

done_word : (bytes : List ℕ) → is_done_word bytes ≡ true → bytes ≡ codes "done" ++ spaces (length (drop 4 bytes))
done_word bytes e =
    let k = both (pointwise ◌==◌ (take 4 bytes) (codes "done")) (list_all is_space (drop 4 bytes)) e in
    let same = (slice_eq-Decides Decides-eqb (take 4 bytes) (codes "done") (pointwise ◌==◌ (take 4 bytes) (codes "done")) refl).0 k.0 in
    sym (take-append-drop 4 bytes) ∙ ap (λ z. z ++ drop 4 bytes) same ∙ ap (λ z. codes "done" ++ z) (spaces_are (drop 4 bytes) k.1)

pub done_shape : (line : List ℕ) → is_done line ≡ true → Done line
done_shape [] e = absurd (cc)
done_shape (b ∷ bytes) e =
    by_test (is_space b) (λ p. is_space b ≡ p → cond p (is_done bytes) (is_done_word (b ∷ bytes)) ≡ true → Done (b ∷ bytes))
    (λ is k h. let d = done_shape bytes h in record { front = suc d.front; back = d.back; is = ap (λ z. z ∷ bytes) ((Decides-eqb b 32).0 is) ∙ ap (λ z. 32 ∷ z) d.is })
    (λ is k h. record { front = 0; back = length (drop 4 (b ∷ bytes)); is = done_word (b ∷ bytes) h }) refl e

ends_done : (n : ℕ) → Ends (t.Word w.Done) (spaces n)
ends_done zero = tt
ends_done (suc n) = refl

-- its one token is the word
done_tokens : (line : List ℕ) → Done line → IsTokens line (t.Word w.Done ∷ [])
done_tokens line d = (d.front, codes "done", spaces d.back, d.is, refl, ends_done d.back, (d.back, refl))

spells_no_row : (row : Row) (tokens : List Token) → tokens ≡ t.Word w.Done ∷ [] → SpellsRow row tokens → ⊥
spells_no_row row tokens e h = subst (SpellsRow row) e h

row_is_not_done : (greatest : ℕ) (line : List ℕ) (row : Row) → LineRow greatest line row → is_done line ≡ true → ⊥
row_is_not_done greatest line row (tokens, (blank, are), range, spells) e =
    spells_no_row row tokens (one_list line tokens (t.Word w.Done ∷ []) are (done_tokens line (done_shape line e))) spells

number_sign : (b : ℕ) (bytes : List ℕ) → b ≡ 35 → is_done_word (b ∷ bytes) ≡ false
number_sign b bytes e = subst (λ z. is_done_word (z ∷ bytes) ≡ false) (sym e) refl

blank_is_not_done : (line : List ℕ) → is_blank line ≡ true → is_done line ≡ false
blank_is_not_done [] e = refl
blank_is_not_done (b ∷ bytes) e =
    by_test (b == 32) (λ p. cond p (is_blank bytes) (b == 35) ≡ true → cond p (is_done bytes) (is_done_word (b ∷ bytes)) ≡ false)
    (λ is h. blank_is_not_done bytes h) (λ is h. number_sign b bytes ((Decides-eqb b 35).0 h)) e

not_true : (p : Bool) → (p ≡ true → ⊥) → p ≡ false
not_true true h = absurd (h refl)
not_true false h = refl

rows_without_done : (greatest n : ℕ) (ls : List (List ℕ)) (xs : List Numbered) → LinesRows greatest n ls xs → has_done ls ≡ false
rows_without_done greatest n [] xs h = refl
rows_without_done greatest n (l ∷ ls) xs (inl (blank, h)) = ap (λ p. cond p true (has_done ls)) (blank_is_not_done l blank) ∙ rows_without_done greatest (n + 1) ls xs h
rows_without_done greatest n (l ∷ ls) xs (inr (row, ys, is, parts, h)) =
    ap (λ p. cond p true (has_done ls)) (not_true (is_done l) (row_is_not_done greatest l row is)) ∙ rows_without_done greatest (n + 1) ls ys h

pub script_without_done : (greatest : ℕ) (ls : List (List ℕ)) (script : Block) → IsScriptLines greatest ls script → has_done ls ≡ false
script_without_done greatest ls script h = rows_without_done greatest 1 ls h.0 h.1
