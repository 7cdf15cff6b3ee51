-- Marks are kept one by one.
use Rattle.pseudo_time.proofs.ListLemmas.{every-reverse}
use Rattle.object_header.proofs.Names.{ObjectId, Effect, Mark, Put, Stretch, Settle, Floor, AreMarks, IsMark, kept_of, marks, mark_of, added, ◌≡◌, ℕ, suc, ◌+◌, ◌<◌, arith, take, length, slice_index_or, Bool, true, false, List, [], ◌∷◌, ◌++◌, reverse, refl, sym, ◌∙◌, ap, subst, Option, Some, None, if◌then◌else◌, reverse-append, append_assoc, append-nil, IfSome, take-suc, is_kept}
use Rattle.object_header.proofs.LedgerLemmas.{kept-append, kept-twice}

kept-one : (odd : ObjectId → Bool) (f : Mark) → kept_of odd (f ∷ []) ≡ (if is_kept odd f then f ∷ [] else [])
unfolding kept_of
kept-one odd (Put a x v) = refl
kept-one odd (Stretch a x) = refl
kept-one odd (Settle s c) = refl
kept-one odd (Floor z) = refl

pub keep-no : (odd : ObjectId → Bool) (f : Mark) (rest : List Mark) → is_kept odd f ≡ false → rest ≡ kept_of odd (f ∷ []) ++ rest
keep-no odd f rest off = sym (ap (λ k. k ++ rest) (kept-one odd f ∙ ap (λ b. if b then f ∷ [] else []) off))

pub keep-pushed : (odd : ObjectId → Bool) (f copy : Mark) (xs ys : List Mark) → ys ≡ xs ++ copy ∷ [] → copy ≡ f → is_kept odd f ≡ true → reverse ys ≡ kept_of odd (f ∷ []) ++ reverse xs
keep-pushed odd f copy xs ys pushed same on =
    ap reverse pushed ∙ reverse-append xs (copy ∷ []) ∙ ap (λ z. z ∷ reverse xs) same ∙ sym (ap (λ k. k ++ reverse xs) (kept-one odd f ∙ ap (λ b. if b then f ∷ [] else []) on))

-- one mark more
pub keep-more : (odd : ObjectId → Bool) (f : Mark) (now was first done more : List Mark) → now ≡ kept_of odd (f ∷ []) ++ was → was ≡ kept_of odd done ++ first → more ≡ f ∷ done → now ≡ kept_of odd more ++ first
keep-more odd f now was first done more is so longer =
    is ∙ ap (λ k. kept_of odd (f ∷ []) ++ k) so ∙ sym (append_assoc (kept_of odd (f ∷ [])) (kept_of odd done) first) ∙ ap (λ k. k ++ first) (sym (kept-append odd (f ∷ []) done)) ∙ ap (λ m. kept_of odd m ++ first) (sym longer)

added-append : (f : Option Mark) (m : List Mark) → added f m ≡ added f [] ++ m
added-append None m = refl
added-append (Some f) m = refl

pub keep-effect : (odd : ObjectId → Bool) (e : Effect) (now was : List Mark) (done more : List Effect) → now ≡ kept_of odd (added (mark_of e) []) ++ was → was ≡ kept_of odd (marks done) → more ≡ e ∷ done → now ≡ kept_of odd (marks more)
keep-effect odd e now was done more is so longer =
    is ∙ ap (λ k. kept_of odd (added (mark_of e) []) ++ k) so ∙ sym (kept-append odd (added (mark_of e) []) (marks done)) ∙ ap (kept_of odd) (sym (added-append (mark_of e) (marks done))) ∙ ap (λ l. kept_of odd (marks l)) (sym longer)

pub reverse-twice : (xs : List Mark) → reverse (reverse xs) ≡ xs
reverse-twice [] = refl
reverse-twice (x ∷ xs) = ap reverse (reverse-append (x ∷ []) xs) ∙ reverse-append (reverse xs) (x ∷ []) ∙ ap (λ z. x ∷ z) (reverse-twice xs)

pub marks-straight : (xs : List Mark) → AreMarks (reverse xs) → AreMarks xs
marks-straight xs h = subst (λ z. AreMarks z) (reverse-twice xs) (every-reverse IsMark (reverse xs) h)

pub snoc-marks : (xs ys : List Mark) (f : Mark) → ys ≡ xs ++ f ∷ [] → reverse ys ≡ f ∷ reverse xs
snoc-marks xs ys f is = ap reverse is ∙ reverse-append xs (f ∷ [])

pub snoc-effects : (xs ys : List Effect) (f : Effect) → ys ≡ xs ++ f ∷ [] → reverse ys ≡ f ∷ reverse xs
snoc-effects xs ys f is = ap reverse is ∙ reverse-append xs (f ∷ [])

pub none-kept : (odd : ObjectId → Bool) (rest : List Mark) → rest ≡ kept_of odd [] ++ rest
unfolding kept_of
none-kept odd rest = refl

pub none-marks : (odd : ObjectId → Bool) (xs : List Mark) → xs ≡ [] → reverse xs ≡ kept_of odd (marks [])
unfolding kept_of
none-marks odd xs is = ap reverse is

pub none-range : (xs : List Mark) → xs ≡ [] → AreMarks (reverse xs)
none-range xs is = subst (λ z. AreMarks (reverse z)) (sym is) tt

pub no-effect : (odd : ObjectId → Bool) (r : Option Mark) (e : Effect) (rest : List Mark) → r ≡ mark_of e → r ≡ None → rest ≡ kept_of odd (added (mark_of e) []) ++ rest
no-effect odd r e rest is none = none-kept odd rest ∙ ap (λ f. kept_of odd (added f []) ++ rest) (sym none ∙ is)

pub grow : {T : Type 0} (xs : List T) (i : ℕ) (x : T) → i < length xs → x ≡ slice_index_or xs i x → take (i + 1) xs ≡ take i xs ++ x ∷ []
grow xs i x low is = ap (λ n. take n xs) (next i) ∙ take-suc xs i x low ∙ ap (λ z. take i xs ++ z ∷ []) (sym is)
  where
    next : (n : ℕ) → n + 1 ≡ suc n
    next n = omega arith

-- the histories that are made of what is kept and of what is late
pub odd-all : (odd : ObjectId → Bool) (ls ks d2 d1 a2 a1 a0 h : List Mark) (store : List Mark) → reverse a2 ≡ kept_of odd (reverse d2) ++ reverse a1 → reverse a1 ≡ kept_of odd (reverse d1) ++ reverse a0 → a0 ≡ [] → d2 ≡ ls → d1 ≡ ks → reverse ks ≡ kept_of odd store → h ≡ reverse a2 →
    h ≡ kept_of odd (reverse ls ++ store)
odd-all odd ls ks d2 d1 a2 a1 a0 h store second first none late kept is made =
    made ∙ second ∙ ap (λ z. kept_of odd (reverse z) ++ reverse a1) late
    ∙ ap (λ z. kept_of odd (reverse ls) ++ z) (first ∙ ap (λ z. kept_of odd (reverse d1) ++ reverse z) none ∙ append-nil (kept_of odd (reverse d1)) ∙ ap (λ z. kept_of odd (reverse z)) kept ∙ ap (kept_of odd) is ∙ kept-twice odd store)
    ∙ sym (kept-append odd (reverse ls) store)

pub some_of : {T : Type 0} (P : T → Type 0) (r : Option T) (w : T) → IfSome r P → r ≡ Some w → P w
some_of P r w h is = subst (λ z. IfSome z P) is h
