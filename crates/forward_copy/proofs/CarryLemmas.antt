-- What an append of a whole volume leaves.
use Rattle.forward_copy.proofs.Names.{◌≡◌, ℕ, zero, suc, true, false, List, [], ◌∷◌, ◌++◌, take, refl, sym, ◌∙◌, ap, subst, arith, Ok, Result, true≢false, false≢true, TimeParts, Effect, Put, Stretch, Begin, Decide, Learn, Run, Act, Try, Got, Acked, End, Mark, Whole, Image, HasPrefix, storage, LeavesFront, between, has_whole}

-- a front with a Whole of a list whose last effect alone is one is all of it
front-whole : (n : ℕ) (l : List Effect) → has_whole l ≡ false → has_whole (take n (l ++ Whole ∷ [])) ≡ true → take n (l ++ Whole ∷ []) ≡ l ++ Whole ∷ []
front-whole zero l none some = absurd (false≢true some)
front-whole (suc zero) [] none some = refl
front-whole (suc (suc n)) [] none some = refl
front-whole (suc n) (Whole ∷ l) none some = absurd (true≢false none)
front-whole (suc n) (Put o x v ∷ l) none some = ap (λ z. Put o x v ∷ z) (front-whole n l none some)
front-whole (suc n) (Stretch o x ∷ l) none some = ap (λ z. Stretch o x ∷ z) (front-whole n l none some)
front-whole (suc n) (Begin s d ∷ l) none some = ap (λ z. Begin s d ∷ z) (front-whole n l none some)
front-whole (suc n) (Decide s d ∷ l) none some = ap (λ z. Decide s d ∷ z) (front-whole n l none some)
front-whole (suc n) (Learn s c ∷ l) none some = ap (λ z. Learn s c ∷ z) (front-whole n l none some)
front-whole (suc n) (Run m ∷ l) none some = ap (λ z. Run m ∷ z) (front-whole n l none some)
front-whole (suc n) (Act i h t m c b ∷ l) none some = ap (λ z. Act i h t m c b ∷ z) (front-whole n l none some)
front-whole (suc n) (Try i s ∷ l) none some = ap (λ z. Try i s ∷ z) (front-whole n l none some)
front-whole (suc n) (Got k v ∷ l) none some = ap (λ z. Got k v ∷ z) (front-whole n l none some)
front-whole (suc n) (Acked k ∷ l) none some = ap (λ z. Acked k ∷ z) (front-whole n l none some)
front-whole (suc n) (End i e ∷ l) none some = ap (λ z. End i e ∷ z) (front-whole n l none some)
front-whole (suc n) (Mark x ∷ l) none some = ap (λ z. Mark x ∷ z) (front-whole n l none some)

pub prefix-front : (at : TimeParts) (kept : List Effect) (c : Image) → has_whole kept ≡ false → HasPrefix [] (between at kept) c → LeavesFront (between at kept) c
prefix-front at kept c none has = record { front = has; all = λ log is some. all-there log (cc (sym is ∙ has.is)) some }
  where
    all-there : (log : List Effect) → log ≡ take has.kept (between at kept) → has_whole log ≡ true → log ≡ between at kept
    all-there log e some = e ∙ front-whole has.kept (Mark at ∷ kept) none (sym (ap has_whole e) ∙ some)

-- where the log was empty
pub carried-front : (at : TimeParts) (kept log effects : List Effect) (c : Image) → log ≡ [] → effects ≡ between at kept → has_whole kept ≡ false → HasPrefix log effects c → LeavesFront (between at kept) c
carried-front at kept log effects c none is whole has = prefix-front at kept c whole (subst (λ l. HasPrefix l (between at kept) c) none (subst (λ e. HasPrefix log e c) is has))

-- where nothing was written
pub front-none : (at : TimeParts) (kept : List Effect) (c : Image) → storage c ≡ Ok [] → LeavesFront (between at kept) c
front-none at kept c empty = record {
  front = record { pages = 0; most = omega arith; kept = 0; few = omega arith; whole = refl; is = empty };
  all = λ log is some. let same : ◌≡◌ {A = Result (List Effect) ℕ} (Ok log) (Ok []) = sym is ∙ empty in let none : log ≡ [] = cc same in absurd (false≢true (sym (ap has_whole none) ∙ some));
}
