-- What holds of each held read stays true where one more is held.
use Rattle.repository_core.proofs.Names.{◌≡◌, List, [], ◌∷◌, refl, sym, ap, subst, inl, inr, Ordering, Less, Equal, Greater, match_ordering, Every, Has, TimeParts, time_cmp, HeldRead}
use Rattle.std.specs.BTreeMap.{insert_entry}
use Rattle.pseudo_time.proofs.OrderLemmas.{time_cmp-exact}
pub use Rattle.repository_draft.proofs.HeldLemmas.{every-filter, every-remove}

pub put-in : (t : TimeParts) (x : HeldRead) (es : List (TimeParts × HeldRead)) → Has (t, x) (insert_entry time_cmp es t x)
put-in t x [] = inl refl
put-in t x (y ∷ es) = go (put-in t x es) (time_cmp t y.0) refl
  where
    go : Has (t, x) (insert_entry time_cmp es t x) → (o : Ordering) → time_cmp t y.0 ≡ o → Has (t, x) (match_ordering o ((t, x) ∷ y ∷ es) ((y.0, x) ∷ es) (y ∷ insert_entry time_cmp es t x))
    go again Less q = inl refl
    go again Equal q = let f : TimeParts → TimeParts × HeldRead = λ z. (z, x) in inl (ap f (sym (time_cmp-exact t y.0 q)))
    go again Greater q = inr again

pub every-put : (P : TimeParts × HeldRead → Type 0) (t : TimeParts) (x : HeldRead) (es : List (TimeParts × HeldRead)) → P (t, x) → Every P es → Every P (insert_entry time_cmp es t x)
every-put P t x [] p h = (p, tt)
every-put P t x (e ∷ es) p h = go (time_cmp t e.0) refl (every-put P t x es p h.1)
  where
    go : (o : Ordering) → time_cmp t e.0 ≡ o → Every P (insert_entry time_cmp es t x) → Every P (match_ordering o ((t, x) ∷ e ∷ es) ((e.0, x) ∷ es) (e ∷ insert_entry time_cmp es t x))
    go Less q rest = (p, h)
    go Equal q rest = (subst (λ z. P (z, x)) (time_cmp-exact t e.0 q) p, h.1)
    go Greater q rest = (h.0, rest)
