-- Lists of held reads: what a filter, an insertion and a removal leave of them.
use Rattle.repository_laws.proofs.Names.{Every, Has, StampParts, TimeParts, time_cmp, same_stamp, HeldRead, waits_for, ◌≡◌, ◌⊎◌, Bool, true, false, ◌||◌, not, List, [], ◌∷◌, refl, sym, subst, inl, inr, false≢true, cond, filter, remove_entry, insert_entry, is_at, match_ordering, is_eq, Ordering, Less, Equal, Greater, is_equal, time_cmp-exact}

-- ---- lists

pub or-split : (a b : Bool) → (a || b) ≡ true → (a ≡ true) ⊎ (b ≡ true)
or-split true b h = inl refl
or-split false b h = inr h

pub or-left : (a b : Bool) → a ≡ true → (a || b) ≡ true
or-left true b h = refl
or-left false b h = absurd (false≢true h)

pub or-right : (a b : Bool) → b ≡ true → (a || b) ≡ true
or-right true b h = refl
or-right false b h = h

-- an element passes a test or fails it
pub has-split : {A : Type 0} (test : A → Bool) (xs : List A) (x : A) → Has x xs → Has x (filter test xs) ⊎ Has x (filter (λ y. not (test y)) xs)
has-split test [] x h = absurd h
has-split {A} test (y ∷ xs) x h = go (λ k. has-split test xs x k) (test y) refl h
  where
    go : (Has x xs → Has x (filter test xs) ⊎ Has x (filter (λ y. not (test y)) xs)) → (b : Bool) → test y ≡ b → Has x (y ∷ xs) → Has x (cond b (y ∷ filter test xs) (filter test xs)) ⊎ Has x (cond (not b) (y ∷ filter (λ y. not (test y)) xs) (filter (λ y. not (test y)) xs))
    go again true q (inl p) = inl (inl p)
    go again false q (inl p) = inr (inl p)
    go again true q (inr k) = elim (again k) [ inl a ↦ inl (inr a) | inr b ↦ inr b ]
    go again false q (inr k) = elim (again k) [ inl a ↦ inl a | inr b ↦ inr (inr b) ]

-- what passed a filter stood in the list
pub filter-has : {X : Type 0} (test : X → Bool) (xs : List X) (x : X) → Has x (filter test xs) → Has x xs
filter-has test [] x h = h
filter-has test (y ∷ xs) x h = go (λ k. filter-has test xs x k) (test y) h
  where
    go : (Has x (filter test xs) → Has x xs) → (b : Bool) → Has x (cond b (y ∷ filter test xs) (filter test xs)) → Has x (y ∷ xs)
    go again true (inl p) = inl p
    go again true (inr k) = inr (again k)
    go again false k = inr (again k)

-- and what holds of each that passes holds of the filtered ones
pub every-passing : {A : Type 0} (P Q : A → Type 0) (test : A → Bool) (xs : List A) → ((x : A) → test x ≡ true → P x → Q x) → Every P xs → Every Q (filter test xs)
every-passing P Q test [] f h = tt
every-passing P Q test (x ∷ xs) f h = go (every-passing P Q test xs f h.1) (test x) refl
  where
    go : Every Q (filter test xs) → (b : Bool) → test x ≡ b → Every Q (cond b (x ∷ filter test xs) (filter test xs))
    go rest true q = (f x q h.0, rest)
    go rest false q = rest

-- ---- held reads by their times

pub gone-or : (t : TimeParts) (es : List (TimeParts × HeldRead)) (e : TimeParts × HeldRead) → Has e es → (e.0 ≡ t) ⊎ Has e (remove_entry (is_at (time_cmp t)) es)
gone-or t [] e h = absurd h
gone-or t (x ∷ es) e h = go (λ k. gone-or t es e k) (is_eq (time_cmp t x.0)) refl h
  where
    go : (Has e es → (e.0 ≡ t) ⊎ Has e (remove_entry (is_at (time_cmp t)) es)) → (b : Bool) → is_eq (time_cmp t x.0) ≡ b → Has e (x ∷ es) → (e.0 ≡ t) ⊎ Has e (cond b es (x ∷ remove_entry (is_at (time_cmp t)) es))
    go again true q (inl p) = inl (subst (λ (z : TimeParts × HeldRead). z.0 ≡ t) p (sym (time_cmp-exact t x.0 (is_equal (time_cmp t x.0) q))))
    go again true q (inr k) = inr k
    go again false q (inl p) = inr (inl p)
    go again false q (inr k) = elim (again k) [ inl a ↦ inl a | inr b ↦ inr (inr b) ]

pub kept-or : (t : TimeParts) (x : HeldRead) (es : List (TimeParts × HeldRead)) (e : TimeParts × HeldRead) → Has e es → (e.0 ≡ t) ⊎ Has e (insert_entry time_cmp es t x)
kept-or t x [] e h = absurd h
kept-or t x (y ∷ es) e h = go (λ k. kept-or t x es e k) (time_cmp t y.0) refl h
  where
    go : (Has e es → (e.0 ≡ t) ⊎ Has e (insert_entry time_cmp es t x)) → (o : Ordering) → time_cmp t y.0 ≡ o → Has e (y ∷ es) → (e.0 ≡ t) ⊎ Has e (match_ordering o ((t, x) ∷ y ∷ es) ((y.0, x) ∷ es) (y ∷ insert_entry time_cmp es t x))
    go again Less q h = inr (inr h)
    go again Equal q (inl p) = inl (subst (λ (z : TimeParts × HeldRead). z.0 ≡ t) p (sym (time_cmp-exact t y.0 q)))
    go again Equal q (inr k) = inr (inr k)
    go again Greater q (inl p) = inr (inl p)
    go again Greater q (inr k) = elim (again k) [ inl a ↦ inl a | inr b ↦ inr (inr b) ]

-- ---- what is waited for

pub waits-put : (w : StampParts) (t : TimeParts) (x : HeldRead) (es : List (TimeParts × HeldRead)) → waits_for w (insert_entry time_cmp es t x) ≡ true → (same_stamp x.waits w ≡ true) ⊎ (waits_for w es ≡ true)
waits-put w t x [] h = or-split (same_stamp x.waits w) false h
waits-put w t x (y ∷ es) h = go (λ k. waits-put w t x es k) (time_cmp t y.0) h
  where
    go : (waits_for w (insert_entry time_cmp es t x) ≡ true → (same_stamp x.waits w ≡ true) ⊎ (waits_for w es ≡ true)) → (o : Ordering) → waits_for w (match_ordering o ((t, x) ∷ y ∷ es) ((y.0, x) ∷ es) (y ∷ insert_entry time_cmp es t x)) ≡ true → (same_stamp x.waits w ≡ true) ⊎ (waits_for w (y ∷ es) ≡ true)
    go again Less h = or-split (same_stamp x.waits w) (waits_for w (y ∷ es)) h
    go again Equal h = elim (or-split (same_stamp x.waits w) (waits_for w es) h) [ inl a ↦ inl a | inr b ↦ inr (or-right (same_stamp y.1.waits w) (waits_for w es) b) ]
    go again Greater h = elim (or-split (same_stamp y.1.waits w) (waits_for w (insert_entry time_cmp es t x)) h) [
      | inl a ↦ inr (or-left (same_stamp y.1.waits w) (waits_for w es) a)
      | inr b ↦ elim (again b) [ inl c ↦ inl c | inr d ↦ inr (or-right (same_stamp y.1.waits w) (waits_for w es) d) ]
    ]

pub waits-remove : (w : StampParts) (test : TimeParts → Bool) (es : List (TimeParts × HeldRead)) → waits_for w (remove_entry test es) ≡ true → waits_for w es ≡ true
waits-remove w test [] h = h
waits-remove w test (y ∷ es) h = go (λ k. waits-remove w test es k) (test y.0) h
  where
    go : (waits_for w (remove_entry test es) ≡ true → waits_for w es ≡ true) → (b : Bool) → waits_for w (cond b es (y ∷ remove_entry test es)) ≡ true → waits_for w (y ∷ es) ≡ true
    go again true h = or-right (same_stamp y.1.waits w) (waits_for w es) h
    go again false h = elim (or-split (same_stamp y.1.waits w) (waits_for w (remove_entry test es)) h) [
      | inl a ↦ or-left (same_stamp y.1.waits w) (waits_for w es) a
      | inr b ↦ or-right (same_stamp y.1.waits w) (waits_for w es) (again b)
    ]

pub waits-filter : (w : StampParts) (test : TimeParts × HeldRead → Bool) (es : List (TimeParts × HeldRead)) → waits_for w (filter test es) ≡ true → waits_for w es ≡ true
waits-filter w test [] h = h
waits-filter w test (y ∷ es) h = go (λ k. waits-filter w test es k) (test y) h
  where
    go : (waits_for w (filter test es) ≡ true → waits_for w es ≡ true) → (b : Bool) → waits_for w (cond b (y ∷ filter test es) (filter test es)) ≡ true → waits_for w (y ∷ es) ≡ true
    go again false h = or-right (same_stamp y.1.waits w) (waits_for w es) (again h)
    go again true h = elim (or-split (same_stamp y.1.waits w) (waits_for w (filter test es)) h) [
      | inl a ↦ or-left (same_stamp y.1.waits w) (waits_for w es) a
      | inr b ↦ or-right (same_stamp y.1.waits w) (waits_for w es) (again b)
    ]
