-- What holds of each held read stays true of those that are left, and of one more.
use Rattle.repository_draft.proofs.Names.{Bool, true, false, List, [], ◌∷◌, Ordering, Less, Equal, Greater, match_ordering, filter, cond, Every, TimeParts, HeldRead, Asker, Hand}
use Rattle.std.specs.Map.{remove_entry}
use Rattle.std.specs.BTreeMap.{insert_entry}

-- the hand with these held reads, or these askers
abbrev pub with_held : Hand → List (TimeParts × HeldRead) → Hand
with_held h held = record h { held = held }

abbrev pub with_askers : Hand → List Asker → Hand
with_askers h askers = record h { askers = askers }

pub every-cond : {A : Type 0} (P : List A → Type 0) (b : Bool) (xs ys : List A) → P xs → P ys → P (cond b xs ys)
every-cond P true xs ys h k = h
every-cond P false xs ys h k = k

module _ {A : Type 0} (P : A → Type 0) where
  pub every-filter : (test : A → Bool) (xs : List A) → Every P xs → Every P (filter test xs)
  every-filter test [] h = tt
  every-filter test (x ∷ xs) h = every-cond (Every P) (test x) (x ∷ filter test xs) (filter test xs) (h.0, every-filter test xs h.1) (every-filter test xs h.1)

module _ {K X : Type 0} where
  pub every-remove : (P : K × X → Type 0) (test : K → Bool) (es : List (K × X)) → Every P es → Every P (remove_entry test es)
  every-remove P test [] h = tt
  every-remove P test (e ∷ es) h = every-cond (Every P) (test e.0) es (e ∷ remove_entry test es) h.1 (h.0, every-remove P test es h.1)

  every-match : (P : List (K × X) → Type 0) (o : Ordering) (a b c : List (K × X)) → P a → P b → P c → P (match_ordering o a b c)
  every-match P Less a b c h k i = h
  every-match P Equal a b c h k i = k
  every-match P Greater a b c h k i = i

  -- of the values alone
  pub every-insert : (P : X → Type 0) (cmp : K → K → Ordering) (es : List (K × X)) (k : K) (v : X) → P v → Every (λ e. P e.1) es → Every (λ e. P e.1) (insert_entry cmp es k v)
  every-insert P cmp [] k v p h = (p, tt)
  every-insert P cmp (e ∷ es) k v p h =
      every-match (Every (λ e. P e.1)) (cmp k e.0) ((k, v) ∷ e ∷ es) ((e.0, v) ∷ es) (e ∷ insert_entry cmp es k v) (p, h) (p, h.1) (h.0, every-insert P cmp es k v p h.1)
