-- Volumes that are taken one after another, and handed back under their names.
use Rattle.run_volumes.proofs.Names.{◌≡◌, ◌≢◌, ◌⊎◌, ◌<◌, ◌+◌, ◌==◌, inl, inr, ℕ, zero, suc, Bool, true, false, cond, List, [], ◌∷◌, ◌++◌, length, length-append, append-nil, append_assoc, Option, Some, None, slice_get, refl, ap, sym, subst, ◌∙◌, arith, AllZip, count_by, Has, nat_tests, NodeId, NodeKind, Repository, Broker, AreBack, IsBack, IsUsable, Media, ShelfSight, IsLeft, IsGiven, IsTaken, TakesOne, WereTaken, first_names, is_missing, volume_name}
use Rattle.std.proofs.lemmas.List.Sums.{sum_by-append}
use Rattle.stream_port.specs.Causes.{RoseBy, rises_add, rose_by_none}
use Rattle.medium_port.specs.Image.{Image}
use Rattle.medium_port.specs.Names.{IsJustSo}
use Rattle.medium_port.specs.declared.shelves.MediumName.{MediumName}
use Rattle.run_volumes.specs.declared.kept.Kept.{Kept}
use Rattle.run_volumes.specs.Kept.{AllKept, kept_as, kept_under, node_of}

-- ---- names

nat-same : (a b : ℕ) → (a ≡ b) ⊎ (a ≢ b)
nat-same a b = by (a == b) refl
  where
    by : (t : Bool) → (a == b) ≡ t → (a ≡ b) ⊎ (a ≢ b)
    by true e = inl (grind (arith, nat_tests))
    by false e = inr (λ same. absurd (grind (arith, nat_tests)))

kind-same : (a b : NodeKind) → (a ≡ b) ⊎ (a ≢ b)
kind-same Repository Repository = inl refl
kind-same Repository Broker = inr (λ e. absurd (cc e))
kind-same Broker Repository = inr (λ e. absurd (cc e))
kind-same Broker Broker = inl refl

pub name-same : (a b : MediumName) → (a ≡ b) ⊎ (a ≢ b)
name-same a b = by (kind-same a.kind b.kind) (nat-same a.number b.number) (nat-same a.volume b.volume)
  where
    by : (a.kind ≡ b.kind) ⊎ (a.kind ≢ b.kind) → (a.number ≡ b.number) ⊎ (a.number ≢ b.number) → (a.volume ≡ b.volume) ⊎ (a.volume ≢ b.volume) → (a ≡ b) ⊎ (a ≢ b)
    by (inl k) (inl n) (inl v) = inl (λ i. record { kind = k i; number = n i; volume = v i })
    by (inl k) (inl n) (inr v) = inr (λ e. v (ap (λ (x : MediumName). x.volume) e))
    by (inl k) (inr n) v = inr (λ e. n (ap (λ (x : MediumName). x.number) e))
    by (inr k) n v = inr (λ e. k (ap (λ (x : MediumName). x.kind) e))

-- ---- among these

has-split : {A : Type 0} (x : A) (xs ys : List A) → Has x (xs ++ ys) → Has x xs ⊎ Has x ys
has-split x [] ys h = inr h
has-split x (y ∷ xs) ys (inl e) = inl (inl e)
has-split x (y ∷ xs) ys (inr h) = by (has-split x xs ys h)
  where
    by : Has x xs ⊎ Has x ys → Has x (y ∷ xs) ⊎ Has x ys
    by (inl there) = inl (inr there)
    by (inr there) = inr there

has-front : {A : Type 0} (x : A) (xs ys : List A) → Has x xs → Has x (xs ++ ys)
has-front x [] ys h = absurd h
has-front x (y ∷ xs) ys (inl e) = inl e
has-front x (y ∷ xs) ys (inr h) = inr (has-front x xs ys h)

has-behind : {A : Type 0} (x : A) (xs ys : List A) → Has x ys → Has x (xs ++ ys)
has-behind x [] ys h = h
has-behind x (y ∷ xs) ys h = inr (has-behind x xs ys h)

-- whether the name is one of these
has-or-not : (name : MediumName) (names : List MediumName) → Has name names ⊎ (Has name names → ⊥)
has-or-not name [] = inr (λ h. h)
has-or-not name (x ∷ names) = by (name-same x name) (has-or-not name names)
  where
    by : (x ≡ name) ⊎ (x ≢ name) → Has name names ⊎ (Has name names → ⊥) → Has name (x ∷ names) ⊎ (Has name (x ∷ names) → ⊥)
    by (inl e) h = inl (inl e)
    by (inr far) (inl h) = inl (inr h)
    by (inr far) (inr none) = inr (λ h. neither h)
      where
        neither : Has name (x ∷ names) → ⊥
        neither (inl e) = far e
        neither (inr h) = none h

-- the names of a node's first volumes
pub names-below : (n : NodeId) (k : ℕ) (name : MediumName) → Has name (first_names n k) → (v : ℕ) × (v < k) × (name ≡ volume_name n v)
names-below n zero name h = absurd h
names-below n (suc k) name h = by (names-below n k name) (has-split name (first_names n k) (volume_name n k ∷ []) h)
  where
    by : (Has name (first_names n k) → (v : ℕ) × (v < k) × (name ≡ volume_name n v)) → Has name (first_names n k) ⊎ Has name (volume_name n k ∷ []) → (v : ℕ) × (v < suc k) × (name ≡ volume_name n v)
    by below (inl before) = let r = below before in let low = r.1 in (r.0, omega (arith, low), r.2)
    by below (inr (inl e)) = (k, omega arith, sym e)
    by below (inr (inr none)) = absurd none

-- the next volume has another name than those before it
pub apart : (n : NodeId) (k : ℕ) (name : MediumName) → Has name (volume_name n k ∷ []) → Has name (first_names n k) → ⊥
apart n k name (inl e) h = let r = names-below n k name h in let same : k ≡ r.0 = ap (λ (x : MediumName). x.volume) (e ∙ r.2) in let low = r.1 in absurd (omega (arith, same, low))
apart n k name (inr none) h = none

-- ---- what stays

just-joined : (had mid now : Image) (before between after : Image → Type 0) → IsJustSo had mid before between → IsJustSo mid now between after → IsJustSo had now before after
just-joined had mid now before between after p q = record { reads_same = q.reads_same ∙ p.reads_same; no_more = λ c h. p.no_more c (q.no_more c h); no_fewer = λ c h. q.no_fewer c (p.no_fewer c h) }

pub left-same : (tells : Bool) (a : ShelfSight) (name : MediumName) → IsLeft tells a a name
left-same tells a name = record { taken = (λ x. x, λ x. x); count = refl; content = λ t. record { reads_same = refl; no_more = λ c h. h; no_fewer = λ c h. h } }

left-joined : (tells : Bool) (a b c : ShelfSight) (name : MediumName) → IsLeft tells a b name → IsLeft tells b c name → IsLeft tells a c name
left-joined tells a b c name p q = record {
  taken = (λ x. p.taken.0 (q.taken.0 x), λ x. q.taken.1 (p.taken.1 x));
  count = q.count ∙ p.count;
  content = λ t. just-joined (a.holds name) (b.holds name) (c.holds name) (a.may_hold name) (b.may_hold name) (c.may_hold name) (p.content t) (q.content t);
}

-- ---- places in a list

get-front : {A : Type 0} (xs ys : List A) (i : ℕ) (x : A) → slice_get xs i ≡ Some x → slice_get (xs ++ ys) i ≡ Some x
get-front [] ys i x e = absurd cc
get-front (y ∷ xs) ys zero x e = e
get-front (y ∷ xs) ys (suc i) x e = get-front xs ys i x e

get-behind : {A : Type 0} (xs ys : List A) (i : ℕ) (x : A) → slice_get ys i ≡ Some x → slice_get (xs ++ ys) (length xs + i) ≡ Some x
get-behind [] ys i x e = let at : i ≡ 0 + i = omega arith in subst (λ k. slice_get ys k ≡ Some x) at e
get-behind (y ∷ xs) ys i x e = let at : suc (length xs + i) ≡ length (y ∷ xs) + i = omega arith in subst (λ k. slice_get (y ∷ (xs ++ ys)) k ≡ Some x) at (get-behind xs ys i x e)

module _ {M : Type 0} (w : Media M) where
  -- ---- taken one after another

  taken-left : (a b : ShelfSight) (name : MediumName) (m : M) → IsLeft w.tells a b name → IsTaken w b name m → IsTaken w a name m
  taken-left a b name m l k = record {
    content = λ t. just-joined (a.holds name) (b.holds name) (w.reads m) (a.may_hold name) (b.may_hold name) (w.may_leave m) (l.content t) (k.content t);
    count = k.count ∙ l.count;
    sound = k.sound;
    first = λ x. k.first (l.taken.1 x);
  }

  given-left : (a b : ShelfSight) (name : MediumName) (m : Option M) → IsLeft w.tells a b name → IsGiven w b name m → IsGiven w a name m
  given-left a b name None l h = tt
  given-left a b name (Some m) l h = taken-left a b name m l h

  -- given later, and left alone before
  are-left : (a b : ShelfSight) (names : List MediumName) (media : List (Option M)) → ((name : MediumName) → Has name names → IsLeft w.tells a b name) → AllZip (IsGiven w b) names media → AllZip (IsGiven w a) names media
  are-left a b [] [] l h = tt
  are-left a b [] (m ∷ ms) l h = absurd h
  are-left a b (n ∷ ns) [] l h = absurd h
  are-left a b (n ∷ ns) (m ∷ ms) l h = (given-left a b n m (l n (inl refl)) h.0, are-left a b ns ms (λ name at. l name (inr at)) h.1)

  zip-both : (a : ShelfSight) (ns : List MediumName) (xs : List (Option M)) (ms : List MediumName) (ys : List (Option M)) → AllZip (IsGiven w a) ns xs → AllZip (IsGiven w a) ms ys → AllZip (IsGiven w a) (ns ++ ms) (xs ++ ys)
  zip-both a [] [] ms ys h k = k
  zip-both a [] (x ∷ xs) ms ys h k = absurd h
  zip-both a (n ∷ ns) [] ms ys h k = absurd h
  zip-both a (n ∷ ns) (x ∷ xs) ms ys h k = (h.0, zip-both a ns xs ms ys h.1 k)

  pub zip-long : (a : ShelfSight) (ns : List MediumName) (xs : List (Option M)) → AllZip (IsGiven w a) ns xs → length ns ≡ length xs
  zip-long a [] [] h = refl
  zip-long a [] (x ∷ xs) h = absurd h
  zip-long a (n ∷ ns) [] h = absurd h
  zip-long a (n ∷ ns) (x ∷ xs) h = ap suc (zip-long a ns xs h.1)

  -- none was taken yet
  pub taken-none : (a : ShelfSight) → WereTaken w a a [] []
  taken-none a = record {
    asked = sym (append-nil a.asked);
    are = tt;
    missing = rose_by_none a.faults a.faults (omega arith);
    back = λ name is was. absurd (was is);
    others = λ name far. left-same w.tells a name;
  }

  -- one alone
  pub taken-one : (a b : ShelfSight) (name : MediumName) (m : Option M) → TakesOne w a b name m → WereTaken w a b (name ∷ []) (m ∷ [])
  taken-one a b name None t = record {
    asked = t.asked;
    are = (tt, tt);
    missing = t.gives.1;
    back = λ other is was. absurd (was ((t.gives.0 other).taken.0 is));
    others = λ other far. t.gives.0 other;
  }
  taken-one a b name (Some x) t = record {
    asked = t.asked;
    are = (t.gives.0, tt);
    missing = rose_by_none a.faults b.faults t.gives.2;
    back = λ other is was. by other is was (name-same other name);
    others = λ other far. t.gives.1 other (λ e. far (inl (sym e)));
  }
    where
      by : (other : MediumName) → b.is_taken other → (a.is_taken other → ⊥) → (other ≡ name) ⊎ (other ≢ name) → (place : ℕ) × (m : M) × (slice_get (name ∷ []) place ≡ Some other) × (slice_get (Some x ∷ []) place ≡ Some (Some m))
      by other is was (inl e) = (0, x, ap Some (sym e), refl)
      by other is was (inr far) = absurd (was ((t.gives.1 other far).taken.0 is))

  -- these, and then those, which have other names
  pub taken-both : (a b c : ShelfSight) (ns : List MediumName) (xs : List (Option M)) (ms : List MediumName) (ys : List (Option M)) → WereTaken w a b ns xs → WereTaken w b c ms ys →
      ((name : MediumName) → Has name ms → Has name ns → ⊥) → WereTaken w a c (ns ++ ms) (xs ++ ys)
  taken-both a b c ns xs ms ys p q other = record {
    asked = q.asked ∙ (ap (λ l. l ++ ms) p.asked ∙ append_assoc a.asked ns ms);
    are = zip-both a ns xs ms ys p.are (are-left a b ms ys (λ name h. p.others name (other name h)) q.are);
    missing = subst (λ k. RoseBy k a.faults c.faults) (sym (sum_by-append (λ x. cond (is_missing x) 1 0) xs ys)) (rises_add (count_by is_missing xs) (count_by is_missing ys) a.faults b.faults c.faults p.missing q.missing);
    back = λ name is was. by name is was (has-or-not name ms);
    others = λ name far. left-joined w.tells a b c name (p.others name (λ h. far (has-front name ns ms h))) (q.others name (λ h. far (has-behind name ns ms h)));
  }
    where
      by : (name : MediumName) → c.is_taken name → (a.is_taken name → ⊥) → Has name ms ⊎ (Has name ms → ⊥) → (place : ℕ) × (m : M) × (slice_get (ns ++ ms) place ≡ Some name) × (slice_get (xs ++ ys) place ≡ Some (Some m))
      by name is was (inl h) =
          let r = q.back name is (λ there. was ((p.others name (other name h)).taken.0 there)) in
          let long = zip-long a ns xs p.are in
          (length ns + r.0, r.1, get-behind ns ms r.0 name r.2, ap (λ k. slice_get (xs ++ ys) (k + r.0)) long ∙ get-behind xs ys r.0 (Some r.1) r.3)
      by name is was (inr far) =
          let r = p.back name ((q.others name far).taken.0 is) was in
          (r.0, r.1, get-front ns ms r.0 name r.2, get-front xs ys r.0 (Some r.1) r.3)

  -- and one more of a node's volumes
  pub taken-more : (a b c : ShelfSight) (n : NodeId) (xs : List (Option M)) (m : Option M) → WereTaken w a b (first_names n (length xs)) xs → TakesOne w b c (volume_name n (length xs)) m →
      WereTaken w a c (first_names n (length (xs ++ m ∷ []))) (xs ++ m ∷ [])
  taken-more a b c n xs m p q =
      let long : suc (length xs) ≡ length (xs ++ m ∷ []) = let e = length-append xs (m ∷ []) in omega (arith, e) in
      subst (λ k. WereTaken w a c (first_names n k) (xs ++ m ∷ [])) long
      (taken-both a b c (first_names n (length xs)) xs (volume_name n (length xs) ∷ []) (m ∷ []) p (taken-one b c (volume_name n (length xs)) m q) (apart n (length xs)))

  -- a medium that stood on a shelf hasn't failed
  pub one-usable : (a b : ShelfSight) (name : MediumName) (m : Option M) → TakesOne w a b name m → IsUsable w m
  one-usable a b name None t = tt
  one-usable a b name (Some x) t = t.gives.0.sound

-- ---- handed back

pub names-long : (n : NodeId) (k : ℕ) → length (first_names n k) ≡ k
names-long n zero = refl
names-long n (suc k) = let e = length-append (first_names n k) (volume_name n k ∷ []) in let r = names-long n k in omega (arith, e, r)

module _ {M : Type 0} where
  kept-more : (ns : List MediumName) (xs : List (Option M)) (name : MediumName) (m : Option M) → length ns ≡ length xs → kept_under {M = M} (ns ++ name ∷ []) (xs ++ m ∷ []) ≡ kept_under ns xs ++ kept_as name m
  kept-more [] [] name m e = append-nil (kept_as name m)
  kept-more [] (x ∷ xs) name m e = absurd (omega (arith, e))
  kept-more (n ∷ ns) [] name m e = absurd (omega (arith, e))
  kept-more (n ∷ ns) (x ∷ xs) name m e =
      ap (λ l. kept_as n x ++ l) (kept-more ns xs name m (omega (arith, e))) ∙ sym (append_assoc (kept_as n x) (kept_under ns xs) (kept_as name m))

  -- one more medium of a node is kept, behind others
  pub keep-joined : (n : NodeId) (xs ys : List (Option M)) (m : Option M) (front k all : List (Kept M)) (v : ℕ) → ys ≡ xs ++ m ∷ [] → v ≡ length xs → k ≡ front ++ kept_under (first_names n (length xs)) xs →
      all ≡ k ++ kept_as (volume_name n v) m → all ≡ front ++ kept_under (first_names n (length ys)) ys
  keep-joined n xs ys m front k all v are at is more =
      let long : length ys ≡ suc (length xs) = let e = ap length are ∙ length-append xs (m ∷ []) in omega (arith, e) in
      more ∙ ap (λ l. l ++ kept_as (volume_name n v) m) is ∙ append_assoc front (kept_under (first_names n (length xs)) xs) (kept_as (volume_name n v) m)
      ∙ ap (λ l. front ++ l) (ap (λ i. kept_under (first_names n (length xs)) xs ++ kept_as (volume_name n i) m) at
      ∙ (sym (kept-more (first_names n (length xs)) xs (volume_name n (length xs)) m (names-long n (length xs)))
      ∙ (ap (kept_under (first_names n (suc (length xs)))) (sym are) ∙ ap (λ i. kept_under (first_names n i) ys) (sym long))))

  pub kept-has : (names : List MediumName) (xs : List (Option M)) (place : ℕ) (name : MediumName) (m : M) → slice_get names place ≡ Some name → slice_get xs place ≡ Some (Some m) →
      Has (record { node = node_of name; volume = name.volume; medium = m }) (kept_under {M = M} names xs)
  kept-has [] xs place name m e h = absurd cc
  kept-has (n ∷ ns) [] place name m e h = absurd cc
  kept-has (n ∷ ns) (x ∷ xs) zero name m e h =
      let is : x ≡ Some m = cc in
      let named : n ≡ name = cc in
      subst (λ y. Has (record { node = node_of name; volume = name.volume; medium = m }) (kept_as n y ++ kept_under ns xs)) (sym is)
      (inl (ap (λ (k : MediumName). record { node = node_of k; volume = k.volume; medium = m }) named))
  kept-has (n ∷ ns) (x ∷ xs) (suc place) name m e h = has-behind (record { node = node_of name; volume = name.volume; medium = m }) (kept_as n x) (kept_under ns xs) (kept-has ns xs place name m e h)

  back-at : (media left : List (Option M)) (i : ℕ) (m : M) → AreBack media left → slice_get media i ≡ Some (Some m) → (new : M) × (slice_get left i ≡ Some (Some new))
  back-at [] [] i m b e = absurd cc
  back-at [] (y ∷ ys) i m b e = absurd b
  back-at (x ∷ xs) [] i m b e = absurd b
  back-at (x ∷ xs) (None ∷ ys) zero m b e = let is : x ≡ Some m = cc in absurd (subst (λ z. IsBack z None) is b.0)
  back-at (x ∷ xs) (Some y ∷ ys) zero m b e = (y, refl)
  back-at (x ∷ xs) (y ∷ ys) (suc i) m b e = back-at xs ys i m b.1 e

  -- each medium that was taken is handed back
  pub all-kept : (w : Media M) (old new : ShelfSight) (names : List MediumName) (media left : List (Option M)) → WereTaken w old new names media → AreBack media left → AllKept old new (kept_under {M = M} names left)
  all-kept w old new names media left taken back name is was =
      let h = taken.back name is was in
      let b = back-at media left h.0 h.1 back h.3 in
      (node_of name, name.volume, b.0, refl, kept-has names left h.0 name b.0 h.2 b.1)
