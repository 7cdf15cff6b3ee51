-- Volumes that are opened one after another.
use Rattle.run_volumes.proofs.Names.{◌≡◌, ◌≤◌, ◌<◌, ◌+◌, ℕ, zero, suc, Bool, true, false, ◌==◌, ◌&&◌, ◌||◌, not, nat_lt, if◌then◌else◌, List, [], ◌∷◌, ◌++◌, length, length-append, refl, ap, sym, subst, ◌∙◌, arith, slice_index_or, Option, Some, None, AllZip, nat_tests, NodeId, NodeKind, Repository, Broker, Opening, Open, Shut, Wanting, Media, HasOpened, log_in, ShelfSight, TakesOne, WereTaken, first_names, volume_name, log_at, AreVolumes, GoOn, fresh_from, goes_on, is_empty_log, logs_of}
use Rattle.std.proofs.lemmas.Bool.{false≢true}
use Rattle.run_volumes.proofs.ShelfLemmas.{taken-more, taken-none}

-- ---- no volume follows behind volume 999

and-second : (b c : Bool) → (b && c) ≡ true → c ≡ true
and-second true c h = h
and-second false c h = absurd (false≢true h)

module _ {M : Type 0} {g : _} where
  goes-low : (kind : NodeKind) (v : ℕ) (o : Opening M g) → goes_on kind v o ≡ true → v < 999
  goes-low Repository v (Open store effects) h = let k : nat_lt v 999 ≡ true = and-second (v == 0 || not (is_empty_log effects.items)) (nat_lt v 999) h in grind (arith, nat_tests)
  goes-low Broker v (Open store effects) h = absurd (false≢true h)
  goes-low kind v (Shut medium cause) h = absurd (false≢true h)
  goes-low kind v (Wanting medium) h = absurd (false≢true h)

  pub go-few : (kind : NodeKind) (v : ℕ) (os : List (Opening M g)) → v ≤ 999 → GoOn kind v os → v + length os ≤ 999
  go-few kind v [] low h = omega (arith, low)
  go-few kind v (o ∷ os) low h = let l = goes-low kind v o h.0 in let k = go-few kind (suc v) os (omega (arith, l)) h.1 in omega (arith, k)

  go-more : (kind : NodeKind) (v : ℕ) (os : List (Opening M g)) (o : Opening M g) → GoOn kind v os → goes_on kind (v + length os) o ≡ true → GoOn kind v (os ++ o ∷ [])
  go-more kind v [] o h e = (subst (λ k. goes_on kind k o ≡ true) (omega arith) e, tt)
  go-more kind v (p ∷ os) o h e = (h.0, go-more kind (suc v) os o h.1 (subst (λ k. goes_on kind k o ≡ true) (omega arith) e))

-- ---- the fresh one is the last

none-fresh : (v : ℕ) (b : Bool) → ((v == 0 || not b) && nat_lt v 999) ≡ true → (nat_lt 0 v && b) ≡ false
none-fresh v true h = grind (arith, nat_tests)
none-fresh v false h = and-no (nat_lt 0 v)
  where
    and-no : (c : Bool) → (c && false) ≡ false
    and-no true = refl
    and-no false = refl

one-fresh : (v u : ℕ) (b c : Bool) → (if b && c then Some v else None) ≡ Some u → (u ≡ v) × (c ≡ true)
one-fresh v u true true h = (sym (cc h), refl)
one-fresh v u true false h = absurd (cc h)
one-fresh v u false c h = absurd (cc h)

module _ {M : Type 0} {g : _} where
  goes-full : (kind : NodeKind) (v : ℕ) (o : Opening M g) → goes_on kind v o ≡ true → (nat_lt 0 v && is_empty_log (log_in o)) ≡ false
  goes-full Repository v (Open store effects) h = none-fresh v (is_empty_log effects.items) h
  goes-full Broker v (Open store effects) h = absurd (false≢true h)
  goes-full kind v (Shut medium cause) h = absurd (false≢true h)
  goes-full kind v (Wanting medium) h = absurd (false≢true h)

  -- where each of the front goes on, only the last can be the fresh one
  pub fresh-last : (kind : NodeKind) (v u : ℕ) (front : List (Opening M g)) (last : Opening M g) → GoOn kind v front → fresh_from v (logs_of (front ++ last ∷ [])) ≡ Some u →
      (u ≡ v + length front) × (is_empty_log (log_in last) ≡ true)
  fresh-last kind v u [] last h e = let f = one-fresh v u (nat_lt 0 v) (is_empty_log (log_in last)) e in (f.0 ∙ omega arith, f.1)
  fresh-last kind v u (o ∷ front) last h e =
      let f = fresh-last kind (suc v) u front last h.1 (sym (ap (λ b. if b then Some v else fresh_from (suc v) (logs_of (front ++ last ∷ []))) (goes-full kind v o h.0)) ∙ e) in
      (f.0 ∙ omega arith, f.1)

  -- ---- a volume by its number

  pub log-there : (os : List (Opening M g)) (v : ℕ) (o : Opening M g) → v < length os → o ≡ slice_index_or os v o → log_at (logs_of os) v ≡ log_in o
  log-there [] v o low e = absurd (omega (arith, low))
  log-there (p ∷ os) zero o low e = ap log_in (sym e)
  log-there (p ∷ os) (suc v) o low e = log-there os v o (omega (arith, low)) e

  pub log-nowhere : (os : List (Opening M g)) (v : ℕ) → length os ≤ v → log_at (logs_of os) v ≡ []
  log-nowhere [] v high = refl
  log-nowhere (p ∷ os) zero high = absurd (omega (arith, high))
  log-nowhere (p ∷ os) (suc v) high = log-nowhere os v (omega (arith, high))

-- ---- one volume more

-- these were taken and opened, and the next one is taken behind them
pub record Opened {M : Type 0} (w : Media M) {g : _} (old new : ShelfSight) (n : NodeId) (openings : List (Opening M g)) : Type 0 where
  pub media : List (Option M)
  pub count : length media ≡ length openings
  pub taken : WereTaken w old new (first_names n (length media)) media
  pub opened : AllZip (HasOpened w) media openings
  pub go_on : GoOn n.kind 0 openings

module _ {M : Type 0} (w : Media M) {g : _} where
  zip-more : (xs : List (Option M)) (os : List (Opening M g)) (m : Option M) (o : Opening M g) → AllZip (HasOpened w) xs os → HasOpened w m o → AllZip (HasOpened w) (xs ++ m ∷ []) (os ++ o ∷ [])
  zip-more [] [] m o h k = (k, tt)
  zip-more [] (p ∷ os) m o h k = absurd h
  zip-more (x ∷ xs) [] m o h k = absurd h
  zip-more (x ∷ xs) (p ∷ os) m o h k = (h.0, zip-more xs os m o h.1 k)

  pub opened-none : (a : ShelfSight) (n : NodeId) (os : List (Opening M g)) → os ≡ [] → Opened w a a n os
  opened-none a n os e = subst (Opened w a a n) (sym e) (record { media = []; count = refl; taken = taken-none w a; opened = tt; go_on = tt })

  pub opened-more : (a b c : ShelfSight) (n : NodeId) (v : ℕ) (os all : List (Opening M g)) (m : Option M) (o : Opening M g) → Opened w a b n os → length os ≡ v → TakesOne w b c (volume_name n v) m → HasOpened w m o →
      goes_on n.kind v o ≡ true → all ≡ os ++ o ∷ [] → Opened w a c n all
  opened-more a b c n v os all m o h len takes opens goes is = subst (Opened w a c n) (sym is) (record {
    media = h.media ++ m ∷ [];
    count = length-append h.media (m ∷ []) ∙ (ap (λ k. k + 1) h.count ∙ sym (length-append os (o ∷ [])));
    taken = taken-more w a b c n h.media m h.taken (subst (λ k. TakesOne w b c (volume_name n k) m) (sym (h.count ∙ len)) takes);
    opened = zip-more h.media os m o h.opened opens;
    go_on = go-more n.kind 0 os o h.go_on (subst (λ k. goes_on n.kind k o ≡ true) (sym len ∙ omega arith) goes);
  })

  pub volumes-end : (a b c : ShelfSight) (n : NodeId) (v : ℕ) (os all : List (Opening M g)) (m : Option M) (o : Opening M g) → Opened w a b n os → length os ≡ v → TakesOne w b c (volume_name n v) m → HasOpened w m o →
      goes_on n.kind v o ≡ false → all ≡ os ++ o ∷ [] → (media : List (Option M)) × AreVolumes w a c n media all
  volumes-end a b c n v os all m o h len takes opens ends is = (
    h.media ++ m ∷ [],
    record {
      taken = taken-more w a b c n h.media m h.taken (subst (λ k. TakesOne w b c (volume_name n k) m) (sym (h.count ∙ len)) takes);
      opened = subst (AllZip (HasOpened w) (h.media ++ m ∷ [])) (sym is) (zip-more h.media os m o h.opened opens);
      ends = record { front = os; last = o; is = is; go_on = h.go_on; ends = subst (λ k. goes_on n.kind k o ≡ false) (sym len) ends };
    },
  )
