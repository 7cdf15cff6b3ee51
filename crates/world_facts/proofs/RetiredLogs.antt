-- What a retirement leaves of a repository's log is tidy, each of its effects has what must have come before it, and each decision stands.
use Rattle.world_facts.proofs.Names.{TimeParts, lt, ObjectId, Value, Effect, Put, Stretch, Begin, Decide, Learn, Mark, Whole, Each, version_count, marks, forwarded, ◌≡◌, ◌≢◌, ℕ, Bool, true, false, List, [], ◌∷◌, if◌then◌else◌, sym, ◌∙◌, subst, Starts, carried, known-carried, marks-carried, record-carried, IsTidy}
use Rattle.object_retirement.specs.Retired.{stays_put}
use Rattle.object_retirement.proofs.RetiredLemmas.{starts-kept}

-- ---- tidy logs

tidy-put : (r : ℕ) (b : Bool) (o : ObjectId) (x : TimeParts) (v : Value) (k : List Effect) → o.repository ≡ r → Starts (λ y. y ≢ x) o (marks k) → IsTidy r k → IsTidy r (if b then Put o x v ∷ k else k)
tidy-put r true o x v k home starts t = (home, starts, t)
tidy-put r false o x v k home starts t = t

tidy-stretch : (r : ℕ) (b : Bool) (o : ObjectId) (x : TimeParts) (k : List Effect) → o.repository ≡ r → IsTidy r k → IsTidy r (if b then Stretch o x ∷ k else k)
tidy-stretch r true o x k home t = (home, t)
tidy-stretch r false o x k home t = t

tidy-carried : (r : ℕ) (all : List Effect) (at : TimeParts) (l : List Effect) → IsTidy r l → IsTidy r (carried all at l)
tidy-carried r all at [] t = tt
tidy-carried r all at (Put o x v ∷ l) t =
    tidy-put r (stays_put (marks all) at o x (version_count o (marks l))) o x v (carried all at l) t.0
    (subst (Starts (λ y. y ≢ x) o) (sym (marks-carried all at l)) (starts-kept (λ y. y ≢ x) o (marks all) at (marks l) t.1)) (tidy-carried r all at l t.2)
tidy-carried r all at (Stretch o x ∷ l) t = tidy-stretch r (lt at x) o x (carried all at l) t.0 (tidy-carried r all at l t.1)
tidy-carried r all at (Begin s d ∷ l) t = (t.0, tidy-carried r all at l t.1)
tidy-carried r all at (Decide s d ∷ l) t = (t.0, (t.1.0, record-carried all at l s ∙ t.1.1, t.1.2), tidy-carried r all at l t.2)
tidy-carried r all at (Learn s c ∷ l) t = (t.0, known-carried all at l s ∙ t.1, tidy-carried r all at l t.2)
tidy-carried r all at (Mark x ∷ l) t = tidy-carried r all at l t
tidy-carried r all at (Whole ∷ l) t = tidy-carried r all at l t
tidy-carried r all at (f ∷ l) t = absurd t

pub tidy-forwarded : (r : ℕ) (l : List Effect) (at : TimeParts) → IsTidy r l → IsTidy r (forwarded l at)
tidy-forwarded r l at t = tidy-carried r l at l t

-- ---- what each effect has

module _ (P : Effect → Type 0) where
  each-if : (b : Bool) (f : Effect) (k : List Effect) → P f → Each (λ log g. P g) k → Each (λ log g. P g) (if b then f ∷ k else k)
  each-if true f k p h = (h, p)
  each-if false f k p h = h

  each-carried : (all : List Effect) (at : TimeParts) (l : List Effect) → P (Mark at) → Each (λ log g. P g) l → Each (λ log g. P g) (carried all at l)
  each-carried all at [] m h = (tt, m)
  each-carried all at (Put o x v ∷ l) m h = each-if (stays_put (marks all) at o x (version_count o (marks l))) (Put o x v) (carried all at l) h.1 (each-carried all at l m h.0)
  each-carried all at (Stretch o x ∷ l) m h = each-if (lt at x) (Stretch o x) (carried all at l) h.1 (each-carried all at l m h.0)
  each-carried all at (Mark x ∷ l) m h = each-carried all at l m h.0
  each-carried all at (Whole ∷ l) m h = each-carried all at l m h.0
  each-carried all at (f ∷ l) m h = (each-carried all at l m h.0, h.1)

  pub each-forwarded : (l : List Effect) (at : TimeParts) → P (Mark at) → P Whole → Each (λ log g. P g) l → Each (λ log g. P g) (forwarded l at)
  each-forwarded l at m w h = (each-carried l at l m h, w)
