-- The archive of a repository's volumes has each version of its logs, older and last, once; and it settles attempts as the last log does.
use Rattle.archive_law.proofs.Names.{Has, repository, StampParts, TimeParts, Decision, NodeId, has-either, has-left, has-reverse, has-right, ObjectId, Value, Effect, Post, Mark, floor_of, settle_of, Distinct, Gone, is_commit, known, marks, decide-home, decided-once, put-logged, is_under, joined, put-asked, Tree, Base, node_facts, OlderFacts, each-has, has-map, map-has, marks-append, archive, ◌≡◌, ◌⊎◌, ◌≤◌, inl, inr, ℕ, Bool, true, List, [], ◌∷◌, ◌++◌, map, reverse, refl, sym, ◌∙◌, ap, subst, Some, map-append, reverse-append, reverse-reverse, chain-distinct, chain-given, some-given, one-value, SettledBy, put-marks, settle-marks, its-all, its-chain, some-history}
use Rattle.effect_form.specs.declared.effects.Effect.TheVariants as effect
use Rattle.object_history.specs.declared.marks.Mark.TheVariants as mark
use Rattle.object_retirement.specs.Chains as chains
use Rattle.object_retirement.specs.Stood.{all_stood}
use Rattle.serial_law.proofs.Puts.{stands-put}
use Rattle.archive_law.proofs.JoinedLemmas.{joined-distinct, joined-from, joined-settles, joined-some}

pub marks-reverse : (l : List Effect) → marks (reverse l) ≡ reverse (marks l)
marks-reverse [] = refl
marks-reverse (f ∷ l) =
    ap marks (reverse-append (f ∷ []) l) ∙ marks-append (reverse l) (f ∷ []) ∙ ap (λ m. m ++ marks (f ∷ [])) (marks-reverse l)
    ∙ ap (λ m. reverse (marks l) ++ m) (elim f as (λ f. marks (f ∷ []) ≡ reverse (marks (f ∷ []))) [ effect.Put o x v ↦ refl | _ ↦ refl ]) ∙ sym (ap reverse (marks-append (f ∷ []) l) ∙ reverse-append (marks (f ∷ [])) (marks l))

-- a Put of a log is one of its marks
pub put-marked : (l : List Effect) (o : ObjectId) (x : TimeParts) (v : Value) → Has (effect.Put o x v) l → Has (mark.Put o x v) (marks l)
put-marked l o x v h = stands-put (marks l) o x v (put-marks l o x v h)

-- an element of a list that was turned round
pub unturned : {A : Type 0} (xs : List A) (x : A) → Has x (reverse xs) → Has x xs
unturned xs x h = subst (Has x) (reverse-reverse xs) (has-reverse (reverse xs) x h)

module _ (script : List ℕ → Tree) (b : Base) (logs : NodeId → List Effect) (olds : NodeId → List (List Effect)) (past sent : List Post) (May : ℕ → Type 0)
    (f : OlderFacts (node_facts script) b logs olds past sent May) where
  -- ---- decisions

  -- the attempt was decided so at its home
  abbrev pub Decided : StampParts → Bool → Type 0
  Decided s c = (d : Decision) × Has (effect.Decide s d) (logs (repository s.home)) × (c ≡ is_commit d)

  pub one-decided : (s : StampParts) (c d : Bool) → Decided s c → Decided s d → c ≡ d
  one-decided s c d h k =
      h.2 ∙ ap is_commit (decided-once s.home (reverse (logs (repository s.home))) s h.0 k.0 (f.tidy (repository s.home))
      (has-reverse (logs (repository s.home)) (effect.Decide s h.0) h.1) (has-reverse (logs (repository s.home)) (effect.Decide s k.0) k.1)) ∙ sym k.2

  module _ (r : ℕ) where
    -- oldest effect first
    abbrev log : List Effect
    log = logs (repository r)

    abbrev old_logs : List (List Effect)
    old_logs = olds (repository r)

    -- newest effect first
    abbrev now : List Effect
    now = reverse log

    abbrev gone : List (List Effect)
    gone = map reverse old_logs

    pub chain-here : chains.Chain (map marks gone) (marks now)
    chain-here = its-chain script b logs olds past sent May f r

    pub all-here : (o : ObjectId) → chains.AllOf (map marks gone) (marks now) (all_stood (map marks gone) (marks now)) o
    all-here = its-all script b logs olds past sent May f r

    -- ---- one of the logs

    marked : (l : List Effect) (o : ObjectId) (x : TimeParts) (v : Value) → Has (effect.Put o x v) l → Has (mark.Put o x v) (marks (reverse l))
    marked l o x v h = put-marked (reverse l) o x v (has-reverse l (effect.Put o x v) h)

    pub stands-all : (l : List Effect) (o : ObjectId) (x : TimeParts) (v : Value) → Has l (log ∷ old_logs) → Has (effect.Put o x v) l → Has (mark.Put o x v) (all_stood (map marks gone) (marks now))
    stands-all l o x v h k = (all-here o).each x v (some-history (λ m. Has (mark.Put o x v) m) (now ∷ gone) (reverse l) (has-map reverse (log ∷ old_logs) l h) (marked l o x v k))

    pub same-value : (l k : List Effect) (o : ObjectId) (x : TimeParts) (v w : Value) → Has l (log ∷ old_logs) → Has k (log ∷ old_logs) → Has (effect.Put o x v) l → Has (effect.Put o x w) k → v ≡ w
    same-value l k o x v w h j p q = one-value o (all_stood (map marks gone) (marks now)) x v w (all-here o).distinct (stands-all l o x v h p) (stands-all k o x w j q)

    -- a version is one of the repository's, and its step is 1 or more
    pub put-home : (l : List Effect) (o : ObjectId) (x : TimeParts) (v : Value) → Has l (log ∷ old_logs) → Has (effect.Put o x v) l → o.repository ≡ r
    put-home l o x v h k = (put-asked script b logs olds past sent May f r (reverse l) o x v (has-map reverse (log ∷ old_logs) l h) (has-reverse l (effect.Put o x v) k)).1

    pub put-step : (l : List Effect) (o : ObjectId) (x : TimeParts) (v : Value) → Has l (log ∷ old_logs) → Has (effect.Put o x v) l → 1 ≤ x.step
    put-step l o x v h k = (all-here o).steps x v (stands-all l o x v h k)

    -- what stood stands still, or a retirement gave it up
    pub here-or-gone : (l : List Effect) (o : ObjectId) (x : TimeParts) (v : Value) → Has l (log ∷ old_logs) → Has (effect.Put o x v) l → Has (mark.Put o x v) (marks now) ⊎ Gone (marks now) o x
    here-or-gone l o x v (inl e) k = inl (subst (λ z. Has (mark.Put o x v) (marks (reverse z))) (sym e) (marked l o x v k))
    here-or-gone l o x v (inr j) k =
        some-given (marks now) o x v (map marks gone) (chain-given (map marks gone) (marks now) chain-here)
        (some-history (λ m. Has (mark.Put o x v) m) gone (reverse l) (has-map reverse old_logs l j) (marked l o x v k))

    -- ---- the volumes

    abbrev pub volumes : List (List Effect)
    volumes = reverse (olds (repository r)) ++ logs (repository r) ∷ []

    abbrev front : List (List Mark)
    front = map marks (reverse old_logs)

    abbrev last : List Mark
    last = marks log

    volumes-marks : map marks volumes ≡ front ++ last ∷ []
    volumes-marks = map-append marks (reverse old_logs) (log ∷ [])

    archive-joined : archive volumes ≡ reverse (joined (front ++ last ∷ []))
    archive-joined = ap (λ ms. reverse (joined ms)) volumes-marks

    is-now : marks now ≡ reverse last
    is-now = marks-reverse log

    -- the logs are the volumes'
    in-volumes : (l : List Effect) → Has l (log ∷ old_logs) → Has (marks l) (front ++ last ∷ [])
    in-volumes l h = subst (Has (marks l)) volumes-marks (has-map marks volumes l (place h))
      where
        place : Has l (log ∷ old_logs) → Has l (reverse old_logs ++ log ∷ [])
        place (inl e) = has-right (reverse old_logs) (log ∷ []) l (inl e)
        place (inr k) = has-left (reverse old_logs) (log ∷ []) l (has-reverse old_logs l k)

    of-volumes : (m : List Mark) → Has m (front ++ last ∷ []) → (l : List Effect) × Has l (log ∷ old_logs) × (marks l ≡ m)
    of-volumes m h =
        let k = map-has marks volumes m (subst (Has m) (sym volumes-marks) h) in
        (k.0, place k.0 (has-either (reverse old_logs) (log ∷ []) k.0 k.1), k.2)
      where
        place : (l : List Effect) → Has l (reverse old_logs) ⊎ Has l (log ∷ []) → Has l (log ∷ old_logs)
        place l (inl k) = inr (unturned old_logs l k)
        place l (inr (inl e)) = inl e
        place l (inr (inr k)) = absurd k

    -- ---- the archive

    -- a version of the archive stands in one of the logs
    pub archive-from : (o : ObjectId) (x : TimeParts) (v : Value) → Has (mark.Put o x v) (archive volumes) → (l : List Effect) × Has l (log ∷ old_logs) × Has (effect.Put o x v) l
    archive-from o x v h =
        let k = joined-from front last o x v (subst (Has (mark.Put o x v)) archive-joined h) in
        let l = of-volumes k.0 k.1 in
        (l.0, l.1, put-logged l.0 o x v (subst (Has (mark.Put o x v)) (sym l.2) k.2))

    -- and each version of one of the logs stands in the archive
    pub archive-has : (o : ObjectId) (x : TimeParts) (v : Value) (l : List Effect) → Has l (log ∷ old_logs) → Has (effect.Put o x v) l → Has (mark.Put o x v) (archive volumes)
    archive-has o x v l h k =
        let some = joined-some front last o x v (marks l) (in-volumes l h) (put-marked l o x v k) (stands (here-or-gone l o x v h k)) in
        let there : Has (mark.Put o x some.0) (archive volumes) = subst (Has (mark.Put o x some.0)) (sym archive-joined) some.1 in
        let from = archive-from o x some.0 there in
        subst (λ w. Has (mark.Put o x w) (archive volumes)) (same-value from.0 l o x some.0 v from.1 h from.2 k) there
      where
        stands : Has (mark.Put o x v) (marks now) ⊎ Gone (marks now) o x → Has (mark.Put o x v) (reverse last) ⊎ (is_under (floor_of (reverse last)) x ≡ true)
        stands (inl j) = inl (subst (Has (mark.Put o x v)) is-now j)
        stands (inr g) = inr (ap (λ e. is_under e x) (ap floor_of (sym is-now) ∙ g.1) ∙ g.2)

    pub archive-distinct : Distinct (archive volumes)
    archive-distinct = subst Distinct (sym archive-joined) (joined-distinct front last (subst Distinct is-now (chain-distinct (map marks gone) (marks now) chain-here)))

    pub archive-settles : (s : StampParts) → settle_of (archive volumes) s ≡ known now s
    archive-settles s = ap (λ m. settle_of m s) archive-joined ∙ joined-settles front last s ∙ ap (λ m. settle_of m s) (sym is-now)

    -- how the log settles an attempt its home decided
    pub known-home : (s : StampParts) (c : Bool) → known now s ≡ Some c → Decided s c
    known-home s c h = by (settle-marks now s c h)
      where
        by : SettledBy now s c → Decided s c
        by (inl k) = (k.0, subst (λ z. Has (effect.Decide s k.0) (logs (repository z))) (sym (decide-home r now s k.0 (f.tidy (repository r)) k.1)) (unturned log (effect.Decide s k.0) k.1), k.2)
        by (inr k) = let d = ((each-has _ now (effect.Learn s c) (f.proofs (repository r)) k).1) in (d.0, unturned (logs (repository s.home)) (effect.Decide s d.0) d.1, d.2)
