-- The versions that ever stood in the logs of a repository: which of them stand still, and which one is the last.
use Rattle.serial_law.proofs.Names.{Every, Has, repository, StampParts, TimeParts, NodeId, every-has, ObjectId, Value, Effect, Post, Mark, scan, settle_of, Gone, Same, all_stood, WriteSent, put-logged, marks, Tree, Base, node_facts, OlderFacts, each-has, some-history, whole_log, ◌≡◌, ℕ, Bool, true, false, List, ◌∷◌, ◌++◌, map, reverse, sym, subst, ◌⊎◌, inl, inr, Some, chain-given, last-stays, some-given, OldOk, all-of, chain-of}
use Rattle.effect_form.specs.declared.effects.Effect.TheVariants as effect
use Rattle.object_history.specs.declared.marks.Mark.TheVariants as mark
use Rattle.object_retirement.specs.Chains as chains
use Rattle.serial_law.proofs.LogLemmas.{put-marks}
use Rattle.serial_law.proofs.Puts.{stands-put}
use Rattle.serial_law.proofs.WholeLemmas.{marks-whole, put-once}

-- a Put of a log is one of its marks
put-marked : (l : List Effect) (o : ObjectId) (x : TimeParts) (v : Value) → Has (effect.Put o x v) l → Has (mark.Put o x v) (marks l)
put-marked l o x v h = stands-put (marks l) o x v (put-marks l o x v h)

module _ (script : List ℕ → Tree) (b : Base) (logs : NodeId → List Effect) (olds : NodeId → List (List Effect)) (past sent : List Post) (May : ℕ → Type 0)
    (f : OlderFacts (node_facts script) b logs olds past sent May) (r : ℕ) where
  abbrev now : List Effect
  now = reverse (logs (repository r))

  abbrev gone : List (List Effect)
  gone = map reverse (olds (repository r))

  pub its-chain : chains.Chain (map marks gone) (marks now)
  its-chain = chain-of script r gone now (f.lineage (repository r))

  pub its-all : (o : ObjectId) → chains.AllOf (map marks gone) (marks now) (all_stood (map marks gone) (marks now)) o
  its-all o = all-of script b logs olds past sent May f r o

  -- each of the logs is tidy, and its effects have what must have come before them
  all-old : (l : List Effect) → Has l (now ∷ gone) → OldOk (node_facts script) (record { ever = past ++ sent; logs = λ n. reverse (logs n); ticks = f.ticks }) (repository r) l
  all-old l h =
      let every : Every (OldOk (node_facts script) (record { ever = past ++ sent; logs = λ n. reverse (logs n); ticks = f.ticks }) (repository r)) (now ∷ gone) = ((f.tidy (repository r), f.proofs (repository r)), f.older (repository r)) in
      every-has (OldOk (node_facts script) (record { ever = past ++ sent; logs = λ n. reverse (logs n); ticks = f.ticks }) (repository r)) (now ∷ gone) l every h

  pub put-asked : (l : List Effect) (o : ObjectId) (x : TimeParts) (v : Value) → Has l (now ∷ gone) → Has (effect.Put o x v) l → WriteSent (past ++ sent) r x o v
  put-asked l o x v k h = (each-has _ l (effect.Put o x v) (all-old l k).1 h).1

  -- a version of one of them is one of all
  pub put-whole : (l : List Effect) (o : ObjectId) (x : TimeParts) (v : Value) → Has l (now ∷ gone) → Has (effect.Put o x v) l → Has (effect.Put o x v) (whole_log gone now)
  put-whole l o x v k h =
      put-logged (whole_log gone now) o x v
      (subst (Has (mark.Put o x v)) (sym (marks-whole gone now)) ((its-all o).each x v (some-history (λ m. Has (mark.Put o x v) m) (now ∷ gone) l k (put-marked l o x v h))))

  -- one of all stands still, or was given up
  pub kept-or-gone : (o : ObjectId) (x : TimeParts) (v : Value) → Has (effect.Put o x v) (whole_log gone now) → Has (effect.Put o x v) now ⊎ Gone (marks now) o x
  kept-or-gone o x v h = by (put-once gone now (effect.Put o x v) h)
    where
      by : ((l : List Effect) × Has l (now ∷ gone) × Has (effect.Put o x v) l) → Has (effect.Put o x v) now ⊎ Gone (marks now) o x
      by (l, inl e, k) = inl (subst (Has (effect.Put o x v)) (sym e) k)
      by (l, inr j, k) =
          elim (some-given (marks now) o x v (map marks gone) (chain-given (map marks gone) (marks now) its-chain) (some-history (λ m. Has (mark.Put o x v) m) gone l j (put-marked l o x v k))) [
            | inl h ↦ inl (put-logged now o x v h)
            | inr g ↦ inr g
          ]

  -- the last committed version is the same among all
  pub same-last : (o : ObjectId) (sure : StampParts → Bool) → ((s : StampParts) → settle_of (marks now) s ≡ Some false → sure s ≡ false) → ((s : StampParts) → settle_of (marks now) s ≡ Some true → sure s ≡ true) →
      Same (scan (λ x. sure x.stamp) o (marks now)) (scan (λ x. sure x.stamp) o (marks (whole_log gone now)))
  same-last o sure dead alive =
      subst (λ (m : List Mark). Same (scan (λ x. sure x.stamp) o (marks now)) (scan (λ x. sure x.stamp) o m)) (sym (marks-whole gone now))
      (last-stays (map marks gone) (marks now) (all_stood (map marks gone) (marks now)) o its-chain (its-all o) sure dead alive)
