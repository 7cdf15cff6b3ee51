-- The histories of a repository's logs, older and last, are a chain of growths and retirements.
use Rattle.std.proofs.Common.{◌≡◌, ℕ, List, [], ◌∷◌, ◌++◌, map, refl, sym, ◌∙◌, ap, subst, append-nil, inl, inr, None}
use Rattle.world_facts.proofs.Names.{Has, Effect, Put, Stretch, Begin, Decide, Learn, Grew, settle_of, is_commit, marks, Tree, repository, node_facts, GrownFrom, SomeOf, Lineage, Fits, marks-forwarded, FitsLog}
use Rattle.effect_form.specs.declared.effects.Effect.TheVariants as effect
use Rattle.object_history.specs.declared.marks.Mark as history
use Rattle.object_history.specs.declared.marks.Mark.TheVariants as mark
use Rattle.object_retirement.specs.Chains.{Chain, Follows_on, Grows}
use Rattle.object_retirement.specs.Chains as chains
use Rattle.repository_log.proofs.LogLemmas.{unknown-unsettled}
use Rattle.world_core.specs.Nodes.{broker}

pub marks-append : (l k : List Effect) → marks (l ++ k) ≡ marks l ++ marks k
marks-append [] k = refl
marks-append (Put o x v ∷ l) k = ap (λ m. mark.Put o x v ∷ m) (marks-append l k)
marks-append (Stretch o x ∷ l) k = ap (λ m. mark.Stretch o x ∷ m) (marks-append l k)
marks-append (Decide s d ∷ l) k = ap (λ m. mark.Settle s (is_commit d) ∷ m) (marks-append l k)
marks-append (Learn s c ∷ l) k = ap (λ m. mark.Settle s c ∷ m) (marks-append l k)
marks-append (effect.Mark at ∷ l) k = ap (λ m. mark.Floor at ∷ m) (marks-append l k)
marks-append (f ∷ l) k = marks-append l k

-- effects that fit are marks that fit
grows-marks : (r : ℕ) (base early : List Effect) → Grew (FitsLog r) base early → Grows (marks base) (marks early)
grows-marks r base [] g = tt
grows-marks r base (Put o x v ∷ early) g = (grows-marks r base early g.0, subst (λ m. Fits m (mark.Put o x v)) (marks-append early base) g.1.1)
grows-marks r base (Stretch o x ∷ early) g = (grows-marks r base early g.0, tt)
grows-marks r base (Begin s d ∷ early) g = grows-marks r base early g.0
grows-marks r base (Decide s d ∷ early) g = (grows-marks r base early g.0, subst (λ m. settle_of m s ≡ None) (marks-append early base) (unknown-unsettled (early ++ base) s g.1.1.0 g.1.1.1))
grows-marks r base (Learn s c ∷ early) g = (grows-marks r base early g.0, subst (λ m. settle_of m s ≡ None) (marks-append early base) g.1.1)
grows-marks r base (f ∷ early) g = absurd g.1

module _ (script : List ℕ → Tree) (r : ℕ) where
  pub chain-of : (olds : List (List Effect)) (log : List Effect) → Lineage (node_facts script) (repository r) olds log → Chain (map marks olds) (marks log)
  chain-of [] log k =
      let g = k.2 in
      let is : marks log ≡ marks g.early = ap marks (g.is ∙ ap (λ b. g.early ++ b) k.1 ∙ append-nil g.early) in
      subst (Grows []) (sym is) (subst (λ b. Grows (marks b) (marks g.early)) k.1 (grows-marks r k.0 g.early g.grew))
  chain-of (old ∷ olds) log k = (chain-of olds old k.0, follows k.1.0 k.1.1 k.1.2)
    where
      follows : (base : List Effect) → (node_facts script).Retires (repository r) old base → GrownFrom (FitsLog r) base log → Follows_on (marks old) (marks log)
      follows base t g = record {
        fresh = marks g.early;
        base = marks base;
        is = ap marks g.is ∙ marks-append g.early base;
        grew = grows-marks r base g.early g.grew;
        came = inr (t.0, t.1.first, t.1.history, ap marks t.2 ∙ marks-forwarded old t.0);
      }

  -- a broker's log is never retired
  pub never-retired : (olds : List (List Effect)) (log : List Effect) → Lineage (node_facts script) (broker r) olds log → olds ≡ []
  never-retired [] log k = refl
  never-retired (old ∷ olds) log k = absurd k.1.1

-- ---- logs of runs alone

-- a log that grew from an empty one
pub grown-alone : (Fits : List Effect → Effect → Type 0) (log : List Effect) → ((base : List Effect) × (base ≡ []) × GrownFrom Fits base log) → Grew Fits [] log
grown-alone Fits log (base, e, g) = subst (Grew Fits []) (sym (g.is ∙ ap (λ b. g.early ++ b) e ∙ append-nil g.early)) (subst (λ b. Grew Fits b g.early) e g.grew)

-- and goes on
pub grown-more : (Fits : List Effect → Effect → Type 0) (log fresh : List Effect) → Grew Fits [] log → Grew Fits log fresh → Grew Fits [] (fresh ++ log)
grown-more Fits log [] g h = g
grown-more Fits log (f ∷ fresh) g h = (grown-more Fits log fresh g h.0, subst (λ z. Fits z f) (sym (append-nil (fresh ++ log))) h.1)

-- ---- one of some logs

-- what holds of one of these logs, with the log
pub some-log : (P : List Effect → Type 0) (logs : List (List Effect)) → SomeOf P logs → (log : List Effect) × Has log logs × P log
some-log P [] h = absurd h
some-log P (log ∷ logs) (inl p) = (log, inl refl, p)
some-log P (log ∷ logs) (inr h) = let r = some-log P logs h in (r.0, inr r.1, r.2)

-- and then of one of their histories
pub some-history : (P : List history.Mark → Type 0) (logs : List (List Effect)) (log : List Effect) → Has log logs → P (marks log) → chains.SomeOf P (map marks logs)
some-history P [] log h p = absurd h
some-history P (l ∷ logs) log (inl e) p = inl (subst (λ k. P (marks k)) (sym e) p)
some-history P (l ∷ logs) log (inr h) p = inr (some-history P logs log h p)

-- and back
pub history-log : (P : List history.Mark → Type 0) (logs : List (List Effect)) → chains.SomeOf P (map marks logs) → (log : List Effect) × Has log logs × P (marks log)
history-log P [] h = absurd h
history-log P (log ∷ logs) (inl p) = (log, inl refl, p)
history-log P (log ∷ logs) (inr h) = let r = history-log P logs h in (r.0, inr r.1, r.2)
