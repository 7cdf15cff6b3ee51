-- The complete ones of a repository's volumes, one after another.
use Rattle.archive_command.proofs.Names.{◌≡◌, ◌<◌, ◌≤◌, ◌+◌, ℕ, zero, suc, Bool, true, false, List, [], ◌∷◌, ◌++◌, length, map, drop, slice_index_or, refl, sym, ◌∙◌, ap, arith, if◌then◌else◌, append_assoc, Opening, log_in, logs_of, Complete, complete_from, is_complete}
use Rattle.effect_form.specs.declared.effects.Effect.{Effect}
use Rattle.archive_store.proofs.JoinLemmas.{drop-item}

map-if : {B : Type 0} (f : Complete → B) (b : Bool) (c : Complete) (cs : List Complete) → map f (if b then c ∷ cs else cs) ≡ map f (if b then c ∷ [] else []) ++ map f cs
map-if f true c cs = refl
map-if f false c cs = refl

one-up : (v : ℕ) → suc v ≡ v + 1
one-up v = omega arith

module _ {B : Type 0} (f : Complete → B) (v : ℕ) where
  one-more : (log : List Effect) (rest : List (List Effect)) → map f (complete_from v (log ∷ rest)) ≡ map f (complete_from v (log ∷ [])) ++ map f (complete_from (v + 1) rest)
  one-more log rest =
      map-if f (is_complete v log) (record { volume = v; log = log }) (complete_from (suc v) rest)
      ∙ ap (λ (n : ℕ). map f (complete_from v (log ∷ [])) ++ map f (complete_from n rest)) (one-up v)

  -- one volume was read
  pub archived-step : {M : Type 0} {g : _} (os : List (Opening M g)) (o : Opening M g) (log : List Effect) (old new all : List B) → v < length os → o ≡ slice_index_or os v o → log ≡ log_in o →
      new ≡ old ++ map f (complete_from v (log ∷ [])) → old ++ map f (complete_from v (logs_of (drop v os))) ≡ all → new ++ map f (complete_from (v + 1) (logs_of (drop (v + 1) os))) ≡ all
  archived-step {M} {g} os o log old new all low is shown e h =
      let rest = logs_of (drop (v + 1) os) in
      ap (λ xs. xs ++ map f (complete_from (v + 1) rest)) e
      ∙ append_assoc old (map f (complete_from v (log ∷ []))) (map f (complete_from (v + 1) rest))
      ∙ ap (λ xs. old ++ xs) (sym (one-more log rest))
      ∙ ap (λ l. old ++ map f (complete_from v (l ∷ rest))) shown
      ∙ ap (λ (l : List (Opening M g)). old ++ map f (complete_from v (logs_of l))) (sym (drop-item os v (v + 1) o refl low is))
      ∙ h

-- volume 0 was read, or another one before
pub some-step : (v n m : ℕ) → (v ≡ 0 → 0 < m) → n ≤ m → (0 < v → 0 < n) → 0 < m
some-step zero n m first more some = first refl
some-step (suc v) n m first more some = let k = some (omega arith) in omega (arith, more, k)
