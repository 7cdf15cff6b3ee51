-- An audit lists each version that ever stood, once, and tells the last volume that has it.
use Rattle.archive_law.proofs.Names.{Has, repository, TimeParts, has-either, has-left, has-reverse, has-right, ObjectId, Value, Effect, Mark, listed, marks, put-logged, Version, version_of, has_start, own_reading, Earlier, replaced, has-map, map-has, EverStood, IsArchive, IsPast, archive, log_after, volumes_left, ◌≡◌, ◌+◌, ◌<◌, inl, inr, ℕ, zero, suc, Bool, true, false, List, [], ◌∷◌, ◌++◌, map, reverse, slice_get, refl, sym, ◌∙◌, ap, subst, Option, Some, None, arith, true≢false, holder_of, later, HoldsLast, ListsAll}
use Rattle.effect_form.specs.declared.effects.Effect.TheVariants as effect
use Rattle.archive_law.proofs.ArchiveLemmas.{archive-is, same-put}
use Rattle.archive_law.proofs.CallLemmas.{StandsIn, stood-stands}
use Rattle.archive_law.proofs.JoinedLemmas.{has-start, start-has}
use Rattle.archive_law.proofs.ListedLemmas.{has-listed, listed-has, strict-listed, strict-rises}
use Rattle.archive_law.proofs.VolumeLemmas.{put-marked, unturned}

-- ---- the versions

pub all-listed : (cs : List Earlier) (past : IsPast cs) (r : ℕ) (o : ObjectId) → ListsAll cs r o (map (version_of o) (listed (λ x. true) o (archive (volumes_left cs r))))
all-listed cs past r o = record {
  rising = strict-rises o (listed (λ x. true) o m) (strict-listed (λ x. true) o m is.once);
  all = λ x v h. (let q = has-listed (λ x. true) o m x v (is.all o x v h) refl in
      let same : version_of o q.0 ≡ record { object = o; start = x; value = v } = λ i. record { object = o; start = q.2 i; value = q.3 i } in
      subst (λ z. Has z (map (version_of o) (listed (λ x. true) o m))) same (has-map (version_of o) (listed (λ x. true) o m) q.0 q.1));
  only = λ v h. (let k = map-has (version_of o) (listed (λ x. true) o m) v h in
      subst (λ (z : Version). (z.object ≡ o) × EverStood cs r (effect.Put o z.start z.value)) k.2 (refl, is.none o k.0.start k.0.value (listed-has (λ x. true) o m k.0 k.1).0));
}
  where
    m : List Mark
    m = archive (volumes_left cs r)

    is : IsArchive cs r (archive (volumes_left cs r))
    is = archive-is cs past r

-- ---- the last holder

module _ (o : ObjectId) (x : TimeParts) where
  -- a version with this object and start stands in the log at the place, and in none behind it
  record Last (logs : List (List Effect)) (place : ℕ) : Type 0 where
    log : List Effect
    there : slice_get logs place ≡ Some log
    has : has_start o x (marks log) ≡ true
    none : (behind : ℕ) (other : List Effect) → place < behind → slice_get logs behind ≡ Some other → has_start o x (marks other) ≡ false

  -- it stands in none of them
  abbrev Nowhere : List (List Effect) → Type 0
  Nowhere logs = (place : ℕ) (other : List Effect) → slice_get logs place ≡ Some other → has_start o x (marks other) ≡ false

  abbrev Holder : List (List Effect) → Option ℕ → Type 0
  Holder logs None = Nowhere logs
  Holder logs (Some place) = Last logs place

  holder-with : (b : Bool) (log : List Effect) (logs : List (List Effect)) (r : Option ℕ) → has_start o x (marks log) ≡ b → Holder logs r → Holder (log ∷ logs) (later b r)
  holder-with true log logs None e h = record { log = log; there = refl; has = e; none = behind-first }
    where
      behind-first : (behind : ℕ) (other : List Effect) → 0 < behind → slice_get (log ∷ logs) behind ≡ Some other → has_start o x (marks other) ≡ false
      behind-first zero other l k = absurd (omega (arith, l))
      behind-first (suc n) other l k = h n other k
  holder-with false log logs None e h = nowhere
    where
      nowhere : (place : ℕ) (other : List Effect) → slice_get (log ∷ logs) place ≡ Some other → has_start o x (marks other) ≡ false
      nowhere zero other k = let same : log ≡ other = cc k in subst (λ z. has_start o x (marks z) ≡ false) same e
      nowhere (suc n) other k = h n other k
  holder-with b log logs (Some n) e h = subst (Last (log ∷ logs)) next (record { log = h.log; there = h.there; has = h.has; none = behind })
    where
      next : suc n ≡ n + 1
      next = omega arith

      behind : (k : ℕ) (other : List Effect) → suc n < k → slice_get (log ∷ logs) k ≡ Some other → has_start o x (marks other) ≡ false
      behind zero other l g = absurd (omega (arith, l))
      behind (suc k) other l g = h.none k other (omega (arith, l)) g

  holder-is : (logs : List (List Effect)) → Holder logs (holder_of o x (map marks logs))
  unfolding holder_of
  holder-is [] = λ place other e. (elim place as (λ place. (other : List Effect) → slice_get [] place ≡ Some other → has_start o x (marks other) ≡ false) [ zero ↦ λ other e. absurd (cc e) | suc n ↦ λ other e. absurd (cc e) ]) other e
  holder-is (log ∷ logs) = holder-with (has_start o x (marks log)) log logs (holder_of o x (map marks logs)) refl (holder-is logs)

  -- what stands in a list has a place there
  placed : (logs : List (List Effect)) (log : List Effect) → Has log logs → (n : ℕ) × (slice_get logs n ≡ Some log)
  placed [] log h = absurd h
  placed (l ∷ logs) log (inl e) = (0, ap (λ z. Some z) e)
  placed (l ∷ logs) log (inr h) = let k = placed logs log h in (suc k.0, k.1)

  at-place : (logs : List (List Effect)) (n : ℕ) (log : List Effect) → slice_get logs n ≡ Some log → Has log logs
  at-place [] zero log e = absurd (cc e)
  at-place [] (suc n) log e = absurd (cc e)
  at-place (l ∷ logs) zero log e = inl (cc e)
  at-place (l ∷ logs) (suc n) log e = inr (at-place logs n log e)

  -- where each of the logs that has the object and start has this value
  held : (logs : List (List Effect)) (v : Value) → ((log : List Effect) (w : Value) → Has log logs → Has (effect.Put o x w) log → w ≡ v) → (log : List Effect) → Has log logs → Has (effect.Put o x v) log →
      (place : ℕ) × (holder_of o x (map marks logs) ≡ Some place) × HoldsLast logs (effect.Put o x v) place
  held logs v one log h k = by (holder_of o x (map marks logs)) refl (holder-is logs)
    where
      by : (r : Option ℕ) → holder_of o x (map marks logs) ≡ r → Holder logs r → (place : ℕ) × (holder_of o x (map marks logs) ≡ Some place) × HoldsLast logs (effect.Put o x v) place
      by None e none = let p = placed logs log h in absurd (true≢false (sym (has-start o x v (marks log) (put-marked log o x v k)) ∙ none p.0 log p.1))
      by (Some place) e last =
          let s = start-has o x (marks last.log) last.has in
          let put : Has (effect.Put o x s.0) last.log = put-logged last.log o x s.0 s.1 in
          let same : s.0 ≡ v = one last.log s.0 (at-place logs place last.log last.there) put in (
            place,
            e,
            record {
              log = last.log;
              there = last.there;
              has = subst (λ w. Has (effect.Put o x w) last.log) same put;
              none = λ behind other l g j. true≢false (sym (has-start o x v (marks other) (put-marked other o x v j)) ∙ last.none behind other l g);
            },
          )

pub version-held : (cs : List Earlier) (past : IsPast cs) (r : ℕ) (o : ObjectId) (x : TimeParts) (v : Value) → EverStood cs r (effect.Put o x v) →
    (place : ℕ) × (holder_of o x (map marks (volumes_left cs r)) ≡ Some place) × HoldsLast (volumes_left cs r) (effect.Put o x v) place
version-held cs past r o x v stood =
    let s : StandsIn cs r (effect.Put o x v) = stood-stands cs r (effect.Put o x v) past.0 stood in
    held o x (volumes_left cs r) v (λ log w h k. same-put cs past r log s.0 o x w v (from log h) s.1 k s.2) s.0 (to s.0 s.1) s.2
  where
    olds : List (List Effect)
    olds = replaced own_reading cs (repository r)

    last : List Effect
    last = log_after cs (repository r)

    to : (log : List Effect) → Has log (last ∷ olds) → Has log (reverse olds ++ last ∷ [])
    to log (inl e) = has-right (reverse olds) (last ∷ []) log (inl e)
    to log (inr h) = has-left (reverse olds) (last ∷ []) log (has-reverse olds log h)

    from : (log : List Effect) → Has log (reverse olds ++ last ∷ []) → Has log (last ∷ olds)
    from log h = elim (has-either (reverse olds) (last ∷ []) log h) [ inl k ↦ inr (unturned olds log k) | inr (inl e) ↦ inl e | inr (inr k) ↦ absurd k ]
