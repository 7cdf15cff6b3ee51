-- The first stop that a call meets.
use Rattle.medium_port.proofs.Names.{◌≡◌, ℕ, ◌<◌, List, [], ◌∷◌, length, get_or, true, false, inl, refl, sym, ap, ◌∙◌, arith, zero, suc, Option, Some, None, Err, is_some, OnErr, MatchOption, cond-true, cond-false, Stop, is_at, first_met, without_met, MemoryMedium}
use Rattle.std.specs.List.{remove}
use Rattle.stream_port.specs.Causes.{next_count}
use Rattle.medium_port.specs.MemoryMedia.{calls_of, stops_of, pending_of, next_stop, MeetsStops}

module _ (call : ℕ) (write : Option (ℕ × ℕ)) where
  pub met_here : (stops : List Stop) (i : ℕ) (d : Stop) → i < length stops → ((k : ℕ) → k < i → is_at call write (get_or stops k d).at ≡ false) → is_at call write (get_or stops i d).at ≡ true
      → (first_met call write stops ≡ Some (get_or stops i d)) × (without_met call write stops ≡ remove stops i)
  met_here [] i d within past here = absurd (omega (arith, within))
  met_here (s ∷ stops) zero d within past here = (cond-true _ _ _ here, cond-true _ _ _ here)
  met_here (s ∷ stops) (suc i) d within past here =
      let rest = met_here stops i d (omega (arith, within)) (λ k low. past (suc k) (omega (arith, low))) here in
      let first = past zero (omega arith) in
      (cond-false _ _ _ first ∙ rest.0, cond-false _ _ _ first ∙ ap (λ (l : List Stop). s ∷ l) rest.1)

  pub met_nowhere : (stops : List Stop) → ((k : ℕ) (d : Stop) → k < length stops → is_at call write (get_or stops k d).at ≡ false)
      → (first_met call write stops ≡ None) × (without_met call write stops ≡ stops)
  met_nowhere [] past = (refl, refl)
  met_nowhere (s ∷ stops) past =
      let rest = met_nowhere stops (λ k d low. past (suc k) d (omega (arith, low))) in
      let first = past zero s (omega arith) in
      (cond-false _ _ _ first ∙ rest.0, cond-false _ _ _ first ∙ ap (λ (l : List Stop). s ∷ l) rest.1)

pub same_default : (stops : List Stop) (i : ℕ) (d e : Stop) → i < length stops → get_or stops i d ≡ get_or stops i e
same_default [] i d e within = absurd (omega (arith, within))
same_default (s ∷ stops) zero d e within = refl
same_default (s ∷ stops) (suc i) d e within = same_default stops i d e (omega (arith, within))

-- a write that met a stop
module _ {T E : Type 0} (write : Option (ℕ × ℕ)) (old new : MemoryMedium) (x : E) (met : Option Stop) (call : ℕ) where
  pub stops_met : call ≡ next_count (calls_of old) → met ≡ first_met call write (stops_of old) → true ≡ is_some met → stops_of new ≡ without_met call write (stops_of old) → pending_of new ≡ met → calls_of new ≡ call
      → MeetsStops {T = T} {E = E} write old new (Err x)
  stops_met counted is some used pending calls =
      let next : met ≡ next_stop write old = is ∙ ap (λ k. first_met k write (stops_of old)) counted in
      let met_some : is_some (next_stop write old) ≡ true = sym (some ∙ ap is_some next) in
      record {
        stopped = λ s. refl;
        failed = λ e. inl met_some;
        fed = tt;
        used = used ∙ ap (λ k. without_met k write (stops_of old)) counted;
        waits = waits_for (next_stop write old) met_some (pending ∙ next);
        counted = calls ∙ counted;
      }
    where
      waits_for : (o : Option Stop) → is_some o ≡ true → pending_of new ≡ o → MatchOption o (OnErr {T = T} (Err x) (pending_of new ≡ pending_of old)) (λ stop. pending_of new ≡ Some stop)
      waits_for None none p = absurd (cc none)
      waits_for (Some stop) here p = p
