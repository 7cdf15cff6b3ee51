-- The lists of several repositories, one more after another.
use Rattle.std.proofs.Common.{◌≡◌, ◌⊎◌, ◌≤◌, ◌<◌, ◌==◌, ℕ, zero, suc, Bool, true, false, List, [], ◌∷◌, ◌++◌, length, length-append, refl, sym, ◌∙◌, ap, subst, arith, inl, inr, Some}
use Rattle.std.specs.Prelude.{get_or}
use Rattle.std.specs.List.{flat_map}
use Rattle.std.proofs.lemmas.Bool.Decides.{nat_tests}
use Rattle.std.proofs.lemmas.Grind.{flat_map-append}
use Rattle.std.proofs.lemmas.List.{append-nil, append_assoc}
use Rattle.pseudo_time.specs.TimeParts.{TimeParts}
use Rattle.value_form.specs.declared.values.Value.{Value}
use Rattle.object_history.specs.declared.marks.Mark.{Mark}
use Rattle.commit_watch.specs.declared.moved.Moved.{Moved}
use Rattle.archive_store.specs.declared.faults.AsOfFault.{AsOfFault}
use Rattle.archive_store.specs.declared.faults.AsOfFault.TheVariants as fault
use Rattle.archive_store.specs.declared.starts.Start.{Start}
use Rattle.archive_store.specs.Homes.{informed}
use Rattle.archive_store.specs.Opens.{first_open}
use Rattle.snapshot_command.specs.Snapshots.{AreParts, IsPart, IsRefusal, list_of}
use Rattle.snapshot_command.specs.Texts.{value_lines}

module _ {A : Type 0} where
  front-of : (xs : List (List A)) (x : List A) (i : ℕ) → i < length xs → get_or (xs ++ x ∷ []) i [] ≡ get_or xs i []
  front-of [] x i low = absurd (omega (arith, low))
  front-of (y ∷ xs) x zero low = refl
  front-of (y ∷ xs) x (suc i) low = front-of xs x i (omega (arith, low))

  last-of : (xs : List (List A)) (x : List A) → get_or (xs ++ x ∷ []) (length xs) [] ≡ x
  last-of [] x = refl
  last-of (y ∷ xs) x = last-of xs x

  pub old-list : (xs : List (List A)) (x : List A) (r : ℕ) → r ≤ length xs → list_of (xs ++ x ∷ []) r ≡ list_of xs r
  old-list xs x zero low = refl
  old-list xs x (suc r) low = front-of xs x r (omega (arith, low))

  pub new-list : (xs : List (List A)) (x : List A) (r : ℕ) → r ≡ suc (length xs) → list_of (xs ++ x ∷ []) r ≡ x
  new-list xs x r e = ap (λ k. list_of (xs ++ x ∷ []) k) e ∙ last-of xs x

-- of the first so many, the last or one before
pub last-or-before : (r n : ℕ) → r ≤ suc n → (r ≡ suc n) ⊎ (r ≤ n)
last-or-before r n low = by (r == suc n) refl
  where
    by : (t : Bool) → (r == suc n) ≡ t → (r ≡ suc n) ⊎ (r ≤ n)
    by true e = inl (grind (arith, nat_tests))
    by false e = inr (grind (arith, nat_tests))

module _ (joined : List (List Mark)) (at : TimeParts) where
  pub parts-more : (lists : List (List (Moved Value))) (list : List (Moved Value)) (r : ℕ) → r ≡ suc (length lists) → AreParts joined at lists → IsPart joined at r list → AreParts joined at (lists ++ list ∷ [])
  parts-more lists list n last are is r low high = by (last-or-before r (length lists) (let e = length-append lists (list ∷ []) in omega (arith, e, high)))
    where
      by : (r ≡ suc (length lists)) ⊎ (r ≤ length lists) → IsPart joined at r (list_of (lists ++ list ∷ []) r)
      by (inl e) = subst (λ l. IsPart joined at r l) (sym (new-list lists list r e)) (subst (λ k. IsPart joined at k list) (last ∙ sym e) is)
      by (inr before) = subst (λ l. IsPart joined at r l) (sym (old-list lists list r before)) (are r low before)

  -- the next repository refuses
  pub refused-next : (lists : List (List (Moved Value))) (e : AsOfFault) (r : ℕ) → r ≡ suc (length lists) → r ≤ length joined → AreParts joined at lists →
      (e ≡ fault.NoMemory) ⊎ ((s : Start) × (first_open (informed joined r) at ≡ Some s) × (e ≡ fault.Undecided s.object s.start)) → IsRefusal joined at e
  refused-next lists e r last high are (inl none) = inl none
  refused-next lists e r last high are (inr (s, first, is)) = inr (
    s,
    record { repository = r; low = omega (arith, last); high = high; before = λ k low less. (are k low (omega (arith, less, last))).decided; is_first = first },
    is,
  )

-- one list more is written
pub lines-more : (front old new : List ℕ) (lists : List (List (Moved Value))) (list : List (Moved Value)) → old ≡ front ++ flat_map value_lines lists → new ≡ old ++ value_lines list → new ≡ front ++ flat_map value_lines (lists ++ list ∷ [])
lines-more front old new lists list h k =
    k ∙ ap (λ z. z ++ value_lines list) h ∙ append_assoc front (flat_map value_lines lists) (value_lines list)
    ∙ ap (λ z. front ++ z) (ap (λ z. flat_map value_lines lists ++ z) (sym (append-nil (value_lines list))) ∙ sym (flat_map-append value_lines lists (list ∷ [])))
