-- What comes of a question to an archive.
use Rattle.archive_command.proofs.Names.{ap, ◌∙◌, ◌++◌, [], length, map, Option, ◌≡◌, ◌⊎◌, ℕ, List, refl, sym, subst, Some, inl, inr, length-map, TimeParts, Mark, Opening, medium_in, ShelfSight, first_names, AreVolumes, Answers, AnswersOver, GivesMap, RefusesFor, asked_of}
use Rattle.pseudo_time.specs.declared.nodes.NodeId.{NodeId}
use Rattle.archive_store.specs.declared.faults.AsOfFault.{AsOfFault}
use Rattle.archive_store.specs.declared.faults.AsOfFault.TheVariants as fault
use Rattle.archive_store.specs.declared.starts.Start.{Start}
use Rattle.archive_store.specs.Opens.{first_open}
use Rattle.run_volumes.specs.Media.{Media}
use Rattle.run_volumes.specs.declared.kept.Kept.{Kept}
use Rattle.run_volumes.specs.Kept.{kept_under}
use Rattle.run_volumes.proofs.StandLemmas.{given-back, stand-all}
use Rattle.archive_command.specs.declared.questions.Question.{Question}
use Rattle.archive_command.specs.declared.outcomes.Outcome.{Outcome}
use Rattle.archive_command.specs.declared.outcomes.Outcome.TheVariants.{Refused, NoMemory}
use Rattle.report_writer.specs.Lines.{undecided_line}

module _ (repository : ℕ) (at : TimeParts) (m : List Mark) where
  pub map-refused : (why : AsOfFault) (r : Outcome) → (why ≡ fault.NoMemory) ⊎ ((s : Start) × (first_open m at ≡ Some s) × (why ≡ fault.Undecided s.object s.start)) → RefusesFor why r → GivesMap repository at m r
  map-refused why r (inl e) h = subst (GivesMap repository at m) (sym (subst (λ (f : AsOfFault). RefusesFor f r) e h)) tt
  map-refused why r (inr (s, first, e)) h = by (subst (λ (f : AsOfFault). RefusesFor f r) e h)
    where
      by : (r ≡ NoMemory) ⊎ (r ≡ Refused (undecided_line s.object s.start)) → GivesMap repository at m r
      by (inl k) = subst (GivesMap repository at m) (sym k) tt
      by (inr k) = subst (GivesMap repository at m) (sym k) (record { first = s; is_first = first; is_line = refl })

module _ {M : Type 0} {g : _} where
  -- volumes that are given back as they were opened, under their names
  pub handed-back : (n : NodeId) (os : List (Opening M g)) (given : List (Option M)) (front kept : List (Kept M)) → front ≡ [] → given ≡ map medium_in os → kept ≡ front ++ kept_under (first_names n (length given)) given →
      kept ≡ kept_under (first_names n (length os)) (map medium_in os)
  handed-back n os given front kept none back is =
      is ∙ (ap (λ l. l ++ kept_under (first_names n (length given)) given) none ∙ (ap (λ l. kept_under (first_names n (length l)) l) back ∙ ap (λ k. kept_under (first_names n k) (map medium_in os)) (length-map os medium_in)))

module _ {M : Type 0} (w : Media M) (old new : ShelfSight) (q : Question) where
  pub answers-over : (n : NodeId) (media : List (Option M)) (os : List (Opening M w)) (kept : List (Kept M)) (r : Outcome) → n ≡ asked_of q → AreVolumes w old new n media os →
      kept ≡ kept_under (first_names n (length os)) (map medium_in os) → Answers q os r → AnswersOver w old new q kept r
  answers-over n media os kept r home volumes handed came = record {
    media = media;
    openings = os;
    volumes = subst (λ x. AreVolumes w old new x media os) home volumes;
    handed = subst (λ x. kept ≡ kept_under (first_names x (length os)) (map medium_in os)) home handed;
    keep = given-back w os (map medium_in os) (stand-all w media os volumes.opened) refl;
    came = came;
  }
