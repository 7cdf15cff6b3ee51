-- What is told over the volumes that a past left.
use Rattle.std.proofs.Common.{◌≡◌, ◌≤◌, ℕ, zero, suc, List, [], ◌∷◌, map, reverse, slice_get, refl, sym, ◌∙◌, ap, subst, Option, Some, None, inl, inr}
use Rattle.pseudo_time.specs.Lists.{Has}
use Rattle.pseudo_time.specs.StampParts.{StampParts}
use Rattle.value_form.specs.declared.objects.ObjectId.{ObjectId}
use Rattle.effect_form.specs.declared.effects.Effect.{Effect}
use Rattle.effect_form.specs.declared.effects.Effect.TheVariants as effect
use Rattle.object_history.specs.History.{Seen, settle_of}
use Rattle.object_history.specs.Views.{value_of}
use Rattle.repository_log.specs.Logs.{marks}
use Rattle.commit_watch.specs.declared.versions.Version.{Version}
use Rattle.archive_store.specs.Joined.{holder_of, joined}
use Rattle.archive_store.specs.Latest.{entry_of, last_below}
use Rattle.world_core.specs.Deeds.{before}
use Rattle.archive_law.specs.Earlier.{Earlier}
use Rattle.archive_law.specs.Archives.{EverStood, archive, volumes_left}
use Rattle.archive_law.specs.AsOf.{TellsMap, first_of, idle_run, value_in}
use Rattle.archive_law.specs.Audits.{HasHolder, ListsAll, versions_in}
use Rattle.archive_law.proofs.ArchiveLemmas.{archive-is}
use Rattle.archive_law.proofs.AuditLemmas.{all-listed, version-held}
use Rattle.archive_law.proofs.IdleLemmas.{idle-tells}
use Rattle.snapshot_command.specs.Outcome.{Outcome}
use Rattle.snapshot_command.specs.Outcome.TheVariants.{Told, Refused, Fallen, NoMemory}
use Rattle.snapshot_command.specs.Question.{Question}
use Rattle.snapshot_command.specs.Question.TheVariants.{AsOf, Audit}
use Rattle.snapshot_command.specs.Answers.{Gives, IsAsOf}
use Rattle.snapshot_command.specs.Archives.{Complete, archive_of, complete, holding_volume, newest_first, volume_at, volumes_of}
use Rattle.snapshot_command.specs.Versions.{audit_text}
use Rattle.archive_promise.proofs.OpenLemmas.{first-is}
use Rattle.archive_promise.specs.Answered.{IsHolder, IsLawful, IsOfStamp, TellsPlainMap, TellsWholeAudit, WereLeft, listed_value}

-- ---- complete volumes

logs-of : List Complete → List (List Effect)
logs-of cs = map (λ (c : Complete). c.log) cs

marks-of : (cs : List Complete) → map (λ (c : Complete). marks c.log) cs ≡ map marks (map (λ (c : Complete). c.log) cs)
marks-of [] = refl
marks-of (c ∷ cs) = ap (λ ms. marks c.log ∷ ms) (marks-of cs)

-- the place of a log is that of its volume
at-volume : (cs : List Complete) (place : ℕ) (log : List Effect) → slice_get (map (λ (c : Complete). c.log) cs) place ≡ Some log →
    (c : Complete) × Has c cs × (c.log ≡ log) × (slice_get (map (λ (c : Complete). c.volume) cs) place ≡ Some c.volume)
at-volume [] zero log e = absurd (cc e)
at-volume [] (suc n) log e = absurd (cc e)
at-volume (c ∷ cs) zero log e = (c, inl refl, cc e, refl)
at-volume (c ∷ cs) (suc n) log e = let k = at-volume cs n log e in (k.0, inr k.1, k.2, k.3)

module _ (cs : List Earlier) (r : ℕ) (logs : List (List Effect)) (left : WereLeft cs r logs) where
  -- their marks
  pub marks-left : archive_of logs ≡ map marks (volumes_left cs r)
  marks-left = marks-of (complete logs) ∙ ap (map marks) left.same

  pub archive-left : newest_first logs ≡ archive (volumes_left cs r)
  archive-left = ap (λ ms. reverse (joined ms)) marks-left

-- ---- the map

pub entry-value : (o : ObjectId) (q : Option Seen) → listed_value (entry_of o q) ≡ value_of q
entry-value o None = refl
entry-value o (Some q) = refl

pub plain-map : (r : ℕ) (s : StampParts) (logs : List (List Effect)) (text : List ℕ) → IsAsOf r (first_of s) (newest_first logs) text → TellsPlainMap r s logs text
plain-map r s logs text is cs left = record {
  list = is.list;
  is_text = is.is_text;
  rising = is.rising;
  values = λ n low high o. ap listed_value (is.values o) ∙ entry-value o (last_below (newest_first logs) o (first_of s)) ∙ told n low high o;
}
  where
    same : newest_first logs ≡ archive (volumes_left cs r)
    same = archive-left cs r logs left

    told : (n : ℕ) → 1 ≤ r → r ≤ n → (o : ObjectId) → value_of (last_below (newest_first logs) o (first_of s)) ≡ value_in r (before (idle_run cs n) s) o
    told n low high o = subst (λ m. TellsMap r m s (before (idle_run cs n) s)) (sym same) (idle-tells cs r n s left.past low high) is.decided o

-- ---- the versions

pub whole-audit : (o : ObjectId) (logs : List (List Effect)) → TellsWholeAudit o logs (audit_text o logs)
whole-audit o logs cs left = record {
  versions = versions_in o (newest_first logs);
  lists = lists;
  state = λ p. settle_of (newest_first logs) p;
  decided = λ s c h. (archive-is cs left.past r).decided s c (subst (λ m. settle_of m s ≡ Some c) same h);
  volume = λ v. holding_volume (archive_of logs) (volumes_of logs) v.object v.start;
  held = λ v h. held v (lists.only v h);
  is_text = refl;
}
  where
    r : ℕ
    r = o.repository

    same : newest_first logs ≡ archive (volumes_left cs r)
    same = archive-left cs r logs left

    lists : ListsAll cs o.repository o (versions_in o (newest_first logs))
    lists = subst (λ m. ListsAll cs o.repository o (versions_in o m)) (sym same) (all-listed cs left.past r o)

    held : (v : Version) → (v.object ≡ o) × EverStood cs o.repository (effect.Put o v.start v.value) → IsHolder logs (effect.Put v.object v.start v.value) (holding_volume (archive_of logs) (volumes_of logs) v.object v.start)
    held v (at, stood) = subst (λ z. IsHolder logs (effect.Put z v.start v.value) (holding_volume (archive_of logs) (volumes_of logs) z v.start)) (sym at) (by (version-held cs left.past r o v.start v.value stood))
      where
        by : HasHolder (volumes_left cs r) o v.start v.value → IsHolder logs (effect.Put o v.start v.value) (holding_volume (archive_of logs) (volumes_of logs) o v.start)
        by (place, found, holds) =
            let k = at-volume (complete logs) place holds.log (ap (λ ls. slice_get ls place) left.same ∙ holds.there) in
            record {
              holder = k.0;
              among = k.1;
              has = subst (Has (effect.Put o v.start v.value)) (sym k.2) holds.has;
              is = ap (λ ms. volume_at (volumes_of logs) (holder_of o v.start ms)) (marks-left cs r logs left) ∙ ap (volume_at (volumes_of logs)) found ∙ k.3;
            }

-- ---- what came of a question

pub is-lawful : (q : Question) (logs : List (List Effect)) (r : Outcome) → IsOfStamp q → Gives (archive_of logs) (volumes_of logs) q r → IsLawful q logs r
is-lawful (AsOf r at) logs (Told text) first is = plain-map r at.stamp logs text (subst (λ z. IsAsOf r z (newest_first logs) text) first is)
is-lawful (Audit o) logs (Told text) first is = subst (TellsWholeAudit o logs) (sym is) (whole-audit o logs)
is-lawful (AsOf r at) logs (Refused line) first is = record { object = is.first.object; start = is.first.start; first = first-is (newest_first logs) at is.first is.is_first; is_line = is.is_line }
is-lawful (Audit o) logs (Refused line) first is = is
is-lawful q logs (Fallen line) first is = tt
is-lawful q logs NoMemory first is = tt
