-- What a past left of a repository's complete volumes is an archive of all that ever stood there.
use Rattle.archive_law.proofs.Names.{Has, repository, StampParts, TimeParts, ObjectId, Value, Effect, settle_of, Gone, known, marks, own_reading, Earlier, TickedBy, replaced, EverStood, IsArchive, IsPast, WasDecided, archive, log_after, volumes_left, ◌≡◌, ◌⊎◌, inl, inr, ℕ, Bool, List, [], ◌∷◌, reverse, sym, ◌∙◌, subst, Some}
use Rattle.effect_form.specs.declared.effects.Effect.TheVariants as effect
use Rattle.object_history.specs.declared.marks.Mark.TheVariants as mark
use Rattle.archive_law.proofs.CallLemmas.{last-stood, replaced-stood, stood-stands}
use Rattle.archive_law.proofs.PastReadings.{Facts, facts-of, no_base}
use Rattle.archive_law.proofs.VolumeLemmas as volumes

module _ (cs : List Earlier) (past : IsPast cs) where
  abbrev its : Facts cs
  its = facts-of cs past

  -- an attempt is decided once
  pub one-decision : (s : StampParts) (c d : Bool) → WasDecided cs s c → WasDecided cs s d → c ≡ d
  one-decision = volumes.one-decided its.script (no_base its.script) (log_after cs) (replaced own_reading cs) its.past [] (TickedBy cs []) its.facts

  module _ (r : ℕ) where
    abbrev log : List Effect
    log = log_after cs (repository r)

    abbrev old_logs : List (List Effect)
    old_logs = replaced own_reading cs (repository r)

    pub here-or-gone : (l : List Effect) (o : ObjectId) (x : TimeParts) (v : Value) → Has l (log ∷ old_logs) → Has (effect.Put o x v) l → Has (mark.Put o x v) (marks (reverse log)) ⊎ Gone (marks (reverse log)) o x
    here-or-gone = volumes.here-or-gone its.script (no_base its.script) (log_after cs) (replaced own_reading cs) its.past [] (TickedBy cs []) its.facts r

    pub same-put : (l k : List Effect) (o : ObjectId) (x : TimeParts) (v w : Value) → Has l (log ∷ old_logs) → Has k (log ∷ old_logs) → Has (effect.Put o x v) l → Has (effect.Put o x w) k → v ≡ w
    same-put = volumes.same-value its.script (no_base its.script) (log_after cs) (replaced own_reading cs) its.past [] (TickedBy cs []) its.facts r

    pub known-decided : (s : StampParts) (c : Bool) → known (reverse log) s ≡ Some c → WasDecided cs s c
    known-decided = volumes.known-home its.script (no_base its.script) (log_after cs) (replaced own_reading cs) its.past [] (TickedBy cs []) its.facts r

    pub archive-is : IsArchive cs r (archive (volumes_left cs r))
    archive-is = record {
      all = λ o x v h. (let k = stood-stands cs r (effect.Put o x v) past.0 h in
          volumes.archive-has its.script (no_base its.script) (log_after cs) (replaced own_reading cs) its.past [] (TickedBy cs []) its.facts r o x v k.0 k.1 k.2);
      none = λ o x v h. (let k = volumes.archive-from its.script (no_base its.script) (log_after cs) (replaced own_reading cs) its.past [] (TickedBy cs []) its.facts r o x v h in stood (effect.Put o x v) k.0 k.1 k.2);
      once = volumes.archive-distinct its.script (no_base its.script) (log_after cs) (replaced own_reading cs) its.past [] (TickedBy cs []) its.facts r;
      decided = λ s c h. known-decided s c (sym (settles s) ∙ h);
      known_so = settles;
    }
      where
        settles : (s : StampParts) → settle_of (archive (volumes_left cs r)) s ≡ known (reverse log) s
        settles = volumes.archive-settles its.script (no_base its.script) (log_after cs) (replaced own_reading cs) its.past [] (TickedBy cs []) its.facts r

        stood : (f : Effect) (l : List Effect) → Has l (log ∷ old_logs) → Has f l → EverStood cs r f
        stood f l (inl e) k = last-stood cs r f (subst (Has f) (sym e) k)
        stood f l (inr j) k = replaced-stood cs r f l j k
