-- How a run ends that doesn't begin, and what its wire began with.
use Rattle.seat_lock.specs.Words.{base_of}
use Rattle.run_rounds.specs.Begins.{HasBegun}
use Rattle.run_rounds.proofs.Names.{Asked, Plan, View, Founding, LockTable, Entry, Origin, WireParts, Opening, Media, FirstRefusal, HasOpened, medium_in, node_count, IsSetUp, End, IsEndFor, tellers, Pass, ◌≡◌, ℕ, List, length, map, Option, Some, inl, refl, sym, subst, AllZip, HasPasses, Tellers}
use Rattle.run_media.specs.declared.openings.Refusal.{Refusal}
use Rattle.run_rounds.specs.Finishes.{EndsTo}
use Rattle.world_core.specs.declared.traces.Trace.{Trace}
use Rattle.run_media.specs.declared.openings.Refusal.TheVariants as refusal
use Rattle.run_rounds.specs.declared.ends.End.TheVariants as end
use Rattle.run_rounds.proofs.BackLemmas.{first-fault, opened-alone, opened-back, opened-kept}

module _ {M : Type 0} {g : _} (w : Media M) (over : Trace → Type 0) (plan : Plan) where
  module _ (told : Tellers) (media : List (Option M)) where
    module _ (os : List (Opening M g)) (opened : AllZip (HasOpened w) media os) where
      -- memory ran out
      pub ends-wanting : EndsTo w over plan told media (map medium_in os) end.NoMemory
      ends-wanting = (opened-back w media os opened, opened-kept w media os opened, λ told. inl (opened-alone w media os opened))

      -- no run begins
      pub ends-refused : (e : End) (why : Refusal) → IsEndFor why e → length os ≡ node_count plan → FirstRefusal plan os (Some why) → told.asked ≡ told.asked_before → told.answers ≡ told.answers_before
          → EndsTo w over plan told media (map medium_in os) e
      ends-refused e refusal.NoMemory is count first asked answers = subst (EndsTo w over plan told media (map medium_in os)) (sym is) ends-wanting
      ends-refused e (refusal.Resume fault) is count first asked answers =
          subst (EndsTo w over plan told media (map medium_in os)) (sym is)
          (opened-back w media os opened, opened-alone w media os opened, first-fault w plan media os fault opened count first, asked, answers)

  -- what the fates and the clock had told when the wire began is what they had told before
  pub ends-set-up : (os : List (Opening M g)) (asked later : List Asked) (answers more : Option (List ℕ)) (o : Origin) (media left : List (Option M)) (e : End) → IsSetUp plan os asked answers o
      → EndsTo w over plan (tellers o.asked later o.answers more) media left e → EndsTo w over plan (tellers asked later answers more) media left e
  ends-set-up os asked later answers more o media left e set h =
      subst (λ (a : List Asked). EndsTo w over plan (tellers a later answers more) media left e) set.asked_is
      (subst (λ (a : Option (List ℕ)). EndsTo w over plan (tellers o.asked later a more) media left e) set.answers_are h)

-- a run that is over in one way is over in each that this is one of
pub ends-weaker : {M : Type 0} (w : Media M) (P Q : Trace → Type 0) (plan : Plan) → ((t : Trace) → P t → Q t) → (told : Tellers) (media left : List (Option M)) (e : End)
    → EndsTo w P plan told media left e → EndsTo w Q plan told media left e
ends-weaker w P Q plan f told media left (end.Ran t) h = record {
  nodes = h.nodes;
  ready = h.ready;
  ranges = h.ranges;
  is_told = h.is_told;
  over = λ tells. f t (h.over tells);
  logs = h.logs;
  counts = h.counts;
  stops = h.stops;
  kills = h.kills;
}
ends-weaker w P Q plan f told media left (end.Refused fault) h = h
ends-weaker w P Q plan f told media left end.NoMemory h = h

module _ {M : Type 0} {g : _} {Q A : Type 0} (plan : Plan) (os : List (Opening M g)) (lock : LockTable WireParts (View WireParts Entry) (Founding WireParts) Q A) where
  -- a wire that was set up, with its passes
  pub has-begun : (asked : List Asked) (answers : Option (List ℕ)) (start : ℕ) (passes : List Pass) (conductor : Pass) → IsSetUp plan os asked answers (base_of lock).origin → HasPasses lock start passes conductor → HasBegun plan os lock start passes conductor
  has-begun asked answers start passes conductor set has = record {
    set_up = record { run = set.run; acts = set.acts; opened = set.opened; start = set.start; asked_is = refl; answers_are = refl };
    has = has;
  }
