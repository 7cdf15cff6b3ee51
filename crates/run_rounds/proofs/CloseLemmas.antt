-- What the closing of a run's wire says, and what its calls ask.
use Rattle.run_rounds.proofs.Names.{Asked, View, Founding, LockTable, IsOneOf, CarriesOn, fresh, knows, Entry, Trace, Idle, fates_of, IsLegal, Origin, WireParts, owner_of, IsWirePass, Sight, owners_for, IsWhole, LeavesUntold, end_of, tick_count, NodeParts, Reason, Media, End, ClosedAs, HaveGone, IfRan, IfWanting, Pass, ◌≡◌, ◌⊎◌, ◌+◌, ◌++◌, ◌↔◌, ◌∙◌, ℕ, Bool, true, IsTrue, List, [], ◌∷◌, Option, inl, inr, refl, ap, sym, subst, All, All-push, ToldFor}
use Rattle.run_starts.specs.Reason.TheVariants as reason
use Rattle.run_rounds.specs.declared.ends.End.TheVariants as end
use Rattle.run_rounds.specs.declared.goals.Course.{Course}

-- ---- what is told

pub told-for : (told : Trace) (idle : Bool) (why : Reason) → (why ≡ reason.Down) ⊎ ((why ≡ reason.Done) ⊎ (why ≡ reason.Enough)) → ToldFor told idle why told
told-for told idle why (inl e) = record {
  is = refl;
  memory = λ f. (let z : reason.Down ≡ reason.Wanting = sym e ∙ f in cc z);
  out = λ f. absurd (let z : reason.Down ≡ reason.RunOut = sym e ∙ f in cc z);
}
told-for told idle why (inr (inl e)) = record {
  is = refl;
  memory = λ f. (let z : reason.Done ≡ reason.Wanting = sym e ∙ f in cc z);
  out = λ f. absurd (let z : reason.Done ≡ reason.RunOut = sym e ∙ f in cc z);
}
told-for told idle why (inr (inr e)) = record {
  is = refl;
  memory = λ f. (let z : reason.Enough ≡ reason.Wanting = sym e ∙ f in cc z);
  out = λ f. absurd (let z : reason.Enough ≡ reason.RunOut = sym e ∙ f in cc z);
}

pub told-idle : (told : Trace) (idle : Bool) (why : Reason) → why ≡ reason.RunOut → idle ≡ true → ToldFor told idle why told
told-idle told idle why e rest = record {
  is = refl;
  memory = λ f. (let z : reason.RunOut ≡ reason.Wanting = sym e ∙ f in cc z);
  out = λ f. rest;
}

-- of a trace that is told this is known
pub closed-as : (tells : Bool) (o : Origin) (passes : List Pass) (why : Reason) (told : Trace) (idle : Bool) (asked : List Asked) (answers : Option (List ℕ)) → IsWhole tells o told asked answers
    → All (λ (pass : Pass). CarriesOn owner_of (knows pass) told.entries) passes → All (λ e. IsOneOf (owners_for o.opened) (owner_of e)) told.entries → (IsTrue tells → IsTrue idle ↔ Idle (fates_of told.sent) (end_of o told))
    → (e : End) → IfRan e (ToldFor told idle why) → IfRan e (λ t. ClosedAs tells o passes why t asked answers)
closed-as tells o passes why told idle asked answers whole carries owned rests (end.Ran t) h =
    subst (λ (x : Trace). ClosedAs tells o passes why x asked answers) (sym h.is) (record { whole = whole; carries = carries; owned = owned; memory = h.memory; idle = λ tl out. (rests tl).0 (h.out out) })
closed-as tells o passes why told idle asked answers whole carries owned rests (end.Refused fault) h = h
closed-as tells o passes why told idle asked answers whole carries owned rests end.NoMemory h = tt

-- a trace that is told might as well be untold
pub whole-untold : (tells : Bool) (o : Origin) (passes : List Pass) (told : Trace) (asked : List Asked) (answers : Option (List ℕ)) → IsWhole tells o told asked answers
    → All (λ (pass : Pass). CarriesOn owner_of (knows pass) told.entries) passes → All (λ e. IsOneOf (owners_for o.opened) (owner_of e)) told.entries → (e : End) → IfWanting e (LeavesUntold tells o passes)
whole-untold tells o passes told asked answers whole carries owned (end.Ran t) = tt
whole-untold tells o passes told asked answers whole carries owned (end.Refused fault) = tt
whole-untold tells o passes told asked answers whole carries owned end.NoMemory = (
  told,
  record {
    start = whole.start;
    opened = whole.opened;
    sent = whole.sent;
    legal = λ yes plan run. subst (λ (l : List Asked). IsLegal plan l told) whole.fates (whole.legal yes plan run);
  },
  carries,
  owned,
)

-- ---- passes

-- one pass of the wire more
pub wires-pushed : {Q A : Type 0} (lock : LockTable WireParts (View WireParts Entry) (Founding WireParts) Q A) (all front : List Pass) (last : Pass) → all ≡ front ++ last ∷ [] → All (IsWirePass lock) front → IsWirePass lock last → All (IsWirePass lock) all
wires-pushed lock all front last e are is = subst (All (IsWirePass lock)) (sym e) (All-push (IsWirePass lock) front last are is)

-- ---- counts

-- the conductor's new pass has no entries
pub new-conductor : (w : WireParts) (k : Sight) → k ≡ fresh w 0 → (k.owner ≡ 0) × (tick_count k.own ≡ 0)
new-conductor w k e = (ap (λ (s : Sight). s.owner) e, ap (λ (s : Sight). tick_count s.own) e)

-- ---- media

-- how nodes have gone, of the media as they are handed on
pub gone-left : {M : Type 0} (w : Media M) (course : Course) (begun : List (NodeParts M)) (why : Reason) (media left : List (Option M)) (passes : List Pass) → left ≡ media → HaveGone w course begun why media passes → HaveGone w course begun why left passes
gone-left {M} w course begun why media left passes e h = subst (λ (l : List (Option M)). HaveGone w course begun why l passes) (sym e) h
