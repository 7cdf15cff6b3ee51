-- A retirement worked by hand: three acts, then a retirement at 3.1.1/1. The definitions compute what it comes to.
use Rattle.std.specs.Prelude.{pos}
use Rattle.world_facts.proofs.Names.{StampParts, TimeParts, lt, ObjectId, Value, Effect, Put, Stretch, Begin, Decide, Mark, Whole, same_node-refl, floor_of, settle_of, version_count, MayRetire, forward, forwarded, Gone, marks, Plan, Tree, in_plan, Call, log_left, StandsOrGone, ViewedOrBelow, AreEarlier, logs_left, older, replaced, Running, Retiring, ◌≡◌, ℕ, true, false, List, [], ◌∷◌, reverse, if◌then◌else◌, refl, sym, ◌∙◌, ap, subst, Some, inl, inr, same_stamp, pick, scan}
use Rattle.pseudo_time.specs.Nodes.{repository}
use Rattle.pseudo_time.specs.declared.decisions.Decision.TheVariants.{Committed}
use Rattle.value_form.specs.declared.values.Value.TheVariants.{Number}
use Rattle.object_history.specs.Objects.{same_object}

-- the stamp c.1.1, and its first pseudotime
abbrev stamp : ℕ → StampParts
stamp c = record { clock = c; broker = 1; home = 1 }

abbrev first : ℕ → TimeParts
first c = record { stamp = stamp c; step = 1 }

abbrev object : ℕ → ObjectId
object n = record { repository = 1; number = n }

abbrev int : ℕ → Value
int n = Number (pos n)

-- ---- three acts, newest effect first: 1.1 becomes 1 and then 2, and 1.2 becomes 5

abbrev three : List Effect
three =
    Decide (stamp 3) Committed ∷ Put (object 2) (first 3) (int 5) ∷ Begin (stamp 3) 8 ∷ Decide (stamp 2) Committed ∷ Put (object 1) (first 2) (int 2) ∷ Begin (stamp 2) 8 ∷
    Decide (stamp 1) Committed ∷ Put (object 1) (first 1) (int 1) ∷ Begin (stamp 1) 8 ∷ []

-- the mark keeps eight of the nine effects
abbrev carried_on : List Effect
carried_on =
    Whole ∷ Decide (stamp 3) Committed ∷ Put (object 2) (first 3) (int 5) ∷ Begin (stamp 3) 8 ∷ Decide (stamp 2) Committed ∷ Put (object 1) (first 2) (int 2) ∷ Begin (stamp 2) 8 ∷
    Decide (stamp 1) Committed ∷ Begin (stamp 1) 8 ∷ Mark (first 3) ∷ []

three-forwarded : forwarded three (first 3) ≡ carried_on
unfolding scan pick settle_of version_count same_object same_stamp lt
three-forwarded = refl

three-floor : floor_of (marks carried_on) ≡ Some (first 3)
unfolding floor_of
three-floor = refl

-- the first version of 1.1 was given up: a committed one stands between it and the floor
three-gone : Gone (marks carried_on) (object 1) (first 1)
unfolding floor_of settle_of same_stamp lt
three-gone = (first 3, refl, refl, inr (inr (inl (refl, (refl, refl, refl)))))

three-may : MayRetire three (first 3)
unfolding floor_of settle_of same_stamp lt
three-may = record {
  first = refl;
  history = record { floor = λ e k. absurd (cc k); decided = λ o. ((λ e below none. absurd (cc none)), ((λ e below none. absurd (cc none)), ((λ e below none. absurd (cc none)), tt))) };
}

-- of reads, a mark leaves out those at it or below it, and of marks all but itself
reads-forwarded : forwarded (Stretch (object 1) (first 4) ∷ Stretch (object 1) (first 3) ∷ Stretch (object 1) (first 2) ∷ Whole ∷ Mark (first 1) ∷ []) (first 3) ≡ Whole ∷ Stretch (object 1) (first 4) ∷ Mark (first 3) ∷ []
unfolding lt
reads-forwarded = refl

-- ---- a past: a run that left these three acts, then the retirement

module _ (read : Plan → List ℕ → Tree) (c : Call) (inside : in_plan c.plan (repository 1) ≡ true) (left : log_left read c (repository 1) ≡ reverse three) where
  run-left : logs_left read (Running c ∷ []) (repository 1) ≡ reverse three
  run-left = ap (λ b. if b then log_left read c (repository 1) else []) inside ∙ left

  all-left : logs_left read (Retiring 1 (first 3) ∷ Running c ∷ []) (repository 1) ≡ reverse carried_on
  all-left = ap (λ b. if b then forward (logs_left read (Running c ∷ []) (repository 1)) (first 3) else logs_left read (Running c ∷ []) (repository 1)) (same_node-refl (repository 1))
      ∙ ap (λ log. forward log (first 3)) run-left ∙ ap reverse three-forwarded

  -- the retirement is allowed
  may-left : MayRetire (reverse (logs_left read (Running c ∷ []) (repository 1))) (first 3)
  may-left = subst (λ log. MayRetire (reverse log) (first 3)) (sym run-left) three-may

  -- its older logs: what it left, what the run left, and the empty one; of these the retirement replaced the run's
  all-older : older read (Retiring 1 (first 3) ∷ Running c ∷ []) (repository 1) ≡ reverse carried_on ∷ reverse three ∷ [] ∷ []
  all-older = λ i. all-left i ∷ run-left i ∷ [] ∷ []

  all-replaced : replaced read (Retiring 1 (first 3) ∷ Running c ∷ []) (repository 1) ≡ reverse three ∷ []
  all-replaced = ap (λ b. if b then logs_left read (Running c ∷ []) (repository 1) ∷ [] else []) (same_node-refl (repository 1)) ∙ ap (λ log. log ∷ []) run-left

-- ---- a retirement that gives up an undecided version is none

abbrev undecided : List Effect
undecided = Put (object 1) (first 1) (int 1) ∷ Begin (stamp 1) 8 ∷ []

not-undecided : MayRetire undecided (first 3) → ⊥
unfolding settle_of same_stamp lt
not-undecided may = (may.history.decided (object 1)).0 refl refl refl

module _ (read : Plan → List ℕ → Tree) (c : Call) (inside : in_plan c.plan (repository 1) ≡ true) (left : log_left read c (repository 1) ≡ reverse undecided) where
  no-past : AreEarlier read (Retiring 1 (first 3) ∷ Running c ∷ []) → ⊥
  no-past are = not-undecided (subst (λ log. MayRetire (reverse log) (first 3)) (ap (λ b. if b then log_left read c (repository 1) else []) inside ∙ left) are.1)

-- ---- two logs that don't keep what was said

-- a Stored that no log and no floor answers for
not-stored : (olds : List (List Effect)) → StandsOrGone (Begin (stamp 1) 8 ∷ []) olds (object 1) (first 1) (int 1) → ⊥
unfolding floor_of
not-stored olds (inl (inl e)) = cc e
not-stored olds (inl (inr h)) = h
not-stored olds (inr g) = absurd (cc g.0.1)

-- the log without the last version of 1.1 below the mark
abbrev too_few : List Effect
too_few = Whole ∷ Decide (stamp 2) Committed ∷ Begin (stamp 2) 8 ∷ Mark (first 3) ∷ []

-- a Value that was read above the floor, whose version was given up
not-viewed : (olds : List (List Effect)) → ViewedOrBelow too_few olds (object 1) (first 4) (int 2) → ⊥
unfolding floor_of settle_of same_stamp lt scan pick version_count same_object
not-viewed olds (inl w) = cc w.0
not-viewed olds (inr (b, s)) = let same : first 3 ≡ b.0 = cc b.1 in let no : false ≡ true = subst (λ e. lt (first 4) e ≡ true) (sym same) b.2 in cc no
