-- What a snapshot tells over the volumes that a past left.
use Rattle.std.proofs.Common.{◌≡◌, ◌≤◌, ◌==◌, ◌++◌, ℕ, zero, suc, Bool, true, false, List, [], ◌∷◌, length, map, reverse, refl, sym, ◌∙◌, ap, subst, arith, Option, Some, None}
use Rattle.std.specs.Prelude.{get_or, nat_lt}
use Rattle.std.proofs.lemmas.Bool.Decides.{nat_tests}
use Rattle.std.proofs.lemmas.List.{length-map}
use Rattle.pseudo_time.specs.Lists.{Every}
use Rattle.pseudo_time.specs.StampParts.{StampParts}
use Rattle.effect_form.specs.declared.effects.Effect.{Effect}
use Rattle.object_history.specs.declared.marks.Mark.{Mark}
use Rattle.object_history.specs.declared.marks.Mark.TheVariants.{Put, Stretch, Settle, Floor}
unfoldable use Rattle.object_history.specs.History.{settle_of}
use Rattle.archive_store.specs.Homes.{archive_at, as_mark, at_home, informed, unless_known}
unfoldable use Rattle.archive_store.specs.Homes.{from_homes}
use Rattle.archive_store.specs.Latest.{last_below}
use Rattle.world_core.specs.Deeds.{before}
use Rattle.archive_law.specs.Earlier.{Earlier}
use Rattle.archive_law.specs.Archives.{IsPast, archive, volumes_left}
use Rattle.archive_law.specs.AsOf.{Decided, HomeKnows, TellsMap, beside_homes, idle_run}
use Rattle.archive_law.proofs.ArchiveLemmas.{archive-is}
use Rattle.archive_law.proofs.IdleLemmas.{homes-tell}
use Rattle.snapshot_command.specs.Archives.{joined_marks}
use Rattle.snapshot_command.specs.Outcome.{Outcome}
use Rattle.snapshot_command.specs.Outcome.TheVariants.{Told, Refused, Fallen, NoMemory}
use Rattle.snapshot_command.specs.Repositories.{all_joined}
use Rattle.snapshot_command.specs.Snapshots.{Gives, GivesAt, IsPart, IsSnapshot, clock_for, list_of, mark_at}
use Rattle.archive_promise.specs.Answered.{listed_value}
use Rattle.archive_promise.specs.Snapped.{IsLawfulSnapshot, TellsOneMap, WereAllLeft}
use Rattle.archive_promise.proofs.AnsweredLemmas.{archive-left, entry-value}

-- ---- decisions of homes, as pairs

abbrev settle : Decided → Mark
settle d = Settle d.0 d.1

module _ (settled home : StampParts → Option Bool) where
  abbrev HomeSays : Decided → Type 0
  HomeSays d = home d.0 ≡ Some d.1

  -- what is said of an archive's attempts is what their homes say
  pub said-pairs : (m : List Mark) → (ds : List Decided) × (from_homes settled home m ≡ map settle ds) × Every HomeSays ds
  unfolding from_homes
  said-pairs [] = ([], refl, tt)
  said-pairs (Put o x v ∷ m) = one (settled x.stamp) (home x.stamp) refl (said-pairs m)
    where
      one : (a b : Option Bool) → home x.stamp ≡ b → (ds : List Decided) × (from_homes settled home m ≡ map settle ds) × Every HomeSays ds →
          (ds : List Decided) × (as_mark x.stamp (unless_known a b) ++ from_homes settled home m ≡ map settle ds) × Every HomeSays ds
      one None None e h = h
      one None (Some c) e (ds, is, all) = ((x.stamp, c) ∷ ds, ap (λ z. Settle x.stamp c ∷ z) is, (e, all))
      one (Some d) b e h = h
  said-pairs (Stretch o x ∷ m) = said-pairs m
  said-pairs (Settle s c ∷ m) = said-pairs m
  said-pairs (Floor z ∷ m) = said-pairs m

-- ---- lists by place

joined-there : (all : List (List (List Effect))) (i : ℕ) → suc i ≤ length all → get_or (map joined_marks all) i [] ≡ joined_marks (get_or all i [])
joined-there [] i low = absurd (omega (arith, low))
joined-there (logs ∷ all) zero low = refl
joined-there (logs ∷ all) (suc i) low = joined-there all i (omega (arith, low))

joined-at : (all : List (List (List Effect))) (r : ℕ) → 1 ≤ r → r ≤ length all → list_of (all_joined all) r ≡ joined_marks (list_of all r)
joined-at all zero low high = absurd (omega (arith, low))
joined-at all (suc i) low high = joined-there all i high

beyond : (xs : List (List Mark)) (i : ℕ) → length xs ≤ i → get_or xs i [] ≡ []
beyond [] i low = refl
beyond (x ∷ xs) zero low = absurd (omega (arith, low))
beyond (x ∷ xs) (suc i) low = beyond xs i (omega (arith, low))

none-some : (c : Bool) → None ≡ Some c → ⊥
none-some c e = absurd (cc e)

nothing-said : (s : StampParts) (c : Bool) (m : List Mark) → m ≡ [] → settle_of m s ≡ Some c → ⊥
unfolding settle_of
nothing-said s c m none h = none-some c (sym (ap (λ z. settle_of z s) none) ∙ h)

-- ---- over a past

module _ (cs : List Earlier) (all : List (List (List Effect))) (left : WereAllLeft cs all) (past : IsPast cs) where
  archive-there : (r : ℕ) → 1 ≤ r → r ≤ length all → archive_at (all_joined all) r ≡ archive (volumes_left cs r)
  archive-there r low high = ap (λ (m : List Mark). reverse m) (joined-at all r low high) ∙ archive-left cs r (list_of all r) (left r low high)

  -- a decision that a home's archive has is known to the home's log
  home-knows : (s : StampParts) (c : Bool) → at_home (all_joined all) s ≡ Some c → HomeKnows cs (length all) (s, c)
  home-knows s c h = by (s.home == 0) refl (nat_lt (length all) s.home) refl
    where
      long : length (all_joined all) ≡ length all
      long = length-map all joined_marks

      by : (a : Bool) → (s.home == 0) ≡ a → (b : Bool) → nat_lt (length all) s.home ≡ b → HomeKnows cs (length all) (s, c)
      by true e b f =
          let none : s.home ≡ 0 = grind (arith, nat_tests) in
          absurd (nothing-said s c (archive_at (all_joined all) s.home) (ap (λ n. archive_at (all_joined all) n) none) h)
      by false e true f =
          let far : suc (length all) ≤ s.home = grind (arith, nat_tests) in
          absurd (nothing-said s c (archive_at (all_joined all) s.home) (ap (λ (m : List Mark). reverse m) (beyond ([] ∷ all_joined all) s.home (omega (arith, far, long)))) h)
      by false e false f =
          let low : 1 ≤ s.home = grind (arith, nat_tests) in
          let high : s.home ≤ length all = grind (arith, nat_tests) in
          (low, high, sym ((archive-is cs past s.home).known_so s) ∙ (sym (ap (λ m. settle_of m s) (archive-there s.home low high)) ∙ h))

  all-known : (ds : List Decided) → Every (λ (d : Decided). at_home (all_joined all) d.0 ≡ Some d.1) ds → Every (HomeKnows cs (length all)) ds
  all-known [] h = tt
  all-known (d ∷ ds) h = (home-knows d.0 d.1 h.0, all-known ds h.1)

  -- what a repository's archive tells, with what the homes say
  pub informed-tells : (r : ℕ) (s : StampParts) → 1 ≤ r → r ≤ length all → TellsMap r (informed (all_joined all) r) s (before (idle_run cs (length all)) s)
  informed-tells r s low high =
      let m = archive_at (all_joined all) r in
      let said = said-pairs (settle_of m) (at_home (all_joined all)) m in
      let same : beside_homes said.0 (archive (volumes_left cs r)) ≡ informed (all_joined all) r =
      ap (λ z. map settle said.0 ++ z) (sym (archive-there r low high)) ∙ ap (λ z. z ++ m) (sym said.1) in
      subst (λ z. TellsMap r z s (before (idle_run cs (length all)) s)) same (homes-tell cs r (length all) s said.0 past low high (all-known said.0 said.2))

pub one-map : (c : ℕ) (all : List (List (List Effect))) (text : List ℕ) → IsSnapshot (all_joined all) (mark_at c) text → 1 ≤ length all → TellsOneMap (mark_at c).stamp all text
one-map c all text is some cs left = record {
  lists = is.lists;
  count = is.count ∙ long;
  is_text = is.is_text;
  rising = λ r low high. (part r low high).rising;
  values = λ r low high o. ap listed_value ((part r low high).values o) ∙ (entry-value o (last_below (informed (all_joined all) r) o (mark_at c)) ∙ informed-tells cs all left past r s low high (part r low high).decided o);
}
  where
    s : StampParts
    s = (mark_at c).stamp

    long : length (all_joined all) ≡ length all
    long = length-map all joined_marks

    past : IsPast cs
    past = (left 1 (omega arith) some).past

    part : (r : ℕ) → 1 ≤ r → r ≤ length all → IsPart (all_joined all) (mark_at c) r (list_of is.lists r)
    part r low high = is.parts r low (let e = is.count in omega (arith, e, long, high))

-- ---- what came of a snapshot

pub lawful-snapshot : (clock : Option ℕ) (all : List (List (List Effect))) (r : Outcome) → 1 ≤ length all → Gives clock (all_joined all) r → IsLawfulSnapshot clock all r
lawful-snapshot clock all (Told text) some gives = by (clock_for clock (all_joined all)) refl gives
  where
    by : (found : Option ℕ) → clock_for clock (all_joined all) ≡ found → GivesAt (all_joined all) found (Told text) → IsLawfulSnapshot clock all (Told text)
    by None e g = absurd g
    by (Some c) e g = (c, e, one-map c all text g some)
lawful-snapshot clock all (Refused line) some gives = tt
lawful-snapshot clock all (Fallen line) some gives = tt
lawful-snapshot clock all NoMemory some gives = tt
