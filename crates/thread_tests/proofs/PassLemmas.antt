-- Where a node is when a run begins, and after a test.
use Rattle.std.specs.Prelude.{◌≡◌, Bool, false, List, [], ◌∷◌, ◌++◌, map, Option, Some, is_some, All, IfSome}
use Rattle.std.specs.Option.{option_to_list}
use Rattle.std.proofs.Common.{refl, ap, sym, ◌∙◌, subst}
use Rattle.std.proofs.lemmas.List.{map-append, same_from_push}
use Rattle.std.proofs.lemmas.List.Elements.{All-pop}
use Rattle.atomic_table.specs.declared.shared.Seat.{Seat}
use Rattle.pseudo_time.specs.declared.nodes.NodeId.{NodeId}
use Rattle.pseudo_time.specs.Nodes.{repository, broker}
use Rattle.pseudo_time.specs.StampParts.{StampParts}
use Rattle.seat_lock.specs.declared.views.View.{View}
use Rattle.seat_lock.specs.declared.views.Founding.{Founding}
use Rattle.seat_lock.specs.declared.locks.LockTable.{LockTable}
use Rattle.seat_lock.specs.Words.{knows, fresh}
use Rattle.world_core.specs.declared.entries.Entry.{Entry}
use Rattle.world_core.specs.declared.traces.Opened.{Opened}
use Rattle.world_core.specs.Walks.{Base, opened_flags, opened_log, walk, walk_from}
use Rattle.wire_core.specs.Wires.{WireParts, base_from}
use Rattle.wire_core.specs.Boards.{owner_for}
use Rattle.wire_lock.specs.Sights.{Sight, IsWirePass, Tested, flags_at, owners_for}
use Rattle.thread_tests.specs.Passes.{IsAt, blank_two}

abbrev Pass : Type 0
Pass = Seat WireParts (View WireParts Entry)

flags-new : (b : Base) (n : NodeId) → (walk b []).flags n ≡ opened_flags (is_some (opened_log b.opened n))
unfolding walk_from
flags-new b n = refl

module _ {Q A : Type 0} (lock : LockTable WireParts (View WireParts Entry) (Founding WireParts) Q A) (w : WireParts) (pass : Pass) (is : IsWirePass lock pass) (n : NodeId)
    (new : knows pass ≡ fresh w (owner_for n)) (blanks : List Opened) (blank : w.origin.opened ≡ blanks) (empty : opened_log blanks n ≡ Some []) where
  opened-blank : opened_log w.origin.opened n ≡ Some []
  opened-blank = ap (λ (os : List Opened). opened_log os n) blank ∙ empty

  pub at-start : IsAt lock n false false pass
  at-start = record {
    of_lock = is;
    own = ap (λ (k : Sight). k.owner) new;
    flags = ap (λ (k : Sight). flags_at k n) new ∙ flags-new (base_from w.origin) n ∙ ap (λ o. opened_flags (is_some o)) opened-blank;
  }

-- A pass that is popped off is one of the lock's, as those are that are left, and knows what the last one did.
module _ {Q A : Type 0} (lock : LockTable WireParts (View WireParts Entry) (Founding WireParts) Q A) where
  pub popped : (all rest : List Pass) (r : Option Pass) (pass : Pass) (ks : List Sight) (k : Sight) → all ≡ rest ++ option_to_list r → r ≡ Some pass
      → All (IsWirePass lock) all → map knows all ≡ ks ++ k ∷ [] → All (IsWirePass lock) rest × IsWirePass lock pass × (map knows rest ≡ ks) × (knows pass ≡ k)
  popped all rest r pass ks k first some are know =
      let both = All-pop (IsWirePass lock) all rest r first are in
      let last = same_from_push (map knows rest) ks (knows pass) k (sym (map-append knows rest (pass ∷ [])) ∙ sym (ap (map knows) (first ∙ ap (λ o. rest ++ option_to_list o) some)) ∙ know) in
      (both.0, subst (λ o. IfSome o (IsWirePass lock)) some both.1, last.0, last.1)

-- three passes that are popped off those of a new run of one repository and one broker
module _ {Q A : Type 0} (lock : LockTable WireParts (View WireParts Entry) (Founding WireParts) Q A) (w : WireParts) where
  pub dealt : (all ones twos threes : List Pass) (r s t : Option Pass) (a b c : Pass) → all ≡ ones ++ option_to_list r → ones ≡ twos ++ option_to_list s → twos ≡ threes ++ option_to_list t
      → r ≡ Some c → s ≡ Some b → t ≡ Some a → All (IsWirePass lock) all → map knows all ≡ map (fresh w) (owners_for w.origin.opened) → w.origin.opened ≡ blank_two
      → IsAt lock (repository 1) false false a × IsAt lock (broker 1) false false b × IsWirePass lock c
  dealt all ones twos threes r s t a b c first second third last middle front are known blank =
      let one = popped lock all ones r c (fresh w 1 ∷ fresh w 17 ∷ []) (fresh w 0) first last are (known ∙ ap (λ (os : List Opened). map (fresh w) (owners_for os)) blank) in
      let two = popped lock ones twos s b (fresh w 1 ∷ []) (fresh w 17) second middle one.0 one.2 in
      let three = popped lock twos threes t a [] (fresh w 1) third front two.0 two.2 in (
        at-start lock w a three.1 (repository 1) three.3 blank_two blank refl,
        at-start lock w b two.1 (broker 1) two.3 blank_two blank refl,
        one.1,
      )

-- a test leaves the node where it was
module _ {Q A : Type 0} (lock : LockTable WireParts (View WireParts Entry) (Founding WireParts) Q A) (n : NodeId) (p p' : Pass) (is : IsWirePass lock p') where
  pub tested-at : (gone due : Bool) (s : StampParts) (answer : Option Bool) → IsAt lock n gone due p → Tested (knows p) (knows p') s answer → IsAt lock n gone due p'
  tested-at gone due s answer at t = record {
    of_lock = is;
    own = ap (λ (k : Sight). k.owner) t.kept ∙ at.own;
    flags = ap (λ (k : Sight). flags_at k n) t.kept ∙ t.before.flags n at.own ∙ at.flags;
  }
