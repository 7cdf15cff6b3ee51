-- `Boxed` inside a type that it leads back to: a tree of expressions is plain data.
use mathlib.Core.Path.{refl}
use mathlib.Core.Former.{Former, this, const, pair, via}
use base.Stored.{gnil}
use base.Fml.{ftrue}
use denote.RattleType.{RattleType}
use denote.Memory.{part_of}
use denote.RawPtr.{Ptr}
use denote.Sharing.{nothing}
use denote.HoleLaws.{Alike}
use denote.HolePlaces.{Recodes, struct_places, laid, one_value}
use denote.Hole.Fix.{over}
use denote.Param.Weighed.{Weighed}
use denote.Model.Placed.{view_places}
use Rattle.std.specs.declared.boxed.Box.{Box}
use Rattle.std.specs.contracts.boxed.Box as box
use Rattle.std.specs.declared.alloc.Global.{Global}
use Rattle.std.specs.contracts.alloc.Global as heap
use Rattle.std.specs.contracts.impls.GlobalAllocator.TheImpl.{ghosts}
use Rattle.value_form.specs.declared.boxes.Boxed.TheInside.{Inside}
use Rattle.value_form.specs.declared.boxes.Boxed.TheView.{view, invariant}
use Rattle.value_form.specs.contracts.boxes.Boxed as whole
use Rattle.value_form.specs.contracts.boxes.Boxed.TheInside as inside

-- seen as what it is over
abbrev pub the_former : Former {0} → Former {0}
the_former g = g

abbrev pub the_weighed : {g : Former {0}} → Weighed g → Weighed (the_former g)
the_weighed w = w

-- its one field is a `Box`: a pointer, an allocator and what stands there
abbrev fields : Former {0}
fields = via (pair (const (Ptr × Global)) this) Inside (λ X s. ((s.place.ptr, s.place.alloc), s.place.value))
    (λ X v. record { place = record { ptr = v.0.0; alloc = v.0.1; value = v.1 } }) (λ X s. refl) (λ X v. refl)

abbrev holding : {X Y : Type 0} → Box X Global → Y → Box Y Global
holding b y = record { ptr = b.ptr; alloc = b.alloc; value = y }

abbrev boxed : RattleType → RattleType
boxed R = box.the_row R heap.the_row ghosts

module _ (R S : RattleType) (h : R.Denot → S.Denot) where
  placed : Alike R S h → Alike (boxed R) (boxed S) (λ b. holding b (h b.value))
  unfolding part_of
  placed alike = record {
    mir_same = λ i. (boxed (one_value R (alike.mir_same i) (λ _. ftrue) (λ _ _. nothing) gnil)).mir;
    own_same = λ b i. (boxed (one_value R (alike.mir_same i) (alike.own_same b.value i) (alike.shr_same b.value i) gnil)).own_val (holding b tt);
    shr_same = λ b i. (boxed (one_value R (alike.mir_same i) (alike.own_same b.value i) (alike.shr_same b.value i) gnil)).shr_at (holding b tt);
  }

  pub the_places : Alike R S h → Alike (whole.the_row R) (whole.the_row S) ((the_former this).map R.Denot S.Denot h)
  the_places alike = view_places fields this view (λ X Y k u. refl) (λ X u. refl) R.Denot S.Denot h (whole.the_row R).coded (whole.the_row S).coded
      (invariant R.Denot) (invariant S.Denot) (λ u p q. refl) (λ u p q. refl) (λ u e. tt) (λ u e. tt)
      (over (inside.the_row R)) (over (inside.the_row S))
      (struct_places (inside.the_type R) (inside.the_type S) ((λ b. holding b (h b.value)), tt) _ (λ d. refl) refl (laid _ _ _ (placed alike), tt))

  pub the_codes_placed : Recodes R S h → Recodes (whole.the_row R) (whole.the_row S) ((the_former this).map R.Denot S.Denot h)
  the_codes_placed same d = same d
