-- Slots under names.
use Rattle.held_shelf.proofs.Names.{◌≡◌, ◌≢◌, ⊎_elim, ℕ, ◌<◌, List, [], ◌∷◌, ◌++◌, length, get_or, true, false, refl, sym, ◌∙◌, ap, subst, arith, slice_set, zero, suc, Option, Some, None, if◌then◌else◌, ◌==◌, ◌&&◌, Bool, cond-true, cond-false, cases_Bool, eqb-true, eq-eqb, and_parts, MediumName, Slot, is_same_name, slot_of, IsPlace, NowHas, false≢true}
use Rattle.pseudo_time.specs.declared.nodes.NodeKind.{NodeKind}
use Rattle.pseudo_time.specs.declared.nodes.NodeKind.TheVariants.{Repository, Broker}
use Rattle.pseudo_time.specs.Nodes.{kind_number}

same_kind : (a b : NodeKind) → kind_number a ≡ kind_number b → a ≡ b
same_kind Repository Repository e = refl
same_kind Repository Broker e = absurd (omega (arith, e))
same_kind Broker Repository e = absurd (omega (arith, e))
same_kind Broker Broker e = refl

pub same_is : (a b : MediumName) → is_same_name a b ≡ true → a ≡ b
same_is a b same =
    let parts = and_parts _ _ same in
    let more = and_parts _ _ parts.1 in
    let kind : a.kind ≡ b.kind = same_kind a.kind b.kind (eqb-true (kind_number a.kind) (kind_number b.kind) parts.0) in
    let number : a.number ≡ b.number = eqb-true a.number b.number more.0 in
    let volume : a.volume ≡ b.volume = eqb-true a.volume b.volume more.1 in
    ap (λ (k : NodeKind). named k a.number a.volume) kind ∙ ap (λ (n : ℕ). named b.kind n a.volume) number ∙ ap (λ (v : ℕ). named b.kind b.number v) volume
  where
    named : NodeKind → ℕ → ℕ → MediumName
    named kind number volume = record { kind = kind; number = number; volume = volume }

eqb_self : (n : ℕ) → (n == n) ≡ true
eqb_self n = eq-eqb n n refl

pub same_self : (a : MediumName) → is_same_name a a ≡ true
same_self a = and_true (eqb_self (kind_number a.kind)) (and_true (eqb_self a.number) (eqb_self a.volume))
  where
    and_true : {x y : Bool} → x ≡ true → y ≡ true → (x && y) ≡ true
    and_true {x} {y} e f = cc (e, f)

pub not_same : (a b : MediumName) → a ≢ b → is_same_name a b ≡ false
not_same a b ne = ⊎_elim (λ same. absurd (ne (same_is a b same))) (λ other. other) (cases_Bool (is_same_name a b))

pub slot_there : {M : Type 0} → (slots : List (Slot M)) (name : MediumName) (i : ℕ) (d : Slot M) → IsPlace slots name i → slot_of slots name ≡ Some (get_or slots i d).held
slot_there [] name i d place = absurd (omega (arith, place.low))
slot_there (s ∷ slots) name zero d place = cond-true _ _ _ (place.here d)
slot_there (s ∷ slots) name (suc i) d place = cond-false _ _ _ (place.past zero d (omega arith)) ∙ slot_there slots name i d (record { low = omega (arith, place.low); past = λ k e low. place.past (suc k) e (omega (arith, low)); here = λ e. place.here e })

pub slot_set : {M : Type 0} → (slots : List (Slot M)) (name : MediumName) (i : ℕ) (new : Slot M) → IsPlace slots name i → new.name ≡ name → slot_of (slice_set slots i new) name ≡ Some new.held
slot_set [] name i new place is = absurd (omega (arith, place.low))
slot_set (s ∷ slots) name zero new place is = cond-true _ _ _ (subst (λ (n : MediumName). is_same_name n name ≡ true) (same_is s.name name (place.here new) ∙ sym is) (place.here new))
slot_set (s ∷ slots) name (suc i) new place is = cond-false _ _ _ (place.past zero new (omega arith)) ∙ slot_set slots name i new (record { low = omega (arith, place.low); past = λ k e low. place.past (suc k) e (omega (arith, low)); here = λ e. place.here e }) is

pub slot_others : {M : Type 0} → (slots : List (Slot M)) (name other : MediumName) (i : ℕ) (new : Slot M) → IsPlace slots name i → new.name ≡ name → other ≢ name → slot_of (slice_set slots i new) other ≡ slot_of slots other
slot_others [] name other i new place is ne = absurd (omega (arith, place.low))
slot_others (s ∷ slots) name other zero new place is ne =
    cond-false _ _ _ (not_same new.name other (λ e. ne (sym e ∙ is)))
    ∙ sym (cond-false _ _ _ (not_same s.name other (λ e. ne (sym e ∙ same_is s.name name (place.here new)))))
slot_others {M} (s ∷ slots) name other (suc i) new place is ne =
    ap (λ (t : Option (Option M)). if is_same_name s.name other then Some s.held else t) (slot_others slots name other i new (record { low = omega (arith, place.low); past = λ k e low. place.past (suc k) e (omega (arith, low)); here = λ e. place.here e }) is ne)

pub slot_pushed : {M : Type 0} → (slots : List (Slot M)) (new : Slot M) → slot_of slots new.name ≡ None → slot_of (slots ++ new ∷ []) new.name ≡ Some new.held
slot_pushed [] new none = cond-true _ _ _ (same_self new.name)
slot_pushed (s ∷ slots) new none = ⊎_elim
    (λ hit. absurd (cc (none, cond-true (is_same_name s.name new.name) (Some s.held) (slot_of slots new.name) hit)))
    (λ miss. cond-false _ _ _ miss ∙ slot_pushed slots new (sym (cond-false (is_same_name s.name new.name) (Some s.held) (slot_of slots new.name) miss) ∙ none))
    (cases_Bool (is_same_name s.name new.name))

pub slot_kept : {M : Type 0} → (slots : List (Slot M)) (new : Slot M) (other : MediumName) → other ≢ new.name → slot_of (slots ++ new ∷ []) other ≡ slot_of slots other
slot_kept [] new other ne = cond-false _ _ _ (not_same new.name other (λ e. ne (sym e)))
slot_kept {M} (s ∷ slots) new other ne = ap (λ (t : Option (Option M)). if is_same_name s.name other then Some s.held else t) (slot_kept slots new other ne)

pub slot_nowhere : {M : Type 0} → (slots : List (Slot M)) (name : MediumName) → ((k : ℕ) (d : Slot M) → k < length slots → is_same_name (get_or slots k d).name name ≡ false) → slot_of slots name ≡ None
slot_nowhere [] name past = refl
slot_nowhere (s ∷ slots) name past = cond-false _ _ _ (past zero s (omega arith)) ∙ slot_nowhere slots name (λ k d low. past (suc k) d (omega (arith, low)))

-- where nothing is put into a place that had nothing, each name has what it had
pub still : {M : Type 0} → (name : MediumName) (old new : List (Slot M)) → NowHas name None old new → slot_of old name ≡ Some None → (other : MediumName) → slot_of new other ≡ slot_of old other
still name old new has was other = ⊎_elim
    (λ same. ap (λ (n : MediumName). slot_of new n) (same_is other name same) ∙ has.there ∙ sym was ∙ ap (λ (n : MediumName). slot_of old n) (sym (same_is other name same)))
    (λ miss. has.others other (λ e. absurd (false≢true (sym miss ∙ subst (λ (n : MediumName). is_same_name other n ≡ true) e (same_self other)))))
    (cases_Bool (is_same_name other name))
