-- What the public words say of views, passes and visits.
use Rattle.seat_lock.proofs.Names.{◌≡◌, ℕ, List, [], ◌∷◌, ◌++◌, length, map, All, Some, refl, sym, ap, ◌∙◌, subst, arith, Snapshot, TableId, Seat, Part, View, Begins, HasOwn, entries_of, owned_in, holding, founder, all_parts, AreNew, Belongs, Known, IsInside, CarriesOn, shown, knows, fresh, base_in, owner_in, own_in}
use Rattle.seat_lock.specs.declared.locks.Visit.{Visit}
use Rattle.seat_lock.proofs.Beginnings.{own_adds}
use Rattle.seat_lock.proofs.Gathering.{all_cons}

module _ {E : Type 0} where
  pub one_part : (ps : List (Part E)) → length ps ≡ 1 → (p : Part E) × (ps ≡ p ∷ [])
  one_part [] h = absurd (omega (arith, h))
  one_part (p ∷ []) h = (p, refl)
  one_part (p ∷ q ∷ ps) h = absurd (omega (arith, h))

  own_one : (owner : E → ℕ) (ps : List (Part E)) (l : List E) → length ps ≡ 1 → HasOwn owner ps l → entries_of owner (owner_in ps) l ≡ own_in ps
  own_one owner [] l h own = absurd (omega (arith, h))
  own_one owner (p ∷ ps) l h own = own.0

module _ {T E : Type 0} where
  -- a view with one part knows what carries on from it
  pub carries_on : (owner : E → ℕ) (v : View T E) (l : List E) → length v.parts ≡ 1 → Begins v.story l → HasOwn owner v.parts l → CarriesOn owner (shown v) l
  carries_on owner v l one begins own = record { begins = begins; own = own_one owner v.parts l one own }

  -- a view of the same owner and base
  pub shown_is : (v w : View T E) (s : List E) (ts ps : List (ℕ × ℕ)) → w.base ≡ v.base → w.parts ≡ v.parts → w.story ≡ s → w.tests ≡ ts → w.posts ≡ ps
      → (let k : Known T E = record (shown v) { story = s; tests = ts; posts = ps } in shown w ≡ k)
  shown_is v w s ts ps base parts story tests posts =
      λ i. (let k : Known T E = record { base = base_in (base i); owner = owner_in (parts i); own = own_in (parts i); story = story i; tests = tests i; posts = posts i } in k)

  -- a view after a note shows the entry
  pub shown_noted : (owner : E → ℕ) (v : View T E) (e : E) (p : Part E) (l : List E) → l ≡ v.story ++ e ∷ [] → v.parts ≡ p ∷ [] → owner e ≡ p.owner → HasOwn owner v.parts v.story
      → (let w : View T E = record v { story = l; parts = owned_in owner l v.parts } in let k : Known T E = record (shown v) { story = v.story ++ e ∷ []; own = own_in v.parts ++ e ∷ [] } in shown w ≡ k)
  shown_noted owner v e p l is parts mine own =
      let had : entries_of owner p.owner v.story ≡ p.own = (subst (λ ps. HasOwn owner ps v.story) parts own).0 in
      let now : entries_of owner p.owner l ≡ p.own ++ e ∷ [] = ap (entries_of owner p.owner) is ∙ own_adds owner e p v.story mine had in
      let same : owner_in (owned_in owner l v.parts) ≡ owner_in v.parts = ap (λ ps. owner_in (owned_in owner l ps)) parts ∙ sym (ap owner_in parts) in
      let more : own_in (owned_in owner l v.parts) ≡ own_in v.parts ++ e ∷ [] = ap (λ ps. own_in (owned_in owner l ps)) parts ∙ (now ∙ ap (λ ps. own_in ps ++ e ∷ []) (sym parts)) in
      λ i. (let k : Known T E = record (shown v) { owner = same i; own = more i; story = is i } in k)

  -- a visit is still inside where its lock, place, slots, stage and base are as they were, and it has as many owners
  pub still_inside : (v w : Visit T E) (x : T) → IsInside v x → w.lock.now.table.shared.table_id ≡ v.lock.now.table.shared.table_id → w.lock.now.table.shared.key.state.value ≡ v.lock.now.table.shared.key.state.value
      → w.seat.table_id ≡ v.seat.table_id → w.seat.me.1 ≡ v.seat.me.1 → w.seat.me.0.stage ≡ v.seat.me.0.stage → w.seat.me.0.base ≡ v.seat.me.0.base → length w.seat.me.0.parts ≡ length v.seat.me.0.parts → IsInside w x
  still_inside v w x h lock key here slots stage base parts =
      record { here = here ∙ (h.here ∙ sym lock); holds = ap holding stage ∙ h.holds; slot = slots ∙ h.slot; owned = parts ∙ h.owned; based = (h.based.0, base ∙ h.based.1, h.based.2 ∙ sym key) }

  -- a pass of a lock has the lock's base
  pub base_known : (z : TableId) (base : T) (p : Seat T (View T E)) → Belongs z base p → (knows p).base ≡ Some base
  base_known z base p h = ap base_in h.based.1 ∙ ap (λ x. Some x) h.based.2

  new_belong : (z : TableId) (b : Snapshot T) (all os : List ℕ) (ps : List (Seat T (View T E))) → AreNew z (founder b all) (all_parts os) ps → All (Belongs z b.value) ps
  new_belong z b all [] [] h = λ k d lt. absurd (omega arith)
  new_belong z b all [] (p ∷ ps) h = absurd h
  new_belong z b all (o ∷ os) [] h = absurd h
  new_belong z b all (o ∷ os) (p ∷ ps) h = all_cons (Belongs z b.value) p ps
      record { here = h.0; idle = ap (λ m. m.0.stage) h.1; empty = ap (λ m. m.1) h.1; owned = ap (λ m. length m.0.parts) h.1; based = (b, ap (λ m. m.0.base) h.1, refl) } (new_belong z b all os ps h.2)

  new_fresh : (z : TableId) (b : Snapshot T) (all os : List ℕ) (ps : List (Seat T (View T E))) → AreNew z (founder b all) (all_parts os) ps → map knows ps ≡ map (fresh b.value) os
  new_fresh z b all [] [] h = refl
  new_fresh z b all [] (p ∷ ps) h = absurd h
  new_fresh z b all (o ∷ os) [] h = absurd h
  new_fresh z b all (o ∷ os) (p ∷ ps) h = λ i. shown (h.1 i).0 ∷ new_fresh z b all os ps h.2 i

  -- the passes that were dealt out belong to the lock, and know nothing yet
  pub new_passes : (z : TableId) (base : T) (b : Snapshot T) (os : List ℕ) (ps : List (Seat T (View T E))) → b.value ≡ base → AreNew z (founder b os) (all_parts os) ps
      → All (Belongs z base) ps × (map knows ps ≡ map (fresh base) os)
  new_passes z base b os ps is h = subst (λ (x : T). All (Belongs z x) ps × (map knows ps ≡ map (fresh x) os)) is (new_belong z b os os ps h, new_fresh z b os os ps h)
