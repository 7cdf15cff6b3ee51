-- The passes of a run that begins, each in the place of its node.
use Rattle.run_rounds.proofs.Names.{Asked, Plan, fresh, knows, Opened, opened_log, WireParts, owner_for, Opening, log_in, opened_from, node_at, log-at, Along, IsSetUp, IsUnseen, fresh_for, Pass, ◌≡◌, ◌∙◌, ◌+◌, ℕ, suc, List, [], ◌∷◌, length, map, Option, Some, slice_get, take, refl, ap, sym, subst, arith, length-map, take-length}

first-same : {T : Type 0} {x y : T} {xs ys : List T} → x ∷ xs ≡ y ∷ ys → x ≡ y
first-same e = cc

rest-same : {T : Type 0} {x y : T} {xs ys : List T} → x ∷ xs ≡ y ∷ ys → xs ≡ ys
rest-same e = cc

-- as many passes as nodes
pub pass-count : (wire : WireParts) (opened : List Opened) (passes : List Pass) → map knows passes ≡ fresh_for wire opened → length passes ≡ length opened
pass-count wire opened passes e = sym (length-map passes knows) ∙ (ap length e ∙ length-map opened (λ (o : Opened). fresh wire (owner_for o.node)))

module _ {M : Type 0} {g : _} (plan : Plan) where
  opened-count : (k : ℕ) (os : List (Opening M g)) → length (opened_from plan k os) ≡ length os
  opened-count k [] = refl
  opened-count k (o ∷ os) = ap suc (opened-count (suc k) os)

  -- what holds of each new pass in its place holds of them all
  along-from : (R : ℕ → Opening M g → Pass → Type 0) (whole : List (Opening M g)) (wire : WireParts) → ((i : ℕ) (o : Opening M g) (p : Pass) → slice_get whole i ≡ Some o → knows p ≡ fresh wire (owner_for (node_at plan i)) → R i o p)
      → (k : ℕ) (os : List (Opening M g)) (passes : List Pass) → ((i : ℕ) (o : Opening M g) → slice_get os i ≡ Some o → slice_get whole (k + i) ≡ Some o) → map knows passes ≡ fresh_for wire (opened_from plan k os) → Along R k os passes
  along-from R whole wire one k [] [] at e = tt
  along-from R whole wire one k [] (p ∷ ps) at e = absurd cc
  along-from R whole wire one k (o ∷ os) [] at e = absurd cc
  along-from R whole wire one k (o ∷ os) (p ∷ ps) at e =
      let z : k + 0 ≡ k = omega arith in
      let here : slice_get whole k ≡ Some o = subst (λ (j : ℕ). slice_get whole j ≡ Some o) z (at 0 o refl) in
      (one k o p here (first-same e), along-from R whole wire one (suc k) os ps (λ i x f. later i x (at (suc i) x f)) (rest-same e))
    where
      later : (i : ℕ) (x : Opening M g) → slice_get whole (k + suc i) ≡ Some x → slice_get whole (suc k + i) ≡ Some x
      later i x f = let z : k + suc i ≡ suc k + i = omega arith in subst (λ (j : ℕ). slice_get whole j ≡ Some x) z f

  module _ (os : List (Opening M g)) (asked : List Asked) (answers : Option (List ℕ)) (wire : WireParts) (set : IsSetUp plan os asked answers wire.origin) (passes : List Pass) (unseen : map knows passes ≡ fresh_for wire wire.origin.opened) where
    pub seats-count : length passes ≡ length os
    seats-count = pass-count wire wire.origin.opened passes unseen ∙ (ap length set.opened ∙ opened-count 0 os)

    pub fresh-along : (R : ℕ → Opening M g → Pass → Type 0) → ((i : ℕ) (o : Opening M g) (p : Pass) → slice_get os i ≡ Some o → knows p ≡ fresh wire (owner_for (node_at plan i)) → R i o p) → Along R 0 os passes
    fresh-along R one = along-from R os wire one 0 os passes at (unseen ∙ ap (fresh_for wire) set.opened)
      where
        at : (i : ℕ) (o : Opening M g) → slice_get os i ≡ Some o → slice_get os (0 + i) ≡ Some o
        at i o e = let z : i ≡ 0 + i = omega arith in subst (λ (j : ℕ). slice_get os j ≡ Some o) z e

    -- the log that the wire has of the node in a place
    pub opened-there : (i : ℕ) (o : Opening M g) → slice_get os i ≡ Some o → opened_log wire.origin.opened (node_at plan i) ≡ Some (log_in o)
    opened-there i o e =
        let z : 0 + i ≡ i = omega arith in
        ap (λ (l : List Opened). opened_log l (node_at plan i)) set.opened
        ∙ subst (λ (j : ℕ). opened_log (opened_from plan 0 os) (node_at plan j) ≡ Some (log_in o)) z (log-at plan 0 os i o e)

    -- no pass has seen anything
    pub unseen-along : (n : ℕ) → n ≡ length os → Along (λ i o pass. IsUnseen wire (node_at plan i) o pass) 0 (take n os) passes
    unseen-along n size =
        subst (λ (l : List (Opening M g)). Along (λ i o pass. IsUnseen wire (node_at plan i) o pass) 0 l passes) (sym (ap (λ (m : ℕ). take m os) size ∙ take-length os))
        (fresh-along (λ i o pass. IsUnseen wire (node_at plan i) o pass) (λ i o p there is. record { unseen = is; opened = opened-there i o there }))
