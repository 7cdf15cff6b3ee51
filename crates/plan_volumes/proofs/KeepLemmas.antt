-- The volumes of all nodes are handed back.
use Rattle.plan_volumes.proofs.Names.{length-map, map-append, AllZip, NodeId, MediumName, Plan, Opening, Open, Shut, Wanting, Media, HasOpened, medium_in, node_at, kept_as, kept_under, first_names, volume_name, Kept, names-long, AreNodes, NodeVolumes, all_left, all_taken, left_of, names_from, work_taken, working, IsAside, Aside, ◌≡◌, ◌+◌, ℕ, zero, suc, List, [], ◌∷◌, ◌++◌, length, length-append, map, append_assoc, append-nil, get_or, slice_set, Option, Some, None, refl, ap, sym, subst, ◌∙◌, arith, IsBack, keep-joined}
use Rattle.plan_volumes.proofs.ApartLemmas.{names-more, set-long, zip-long}

-- ---- lists that end with one more

-- the list begins with what lies beside all but the last
pub record EndsWith {A B : Type 0} (R : A → B → Type 0) (xs : List A) (ys : List B) (y : B) : Type 0 where
  pub front : List A
  pub last : A
  pub is : xs ≡ front ++ last ∷ []
  pub before : AllZip R front ys
  pub at : R last y

pub zip-last : {A B : Type 0} (R : A → B → Type 0) (xs : List A) (ys : List B) (y : B) → AllZip R xs (ys ++ y ∷ []) → EndsWith R xs ys y
zip-last R [] [] y h = absurd h
zip-last R [] (z ∷ ys) y h = absurd h
zip-last R (x ∷ []) [] y h = record { front = []; last = x; is = refl; before = tt; at = h.0 }
zip-last R (x ∷ u ∷ xs) [] y h = absurd h.1
zip-last R (x ∷ xs) (z ∷ ys) y h = let r = zip-last R xs ys y h.1 in record { front = x ∷ r.front; last = r.last; is = ap (λ l. x ∷ l) r.is; before = (h.0, r.before); at = r.at }

module _ {M : Type 0} where
  pub kept-append : (ns ms : List MediumName) (xs ys : List (Option M)) → length ns ≡ length xs → kept_under {M = M} (ns ++ ms) (xs ++ ys) ≡ kept_under ns xs ++ kept_under ms ys
  kept-append [] ms [] ys e = refl
  kept-append [] ms (x ∷ xs) ys e = absurd (omega (arith, e))
  kept-append (n ∷ ns) ms [] ys e = absurd (omega (arith, e))
  kept-append (n ∷ ns) ms (x ∷ xs) ys e = ap (λ l. kept_as n x ++ l) (kept-append ns ms xs ys (omega (arith, e))) ∙ sym (append_assoc (kept_as n x) (kept_under ns xs) (kept_under ms ys))

module _ {M : Type 0} {g : _} where
  -- one more of a node's volumes, behind others
  pub openings-joined : (n : NodeId) (xs ys : List (Opening M g)) (o : Opening M g) (front k all : List (Kept M)) (v : ℕ) → ys ≡ xs ++ o ∷ [] → v ≡ length xs → k ≡ front ++ kept_under (first_names n (length xs)) (map medium_in xs)
      → all ≡ k ++ kept_as (volume_name n v) (medium_in o) → all ≡ front ++ kept_under (first_names n (length ys)) (map medium_in ys)
  openings-joined n xs ys o front k all v are at is more =
      let short : length (map medium_in xs) ≡ length xs = length-map xs medium_in in
      let long : length (map medium_in ys) ≡ length ys = length-map ys medium_in in
      subst (λ i. all ≡ front ++ kept_under (first_names n i) (map medium_in ys)) long
      (keep-joined n (map medium_in xs) (map medium_in ys) (medium_in o) front k all v (ap (map medium_in) are ∙ map-append medium_in xs (o ∷ [])) (at ∙ sym short)
      (is ∙ ap (λ i. front ++ kept_under (first_names n i) (map medium_in xs)) (sym short)) more)

module _ {M : Type 0} {w : Media M} where
  left-more : (volumes : List (NodeVolumes w)) (v : NodeVolumes w) (ms : List (Option M)) (m : Option M) → length volumes ≡ length ms → all_left (volumes ++ v ∷ []) (ms ++ m ∷ []) ≡ all_left volumes ms ++ left_of v m
  left-more [] v [] m e = append-nil (left_of v m)
  left-more [] v (x ∷ ms) m e = absurd (omega (arith, e))
  left-more (x ∷ volumes) v [] m e = absurd (omega (arith, e))
  left-more (x ∷ volumes) v (y ∷ ms) m e = ap (λ l. left_of x y ++ l) (left-more volumes v ms m (omega (arith, e))) ∙ sym (append_assoc (left_of x y) (all_left volumes ms) (left_of v m))

  left-long : (v : NodeVolumes w) (a : Aside M w) (m : Option M) → IsAside v a → length (left_of v m) ≡ length v.taken
  left-long v a m h = ap length (sym (h.rest m)) ∙ (set-long (map medium_in a.rest.items) a.working m ∙ (length-map a.rest.items medium_in ∙ h.count))

  both-long : (plan : Plan) (i : ℕ) (volumes : List (NodeVolumes w)) (asides : List (Aside M w)) (ms : List (Option M)) → AllZip IsAside volumes asides → length volumes ≡ length ms → length (names_from plan i volumes) ≡ length (all_left volumes ms)
  both-long plan i [] asides ms h e = refl
  both-long plan i (v ∷ volumes) asides [] h e = absurd (omega (arith, e))
  both-long plan i (v ∷ volumes) [] (m ∷ ms) h e = absurd h
  both-long plan i (v ∷ volumes) (a ∷ asides) (m ∷ ms) h e =
      let x = length-append (first_names (node_at plan i) (length v.taken)) (names_from plan (suc i) volumes) in
      let y = length-append (left_of v m) (all_left volumes ms) in
      let p = names-long (node_at plan i) (length v.taken) in
      let q = left-long v a m h.0 in
      let r = both-long plan (suc i) volumes asides ms h.1 (omega (arith, e)) in
      omega (arith, x, y, p, q, r)

  -- the volumes of one node more, behind those of the nodes before it
  pub nodes-joined : (plan : Plan) (volumes : List (NodeVolumes w)) (asides before : List (Aside M w)) (a : Aside M w) (media ms : List (Option M)) (m : Option M) (k all : List (Kept M)) (n : NodeId) (count : ℕ) (back : List (Option M))
      → AllZip IsAside volumes asides → asides ≡ before ++ a ∷ [] → media ≡ ms ++ m ∷ [] → length ms ≡ length before → n ≡ node_at plan (length before)
      → ((vs : List (NodeVolumes w)) → AllZip IsAside vs before → k ≡ kept_under (names_from plan 0 vs) (all_left vs ms)) → count ≡ length a.rest.items → back ≡ slice_set (map medium_in a.rest.items) a.working m
      → all ≡ k ++ kept_under (first_names n count) back → all ≡ kept_under (names_from plan 0 volumes) (all_left volumes media)
  nodes-joined plan volumes asides before a media ms m k all n count back zip are were long is earlier many left more =
      let r = zip-last IsAside volumes before a (subst (AllZip IsAside volumes) are zip) in
      let vs = r.front in
      let v = r.last in
      let same : length vs ≡ length before = zip-long IsAside vs before r.before in
      let even : length vs ≡ length ms = same ∙ sym long in
      let place : 0 + length vs ≡ length before = omega (arith, same) in
      more ∙ (ap (λ l. l ++ kept_under (first_names n count) back) (earlier vs r.before) ∙ (ap (λ l. kept_under (names_from plan 0 vs) (all_left vs ms) ++ kept_under (first_names n count) l) (left ∙ r.at.rest m)
      ∙ (ap (λ i. kept_under (names_from plan 0 vs) (all_left vs ms) ++ kept_under (first_names n i) (left_of v m)) (many ∙ r.at.count)
      ∙ (ap (λ (x : NodeId). kept_under (names_from plan 0 vs) (all_left vs ms) ++ kept_under (first_names x (length v.taken)) (left_of v m)) (is ∙ ap (node_at plan) (sym place))
      ∙ (sym (kept-append (names_from plan 0 vs) (first_names (node_at plan (0 + length vs)) (length v.taken)) (all_left vs ms) (left_of v m) (both-long plan 0 vs before ms r.before even))
      ∙ (ap (λ l. kept_under l (all_left vs ms ++ left_of v m)) (sym (names-more plan 0 vs v)) ∙ (ap (kept_under (names_from plan 0 (vs ++ v ∷ []))) (sym (left-more vs v ms m even))
      ∙ (ap (λ l. kept_under (names_from plan 0 l) (all_left l (ms ++ m ∷ []))) (sym r.is) ∙ ap (λ l. kept_under (names_from plan 0 volumes) (all_left volumes l)) (sym were)))))))))

  -- no node's
  pub none-joined : (plan : Plan) (volumes : List (NodeVolumes w)) (asides : List (Aside M w)) (media : List (Option M)) (kept : List (Kept M)) → AllZip IsAside volumes asides → length asides ≡ 0 → kept ≡ [] → kept ≡ kept_under (names_from plan 0 volumes) (all_left volumes media)
  none-joined plan [] asides media kept h e none = none
  none-joined plan (v ∷ volumes) [] media kept h e none = absurd h
  none-joined plan (v ∷ volumes) (a ∷ asides) media kept h e none = absurd (omega (arith, e))

-- ---- what was opened comes back

module _ {M : Type 0} (w : Media M) where
  pub opened-back : (x : Option M) (o : Opening M w) → HasOpened w x o → IsBack x (medium_in o)
  opened-back None (Open store effects) h = absurd h
  opened-back None (Shut None cause) h = tt
  opened-back None (Shut (Some new) cause) h = absurd h
  opened-back None (Wanting new) h = absurd h
  opened-back (Some old) (Open store effects) h = tt
  opened-back (Some old) (Shut None cause) h = absurd h
  opened-back (Some old) (Shut (Some new) cause) h = tt
  opened-back (Some old) (Wanting new) h = tt

  -- what holds of each medium that was opened holds of all volumes, where it holds of those that a run was given
  module _ (R : Option M → Option M → Type 0) (each : (x : Option M) (o : Opening M w) → HasOpened w x o → R x (medium_in o)) where
    pub all-opened : (xs : List (Option M)) (os : List (Opening M w)) → AllZip (HasOpened w) xs os → AllZip R xs (map medium_in os)
    all-opened [] [] h = tt
    all-opened [] (o ∷ os) h = absurd h
    all-opened (x ∷ xs) [] h = absurd h
    all-opened (x ∷ xs) (o ∷ os) h = (each x o h.0, all-opened xs os h.1)

    set-one : (taken : List (Option M)) (os : List (Opening M w)) (i : ℕ) (m : Option M) → AllZip (HasOpened w) taken os → R (get_or taken i None) m → AllZip R taken (slice_set (map medium_in os) i m)
    set-one [] [] i m h b = tt
    set-one [] (o ∷ os) i m h b = absurd h
    set-one (x ∷ xs) [] i m h b = absurd h
    set-one (x ∷ xs) (o ∷ os) zero m h b = (b, all-opened xs os h.1)
    set-one (x ∷ xs) (o ∷ os) (suc i) m h b = (each x o h.0, set-one xs os i m h.1 b)

    zip-both : (xs ys ls ms : List (Option M)) → AllZip R xs ls → AllZip R ys ms → AllZip R (xs ++ ys) (ls ++ ms)
    zip-both [] ys [] ms h k = k
    zip-both [] ys (l ∷ ls) ms h k = absurd h
    zip-both (x ∷ xs) ys [] ms h k = absurd h
    zip-both (x ∷ xs) ys (l ∷ ls) ms h k = (h.0, zip-both xs ys ls ms h.1 k)

    pub all-volumes : (plan : Plan) (i : ℕ) (volumes : List (NodeVolumes w)) (left : List (Option M)) → AreNodes w plan i volumes → AllZip R (map work_taken volumes) left → AllZip R (all_taken volumes) (all_left volumes left)
    all-volumes plan i [] left are b = tt
    all-volumes plan i (v ∷ volumes) [] are b = absurd b
    all-volumes plan i (v ∷ volumes) (m ∷ left) are b =
        zip-both v.taken (all_taken volumes) (left_of v m) (all_left volumes left) (set-one v.taken v.openings (working v.openings) m are.0.opened b.0) (all-volumes plan (suc i) volumes left are.1 b.1)
