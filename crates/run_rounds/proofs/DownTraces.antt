-- Entries that are just the Downs of nodes that can't be opened.
use Rattle.run_rounds.proofs.Names.{Every, Has, same_node, NodeId, DownCause, same_is, same_node-refl, Plan, IsOneOf, entries_of, CarriesOn, knows, Entry, Down, Base, World, is_down, names, opened_life, opened_log, own, start_world, step, walk, walk_from, WireParts, owner_for, owner_of, owners_for, down_cause, Opening, Open, Shut, Wanting, opened_from, node_at, Along, HasFallen, downs_of, Pass, filter-has, ◌≡◌, ◌+◌, ◌-◌, ◌==◌, ◌&&◌, inl, inr, ◌∙◌, ℕ, zero, suc, Bool, true, false, List, [], ◌∷◌, cond, eq-eqb, Option, Some, All, slice_get, refl, ap, sym, subst, arith, if◌then◌else◌, unwrap_or, nat_tests, same_Some, same, every-has, every-of, has-filter}

-- ---- lists

all-every : {A : Type 0} (P : A → Type 0) (xs : List A) → All P xs → Every P xs
all-every P [] h = tt
all-every P (x ∷ xs) h = (h 0 x (omega arith), all-every P xs (λ k d lt. h (suc k) d (omega (arith, lt))))

-- what holds of each of these numbers holds of one of them
one-of : (P : ℕ → Type 0) (owners : List ℕ) (o : ℕ) → IsOneOf owners o → Every P owners → P o
one-of P [] o h all = absurd (omega (arith, h))
one-of P (x ∷ xs) o h all = go (λ more. one-of P xs o more all.1) (o == x) refl
  where
    go : (IsOneOf xs o → P o) → (t : Bool) → (o == x) ≡ t → P o
    go rest true e = let is : x ≡ o = grind (arith, nat_tests) in subst P is all.0
    go rest false e = rest (grind (arith, nat_tests, h))

-- what holds of the entries of each owner holds of all entries
pub each-entry : (P : Entry → Type 0) (owners : List ℕ) (es : List Entry) → Every (λ o. Every P (entries_of owner_of o es)) owners → All (λ e. IsOneOf owners (owner_of e)) es → Every P es
each-entry P owners es by among = every-of P es one
  where
    one : (e : Entry) → Has e es → P e
    one e h =
        let o = every-has (λ x. IsOneOf owners (owner_of x)) es e (all-every (λ x. IsOneOf owners (owner_of x)) es among) h in
        every-has P (entries_of owner_of (owner_of e) es) e (one-of (λ x. Every P (entries_of owner_of x es)) owners (owner_of e) o by) (has-filter (λ x. owner_of x == owner_of e) es e h (eq-eqb (owner_of e) (owner_of e) refl))

down-node : {a b : NodeId} {x y : DownCause} → Down a x ≡ Down b y → a ≡ b
down-node e = cc

down-cause : {a b : NodeId} {x y : DownCause} → Down a x ≡ Down b y → x ≡ y
down-cause e = cc

-- ---- lives

still-one : (b : Base) (w : World) (n : NodeId) (e : Entry) → is_down e ≡ true → (step b w e).life n ≡ w.life n
still-one b w n (Down node cause) h = go (same_node node n && (w.flags n).known)
  where
    go : (t : Bool) → (if t then w.life n else w.life n) ≡ w.life n
    go true = refl
    go false = refl
still-one b w n e h = absurd (cc h)

still-from : (b : Base) (w : World) (n : NodeId) (es : List Entry) → Every (λ e. is_down e ≡ true) es → (walk_from b w es).life n ≡ w.life n
unfolding walk_from
still-from b w n [] h = refl
still-from b w n (e ∷ es) h = still-from b (step b w e) n es h.1 ∙ still-one b w n e h.0

-- where nothing but Downs happened each node has the life that it was opened with
pub life-still : (b : Base) (n : NodeId) (es : List Entry) → Every (λ e. is_down e ≡ true) es → (walk b es).life n ≡ opened_life b.start (unwrap_or (opened_log b.opened n) [])
life-still b n es h = still-from b (start_world b) n es h

-- ---- Downs

module _ {M : Type 0} {g : _} (plan : Plan) (whole : List (Opening M g)) where
  -- the Down of a node that can't be opened
  pub record IsFall (e : Entry) : Type 0 where
    pub place : ℕ
    pub medium : Option M
    pub cause : DownCause
    pub there : slice_get whole place ≡ Some (Shut medium cause)
    pub is : e ≡ Down (node_at plan place) cause

  -- of each node there is its Down, if it can't be opened, and nothing else
  abbrev pub AreOwn : List Entry → Type 0
  AreOwn es = (i : ℕ) (o : Opening M g) → slice_get whole i ≡ Some o → entries_of owner_of (owner_for (node_at plan i)) es ≡ downs_of (node_at plan i) o

  fall-one : (k : ℕ) (o : Opening M g) → slice_get whole k ≡ Some o → Every IsFall (downs_of (node_at plan k) o)
  fall-one k (Open store effects) e = tt
  fall-one k (Shut medium cause) e = (record { place = k; medium = medium; cause = cause; there = e; is = refl }, tt)
  fall-one k (Wanting medium) e = tt

  falls-owned : (es : List Entry) (os : List (Opening M g)) (k : ℕ) → AreOwn es → ((i : ℕ) (o : Opening M g) → slice_get os i ≡ Some o → slice_get whole (k + i) ≡ Some o) → entries_of owner_of 0 es ≡ []
      → Every (λ o. Every IsFall (entries_of owner_of o es)) (owners_for (opened_from plan k os))
  falls-owned es [] k owned at none = (subst (Every IsFall) (sym none) tt, tt)
  falls-owned es (x ∷ os) k owned at none =
      let z : k + 0 ≡ k = omega arith in
      let here : slice_get whole k ≡ Some x = subst (λ (j : ℕ). slice_get whole j ≡ Some x) z (at 0 x refl) in
      (subst (Every IsFall) (sym (owned k x here)) (fall-one k x here), falls-owned es os (suc k) owned (λ i o e. later i o (at (suc i) o e)) none)
    where
      later : (i : ℕ) (o : Opening M g) → slice_get whole (k + suc i) ≡ Some o → slice_get whole (suc k + i) ≡ Some o
      later i o e = let z : k + suc i ≡ suc k + i = omega arith in subst (λ (j : ℕ). slice_get whole j ≡ Some o) z e

  -- all entries are such Downs
  pub all-falls : (es : List Entry) → AreOwn es → entries_of owner_of 0 es ≡ [] → All (λ e. IsOneOf (owners_for (opened_from plan 0 whole)) (owner_of e)) es → Every IsFall es
  all-falls es owned none among = each-entry IsFall (owners_for (opened_from plan 0 whole)) es (falls-owned es whole 0 owned at none) among
    where
      at : (i : ℕ) (o : Opening M g) → slice_get whole i ≡ Some o → slice_get whole (0 + i) ≡ Some o
      at i o e = let z : i ≡ 0 + i = omega arith in subst (λ (j : ℕ). slice_get whole j ≡ Some o) z e

  -- as it is of the passes, which have all entries of theirs
  pub own-along : (w : WireParts) (es : List Entry) (k : ℕ) (os : List (Opening M g)) (passes : List Pass) → Along (λ i o pass. HasFallen w (node_at plan i) o pass) k os passes → All (λ pass. CarriesOn owner_of (knows pass) es) passes
      → (i : ℕ) (o : Opening M g) → slice_get os i ≡ Some o → entries_of owner_of (owner_for (node_at plan (k + i))) es ≡ downs_of (node_at plan (k + i)) o
  own-along w es k [] passes h c i o e = absurd cc
  own-along w es k (x ∷ os) [] h c i o e = absurd h
  own-along w es k (x ∷ os) (p ∷ ps) h c zero o e =
      let car = c 0 p (omega arith) in
      let own : entries_of owner_of (owner_for (node_at plan k)) es ≡ downs_of (node_at plan k) x = subst (λ (q : ℕ). entries_of owner_of q es ≡ downs_of (node_at plan k) x) h.0.owner (car.own ∙ h.0.own) in
      let z : k ≡ k + 0 = omega arith in
      subst (λ (j : ℕ). entries_of owner_of (owner_for (node_at plan j)) es ≡ downs_of (node_at plan j) o) z
      (subst (λ (y : Opening M g). entries_of owner_of (owner_for (node_at plan k)) es ≡ downs_of (node_at plan k) y) (same_Some _ _ e) own)
  own-along w es k (x ∷ os) (p ∷ ps) h c (suc i) o e =
      let z : suc k + i ≡ k + suc i = omega arith in
      subst (λ (j : ℕ). entries_of owner_of (owner_for (node_at plan j)) es ≡ downs_of (node_at plan j) o) z (own-along w es (suc k) os ps h.1 (λ j d lt. c (suc j) d (omega (arith, lt))) i o e)

  -- ---- what they say of a node

  cause-found : (es : List Entry) → Every IsFall es → (n : NodeId) (c : DownCause) → Has (Down n c) es → ((x : DownCause) → Has (Down n x) es → x ≡ c) → down_cause n es ≡ Some c
  cause-found [] f n c h one = absurd h
  cause-found (e ∷ es) f n c (inl i) one = ap (λ y. down_cause n (y ∷ es)) i ∙ ap (λ (b : Bool). if b then Some c else down_cause n es) (same_node-refl n)
  cause-found (e ∷ es) f n c (inr r) one = go (cause-found es f.1 n c r (λ x i. one x (inr i))) (same_node (node_at plan f.0.place) n) refl
    where
      go : down_cause n es ≡ Some c → (t : Bool) → same_node (node_at plan f.0.place) n ≡ t → down_cause n (e ∷ es) ≡ Some c
      go rest true s =
          let is : e ≡ Down n f.0.cause = f.0.is ∙ ap (λ m. Down m f.0.cause) (same_is (node_at plan f.0.place) n s) in
          ap (λ y. down_cause n (y ∷ es)) f.0.is ∙ (ap (λ (b : Bool). if b then Some f.0.cause else down_cause n es) s ∙ ap (λ x. Some x) (one f.0.cause (inl is)))
      go rest false s = ap (λ y. down_cause n (y ∷ es)) f.0.is ∙ (ap (λ (b : Bool). if b then Some f.0.cause else down_cause n es) s ∙ rest)

  cause-stands : (es : List Entry) → Every IsFall es → (n : NodeId) (c : DownCause) → down_cause n es ≡ Some c → Has (Down n c) es
  cause-stands [] f n c e = absurd cc
  cause-stands (x ∷ es) f n c e = go (cause-stands es f.1 n c) (same_node (node_at plan f.0.place) n) refl (sym (ap (λ y. down_cause n (y ∷ es)) f.0.is) ∙ e)
    where
      go : (down_cause n es ≡ Some c → Has (Down n c) es) → (t : Bool) → same_node (node_at plan f.0.place) n ≡ t → (if same_node (node_at plan f.0.place) n then Some f.0.cause else down_cause n es) ≡ Some c
          → Has (Down n c) (x ∷ es)
      go rest true s e =
          let same : f.0.cause ≡ c = same_Some _ _ (sym (ap (λ (b : Bool). if b then Some f.0.cause else down_cause n es) s) ∙ e) in
          inl (f.0.is ∙ (ap (λ m. Down m f.0.cause) (same_is (node_at plan f.0.place) n s) ∙ ap (Down n) same))
      go rest false s e = inr (rest (sym (ap (λ (b : Bool). if b then Some f.0.cause else down_cause n es) s) ∙ e))

  own-none : (es : List Entry) → Every IsFall es → (n : NodeId) → ((i : ℕ) (m : Option M) (c : DownCause) → slice_get whole i ≡ Some (Shut m c) → node_at plan i ≡ n → ⊥) → own n es ≡ []
  own-none [] f n not = refl
  own-none (e ∷ es) f n not = go (own-none es f.1 n not) (names n e) refl
    where
      go : own n es ≡ [] → (t : Bool) → names n e ≡ t → cond t (e ∷ own n es) (own n es) ≡ []
      go rest true s = absurd (not f.0.place f.0.medium f.0.cause f.0.there (same_is (node_at plan f.0.place) n (sym (ap (names n) f.0.is) ∙ s)))
      go rest false s = rest

  module _ (es : List Entry) (falls : Every IsFall es) where
    pub all-downs : Every (λ e. is_down e ≡ true) es
    all-downs = every-of (λ e. is_down e ≡ true) es (λ e h. ap is_down (every-has IsFall es e falls h).is)

    -- a Down is that of a node in a place
    pub fall-of : (n : NodeId) (c : DownCause) → Has (Down n c) es → (i : ℕ) × (m : Option M) × (slice_get whole i ≡ Some (Shut m c)) × (node_at plan i ≡ n)
    fall-of n c h =
        let f = every-has IsFall es (Down n c) falls h in
        (f.place, f.medium, subst (λ (x : DownCause). slice_get whole f.place ≡ Some (Shut f.medium x)) (sym (down-cause f.is)) f.there, sym (down-node f.is))

    pub cause-of : (n : NodeId) (c : DownCause) → down_cause n es ≡ Some c → (i : ℕ) × (m : Option M) × (slice_get whole i ≡ Some (Shut m c)) × (node_at plan i ≡ n)
    cause-of n c e = fall-of n c (cause-stands es falls n c e)

    pub none-of : (n : NodeId) → ((i : ℕ) (m : Option M) (c : DownCause) → slice_get whole i ≡ Some (Shut m c) → node_at plan i ≡ n → ⊥) → own n es ≡ []
    none-of n not = own-none es falls n not

    module _ (owned : AreOwn es) (i : ℕ) (m : Option M) (c : DownCause) (there : slice_get whole i ≡ Some (Shut m c)) where
      -- the node of a place that can't be opened has its Down
      pub falls-at : Has (Down (node_at plan i) c) es
      falls-at = filter-has (λ x. owner_of x == owner_for (node_at plan i)) es (Down (node_at plan i) c) (subst (Has (Down (node_at plan i) c)) (sym (owned i (Shut m c) there)) (inl refl))

      pub cause-at : ((j : ℕ) (x : Option M) (d : DownCause) → slice_get whole j ≡ Some (Shut x d) → node_at plan j ≡ node_at plan i → d ≡ c) → down_cause (node_at plan i) es ≡ Some c
      cause-at one = cause-found es falls (node_at plan i) c falls-at (λ d h. (let f = fall-of (node_at plan i) d h in one f.0 f.1 d f.2 f.3))
