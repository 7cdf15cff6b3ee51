-- Nodes whose volumes are taken one after another.
use Rattle.std.proofs.Common.{◌≡◌, ◌⊎◌, ◌≤◌, ◌<◌, ◌+◌, ℕ, suc, List, [], ◌∷◌, ◌++◌, length, length-append, map, refl, sym, ◌∙◌, ap, subst, arith, inl, inr, Option}
use Rattle.std.specs.Prelude.{Result, Ok, Err, Vec}
use Rattle.std.specs.declared.alloc.Global.{Global}
use Rattle.std.proofs.lemmas.List.{append-nil, append_assoc, length-map, map-append}
use Rattle.std.proofs.lemmas.Slice.Zip.{AllZip-long}
use Rattle.pseudo_time.specs.Lists.{Every, Has}
use Rattle.pseudo_time.specs.declared.nodes.NodeId.{NodeId}
use Rattle.medium_port.specs.declared.shelves.MediumName.{MediumName}
use Rattle.effect_form.specs.declared.effects.Effect.{Effect}
use Rattle.watch_command.specs.Kept.{AllKept, kept_as, kept_under, node_of}
use Rattle.watch_command.specs.KeptMedium.{Kept}
use Rattle.watch_command.specs.Media.{AreBack, Media}
use Rattle.watch_command.specs.Openings.{HasOpened, medium_in}
use Rattle.watch_command.specs.Outcome.{Outcome}
use Rattle.watch_command.specs.Outcome.TheVariants.{Told, Refused, Fallen, NoMemory}
use Rattle.watch_command.specs.Shelves.{ShelfSight, WereTaken, first_names}
use Rattle.watch_command.specs.Volumes.{logs_of}
use Rattle.watch_command.proofs.ShelfLemmas.{all-kept, names-below, names-long, taken-both, taken-none}
use Rattle.watch_command.proofs.StandLemmas.{back-all, given-back, stand-all}
use Rattle.snapshot_command.specs.Nodes as nodes
use Rattle.snapshot_command.specs.Nodes.{Volumes, all_back, all_logs, all_taken}

-- ---- lists

has-split : {A : Type 0} (x : A) (xs ys : List A) → Has x (xs ++ ys) → Has x xs ⊎ Has x ys
has-split x [] ys h = inr h
has-split x (y ∷ xs) ys (inl e) = inl (inl e)
has-split x (y ∷ xs) ys (inr h) = by (has-split x xs ys h)
  where
    by : Has x xs ⊎ Has x ys → Has x (y ∷ xs) ⊎ Has x ys
    by (inl there) = inl (inr there)
    by (inr there) = inr there

kept-append : {M : Type 0} (ns ms : List MediumName) (xs ys : List (Option M)) → length ns ≡ length xs → kept_under (ns ++ ms) (xs ++ ys) ≡ kept_under ns xs ++ kept_under ms ys
kept-append [] ms [] ys e = refl
kept-append [] ms (x ∷ xs) ys e = absurd (omega (arith, e))
kept-append (n ∷ ns) ms [] ys e = absurd (omega (arith, e))
kept-append (n ∷ ns) ms (x ∷ xs) ys e =
    ap (λ l. kept_as n x ++ l) (kept-append ns ms xs ys (omega (arith, e))) ∙ sym (append_assoc (kept_as n x) (kept_under ns xs) (kept_under ms ys))

back-append : {M : Type 0} (xs ys us vs : List (Option M)) → AreBack xs us → AreBack ys vs → AreBack (xs ++ ys) (us ++ vs)
back-append [] ys [] vs h k = k
back-append [] ys (u ∷ us) vs h k = absurd h
back-append (x ∷ xs) ys [] vs h k = absurd h
back-append (x ∷ xs) ys (u ∷ us) vs h k = (h.0, back-append xs ys us vs h.1 k)

module _ {M : Type 0} (w : Media M) where
  pub as-many-logs : (vs : List (Volumes w)) → length (all_logs vs) ≡ length vs
  as-many-logs [] = refl
  as-many-logs (v ∷ vs) = let a = length-append (all_logs vs) (logs_of v.openings ∷ []) in let b = as-many-logs vs in omega (arith, a, b)

-- the nodes from place 0 on are these, and no two of them are one; `read` is what is read of each
module _ (node : ℕ → NodeId) (differ : (i j : ℕ) → i < j → node i ≡ node j → ⊥) {K : Type 0} (read : List (List Effect) → K) {M : Type 0} (w : Media M) where
  abbrev AreNodes : (old new : ShelfSight) → List (Volumes w) → List (Kept M) → Type 0
  AreNodes = nodes.AreNodes node w

  abbrev TakesAll : (old new : ShelfSight) (n : NodeId) (front kept : List (Kept M)) → Result K Outcome → Type 0
  TakesAll = nodes.TakesAll read w

  abbrev IsRead : List (Volumes w) → List K → Type 0
  IsRead = nodes.IsRead read w node

  abbrev AreRead : ℕ → List (Volumes w) → Result (Vec K Global) Outcome → Type 0
  AreRead = nodes.AreRead read w node

  abbrev Gathers : ℕ → (old new : ShelfSight) (kept : List (Kept M)) → Result (Vec K Global) Outcome → Type 0
  Gathers = nodes.Gathers read w node

  abbrev names_of : List (Volumes w) → List MediumName
  names_of = nodes.node_names node

  -- ---- names

  name-place : (vs : List (Volumes w)) (name : MediumName) → Has name (names_of vs) → (i : ℕ) × (i < length vs) × (node_of name ≡ node i)
  name-place [] name h = absurd h
  name-place (v ∷ vs) name h = by (λ k. name-place vs name k) (has-split name (names_of vs) (first_names (node (length vs)) (length v.taken)) h)
    where
      by : (Has name (names_of vs) → (i : ℕ) × (i < length vs) × (node_of name ≡ node i)) → Has name (names_of vs) ⊎ Has name (first_names (node (length vs)) (length v.taken)) →
          (i : ℕ) × (i < length (v ∷ vs)) × (node_of name ≡ node i)
      by below (inl k) = let r = below k in let low = r.1 in (r.0, omega (arith, low), r.2)
      by below (inr k) = let r = names-below (node (length vs)) (length v.taken) name k in (length vs, omega arith, ap node_of r.2)

  apart : (vs : List (Volumes w)) (k : ℕ) (name : MediumName) → Has name (first_names (node (length vs)) k) → Has name (names_of vs) → ⊥
  apart vs k name h there =
      let r = names-below (node (length vs)) k name h in
      let p = name-place vs name there in
      differ p.0 (length vs) p.1 (sym p.2 ∙ ap node_of r.2)

  as-many : (vs : List (Volumes w)) → nodes.AllOpened node w vs → length (names_of vs) ≡ length (all_back vs)
  as-many [] h = refl
  as-many (v ∷ vs) h =
      let before = as-many vs h.1 in
      let n = node (length vs) in
      let a = length-append (names_of vs) (first_names n (length v.taken)) in
      let b = length-append (all_back vs) (map medium_in v.openings) in
      let c = names-long n (length v.taken) in
      let d = length-map v.openings medium_in in
      let e = AllZip-long (HasOpened w) v.taken v.openings h.0.opened in
      omega (arith, before, a, b, c, d, e)

  -- ---- one node more

  pub none-yet : (a : ShelfSight) (kept : List (Kept M)) → kept ≡ [] → AreNodes a a [] kept
  none-yet a kept none = record { taken = taken-none w a; opened = tt; handed = none }

  pub one-more : (old mid new : ShelfSight) (vs : List (Volumes w)) (front kept : List (Kept M)) (r : Result K Outcome) → AreNodes old mid vs front → (t : TakesAll mid new (node (length vs)) front kept r) →
      AreNodes old new (record { taken = t.taken; openings = t.openings } ∷ vs) kept
  one-more old mid new vs front kept r are t = record {
    taken = taken-both w old mid new (names_of vs) (all_taken vs) (first_names n (length t.taken)) t.taken are.taken t.volumes.taken (apart vs (length t.taken));
    opened = (record { opened = t.volumes.opened; ends = t.volumes.ends; keep = given-back w t.openings (map medium_in t.openings) (stand-all w t.taken t.openings t.volumes.opened) refl }, are.opened);
    handed =
        t.handed ∙ (ap (λ l. l ++ kept_under (first_names n (length t.openings)) (map medium_in t.openings)) are.handed
        ∙ (sym (kept-append (names_of vs) (first_names n (length t.openings)) (all_back vs) (map medium_in t.openings) (as-many vs are.opened))
        ∙ ap (λ k. kept_under (names_of vs ++ first_names n k) (all_back vs ++ map medium_in t.openings)) (AllZip-long (HasOpened w) t.taken t.openings t.volumes.opened)));
  }
    where
      n : NodeId
      n = node (length vs)

  not-more : (old mid new : ShelfSight) (vs : List (Volumes w)) (kept : List (Kept M)) → AreNodes old mid vs kept → WereTaken w mid new [] [] → AreNodes old new vs kept
  not-more old mid new vs kept are none = record {
    taken = subst (λ ns. WereTaken w old new ns (all_taken vs)) (append-nil (names_of vs)) (subst (WereTaken w old new (names_of vs ++ [])) (append-nil (all_taken vs)) (taken-both w old mid new (names_of vs) (all_taken vs) [] [] are.taken none (λ name h k. h)));
    opened = are.opened;
    handed = are.handed;
  }

  pub read-more : (vs : List (Volumes w)) (v : Volumes w) (known more : List K) (one : K) (n : NodeId) → nodes.Reads read n v.openings (Ok one) → IsRead vs known → more ≡ known ++ one ∷ [] → IsRead (v ∷ vs) more
  read-more vs v known more one n h is e = (
    (h.0, is.0),
    e ∙ ap (λ l. l ++ one ∷ []) is.1 ∙ ap (λ m. map read (all_logs vs) ++ m ∷ []) h.1 ∙ sym (map-append read (all_logs vs) (logs_of v.openings ∷ [])),
  )

  -- ---- the last step

  stop-read : (count : ℕ) (vs : List (Volumes w)) (v : Volumes w) (r : Outcome) → nodes.AllOpen node w vs → nodes.Reads read (node (length vs)) v.openings (Err r) → AreRead count (v ∷ vs) (Err r)
  stop-read count vs v (Told text) opened h = absurd h
  stop-read count vs v (Refused line) opened h = absurd h
  stop-read count vs v (Fallen line) opened h = (opened, h)
  stop-read count vs v NoMemory opened h = tt

  pub stopped : (count : ℕ) (old mid new : ShelfSight) (vs : List (Volumes w)) (front kept : List (Kept M)) (known : List K) (n : NodeId) (r : Outcome) → n ≡ node (length vs) → AreNodes old mid vs front → IsRead vs known →
      nodes.Takes read w mid new n front kept (Err r) → Gathers count old new kept (Err r)
  stopped count old mid new vs front kept known n r at are is (inl none) = record {
    volumes = vs;
    are = subst (λ k. AreNodes old new vs k) (sym none.handed) (not-more old mid new vs front are none.none);
    read = subst (λ (x : Result (Vec K Global) Outcome). AreRead count vs x) (sym (ap again none.wanting)) tt;
  }
    where
      again : Result K Outcome → Result (Vec K Global) Outcome
      again (Ok m) = Err NoMemory
      again (Err x) = Err x
  stopped count old mid new vs front kept known n r at are is (inr all) =
      let t = subst (λ k. TakesAll mid new k front kept (Err r)) at all in
      record {
        volumes = record { taken = t.taken; openings = t.openings } ∷ vs;
        are = one-more old mid new vs front kept (Err r) are t;
        read = stop-read count vs (record { taken = t.taken; openings = t.openings }) r is.0 t.read;
      }

  -- memory ran out after it was taken
  pub lacking : (count : ℕ) (old mid new : ShelfSight) (vs : List (Volumes w)) (front kept : List (Kept M)) (n : NodeId) (r : Result K Outcome) → n ≡ node (length vs) → AreNodes old mid vs front → nodes.Takes read w mid new n front kept r →
      Gathers count old new kept (Err NoMemory)
  lacking count old mid new vs front kept n r at are (inl none) = record { volumes = vs; are = subst (λ k. AreNodes old new vs k) (sym none.handed) (not-more old mid new vs front are none.none); read = tt }
  lacking count old mid new vs front kept n r at are (inr all) =
      let t = subst (λ k. TakesAll mid new k front kept r) at all in
      record { volumes = record { taken = t.taken; openings = t.openings } ∷ vs; are = one-more old mid new vs front kept r are t; read = tt }

  -- and another one was read
  abbrev pub SoFar : ShelfSight → ShelfSight → List (Kept M) → List K → ℕ → Type 0
  SoFar old new kept known place = (vs : List (Volumes w)) × (length vs ≡ place) × AreNodes old new vs kept × IsRead vs known

  pub next-read : (old mid new : ShelfSight) (front kept : List (Kept M)) (known more : List K) (place next : ℕ) (one : K) → SoFar old mid front known place → next ≡ place + 1 → nodes.Takes read w mid new (node place) front kept (Ok one) →
      more ≡ known ++ one ∷ [] → SoFar old new kept more next
  next-read old mid new front kept known more place next one so is (inl none) e = absurd (cc none.wanting)
  next-read old mid new front kept known more place next one (vs, at, are, before) is (inr all) e =
      let t = subst (λ k. TakesAll mid new (node k) front kept (Ok one)) (sym at) all in
      let v : Volumes w = record { taken = t.taken; openings = t.openings } in
      (v ∷ vs, omega (arith, at, is), one-more old mid new vs front kept (Ok one) are t, read-more vs v known more one (node (length vs)) t.read before e)

  -- ---- all were read

  pub read-all : (count : ℕ) (vs : List (Volumes w)) (r : Result (Vec K Global) Outcome) (known : Vec K Global) (shown : List K) → AreRead count vs r → r ≡ Ok known → shown ≡ known.items → length shown ≡ count
  read-all count vs r known shown are is same =
      let h = subst (λ (x : Result (Vec K Global) Outcome). AreRead count vs x) is are in
      let a = ap length (same ∙ h.1.1) in
      let b = length-map (all_logs vs) read in
      let c = as-many-logs w vs in
      let d = h.0 in
      omega (arith, a, b, c, d)

  -- ---- all of them are handed back

  all-back : (vs : List (Volumes w)) → nodes.AllOpened node w vs → AreBack (all_taken vs) (all_back vs)
  all-back [] h = tt
  all-back (v ∷ vs) h = back-append (all_taken vs) v.taken (all_back vs) (map medium_in v.openings) (all-back vs h.1) (back-all w v.taken v.openings (map medium_in v.openings) h.0.opened h.0.keep)

  pub nodes-kept : (old new : ShelfSight) (vs : List (Volumes w)) (kept : List (Kept M)) → AreNodes old new vs kept → AllKept old new kept
  nodes-kept old new vs kept are = subst (AllKept old new) (sym are.handed) (all-kept w old new (names_of vs) (all_taken vs) (all_back vs) are.taken (all-back vs are.opened))
