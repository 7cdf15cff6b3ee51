-- What is written into the volume of totals, and what comes of a watch.
use Rattle.watch_command.proofs.Names.{Result, Ok, Err, AllZip-long, Effect, AreEffects, Mark, MediumName, WatchFault, Moved, IsRefusal, Opening, Open, Shut, Media, HasOpened, medium_in, Kept, kept_as, kept_under, ShelfSight, first_names, volume_name, Stands, AreOpen, logs_of, stand-all, joined_marks, Outcome, Rule, AreTotals, new_puts, outcome_of, totals_volume, Adds, ComesTo, Keeps, StopsBefore, WatchesOver, ◌≤◌, arith, length-append, ◌≡◌, ◌⊎◌, ◌<◌, ℕ, ℤ, IsTrue, List, [], ◌∷◌, ◌++◌, length, map, reverse, refl, sym, ◌∙◌, ap, subst, Option, Some, inl, inr, IfOk, Vec, Has, named, filling, TakesOne, WereTaken, AreVolumes, names-below, taken-both, taken-one, given-back, down_watch_line, watch_text, ComesOf, CutsOff, HasFront, Holds, IsReady, RefusesFor, Stops, TotalsOver}
use Rattle.std.specs.declared.alloc.Global.{Global}
use Rattle.pseudo_time.specs.declared.nodes.NodeId.{NodeId}
use Rattle.pseudo_time.specs.declared.down_causes.DownCause.{DownCause}
use Rattle.pseudo_time.specs.declared.down_causes.DownCause.TheVariants as down
use Rattle.stream_port.specs.Causes.{Rose}
use Rattle.version_store.specs.declared.stores.Store.{Store}
use Rattle.version_store.specs.declared.faults.StoreFault.{StoreFault}
use Rattle.version_store.specs.declared.faults.StoreFault.TheVariants as adding
use Rattle.version_store.specs.Causes.{down_of}
use Rattle.version_store.specs.StoreWords.{effects_in, left_in, medium_of}
use Rattle.commit_watch.specs.declared.faults.WatchFault.TheVariants as fault
use Rattle.run_volumes.proofs.VolumeLemmas.{go-few}
use Rattle.archive_command.specs.Answers.{IsFallen}
use Rattle.archive_command.specs.declared.outcomes.Outcome.TheVariants.{Told, Refused, Fallen, NoMemory}
use Rattle.command_words.specs.declared.rules.Rule.TheVariants.{Count, Sum, Last}

-- ---- why the totals don't go on

pub stops-for : (repository : ℕ) (rule : Rule) (m : List Mark) (log : List Effect) (why : WatchFault) (r : Outcome) → (why ≡ fault.NoMemory) ⊎ IsRefusal (outcome_of rule m log) why → RefusesFor why r →
    Stops repository rule m log r
stops-for repository rule m log (fault.Retired o e) r h k = absurd k
stops-for repository rule m log (fault.Overflow o x) r (inl e) k = absurd (cc)
stops-for repository rule m log (fault.Overflow o x) r (inr h) (inl e) = subst (Stops repository rule m log) (sym e) tt
stops-for repository rule m log (fault.Overflow o x) r (inr h) (inr e) = subst (Stops repository rule m log) (sym e) (record { object = o; start = x; refused = h; is_line = refl })
stops-for repository rule m log fault.NoMemory r h e = subst (Stops repository rule m log) (sym e) tt

-- what is to be written and told
pub ready-of : {A E : Type 0} (repository : ℕ) (rule : Rule) (m : List Mark) (log : List Effect) (list : List (Moved ℤ)) (puts : A → List Effect) (text : A → List ℕ) (r : Result A E) → AreTotals rule m log list →
    IfOk r (λ a. puts a ≡ new_puts log list) → IfOk r (λ a. AreEffects (puts a)) → IfOk r (λ a. text a ≡ watch_text repository rule list) → IfOk r (λ a. IsReady repository rule m log (puts a) (text a))
ready-of repository rule m log list puts text (Ok a) totals e h k = record { list = list; totals = totals; puts_are = e; in_range = h; is_text = k }
ready-of repository rule m log list puts text (Err why) totals e h k = tt

module _ {M : Type 0} (w : Media M) where
  -- ---- what is written

  pub cut : (repository : ℕ) (log puts : List Effect) (store : Store M w) (text : List ℕ) (why : StoreFault) (r : Outcome) (m : M) → HasFront w repository log puts store text m →
      (why ≡ adding.Medium → Rose (w.faults (medium_of store)) (w.faults m)) →
      ((pages : ℕ) → why ≡ adding.Full pages → (pages ≡ w.page_count (medium_of store)) × (left_in store < length (filling puts))) → CutsOff repository (down_of why) r → Adds w repository log puts store text r m
  cut repository log puts store text adding.Medium r m front failed full (inl e) = subst (λ (z : Outcome). Adds w repository log puts store text z m) (sym e) front
  cut repository log puts store text adding.Medium r m front failed full (inr e) =
      subst (λ (z : Outcome). Adds w repository log puts store text z m) (sym e) (record { front = front; cause = down.Medium; why = failed refl; is_line = refl })
  cut repository log puts store text (adding.Full pages) r m front failed full (inl e) = subst (λ (z : Outcome). Adds w repository log puts store text z m) (sym e) front
  cut repository log puts store text (adding.Full pages) r m front failed full (inr e) =
      subst (λ (z : Outcome). Adds w repository log puts store text z m) (sym e) (record { front = front; cause = down.Full pages; why = full pages refl; is_line = refl })
  cut repository log puts store text adding.NoMemory r m front failed full e = subst (λ (z : Outcome). Adds w repository log puts store text z m) (sym e) front

  -- ---- what comes of it

  pub comes-written : (repository : ℕ) (rule : Rule) (marks : List Mark) (log puts : List Effect) (store : Store M w) (text : List ℕ) (r : Outcome) (m : M) → IsReady repository rule marks log puts text →
      Adds w repository log puts store text r m → ComesOf w repository rule marks log store r m
  comes-written repository rule marks log puts store text (Told told) m ready h =
      record { puts = puts; ready = subst (IsReady repository rule marks log puts) (sym h.0) ready; holds = h.1 }
  comes-written repository rule marks log puts store text (Refused line) m ready h = absurd h
  comes-written repository rule marks log puts store text (Fallen line) m ready h = record { puts = puts; text = text; ready = ready; cut = h }
  comes-written repository rule marks log puts store text NoMemory m ready h = inr (record { puts = puts; text = text; ready = ready; front = h })

  pub comes-stopped : (repository : ℕ) (rule : Rule) (marks : List Mark) (log : List Effect) (store : Store M w) (r : Outcome) (m : M) → Stops repository rule marks log r → m ≡ medium_of store → Holds w log (medium_of store) →
      ComesOf w repository rule marks log store r m
  comes-stopped repository rule marks log store (Told text) m h is holds = absurd h
  comes-stopped repository rule marks log store (Refused line) m h is holds = (h, (is, subst (Holds w log) (sym is) holds))
  comes-stopped repository rule marks log store (Fallen line) m h is holds = absurd h
  comes-stopped repository rule marks log store NoMemory m h is holds = inl (is, subst (Holds w log) (sym is) holds)

-- ---- the volume of totals has a name of its own

high : (rule : Rule) → 1000 ≤ totals_volume rule
high Count = omega arith
high Sum = omega arith
high Last = omega arith

far : (n : NodeId) (k v : ℕ) → k ≤ v → (name : MediumName) → Has name (volume_name n v ∷ []) → Has name (first_names n k) → ⊥
far n k v above name (inl e) h =
    let r = names-below n k name h in
    let same : v ≡ r.0 = ap (λ (x : MediumName). x.volume) (e ∙ r.2) in
    let low = r.1 in absurd (omega (arith, same, low, above))
far n k v above name (inr none) h = none

few-media : {M : Type 0} (w : Media M) {g : _} (old new : ShelfSight) (n : NodeId) (media : List (Option M)) (os : List (Opening M g)) → AreVolumes w old new n media os → length media ≤ 1000
few-media w old new n media os vs =
    let zip = AllZip-long (HasOpened w) media os vs.opened in
    let e = ap length vs.ends.is ∙ length-append vs.ends.front (vs.ends.last ∷ []) in
    let few = go-few n.kind 0 vs.ends.front (omega arith) vs.ends.go_on in
    omega (arith, zip, e, few)

-- ---- over the volumes

-- a line in place of what stopped it
fallen-line : {E : Type 0} (text : List ℕ) (line : Result (List ℕ) E) (r : Outcome) → IfOk line (λ l. l ≡ text) → IsFallen line r → (r ≡ NoMemory) ⊎ (r ≡ Fallen text)
fallen-line text (Ok l) r h k = inr (k ∙ ap Fallen h)
fallen-line text (Err e) r h k = inl k

module _ {M : Type 0} (w : Media M) (repository : ℕ) (rule : Rule) (marks : List Mark) where
  -- the volume of totals stands open
  pub opened-stands : (o : Opening M w) (store : Store M w) (effects : Vec Effect Global) → o ≡ Open store effects → Stands w o → Stands w (Open store effects)
  opened-stands o store effects is h = subst (Stands w) is h

  pub opened-written : (o : Opening M w) (store : Store M w) (effects : Vec Effect Global) (shown puts : List Effect) (text : List ℕ) (r : Outcome) (m : M) → o ≡ Open store effects → shown ≡ effects.items → Stands w o →
      IsReady repository rule marks shown puts text → ((log : List Effect) → (IsTrue w.tells → effects_in w.reads store ≡ log) → Adds w repository log puts store text r m) → ComesTo w repository rule marks o r (Some m)
  opened-written o store effects shown puts text r m is same h ready adds =
      subst (λ z. ComesTo w repository rule marks z r (Some m)) (sym is)
      (comes-written w repository rule marks effects.items puts store text r m (subst (λ l. IsReady repository rule marks l puts text) same ready) (adds effects.items (subst (Stands w) is h).2))

  pub opened-stopped : (o : Opening M w) (store : Store M w) (effects : Vec Effect Global) (shown : List Effect) (r : Outcome) (m : M) → o ≡ Open store effects → shown ≡ effects.items → Stands w o → Stops repository rule marks shown r → m ≡ medium_of store →
      ComesTo w repository rule marks o r (Some m)
  opened-stopped o store effects shown r m is same h stops back =
      subst (λ z. ComesTo w repository rule marks z r (Some m)) (sym is)
      (comes-stopped w repository rule marks effects.items store r m (subst (λ l. Stops repository rule marks l r) same stops) back (subst (Stands w) is h).3)

  -- it doesn't
  pub shut-comes : {E : Type 0} (o : Opening M w) (medium : Option M) (cause : DownCause) (line : Result (List ℕ) E) (r : Outcome) → o ≡ Shut medium cause → IfOk line (λ l. l ≡ down_watch_line repository cause) → IsFallen line r →
      ComesTo w repository rule marks o r medium
  shut-comes o medium cause line r is h k = subst (λ z. ComesTo w repository rule marks z r medium) (sym is) (refl, fallen-line (down_watch_line repository cause) line r h k)

module _ {M : Type 0} (w : Media M) (old new : ShelfSight) (repository : ℕ) (rule : Rule) where
  -- it was taken and opened
  pub totals-over : (n : NodeId) (v : ℕ) (marks : List Mark) (r : Outcome) (taken left : Option M) (o : Opening M w) → n ≡ named repository → v ≡ totals_volume rule → TakesOne w old new (volume_name n v) taken → HasOpened w taken o →
      ComesTo w repository rule marks o r left → TotalsOver w old new repository rule marks r left
  totals-over n v marks r taken left o home which takes has came = record {
    taken = taken;
    takes = subst (λ z. TakesOne w old new (volume_name (named repository) z) taken) which (subst (λ z. TakesOne w old new (volume_name z v) taken) home takes);
    opening = o;
    has = has;
    came = came;
  }

  pub one-stands : (taken : Option M) (o : Opening M w) → HasOpened w taken o → Stands w o
  one-stands taken o h = (stand-all w (taken ∷ []) (o ∷ []) (h, tt)).0

  pub stops-before : (n : NodeId) (media : List (Option M)) (os : List (Opening M w)) (kept : List (Kept M)) (r : Outcome) → n ≡ named repository → AreVolumes w old new n media os →
      kept ≡ kept_under (first_names n (length os)) (map medium_in os) → Keeps repository os r → StopsBefore w old new repository rule kept r
  stops-before n media os kept r home volumes handed came = record {
    media = media;
    openings = os;
    volumes = subst (λ x. AreVolumes w old new x media os) home volumes;
    handed = subst (λ x. kept ≡ kept_under (first_names x (length os)) (map medium_in os)) home handed;
    keep = given-back w os (map medium_in os) (stand-all w media os volumes.opened) refl;
    came = came;
  }

module _ {M : Type 0} (w : Media M) (old between new : ShelfSight) (repository : ℕ) (rule : Rule) where
  -- behind the repository's volumes that of its totals was taken
  taken-all : (media : List (Option M)) (os : List (Opening M w)) (taken : Option M) → AreVolumes w old between (named repository) media os → TakesOne w between new (volume_name (named repository) (totals_volume rule)) taken →
      WereTaken w old new (first_names (named repository) (length media) ++ volume_name (named repository) (totals_volume rule) ∷ []) (media ++ taken ∷ [])
  taken-all media os taken volumes takes =
      let n = named repository in
      let v = totals_volume rule in
      let few = few-media w old between n media os volumes in
      let up = high rule in
      taken-both w old between new (first_names n (length media)) media (volume_name n v ∷ []) (taken ∷ []) volumes.taken (taken-one w between new (volume_name n v) taken takes) (far n (length media) v (omega (arith, few, up)))

  over-home : (media : List (Option M)) (os : List (Opening M w)) (shown : List Mark) (front kept : List (Kept M)) (left : Option M) (r : Outcome) → AreVolumes w old between (named repository) media os → AreOpen os →
      front ≡ kept_under (first_names (named repository) (length os)) (map medium_in os) → kept ≡ front ++ kept_as (volume_name (named repository) (totals_volume rule)) left → shown ≡ joined_marks (logs_of os) →
      TotalsOver w between new repository rule (reverse shown) r left → WatchesOver w old new repository rule kept r
  over-home media os shown front kept left r volumes opened handed one is t = record {
    media = media;
    taken = t.taken;
    are = taken-all media os t.taken volumes t.takes;
    openings = os;
    volumes = volumes.opened;
    ends = volumes.ends;
    opened = opened;
    keep = given-back w os (map medium_in os) (stand-all w media os volumes.opened) refl;
    opening = t.opening;
    has = t.has;
    left = left;
    came = subst (λ l. ComesTo w repository rule (reverse l) t.opening r left) is t.came;
    handed = one ∙ ap (λ l. l ++ kept_as (volume_name (named repository) (totals_volume rule)) left) handed;
  }

  pub watches-over : (n : NodeId) (v : ℕ) (media : List (Option M)) (os : List (Opening M w)) (shown : List Mark) (front kept : List (Kept M)) (left : Option M) (r : Outcome) → n ≡ named repository → v ≡ totals_volume rule →
      AreVolumes w old between n media os → AreOpen os → front ≡ kept_under (first_names n (length os)) (map medium_in os) → kept ≡ front ++ kept_as (volume_name n v) left → shown ≡ joined_marks (logs_of os) →
      TotalsOver w between new repository rule (reverse shown) r left → WatchesOver w old new repository rule kept r
  watches-over n v media os shown front kept left r home which volumes opened handed one is t =
      over-home media os shown front kept left r (subst (λ x. AreVolumes w old between x media os) home volumes) opened (subst (λ x. front ≡ kept_under (first_names x (length os)) (map medium_in os)) home handed)
      (subst (λ z. kept ≡ front ++ kept_as (volume_name (named repository) z) left) which (subst (λ x. kept ≡ front ++ kept_as (volume_name x v) left) home one)) is t
