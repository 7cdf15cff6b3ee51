-- What is left of volumes, and what comes of a retirement over them.
use Rattle.std.proofs.Common.{◌≡◌, ◌<◌, ℕ, true, IsTrue, List, [], ◌∷◌, ◌++◌, length, length-append, map, reverse, refl, ap, sym, subst, ◌∙◌, arith, Option, Some, None, inl, inr}
use Rattle.std.specs.Prelude.{Ok, Vec}
use Rattle.std.specs.declared.alloc.Global.{Global}
use Rattle.std.specs.List.{AllZip}
use Rattle.std.proofs.lemmas.Bool.{false≢true}
use Rattle.pseudo_time.specs.Lists.{Every}
use Rattle.pseudo_time.specs.TimeParts.{TimeParts}
use Rattle.pseudo_time.specs.declared.down_causes.DownCause.TheVariants as down
use Rattle.pseudo_time.specs.declared.nodes.NodeId.{NodeId}
use Rattle.pseudo_time.specs.declared.nodes.NodeKind.TheVariants.{Repository}
use Rattle.stream_port.specs.Causes.{Rose}
use Rattle.value_form.specs.declared.objects.ObjectId.{ObjectId}
use Rattle.effect_form.specs.declared.effects.Effect.{Effect}
use Rattle.medium_port.specs.Image.{Image}
use Rattle.version_store.specs.declared.stores.Store.{Store}
use Rattle.version_store.specs.declared.faults.StoreFault.{StoreFault}
use Rattle.version_store.specs.declared.faults.StoreFault.TheVariants as fault
use Rattle.version_store.specs.Causes.{down_of}
use Rattle.version_store.specs.Filling.{filling}
use Rattle.version_store.specs.Storage.{storage}
use Rattle.version_store.specs.StoreWords.{left_in, medium_of}
use Rattle.run_volumes.specs.Opening.{Opening}
use Rattle.run_volumes.specs.Opening.TheVariants.{Open}
use Rattle.run_volumes.specs.Media.{AreBack, Media}
use Rattle.run_volumes.specs.Openings.{HasOpened, IsOpen, log_in, medium_in}
use Rattle.forward_copy.specs.Carried.{LeavesFront}
use Rattle.forward_copy.specs.Refusals.{IsFirstUndecided, IsOldMark}
use Rattle.forward_copy.specs.Sifted.{between}
use Rattle.forward_copy.specs.declared.faults.ForwardFault.{ForwardFault}
use Rattle.forward_copy.specs.declared.faults.ForwardFault.TheVariants as forwarding
use Rattle.forward_copy.specs.declared.copies.Forward.{Forward}
use Rattle.forward_copy.specs.Currents.{node_log}
use Rattle.run_volumes.specs.Standings.{KeepsIts, Stands}
use Rattle.run_volumes.specs.Volumes.{AreOpen, EndRightly, fresh, is_empty_log, logs_of}
use Rattle.run_volumes.proofs.StandLemmas.{back-all, back-one, given-back}
use Rattle.run_volumes.proofs.VolumeLemmas.{fresh-last}
use Rattle.retire_command.specs.declared.outcomes.Retired.{Retired}
use Rattle.retire_command.specs.declared.outcomes.Retired.TheVariants.{Done, Refused, Fallen, NoMemory}
use Rattle.retire_command.specs.Retires.{Carries, ComesTo, CutsOff, HasFront, IsReady, RefusesFor, Stops, StopsFor, WritesLast, carried}

-- ---- lists

every-last : {A : Type 0} (P : A → Type 0) (xs : List A) (x : A) → Every P (xs ++ x ∷ []) → P x
every-last P [] x h = h.0
every-last P (y ∷ xs) x h = every-last P xs x h.1

every-front : {A : Type 0} (P : A → Type 0) (xs ys : List A) → Every P (xs ++ ys) → Every P xs
every-front P [] ys h = tt
every-front P (x ∷ xs) ys h = (h.0, every-front P xs ys h.1)

pub one-alone : {A : Type 0} (x y : A) (ys : List A) → [] ≡ ys ++ x ∷ [] → ⊥
one-alone x y ys e = let n = ap length e in let m = length-append ys (x ∷ []) in omega (arith, n, m)

snoc-last : {A : Type 0} (xs ys : List A) (x y : A) → xs ++ x ∷ [] ≡ ys ++ y ∷ [] → x ≡ y
snoc-last [] [] x y e = cc
snoc-last [] (z ∷ ys) x y e = absurd (one-alone y z ys (cc e))
snoc-last (z ∷ xs) [] x y e = absurd (one-alone x z xs (sym (cc e)))
snoc-last (z ∷ xs) (u ∷ ys) x y e = snoc-last xs ys x y (cc e)

none-in : (l : List Effect) → is_empty_log l ≡ true → l ≡ []
none-in [] h = refl
none-in (f ∷ l) h = absurd (false≢true h)

-- ---- volumes

module _ {M : Type 0} (w : Media M) {g : _} where
  -- ---- the last of them

  -- the last one is the fresh one, and is empty
  last-empty : (os front : List (Opening M g)) (last : Opening M g) (u : ℕ) → EndRightly Repository os → os ≡ front ++ last ∷ [] → fresh (logs_of os) ≡ Some u → is_empty_log (log_in last) ≡ true
  last-empty os front last u ends is e =
      let same : ends.last ≡ last = snoc-last ends.front front ends.last last (sym ends.is ∙ is) in
      let f = fresh-last Repository 0 u ends.front ends.last ends.go_on (sym (ap (λ (l : List (Opening M g)). fresh (logs_of l)) ends.is) ∙ e) in
      sym (ap (λ (o : Opening M g). is_empty_log (log_in o)) same) ∙ f.1

  pub fresh-empty : (os front : List (Opening M g)) (store : Store M g) (effects : Vec Effect Global) (u : ℕ) → EndRightly Repository os → os ≡ front ++ Open store effects ∷ [] → fresh (logs_of os) ≡ Some u → effects.items ≡ []
  fresh-empty os front store effects u ends is e = none-in effects.items (last-empty os front (Open store effects) u ends is e)

  -- it has the fresh one's number
  pub fresh-place : (os front : List (Opening M g)) (last : Opening M g) (u : ℕ) → EndRightly Repository os → os ≡ front ++ last ∷ [] → fresh (logs_of os) ≡ Some u → u ≡ length front
  fresh-place os front last u ends is e =
      let f = fresh-last Repository 0 u ends.front ends.last ends.go_on (sym (ap (λ (l : List (Opening M g)). fresh (logs_of l)) ends.is) ∙ e) in
      let place = f.0 in
      let here = ap length is ∙ length-append front (last ∷ []) in
      let there = ap length ends.is ∙ length-append ends.front (ends.last ∷ []) in
      omega (arith, place, here, there)

  -- and it was opened
  pub last-opened : (os front : List (Opening M g)) (last : Opening M g) → AreOpen os → os ≡ front ++ last ∷ [] → IsOpen last
  last-opened os front last all is = every-last IsOpen front last (subst AreOpen is all)

  pub last-stands : (os front : List (Opening M g)) (last : Opening M g) → Every (Stands w) os → os ≡ front ++ last ∷ [] → Stands w last
  last-stands os front last h is = every-last (Stands w) front last (subst (Every (Stands w)) is h)

  -- ---- what comes of it

  pub stopped : (n : NodeId) (at : TimeParts) (os : List (Opening M g)) (left : List (Option M)) (r : Retired) → Every (Stands w) os → left ≡ map medium_in os → Stops n at os r → ComesTo w n at os left r
  stopped n at os left (Done text) h is s = absurd s
  stopped n at os left (Refused line) h is s = record { opened = s.0; unwritten = is; keep = given-back w os left h is; why = s.1 }
  stopped n at os left (Fallen line) h is s =
      inl (record { front = s.1.front; medium = s.1.medium; cause = s.0; back = s.1.back; is = s.1.is; unwritten = is; keep = given-back w os left h is; is_line = s.2 })
  stopped n at os left NoMemory h is s = inl (given-back w os left h is)

  writes : (os front : List (Opening M g)) (store : Store M g) (effects : Vec Effect Global) (others left : List (Option M)) (m : M) (P : Image → Type 0) → os ≡ front ++ Open store effects ∷ [] → effects.items ≡ [] →
      Every (Stands w) os → others ≡ map medium_in front → left ≡ others ++ Some m ∷ [] → (IsTrue w.tells → (c : Image) → w.may_leave m c → P c) → WritesLast w os left P
  writes os front store effects others left m P is none h given are images = record {
    front = front;
    store = store;
    effects = effects;
    is = is;
    empty = none;
    others = others;
    medium = m;
    is_left = are;
    unwritten = given;
    keep = given-back w front others (every-front (Stands w) front (Open store effects ∷ []) (subst (Every (Stands w)) is h)) given;
    images = images;
  }

  pub carried-out : (n : NodeId) (at : TimeParts) (os front : List (Opening M g)) (store : Store M g) (effects : Vec Effect Global) (others left : List (Option M)) (m : M) (f : Forward) (line : List ℕ) (r : Retired) →
      (ready : IsReady n at os f line) → ready.volume ≡ length front → os ≡ front ++ Open store effects ∷ [] → effects.items ≡ [] → Every (Stands w) os → others ≡ map medium_in front → left ≡ others ++ Some m ∷ [] →
      Carries w n (between at f.kept.items) store line r m → ComesTo w n at os left r
  unfolding writes
  carried-out n at os front store effects others left m f line (Done text) ready place is none h given are c = record {
    opened = ready.opened;
    may = ready.may;
    volume = ready.volume;
    is_fresh = ready.is_fresh;
    wrote = writes os front store effects others left m (λ i. storage i ≡ Ok (carried w n at os left)) is none h given are (λ t i may. c.1 t i may ∙ ap (λ l. Ok l) ready.is_kept);
    is_last = place;
    kept = f.kept.items;
    is_kept = ready.is_kept;
    is_text = c.0 ∙ ready.is_line;
  }
  carried-out n at os front store effects others left m f line (Refused text) ready place is none h given are c = absurd c
  carried-out n at os front store effects others left m f line (Fallen text) ready place is none h given are c = inr (record {
    opened = ready.opened;
    may = ready.may;
    wrote = writes os front store effects others left m (LeavesFront (carried w n at os left)) is none h given are (λ t i may. subst (λ (l : List Effect). LeavesFront l i) ready.is_kept (c.0 t i may));
    cause = c.1.0;
    why = subst (λ (l : List Effect). StopsFor w l store c.1.0 m) ready.is_kept c.1.1;
    is_line = c.1.2;
  })
  carried-out n at os front store effects others left m f line NoMemory ready place is none h given are c =
      inr (ready.opened, ready.may, writes os front store effects others left m (LeavesFront (carried w n at os left)) is none h given are (λ t i may. subst (λ (l : List Effect). LeavesFront l i) ready.is_kept (c t i may)))

  -- ---- why it stops

  pub cut : (n : NodeId) (effects : List Effect) (store : Store M g) (line : List ℕ) (why : StoreFault) (r : Retired) (m : M) → HasFront w n effects store line m → (why ≡ fault.Medium → Rose (w.faults (medium_of store)) (w.faults m)) →
      ((pages : ℕ) → why ≡ fault.Full pages → (pages ≡ w.page_count (medium_of store)) × (left_in store < length (filling effects))) → CutsOff n (down_of why) r → Carries w n effects store line r m
  cut n effects store line fault.Medium r m front failed full (inl e) = subst (λ (z : Retired). Carries w n effects store line z m) (sym e) front
  cut n effects store line fault.Medium r m front failed full (inr e) = subst (λ (z : Retired). Carries w n effects store line z m) (sym e) (front, (down.Medium, failed refl, refl))
  cut n effects store line (fault.Full pages) r m front failed full (inl e) = subst (λ (z : Retired). Carries w n effects store line z m) (sym e) front
  cut n effects store line (fault.Full pages) r m front failed full (inr e) = subst (λ (z : Retired). Carries w n effects store line z m) (sym e) (front, (down.Full pages, full pages refl, refl))
  cut n effects store line fault.NoMemory r m front failed full e = subst (λ (z : Retired). Carries w n effects store line z m) (sym e) front

  -- ---- each volume that was taken is handed back

  back-first : (m : Option M) (ms : List (Option M)) (store : Store M g) (effects : Vec Effect Global) (x : M) → HasOpened w m (Open store effects) → AllZip (HasOpened w {g = g}) ms [] → AreBack (m ∷ ms) (Some x ∷ [])
  back-first None ms store effects x h k = absurd h
  back-first (Some old) [] store effects x h k = (tt, tt)
  back-first (Some old) (m ∷ ms) store effects x h k = absurd k

  back-last : (media : List (Option M)) (front : List (Opening M g)) (store : Store M g) (effects : Vec Effect Global) (others : List (Option M)) (x : M) → AllZip (HasOpened w) media (front ++ Open store effects ∷ []) →
      AllZip (KeepsIts w) front others → AreBack media (others ++ Some x ∷ [])
  back-last [] [] store effects others x h k = absurd h
  back-last [] (o ∷ front) store effects others x h k = absurd h
  back-last (m ∷ ms) [] store effects [] x h k = back-first m ms store effects x h.0 h.1
  back-last (m ∷ ms) [] store effects (l ∷ others) x h k = absurd k
  back-last (m ∷ ms) (o ∷ front) store effects [] x h k = absurd k
  back-last (m ∷ ms) (o ∷ front) store effects (l ∷ others) x h k = (back-one w m o l h.0 k.0, back-last ms front store effects others x h.1 k.1)

  wrote-back : (media : List (Option M)) (os : List (Opening M g)) (left : List (Option M)) (P : Image → Type 0) → AllZip (HasOpened w) media os → WritesLast w os left P → AreBack media left
  wrote-back media os left P h k =
      subst (AreBack media) (sym k.is_left) (back-last media k.front k.store k.effects k.others k.medium (subst (λ (l : List (Opening M g)). AllZip (HasOpened w) media l) k.is h) k.keep)

  -- whatever comes of it
  pub comes-back : (n : NodeId) (at : TimeParts) (media : List (Option M)) (os : List (Opening M g)) (left : List (Option M)) (r : Retired) → AllZip (HasOpened w) media os → ComesTo w n at os left r → AreBack media left
  comes-back n at media os left (Done text) h c = wrote-back media os left (λ i. storage i ≡ Ok (carried w n at os left)) h c.wrote
  comes-back n at media os left (Refused line) h c = back-all w media os left h c.keep
  comes-back n at media os left (Fallen line) h (inl c) = back-all w media os left h c.keep
  comes-back n at media os left (Fallen line) h (inr c) = wrote-back media os left (LeavesFront (carried w n at os left)) h c.wrote
  comes-back n at media os left NoMemory h (inl c) = back-all w media os left h c
  comes-back n at media os left NoMemory h (inr c) = wrote-back media os left (LeavesFront (carried w n at os left)) h c.2

module _ {M : Type 0} {g : _} where
  pub refused-for : (n : NodeId) (at : TimeParts) (os : List (Opening M g)) (v : ℕ) (log : List Effect) (why : ForwardFault) (r : Retired) → AreOpen os → fresh (logs_of os) ≡ Some v → log ≡ node_log (logs_of os) →
      ((floor : TimeParts) → why ≡ forwarding.OldMark floor → IsOldMark (reverse log) at floor) →
      ((o : ObjectId) (x : TimeParts) → why ≡ forwarding.Undecided o x → IsFirstUndecided (reverse log) at o x) → RefusesFor why r → Stops n at os r
  refused-for n at os v log (forwarding.OldMark floor) r all e is old undecided (inl c) = subst (Stops n at os) (sym c) tt
  refused-for n at os v log (forwarding.OldMark floor) r all e is old undecided (inr c) =
      subst (Stops n at os) (sym c) (all, inr (inl (v, e, floor, subst (λ (l : List Effect). IsOldMark (reverse l) at floor) is (old floor refl), refl)))
  refused-for n at os v log (forwarding.Undecided o x) r all e is old undecided (inl c) = subst (Stops n at os) (sym c) tt
  refused-for n at os v log (forwarding.Undecided o x) r all e is old undecided (inr c) =
      subst (Stops n at os) (sym c) (all, inr (inr (v, e, o, x, subst (λ (l : List Effect). IsFirstUndecided (reverse l) at o x) is (undecided o x refl), refl)))
  refused-for n at os v log forwarding.NoMemory r all e is old undecided c = subst (Stops n at os) (sym c) tt
