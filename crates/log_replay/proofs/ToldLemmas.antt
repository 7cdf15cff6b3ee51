-- What is told below a stamp leaves the map before it, and so what is told replays just where the run is serial.
use Rattle.std.proofs.Common.{◌≡◌, ◌⊎◌, inl, inr, Bool, true, false, List, [], ◌∷◌, ◌++◌, Option, Some, None, refl, sym, ap, ◌∙◌, subst, ◌&&◌, if◌then◌else◌}
use Rattle.std.proofs.lemmas.Bool.{false≢true, true≢false}
use Rattle.std.specs.FinMap as finite
use Rattle.pseudo_time.specs.Lists.{Has}
use Rattle.pseudo_time.proofs.ListLemmas.{every-has, every-left, has-either, has-left, has-right}
use Rattle.pseudo_time.specs.StampParts.{StampParts}
use Rattle.pseudo_time.specs.Order.{stamp_lt}
use Rattle.value_form.specs.Objects.{Objects}
use Rattle.serial_model.specs.Questions.{AnswersOf, left_by}
use Rattle.world_core.specs.Deeds.{RunLogs, Try, after_deed, committed, deed, deed_of, deed_stamps, find, written}
unfoldable use Rattle.world_core.specs.Deeds.{all_deeds, before}
use Rattle.serial_law.proofs.Names.{and-both, and-left, and-right}
use Rattle.serial_law.proofs.Stamps.{InS, Rising, listed-pass, rising}
use Rattle.serial_law.proofs.Times.{stamp_lt-self, stamp_lt-trans}
use Rattle.serial_law.specs.Serial.{Serial}
use Rattle.script_replay.specs.Attempts.{stamp_of, tree_of}
use Rattle.script_replay.specs.Replays.{AllReplay, IsReplay, OneReplays, after_all, after_told}
use Rattle.script_replay.specs.declared.attempts.Attempt.{Attempt}
use Rattle.script_replay.specs.declared.attempts.Put.{Put}
use Rattle.script_replay.specs.declared.attempts.Told.{Told}
use Rattle.script_replay.specs.declared.attempts.Told.TheVariants.{Given, Tried}
use Rattle.script_replay.proofs.VersionLemmas.{after-more}
use Rattle.log_replay.specs.Tells.{AreRising, HasPut, IsGiven, IsTold, Says, TellsAll}
use Rattle.log_replay.proofs.AttemptLemmas.{replays-answers, replays-serial, serial-replays}
use Rattle.serial_law.proofs.Before.{find-is}
use Rattle.log_replay.proofs.StampLemmas.{find-some, not-itself, put-listed, rising-same, try-listed, whose}

-- ---- rising stamps

below-not : (s x : StampParts) → stamp_lt s x ≡ true → stamp_lt x s ≡ true → ⊥
below-not s x h k = true≢false (sym (stamp_lt-trans s x s h k) ∙ stamp_lt-self s)

-- of a stamp one thing is told
only-one : (told : List Told) → AreRising told → (x y : Told) → Has x told → Has y told → stamp_of x ≡ stamp_of y → x ≡ y
only-one [] r x y h k e = absurd h
only-one (z ∷ told) r x y (inl p) (inl q) e = sym p ∙ q
only-one (z ∷ told) r x y (inl p) (inr k) e =
    absurd (not-itself (stamp_of x) (stamp_of y) (ap (λ (w : Told). stamp_lt (stamp_of w) (stamp_of y)) (sym p) ∙ every-has (λ (w : Told). stamp_lt (stamp_of z) (stamp_of w) ≡ true) told y r.0 k) (sym e))
only-one (z ∷ told) r x y (inr h) (inl q) e =
    absurd (not-itself (stamp_of y) (stamp_of x) (ap (λ (w : Told). stamp_lt (stamp_of w) (stamp_of x)) (sym q) ∙ every-has (λ (w : Told). stamp_lt (stamp_of z) (stamp_of w) ≡ true) told x r.0 h) e)
only-one (z ∷ told) r x y (inr h) (inr k) e = only-one told r.1 x y h k e

rising-left : (xs ys : List Told) → AreRising (xs ++ ys) → AreRising xs
rising-left [] ys r = tt
rising-left (x ∷ xs) ys r = (every-left (λ (y : Told). stamp_lt (stamp_of x) (stamp_of y) ≡ true) xs ys r.0, rising-left xs ys r.1)

rising-right : (xs ys : List Told) → AreRising (xs ++ ys) → AreRising ys
rising-right [] ys r = r
rising-right (x ∷ xs) ys r = rising-right xs ys r.1

-- those in front are below
front-below : (xs ys : List Told) → AreRising (xs ++ ys) → (x y : Told) → Has x xs → Has y ys → stamp_lt (stamp_of x) (stamp_of y) ≡ true
front-below [] ys r x y h k = absurd h
front-below (z ∷ xs) ys r x y (inl p) k =
    ap (λ (w : Told). stamp_lt (stamp_of w) (stamp_of y)) (sym p) ∙ every-has (λ (w : Told). stamp_lt (stamp_of z) (stamp_of w) ≡ true) (xs ++ ys) y r.0 (has-right xs ys y k)
front-below (z ∷ xs) ys r x y (inr h) k = front-below xs ys r.1 x y h k

-- ---- the deeds of what is told

module _ (k : RunLogs) (told : List Told) (all : TellsAll k told) where
  abbrev step : Told → Objects → Objects
  step x m = if committed k (stamp_of x) then after_deed (deed k (stamp_of x)) m else m

  deed-found : (s : StampParts) (u : Try) (m : Objects) → find s k.tries ≡ Some u → after_deed (deed k s) m ≡ left_by u.script m
  deed-found s u m e = ap (λ (o : Option Try). after_deed (deed_of o (written k s)) m) e

  -- its script is the attempt's
  same-script : (t u : Try) (a : Attempt) → Has (Tried a) told → Says k t a → Has u k.tries → u.stamp ≡ t.stamp → u.script ≡ tree_of a
  same-script t u a h says g e =
      let w = all.tried u g in
      let stamps : w.0.stamp ≡ a.stamp = w.2.stamp ∙ (e ∙ sym says.stamp) in
      let same : Tried w.0 ≡ Tried a = only-one told all.rising (Tried w.0) (Tried a) w.1 h stamps in
      let one : w.0 ≡ a = cc same in
      sym w.2.script ∙ ap tree_of one

  tried-step : (t : Try) (a : Attempt) (m : Objects) → Has (Tried a) told → Has t k.tries → Says k t a → after_told (Tried a) m ≡ step (Tried a) m
  tried-step t a m h g says =
      let u = find-some a.stamp k.tries t g (sym says.stamp) in
      let w = find-is a.stamp k.tries u.0 u.1 in
      let script : u.0.script ≡ tree_of a = same-script t u.0 a h says w.0 (w.1 ∙ says.stamp) in
      ap (λ (b : Bool). if b then left_by (tree_of a) m else m) (says.decided ∙ ap (committed k) (sym says.stamp))
      ∙ ap (λ (z : Objects). if committed k a.stamp then z else m) (ap (λ t. left_by t m) (sym script) ∙ sym (deed-found a.stamp u.0 m u.1))

  given-step : (s : StampParts) (ps : List Put) (m : Objects) → IsGiven k s ps → after_told (Given s ps) m ≡ step (Given s ps) m
  given-step s ps m g =
      let d : after_deed (deed k s) m ≡ after_told (Given s ps) m = ap (λ (o : Option Try). after_deed (deed_of o (written k s)) m) g.untried ∙ ap (λ ws. after_deed (deed_of None ws) m) (sym g.puts) in
      sym d ∙ ap (λ (b : Bool). if b then after_deed (deed k s) m else m) (sym g.decided)

  told-step : (x : Told) (m : Objects) → Has x told → after_told x m ≡ step x m
  told-step (Tried a) m h = let w = every-has (IsTold k) told (Tried a) all.each h in tried-step w.0 a m h w.1 w.2
  told-step (Given s ps) m h = given-step s ps m (every-has (IsTold k) told (Given s ps) all.each h)

  -- the committed stamps that are told
  abbrev listed : List Told → List StampParts
  listed [] = []
  listed (x ∷ xs) = if committed k (stamp_of x) then stamp_of x ∷ listed xs else listed xs

  pick-deeds : (b : Bool) (s : StampParts) (ss : List StampParts) (m : Objects) → all_deeds k ss (if b then after_deed (deed k s) m else m) ≡ all_deeds k (if b then s ∷ ss else ss) m
  unfolding all_deeds
  pick-deeds true s ss m = refl
  pick-deeds false s ss m = refl

  fold-told : (xs : List Told) → ((x : Told) → Has x xs → Has x told) → (m : Objects) → after_all xs m ≡ all_deeds k (listed xs) m
  unfolding all_deeds
  fold-told [] h m = refl
  fold-told (x ∷ xs) h m =
      ap (after_all xs) (told-step x m (h x (inl refl))) ∙ (fold-told xs (λ y j. h y (inr j)) (step x m) ∙ pick-deeds (committed k (stamp_of x)) (stamp_of x) (listed xs) m)

  -- ---- which stamps those are

  record OfTold (xs : List Told) (s : StampParts) : Type 0 where
    told-one : Told
    there : Has told-one xs
    same : stamp_of told-one ≡ s
    counts : committed k s ≡ true

  pick-in : (b : Bool) (x : Told) (xs : List Told) (s : StampParts) → committed k (stamp_of x) ≡ b → (InS (listed xs) s → OfTold xs s) → InS (if b then stamp_of x ∷ listed xs else listed xs) s → OfTold (x ∷ xs) s
  pick-in true x xs s c h (inl e) = record { told-one = x; there = inl refl; same = sym e; counts = ap (committed k) e ∙ c }
  pick-in true x xs s c h (inr j) = let w = h j in record { told-one = w.told-one; there = inr w.there; same = w.same; counts = w.counts }
  pick-in false x xs s c h j = let w = h j in record { told-one = w.told-one; there = inr w.there; same = w.same; counts = w.counts }

  listed-in : (xs : List Told) (s : StampParts) → InS (listed xs) s → OfTold xs s
  listed-in [] s j = absurd j
  listed-in (x ∷ xs) s j = pick-in (committed k (stamp_of x)) x xs s refl (listed-in xs s) j

  pick-new : (b : Bool) (s : StampParts) (ss : List StampParts) → b ≡ true → InS (if b then s ∷ ss else ss) s
  pick-new true s ss e = inl refl
  pick-new false s ss e = absurd (false≢true e)

  pick-old : (b : Bool) (t s : StampParts) (ss : List StampParts) → InS ss s → InS (if b then t ∷ ss else ss) s
  pick-old true t s ss j = inr j
  pick-old false t s ss j = j

  in-listed : (xs : List Told) (x : Told) → Has x xs → committed k (stamp_of x) ≡ true → InS (listed xs) (stamp_of x)
  in-listed [] x h c = absurd h
  in-listed (y ∷ xs) x (inl e) c =
      subst (λ (z : Told). InS (listed (y ∷ xs)) (stamp_of z)) e (pick-new (committed k (stamp_of y)) (stamp_of y) (listed xs) (ap (λ (z : Told). committed k (stamp_of z)) e ∙ c))
  in-listed (y ∷ xs) x (inr h) c = pick-old (committed k (stamp_of y)) (stamp_of y) (stamp_of x) (listed xs) (in-listed xs x h c)

  pick-rising : (b : Bool) (s : StampParts) (ss : List StampParts) → ((x : StampParts) → InS ss x → stamp_lt s x ≡ true) → Rising ss → Rising (if b then s ∷ ss else ss)
  pick-rising true s ss h r = (h, r)
  pick-rising false s ss h r = r

  listed-rising : (xs : List Told) → AreRising xs → Rising (listed xs)
  listed-rising [] r = tt
  listed-rising (x ∷ xs) r =
      pick-rising (committed k (stamp_of x)) (stamp_of x) (listed xs)
      (λ s j. let w = listed-in xs s j in ap (stamp_lt (stamp_of x)) (sym w.same) ∙ every-has (λ (y : Told). stamp_lt (stamp_of x) (stamp_of y) ≡ true) xs w.told-one r.0 w.there)
      (listed-rising xs r.1)

  -- ---- the map before a stamp

  module _ (front : List Told) (here : Told) (rest : List Told) (parts : told ≡ front ++ here ∷ rest) where
    abbrev ok : StampParts → Bool
    ok x = stamp_lt x (stamp_of here) && committed k x

    rises : AreRising (front ++ here ∷ rest)
    rises = subst AreRising parts all.rising

    in-front : (x : Told) → Has x front → Has x told
    in-front x h = subst (Has x) (sym parts) (has-left front (here ∷ rest) x h)

    -- what is told of a lesser stamp stands in front
    lesser : (x : Told) → Has x told → stamp_lt (stamp_of x) (stamp_of here) ≡ true → Has x front
    lesser x h l = elim (has-either front (here ∷ rest) x (subst (Has x) parts h)) [
      | inl j ↦ j
      | inr (inl e) ↦ absurd (not-itself (stamp_of x) (stamp_of here) l (ap stamp_of e))
      | inr (inr j) ↦ absurd (below-not (stamp_of here) (stamp_of x) (every-has (λ (y : Told). stamp_lt (stamp_of here) (stamp_of y) ≡ true) rest x (rising-right front (here ∷ rest) rises).0 j) l)
    ]

    -- a committed stamp of a put or a try is told
    is-told : (s : StampParts) → committed k s ≡ true → HasPut k s ⊎ ((t : Try) × Has t k.tries × (t.stamp ≡ s)) → (x : Told) × Has x told × (stamp_of x ≡ s)
    is-told s c (inl p) = all.given s p c
    is-told s c (inr w) = let a = all.tried w.0 w.1 in (Tried a.0, a.1, a.2.stamp ∙ w.2)

    to : (s : StampParts) → InS (listed front) s → InS (deed_stamps k ok) s
    to s j =
        let w = listed-in front s j in
        let below : stamp_lt s (stamp_of here) ≡ true = ap (λ z. stamp_lt z (stamp_of here)) (sym w.same) ∙ front-below front (here ∷ rest) rises w.told-one here w.there (inl refl) in
        let passes : ok s ≡ true = and-both (stamp_lt s (stamp_of here)) (committed k s) below w.counts in
        one w.told-one (in-front w.told-one w.there) w.same passes
      where
        one : (x : Told) → Has x told → stamp_of x ≡ s → ok s ≡ true → InS (deed_stamps k ok) s
        one (Tried a) h e p =
            let w = every-has (IsTold k) told (Tried a) all.each h in
            let same : w.0.stamp ≡ s = sym w.2.stamp ∙ e in
            subst (InS (deed_stamps k ok)) same (try-listed k ok w.0 w.1 (ap ok same ∙ p))
        one (Given t ps) h e p =
            subst (InS (deed_stamps k ok)) e (put-listed k ok t (every-has (IsTold k) told (Given t ps) all.each h).some (ap ok e ∙ p))

    back : (s : StampParts) → InS (deed_stamps k ok) s → InS (listed front) s
    back s j =
        let passes : ok s ≡ true = listed-pass k ok s j in
        let c : committed k s ≡ true = and-right (stamp_lt s (stamp_of here)) (committed k s) passes in
        let below : stamp_lt s (stamp_of here) ≡ true = and-left (stamp_lt s (stamp_of here)) (committed k s) passes in
        let w = is-told s c (whose k ok s j) in
        subst (InS (listed front)) w.2 (in-listed front w.0 (lesser w.0 w.1 (ap (λ z. stamp_lt z (stamp_of here)) w.2 ∙ below)) (ap (committed k) w.2 ∙ c))

    pub before-is : after_all front finite.empty ≡ before k (stamp_of here)
    unfolding before
    before-is =
        fold-told front in-front finite.empty
        ∙ ap (λ ss. all_deeds k ss finite.empty)
        (rising-same (listed front) (deed_stamps k ok) (listed-rising front (rising-left front (here ∷ rest) rises)) (rising k ok) to back)

  -- ---- both ways

  split : (x : Told) (xs : List Told) → Has x xs → (front rest : List Told) × (xs ≡ front ++ x ∷ rest)
  split x [] h = absurd h
  split x (y ∷ xs) (inl e) = ([], xs, ap (λ (z : Told). z ∷ xs) e)
  split x (y ∷ xs) (inr h) = let w = split x xs h in (y ∷ w.0, w.1, ap (λ zs. y ∷ zs) w.2)

  replays-at : (front : List Told) (x : Told) (rest : List Told) (m : Objects) → AllReplay (front ++ x ∷ rest) m → OneReplays (after_all front m) x
  replays-at [] x rest m h = h.0
  replays-at (y ∷ front) x rest m h = replays-at front x rest (after_told y m) h.1

  at-try : AllReplay told finite.empty → (t : Try) → Has t k.tries → (a : Attempt) × Says k t a × IsReplay (before k t.stamp) a
  at-try h t g =
      let w = all.tried t g in
      let p = split (Tried w.0) told w.1 in
      let r : IsReplay (after_all p.0 finite.empty) w.0 = replays-at p.0 (Tried w.0) p.1 finite.empty (subst (λ (xs : List Told). AllReplay xs finite.empty) p.2 h) in
      let is : after_all p.0 finite.empty ≡ before k t.stamp = before-is p.0 (Tried w.0) p.1 p.2 ∙ ap (before k) w.2.stamp in
      (w.0, w.2, subst (λ (m : Objects). IsReplay m w.0) is r)

  pub told-serial : AllReplay told finite.empty → Serial k
  told-serial h t g = let w = at-try h t g in replays-serial k t w.0 w.1 (before k t.stamp) w.2

  pub told-answers : AllReplay told finite.empty → (t : Try) → Has t k.tries → AnswersOf t.script t.answers (before k t.stamp)
  told-answers h t g = let w = at-try h t g in replays-answers k t w.0 w.1 (before k t.stamp) w.2

  module _ (serial : Serial k) (answers : (t : Try) → Has t k.tries → AnswersOf t.script t.answers (before k t.stamp)) where
    one-told : (front : List Told) (x : Told) (rest : List Told) → told ≡ front ++ x ∷ rest → OneReplays (after_all front finite.empty) x
    one-told front (Given s ps) rest e = tt
    one-told front (Tried a) rest e =
        let w = every-has (IsTold k) told (Tried a) all.each (subst (Has (Tried a)) (sym e) (has-right front (Tried a ∷ rest) (Tried a) (inl refl))) in
        let is : before k w.0.stamp ≡ after_all front finite.empty = ap (before k) (sym w.2.stamp) ∙ sym (before-is front (Tried a) rest e) in
        subst (λ (m : Objects). IsReplay m a) is (serial-replays k w.0 a w.2 (before k w.0.stamp) (serial w.0 w.1) (answers w.0 w.1))

    all-told : (front rest : List Told) → told ≡ front ++ rest → (m : Objects) → m ≡ after_all front finite.empty → AllReplay rest m
    all-told front [] e m is = tt
    all-told front (x ∷ rest) e m is = (
      subst (λ (z : Objects). OneReplays z x) (sym is) (one-told front x rest e),
      all-told (front ++ x ∷ []) rest (e ∙ sym (append-more front x rest)) (after_told x m) (ap (after_told x) is ∙ sym (after-more front (x ∷ []) finite.empty)),
    )
      where
        append-more : (xs : List Told) (x : Told) (ys : List Told) → (xs ++ x ∷ []) ++ ys ≡ xs ++ x ∷ ys
        append-more [] x ys = refl
        append-more (z ∷ xs) x ys = ap (λ zs. z ∷ zs) (append-more xs x ys)

    pub serial-told : AllReplay told finite.empty
    serial-told = all-told [] told refl finite.empty refl
