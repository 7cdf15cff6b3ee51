-- Held reads, and the attempts that a repository may still ask for: what a read that is held adds, and what one takes away that leaves.
use Rattle.std.specs.Map.{remove_entry}
use Rattle.complete_law.proofs.Names.{time_cmp, Has, same_stamp, same_stamp-is, same_stamp-self, StampParts, TimeParts, ObjectId, Value, Effect, is_settled, HeldRead, known, waits_for, settled-log, Waits, ◌≡◌, ◌⊎◌, ℕ, ◌+◌, ◌≤◌, Bool, true, false, ◌||◌, not, cond, List, [], ◌∷◌, refl, sym, ◌∙◌, ap, subst, Option, Some, None, if◌then◌else◌, inl, inr, arith, insert_entry, match_ordering, Ordering, Less, Equal, Greater, false≢true, true≢false, or_right, filter}
use Rattle.effect_form.specs.declared.effects.Effect.TheVariants as effect

abbrev pub times : {X : Type 0} → ℕ → List X → ℕ
times k [] = 0
times k (x ∷ xs) = k + times k xs

-- each stamp once
abbrev pub Single : List StampParts → Type 0
Single [] = Unit {0}
Single (s ∷ ss) = (Has s ss → ⊥) × Single ss

-- ---- sums over stamps

abbrev pub total : (StampParts → ℕ) → List StampParts → ℕ
total f [] = 0
total f (s ∷ ss) = f s + total f ss

total-mono : (f g : StampParts → ℕ) (ss : List StampParts) → ((s : StampParts) → f s ≤ g s) → total f ss ≤ total g ss
total-mono f g [] h = omega arith
total-mono f g (s ∷ ss) h = let k = total-mono f g ss h in let j = h s in omega (arith, k, j)

apart : (f g : StampParts → ℕ) (w : StampParts) (ss : List StampParts) → ((s : StampParts) → same_stamp w s ≡ false → f s ≤ g s) → (Has w ss → ⊥) → total f ss ≤ total g ss
apart f g w [] h n = omega arith
apart f g w (x ∷ ss) h n = let k = apart f g w ss h (λ i. n (inr i)) in let j = (elim (same_stamp w x) as (λ c. same_stamp w x ≡ c → f x ≤ g x) [ true ↦ λ e. absurd (n (inl (sym (same_stamp-is w x e)))) | false ↦ λ e. h x e ]) refl in omega (arith, k, j)

-- one stamp may be more by q
total-more : (f g : StampParts → ℕ) (q : ℕ) (w : StampParts) (ss : List StampParts) → Single ss → ((s : StampParts) → same_stamp w s ≡ false → f s ≤ g s) → f w ≤ g w + q → total f ss ≤ total g ss + q
total-more f g q w [] k h l = omega arith
total-more f g q w (x ∷ ss) k h l = go (same_stamp w x) refl (total-more f g q w ss k.1 h l)
  where
    go : (c : Bool) → same_stamp w x ≡ c → total f ss ≤ total g ss + q → f x + total f ss ≤ (g x + total g ss) + q
    go false e i = let j = h x e in omega (arith, i, j)
    go true e i =
        let is : w ≡ x = same_stamp-is w x e in
        let a = apart f g w ss h (λ y. k.0 (subst (λ z. Has z ss) is y)) in
        let b : f x ≤ g x + q = subst (λ z. f z ≤ g z + q) is l in
        omega (arith, a, b)

-- one stamp of them is less by q
total-less : (f g : StampParts → ℕ) (q : ℕ) (w : StampParts) (ss : List StampParts) → Single ss → Has w ss → ((s : StampParts) → f s ≤ g s) → f w + q ≤ g w → total f ss + q ≤ total g ss
total-less f g q w [] k i h l = absurd i
total-less f g q w (x ∷ ss) k (inl e) h l =
    let b : f x + q ≤ g x = subst (λ z. f z + q ≤ g z) (sym e) l in
    omega (arith, total-mono f g ss h, b)
total-less f g q w (x ∷ ss) k (inr i) h l = let a = total-less f g q w ss k.1 i h l in let b = h x in omega (arith, a, b)

-- ---- the stamps that have a Put in the log, each once

abbrev has-stamp : StampParts → List StampParts → Bool
has-stamp s [] = false
has-stamp s (x ∷ xs) = if same_stamp x s then true else has-stamp s xs

abbrev with-stamp : Bool → StampParts → List StampParts → List StampParts
with-stamp true s ss = ss
with-stamp false s ss = s ∷ ss

abbrev pub putters : List Effect → List StampParts
putters [] = []
putters (effect.Put o x v ∷ l) = with-stamp (has-stamp x.stamp (putters l)) x.stamp (putters l)
putters (f ∷ l) = putters l

stamp-in : (s : StampParts) (ss : List StampParts) → has-stamp s ss ≡ true → Has s ss
stamp-in s [] e = absurd (false≢true e)
stamp-in s (x ∷ ss) e = go (same_stamp x s) refl (λ h. stamp-in s ss h) e
  where
    go : (c : Bool) → same_stamp x s ≡ c → (has-stamp s ss ≡ true → Has s ss) → (if c then true else has-stamp s ss) ≡ true → Has s (x ∷ ss)
    go true q again e = inl (same_stamp-is x s q)
    go false q again e = inr (again e)

stamp-out : (s : StampParts) (ss : List StampParts) → has-stamp s ss ≡ false → Has s ss → ⊥
stamp-out s [] e h = h
stamp-out s (x ∷ ss) e h = go (same_stamp x s) refl (λ e h. stamp-out s ss e h) e h
  where
    go : (c : Bool) → same_stamp x s ≡ c → (has-stamp s ss ≡ false → Has s ss → ⊥) → (if c then true else has-stamp s ss) ≡ false → Has s (x ∷ ss) → ⊥
    go true q again e h = true≢false e
    go false q again e (inl i) = false≢true (sym q ∙ subst (λ y. same_stamp x y ≡ true) i (same_stamp-self x))
    go false q again e (inr i) = again e i

putters-single : (log : List Effect) → Single (putters log)
putters-single [] = tt
putters-single (effect.Put o x v ∷ l) = go (has-stamp x.stamp (putters l)) refl (putters-single l)
  where
    go : (c : Bool) → has-stamp x.stamp (putters l) ≡ c → Single (putters l) → Single (with-stamp c x.stamp (putters l))
    go true e k = k
    go false e k = (stamp-out x.stamp (putters l) e, k)
putters-single (f ∷ l) = putters-single l

still : (c : Bool) (s w : StampParts) (ss : List StampParts) → Has s ss → Has s (with-stamp c w ss)
still true s w ss h = h
still false s w ss h = inr h

put-stands : (log : List Effect) (o : ObjectId) (x : TimeParts) (v : Value) → Has (effect.Put o x v) log → Has x.stamp (putters log)
put-stands [] o x v h = absurd h
put-stands (effect.Put a y b ∷ l) o x v (inl e) =
    let is : y ≡ x = cc e in
    subst (λ (z : TimeParts). Has z.stamp (with-stamp (has-stamp y.stamp (putters l)) y.stamp (putters l))) is (go (has-stamp y.stamp (putters l)) refl)
  where
    go : (c : Bool) → has-stamp y.stamp (putters l) ≡ c → Has y.stamp (with-stamp c y.stamp (putters l))
    go true q = stamp-in y.stamp (putters l) q
    go false q = inl refl
put-stands (effect.Put a y b ∷ l) o x v (inr h) = still (has-stamp y.stamp (putters l)) x.stamp y.stamp (putters l) (put-stands l o x v h)
put-stands (f ∷ l) o x v (inl e) = absurd (cc e)
put-stands (f ∷ l) o x v (inr h) = put-stands l o x v h

-- ---- what may still be asked for: an attempt counts q while it is unknown and no read waits for it

or-on : (a b c : Bool) → (b ≡ true → c ≡ true) → (a || b) ≡ true → (a || c) ≡ true
or-on true b c k e = refl
or-on false b c k e = k e

own-waits : (w : StampParts) (b : Bool) → (same_stamp w w || b) ≡ true
own-waits w b = ap (λ c. c || b) (same_stamp-self w)

module _ (q : ℕ) where
  abbrev pub unasked : List Effect → List (TimeParts × HeldRead) → StampParts → ℕ
  unasked log held s = if is_settled (known log s) then 0 else (if waits_for s held then 0 else q)

  abbrev pub free : List Effect → List (TimeParts × HeldRead) → ℕ
  free log held = total (unasked log held) (putters log)

  unasked-most : (log : List Effect) (held : List (TimeParts × HeldRead)) (s : StampParts) → unasked log held s ≤ q
  unasked-most log held s = go (is_settled (known log s)) (waits_for s held)
    where
      go : (c d : Bool) → (if c then 0 else (if d then 0 else q)) ≤ q
      go true d = omega arith
      go false true = omega arith
      go false false = omega arith

  unasked-more : (f : Effect) (log : List Effect) (held : List (TimeParts × HeldRead)) (s : StampParts) → unasked (f ∷ log) held s ≤ unasked log held s
  unasked-more f log held s = go (known log s) refl (known (f ∷ log) s) refl
    where
      go : (u : Option Bool) → known log s ≡ u → (k : Option Bool) → known (f ∷ log) s ≡ k → (if is_settled k then 0 else (if waits_for s held then 0 else q)) ≤ (if is_settled u then 0 else (if waits_for s held then 0 else q))
      go u e (Some c) p = omega arith
      go None e None p = omega arith
      go (Some c) e None p = let no : Some c ≡ None = sym (settled-log log f s c e) ∙ p in absurd (cc no)

  -- an effect that is no Put adds nothing
  pub noted-free : (f : Effect) (log : List Effect) (held : List (TimeParts × HeldRead)) → putters (f ∷ log) ≡ putters log → free (f ∷ log) held ≤ free log held
  noted-free f log held e =
      let j : free (f ∷ log) held ≡ total (unasked (f ∷ log) held) (putters log) = ap (total (unasked (f ∷ log) held)) e in
      omega (arith, total-mono (unasked (f ∷ log) held) (unasked log held) (putters log) (unasked-more f log held), j)

  pub put-free : (o : ObjectId) (x : TimeParts) (v : Value) (log : List Effect) (held : List (TimeParts × HeldRead)) → free (effect.Put o x v ∷ log) held ≤ free log held + q
  put-free o x v log held =
      omega (arith, total-mono (unasked (effect.Put o x v ∷ log) held) (unasked log held) (putters log) (unasked-more (effect.Put o x v) log held), go (has-stamp x.stamp (putters log)))
    where
      go : (c : Bool) → total (unasked (effect.Put o x v ∷ log) held) (with-stamp c x.stamp (putters log)) ≤ total (unasked (effect.Put o x v ∷ log) held) (putters log) + q
      go true = omega arith
      go false = let m = unasked-most (effect.Put o x v ∷ log) held x.stamp in omega (arith, m)

  more-waits : (log : List Effect) (mid later : List (TimeParts × HeldRead)) (s : StampParts) → (waits_for s mid ≡ true → waits_for s later ≡ true) → unasked log later s ≤ unasked log mid s
  more-waits log mid later s k = go (waits_for s mid) refl (waits_for s later) refl (is_settled (known log s))
    where
      go : (a : Bool) → waits_for s mid ≡ a → (b : Bool) → waits_for s later ≡ b → (c : Bool) → (if c then 0 else (if b then 0 else q)) ≤ (if c then 0 else (if a then 0 else q))
      go a e b p true = omega arith
      go a e true p false = omega arith
      go false e false p false = omega arith
      go true e false p false = absurd (false≢true (sym p ∙ k e))

  -- what is released waited for an attempt that is known; what waits for another is held still
  waits-kept : (s x : StampParts) (held : List (TimeParts × HeldRead)) → same_stamp s x ≡ false → waits_for x held ≡ true → waits_for x (filter (λ e. not (same_stamp e.1.waits s)) held) ≡ true
  waits-kept s x [] n h = h
  waits-kept s x (e ∷ es) n h = go (λ k. waits-kept s x es n k) (same_stamp e.1.waits s) refl (same_stamp e.1.waits x) refl h
    where
      go : (waits_for x es ≡ true → waits_for x (filter (λ e. not (same_stamp e.1.waits s)) es) ≡ true) → (b : Bool) → same_stamp e.1.waits s ≡ b → (c : Bool) → same_stamp e.1.waits x ≡ c → (c || waits_for x es) ≡ true →
          waits_for x (cond (not b) (e ∷ filter (λ e. not (same_stamp e.1.waits s)) es) (filter (λ e. not (same_stamp e.1.waits s)) es)) ≡ true
      go again true r true p h =
          let is : s ≡ x = sym (same_stamp-is e.1.waits s r) ∙ same_stamp-is e.1.waits x p in
          absurd (false≢true (sym n ∙ subst (λ y. same_stamp s y ≡ true) is (same_stamp-self s)))
      go again true r false p h = again h
      go again false r true p h = ap (λ c. c || waits_for x (filter (λ e. not (same_stamp e.1.waits s)) es)) p
      go again false r false p h = or_right (same_stamp e.1.waits x) (waits_for x (filter (λ e. not (same_stamp e.1.waits s)) es)) (again h)

  pub released-free : (s : StampParts) (log : List Effect) (held : List (TimeParts × HeldRead)) → is_settled (known log s) ≡ true → free log (filter (λ e. not (same_stamp e.1.waits s)) held) ≤ free log held
  released-free s log held settled = total-mono (unasked log (filter (λ e. not (same_stamp e.1.waits s)) held)) (unasked log held) (putters log) (λ x. one x (same_stamp s x) refl)
    where
      one : (x : StampParts) (c : Bool) → same_stamp s x ≡ c → unasked log (filter (λ e. not (same_stamp e.1.waits s)) held) x ≤ unasked log held x
      one x true p =
          let e : is_settled (known log x) ≡ true = subst (λ z. is_settled (known log z) ≡ true) (same_stamp-is s x p) settled in
          let a : unasked log (filter (λ e. not (same_stamp e.1.waits s)) held) x ≡ 0 = ap (λ (c : Bool). if c then 0 else (if waits_for x (filter (λ e. not (same_stamp e.1.waits s)) held) then 0 else q)) e in
          omega (arith, a)
      one x false p = more-waits log held (filter (λ e. not (same_stamp e.1.waits s)) held) x (waits-kept s x held p)

  -- ---- held reads, each of which counts k

  module _ (k : ℕ) (low : q ≤ k) where
    -- one read less, or none: of its attempt alone it may be that none waits
    abbrev Fewer : List (TimeParts × HeldRead) → List (TimeParts × HeldRead) → Type 0
    Fewer mid held = ((s : StampParts) → waits_for s mid ≡ true → waits_for s held ≡ true) ×
        ((mid ≡ held) ⊎ ((w : StampParts) × (times k mid + k ≡ times k held) × ((s : StampParts) → same_stamp w s ≡ false → waits_for s mid ≡ waits_for s held)))

    tail-fewer : (e : TimeParts × HeldRead) (es : List (TimeParts × HeldRead)) → Fewer es (e ∷ es)
    tail-fewer e es = ((λ s i. or_right (same_stamp e.1.waits s) (waits_for s es) i), inr (e.1.waits, omega arith, (λ s n. sym (ap (λ c. c || waits_for s es) n))))

    cons-fewer : (e : TimeParts × HeldRead) (mid held : List (TimeParts × HeldRead)) → Fewer mid held → Fewer (e ∷ mid) (e ∷ held)
    cons-fewer e mid held (l, less) = ((λ s i. or-on (same_stamp e.1.waits s) (waits_for s mid) (waits_for s held) (l s) i), go less)
      where
        go : (mid ≡ held) ⊎ ((w : StampParts) × (times k mid + k ≡ times k held) × ((s : StampParts) → same_stamp w s ≡ false → waits_for s mid ≡ waits_for s held)) →
            (e ∷ mid ≡ e ∷ held) ⊎ ((w : StampParts) × (times k (e ∷ mid) + k ≡ times k (e ∷ held)) × ((s : StampParts) → same_stamp w s ≡ false → waits_for s (e ∷ mid) ≡ waits_for s (e ∷ held)))
        go (inl p) = inl (ap (λ z. e ∷ z) p)
        go (inr (w, n, j)) = inr (w, omega (arith, n), (λ s i. ap (λ c. same_stamp e.1.waits s || c) (j s i)))

    removed-fewer : (test : TimeParts → Bool) (held : List (TimeParts × HeldRead)) → Fewer (remove_entry test held) held
    removed-fewer test [] = ((λ s i. i), inl refl)
    removed-fewer test (e ∷ es) = (elim (test e.0) as (λ c. Fewer (remove_entry test es) es → Fewer (cond c es (e ∷ remove_entry test es)) (e ∷ es)) [ true ↦ λ f. tail-fewer e es | false ↦ λ f. cons-fewer e (remove_entry test es) es f ]) (removed-fewer test es)

    fewer-free : (log : List Effect) (mid held : List (TimeParts × HeldRead)) → Fewer mid held → free log mid + times k mid ≤ free log held + times k held
    fewer-free log mid held (l, inl p) = subst (λ z. free log z + times k z ≤ free log held + times k held) (sym p) (omega arith)
    fewer-free log mid held (l, inr (w, n, j)) =
        let a = total-more (unasked log mid) (unasked log held) q w (putters log) (putters-single log) (λ s i. same s (j s i)) (let m = unasked-most log mid w in omega (arith, m)) in
        omega (arith, n, a)
      where
        same : (s : StampParts) → waits_for s mid ≡ waits_for s held → unasked log mid s ≤ unasked log held s
        same s e = subst (λ c. unasked log mid s ≤ (if is_settled (known log s) then 0 else (if c then 0 else q))) e (omega arith)

    -- a read leaves
    pub removed-free : (test : TimeParts → Bool) (log : List Effect) (held : List (TimeParts × HeldRead)) → free log (remove_entry test held) + times k (remove_entry test held) ≤ free log held + times k held
    removed-free test log held = fewer-free log (remove_entry test held) held (removed-fewer test held)

    -- one read more, and one less before it where its key stood
    abbrev Joined : StampParts → List (TimeParts × HeldRead) → List (TimeParts × HeldRead) → Type 0
    Joined w held later = (mid : List (TimeParts × HeldRead)) × Fewer mid held × (times k later ≡ k + times k mid) × ((s : StampParts) → waits_for s mid ≡ true → waits_for s later ≡ true) × (waits_for w later ≡ true)

    inserted-joined : (t : TimeParts) (x : HeldRead) (held : List (TimeParts × HeldRead)) → Joined x.waits held (insert_entry time_cmp held t x)
    inserted-joined t x [] = ([], ((λ s i. i), inl refl), omega arith, (λ s e. absurd (false≢true e)), own-waits x.waits false)
    inserted-joined t x (e ∷ es) = go (time_cmp t e.0) (inserted-joined t x es)
      where
        go : (o : Ordering) → Joined x.waits es (insert_entry time_cmp es t x) → Joined x.waits (e ∷ es) (match_ordering o ((t, x) ∷ e ∷ es) ((e.0, x) ∷ es) (e ∷ insert_entry time_cmp es t x))
        go Less j = (e ∷ es, ((λ s i. i), inl refl), omega arith, (λ s i. or_right (same_stamp x.waits s) (waits_for s (e ∷ es)) i), own-waits x.waits (waits_for x.waits (e ∷ es)))
        go Equal j = (es, tail-fewer e es, omega arith, (λ s i. or_right (same_stamp x.waits s) (waits_for s es) i), own-waits x.waits (waits_for x.waits es))
        go Greater (mid, f, n, l, own) = (
          e ∷ mid,
          cons-fewer e mid es f,
          omega (arith, n),
          (λ s i. or-on (same_stamp e.1.waits s) (waits_for s mid) (waits_for s (insert_entry time_cmp es t x)) (l s) i),
          or_right (same_stamp e.1.waits x.waits) (waits_for x.waits (insert_entry time_cmp es t x)) own,
        )

    -- a read joins
    pub held-free : (t : TimeParts) (x : HeldRead) (log : List Effect) (held : List (TimeParts × HeldRead)) → free log (insert_entry time_cmp held t x) + times k (insert_entry time_cmp held t x) ≤ (free log held + times k held) + k
    held-free t x log held = go (insert_entry time_cmp held t x) (inserted-joined t x held)
      where
        go : (later : List (TimeParts × HeldRead)) → Joined x.waits held later → free log later + times k later ≤ (free log held + times k held) + k
        go later (mid, f, n, l, own) = omega (arith, fewer-free log mid held f, total-mono (unasked log later) (unasked log mid) (putters log) (λ s. more-waits log mid later s (l s)), n)

    -- and leaves less to be asked for where none waited for its attempt
    pub asked-free : (t : TimeParts) (x : HeldRead) (log : List Effect) (held : List (TimeParts × HeldRead)) → Waits log (t, x) → waits_for x.waits held ≡ false →
        (free log (insert_entry time_cmp held t x) + q) + times k (insert_entry time_cmp held t x) ≤ (free log held + times k held) + k
    asked-free t x log held waits off = go (insert_entry time_cmp held t x) (inserted-joined t x held)
      where
        go : (later : List (TimeParts × HeldRead)) → Joined x.waits held later → (free log later + q) + times k later ≤ (free log held + times k held) + k
        go later (mid, f, n, l, own) =
            let put : Has x.waits (putters log) = subst (λ s. Has s (putters log)) waits.own (put-stands log x.object waits.start waits.value waits.put) in
            let b = total-less (unasked log later) (unasked log mid) q x.waits (putters log) (putters-single log) put (λ s. more-waits log mid later s (l s)) (less (waits_for x.waits mid) refl) in
            omega (arith, fewer-free log mid held f, b, n)
          where
            less : (c : Bool) → waits_for x.waits mid ≡ c → unasked log later x.waits + q ≤ unasked log mid x.waits
            less true e = absurd (false≢true (sym off ∙ f.0 x.waits e))
            less false e =
                let y : unasked log later x.waits ≡ 0 = ap (λ u. if is_settled u then 0 else (if waits_for x.waits later then 0 else q)) waits.unknown ∙ ap (λ (c : Bool). if c then 0 else q) own in
                let z : unasked log mid x.waits ≡ q = ap (λ u. if is_settled u then 0 else (if waits_for x.waits mid then 0 else q)) waits.unknown ∙ ap (λ (c : Bool). if c then 0 else q) e in
                omega (arith, y, z)
