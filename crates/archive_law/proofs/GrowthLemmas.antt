-- What a call adds to a repository's log lies above what is committed there, and what was decided stays so.
use Rattle.archive_law.proofs.Names.{Has, repository, same_node, lt, StampParts, TimeParts, has-either, has-left, has-reverse, has-right, lt-irreflexive, lt-split, ObjectId, Value, Effect, Mark, floor_of, settle_of, forward, forwarded, Gone, forwarded-has, starts-has, known, marks, Tree, Call, log_left, own_reading, Earlier, replaced, Running, Retiring, node_facts, marks-append, EverStood, IsPast, WasDecided, log_after, log_there, ◌≡◌, ◌⊎◌, inl, inr, ℕ, Bool, true, false, List, [], ◌∷◌, ◌++◌, map, reverse, if◌then◌else◌, refl, sym, ◌∙◌, ap, subst, Option, Some, append_assoc, true≢false, reverse-append, reverse-reverse, alive, is_alive, top, Fits, puts-below, settled-kept, put-on-floor, decide-forwarded, known-carried, FitsLog}
use Rattle.effect_form.specs.declared.effects.Effect.TheVariants as effect
use Rattle.message_form.specs.Growth.{Grew}
use Rattle.object_history.specs.declared.marks.Mark.TheVariants as mark
use Rattle.serial_law.specs.Rules.{GrownFrom}
use Rattle.serial_law.specs.Soft.{Lineage}
use Rattle.archive_law.proofs.ArchiveLemmas.{here-or-gone}
use Rattle.archive_law.proofs.CallLemmas.{IsLasting, last-stood, place-left, replaced-stood, retired-old, run-grows, stood-stands}
use Rattle.archive_law.proofs.PastReadings.{facts-of}

-- ---- marks that grow

settle-right : (a m : List Mark) (s : StampParts) (c : Bool) → settle_of m s ≡ Some c → settle_of (a ++ m) s ≡ Some c
settle-right [] m s c h = h
settle-right (f ∷ a) m s c h = settled-kept (a ++ m) f s c (settle-right a m s c h)

-- no floor falls
abbrev Floored : List Mark → TimeParts → Type 0
Floored m e = (z : TimeParts) × (floor_of m ≡ Some z) × (lt z e ≡ false)

floor-more : (x e : TimeParts) (r : Option TimeParts) → ((z : TimeParts) × (r ≡ Some z) × (lt z e ≡ false)) → (z : TimeParts) × (top x r ≡ Some z) × (lt z e ≡ false)
floor-more x e r (z, is, h) = go (lt x z) refl
  where
    go : (b : Bool) → lt x z ≡ b → (y : TimeParts) × (top x r ≡ Some y) × (lt y e ≡ false)
    go true l = (z, ap (top x) is ∙ ap (λ b. if b then Some z else Some x) l, h)
    go false l = (x, ap (top x) is ∙ ap (λ b. if b then Some z else Some x) l, (elim (lt x e) as (λ b. lt x e ≡ b → lt x e ≡ false) [ false ↦ λ k. k | true ↦ λ k. absurd (true≢false (sym (lt-split x z e k h) ∙ l)) ]) refl)

floor-rises : (a m : List Mark) (e : TimeParts) → floor_of m ≡ Some e → Floored (a ++ m) e
unfolding floor_of
floor-rises [] m e h = (e, h, lt-irreflexive e)
floor-rises (mark.Floor x ∷ a) m e h = floor-more x e (floor_of (a ++ m)) (floor-rises a m e h)
floor-rises (_ ∷ a) m e h = floor-rises a m e h

-- what is put lies above a committed version that stands below, or was given up
pub put-above : (a m : List Mark) (o : ObjectId) (x c : TimeParts) (v u : Value) → Fits (a ++ m) (mark.Put o x v) → settle_of m c.stamp ≡ Some true → Has (mark.Put o c u) m ⊎ Gone m o c → lt c x ≡ true
put-above a m o x c v u fits sure (inl h) =
    starts-has (λ y. alive (a ++ m) y ≡ true → lt y x ≡ true) o (a ++ m) c u (puts-below (a ++ m) o x v fits.1) (has-right a m (mark.Put o c u) h)
    (ap is_alive (settle-right a m c.stamp true sure))
put-above a m o x c v u fits sure (inr g) =
    let f = floor-rises a m g.0 g.1 in
    lt-split c x f.0 (lt-split c f.0 g.0 g.2 f.2) (put-on-floor (a ++ m) o x v fits f.0 f.1)

-- ---- where an effect was added

module _ (P : List Effect → Effect → Type 0) where
  -- an effect of a log that grew fitted what stood below it, or stands in what it grew from
  grew-at : (base early front below : List Effect) (f : Effect) → Grew P base early → early ++ base ≡ front ++ f ∷ below → P below f ⊎ Has f base
  grew-at base [] front below f g e = inr (subst (Has f) (sym e) (has-right front (f ∷ below) f (inl refl)))
  grew-at base (h ∷ early) [] below f g e =
      let same : h ≡ f = cc e in
      let rest : early ++ base ≡ below = cc e in
      inl (subst (λ z. P below z) same (subst (λ z. P z h) rest g.1))
  grew-at base (h ∷ early) (k ∷ front) below f g e = let rest : early ++ base ≡ front ++ f ∷ below = cc e in grew-at base early front below f g.0 rest

split-at : (l : List Effect) (f : Effect) → Has f l → (front below : List Effect) × (l ≡ front ++ f ∷ below)
split-at [] f h = absurd h
split-at (g ∷ l) f (inl e) = ([], l, ap (λ z. z ∷ l) e)
split-at (g ∷ l) f (inr h) = let k = split-at l f h in (g ∷ k.0, k.1, ap (λ z. g ∷ z) k.2)

-- what a log grew from: nothing, or what a retirement left of the log before
abbrev Base : ℕ → List (List Effect) → List Effect → Type 0
Base r olds log = (base : List Effect) × ((f : Effect) → IsLasting f → Has f base → (old : List Effect) × Has old olds × Has f old) × GrownFrom (FitsLog r) base log

base-of : (script : List ℕ → Tree) (r : ℕ) (olds : List (List Effect)) (log : List Effect) → Lineage (node_facts script) (repository r) olds log → Base r olds log
base-of script r [] log k = (k.0, (λ f lasts h. absurd (subst (Has f) k.1 h)), k.2)
base-of script r (old ∷ olds) log k = (k.1.0, (λ f lasts h. (old, inl refl, before k.1.1.0 f lasts (subst (Has f) k.1.1.2 h))), k.1.2)
  where
    before : (at : TimeParts) (f : Effect) → IsLasting f → Has f (forwarded old at) → Has f old
    before at f lasts h = elim (forwarded-has old at f h) [ inl e ↦ absurd (subst IsLasting e lasts) | inr (inl e) ↦ absurd (subst IsLasting e lasts) | inr (inr j) ↦ j ]

-- ---- a run

module _ (c : Call) (cs : List Earlier) (past : IsPast (Running c ∷ cs)) (r : ℕ) where
  abbrev early : IsPast cs
  early = (past.0.0, past.1.1)

  abbrev old : List Effect
  old = log_after cs (repository r)

  abbrev new : List Effect
  new = log_after (Running c ∷ cs) (repository r)

  -- newest first, the log is the old one with these on top
  grew-on : (late : List Effect) × (reverse new ≡ late ++ reverse old)
  grew-on = let g = run-grows c cs (repository r) past.0 in (reverse g.0, ap reverse g.1 ∙ reverse-append old g.0)

  -- a version of the log stood before, or fitted when it was put
  abbrev Added : ObjectId → TimeParts → Value → Type 0
  Added o x v = EverStood cs r (effect.Put o x v) ⊎ ((front : List Effect) × Fits (marks (front ++ reverse old)) (mark.Put o x v))

  added : (o : ObjectId) (x : TimeParts) (v : Value) → Has (effect.Put o x v) new → Added o x v
  added o x v h =
      let g = grew-on in
      either (has-either g.0 (reverse old) (effect.Put o x v) (subst (Has (effect.Put o x v)) g.1 (has-reverse new (effect.Put o x v) h)))
    where
      f : Effect
      f = effect.Put o x v

      later : (late : List Effect) → reverse new ≡ late ++ reverse old → ((front below : List Effect) × (late ≡ front ++ f ∷ below)) → Added o x v
      later late is (front, below, e) =
          let base = base-of (facts-of (Running c ∷ cs) past).script r (map reverse (replaced own_reading cs (repository r))) (reverse new) ((facts-of (Running c ∷ cs) past).facts.lineage (repository r)) in
          by base below (grew-at (FitsLog r) base.0 base.2.early front (below ++ reverse old) f base.2.grew (sym base.2.is ∙ (is ∙ ap (λ z. z ++ reverse old) e ∙ append_assoc front (f ∷ below) (reverse old))))
        where
          in-old : (ls : List (List Effect)) → ((l : List Effect) → Has l ls → Has f l → EverStood cs r f) → (log : List Effect) → Has log (map reverse ls) → Has f log → EverStood cs r f
          in-old [] t log j k = absurd j
          in-old (l ∷ ls) t log (inl e) k = t l (inl refl) (subst (Has f) (reverse-reverse l) (has-reverse (reverse l) f (subst (Has f) (sym e) k)))
          in-old (l ∷ ls) t log (inr j) k = in-old ls (λ z h. t z (inr h)) log j k

          by : (base : Base r (map reverse (replaced own_reading cs (repository r))) (reverse new)) (below : List Effect) → FitsLog r (below ++ reverse old) f ⊎ Has f base.0 → Added o x v
          by base below (inl fits) = inr (below, fits.1)
          by base below (inr k) = let s = base.1 f tt k in inl (in-old (replaced own_reading cs (repository r)) (λ l i m. replaced-stood cs r f l i m) s.0 s.1 s.2)

      either : Has f (grew-on).0 ⊎ Has f (reverse old) → Added o x v
      either (inl k) = later (grew-on).0 (grew-on).1 (split-at (grew-on).0 f k)
      either (inr k) = inl (last-stood cs r f (subst (Has f) (reverse-reverse old) (has-reverse (reverse old) f k)))

  -- it isn't at or below a committed version that ever stood
  pub run-old : (o : ObjectId) (x cursor : TimeParts) (v u : Value) → EverStood cs r (effect.Put o cursor u) → known (reverse old) cursor.stamp ≡ Some true → lt cursor x ≡ false →
      EverStood (Running c ∷ cs) r (effect.Put o x v) → EverStood cs r (effect.Put o x v)
  run-old o x cursor v u stood sure low h = by h
    where
      below : Has (mark.Put o cursor u) (marks (reverse old)) ⊎ Gone (marks (reverse old)) o cursor
      below = let s = stood-stands cs r (effect.Put o cursor u) early.0 stood in here-or-gone cs early r s.0 o cursor u s.1 s.2

      here : Has (effect.Put o x v) new → EverStood cs r (effect.Put o x v)
      here k = elim (added o x v k) [
        | inl s ↦ s
        | inr (front, fits) ↦
            absurd (true≢false (sym (put-above (marks front) (marks (reverse old)) o x cursor v u (subst (λ m. Fits m (mark.Put o x v)) (marks-append front (reverse old)) fits) sure below) ∙ low))
      ]

      by : EverStood (Running c ∷ cs) r (effect.Put o x v) → EverStood cs r (effect.Put o x v)
      by (inl k) = here k
      by (inr (inr k)) = k
      by (inr (inl k)) =
          let p = place-left c (repository r) k.1.0 k.1.1 k.1.2 in
          let there : Has (effect.Put o x v) (log_left own_reading c (repository r)) = subst (Has (effect.Put o x v)) (sym p.1) (has-front (log_there c k.1.0 (repository r)) p.0 k.1.3) in
          here (subst (λ b. Has (effect.Put o x v) (if b then log_left own_reading c (repository r) else old)) (sym k.0) there)
        where
          has-front : (xs ys : List Effect) → Has (effect.Put o x v) xs → Has (effect.Put o x v) (xs ++ ys)
          has-front [] ys h = absurd h
          has-front (a ∷ xs) ys (inl e) = inl e
          has-front (a ∷ xs) ys (inr h) = inr (has-front xs ys h)

  run-known : (s : StampParts) (d : Bool) → known (reverse old) s ≡ Some d → known (reverse new) s ≡ Some d
  run-known s d h =
      let g = grew-on in
      subst (λ l. settle_of (marks l) s ≡ Some d) (sym g.1) (subst (λ m. settle_of m s ≡ Some d) (sym (marks-append g.0 (reverse old))) (settle-right (marks g.0) (marks (reverse old)) s d h))

-- ---- a retirement

module _ (q : ℕ) (at : TimeParts) (cs : List Earlier) (r : ℕ) where
  abbrev left : List Effect
  left = log_after cs (repository r)

  retired-known : (s : StampParts) (d : Bool) → known (reverse left) s ≡ Some d → known (reverse (log_after (Retiring q at ∷ cs) (repository r))) s ≡ Some d
  retired-known s d h = go (same_node (repository q) (repository r))
    where
      go : (b : Bool) → known (reverse (if b then forward left at else left)) s ≡ Some d
      go true = ap (λ l. known l s) (reverse-reverse (forwarded (reverse left) at)) ∙ known-carried (reverse left) at (reverse left) s ∙ h
      go false = h

-- ---- any call

pub known-stays : (c : Earlier) (cs : List Earlier) (r : ℕ) → IsPast (c ∷ cs) → (s : StampParts) (d : Bool) → known (reverse (log_after cs (repository r))) s ≡ Some d → known (reverse (log_after (c ∷ cs) (repository r))) s ≡ Some d
known-stays (Running c) cs r past s d h = run-known c cs past r s d h
known-stays (Retiring q at) cs r past s d h = retired-known q at cs r s d h

pub decided-stays : (c : Earlier) (cs : List Earlier) → IsPast (c ∷ cs) → (s : StampParts) (d : Bool) → WasDecided cs s d → WasDecided (c ∷ cs) s d
decided-stays (Running c) cs past s d h =
    let g = run-grows c cs (repository s.home) past.0 in
    (h.0, subst (Has (effect.Decide s h.0)) (sym g.1) (has-left (log_after cs (repository s.home)) g.0 (effect.Decide s h.0) h.1), h.2)
decided-stays (Retiring q at) cs past s d h = (h.0, go (same_node (repository q) (repository s.home)), h.2)
  where
    log : List Effect
    log = log_after cs (repository s.home)

    go : (b : Bool) → Has (effect.Decide s h.0) (if b then forward log at else log)
    go true = has-reverse (forwarded (reverse log) at) (effect.Decide s h.0) (decide-forwarded (reverse log) at s h.0 (has-reverse log (effect.Decide s h.0) h.1))
    go false = h.1

-- no version comes at or below a committed one
pub none-comes : (c : Earlier) (cs : List Earlier) (r : ℕ) → IsPast (c ∷ cs) → (o : ObjectId) (x cursor : TimeParts) (v u : Value) → EverStood cs r (effect.Put o cursor u) →
    known (reverse (log_after cs (repository r))) cursor.stamp ≡ Some true → lt cursor x ≡ false → EverStood (c ∷ cs) r (effect.Put o x v) → EverStood cs r (effect.Put o x v)
none-comes (Running c) cs r past o x cursor v u stood sure low h = run-old c cs past r o x cursor v u stood sure low h
none-comes (Retiring q at) cs r past o x cursor v u stood sure low h = retired-old q at cs r (effect.Put o x v) tt h

pub earlier-past : (c : Earlier) (cs : List Earlier) → IsPast (c ∷ cs) → IsPast cs
earlier-past (Running c) cs past = (past.0.0, past.1.1)
earlier-past (Retiring q at) cs past = (past.0.0, past.1)
