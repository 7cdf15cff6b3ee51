-- What an append and an opening leave of a medium, for the cores that keep their log on it.
use Rattle.node_inputs.proofs.Names.{Rose, Image, NoMore, NodeId, is_blank, Effect, OpenFault, StoreFault, HasPrefix, filling, storage, Base, Life, gated_life, IsIntact, LeavesLog, IsFull, IsAppended, IsReopened, ◌≡◌, ◌≢◌, ℕ, ◌≤◌, ◌<◌, ◌+◌, true, List, [], ◌++◌, length, Result, Ok, Err, IsTrue, IfErr, OnOk, sym, ap, subst, ◌∙◌, arith, count_by, IsErrOf, IsImage, LeavesOnly, Media, KeepsPages, StaysClean, effects_found, log_of, Meanings, HasGrown, IsDamageOf}
use Rattle.effect_form.specs.Effects.{AreEffects}
use Rattle.version_store.specs.declared.faults.OpenFault.TheVariants as opening
use Rattle.version_store.specs.declared.faults.StoreFault.TheVariants as adding
use Rattle.version_store.specs.Entries.{effects_of}
use Rattle.version_store.specs.Settled.{IsSettled}
use Rattle.version_store.proofs.FillingLemmas.{filling-apart}

-- ---- answers

ok-same : {A E : Type 0} (x y : A) → ◌≡◌ {A = Result A E} (Ok x) (Ok y) → x ≡ y
ok-same x y e = cc e

err-same : {A E : Type 0} (x y : E) → ◌≡◌ {A = Result A E} (Err x) (Err y) → x ≡ y
err-same x y e = cc e

-- ---- media between two calls

-- the effects of what reads give
abbrev pub effects_read : Image → List Effect
effects_read image = effects_of (log_of image)

module _ (image : Image) (images : Image → Type 0) (settled : IsSettled image images) where
  storage-settled : storage image ≡ Ok (effects_read image)
  storage-settled = ap effects_found settled.log

  -- what a crash leaves is the log that reads give
  pub log-left : (log : List Effect) → images image → LeavesLog images log → effects_read image ≡ log
  log-left log now leaves = ok-same (effects_read image) log (sym storage-settled ∙ leaves image now)

  pub leaves-log : (log : List Effect) → effects_read image ≡ log → LeavesLog images log
  leaves-log log e c left = ap storage (settled.only c left) ∙ storage-settled ∙ ap (λ (l : List Effect). Ok l) e

-- so many blank pages less, where these effects were added
has-grown : (old : Image) (was : Image → Type 0) (new : Image) (is : Image → Type 0) → IsSettled old was → IsSettled new is → (effects : List Effect) → AreEffects effects → effects_read new ≡ effects_read old ++ effects
    → count_by is_blank new + length (filling effects) ≡ count_by is_blank old → (log : List Effect) → storage old ≡ Ok log → HasGrown log old new
has-grown old was new is rested rests effects ranges added used log e = record {
  more = effects;
  ranges = ranges;
  is = storage-settled new is rests ∙ ap (λ (l : List Effect). Ok l) (added ∙ ap (λ (l : List Effect). l ++ effects) (ok-same (effects_read old) log (sym (storage-settled old was rested) ∙ e)));
  pages = let most = filling-apart effects in omega (arith, used, most);
}

-- no image is new where reads give the same
pub none-new : (old new : Image) (was is : Image → Type 0) → new ≡ old → was old → IsSettled new is → NoMore was is
none-new old new was is same now settled c left = subst was (sym (settled.only c left ∙ same)) now

-- ---- damage

-- the damage of an image that a crash could leave
abbrev pub HasDamage : (Image → Type 0) → NodeId → Base → ℕ → Type 0
HasDamage images n b page = (image : Image) × images image × IsDamageOf b n image page

-- ---- appends

-- what an append leaves of the medium
pub record AppendsTo {M T : Type 0} (w : Media M) (old new : M) (effects : List Effect) (result : Result T StoreFault) : Type 0 where
  pub later : w.faults old ≤ w.faults new
  pub left : IsTrue w.tells → (log : List Effect) → LeavesLog (w.may_leave old) log → OnOk result (LeavesLog (w.may_leave new) (log ++ effects))
  pub images : IsTrue w.tells → (log : List Effect) → LeavesLog (w.may_leave old) log → (c : Image) → w.may_leave new c → HasPrefix log effects c
  pub at_moments : IsTrue w.tells → (log : List Effect) → LeavesLog (w.may_leave old) log → LeavesOnly w.stages old new (HasPrefix log effects)
  pub intact : IsTrue w.tells → OnOk result (IsIntact (w.reads old) (w.reads new))
  pub nothing : IfErr result (λ f. f ≢ adding.Medium → new ≡ old)
  pub full : IfErr result (λ f. (number : ℕ) → f ≡ adding.Full number → (number ≡ w.page_count old) × (IsTrue w.tells → count_by is_blank (w.reads old) < length (filling effects)))
  pub cause : IsErrOf result adding.Medium → Rose (w.faults old) (w.faults new)

module _ {M : Type 0} (w : Media M) (now : (x : M) → IsTrue w.tells → w.may_leave x (w.reads x)) (old new : M) (effects : List Effect)
    (settled : IsTrue w.tells → IsSettled (w.reads old) (w.may_leave old)) (later : w.faults old ≤ w.faults new)
    (images : IsTrue w.tells → (c : Image) → w.may_leave new c → HasPrefix (effects_read (w.reads old)) effects c)
    (moments : IsTrue w.tells → LeavesOnly w.stages old new (HasPrefix (effects_read (w.reads old)) effects)) where
  moments-from : IsTrue w.tells → (log : List Effect) → LeavesLog (w.may_leave old) log → LeavesOnly w.stages old new (HasPrefix log effects)
  moments-from t log leaves = subst (λ l. LeavesOnly w.stages old new (HasPrefix l effects)) (log-left (w.reads old) (w.may_leave old) (settled t) log (now old t) leaves) (moments t)

  images-from : IsTrue w.tells → (log : List Effect) → LeavesLog (w.may_leave old) log → (c : Image) → w.may_leave new c → HasPrefix log effects c
  images-from t log leaves c left = subst (λ l. HasPrefix l effects c) (log-left (w.reads old) (w.may_leave old) (settled t) log (now old t) leaves) (images t c left)

  -- all was added
  pub appends-all : {T : Type 0} (x : T) → ((d : M) (c : Image) → IsTrue w.tells → w.may_leave d c → IsImage (w.page_count d) c) → w.page_count new ≡ w.page_count old → (IsTrue w.tells → IsSettled (w.reads new) (w.may_leave new)) → (IsTrue w.tells → effects_read (w.reads new) ≡ effects_read (w.reads old) ++ effects)
      → (IsTrue w.tells → KeepsPages (w.reads old) (w.reads new)) → (IsTrue w.tells → StaysClean (w.reads old) (w.reads new)) → AreEffects effects → (IsTrue w.tells → count_by is_blank (w.reads new) + length (filling effects) ≡ count_by is_blank (w.reads old))
      → AppendsTo w old new effects (Ok x)
  appends-all x shape size rests grown keeps clean ranges used = record {
    later = later;
    left = λ t log leaves. leaves-log (w.reads new) (w.may_leave new) (rests t) (log ++ effects) (grown t ∙ ap (λ l. l ++ effects) (log-left (w.reads old) (w.may_leave old) (settled t) log (now old t) leaves));
    images = images-from;
    at_moments = moments-from;
    intact = λ t. record { count = (shape new (w.reads new) t (now new t)).count ∙ size ∙ sym (shape old (w.reads old) t (now old t)).count; keeps = keeps t; clean = clean t; grown = has-grown (w.reads old) (w.may_leave old) (w.reads new) (w.may_leave new) (settled t) (rests t) effects ranges (grown t) (used t) };
    nothing = tt;
    full = tt;
    cause = λ e. absurd (cc e);
  }

  -- a fault
  pub appends-none : {T : Type 0} (f : StoreFault) → (f ≢ adding.Medium → new ≡ old) → ((number : ℕ) → f ≡ adding.Full number → number ≡ w.page_count old)
      → (IsTrue w.tells → (number : ℕ) → f ≡ adding.Full number → count_by is_blank (w.reads old) < length (filling effects)) → (f ≡ adding.Medium → Rose (w.faults old) (w.faults new))
      → AppendsTo {T = T} w old new effects (Err f)
  appends-none f nothing all blank cause = record {
    later = later;
    left = λ t log leaves. tt;
    images = images-from;
    at_moments = moments-from;
    intact = λ t. tt;
    nothing = nothing;
    full = λ number e. (all number e, λ t. blank t number e);
    cause = λ e. cause (err-same f adding.Medium e);
  }

module _ {K M : Type 0} {w : Media M} {m : Meanings K M} (old new : K) (medium : M) (is : (m.parts old).medium ≡ medium)
    (node : (m.parts new).node ≡ (m.parts old).node) (run : (b : Base) → m.fits b old → m.fits b new) where
  -- a core after an append: where all was added, it owes nothing, and has the life after the gate
  pub appended : {T : Type 0} (effects : List Effect) (result : Result T StoreFault) → AppendsTo w medium (m.parts new).medium effects result → OnOk result (((m.parts new).able ≡ true) × m.owes new [])
      → (IsTrue w.tells → (b : Base) (l : Life) → m.lives b old l → l.fresh ≡ effects → OnOk result (m.lives b new (gated_life l)))
      → IsAppended w m old new effects result
  appended {T} effects result to able has =
      let a : AppendsTo w (m.parts old).medium (m.parts new).medium effects result = subst (λ x. AppendsTo w x (m.parts new).medium effects result) (sym is) to in
      record {
        same = record { node = node; run = run; later = a.later };
        able = able;
        has = has;
        left = a.left;
        images = a.images;
        at_moments = a.at_moments;
        intact = a.intact;
        nothing = a.nothing;
        full = fills result a.full;
        cause = a.cause;
      }
    where
      fills : (r : Result T StoreFault) → IfErr r (λ f. (number : ℕ) → f ≡ adding.Full number → (number ≡ w.page_count (m.parts old).medium) × (IsTrue w.tells → count_by is_blank (w.reads (m.parts old).medium) < length (filling effects)))
          → IfErr r (λ f. (number : ℕ) → f ≡ adding.Full number → IsFull w m (m.parts old).medium effects number)
      fills (Ok x) h = tt
      fills (Err f) h = λ number e. record { all = (h number e).0; blank = (h number e).1 }

  -- a fault
  pub reopened-none : (f : OpenFault) → w.faults medium ≤ w.faults (m.parts new).medium → (IsTrue w.tells → NoMore (w.may_leave medium) (w.may_leave (m.parts new).medium)) → (IsTrue w.tells → LeavesOnly w.stages medium (m.parts new).medium (w.may_leave medium)) → (f ≡ opening.Medium → Rose (w.faults medium) (w.faults (m.parts new).medium))
      → (IsTrue w.tells → (b : Base) → m.fits b old → (page : ℕ) → f ≡ opening.Damaged page → HasDamage (w.may_leave medium) (m.parts old).node b page) → IsReopened w m old new (Err f)
  reopened-none f later images moments cause damaged = record {
    same = record { node = node; run = run; later = subst (λ x. w.faults x ≤ w.faults (m.parts new).medium) (sym is) later };
    able = tt;
    found = λ t. tt;
    images = λ t. subst (λ x. NoMore (w.may_leave x) (w.may_leave (m.parts new).medium)) (sym is) (images t);
    at_moments = λ t. subst (λ x. LeavesOnly w.stages x (m.parts new).medium (w.may_leave x)) (sym is) (moments t);
    cause = λ e. subst (λ x. Rose (w.faults x) (w.faults (m.parts new).medium)) (sym is) (cause (err-same f opening.Medium e));
    damaged = λ t b h page e. subst (λ x. HasDamage (w.may_leave x) (m.parts old).node b page) (sym is) (damaged t b h page (err-same f (opening.Damaged page) e));
  }
