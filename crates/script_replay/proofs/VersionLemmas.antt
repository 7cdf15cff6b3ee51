-- Versions beside the Wrote lines of a transcript, and what is told, one after another.
use Rattle.std.proofs.lemmas.Bool.{eqb-true}
use Rattle.std.proofs.Math.Seq.{drop-cons, split_at, take-suc}
use Rattle.std.proofs.lemmas.List.{length-take-le, take-append-drop}
use Rattle.std.specs.Prelude.{IsTrue, ◌==◌}
use Rattle.std.proofs.Common.{◌≡◌, ◌<◌, ◌≤◌, ℕ, Bool, Result, Ok, Err, subst, zero, suc, ◌+◌, List, [], ◌∷◌, ◌++◌, length, take, drop, get_or, refl, sym, ap, ◌∙◌, arith}
use Rattle.std.specs.FinMap as finite
use Rattle.pseudo_time.specs.StampParts.{StampParts}
use Rattle.value_form.specs.Objects.{Objects}
use Rattle.value_form.specs.declared.objects.ObjectId.{ObjectId}
use Rattle.value_form.specs.declared.values.Value.{Value}
use Rattle.value_form.specs.declared.transcripts.Line.{Line}
use Rattle.value_form.specs.declared.transcripts.Line.TheVariants as line
use Rattle.serial_model.specs.Deeds.{Version}
use Rattle.serial_model.specs.Deeds.{lines_written}
use Rattle.script_replay.specs.declared.attempts.Put.{Put}
use Rattle.script_replay.specs.declared.attempts.Told.{Told}
use Rattle.script_replay.specs.Attempts.{version_of, versions_of}
use Rattle.script_replay.specs.declared.attempts.Attempt.{Attempt}
use Rattle.script_replay.specs.declared.attempts.Told.TheVariants.{Tried}
use Rattle.script_replay.specs.declared.replays.Difference.{Difference}
use Rattle.script_replay.specs.Replays.{AllReplay, Fails, HasReplayed, OneReplays, after_all, after_told}
use Rattle.script_replay.specs.Works.{HasFollowed, HasTold}

-- ---- Wrote lines

abbrev pub wrote_at : StampParts → ℕ → ObjectId → Value → Version
wrote_at s n o v = record { object = o; start = record { stamp = s; step = n }; value = v }

module _ (s : StampParts) (n : ℕ) (lines : List Line) (i : ℕ) (x : Line) (low : i < length lines) (is : x ≡ get_or lines i x) where
  here : drop i lines ≡ x ∷ drop (suc i) lines
  here = drop-cons lines i x low ∙ ap (λ z. z ∷ drop (suc i) lines) (sym is)

  pub written-print : (v : Value) → x ≡ line.Print v → lines_written s n (drop i lines) ≡ lines_written s n (drop (suc i) lines)
  unfolding lines_written
  written-print v e = ap (lines_written s n) (here ∙ ap (λ z. z ∷ drop (suc i) lines) e)

  pub written-read : (o : ObjectId) (v : Value) → x ≡ line.Read o v → lines_written s n (drop i lines) ≡ lines_written s (n + 1) (drop (suc i) lines)
  unfolding lines_written
  written-read o v e = ap (lines_written s n) (here ∙ ap (λ z. z ∷ drop (suc i) lines) e)

  pub written-wrote : (o : ObjectId) (v : Value) → x ≡ line.Wrote o v → lines_written s n (drop i lines) ≡ wrote_at s n o v ∷ lines_written s (n + 1) (drop (suc i) lines)
  unfolding lines_written
  written-wrote o v e = ap (lines_written s n) (here ∙ ap (λ z. z ∷ drop (suc i) lines) e)

-- the put in this place
pub put-here : (puts : List Put) (at : ℕ) (p : Put) → at < length puts → p ≡ get_or puts at p → versions_of puts ≡ take at (versions_of puts) ++ (version_of p ∷ drop (suc at) (versions_of puts))
put-here puts at p low is =
    sym (take-append-drop at (versions_of puts)) ∙ ap (λ z. take at (versions_of puts) ++ z) (rest puts at low is)
  where
    rest : (puts : List Put) (at : ℕ) → at < length puts → p ≡ get_or puts at p → drop at (versions_of puts) ≡ version_of p ∷ drop (suc at) (versions_of puts)
    rest [] at low is = absurd (omega (arith, low))
    rest (q ∷ puts) zero low is = ap (λ z. version_of z ∷ versions_of puts) (sym is)
    rest (q ∷ puts) (suc at) low is = rest puts at (omega (arith, low)) is

-- ---- what is told

under : (i n : ℕ) → i < n → i ≤ n
under i n low = omega (arith, low)

pub after-more : (xs ys : List Told) (m : Objects) → after_all (xs ++ ys) m ≡ after_all ys (after_all xs m)
after-more [] ys m = refl
after-more (x ∷ xs) ys m = after-more xs ys (after_told x m)

pub one-told : (m : Objects) (a : Attempt) (r : Result Objects Difference) → HasFollowed m a r → HasTold m (Tried a) r
one-told m a (Ok after) h = h
one-told m a (Err d) h = h

pub replay-more : (xs : List Told) (y : Told) (m : Objects) → AllReplay xs m → OneReplays (after_all xs m) y → AllReplay (xs ++ (y ∷ [])) m
replay-more [] y m h k = (k, tt)
replay-more (x ∷ xs) y m h k = (h.0, replay-more xs y (after_told x m) h.1 k)

-- one more is told, over the map so far
module _ (all : List Told) (i : ℕ) (x : Told) (m : Objects) (low : i < length all) (is : x ≡ get_or all i x) (replay : AllReplay (take i all) finite.empty) (left : m ≡ after_all (take i all) finite.empty) where
  next : take (i + 1) all ≡ take i all ++ (x ∷ [])
  next = let e : i + 1 ≡ suc i = omega arith in ap (λ n. take n all) e ∙ take-suc all i x low ∙ ap (λ z. take i all ++ (z ∷ [])) (sym is)

  pub told-on : (after : Objects) → HasTold m x (Ok after) → AllReplay (take (i + 1) all) finite.empty × (after ≡ after_all (take (i + 1) all) finite.empty)
  told-on after h = (
    subst (λ (xs : List Told). AllReplay xs finite.empty) (sym next) (replay-more (take i all) x finite.empty replay (subst (λ (z : Objects). OneReplays z x) left h.0)),
    h.1 ∙ (ap (after_told x) left ∙ (sym (after-more (take i all) (x ∷ []) finite.empty) ∙ ap (λ (xs : List Told). after_all xs finite.empty) (sym next))),
  )

  pub told-differs : (place : ℕ) (d : Difference) → place ≡ i → HasTold m x (Err d) → HasReplayed all (Err (record { place = place; difference = d }))
  told-differs place d e h = record {
    before = take i all;
    here = x;
    rest = drop (suc i) all;
    parts = split_at all i x low ∙ ap (λ z. take i all ++ z ∷ drop (suc i) all) (sym is);
    place = e ∙ sym (length-take-le i all (under i (length all) low));
    replay = replay;
    fails = subst (λ (z : Objects). Fails d z x) left h;
  }

-- ---- a line that is passed

module _ (s : StampParts) (n : ℕ) (l : Line) (more : List Line) where
  pass-print : (v : Value) → l ≡ line.Print v → lines_written s n (l ∷ more) ≡ lines_written s n more
  unfolding lines_written
  pass-print v e = ap (λ (z : Line). lines_written s n (z ∷ more)) e

  pass-read : (o : ObjectId) (v : Value) → l ≡ line.Read o v → lines_written s n (l ∷ more) ≡ lines_written s (n + 1) more
  unfolding lines_written
  pass-read o v e = ap (λ (z : Line). lines_written s n (z ∷ more)) e

  pass-wrote : (o : ObjectId) (v : Value) → l ≡ line.Wrote o v → lines_written s n (l ∷ more) ≡ wrote_at s n o v ∷ lines_written s (n + 1) more
  unfolding lines_written
  pass-wrote o v e = ap (λ (z : Line). lines_written s n (z ∷ more)) e

-- both ways
abbrev Beside : List Version → List Version → List Version → List Version → Type 0
Beside vs ws us xs = (vs ≡ ws → us ≡ xs) × (us ≡ xs → vs ≡ ws)

same-beside : (vs ws xs : List Version) → ws ≡ xs → Beside vs ws vs xs
same-beside vs ws xs e = (λ h. h ∙ e, λ h. h ∙ sym e)

module _ (s : StampParts) (n : ℕ) (l : Line) where
  pub print-passed : (vs : List Version) (v : Value) → l ≡ line.Print v → (more : List Line) → Beside vs (lines_written s n (l ∷ more)) vs (lines_written s n more)
  print-passed vs v e more = same-beside vs (lines_written s n (l ∷ more)) (lines_written s n more) (pass-print s n l more v e)

  pub read-passed : (vs : List Version) (o : ObjectId) (v : Value) → l ≡ line.Read o v → (more : List Line) → Beside vs (lines_written s n (l ∷ more)) vs (lines_written s (n + 1) more)
  read-passed vs o v e more = same-beside vs (lines_written s n (l ∷ more)) (lines_written s (n + 1) more) (pass-read s n l more o v e)

  -- it wrote this version, and these stand there
  module _ (o : ObjectId) (v : Value) (e : l ≡ line.Wrote o v) where
    pub none-passed : (puts : List Put) → length puts ≡ 0 → (more : List Line) → versions_of puts ≡ lines_written s n (l ∷ more) → ⊥
    none-passed [] q more h = cc (h ∙ pass-wrote s n l more o v e)
    none-passed (p ∷ puts) q more h = absurd (omega (arith, q))

    pub other-passed : (puts rest : List Put) (p : Put) → puts ≡ p ∷ rest → (version_of p ≡ wrote_at s n o v → ⊥) → (more : List Line) → versions_of puts ≡ lines_written s n (l ∷ more) → ⊥
    other-passed puts rest p q isnt more h =
        let c : version_of p ∷ versions_of rest ≡ wrote_at s n o v ∷ lines_written s (n + 1) more = sym (ap versions_of q) ∙ (h ∙ pass-wrote s n l more o v e) in
        isnt (cc c)

    pub wrote-passed : (puts rest : List Put) (p : Put) → puts ≡ p ∷ rest → version_of p ≡ wrote_at s n o v → (more : List Line) → Beside (versions_of puts) (lines_written s n (l ∷ more)) (versions_of rest) (lines_written s (n + 1) more)
    wrote-passed puts rest p q is more = (
      λ h. (let c : version_of p ∷ versions_of rest ≡ wrote_at s n o v ∷ lines_written s (n + 1) more = sym (ap versions_of q) ∙ (h ∙ pass-wrote s n l more o v e) in cc c),
      λ h. ap versions_of q ∙ (ap (λ z. z ∷ versions_of rest) is ∙ (ap (λ zs. wrote_at s n o v ∷ zs) h ∙ sym (pass-wrote s n l more o v e))),
    )

-- no line is left
pub none-left : (s : StampParts) (n i : ℕ) (lines : List Line) → length lines ≤ i → lines_written s n (drop i lines) ≡ []
unfolding lines_written
none-left s n i lines l = ap (lines_written s n) (drop-all i lines l)
  where
    drop-all : (i : ℕ) (lines : List Line) → length lines ≤ i → drop i lines ≡ []
    drop-all zero [] l = refl
    drop-all zero (x ∷ lines) l = absurd (omega (arith, l))
    drop-all (suc i) [] l = refl
    drop-all (suc i) (x ∷ lines) l = drop-all i lines (omega (arith, l))

no-put : (puts : List Put) → versions_of puts ≡ [] → puts ≡ []
no-put [] e = refl
no-put (p ∷ puts) e = absurd (cc e)

-- the versions are the lines' just where none is left
pub wrote-all : (s : StampParts) (n i : ℕ) (lines all : List Line) (puts rest : List Put) → length lines ≤ i → Beside (versions_of puts) (lines_written s 1 all) (versions_of rest) (lines_written s n (drop i lines)) →
    (b : Bool) → (IsTrue b → rest ≡ []) → (rest ≡ [] → IsTrue b) → (IsTrue b → versions_of puts ≡ lines_written s 1 all) × (versions_of puts ≡ lines_written s 1 all → IsTrue b)
wrote-all s n i lines all puts rest l h b to back = (
  λ t. h.1 (ap versions_of (to t) ∙ sym (none-left s n i lines l)),
  λ e. back (no-put rest (h.0 e ∙ none-left s n i lines l)),
)

pub empty-is : (rest : List Put) (b : Bool) → b ≡ (length rest == 0) → IsTrue b → rest ≡ []
empty-is [] b e t = refl
empty-is (p ∷ rest) b e t = let q : length (p ∷ rest) ≡ 0 = eqb-true (length (p ∷ rest)) 0 (sym e ∙ t) in absurd (omega (arith, q))

pub is-empty : (rest : List Put) (b : Bool) → b ≡ (length rest == 0) → rest ≡ [] → IsTrue b
is-empty [] b e q = e
is-empty (p ∷ rest) b e q = absurd (cc q)
