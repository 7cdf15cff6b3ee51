-- What crashes at several moments might have left.
use Rattle.std.specs.Prelude.{◌≡◌, ⊤, ℕ, ◌≤◌, ◌<◌, ◌+◌, ◌⊎◌, List, [], ◌∷◌, ◌++◌, length}
use Rattle.std.proofs.Common.{inl, inr, ⊎_elim, refl, sym, ap, subst, ◌∙◌, append_assoc}
use Rattle.medium_port.specs.Image.{Image, IsImage, byte_of}

-- bytes that were written from a place of a page on
pub record Span : Type 0 where
  pub page : ℕ
  pub at : ℕ
  pub bytes : List ℕ

-- the byte at this place of this page is none of them
abbrev pub OutsideSpan : Span → ℕ → ℕ → Type 0
OutsideSpan span page at = page ≡ span.page → (at < span.at) ⊎ (span.at + length span.bytes ≤ at)

-- nor of any of these
abbrev pub Outside : List Span → ℕ → ℕ → Type 0
Outside [] page at = ⊤
Outside (span ∷ spans) page at = OutsideSpan span page at × Outside spans page at

-- A medium at one moment, as crashes see it: of so many pages, what the last sync left, and what was written since.
pub record Stage : Type 0 where
  pub count : ℕ
  pub synced : Image
  pub unsynced : List Span

-- what a crash may leave then: what was synced, but for the ranges written since, which may hold any bytes
pub record Leaves (s : Stage) (c : Image) : Type 0 where
  pub shape : IsImage s.count c
  pub kept : (page at : ℕ) → Outside s.unsynced page at → byte_of c page at ≡ byte_of s.synced page at

-- ---- stages, the newest first

-- a crash at one of these moments might have left it
abbrev pub LeftOf : List Stage → Image → Type 0
LeftOf [] c = ⊥
LeftOf (s ∷ ss) c = Leaves s c ⊎ LeftOf ss c

-- a crash at the last of them
abbrev pub LeftNow : List Stage → Image → Type 0
LeftNow [] c = ⊥
LeftNow (s ∷ ss) c = Leaves s c

-- Stages were added, and a crash from the last old one on leaves an image that has P.
pub record Goes (old new : List Stage) (P : Image → Type 0) : Type 0 where
  pub more : List Stage
  pub grows : new ≡ more ++ old
  pub each : (c : Image) → LeftOf more c ⊎ LeftNow old c → P c

-- A crash at any moment since old leaves an image that has P, and no moment before is forgotten or changed.
abbrev pub LeavesOnly : {M : Type 0} → (M → List Stage) → M → M → (Image → Type 0) → Type 0
LeavesOnly stages old new P = Goes (stages old) (stages new) P

-- one of several is of the first or of the others
pub left_apart : (xs ys : List Stage) (c : Image) → LeftOf (xs ++ ys) c → LeftOf xs c ⊎ LeftOf ys c
left_apart [] ys c left = inr left
left_apart (s ∷ xs) ys c left = ⊎_elim (λ here. inl (inl here)) (λ rest. ⊎_elim (λ x. inl (inr x)) (λ y. inr y) (left_apart xs ys c rest)) left

-- the last of all is one of those that were added, or none was
pub left_last : (more old : List Stage) (c : Image) → LeftNow (more ++ old) c → LeftOf more c ⊎ LeftNow old c
left_last [] old c left = inr left
left_last (s ∷ more) old c left = inl (inl left)

-- no moment passed
pub goes_nowhere : (ss : List Stage) (P : Image → Type 0) → ((c : Image) → LeftNow ss c → P c) → Goes ss ss P
goes_nowhere ss P here = record { more = []; grows = refl; each = λ c left. ⊎_elim (λ none. absurd none) (here c) left }

-- one run, and then another
pub goes_on : (a b c : List Stage) (P Q R : Image → Type 0) → Goes a b P → Goes b c Q → ((i : Image) → P i → R i) → ((i : Image) → Q i → R i) → Goes a c R
goes_on a b c P Q R first second from_first from_second = record {
  more = second.more ++ first.more;
  grows = second.grows ∙ ap (λ l. second.more ++ l) first.grows ∙ sym (append_assoc second.more first.more a);
  each = λ i left. ⊎_elim
      (λ more. ⊎_elim (λ late. from_second i (second.each i (inl late))) (λ early. from_first i (first.each i (inl early))) (left_apart second.more first.more i more))
      (λ now. from_first i (first.each i (inr now)))
      left;
}

-- the last image that a run left
pub goes_to : (a b : List Stage) (P : Image → Type 0) → Goes a b P → (c : Image) → LeftNow b c → P c
goes_to a b P run c left = run.each c (left_last run.more a c (subst (λ l. LeftNow l c) run.grows left))

module _ {M : Type 0} (stages : M → List Stage) where
  -- no call is made
  pub stays : (m : M) (P : Image → Type 0) → ((c : Image) → LeftNow (stages m) c → P c) → LeavesOnly stages m m P
  stays m P here = goes_nowhere (stages m) P here

  -- a call that let no moment pass
  pub stands : (a b : M) (P : Image → Type 0) → stages b ≡ stages a → ((c : Image) → LeftNow (stages a) c → P c) → LeavesOnly stages a b P
  stands a b P same here = record { more = []; grows = same; each = λ c left. ⊎_elim (λ none. absurd none) (here c) left }

  -- one run, and then another
  pub joins : (a b c : M) (P Q R : Image → Type 0) → LeavesOnly stages a b P → LeavesOnly stages b c Q → ((i : Image) → P i → R i) → ((i : Image) → Q i → R i) → LeavesOnly stages a c R
  joins a b c P Q R first second from_first from_second = goes_on (stages a) (stages b) (stages c) P Q R first second from_first from_second

  -- what is left has P, and so it has Q
  pub widens : (a b : M) (P Q : Image → Type 0) → LeavesOnly stages a b P → ((i : Image) → P i → Q i) → LeavesOnly stages a b Q
  widens a b P Q run from = record { more = run.more; grows = run.grows; each = λ i left. from i (run.each i left) }

-- During a call an image stands that might have been left before it, or may be left after it.
abbrev pub EitherSide : (Image → Type 0) → (Image → Type 0) → Image → Type 0
EitherSide old new c = old c ⊎ new c
