-- What a member's log, oldest first, says of a stamp: its first Decide.
use Rattle.record_votes.proofs.Names.{◌≡◌, Bool, true, false, List, [], ◌∷◌, ◌++◌, inl, inr, refl, sym, ◌∙◌, ap, Option, Some, None, reverse, if◌then◌else◌, reverse-append, true≢false, Has, has-either, has-left, StampParts, same_stamp, same_stamp-is, same_stamp-of, Decision, Effect, or_else, decision_of, own, book}
use Rattle.effect_form.specs.declared.effects.Effect.TheVariants.{Decide}

abbrev pub voted : List Effect → StampParts → Option Decision
voted [] s = None
voted (Decide p d ∷ l) s = if same_stamp p s then Some d else voted l s
voted (f ∷ l) s = voted l s

abbrev pub first_of : Option Decision → Option Decision → Option Decision
first_of None y = y
first_of (Some d) y = Some d

-- ---- it is what the rules look up

or-first : (b : Bool) (u v : Option Decision) (d : Decision) → (if b then or_else (first_of u v) d else first_of u v) ≡ first_of u (if b then or_else v d else v)
or-first false u v d = refl
or-first true None v d = refl
or-first true (Some e) v d = refl

decision-append : (a b : List Effect) (s : StampParts) → decision_of (own (a ++ b)) s ≡ first_of (decision_of (own b) s) (decision_of (own a) s)
unfolding decision_of
decision-append [] b s = none-right (decision_of (own b) s)
  where
    none-right : (u : Option Decision) → u ≡ first_of u None
    none-right None = refl
    none-right (Some d) = refl
decision-append (Decide p d ∷ a) b s =
    ap (λ z. if same_stamp p s then or_else z d else z) (decision-append a b s) ∙ or-first (same_stamp p s) (decision_of (own b) s) (decision_of (own a) s) d
decision-append (f ∷ a) b s = decision-append a b s

one-decide : (b : Bool) (d : Decision) (u : Option Decision) → first_of (if b then Some d else None) u ≡ (if b then Some d else u)
one-decide true d u = refl
one-decide false d u = refl

one : (f : Effect) (l : List Effect) (s : StampParts) → first_of (decision_of (own (f ∷ [])) s) (voted l s) ≡ voted (f ∷ l) s
unfolding decision_of
one (Decide p d) l s = one-decide (same_stamp p s) d (voted l s)
one f l s = refl

pub book-voted : (l : List Effect) (s : StampParts) → decision_of (book l) s ≡ voted l s
unfolding decision_of
book-voted [] s = refl
book-voted (f ∷ l) s =
    ap (λ z. decision_of (own z) s) (reverse-append (f ∷ []) l) ∙ decision-append (reverse l) (f ∷ []) s
    ∙ ap (λ z. first_of (decision_of (own (f ∷ [])) s) z) (book-voted l s) ∙ one f l s

-- ---- a log that goes on

if-first : (b : Bool) (d : Decision) (u v : Option Decision) → (if b then Some d else first_of u v) ≡ first_of (if b then Some d else u) v
if-first true d u v = refl
if-first false d u v = refl

pub voted-append : (a b : List Effect) (s : StampParts) → voted (a ++ b) s ≡ first_of (voted a s) (voted b s)
voted-append [] b s = refl
voted-append (Decide p d ∷ a) b s = ap (λ z. if same_stamp p s then Some d else z) (voted-append a b s) ∙ if-first (same_stamp p s) d (voted a s) (voted b s)
voted-append (f ∷ a) b s = voted-append a b s

-- a vote stands
pub voted-more : (a b : List Effect) (s : StampParts) (d : Decision) → voted a s ≡ Some d → voted (a ++ b) s ≡ Some d
voted-more a b s d h = voted-append a b s ∙ ap (λ z. first_of z (voted b s)) h

pub voted-new : (a b : List Effect) (s : StampParts) → voted a s ≡ None → voted (a ++ b) s ≡ voted b s
voted-new a b s h = voted-append a b s ∙ ap (λ z. first_of z (voted b s)) h

-- ---- and it stands in the log

has-if : (b : Bool) (p s : StampParts) (x d : Decision) (l : List Effect) → (b ≡ true → p ≡ s) → (voted l s ≡ Some d → Has (Decide s d) l) → (if b then Some x else voted l s) ≡ Some d → Has (Decide s d) (Decide p x ∷ l)
has-if true p s x d l e f h = let k : x ≡ d = cc h in inl (ap (λ z. Decide z x) (e refl) ∙ ap (λ z. Decide s z) k)
has-if false p s x d l e f h = inr (f h)

pub voted-has : (l : List Effect) (s : StampParts) (d : Decision) → voted l s ≡ Some d → Has (Decide s d) l
voted-has [] s d h = absurd (cc h)
voted-has (Decide p x ∷ l) s d h = has-if (same_stamp p s) p s x d l (same_stamp-is p s) (voted-has l s d) h
voted-has (f ∷ l) s d h = inr (voted-has l s d h)

abbrev pub Votes : List Effect → StampParts → Type 0
Votes l s = (d : Decision) × (voted l s ≡ Some d)

votes-here : (b : Bool) (x : Decision) (u : Option Decision) → b ≡ true → (d : Decision) × ((if b then Some x else u) ≡ Some d)
votes-here true x u e = (x, refl)
votes-here false x u e = absurd (true≢false (sym e))

votes-there : (b : Bool) (x : Decision) (u : Option Decision) → ((d : Decision) × (u ≡ Some d)) → (d : Decision) × ((if b then Some x else u) ≡ Some d)
votes-there true x u h = (x, refl)
votes-there false x u h = h

pub has-votes : (l : List Effect) (s : StampParts) (d : Decision) → Has (Decide s d) l → Votes l s
has-votes [] s d h = absurd h
has-votes (Decide p x ∷ l) s d (inl e) = let k : p ≡ s = cc e in votes-here (same_stamp p s) x (voted l s) (same_stamp-of p s k)
has-votes (Decide p x ∷ l) s d (inr h) = votes-there (same_stamp p s) x (voted l s) (has-votes l s d h)
has-votes (f ∷ l) s d (inl e) = absurd (cc e)
has-votes (f ∷ l) s d (inr h) = has-votes l s d h

-- ---- each stamp is decided at most once

pub some-same : (u : Option Decision) (d e : Decision) → u ≡ Some d → u ≡ Some e → d ≡ e
some-same u d e h k = let m : Some d ≡ Some e = sym h ∙ k in cc m

pub none-some : (u : Option Decision) (d : Decision) → u ≡ None → u ≡ Some d → ⊥
none-some u d h k = let m : None ≡ Some d = sym h ∙ k in cc m

abbrev pub Once : List Effect → Type 0
Once l = (s : StampParts) (d : Decision) → Has (Decide s d) l → voted l s ≡ Some d

pub once-front : (a b : List Effect) → Once (a ++ b) → Once a
once-front a b once s d h =
    let v : Votes a s = has-votes a s d h in
    let e : v.0 ≡ d = some-same (voted (a ++ b) s) v.0 d (voted-more a b s v.0 v.1) (once s d (has-left a b (Decide s d) h)) in
    v.1 ∙ ap (λ z. Some z) e

-- no Decide of the stamp follows
abbrev pub NotAgain : Effect → List Effect → Type 0
NotAgain (Decide s d) l = voted l s ≡ None
NotAgain f l = Unit {0}

abbrev pub Single : List Effect → Type 0
Single [] = Unit {0}
Single (f ∷ l) = NotAgain f l × Single l

first-none : (u v : Option Decision) → first_of u v ≡ None → u ≡ None
first-none None v h = refl
first-none (Some d) v h = absurd (cc h)

both-none : (u v : Option Decision) → u ≡ None → v ≡ None → first_of u v ≡ None
both-none None v h k = k
both-none (Some d) v h k = absurd (cc h)

no-some : (u : Option Decision) → ((d : Decision) → u ≡ Some d → ⊥) → u ≡ None
no-some None f = refl
no-some (Some d) f = absurd (f d refl)

skipped : (b : Bool) (d : Decision) (u : Option Decision) → (if b then Some d else u) ≡ None → u ≡ None
skipped true d u h = absurd (cc h)
skipped false d u h = h

not-here : (b : Bool) (d : Decision) (u : Option Decision) → b ≡ true → (if b then Some d else u) ≡ None → ⊥
not-here true d u e h = cc h
not-here false d u e h = true≢false (sym e)

pub single-front : (a b : List Effect) → Single (a ++ b) → Single a
single-front [] b h = tt
single-front (Decide s d ∷ a) b h = (first-none (voted a s) (voted b s) (sym (voted-append a b s) ∙ h.0), single-front a b h.1)
single-front (f ∷ a) b h = (tt, single-front a b h.1)

pub single-append : (a b : List Effect) → Single a → Single b → ((s : StampParts) (d : Decision) → Has (Decide s d) b → voted a s ≡ None) → Single (a ++ b)
single-append [] b h k f = k
single-append (Decide s d ∷ a) b h k f = (
  voted-append a b s ∙ both-none (voted a s) (voted b s) h.0 (no-some (voted b s) (λ e m. not-here (same_stamp s s) d (voted a s) (same_stamp-of s s refl) (f s e (voted-has b s e m)))),
  single-append a b h.1 k (λ q e m. skipped (same_stamp s q) d (voted a q) (f q e m)),
)
single-append (f ∷ a) b h k g = (tt, single-append a b h.1 k g)

-- New effects decide only what isn't decided, each stamp in one way.
pub record IsNew (log new : List Effect) : Type 0 where
  pub by : StampParts → Decision
  pub open_before : (s : StampParts) (d : Decision) → Has (Decide s d) new → voted log s ≡ None
  pub one_way : (s : StampParts) (d : Decision) → Has (Decide s d) new → by s ≡ d
  pub single : Single new

pub new-voted : (log new : List Effect) → IsNew log new → (s : StampParts) (d : Decision) → Has (Decide s d) new → voted (log ++ new) s ≡ Some d
new-voted log new fits s d h =
    let v : Votes new s = has-votes new s d h in
    voted-new log new s (fits.open_before s d h) ∙ v.1 ∙ ap (λ z. Some z) (sym (fits.one_way s v.0 (voted-has new s v.0 v.1)) ∙ fits.one_way s d h)

pub once-more : (log new : List Effect) → Once log → IsNew log new → Once (log ++ new)
once-more log new once fits s d h = elim (has-either log new (Decide s d) h) [
  | inl k ↦ voted-more log new s d (once s d k)
  | inr k ↦ new-voted log new fits s d k
]

-- what holds of every log: each Decide is the first of its stamp, and the last
pub record Tidy (l : List Effect) : Type 0 where
  pub once : Once l
  pub single : Single l

pub tidy-front : (a b : List Effect) → Tidy (a ++ b) → Tidy a
tidy-front a b h = record { once = once-front a b h.once; single = single-front a b h.single }

pub tidy-more : (log new : List Effect) → Tidy log → IsNew log new → Tidy (log ++ new)
tidy-more log new h fits = record { once = once-more log new h.once fits; single = single-append log new h.single fits.single fits.open_before }

pub tidy-none : Tidy []
tidy-none = record { once = λ s d h. absurd h; single = tt }

-- no Decide of a stamp stands behind another
pub tidy-apart : (a b : List Effect) (s : StampParts) (d e : Decision) → Single (a ++ Decide s d ∷ b) → Has (Decide s e) b → ⊥
tidy-apart [] b s d e h k = let v : Votes b s = has-votes b s e k in none-some (voted b s) v.0 h.0 v.1
tidy-apart (f ∷ a) b s d e h k = tidy-apart a b s d e h.1 k
