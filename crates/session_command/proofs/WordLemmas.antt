-- The words of a session.
use Rattle.std.proofs.Common.{◌≡◌, ◌≢◌, ◌↔◌, ◌-◌, ◌<◌, ◌≤◌, ◌∙◌, ℕ, false, true, List, [], ◌∷◌, ap, arith, get_or, inl, inr, length, refl, subst, sym, take}
use Rattle.std.specs.Prelude.{Option, Some, None, IfSome, codes}
use Rattle.std.specs.Borrow.{Bor}
use Rattle.std.specs.Option.{unwrap_or}
use Rattle.std.proofs.Math.Seq.{take-length}
use Rattle.command_words.specs.declared.commands.Options.{Options}
use Rattle.command_words.specs.declared.commands.Command.{Command}
use Rattle.command_words.specs.declared.commands.Command.TheVariants.{Run, Load, History, Retire, Votes, Watch, AsOf, Audit, Snapshot, Settle, Replay}
use Rattle.command_words.specs.Words.{AreGiven, AreNone, AreOptions, AreWords, IsWith, said}
use Rattle.command_words.specs.declared.options.Given.{Given}
use Rattle.command_words.proofs.WordLemmas.{behind-one, word-at}
use Rattle.session_command.specs.Words.{GivesMore, GivesOptions}

first-is : (a b : List ℕ) (xs ys : List (List ℕ)) → a ∷ xs ≡ b ∷ ys → a ≡ b
first-is a b xs ys e = ap (λ l. get_or l 0 []) e

rest-is : (a b : List ℕ) (xs ys : List (List ℕ)) → a ∷ xs ≡ b ∷ ys → xs ≡ ys
rest-is a b xs ys e = ap tail e
  where
    tail : List (List ℕ) → List (List ℕ)
    tail [] = []
    tail (l ∷ ls) = ls

-- no other command begins with `run`
other : (b : List ℕ) (more ys : List (List ℕ)) → codes "run" ∷ more ≡ b ∷ ys → get_or b 0 0 ≢ 114 → ⊥
other b more ys e n = n (sym (ap (λ (l : List ℕ). get_or l 0 0) (first-is (codes "run") b more ys e)))

other-second : (b : List ℕ) (more ys : List (List ℕ)) → codes "run" ∷ more ≡ b ∷ ys → get_or b 1 0 ≢ 117 → ⊥
other-second b more ys e n = n (sym (ap (λ (l : List ℕ). get_or l 1 0) (first-is (codes "run") b more ys e)))

pub runs-options : (c : Command) (more : List (List ℕ)) → AreWords c (codes "run" ∷ more) → (o : Options) × (c ≡ Run o) × AreOptions o more
runs-options (Run o) more (rest, e, options) = (o, refl, subst (AreOptions o) (sym (rest-is (codes "run") (codes "run") more rest e)) options)
runs-options (Load seed count o) more w = absurd (other (codes "load") more _ w.are (λ k. omega (arith, k)))
runs-options (History object) more w = absurd (other (codes "history") more _ w.are (λ k. omega (arith, k)))
runs-options (Retire repository clock) more w = absurd (other-second (codes "retire") more _ w.are (λ k. omega (arith, k)))
runs-options (Votes o) more (rest, e, options) = absurd (other (codes "votes") more rest e (λ k. omega (arith, k)))
runs-options (Watch repository rule) more w = absurd (other (codes "watch") more _ w.are (λ k. omega (arith, k)))
runs-options (AsOf repository clock) more w = absurd (other (codes "asof") more _ w.are (λ k. omega (arith, k)))
runs-options (Audit object) more w = absurd (other (codes "audit") more _ w.are (λ k. omega (arith, k)))
runs-options (Snapshot None) more w = absurd (other (codes "snapshot") more [] w (λ k. omega (arith, k)))
runs-options (Snapshot (Some clock)) more (word, e, n) = absurd (other (codes "snapshot") more _ e (λ k. omega (arith, k)))
runs-options (Settle n) more w = absurd (other (codes "settle") more _ w.are (λ k. omega (arith, k)))
runs-options (Replay false) more w = absurd (other-second (codes "replay") more _ w (λ k. omega (arith, k)))
runs-options (Replay true) more w = absurd (other-second (codes "replay") more _ w (λ k. omega (arith, k)))

pub more-given : (r : Option Command) (out : Option Options) (all more : List (List ℕ)) → all ≡ codes "run" ∷ more → IfSome r (λ c. AreWords c all) → (r ≡ None → AreNone all) → ((o : Options) → (out ≡ Some o) ↔ (r ≡ Some (Run o))) → GivesMore more out
more-given None (Some o) all more is words none same = absurd (cc ((same o).0 refl))
more-given (Some c) (Some o) all more is words none same =
    let e : Some c ≡ Some (Run o) = (same o).0 refl in
    let k : c ≡ Run o = cc e in
    let w = runs-options (Run o) more (subst (λ l. AreWords (Run o) l) is (subst (λ x. AreWords x all) k words)) in
    let n : Run o ≡ Run w.0 = w.1 in
    let m : o ≡ w.0 = cc n in
    subst (λ x. AreOptions x more) (sym m) w.2
more-given None None all more is words none same = λ o given. none refl (Run o) (more, is, given)
more-given (Some c) None all more is words none same = λ o given. let w = runs-options c more (subst (λ l. AreWords c l) is words) in let k = (same w.0).1 (ap Some w.1) in absurd (cc k)

abbrev pub Words : Type 0
Words = List (Bor (List ℕ))

behind-is : (a : Bor (List ℕ)) (ws : Words) → behind-one (a ∷ ws) ≡ ws
behind-is a ws = ap (λ k. take k ws) one-less ∙ take-length ws
  where
    one-less : length (a ∷ ws) - 1 ≡ length ws
    one-less = omega arith

-- the first word is `session`
pub session-words : (ws : Words) (out : Option Options) → 1 ≤ length ws → word-at ws 0 ≡ codes "session" → GivesMore (said (behind-one ws)) out → GivesOptions (said ws) out
session-words [] out some first given = absurd (omega (arith, some))
session-words (a ∷ ws) (Some o) some first given = (said ws, ap (λ l. l ∷ said ws) first, subst (λ l. AreOptions o (said l)) (behind-is a ws) given)
session-words (a ∷ ws) None some first given = λ o s. given o (subst (λ l. AreOptions o (said l)) (sym (behind-is a ws)) (subst (AreOptions o) (sym (rest-is a.now (codes "session") (said ws) s.0 s.1)) s.2))

-- the first word is another
pub other-words : (ws : Words) → 1 ≤ length ws → (word-at ws 0 ≡ codes "session" → ⊥) → GivesOptions (said ws) None
other-words [] some other o given = absurd (omega (arith, some))
other-words (a ∷ ws) some other o (more, e, options) = other (first-is a.now (codes "session") (said ws) more e)

-- there is no word
pub no-words : (ws : Words) → length ws < 1 → GivesOptions (said ws) None
no-words [] few o (more, e, options) = absurd (cc e)
no-words (a ∷ ws) few o given = absurd (omega (arith, few))

-- ---- options

with-workers : (rest g : Given) (name word : List ℕ) → 1 ≤ unwrap_or rest.workers 1 → IsWith rest name word g → 1 ≤ unwrap_or g.workers 1
with-workers rest g name word before (inl h) = subst (λ (x : Given). 1 ≤ unwrap_or x.workers 1) (sym h.4) h.2.low
with-workers rest g name word before (inr (inl h)) = subst (λ (x : Given). 1 ≤ unwrap_or x.workers 1) (sym h.4) before
with-workers rest g name word before (inr (inr h)) = subst (λ (x : Given). 1 ≤ unwrap_or x.workers 1) (sym h.4) before

given-workers : (words : List (List ℕ)) (g : Given) → AreGiven g words → 1 ≤ unwrap_or g.workers 1
given-workers [] g h = subst (λ (x : Given). 1 ≤ unwrap_or x.workers 1) (sym h) (omega arith)
given-workers (name ∷ []) g h = absurd h
given-workers (name ∷ word ∷ more) g h = with-workers h.0 g name word (given-workers more h.0 h.1) h.2

-- there is a worker
pub some-workers : (o : Options) (words : List (List ℕ)) → AreOptions o words → 1 ≤ o.workers
some-workers o words h = subst (λ (x : Options). 1 ≤ x.workers) (sym h.2) (given-workers words h.0 h.1)
