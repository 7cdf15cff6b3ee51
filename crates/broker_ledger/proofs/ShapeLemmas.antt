-- Notes on a book, by the shapes of its acts.
use Rattle.broker_ledger.proofs.Names.{ActSpec, Outcome, Every, Last, Notes, Task, task_of, tasks, Try, Act, Book, front, tries_of, open_front, open_of, open_try, last_try, if_open, is_none, rests, has_ended, may_follow, another, calls_again, all_over, last_of, over_behind, spent_in, tries_in, notes_of, unended, open_last, calls_on, another_at, over_at, rests_at, ◌≡◌, ℕ, zero, suc, ◌==◌, nat_lt, Bool, true, false, not, ◌&&◌, length, List, [], ◌∷◌, ◌++◌, refl, sym, ◌∙◌, ap, subst, Option, Some, None, if◌then◌else◌, arith, common_steps, slice_get-map, slice_get, option_map, outcome_by, has_end, outcome_at}

-- ---- tests of numbers

pub not-zero : (n : ℕ) → (suc n == 0) ≡ false
not-zero n = grind (arith, common_steps)

pub if-false : {A : Type 0} (c : Bool) (x y : A) → c ≡ false → (if c then x else y) ≡ y
if-false false x y e = refl
if-false true x y e = cc

pub if-true : {A : Type 0} (c : Bool) (x y : A) → c ≡ true → (if c then x else y) ≡ x
if-true true x y e = refl
if-true false x y e = cc

pub past-zero : {A : Type 0} (n : ℕ) (x y : A) → (if suc n == 0 then x else y) ≡ y
past-zero n x y = if-false (suc n == 0) x y (not-zero n)

-- ---- the open try

unended-of : (t : Try) (e : Option Outcome) → (if is_none e then Some (last_of t) else None) ≡ option_map last_of (if_open t e)
unended-of t None = refl
unended-of t (Some o) = refl

open-front : (ts rest : List Try) → (if length ts == 0 then None else unended (option_map last_of (front (ts ++ rest)))) ≡ option_map last_of (open_front ts)
open-front [] rest = refl
open-front (t ∷ ts) rest = past-zero (length ts) None (unended (Some (last_of t))) ∙ unended-of t t.end

open-list : (as' : List Act) → (if tries_in as' == 0 then None else unended (option_map last_of (front (tries_of as')))) ≡ option_map last_of (open_of as')
open-list [] = refl
open-list (a ∷ done) = open-front a.tries (tries_of done)

pub open-is : (b : Book) → open_last (notes_of b) ≡ option_map last_of (open_try b)
open-is b = open-list b.acts

-- an open try is the last one
open-of-front : (t u : Try) (e : Option Outcome) → if_open u e ≡ Some t → u ≡ t
open-of-front t u None h = cc
open-of-front t u (Some o) h = cc

pub open-last-front : (ts rest : List Try) (t : Try) → open_front ts ≡ Some t → front (ts ++ rest) ≡ Some t
open-last-front [] rest t h = cc
open-last-front (u ∷ ts) rest t h = ap (λ (x : Try). Some x) (open-of-front t u u.end h)

open-last-list : (as' : List Act) (t : Try) → open_of as' ≡ Some t → front (tries_of as') ≡ Some t
open-last-list [] t h = cc
open-last-list (a ∷ done) t h = open-last-front a.tries (tries_of done) t h

pub open-is-last : (b : Book) (t : Try) → open_try b ≡ Some t → last_try b ≡ Some t
open-is-last b t h = open-last-list b.acts t h

-- ---- the plan's acts

unmapped : (o : Option ActSpec) (t : Task) → option_map task_of o ≡ Some t → (a : ActSpec) × (o ≡ Some a) × (task_of a ≡ t)
unmapped None t h = cc
unmapped (Some a) t h = (a, refl, cc)

pub get-task : (acts : List ActSpec) (i : ℕ) (t : Task) → slice_get (tasks acts) i ≡ Some t → (a : ActSpec) × (slice_get acts i ≡ Some a) × (task_of a ≡ t)
get-task acts i t h = unmapped (slice_get acts i) t (sym (slice_get-map task_of acts i) ∙ h)

pub every-get : (P : ActSpec → Type 0) (acts : List ActSpec) (i : ℕ) (a : ActSpec) → Every P acts → slice_get acts i ≡ Some a → P a
every-get P [] i a h e = cc
every-get P (x ∷ acts) zero a h e = let q : x ≡ a = cc in subst P q h.0
every-get P (x ∷ acts) (suc i) a h e = every-get P acts i a h.1 e

-- ---- what the tries and acts come to

rests-list : (a : Act) (rest : List Try) (ts : List Try) (e : Option ℕ) →
    (if (if is_none e then false else true) then true else (if length ts == 0 then false else has_end (option_map last_of (front (ts ++ rest))))) ≡ (if is_none e then has_ended ts else true)
rests-list a rest ts (Some c) = refl
rests-list a rest [] None = refl
rests-list a rest (t ∷ ts) None = past-zero (length ts) false (if is_none t.end then false else true)

rests-all : (as' : List Act) →
    (if length as' == 0 then true else (if spent_in as' then true else (if tries_in as' == 0 then false else has_end (option_map last_of (front (tries_of as')))))) ≡ rests as'
rests-all [] = refl
rests-all (a ∷ done) = past-zero (length done) true _ ∙ rests-list a (tries_of done) a.tries a.spent

pub rests-is : (b : Book) → rests_at (notes_of b) ≡ rests b.acts
rests-is b = rests-all b.acts

pub may_follow-is : (ts rest : List Try) → (if length ts == 0 then true else calls_on (option_map last_of (front (ts ++ rest)))) ≡ may_follow ts
may_follow-is [] rest = refl
may_follow-is (t ∷ ts) rest = past-zero (length ts) true (calls_again t.end)

pub another-is : (most : ℕ) (ts rest : List Try) → (if length ts == 0 then true else calls_on (option_map last_of (front (ts ++ rest))) && nat_lt (length ts) most) ≡ another most ts
another-is most [] rest = refl
another-is most (t ∷ ts) rest = past-zero (length ts) true (calls_again t.end && nat_lt (length (t ∷ ts)) most)

flip : (c : Bool) → not c ≡ (if c then false else true)
flip true = refl
flip false = refl

ended-then : (e : Option Outcome) (c d : Bool) → c ≡ d → (if (if is_none e then false else true) then not c else false) ≡ (if is_none e then false else (if d then false else true))
ended-then None c d q = refl
ended-then (Some o) c d q = flip c ∙ ap (λ (x : Bool). if x then false else true) q

outcome-tries : (most : ℕ) (ts rest : List Try) →
    (if length ts == 0 then false else (if has_end (option_map last_of (front (ts ++ rest))) then not (if length ts == 0 then true else calls_on (option_map last_of (front (ts ++ rest))) && nat_lt (length ts) most) else false))
    ≡ outcome_by most ts
outcome-tries most [] rest = refl
outcome-tries most (t ∷ ts) rest = past-zero (length ts) false _ ∙ ended-then t.end _ _ (another-is most (t ∷ ts) rest)

outcome-act : (most : ℕ) (e : Option ℕ) (ts rest : List Try) →
    (if (if is_none e then false else true) then true else
    (if length ts == 0 then false else (if has_end (option_map last_of (front (ts ++ rest))) then not (if length ts == 0 then true else calls_on (option_map last_of (front (ts ++ rest))) && nat_lt (length ts) most) else false)))
    ≡ (if is_none e then outcome_by most ts else true)
outcome-act most (Some c) ts rest = refl
outcome-act most None ts rest = outcome-tries most ts rest

-- the number of tries that the last act may have
abbrev pub most_in : List Act → ℕ
most_in [] = 0
most_in (a ∷ done) = a.task.tries

over-all : (as' : List Act) (n : Notes) → n.started ≡ length as' → n.spent ≡ spent_in as' → n.tries ≡ tries_in as' → n.last ≡ option_map last_of (front (tries_of as')) → n.over_before ≡ over_behind as' →
    over_at (most_in as') n ≡ all_over as'
over-all [] n s p t l o = ap (λ (x : ℕ). if x == 0 then true else outcome_at 0 n && n.over_before) s
over-all (a ∷ done) n s p t l o =
    ap (λ (x : ℕ). if x == 0 then true else outcome_at a.task.tries n && n.over_before) s ∙ (past-zero (length done) true (outcome_at a.task.tries n && n.over_before)
    ∙ (ap (λ (x : Bool). outcome_at a.task.tries n && x) o
    ∙ ap (λ (x : Bool). x && all_over done)
    (ap (λ (x : Bool). if x then true else (if n.tries == 0 then false else (if has_end n.last then not (another_at a.task.tries n) else false))) p
    ∙ (ap (λ (x : ℕ). if spent_in (a ∷ done) then true else (if x == 0 then false else (if has_end n.last then not (if x == 0 then true else calls_on n.last && nat_lt x a.task.tries) else false))) t
    ∙ (ap (λ (x : Option Last). if spent_in (a ∷ done) then true else (if length a.tries == 0 then false else (if has_end x then not (if length a.tries == 0 then true else calls_on x && nat_lt (length a.tries) a.task.tries) else false))) l
    ∙ outcome-act a.task.tries a.spent a.tries (tries_of done))))))

pub over-is : (b : Book) → over_at (most_in b.acts) (notes_of b) ≡ all_over b.acts
over-is b = over-all b.acts (notes_of b) refl refl refl refl refl
