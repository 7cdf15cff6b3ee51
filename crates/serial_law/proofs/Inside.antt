-- A script that keeps to the repositories of its plan asks for objects of these alone.
use Rattle.value_form.specs.declared.fail_kinds.FailKind.{FailKind}
use Rattle.value_form.specs.declared.fail_kinds.FailKind.TheVariants as fails
use Rattle.serial_law.proofs.Names.{ObjectId, Value, Request, Answer, Got, Stored, Tree, Ends, Says, Reads, Writes, after, InRange, asks, asked_of, ◌≡◌, ℕ, zero, suc, ◌^◌, nat_lt, Bool, true, false, List, [], ◌∷◌, ◌++◌, refl, subst, ap, Some, Result, Ok, Err, if◌then◌else◌, ◌≤◌, arith, pos, negsuc, same_Some, Spot, Fixed, At, Step, Let, Read, Write, Print, If, IfElse, Repeat, Withdraw, Block, End, Then, value, object_at, condition, count, Onward, asked_with, asked_turns, asked, all_asked, denote}
use Rattle.value_form.specs.declared.values.Value.TheVariants as v
use Rattle.script_meaning.specs.Names.{Names, with_name}
use Rattle.script_meaning.specs.Operations.{◌>>=◌, object_in}
use Rattle.script_form.specs.Row as r
use Rattle.script_form.specs.Rows.{Numbered, on, step_rows, rows}
use Rattle.script_form.specs.RowTexts.{SpotInLimits, SpotUpTo}
use Rattle.script_form.specs.Printable.{RowsInLimits}

-- each request of the script is for an object of these repositories
abbrev pub Inside : ℕ → Tree → Type 0
Inside n (Ends e) = Unit {0}
Inside n (Says a t) = Inside n t
Inside n (Reads o k) = InRange n o.repository × ((a : Value) → Inside n (k a))
Inside n (Writes o a t) = InRange n o.repository × Inside n t

-- what comes next keeps to them
abbrev InsideOn : ℕ → Onward → Type 0
InsideOn n go = (names : Names) (left : ℕ) → Inside n (go names left)

at_most : (i n m : ℕ) → i ≤ n → n ≤ m → i ≤ m
at_most i n m h l = omega (arith, h, l)

-- and so of more repositories
pub inside-more : (n m : ℕ) (t : Tree) → n ≤ m → Inside n t → Inside m t
inside-more n m (Ends e) l h = tt
inside-more n m (Says a t) l h = inside-more n m t l h
inside-more n m (Reads o k) l h = ((h.0.0, at_most o.repository n m h.0.1 l), λ a. inside-more n m (k a) l (h.1 a))
inside-more n m (Writes o a t) l h = ((h.0.0, at_most o.repository n m h.0.1 l), inside-more n m t l h.1)

pub inside-after : (n : ℕ) (t : Tree) (ans : List Answer) → Inside n t → Inside n (after t ans)
inside-after n (Ends e) ans h = tt
inside-after n (Says a t) ans h = inside-after n t ans h
inside-after n (Reads o k) (Got a ∷ ans) h = inside-after n (k a) ans (h.1 a)
inside-after n (Reads o k) (Stored ∷ ans) h = h
inside-after n _ [] h = h
inside-after n (Writes o a t) (Stored ∷ ans) h = inside-after n t ans h.1
inside-after n (Writes o a t) (Got b ∷ ans) h = h

pub inside-asks : (n : ℕ) (t : Tree) (q : Request) → Inside n t → asks t ≡ Some q → InRange n (asked_of q).repository
inside-asks n (Ends e) q h k = absurd (cc k)
inside-asks n (Says a t) q h k = inside-asks n t q h k
inside-asks n _ q h k = subst (λ x. InRange n (asked_of x).repository) (same_Some _ q k) h.0

-- ---- objects

abbrev good : ObjectId → Result ObjectId FailKind
good o = Ok o

same-object : (p o : ObjectId) → good p ≡ Ok o → p ≡ o
same-object p o h = cc h

object-in : (m : ℕ) (a : Value) (o : ObjectId) → object_in m a ≡ Ok o → m ≡ o.repository
object-in m (v.Number (pos k)) o h = below (nat_lt k (2 ^ 32)) h
  where
    below : (b : Bool) → (if b then Ok (record { repository = m; number = k }) else Err fails.Object) ≡ Ok o → m ≡ o.repository
    below true h = ap (λ (x : ObjectId). x.repository) (same-object (record { repository = m; number = k }) o h)
    below false h = absurd (cc h)
object-in m (v.Number (negsuc k)) o h = absurd (cc h)
object-in m _ o h = absurd (cc h)

object-inside : (n : ℕ) (names : Names) (place : Spot) (o : ObjectId) → SpotInLimits place → SpotUpTo n place → object_at names place ≡ Ok o → InRange n o.repository
object-inside n names (Fixed p) o limits up h = subst (λ (x : ObjectId). InRange n x.repository) (same-object p o h) (limits.0.0, up)
object-inside n names (At m x) o limits up h = (elim (value names x) as (λ found. (found >>= λ a. object_in m a) ≡ Ok o → InRange n o.repository) [ Ok a ↦ λ h. subst (InRange n) (object-in m a o h) (limits.0.0, up) | Err k ↦ λ h. absurd (cc h) ]) h

-- ---- statements

left-limits : (n : ℕ) (xs ys : List Numbered) → RowsInLimits n (xs ++ ys) → RowsInLimits n xs
left-limits n [] ys h = tt
left-limits n (x ∷ xs) ys h = (h.0, h.1, left-limits n xs ys h.2)

right-limits : (n : ℕ) (xs ys : List Numbered) → RowsInLimits n (xs ++ ys) → RowsInLimits n ys
right-limits n [] ys h = h
right-limits n (x ∷ xs) ys h = right-limits n xs ys h.2

inside-with : {A : Type 0} (n : ℕ) (found : Result A FailKind) (l : ℕ) (go : A → Tree) → ((x : A) → found ≡ Ok x → Inside n (go x)) → Inside n (asked_with found l go)
inside-with n (Ok x) l go h = h x refl
inside-with n (Err k) l go h = tt

pub inside-if : (n : ℕ) (b : Bool) (t u : Tree) → Inside n t → Inside n u → Inside n (if b then t else u)
inside-if n true t u h k = h
inside-if n false t u h k = k

-- a part that keeps to them where what comes next does
abbrev InsidePart : ℕ → (Names → ℕ → Onward → Tree) → Type 0
InsidePart n part = (names : Names) (left : ℕ) (go : Onward) → InsideOn n go → Inside n (part names left go)

inside-turns : (n count : ℕ) (part : Names → ℕ → Onward → Tree) → InsidePart n part → (names : Names) (left : ℕ) (go : Onward) → InsideOn n go → Inside n (asked_turns count part names left go)
inside-turns n zero part h names left go b = b names left
inside-turns n (suc k) part h names left go b = h names left (λ names' left'. asked_turns k part names' left' go) (λ names' left'. inside-turns n k part h names' left' go b)

mutual
  inside-step : (n : ℕ) (x : Step) (names : Names) (left : ℕ) (go : Onward) → RowsInLimits n (step_rows x) → InsideOn n go → Inside n (asked x names left go)
  inside-step n (Let l name x) names left go h b = inside-with n (value names x) l _ (λ a e. b (with_name names name a) left)
  inside-step n (Read l name place) names left go h b = inside-with n (object_at names place) l _ (λ o e. (object-inside n names place o h.0.1 h.1 e, λ a. b (with_name names name a) left))
  inside-step n (Write l place x) names left go h b = inside-with n (object_at names place) l _ (λ o e. inside-with n (value names x) l _ (λ a d. (object-inside n names place o h.0.0 h.1 e, b names left)))
  inside-step n (Print l x) names left go h b = inside-with n (value names x) l _ (λ a e. b names left)
  inside-step n (If l x part m) names left go h b =
      inside-with n (condition names x) l _ (λ holds e. inside-if n holds _ _
      (inside-part n part names left go (left-limits n (rows part) (on m r.End ∷ []) h.2) b) (b names left))
  inside-step n (IfElse l x first m second k) names left go h b =
      inside-with n (condition names x) l _ (λ holds e. inside-if n holds _ _
      (inside-part n first names left go (left-limits n (rows first) (on m r.Else ∷ (rows second ++ on k r.End ∷ [])) h.2) b)
      (inside-part n second names left go (left-limits n (rows second) (on k r.End ∷ []) (right-limits n (rows first) (on m r.Else ∷ (rows second ++ on k r.End ∷ [])) h.2).2) b))
  inside-step n (Repeat l x part m) names left go h b =
      inside-with n (count names x) l _ (λ k e. inside-turns n k (all_asked part)
      (λ names' left' go' b'. inside-part n part names' left' go' (left-limits n (rows part) (on m r.End ∷ []) h.2) b') names left go b)
  inside-step n (Withdraw l) names left go h b = tt

  inside-part : (n : ℕ) (part : Block) (names : Names) (left : ℕ) (go : Onward) → RowsInLimits n (rows part) → InsideOn n go → Inside n (all_asked part names left go)
  inside-part n End names left go h b = b names left
  inside-part n (Then x part) names zero go h b = tt
  inside-part n (Then x part) names (suc left) go h b =
      inside-step n x names left (λ names' left'. all_asked part names' left' go) (left-limits n (step_rows x) (rows part) h)
      (λ names' left'. inside-part n part names' left' go (right-limits n (step_rows x) (rows part) h) b)

pub inside-script : (n : ℕ) (b : Block) → RowsInLimits n (rows b) → Inside n (denote b)
inside-script n b h = inside-part n b [] 10000 (λ names left. Ends _) h (λ names left. tt)
