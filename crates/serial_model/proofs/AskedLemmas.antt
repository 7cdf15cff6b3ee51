-- Answers to what a script asks: one answer more, those before one, and how many there are.
use Rattle.serial_model.proofs.Names.{ℕ, zero, suc, ◌≤◌, Bool, true, false, List, [], ◌∷◌, ◌++◌, length, Result, Ok, Err, arith, if◌then◌else◌, FailKind, Value, Step, Let, Read, Write, Print, If, IfElse, Repeat, Withdraw, Block, End, Then, Names, with_name, value, object_at, condition, count, Answer, Got, Stored, Tree, Ends, Says, Reads, Writes, Onward, asked_with, asked_turns, asked, all_asked, denote, stop, IsAnswerTo, AreAsked}
use Rattle.value_form.specs.declared.endings.Ending.TheVariants as ending

pub asked-none : (t : Tree) → AreAsked t []
asked-none (Ends e) = tt
asked-none (Says a t) = asked-none t
asked-none (Reads o k) = tt
asked-none (Writes o a t) = tt

-- one answer more
pub asked-next : (t : Tree) (ans : List Answer) (a : Answer) → AreAsked t ans → IsAnswerTo (stop t ans) a → AreAsked t (ans ++ a ∷ [])
asked-next (Ends e) [] a h is = absurd is
asked-next (Ends e) (x ∷ ans) a h is = absurd h
asked-next (Says v t) ans a h is = asked-next t ans a h is
asked-next (Reads o k) [] (Got v) h is = asked-none (k v)
asked-next (Reads o k) [] Stored h is = absurd is
asked-next (Reads o k) (Got v ∷ ans) a h is = asked-next (k v) ans a h is
asked-next (Reads o k) (Stored ∷ ans) a h is = absurd h
asked-next (Writes o v t) [] (Got w) h is = absurd is
asked-next (Writes o v t) [] Stored h is = asked-none t
asked-next (Writes o v t) (Stored ∷ ans) a h is = asked-next t ans a h is
asked-next (Writes o v t) (Got w ∷ ans) a h is = absurd h

-- the answers before one, and that one
pub asked-front : (t : Tree) (pre post : List Answer) (a : Answer) → AreAsked t (pre ++ a ∷ post) → AreAsked t pre × IsAnswerTo (stop t pre) a
asked-front (Ends e) [] post a h = absurd h
asked-front (Ends e) (x ∷ pre) post a h = absurd h
asked-front (Says v t) pre post a h = asked-front t pre post a h
asked-front (Reads o k) [] post (Got v) h = (tt, tt)
asked-front (Reads o k) [] post Stored h = absurd h
asked-front (Reads o k) (Got v ∷ pre) post a h = asked-front (k v) pre post a h
asked-front (Reads o k) (Stored ∷ pre) post a h = absurd h
asked-front (Writes o v t) [] post (Got w) h = absurd h
asked-front (Writes o v t) [] post Stored h = (tt, tt)
asked-front (Writes o v t) (Stored ∷ pre) post a h = asked-front t pre post a h
asked-front (Writes o v t) (Got w ∷ pre) post a h = absurd h

-- ---- how many there are

-- on each way through the tree there are at most n requests
abbrev pub AtMost : ℕ → Tree → Type 0
AtMost n (Ends e) = Unit {0}
AtMost n (Says a t) = AtMost n t
AtMost zero (Reads o k) = ⊥
AtMost (suc n) (Reads o k) = (a : Value) → AtMost n (k a)
AtMost zero (Writes o a t) = ⊥
AtMost (suc n) (Writes o a t) = AtMost n t

more : (n : ℕ) (t : Tree) → AtMost n t → AtMost (suc n) t
more n (Ends e) h = tt
more n (Says a t) h = more n t h
more zero (Reads o k) h = absurd h
more (suc n) (Reads o k) h = λ a. more n (k a) (h a)
more zero (Writes o a t) h = absurd h
more (suc n) (Writes o a t) h = more n t h

-- what comes after asks no more than its budget
abbrev Bounded : ℕ → Onward → Type 0
Bounded left go = (names : Names) (left' : ℕ) → left' ≤ left → AtMost left' (go names left')

-- so does a part, and what comes after it
abbrev KeepsBudget : (Names → ℕ → Onward → Tree) → Type 0
KeepsBudget part = (names : Names) (left : ℕ) (go : Onward) → Bounded left go → AtMost left (part names left go)

with_at_most : {A : Type 0} (n : ℕ) (r : Result A FailKind) (l : ℕ) (go : A → Tree) → ((x : A) → AtMost n (go x)) → AtMost n (asked_with r l go)
with_at_most n (Ok x) l go h = h x
with_at_most n (Err k) l go h = tt

if_at_most : (n : ℕ) (b : Bool) (t u : Tree) → AtMost n t → AtMost n u → AtMost n (if b then t else u)
if_at_most n true t u h k = h
if_at_most n false t u h k = k

turns_at_most : (n : ℕ) (part : Names → ℕ → Onward → Tree) → KeepsBudget part → (names : Names) (left : ℕ) (go : Onward) → Bounded left go → AtMost left (asked_turns n part names left go)
turns_at_most zero part h names left go b = b names left (omega arith)
turns_at_most (suc n) part h names left go b =
    h names left (λ names' left'. asked_turns n part names' left' go) (λ names' left' le. turns_at_most n part h names' left' go (λ names'' left'' le'. b names'' left'' (omega arith)))

mutual
  asked_at_most : (x : Step) (names : Names) (left : ℕ) (go : Onward) → Bounded left go → AtMost (suc left) (asked x names left go)
  asked_at_most (Let l name x) names left go b = with_at_most (suc left) (value names x) l _ (λ a. more left (go (with_name names name a) left) (b (with_name names name a) left (omega arith)))
  asked_at_most (Read l name place) names left go b = with_at_most (suc left) (object_at names place) l _ (λ o a. b (with_name names name a) left (omega arith))
  asked_at_most (Write l place x) names left go b =
      with_at_most (suc left) (object_at names place) l _ (λ o. with_at_most (suc left) (value names x) l _ (λ a. b names left (omega arith)))
  asked_at_most (Print l x) names left go b = with_at_most (suc left) (value names x) l _ (λ a. more left (go names left) (b names left (omega arith)))
  asked_at_most (If l x part e) names left go b =
      with_at_most (suc left) (condition names x) l _ (λ holds. if_at_most (suc left) holds _ _ (more left (all_asked part names left go) (all_at_most part names left go b)) (more left (go names left) (b names left (omega arith))))
  asked_at_most (IfElse l x first m second e) names left go b =
      with_at_most (suc left) (condition names x) l _ (λ holds. if_at_most (suc left) holds _ _ (more left (all_asked first names left go) (all_at_most first names left go b)) (more left (all_asked second names left go) (all_at_most second names left go b)))
  asked_at_most (Repeat l x part e) names left go b =
      with_at_most (suc left) (count names x) l _ (λ n. more left (asked_turns n (all_asked part) names left go) (turns_at_most n (all_asked part) (λ names' left' go' b'. all_at_most part names' left' go' b') names left go b))
  asked_at_most (Withdraw l) names left go b = tt

  all_at_most : (part : Block) (names : Names) (left : ℕ) (go : Onward) → Bounded left go → AtMost left (all_asked part names left go)
  all_at_most End names left go b = b names left (omega arith)
  all_at_most (Then x part) names zero go b = tt
  all_at_most (Then x part) names (suc left) go b =
      asked_at_most x names left (λ names' left'. all_asked part names' left' go) (λ names' left' le. all_at_most part names' left' go (λ names'' left'' le'. b names'' left'' (omega arith)))

asked-at_most : (n : ℕ) (t : Tree) (ans : List Answer) → AtMost n t → AreAsked t ans → length ans ≤ n
asked-at_most n (Ends e) [] b h = omega arith
asked-at_most n (Says a t) ans b h = asked-at_most n t ans b h
asked-at_most n (Reads o k) [] b h = omega arith
asked-at_most (suc n) (Reads o k) (Got a ∷ ans) b h = let next = asked-at_most n (k a) ans (b a) h in omega arith
asked-at_most n (Writes o a t) [] b h = omega arith
asked-at_most (suc n) (Writes o a t) (Stored ∷ ans) b h = let next = asked-at_most n t ans b h in omega arith
asked-at_most n (Ends e) (x ∷ ans) b h = absurd h
asked-at_most zero (Reads o k) (x ∷ ans) b h = absurd b
asked-at_most (suc n) (Reads o k) (Stored ∷ ans) b h = absurd h
asked-at_most zero (Writes o a t) (x ∷ ans) b h = absurd b
asked-at_most (suc n) (Writes o a t) (Got v ∷ ans) b h = absurd h

-- a script asks at most 10,000 times
pub asked-few : (script : Block) (ans : List Answer) → AreAsked (denote script) ans → length ans ≤ 10000
asked-few script ans h = asked-at_most 10000 (denote script) ans (all_at_most script [] 10000 (λ names left. Ends ending.Finished) (λ names left le. tt)) h
