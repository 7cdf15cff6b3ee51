-- What a script in range asks for has bytes.
use Rattle.serial_model.proofs.Names.{ℕ, zero, suc, Bool, true, false, List, [], ◌∷◌, Result, Ok, Err, sym, subst, IfOk, if◌then◌else◌, Every, FailKind, Step, Let, Read, Write, Print, If, IfElse, Repeat, Withdraw, Block, End, Then, IsObject, IsValue, Names, with_name, line_of, value, object_at, condition, count, talk, Answer, Got, Stored, Tree, Ends, Says, Reads, Writes, Onward, asked_with, asked_turns, asked, all_asked, denote, talked, stop, IsLine, StepInRange, BlockInRange, StopInRange, AsksInRange, AnswerHasBytes}
use Rattle.value_form.specs.declared.endings.Ending.TheVariants as ending
use Rattle.serial_model.proofs.ScriptLemmas.{talk_of}
use Rattle.serial_model.proofs.AnswerLemmas.{talked-stop}
use Rattle.serial_model.proofs.NameLemmas.{NamesHaveBytes, with_name-HaveBytes, value-IsValue, object_at-IsObject}

-- ---- the tree of a script

-- what comes after asks only for what has bytes
abbrev Fits : Onward → Type 0
Fits go = (names : Names) (left : ℕ) → NamesHaveBytes names → AsksInRange (go names left)

-- so does a part, and what comes after it
abbrev KeepsBytes : (Names → ℕ → Onward → Tree) → Type 0
KeepsBytes part = (names : Names) (left : ℕ) (go : Onward) → NamesHaveBytes names → Fits go → AsksInRange (part names left go)

with-HasBytes : {A : Type 0} (r : Result A FailKind) (l : ℕ) (go : A → Tree) (P : A → Type 0) → IsLine l → IfOk r P → ((x : A) → P x → AsksInRange (go x)) → AsksInRange (asked_with r l go)
with-HasBytes (Ok x) l go P line h k = k x h
with-HasBytes (Err e) l go P line h k = line

any-HasBytes : {A : Type 0} (r : Result A FailKind) (l : ℕ) (go : A → Tree) → IsLine l → ((x : A) → AsksInRange (go x)) → AsksInRange (asked_with r l go)
any-HasBytes (Ok x) l go line k = k x
any-HasBytes (Err e) l go line k = line

-- the line that a budget ends at
line_of-IsLine : (x : Step) → StepInRange x → IsLine (line_of x)
line_of-IsLine (Let l name x) r = r.0
line_of-IsLine (Read l name place) r = r.0
line_of-IsLine (Write l place x) r = r.0
line_of-IsLine (Print l x) r = r.0
line_of-IsLine (If l x part e) r = r.0
line_of-IsLine (IfElse l x first m second e) r = r.0
line_of-IsLine (Repeat l x part e) r = r.0
line_of-IsLine (Withdraw l) r = r

if-HasBytes : (b : Bool) (t u : Tree) → AsksInRange t → AsksInRange u → AsksInRange (if b then t else u)
if-HasBytes true t u h k = h
if-HasBytes false t u h k = k

turns-HasBytes : (n : ℕ) (part : Names → ℕ → Onward → Tree) → KeepsBytes part → KeepsBytes (asked_turns n part)
turns-HasBytes zero part keeps names left go h fits = fits names left h
turns-HasBytes (suc n) part keeps names left go h fits =
    keeps names left (λ names' left'. asked_turns n part names' left' go) h (λ names' left' h'. turns-HasBytes n part keeps names' left' go h' fits)

mutual
  asked-HasBytes : (x : Step) (names : Names) (left : ℕ) (go : Onward) → StepInRange x → NamesHaveBytes names → Fits go → AsksInRange (asked x names left go)
  asked-HasBytes (Let l name x) names left go (line, r) h fits =
      with-HasBytes (value names x) l _ IsValue line (value-IsValue names x h r) (λ a a_is. fits (with_name names name a) left (with_name-HaveBytes names name a h a_is))
  asked-HasBytes (Read l name place) names left go (line, r) h fits =
      with-HasBytes (object_at names place) l _ IsObject line (object_at-IsObject names place h r) (λ o o_is. (o_is, λ a a_is. fits (with_name names name a) left (with_name-HaveBytes names name a h a_is)))
  asked-HasBytes (Write l place x) names left go (line, spot, r) h fits =
      with-HasBytes (object_at names place) l _ IsObject line (object_at-IsObject names place h spot) (λ o o_is.
      with-HasBytes (value names x) l _ IsValue line (value-IsValue names x h r) (λ a a_is. ((o_is, a_is), fits names left h)))
  asked-HasBytes (Print l x) names left go (line, r) h fits = any-HasBytes (value names x) l _ line (λ a. fits names left h)
  asked-HasBytes (If l x part e) names left go (line, r, inner) h fits =
      any-HasBytes (condition names x) l _ line (λ holds. if-HasBytes holds _ _ (all-HasBytes part names left go inner h fits) (fits names left h))
  asked-HasBytes (IfElse l x first m second e) names left go (line, r, one, other) h fits =
      any-HasBytes (condition names x) l _ line (λ holds. if-HasBytes holds _ _ (all-HasBytes first names left go one h fits) (all-HasBytes second names left go other h fits))
  asked-HasBytes (Repeat l x part e) names left go (line, r, inner) h fits =
      any-HasBytes (count names x) l _ line (λ n. turns-HasBytes n (all_asked part) (λ names' left' go' h' fits'. all-HasBytes part names' left' go' inner h' fits') names left go h fits)
  asked-HasBytes (Withdraw l) names left go r h fits = r

  all-HasBytes : (part : Block) (names : Names) (left : ℕ) (go : Onward) → BlockInRange part → NamesHaveBytes names → Fits go → AsksInRange (all_asked part names left go)
  all-HasBytes End names left go r h fits = fits names left h
  all-HasBytes (Then x part) names zero go r h fits = line_of-IsLine x r.0
  all-HasBytes (Then x part) names (suc left) go r h fits =
      asked-HasBytes x names left (λ names' left'. all_asked part names' left' go) r.0 h (λ names' left' h'. all-HasBytes part names' left' go r.1 h' fits)

pub denote-HasBytes : (script : Block) → BlockInRange script → AsksInRange (denote script)
denote-HasBytes script r = all-HasBytes script [] 10000 (λ names left. Ends ending.Finished) r tt (λ names left h. tt)

-- ---- where it stops

talked-InRange : (t : Tree) (ans : List Answer) → AsksInRange t → Every AnswerHasBytes ans → StopInRange (talked t ans).stop
talked-InRange (Ends e) ans h k = h
talked-InRange (Says a t) ans h k = talked-InRange t ans h k
talked-InRange (Reads o f) [] h k = h.0
talked-InRange (Reads o f) (Got a ∷ ans) h k = talked-InRange (f a) ans (h.1 a k.0) k.1
talked-InRange (Reads o f) (Stored ∷ ans) h k = h.0
talked-InRange (Writes o a t) [] h k = h.0
talked-InRange (Writes o a t) (Stored ∷ ans) h k = talked-InRange t ans h.1 k.1
talked-InRange (Writes o a t) (Got b ∷ ans) h k = h.0

pub talk-InRange : (script : Block) (answers : List Answer) → BlockInRange script → Every AnswerHasBytes answers → StopInRange (talk script answers).stop
talk-InRange script answers r h = subst StopInRange (sym (talk_of script answers).1) (talked-InRange (denote script) answers (denote-HasBytes script r) h)

pub stop-InRange : (t : Tree) (answers : List Answer) → AsksInRange t → Every AnswerHasBytes answers → StopInRange (stop t answers)
stop-InRange t answers h k = subst StopInRange (talked-stop t answers) (talked-InRange t answers h k)
