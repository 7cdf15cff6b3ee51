-- In every world the meaning of a script is the walk through its tree of questions.
use Rattle.serial_model.proofs.Names.{◌≡◌, ℕ, zero, suc, Bool, true, false, List, [], ◌∷◌, ◌++◌, Option, Some, None, Result, Ok, Err, refl, sym, ap, ◌∙◌, append_assoc, append-nil, if◌then◌else◌, ObjectId, Value, FailKind, Line, Names, with_name, Objects, value_at, Step, Let, Read, Write, Print, If, IfElse, Repeat, Withdraw, Block, End, Then, value, object_at, condition, count, line_of, ToRead, ToWrite, Stop, Asks, Over, Answers, State, Came, Course, Goes, Stops, then_do, counted, valued, read_of, write_of, turns, begun, all_done, finished, carried_out, over_objects, by_answers, Answer, Got, Stored, Tree, Ends, Says, Reads, Writes, Onward, asked_if_room, asked_with, asked_turns, asked, all_asked, denote, read_on, write_on, walk, Talked, line_before, talked, talked_alone, left_by}
use Rattle.std.specs.FinMap as finite
use Rattle.value_form.specs.declared.endings.Ending.TheVariants as ending
use Rattle.value_form.specs.declared.transcripts.Line.TheVariants as line

module _ {W : Type 0} (A : Answers W) where
  -- what comes after an outcome
  abbrev pub carry : Course W → (State W → Came W) → Came W
  carry (Goes st) go = go st
  carry (Stops came) go = came

  carry-then : (o : Course W) (go : State W → Course W) (f : State W → Came W) → carry (then_do A o go) f ≡ carry o (λ st. carry (go st) f)
  carry-then (Goes st) go f = refl
  carry-then (Stops came) go f = refl

  carry-same : (o : Course W) (f g : State W → Came W) → ((st : State W) → f st ≡ g st) → carry o f ≡ carry o g
  carry-same (Goes st) f g same = same st
  carry-same (Stops came) f g same = refl

  -- the walk from a state
  abbrev pub from : Tree → State W → Came W
  from t st = walk A t st.lines st.world

  abbrev pub onward : Onward → State W → Came W
  onward go st = from (go st.names st.left) st

  with_walk : {X : Type 0} (r : Result X FailKind) (l : ℕ) (st : State W) (go : X → Tree) (go' : X → Course W) (f : State W → Came W) → ((x : X) → from (go x) st ≡ carry (go' x) f) → from (asked_with r l go) st ≡ carry (valued A r l st go') f
  with_walk (Ok x) l st go go' f h = h x
  with_walk (Err k) l st go go' f h = refl

  room_walk : (left l : ℕ) (st : State W) (go : ℕ → Tree) (go' : State W → Course W) (f : State W → Came W) → ((left' : ℕ) → from (go left') st ≡ carry (go' (record st { left = left' })) f) → from (asked_if_room left l go) st ≡ carry (counted A left l st go') f
  room_walk zero l st go go' f h = refl
  room_walk (suc left) l st go go' f h = h left

  if_walk : (holds : Bool) (st : State W) (t u : Tree) (o p : Course W) (f : State W → Came W) → from t st ≡ carry o f → from u st ≡ carry p f → from (if holds then t else u) st ≡ carry (if holds then o else p) f
  if_walk true st t u o p f g h = g
  if_walk false st t u o p f g h = h

  read_walk : (r : Option (Value × W)) (name : List ℕ) (o : ObjectId) (st : State W) (go : Onward) → read_on A r o st.lines st.world (λ a. walk A (go (with_name st.names name a) st.left)) ≡ carry (read_of A r name o st) (onward go)
  read_walk None name o st go = refl
  read_walk (Some p) name o st go = refl

  write_walk : (r : Option W) (o : ObjectId) (a : Value) (st : State W) (go : Onward) → write_on A r o a st.lines st.world (walk A (go st.names st.left)) ≡ carry (write_of A r o a st) (onward go)
  write_walk None o a st go = refl
  write_walk (Some w) o a st go = refl

  turns_walk : (n : ℕ) (part : Names → ℕ → Onward → Tree) (part' : State W → Course W) → ((st : State W) (go : Onward) → from (part st.names st.left go) st ≡ carry (part' st) (onward go)) → (st : State W) (go : Onward) → from (asked_turns n part st.names st.left go) st ≡ carry (turns A n part' st) (onward go)
  turns_walk zero part part' h st go = refl
  turns_walk (suc n) part part' h st go =
      h st (λ names' left'. asked_turns n part names' left' go)
      ∙ carry-same (part' st) _ _ (λ st'. turns_walk n part part' h st' go)
      ∙ sym (carry-then (part' st) (turns A n part') (onward go))

  mutual
    pub begun_walk : (x : Step) (st : State W) (go : Onward) → from (asked x st.names st.left go) st ≡ carry (begun A x st) (onward go)
    begun_walk (Let l name x) st go = with_walk (value st.names x) l st _ _ (onward go) (λ a. refl)
    begun_walk (Read l name place) st go = with_walk (object_at st.names place) l st _ _ (onward go) (λ o. read_walk (A.read st.world o) name o st go)
    begun_walk (Write l place x) st go = with_walk (object_at st.names place) l st _ _ (onward go) (λ o. with_walk (value st.names x) l st _ _ (onward go) (λ a. write_walk (A.write st.world o a) o a st go))
    begun_walk (Print l x) st go = with_walk (value st.names x) l st _ _ (onward go) (λ a. refl)
    begun_walk (If l x part e) st go = with_walk (condition st.names x) l st _ _ (onward go) (λ holds. if_walk holds st _ _ _ _ (onward go) (all_walk part st go) refl)
    begun_walk (IfElse l x first m second e) st go = with_walk (condition st.names x) l st _ _ (onward go) (λ holds. if_walk holds st _ _ _ _ (onward go) (all_walk first st go) (all_walk second st go))
    begun_walk (Repeat l x part e) st go = with_walk (count st.names x) l st _ _ (onward go) (λ n. turns_walk n (all_asked part) (all_done A part) (λ st' go'. all_walk part st' go') st go)
    begun_walk (Withdraw l) st go = refl

    pub all_walk : (b : Block) (st : State W) (go : Onward) → from (all_asked b st.names st.left go) st ≡ carry (all_done A b st) (onward go)
    all_walk End st go = refl
    all_walk (Then x part) st go =
        room_walk st.left (line_of x) st _ (begun A x) (λ st'. carry (all_done A part st') (onward go)) (λ left'.
        begun_walk x (record st { left = left' }) (λ names' left''. all_asked part names' left'' go)
        ∙ carry-same (begun A x (record st { left = left' })) _ _ (λ st'. all_walk part st' go))
        ∙ sym (carry-then (counted A st.left (line_of x) st (begun A x)) (all_done A part) (onward go))

  finished-carry : (o : Course W) → carry o (onward (λ names left. Ends ending.Finished)) ≡ finished A o
  finished-carry (Goes st) = refl
  finished-carry (Stops came) = refl

  -- a script is the walk through its questions
  pub carried_out-walk : (script : Block) (w : W) → carried_out A script w ≡ walk A (denote script) [] w
  carried_out-walk script w =
      sym (all_walk script (record { names = []; left = 10000; lines = []; world = w }) (λ names left. Ends ending.Finished) ∙ finished-carry (all_done A script (record { names = []; left = 10000; lines = []; world = w })))

-- ---- the walk of a map

abbrev came_told : List Line → Tree → Objects → Came Objects
came_told lines t m = record { stop = (talked_alone t m).stop; lines = lines ++ (talked_alone t m).lines; world = left_by t m }

one_more : (lines rest : List Line) (l : Line) (s : Stop) (m : Objects) → ◌≡◌ {A = Came Objects} (record { stop = s; lines = (lines ++ l ∷ []) ++ rest; world = m }) (record { stop = s; lines = lines ++ (l ∷ rest); world = m })
one_more lines rest l s m = ap (λ z. record { stop = s; lines = z; world = m }) (append_assoc lines (l ∷ []) rest)

walk-told : (t : Tree) (lines : List Line) (m : Objects) → walk over_objects t lines m ≡ came_told lines t m
walk-told (Ends e) lines m = ap (λ z. record { stop = Over e; lines = z; world = m }) (sym (append-nil lines))
walk-told (Says a t) lines m = walk-told t (lines ++ line.Print a ∷ []) m ∙ one_more lines (talked_alone t m).lines (line.Print a) (talked_alone t m).stop (left_by t m)
walk-told (Reads o k) lines m = walk-told (k (value_at m o)) (lines ++ line.Read o (value_at m o) ∷ []) m ∙ one_more lines (talked_alone (k (value_at m o)) m).lines (line.Read o (value_at m o)) (talked_alone (k (value_at m o)) m).stop (left_by (k (value_at m o)) m)
walk-told (Writes o a t) lines m = walk-told t (lines ++ line.Wrote o a ∷ []) (finite.insert m o a) ∙ one_more lines (talked_alone t (finite.insert m o a)).lines (line.Wrote o a) (talked_alone t (finite.insert m o a)).stop (left_by t (finite.insert m o a))

pub perform-told : (script : Block) (m : Objects) → carried_out over_objects script m ≡ record { stop = (talked_alone (denote script) m).stop; lines = (talked_alone (denote script) m).lines; world = left_by (denote script) m }
perform-told script m = carried_out-walk over_objects script m ∙ walk-told (denote script) [] m

-- ---- the walk of a list of answers

abbrev shown : Came (List Answer) → Talked
shown c = record { lines = c.lines; stop = c.stop }

abbrev put_before : List Line → Talked → Talked
put_before lines t = record { lines = lines ++ t.lines; stop = t.stop }

here : (lines : List Line) (s : Stop) → ◌≡◌ {A = Talked} (record { lines = lines; stop = s }) (put_before lines (record { lines = []; stop = s }))
here lines s = ap (λ z. record { lines = z; stop = s }) (sym (append-nil lines))

later : (lines : List Line) (l : Line) (t : Talked) → put_before (lines ++ l ∷ []) t ≡ put_before lines (line_before l t)
later lines l t = ap (λ z. record { lines = z; stop = t.stop }) (append_assoc lines (l ∷ []) t.lines)

walk-talked : (t : Tree) (lines : List Line) (ans : List Answer) → shown (walk by_answers t lines ans) ≡ put_before lines (talked t ans)
walk-talked (Ends e) lines ans = here lines (Over e)
walk-talked (Says a t) lines ans = walk-talked t (lines ++ line.Print a ∷ []) ans ∙ later lines (line.Print a) (talked t ans)
walk-talked (Reads o k) lines [] = here lines (Asks (ToRead o))
walk-talked (Reads o k) lines (Got a ∷ ans) = walk-talked (k a) (lines ++ line.Read o a ∷ []) ans ∙ later lines (line.Read o a) (talked (k a) ans)
walk-talked (Reads o k) lines (Stored ∷ ans) = here lines (Asks (ToRead o))
walk-talked (Writes o a t) lines [] = here lines (Asks (ToWrite o a))
walk-talked (Writes o a t) lines (Stored ∷ ans) = walk-talked t (lines ++ line.Wrote o a ∷ []) ans ∙ later lines (line.Wrote o a) (talked t ans)
walk-talked (Writes o a t) lines (Got b ∷ ans) = here lines (Asks (ToWrite o a))

pub talk-talked : (script : Block) (ans : List Answer) → shown (carried_out by_answers script ans) ≡ talked (denote script) ans
talk-talked script ans = ap shown (carried_out-walk by_answers script ans) ∙ walk-talked (denote script) [] ans
