-- The answer to a request goes on with the script; without one it stops there.
use Rattle.script_run.proofs.Names.{◌≡◌, ℕ, zero, suc, ◌+◌, ◌-◌, Bool, true, false, List, [], ◌∷◌, ◌++◌, Option, Some, None, Result, Ok, Err, refl, ap, ◌∙◌, arith, slice_get, if◌then◌else◌, FailKind, ObjectId, Stmt, out-Stmt, Stmt-F, Value, with_name, term, spot, shape, Request, ToRead, ToWrite, Asks, Came, Answer, Got, Stored, by_answers, got_from, stored_from, valued, read_of, write_of, done, begun, value, object_at, condition, count, Frame, Standing, state_of, then_come, resume, inner, ahead, goes_to, Arrival, Onward, AtRead, AtWrite, AtEnd, on_value, repeating, chosen_part, begun_at, counted_at, left_from, at_end, step_at, step}
use Rattle.value_form.specs.declared.transcripts.Line.TheVariants as line
use Rattle.script_run.specs.declared.frames.Part.TheVariants as part
use Rattle.script_run.proofs.KeepLemmas.{ahead_some}

-- once a read or a write was answered
abbrev pub after_read : List ℕ → ObjectId → Value → Standing → Standing
after_read name o a s = record s { names = with_name s.names name a; lines = s.lines ++ line.Read o a ∷ []; left = s.left - 1; at = s.at + 1 }

abbrev pub after_write : ObjectId → Value → Standing → Standing
after_write o a s = record s { lines = s.lines ++ line.Wrote o a ∷ []; left = s.left - 1; at = s.at + 1 }

abbrev pub waits : Request → Standing → Came (List Answer)
waits q s = record { stop = Asks q; lines = s.lines; world = [] }

-- what an arrival says of the answer to it
abbrev pub IsAnswered : List Stmt → Standing → Arrival → Type 0
IsAnswered script s (Onward t) = Unit {0}
IsAnswered script s (AtRead name o) = ((a : Value) (w : List Answer) → goes_to script s (Got a ∷ w) ≡ goes_to script (after_read name o a s) w) × (goes_to script s [] ≡ waits (ToRead o) s)
IsAnswered script s (AtWrite o a) = ((w : List Answer) → goes_to script s (Stored ∷ w) ≡ goes_to script (after_write o a s) w) × (goes_to script s [] ≡ waits (ToWrite o a) s)
IsAnswered script s (AtEnd e) = Unit {0}

one_less : (n : ℕ) → n ≡ suc n - 1
one_less n = omega arith

module _ (script : List Stmt) where
  read_answered : (s : Standing) (n l : ℕ) (name : List ℕ) (r : Result ObjectId FailKind)
      → ((w : List Answer) → goes_to script (record s { left = suc n }) w ≡ then_come (valued by_answers r l (state_of (record s { left = n }) w) (λ o. read_of by_answers (got_from w o) name o (state_of (record s { left = n }) w))) (resume (ahead script (record s { at = s.at + 1 }))))
      → IsAnswered script (record s { left = suc n }) (on_value r l (λ o. AtRead name o))
  read_answered s n l name (Ok o) there = (
    (λ a w. there (Got a ∷ w) ∙ ap (λ k. resume (ahead script (record s { at = s.at + 1 })) (record { names = with_name s.names name a; left = k; lines = s.lines ++ line.Read o a ∷ []; world = w })) (one_less n)),
    there [],
  )
  read_answered s n l name (Err k) there = tt

  write_answered : (s : Standing) (n l : ℕ) (r : Result ObjectId FailKind) (t : Result Value FailKind)
      → ((w : List Answer) → goes_to script (record s { left = suc n }) w ≡ then_come (valued by_answers r l (state_of (record s { left = n }) w) (λ o. valued by_answers t l (state_of (record s { left = n }) w) (λ a. write_of by_answers (stored_from w o a) o a (state_of (record s { left = n }) w)))) (resume (ahead script (record s { at = s.at + 1 }))))
      → IsAnswered script (record s { left = suc n }) (on_value r l (λ o. on_value t l (λ a. AtWrite o a)))
  write_answered s n l (Ok o) (Ok a) there = (
    (λ w. there (Stored ∷ w) ∙ ap (λ k. resume (ahead script (record s { at = s.at + 1 })) (record { names = s.names; left = k; lines = s.lines ++ line.Wrote o a ∷ []; world = w })) (one_less n)),
    there [],
  )
  write_answered s n l (Ok o) (Err k) there = tt
  write_answered s n l (Err k) t there = tt

  on_answered : {A : Type 0} (s : Standing) (r : Result A FailKind) (l : ℕ) (on : A → Arrival) → ((x : A) → IsAnswered script s (on x)) → IsAnswered script s (on_value r l on)
  on_answered s (Ok x) l on h = h x
  on_answered s (Err k) l on h = tt

  chosen_answered : (s t : Standing) (holds : Bool) (second : Bool) → IsAnswered script s (chosen_part t holds (if second then Some part.Second else None))
  chosen_answered s t true second = tt
  chosen_answered s t false true = tt
  chosen_answered s t false false = tt

  repeating_answered : (s t : Standing) (m : ℕ) → IsAnswered script s (repeating t m)
  repeating_answered s t zero = tt
  repeating_answered s t (suc m) = tt

  begun_answered : (s : Standing) (n : ℕ) (x : Stmt-F Stmt)
      → ((w : List Answer) → goes_to script (record s { left = suc n }) w ≡ then_come (begun by_answers (shape x) (state_of (record s { left = n }) w)) (resume (ahead script (record s { at = s.at + 1 }))))
      → IsAnswered script (record s { left = suc n }) (begun_at (record s { left = n }) x)
  begun_answered s n (Stmt-F.Let l name x) there = on_answered (record s { left = suc n }) (value s.names (term x)) l _ (λ a. tt)
  begun_answered s n (Stmt-F.Read l name place) there = read_answered s n l name (object_at s.names (spot place)) there
  begun_answered s n (Stmt-F.Write l place x) there = write_answered s n l (object_at s.names (spot place)) (value s.names (term x)) there
  begun_answered s n (Stmt-F.Print l x) there = on_answered (record s { left = suc n }) (value s.names (term x)) l _ (λ a. tt)
  begun_answered s n (Stmt-F.If l x a e) there = on_answered (record s { left = suc n }) (condition s.names (term x)) l _ (λ holds. chosen_answered (record s { left = suc n }) (record s { left = n }) holds false)
  begun_answered s n (Stmt-F.IfElse l x a m b e) there = on_answered (record s { left = suc n }) (condition s.names (term x)) l _ (λ holds. chosen_answered (record s { left = suc n }) (record s { left = n }) holds true)
  begun_answered s n (Stmt-F.Repeat l x a e) there = on_answered (record s { left = suc n }) (count s.names (term x)) l _ (λ m. repeating_answered (record s { left = suc n }) (record s { left = n }) m)
  begun_answered s n (Stmt-F.Withdraw l) there = tt

  counted_answered : (s : Standing) (left : ℕ) (x : Stmt-F Stmt)
      → ((w : List Answer) → goes_to script (record s { left = left }) w ≡ then_come (done by_answers (shape x) (state_of (record s { left = left }) w)) (resume (ahead script (record s { at = s.at + 1 }))))
      → IsAnswered script (record s { left = left }) (counted_at left (record s { left = left }) x)
  counted_answered s zero x there = tt
  counted_answered s (suc n) x there = begun_answered s n x there

  end_answered : (s : Standing) (o : Option (ℕ × List Frame)) → IsAnswered script s (at_end s o)
  end_answered s None = tt
  end_answered s (Some p) = tt

  at_answered : (s : Standing) (o : Option Stmt) → slice_get (inner script s.path).statements s.at ≡ o → IsAnswered script s (step_at s o)
  at_answered s None is = end_answered s (left_from s.path)
  at_answered s (Some x) is = counted_answered s s.left (out-Stmt x) (λ w. ahead_some script s x w is)

  pub step_answered : (s : Standing) → IsAnswered script s (step script s)
  step_answered s = at_answered s (slice_get (inner script s.path).statements s.at) refl
