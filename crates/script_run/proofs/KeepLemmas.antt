-- A step of a run keeps where the script comes to.
use Rattle.script_run.proofs.Names.{◌≡◌, ◌≢◌, ℕ, zero, suc, ◌+◌, ◌-◌, Bool, true, false, List, [], ◌∷◌, drop, Option, Some, None, Result, Ok, Err, ⊎_elim, refl, sym, ap, ◌∙◌, subst, arith, append-nil, slice_get, if◌then◌else◌, FailKind, ObjectId, Stmt, out-Stmt, Stmt-F, Value, plain, block, term, spot, shape, plain-out, State, Came, Course, Goes, Stops, Over, Answer, by_answers, then_do, valued, turns, begun, done, all_done, value, object_at, condition, count, answers_of, Part, Frame, Standing, state_of, More, Again, then_come, resume, part_of, entered_in, further, inner, ahead, goes_to, Arrival, Onward, AtRead, AtWrite, AtEnd, on_value, into_part, repeating, chosen_part, begun_at, counted_at, left_by, left_from, at_end, step_at, step, counted, SameAhead}
use Rattle.std.proofs.lemmas.List.{drop_more, drop_all}
use Rattle.std.proofs.lemmas.Option.{slice_get_within, get_or_from_slice_get, slice_get_cases}
use Rattle.value_form.specs.declared.transcripts.Line.TheVariants as line
use Rattle.script_run.specs.declared.frames.Part.TheVariants as part
use Rattle.script_run.proofs.LineLemmas.{answers_of-append}

abbrev St : Type 0
St = State (List Answer)

abbrev Out : Type 0
Out = Course (List Answer)

abbrev End : Type 0
End = Came (List Answer)

pub then_come-then_do : (o : Out) (f : St → Out) (g : St → End) → then_come (then_do by_answers o f) g ≡ then_come o (λ st. then_come (f st) g)
then_come-then_do (Goes st) f g = refl
then_come-then_do (Stops came) f g = refl

-- the elements from an index on
drop_some : {X : Type 0} (xs : List X) (i : ℕ) (x : X) → slice_get xs i ≡ Some x → drop i xs ≡ x ∷ drop (i + 1) xs
drop_some xs i x is = drop_more xs i x (slice_get_within xs i x is) ∙ ap (λ y. y ∷ drop (i + 1) xs) (get_or_from_slice_get xs i x x is)

drop_none : {X : Type 0} (xs : List X) (i : ℕ) → slice_get xs i ≡ None → drop i xs ≡ []
drop_none xs i is = ⊎_elim (λ f. absurd (let never : ⊥ = cc (f.2, is) in never)) (λ g. drop_all i xs g.0) (slice_get_cases xs i).1

-- the part that is repeated is the same in each turn
same_layer : (n m : ℕ) (x : Stmt-F Stmt) → part_of x (part.Repeated n) ≡ part_of x (part.Repeated m)
same_layer n m (Stmt-F.Let l name x) = refl
same_layer n m (Stmt-F.Read l name place) = refl
same_layer n m (Stmt-F.Write l place x) = refl
same_layer n m (Stmt-F.Print l x) = refl
same_layer n m (Stmt-F.If l x a e) = refl
same_layer n m (Stmt-F.IfElse l x a k b e) = refl
same_layer n m (Stmt-F.Repeat l x a e) = refl
same_layer n m (Stmt-F.Withdraw l) = refl

same_part : (n m : ℕ) (o : Option Stmt) → entered_in (part.Repeated n) o ≡ entered_in (part.Repeated m) o
same_part n m None = refl
same_part n m (Some x) = same_layer n m (out-Stmt x)

-- from a statement on: the statement, and then what comes after it
pub ahead_some : (script : List Stmt) (s : Standing) (x : Stmt) (w : List Answer) → slice_get (inner script s.path).statements s.at ≡ Some x → goes_to script s w ≡ then_come (done by_answers (shape (out-Stmt x)) (state_of s w)) (resume (ahead script (record s { at = s.at + 1 })))
ahead_some script s x w is =
    ap (λ xs. resume (More (block xs) (inner script s.path).rest) (state_of s w)) (drop_some (inner script s.path).statements s.at x is)
    ∙ then_come-then_do (done by_answers (plain x) (state_of s w)) (all_done by_answers (block (drop (s.at + 1) (inner script s.path).statements))) (resume (inner script s.path).rest)
    ∙ ap (λ z. then_come (done by_answers z (state_of s w)) (resume (ahead script (record s { at = s.at + 1 })))) (plain-out x)

module _ (script : List Stmt) (w : List Answer) where
  -- what an arrival from s means
  abbrev pub meant : Standing → Arrival → End
  meant s (Onward t) = goes_to script t w
  meant s (AtRead name o) = goes_to script s w
  meant s (AtWrite o a) = goes_to script s w
  meant s (AtEnd e) = record { stop = Over e; lines = s.lines; world = w }

  -- the end of a part
  left_keeps : (s : Standing) (f : Frame) (fs : List Frame) (q : Part) → resume (inner script ((record f { part = q }) ∷ fs)).rest (state_of s w) ≡ meant s (at_end s (Some (left_by f fs q)))
  left_keeps s f fs part.First = refl
  left_keeps s f fs part.Second = refl
  left_keeps s f fs (part.Repeated zero) = refl
  left_keeps s f fs (part.Repeated (suc n)) =
      let o = slice_get (inner script fs).statements (f.after - 1) in
      let k = More (block (drop f.after (inner script fs).statements)) (inner script fs).rest in
      ap (λ z. resume (Again (suc n) (block z) k) (state_of s w)) (same_part (suc n) n o)
      ∙ then_come-then_do (all_done by_answers (block (entered_in (part.Repeated n) o)) (state_of s w)) (turns by_answers n (all_done by_answers (block (entered_in (part.Repeated n) o)))) (resume k)

  end_keeps : (s : Standing) (path : List Frame) → resume (inner script path).rest (state_of s w) ≡ meant s (at_end s (left_from path))
  end_keeps s [] = refl
  end_keeps s (f ∷ fs) = left_keeps s f fs f.part

  -- what was evaluated
  valued_keeps : {A : Type 0} (s : Standing) (n : ℕ) (r : Result A FailKind) (l : ℕ) (go : A → Out) (k : St → End) (on : A → Arrival) → ((x : A) → then_come (go x) k ≡ meant s (on x)) → then_come (valued by_answers r l (state_of (record s { left = n }) w) go) k ≡ meant s (on_value r l on)
  valued_keeps s n (Ok x) l go k on h = h x
  valued_keeps s n (Err e) l go k on h = refl

  -- a request, where the machine stops
  asked_keeps : {A : Type 0} (s : Standing) (n : ℕ) (r : Result A FailKind) (l : ℕ) (go : A → Out) (k : St → End) (on : A → Arrival) → goes_to script s w ≡ then_come (valued by_answers r l (state_of (record s { left = n }) w) go) k → ((x : A) → meant s (on x) ≡ goes_to script s w) → then_come (valued by_answers r l (state_of (record s { left = n }) w) go) k ≡ meant s (on_value r l on)
  asked_keeps s n (Ok x) l go k on back h = sym back ∙ sym (h x)
  asked_keeps s n (Err e) l go k on back h = refl

  write_keeps : (s : Standing) (n : ℕ) (r : Result ObjectId FailKind) (t : Result Value FailKind) (l : ℕ) (go : ObjectId → Value → Out) (k : St → End) → goes_to script s w ≡ then_come (valued by_answers r l (state_of (record s { left = n }) w) (λ o. valued by_answers t l (state_of (record s { left = n }) w) (go o))) k → then_come (valued by_answers r l (state_of (record s { left = n }) w) (λ o. valued by_answers t l (state_of (record s { left = n }) w) (go o))) k ≡ meant s (on_value r l (λ o. on_value t l (λ a. AtWrite o a)))
  write_keeps s n (Ok o) t l go k back = asked_keeps s n t l (go o) k (λ a. AtWrite o a) back (λ a. refl)
  write_keeps s n (Err e) t l go k back = refl

  -- a part that was entered, and then the statements after it
  into_keeps : (s : Standing) (n : ℕ) (q : Part) (b : List Stmt) → entered_in q (slice_get (inner script s.path).statements s.at) ≡ b → resume (More (block b) (further q b (ahead script (record s { at = s.at + 1 })))) (state_of (record s { left = n }) w) ≡ meant s (into_part (record s { left = n }) q)
  into_keeps s n q b is =
      let back : s.at + 1 - 1 ≡ s.at = omega arith in
      let there : entered_in q (slice_get (inner script s.path).statements (s.at + 1 - 1)) ≡ b = ap (λ i. entered_in q (slice_get (inner script s.path).statements i)) back ∙ is in
      ap (λ z. resume (More (block z) (further q z (ahead script (record s { at = s.at + 1 })))) (state_of (record s { left = n }) w)) (sym there)

  repeating_keeps : (s : Standing) (n m : ℕ) (b : List Stmt) → ((k : ℕ) → entered_in (part.Repeated k) (slice_get (inner script s.path).statements s.at) ≡ b) → then_come (turns by_answers m (all_done by_answers (block b)) (state_of (record s { left = n }) w)) (resume (ahead script (record s { at = s.at + 1 }))) ≡ meant s (repeating (record s { left = n }) m)
  repeating_keeps s n zero b is = refl
  repeating_keeps s n (suc m) b is =
      then_come-then_do (all_done by_answers (block b) (state_of (record s { left = n }) w)) (turns by_answers m (all_done by_answers (block b))) (resume (ahead script (record s { at = s.at + 1 })))
      ∙ into_keeps s n (part.Repeated m) b (is m)

  if_keeps : (s : Standing) (n : ℕ) (holds : Bool) (a : List Stmt) → entered_in part.First (slice_get (inner script s.path).statements s.at) ≡ a → then_come (if holds then all_done by_answers (block a) (state_of (record s { left = n }) w) else Goes (state_of (record s { left = n }) w)) (resume (ahead script (record s { at = s.at + 1 }))) ≡ meant s (chosen_part (record s { left = n }) holds None)
  if_keeps s n true a is = into_keeps s n part.First a is
  if_keeps s n false a is = refl

  if_else_keeps : (s : Standing) (n : ℕ) (holds : Bool) (a b : List Stmt) → entered_in part.First (slice_get (inner script s.path).statements s.at) ≡ a → entered_in part.Second (slice_get (inner script s.path).statements s.at) ≡ b → then_come (if holds then all_done by_answers (block a) (state_of (record s { left = n }) w) else all_done by_answers (block b) (state_of (record s { left = n }) w)) (resume (ahead script (record s { at = s.at + 1 }))) ≡ meant s (chosen_part (record s { left = n }) holds (Some part.Second))
  if_else_keeps s n true a b is_a is_b = into_keeps s n part.First a is_a
  if_else_keeps s n false a b is_a is_b = into_keeps s n part.Second b is_b

  -- a statement for which the budget had room
  begun_keeps : (s : Standing) (n : ℕ) (x : Stmt-F Stmt) → ((q : Part) → entered_in q (slice_get (inner script s.path).statements s.at) ≡ part_of x q)
      → goes_to script s w ≡ then_come (begun by_answers (shape x) (state_of (record s { left = n }) w)) (resume (ahead script (record s { at = s.at + 1 })))
      → then_come (begun by_answers (shape x) (state_of (record s { left = n }) w)) (resume (ahead script (record s { at = s.at + 1 }))) ≡ meant s (begun_at (record s { left = n }) x)
  begun_keeps s n (Stmt-F.Let l name x) parts back = valued_keeps s n (value s.names (term x)) l _ _ _ (λ a. refl)
  begun_keeps s n (Stmt-F.Read l name place) parts back = asked_keeps s n (object_at s.names (spot place)) l _ _ _ back (λ o. refl)
  begun_keeps s n (Stmt-F.Write l place x) parts back = write_keeps s n (object_at s.names (spot place)) (value s.names (term x)) l _ _ back
  begun_keeps s n (Stmt-F.Print l x) parts back = valued_keeps s n (value s.names (term x)) l _ _ _ (λ a. refl)
  begun_keeps s n (Stmt-F.If l x a e) parts back = valued_keeps s n (condition s.names (term x)) l _ _ _ (λ holds. if_keeps s n holds a (parts part.First))
  begun_keeps s n (Stmt-F.IfElse l x a m b e) parts back = valued_keeps s n (condition s.names (term x)) l _ _ _ (λ holds. if_else_keeps s n holds a b (parts part.First) (parts part.Second))
  begun_keeps s n (Stmt-F.Repeat l x a e) parts back = valued_keeps s n (count s.names (term x)) l _ _ _ (λ m. repeating_keeps s n m a (λ k. parts (part.Repeated k)))
  begun_keeps s n (Stmt-F.Withdraw l) parts back = refl

  counted_keeps : (s : Standing) (left : ℕ) (x : Stmt-F Stmt) → ((q : Part) → entered_in q (slice_get (inner script s.path).statements s.at) ≡ part_of x q)
      → goes_to script (record s { left = left }) w ≡ then_come (done by_answers (shape x) (state_of (record s { left = left }) w)) (resume (ahead script (record s { at = s.at + 1 })))
      → then_come (done by_answers (shape x) (state_of (record s { left = left }) w)) (resume (ahead script (record s { at = s.at + 1 }))) ≡ meant (record s { left = left }) (counted_at left (record s { left = left }) x)
  counted_keeps s zero x parts back = refl
  counted_keeps s (suc n) x parts back = begun_keeps (record s { left = suc n }) n x parts back

  at_keeps : (s : Standing) (o : Option Stmt) → slice_get (inner script s.path).statements s.at ≡ o → goes_to script s w ≡ meant s (step_at s o)
  at_keeps s None is = ap (λ xs. resume (More (block xs) (inner script s.path).rest) (state_of s w)) (drop_none (inner script s.path).statements s.at is) ∙ end_keeps s s.path
  at_keeps s (Some x) is =
      let there = ahead_some script s x w is in
      there ∙ counted_keeps s s.left (out-Stmt x) (λ q. ap (entered_in q) is) there

  pub step_keeps : (s : Standing) → goes_to script s w ≡ meant s (step script s)
  step_keeps s = at_keeps s (slice_get (inner script s.path).statements s.at) refl

-- ---- a step shows no answer

abbrev SameAnswers : Standing → Arrival → Type 0
SameAnswers s (Onward t) = answers_of t.lines ≡ answers_of s.lines
SameAnswers s (AtRead name o) = Unit {0}
SameAnswers s (AtWrite o a) = Unit {0}
SameAnswers s (AtEnd e) = Unit {0}

on_answers : {A : Type 0} (s : Standing) (r : Result A FailKind) (l : ℕ) (on : A → Arrival) → ((x : A) → SameAnswers s (on x)) → SameAnswers s (on_value r l on)
on_answers s (Ok x) l on h = h x
on_answers s (Err k) l on h = tt

chosen_answers : (s : Standing) (n : ℕ) (holds : Bool) (second : Option Part) → SameAnswers s (chosen_part (record s { left = n }) holds second)
chosen_answers s n true second = refl
chosen_answers s n false (Some q) = refl
chosen_answers s n false None = refl

repeating_answers : (s : Standing) (n m : ℕ) → SameAnswers s (repeating (record s { left = n }) m)
repeating_answers s n zero = refl
repeating_answers s n (suc m) = refl

counted_answers : (s : Standing) (left : ℕ) (x : Stmt-F Stmt) → SameAnswers s (counted_at left s x)
counted_answers s zero x = tt
counted_answers s (suc n) (Stmt-F.Let l name x) = on_answers s (value s.names (term x)) l _ (λ a. refl)
counted_answers s (suc n) (Stmt-F.Read l name place) = on_answers s (object_at s.names (spot place)) l _ (λ o. tt)
counted_answers s (suc n) (Stmt-F.Write l place x) = on_answers s (object_at s.names (spot place)) l _ (λ o. on_answers s (value s.names (term x)) l _ (λ a. tt))
counted_answers s (suc n) (Stmt-F.Print l x) = on_answers s (value s.names (term x)) l _ (λ a. answers_of-append s.lines (line.Print a ∷ []) ∙ append-nil (answers_of s.lines))
counted_answers s (suc n) (Stmt-F.If l x a e) = on_answers s (condition s.names (term x)) l _ (λ holds. chosen_answers s n holds None)
counted_answers s (suc n) (Stmt-F.IfElse l x a m b e) = on_answers s (condition s.names (term x)) l _ (λ holds. chosen_answers s n holds (Some part.Second))
counted_answers s (suc n) (Stmt-F.Repeat l x a e) = on_answers s (count s.names (term x)) l _ (λ m. repeating_answers s n m)
counted_answers s (suc n) (Stmt-F.Withdraw l) = tt

end_answers : (s : Standing) (o : Option (ℕ × List Frame)) → SameAnswers s (at_end s o)
end_answers s None = tt
end_answers s (Some p) = refl

at_answers : (s : Standing) (o : Option Stmt) → SameAnswers s (step_at s o)
at_answers s None = end_answers s (left_from s.path)
at_answers s (Some x) = counted_answers s s.left (out-Stmt x)

pub step_same : (script : List Stmt) (s t : Standing) → step script s ≡ Onward t → SameAhead script s t
step_same script s t is = record {
  by = λ w. step_keeps script w s ∙ ap (meant script w s) is;
  answers = subst (SameAnswers s) is (at_answers s (slice_get (inner script s.path).statements s.at));
}

-- a statement for which the budget has room begins
pub counted_more : (s : Standing) (left : ℕ) (x : Stmt-F Stmt) → left ≢ 0 → counted_at left (record s { left = left }) x ≡ begun_at (counted (record s { left = left })) x
counted_more s zero x more = absurd (more refl)
counted_more s (suc n) x more = let less : n ≡ suc n - 1 = omega arith in ap (λ k. begun_at (record s { left = k }) x) less

pub then_same : (script : List Stmt) (a b c : Standing) → SameAhead script a b → SameAhead script b c → SameAhead script a c
then_same script a b c f g = record { by = λ w. f.by w ∙ g.by w; answers = g.answers ∙ f.answers }
