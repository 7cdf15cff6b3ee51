-- What always holds of a run, from call to call.
use Rattle.script_run.proofs.Names.{◌≡◌, ℕ, ◌+◌, ◌-◌, List, [], ◌∷◌, ◌++◌, Option, Some, None, refl, sym, ap, ◌∙◌, subst, append_assoc, append-nil, ObjectId, Stmt, Line, Value, with_name, block, Over, Answer, Got, Stored, talk, answers_of, Halt, RunParts, answered, stop_of, Tells, Standing, named, goes_to, step, stand_of, arrival_of, SameAhead, HasStopped}
use Rattle.value_form.specs.declared.endings.Ending.{Ending}
use Rattle.value_form.specs.declared.endings.Ending.TheVariants as ending
use Rattle.value_form.specs.declared.transcripts.Line.TheVariants as line
use Rattle.script_run.specs.declared.halts.Halt.TheVariants as halt
use Rattle.std.specs.Global.{Vec}
use Rattle.script_run.specs.declared.nexts.Next.{Next}
use Rattle.script_run.specs.declared.nexts.Next.TheVariants as next
use Rattle.script_run.specs.declared.machines.Machine.{Machine}
use Rattle.script_run.specs.Runs.{end_of, next_of, said_at, told_by, IsRun}
use Rattle.script_run.proofs.LineLemmas.{answers_of-append, last_value-append}
use Rattle.script_run.proofs.KeepLemmas.{meant, step_keeps}
use Rattle.script_run.proofs.AskLemmas.{IsAnswered, step_answered}

-- the line of an answer is one more answer
one_more : (ls : List Line) (l : Line) (a : Answer) (w : List Answer) → answers_of (l ∷ []) ≡ a ∷ [] → answers_of (ls ++ l ∷ []) ++ w ≡ answers_of ls ++ a ∷ w
one_more ls l a w is = ap (λ z. z ++ w) (answers_of-append ls (l ∷ []) ∙ ap (λ z. answers_of ls ++ z) is) ∙ append_assoc (answers_of ls) (a ∷ []) w

-- where it has stopped, no name waits
here : (script : List Stmt) (m : Machine) (waiting : Option (List ℕ)) (h : Halt) → IsRun script m waiting (Some h) → (w : List Answer) → goes_to script (stand_of m) w ≡ talk (block script) (answers_of m.lines.items ++ w)
here script m waiting h r w = ap (λ z. goes_to script (named z (stand_of m)) w) (sym r.fits.0) ∙ r.ahead_is w

pub gives : (script : List Stmt) (m n : Machine) (waiting : Option (List ℕ)) (name : List ℕ) (o : ObjectId) (a : Value) → IsRun script m waiting (Some (halt.Read name o)) → stand_of n ≡ record (stand_of m) { lines = m.lines.items ++ line.Read o a ∷ []; left = m.left - 1; at = m.at + 1 } → IsRun script n (Some name) None
gives script m n waiting name o a r is = record {
  in_range = r.in_range;
  ahead_is = λ w.
      let asks = subst (IsAnswered script (stand_of m)) r.fits.1.is (step_answered script (stand_of m)) in
      ap (λ z. goes_to script (named (Some name) z) w) is
      ∙ ap (λ v. goes_to script (record (stand_of m) { names = with_name m.names name v; lines = m.lines.items ++ line.Read o a ∷ []; left = m.left - 1; at = m.at + 1 }) w) (last_value-append m.lines.items (line.Read o a))
      ∙ sym (asks.0 a w) ∙ here script m waiting (halt.Read name o) r (Got a ∷ w)
      ∙ ap (talk (block script)) (sym (one_more m.lines.items (line.Read o a) (Got a) w refl) ∙ ap (λ z. answers_of z.lines ++ w) (sym is));
  fits = tt;
}

pub stores : (script : List Stmt) (m n : Machine) (waiting : Option (List ℕ)) (o : ObjectId) (a : Value) → IsRun script m waiting (Some (halt.Write o a)) → stand_of n ≡ record (stand_of m) { lines = m.lines.items ++ line.Wrote o a ∷ []; left = m.left - 1; at = m.at + 1 } → IsRun script n waiting None
stores script m n waiting o a r is = record {
  in_range = r.in_range;
  ahead_is = λ w.
      let asks = subst (IsAnswered script (stand_of m)) r.fits.1.is (step_answered script (stand_of m)) in
      ap (λ z. goes_to script (named z (stand_of n)) w) r.fits.0 ∙ ap (λ z. goes_to script z w) is
      ∙ sym (asks.0 w) ∙ here script m waiting (halt.Write o a) r (Stored ∷ w)
      ∙ ap (talk (block script)) (sym (one_more m.lines.items (line.Wrote o a) Stored w refl) ∙ ap (λ z. answers_of z.lines ++ w) (sym is));
  fits = tt;
}

-- ---- what it tells

end_is : (e : Ending) → stop_of (end_of e) ≡ Over e
end_is ending.Finished = refl
end_is (ending.Withdrawn l) = refl
end_is (ending.Failed l k) = refl

stops : (script : List Stmt) (s : Standing) (h : Halt) → step script s ≡ arrival_of h → goes_to script s [] ≡ record { stop = stop_of (next_of h); lines = s.lines; world = [] }
stops script s (halt.Read name o) is = (subst (IsAnswered script s) is (step_answered script s)).1
stops script s (halt.Write o a) is = (subst (IsAnswered script s) is (step_answered script s)).1
stops script s (halt.End e) is = step_keeps script [] s ∙ ap (meant script [] s) is ∙ ap (λ z. record { stop = z; lines = s.lines; world = [] }) (sym (end_is e))

pub tells : (script : List Stmt) (m : Machine) (waiting : Option (List ℕ)) (h : Halt) → IsRun script m waiting (Some h) → Tells script (answers_of m.lines.items) m.lines.items (next_of h)
tells script m waiting h r =
    ap (talk (block script)) (sym (append-nil (answers_of m.lines.items))) ∙ sym (here script m waiting h r []) ∙ stops script (stand_of m) h r.fits.1.is

-- ---- the way from a request to the next

named_lines : (waiting : Option (List ℕ)) (s : Standing) → (named waiting s).lines ≡ s.lines
named_lines None s = refl
named_lines (Some name) s = refl

-- a name got its value
pub settles : (script : List Stmt) (m n : Machine) (waiting : Option (List ℕ)) → IsRun script m waiting None → stand_of n ≡ named waiting (stand_of m) → IsRun script n None None
settles script m n waiting r is = record {
  in_range = r.in_range;
  ahead_is = λ w. ap (λ z. goes_to script z w) is ∙ r.ahead_is w ∙ ap (λ z. talk (block script) (answers_of z ++ w)) (sym (ap (λ z. z.lines) is ∙ named_lines waiting (stand_of m)));
  fits = tt;
}

-- the machine went on
pub goes : (script : List Stmt) (m n : Machine) → IsRun script m None None → SameAhead script (stand_of m) (stand_of n) → IsRun script n None None
goes script m n r same = record {
  in_range = r.in_range;
  ahead_is = λ w. sym (same.by w) ∙ r.ahead_is w ∙ ap (λ z. talk (block script) (z ++ w)) (sym same.answers);
  fits = tt;
}

-- and stopped
pub halts : (script : List Stmt) (n : Machine) (h : Halt) → IsRun script n None None → HasStopped script h n → IsRun script n None (Some h)
halts script n h r is = record { in_range = r.in_range; ahead_is = r.ahead_is; fits = (refl, is) }

-- ---- as callers see it

-- what was said at a halt
pub told_tells : (script : List Stmt) (m : Machine) (waiting : Option (List ℕ)) (stop : Option Halt) (h : Halt) (t : RunParts) → IsRun script m waiting stop → told_by script m stop ≡ t → stop ≡ Some h → Tells t.script t.answers t.lines (next_of h)
told_tells script m waiting stop h t r view is =
    subst (λ z. Tells z.script z.answers z.lines (next_of h)) view (tells script m waiting h (subst (IsRun script m waiting) is r))

pub passed : (m n : Machine) (lines : Vec Line) (l : Line) → lines.items ≡ m.lines.items ++ l ∷ [] → n ≡ record m { lines = lines; left = m.left - 1; at = m.at + 1 } → stand_of n ≡ record (stand_of m) { lines = m.lines.items ++ l ∷ []; left = m.left - 1; at = m.at + 1 }
passed m n lines l is same = ap stand_of same ∙ ap (λ z. record (stand_of m) { lines = z; left = m.left - 1; at = m.at + 1 }) is

pub gives_next : (script : List Stmt) (m n : Machine) (waiting : Option (List ℕ)) (stop now : Option Halt) (name : List ℕ) (o : ObjectId) (a : Value) (lines : Vec Line) → IsRun script m waiting stop → stop ≡ Some (halt.Read name o) → lines.items ≡ m.lines.items ++ line.Read o a ∷ [] → n ≡ record m { lines = lines; left = m.left - 1; at = m.at + 1 } → now ≡ None → IsRun script n (Some name) now
gives_next script m n waiting stop now name o a lines r is added same none =
    subst (IsRun script n (Some name)) (sym none) (gives script m n waiting name o a (subst (IsRun script m waiting) is r) (passed m n lines (line.Read o a) added same))

pub stores_next : (script : List Stmt) (m n : Machine) (waiting : Option (List ℕ)) (stop now : Option Halt) (o : ObjectId) (a : Value) (lines : Vec Line) → IsRun script m waiting stop → stop ≡ Some (halt.Write o a) → lines.items ≡ m.lines.items ++ line.Wrote o a ∷ [] → n ≡ record m { lines = lines; left = m.left - 1; at = m.at + 1 } → now ≡ None → IsRun script n waiting now
stores_next script m n waiting stop now o a lines r is added same none =
    subst (IsRun script n waiting) (sym none) (stores script m n waiting o a (subst (IsRun script m waiting) is r) (passed m n lines (line.Wrote o a) added same))

-- the view after an answer
answered_view : (script : List Stmt) (m n : Machine) (stop now : Option Halt) (l : Line) (a : Answer) (lines : Vec Line) → answers_of (l ∷ []) ≡ a ∷ [] → lines.items ≡ m.lines.items ++ l ∷ [] → n ≡ record m { lines = lines; left = m.left - 1; at = m.at + 1 } → now ≡ None → told_by script n now ≡ answered (told_by script m stop) a l
answered_view script m n stop now l a lines shows added same none =
    ap (told_by script n) none
    ∙ ap (λ z. record { script = script; answers = answers_of z; lines = z; said = None }) (ap (λ z. z.lines.items) same ∙ added)
    ∙ ap (λ z. record { script = script; answers = z; lines = m.lines.items ++ l ∷ []; said = None }) (answers_of-append m.lines.items (l ∷ []) ∙ ap (λ z. answers_of m.lines.items ++ z) shows)

pub given_view : (script : List Stmt) (m n : Machine) (stop now : Option Halt) (t : RunParts) (name : List ℕ) (o p : ObjectId) (a : Value) (lines : Vec Line) → told_by script m stop ≡ t → stop ≡ Some (halt.Read name p) → t.said ≡ Some (next.Read o) → lines.items ≡ m.lines.items ++ line.Read p a ∷ [] → n ≡ record m { lines = lines; left = m.left - 1; at = m.at + 1 } → now ≡ None → told_by script n now ≡ answered t (Got a) (line.Read o a)
given_view script m n stop now t name o p a lines view is said added same none =
    let e : Some (next.Read p) ≡ Some (next.Read o) = sym (ap (λ z. z.said) (sym view) ∙ ap said_at is) ∙ said in
    let same_object : p ≡ o = cc e in
    answered_view script m n stop now (line.Read p a) (Got a) lines refl added same none
    ∙ ap (λ z. answered (told_by script m stop) (Got a) (line.Read z a)) same_object ∙ ap (λ z. answered z (Got a) (line.Read o a)) view

pub stored_view : (script : List Stmt) (m n : Machine) (stop now : Option Halt) (t : RunParts) (o p : ObjectId) (a b : Value) (lines : Vec Line) → told_by script m stop ≡ t → stop ≡ Some (halt.Write p b) → t.said ≡ Some (next.Write o a) → lines.items ≡ m.lines.items ++ line.Wrote p b ∷ [] → n ≡ record m { lines = lines; left = m.left - 1; at = m.at + 1 } → now ≡ None → told_by script n now ≡ answered t Stored (line.Wrote o a)
stored_view script m n stop now t o p a b lines view is said added same none =
    let e : Some (next.Write p b) ≡ Some (next.Write o a) = sym (ap (λ z. z.said) (sym view) ∙ ap said_at is) ∙ said in
    let same_object : p ≡ o = cc e in
    let same_value : b ≡ a = cc e in
    answered_view script m n stop now (line.Wrote p b) Stored lines refl added same none
    ∙ ap (λ z. answered (told_by script m stop) Stored (line.Wrote z b)) same_object ∙ ap (λ z. answered z Stored (line.Wrote o b)) view
    ∙ ap (λ z. answered t Stored (line.Wrote o z)) same_value

-- ---- the way on, as the code goes it

unsaid : (stop : Option Halt) → said_at stop ≡ None → stop ≡ None
unsaid None is = refl
unsaid (Some h) is = absurd (let never : ⊥ = cc is in never)

pub nothing_said : (script : List Stmt) (m : Machine) (stop : Option Halt) (t : RunParts) → told_by script m stop ≡ t → t.said ≡ None → stop ≡ None
nothing_said script m stop t view is = unsaid stop (ap (λ z. z.said) view ∙ is)

-- the name that waited has its value, and the machine went on over the script
pub went_on : (script shown : List Stmt) (m s g : Machine) (waiting : Option (List ℕ)) → IsRun script m waiting None → stand_of s ≡ named waiting (stand_of m) → shown ≡ script → SameAhead shown (stand_of s) (stand_of g) → IsRun script g None None
went_on script shown m s g waiting r settled same ahead =
    goes script s g (settles script m s waiting r settled) (subst (λ z. SameAhead z (stand_of s) (stand_of g)) same ahead)

pub went_on_as : (script shown : List Stmt) (m s g : Machine) (waiting now : Option (List ℕ)) (stop : Option Halt) → IsRun script m waiting stop → stop ≡ None → (now ≡ None) × (stand_of s ≡ named waiting (stand_of m)) → shown ≡ script → SameAhead shown (stand_of s) (stand_of g) → IsRun script g now stop
went_on_as script shown m s g waiting now stop r none settled same ahead =
    subst (λ z. IsRun script g z stop) (sym settled.0) (subst (IsRun script g None) (sym none) (went_on script shown m s g waiting (subst (IsRun script m waiting) none r) settled.1 same ahead))

pub stopped_as : (script shown : List Stmt) (m s g : Machine) (waiting now : Option (List ℕ)) (stop : Option Halt) (h : Halt) → IsRun script m waiting stop → stop ≡ None → (now ≡ None) × (stand_of s ≡ named waiting (stand_of m)) → shown ≡ script → SameAhead shown (stand_of s) (stand_of g) × HasStopped shown h g → IsRun script g now (Some h)
stopped_as script shown m s g waiting now stop h r none settled same ahead =
    subst (λ z. IsRun script g z (Some h)) (sym settled.0)
    (halts script g h (went_on script shown m s g waiting (subst (IsRun script m waiting) none r) settled.1 same ahead.0) (subst (λ z. HasStopped z h g) same ahead.1))

-- the transcript and the halt are those of the talk with the answers from before
pub stopped_tells : (script : List Stmt) (m g : Machine) (now : Option (List ℕ)) (stop : Option Halt) (h : Halt) (t : RunParts) (n : Next) → IsRun script g now (Some h) → told_by script m stop ≡ t → answers_of g.lines.items ≡ answers_of m.lines.items → n ≡ next_of h → Tells t.script t.answers g.lines.items n
stopped_tells script m g now stop h t n r view same is =
    subst (λ z. Tells z.script z.answers g.lines.items n) view
    (subst (λ z. Tells script z g.lines.items n) same (subst (Tells script (answers_of g.lines.items) g.lines.items) (sym is) (tells script g now h r)))
