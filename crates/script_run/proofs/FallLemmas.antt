-- A step that goes on leaves less to do.
use Rattle.script_run.proofs.Names.{◌≡◌, ℕ, zero, suc, ◌<◌, ◌≤◌, Bool, true, false, List, [], ◌∷◌, Option, Some, None, Result, Ok, Err, refl, subst, arith, slice_get, nat_le, pos, negsuc, if◌then◌else◌, FailKind, Stmt, out-Stmt, Stmt-F, Value, Names, Term, term, spot, value, object_at, condition, count, Part, Frame, Standing, inner, Arrival, Onward, AtRead, AtWrite, AtEnd, on_value, past, into_part, chosen, repeated, begun_at, counted_at, left_by, left_from, at_end, step_at, step, turns_in, weight}
use Rattle.std.proofs.lemmas.Bool.{leb-true}
use Rattle.value_form.specs.declared.fail_kinds.FailKind.TheVariants as fails
use Rattle.value_form.specs.declared.values.Value.TheVariants as v
use Rattle.script_meaning.specs.Operations.{◌>>=◌, count_in}
use Rattle.script_run.specs.declared.frames.Part.TheVariants as part

-- a part is repeated 1,000 times at most
most_if : (n m : ℕ) (b : Bool) → nat_le m 1000 ≡ b → (if b then Ok m else Err fails.Count) ≡ Ok n → n ≤ 1000
most_if n m true is e = let same : m ≡ n = cc e in subst (λ z. z ≤ 1000) same (leb-true m 1000 is)
most_if n m false is e = absurd (let never : ⊥ = cc e in never)

most_in : (n : ℕ) (r : Result Value FailKind) → (r >>= count_in) ≡ Ok n → n ≤ 1000
most_in n (Ok v.Nothing) e = absurd (let never : ⊥ = cc e in never)
most_in n (Ok (v.Number (pos m))) e = most_if n m (nat_le m 1000) refl e
most_in n (Ok (v.Number (negsuc m))) e = absurd (let never : ⊥ = cc e in never)
most_in n (Ok (v.Text bytes)) e = absurd (let never : ⊥ = cc e in never)
most_in n (Err k) e = absurd (let never : ⊥ = cc e in never)

pub count_most : (names : Names) (x : Term) (n : ℕ) → count names x ≡ Ok n → n ≤ 1000
count_most names x n e = most_in n (value names x) e

abbrev Falls : Standing → Arrival → Type 0
Falls s (Onward t) = weight t < weight s
Falls s (AtRead name o) = Unit {0}
Falls s (AtWrite o a) = Unit {0}
Falls s (AtEnd e) = Unit {0}

on_falls : {A : Type 0} (s : Standing) (r : Result A FailKind) (l : ℕ) (on : A → Arrival) → ((x : A) → Falls s (on x)) → Falls s (on_value r l on)
on_falls s (Ok x) l on h = h x
on_falls s (Err k) l on h = tt

-- a statement passed, or a part of one entered
past_falls : (s : Standing) (n : ℕ) → Falls (record s { left = suc n }) (past (record s { left = n }))
past_falls s n = omega arith

into_falls : (s : Standing) (n : ℕ) (q : Part) → turns_in q ≤ 1000 → Falls (record s { left = suc n }) (into_part (record s { left = n }) q)
into_falls s n q h = omega arith

chosen_falls : (s : Standing) (n l : ℕ) (r : Result Bool FailKind) (second : Option Part) → ((q : Part) → second ≡ Some q → turns_in q ≤ 1000) → Falls (record s { left = suc n }) (chosen (record s { left = n }) l r second)
chosen_falls s n l (Ok true) second h = into_falls s n part.First (omega arith)
chosen_falls s n l (Ok false) (Some q) h = into_falls s n q (h q refl)
chosen_falls s n l (Ok false) None h = past_falls s n
chosen_falls s n l (Err k) second h = tt

repeated_falls : (s : Standing) (n l : ℕ) (r : Result ℕ FailKind) → ((m : ℕ) → r ≡ Ok m → m ≤ 1000) → Falls (record s { left = suc n }) (repeated (record s { left = n }) l r)
repeated_falls s n l (Ok zero) h = past_falls s n
repeated_falls s n l (Ok (suc m)) h = let k = h (suc m) refl in into_falls s n (part.Repeated m) (omega arith)
repeated_falls s n l (Err k) h = tt

begun_falls : (s : Standing) (n : ℕ) (x : Stmt-F Stmt) → Falls (record s { left = suc n }) (begun_at (record s { left = n }) x)
begun_falls s n (Stmt-F.Let l name x) = on_falls (record s { left = suc n }) (value s.names (term x)) l _ (λ a. past_falls s n)
begun_falls s n (Stmt-F.Read l name place) = on_falls (record s { left = suc n }) (object_at s.names (spot place)) l _ (λ o. tt)
begun_falls s n (Stmt-F.Write l place x) = on_falls (record s { left = suc n }) (object_at s.names (spot place)) l _ (λ o. on_falls (record s { left = suc n }) (value s.names (term x)) l _ (λ a. tt))
begun_falls s n (Stmt-F.Print l x) = on_falls (record s { left = suc n }) (value s.names (term x)) l _ (λ a. past_falls s n)
begun_falls s n (Stmt-F.If l x a e) = chosen_falls s n l (condition s.names (term x)) None (λ q is. absurd (let never : ⊥ = cc is in never))
begun_falls s n (Stmt-F.IfElse l x a m b e) = chosen_falls s n l (condition s.names (term x)) (Some part.Second) (λ q is. let same : part.Second ≡ q = cc is in subst (λ z. turns_in z ≤ 1000) same (omega arith))
begun_falls s n (Stmt-F.Repeat l x a e) = repeated_falls s n l (count s.names (term x)) (count_most s.names (term x))
begun_falls s n (Stmt-F.Withdraw l) = tt

counted_falls : (s : Standing) (left : ℕ) (x : Stmt-F Stmt) → Falls (record s { left = left }) (counted_at left (record s { left = left }) x)
counted_falls s zero x = tt
counted_falls s (suc n) x = begun_falls s n x

left_falls : (s : Standing) (f : Frame) (fs : List Frame) (q : Part) → Falls (record s { path = (record f { part = q }) ∷ fs }) (at_end s (Some (left_by f fs q)))
left_falls s f fs part.First = omega arith
left_falls s f fs part.Second = omega arith
left_falls s f fs (part.Repeated zero) = omega arith
left_falls s f fs (part.Repeated (suc n)) = omega arith

end_falls : (s : Standing) (path : List Frame) → Falls (record s { path = path }) (at_end s (left_from path))
end_falls s [] = tt
end_falls s (f ∷ fs) = left_falls s f fs f.part

at_falls : (s : Standing) (o : Option Stmt) → Falls s (step_at s o)
at_falls s None = end_falls s s.path
at_falls s (Some x) = counted_falls s s.left (out-Stmt x)

pub step_falls : (script : List Stmt) (s t : Standing) → step script s ≡ Onward t → weight t < weight s
step_falls script s t is = subst (Falls s) is (at_falls s (slice_get (inner script s.path).statements s.at))
