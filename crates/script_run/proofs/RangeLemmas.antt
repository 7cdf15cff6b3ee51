-- The statements that a run comes to are in range where its script is.
use Rattle.script_run.proofs.Names.{◌≡◌, ℕ, zero, suc, ◌-◌, List, [], ◌∷◌, Option, Some, None, refl, sym, ap, ◌∙◌, subst, slice_get, option_copied, Stmt, out-Stmt, Stmt-F, plain, shape, plain-out, Part, Frame, either_part, part_of, entered_in, inner}
use Rattle.std.specs.Borrow.{Bor}
use Rattle.value_form.specs.Ranges.{IsStep, IsScript}
use Rattle.script_run.specs.declared.frames.Part.TheVariants as part

either-IsScript : (q : Part) (a b : List Stmt) → IsScript a → IsScript b → IsScript (either_part q a b)
either-IsScript part.First a b h k = h
either-IsScript part.Second a b h k = k
either-IsScript (part.Repeated n) a b h k = h

part_of-IsScript : (x : Stmt-F Stmt) (q : Part) → IsStep (shape x) → IsScript (part_of x q)
part_of-IsScript (Stmt-F.If l x a e) q h = h.1
part_of-IsScript (Stmt-F.IfElse l x a m b e) q h = either-IsScript q a b h.1 h.2
part_of-IsScript (Stmt-F.Repeat l x a e) q h = h.1
part_of-IsScript (Stmt-F.Let l name x) q h = tt
part_of-IsScript (Stmt-F.Read l name place) q h = tt
part_of-IsScript (Stmt-F.Write l place x) q h = tt
part_of-IsScript (Stmt-F.Print l x) q h = tt
part_of-IsScript (Stmt-F.Withdraw l) q h = tt

pub slice_get-IsStep : (xs : List Stmt) (i : ℕ) (x : Stmt) → IsScript xs → slice_get xs i ≡ Some x → IsStep (plain x)
slice_get-IsStep [] i x h is = absurd (let no : ⊥ = cc is in no)
slice_get-IsStep (y ∷ xs) zero x h is = let same : y ≡ x = cc is in subst (λ z. IsStep (plain z)) same h.0
slice_get-IsStep (y ∷ xs) (suc i) x h is = slice_get-IsStep xs i x h.1 is

entered_in-IsScript : (q : Part) (xs : List Stmt) (i : ℕ) (o : Option Stmt) → slice_get xs i ≡ o → IsScript xs → IsScript (entered_in q o)
entered_in-IsScript q xs i None is h = tt
entered_in-IsScript q xs i (Some x) is h = part_of-IsScript (out-Stmt x) q (subst IsStep (plain-out x) (slice_get-IsStep xs i x h is))

pub inner-IsScript : (script : List Stmt) (path : List Frame) → IsScript script → IsScript (inner script path).statements
inner-IsScript script [] h = h
inner-IsScript script (f ∷ fs) h =
    let xs = (inner script fs).statements in
    entered_in-IsScript f.part xs (f.after - 1) (slice_get xs (f.after - 1)) refl (inner-IsScript script fs h)

-- the statement found at a place
pub found-IsStep : (script : List Stmt) (path : List Frame) (at : ℕ) (r : Option (Bor Stmt)) (x : Bor Stmt) → IsScript script → option_copied r ≡ slice_get (inner script path).statements at → r ≡ Some x → IsStep (plain x.now)
found-IsStep script path at r x h is some = slice_get-IsStep (inner script path).statements at x.now (inner-IsScript script path h) (sym is ∙ ap option_copied some)
