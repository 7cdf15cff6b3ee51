-- What the calls that read effects give.
use Rattle.effect_form.proofs.Names.{◌≡◌, ℕ, ◌+◌, ◌-◌, ◌≤◌, List, ◌∷◌, ◌++◌, length, take, drop, Option, Some, None, Result, Ok, Err, refl, sym, ap, subst, ◌∙◌, arith, IfOk, IsBytes, Value, value_bytes, value_at, found, field, value_takes, ok_is, time_bytes, object_bytes, Effect, Put, Stretch, Begin, Decide, Learn, Run, Act, Try, Got, Acked, End, Mark, Whole, Place, Written, IsWritten, back_bytes, effect_bytes, effect_at}
use Rattle.std.proofs.lemmas.List.{take_at, drop_at, take_all, length-append, length-drop}
use Rattle.effect_form.specs.declared.faults.EffectFault.{EffectFault}
use Rattle.effect_form.specs.EffectReads.{GivesCount}
use Rattle.effect_form.proofs.EffectLaws.{effect_takes, effect_again}

-- a value that was read, and what follows it
pub value_field_is : (at count : ℕ) (bytes rest : List ℕ) (v : Value) → IsBytes bytes → value_at bytes ≡ Ok (v, rest) → count + length rest ≡ length bytes → field at (found (value_at bytes)) ≡ Ok (v, take (length bytes - count) (drop count bytes))
value_field_is at count bytes rest v fits e size =
    let t = value_takes bytes v rest fits e in
    let sizes : length bytes ≡ length (value_bytes v) + length rest = ap length t.0.parts ∙ length-append (value_bytes v) rest in
    let taken : length (value_bytes v) ≡ count = omega arith in
    let after : drop count bytes ≡ rest = ap (drop count) t.0.parts ∙ drop_at (value_bytes v) rest count taken in
    let whole : take (length bytes - count) (drop count bytes) ≡ drop count bytes = take_all (length bytes - count) (drop count bytes) (omega (arith, length-drop count bytes)) in
    ap (λ (r : Result (Value × List ℕ) ℕ). field at (found r)) e ∙ ap (λ (r : List ℕ). Ok (v, r)) (sym (whole ∙ after))

pub effect_at-shorter : (bytes : List ℕ) (w : Written) (rest : List ℕ) → IsBytes bytes → effect_at bytes ≡ Ok (w, rest) → length rest ≤ length bytes
effect_at-shorter bytes w rest fits e =
    let t = effect_takes bytes w rest fits e in
    omega (arith, ap length t.0.parts ∙ length-append (effect_bytes w) rest)

pub read_found : (r : Result (Effect × Option Place × ℕ) EffectFault) (bytes : List ℕ) → IsBytes bytes → GivesCount r (length bytes) (effect_at bytes) → IfOk r (λ p. IsWritten (p.0, p.1) × (p.2 ≤ length bytes) × (take p.2 bytes ≡ effect_bytes (p.0, p.1)))
read_found (Err fault) bytes fits g = tt
read_found (Ok p) bytes fits g =
    let t = effect_takes bytes (p.0, p.1) g.0 fits g.1 in
    let sizes : length bytes ≡ length (effect_bytes (p.0, p.1)) + length g.0 = ap length t.0.parts ∙ length-append (effect_bytes (p.0, p.1)) g.0 in
    let count : length (effect_bytes (p.0, p.1)) ≡ p.2 = let k = g.2 in omega arith in
    (t.1, let k = g.2 in omega arith, rw t.0.parts (take_at (effect_bytes (p.0, p.1)) g.0 p.2 count))

pub read_only : (r : Result (Effect × Option Place × ℕ) EffectFault) (bytes : List ℕ) → GivesCount r (length bytes) (effect_at bytes) → (w : Written) (rest : List ℕ) → IsWritten w → bytes ≡ effect_bytes w ++ rest → GivesCount r (length bytes) (Ok (w, rest))
read_only r bytes g w rest h e = subst (λ (reading : Result (Written × List ℕ) ℕ). GivesCount r (length bytes) reading) (ap effect_at e ∙ effect_again w rest h) g

pub effect_bytes-apart : (a b : Written) (x y : List ℕ) → IsWritten a → IsWritten b → effect_bytes a ++ x ≡ effect_bytes b ++ y → (a ≡ b) × (x ≡ y)
effect_bytes-apart a b x y ha hb e =
    let p : ◌≡◌ {A = Written × List ℕ} (a, x) (b, y) = ok_is (a, x) (b, y) (sym (effect_again a x ha) ∙ ap effect_at e ∙ effect_again b y hb) in
    (ap (λ (q : Written × List ℕ). q.0) p, ap (λ (q : Written × List ℕ). q.1) p)

length-back_bytes : (b : Option Place) → length (back_bytes b) ≡ 6
length-back_bytes None = refl
length-back_bytes (Some p) = refl

pub length-effect_bytes : (e : Effect) (a b : Option Place) → length (effect_bytes (e, a)) ≡ length (effect_bytes (e, b))
length-effect_bytes (Put object start v) a b =
    let front : List ℕ = 1 ∷ (object_bytes object ++ time_bytes start) in
    let size : (c : Option Place) → length (value_bytes v ++ back_bytes c) ≡ length (value_bytes v) + 6 = λ c. length-append (value_bytes v) (back_bytes c) ∙ ap (λ (n : ℕ). length (value_bytes v) + n) (length-back_bytes c) in
    length-append front (value_bytes v ++ back_bytes a) ∙ ap (λ (n : ℕ). length front + n) (size a ∙ sym (size b)) ∙ sym (length-append front (value_bytes v ++ back_bytes b))
length-effect_bytes (Stretch object at) a b = refl
length-effect_bytes (Begin stamp deadline) a b = refl
length-effect_bytes (Decide stamp decision) a b = refl
length-effect_bytes (Learn stamp committed) a b = refl
length-effect_bytes (Run number) a b = refl
length-effect_bytes (Act index home timeout tries clock script) a b = refl
length-effect_bytes (Try index stamp) a b = refl
length-effect_bytes (Got step v) a b = refl
length-effect_bytes (Acked step) a b = refl
length-effect_bytes (End index outcome) a b = refl
length-effect_bytes (Mark at) a b = refl
length-effect_bytes Whole a b = refl
