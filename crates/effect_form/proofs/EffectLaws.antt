-- An effect that is read is the one that was written.
use Rattle.effect_form.proofs.Names.{◌≡◌, ℕ, lit<, ◌+◌, ◌-◌, ◌≤◌, ◌<◌, ◌^◌, ◌&&◌, nat_lt, nat_le, Bool, true, false, cond, List, [], ◌∷◌, ◌++◌, length, Option, Some, None, Result, Ok, Err, refl, sym, ap, subst, ◌∙◌, append_assoc, arith, inl, inr, ◌==◌, w16, w32, w64, to_be_bytes, nat_tests, IsStamp, stamp_bytes, TimeParts, IsTime, time_bytes, IsDecision, decision_text, decision_at, IsBytes, Begins, IsForm, byte_at, number_at, between, front_at, stamp_at, time_at, bind_some, chosen_then, some_is, Begins-then, byte_form, u16_form, u32_form, u64_form, between_form, front_takes, front_again, stamp_form, time_form, chosen, decision_form, Value, IsObject, object_bytes, object_bytes_at, IsValue, value_bytes, value_at, found, ◌>>=◌, field, field_ok, ok_is, object_form, value_form, Put, Stretch, Begin, Decide, Learn, Run, Act, Try, Got, Acked, End, Mark, Whole, Place, IsOutcome, outcome_bytes, outcome_at, clock_at, whole_one, whole_two, Written, IsPlace, IsBack, back_bytes, back_from, back_at, index_at, positive_at, learned_byte, learned_at, home_at, timeout_at, tries_at, length_at, IsIndex, IsPositive, effect_bytes, IsActEffect, IsWritten, put_at, act_at, effect_of_tag, effect_at}
use Rattle.field_form.specs.Forms as form
use Rattle.value_form.specs.declared.objects.ObjectId.{ObjectId}
use Rattle.effect_form.proofs.OutcomeLaws.{clock_form, outcome_form}
use Rattle.effect_form.proofs.SequenceLaws.{whole_one-takes, whole_one-again, whole_two-takes, whole_two-again}

abbrev IsLong : ℕ → Type 0
IsLong n = n < 2 ^ 64

abbrev pub AnyAnswer : Bool → Type 0
AnyAnswer b = Unit {0}

abbrev pub learned_bytes : Bool → List ℕ
learned_bytes b = learned_byte b ∷ []

abbrev pub value_found : List ℕ → Option (Value × List ℕ)
value_found bytes = found (value_at bytes)

index_form : IsForm (to_be_bytes w32) IsIndex index_at
index_form = between_form 1 10000 u32_form

positive_form : IsForm (to_be_bytes w32) IsPositive positive_at
positive_form = between_form 1 4294967295 u32_form

learned_takes : (bytes : List ℕ) (b : Bool) (rest : List ℕ) → IsBytes bytes → learned_at bytes ≡ Some (b, rest) → Begins bytes (learned_bytes b) rest × AnyAnswer b
learned_takes bytes b rest fits e =
    let a = bind_some (between 1 2 (byte_at bytes)) (λ n. Some (n.0 == 1, n.1)) (b, rest) e in
    let made : Bool × List ℕ = (a.0.0 == 1, a.0.1) in
    let t = (between_form 1 2 byte_form).takes bytes a.0.0 a.0.1 fits a.1 in
    let is : a.0.0 ≡ learned_byte (a.0.0 == 1) = one_or_two a.0.0 t.1.1 t.1.2 in
    subst (λ (y : Bool × List ℕ). Begins bytes (learned_bytes y.0) y.1 × AnyAnswer y.0) (some_is made (b, rest) a.2) (subst (λ (n : ℕ). Begins bytes (n ∷ []) a.0.1) is t.0, tt)
  where
    one_or_two : (n : ℕ) → 1 ≤ n → n ≤ 2 → n ≡ learned_byte (n == 1)
    one_or_two n low high = elim (n == 1) as (λ t. (n == 1) ≡ t → n ≡ learned_byte t) [ true ↦ λ e. grind (arith, nat_tests) | false ↦ λ e. grind (arith, nat_tests) ] refl

learned_again : (b : Bool) (rest : List ℕ) → AnyAnswer b → learned_at (learned_bytes b ++ rest) ≡ Some (b, rest)
learned_again true rest h = refl
learned_again false rest h = refl

pub learned_form : IsForm learned_bytes AnyAnswer learned_at
learned_form = record { takes = learned_takes; again = learned_again }

-- ---- back places

both : (p q : Bool) → (p && q) ≡ true → (p ≡ true) × (q ≡ true)
both true true e = (refl, refl)
both true false e = absurd (cc)
both false q e = absurd (cc)

abbrev place_in_range : ℕ → ℕ → Bool
place_in_range page offset = nat_lt page 1048576 && (nat_le 4 offset && nat_le offset 4095)

back_from-takes : (page offset : ℕ) (b : Option Place) → back_from page offset ≡ Some b → (to_be_bytes w32 page ++ to_be_bytes w16 offset ≡ back_bytes b) × IsBack b
back_from-takes page offset b e = elim (chosen ((page == 4294967295) && (offset == 65535)) (Some None) (cond (place_in_range page offset) (Some (Some (record { page = page; offset = offset }))) None) (Some b) e) [
  | inl h ↦
      let t = both (page == 4294967295) (offset == 65535) h.0 in
      let p : page ≡ 4294967295 = let k = t.0 in grind (arith, nat_tests) in
      let q : offset ≡ 65535 = let k = t.1 in grind (arith, nat_tests) in
      subst (λ (y : Option Place). (to_be_bytes w32 page ++ to_be_bytes w16 offset ≡ back_bytes y) × IsBack y) (some_is None b h.1) (ap (λ (n : ℕ). to_be_bytes w32 n ++ to_be_bytes w16 offset) p ∙ ap (λ (n : ℕ). to_be_bytes w32 4294967295 ++ to_be_bytes w16 n) q, tt)
  | inr other ↦
      let made : Option Place = Some (record { page = page; offset = offset }) in
      let g = chosen_then (place_in_range page offset) made b other.1 in
      let t = both (nat_lt page 1048576) (nat_le 4 offset && nat_le offset 4095) g.0 in
      let u = both (nat_le 4 offset) (nat_le offset 4095) t.1 in
      subst (λ (y : Option Place). (to_be_bytes w32 page ++ to_be_bytes w16 offset ≡ back_bytes y) × IsBack y) g.1 (refl, record { page = grind (arith, nat_tests, t.0); offset_low = grind (arith, nat_tests, u.0); offset_high = grind (arith, nat_tests, u.1) })
]

back_from-again : (p : Place) → IsPlace p → back_from p.page p.offset ≡ Some (Some p)
back_from-again p h =
    let other : (p.page == 4294967295) ≡ false = let k = h.page in grind (arith, nat_tests) in
    let a : nat_lt p.page 1048576 ≡ true = let k = h.page in grind (arith, nat_tests) in
    let b : nat_le 4 p.offset ≡ true = let k = h.offset_low in grind (arith, nat_tests) in
    let c : nat_le p.offset 4095 ≡ true = let k = h.offset_high in grind (arith, nat_tests) in
    rw (other, a, b, c) refl

back_takes : (bytes : List ℕ) (b : Option Place) (rest : List ℕ) → IsBytes bytes → back_at bytes ≡ Some (b, rest) → Begins bytes (back_bytes b) rest × IsBack b
back_takes bytes b rest fits e =
    let page = bind_some (number_at w32 bytes) (λ page. form.◌>>=◌ (number_at w16 page.1) (λ offset. form.◌>>=◌ (back_from page.0 offset.0) (λ back. Some (back, offset.1)))) (b, rest) e in
    let offset = bind_some (number_at w16 page.0.1) (λ offset. form.◌>>=◌ (back_from page.0.0 offset.0) (λ back. Some (back, offset.1))) (b, rest) page.2 in
    let back = bind_some (back_from page.0.0 offset.0.0) (λ back. Some (back, offset.0.1)) (b, rest) offset.2 in
    let made : Option Place × List ℕ = (back.0, offset.0.1) in
    let t = u32_form.takes bytes page.0.0 page.0.1 fits page.1 in
    let u = u16_form.takes page.0.1 offset.0.0 offset.0.1 t.0.rest_is_bytes offset.1 in
    let x = back_from-takes page.0.0 offset.0.0 back.0 back.1 in
    let whole = Begins-then bytes (to_be_bytes w32 page.0.0) page.0.1 (to_be_bytes w16 offset.0.0) offset.0.1 t.0 u.0 in
    subst (λ (y : Option Place × List ℕ). Begins bytes (back_bytes y.0) y.1 × IsBack y.0) (some_is made (b, rest) back.2) (subst (λ (text : List ℕ). Begins bytes text offset.0.1) x.0 whole, x.1)

back_again : (b : Option Place) (rest : List ℕ) → IsBack b → back_at (back_bytes b ++ rest) ≡ Some (b, rest)
back_again None rest h =
    let page : number_at w32 (back_bytes None ++ rest) ≡ Some (4294967295, 255 ∷ 255 ∷ rest) = u32_form.again 4294967295 (255 ∷ 255 ∷ rest) (lit< tt) in
    let offset : number_at w16 (255 ∷ 255 ∷ rest) ≡ Some (65535, rest) = u16_form.again 65535 rest (lit< tt) in
    rw (page, offset) refl
back_again (Some p) rest h =
    ap back_at (append_assoc (to_be_bytes w32 p.page) (to_be_bytes w16 p.offset) rest)
    ∙ rw (u32_form.again p.page (to_be_bytes w16 p.offset ++ rest) (omega (arith, h.page)), u16_form.again p.offset rest (omega (arith, h.offset_high)), back_from-again p h) refl

-- ---- puts and acts

put_takes : (bytes after : List ℕ) (w : Written) (rest : List ℕ) → Begins bytes (1 ∷ []) after → put_at after ≡ Ok (w, rest) → Begins bytes (effect_bytes w) rest × IsWritten w
unfolding put_at
put_takes bytes after w rest front e =
    let object = field_ok 1 (object_bytes_at after) (λ object. field 6 (time_at object.1) >>= λ start. field 20 (value_found start.1) >>= λ v. field (20 + (length start.1 - length v.1)) (back_at v.1) >>= λ back. Ok ((Put object.0 start.0 v.0, back.0), back.1)) (w, rest) e in
    let start = field_ok 6 (time_at object.0.1) (λ start. field 20 (value_found start.1) >>= λ v. field (20 + (length start.1 - length v.1)) (back_at v.1) >>= λ back. Ok ((Put object.0.0 start.0 v.0, back.0), back.1)) (w, rest) object.2 in
    let v = field_ok 20 (value_found start.0.1) (λ v. field (20 + (length start.0.1 - length v.1)) (back_at v.1) >>= λ back. Ok ((Put object.0.0 start.0.0 v.0, back.0), back.1)) (w, rest) start.2 in
    let back = field_ok (20 + (length start.0.1 - length v.0.1)) (back_at v.0.1) (λ back. Ok ((Put object.0.0 start.0.0 v.0.0, back.0), back.1)) (w, rest) v.2 in
    let made : Written × List ℕ = ((Put object.0.0 start.0.0 v.0.0, back.0.0), back.0.1) in
    let to = object_form.takes after object.0.0 object.0.1 front.rest_is_bytes object.1 in
    let ts = time_form.takes object.0.1 start.0.0 start.0.1 to.0.rest_is_bytes start.1 in
    let tv = value_form.takes start.0.1 v.0.0 v.0.1 ts.0.rest_is_bytes v.1 in
    let tb = back_takes v.0.1 back.0.0 back.0.1 tv.0.rest_is_bytes back.1 in
    let late = Begins-then start.0.1 (value_bytes v.0.0) v.0.1 (back_bytes back.0.0) back.0.1 tv.0 tb.0 in
    let more = Begins-then object.0.1 (time_bytes start.0.0) start.0.1 (value_bytes v.0.0 ++ back_bytes back.0.0) back.0.1 ts.0 late in
    let most = Begins-then after (object_bytes object.0.0) object.0.1 (time_bytes start.0.0 ++ (value_bytes v.0.0 ++ back_bytes back.0.0)) back.0.1 to.0 more in
    let whole = Begins-then bytes (1 ∷ []) after (object_bytes object.0.0 ++ (time_bytes start.0.0 ++ (value_bytes v.0.0 ++ back_bytes back.0.0))) back.0.1 front most in
    subst (λ (y : Written × List ℕ). Begins bytes (effect_bytes y.0) y.1 × IsWritten y.0) (ok_is made (w, rest) back.2) (whole, (to.1, ts.1, tv.1, tb.1))

put_again : (object : ObjectId) (start : TimeParts) (v : Value) (back : Option Place) (rest : List ℕ) → IsObject object → IsTime start → IsValue v → IsBack back
    → put_at ((object_bytes object ++ (time_bytes start ++ (value_bytes v ++ back_bytes back))) ++ rest) ≡ Ok ((Put object start v, back), rest)
unfolding put_at
put_again object start v back rest ho hs hv hb =
    let late : (time_bytes start ++ (value_bytes v ++ back_bytes back)) ++ rest ≡ time_bytes start ++ (value_bytes v ++ (back_bytes back ++ rest))
    = append_assoc (time_bytes start) (value_bytes v ++ back_bytes back) rest ∙ ap (λ t. time_bytes start ++ t) (append_assoc (value_bytes v) (back_bytes back) rest) in
    let regrouped : (object_bytes object ++ (time_bytes start ++ (value_bytes v ++ back_bytes back))) ++ rest ≡ object_bytes object ++ (time_bytes start ++ (value_bytes v ++ (back_bytes back ++ rest)))
    = append_assoc (object_bytes object) (time_bytes start ++ (value_bytes v ++ back_bytes back)) rest ∙ ap (λ t. object_bytes object ++ t) late in
    ap put_at regrouped ∙ rw (object_form.again object (time_bytes start ++ (value_bytes v ++ (back_bytes back ++ rest))) ho, time_form.again start (value_bytes v ++ (back_bytes back ++ rest)) hs, value_form.again v (back_bytes back ++ rest) hv, back_again back rest hb) refl

abbrev one_byte : ℕ → List ℕ
one_byte b = b ∷ []

home_form : IsForm one_byte (λ n. (n < 256) × (1 ≤ n) × (n ≤ 16)) home_at
home_form = between_form 1 16 byte_form

pub timeout_form : IsForm (to_be_bytes w32) (λ n. (n < 2 ^ 32) × (1 ≤ n) × (n ≤ 1000000)) timeout_at
timeout_form = between_form 1 1000000 u32_form

tries_form : IsForm one_byte (λ n. (n < 256) × (1 ≤ n) × (n ≤ 100)) tries_at
tries_form = between_form 1 100 byte_form

length_form : IsForm (to_be_bytes w16) (λ n. (n < 2 ^ 16) × (0 ≤ n) × (n ≤ 3900)) length_at
length_form = between_form 0 3900 u16_form

-- an act whose script was read
abbrev acted : ℕ → ℕ → ℕ → ℕ → ℕ → List ℕ × List ℕ → Result (Written × List ℕ) ℕ
acted index home timeout tries clock script = Ok ((Act index home timeout tries clock script.0, None), script.1)

act_parts : (bytes after : List ℕ) (w : Written) (rest : List ℕ) (index : ℕ) (r0 : List ℕ) (home : ℕ) (r1 : List ℕ) (timeout : ℕ) (r2 : List ℕ) (tries : ℕ) (r3 : List ℕ) (clock : ℕ) (r4 : List ℕ) (size : ℕ) (r5 : List ℕ) (script r6 : List ℕ) → Begins bytes (7 ∷ []) after → index_at after ≡ Some (index, r0) → home_at r0 ≡ Some (home, r1) → timeout_at r1 ≡ Some (timeout, r2) → tries_at r2 ≡ Some (tries, r3) → clock_at r3 ≡ Some (clock, r4) → length_at r4 ≡ Some (size, r5) → front_at size r5 ≡ Some (script, r6) → Begins bytes (effect_bytes (Act index home timeout tries clock script, None)) r6 × IsWritten (Act index home timeout tries clock script, None)
act_parts bytes after w rest index r0 home r1 timeout r2 tries r3 clock r4 size r5 script r6 front e0 e1 e2 e3 e4 e5 e6 =
    let t0 = index_form.takes after index r0 front.rest_is_bytes e0 in
    let t1 = home_form.takes r0 home r1 t0.0.rest_is_bytes e1 in
    let t2 = timeout_form.takes r1 timeout r2 t1.0.rest_is_bytes e2 in
    let t3 = tries_form.takes r2 tries r3 t2.0.rest_is_bytes e3 in
    let t4 = clock_form.takes r3 clock r4 t3.0.rest_is_bytes e4 in
    let t5 = length_form.takes r4 size r5 t4.0.rest_is_bytes e5 in
    let t6 = front_takes size r5 script r6 t5.0.rest_is_bytes e6 in
    let sized : Begins r4 (to_be_bytes w16 (length script)) r5 = subst (λ (k : ℕ). Begins r4 (to_be_bytes w16 k) r5) (sym t6.1) t5.0 in
    let b5 = Begins-then r4 (to_be_bytes w16 (length script)) r5 (script) r6 sized t6.0 in
    let b4 = Begins-then r3 (to_be_bytes w64 clock) r4 (to_be_bytes w16 (length script) ++ (script)) r6 t4.0 b5 in
    let b3 = Begins-then r2 (one_byte tries) r3 (to_be_bytes w64 clock ++ (to_be_bytes w16 (length script) ++ (script))) r6 t3.0 b4 in
    let b2 = Begins-then r1 (to_be_bytes w32 timeout) r2 (one_byte tries ++ (to_be_bytes w64 clock ++ (to_be_bytes w16 (length script) ++ (script)))) r6 t2.0 b3 in
    let b1 = Begins-then r0 (one_byte home) r1 (to_be_bytes w32 timeout ++ (one_byte tries ++ (to_be_bytes w64 clock ++ (to_be_bytes w16 (length script) ++ (script))))) r6 t1.0 b2 in
    let b0 = Begins-then after (to_be_bytes w32 index) r0 (one_byte home ++ (to_be_bytes w32 timeout ++ (one_byte tries ++ (to_be_bytes w64 clock ++ (to_be_bytes w16 (length script) ++ (script)))))) r6 t0.0 b1 in
    (Begins-then bytes (7 ∷ []) after (to_be_bytes w32 index ++ (one_byte home ++ (to_be_bytes w32 timeout ++ (one_byte tries ++ (to_be_bytes w64 clock ++ (to_be_bytes w16 (length script) ++ (script))))))) r6 front b0, (record { index_in_range = t0.1; home_in_range = t1.1; timeout_in_range = t2.1; tries_in_range = t3.1; clock_in_range = t4.1; size = subst (λ (k : ℕ). k ≤ 3900) (sym t6.1) t5.1.2; script_is_bytes = t6.2 }, refl))

act_takes_from6 : (bytes after : List ℕ) (w : Written) (rest : List ℕ) (index : ℕ) (r0 : List ℕ) (home : ℕ) (r1 : List ℕ) (timeout : ℕ) (r2 : List ℕ) (tries : ℕ) (r3 : List ℕ) (clock : ℕ) (r4 : List ℕ) (size : ℕ) (r5 : List ℕ) → Begins bytes (7 ∷ []) after → index_at after ≡ Some (index, r0) → home_at r0 ≡ Some (home, r1) → timeout_at r1 ≡ Some (timeout, r2) → tries_at r2 ≡ Some (tries, r3) → clock_at r3 ≡ Some (clock, r4) → length_at r4 ≡ Some (size, r5) → (field 21 (front_at size r5) >>= λ script. acted index home timeout tries clock script) ≡ Ok (w, rest) → Begins bytes (effect_bytes w) rest × IsWritten w
act_takes_from6 bytes after w rest index r0 home r1 timeout r2 tries r3 clock r4 size r5 front e0 e1 e2 e3 e4 e5 e =
    let a = field_ok 21 (front_at size r5) (λ script. acted index home timeout tries clock script) (w, rest) e in
    let made : Written × List ℕ = ((Act index home timeout tries clock a.0.0, None), a.0.1) in
    subst (λ (y : Written × List ℕ). Begins bytes (effect_bytes y.0) y.1 × IsWritten y.0) (ok_is made (w, rest) a.2) (act_parts bytes after w rest index r0 home r1 timeout r2 tries r3 clock r4 size r5 a.0.0 a.0.1 front e0 e1 e2 e3 e4 e5 a.1)

act_takes_from5 : (bytes after : List ℕ) (w : Written) (rest : List ℕ) (index : ℕ) (r0 : List ℕ) (home : ℕ) (r1 : List ℕ) (timeout : ℕ) (r2 : List ℕ) (tries : ℕ) (r3 : List ℕ) (clock : ℕ) (r4 : List ℕ) → Begins bytes (7 ∷ []) after → index_at after ≡ Some (index, r0) → home_at r0 ≡ Some (home, r1) → timeout_at r1 ≡ Some (timeout, r2) → tries_at r2 ≡ Some (tries, r3) → clock_at r3 ≡ Some (clock, r4) → (field 19 (length_at r4) >>= λ size. field 21 (front_at size.0 size.1) >>= λ script. acted index home timeout tries clock script) ≡ Ok (w, rest) → Begins bytes (effect_bytes w) rest × IsWritten w
act_takes_from5 bytes after w rest index r0 home r1 timeout r2 tries r3 clock r4 front e0 e1 e2 e3 e4 e =
    let a = field_ok 19 (length_at r4) (λ size. field 21 (front_at size.0 size.1) >>= λ script. acted index home timeout tries clock script) (w, rest) e in
    act_takes_from6 bytes after w rest index r0 home r1 timeout r2 tries r3 clock r4 a.0.0 a.0.1 front e0 e1 e2 e3 e4 a.1 a.2

act_takes_from4 : (bytes after : List ℕ) (w : Written) (rest : List ℕ) (index : ℕ) (r0 : List ℕ) (home : ℕ) (r1 : List ℕ) (timeout : ℕ) (r2 : List ℕ) (tries : ℕ) (r3 : List ℕ) → Begins bytes (7 ∷ []) after → index_at after ≡ Some (index, r0) → home_at r0 ≡ Some (home, r1) → timeout_at r1 ≡ Some (timeout, r2) → tries_at r2 ≡ Some (tries, r3) → (field 11 (clock_at r3) >>= λ clock. field 19 (length_at clock.1) >>= λ size. field 21 (front_at size.0 size.1) >>= λ script. acted index home timeout tries clock.0 script) ≡ Ok (w, rest) → Begins bytes (effect_bytes w) rest × IsWritten w
act_takes_from4 bytes after w rest index r0 home r1 timeout r2 tries r3 front e0 e1 e2 e3 e =
    let a = field_ok 11 (clock_at r3) (λ clock. field 19 (length_at clock.1) >>= λ size. field 21 (front_at size.0 size.1) >>= λ script. acted index home timeout tries clock.0 script) (w, rest) e in
    act_takes_from5 bytes after w rest index r0 home r1 timeout r2 tries r3 a.0.0 a.0.1 front e0 e1 e2 e3 a.1 a.2

act_takes_from3 : (bytes after : List ℕ) (w : Written) (rest : List ℕ) (index : ℕ) (r0 : List ℕ) (home : ℕ) (r1 : List ℕ) (timeout : ℕ) (r2 : List ℕ) → Begins bytes (7 ∷ []) after → index_at after ≡ Some (index, r0) → home_at r0 ≡ Some (home, r1) → timeout_at r1 ≡ Some (timeout, r2) → (field 10 (tries_at r2) >>= λ tries. field 11 (clock_at tries.1) >>= λ clock. field 19 (length_at clock.1) >>= λ size. field 21 (front_at size.0 size.1) >>= λ script. acted index home timeout tries.0 clock.0 script) ≡ Ok (w, rest) → Begins bytes (effect_bytes w) rest × IsWritten w
act_takes_from3 bytes after w rest index r0 home r1 timeout r2 front e0 e1 e2 e =
    let a = field_ok 10 (tries_at r2) (λ tries. field 11 (clock_at tries.1) >>= λ clock. field 19 (length_at clock.1) >>= λ size. field 21 (front_at size.0 size.1) >>= λ script. acted index home timeout tries.0 clock.0 script) (w, rest) e in
    act_takes_from4 bytes after w rest index r0 home r1 timeout r2 a.0.0 a.0.1 front e0 e1 e2 a.1 a.2

act_takes_from2 : (bytes after : List ℕ) (w : Written) (rest : List ℕ) (index : ℕ) (r0 : List ℕ) (home : ℕ) (r1 : List ℕ) → Begins bytes (7 ∷ []) after → index_at after ≡ Some (index, r0) → home_at r0 ≡ Some (home, r1) → (field 6 (timeout_at r1) >>= λ timeout. field 10 (tries_at timeout.1) >>= λ tries. field 11 (clock_at tries.1) >>= λ clock. field 19 (length_at clock.1) >>= λ size. field 21 (front_at size.0 size.1) >>= λ script. acted index home timeout.0 tries.0 clock.0 script) ≡ Ok (w, rest) → Begins bytes (effect_bytes w) rest × IsWritten w
act_takes_from2 bytes after w rest index r0 home r1 front e0 e1 e =
    let a = field_ok 6 (timeout_at r1) (λ timeout. field 10 (tries_at timeout.1) >>= λ tries. field 11 (clock_at tries.1) >>= λ clock. field 19 (length_at clock.1) >>= λ size. field 21 (front_at size.0 size.1) >>= λ script. acted index home timeout.0 tries.0 clock.0 script) (w, rest) e in
    act_takes_from3 bytes after w rest index r0 home r1 a.0.0 a.0.1 front e0 e1 a.1 a.2

act_takes_from1 : (bytes after : List ℕ) (w : Written) (rest : List ℕ) (index : ℕ) (r0 : List ℕ) → Begins bytes (7 ∷ []) after → index_at after ≡ Some (index, r0) → (field 5 (home_at r0) >>= λ home. field 6 (timeout_at home.1) >>= λ timeout. field 10 (tries_at timeout.1) >>= λ tries. field 11 (clock_at tries.1) >>= λ clock. field 19 (length_at clock.1) >>= λ size. field 21 (front_at size.0 size.1) >>= λ script. acted index home.0 timeout.0 tries.0 clock.0 script) ≡ Ok (w, rest) → Begins bytes (effect_bytes w) rest × IsWritten w
act_takes_from1 bytes after w rest index r0 front e0 e =
    let a = field_ok 5 (home_at r0) (λ home. field 6 (timeout_at home.1) >>= λ timeout. field 10 (tries_at timeout.1) >>= λ tries. field 11 (clock_at tries.1) >>= λ clock. field 19 (length_at clock.1) >>= λ size. field 21 (front_at size.0 size.1) >>= λ script. acted index home.0 timeout.0 tries.0 clock.0 script) (w, rest) e in
    act_takes_from2 bytes after w rest index r0 a.0.0 a.0.1 front e0 a.1 a.2

act_takes : (bytes after : List ℕ) (w : Written) (rest : List ℕ) → Begins bytes (7 ∷ []) after → act_at after ≡ Ok (w, rest) → Begins bytes (effect_bytes w) rest × IsWritten w
unfolding act_at
act_takes bytes after w rest front e =
    let a = field_ok 1 (index_at after) (λ index. field 5 (home_at index.1) >>= λ home. field 6 (timeout_at home.1) >>= λ timeout. field 10 (tries_at timeout.1) >>= λ tries. field 11 (clock_at tries.1) >>= λ clock. field 19 (length_at clock.1) >>= λ size. field 21 (front_at size.0 size.1) >>= λ script. acted index.0 home.0 timeout.0 tries.0 clock.0 script) (w, rest) e in
    act_takes_from1 bytes after w rest a.0.0 a.0.1 front a.1 a.2

act_again : (index home timeout tries clock : ℕ) (script rest : List ℕ) → IsActEffect index home timeout tries clock script
    → act_at ((to_be_bytes w32 index ++ (one_byte home ++ (to_be_bytes w32 timeout ++ (one_byte tries ++ (to_be_bytes w64 clock ++ (to_be_bytes w16 (length script) ++ (script))))))) ++ rest) ≡ Ok ((Act index home timeout tries clock script, None), rest)
unfolding act_at
act_again index home timeout tries clock script rest h =
    let g5 : (to_be_bytes w16 (length script) ++ (script)) ++ rest ≡ to_be_bytes w16 (length script) ++ (script ++ rest) = append_assoc (to_be_bytes w16 (length script)) (script) rest in
    let g4 : (to_be_bytes w64 clock ++ (to_be_bytes w16 (length script) ++ (script))) ++ rest ≡ to_be_bytes w64 clock ++ (to_be_bytes w16 (length script) ++ (script ++ rest)) = append_assoc (to_be_bytes w64 clock) (to_be_bytes w16 (length script) ++ (script)) rest ∙ ap (λ t. to_be_bytes w64 clock ++ t) g5 in
    let g3 : (one_byte tries ++ (to_be_bytes w64 clock ++ (to_be_bytes w16 (length script) ++ (script)))) ++ rest ≡ one_byte tries ++ (to_be_bytes w64 clock ++ (to_be_bytes w16 (length script) ++ (script ++ rest))) = append_assoc (one_byte tries) (to_be_bytes w64 clock ++ (to_be_bytes w16 (length script) ++ (script))) rest ∙ ap (λ t. one_byte tries ++ t) g4 in
    let g2 : (to_be_bytes w32 timeout ++ (one_byte tries ++ (to_be_bytes w64 clock ++ (to_be_bytes w16 (length script) ++ (script))))) ++ rest ≡ to_be_bytes w32 timeout ++ (one_byte tries ++ (to_be_bytes w64 clock ++ (to_be_bytes w16 (length script) ++ (script ++ rest)))) = append_assoc (to_be_bytes w32 timeout) (one_byte tries ++ (to_be_bytes w64 clock ++ (to_be_bytes w16 (length script) ++ (script)))) rest ∙ ap (λ t. to_be_bytes w32 timeout ++ t) g3 in
    let g1 : (one_byte home ++ (to_be_bytes w32 timeout ++ (one_byte tries ++ (to_be_bytes w64 clock ++ (to_be_bytes w16 (length script) ++ (script)))))) ++ rest ≡ one_byte home ++ (to_be_bytes w32 timeout ++ (one_byte tries ++ (to_be_bytes w64 clock ++ (to_be_bytes w16 (length script) ++ (script ++ rest))))) = append_assoc (one_byte home) (to_be_bytes w32 timeout ++ (one_byte tries ++ (to_be_bytes w64 clock ++ (to_be_bytes w16 (length script) ++ (script))))) rest ∙ ap (λ t. one_byte home ++ t) g2 in
    let g0 : (to_be_bytes w32 index ++ (one_byte home ++ (to_be_bytes w32 timeout ++ (one_byte tries ++ (to_be_bytes w64 clock ++ (to_be_bytes w16 (length script) ++ (script))))))) ++ rest ≡ to_be_bytes w32 index ++ (one_byte home ++ (to_be_bytes w32 timeout ++ (one_byte tries ++ (to_be_bytes w64 clock ++ (to_be_bytes w16 (length script) ++ (script ++ rest)))))) = append_assoc (to_be_bytes w32 index) (one_byte home ++ (to_be_bytes w32 timeout ++ (one_byte tries ++ (to_be_bytes w64 clock ++ (to_be_bytes w16 (length script) ++ (script)))))) rest ∙ ap (λ t. to_be_bytes w32 index ++ t) g1 in
    ap act_at g0 ∙ rw (index_form.again index (one_byte home ++ (to_be_bytes w32 timeout ++ (one_byte tries ++ (to_be_bytes w64 clock ++ (to_be_bytes w16 (length script) ++ (script ++ rest)))))) h.index_in_range, home_form.again home (to_be_bytes w32 timeout ++ (one_byte tries ++ (to_be_bytes w64 clock ++ (to_be_bytes w16 (length script) ++ (script ++ rest))))) h.home_in_range, timeout_form.again timeout (one_byte tries ++ (to_be_bytes w64 clock ++ (to_be_bytes w16 (length script) ++ (script ++ rest)))) h.timeout_in_range, tries_form.again tries (to_be_bytes w64 clock ++ (to_be_bytes w16 (length script) ++ (script ++ rest))) h.tries_in_range, clock_form.again clock (to_be_bytes w16 (length script) ++ (script ++ rest)) h.clock_in_range, length_form.again (length script) (script ++ rest) (omega (arith, h.size), omega arith, h.size), front_again script rest) refl

-- ---- effects

effect_of_tag-takes : (bytes after : List ℕ) (tag : ℕ) (w : Written) (rest : List ℕ) → Begins bytes (tag ∷ []) after → effect_of_tag tag after ≡ Ok (w, rest) → Begins bytes (effect_bytes w) rest × IsWritten w
unfolding effect_of_tag
effect_of_tag-takes bytes after tag w rest front e =
    elim (chosen (tag == 1) (put_at after) (cond (tag == 2) (whole_two 1 6 (λ object at. (Stretch object at, None)) object_bytes_at time_at after) (cond (tag == 3) (whole_two 1 11 (λ stamp deadline. (Begin stamp deadline, None)) stamp_at (number_at w64) after) (cond (tag == 4) (whole_two 1 11 (λ stamp decision. (Decide stamp decision, None)) stamp_at decision_at after) (cond (tag == 5) (whole_two 1 11 (λ stamp committed. (Learn stamp committed, None)) stamp_at learned_at after) (cond (tag == 6) (whole_one 1 (λ number. (Run number, None)) positive_at after) (cond (tag == 7) (act_at after) (cond (tag == 8) (whole_two 1 5 (λ index stamp. (Try index stamp, None)) index_at stamp_at after) (cond (tag == 9) (whole_two 1 5 (λ step v. (Got step v, None)) positive_at value_found after) (cond (tag == 10) (whole_one 1 (λ step. (Acked step, None)) positive_at after) (cond (tag == 11) (whole_two 1 5 (λ index outcome. (End index outcome, None)) index_at outcome_at after) (cond (tag == 12) (whole_one 1 (λ at. (Mark at, None)) time_at after) (cond (tag == 13) (Ok ((Whole, None), after)) (Err 0))))))))))))) (Ok (w, rest)) e) [
      | inl h ↦ let t = h.0 in let is : tag ≡ 1 = grind (arith, nat_tests) in let tagged : Begins bytes (1 ∷ []) after = subst (λ (k : ℕ). Begins bytes (k ∷ []) after) is front in put_takes bytes after w rest tagged h.1
      | inr h0 ↦ elim (chosen (tag == 2) (whole_two 1 6 (λ object at. (Stretch object at, None)) object_bytes_at time_at after) (cond (tag == 3) (whole_two 1 11 (λ stamp deadline. (Begin stamp deadline, None)) stamp_at (number_at w64) after) (cond (tag == 4) (whole_two 1 11 (λ stamp decision. (Decide stamp decision, None)) stamp_at decision_at after) (cond (tag == 5) (whole_two 1 11 (λ stamp committed. (Learn stamp committed, None)) stamp_at learned_at after) (cond (tag == 6) (whole_one 1 (λ number. (Run number, None)) positive_at after) (cond (tag == 7) (act_at after) (cond (tag == 8) (whole_two 1 5 (λ index stamp. (Try index stamp, None)) index_at stamp_at after) (cond (tag == 9) (whole_two 1 5 (λ step v. (Got step v, None)) positive_at value_found after) (cond (tag == 10) (whole_one 1 (λ step. (Acked step, None)) positive_at after) (cond (tag == 11) (whole_two 1 5 (λ index outcome. (End index outcome, None)) index_at outcome_at after) (cond (tag == 12) (whole_one 1 (λ at. (Mark at, None)) time_at after) (cond (tag == 13) (Ok ((Whole, None), after)) (Err 0)))))))))))) (Ok (w, rest)) h0.1) [
        | inl h ↦ let t = h.0 in let is : tag ≡ 2 = grind (arith, nat_tests) in let tagged : Begins bytes (2 ∷ []) after = subst (λ (k : ℕ). Begins bytes (k ∷ []) after) is front in
            let x = whole_two-takes object_bytes IsObject object_bytes_at object_form time_bytes IsTime time_at time_form (λ object at. (Stretch object at, None)) 1 6 after w rest front.rest_is_bytes h.1 in
            subst (λ (y : Written). Begins bytes (effect_bytes y) rest × IsWritten y) x.2 (Begins-then bytes (2 ∷ []) after (object_bytes x.0 ++ time_bytes x.1) rest tagged x.3, ((x.4, x.5), refl))
        | inr h1 ↦ elim (chosen (tag == 3) (whole_two 1 11 (λ stamp deadline. (Begin stamp deadline, None)) stamp_at (number_at w64) after) (cond (tag == 4) (whole_two 1 11 (λ stamp decision. (Decide stamp decision, None)) stamp_at decision_at after) (cond (tag == 5) (whole_two 1 11 (λ stamp committed. (Learn stamp committed, None)) stamp_at learned_at after) (cond (tag == 6) (whole_one 1 (λ number. (Run number, None)) positive_at after) (cond (tag == 7) (act_at after) (cond (tag == 8) (whole_two 1 5 (λ index stamp. (Try index stamp, None)) index_at stamp_at after) (cond (tag == 9) (whole_two 1 5 (λ step v. (Got step v, None)) positive_at value_found after) (cond (tag == 10) (whole_one 1 (λ step. (Acked step, None)) positive_at after) (cond (tag == 11) (whole_two 1 5 (λ index outcome. (End index outcome, None)) index_at outcome_at after) (cond (tag == 12) (whole_one 1 (λ at. (Mark at, None)) time_at after) (cond (tag == 13) (Ok ((Whole, None), after)) (Err 0))))))))))) (Ok (w, rest)) h1.1) [
          | inl h ↦ let t = h.0 in let is : tag ≡ 3 = grind (arith, nat_tests) in let tagged : Begins bytes (3 ∷ []) after = subst (λ (k : ℕ). Begins bytes (k ∷ []) after) is front in
              let x = whole_two-takes stamp_bytes IsStamp stamp_at stamp_form (to_be_bytes w64) IsLong (number_at w64) u64_form (λ stamp deadline. (Begin stamp deadline, None)) 1 11 after w rest front.rest_is_bytes h.1 in
              subst (λ (y : Written). Begins bytes (effect_bytes y) rest × IsWritten y) x.2 (Begins-then bytes (3 ∷ []) after (stamp_bytes x.0 ++ to_be_bytes w64 x.1) rest tagged x.3, ((x.4, x.5), refl))
          | inr h2 ↦ elim (chosen (tag == 4) (whole_two 1 11 (λ stamp decision. (Decide stamp decision, None)) stamp_at decision_at after) (cond (tag == 5) (whole_two 1 11 (λ stamp committed. (Learn stamp committed, None)) stamp_at learned_at after) (cond (tag == 6) (whole_one 1 (λ number. (Run number, None)) positive_at after) (cond (tag == 7) (act_at after) (cond (tag == 8) (whole_two 1 5 (λ index stamp. (Try index stamp, None)) index_at stamp_at after) (cond (tag == 9) (whole_two 1 5 (λ step v. (Got step v, None)) positive_at value_found after) (cond (tag == 10) (whole_one 1 (λ step. (Acked step, None)) positive_at after) (cond (tag == 11) (whole_two 1 5 (λ index outcome. (End index outcome, None)) index_at outcome_at after) (cond (tag == 12) (whole_one 1 (λ at. (Mark at, None)) time_at after) (cond (tag == 13) (Ok ((Whole, None), after)) (Err 0)))))))))) (Ok (w, rest)) h2.1) [
            | inl h ↦ let t = h.0 in let is : tag ≡ 4 = grind (arith, nat_tests) in let tagged : Begins bytes (4 ∷ []) after = subst (λ (k : ℕ). Begins bytes (k ∷ []) after) is front in
                let x = whole_two-takes stamp_bytes IsStamp stamp_at stamp_form decision_text IsDecision decision_at decision_form (λ stamp decision. (Decide stamp decision, None)) 1 11 after w rest front.rest_is_bytes h.1 in
                subst (λ (y : Written). Begins bytes (effect_bytes y) rest × IsWritten y) x.2 (Begins-then bytes (4 ∷ []) after (stamp_bytes x.0 ++ decision_text x.1) rest tagged x.3, ((x.4, x.5), refl))
            | inr h3 ↦ elim (chosen (tag == 5) (whole_two 1 11 (λ stamp committed. (Learn stamp committed, None)) stamp_at learned_at after) (cond (tag == 6) (whole_one 1 (λ number. (Run number, None)) positive_at after) (cond (tag == 7) (act_at after) (cond (tag == 8) (whole_two 1 5 (λ index stamp. (Try index stamp, None)) index_at stamp_at after) (cond (tag == 9) (whole_two 1 5 (λ step v. (Got step v, None)) positive_at value_found after) (cond (tag == 10) (whole_one 1 (λ step. (Acked step, None)) positive_at after) (cond (tag == 11) (whole_two 1 5 (λ index outcome. (End index outcome, None)) index_at outcome_at after) (cond (tag == 12) (whole_one 1 (λ at. (Mark at, None)) time_at after) (cond (tag == 13) (Ok ((Whole, None), after)) (Err 0))))))))) (Ok (w, rest)) h3.1) [
              | inl h ↦ let t = h.0 in let is : tag ≡ 5 = grind (arith, nat_tests) in let tagged : Begins bytes (5 ∷ []) after = subst (λ (k : ℕ). Begins bytes (k ∷ []) after) is front in
                  let x = whole_two-takes stamp_bytes IsStamp stamp_at stamp_form learned_bytes AnyAnswer learned_at learned_form (λ stamp committed. (Learn stamp committed, None)) 1 11 after w rest front.rest_is_bytes h.1 in
                  subst (λ (y : Written). Begins bytes (effect_bytes y) rest × IsWritten y) x.2 (Begins-then bytes (5 ∷ []) after (stamp_bytes x.0 ++ learned_bytes x.1) rest tagged x.3, ((x.4, x.5), refl))
              | inr h4 ↦ elim (chosen (tag == 6) (whole_one 1 (λ number. (Run number, None)) positive_at after) (cond (tag == 7) (act_at after) (cond (tag == 8) (whole_two 1 5 (λ index stamp. (Try index stamp, None)) index_at stamp_at after) (cond (tag == 9) (whole_two 1 5 (λ step v. (Got step v, None)) positive_at value_found after) (cond (tag == 10) (whole_one 1 (λ step. (Acked step, None)) positive_at after) (cond (tag == 11) (whole_two 1 5 (λ index outcome. (End index outcome, None)) index_at outcome_at after) (cond (tag == 12) (whole_one 1 (λ at. (Mark at, None)) time_at after) (cond (tag == 13) (Ok ((Whole, None), after)) (Err 0)))))))) (Ok (w, rest)) h4.1) [
                | inl h ↦ let t = h.0 in let is : tag ≡ 6 = grind (arith, nat_tests) in let tagged : Begins bytes (6 ∷ []) after = subst (λ (k : ℕ). Begins bytes (k ∷ []) after) is front in
                    let x = whole_one-takes (to_be_bytes w32) IsPositive positive_at positive_form (λ number. (Run number, None)) 1 after w rest front.rest_is_bytes h.1 in
                    subst (λ (y : Written). Begins bytes (effect_bytes y) rest × IsWritten y) x.1 (Begins-then bytes (6 ∷ []) after (to_be_bytes w32 x.0) rest tagged x.2, (x.3, refl))
                | inr h5 ↦ elim (chosen (tag == 7) (act_at after) (cond (tag == 8) (whole_two 1 5 (λ index stamp. (Try index stamp, None)) index_at stamp_at after) (cond (tag == 9) (whole_two 1 5 (λ step v. (Got step v, None)) positive_at value_found after) (cond (tag == 10) (whole_one 1 (λ step. (Acked step, None)) positive_at after) (cond (tag == 11) (whole_two 1 5 (λ index outcome. (End index outcome, None)) index_at outcome_at after) (cond (tag == 12) (whole_one 1 (λ at. (Mark at, None)) time_at after) (cond (tag == 13) (Ok ((Whole, None), after)) (Err 0))))))) (Ok (w, rest)) h5.1) [
                  | inl h ↦ let t = h.0 in let is : tag ≡ 7 = grind (arith, nat_tests) in let tagged : Begins bytes (7 ∷ []) after = subst (λ (k : ℕ). Begins bytes (k ∷ []) after) is front in act_takes bytes after w rest tagged h.1
                  | inr h6 ↦ elim (chosen (tag == 8) (whole_two 1 5 (λ index stamp. (Try index stamp, None)) index_at stamp_at after) (cond (tag == 9) (whole_two 1 5 (λ step v. (Got step v, None)) positive_at value_found after) (cond (tag == 10) (whole_one 1 (λ step. (Acked step, None)) positive_at after) (cond (tag == 11) (whole_two 1 5 (λ index outcome. (End index outcome, None)) index_at outcome_at after) (cond (tag == 12) (whole_one 1 (λ at. (Mark at, None)) time_at after) (cond (tag == 13) (Ok ((Whole, None), after)) (Err 0)))))) (Ok (w, rest)) h6.1) [
                    | inl h ↦ let t = h.0 in let is : tag ≡ 8 = grind (arith, nat_tests) in let tagged : Begins bytes (8 ∷ []) after = subst (λ (k : ℕ). Begins bytes (k ∷ []) after) is front in
                        let x = whole_two-takes (to_be_bytes w32) IsIndex index_at index_form stamp_bytes IsStamp stamp_at stamp_form (λ index stamp. (Try index stamp, None)) 1 5 after w rest front.rest_is_bytes h.1 in
                        subst (λ (y : Written). Begins bytes (effect_bytes y) rest × IsWritten y) x.2 (Begins-then bytes (8 ∷ []) after (to_be_bytes w32 x.0 ++ stamp_bytes x.1) rest tagged x.3, ((x.4, x.5), refl))
                    | inr h7 ↦ elim (chosen (tag == 9) (whole_two 1 5 (λ step v. (Got step v, None)) positive_at value_found after) (cond (tag == 10) (whole_one 1 (λ step. (Acked step, None)) positive_at after) (cond (tag == 11) (whole_two 1 5 (λ index outcome. (End index outcome, None)) index_at outcome_at after) (cond (tag == 12) (whole_one 1 (λ at. (Mark at, None)) time_at after) (cond (tag == 13) (Ok ((Whole, None), after)) (Err 0))))) (Ok (w, rest)) h7.1) [
                      | inl h ↦ let t = h.0 in let is : tag ≡ 9 = grind (arith, nat_tests) in let tagged : Begins bytes (9 ∷ []) after = subst (λ (k : ℕ). Begins bytes (k ∷ []) after) is front in
                          let x = whole_two-takes (to_be_bytes w32) IsPositive positive_at positive_form value_bytes IsValue value_found value_form (λ step v. (Got step v, None)) 1 5 after w rest front.rest_is_bytes h.1 in
                          subst (λ (y : Written). Begins bytes (effect_bytes y) rest × IsWritten y) x.2 (Begins-then bytes (9 ∷ []) after (to_be_bytes w32 x.0 ++ value_bytes x.1) rest tagged x.3, ((x.4, x.5), refl))
                      | inr h8 ↦ elim (chosen (tag == 10) (whole_one 1 (λ step. (Acked step, None)) positive_at after) (cond (tag == 11) (whole_two 1 5 (λ index outcome. (End index outcome, None)) index_at outcome_at after) (cond (tag == 12) (whole_one 1 (λ at. (Mark at, None)) time_at after) (cond (tag == 13) (Ok ((Whole, None), after)) (Err 0)))) (Ok (w, rest)) h8.1) [
                        | inl h ↦ let t = h.0 in let is : tag ≡ 10 = grind (arith, nat_tests) in let tagged : Begins bytes (10 ∷ []) after = subst (λ (k : ℕ). Begins bytes (k ∷ []) after) is front in
                            let x = whole_one-takes (to_be_bytes w32) IsPositive positive_at positive_form (λ step. (Acked step, None)) 1 after w rest front.rest_is_bytes h.1 in
                            subst (λ (y : Written). Begins bytes (effect_bytes y) rest × IsWritten y) x.1 (Begins-then bytes (10 ∷ []) after (to_be_bytes w32 x.0) rest tagged x.2, (x.3, refl))
                        | inr h9 ↦ elim (chosen (tag == 11) (whole_two 1 5 (λ index outcome. (End index outcome, None)) index_at outcome_at after) (cond (tag == 12) (whole_one 1 (λ at. (Mark at, None)) time_at after) (cond (tag == 13) (Ok ((Whole, None), after)) (Err 0))) (Ok (w, rest)) h9.1) [
                          | inl h ↦ let t = h.0 in let is : tag ≡ 11 = grind (arith, nat_tests) in let tagged : Begins bytes (11 ∷ []) after = subst (λ (k : ℕ). Begins bytes (k ∷ []) after) is front in
                              let x = whole_two-takes (to_be_bytes w32) IsIndex index_at index_form outcome_bytes IsOutcome outcome_at outcome_form (λ index outcome. (End index outcome, None)) 1 5 after w rest front.rest_is_bytes h.1 in
                              subst (λ (y : Written). Begins bytes (effect_bytes y) rest × IsWritten y) x.2 (Begins-then bytes (11 ∷ []) after (to_be_bytes w32 x.0 ++ outcome_bytes x.1) rest tagged x.3, ((x.4, x.5), refl))
                          | inr h10 ↦ elim (chosen (tag == 12) (whole_one 1 (λ at. (Mark at, None)) time_at after) (cond (tag == 13) (Ok ((Whole, None), after)) (Err 0)) (Ok (w, rest)) h10.1) [
                            | inl h ↦ let t = h.0 in let is : tag ≡ 12 = grind (arith, nat_tests) in let tagged : Begins bytes (12 ∷ []) after = subst (λ (k : ℕ). Begins bytes (k ∷ []) after) is front in
                                let x = whole_one-takes time_bytes IsTime time_at time_form (λ at. (Mark at, None)) 1 after w rest front.rest_is_bytes h.1 in
                                subst (λ (y : Written). Begins bytes (effect_bytes y) rest × IsWritten y) x.1 (Begins-then bytes (12 ∷ []) after (time_bytes x.0) rest tagged x.2, (x.3, refl))
                            | inr h11 ↦ elim (chosen (tag == 13) (Ok ((Whole, None), after)) (Err 0) (Ok (w, rest)) h11.1) [
                              | inl h ↦ let t = h.0 in let is : tag ≡ 13 = grind (arith, nat_tests) in let tagged : Begins bytes (13 ∷ []) after = subst (λ (k : ℕ). Begins bytes (k ∷ []) after) is front in
                                  let made : Written × List ℕ = ((Whole, None), after) in
                                  subst (λ (y : Written × List ℕ). Begins bytes (effect_bytes y.0) y.1 × IsWritten y.0) (ok_is made (w, rest) h.1) (tagged, (tt, refl))
                              | inr h12 ↦ absurd (let t = h12.1 in cc)
                            ]
                          ]
                        ]
                      ]
                    ]
                  ]
                ]
              ]
            ]
          ]
        ]
      ]
    ]

pub effect_takes : (bytes : List ℕ) (w : Written) (rest : List ℕ) → IsBytes bytes → effect_at bytes ≡ Ok (w, rest) → Begins bytes (effect_bytes w) rest × IsWritten w
unfolding effect_at
effect_takes bytes w rest fits e =
    let a = field_ok 0 (byte_at bytes) (λ tag. effect_of_tag tag.0 tag.1) (w, rest) e in
    effect_of_tag-takes bytes a.0.1 a.0.0 w rest (byte_form.takes bytes a.0.0 a.0.1 fits a.1).0 a.2

pub effect_again : (w : Written) (rest : List ℕ) → IsWritten w → effect_at (effect_bytes w ++ rest) ≡ Ok (w, rest)
unfolding effect_at effect_of_tag
effect_again (Put object start v, back) rest h = put_again object start v back rest h.0 h.1 h.2 h.3
effect_again (Stretch object at, back) rest h = whole_two-again object_bytes IsObject object_bytes_at object_form time_bytes IsTime time_at time_form (λ object at. (Stretch object at, None)) 1 6 object at rest h.0.0 h.0.1 ∙ ap (λ (b : Option Place). Ok ((Stretch object at, b), rest)) (sym h.1)
effect_again (Begin stamp deadline, back) rest h = whole_two-again stamp_bytes IsStamp stamp_at stamp_form (to_be_bytes w64) IsLong (number_at w64) u64_form (λ stamp deadline. (Begin stamp deadline, None)) 1 11 stamp deadline rest h.0.0 h.0.1 ∙ ap (λ (b : Option Place). Ok ((Begin stamp deadline, b), rest)) (sym h.1)
effect_again (Decide stamp decision, back) rest h = whole_two-again stamp_bytes IsStamp stamp_at stamp_form decision_text IsDecision decision_at decision_form (λ stamp decision. (Decide stamp decision, None)) 1 11 stamp decision rest h.0.0 h.0.1 ∙ ap (λ (b : Option Place). Ok ((Decide stamp decision, b), rest)) (sym h.1)
effect_again (Learn stamp committed, back) rest h = whole_two-again stamp_bytes IsStamp stamp_at stamp_form learned_bytes AnyAnswer learned_at learned_form (λ stamp committed. (Learn stamp committed, None)) 1 11 stamp committed rest h.0.0 h.0.1 ∙ ap (λ (b : Option Place). Ok ((Learn stamp committed, b), rest)) (sym h.1)
effect_again (Run number, back) rest h = whole_one-again (to_be_bytes w32) IsPositive positive_at positive_form (λ number. (Run number, None)) 1 number rest h.0 ∙ ap (λ (b : Option Place). Ok ((Run number, b), rest)) (sym h.1)
effect_again (Act index home timeout tries clock script, back) rest h = act_again index home timeout tries clock script rest h.0 ∙ ap (λ (b : Option Place). Ok ((Act index home timeout tries clock script, b), rest)) (sym h.1)
effect_again (Try index stamp, back) rest h = whole_two-again (to_be_bytes w32) IsIndex index_at index_form stamp_bytes IsStamp stamp_at stamp_form (λ index stamp. (Try index stamp, None)) 1 5 index stamp rest h.0.0 h.0.1 ∙ ap (λ (b : Option Place). Ok ((Try index stamp, b), rest)) (sym h.1)
effect_again (Got step v, back) rest h = whole_two-again (to_be_bytes w32) IsPositive positive_at positive_form value_bytes IsValue value_found value_form (λ step v. (Got step v, None)) 1 5 step v rest h.0.0 h.0.1 ∙ ap (λ (b : Option Place). Ok ((Got step v, b), rest)) (sym h.1)
effect_again (Acked step, back) rest h = whole_one-again (to_be_bytes w32) IsPositive positive_at positive_form (λ step. (Acked step, None)) 1 step rest h.0 ∙ ap (λ (b : Option Place). Ok ((Acked step, b), rest)) (sym h.1)
effect_again (End index outcome, back) rest h = whole_two-again (to_be_bytes w32) IsIndex index_at index_form outcome_bytes IsOutcome outcome_at outcome_form (λ index outcome. (End index outcome, None)) 1 5 index outcome rest h.0.0 h.0.1 ∙ ap (λ (b : Option Place). Ok ((End index outcome, b), rest)) (sym h.1)
effect_again (Mark at, back) rest h = whole_one-again time_bytes IsTime time_at time_form (λ at. (Mark at, None)) 1 at rest h.0 ∙ ap (λ (b : Option Place). Ok ((Mark at, b), rest)) (sym h.1)
effect_again (Whole, back) rest h = ap (λ (b : Option Place). Ok ((Whole, b), rest)) (sym h.1)
