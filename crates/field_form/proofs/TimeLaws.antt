-- A stamp or pseudotime that is read is the one that was written.
use Rattle.field_form.proofs.Names.{◌≡◌, ℕ, ◌^◌, ◌&&◌, Bool, true, false, cond, nat_lt, nat_le, List, [], ◌∷◌, ◌++◌, Option, Some, None, refl, ap, subst, ◌∙◌, append_assoc, arith, w32, w64, to_be_bytes, nat_tests, IsBytes, Begins, IsForm, ◌>>=◌, byte_at, number_at}
use Rattle.pseudo_time.specs.StampParts.{StampParts, IsInRange, IsStamp, stamp_bytes}
use Rattle.pseudo_time.specs.TimeParts.{TimeParts, IsTime, time_bytes}
use Rattle.field_form.specs.Times.{stamp_in_range, stamp_at, time_at}
use Rattle.field_form.proofs.FormLaws.{bind_some, chosen_then, Begins-then}
use Rattle.field_form.proofs.NumberLaws.{byte_form, u32_form, u64_form}

both : (p q : Bool) → (p && q) ≡ true → (p ≡ true) × (q ≡ true)
both true true e = (refl, refl)
both true false e = absurd (cc)
both false q e = absurd (cc)

IsInRange-test : (c b h : ℕ) → stamp_in_range c b h ≡ true → IsInRange c b h
IsInRange-test c b h e =
    let clock = both (nat_le 1 c && nat_lt c (2 ^ 40)) _ e in
    let low = both (nat_le 1 c) _ clock.0 in
    let nodes = both (nat_le 1 b && nat_le b 16) _ clock.1 in
    let broker = both (nat_le 1 b) _ nodes.0 in
    let home = both (nat_le 1 h) _ nodes.1 in
    record {
      clock_low = grind (arith, nat_tests, low.0);
      clock_high = grind (arith, nat_tests, low.1);
      broker_low = grind (arith, nat_tests, broker.0);
      broker_high = grind (arith, nat_tests, broker.1);
      home_low = grind (arith, nat_tests, home.0);
      home_high = grind (arith, nat_tests, home.1);
    }

test-IsInRange : (c b h : ℕ) → IsInRange c b h → stamp_in_range c b h ≡ true
test-IsInRange c b h r =
    let p : nat_le 1 c ≡ true = grind (arith, nat_tests, r.clock_low) in
    let q : nat_lt c (2 ^ 40) ≡ true = grind (arith, nat_tests, r.clock_high) in
    let s : nat_le 1 b ≡ true = grind (arith, nat_tests, r.broker_low) in
    let t : nat_le b 16 ≡ true = grind (arith, nat_tests, r.broker_high) in
    let u : nat_le 1 h ≡ true = grind (arith, nat_tests, r.home_low) in
    let v : nat_le h 16 ≡ true = grind (arith, nat_tests, r.home_high) in
    rw (p, q, s, t, u, v) refl

-- what the parts of a stamp are read as
abbrev stamp_from : ℕ → ℕ → ℕ × List ℕ → Option (StampParts × List ℕ)
stamp_from c b home = cond (stamp_in_range c b home.0) (Some (record { clock = c; broker = b; home = home.0 }, home.1)) None

stamp_takes : (bytes : List ℕ) (s : StampParts) (rest : List ℕ) → IsBytes bytes → stamp_at bytes ≡ Some (s, rest) → Begins bytes (stamp_bytes s) rest × IsStamp s
unfolding stamp_at
stamp_takes bytes s rest fits e =
    let a = bind_some (number_at w64 bytes) (λ clock. byte_at clock.1 >>= λ broker. byte_at broker.1 >>= λ home. stamp_from clock.0 broker.0 home) (s, rest) e in
    let b = bind_some (byte_at a.0.1) (λ broker. byte_at broker.1 >>= λ home. stamp_from a.0.0 broker.0 home) (s, rest) a.2 in
    let c = bind_some (byte_at b.0.1) (stamp_from a.0.0 b.0.0) (s, rest) b.2 in
    let made : StampParts × List ℕ = (record { clock = a.0.0; broker = b.0.0; home = c.0.0 }, c.0.1) in
    let g = chosen_then (stamp_in_range a.0.0 b.0.0 c.0.0) made (s, rest) c.2 in
    let clock = u64_form.takes bytes a.0.0 a.0.1 fits a.1 in
    let broker = byte_form.takes a.0.1 b.0.0 b.0.1 clock.0.rest_is_bytes b.1 in
    let home = byte_form.takes b.0.1 c.0.0 c.0.1 broker.0.rest_is_bytes c.1 in
    let nodes = Begins-then a.0.1 (b.0.0 ∷ []) b.0.1 (c.0.0 ∷ []) c.0.1 broker.0 home.0 in
    let whole = Begins-then bytes (to_be_bytes w64 a.0.0) a.0.1 (b.0.0 ∷ c.0.0 ∷ []) c.0.1 clock.0 nodes in
    subst (λ (y : StampParts × List ℕ). Begins bytes (stamp_bytes y.0) y.1 × IsStamp y.0) g.1 (whole, IsInRange-test a.0.0 b.0.0 c.0.0 g.0)

stamp_again : (s : StampParts) (rest : List ℕ) → IsStamp s → stamp_at (stamp_bytes s ++ rest) ≡ Some (s, rest)
unfolding stamp_at
stamp_again s rest r =
    let regrouped : stamp_bytes s ++ rest ≡ to_be_bytes w64 s.clock ++ (s.broker ∷ s.home ∷ rest) = append_assoc (to_be_bytes w64 s.clock) (s.broker ∷ s.home ∷ []) rest in
    ap stamp_at regrouped ∙ rw (u64_form.again s.clock (s.broker ∷ s.home ∷ rest) (omega (arith, r.clock_high)), test-IsInRange s.clock s.broker s.home r) refl

pub stamp_form : IsForm stamp_bytes IsStamp stamp_at
stamp_form = record { takes = stamp_takes; again = stamp_again }

abbrev time_from : StampParts → ℕ × List ℕ → Option (TimeParts × List ℕ)
time_from s step = cond (nat_le 1 step.0) (Some (record { stamp = s; step = step.0 }, step.1)) None

time_takes : (bytes : List ℕ) (t : TimeParts) (rest : List ℕ) → IsBytes bytes → time_at bytes ≡ Some (t, rest) → Begins bytes (time_bytes t) rest × IsTime t
unfolding time_at
time_takes bytes t rest fits e =
    let a = bind_some (stamp_at bytes) (λ stamp. number_at w32 stamp.1 >>= λ step. time_from stamp.0 step) (t, rest) e in
    let b = bind_some (number_at w32 a.0.1) (time_from a.0.0) (t, rest) a.2 in
    let made : TimeParts × List ℕ = (record { stamp = a.0.0; step = b.0.0 }, b.0.1) in
    let g = chosen_then (nat_le 1 b.0.0) made (t, rest) b.2 in
    let stamp = stamp_takes bytes a.0.0 a.0.1 fits a.1 in
    let step = u32_form.takes a.0.1 b.0.0 b.0.1 stamp.0.rest_is_bytes b.1 in
    let whole = Begins-then bytes (stamp_bytes a.0.0) a.0.1 (to_be_bytes w32 b.0.0) b.0.1 stamp.0 step.0 in
    subst (λ (y : TimeParts × List ℕ). Begins bytes (time_bytes y.0) y.1 × IsTime y.0) g.1 (whole, record { stamp_in_range = stamp.1; step_low = grind (arith, nat_tests, g.0); step_high = step.1 })

time_again : (t : TimeParts) (rest : List ℕ) → IsTime t → time_at (time_bytes t ++ rest) ≡ Some (t, rest)
unfolding time_at
time_again t rest r =
    let regrouped : time_bytes t ++ rest ≡ stamp_bytes t.stamp ++ (to_be_bytes w32 t.step ++ rest) = append_assoc (stamp_bytes t.stamp) (to_be_bytes w32 t.step) rest in
    let low : nat_le 1 t.step ≡ true = grind (arith, nat_tests, r.step_low) in
    ap time_at regrouped ∙ rw (stamp_again t.stamp (to_be_bytes w32 t.step ++ rest) r.stamp_in_range, u32_form.again t.step rest r.step_high, low) refl

pub time_form : IsForm time_bytes IsTime time_at
time_form = record { takes = time_takes; again = time_again }
