-- Texts that are kept.
use Rattle.std.proofs.Common.{◌≡◌, ◌++◌, ◌+◌, ◌-◌, ◌<◌, ◌≤◌, ◌∙◌, ◌==◌, Bool, true, false, ℕ, List, [], ◌∷◌, length, ap, append_assoc, arith, inl, inr, refl, subst, sym, ◌⊎◌}
use Rattle.std.specs.Prelude.{take, slice_index, if◌then◌else◌}
use Rattle.std.specs.Str.Lines.{strip_carriage_return}
use Rattle.std.proofs.lemmas.List.{length-append, length-take}
use Rattle.plan_form.specs.declared.plan_faults.PlanKind.{PlanKind}
use Rattle.plan_form.specs.declared.plan_faults.PlanKind.TheVariants as kind
use Rattle.plan_form.specs.declared.plans.Plan.{Plan}
use Rattle.plan_form.specs.PlanFaults.{IsPlanFault, LinesFault}
use Rattle.plan_form.specs.Plans.{IsPlan}
use Rattle.script_form.specs.Lines.{lines}
use Rattle.session_form.specs.Sessions.{IsGo, IsTitle}
use Rattle.session_command.specs.Kept.{IsIdle, IsKept}

-- what isn't longer than a plan is whole
pub kept-whole : (kept whole : List ℕ) → IsKept kept whole → length kept ≤ 4194304 → kept ≡ whole
kept-whole kept whole (inl e) low = e
kept-whole kept whole (inr (rest, e, long)) low = absurd (omega (arith, low, long))

-- what is longer is a front
pub kept-long : (kept whole : List ℕ) → IsKept kept whole → 4194304 < length kept → 4194304 < length whole
kept-long kept whole (inl e) long = subst (λ (l : List ℕ). 4194304 < length l) e long
kept-long kept whole (inr (rest, e, more)) long = let n = length-append kept rest in let k = ap length e in omega (arith, long, n, k)

pub kept-more : (kept whole more : List ℕ) → IsKept kept whole → 4194304 < length kept → IsKept kept (whole ++ more)
kept-more kept whole more (inl e) long = inr (more, ap (λ (l : List ℕ). l ++ more) (sym e), long)
kept-more kept whole more (inr (rest, e, l)) long = inr (rest ++ more, ap (λ (x : List ℕ). x ++ more) e ∙ append_assoc kept rest more, l)

-- and more is kept of a text that isn't longer
pub kept-behind : (kept whole front more : List ℕ) → IsKept kept whole → length kept ≤ 4194304 → IsKept front more → IsKept (kept ++ front) (whole ++ more)
kept-behind kept whole front more k low (inl e) = inl (ap (λ (l : List ℕ). l ++ front) (kept-whole kept whole k low) ∙ ap (λ (l : List ℕ). whole ++ l) e)
kept-behind kept whole front more k low (inr (rest, e, long)) =
    let n = length-append kept front in
    inr (rest, ap (λ (l : List ℕ). l ++ more) (sym (kept-whole kept whole k low)) ∙ (ap (λ (l : List ℕ). kept ++ l) e ∙ sym (append_assoc kept front rest)), omega (arith, n, long))

-- ---- what is asked of kept lines

module _ (kept whole : List ℕ) (is : IsKept kept whole) where
  -- a test that no long line passes
  pub short-alike : (P : List ℕ → Type 0) → ((l : List ℕ) → P l → length l ≤ 4194304) → (P kept → P whole) × (P whole → P kept)
  short-alike P short = by is
    where
      by : (kept ≡ whole) ⊎ ((rest : List ℕ) × (whole ≡ kept ++ rest) × (4194304 < length kept)) → (P kept → P whole) × (P whole → P kept)
      by (inl e) = (subst P e, subst P (sym e))
      by (inr (rest, e, long)) = (λ p. let s = short kept p in absurd (omega (arith, s, long)), λ p. let s = short whole p in let n = length-append kept rest in let k = ap length e in absurd (omega (arith, s, long, n, k)))

stripped-long : (l : List ℕ) → length l ≤ length (strip_carriage_return l) + 1
stripped-long l = by (slice_index l (length l - 1) == 13)
  where
    by : (b : Bool) → length l ≤ length (if b then take (length l - 1) l else l) + 1
    by true = let k = length-take (length l - 1) l in omega (arith, k)
    by false = omega arith

said-short : (l words : List ℕ) → length words ≤ 20 → strip_carriage_return l ≡ words → length l ≤ 4194304
said-short l words few e = let k = stripped-long l in let m = ap length e in omega (arith, k, m, few)

pub go-alike : (kept whole : List ℕ) → IsKept kept whole → (IsGo kept → IsGo whole) × (IsGo whole → IsGo kept)
go-alike kept whole is = short-alike kept whole is IsGo (λ l e. said-short l _ (omega arith) e)

pub title-alike : (kept whole : List ℕ) → IsKept kept whole → (IsTitle kept → IsTitle whole) × (IsTitle whole → IsTitle kept)
title-alike kept whole is = short-alike kept whole is IsTitle (λ l e. said-short l _ (omega arith) e)

pub idle-alike : (kept whole : List ℕ) → IsKept kept whole → (IsIdle kept → IsIdle whole) × (IsIdle whole → IsIdle kept)
idle-alike kept whole is = short-alike kept whole is IsIdle (λ l i. i.0)

-- ---- plans

pub plan-whole : (kept whole : List ℕ) (plan : Plan) → IsKept kept whole → IsPlan kept plan → IsPlan whole plan
plan-whole kept whole plan is p = subst (λ (l : List ℕ). IsPlan l plan) (kept-whole kept whole is p.0) p

pub fault-whole : (kept whole : List ℕ) (at : ℕ) (what : PlanKind) → IsKept kept whole → IsPlanFault kept at what → IsPlanFault whole at what
fault-whole kept whole at kind.Size is f = (f.0, kept-long kept whole is f.1)
fault-whole kept whole at kind.Header is f = subst (λ (l : List ℕ). IsPlanFault l at kind.Header) (kept-whole kept whole is f.0) f
fault-whole kept whole at kind.Run is f = subst (λ (l : List ℕ). IsPlanFault l at kind.Run) (kept-whole kept whole is f.0) f
fault-whole kept whole at kind.Repositories is f = subst (λ (l : List ℕ). IsPlanFault l at kind.Repositories) (kept-whole kept whole is f.0) f
fault-whole kept whole at kind.Brokers is f = subst (λ (l : List ℕ). IsPlanFault l at kind.Brokers) (kept-whole kept whole is f.0) f
fault-whole kept whole at kind.Act is f = subst (λ (l : List ℕ). IsPlanFault l at kind.Act) (kept-whole kept whole is f.0) f
fault-whole kept whole at kind.Acts is f = subst (λ (l : List ℕ). IsPlanFault l at kind.Acts) (kept-whole kept whole is f.0) f
fault-whole kept whole at (kind.Script s) is f = subst (λ (l : List ℕ). IsPlanFault l at (kind.Script s)) (kept-whole kept whole is f.0) f
fault-whole kept whole at kind.End is f = subst (λ (l : List ℕ). IsPlanFault l at kind.End) (kept-whole kept whole is f.0) f
