-- Bytes with a fault are no plan.
use Rattle.plan_form.proofs.Names.{◌≡◌, ℕ, suc, ◌+◌, ◌-◌, ◌≤◌, ◌^◌, ◌⊎◌, inl, inr, true, false, List, [], ◌∷◌, ◌++◌, length, drop, refl, sym, ap, ◌∙◌, subst, arith, decimal, codes, decimal_injective, ActSpec, block, lines, is_blank, IsScriptLines, Terms, Plan, InRange, title, run_line, repositories_line, brokers_line, HasHead, act_front, IsActLine, terms, has_done, before_done, AreActs, IsPlanLines, IsPlan, Lacks, IsNumbered, ScriptFault, Reaches, BodyFault, LinesFault, IsPlanFault}
use Rattle.script_form.proofs.FaultLemmas.{fault_of_no_script, open_is_no_script}
use Rattle.plan_form.specs.declared.plan_faults.PlanKind.{PlanKind}
use Rattle.plan_form.specs.declared.plan_faults.PlanKind.TheVariants as kind
use Rattle.plan_form.proofs.ActLemmas.{Left, acts_left, heads, one_acts}
use Rattle.plan_form.proofs.LineListLemmas.{past_blanks-line}

-- ---- heads

run_same : (a c : ℕ) → InRange (2 ^ 32 - 1) a → InRange (2 ^ 32 - 1) c → run_line a ≡ run_line c → a ≡ c
run_same a c h k e = let x = h.1 in let y = k.1 in decimal_injective a c (omega arith) (omega arith) (ap (drop 4) e)

repositories_same : (a c : ℕ) → InRange 16 a → InRange 16 c → repositories_line a ≡ repositories_line c → a ≡ c
repositories_same a c h k e = let x = h.1 in let y = k.1 in decimal_injective a c (omega arith) (omega arith) (ap (drop 13) e)

brokers_same : (a c : ℕ) → InRange 16 a → InRange 16 c → brokers_line a ≡ brokers_line c → a ≡ c
brokers_same a c h k e = let x = h.1 in let y = k.1 in decimal_injective a c (omega arith) (omega arith) (ap (drop 8) e)

-- what two heads of the same lines have in common
pub record SameHead (run repositories brokers : ℕ) (body : List (List ℕ)) (run2 repositories2 brokers2 : ℕ) (body2 : List (List ℕ)) : Type 0 where
  pub runs : run ≡ run2
  pub repositories_same : repositories ≡ repositories2
  pub brokers_same : brokers ≡ brokers2
  pub bodies : body ≡ body2

pub one_head : (ls : List (List ℕ)) (run repositories brokers : ℕ) (body : List (List ℕ)) (run2 repositories2 brokers2 : ℕ) (body2 : List (List ℕ))
    → HasHead ls run repositories brokers body → HasHead ls run2 repositories2 brokers2 body2 → SameHead run repositories brokers body run2 repositories2 brokers2 body2
one_head ls run repositories brokers body run2 repositories2 brokers2 body2 h k =
    let first = heads title title (run_line run ∷ repositories_line repositories ∷ brokers_line brokers ∷ body) (run_line run2 ∷ repositories_line repositories2 ∷ brokers_line brokers2 ∷ body2) (sym h.is ∙ k.is) in
    let second = heads (run_line run) (run_line run2) (repositories_line repositories ∷ brokers_line brokers ∷ body) (repositories_line repositories2 ∷ brokers_line brokers2 ∷ body2) first.1 in
    let third = heads (repositories_line repositories) (repositories_line repositories2) (brokers_line brokers ∷ body) (brokers_line brokers2 ∷ body2) second.1 in
    let fourth = heads (brokers_line brokers) (brokers_line brokers2) body body2 third.1 in
    record {
      runs = run_same run run2 h.run_is k.run_is second.0;
      repositories_same = repositories_same repositories repositories2 h.repositories_are k.repositories_are third.0;
      brokers_same = brokers_same brokers brokers2 h.brokers_are k.brokers_are fourth.0;
      bodies = fourth.1;
    }

-- ---- the body

pub line_is_no_blank : (r b : ℕ) (t : Terms) (line : List ℕ) → IsActLine r b t line → is_blank line ≡ false
line_is_no_blank r b t line h = either h.is
  where
    either : ((line ≡ act_front t) × (t.clock ≡ 1)) ⊎ (line ≡ act_front t ++ (codes " clock " ++ decimal t.clock)) → is_blank line ≡ false
    either (inl (is, one)) = subst (λ z. is_blank z ≡ false) (sym is) refl
    either (inr is) = subst (λ z. is_blank z ≡ false) (sym is) refl

script_fault_of_none : (r : ℕ) (ls : List (List ℕ)) (act : ActSpec) (at : ℕ) (what : PlanKind) → has_done ls ≡ true → IsScriptLines r (before_done ls) (block act.script.lines) → ScriptFault r ls at what → ⊥
script_fault_of_none r ls act at (kind.Script what) has is (inl h) = fault_of_no_script r (before_done ls) at what (block act.script.lines) h is
script_fault_of_none r ls act at (kind.Script what) has is (inr h) = open_is_no_script r (before_done ls) at what (block act.script.lines) h.1 is
script_fault_of_none r ls act at kind.End has is h = let e : true ≡ false = sym has ∙ h.0 in absurd (cc)
script_fault_of_none r ls act at kind.Size has is h = h
script_fault_of_none r ls act at kind.Header has is h = h
script_fault_of_none r ls act at kind.Run has is h = h
script_fault_of_none r ls act at kind.Repositories has is h = h
script_fault_of_none r ls act at kind.Brokers has is h = h
script_fault_of_none r ls act at kind.Act has is h = h
script_fault_of_none r ls act at kind.Acts has is h = h

-- what stands in acts that are left, where the next line isn't blank
next_act : (r b n : ℕ) (more : List ActSpec) (line : List ℕ) (rest : List (List ℕ)) → is_blank line ≡ false → AreActs r b n more (line ∷ rest)
    → (act : ActSpec) × (others : List ActSpec) × (more ≡ act ∷ others) × IsActLine r b (terms act) line × (has_done rest ≡ true) × IsScriptLines r (before_done rest) (block act.script.lines)
next_act r b n [] line rest is h = absurd (let e : line ∷ rest ≡ [] = sym (past_blanks-line line rest is) ∙ h in cc)
next_act r b n (act ∷ others) line rest is (line2, rest2, parts, index, says, has, script, next) =
    let same = heads line2 line rest2 rest (sym parts ∙ past_blanks-line line rest is) in
    (act, others, refl, subst (IsActLine r b (terms act)) same.0 says, subst (λ z. has_done z ≡ true) same.1 has, subst (λ z. IsScriptLines r (before_done z) (block act.script.lines)) same.1 script)

reached : (r b : ℕ) (ls : List (List ℕ)) (acts all : List ActSpec) (before : List (List ℕ)) (line : List ℕ) (more : List (List ℕ)) → Reaches r b ls acts before line more → AreActs r b 1 all ls → Left r b 1 acts all (line ∷ more)
reached r b ls acts all before line more h k = acts_left r b 1 acts all before (line ∷ more) h.whole (subst (AreActs r b 1 all) h.is k)

inside : (r b : ℕ) (ls : List (List ℕ)) (all acts : List ActSpec) (before more : List (List ℕ)) (line : List ℕ) (t : Terms) (at : ℕ) (what : PlanKind)
    → AreActs r b 1 all ls → Reaches r b ls acts before line more → IsActLine r b t line → ScriptFault r more at what → ⊥
inside r b ls all acts before more line t at what h reaches says fault =
    let left = reached r b ls acts all before line more reaches h in
    let next = next_act r b (1 + length acts) left.more line more (line_is_no_blank r b t line says) left.are in
    script_fault_of_none r more next.0 at what next.4 next.5 fault

body_fault_of_none : (r b : ℕ) (ls : List (List ℕ)) (all : List ActSpec) (at : ℕ) (what : PlanKind) → AreActs r b 1 all ls → length all ≤ 10000 → BodyFault r b ls at what → ⊥
body_fault_of_none r b ls all at kind.Act h few (acts, before, more, line, reaches, is, blank, never) =
    let left = reached r b ls acts all before line more reaches h in
    let next = next_act r b (1 + length acts) left.more line more blank left.are in
    never (terms next.0) next.3
body_fault_of_none r b ls all at kind.Acts h few (acts, before, more, line, reaches, is, count, t, says) =
    let left = reached r b ls acts all before line more reaches h in
    let next = next_act r b (1 + length acts) left.more line more (line_is_no_blank r b t line says) left.are in
    let total = left.count in
    let some : length left.more ≡ suc (length next.1) = ap length next.2 in
    absurd (omega (arith, total, some, few, count))
body_fault_of_none r b ls all at (kind.Script what) h few (acts, before, more, line, reaches, few2, t, says, at2, is, fault) = inside r b ls all acts before more line t at2 (kind.Script what) h reaches says fault
body_fault_of_none r b ls all at kind.End h few (acts, before, more, line, reaches, few2, t, says, at2, is, fault) = inside r b ls all acts before more line t at2 kind.End h reaches says fault
body_fault_of_none r b ls all at kind.Size h few (acts, before, more, line, reaches, few2, t, says, at2, is, fault) = fault
body_fault_of_none r b ls all at kind.Header h few (acts, before, more, line, reaches, few2, t, says, at2, is, fault) = fault
body_fault_of_none r b ls all at kind.Run h few (acts, before, more, line, reaches, few2, t, says, at2, is, fault) = fault
body_fault_of_none r b ls all at kind.Repositories h few (acts, before, more, line, reaches, few2, t, says, at2, is, fault) = fault
body_fault_of_none r b ls all at kind.Brokers h few (acts, before, more, line, reaches, few2, t, says, at2, is, fault) = fault

-- ---- all lines

behind_head : (ls : List (List ℕ)) (plan : Plan) (what : PlanKind) (run r b : ℕ) (body : List (List ℕ)) (at : ℕ) → IsPlanLines ls plan → HasHead ls run r b body → BodyFault r b body at what → ⊥
behind_head ls plan what run r b body at h head fault =
    let same = one_head ls run r b body plan.run plan.repositories plan.brokers h.body head h.head in
    body_fault_of_none plan.repositories plan.brokers h.body plan.acts at what h.acts h.few
    (subst (λ z. BodyFault plan.repositories plan.brokers z at what) same.bodies (subst (λ z. BodyFault plan.repositories z body at what) same.brokers_same (subst (λ z. BodyFault z b body at what) same.repositories_same fault)))

lines_fault_of_none : (ls : List (List ℕ)) (plan : Plan) (at : ℕ) (what : PlanKind) → IsPlanLines ls plan → LinesFault ls at what → ⊥
lines_fault_of_none ls plan at kind.Size h fault = fault
lines_fault_of_none ls plan at kind.Header h (is, lacks) = (subst (Lacks (λ l. l ≡ title)) h.head.is lacks) refl
lines_fault_of_none ls plan at kind.Run h (is, rest, parts, lacks) =
    let same = heads title title rest (run_line plan.run ∷ repositories_line plan.repositories ∷ brokers_line plan.brokers ∷ h.body) (sym parts ∙ h.head.is) in
    (subst (Lacks (IsNumbered run_line (2 ^ 32 - 1))) same.1 lacks) (plan.run, h.head.run_is, refl)
lines_fault_of_none ls plan at kind.Repositories h (is, run, range, rest, parts, lacks) =
    let first = heads title title (run_line run ∷ rest) (run_line plan.run ∷ repositories_line plan.repositories ∷ brokers_line plan.brokers ∷ h.body) (sym parts ∙ h.head.is) in
    let same = heads (run_line run) (run_line plan.run) rest (repositories_line plan.repositories ∷ brokers_line plan.brokers ∷ h.body) first.1 in
    (subst (Lacks (IsNumbered repositories_line 16)) same.1 lacks) (plan.repositories, h.head.repositories_are, refl)
lines_fault_of_none ls plan at kind.Brokers h (is, run, repositories, range, range2, rest, parts, lacks) =
    let first = heads title title (run_line run ∷ repositories_line repositories ∷ rest) (run_line plan.run ∷ repositories_line plan.repositories ∷ brokers_line plan.brokers ∷ h.body) (sym parts ∙ h.head.is) in
    let second = heads (run_line run) (run_line plan.run) (repositories_line repositories ∷ rest) (repositories_line plan.repositories ∷ brokers_line plan.brokers ∷ h.body) first.1 in
    let same = heads (repositories_line repositories) (repositories_line plan.repositories) rest (brokers_line plan.brokers ∷ h.body) second.1 in
    (subst (Lacks (IsNumbered brokers_line 16)) same.1 lacks) (plan.brokers, h.head.brokers_are, refl)
lines_fault_of_none ls plan at kind.Act h (run, r, b, body, head, at2, is, fault) = behind_head ls plan kind.Act run r b body at2 h head fault
lines_fault_of_none ls plan at kind.Acts h (run, r, b, body, head, at2, is, fault) = behind_head ls plan kind.Acts run r b body at2 h head fault
lines_fault_of_none ls plan at (kind.Script what) h (run, r, b, body, head, at2, is, fault) = behind_head ls plan (kind.Script what) run r b body at2 h head fault
lines_fault_of_none ls plan at kind.End h (run, r, b, body, head, at2, is, fault) = behind_head ls plan kind.End run r b body at2 h head fault

pub fault_of_no_plan : (bytes : List ℕ) (line : ℕ) (what : PlanKind) (plan : Plan) → IsPlanFault bytes line what → IsPlan bytes plan → ⊥
fault_of_no_plan bytes line kind.Size plan (is, over) (small, h) = omega (arith, over, small)
fault_of_no_plan bytes line kind.Header plan f (small, h) = lines_fault_of_none (lines bytes) plan line kind.Header h f.1
fault_of_no_plan bytes line kind.Run plan f (small, h) = lines_fault_of_none (lines bytes) plan line kind.Run h f.1
fault_of_no_plan bytes line kind.Repositories plan f (small, h) = lines_fault_of_none (lines bytes) plan line kind.Repositories h f.1
fault_of_no_plan bytes line kind.Brokers plan f (small, h) = lines_fault_of_none (lines bytes) plan line kind.Brokers h f.1
fault_of_no_plan bytes line kind.Act plan f (small, h) = lines_fault_of_none (lines bytes) plan line kind.Act h f.1
fault_of_no_plan bytes line kind.Acts plan f (small, h) = lines_fault_of_none (lines bytes) plan line kind.Acts h f.1
fault_of_no_plan bytes line (kind.Script what) plan f (small, h) = lines_fault_of_none (lines bytes) plan line (kind.Script what) h f.1
fault_of_no_plan bytes line kind.End plan f (small, h) = lines_fault_of_none (lines bytes) plan line kind.End h f.1

-- ---- bytes are one plan

abbrev plan_from : ℕ → ℕ → ℕ → List ActSpec → Plan
plan_from run repositories brokers acts = record { run = run; repositories = repositories; brokers = brokers; acts = acts }

pub one_plan : (bytes : List ℕ) (a c : Plan) → IsPlan bytes a → IsPlan bytes c → a ≡ c
one_plan bytes a c (small, h) (small2, k) =
    let same = one_head (lines bytes) a.run a.repositories a.brokers h.body c.run c.repositories c.brokers k.body h.head k.head in
    let high = k.head.repositories_are.1 in
    let high2 = k.head.brokers_are.1 in
    let first = subst (λ z. AreActs c.repositories c.brokers 1 a.acts z) same.bodies (subst (λ z. AreActs c.repositories z 1 a.acts h.body) same.brokers_same (subst (λ z. AreActs z a.brokers 1 a.acts h.body) same.repositories_same h.acts)) in
    ap (λ z. plan_from z a.repositories a.brokers a.acts) same.runs
    ∙ ap (λ z. plan_from c.run z a.brokers a.acts) same.repositories_same
    ∙ ap (λ z. plan_from c.run c.repositories z a.acts) same.brokers_same
    ∙ ap (plan_from c.run c.repositories c.brokers) (one_acts c.repositories c.brokers 1 a.acts c.acts k.body (omega (arith, high)) (omega (arith, high2)) first k.acts)
