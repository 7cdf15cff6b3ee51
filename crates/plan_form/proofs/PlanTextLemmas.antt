-- The canonical text of a plan is that plan.
use Rattle.plan_form.proofs.Names.{◌≡◌, ℕ, ◌+◌, ◌-◌, ◌<◌, ◌≤◌, ◌^◌, ◌⊎◌, inl, inr, cond, List, [], ◌∷◌, ◌++◌, length, refl, sym, ap, ◌∙◌, subst, arith, append_assoc, append-nil, ◌==◌, decimal, codes, replicate, Decides-eqb, by_test, AllPass-from, ActSpec, block, Numbered, rows, row_text, line_text, rows_text, script_text, lines_from, lines, IsScriptLines, Shown, shown-append, shown_number, line_ends, shown_stays, printed_is_script, Terms, Plan, InRange, title, run_line, repositories_line, brokers_line, act_front, IsActLine, terms, before_done, behind_done, AreActs, IsPlan, act_line, act_text, acts_text, head_text, plan_text, IsAct, EachAct, IsOfLanguage, CanRun}
use Rattle.std.specs.Int.{is_in_range}
use Rattle.std.specs.Str.Lines.{strip_carriage_return}
use Rattle.script_form.proofs.ReadLimitLemmas.{script_is_printable}
use Rattle.plan_form.proofs.DoneLemmas.{script_without_done}
use Rattle.plan_form.proofs.LineListLemmas.{past_blanks-line, has_done-behind, before_done-behind, behind_done-behind}
use Rattle.plan_form.proofs.NoPlanLemmas.{line_is_no_blank}
use Rattle.plan_form.proofs.NumberLemmas.{decimal_spells}

-- ---- the lines of two texts

lines_ended : (before front rest : List ℕ) → lines_from before (front ++ 10 ∷ rest) ≡ lines_from before (front ++ 10 ∷ []) ++ lines rest
lines_ended before [] rest = refl
lines_ended before (b ∷ front) rest =
    by_test (b == 10)
    (λ p. cond p (strip_carriage_return before ∷ lines_from [] (front ++ 10 ∷ rest)) (lines_from (before ++ b ∷ []) (front ++ 10 ∷ rest))
    ≡ cond p (strip_carriage_return before ∷ lines_from [] (front ++ 10 ∷ [])) (lines_from (before ++ b ∷ []) (front ++ 10 ∷ [])) ++ lines rest)
    (λ is. ap (λ z. strip_carriage_return before ∷ z) (lines_ended [] front rest))
    (λ is. lines_ended (before ++ b ∷ []) front rest)

-- the text is empty, or its last line is ended
abbrev pub Ended : List ℕ → Type 0
Ended text = (text ≡ []) ⊎ ((front : List ℕ) × (text ≡ front ++ 10 ∷ []))

lines-append : (a b : List ℕ) → Ended a → lines (a ++ b) ≡ lines a ++ lines b
lines-append a b (inl none) = ap (λ z. lines (z ++ b)) none ∙ ap (λ z. lines z ++ lines b) (sym none)
lines-append a b (inr (front, is)) =
    ap (λ z. lines (z ++ b)) is ∙ ap lines (append_assoc front (10 ∷ []) b) ∙ lines_ended [] front b ∙ ap (λ z. lines z ++ lines b) (sym is)

ended-behind : (a front b : List ℕ) → a ≡ front ++ 10 ∷ [] → Ended b → Ended (a ++ b)
ended-behind a front b is (inl none) = inr (front, ap (λ z. a ++ z) none ∙ append-nil a ∙ is)
ended-behind a front b is (inr (back, is2)) = inr (a ++ back, ap (λ z. a ++ z) is2 ∙ sym (append_assoc a back (10 ∷ [])))

rows_ended : (next : ℕ) (xs : List Numbered) → Ended (rows_text next xs)
rows_ended next [] = inl refl
rows_ended next (x ∷ xs) =
    ended-behind (line_text next x.line (row_text x.row)) (replicate (x.line - next) 10 ++ row_text x.row) (rows_text (x.line + 1) xs)
    (sym (append_assoc (replicate (x.line - next) 10) (row_text x.row) (10 ∷ []))) (rows_ended (x.line + 1) xs)

-- ---- one line

first : (bytes rest : List ℕ) → Shown bytes → lines (bytes ++ 10 ∷ rest) ≡ bytes ∷ lines rest
first bytes rest p = line_ends [] bytes rest p ∙ ap (λ z. z ∷ lines rest) (shown_stays bytes p)

shown_decimal : (n : ℕ) → n < 2 ^ 63 → Shown (decimal n)
shown_decimal n small = shown_number (decimal n) (decimal_spells n small).0

shown_word : (word : List ℕ) (n : ℕ) → Shown word → n < 2 ^ 63 → Shown (word ++ decimal n)
shown_word word n p small = shown-append word (decimal n) p (shown_decimal n small)

-- ---- the head

head_lines : (run r b : ℕ) (rest : List ℕ) → InRange (2 ^ 32 - 1) run → InRange 16 r → InRange 16 b
    → lines (head_text run r b ++ rest) ≡ title ∷ run_line run ∷ repositories_line r ∷ brokers_line b ∷ lines rest
head_lines run r b rest one two three =
    let x = one.1 in
    let y = two.1 in
    let z = three.1 in
    ap lines (append_assoc title (10 ∷ (run_line run ++ (10 ∷ (repositories_line r ++ (10 ∷ (brokers_line b ++ 10 ∷ [])))))) rest)
    ∙ first title ((run_line run ++ (10 ∷ (repositories_line r ++ (10 ∷ (brokers_line b ++ 10 ∷ []))))) ++ rest) (AllPass-from (is_in_range 32 126) title refl)
    ∙ ap (λ ls. title ∷ ls) (
    ap lines (append_assoc (run_line run) (10 ∷ (repositories_line r ++ (10 ∷ (brokers_line b ++ 10 ∷ [])))) rest)
    ∙ first (run_line run) ((repositories_line r ++ (10 ∷ (brokers_line b ++ 10 ∷ []))) ++ rest) (shown_word (codes "run ") run (AllPass-from (is_in_range 32 126) (codes "run ") refl) (omega (arith, x)))
    ∙ ap (λ ls. run_line run ∷ ls) (
    ap lines (append_assoc (repositories_line r) (10 ∷ (brokers_line b ++ 10 ∷ [])) rest)
    ∙ first (repositories_line r) ((brokers_line b ++ 10 ∷ []) ++ rest) (shown_word (codes "repositories ") r (AllPass-from (is_in_range 32 126) (codes "repositories ") refl) (omega (arith, y)))
    ∙ ap (λ ls. repositories_line r ∷ ls) (
    ap lines (append_assoc (brokers_line b) (10 ∷ []) rest)
    ∙ first (brokers_line b) rest (shown_word (codes "brokers ") b (AllPass-from (is_in_range 32 126) (codes "brokers ") refl) (omega (arith, z))))))

-- ---- act lines

act_line_is : (t : Terms) → ((act_line t ≡ act_front t) × (t.clock ≡ 1)) ⊎ (act_line t ≡ act_front t ++ (codes " clock " ++ decimal t.clock))
act_line_is t =
    by_test (t.clock == 1)
    (λ p. ((cond p (act_front t) (act_front t ++ (codes " clock " ++ decimal t.clock)) ≡ act_front t) × (t.clock ≡ 1)) ⊎ (cond p (act_front t) (act_front t ++ (codes " clock " ++ decimal t.clock)) ≡ act_front t ++ (codes " clock " ++ decimal t.clock)))
    (λ e. inl (refl, (Decides-eqb t.clock 1).0 e)) (λ e. inr refl)

pub says_act : (r b n : ℕ) (act : ActSpec) → IsAct r b n act → IsActLine r b (terms act) (act_line (terms act))
says_act r b n act h = record { is = act_line_is (terms act); broker = h.broker; home = h.home; timeout = h.timeout; tries = h.tries; clock = h.clock }

shown_front : (t : Terms) → t.broker < 2 ^ 63 → t.home < 2 ^ 63 → t.timeout < 2 ^ 63 → t.tries < 2 ^ 63 → Shown (act_front t)
shown_front t broker home timeout tries =
    shown-append (codes "act broker ") _ (AllPass-from (is_in_range 32 126) (codes "act broker ") refl) (shown-append (decimal t.broker) _ (shown_decimal t.broker broker)
    (shown-append (codes " home ") _ (AllPass-from (is_in_range 32 126) (codes " home ") refl) (shown-append (decimal t.home) _ (shown_decimal t.home home)
    (shown-append (codes " timeout ") _ (AllPass-from (is_in_range 32 126) (codes " timeout ") refl) (shown-append (decimal t.timeout) _ (shown_decimal t.timeout timeout)
    (shown_word (codes " tries ") t.tries (AllPass-from (is_in_range 32 126) (codes " tries ") refl) tries))))))

shown_act_line : (r b n : ℕ) (act : ActSpec) → r ≤ 16 → b ≤ 16 → IsAct r b n act → Shown (act_line (terms act))
shown_act_line r b n act rs bs h =
    let broker = h.broker.1 in
    let home = h.home.1 in
    let timeout = h.timeout.1 in
    let tries = h.tries.1 in
    let clock = h.clock.1 in
    let front = shown_front (terms act) (omega (arith, broker, bs)) (omega (arith, home, rs)) (omega (arith, timeout)) (omega (arith, tries)) in
    by_test (act.clock == 1) (λ p. Shown (cond p (act_front (terms act)) (act_front (terms act) ++ (codes " clock " ++ decimal act.clock))))
    (λ e. front)
    (λ e. shown-append (act_front (terms act)) (codes " clock " ++ decimal act.clock) front (shown_word (codes " clock ") act.clock (AllPass-from (is_in_range 32 126) (codes " clock ") refl) (omega (arith, clock))))

-- ---- acts

act_lines : (r b n : ℕ) (act : ActSpec) (rest : List ℕ) → r ≤ 16 → b ≤ 16 → IsAct r b n act
    → lines (act_text act ++ rest) ≡ act_line (terms act) ∷ (lines (script_text (block act.script.lines)) ++ codes "done" ∷ lines rest)
act_lines r b n act rest rs bs h =
    let script = script_text (block act.script.lines) in
    ap lines (append_assoc (act_line (terms act)) (10 ∷ (script ++ codes "done\n")) rest)
    ∙ first (act_line (terms act)) ((script ++ codes "done\n") ++ rest) (shown_act_line r b n act rs bs h)
    ∙ ap (λ z. act_line (terms act) ∷ lines z) (append_assoc script (codes "done\n") rest)
    ∙ ap (λ z. act_line (terms act) ∷ z) (lines-append script (codes "done\n" ++ rest) (rows_ended 1 (rows (block act.script.lines))))

pub acts_are : (r b n : ℕ) (acts : List ActSpec) → r ≤ 16 → b ≤ 16 → EachAct r b n acts → AreActs r b n acts (lines (acts_text acts))
acts_are r b n [] rs bs h = refl
acts_are r b n (act ∷ more) rs bs (h, others) =
    let script = lines (script_text (block act.script.lines)) in
    let rest = lines (acts_text more) in
    let is = printed_is_script r (block act.script.lines) h.script in
    let without = script_without_done r script (block act.script.lines) is in
    let says = says_act r b n act h in
    subst (AreActs r b n (act ∷ more)) (sym (act_lines r b n act (acts_text more) rs bs h)) (
      act_line (terms act),
      script ++ codes "done" ∷ rest,
      past_blanks-line (act_line (terms act)) (script ++ codes "done" ∷ rest) (line_is_no_blank r b (terms act) (act_line (terms act)) says),
      h.index,
      says,
      has_done-behind script (codes "done" ∷ rest) without,
      subst (λ z. IsScriptLines r z (block act.script.lines)) (sym (before_done-behind script (codes "done" ∷ rest) without ∙ append-nil script)) is,
      subst (AreActs r b (n + 1) more) (sym (behind_done-behind script (codes "done" ∷ rest) without)) (acts_are r b (n + 1) more rs bs others),
    )

pub printed_is_plan : (plan : Plan) → IsOfLanguage plan → length (plan_text plan) ≤ 4194304 → IsPlan (plan_text plan) plan
printed_is_plan plan h small = (
  small,
  record {
    body = lines (acts_text plan.acts);
    head = record {
      is = head_lines plan.run plan.repositories plan.brokers (acts_text plan.acts) h.0.run h.0.repositories (h.1, h.0.brokers);
      run_is = h.0.run;
      repositories_are = h.0.repositories;
      brokers_are = (h.1, h.0.brokers);
    };
    acts = acts_are plan.repositories plan.brokers 1 plan.acts h.0.repositories.1 h.0.brokers h.0.acts;
    few = h.0.few;
  },
)

-- ---- what is a plan is whole

each_act : (r b n : ℕ) (acts : List ActSpec) (ls : List (List ℕ)) → AreActs r b n acts ls → EachAct r b n acts
each_act r b n [] ls h = tt
each_act r b n (act ∷ more) ls (line, rest, parts, index, says, has, script, next) = (
  record {
    index = index;
    broker = says.broker;
    home = says.home;
    timeout = says.timeout;
    tries = says.tries;
    clock = says.clock;
    script = script_is_printable r (before_done rest) (block act.script.lines) script;
  },
  each_act r b (n + 1) more (behind_done rest) next,
)

pub plan_can_run : (bytes : List ℕ) (plan : Plan) → IsPlan bytes plan → CanRun plan
plan_can_run bytes plan (small, h) = record {
  run = h.head.run_is;
  repositories = h.head.repositories_are;
  brokers = h.head.brokers_are.1;
  acts = each_act plan.repositories plan.brokers 1 plan.acts h.body h.acts;
  few = h.few;
}

pub plan_is_of_language : (bytes : List ℕ) (plan : Plan) → IsPlan bytes plan → IsOfLanguage plan
plan_is_of_language bytes plan is = (plan_can_run bytes plan is, is.1.head.brokers_are.0)
