-- A generated plan is one of the language, and its text isn't too long.
use Rattle.plan_form.proofs.Names.{◌≡◌, ℕ, zero, suc, ◌+◌, ◌-◌, ◌*◌, ◌/◌, ◌%◌, ◌<◌, ◌≤◌, ◌^◌, true, cond, List, [], ◌∷◌, ◌++◌, length, refl, sym, ap, subst, arith, length-append, ◌==◌, decimal, codes, replicate, lt-ltb, length-decimal-le, length-replicate, is_letter, word_spelling, IsReserved, IsToken, by_test, ActSpec, Number, Name, Between, Fixed, At, Block, block, block-made, Numbered, rows, spot_text, row_text, line_text, rows_text, script_text, InRange, act_front, terms, IsPlan, act_text, acts_text, head_text, plan_text, IsAct, EachAct, IsOfLanguage, step, drawn, account, balance, transfer, audit, act_of, target_of, transfer_act, drawn_act, after_act, transfers, made_plan}
use Rattle.std.proofs.lemmas.Nat.{mod_below}
use Rattle.token_form.specs.declared.tokens.Token.TheVariants as t
use Rattle.token_form.specs.declared.tokens.Word.{Word}
use Rattle.token_form.specs.declared.tokens.Word.TheVariants as w
use Rattle.value_form.specs.declared.objects.ObjectId.{ObjectId}
use Rattle.value_form.specs.declared.expressions.Infix.TheVariants as o
use Rattle.expression_form.specs.Texts.{text}
use Rattle.script_form.specs.Row as r
use Rattle.script_form.specs.Printable.{IsPrintable}
use Rattle.plan_form.proofs.PlanTextLemmas.{printed_is_plan}

-- ---- names of one letter

long_word : (word : Word) → 2 ≤ length (word_spelling word)
long_word w.Let = omega arith
long_word w.Read = omega arith
long_word w.Write = omega arith
long_word w.Print = omega arith
long_word w.If = omega arith
long_word w.Else = omega arith
long_word w.End = omega arith
long_word w.Repeat = omega arith
long_word w.Withdraw = omega arith
long_word w.Done = omega arith
long_word w.Nothing = omega arith
long_word w.And = omega arith
long_word w.Or = omega arith
long_word w.Not = omega arith
long_word w.Mod = omega arith
long_word w.Len = omega arith
long_word w.Text = omega arith
long_word w.Given = omega arith

free : (b : ℕ) → IsReserved (b ∷ []) → ⊥
free b (word, e) = let k : 1 ≡ length (word_spelling word) = ap length e in omega (arith, k, long_word word)

named : (b : ℕ) → is_letter b ≡ true → IsToken (t.Name (b ∷ []))
named b letter = (((letter, tt), free b), refl)

-- ---- sizes

one_digit : (n : ℕ) → n < 10 → length (decimal n) ≤ 1
one_digit n h = length-decimal-le 1 n (omega arith) (omega arith) (omega arith)

abbrev total : List ℕ → ℕ
total [] = 0
total (b ∷ bs) = b + 1 + total bs

-- the rows stand on lines one behind another, and have at most so many bytes
abbrev SizedBy : List ℕ → ℕ → List Numbered → Type 0
SizedBy [] next [] = Unit {0}
SizedBy (b ∷ bs) next (x ∷ xs) = (x.line ≡ next) × (length (row_text x.row) ≤ b) × SizedBy bs (next + 1) xs
SizedBy _ next _ = ⊥

line_size : (next line b : ℕ) (bytes : List ℕ) → line ≡ next → length bytes ≤ b → length (line_text next line bytes) ≤ b + 1
line_size next line b bytes e h =
    let one = length-append (replicate (line - next) 10) (bytes ++ 10 ∷ []) in
    let two = length-append bytes (10 ∷ []) in
    let gap : length {A = ℕ} (replicate (line - next) 10) ≡ line - next = length-replicate (line - next) 10 in
    omega (arith, one, two, gap, e, h)

rows_size : (bs : List ℕ) (next : ℕ) (xs : List Numbered) → SizedBy bs next xs → length (rows_text next xs) ≤ total bs
rows_size [] next [] h = omega arith
rows_size (b ∷ bs) next (x ∷ xs) (line, size, more) =
    let here = line_size next x.line b (row_text x.row) line size in
    let both = length-append (line_text next x.line (row_text x.row)) (rows_text (x.line + 1) xs) in
    let later = rows_size bs (x.line + 1) xs (subst (λ z. SizedBy bs (z + 1) xs) (sym line) more) in
    omega (arith, here, both, later)
rows_size [] next (x ∷ xs) h = absurd h
rows_size (b ∷ bs) next [] h = absurd h

-- ---- parts of rows

balance_size : (b : ℕ) → length (text (balance (b ∷ []))) ≤ 14
balance_size b =
    let number = length-decimal-le 4 1000 (omega arith) (omega arith) (omega arith) in
    let whole = length-append (decimal 1000) (41 ∷ []) in
    omega (arith, number, whole)

spot_size : (object : ObjectId) → object.repository < 10 → object.number < 10 → length (spot_text (Fixed object)) ≤ 3
spot_size object r n =
    let one = one_digit object.repository r in
    let two = one_digit object.number n in
    let whole = length-append (decimal object.repository) (46 ∷ decimal object.number) in
    omega (arith, one, two, whole)

read_size : (b : ℕ) (object : ObjectId) → object.repository < 10 → object.number < 10 → length (row_text (r.Read (b ∷ []) (Fixed object))) ≤ 10
read_size b object r n = let k = spot_size object r n in omega (arith, k)

amount_size : (amount : ℕ) → amount ≤ 20 → length (decimal amount) ≤ 2
amount_size amount h = length-decimal-le 2 amount (omega arith) (omega (arith, h)) (omega (arith, h))

if_size : (amount : ℕ) → amount ≤ 20 → length (row_text (r.If (Between o.GreaterEqual (balance (codes "a")) (Number amount)))) ≤ 23
if_size amount h =
    let one = balance_size 97 in
    let two = amount_size amount h in
    let whole = length-append (text (balance (codes "a"))) (codes " >= " ++ decimal amount) in
    omega (arith, one, two, whole)

less_size : (object : ObjectId) (amount : ℕ) → object.repository < 10 → object.number < 10 → amount ≤ 20 → length (row_text (r.Write (Fixed object) (Between o.Subtract (balance (codes "a")) (Number amount)))) ≤ 29
less_size object amount r n h =
    let place = spot_size object r n in
    let one = balance_size 97 in
    let two = amount_size amount h in
    let whole = length-append (text (balance (codes "a"))) (codes " - " ++ decimal amount) in
    let line = length-append (spot_text (Fixed object)) (32 ∷ (text (balance (codes "a")) ++ (codes " - " ++ decimal amount))) in
    omega (arith, place, one, two, whole, line)

more_size : (object : ObjectId) (amount : ℕ) → object.repository < 10 → object.number < 10 → amount ≤ 20 → length (row_text (r.Write (Fixed object) (Between o.Add (balance (codes "b")) (Number amount)))) ≤ 29
more_size object amount r n h =
    let place = spot_size object r n in
    let one = balance_size 98 in
    let two = amount_size amount h in
    let whole = length-append (text (balance (codes "b"))) (codes " + " ++ decimal amount) in
    let line = length-append (spot_text (Fixed object)) (32 ∷ (text (balance (codes "b")) ++ (codes " + " ++ decimal amount))) in
    omega (arith, place, one, two, whole, line)

let_size : (b n : ℕ) → n < 10 → length (row_text (r.Let (b ∷ []) (Number n))) ≤ 9
let_size b n h = let k = one_digit n h in omega (arith, k)

repeat_size : length (row_text (r.Repeat (Number 8))) ≤ 8
repeat_size = let k = one_digit 8 (omega arith) in omega (arith, k)

read_at_size : (repository : ℕ) → repository < 10 → length (row_text (r.Read (codes "v") (At repository (Name (codes "k"))))) ≤ 11
read_at_size repository h =
    let k = one_digit repository h in
    let whole = length-append (decimal repository) (91 ∷ (codes "k" ++ 93 ∷ [])) in
    omega (arith, k, whole)

sum_size : length (row_text (r.Let (codes "s") (Between o.Add (Name (codes "s")) (balance (codes "v"))))) ≤ 26
sum_size = let k = balance_size 118 in omega (arith, k)

count_size : length (row_text (r.Let (codes "k") (Between o.Add (Name (codes "k")) (Number 1)))) ≤ 13
count_size = let k = one_digit 1 (omega arith) in omega (arith, k)

number_in_limits : (n : ℕ) → n < 2 ^ 63 → IsToken (t.Number n)
number_in_limits n h = (tt, lt-ltb n (2 ^ 63) h)

-- ---- the scripts

-- an account is one of 64
pub record IsAccount (object : ObjectId) : Type 0 where
  pub repository : InRange 8 object.repository
  pub number : object.number < 10

pub account_is : (a : ℕ) → a < 64 → IsAccount (account a)
account_is a h = record { repository = (omega arith, omega arith); number = omega arith }

transfer_size : (source target : ObjectId) (amount : ℕ) → IsAccount source → IsAccount target → amount ≤ 20 → length (script_text (transfer source target amount)) ≤ 110
transfer_size source target amount a b h =
    let sr = a.repository.1 in
    let tr = b.repository.1 in
    let sh : source.repository < 10 = omega (arith, sr) in
    let th : target.repository < 10 = omega (arith, tr) in
    rows_size (10 ∷ 10 ∷ 23 ∷ 29 ∷ 29 ∷ 3 ∷ []) 1 (rows (transfer source target amount)) (
      refl,
      read_size 97 source sh a.number,
      (
        refl,
        read_size 98 target th b.number,
        (
          refl,
          if_size amount h,
          (
            refl,
            less_size source amount sh a.number h,
            (
              refl,
              more_size target amount th b.number h,
              (refl, omega arith, tt),
            ),
          ),
        ),
      ),
    )

pub transfer_is : (source target : ObjectId) (amount : ℕ) → IsAccount source → IsAccount target → 1 ≤ amount → amount ≤ 20 → IsPrintable 8 (transfer source target amount)
transfer_is source target amount a b low high =
    let ar = a.repository in
    let br = b.repository in
    let an = a.number in
    let bn = b.number in
    let sr : (1 ≤ source.repository) × (source.repository ≤ 16) = (ar.0, omega (arith, ar.1)) in
    let tr : (1 ≤ target.repository) × (target.repository ≤ 16) = (br.0, omega (arith, br.1)) in
    let sn : source.number < 2 ^ 32 = omega (arith, an) in
    let tn : target.number < 2 ^ 32 = omega (arith, bn) in
    let m = number_in_limits amount (omega (arith, high)) in
    let size = transfer_size source target amount a b high in
    record {
      rising = (omega arith, (omega arith, (omega arith, (omega arith, (omega arith, (omega arith, tt))))));
      limits = (
        (named 97 refl, (sr, sn)),
        ar.1,
        (
          (named 98 refl, (tr, tn)),
          br.1,
          (
            ((named 97 refl, (tt, refl)), m),
            tt,
            (
              ((sr, sn), ((named 97 refl, (tt, refl)), m)),
              ar.1,
              (
                ((tr, tn), ((named 98 refl, (tt, refl)), m)),
                br.1,
                (tt, tt, tt),
              ),
            ),
          ),
        ),
      );
      shallow = (omega arith, (omega arith, (omega arith, (omega arith, (omega arith, (omega arith, tt))))));
      depth = omega arith;
      lines = omega arith;
      bytes = omega (arith, size);
    }

audit_size : length (script_text audit) ≤ 400
audit_size =
    let size = rows_size (9 ∷ 9 ∷ 8 ∷ 11 ∷ 26 ∷ 11 ∷ 26 ∷ 11 ∷ 26 ∷ 11 ∷ 26 ∷ 11 ∷ 26 ∷ 11 ∷ 26 ∷ 11 ∷ 26 ∷ 11 ∷ 26 ∷ 13 ∷ 3 ∷ 7 ∷ []) 1 (rows audit) (refl, let_size 107 1 (omega arith), (refl, let_size 115 0 (omega arith), (refl, repeat_size, (refl, read_at_size 1 (omega arith), (refl, sum_size, (refl, read_at_size 2 (omega arith), (refl, sum_size, (refl, read_at_size 3 (omega arith), (refl, sum_size, (refl, read_at_size 4 (omega arith), (refl, sum_size, (refl, read_at_size 5 (omega arith), (refl, sum_size, (refl, read_at_size 6 (omega arith), (refl, sum_size, (refl, read_at_size 7 (omega arith), (refl, sum_size, (refl, read_at_size 8 (omega arith), (refl, sum_size, (refl, count_size, (refl, (omega arith), (refl, (omega arith), tt)))))))))))))))))))))) in
    omega (arith, size)

pub audit_is : IsPrintable 8 audit
audit_is =
    let size = audit_size in
    record {
      rising = (omega arith, (omega arith, (omega arith, (omega arith, (omega arith, (omega arith, (omega arith, (omega arith, (omega arith, (omega arith, (omega arith, (omega arith, (omega arith, (omega arith, (omega arith, (omega arith, (omega arith, (omega arith, (omega arith, (omega arith, (omega arith, (omega arith, tt))))))))))))))))))))));
      limits = ((named 107 refl, (tt, refl)), tt, ((named 115 refl, (tt, refl)), tt, ((tt, refl), tt, ((named 118 refl, ((omega arith, omega arith), named 107 refl)), omega arith, ((named 115 refl, (named 115 refl, (named 118 refl, (tt, refl)))), tt, ((named 118 refl, ((omega arith, omega arith), named 107 refl)), omega arith, ((named 115 refl, (named 115 refl, (named 118 refl, (tt, refl)))), tt, ((named 118 refl, ((omega arith, omega arith), named 107 refl)), omega arith, ((named 115 refl, (named 115 refl, (named 118 refl, (tt, refl)))), tt, ((named 118 refl, ((omega arith, omega arith), named 107 refl)), omega arith, ((named 115 refl, (named 115 refl, (named 118 refl, (tt, refl)))), tt, ((named 118 refl, ((omega arith, omega arith), named 107 refl)), omega arith, ((named 115 refl, (named 115 refl, (named 118 refl, (tt, refl)))), tt, ((named 118 refl, ((omega arith, omega arith), named 107 refl)), omega arith, ((named 115 refl, (named 115 refl, (named 118 refl, (tt, refl)))), tt, ((named 118 refl, ((omega arith, omega arith), named 107 refl)), omega arith, ((named 115 refl, (named 115 refl, (named 118 refl, (tt, refl)))), tt, ((named 118 refl, ((omega arith, omega arith), named 107 refl)), omega arith, ((named 115 refl, (named 115 refl, (named 118 refl, (tt, refl)))), tt, ((named 107 refl, (named 107 refl, (tt, refl))), tt, (tt, tt, (named 115 refl, tt, tt))))))))))))))))))))));
      shallow = (omega arith, (omega arith, (omega arith, (omega arith, (omega arith, (omega arith, (omega arith, (omega arith, (omega arith, (omega arith, (omega arith, (omega arith, (omega arith, (omega arith, (omega arith, (omega arith, (omega arith, (omega arith, (omega arith, (omega arith, (omega arith, (omega arith, tt))))))))))))))))))))));
      depth = omega arith;
      lines = omega arith;
      bytes = omega (arith, size);
    }

-- ---- acts

act_of_is : (index broker home : ℕ) (script : Block) → InRange 8 broker → InRange 8 home → IsPrintable 8 script → IsAct 8 8 index (act_of index broker home script)
act_of_is index broker home script b h p = record {
  index = refl;
  broker = b;
  home = h;
  timeout = (omega arith, omega arith);
  tries = (omega arith, omega arith);
  clock = (omega arith, omega arith);
  script = subst (IsPrintable 8) (sym (block-made script)) p;
}

front_size : (index broker home : ℕ) (script : Block) → InRange 8 broker → InRange 8 home → length (act_front (terms (act_of index broker home script))) ≤ 44
front_size index broker home script b h =
    let b1 = b.1 in
    let h1 = h.1 in
    let one = one_digit broker (omega (arith, b1)) in
    let two = one_digit home (omega (arith, h1)) in
    let three = length-decimal-le 6 100000 (omega arith) (omega arith) (omega arith) in
    let four = length-decimal-le 3 100 (omega arith) (omega arith) (omega arith) in
    let rest3 = codes " timeout " ++ (decimal 100000 ++ (codes " tries " ++ decimal 100)) in
    let e3 = length-append (decimal 100000) (codes " tries " ++ decimal 100) in
    let e2 = length-append (decimal home) rest3 in
    let e1 = length-append (decimal broker) (codes " home " ++ (decimal home ++ rest3)) in
    omega (arith, one, two, three, four, e1, e2, e3)

act_size : (index broker home most : ℕ) (script : Block) → InRange 8 broker → InRange 8 home → length (script_text script) ≤ most → length (act_text (act_of index broker home script)) ≤ 50 + most
act_size index broker home most script b h size =
    let front = front_size index broker home script b h in
    let same : length (script_text (block (act_of index broker home script).script.lines)) ≤ most = subst (λ z. length (script_text z) ≤ most) (sym (block-made script)) size in
    let whole = length-append (act_front (terms (act_of index broker home script))) (10 ∷ (script_text (block (act_of index broker home script).script.lines) ++ codes "done\n")) in
    let inner = length-append (script_text (block (act_of index broker home script).script.lines)) (codes "done\n") in
    omega (arith, front, same, whole, inner)

target_below : (source target : ℕ) → target < 64 → target_of source target < 64
target_below source target h = by_test (target == source) (λ p. cond p ((target + 1) % 64) target < 64) (λ e. omega arith) (λ e. h)

-- a transfer is an act of a plan with 8 repositories and 8 brokers, and its text is short
pub record Fine (n : ℕ) (act : ActSpec) : Type 0 where
  pub is : IsAct 8 8 n act
  pub size : length (act_text act) ≤ 160

transfer_fine : (i home source target amount : ℕ) → home < 8 → source < 64 → target < 64 → amount < 20 → Fine i (transfer_act i home source target amount)
transfer_fine i home source target amount hh sh th ah =
    let from = account_is source sh in
    let to = account_is (target_of source target) (target_below source target th) in
    let script = transfer (account source) (account (target_of source target)) (amount + 1) in
    let broker : InRange 8 (1 + i % 8) = (omega arith, omega arith) in
    let place : InRange 8 (1 + home) = (omega arith, omega arith) in
    record {
      is = act_of_is i (1 + i % 8) (1 + home) script broker place (transfer_is (account source) (account (target_of source target)) (amount + 1) from to (omega arith) (omega arith));
      size = act_size i (1 + i % 8) (1 + home) 110 script broker place (transfer_size (account source) (account (target_of source target)) (amount + 1) from to (omega arith));
    }

drawn_below : (state n : ℕ) → 0 < n → drawn state n < n
drawn_below state n h = mod_below (state / 2 ^ 33) n h

drawn_fine : (state i : ℕ) → Fine i (drawn_act state i)
drawn_fine state i =
    let s1 = step state in
    let s2 = step s1 in
    let s3 = step s2 in
    let s4 = step s3 in
    transfer_fine i (drawn s1 8) (drawn s2 64) (drawn s3 64) (drawn s4 20) (drawn_below s1 8 (omega arith)) (drawn_below s2 64 (omega arith)) (drawn_below s3 64 (omega arith)) (drawn_below s4 20 (omega arith))

each_then : (n : ℕ) (acts more : List ActSpec) → EachAct 8 8 n acts → EachAct 8 8 (n + length acts) more → EachAct 8 8 n (acts ++ more)
each_then n [] more h k = subst (λ z. EachAct 8 8 z more) (let e : n + 0 ≡ n = omega arith in e) k
each_then n (act ∷ acts) more (is, h) k = (is, each_then (n + 1) acts more h (subst (λ z. EachAct 8 8 z more) (let e : n + suc (length acts) ≡ n + 1 + length acts = omega arith in e) k))

transfers_are : (count state i : ℕ) → EachAct 8 8 i (transfers count state i)
transfers_are zero state i = tt
transfers_are (suc count) state i = ((drawn_fine state i).is, transfers_are count (after_act state) (i + 1))

transfers_count : (count state i : ℕ) → length (transfers count state i) ≡ count
transfers_count zero state i = refl
transfers_count (suc count) state i = ap suc (transfers_count count (after_act state) (i + 1))

acts_size : (acts more : List ActSpec) → length (acts_text (acts ++ more)) ≡ length (acts_text acts) + length (acts_text more)
acts_size [] more = let e : length (acts_text more) ≡ 0 + length (acts_text more) = omega arith in e
acts_size (act ∷ acts) more =
    let one = length-append (act_text act) (acts_text (acts ++ more)) in
    let two = length-append (act_text act) (acts_text acts) in
    let three = acts_size acts more in
    omega (arith, one, two, three)

transfers_size : (count state i : ℕ) → length (acts_text (transfers count state i)) ≤ 160 * count
transfers_size zero state i = omega arith
transfers_size (suc count) state i =
    let here = (drawn_fine state i).size in
    let both = length-append (act_text (drawn_act state i)) (acts_text (transfers count (after_act state) (i + 1))) in
    let later = transfers_size count (after_act state) (i + 1) in
    omega (arith, here, both, later)

-- ---- the plan

last_is : (count : ℕ) → EachAct 8 8 (count + 1) (act_of (count + 1) 1 1 audit ∷ [])
last_is count = (act_of_is (count + 1) 1 1 audit (omega arith, omega arith) (omega arith, omega arith) audit_is, tt)

pub made_is_whole : (seed count : ℕ) → count ≤ 9999 → IsOfLanguage (made_plan seed count)
made_is_whole seed count h =
    let size = length-append (transfers count seed 1) (act_of (count + 1) 1 1 audit ∷ []) in
    let same = transfers_count count seed 1 in (
      record {
        run = (omega arith, omega arith);
        repositories = (omega arith, omega arith);
        brokers = omega arith;
        acts = each_then 1 (transfers count seed 1) (act_of (count + 1) 1 1 audit ∷ []) (transfers_are count seed 1)
            (subst (λ z. EachAct 8 8 z (act_of (count + 1) 1 1 audit ∷ [])) (let e : count + 1 ≡ 1 + length (transfers count seed 1) = omega (arith, same) in e) (last_is count));
        few = omega (arith, size, same, h);
      },
      omega arith,
    )

head_size : length (head_text 1 8 8) ≤ 60
head_size =
    let one = one_digit 1 (omega arith) in
    let eight = one_digit 8 (omega arith) in
    let tail = codes "brokers " ++ (decimal 8 ++ 10 ∷ []) in
    let e3 = length-append (decimal 8) (10 ∷ []) in
    let e2 = length-append (decimal 8) (10 ∷ ((codes "brokers " ++ decimal 8) ++ 10 ∷ [])) in
    let e1 = length-append (decimal 1) (10 ∷ ((codes "repositories " ++ decimal 8) ++ (10 ∷ ((codes "brokers " ++ decimal 8) ++ 10 ∷ [])))) in
    omega (arith, one, eight, e1, e2, e3)

last_size : (count : ℕ) → length (acts_text (act_of (count + 1) 1 1 audit ∷ [])) ≤ 450
last_size count =
    let here = act_size (count + 1) 1 1 400 audit (omega arith, omega arith) (omega arith, omega arith) audit_size in
    let both = length-append (act_text (act_of (count + 1) 1 1 audit)) [] in
    omega (arith, here, both)

made_size : (seed count : ℕ) → count ≤ 9999 → length (plan_text (made_plan seed count)) ≤ 4194304
made_size seed count h =
    let last = act_of (count + 1) 1 1 audit in
    let head = head_size in
    let whole = length-append (head_text 1 8 8) (acts_text (transfers count seed 1 ++ last ∷ [])) in
    let parts = acts_size (transfers count seed 1) (last ∷ []) in
    let first = transfers_size count seed 1 in
    let end_size = last_size count in
    omega (arith, head, whole, parts, first, end_size, h)

pub made_is_plan : (seed count : ℕ) → count ≤ 9999 → IsPlan (plan_text (made_plan seed count)) (made_plan seed count)
made_is_plan seed count h = printed_is_plan (made_plan seed count) (made_is_whole seed count h) (made_size seed count h)
