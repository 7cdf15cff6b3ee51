-- Acts one after another.
use Rattle.plan_form.proofs.Names.{◌≡◌, ℕ, suc, ◌+◌, ◌<◌, ◌^◌, List, [], ◌∷◌, ◌++◌, length, refl, sym, ap, ◌∙◌, subst, arith, ActSpec, Script, Stmt, block, made_all, made-block, IsScriptLines, one_script_of_lines, Terms, IsActLine, terms, before_done, behind_done, past_blanks, AreActs}
use Rattle.plan_form.proofs.LineListLemmas.{past_blanks-none, past_blanks-some, has_done-more, before_done-more, behind_done-more}
use Rattle.plan_form.proofs.TermLemmas.{one_line}

-- ---- more lines behind whole acts

blanks_then : (r b n : ℕ) (more : List ActSpec) (before piece : List (List ℕ)) → past_blanks before ≡ [] → AreActs r b n more piece → AreActs r b n more (before ++ piece)
blanks_then r b n [] before piece none h = past_blanks-none before piece none ∙ h
blanks_then r b n (act ∷ more) before piece none (line, rest, parts, index, is, has, script, next) = (line, rest, past_blanks-none before piece none ∙ parts, index, is, has, script, next)

pub acts_then : (r b n : ℕ) (acts more : List ActSpec) (before piece : List (List ℕ)) → AreActs r b n acts before → AreActs r b (n + length acts) more piece → AreActs r b n (acts ++ more) (before ++ piece)
acts_then r b n [] more before piece h k = blanks_then r b n more before piece h (subst (λ z. AreActs r b z more piece) (let e : n + 0 ≡ n = omega arith in e) k)
acts_then r b n (act ∷ acts) more before piece (line, rest, parts, index, is, has, script, next) k = (
  line,
  rest ++ piece,
  past_blanks-some before piece rest line parts,
  index,
  is,
  has_done-more rest piece has,
  subst (λ z. IsScriptLines r z (block act.script.lines)) (sym (before_done-more rest piece has)) script,
  subst (AreActs r b (n + 1) (acts ++ more)) (sym (behind_done-more rest piece has))
      (acts_then r b (n + 1) acts more (behind_done rest) piece next (subst (λ z. AreActs r b z more piece) (let e : n + suc (length acts) ≡ n + 1 + length acts = omega arith in e) k)),
)

-- ---- lines are one list of acts

blanks_off : (r b n : ℕ) (all : List ActSpec) (before piece : List (List ℕ)) → past_blanks before ≡ [] → AreActs r b n all (before ++ piece) → AreActs r b n all piece
blanks_off r b n [] before piece none h = sym (past_blanks-none before piece none) ∙ h
blanks_off r b n (act ∷ all) before piece none (line, rest, parts, index, is, has, script, next) = (line, rest, sym (past_blanks-none before piece none) ∙ parts, index, is, has, script, next)

-- the acts that are left where whole acts were taken from the front
pub record Left (r b n : ℕ) (acts all : List ActSpec) (piece : List (List ℕ)) : Type 0 where
  pub more : List ActSpec
  pub count : length all ≡ length acts + length more
  pub are : AreActs r b (n + length acts) more piece

pub heads : (x y : List ℕ) (xs ys : List (List ℕ)) → x ∷ xs ≡ y ∷ ys → (x ≡ y) × (xs ≡ ys)
heads x y xs ys e = (cc, cc)

pub acts_left : (r b n : ℕ) (acts all : List ActSpec) (before piece : List (List ℕ)) → AreActs r b n acts before → AreActs r b n all (before ++ piece) → Left r b n acts all piece
acts_left r b n [] all before piece h k = record {
  more = all;
  count = (let e : length all ≡ 0 + length all = omega arith in e);
  are = subst (λ z. AreActs r b z all piece) (let e : n ≡ n + 0 = omega arith in e) (blanks_off r b n all before piece h k);
}
acts_left r b n (act ∷ acts) [] before piece (line, rest, parts, index, is, has, script, next) k = absurd (let e : line ∷ (rest ++ piece) ≡ [] = sym (past_blanks-some before piece rest line parts) ∙ k in cc)
acts_left r b n (act ∷ acts) (other ∷ all) before piece (line, rest, parts, index, is, has, script, next) (line2, rest2, parts2, index2, is2, has2, script2, next2) =
    let same = heads line2 line rest2 (rest ++ piece) (sym parts2 ∙ past_blanks-some before piece rest line parts) in
    let behind = subst (AreActs r b (n + 1) all) (ap behind_done same.1 ∙ behind_done-more rest piece has) next2 in
    let left = acts_left r b (n + 1) acts all (behind_done rest) piece next behind in
    record {
      more = left.more;
      count = (let e = left.count in omega (arith, e));
      are = subst (λ z. AreActs r b z left.more piece) (let e : n + 1 + length acts ≡ n + suc (length acts) = omega arith in e) left.are;
    }

same_script : (r : ℕ) (ls : List (List ℕ)) (a c : Script) → IsScriptLines r ls (block a.lines) → IsScriptLines r ls (block c.lines) → a ≡ c
same_script r ls a c h k =
    let e : a.lines ≡ c.lines = sym (made-block a.lines) ∙ ap made_all (one_script_of_lines r ls (block a.lines) (block c.lines) h k) ∙ made-block c.lines in
    ap (λ (z : List Stmt). record { lines = z }) e

abbrev act_from : ℕ → Terms → Script → ActSpec
act_from index t script = record { index = index; broker = t.broker; home = t.home; timeout = t.timeout; tries = t.tries; clock = t.clock; script = script }

same_act : (a c : ActSpec) → a.index ≡ c.index → terms a ≡ terms c → a.script ≡ c.script → a ≡ c
same_act a c index said script =
    ap (λ z. act_from z (terms a) a.script) index ∙ ap (λ z. act_from c.index z a.script) said ∙ ap (act_from c.index (terms c)) script

pub one_acts : (r b n : ℕ) (xs ys : List ActSpec) (ls : List (List ℕ)) → r < 2 ^ 63 → b < 2 ^ 63 → AreActs r b n xs ls → AreActs r b n ys ls → xs ≡ ys
one_acts r b n [] [] ls rs bs h k = refl
one_acts r b n [] (c ∷ ys) ls rs bs h (line, rest, parts, index, is, has, script, next) = absurd (let e : line ∷ rest ≡ [] = sym parts ∙ h in cc)
one_acts r b n (a ∷ xs) [] ls rs bs (line, rest, parts, index, is, has, script, next) k = absurd (let e : line ∷ rest ≡ [] = sym parts ∙ k in cc)
one_acts r b n (a ∷ xs) (c ∷ ys) ls rs bs (line, rest, parts, index, is, has, script, next) (line2, rest2, parts2, index2, is2, has2, script2, next2) =
    let same = heads line2 line rest2 rest (sym parts2 ∙ parts) in
    let said = one_line r b (terms a) (terms c) line rs bs is (subst (IsActLine r b (terms c)) same.0 is2) in
    let scripts = same_script r (before_done rest) a.script c.script script (subst (λ z. IsScriptLines r (before_done z) (block c.script.lines)) same.1 script2) in
    ap (λ z. z ∷ xs) (same_act a c (index ∙ sym index2) said scripts)
    ∙ ap (λ z. c ∷ z) (one_acts r b (n + 1) xs ys (behind_done rest) rs bs next (subst (λ z. AreActs r b (n + 1) ys (behind_done z)) same.1 next2))
