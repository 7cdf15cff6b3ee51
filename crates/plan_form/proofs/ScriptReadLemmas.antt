-- The lines of an act's script, fed one after another.
use Rattle.plan_form.proofs.Names.{◌≡◌, ℕ, ◌+◌, ◌<◌, ◌≤◌, inl, inr, true, false, cond, List, [], ◌∷◌, ◌++◌, length, refl, sym, ap, ◌∙◌, subst, append_assoc, append-nil, length-append, arith, Ok, Err, Script, block, lines, LineFault, IsScriptLines, BeginScript, LeftOpen, FaultBehind, Fault, is_done, has_done, before_done, behind_done, script_fault, IsScriptRead, ReadsScript}
use Rattle.script_form.specs.Building.{rows_so_far}
use Rattle.script_form.specs.Feeds.{HoldsLines, FeedsLine, EndsLines}
use Rattle.script_form.specs.declared.readers.ScriptReader.{ScriptReader}
use Rattle.script_form.specs.declared.parse_faults.ParseFault.{ParseFault}
use Rattle.script_form.specs.declared.parse_faults.ParseFault.TheVariants as parse
use Rattle.script_form.proofs.ProgressLemmas.{holds_begin}
use Rattle.plan_form.specs.declared.plan_faults.PlanKind.TheVariants as kind
use Rattle.plan_form.proofs.LineListLemmas.{has_done-behind, before_done-behind, behind_done-behind, has_done-snoc}

-- the reader has the lines behind the line before, up to the line at, and none of them is `done`
pub record Feeding (greatest before : ℕ) (bytes rest : List ℕ) (at : ℕ) (reader : ScriptReader) : Type 0 where
  pub done : List (List ℕ)
  pub parts : lines bytes ≡ done ++ lines rest
  pub without : has_done done ≡ false
  pub holds : HoldsLines done reader
  pub same : reader.greatest ≡ greatest
  pub count : at ≡ before + length done
  pub fits : at + length rest ≤ before + length bytes

-- the next line of the rest
pub record Next (rest line after : List ℕ) : Type 0 where
  pub first : lines rest ≡ line ∷ lines after
  pub shorter : length after < length rest

joined : (bytes rest line after : List ℕ) (done : List (List ℕ)) → lines bytes ≡ done ++ lines rest → lines rest ≡ line ∷ lines after → lines bytes ≡ (done ++ line ∷ []) ++ lines after
joined bytes rest line after done parts e = parts ∙ ap (λ z. done ++ z) e ∙ sym (append_assoc done (line ∷ []) (lines after))

pub feeding_one : (greatest before : ℕ) (bytes rest : List ℕ) (at : ℕ) (old new : ScriptReader) (line after : List ℕ) (f : Feeding greatest before bytes rest at old) → Next rest line after → is_done line ≡ false
    → FeedsLine old.greatest f.done line (Ok new) → Feeding greatest before bytes after (at + 1) new
feeding_one greatest before bytes rest at old new line after f n is (h, g) =
    let count = f.count in
    let fits = f.fits in
    let shorter = n.shorter in
    let size = length-append f.done (line ∷ []) in
    record {
      done = f.done ++ line ∷ [];
      parts = joined bytes rest line after f.done f.parts n.first;
      without = has_done-snoc f.done line f.without is;
      holds = h;
      same = g ∙ f.same;
      count = omega (arith, count, size);
      fits = omega (arith, fits, shorter);
    }

begun : (greatest before : ℕ) (bytes rest : List ℕ) (at : ℕ) (reader : ScriptReader) (f : Feeding greatest before bytes rest at reader) → BeginScript greatest f.done
begun greatest before bytes rest at reader f = subst (λ z. BeginScript z f.done) f.same (holds_begin reader.greatest f.done (rows_so_far reader.builder) reader.lines reader.next reader.size f.holds)

-- the lines before `done` go on with a line that is another
before_other : (bytes rest line after : List ℕ) (done : List (List ℕ)) → lines bytes ≡ done ++ lines rest → has_done done ≡ false → lines rest ≡ line ∷ lines after → is_done line ≡ false
    → before_done (lines bytes) ≡ done ++ line ∷ before_done (lines after)
before_other bytes rest line after done parts without e is =
    ap before_done (parts ∙ ap (λ z. done ++ z) e) ∙ before_done-behind done (line ∷ lines after) without
    ∙ ap (λ p. done ++ cond p [] (line ∷ before_done (lines after))) is

-- they end before a line that is `done`
before_this : (bytes rest line after : List ℕ) (done : List (List ℕ)) → lines bytes ≡ done ++ lines rest → has_done done ≡ false → lines rest ≡ line ∷ lines after → is_done line ≡ true
    → before_done (lines bytes) ≡ done
before_this bytes rest line after done parts without e is =
    ap before_done (parts ∙ ap (λ z. done ++ z) e) ∙ before_done-behind done (line ∷ lines after) without
    ∙ ap (λ p. done ++ cond p [] (line ∷ before_done (lines after))) is ∙ append-nil done

has_this : (bytes rest line after : List ℕ) (done : List (List ℕ)) → lines bytes ≡ done ++ lines rest → has_done done ≡ false → lines rest ≡ line ∷ lines after → is_done line ≡ true
    → has_done (lines bytes) ≡ true
has_this bytes rest line after done parts without e is =
    ap has_done (parts ∙ ap (λ z. done ++ z) e) ∙ has_done-behind done (line ∷ lines after) without ∙ ap (λ p. cond p true (has_done (lines after))) is

behind_this : (bytes rest line after : List ℕ) (done : List (List ℕ)) → lines bytes ≡ done ++ lines rest → has_done done ≡ false → lines rest ≡ line ∷ lines after → is_done line ≡ true
    → behind_done (lines bytes) ≡ lines after
behind_this bytes rest line after done parts without e is =
    ap behind_done (parts ∙ ap (λ z. done ++ z) e) ∙ behind_done-behind done (line ∷ lines after) without ∙ ap (λ p. cond p (lines after) (behind_done (lines after))) is

pub feeding_fault : (greatest before : ℕ) (bytes rest : List ℕ) (at : ℕ) (old : ScriptReader) (wrong : ParseFault) (line after : List ℕ) (f : Feeding greatest before bytes rest at old) → Next rest line after
    → is_done line ≡ false → FeedsLine old.greatest f.done line (Err wrong) → ReadsScript greatest before bytes (Err (script_fault (at + 1) wrong))
feeding_fault greatest before bytes rest at old (parse.Fault inside what) line after f n is (number, fault) =
    let count = f.count in (
      length f.done + 1,
      (let e : at + 1 ≡ before + (length f.done + 1) = omega (arith, count) in e),
      inl (f.done, before_done (lines after), line, before_other bytes rest line after f.done f.parts f.without n.first is, refl, begun greatest before bytes rest at old f, subst (λ z. LineFault z f.done line what) f.same fault),
    )
feeding_fault greatest before bytes rest at old parse.NoMemory line after f n is h = tt

pub ended_script : (greatest before : ℕ) (bytes rest : List ℕ) (at : ℕ) (reader : ScriptReader) (script : Script) (line after : List ℕ) (f : Feeding greatest before bytes rest at reader) → Next rest line after
    → is_done line ≡ true → EndsLines reader.greatest f.done (Ok script) → IsScriptRead greatest before bytes script after (at + 1)
ended_script greatest before bytes rest at reader script line after f n is h =
    let count = f.count in
    let fits = f.fits in
    let shorter = n.shorter in
    let size = ap length (joined bytes rest line after f.done f.parts n.first) ∙ length-append (f.done ++ line ∷ []) (lines after) in
    let size2 = length-append f.done (line ∷ []) in
    record {
      has = has_this bytes rest line after f.done f.parts f.without n.first is;
      is = subst (λ z. IsScriptLines greatest z (block script.lines)) (sym (before_this bytes rest line after f.done f.parts f.without n.first is)) (subst (λ z. IsScriptLines z f.done (block script.lines)) f.same h);
      behind = sym (behind_this bytes rest line after f.done f.parts f.without n.first is);
      count = omega (arith, count, size, size2);
      fits = omega (arith, fits, shorter);
      shorter = omega (arith, fits, shorter, count);
    }

pub ended_fault : (greatest before : ℕ) (bytes rest : List ℕ) (at : ℕ) (reader : ScriptReader) (wrong : ParseFault) (line after : List ℕ) (f : Feeding greatest before bytes rest at reader) → Next rest line after
    → is_done line ≡ true → EndsLines reader.greatest f.done (Err wrong) → ReadsScript greatest before bytes (Err (script_fault (at + 1) wrong))
ended_fault greatest before bytes rest at reader (parse.Fault inside what) line after f n is (number, block_is, left) =
    let count = f.count in
    let same = sym (before_this bytes rest line after f.done f.parts f.without n.first is) in (
      length f.done + 1,
      (let e : at + 1 ≡ before + (length f.done + 1) = omega (arith, count) in e),
      inr (has_this bytes rest line after f.done f.parts f.without n.first is, subst (λ z. FaultBehind greatest z (length f.done + 1) what) same (refl, block_is, begun greatest before bytes rest at reader f, subst (λ z. LeftOpen z f.done) f.same left)),
    )
ended_fault greatest before bytes rest at reader parse.NoMemory line after f n is h = tt

pub unended : (greatest before : ℕ) (bytes : List ℕ) (at : ℕ) (reader : ScriptReader) → Feeding greatest before bytes [] at reader → ReadsScript greatest before bytes (Err (Fault (at + 1) kind.End))
unended greatest before bytes at reader f =
    let count = f.count in
    let same : f.done ≡ lines bytes = sym (f.parts ∙ append-nil f.done) in (
      length f.done + 1,
      (let e : at + 1 ≡ before + (length f.done + 1) = omega (arith, count) in e),
      (subst (λ z. has_done z ≡ false) same f.without, subst (BeginScript greatest) same (begun greatest before bytes [] at reader f), ap (λ z. length z + 1) same),
    )
