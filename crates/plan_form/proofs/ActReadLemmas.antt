-- Acts read one after another, and the plan that they are.
use Rattle.plan_form.proofs.Names.{◌≡◌, ℕ, ◌+◌, ◌<◌, ◌≤◌, true, false, List, [], ◌∷◌, ◌++◌, length, refl, sym, ap, ◌∙◌, subst, append_assoc, append-nil, length-append, arith, Err, ActSpec, block, lines, is_blank, IsScriptLines, Fault, NoMemory, IsActLine, terms, has_done, before_done, behind_done, past_blanks, AreActs, Reaches, IsActRead, ReadsAct, ReadsActs}
use Rattle.plan_form.specs.declared.plan_faults.PlanKind.TheVariants as kind
use Rattle.plan_form.specs.declared.plan_faults.PlanFault.{PlanFault}
use Rattle.plan_form.proofs.LineListLemmas.{past_blanks-line, past_blanks-blank, split_at_done}
use Rattle.plan_form.proofs.ActLemmas.{acts_then}
use Rattle.plan_form.proofs.ScriptReadLemmas.{Next}

-- the lines up to the line at are these acts
pub record Reading (r b before : ℕ) (bytes rest : List ℕ) (at : ℕ) (acts : List ActSpec) : Type 0 where
  pub done : List (List ℕ)
  pub parts : lines bytes ≡ done ++ lines rest
  pub whole : AreActs r b 1 acts done
  pub few : length acts ≤ 10000
  pub count : at ≡ before + length done
  pub fits : at + length rest ≤ before + length bytes

joined : (bytes rest line after : List ℕ) (done : List (List ℕ)) → lines bytes ≡ done ++ lines rest → lines rest ≡ line ∷ lines after → lines bytes ≡ (done ++ line ∷ []) ++ lines after
joined bytes rest line after done parts e = parts ∙ ap (λ z. done ++ z) e ∙ sym (append_assoc done (line ∷ []) (lines after))

pub reading_blank : (r b before : ℕ) (bytes rest : List ℕ) (at : ℕ) (acts : List ActSpec) (line after : List ℕ) → Reading r b before bytes rest at acts → Next rest line after → is_blank line ≡ true
    → Reading r b before bytes after (at + 1) acts
reading_blank r b before bytes rest at acts line after g n is =
    let count = g.count in
    let fits = g.fits in
    let shorter = n.shorter in
    let size = length-append g.done (line ∷ []) in
    record {
      done = g.done ++ line ∷ [];
      parts = joined bytes rest line after g.done g.parts n.first;
      whole = subst (λ z. AreActs r b 1 z (g.done ++ line ∷ [])) (append-nil acts) (acts_then r b 1 acts [] g.done (line ∷ []) g.whole (past_blanks-blank line is));
      few = g.few;
      count = omega (arith, count, size);
      fits = omega (arith, fits, shorter);
    }

-- an act line, its script and `done`
one_act : (r b n : ℕ) (act : ActSpec) (line : List ℕ) (ls front : List (List ℕ)) → act.index ≡ n → IsActLine r b (terms act) line → is_blank line ≡ false → has_done front ≡ true
    → behind_done front ≡ [] → IsScriptLines r (before_done front) (block act.script.lines) → AreActs r b n (act ∷ []) (line ∷ front)
one_act r b n act line ls front index says blank has behind script =
    (line, front, past_blanks-line line front blank, index, says, has, script, ap past_blanks behind)

pub reading_one : (r b before : ℕ) (bytes rest : List ℕ) (at : ℕ) (acts : List ActSpec) (line after : List ℕ) (act : ActSpec) (behind : List ℕ) (last : ℕ)
    → Reading r b before bytes rest at acts → Next rest line after → is_blank line ≡ false → IsActRead r b (length acts + 1) (at + 1) line after act behind last
    → Reading r b before bytes behind last (acts ++ act ∷ [])
reading_one r b before bytes rest at acts line after act behind last g n is a =
    let s = split_at_done (lines after) a.script.has in
    let front = s.0 in
    let tail : lines after ≡ front ++ lines behind = s.1 ∙ ap (λ z. front ++ z) (sym a.script.behind) in
    let count = g.count in
    let fits = g.fits in
    let shorter = n.shorter in
    let last_count = a.script.count in
    let last_fits = a.script.fits in
    let few = a.few in
    let size = length-append acts (act ∷ []) in
    let size2 = length-append g.done (line ∷ front) in
    let size3 = ap length tail ∙ length-append front (lines behind) in
    let index : act.index ≡ 1 + length acts = a.index_is ∙ (let e : length acts + 1 ≡ 1 + length acts = omega arith in e) in
    record {
      done = g.done ++ line ∷ front;
      parts = g.parts ∙ ap (λ z. g.done ++ z) (n.first ∙ ap (λ z. line ∷ z) tail) ∙ sym (append_assoc g.done (line ∷ front) (lines behind));
      whole = acts_then r b 1 acts (act ∷ []) g.done (line ∷ front) g.whole
          (one_act r b (1 + length acts) act line (lines after) front index a.says is s.2 s.3 (subst (λ z. IsScriptLines r z (block act.script.lines)) s.4 a.script.is));
      few = omega (arith, few, size);
      count = omega (arith, count, size2, size3, last_count);
      fits = omega (arith, fits, shorter, last_fits);
    }

-- where an act goes wrong
reaches : (r b before : ℕ) (bytes rest : List ℕ) (at : ℕ) (acts : List ActSpec) (line after : List ℕ) (g : Reading r b before bytes rest at acts) → Next rest line after → Reaches r b (lines bytes) acts g.done line (lines after)
reaches r b before bytes rest at acts line after g n = record { is = g.parts ∙ ap (λ z. g.done ++ z) n.first; whole = g.whole; few = g.few }

pub reading_fault : (r b before : ℕ) (bytes rest : List ℕ) (at : ℕ) (acts : List ActSpec) (line after : List ℕ) (wrong : PlanFault)
    → Reading r b before bytes rest at acts → Next rest line after → is_blank line ≡ false → ReadsAct r b (length acts + 1) (at + 1) line after (Err wrong) → ReadsActs r b before bytes (Err wrong)
reading_fault r b before bytes rest at acts line after NoMemory g n is h = tt
reading_fault r b before bytes rest at acts line after (Fault number kind.Act) g n is (number_is, never) =
    let count = g.count in
    (length g.done + 1, (let e : number ≡ before + (length g.done + 1) = omega (arith, number_is, count) in e), (acts, g.done, lines after, line, reaches r b before bytes rest at acts line after g n, refl, is, never))
reading_fault r b before bytes rest at acts line after (Fault number kind.Acts) g n is (number_is, many, t, says) =
    let count = g.count in
    let few = g.few in
    (length g.done + 1, (let e : number ≡ before + (length g.done + 1) = omega (arith, number_is, count) in e), (acts, g.done, lines after, line, reaches r b before bytes rest at acts line after g n, refl, (let e : length acts ≡ 10000 = omega (arith, many, few) in e), t, says))
reading_fault r b before bytes rest at acts line after (Fault number (kind.Script what)) g n is (few, t, says, inside, number_is, fault) =
    let count = g.count in (
      length g.done + 1 + inside,
      (let e : number ≡ before + (length g.done + 1 + inside) = omega (arith, number_is, count) in e),
      (acts, g.done, lines after, line, reaches r b before bytes rest at acts line after g n, (let e : length acts < 10000 = omega (arith, few) in e), t, says, inside, refl, fault),
    )
reading_fault r b before bytes rest at acts line after (Fault number kind.End) g n is (few, t, says, inside, number_is, fault) =
    let count = g.count in (
      length g.done + 1 + inside,
      (let e : number ≡ before + (length g.done + 1 + inside) = omega (arith, number_is, count) in e),
      (acts, g.done, lines after, line, reaches r b before bytes rest at acts line after g n, (let e : length acts < 10000 = omega (arith, few) in e), t, says, inside, refl, fault),
    )
reading_fault r b before bytes rest at acts line after (Fault number kind.Size) g n is (few, t, says, inside, number_is, fault) = absurd fault
reading_fault r b before bytes rest at acts line after (Fault number kind.Header) g n is (few, t, says, inside, number_is, fault) = absurd fault
reading_fault r b before bytes rest at acts line after (Fault number kind.Run) g n is (few, t, says, inside, number_is, fault) = absurd fault
reading_fault r b before bytes rest at acts line after (Fault number kind.Repositories) g n is (few, t, says, inside, number_is, fault) = absurd fault
reading_fault r b before bytes rest at acts line after (Fault number kind.Brokers) g n is (few, t, says, inside, number_is, fault) = absurd fault

-- ---- a fault of the plan
