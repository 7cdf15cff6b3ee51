-- Lines fed one after another.
use Rattle.script_form.proofs.Names.{◌≡◌, ℕ, List, [], ◌∷◌, ◌++◌, inl, inr, sym, ap, ◌∙◌, subst, append_assoc, append-nil, Result, Ok, Err, Script, block, rows_so_far, LineFault, IsScriptLines, BeginScript, LeftOpen, FaultBehind, HoldsLines, FeedsLine, EndsLines, Parses, ScriptReader, ParseFault}
use Rattle.script_form.specs.declared.parse_faults.ParseFault.TheVariants.{Fault, NoMemory}
use Rattle.script_form.proofs.ProgressLemmas.{holds_begin}

-- the reader has read these of all lines, and the rest is left
pub record Read (greatest : ℕ) (all rest : List (List ℕ)) (reader : ScriptReader) : Type 0 where
  pub done : List (List ℕ)
  pub parts : all ≡ done ++ rest
  pub holds : HoldsLines done reader
  pub same : reader.greatest ≡ greatest

pub read_one : (greatest : ℕ) (all rest more : List (List ℕ)) (line : List ℕ) (old new : ScriptReader) (r : Read greatest all rest old) → rest ≡ line ∷ more
    → FeedsLine old.greatest r.done line (Ok new) → Read greatest all more new
read_one greatest all rest more line old new r e (h, g) =
    record { done = r.done ++ line ∷ []; parts = r.parts ∙ ap (λ z. r.done ++ z) e ∙ sym (append_assoc r.done (line ∷ []) more); holds = h; same = g ∙ r.same }

begun : (greatest : ℕ) (all rest : List (List ℕ)) (reader : ScriptReader) (r : Read greatest all rest reader) → BeginScript greatest r.done
begun greatest all rest reader r = subst (λ z. BeginScript z r.done) r.same (holds_begin reader.greatest r.done (rows_so_far reader.builder) reader.lines reader.next reader.size r.holds)

pub read_fault : (greatest : ℕ) (all rest more : List (List ℕ)) (line : List ℕ) (old : ScriptReader) (fault : ParseFault) (r : Read greatest all rest old) → rest ≡ line ∷ more
    → FeedsLine old.greatest r.done line (Err fault) → Parses greatest all (Err fault)
read_fault greatest all rest more line old (Fault at what) r e (is, wrong) =
    inl (r.done, more, line, r.parts ∙ ap (λ z. r.done ++ z) e, is, begun greatest all rest old r, subst (λ z. LineFault z r.done line what) r.same wrong)
read_fault greatest all rest more line old NoMemory r e h = tt

pub read_all : (greatest : ℕ) (all : List (List ℕ)) (reader : ScriptReader) (result : Result Script ParseFault) (r : Read greatest all [] reader)
    → EndsLines reader.greatest r.done result → Parses greatest all result
read_all greatest all reader (Ok script) r h =
    subst (λ z. IsScriptLines greatest z (block script.lines)) (sym (r.parts ∙ append-nil r.done)) (subst (λ z. IsScriptLines z r.done (block script.lines)) r.same h)
read_all greatest all reader (Err (Fault at what)) r (is, kind, left) =
    inr (subst (λ z. FaultBehind greatest z at what) (sym (r.parts ∙ append-nil r.done)) (is, kind, begun greatest all [] reader r, subst (λ z. LeftOpen z r.done) r.same left))
read_all greatest all reader (Err NoMemory) r h = absurd h
