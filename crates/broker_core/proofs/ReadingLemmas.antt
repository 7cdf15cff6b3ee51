-- A text of the language is read as the script that has it.
use Rattle.broker_core.proofs.Names.{Every, ActSpec, block, Tree, denote, Scripted, IsBrokerAct, reading, ◌≡◌, inl, inr, ℕ, ◌+◌, ◌≤◌, arith, Bool, true, false, List, [], ◌∷◌, refl, sym, ap, subst, ◌∙◌, if◌then◌else◌, ◌==◌, pointwise, same_text, bytes_decides, false≢true, Has, Block, Spot, Fixed, At}
use Rattle.broker_ledger.specs.ScriptRow.{Row}
use Rattle.broker_ledger.specs.ScriptRow as r
use Rattle.broker_ledger.specs.ScriptRows.{Numbered}
use Rattle.broker_ledger.specs.RowTexts.{script_text, SpotUpTo, RowUpTo}
use Rattle.broker_ledger.specs.ScriptLines.{lines}
use Rattle.broker_ledger.specs.Printable.{IsPrintable, RowsInLimits}
use Rattle.broker_ledger.specs.Scripts.{IsScriptLines}
use Rattle.broker_ledger.proofs.PrintLemmas.{one_script_of_lines, printed_is_script}

-- ---- a greater greatest repository

spot-up : (n m : ℕ) (p : Spot) → n ≤ m → SpotUpTo n p → SpotUpTo m p
spot-up n m (Fixed o) up h = omega (arith, up, h)
spot-up n m (At k x) up h = omega (arith, up, h)

row-up : (n m : ℕ) (x : Row) → n ≤ m → RowUpTo n x → RowUpTo m x
row-up n m (r.Read name place) up h = spot-up n m place up h
row-up n m (r.Write place x) up h = spot-up n m place up h
row-up n m _ up h = tt

rows-up : (n m : ℕ) (xs : List Numbered) → n ≤ m → RowsInLimits n xs → RowsInLimits m xs
rows-up n m [] up h = tt
rows-up n m (x ∷ xs) up (limits, here, more) = (limits, row-up n m x.row up here, rows-up n m xs up more)

-- scripts of plans with fewer repositories are scripts of plans with more
pub printable-up : (n m : ℕ) (b : Block) → n ≤ m → IsPrintable n b → IsPrintable m b
printable-up n m b up p = record { rising = p.rising; limits = rows-up n m _ up p.limits; shallow = p.shallow; depth = p.depth; lines = p.lines; bytes = p.bytes }

-- ---- two scripts of the language with one text are one

of-one : (n : ℕ) (a b : Block) → IsPrintable n a → IsPrintable n b → script_text a ≡ script_text b → a ≡ b
of-one n a b p q e =
    one_script_of_lines n (lines (script_text b)) a b (subst (λ t. IsScriptLines n (lines t) a) e (printed_is_script n a p)) (printed_is_script n b q)

pub printable-apart : (n m : ℕ) (a b : Block) → IsPrintable n a → IsPrintable m b → script_text a ≡ script_text b → a ≡ b
printable-apart n m a b p q e = of-one (n + m) a b (printable-up n (n + m) a (omega arith) p) (printable-up m (n + m) b (omega arith) q) e

-- ---- the reading of these acts reads each of them

abbrev part : ActSpec → Block
part a = block a.script.lines

abbrev text : ActSpec → List ℕ
text a = script_text (part a)

read-by : (c : Bool) (x a : ActSpec) (rest : Tree) → pointwise ◌==◌ (text x) (text a) ≡ c → IsBrokerAct x → IsBrokerAct a → (c ≡ false → rest ≡ denote (part a)) →
    (if c then denote (part x) else rest) ≡ denote (part a)
read-by true x a rest e p q h = ap denote (printable-apart 16 16 (part x) (part a) p.script q.script (same_text (text x) (text a) (sym e)))
read-by false x a rest e p q h = h refl

pub reads : (acts : List ActSpec) (a : ActSpec) → Every IsBrokerAct acts → IsBrokerAct a → Has a acts → reading acts (text a) ≡ denote (part a)
unfolding reading
reads [] a ps q h = absurd h
reads (x ∷ acts) a ps q (inl e) = read-by (pointwise ◌==◌ (text x) (text a)) x a (reading acts (text a)) refl ps.0 q
    (λ no. absurd (false≢true (sym no ∙ (bytes_decides (text x) (text a)).1 (ap text e))))
reads (x ∷ acts) a ps q (inr h) = read-by (pointwise ◌==◌ (text x) (text a)) x a (reading acts (text a)) refl ps.0 q (λ no. reads acts a ps.1 q h)

pub reads-all : (all acts : List ActSpec) → Every IsBrokerAct all → Every IsBrokerAct acts → ((a : ActSpec) → Has a acts → Has a all) → Scripted (reading all) acts
reads-all all [] ps qs h = tt
reads-all all (a ∷ acts) ps qs h = (reads all a ps qs.0 (h a (inl refl)), reads-all all acts ps qs.1 (λ x k. h x (inr k)))

pub reads-own : (acts : List ActSpec) → Every IsBrokerAct acts → Scripted (reading acts) acts
reads-own acts ps = reads-all acts acts ps ps (λ a h. h)
