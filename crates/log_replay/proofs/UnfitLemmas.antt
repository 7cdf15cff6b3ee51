-- Tries of a log, one after another, and one that can't be told.
use Rattle.std.proofs.Common.{◌≡◌, ◌<◌, ◌+◌, false, true, inr, ℕ, suc, List, [], ◌∷◌, ◌++◌, length, get_or, map, reverse, take, arith, refl, inl, sym, ◌∙◌, ap, subst}
use Rattle.std.proofs.lemmas.List.{append_assoc, length-map, map-append, take-map}
use Rattle.std.proofs.lemmas.Bool.{false≢true}
use Rattle.std.specs.Prelude.{Err}
use Rattle.std.specs.Global.{Vec}
use Rattle.pseudo_time.specs.Lists.{Has}
use Rattle.pseudo_time.specs.StampParts.{StampParts}
use Rattle.pseudo_time.proofs.ListLemmas.{has-right}
use Rattle.effect_form.specs.declared.effects.Effect.{Effect}
use Rattle.log_replay.specs.Drafts.{draft_parts, read_off}
use Rattle.script_form.specs.Lines.{lines}
use Rattle.script_form.specs.Parses.{Parses}
use Rattle.script_form.specs.declared.parse_faults.ParseFault.{ParseFault}
use Rattle.script_form.specs.declared.parse_faults.ParseFault.TheVariants.{Fault}
use Rattle.script_form.specs.declared.parse_faults.ParseKind.{ParseKind}
use Rattle.script_form.proofs.FaultLemmas.{fault_of_no_script, open_is_no_script}
use Rattle.serial_model.specs.Questions.{Tree}
use Rattle.broker_core.specs.Book as books
use Rattle.broker_core.specs.Book.{book, tries}
use Rattle.world_core.specs.Deeds.{Try, attempt}
use Rattle.log_replay.specs.Folders.{Reads, ReadsLogs, items_of, log_at, tries_of, tries_onto}
use Rattle.log_replay.specs.Unfit.{HasUnfit, IsCause, IsFault, IsNoScript, IsUnfitAfter, IsUnfitLog, stamps_of, stamps_onto, tries_in}
use Rattle.log_replay.specs.declared.drafts.Draft.{Draft}
use Rattle.log_replay.specs.declared.faults.ToldFault.{ToldFault}
use Rattle.log_replay.proofs.DraftLemmas.{read-tries}
use Rattle.log_replay.proofs.GiftLemmas.{log-here}
use Rattle.log_replay.proofs.ItemLemmas.{items-next}

-- ---- a log

-- the last of those that are left is the next one
pub next-draft : {A : Type 0} (old rest done : List A) (d : A) → old ≡ rest ++ d ∷ [] → old ++ done ≡ rest ++ d ∷ done
next-draft old rest done d e = ap (λ z. z ++ done) e ∙ append_assoc rest (d ∷ []) done

pub has-next : (old rest done : List Draft) (d : Draft) → old ≡ rest ++ d ∷ [] → Has d (old ++ done)
has-next old rest done d e = subst (Has d) (sym (next-draft old rest done d e)) (has-right rest (d ∷ done) d (inl refl))

pub unfit-here : (log : List Effect) (ss : List StampParts) (old rest done : List Draft) (d : Draft) → old ≡ rest ++ d ∷ [] → map draft_parts (old ++ done) ≡ (read_off (reverse log)).tries →
    IsUnfitAfter (stamps_of (map draft_parts done) ++ ss) (draft_parts d) → HasUnfit ss (tries_in log)
unfit-here log ss old rest done d e same why = record {
  later = map draft_parts rest;
  unfit = draft_parts d;
  earlier = map draft_parts done;
  are = sym (same ∙ read-tries (reverse log)) ∙ ap (map draft_parts) (next-draft old rest done d e) ∙ map-append draft_parts rest (d ∷ done);
  why = why;
}

-- ---- the logs of brokers

stamps-more : (logs : List (List Effect)) (log : List Effect) (ss : List StampParts) → stamps_onto (logs ++ log ∷ []) ss ≡ stamps_of (tries_in log) ++ stamps_onto logs ss
stamps-more [] log ss = refl
stamps-more (l ∷ logs) log ss = stamps-more logs log (stamps_of (tries_in l) ++ ss)

pub stamps-next : (logs : List (Vec Effect)) (i : ℕ) (log : Vec Effect) → i < length logs → log ≡ get_or logs i log → stamps_onto (items_of (take (i + 1) logs)) [] ≡ stamps_of (tries_in log.items) ++ stamps_onto (items_of (take i logs)) []
stamps-next logs i log low is = ap (λ z. stamps_onto z []) (items-next logs i log low is) ∙ stamps-more (items_of (take i logs)) log.items []

tries-more : (script : List ℕ → Tree) (logs : List (List Effect)) (log : List Effect) (ts : List Try) → tries_onto script (logs ++ log ∷ []) ts ≡ map (attempt script) (tries (book (reverse log))) ++ tries_onto script logs ts
tries-more script [] log ts = refl
tries-more script (l ∷ logs) log ts = tries-more script logs log (map (attempt script) (tries (book (reverse l))) ++ ts)

pub tries-next : (script : List ℕ → Tree) (logs : List (Vec Effect)) (i : ℕ) (log : Vec Effect) → i < length logs → log ≡ get_or logs i log →
    tries_of script (items_of (take (i + 1) logs)) ≡ map (attempt script) (tries (book (reverse log.items))) ++ tries_of script (items_of (take i logs))
tries-next script logs i log low is = ap (tries_of script) (items-next logs i log low is) ∙ tries-more script (items_of (take i logs)) log.items []

-- what is read of one log more
reads-split : (script : List ℕ → Tree) (logs : List (List Effect)) (log : List Effect) → ReadsLogs script (logs ++ log ∷ []) → ReadsLogs script logs × ((t : books.Try) → Has t (tries (book (reverse log))) → Reads script t.task.script)
reads-split script [] log h = (tt, h.0)
reads-split script (l ∷ logs) log h = let w = reads-split script logs log h.1 in ((h.0, w.0), w.1)

pub reads-next : (script : List ℕ → Tree) (logs : List (Vec Effect)) (i : ℕ) (log : Vec Effect) → i < length logs → log ≡ get_or logs i log → ReadsLogs script (items_of (take (i + 1) logs)) →
    ReadsLogs script (items_of (take i logs)) × ((t : books.Try) → Has t (tries (book (reverse log.items))) → Reads script t.task.script)
reads-next script logs i log low is h = reads-split script (items_of (take i logs)) log.items (subst (ReadsLogs script) (items-next logs i log low is) h)

pub unfit-log : (logs : List (Vec Effect)) (i m : ℕ) (log : Vec Effect) (effects : List Effect) → i < length logs → log ≡ get_or logs i log → effects ≡ log.items → m ≡ i + 1 → HasUnfit (stamps_onto (items_of (take i logs)) []) (tries_in effects) → IsUnfitLog (items_of logs) m
unfit-log logs i m log effects low is same e h = let at : suc i ≡ m = omega (arith, e) in record {
  place = i;
  is = sym at;
  within = let long = length-map logs (λ (l : Vec Effect). l.items) in omega (arith, long, low);
  unfit = subst (λ z. HasUnfit (stamps_onto z []) (tries_in (log_at (items_of logs) m))) (sym (take-map (λ (l : Vec Effect). l.items) i logs))
      (subst (λ z. HasUnfit (stamps_onto (items_of (take i logs)) []) (tries_in z)) (same ∙ sym (log-here logs i log low is) ∙ ap (log_at (items_of logs)) at) h);
}

-- ---- texts

pub no-script : (text : List ℕ) (f : ParseFault) (line : ℕ) (what : ParseKind) → f ≡ Fault line what → Parses 16 (lines text) (Err f) → IsNoScript text
no-script text f line what e h b is = by (subst (λ z. Parses 16 (lines text) (Err z)) e h)
  where
    by : Parses 16 (lines text) (Err (Fault line what)) → ⊥
    by (inl at) = fault_of_no_script 16 (lines text) line what b at is
    by (inr behind) = open_is_no_script 16 (lines text) line what b behind is

-- ---- causes

pub cause-map : (n : ℕ) (P Q : Type 0) (f : ToldFault) → (P → Q) → IsCause n P f → IsCause n Q f
cause-map n P Q f g (inl e) = inl e
cause-map n P Q f g (inr h) = inr (h.0, g h.1)

pub fault-of : (logs : List (List Effect)) (n : ℕ) (P : Type 0) (f : ToldFault) → (P → IsUnfitLog logs n) → IsCause n P f → IsFault logs f
fault-of logs n P f g (inl e) = inl e
fault-of logs n P f g (inr h) = inr (n, h.0, g h.1)

pub none-left : {A : Type 0} (xs : List A) → (0 < length xs → false ≡ true) → xs ≡ []
none-left [] h = refl
none-left (x ∷ xs) h = absurd (false≢true (h (omega arith)))
