-- What the laboratory's words say, as the matches of its command have it.
use Rattle.laboratory.proofs.Names.{◌≡◌, ◌≢◌, ◌∙◌, ◌<◌, ◌≤◌, ◌^◌, ℕ, Bool, true, false, List, [], Some, Result, Ok, Err, refl, sym, subst, inl, inr, ParsesUnsigned, ReadsOne, found_of, App, HasMatchesOf, app_of, Command, ArgMatches, signed_reads, one_text-rows, HasText, AreFor, AreRead, HasNumber, Says, command, Lab}
use Rattle.clap.specs.Kinds.{HasKind}
use Rattle.clap.specs.Words.{Text, fault_of, is_simple_and_free, kind_of, rows_of, takes, without_minus}
use Rattle.clap.specs.declared.error.Error.{Error}
use Rattle.clap.specs.declared.error.kind.ErrorKind.TheVariants.{OutOfMemory}
use Rattle.clap.specs.declared.parser.matches.Found.{Found}
use Rattle.laboratory.specs.declared.options.LabFault.{LabFault}
use Rattle.laboratory.specs.declared.options.LabFault.TheVariants.{Words, NoMemory}

-- ---- numbers

module _ (E : Type 0) (G : List ℕ → Result ℕ E → Type 0) (f : Found) (name : Text) (least most : ℕ) (fits : most < 2 ^ 32) (h : HasText f name least most)
    (parses : (u : List ℕ) (x : Result ℕ E) → G u x → ParsesUnsigned 32 10 u x) where
  -- the number that is read of an option is that of its value
  pub number_read : (n : ℕ) → ReadsOne G (without_minus h.text) (Some n) → HasNumber (rows_of f) name least most n
  number_read n read =
      let got = signed_reads E G 32 least most h.text (Some n) read parses fits h.passed in
      let same : n ≡ got.0 = cc in
      record {
        text = without_minus h.text;
        given = sym (one_text-rows f name) ∙ h.read;
        is = (parses (without_minus h.text) (Ok n) read).1;
        low = subst (λ k. least ≤ k) (sym same) got.2;
        high = subst (λ k. k ≤ most) (sym same) got.3;
      }

-- ---- the command's answer

-- the command is one whose matches and faults are known
is_known : is_simple_and_free command ≡ true
is_known = refl

-- where it gives matches, it takes the words, and so its matches are known
pub taken_as : (c : Command) (m : ArgMatches) (words : List Text) (lab : Lab) → app_of c ≡ command → HasMatchesOf (app_of c) words m → (is_simple_and_free (app_of c) ≡ true → fault_of (app_of c) words ≡ [])
    → Says (rows_of (found_of m)) lab → AreFor words lab
taken_as c m words lab e matches kinds says = record {
  taken = subst (λ (a : App). is_simple_and_free a ≡ true → fault_of a words ≡ []) e kinds is_known;
  says = subst (λ rows. Says rows lab) (subst (λ (a : App). HasMatchesOf a words m) e matches refl).0 says;
}

taken_not : (b : Bool) → (b ≡ true → ⊥) → b ≡ false
taken_not true h = elim (h refl) [ ]
taken_not false h = refl

-- where the command gives no matches for another cause than memory, it refuses the words
pub refused : (c : Command) (error : Error) (words : List Text) (fault : LabFault) → app_of c ≡ command → (is_simple_and_free (app_of c) ≡ true → HasKind (fault_of (app_of c) words) error)
    → (takes (app_of c) words ≡ true → kind_of error ≡ OutOfMemory) → (fault ≡ Words → kind_of error ≢ OutOfMemory) → AreRead words (Err fault)
refused c error words NoMemory e kinds passes not_memory = tt
refused c error words Words e kinds passes not_memory =
    let kind : HasKind (fault_of command words) error = subst (λ (a : App). is_simple_and_free a ≡ true → HasKind (fault_of a words) error) e kinds is_known in
    let taken : takes command words ≡ true → kind_of error ≡ OutOfMemory = subst (λ (a : App). takes a words ≡ true → kind_of error ≡ OutOfMemory) e passes in
    record {
      fault = λ none. elim (subst (λ k. HasKind k error) none kind) [
        | inl memory ↦ not_memory refl memory
        | inr among ↦ among
      ];
      not_taken = taken_not (takes command words) (λ t. not_memory refl (taken t));
    }
