-- What a run tells is where the tree of its script stops.
use Rattle.broker_ledger.proofs.Names.{ActSpec, Stmt, Line, block, Answer, denote, stop, Next, RunParts, Tells, Given, tree_of, answers_given, act_at, stop_at, LedgerParts, StepperFits, kept, lines_of, ◌≡◌, List, Option, Some, None, refl, ap, sym, ◌∙◌, subst, MatchOption, Came}
use Rattle.serial_model.proofs.ScriptLemmas.{talk_of}
use Rattle.serial_model.proofs.AnswerLemmas.{talked-stop}
use Rattle.script_run.specs.RunParts.{stop_of}

tree-lines : (a : Option ActSpec) → denote (block (lines_of a)) ≡ tree_of a
tree-lines None = refl
tree-lines (Some a) = refl

pub told-stop : (script : List Stmt) (ans : List Answer) (ls : List Line) (n : Next) → Tells script ans ls n → stop_of n ≡ stop (denote (block script)) ans
told-stop script ans ls n t =
    sym (ap (λ (x : Came (List Answer)). x.stop) t) ∙ ((talk_of (block script) ans).1 ∙ talked-stop (denote (block script)) ans)

pub run-stops : (a : Option ActSpec) (given : List Given) (script : List Stmt) (ans : List Answer) (ls : List Line) (n : Next) →
    script ≡ lines_of a → ans ≡ answers_given given → Tells script ans ls n → stop_of n ≡ stop (tree_of a) (answers_given given)
run-stops a given script ans ls n s e t =
    told-stop script ans ls n t
    ∙ (ap (λ (xs : List Stmt). stop (denote (block xs)) ans) s ∙ (ap (λ (x : _). stop x ans) (tree-lines a) ∙ ap (stop (tree_of a)) e))

-- of the run at hand
pub stepped : (l v : LedgerParts) (o : Option RunParts) (r : RunParts) (ls : List Line) (n : Next) → v ≡ l → StepperFits v.acts v.notes v.answers o → o ≡ Some r →
    Tells r.script r.answers ls n → stop_of n ≡ stop_at l.acts l.notes (kept l.notes l.answers)
stepped l v o r ls n view fits is t =
    let f : StepperFits v.acts v.notes v.answers (Some r) = subst (StepperFits v.acts v.notes v.answers) is fits in
    subst (λ (x : LedgerParts). stop_of n ≡ stop_at x.acts x.notes (kept x.notes x.answers)) view
    (run-stops (act_at v.acts v.notes) (kept v.notes v.answers) r.script r.answers ls n f.0 f.1 t)

-- of one that was made anew
pub renewed : (l v : LedgerParts) (o : Option RunParts) (r : RunParts) (ls : List Line) (n : Next) → v ≡ l →
    MatchOption o (act_at v.acts v.notes ≡ None) (λ (x : RunParts). (x.script ≡ lines_of (act_at v.acts v.notes)) × (x.answers ≡ answers_given (kept v.notes v.answers))) → o ≡ Some r →
    Tells r.script r.answers ls n → stop_of n ≡ stop_at l.acts l.notes (kept l.notes l.answers)
renewed l v o r ls n view fits is t =
    let f : (r.script ≡ lines_of (act_at v.acts v.notes)) × (r.answers ≡ answers_given (kept v.notes v.answers)) =
    subst (λ (x : Option RunParts). MatchOption x (act_at v.acts v.notes ≡ None) (λ (y : RunParts). (y.script ≡ lines_of (act_at v.acts v.notes)) × (y.answers ≡ answers_given (kept v.notes v.answers)))) is fits in
    subst (λ (x : LedgerParts). stop_of n ≡ stop_at x.acts x.notes (kept x.notes x.answers)) view
    (run-stops (act_at v.acts v.notes) (kept v.notes v.answers) r.script r.answers ls n f.0 f.1 t)
