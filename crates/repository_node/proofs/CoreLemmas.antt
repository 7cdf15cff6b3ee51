-- What a repository's core and the store beside it say of a life.
use Rattle.repository_node.proofs.Names.{◌≡◌, [], HasLife, ℕ, ◌++◌, Bool, true, false, not, List, reverse, Option, Some, is_some, Result, Ok, Err, IfOk, OnOk, is_err, refl, sym, ap, subst, ◌∙◌, append_assoc, append-nil, repository, Image, knows, known, Stage, MediumParts, told_medium, Base, Life, all_effects, opened_life, gated_life, after_input, HasTurn, IsReady, given_for}
use Rattle.pseudo_time.specs.StampParts.{StampParts}
use Rattle.pseudo_time.specs.declared.nodes.NodeId.{NodeId}
use Rattle.effect_form.specs.declared.effects.Effect.{Effect}
use Rattle.message_form.specs.declared.turns.Turn.{Turn}
use Rattle.object_history.specs.declared.steps.HistoryFault.{HistoryFault}
use Rattle.repository_log.proofs.MarkLemmas.{knows-known}
use Rattle.repository_core.specs.Cores.{Core, CoreState, given}
use Rattle.repository_core.specs.Turns as turns
use Rattle.repository_node.specs.KeptCores.{log_in}
use Rattle.repository_node.specs.NotedLogs.{AreNotes}
use Rattle.repository_node.specs.declared.kept_cores.KeptCore.{KeptCore}
use Rattle.repository_node.specs.declared.kept_cores.KeptCore.TheVariants.{Open, Shut}
use Rattle.repository_node.specs.declared.notes.Notes.{Notes}
use Rattle.node_turn.specs.WorldCores.{IsRepository, RepositoryGave}
use Rattle.node_turn.specs.WorldNodes.{Input, repository_gives, with_hands, opened_mind, is_ready}
use Rattle.node_turn.proofs.CoreTurns.{repository-answers}
use Rattle.trace_logs.proofs.MarkLemmas.{knows-reverse}

-- ---- turns

-- the turn is what the rules give, and the core has the life after it; and what else is so
pub gave-repository : {H C : Type 0} (b : Base) (n : NodeId) (l : Life) (r q : Core H) (x : Result Turn HistoryFault) (i : turns.Input) (j : Input)
    → repository_gives n.number (all_effects l) l.mind j ≡ with_hands l.mind (turns.gives n.number (all_effects l) l.mind.hands i)
    → IsRepository n (all_effects l) l.mind r → IfOk x (λ t. given t q.mind ≡ turns.gives r.number r.log r.mind i) → IfOk x (λ t. q.log ≡ r.log ++ t.effects) → OnOk x (q.number ≡ r.number) → C
    → IfOk x (λ t. HasTurn (given_for b n l j) t × (IsRepository n (all_effects (after_input b n l j)) (after_input b n l j).mind q × C))
gave-repository b n l r q (Err e) i j same s g log number k = tt
gave-repository {H} {C} b n l r q (Ok t) i j same s g log number k =
    let y : RepositoryGave n (all_effects l) (given_for b n l j) t q = repository-answers b n (all_effects l) l.mind r q (Ok t) (Ok t) i j same s g log number refl in
    ((y.effects, y.outs), (subst (λ es. IsRepository n es (given_for b n l j).mind q) (append_assoc l.gated l.fresh (given_for b n l j).effects) y.stands, k))

-- what a core was parted into, and what a part was joined to
pub parted : {H : Type 0} (s : CoreState) (r : Core H) → s ≡ record { number = r.number; log = r.log; mind = r.mind; is_failed = r.is_failed } → (s.number ≡ r.number) × (s.log ≡ r.log) × (s.mind ≡ r.mind) × (s.is_failed ≡ r.is_failed)
parted s r e = (ap (λ (x : CoreState). x.number) e, ap (λ (x : CoreState). x.log) e, ap (λ (x : CoreState). x.mind) e, ap (λ (x : CoreState). x.is_failed) e)

pub joined : {H : Type 0} (q : Core H) (s : CoreState) (h : H) → q ≡ record { number = s.number; log = s.log; mind = s.mind; is_failed = s.is_failed; histories = h }
    → (q.number ≡ s.number) × (q.log ≡ s.log) × (q.mind ≡ s.mind) × (q.is_failed ≡ s.is_failed) × (q.histories ≡ h)
joined {H} q s h e = (ap (λ (x : Core H). x.number) e, ap (λ (x : Core H). x.log) e, ap (λ (x : Core H). x.mind) e, ap (λ (x : Core H). x.is_failed) e, ap (λ (x : Core H). x.histories) e)

-- a core that was parted from its histories and joined with others
pub joined-repository : {H : Type 0} (n : NodeId) (l : Life) (r q : Core H) → q.number ≡ r.number → q.log ≡ r.log → q.mind ≡ r.mind → IsRepository n (all_effects l) l.mind r → IsRepository n (all_effects (gated_life l)) l.mind q
joined-repository n l r q number log mind s = record { kind = s.kind; number = number ∙ s.number; log = log ∙ s.log ∙ sym (append-nil (all_effects l)); mind = mind ∙ s.mind }

-- what is owed grows by what was given
pub owed-more : (x : Result Turn HistoryFault) (log stored new new_stored owed : List Effect) → new_stored ≡ stored → log ≡ stored ++ owed → IfOk x (λ t. new ≡ log ++ t.effects)
    → IfOk x (λ t. new ≡ new_stored ++ (owed ++ t.effects))
owed-more (Err e) log stored new new_stored owed same is more = tt
owed-more (Ok t) log stored new new_stored owed same is more = more ∙ ap (λ l. l ++ t.effects) is ∙ append_assoc stored owed t.effects ∙ ap (λ l. l ++ (owed ++ t.effects)) (sym same)

-- what is asked of the log from either end
pub knows-asked : (log all : List Effect) (s : StampParts) → log ≡ all → is_some (known (reverse log) s) ≡ knows all s
knows-asked log all s e = knows-known (reverse log) s ∙ knows-reverse log s ∙ ap (λ l. knows l s) e

-- where the call gave a turn, the core hasn't failed
pub able-called : {T E : Type 0} (x : Result T E) (failed : Bool) → failed ≡ is_err x → OnOk x (not failed ≡ true)
able-called (Ok t) failed is = ap not is
able-called (Err e) failed is = tt

-- ---- notes

-- if the call gave a turn, the notes are those of the longer log
pub noted-called : (r : ℕ) (log new : List Effect) (x : Result Turn HistoryFault) (failed : Bool) (n m : Notes) → AreNotes r log n → failed ≡ is_err x → IfOk x (λ t. new ≡ log ++ t.effects)
    → ((l : List Effect) → AreNotes r l n → IfOk x (λ t. AreNotes r (l ++ t.effects) m)) → not failed ≡ true → AreNotes r new m
noted-called r log new (Ok t) failed n m was is more follow able = subst (λ l. AreNotes r l m) (sym more) (follow log was)
noted-called r log new (Err e) failed n m was is more follow able = absurd (let z : false ≡ true = sym (ap not is) ∙ able in cc z)

-- the log of a core that has a life
pub life-log : {M : Type 0} {g : _} (kept : KeptCore M g) (n : NodeId) (l : Life) → HasLife kept n l → log_in kept ≡ all_effects l
life-log (Open core) n l h = h.0.log
life-log (Shut medium) n l h = absurd h

-- if nothing is open, it is the durable one
pub closed-log : {M : Type 0} {g : _} (kept : KeptCore M g) (n : NodeId) (l : Life) → HasLife kept n l → l.fresh ≡ [] → log_in kept ≡ l.gated
closed-log kept n l h fresh = life-log kept n l h ∙ ap (λ es. l.gated ++ es) fresh ∙ append-nil l.gated

-- ---- openings

-- a core that was opened over a log has the life of a node that was opened with it
pub opened-repository : {H : Type 0} (b : Base) (i start : ℕ) (log : List Effect) (r : Core H) → b.start ≡ start → r.number ≡ i → r.log ≡ log → r.mind ≡ turns.opened_mind start
    → IsRepository (repository i) (all_effects (opened_life b.start log)) (opened_mind b.start) r
opened-repository b i start log r begins number is mind = record {
  kind = refl;
  number = number;
  log = is ∙ sym (append-nil log);
  mind = mind ∙ ap turns.opened_mind (sym begins);
}

-- a repository goes on from every log
pub ready-repository : (b : Base) (i : ℕ) (log : List Effect) → IsReady b (repository i) log
unfolding is_ready
ready-repository b i log = refl

-- ---- media that tell

pub told-same : (tells : Bool) (a b : Image) (x y : List Stage) → tells ≡ true → told_medium tells a x ≡ told_medium tells b y → (a ≡ b) × (x ≡ y)
told-same true a b x y t e = let same = some-same e in (ap (λ (p : MediumParts). p.reads) same, ap (λ (p : MediumParts). p.stages) same)
  where
    some-same : {A : Type 0} {x y : A} → ◌≡◌ {A = Option A} (Some x) (Some y) → x ≡ y
    some-same {A} {x} {y} e = cc e
told-same false a b x y t e = absurd (cc t)
