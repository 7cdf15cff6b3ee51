-- What a broker's core and the store beside it say of a life.
use Rattle.broker_node.proofs.Names.{◌≡◌, ℕ, true, false, List, reverse, Option, Some, is_none, Ok, Err, inr, refl, sym, ap, subst, ◌∙◌, append_assoc, broker, NodeId, Effect, Image, Scripted, tasks, Base, Life, all_effects, opened_life, gated_life, after_input, HasTurn, IsReady, IsDamageOf, given_for, as_damage, is_over}
use Rattle.std.proofs.lemmas.List.{append-nil}
use Rattle.value_form.specs.declared.acts.ActSpec.{ActSpec}
use Rattle.message_form.specs.declared.turns.Turn.{Turn}
use Rattle.node_turn.specs.Questions.{Tree}
use Rattle.version_store.specs.Storage.{storage}
use Rattle.version_store.specs.declared.faults.OpenFault.{OpenFault}
use Rattle.version_store.specs.declared.faults.OpenFault.TheVariants as opening
use Rattle.broker_core.specs.ResumeFault.{ResumeFault}
use Rattle.broker_core.specs.ResumeFault.TheVariants as resuming
use Rattle.broker_core.specs.Book.{book}
use Rattle.broker_core.specs.Brokers.{Gives, Opens, is_done, opened_broker, turn_of}
use Rattle.broker_core.specs.Fits.{keep, resume_fault}
use Rattle.broker_core.specs.Owed.{done}
use Rattle.broker_core.specs.Parts.{BrokerParts}
use Rattle.broker_core.specs.Turns as desks
use Rattle.node_turn.specs.WorldCores.{IsBroker, BrokerGave}
use Rattle.node_turn.specs.WorldNodes.{Input, broker_gives, with_desk, desk_after, acts_of, is_ready, opened_mind}
use Rattle.node_turn.proofs.CoreTurns.{gives-broker, broker-gave}

-- ---- turns

-- the turn is what the rules give, and the broker has the life after it
pub gave-broker : (b : Base) (n : NodeId) (l : Life) (p q : BrokerParts) (i : desks.Input) (j : Input) (t : Turn)
    → broker_gives b.script b.run b.acts n.number (all_effects l) l.mind j ≡ with_desk l.mind (desk_after b.script b.run b.acts n.number (all_effects l) l.mind i)
    → IsBroker b n (all_effects l) l.mind p → ((script : List ℕ → Tree) → Scripted script p.acts → Gives (turn_of script p i) t p q)
    → HasTurn (given_for b n l j) t × IsBroker b n (all_effects (after_input b n l j)) (after_input b n l j).mind q
gave-broker b n l p q i j t same s g =
    let log = all_effects l in
    let y : BrokerGave b n log (given_for b n l j) t q =
    subst (λ z. BrokerGave b n log z t q) (sym (gives-broker b.script b.run b.acts n log l.mind j s.kind ∙ same)) (broker-gave b n log l.mind p q t i s (g b.script s.scripted)) in
    ((y.effects, y.outs), subst (λ k. IsBroker b n k (given_for b n l j).mind q) (append_assoc l.gated l.fresh (given_for b n l j).effects) y.stands)

-- after its gate it has the same log
pub gated-broker : (b : Base) (n : NodeId) (l : Life) (p : BrokerParts) → IsBroker b n (all_effects l) l.mind p → IsBroker b n (all_effects (gated_life l)) l.mind p
gated-broker b n l p s = subst (λ log. IsBroker b n log l.mind p) (sym (append-nil (all_effects l))) s

-- it is done where the rules say so of its life
pub done-over : (b : Base) (i : ℕ) (l : Life) (p : BrokerParts) → IsBroker b (broker i) (all_effects l) l.mind p → is_done b.script p ≡ is_over b i l
done-over b i l p s = λ j. done b.script (s.run j) (tasks (s.acts j)) (book (keep b.script (s.number j) (s.run j) (tasks (s.acts j)) (reverse (s.log j)))) (s.heard j)

-- ---- openings

-- a broker that was opened over a log has the life of a node that was opened with it
pub opened-broker : (b : Base) (i r : ℕ) (acts : List ActSpec) (log : List Effect) (p : BrokerParts) → b.run ≡ r → acts ≡ acts_of i b.acts → Scripted b.script acts → p ≡ opened_broker i r acts log
    → IsBroker b (broker i) (all_effects (opened_life b.start log)) (opened_mind b.start) p
opened-broker b i r acts log p run own scripted f = record {
  kind = refl;
  number = ap (λ (x : BrokerParts). x.number) f;
  run = ap (λ (x : BrokerParts). x.run) f ∙ sym run;
  acts = ap (λ (x : BrokerParts). x.acts) f ∙ own;
  log = ap (λ (x : BrokerParts). x.log) f ∙ sym (append-nil log);
  heard = ap (λ (x : BrokerParts). x.heard) f;
  scripted = subst (Scripted b.script) (sym (ap (λ (x : BrokerParts). x.acts) f)) scripted;
}

-- a log with which it is ready shows no fault
no-fault : (b : Base) (i r : ℕ) (acts : List ActSpec) (log : List Effect) → b.run ≡ r → acts ≡ acts_of i b.acts → IsReady b (broker i) log → is_none (resume_fault b.script i r (tasks acts) (reverse log)) ≡ true
unfolding is_ready
no-fault b i r acts log run own h = subst (λ a. is_none (resume_fault b.script i r (tasks a) (reverse log)) ≡ true) (sym own) (subst (λ k. is_none (resume_fault b.script i k (tasks (acts_of i b.acts)) (reverse log)) ≡ true) run h)

no-some : {A : Type 0} (o : Option A) (x : A) → o ≡ Some x → is_none o ≡ true → ⊥
no-some o x e h = let z : false ≡ true = sym (ap is_none e) ∙ h in cc z

-- so an opening of it tells none
opens-sound : (b : Base) (i r : ℕ) (acts : List ActSpec) (log : List Effect) (f : ResumeFault) (page : ℕ) → b.run ≡ r → acts ≡ acts_of i b.acts → IsReady b (broker i) log → Opens b.script i r acts log (Err f)
    → as_damage f ≡ opening.Damaged page → ⊥
opens-sound b i r acts log resuming.NoMemory page run own h o e = cc e
opens-sound b i r acts log (resuming.OldRun n) page run own h o e = no-some (resume_fault b.script i r (tasks acts) (reverse log)) (resuming.OldRun n) o (no-fault b i r acts log run own h)
opens-sound b i r acts log (resuming.OtherPlan n) page run own h o e = no-some (resume_fault b.script i r (tasks acts) (reverse log)) (resuming.OtherPlan n) o (no-fault b i r acts log run own h)

page-same : (a b : ℕ) → ◌≡◌ {A = OpenFault} (opening.Damaged a) (opening.Damaged b) → a ≡ b
page-same a b e = cc e

-- it counts as damage of the first page
first-page : (f : ResumeFault) (page : ℕ) → as_damage f ≡ opening.Damaged page → page ≡ 0
first-page resuming.NoMemory page e = absurd (cc e)
first-page (resuming.OldRun n) page e = sym (page-same 0 page e)
first-page (resuming.OtherPlan n) page e = sym (page-same 0 page e)

-- which is the damage of the image on which it stands
pub opens-damaged : (b : Base) (i r : ℕ) (acts : List ActSpec) (log : List Effect) (image : Image) (f : ResumeFault) (page : ℕ) → b.run ≡ r → acts ≡ acts_of i b.acts → storage image ≡ Ok log → Opens b.script i r acts log (Err f)
    → as_damage f ≡ opening.Damaged page → IsDamageOf b (broker i) image page
opens-damaged b i r acts log image f page run own found o e = inr (first-page f page e, log, found, λ ready. opens-sound b i r acts log f page run own ready o e)

-- and nothing counts as a fault of the medium
pub no-medium : (f : ResumeFault) → as_damage f ≡ opening.Medium → ⊥
no-medium resuming.NoMemory e = cc e
no-medium (resuming.OldRun n) e = cc e
no-medium (resuming.OtherPlan n) e = cc e
