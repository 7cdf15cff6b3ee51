-- What the top call promises of what was sent, from the laws of acknowledgements and of acts that are spent.
use Rattle.serial_law.proofs.Names.{Has, broker, repository, NodeId, Effect, Post, Asked, Plan, CanRun, book, reading, MayTry, Trace, base_of, in_plan, OpenedWith, alike, own_reading, IsLegal, sent_by, start_world, walk, own-reading, walk-same, TickedBy, WereLeftOrRetired, replaced, sent_earlier, node_facts, OlderFacts, logs_at, older-facts, walk-known, IsSpent, Position, log_at, world_at, ◌≡◌, ℕ, List, [], ◌∷◌, ◌++◌, append-nil, map, reverse, sym, ◌∙◌, subst, if◌then◌else◌, all-kept, all-seen}
use Rattle.effect_form.specs.declared.effects.Effect.TheVariants as effect
use Rattle.effect_form.specs.declared.outcomes.Outcome.TheVariants as outcome
use Rattle.message_form.specs.declared.messages.Message.TheVariants as message
use Rattle.world_facts.specs.Acknowledged.{Keeps, SeesAbove}
use Rattle.serial_law.specs.Acknowledged.{KeepsAnswers, SpendsRightly, all_sent, log_after}
use Rattle.serial_law.proofs.OlderReading.{OneReading, older-reading}

-- the end of a run as a place of a legal trace by one reading of all scripts, with the same logs
pub record Ended (plan : Plan) (t : Trace) (logs : NodeId → List Effect) : Type 0 where
  pub place : Position
  pub log : (n : NodeId) → log_at place n ≡ log_after logs plan t n

pub ended : (plan : Plan) (asked : List Asked) (t : Trace) → CanRun plan → IsLegal plan asked t → (logs : NodeId → List Effect) (left : WereLeftOrRetired logs) → OpenedWith t.opened logs → Ended plan t logs
ended plan asked t w l logs left agrees =
    let r : OneReading plan asked t logs left.0 = older-reading plan asked t logs w l left in
    let p : Position = record { script = r.script; plan = plan; asked = asked; trace = t; logs = logs; front = t.entries; rest = []; here = sym (append-nil t.entries); whole = w; past = (left.0, r.are, r.left); agrees = agrees; legal = r.legal } in
    record {
      place = p;
      log = λ n. let known : ((world_at p).flags n).known ≡ in_plan plan n = walk-known (base_of r.script plan t) (start_world (base_of r.script plan t)) t.entries n ∙ l.nodes.just n in
          λ i. reverse (if known i then (((walk-same r.script (reading plan.acts) plan r.legal.scripted (own-reading plan w) t t.entries) i).life n).gated else logs n);
    }

-- whatever was sent in the run, or in a call before it, the logs at its end agree with
pub answers-kept : (plan : Plan) (asked : List Asked) (t : Trace) → CanRun plan → IsLegal plan asked t → KeepsAnswers plan t
answers-kept plan asked t w l logs left agrees =
    let r : OneReading plan asked t logs left.0 = older-reading plan asked t logs w l left in
    let same : walk (base_of r.script plan t) t.entries ≡ walk (base_of (reading plan.acts) plan t) t.entries = walk-same r.script (reading plan.acts) plan r.legal.scripted (own-reading plan w) t t.entries in
    let earlier : sent_earlier (alike r.script) left.0 ≡ sent_earlier own_reading left.0 = sym r.sent_so in
    let ever : sent_earlier (alike r.script) left.0 ++ sent_by (walk (base_of r.script plan t) t.entries) ≡ all_sent left.0 plan t = λ i. earlier i ++ sent_by (same i) in
    let known : (n : NodeId) → ((walk (base_of r.script plan t) t.entries).flags n).known ≡ in_plan plan n = λ n. walk-known (base_of r.script plan t) (start_world (base_of r.script plan t)) t.entries n ∙ l.nodes.just n in
    let log : (n : NodeId) → reverse (logs_at logs (walk (base_of r.script plan t) t.entries) n) ≡ log_after logs plan t n = λ n i. reverse (if known n i then ((same i).life n).gated else logs n) in
    let facts : OlderFacts (node_facts r.script) (base_of r.script plan t) (logs_at logs (walk (base_of r.script plan t) t.entries)) (replaced (alike r.script) left.0) (sent_earlier (alike r.script) left.0)
    (sent_by (walk (base_of r.script plan t) t.entries)) (TickedBy left.0 t.entries) =
    older-facts r.script plan asked t logs t.entries [] (left.0, r.are, r.left) agrees r.legal (sym (append-nil t.entries)) in
    record {
      acknowledged = λ q h.
          subst (λ (olds : List (List Effect)). Keeps (all_sent left.0 plan t) q.from (log_after logs plan t q.from) (map reverse olds) q.message) (sym (r.replaced_so q.from))
          (subst (λ (k : List Effect). Keeps (all_sent left.0 plan t) q.from k (map reverse (replaced (alike r.script) left.0 q.from)) q.message) (log q.from)
          (subst (λ (e : List Post). Keeps e q.from (reverse (logs_at logs (walk (base_of r.script plan t) t.entries) q.from)) (map reverse (replaced (alike r.script) left.0 q.from)) q.message) ever
          (all-kept r.script (base_of r.script plan t) (logs_at logs (walk (base_of r.script plan t) t.entries)) (replaced (alike r.script) left.0) (sent_earlier (alike r.script) left.0)
          (sent_by (walk (base_of r.script plan t) t.entries)) (TickedBy left.0 t.entries) facts q (subst (Has q) (sym ever) h))));
      seen = λ n to x v h.
          subst (λ (k : List Effect). SeesAbove (all_sent left.0 plan t) (repository n) k x v) (log (repository n))
          (subst (λ (e : List Post). SeesAbove e (repository n) (reverse (logs_at logs (walk (base_of r.script plan t) t.entries) (repository n))) x v) ever
          (all-seen r.script (base_of r.script plan t) (logs_at logs (walk (base_of r.script plan t) t.entries)) (replaced (alike r.script) left.0) (sent_earlier (alike r.script) left.0)
          (sent_by (walk (base_of r.script plan t) t.entries)) (TickedBy left.0 t.entries) facts n to x v (subst (Has (record { from = repository n; to = to; message = message.Value x v })) (sym ever) h)));
    }

module _ (law : (p : Position) (b i c : ℕ) (late early : List Effect) → log_at p (broker b) ≡ late ++ (effect.End i (outcome.Spent c) ∷ early) → MayTry i (book early).acts (IsSpent (book early) c)) where
  pub spent-rightly : (plan : Plan) (asked : List Asked) (t : Trace) → CanRun plan → IsLegal plan asked t → SpendsRightly plan t
  spent-rightly plan asked t w l logs left agrees b i c late early is = let e = ended plan asked t w l logs left agrees in law e.place b i c late early (e.log (broker b) ∙ is)
