-- One reading of the scripts of all runs of a past, and the facts of the logs that it left.
use Rattle.archive_law.proofs.Names.{repository, same_node, NodeId, Post, Tree, Plan, CanRun, forward, Asked, Trace, base_of, alike, own_reading, IsLegal, Base, walk_from, AreEarlier, Earlier, TickedBy, WereLeftOrRetired, replaced, sent_earlier, Running, Retiring, node_facts, OlderFacts, IsPast, log_after, ◌≡◌, ◌⊎◌, inl, inr, ℕ, Bool, true, false, nat_le, ◌&&◌, List, [], ◌∷◌, reverse, if◌then◌else◌, refl, sym, ◌∙◌, ap, subst, arith, leb-true, Ends, MayRetire, Legal, Meets, is_within, most_of, AreOfLanguage, logs_left}
use Rattle.pseudo_time.specs.declared.nodes.NodeKind.{NodeKind}
use Rattle.pseudo_time.specs.declared.nodes.NodeKind.TheVariants.{Repository, Broker}
use Rattle.value_form.specs.declared.endings.Ending.TheVariants as ending
use Rattle.serial_law.proofs.EarlierLemmas.{older-facts}
use Rattle.serial_law.proofs.Inside.{Inside}
use Rattle.serial_law.proofs.OlderReading.{OneReading, older-reading}

-- ---- one reading

pub record Reading (cs : List Earlier) : Type 0 where
  pub script : List ℕ → Tree
  pub are : AreEarlier (alike script) cs
  pub left : (n : NodeId) → log_after cs n ≡ logs_left (alike script) cs n
  pub replaced_so : (n : NodeId) → replaced own_reading cs n ≡ replaced (alike script) cs n
  pub inside : (text : List ℕ) → Inside 16 (script text)

-- a run among these calls
record SomeRun : Type 0 where
  plan : Plan
  asked : List Asked
  trace : Trace
  whole : CanRun plan
  legal : IsLegal plan asked trace

abbrev NoRuns : List Earlier → Type 0
NoRuns [] = Unit {0}
NoRuns (Running c ∷ cs) = ⊥
NoRuns (Retiring r at ∷ cs) = NoRuns cs

some-run : (cs : List Earlier) → AreEarlier own_reading cs → AreOfLanguage cs → SomeRun ⊎ NoRuns cs
some-run [] e w = inr tt
some-run (Running c ∷ cs) e w = inl (record { plan = c.plan; asked = c.asked; trace = c.trace; whole = w.0; legal = e.1.legal })
some-run (Retiring r at ∷ cs) e w = some-run cs e.0 w

-- where there is none, no reading matters
module _ (s : List ℕ → Tree) where
  unread-logs : (cs : List Earlier) → NoRuns cs → (n : NodeId) → logs_left own_reading cs n ≡ logs_left (alike s) cs n
  unread-logs [] h n = refl
  unread-logs (Running c ∷ cs) h n = absurd h
  unread-logs (Retiring r at ∷ cs) h n = λ i. if same_node (repository r) n then forward (unread-logs cs h n i) at else unread-logs cs h n i

  unread-replaced : (cs : List Earlier) → NoRuns cs → (n : NodeId) → replaced own_reading cs n ≡ replaced (alike s) cs n
  unread-replaced [] h n = refl
  unread-replaced (Running c ∷ cs) h n = absurd h
  unread-replaced (Retiring r at ∷ cs) h n = λ i. if same_node (repository r) n then unread-logs cs h n i ∷ unread-replaced cs h n i else unread-replaced cs h n i

  unread-are : (cs : List Earlier) → NoRuns cs → AreEarlier own_reading cs → AreEarlier (alike s) cs
  unread-are [] h e = tt
  unread-are (Running c ∷ cs) h e = absurd h
  unread-are (Retiring r at ∷ cs) h e = (unread-are cs h e.0, subst (λ log. MayRetire (reverse log) at) (unread-logs cs h (repository r)) e.1)

pub reading-of : (cs : List Earlier) → IsPast cs → Reading cs
reading-of cs past = elim (some-run cs past.0 past.1) [
  | inl r ↦
      let left : WereLeftOrRetired (logs_left own_reading cs) = (cs, past, λ n. refl) in
      let one : OneReading r.plan r.asked r.trace (logs_left own_reading cs) cs = older-reading r.plan r.asked r.trace (logs_left own_reading cs) r.whole r.legal left in
      record { script = one.script; are = one.are; left = one.left; replaced_so = one.replaced_so; inside = one.inside }
  | inr h ↦
      let s : List ℕ → Tree = λ text. Ends ending.Finished in
      record { script = s; are = unread-are s cs h past.0; left = unread-logs s cs h; replaced_so = unread-replaced s cs h; inside = λ text. tt }
]

-- ---- a trace of nothing

abbrev pub no_plan : Plan
no_plan = record { run = 1; repositories = 0; brokers = 0; acts = [] }

abbrev pub no_trace : Trace
no_trace = record { start = 0; opened = []; sent = []; entries = [] }

abbrev pub no_base : (List ℕ → Tree) → Base
no_base script = base_of script no_plan no_trace

none-within : (i : ℕ) → false ≡ is_within i 0
none-within i = go (nat_le 1 i) (nat_le i 0) refl refl
  where
    go : (b c : Bool) → nat_le 1 i ≡ b → nat_le i 0 ≡ c → false ≡ is_within i 0
    go false c e k = sym (ap (λ z. z && nat_le i 0) e)
    go true false e k = sym (ap (λ z. z && nat_le i 0) e ∙ k)
    go true true e k = let low = leb-true 1 i e in let high = leb-true i 0 k in absurd (omega (arith, low, high))

none-in : (kind : NodeKind) (i : ℕ) → false ≡ is_within i (most_of no_plan kind)
none-in Repository i = none-within i
none-in Broker i = none-within i

legal-nothing : (script : List ℕ → Tree) → Legal script no_plan [] no_trace
unfolding walk_from Meets
legal-nothing script = record {
  scripted = tt;
  nodes = record { just = λ n. none-in n.kind n.number; once = λ n. omega arith };
  ready = λ n log e. absurd (cc e);
  meets = tt;
  sent = refl;
  numbers = tt;
  before = [];
  fated = refl;
}

-- ---- the facts

-- of all logs that the past left, and of those that retirements replaced
pub record Facts (cs : List Earlier) : Type 0 where
  pub script : List ℕ → Tree
  pub past : List Post
  pub facts : OlderFacts (node_facts script) (no_base script) (log_after cs) (replaced own_reading cs) past [] (TickedBy cs [])
  pub inside : (text : List ℕ) → Inside 16 (script text)
  pub are : AreEarlier (alike script) cs

pub facts-of : (cs : List Earlier) → IsPast cs → Facts cs
unfolding walk_from
facts-of cs past =
    let r : Reading cs = reading-of cs past in
    let older : OlderFacts (node_facts r.script) (no_base r.script) (log_after cs) (replaced (alike r.script) cs) (sent_earlier (alike r.script) cs) [] (TickedBy cs []) =
    older-facts r.script no_plan [] no_trace (log_after cs) [] [] (cs, r.are, r.left) (λ n log e. absurd (cc e)) (legal-nothing r.script) refl in
    record {
      script = r.script;
      past = sent_earlier (alike r.script) cs;
      facts = subst (λ olds. OlderFacts (node_facts r.script) (no_base r.script) (log_after cs) olds (sent_earlier (alike r.script) cs) [] (TickedBy cs []))
          (λ i n. sym (r.replaced_so n) i) older;
      inside = r.inside;
      are = r.are;
    }
