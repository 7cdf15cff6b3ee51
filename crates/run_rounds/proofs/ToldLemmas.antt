-- What the closing of a run's wire tells, of the plan that the run was set up for.
use Rattle.run_rounds.proofs.Names.{Asked, Plan, CanRun, reading, Opened, Trace, is_ready, opened_log, base_of, Origin, IsWhole, Opening, AreReady, node_count, IsSetUp, account_of, tellers, IsTold, ◌≡◌, ◌∙◌, ℕ, true, IsTrue, List, length, Option, ap, sym, subst, AllReady, JustNodes, IsRunOf, run-of}
use Rattle.value_form.specs.declared.acts.ActSpec.{ActSpec}
use Rattle.run_starts.specs.Clocked.{IsClocked}
use Rattle.run_starts.specs.Learns.{LearnsAreNew}
use Rattle.world_core.specs.Walks.{Base}
use Rattle.run_rounds.proofs.KnownLemmas.{same-base}

module _ {M : Type 0} {g : _} (plan : Plan) (os : List (Opening M g)) (o : Origin) (t : Trace) (set : IsSetUp plan os o.asked o.answers o) (language : CanRun plan) (count : length os ≡ node_count plan) (ready : AreReady plan 0 os) where
  -- the wire is one of a run of the plan
  pub run : IsRunOf plan o
  run = run-of plan os o.asked o.answers o set language count ready

  module _ (opened : t.opened ≡ o.opened) where
    -- its nodes are those of the plan
    pub nodes-told : JustNodes plan t.opened
    nodes-told = subst (JustNodes plan) (sym opened) run.nodes

    -- and their logs show neither a later run nor another plan
    pub ready-told : AllReady (base_of (reading plan.acts) plan t)
    ready-told n log e =
        subst (λ (acts : List ActSpec). is_ready (reading acts) plan.run acts n log ≡ true) (sym run.acts)
        (subst (λ (r : ℕ). is_ready (reading o.acts) r o.acts n log ≡ true) (sym run.run) (run.ready n log (sym (ap (λ (l : List Opened). opened_log l n) opened) ∙ e)))

  -- the trace is one of the plan
  pub is-told : (told : _) (asked : List Asked) (answers : Option (List ℕ)) → IsTrue told → IsWhole told o t asked answers → IsTold plan (account_of t (tellers o.asked asked o.answers answers))
  is-told told asked answers known whole = record {
    legal = whole.legal known plan run;
    fates = whole.fates;
    clock = subst (λ (start : ℕ). IsClocked o.answers answers start t.entries) (sym whole.start) whole.clock;
    learns = subst (λ (b : Base). LearnsAreNew b t.entries) (same-base plan os o.asked o.answers o t set whole.start whole.opened) (whole.learns known);
  }
