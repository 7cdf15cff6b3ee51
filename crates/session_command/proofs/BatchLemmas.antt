-- A plan that is run above its nodes' logs.
use Rattle.std.proofs.Common.{◌≡◌, ◌++◌, ◌+◌, ◌-◌, ◌<◌, ◌≤◌, ◌∙◌, Bool, true, false, IsTrue, ℕ, suc, List, [], ◌∷◌, length, map, ap, arith, inl, inr, refl, subst, sym, ◌⊎◌}
use Rattle.std.specs.Prelude.{Option}
use Rattle.std.specs.List.{AllZip}
use Rattle.plan_form.specs.declared.plans.Plan.{Plan}
use Rattle.plan_form.specs.PlanTexts.{CanRun}
use Rattle.medium_port.specs.declared.shelves.MediumName.{MediumName}
use Rattle.session_form.specs.declared.heights.Heights.{Heights}
use Rattle.session_form.specs.Heights.{HasRoom, raised}
use Rattle.command_words.specs.declared.commands.Options.{Options}
use Rattle.plan_volumes.specs.Asides.{AreApart}
use Rattle.plan_volumes.specs.KeptMedium.{Kept}
use Rattle.plan_volumes.specs.Media.{Media}
use Rattle.plan_volumes.specs.Opening.{Opening}
use Rattle.plan_volumes.specs.Openings.{HasOpened, medium_in}
use Rattle.plan_volumes.specs.Places.{node_at, node_count}
use Rattle.plan_volumes.specs.Shelves.{ShelfSight, WereTaken, first_names}
use Rattle.plan_volumes.specs.Volumes.{AreNodes, NodeVolumes, all_taken, names_from, work_taken}
use Rattle.run_rounds.specs.Finishes.{Tellers, account_of}
use Rattle.run_rounds.specs.Runs.{Account}
use Rattle.run_command.specs.Contract.{HasNoRun, HoldsOfRuns, RunsOver}
use Rattle.run_command.specs.Takings.{AreHanded, AreTaken, EndsOver, WereGiven}
use Rattle.run_command.specs.Written.{EndsIfAny, HasNoMemory, Sinking}
use Rattle.run_command.specs.declared.reports.Wanted.TheVariants.{Report}
use Rattle.run_command.specs.declared.takings.Taken.{Taken}
use Rattle.run_command.proofs.RunLemmas.{runs-over}
use Rattle.run_command.proofs.ShelfLemmas.{has-volumes, opened-left}
use Rattle.world_core.specs.declared.traces.Trace.{Trace}
use Rattle.session_command.specs.Above.{FindsNoRoom, RunsAbove, reached}
use Rattle.session_command.specs.Lines.{full_line}

module _ {M : Type 0} (w : Media M) (h : Heights) (draft : Plan) where
  -- a raised plan has the same nodes
  same-names : (place : ℕ) (volumes : List (NodeVolumes w)) → names_from draft place volumes ≡ names_from (raised h draft) place volumes
  same-names place [] = refl
  same-names place (v ∷ volumes) = ap (λ (l : List MediumName). first_names (node_at draft place) (length v.taken) ++ l) (same-names (suc place) volumes)

  same-nodes : (place : ℕ) (volumes : List (NodeVolumes w)) → AreNodes w draft place volumes → AreNodes w (raised h draft) place volumes
  same-nodes place [] k = tt
  same-nodes place (v ∷ volumes) k = (k.0, same-nodes (suc place) volumes k.1)

  same-apart : (old new : ShelfSight) (volumes : List (NodeVolumes w)) (t : Taken M w) → AreApart w old new draft volumes t.openings.items t.asides.items t.wanting → AreApart w old new (raised h draft) volumes t.openings.items t.asides.items t.wanting
  same-apart old new volumes t a = record {
    taken = subst (λ (l : List MediumName). WereTaken w old new l (all_taken volumes)) (same-names 0 volumes) a.taken;
    are = same-nodes 0 volumes a.are;
    given = a.given;
    aside = a.aside;
    memory = a.memory;
  }

  pub same-taken : (volumes : List (NodeVolumes w)) (t : Taken M w) → AreTaken w draft volumes t → AreTaken w (raised h draft) volumes t
  same-taken volumes t a = record { opened = a.opened; aside = a.aside; count = a.count; media = a.media; kept = a.kept }

module _ {M : Type 0} (w : Media M) (old new : ShelfSight) (draft : Plan) (o : Options) (s : Sinking) (status : ℕ) (kept : List (Kept M)) where
  -- memory ran out before any medium was asked for
  pub above-nothing : (told : Account) → HasNoMemory status s → kept ≡ [] → new.asked ≡ old.asked → HasNoRun told → RunsAbove w old new kept draft o told s status
  above-nothing told short none unasked no_run = record {
    volumes = [];
    openings = [];
    opened = tt;
    came = inl ((omega arith, omega arith), (record { came = inl (short, inl (record { none = none; unasked = unasked; no_run = no_run })); completes = λ tells most smooth. inl short.0 }, refl));
  }

  module _ (volumes : List (NodeVolumes w)) (t : Taken M w) (given : WereGiven w draft volumes old new t) where
    -- no room is left above
    pub above-full : (told : Account) → (HasRoom (reached t.openings.items) → ⊥) → AreHanded w draft volumes (map medium_in t.openings.items) kept → HasNoRun told → EndsIfAny status s 2 full_line → RunsAbove w old new kept draft o told s status
    above-full told full handed no_run line = record {
      volumes = volumes;
      openings = t.openings.items;
      opened = given.taken.opened;
      came = inr (
        full,
        record {
          left = map medium_in t.openings.items;
          has = has-volumes w old new draft volumes t.openings.items t.asides.items t.wanting (map medium_in t.openings.items) kept given.apart given.taken.count.1 handed;
          untouched = opened-left w (map work_taken volumes) t.openings.items given.taken.opened;
          no_run = no_run;
          line = line;
        },
      );
    }

    -- the plan was run above
    pub above-run : (told : Tellers) (trace : Trace) (plan : Plan) → plan ≡ raised (reached t.openings.items) draft → CanRun plan → HasRoom (reached t.openings.items) → HoldsOfRuns → EndsOver w plan volumes Report o t.wanting told trace kept s status
        → RunsAbove w old new kept draft o (account_of trace told) s status
    above-run told trace plan is runs room laws ends =
        let h = reached t.openings.items in
        let e = subst (λ (p : Plan). EndsOver w p volumes Report o t.wanting told trace kept s status) is ends in
        let a = same-apart w h draft old new volumes t given.apart in
        record {
          volumes = volumes;
          openings = t.openings.items;
          opened = given.taken.opened;
          came = inl (
            room,
            runs-over w old new (raised h draft) volumes Report o t.wanting told trace kept s status (subst CanRun is runs) laws a.memory e
                (has-volumes w old new (raised h draft) volumes t.openings.items t.asides.items t.wanting e.left kept a given.taken.count.1 e.handed),
          );
        }
