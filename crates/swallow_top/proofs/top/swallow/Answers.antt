use Rattle.swallow_top.proofs.Names.{Every, CanRun, AreWords, IsPoll, RefusedAs, AskedNothing, shelf_sight, sinking, ◌⊎◌, ◌∙◌, ◌≤◌, ap, length, refl, sym, subst, said}
use Rattle.plan_form.proofs.MadeLemmas.{made_is_whole}
use Rattle.command_words.proofs.WordLemmas.{few-ticks}
use Rattle.swallow_top.proofs.PromiseLemmas.{language-of, polls-of, promise-asked, promise-load, promise-no-polls, promise-refused, promise-run, promise-settle, promise-votes, quiet-call, some-workers}
use Rattle.swallow_top.specs.Asked.{TellsAsked}
use Rattle.swallow_top.proofs.top.swallow.Goals as goal

pub run_plan-requires-clause-plan : goal.run_plan-requires-clause-plan
run_plan-requires-clause-plan g c κs within = language-of (g.I.Source.left c.args.source.now) (g.I.Source.left c.read_plan.new.source) (g.I.Source.faults c.args.source.now) (g.I.Source.faults c.read_plan.new.source) c.in-Ok.plan c.in-Ok.ensures

pub run_plan-requires-clause-workers : goal.run_plan-requires-clause-workers
run_plan-requires-clause-workers g c κs within = some-workers c.in-Some-Run.options (subst (λ x. AreWords x (said c.args.words.now)) c.in-Some-Run.field-0-is c.in-Some-Run.ensures.words).0 (subst (λ x. AreWords x (said c.args.words.now)) c.in-Some-Run.field-0-is c.in-Some-Run.ensures.words).2

pub run_plan-requires-in-Ok-make-clause-plan : goal.run_plan-requires-in-Ok-make-clause-plan
run_plan-requires-in-Ok-make-clause-plan g c κs within = subst CanRun (sym c.in-Ok-make.ensures) (made_is_whole c.in-Some-Load.seed c.in-Some-Load.count (subst (λ x. AreWords x (said c.args.words.now)) c.in-Some-Load.field-0-is c.in-Some-Load.ensures.words).count_is.high).0

pub run_plan-requires-in-Ok-make-clause-workers : goal.run_plan-requires-in-Ok-make-clause-workers
run_plan-requires-in-Ok-make-clause-workers g c κs within = some-workers c.in-Some-Load.options (subst (λ x. AreWords x (said c.args.words.now)) c.in-Some-Load.field-0-is c.in-Some-Load.ensures.words).more (subst (λ x. AreWords x (said c.args.words.now)) c.in-Some-Load.field-0-is c.in-Some-Load.ensures.words).options

pub returns-in-Err : goal.returns-in-Err
returns-in-Err g c =
    let q = c.quiet-in-Err.ensures in
    let k = g.O.Sink in
    let s = sinking (k.taken c.args.sink.now) (k.taken c.refused-status-in-Err.new.sink) (k.faults c.args.sink.now) (k.faults c.refused-status-in-Err.new.sink) in
    record {
      promise = promise-refused _ c.in-Some-Run.options c.in-Err.stop (subst (λ x. AreWords x (said c.args.words.now)) c.in-Some-Run.field-0-is c.in-Some-Run.ensures.words) c.in-Err.ensures (subst (λ n. RefusedAs c.in-Err.stop n s) (sym q.status) c.refused-status-in-Err.ensures)
          (λ status is. quiet-call _ status is (q.media ∙ c.new-in-Err.ensures.items) refl q.trace (ap g.F.Fates.asked q.told.0) (ap g.C.Clock.answers q.told.1) q.votes) (λ name is was. absurd (was is));
    }

pub returns-in-Ok : goal.returns-in-Ok
returns-in-Ok g c = record {
  promise = promise-run _ c.in-Some-Run.options c.in-Ok.plan (subst (λ x. AreWords x (said c.args.words.now)) c.in-Some-Run.field-0-is c.in-Some-Run.ensures.words) c.in-Ok.ensures c.run_plan.ensures.ran c.run_plan.ensures.kept c.run_plan.ensures.votes;
}

pub returns-in-Ok-make : goal.returns-in-Ok-make
returns-in-Ok-make g c = record {
  promise = promise-load _ c.in-Some-Load.seed c.in-Some-Load.count c.in-Some-Load.options c.in-Ok-make.plan (refl, refl) (subst (λ x. AreWords x (said c.args.words.now)) c.in-Some-Load.field-0-is c.in-Some-Load.ensures.words) c.in-Ok-make.ensures c.run_plan-in-Ok-make.ensures.ran c.run_plan-in-Ok-make.ensures.kept c.run_plan-in-Ok-make.ensures.votes;
}

pub tell_votes-requires-clause-polls : goal.tell_votes-requires-clause-polls
tell_votes-requires-clause-polls g c =
    subst (λ l. Every IsPoll l) (sym c.as_slice.ensures.value) (polls-of (g.I.Source.left c.args.source.now) (g.I.Source.left c.read_polls.new.source) (g.I.Source.faults c.args.source.now) (g.I.Source.faults c.read_polls.new.source) c.in-Ok-read_polls.polls c.in-Ok-read_polls.ensures).0

pub tell_votes-requires-clause-few : goal.tell_votes-requires-clause-few
tell_votes-requires-clause-few g c =
    subst (λ l. length l ≤ 16) (sym c.as_slice.ensures.value) (polls-of (g.I.Source.left c.args.source.now) (g.I.Source.left c.read_polls.new.source) (g.I.Source.faults c.args.source.now) (g.I.Source.faults c.read_polls.new.source) c.in-Ok-read_polls.polls c.in-Ok-read_polls.ensures).1

pub tell_votes-requires-clause-ticks : goal.tell_votes-requires-clause-ticks
tell_votes-requires-clause-ticks g c = few-ticks c.in-Some-Votes.options (subst (λ x. AreWords x (said c.args.words.now)) c.in-Some-Votes.field-0-is c.in-Some-Votes.ensures.words).0 (subst (λ x. AreWords x (said c.args.words.now)) c.in-Some-Votes.field-0-is c.in-Some-Votes.ensures.words).2

pub returns-in-Ok-read_polls : goal.returns-in-Ok-read_polls
returns-in-Ok-read_polls g c = record {
  promise = promise-votes _ c.in-Some-Votes.options c.in-Ok-read_polls.polls c.as_slice.result.now c.as_slice.ensures.value (subst (λ x. AreWords x (said c.args.words.now)) c.in-Some-Votes.field-0-is c.in-Some-Votes.ensures.words) c.in-Ok-read_polls.ensures c.tell_votes.ensures.polled;
}

pub returns-in-Err-read_polls : goal.returns-in-Err-read_polls
returns-in-Err-read_polls g c =
    let q = c.quiet-in-Err-read_polls.ensures in
    let k = g.O.Sink in
    let s = sinking (k.taken c.args.sink.now) (k.taken c.refused-status-in-Err-read_polls.new.sink) (k.faults c.args.sink.now) (k.faults c.refused-status-in-Err-read_polls.new.sink) in
    record {
      promise = promise-no-polls _ c.in-Some-Votes.options c.in-Err-read_polls.stop (subst (λ x. AreWords x (said c.args.words.now)) c.in-Some-Votes.field-0-is c.in-Some-Votes.ensures.words) c.in-Err-read_polls.ensures
          (subst (λ n. RefusedAs c.in-Err-read_polls.stop n s) (sym q.status) c.refused-status-in-Err-read_polls.ensures)
          (λ status is. quiet-call _ status is (q.media ∙ c.new-in-Err-read_polls.ensures.items) refl q.trace (ap g.F.Fates.asked q.told.0) (ap g.C.Clock.answers q.told.1) q.votes) (λ name is was. absurd (was is));
    }

pub returns-in-Some : goal.returns-in-Some
returns-in-Some g c =
    let w = g.S.Medium.Medium in
    let h = g.S.Shelf in
    let old = shelf_sight h c.args.shelf.now in
    let sf = c.tell_asked-status.new.shelf in
    let new = shelf_sight h sf in
    let k = g.O.Sink in
    let s = sinking (k.taken c.args.sink.now) (k.taken c.tell_asked-status.new.sink) (k.faults c.args.sink.now) (k.faults c.tell_asked-status.new.sink) in
    let q = c.quiet-in-Some.ensures in
    let command = c.in-Some.command in
    let media = subst (λ l. AskedNothing w old new l s c.tell_asked-status.result.0 ⊎ TellsAsked w old new command l s c.tell_asked-status.result.0) (sym q.media) c.tell_asked-status.ensures in
    let tells = subst (λ n. AskedNothing w old new c.quiet-in-Some.result.media s n ⊎ TellsAsked w old new command c.quiet-in-Some.result.media s n) (sym q.status) media in
    record {
      promise = promise-asked _ command (refl, refl) c.in-Some.ensures.words tells
          (record { trace = q.trace; fates = ap g.F.Fates.asked q.told.0; clock = ap g.C.Clock.answers q.told.1 }) q.votes;
    }

pub settle-requires-clause-low : goal.settle-requires-clause-low
settle-requires-clause-low g c κs within = (subst (λ x. AreWords x (said c.args.words.now)) c.in-Some-Settle.field-0-is c.in-Some-Settle.ensures.words).number_is.low

pub settle-requires-clause-high : goal.settle-requires-clause-high
settle-requires-clause-high g c κs within = (subst (λ x. AreWords x (said c.args.words.now)) c.in-Some-Settle.field-0-is c.in-Some-Settle.ensures.words).number_is.high

pub returns-in-Some-Settle : goal.returns-in-Some-Settle
returns-in-Some-Settle g c = record {
  promise = promise-settle _ c.in-Some-Settle.repositories (refl, refl) (subst (λ x. AreWords x (said c.args.words.now)) c.in-Some-Settle.field-0-is c.in-Some-Settle.ensures.words) c.settle.ensures.settled c.settle.ensures.kept c.settle.ensures.votes;
}
