-- What the parts of a call say, said in the words of its promise.
use Rattle.votes_command.specs.Tellings.{some_down as voters_down}
use Rattle.swallow_top.proofs.Names.{Every, Plan, IsPlanFault, IsPlan, CanRun, Trace, open_acts, ObjectId, no_trace, Options, AreWords, Media, some_down, Account, AllKept, Kept, Wanted, Stop, CameOf, HasNoRun, RefusedAs, RunsPlan, AskedNothing, TellsHistory, TellsVolumes, ReadsPlan, ShelfSight, Retired, Rule, TellsAnswer, TellsReplay, TellsSnapshot, TellsWatch, TellsRetired, TellsRetirement, mark_at, status_of, Sinking, Ends, EndsIfAny, VoteEnd, Told, IsInputFault, IsInput, IsPoll, PollLine, HavePolled, ReadsPolls, TellsVotes, limits_of, tellers_of, votes_status, Vec, Global, ◌≡◌, ◌⊎◌, ◌≤◌, ◌==◌, inl, inr, ℕ, Bool, true, false, List, [], ◌∷◌, length, Option, Ok, Err, refl, sym, subst, arith, if◌then◌else◌, AreGiven, AreOptions, IsWith, IsNoPlan, AreNoPolls}
use Rattle.std.specs.Option.{unwrap_or}
use Rattle.plan_form.specs.Making.{made_plan}
use Rattle.plan_form.proofs.PlanTextLemmas.{plan_can_run}
use Rattle.command_words.specs.declared.commands.Command.{Command}
use Rattle.command_words.specs.declared.commands.Command.TheVariants.{Run, Load, History, Retire, Votes, Watch, AsOf, Audit, Snapshot, Settle, Replay}
use Rattle.command_words.specs.declared.options.Given.{Given}
use Rattle.run_command.specs.declared.reports.Wanted.TheVariants.{Report, Summary}
use Rattle.run_command.specs.declared.stops.Stop.TheVariants as stop
use Rattle.swallow_top.specs.Asked.{TellsAsked}
use Rattle.swallow_top.specs.Promise.{Call, HasNoWords, RanOut, TouchedNothing, IsUnread, Promise, WasDone}
use Rattle.retire_command.specs.declared.outcomes.Retired.TheVariants.{Done, Refused, Fallen, NoMemory}
use Rattle.archive_promise.specs.Question.TheVariants as question
use Rattle.std.specs.List.{list_any}
use Rattle.settle_command.specs.Contract.{SettlesAll}
use Rattle.settle_command.specs.Plans.{settle_plan}
use Rattle.settle_report.specs.Texts.{open_count, settle_status}
use Rattle.world_core.specs.Walks.{is_down}
use Rattle.votes_command.specs.VoteEnd.TheVariants as voted
use Rattle.votes_command.specs.Statuses.{all_held}
use Rattle.swallow_top.proofs.VoteLemmas.{votes-kept}
use Rattle.swallow_top.proofs.HistoryLemmas.{history-kept}
use Rattle.swallow_top.proofs.InputLemmas.{of_input-all, of_input-with}
use Rattle.swallow_top.proofs.OutcomeLemmas.{outcome-most, tellsanswer-kept, tellsreplay-kept, tellssnapshot-kept, tellswatch-kept}
use Rattle.swallow_top.proofs.RetirementLemmas.{retirement-kept}

-- ---- statuses

if-most : (b : Bool) (x y most : ℕ) → x ≤ most → y ≤ most → (if b then x else y) ≤ most
if-most true x y most p q = p
if-most false x y most p q = q

status-most : (plan : Plan) (t : Trace) → status_of plan t ≤ 8
status-most plan t = if-most (some_down t.entries) 6 (if open_acts plan t == 0 then 0 else 5) 8 (omega arith) (if-most (open_acts plan t == 0) 0 5 8 (omega arith) (omega arith))

ends-most : (status : ℕ) (s : Sinking) (there : ℕ) (text : List ℕ) → there ≤ 8 → Ends status s there text → status ≤ 8
ends-most status s there text most (inl h) = subst (λ n. n ≤ 8) (sym h.0) most
ends-most status s there text most (inr h) = let e = h.0 in omega (arith, e)

any-most : (status : ℕ) (s : Sinking) (there : ℕ) (text : List ℕ) → there ≤ 8 → EndsIfAny status s there text → status ≤ 8
any-most status s there text most (inl h) = let e = h.0 in omega (arith, e)
any-most status s there text most (inr h) = ends-most status s there text most h

retired-most : (r : Retired) (s : Sinking) (status : ℕ) → TellsRetired r status s → status ≤ 8
retired-most (Done line) s status h = ends-most status s 0 line (omega arith) h
retired-most (Refused line) s status h = let e = h.0 in omega (arith, e)
retired-most (Fallen line) s status h = ends-most status s 6 line (omega arith) h
retired-most NoMemory s status h = let e = h.0 in omega (arith, e)

voted-most : (end : VoteEnd) (votes : Trace) (s : Sinking) (status : ℕ) → TellsVotes end votes status s → status ≤ 8
voted-most (Told t standings) votes s status h =
    any-most status s (votes_status t standings) _ (if-most (all_held standings) 0 (if voters_down t.entries then 6 else 5) 8 (omega arith) (if-most (voters_down t.entries) 6 5 8 (omega arith) (omega arith))) h.1
voted-most voted.NoMemory votes s status h = let short = h.1 in let e = short.0 in omega (arith, e)

module _ {M : Type 0} (w : Media M) (old new : ShelfSight) (kept : List (Kept M)) where
  pub runs-most : (plan : Plan) (wanted : Wanted) (o : Options) (told : Account) (s : Sinking) (status : ℕ) → RunsPlan w old new kept plan wanted o told s status → status ≤ 8
  runs-most plan wanted o told s status runs = by runs.came
    where
      by : CameOf w old new kept plan wanted o told s status → status ≤ 8
      by (inl h) = let short = h.0 in let e = short.0 in omega (arith, e)
      by (inr (inl h)) = let e = h.0 in omega (arith, e)
      by (inr (inr h)) = any-most status s (status_of plan told.trace) _ (status-most plan told.trace) h.1

  pub tells-most : (object : ObjectId) (s : Sinking) (status : ℕ) → TellsHistory w old new object kept s status → status ≤ 8
  tells-most object s status h = by h.told
    where
      by : TellsVolumes object h.openings status s → status ≤ 8
      by (inl h) = let e = h.0 in omega (arith, e)
      by (inr (inl x)) = ends-most status s 0 x.0 (omega arith) x.2
      by (inr (inr x)) = ends-most status s 6 x.0 (omega arith) x.2

-- nothing was taken from a shelf that is as it was
pub none-kept : {M : Type 0} (old new : ShelfSight) (kept : List (Kept M)) → ((name : _) → new.is_taken name → old.is_taken name) → AllKept old new kept
none-kept old new kept same name is was = absurd (was (same name is))

-- ---- words

with-workers : (rest g : Given) (name word : List ℕ) → 1 ≤ unwrap_or rest.workers 1 → IsWith rest name word g → 1 ≤ unwrap_or g.workers 1
with-workers rest g name word before (inl h) = subst (λ (x : Given). 1 ≤ unwrap_or x.workers 1) (sym h.4) h.2.low
with-workers rest g name word before (inr (inl h)) = subst (λ (x : Given). 1 ≤ unwrap_or x.workers 1) (sym h.4) before
with-workers rest g name word before (inr (inr h)) = subst (λ (x : Given). 1 ≤ unwrap_or x.workers 1) (sym h.4) before

given-workers : (words : List (List ℕ)) (g : Given) → AreGiven g words → 1 ≤ unwrap_or g.workers 1
given-workers [] g h = subst (λ (x : Given). 1 ≤ unwrap_or x.workers 1) (sym h) (omega arith)
given-workers (name ∷ []) g h = absurd h
given-workers (name ∷ word ∷ more) g h = with-workers h.0 g name word (given-workers more h.0 h.1) h.2

-- there is a worker
pub some-workers : (o : Options) (words : List (List ℕ)) → AreOptions o words → 1 ≤ o.workers
some-workers o words h = subst (λ (x : Options). 1 ≤ x.workers) (sym h.2) (given-workers words h.0 h.1)

-- ---- calls

module _ {M : Type 0} (c : Call M) where
  pub quiet-call : (status : ℕ) → c.status ≡ status → c.media ≡ [] → c.shelf.asked ≡ c.shelf_before.asked → c.told.trace ≡ no_trace → c.told.asked ≡ c.told.asked_before → c.told.answers ≡ c.told.answers_before → c.votes ≡ no_trace → TouchedNothing c status
  quiet-call status is none unasked trace asked answers votes = record { status_is = is; none = none; unasked = unasked; no_run = record { trace = trace; fates = asked; clock = answers }; no_votes = votes }

  -- a call that refused what it read, or had no memory
  refused-run : (o : Options) (s : Stop) → AreWords (Run o) c.words → ReadsPlan c.input c.left c.faults_before c.faults (Err s) → RefusedAs s c.status c.sink
      → ((status : ℕ) → c.status ≡ status → TouchedNothing c status) → HasNoWords c ⊎ (RanOut c ⊎ ((command : Command) × AreWords command c.words × WasDone c command))
  refused-run o (stop.Fault line kind) words read (inl short) quiet = inr (inl (quiet 7 short.0, short.1))
  refused-run o (stop.Fault line kind) words read (inr two) quiet =
      inr (inr (Run o, words, inr (inl (quiet 2 two.0, of_input-with c.input (λ input. IsPlanFault input line kind) (λ input. IsNoPlan input c.sink) (λ input h. record { line = line; kind = kind; is_fault = h; told = two.1 }) read))))
  refused-run o stop.Source words read refused quiet = inr (inr (Run o, words, inl (quiet 3 refused.0, read, refused.1)))
  refused-run o stop.NoMemory words read refused quiet = inr (inl (quiet 7 refused.0, refused.1))
  refused-run o stop.Words words read refused quiet = absurd read
  refused-run o (stop.Votes line) words read refused quiet = absurd read
  refused-run o stop.Sink words read refused quiet = absurd read

  refused-most : (s : Stop) → RefusedAs s c.status c.sink → c.status ≤ 8
  refused-most stop.Words h = let e = h.0 in omega (arith, e)
  refused-most (stop.Fault line kind) (inl h) = let e = h.0 in omega (arith, e)
  refused-most (stop.Fault line kind) (inr h) = let e = h.0 in omega (arith, e)
  refused-most (stop.Votes line) (inl h) = let e = h.0 in omega (arith, e)
  refused-most (stop.Votes line) (inr h) = let e = h.0 in omega (arith, e)
  refused-most stop.Source h = let e = h.0 in omega (arith, e)
  refused-most stop.NoMemory h = let e = h.0 in omega (arith, e)
  refused-most stop.Sink h = let e = h.0 in omega (arith, e)

  pub promise-refused : (o : Options) (s : Stop) → AreWords (Run o) c.words → ReadsPlan c.input c.left c.faults_before c.faults (Err s) → RefusedAs s c.status c.sink → ((status : ℕ) → c.status ≡ status → TouchedNothing c status) → AllKept c.shelf_before c.shelf c.media → Promise c
  promise-refused o s words read refused quiet kept = record { done = refused-run o s words read refused quiet; kept = kept; statuses = refused-most s refused; votes = inl (quiet c.status refl).no_votes }

  pub promise-run : (o : Options) (plan : Plan) → AreWords (Run o) c.words → ReadsPlan c.input c.left c.faults_before c.faults (Ok plan) → RunsPlan c.media_are c.shelf_before c.shelf c.media plan Report o c.told c.sink c.status → AllKept c.shelf_before c.shelf c.media → c.votes ≡ no_trace → Promise c
  promise-run o plan words read runs kept votes = record {
    done = inr (inr (Run o, words, inr (inr (read.1, of_input-with c.input (λ input. IsPlan input plan) (λ input. (p : Plan) × IsPlan input p × RunsPlan c.media_are c.shelf_before c.shelf c.media p Report o c.told c.sink c.status) (λ input h. (plan, h, runs)) read.0))));
    kept = kept;
    statuses = runs-most c.media_are c.shelf_before c.shelf c.media plan Report o c.told c.sink c.status runs;
    votes = inl votes;
  }

  pub promise-load : (seed count : ℕ) (o : Options) (plan : Plan) → IsUnread c → AreWords (Load seed count o) c.words → plan ≡ made_plan seed count → RunsPlan c.media_are c.shelf_before c.shelf c.media plan (Summary seed) o c.told c.sink c.status → AllKept c.shelf_before c.shelf c.media → c.votes ≡ no_trace → Promise c
  promise-load seed count o plan unread words made runs kept votes = record {
    done = inr (inr (Load seed count o, words, (unread, subst (λ p. RunsPlan c.media_are c.shelf_before c.shelf c.media p (Summary seed) o c.told c.sink c.status) made runs)));
    kept = kept;
    statuses = runs-most c.media_are c.shelf_before c.shelf c.media plan (Summary seed) o c.told c.sink c.status runs;
    votes = inl votes;
  }

  pub promise-wanting : RanOut c → AllKept c.shelf_before c.shelf c.media → Promise c
  promise-wanting short kept = let quiet = short.0 in record { done = inr (inl short); kept = kept; statuses = let e = quiet.status_is in omega (arith, e); votes = inl quiet.no_votes }

  -- a call that asked for no medium, since memory ran out
  promise-unasked : AskedNothing c.media_are c.shelf_before c.shelf c.media c.sink c.status → HasNoRun c.told → c.votes ≡ no_trace → Promise c
  promise-unasked h none votes = promise-wanting (record { status_is = h.wanting; none = h.none; unasked = h.unasked; no_run = none; no_votes = votes }, h.unwritten) (none-kept c.shelf_before c.shelf c.media (λ name is. (h.left name).taken.0 is))

  promise-history : (object : ObjectId) → IsUnread c → AreWords (History object) c.words → AskedNothing c.media_are c.shelf_before c.shelf c.media c.sink c.status ⊎ TellsHistory c.media_are c.shelf_before c.shelf object c.media c.sink c.status → HasNoRun c.told → c.votes ≡ no_trace → Promise c
  promise-history object unread words (inl nothing) none votes = promise-unasked nothing none votes
  promise-history object unread words (inr tells) none votes = record {
    done = inr (inr (History object, words, (unread, tells, none)));
    kept = history-kept c.media_are c.shelf_before c.shelf object c.media c.sink c.status tells;
    statuses = tells-most c.media_are c.shelf_before c.shelf c.media object c.sink c.status tells;
    votes = inl votes;
  }

  promise-retire : (repository clock : ℕ) → IsUnread c → AreWords (Retire repository clock) c.words → AskedNothing c.media_are c.shelf_before c.shelf c.media c.sink c.status ⊎ TellsRetirement c.media_are c.shelf_before c.shelf repository clock c.media c.sink c.status →
      HasNoRun c.told → c.votes ≡ no_trace → Promise c
  promise-retire repository clock unread words (inl nothing) none votes = promise-unasked nothing none votes
  promise-retire repository clock unread words (inr tells) none votes = record {
    done = inr (inr (Retire repository clock, words, (unread, tells, none)));
    kept = retirement-kept c.media_are c.shelf_before c.shelf repository clock c.media c.sink c.status tells;
    statuses = retired-most tells.retired c.sink c.status tells.told;
    votes = inl votes;
  }

  promise-watch : (repository : ℕ) (rule : Rule) → IsUnread c → AreWords (Watch repository rule) c.words → AskedNothing c.media_are c.shelf_before c.shelf c.media c.sink c.status ⊎ TellsWatch c.media_are c.shelf_before c.shelf repository rule c.media c.sink c.status →
      HasNoRun c.told → c.votes ≡ no_trace → Promise c
  promise-watch repository rule unread words (inl nothing) none votes = promise-unasked nothing none votes
  promise-watch repository rule unread words (inr tells) none votes = record {
    done = inr (inr (Watch repository rule, words, (unread, tells, none)));
    kept = tellswatch-kept c.media_are c.shelf_before c.shelf c.media c.sink c.status repository rule tells;
    statuses = outcome-most tells.outcome c.sink c.status tells.told;
    votes = inl votes;
  }

  promise-snapshot : (clock : Option ℕ) → IsUnread c → AreWords (Snapshot clock) c.words → AskedNothing c.media_are c.shelf_before c.shelf c.media c.sink c.status ⊎ TellsSnapshot c.media_are c.shelf_before c.shelf clock c.media c.sink c.status →
      HasNoRun c.told → c.votes ≡ no_trace → Promise c
  promise-snapshot clock unread words (inl nothing) none votes = promise-unasked nothing none votes
  promise-snapshot clock unread words (inr tells) none votes = record {
    done = inr (inr (Snapshot clock, words, (unread, tells, none)));
    kept = tellssnapshot-kept c.media_are c.shelf_before c.shelf c.media c.sink c.status clock tells;
    statuses = outcome-most tells.outcome c.sink c.status tells.told;
    votes = inl votes;
  }

  promise-replay : (values : Bool) → IsUnread c → AreWords (Replay values) c.words → AskedNothing c.media_are c.shelf_before c.shelf c.media c.sink c.status ⊎ TellsReplay c.media_are c.shelf_before c.shelf values c.media c.sink c.status →
      HasNoRun c.told → c.votes ≡ no_trace → Promise c
  promise-replay values unread words (inl nothing) none votes = promise-unasked nothing none votes
  promise-replay values unread words (inr tells) none votes = record {
    done = inr (inr (Replay values, words, (unread, tells, none)));
    kept = tellsreplay-kept c.media_are c.shelf_before c.shelf c.media c.sink c.status values tells;
    statuses = outcome-most tells.outcome c.sink c.status tells.told;
    votes = inl votes;
  }

  promise-map : (repository clock : ℕ) → IsUnread c → AreWords (AsOf repository clock) c.words →
      AskedNothing c.media_are c.shelf_before c.shelf c.media c.sink c.status ⊎ TellsAnswer c.media_are c.shelf_before c.shelf (question.AsOf repository (mark_at clock)) c.media c.sink c.status → HasNoRun c.told → c.votes ≡ no_trace → Promise c
  promise-map repository clock unread words (inl nothing) none votes = promise-unasked nothing none votes
  promise-map repository clock unread words (inr tells) none votes = record {
    done = inr (inr (AsOf repository clock, words, (unread, tells, none)));
    kept = tellsanswer-kept c.media_are c.shelf_before c.shelf c.media c.sink c.status (question.AsOf repository (mark_at clock)) tells;
    statuses = outcome-most tells.outcome c.sink c.status tells.told;
    votes = inl votes;
  }

  promise-audit : (object : ObjectId) → IsUnread c → AreWords (Audit object) c.words →
      AskedNothing c.media_are c.shelf_before c.shelf c.media c.sink c.status ⊎ TellsAnswer c.media_are c.shelf_before c.shelf (question.Audit object) c.media c.sink c.status → HasNoRun c.told → c.votes ≡ no_trace → Promise c
  promise-audit object unread words (inl nothing) none votes = promise-unasked nothing none votes
  promise-audit object unread words (inr tells) none votes = record {
    done = inr (inr (Audit object, words, (unread, tells, none)));
    kept = tellsanswer-kept c.media_are c.shelf_before c.shelf c.media c.sink c.status (question.Audit object) tells;
    statuses = outcome-most tells.outcome c.sink c.status tells.told;
    votes = inl votes;
  }

  settles-most : (repositories : ℕ) → SettlesAll c.media_are c.shelf_before c.shelf c.media repositories c.told c.sink c.status → c.status ≤ 8
  settles-most repositories (inl h) = let short = h.0 in let e = short.0 in omega (arith, e)
  settles-most repositories (inr (over, inl short)) = let e = short.0 in omega (arith, e)
  settles-most repositories (inr (over, inr (text, is, ends))) =
      let plan = settle_plan repositories in
      ends-most c.status c.sink (settle_status plan c.told.trace) text
      (if-most (list_any is_down c.told.trace.entries) 6 (if open_count plan c.told.trace == 0 then 0 else 5) 8 (omega arith) (if-most (open_count plan c.told.trace == 0) 0 5 8 (omega arith) (omega arith))) ends

  pub promise-settle : (repositories : ℕ) → IsUnread c → AreWords (Settle repositories) c.words → SettlesAll c.media_are c.shelf_before c.shelf c.media repositories c.told c.sink c.status → AllKept c.shelf_before c.shelf c.media → c.votes ≡ no_trace → Promise c
  promise-settle repositories unread words settles kept votes = record {
    done = inr (inr (Settle repositories, words, (unread, settles)));
    kept = kept;
    statuses = settles-most repositories settles;
    votes = inl votes;
  }

  -- a command that asks media alone
  pub promise-asked : (command : Command) → IsUnread c → AreWords command c.words → AskedNothing c.media_are c.shelf_before c.shelf c.media c.sink c.status ⊎ TellsAsked c.media_are c.shelf_before c.shelf command c.media c.sink c.status → HasNoRun c.told → c.votes ≡ no_trace → Promise c
  promise-asked (History object) unread words tells none votes = promise-history object unread words tells none votes
  promise-asked (Retire repository clock) unread words tells none votes = promise-retire repository clock unread words tells none votes
  promise-asked (Watch repository rule) unread words tells none votes = promise-watch repository rule unread words tells none votes
  promise-asked (AsOf repository clock) unread words tells none votes = promise-map repository clock unread words tells none votes
  promise-asked (Audit object) unread words tells none votes = promise-audit object unread words tells none votes
  promise-asked (Snapshot clock) unread words tells none votes = promise-snapshot clock unread words tells none votes
  promise-asked (Replay values) unread words tells none votes = promise-replay values unread words tells none votes
  promise-asked (Run o) unread words (inl nothing) none votes = promise-unasked nothing none votes
  promise-asked (Run o) unread words (inr tells) none votes = absurd tells
  promise-asked (Load seed count o) unread words (inl nothing) none votes = promise-unasked nothing none votes
  promise-asked (Load seed count o) unread words (inr tells) none votes = absurd tells
  promise-asked (Votes o) unread words (inl nothing) none votes = promise-unasked nothing none votes
  promise-asked (Votes o) unread words (inr tells) none votes = absurd tells
  promise-asked (Settle repositories) unread words (inl nothing) none votes = promise-unasked nothing none votes
  promise-asked (Settle repositories) unread words (inr tells) none votes = absurd tells

  -- votes that refused what they read, or had no memory
  refused-votes : (o : Options) (s : Stop) → AreWords (Votes o) c.words → ReadsPolls c.input c.left c.faults_before c.faults (Err s) → RefusedAs s c.status c.sink
      → ((status : ℕ) → c.status ≡ status → TouchedNothing c status) → HasNoWords c ⊎ (RanOut c ⊎ ((command : Command) × AreWords command c.words × WasDone c command))
  refused-votes o (stop.Votes line) words read (inl short) quiet = inr (inl (quiet 7 short.0, short.1))
  refused-votes o (stop.Votes line) words read (inr two) quiet =
      inr (inr (Votes o, words, inr (inl (quiet 2 two.0, of_input-with c.input (λ input. IsInputFault input line) (λ input. AreNoPolls input c.sink) (λ input h. record { line = line; is_fault = h; told = two.1 }) read))))
  refused-votes o stop.Source words read refused quiet = inr (inr (Votes o, words, inl (quiet 3 refused.0, read, refused.1)))
  refused-votes o stop.NoMemory words read refused quiet = inr (inl (quiet 7 refused.0, refused.1))
  refused-votes o stop.Words words read refused quiet = absurd read
  refused-votes o stop.Sink words read refused quiet = absurd read
  refused-votes o (stop.Fault line kind) words read refused quiet = absurd read

  pub promise-no-polls : (o : Options) (s : Stop) → AreWords (Votes o) c.words → ReadsPolls c.input c.left c.faults_before c.faults (Err s) → RefusedAs s c.status c.sink → ((status : ℕ) → c.status ≡ status → TouchedNothing c status) → AllKept c.shelf_before c.shelf c.media → Promise c
  promise-no-polls o s words read refused quiet kept = record { done = refused-votes o s words read refused quiet; kept = kept; statuses = refused-most s refused; votes = inl (quiet c.status refl).no_votes }

  pub promise-votes : (o : Options) (polls : Vec PollLine Global) (ps : List PollLine) → ps ≡ polls.items → AreWords (Votes o) c.words → ReadsPolls c.input c.left c.faults_before c.faults (Ok polls) →
      (AskedNothing c.media_are c.shelf_before c.shelf c.media c.sink c.status × HasNoRun c.told × (c.votes ≡ no_trace)) ⊎ HavePolled c.media_are c.shelf_before c.shelf ps o c.told c.votes c.media c.sink c.status → Promise c
  promise-votes o polls ps same words read (inl h) = promise-unasked h.0 h.1 h.2
  promise-votes o polls ps same words read (inr h) = record {
    done = inr (inr (
      Votes o,
      words,
      inr (inr (
        read.1,
        of_input-with c.input (λ input. IsInput input polls.items) (λ input. (qs : List PollLine) × IsInput input qs × HavePolled c.media_are c.shelf_before c.shelf qs o c.told c.votes c.media c.sink c.status)
            (λ input is. (ps, subst (λ l. IsInput input l) (sym same) is, h)) read.0,
      )),
    ));
    kept = votes-kept c.media_are c.shelf_before c.shelf (limits_of o) ps (tellers_of c.told) c.media h.end h.over;
    statuses = voted-most h.end c.votes c.sink c.status h.written;
    votes = inr (o, words);
  }

-- polls that were read are lines of an input
pub polls-of : (left new : Option (List ℕ)) (before after : ℕ) (polls : Vec PollLine Global) → ReadsPolls left new before after (Ok polls) → Every IsPoll polls.items × (length polls.items ≤ 16)
polls-of left new before after polls read = of_input-all left (λ input. IsInput input polls.items) (Every IsPoll polls.items × (length polls.items ≤ 16)) (λ input h. (h.1.each, h.1.few)) read.0

-- a plan that was read is of the language
pub language-of : (left new : Option (List ℕ)) (before after : ℕ) (plan : Plan) → ReadsPlan left new before after (Ok plan) → CanRun plan
language-of left new before after plan read = of_input-all left (λ input. IsPlan input plan) (CanRun plan) (λ input h. plan_can_run input plan h) read.0
