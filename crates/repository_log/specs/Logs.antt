-- What a repository's log says of objects and attempts. Logs stand newest first.
use Rattle.std.specs.Prelude.{◌≡◌, ℕ, Bool, true, false, List, [], ◌∷◌, ◌++◌, reverse, Option, Some, None, ◌||◌, if◌then◌else◌}
use Rattle.std.specs.Option.{option_to_list}
use Rattle.std.specs.BTreeSet.{insert_key}
use Rattle.pseudo_time.specs.StampParts.{StampParts, stamp_cmp}
use Rattle.pseudo_time.specs.Order.{same_stamp}
use Rattle.pseudo_time.specs.declared.decisions.Decision.{Decision}
use Rattle.pseudo_time.specs.declared.decisions.Decision.TheVariants as decision
use Rattle.effect_form.specs.declared.effects.Effect.{Effect}
use Rattle.effect_form.specs.declared.effects.Effect.TheVariants.{Put, Stretch, Begin, Decide, Learn, Run, Act, Try, Got, Acked, End}
use Rattle.effect_form.specs.declared.effects.Effect.TheVariants as effect
use Rattle.commit_record.specs.declared.states.RecordState.{RecordState}
use Rattle.commit_record.specs.declared.states.RecordState.TheVariants as state
use Rattle.object_history.specs.declared.marks.Mark.{Mark}
use Rattle.object_history.specs.declared.marks.Mark.TheVariants as mark
use Rattle.object_history.specs.History.{or_else, settle_of}

-- every decision but Committed is an abort
abbrev pub is_commit : Decision → Bool
is_commit decision.Committed = true
is_commit decision.Withdrawn = false
is_commit (decision.Expired deadline moment) = false

-- what was learned, as a decision
abbrev pub as_decision : Bool → Decision
as_decision true = decision.Committed
as_decision false = decision.Withdrawn

-- ---- what one effect says

-- what it adds to the histories: a Put, a Stretch, a Settle for a Decide and for a Learn, and a Floor for a Mark
abbrev pub mark_of : Effect → Option Mark
mark_of (Put o x v) = Some (mark.Put o x v)
mark_of (Stretch o x) = Some (mark.Stretch o x)
mark_of (Decide s d) = Some (mark.Settle s (is_commit d))
mark_of (Learn s c) = Some (mark.Settle s c)
mark_of (Begin s d) = None
mark_of (Run n) = None
mark_of (Act i h t n c b) = None
mark_of (Try i s) = None
mark_of (Got k v) = None
mark_of (Acked k) = None
mark_of (End i e) = None
mark_of (effect.Mark at) = Some (mark.Floor at)
mark_of effect.Whole = None

-- the attempt whose record it begins, with the deadline
abbrev pub begun_by : Effect → Option (StampParts × ℕ)
begun_by (Begin s d) = Some (s, d)
begun_by (Put o x v) = None
begun_by (Stretch o x) = None
begun_by (Decide s d) = None
begun_by (Learn s c) = None
begun_by (Run n) = None
begun_by (Act i h t n c b) = None
begun_by (Try i s) = None
begun_by (Got k v) = None
begun_by (Acked k) = None
begun_by (End i e) = None
begun_by (effect.Mark at) = None
begun_by effect.Whole = None

-- the attempt that it decides, with the decision
abbrev pub decided_by : Effect → Option (StampParts × Decision)
decided_by (Decide s d) = Some (s, d)
decided_by (Learn s c) = Some (s, as_decision c)
decided_by (Begin s d) = None
decided_by (Put o x v) = None
decided_by (Stretch o x) = None
decided_by (Run n) = None
decided_by (Act i h t n c b) = None
decided_by (Try i s) = None
decided_by (Got k v) = None
decided_by (Acked k) = None
decided_by (End i e) = None
decided_by (effect.Mark at) = None
decided_by effect.Whole = None

-- ---- histories

-- the marks of the log
abbrev pub marks : List Effect → List Mark
marks [] = []
marks (f ∷ l) = option_to_list (mark_of f) ++ marks l

-- the histories have the marks of the log, which stands oldest first
abbrev pub HasMarks : List Mark → List Effect → Type 0
HasMarks content log = content ≡ marks (reverse log)

-- how the attempt was decided, if it is known: the first Decide or Learn counts
abbrev pub known : List Effect → StampParts → Option Bool
known l s = settle_of (marks l) s

-- what is said here is said of the attempt
abbrev pub is_for : {X : Type 0} → StampParts → Option (StampParts × X) → Bool
is_for s None = false
is_for s (Some e) = same_stamp e.0 s

-- a Decide or Learn of the attempt stands in the log, in whatever order that stands
unfoldable pub knows : List Effect → StampParts → Bool
knows [] s = false
knows (f ∷ l) s = is_for s (decided_by f) || knows l s

-- ---- commit records

-- what is said of the attempt s, where one effect more says this of some attempt: what was said first counts
abbrev pub first_said : {X : Type 0} → Option (StampParts × X) → Option X → StampParts → Option X
first_said None before s = before
first_said (Some e) before s = if same_stamp e.0 s then or_else before e.1 else before

-- the deadline of the attempt's first Begin
unfoldable pub first_begin : List Effect → StampParts → Option ℕ
first_begin [] s = None
first_begin (f ∷ l) s = first_said (begun_by f) (first_begin l s) s

-- the decision of the attempt: its first Decide or Learn counts
unfoldable pub decision_of : List Effect → StampParts → Option Decision
decision_of [] s = None
decision_of (f ∷ l) s = first_said (decided_by f) (decision_of l s) s

abbrev pub record_from : Option ℕ → Option Decision → Option RecordState
record_from None d = None
record_from (Some t) None = Some (state.Unknown t)
record_from (Some t) (Some d) = Some (state.Decided d)

-- the commit record of the attempt: none without a Begin; decided where its decision stands; else unknown until its deadline
abbrev pub record_of : List Effect → StampParts → Option RecordState
record_of l s = record_from (first_begin l s) (decision_of l s)

abbrev pub with_begun : Option (StampParts × ℕ) → List StampParts → List StampParts
with_begun None all = all
with_begun (Some e) all = insert_key stamp_cmp all e.0

-- the attempts that have begun, in the order of their stamps
abbrev pub begun : List Effect → List StampParts
begun [] = []
begun (f ∷ l) = with_begun (begun_by f) (begun l)

-- every commit record stays as it was
abbrev pub HasSameRecords : List Effect → List Effect → Type 0
HasSameRecords old new = (s : StampParts) → record_of new s ≡ record_of old s

-- the attempt's record is unknown
abbrev pub IsUnknown : List Effect → StampParts → Type 0
IsUnknown l s = (t : ℕ) × (record_of l s ≡ Some (state.Unknown t))

-- the log after a Begin: it is added where there is no record
abbrev pub began_by : Option RecordState → List Effect → StampParts → ℕ → List Effect
began_by None l s d = Begin s d ∷ l
began_by (Some r) l s d = l

abbrev pub began : List Effect → StampParts → ℕ → List Effect
began l s d = began_by (record_of l s) l s d
