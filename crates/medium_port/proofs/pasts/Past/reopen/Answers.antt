use Rattle.medium_port.proofs.Names.{List, sym, ◌∙◌, ap, ℕ, subst, when_true, when_false, Image, Snapshot, Event, Reopened, Disk, replay, happened, Span, Among, SpansFit, spans_of, after_stop, MayLeave, first_disk, events_in}
use Rattle.medium_port.proofs.Disks.{sound_reopen, reopen_crash, now_push, left_push, sound_push, goes_push, goes_still}
use Rattle.medium_port.proofs.pasts.Past.reopen.Goals as goal

pub tear_after-requires : goal.tear_after-requires
tear_after-requires c x among =
    c.args.self.now.fit x (subst (λ (l : List Span). Among l x) (ap (λ (l : List Event). spans_of l) c.as_slice.ensures.value) among)

pub invariant_of-self-2-clause-replayed : goal.invariant_of-self-2-clause-replayed
invariant_of-self-2-clause-replayed c =
    let m = c.args.self.now in
    let first = first_disk m in
    let es = events_in m in
    let kept = when_true _ _ c.if-not-keep.false c.keep.ensures in
    let event = Reopened c.args.stop in
    c.tear_after.ensures.torn ∙ ap (λ (l : List Span). after_stop c.args.stop l m.held.items) (ap (λ (l : List Event). spans_of l) c.as_slice.ensures.value ∙ m.tied) ∙ ap (λ (i : Image). after_stop c.args.stop (replay first es).unsynced i) m.replayed
    ∙ sym (ap (λ (d : Disk). d.reads) (now_push m.count first es _ event kept))

pub invariant_of-self-2-clause-sound : goal.invariant_of-self-2-clause-sound
invariant_of-self-2-clause-sound c =
    let m = c.args.self.now in
    let first = first_disk m in
    let es = events_in m in
    let kept = when_true _ _ c.if-not-keep.false c.keep.ensures in
    let event = Reopened c.args.stop in
    sound_push m.count first es _ event kept (sound_reopen m.count (replay first es) c.args.stop c.tear_after.ensures.fill m.sound)

pub invariant_of-self-2-clause-tied : goal.invariant_of-self-2-clause-tied
invariant_of-self-2-clause-tied c =
    let m = c.args.self.now in
    let first = first_disk m in
    let es = events_in m in
    let kept = when_true _ _ c.if-not-keep.false c.keep.ensures in
    let event = Reopened c.args.stop in
    m.tied ∙ sym (ap (λ (d : Disk). d.unsynced) (now_push m.count first es _ event kept))

pub returns-clause-crash : goal.returns-clause-crash
returns-clause-crash c i left =
    let m = c.args.self.now in
    let first = first_disk m in
    let es = events_in m in
    let kept = when_true _ _ c.if-not-keep.false c.keep.ensures in
    let event = Reopened c.args.stop in
    reopen_crash m.count (replay first es) c.args.stop i (left_push m.count first es _ event kept i left)

pub returns-clause-time : goal.returns-clause-time
returns-clause-time c =
    let m = c.args.self.now in
    let first = first_disk m in
    let es = events_in m in
    let kept = when_true _ _ c.if-not-keep.false c.keep.ensures in
    let event = Reopened c.args.stop in
    goes_push m.count first es _ event kept

pub returns-clause-one : goal.returns-clause-one
returns-clause-one c done =
    let m = c.args.self.now in
    let first = first_disk m in
    let es = events_in m in
    let kept = when_true _ _ c.if-not-keep.false c.keep.ensures in
    let is = c.tear_after.ensures.torn ∙ ap (λ (l : List Span). after_stop c.args.stop l m.held.items) (ap (λ (l : List Event). spans_of l) c.as_slice.ensures.value ∙ m.tied) ∙ ap (λ (i : Image). after_stop c.args.stop (replay first es).unsynced i) m.replayed in
    let sound = sound_reopen m.count (replay first es) c.args.stop c.tear_after.ensures.fill m.sound in
    subst (λ (i : Image). MayLeave m.count (replay first es) i) (sym is) (record { shape = sound.reads; kept = sound.kept })

pub invariant_of-self-2-clause-fit : goal.invariant_of-self-2-clause-fit
invariant_of-self-2-clause-fit c = subst (λ (n : ℕ). SpansFit n (spans_of c.args.self.now.unsynced.items)) (sym c.tear_after.ensures.front) c.args.self.now.fit

pub returns-then-not-keep-clause-time : goal.returns-then-not-keep-clause-time
returns-then-not-keep-clause-time c =
    let m = c.args.self.now in
    let same = when_false _ _ c.if-not-keep.true c.keep.ensures in
    goes_still m.count (first_disk m) (events_in m) _ (ap (λ (l : List (Snapshot Event)). happened l) same)
