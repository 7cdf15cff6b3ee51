use Rattle.medium_port.proofs.Names.{List, sym, ◌∙◌, ap, when_true, when_false, Snapshot, Event, Synced, Disk, replay, happened, spans_of, first_disk, events_in}
use Rattle.medium_port.proofs.Disks.{sync_only, sync_crash, sound_sync, now_push, left_push, sound_push, goes_push, goes_still}
use Rattle.medium_port.proofs.pasts.Past.sync.Goals as goal

pub returns-clause-durable : goal.returns-clause-durable
returns-clause-durable c done i left =
    let m = c.args.self.now in
    let first = first_disk m in
    let es = events_in m in
    let kept = when_true _ _ c.if-not-keep.false c.keep.ensures in
    sync_only m.count (replay first es) i m.sound (left_push m.count first es _ Synced kept i left) ∙ sym m.replayed

pub returns-clause-crash : goal.returns-clause-crash
returns-clause-crash c i left =
    let m = c.args.self.now in
    let first = first_disk m in
    let es = events_in m in
    let kept = when_true _ _ c.if-not-keep.false c.keep.ensures in
    sync_crash m.count (replay first es) i m.sound (left_push m.count first es _ Synced kept i left)

pub returns-clause-time : goal.returns-clause-time
returns-clause-time c =
    let m = c.args.self.now in
    let first = first_disk m in
    let es = events_in m in
    let kept = when_true _ _ c.if-not-keep.false c.keep.ensures in
    goes_push m.count first es _ Synced kept

pub invariant_of-self-2-clause-replayed : goal.invariant_of-self-2-clause-replayed
invariant_of-self-2-clause-replayed c =
    let m = c.args.self.now in
    let first = first_disk m in
    let es = events_in m in
    let kept = when_true _ _ c.if-not-keep.false c.keep.ensures in
    m.replayed ∙ sym (ap (λ (d : Disk). d.reads) (now_push m.count first es _ Synced kept))

pub invariant_of-self-2-clause-sound : goal.invariant_of-self-2-clause-sound
invariant_of-self-2-clause-sound c =
    let m = c.args.self.now in
    let first = first_disk m in
    let es = events_in m in
    let kept = when_true _ _ c.if-not-keep.false c.keep.ensures in
    sound_push m.count first es _ Synced kept (sound_sync m.count (replay first es) m.sound)

pub invariant_of-self-2-clause-tied : goal.invariant_of-self-2-clause-tied
invariant_of-self-2-clause-tied c =
    let m = c.args.self.now in
    let first = first_disk m in
    let es = events_in m in
    let kept = when_true _ _ c.if-not-keep.false c.keep.ensures in
    ap (λ (l : List Event). spans_of l) c.clear.ensures.items ∙ sym (ap (λ (d : Disk). d.unsynced) (now_push m.count first es _ Synced kept))

pub returns-then-not-keep-clause-time : goal.returns-then-not-keep-clause-time
returns-then-not-keep-clause-time c =
    let m = c.args.self.now in
    let same = when_false _ _ c.if-not-keep.true c.keep.ensures in
    goes_still m.count (first_disk m) (events_in m) _ (ap (λ (l : List (Snapshot Event)). happened l) same)
