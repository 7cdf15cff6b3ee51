use Rattle.medium_port.proofs.Names.{ℕ, List, refl, sym, ◌∙◌, ap, ◌++◌, [], ◌∷◌, length, subst, arith, when_true, when_false, Snapshot, Image, put_bytes, Event, Wrote, Disk, replay, Span, SpansFit, spans_of, happened, MayLeave, first_disk, events_in}
use Rattle.medium_port.proofs.Disks.{fit_more, fit_push, torn_self, write_crash, sound_write, now_push, left_push, sound_push, spans-push, goes_push, goes_still}
use Rattle.medium_port.proofs.pasts.Past.write.Goals as goal

pub returns-then-not-hold-clause-crash : goal.returns-then-not-hold-clause-crash
returns-then-not-hold-clause-crash c i left = (i, left, torn_self c.args.page c.args.at (length c.args.bytes.now) i)

pub returns-then-not-keep_write-clause-crash : goal.returns-then-not-keep_write-clause-crash
returns-then-not-keep_write-clause-crash c i left =
    let m = c.args.self.now in
    let same = when_false _ _ c.if-not-keep_write.true c.keep_write.ensures.events in
    (i, subst (λ (l : List (Snapshot Event)). MayLeave m.count (replay (first_disk m) (happened l)) i) same left, torn_self c.args.page c.args.at (length c.args.bytes.now) i)

pub returns-clause-crash : goal.returns-clause-crash
returns-clause-crash c i left =
    let m = c.args.self.now in
    let first = first_disk m in
    let es = events_in m in
    let kept = when_true _ _ c.if-not-keep_write.false c.keep_write.ensures.events in
    let bytes = c.args.bytes.now in
    let event = Wrote c.args.page c.args.at bytes in
    write_crash m.count (replay first es) c.args.page c.args.at bytes i m.sound c.requires.page c.requires.range (left_push m.count first es _ event kept i left)

pub returns-clause-time : goal.returns-clause-time
returns-clause-time c =
    let m = c.args.self.now in
    let first = first_disk m in
    let es = events_in m in
    let kept = when_true _ _ c.if-not-keep_write.false c.keep_write.ensures.events in
    let bytes = c.args.bytes.now in
    let event = Wrote c.args.page c.args.at bytes in
    goes_push m.count first es _ event kept

pub returns-clause-done : goal.returns-clause-done
returns-clause-done c =
    let m = c.args.self.now in
    let first = first_disk m in
    let es = events_in m in
    let kept = when_true _ _ c.if-not-keep_write.false c.keep_write.ensures.events in
    let bytes = c.args.bytes.now in
    let event = Wrote c.args.page c.args.at bytes in
    record {
      reads = c.put.ensures.items ∙ ap (λ (i : Image). put_bytes c.args.page c.args.at bytes i) c.hold.ensures.same;
      unsynced = ap (λ (l : List Event). spans_of l) (when_true _ _ c.if-not-keep_write.false c.keep_write.ensures.unsynced) ∙ spans-push m.unsynced.items event;
    }

pub invariant_of-self-2-clause-replayed : goal.invariant_of-self-2-clause-replayed
invariant_of-self-2-clause-replayed c =
    let m = c.args.self.now in
    let first = first_disk m in
    let es = events_in m in
    let kept = when_true _ _ c.if-not-keep_write.false c.keep_write.ensures.events in
    let bytes = c.args.bytes.now in
    let event = Wrote c.args.page c.args.at bytes in
    c.put.ensures.items
    ∙ ap (λ (i : Image). put_bytes c.args.page c.args.at bytes i) c.hold.ensures.same
    ∙ ap (λ (i : Image). put_bytes c.args.page c.args.at bytes i) m.replayed
    ∙ sym (ap (λ (d : Disk). d.reads) (now_push m.count first es _ event kept))

pub invariant_of-self-2-clause-sound : goal.invariant_of-self-2-clause-sound
invariant_of-self-2-clause-sound c =
    let m = c.args.self.now in
    let first = first_disk m in
    let es = events_in m in
    let kept = when_true _ _ c.if-not-keep_write.false c.keep_write.ensures.events in
    let bytes = c.args.bytes.now in
    let event = Wrote c.args.page c.args.at bytes in
    sound_push m.count first es _ event kept
    (sound_write m.count (replay first es) c.args.page c.args.at bytes m.sound (record { page = c.requires.page; range = c.requires.range; bytes = λ k. omega (arith, c.type_inv.bytes k) }))

pub invariant_of-self-2-clause-tied : goal.invariant_of-self-2-clause-tied
invariant_of-self-2-clause-tied c =
    let m = c.args.self.now in
    let first = first_disk m in
    let es = events_in m in
    let kept = when_true _ _ c.if-not-keep_write.false c.keep_write.ensures.events in
    let bytes = c.args.bytes.now in
    let event = Wrote c.args.page c.args.at bytes in
    let span : Span = record { page = c.args.page; at = c.args.at; bytes = bytes } in
    ap (λ (l : List Event). spans_of l) (when_true _ _ c.if-not-keep_write.false c.keep_write.ensures.unsynced)
    ∙ spans-push m.unsynced.items event
    ∙ ap (λ (l : List Span). l ++ span ∷ []) m.tied
    ∙ sym (ap (λ (d : Disk). d.unsynced) (now_push m.count first es _ event kept))

pub invariant_of-self-2-clause-fit : goal.invariant_of-self-2-clause-fit
invariant_of-self-2-clause-fit c =
    let m = c.args.self.now in
    let bytes = c.args.bytes.now in
    let span : Span = record { page = c.args.page; at = c.args.at; bytes = bytes } in
    let held = c.hold.ensures.held c.if-not-hold.false in
    let more = c.hold.ensures.more in
    let is = ap (λ (l : List Event). spans_of l) (when_true _ _ c.if-not-keep_write.false c.keep_write.ensures.unsynced) ∙ spans-push m.unsynced.items (Wrote c.args.page c.args.at bytes) in
    subst (λ (n : ℕ). SpansFit n (spans_of c.keep_write.new.unsynced.items)) (sym c.put.ensures.front)
    (subst (λ (l : List Span). SpansFit c.hold.new.self.front l) (sym is)
    (fit_push c.hold.new.self.front (spans_of m.unsynced.items) span (fit_more m.held.front c.hold.new.self.front (spans_of m.unsynced.items) more m.fit) (record { page = held; range = c.requires.range; bytes = λ k. omega (arith, c.type_inv.bytes k) })))

pub returns-then-not-hold-clause-time : goal.returns-then-not-hold-clause-time
returns-then-not-hold-clause-time c =
    let m = c.args.self.now in
    goes_still m.count (first_disk m) (events_in m) _ refl

pub returns-then-not-keep_write-clause-time : goal.returns-then-not-keep_write-clause-time
returns-then-not-keep_write-clause-time c =
    let m = c.args.self.now in
    let same = when_false _ _ c.if-not-keep_write.true c.keep_write.ensures.events in
    goes_still m.count (first_disk m) (events_in m) _ (ap (λ (l : List (Snapshot Event)). happened l) same)
