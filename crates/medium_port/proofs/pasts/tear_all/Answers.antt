use Rattle.medium_port.proofs.Names.{[], ◌∷◌, ◌+◌, ℕ, List, drop, get_or, sym, ◌∙◌, ap, subst, Image, Event, Span, Among, SpanFits, spans_of, damaged}
use Rattle.medium_port.proofs.Disks.{spans_step, among_left, among_right, damaged-append}
use Rattle.medium_port.proofs.pasts.tear_all.Goals as goal

pub tear_event-requires : goal.tear_event-requires
tear_event-requires c x among =
    let events = c.args.events.now in
    let i = c.loop-event.event-index in
    let here = subst (λ (e : Event). Among (spans_of (e ∷ [])) x) c.event-item.is among in
    c.loop-event.invariant.fit x (subst (λ (l : List Span). Among l x) (sym (spans_step events i c.event-item.result c.loop-event-test.true)) (among_left (spans_of (get_or events i c.event-item.result ∷ [])) (spans_of (drop (i + 1) events)) x here))

pub loop-event-preserved : goal.loop-event-preserved
loop-event-preserved c =
    let events = c.args.events.now in
    let i = c.loop-event.event-index in
    let d = c.event-item.result in
    let old = c.loop-event.pages.items in
    let first = spans_of (get_or events i d ∷ []) in
    let rest = spans_of (drop (i + 1) events) in
    let step = spans_step events i d c.loop-event-test.true in
    record {
      fit = λ x among. subst (λ (n : ℕ). SpanFits n x) (sym c.tear_event.ensures.front) (c.loop-event.invariant.fit x (subst (λ (l : List Span). Among l x) (sym step) (among_right first rest x among)));
      front = c.tear_event.ensures.front ∙ c.loop-event.invariant.front;
      left =
          ap (λ (image : Image). damaged c.args.stop rest image) (c.tear_event.ensures.torn ∙ ap (λ (e : Event). damaged c.args.stop (spans_of (e ∷ [])) old) c.event-item.is)
          ∙ sym (damaged-append c.args.stop first rest old)
          ∙ ap (λ (l : List Span). damaged c.args.stop l old) (sym step)
          ∙ c.loop-event.invariant.left;
    }
