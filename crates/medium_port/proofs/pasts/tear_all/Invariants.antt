use Rattle.medium_port.proofs.Names.{◌≡◌, drop, spans_of, damaged, SpansFit}
use Rattle.medium_port.proofs.pasts.tear_all.Given as goal

abbrev pub invariant-loop-event : goal.invariant-loop-event
invariant-loop-event l = record {
  front : l.pages.front ≡ l.initial.pages.front;
  fit : SpansFit l.pages.front (spans_of (drop l.event-index l.events));
  left : damaged l.stop (spans_of (drop l.event-index l.events)) l.pages.items ≡ damaged l.stop (spans_of l.events) l.initial.pages.items;
}
