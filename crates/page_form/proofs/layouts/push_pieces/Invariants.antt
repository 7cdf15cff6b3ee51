use Rattle.page_form.proofs.Names.{◌≡◌, ◌+◌, ◌-◌, ◌++◌, length, All, ◌*◌, ◌/◌, IsBody, bytes_of, piece_bodies}
use Rattle.page_form.proofs.layouts.push_pieces.Given as goal

abbrev pub invariant-loop : goal.invariant-loop
invariant-loop l = record {
  left : length l.rest + 4091 * l.counter ≡ length l.text;
  count : length l.bodies.items ≡ length l.fn.bodies.items + l.counter;
  bodies : All IsBody l.bodies.items;
  goes : bytes_of l.bodies.items ++ piece_bodies l.mark ((length l.text - 1) / 4091 - l.counter) l.rest ≡ bytes_of l.fn.bodies.items ++ piece_bodies 1 ((length l.text - 1) / 4091) l.text;
}
