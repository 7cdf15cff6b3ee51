use Rattle.node_rounds.proofs.Names.{◌≡◌, vec_len, vec_capacity, AllZip}
use Rattle.node_rounds.proofs.turns.share_often.Given as goal

abbrev pub invariant-loop : goal.invariant-loop
invariant-loop g l = record {
  does : AllZip (g.S.Turns.does l.shared) l.fn.nodes.items l.nodes.items;
  room : (vec_len l.nodes ≡ vec_len l.fn.nodes) × (vec_capacity l.nodes ≡ vec_capacity l.fn.nodes);
}
