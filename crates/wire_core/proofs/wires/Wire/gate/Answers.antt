use Rattle.std.proofs.Common.{◌≡◌, length, arith}
use Rattle.wire_core.proofs.GateLemmas.{gate-more, room-for, numbered-for}
use Rattle.wire_core.proofs.wires.Wire.gate.Goals as goal

pub invariant_of-self-in-Ok : goal.invariant_of-self-in-Ok
invariant_of-self-in-Ok g c =
    let w = c.self.inside in
    gate-more _ _ _ _ w.sent.items _ _ _ _ c.self.invariant c.if-self.false c.args.node c.args.outs.items c.in_ok-news.news.items _ _ _ c.in-Ok.ensures.ok (rw (← c.self.view_is) at c.requires.up) (rw (← c.self.view_is) at c.requires.due) c.requires.in_range (rw (← c.self.view_is) at c.requires.owed) c.in_ok-news.ensures.posted c.in_ok-append.ensures.items
    (room-for c.args.node c.args.outs.items c.in_ok-news.news.items w.sent.items c.len.result c.in_ok-news.ensures.posted (let e : c.len.result ≡ length w.sent.items = omega (arith, c.len.ensures) in e)
    (let room = c.if-len.false in let count : c.len-2.result ≡ length c.args.outs.items = omega (arith, c.len-2.ensures) in omega (arith, room, count)))
    (numbered-for w.sent.items c.in_ok-news.news.items c.len-3.result (let e : c.len-3.result ≡ length w.sent.items = omega (arith, c.len-3.ensures) in e) c.in_ok-news.ensures.numbered)
    c.in_ok-news.ensures.asked c.in_ok-news.ensures.tied
