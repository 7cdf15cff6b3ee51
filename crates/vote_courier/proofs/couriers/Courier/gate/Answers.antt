use Rattle.std.proofs.Common.{◌≡◌, length, refl, arith}
use Rattle.vote_courier.proofs.SentLemmas.{has-sent}
use Rattle.vote_courier.proofs.couriers.Courier.gate.Goals as goal

pub returns : goal.returns
returns g c =
    let news = c.in_ok-news.ensures in
    let count : c.len-3.result ≡ length c.self.inside.sent.items = omega (arith, c.len-3.ensures) in
    has-sent c.args.node c.args.outs.items _ _ _ _ c.in_ok-news.news.items c.len-3.result c.note.result c.requires c.self.view_is c.note.ensures.ok c.in_ok-append.ensures.items news.posted count news.numbered news.asked refl refl refl refl refl news.tied
