use Rattle.vote_courier.proofs.Names.{◌↔◌, IsTrue, subst, AllEmpty, state_of, CourierParts}
use Rattle.vote_courier.proofs.couriers.Courier.is_empty.Goals as goal

pub returns : goal.returns
returns g c = subst (λ (p : CourierParts). IsTrue c.empty.result ↔ AllEmpty (state_of p.flight)) c.self.view_is c.empty.ensures
