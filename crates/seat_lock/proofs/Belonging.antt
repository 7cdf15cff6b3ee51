-- A pass still belongs to its lock where its place, its slots, its stage, its owners and its base are as they were.
use Rattle.seat_lock.proofs.Names.{◌≡◌, length, ap, ◌∙◌, TableId, Seat, View, Belongs}

module _ {T E : Type 0} where
  pub still_pass : (z : TableId) (base : T) (p q : Seat T (View T E)) → Belongs z base p → q.table_id ≡ p.table_id → q.me.1 ≡ p.me.1 → q.me.0.stage ≡ p.me.0.stage → q.me.0.parts ≡ p.me.0.parts → q.me.0.base ≡ p.me.0.base → Belongs z base q
  still_pass z base p q h here empty stage parts based = record { here = here ∙ h.here; idle = stage ∙ h.idle; empty = empty ∙ h.empty; owned = ap length parts ∙ h.owned; based = (h.based.0, based ∙ h.based.1, h.based.2) }
