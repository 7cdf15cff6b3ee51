use Rattle.wire_lock.proofs.Names.{knows, CarriesOn, owner_of, subst}
use Rattle.wire_lock.proofs.SightLemmas.{story-of, looked-of, owns-left}
use Rattle.wire_lock.proofs.shared.SharedWire.meet.Goals as goal

pub returns-clause-one : goal.returns-clause-one
returns-clause-one g c =
    looked-of _ _ _ c.requires.pass.0.own c.meet.ensures.one (subst (CarriesOn owner_of (knows c.args.one.now)) (story-of c.meet.ensures.one) c.meet.ensures.carries.0)

pub returns-clause-other : goal.returns-clause-other
returns-clause-other g c =
    looked-of _ _ _ c.requires.pass.1.own c.meet.ensures.other c.meet.ensures.carries.1

pub returns-clause-story : goal.returns-clause-story
returns-clause-story g c =
    story-of c.meet.ensures.one

pub returns-clause-same : goal.returns-clause-same
returns-clause-same g c =
    story-of c.meet.ensures.other

pub returns-clause-pass : goal.returns-clause-pass
returns-clause-pass g c = (
  record { of_lock = c.meet.ensures.pass.0; own = owns-left (knows c.args.one.now) (knows c.meet.new.one) _ c.meet.ensures.one (subst (CarriesOn owner_of (knows c.args.one.now)) (story-of c.meet.ensures.one) c.meet.ensures.carries.0) },
  record { of_lock = c.meet.ensures.pass.1; own = owns-left (knows c.args.other.now) (knows c.meet.new.other) _ c.meet.ensures.other c.meet.ensures.carries.1 },
)
