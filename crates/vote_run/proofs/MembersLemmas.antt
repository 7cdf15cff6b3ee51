-- The turns of all members.
use Rattle.vote_run.proofs.Names.{is_broker, repository, same_node, NodeId, NodeKind, Repository, Broker, MemberNumber, First, Second, Third, member, number_of, Line, Member, Flags, Media, down_cause, WasNotOpened, CourierParts, Stands, hall_of, Adds, Keeps, OnlyChanges, keeps-join, keeps-wider, never-false, is_member, wants, Turns, SatOn, Sits, Members, Seat, Up, Fallen, Wanting, ◌≡◌, ℕ, Bool, true, false, List, refl, sym, ap, subst, ◌∙◌, inl, inr, Some, None, ◌||◌, not, IsTrue, AllSat, SitAll}
use Rattle.vote_run.proofs.EntryLemmas.{down-still, out-stays}
use Rattle.vote_run.proofs.PollLemmas.{ready-stays}
use Rattle.vote_run.proofs.SittingLemmas.{sat-on}

pub or-parts : (a b c : Bool) → (a || (b || c)) ≡ false → (a ≡ false) × (b ≡ false) × (c ≡ false)
or-parts false false false h = (refl, refl, refl)
or-parts true b c h = never-false h
or-parts false true c h = never-false h
or-parts false false true h = never-false h

repository-of : (i number : ℕ) (k : NodeKind) → not (is_broker k) ≡ false → same_node (repository i) (record { kind = k; number = number }) ≡ false
repository-of i number Repository f = never-false f
repository-of i number Broker f = refl

member-wider : (s : MemberNumber) (m : NodeId) → is_member m ≡ false → same_node (member s) m ≡ false
member-wider s m f = repository-of (number_of s) m.number m.kind f

module _ {M : Type 0} {g : _} (w : Media M) (lines : List Line) where
  -- a member that isn't named stays
  pub sits-stay : (of : NodeId → Bool) (c d : CourierParts) (s : MemberNumber) (seat : Seat M g) → OnlyChanges of (hall_of lines c) (hall_of lines d) → Adds of c d → of (member s) ≡ false → Sits w lines c s seat → Sits w lines d s seat
  sits-stay of c d s (Up m store durable behind) o a f sits = record {
    number = sits.number;
    sound = sits.sound;
    count = sits.count;
    at = record { ready = ready-stays of (hall_of lines c) (hall_of lines d) o (member s) behind f sits.at.ready; member = o.members s f ∙ sits.at.member };
    has = sits.has;
    left = sits.left;
    never = subst (λ z. down_cause (member s) z ≡ None) (sym a.longer) (down-still (member s) c.entries a.more (a.own_entries (member s) f) None sits.never);
  }
  sits-stay of c d s (Fallen left) o a f (inl sits) = inl (record {
    medium = sits.medium;
    is = sits.is;
    log = sits.log;
    effects = sits.effects;
    at = record {
      down = ap (λ (z : Flags). z.up) (o.flags (member s) f) ∙ sits.at.down;
      gated = ap (λ (z : Member). z.gated) (o.members s f) ∙ sits.at.gated;
      fresh = ap (λ (z : Member). z.fresh) (o.members s f) ∙ sits.at.fresh;
    };
    leaves = sits.leaves;
    cause = sits.cause;
    down_is = subst (λ z. down_cause (member s) z ≡ Some sits.cause) (sym a.longer) (down-still (member s) c.entries a.more (a.own_entries (member s) f) (Some sits.cause) sits.down_is);
    shows = sits.shows;
  })
  sits-stay of c d s (Fallen left) o a f (inr sits) =
      inr (record { down = ap (λ (z : Flags). z.up) (o.flags (member s) f) ∙ sits.down; out = subst (λ z. WasNotOpened z (member s)) (sym a.longer) (out-stays (member s) c.entries a.more sits.out) })
  sits-stay of c d s (Wanting left) o a f sits = absurd sits

  -- what one turn leaves, where memory didn't run out
  sat-parts : (c d : CourierParts) (s : MemberNumber) (seat : Seat M g) → wants seat ≡ false → SatOn w lines c d s seat → Keeps lines (same_node (member s)) c d × Sits w lines d s seat
  sat-parts c d s (Up m store durable behind) enough h = h
  sat-parts c d s (Fallen left) enough h = h
  sat-parts c d s (Wanting left) enough h = never-false enough

  module _ (told : IsTrue w.tells) (a b c d : CourierParts) (old new : Members M g) where
    pub all-sat : Stands lines a → SitAll w lines a old → Turns w (member First) a b old.first new.first → Turns w (member Second) b c old.second new.second → Turns w (member Third) c d old.third new.third → AllSat w lines a d new
    all-sat st sit one two three enough =
        let e = or-parts (wants new.first) (wants new.second) (wants new.third) enough in
        let p = sat-parts a b First new.first e.0 (sat-on w told lines First a b old.first new.first st sit.first one) in
        let second = sits-stay (same_node (member First)) a b Second old.second p.0.others p.0.adds refl sit.second in
        let third = sits-stay (same_node (member First)) a b Third old.third p.0.others p.0.adds refl sit.third in
        let q = sat-parts b c Second new.second e.1 (sat-on w told lines Second b c old.second new.second p.0.stands second two) in
        let third = sits-stay (same_node (member Second)) b c Third old.third q.0.others q.0.adds refl third in
        let r = sat-parts c d Third new.third e.2 (sat-on w told lines Third c d old.third new.third q.0.stands third three) in
        let wide : (s : MemberNumber) (x y : CourierParts) → Keeps lines (same_node (member s)) x y → Keeps lines is_member x y = (λ s x y k. keeps-wider lines (same_node (member s)) is_member x y (member-wider s) k) in
        record {
          keeps = keeps-join lines is_member a c d (keeps-join lines is_member a b c (wide First a b p.0) (wide Second b c q.0)) (wide Third c d r.0);
          sit = record {
            first = sits-stay (same_node (member Third)) c d First new.first r.0.others r.0.adds refl (sits-stay (same_node (member Second)) b c First new.first q.0.others q.0.adds refl p.1);
            second = sits-stay (same_node (member Third)) c d Second new.second r.0.others r.0.adds refl q.1;
            third = r.1;
          };
        }
