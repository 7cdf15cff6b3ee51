-- Passes that have seen nothing, and the Downs of nodes that can't be opened.
use Rattle.run_starts.proofs.Names.{◌≡◌, Bool, true, false, List, [], ◌∷◌, ◌++◌, Option, Some, is_some, Result, Ok, Err, is_err, OnOk, ap, sym, ◌∙◌, subst, fresh, knows, NodeId, Effect, opened_log, walk_from, WireParts, owner_for, Sight, HadNothing, Falls, flags_at, Opening, Shut, log_in, IsUnseen, HasFallen, downs_of}
use Rattle.std.specs.Option.{unwrap_or}
use Rattle.atomic_table.specs.declared.shared.Seat.{Seat}
use Rattle.seat_lock.specs.declared.views.View.{View}
use Rattle.pseudo_time.specs.declared.down_causes.DownCause.{DownCause}
use Rattle.world_core.specs.declared.entries.Entry.{Entry}
use Rattle.world_core.specs.declared.entries.Entry.TheVariants.{Down}

pub not-err : {T E : Type 0} (r : Result T E) (P : Type 0) → is_err r ≡ false → OnOk r P → P
not-err (Ok v) P e h = h
not-err (Err x) P e h = absurd cc

fresh-up : (w : WireParts) (n : NodeId) (log : List Effect) → opened_log w.origin.opened n ≡ Some log → (flags_at (fresh w (owner_for n)) n).up ≡ true
unfolding walk_from
fresh-up w n log e = ap is_some e

module _ {M : Type 0} {g : _} (w : WireParts) (n : NodeId) (o : Opening M g) (pass : Seat WireParts (View WireParts Entry)) (u : IsUnseen w n o pass) where
  pub unseen-up : (flags_at (knows pass) n).up ≡ true
  unseen-up = subst (λ (k : Sight). (flags_at k n).up ≡ true) (sym u.unseen) (fresh-up w n _ u.opened)

  pub unseen-owner : (knows pass).owner ≡ owner_for n
  unseen-owner = ap (λ (k : Sight). k.owner) u.unseen

  -- a node that can't be opened has no log
  pub shut-nothing : (medium : Option M) (cause : DownCause) → o ≡ Shut medium cause → HadNothing n (knows pass)
  shut-nothing medium cause is = subst (HadNothing n) (sym u.unseen) (λ m. ap (λ l. unwrap_or l []) u.opened ∙ ap log_in is)

  -- it fell
  pub shut-fallen : (medium : Option M) (cause : DownCause) (told : Bool) (new : Seat WireParts (View WireParts Entry)) → o ≡ Shut medium cause → Falls told n (knows pass) (knows new) cause → HasFallen w n o new
  shut-fallen medium cause told new is v =
      let k = v.added.kept in
      record {
        base = ap (λ (s : Sight). s.base) k ∙ ap (λ (s : Sight). s.base) u.unseen;
        owner = ap (λ (s : Sight). s.owner) k ∙ unseen-owner;
        own = ap (λ (s : Sight). s.own) k ∙ (ap (λ (s : Sight). s.own ++ Down n cause ∷ []) u.unseen ∙ sym (ap (downs_of n) is));
      }

  -- one that was opened has no entry
  pub open-stays : downs_of n o ≡ [] → HasFallen w n o pass
  open-stays none = record { base = ap (λ (s : Sight). s.base) u.unseen; owner = unseen-owner; own = ap (λ (s : Sight). s.own) u.unseen ∙ sym none }
