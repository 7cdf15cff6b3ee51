-- What a fault of the medium leaves of a turn's effects.
use Rattle.std.proofs.Common.{◌≡◌, ◌+◌, ◌≤◌, ◌++◌, ◌∙◌, ℕ, List, Result, Ok, Err, IsTrue, ap, length, sym, arith}
use Rattle.std.specs.Prelude.{take}
use Rattle.std.specs.List.{count_by}
use Rattle.stream_port.specs.Causes.{Rose, rise_stays, rises_add}
use Rattle.medium_port.specs.Image.{Image}
use Rattle.pseudo_time.specs.declared.down_causes.DownCause.{DownCause}
use Rattle.pseudo_time.specs.declared.down_causes.DownCause.TheVariants as down
use Rattle.effect_form.specs.declared.effects.Effect.{Effect}
use Rattle.version_store.specs.declared.stores.Store.{Store}
use Rattle.page_gate.specs.States.{is_blank}
use Rattle.version_store.specs.Entries.{effects_of}
use Rattle.version_store.specs.Filling.{HasPrefix, filling}
use Rattle.version_store.specs.Settled.{IsSettled}
use Rattle.version_store.specs.Storage.{effects_found, log_of}
use Rattle.version_store.proofs.FillingLemmas.{filling-apart}
use Rattle.version_store.specs.StoreWords.{effects_in, medium_of}
use Rattle.run_media.specs.Media.{Media}
use Rattle.vote_members.specs.declared.closings.Closed.{Closed}
use Rattle.vote_members.specs.declared.closings.Closed.TheVariants.{Durable, Reopened, Fallen, Wanting}
use Rattle.vote_members.specs.Closings.{ClosedAs, Grows, IsFallenFor, IsLost, IsLostFor}

same-log : (a b : List Effect) → ◌≡◌ {A = Result (List Effect) ℕ} (Ok a) (Ok b) → a ≡ b
same-log a b e = cc e

no-log : (page : ℕ) (log : List Effect) → ◌≡◌ {A = Result (List Effect) ℕ} (Err page) (Ok log) → ⊥
no-log page log e = cc e

-- so many blank pages less, where these effects were added
pub log-grows : (old new : Image) (was is : Image → Type 0) → IsSettled old was → IsSettled new is → (effects : List Effect) → effects_of (log_of new) ≡ effects_of (log_of old) ++ effects
    → count_by is_blank new + length (filling effects) ≡ count_by is_blank old → Grows old new
log-grows old new was is rested rests effects added used log e = record {
  more = effects;
  is = ap effects_found rests.log ∙ ap (λ (l : List Effect). Ok l) (added ∙ ap (λ (l : List Effect). l ++ effects) (same-log (effects_of (log_of old)) log (sym (ap effects_found rested.log) ∙ e)));
  pages = let most = filling-apart effects in omega (arith, used, most);
}

module _ {M : Type 0} {g : _} (w : Media M) (s : Store M g) (effects : List Effect) (old : M)
    (images : IsTrue w.tells → (c : Image) → w.may_leave old c → HasPrefix (effects_in w.reads s) effects c)
    (rose : Rose (w.faults (medium_of s)) (w.faults old)) (later : w.faults (medium_of s) ≤ w.faults old) where
  -- why it can't go on
  fallen-for : (cause : DownCause) (new : M) → IsLostFor w cause old new → IsFallenFor w cause s effects new
  fallen-for down.Medium new lost = rises_add 1 1 (w.faults (medium_of s)) (w.faults old) (w.faults new) rose lost
  fallen-for (down.Damaged page) new lost = λ t. let x = lost t in let h = images t x.0 x.1 in no-log page (effects_in w.reads s ++ take h.kept effects) (sym x.2 ∙ h.is)
  fallen-for (down.Full pages) new lost = absurd lost

  -- whatever became of the medium
  pub closed-lost : (r : Closed M g) → IsLost w old r → ClosedAs w s effects r
  closed-lost (Durable new) lost = absurd lost
  closed-lost (Reopened new found) lost = record {
    log = lost.log;
    in_range = lost.in_range;
    kept = λ t. let x = lost.was t in let h = images t x.0 x.1 in (h.kept, h.few, same-log found.items (effects_in w.reads s ++ take h.kept effects) (sym x.2 ∙ h.is));
    count = rise_stays 1 (w.faults (medium_of s)) (w.faults old) (w.faults (medium_of new)) rose lost.later;
    later = let x = lost.later in omega (arith, later, x);
  }
  closed-lost (Fallen new cause) lost = (
    fallen-for cause new lost.1,
    record { left = λ t c there. images t c (lost.0.images t c there); later = let x = lost.0.later in omega (arith, later, x) },
  )
  closed-lost (Wanting new) lost = record { left = λ t c there. images t c (lost.images t c there); later = let x = lost.later in omega (arith, later, x) }
