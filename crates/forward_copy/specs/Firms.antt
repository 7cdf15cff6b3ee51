-- How the code keeps, of each object, the committed version with the greatest start below a mark. Logs stand newest first.
use Rattle.std.specs.Prelude.{◌≡◌, ℕ, ◌==◌, Bool, true, false, List, [], ◌∷◌, length, Option, Some, None, ◌&&◌, ◌||◌, not, if◌then◌else◌}
use Rattle.std.specs.FinMap as finite
use Rattle.pseudo_time.specs.StampParts.{StampParts}
use Rattle.pseudo_time.specs.TimeParts.{TimeParts}
use Rattle.pseudo_time.specs.Order.{lt}
use Rattle.value_form.specs.declared.objects.ObjectId.{ObjectId}
use Rattle.value_form.specs.Objects.{object_cmp}
use Rattle.effect_form.specs.declared.effects.Effect.{Effect}
use Rattle.effect_form.specs.declared.effects.Effect.TheVariants.{Put, Stretch, Begin, Decide, Learn, Run, Act, Try, Got, Acked, End, Mark, Whole}
use Rattle.object_history.specs.Objects.{same_object}
use Rattle.object_history.specs.History.{is_committed}
use Rattle.forward_copy.specs.declared.versions.Version.{Version}
use Rattle.forward_copy.specs.declared.firms.Firm.{Firm}
use Rattle.forward_copy.specs.Opens.{put_below}

-- of each object the start of that version, and how many effects stand below it
abbrev pub FirmMap : Type 0
FirmMap = finite.FinMap object_cmp Firm

-- it starts above
abbrev pub starts_over : Option Firm → TimeParts → Bool
starts_over None x = false
starts_over (Some p) x = lt x p.start

-- the one, unless the other starts above it
abbrev pub last_of : Firm → Option Firm → Option Firm
last_of p r = if starts_over r p.start then r else Some p

-- that of the object, with this version, if it is one, above so many effects
abbrev pub with_put : (StampParts → Option Bool) → Option Version → ℕ → ObjectId → Option Firm → Option Firm
with_put settled None n o firm = firm
with_put settled (Some v) n o firm =
    if same_object v.object o && is_committed (settled v.start.stamp) then last_of (record { start = v.start; index = n }) firm else firm

abbrev pub firm_of : (StampParts → Option Bool) → TimeParts → List Effect → ObjectId → Option Firm
firm_of settled at [] o = None
firm_of settled at (f ∷ l) o = with_put settled (put_below at f) (length l) o (firm_of settled at l o)

-- the map has them
abbrev pub AreFirm : (StampParts → Option Bool) → TimeParts → List Effect → FirmMap → Type 0
AreFirm settled at l firms = (o : ObjectId) → finite.get firms o ≡ firm_of settled at l o

abbrev pub is_index : Option Firm → ℕ → Bool
is_index None n = false
is_index (Some p) n = p.index == n

-- an effect stays, above so many
abbrev pub stays_above : FirmMap → TimeParts → ℕ → Effect → Bool
stays_above firms at n (Put o x v) = not (lt x at) || is_index (finite.get firms o) n
stays_above firms at n (Stretch o x) = lt at x
stays_above firms at n (Mark x) = false
stays_above firms at n Whole = false
stays_above firms at n (Begin s d) = true
stays_above firms at n (Decide s d) = true
stays_above firms at n (Learn s c) = true
stays_above firms at n (Run m) = true
stays_above firms at n (Act i h t m c b) = true
stays_above firms at n (Try i s) = true
stays_above firms at n (Got k v) = true
stays_above firms at n (Acked k) = true
stays_above firms at n (End i e) = true
