-- A log with the versions of older ones, effect by effect.
use Rattle.std.proofs.Common.{◌≡◌, ◌<◌, ◌+◌, ℕ, Bool, true, false, List, [], ◌∷◌, ◌++◌, length, get_or, map, reverse, take, refl, sym, ◌∙◌, ap, Option, Some, None, ◌&&◌, ◌||◌, if◌then◌else◌}
use Rattle.std.specs.Prelude.{cond, is_some, not}
use Rattle.std.proofs.lemmas.Bool.{false≢true, true≢false}
use Rattle.std.specs.Global.{Vec}
use Rattle.std.specs.Ordering.{is_eq, ordering_then}
use Rattle.std.specs.declared.cmp.Ordering.{Ordering}
use Rattle.std.specs.declared.cmp.Ordering.TheVariants.{Equal, Greater, Less}
use Rattle.pseudo_time.specs.TimeParts.{TimeParts, time_cmp}
unfoldable use Rattle.pseudo_time.specs.Order.{same_time}
use Rattle.value_form.specs.Objects.{object_cmp}
use Rattle.value_form.specs.declared.objects.ObjectId.{ObjectId}
use Rattle.value_form.specs.declared.values.Value.{Value}
use Rattle.effect_form.specs.declared.effects.Effect.{Effect}
use Rattle.effect_form.specs.declared.effects.Effect.TheVariants as effect
unfoldable use Rattle.object_history.specs.Objects.{same_object}
unfoldable use Rattle.object_retirement.specs.Stood.{has_start}
use Rattle.repository_core.specs.Logs.{marks}
unfoldable use Rattle.serial_law.specs.Wholes.{with_puts}
use Rattle.serial_law.specs.Wholes.{whole_log}
use Rattle.log_replay.specs.Folders.{items_of}
use Rattle.log_replay.specs.Whole.{is_new, start_cmp, whole_back, whole_in}
use Rattle.log_replay.specs.declared.wholes.Start.{Start}
use Rattle.log_replay.proofs.ItemLemmas.{take-next, turned}

-- ---- what is met

both-levels : (o p : Ordering) → is_eq (ordering_then o p) ≡ (is_eq o && is_eq p)
both-levels Less p = refl
both-levels Equal p = refl
both-levels Greater p = refl

there : (b : Bool) (r : Option (Unit {0})) → is_some (cond b (Some tt) r) ≡ (b || is_some r)
there true r = refl
there false r = refl

abbrev start_of : ObjectId → TimeParts → Start
start_of o x = record { object = o; start = x }

abbrev pub Knows : (Start → Option (Unit {0})) → List Effect → Type 0
Knows found log = (o : ObjectId) (x : TimeParts) → is_some (found (start_of o x)) ≡ has_start o x (marks log)

pub met-put : (old new : Start → Option (Unit {0})) (log : List Effect) (o : ObjectId) (x : TimeParts) (v : Value) → ((q : Start) → new q ≡ cond (is_eq (start_cmp (start_of o x) q)) (Some tt) (old q)) → Knows old log → Knows new (effect.Put o x v ∷ log)
unfolding has_start same_object same_time
met-put old new log o x v news knows a y =
    ap is_some (news (start_of a y))
    ∙ there (is_eq (ordering_then (object_cmp o a) (time_cmp x y))) (old (start_of a y))
    ∙ ap (λ b. b || is_some (old (start_of a y))) (both-levels (object_cmp o a) (time_cmp x y))
    ∙ ap (λ b. (is_eq (object_cmp o a) && is_eq (time_cmp x y)) || b) (knows a y)

-- an effect that puts nothing
pub met-same : (found : Start → Option (Unit {0})) (log : List Effect) (f : Effect) → ((o : ObjectId) (x : TimeParts) (v : Value) → f ≡ effect.Put o x v → ⊥) → Knows found log → Knows found (f ∷ log)
unfolding has_start
met-same found log (effect.Put o x v) other knows = absurd (other o x v refl)
met-same found log (effect.Stretch o x) other knows = knows
met-same found log (effect.Begin s d) other knows = knows
met-same found log (effect.Decide s d) other knows = knows
met-same found log (effect.Learn s c) other knows = knows
met-same found log (effect.Run n) other knows = knows
met-same found log (effect.Act i a t n c x) other knows = knows
met-same found log (effect.Try i s) other knows = knows
met-same found log (effect.Got k v) other knows = knows
met-same found log (effect.Acked k) other knows = knows
met-same found log (effect.End i e) other knows = knows
met-same found log (effect.Mark at) other knows = knows
met-same found log effect.Whole other knows = knows

-- nothing is met
pub met-none : (found : Start → Option (Unit {0})) → ((q : Start) → found q ≡ None) → Knows found []
unfolding has_start
met-none found none o x = ap is_some (none (start_of o x))

-- an effect that puts a version which is new just if the log lacks it
pub lacks-put : (f : Effect) (log : List Effect) (o : ObjectId) (x : TimeParts) (v : Value) (b : Bool) → f ≡ effect.Put o x v → b ≡ has_start o x (marks log) → not b ≡ is_new f log
lacks-put f log o x v b e h = ap not h ∙ ap (λ z. is_new z log) (sym e)

-- ---- versions that are lacking

new-by : (b : Bool) (f : Effect) (log : List Effect) → not b ≡ true → (if b then log else f ∷ log) ≡ f ∷ log
new-by true f log e = absurd (false≢true e)
new-by false f log e = refl

old-by : (b : Bool) (f : Effect) (log : List Effect) → not b ≡ false → (if b then log else f ∷ log) ≡ log
old-by true f log e = refl
old-by false f log e = absurd (true≢false e)

pub with-new : (met older : List Effect) (f : Effect) → is_new f (with_puts met older) ≡ true → with_puts met (f ∷ older) ≡ f ∷ with_puts met older
unfolding with_puts
with-new met older (effect.Put o x v) e = new-by (has_start o x (marks (with_puts met older))) (effect.Put o x v) (with_puts met older) e
with-new met older (effect.Stretch o x) e = absurd (false≢true e)
with-new met older (effect.Begin s d) e = absurd (false≢true e)
with-new met older (effect.Decide s d) e = absurd (false≢true e)
with-new met older (effect.Learn s c) e = absurd (false≢true e)
with-new met older (effect.Run n) e = absurd (false≢true e)
with-new met older (effect.Act i a t n c x) e = absurd (false≢true e)
with-new met older (effect.Try i s) e = absurd (false≢true e)
with-new met older (effect.Got k v) e = absurd (false≢true e)
with-new met older (effect.Acked k) e = absurd (false≢true e)
with-new met older (effect.End i y) e = absurd (false≢true e)
with-new met older (effect.Mark at) e = absurd (false≢true e)
with-new met older effect.Whole e = absurd (false≢true e)

pub with-old : (met older : List Effect) (f : Effect) → is_new f (with_puts met older) ≡ false → with_puts met (f ∷ older) ≡ with_puts met older
unfolding with_puts
with-old met older (effect.Put o x v) e = old-by (has_start o x (marks (with_puts met older))) (effect.Put o x v) (with_puts met older) e
with-old met older (effect.Stretch o x) e = refl
with-old met older (effect.Begin s d) e = refl
with-old met older (effect.Decide s d) e = refl
with-old met older (effect.Learn s c) e = refl
with-old met older (effect.Run n) e = refl
with-old met older (effect.Act i a t n c x) e = refl
with-old met older (effect.Try i s) e = refl
with-old met older (effect.Got k v) e = refl
with-old met older (effect.Acked k) e = refl
with-old met older (effect.End i y) e = refl
with-old met older (effect.Mark at) e = refl
with-old met older effect.Whole e = refl

pub with-none : (met : List Effect) → met ≡ with_puts met []
unfolding with_puts
with-none met = refl

-- ---- the logs of volumes

pub olds-next : (logs : List (Vec Effect)) (i : ℕ) (log : Vec Effect) → i < length logs → log ≡ get_or logs i log → map reverse (reverse (items_of (take (i + 1) logs))) ≡ reverse log.items ∷ map reverse (reverse (items_of (take i logs)))
olds-next logs i log low is = ap (λ l. map reverse (reverse (items_of l))) (take-next logs i log low is) ∙ ap (map reverse) (turned (take i logs) log)

-- the last one, with those before it
pub whole-last : (olds : List (Vec Effect)) (log : Vec Effect) → whole_in (items_of (olds ++ log ∷ [])) ≡ reverse (whole_log (map reverse (reverse (items_of olds))) (reverse log.items))
whole-last olds log = ap (λ l. reverse (whole_back (map reverse l))) (turned olds log)
