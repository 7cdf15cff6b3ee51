-- Each part of the page has the frame's tags alone.
use Rattle.folder_look.proofs.Names.{flat_map, TimeParts, ObjectId, Value, Effect, MediumLook, ended_text, column, ◌≡◌, ℕ, Bool, true, false, List, [], ◌∷◌, ◌++◌, codes, reverse, length, refl, ap, sym, append-nil, ◌∙◌, Option, Some, None, not, ◌==◌, ◌||◌, nat_le, if◌then◌else◌, object_text, time_text, kind_text, refusal_text, kind_word}
use Rattle.std.specs.Fmt.{decimal}
use Rattle.pseudo_time.specs.StampParts.{StampParts}
use Rattle.pseudo_time.specs.declared.nodes.NodeKind.{NodeKind}
use Rattle.pseudo_time.specs.declared.nodes.NodeKind.TheVariants.{Repository, Broker}
use Rattle.value_form.specs.declared.fail_kinds.FailKind.{FailKind}
use Rattle.value_form.specs.declared.fail_kinds.FailKind.TheVariants as kind
use Rattle.effect_form.specs.declared.effects.Effect.TheVariants as effect
use Rattle.effect_form.specs.declared.outcomes.Outcome.{Outcome}
use Rattle.effect_form.specs.declared.outcomes.Outcome.TheVariants as outcome
use Rattle.page_text.specs.Tags.{InText, InTag, spot_behind}
use Rattle.page_text.proofs.TagLemmas.{through, each-through, number-stays}
use Rattle.folder_look.specs.declared.touches.Touch.{Touch}
use Rattle.folder_look.specs.Choices.{has_all}
use Rattle.folder_look.specs.Frame.{frame_tags}
use Rattle.folder_look.specs.Lines as lines
use Rattle.folder_look.specs.Pieces.{Words, Number, Text, Stamp, Time, Object, Printed, text_of}
use Rattle.folder_look.specs.Runs as runs
use Rattle.folder_look.specs.Shown as shown
use Rattle.folder_look.specs.Shown.{ShownParts}
use Rattle.folder_look.specs.Steps as steps
use Rattle.folder_look.specs.Touches.{touch_at}
use Rattle.folder_look.proofs.PieceLemmas.{T, pieces}

-- ---- one text behind another

pub on : (xs ys : List ℕ) → T xs → spot_behind frame_tags InText (xs ++ ys) ≡ spot_behind frame_tags InText ys
on xs ys h = through frame_tags InText xs ys h

pub both : (xs ys : List ℕ) → T xs → T ys → T (xs ++ ys)
both xs ys f g = on xs ys f ∙ g

pub one-of : (b : Bool) (xs ys : List ℕ) → T xs → T ys → T (if b then xs else ys)
one-of true xs ys f g = f
one-of false xs ys f g = g

-- ---- words

pub number : (n : ℕ) → T (decimal n)
number n = number-stays frame_tags n

object : (o : ObjectId) → T (object_text o)
object o = on (decimal o.repository) _ (number o.repository) ∙ number o.number

pub time : (t : TimeParts) → T (time_text t)
time t = ap (spot_behind frame_tags InText) (sym (append-nil (time_text t))) ∙ pieces InText (Time t ∷ []) refl

fail-kind : (k : FailKind) → T (kind_text k)
fail-kind kind.Overflow = refl
fail-kind kind.Division = refl
fail-kind kind.Kind = refl
fail-kind kind.Long = refl
fail-kind kind.Object = refl
fail-kind kind.Count = refl
fail-kind kind.Budget = refl

pub node-kind : (k : NodeKind) → T (kind_word k)
node-kind Repository = refl
node-kind Broker = refl

-- ---- links

object-ref : (p : ShownParts) (o : ObjectId) → T (shown.object_ref p o)
object-ref p o = one-of (shown.has_row p o) _ _ (pieces InText (Words (codes "<a href=\"#o") ∷ Object o ∷ Words (codes "\">") ∷ Object o ∷ Words (codes "</a>") ∷ []) refl) (pieces InText (Object o ∷ []) refl)

pub stamp-ref : (p : ShownParts) (s : StampParts) → T (shown.stamp_ref p s)
stamp-ref p s = one-of (shown.is_shown p s) _ _ (pieces InText (Words (codes "<a href=\"#t") ∷ Stamp s ∷ Words (codes "\">") ∷ Stamp s ∷ Words (codes "</a>") ∷ []) refl) (pieces InText (Stamp s ∷ []) refl)

pub time-ref : (p : ShownParts) (t : TimeParts) → T (shown.time_ref p t)
time-ref p t = one-of (shown.is_shown p t.stamp) _ _ (pieces InText (Words (codes "<a href=\"#t") ∷ Stamp t.stamp ∷ Words (codes "\">") ∷ Time t ∷ Words (codes "</a>") ∷ []) refl) (pieces InText (Time t ∷ []) refl)

-- ---- steps and outcomes

refusal : (word : List ℕ) (o : ObjectId) (t : TimeParts) → T word → T (refusal_text word o t)
refusal word o t h = on word _ h ∙ on (object_text o) _ (object o) ∙ time t

ended : (o : Outcome) → T (ended_text o)
ended outcome.Committed = refl
ended (outcome.Withdrawn l) = number l
ended (outcome.Failed l k) = on (decimal l) _ (number l) ∙ fail-kind k
ended (outcome.LaterRead o e) = refusal (codes "refused later-read ") o e refl
ended (outcome.LaterVersion o x) = refusal (codes "refused later-version ") o x refl
ended (outcome.Expired d m) = on (decimal d) _ (number d) ∙ number m
ended (outcome.Spent c) = number c

end : (o : Option Outcome) → T (steps.end_text o)
end None = refl
end (Some o) = ended o

cell-open : (o : Option Outcome) (rest : List ℕ) → spot_behind frame_tags (InTag true (reverse (codes "td class=\""))) (steps.end_class o ++ (codes "\">" ++ rest)) ≡ spot_behind frame_tags InText rest
cell-open None rest = refl
cell-open (Some outcome.Committed) rest = refl
cell-open (Some (outcome.Withdrawn l)) rest = refl
cell-open (Some (outcome.Failed l k)) rest = refl
cell-open (Some (outcome.LaterRead o e)) rest = refl
cell-open (Some (outcome.LaterVersion o x)) rest = refl
cell-open (Some (outcome.Expired d m)) rest = refl
cell-open (Some (outcome.Spent c)) rest = refl

end-cell : (o : Option Outcome) → T (steps.end_cell o)
end-cell o = cell-open o (steps.end_text o ++ codes "</td></tr>\n") ∙ on (steps.end_text o) _ (end o) ∙ refl

owner : (p : ShownParts) (t : Option Touch) → T (steps.owner_text p t)
owner p None = refl
owner p (Some t) = on (shown.object_ref p t.object) _ (object-ref p t.object) ∙ refl

read : (p : ShownParts) (t : Option Touch) (v : Value) → T (steps.read_text p t v)
read p t v = on (steps.owner_text p t) _ (owner p t) ∙ pieces InText (Printed v ∷ Words (codes "</p>\n") ∷ []) refl

value-set : (v : Option Value) → T (steps.value_set v)
value-set None = refl
value-set (Some v) = pieces InText (Words (codes " = ") ∷ Printed v ∷ []) refl

put : (p : ShownParts) (t : Option Touch) → T (steps.put_text p t)
put p None = refl
put p (Some t) = both (shown.object_ref p t.object) (steps.value_set t.value) (object-ref p t.object) (value-set t.value)

write : (p : ShownParts) (t : Option Touch) → T (steps.write_text p t)
write p t = on (steps.put_text p t) _ (put p t) ∙ refl

each-step : (p : ShownParts) (s : StampParts) (es : List Effect) → T (steps.steps_text p s es)
each-step p s [] = refl
each-step p s (effect.Run n ∷ es) = refl
each-step p s (effect.Act i h t k c x ∷ es) = refl
each-step p s (effect.Try i u ∷ es) = refl
each-step p s (effect.Got k v ∷ es) = both (steps.read_text p (touch_at p.touched s k) v) (steps.steps_text p s es) (read p (touch_at p.touched s k) v) (each-step p s es)
each-step p s (effect.Acked k ∷ es) = both (steps.write_text p (touch_at p.touched s k)) (steps.steps_text p s es) (write p (touch_at p.touched s k)) (each-step p s es)
each-step p s (effect.End i o ∷ es) = refl
each-step p s (effect.Mark at ∷ es) = each-step p s es
each-step p s (effect.Whole ∷ es) = each-step p s es
each-step p s (effect.Put o x v ∷ es) = each-step p s es
each-step p s (effect.Stretch o x ∷ es) = each-step p s es
each-step p s (effect.Begin u d ∷ es) = each-step p s es
each-step p s (effect.Decide u d ∷ es) = each-step p s es
each-step p s (effect.Learn u d ∷ es) = each-step p s es

attempt : (p : ShownParts) (s : StampParts) (es : List Effect) → T (steps.try_text p s es)
attempt p s es = on (text_of (Words (codes "<tr id=\"t") ∷ Stamp s ∷ Words (codes "\"><td>") ∷ Stamp s ∷ Words (codes "</td><td>") ∷ [])) _ (pieces InText (Words (codes "<tr id=\"t") ∷ Stamp s ∷ Words (codes "\"><td>") ∷ Stamp s ∷ Words (codes "</td><td>") ∷ []) refl) ∙ on (steps.steps_text p s es) _ (each-step p s es) ∙ end-cell (steps.end_of es)

-- ---- runs

spent : (o : Outcome) → T (runs.spent_text o)
spent outcome.Committed = refl
spent (outcome.Withdrawn l) = refl
spent (outcome.Failed l k) = refl
spent (outcome.LaterRead o e) = refl
spent (outcome.LaterVersion o x) = refl
spent (outcome.Expired d m) = refl
spent (outcome.Spent c) = pieces InText (Words (codes "<tr><td></td><td></td><td class=\"spent\">spent ") ∷ Number c ∷ Words (codes "</td></tr>\n") ∷ []) refl

try-shown : (p : ShownParts) (s : StampParts) (es : List Effect) → T (runs.try_shown p s es)
try-shown p s es = one-of (shown.is_shown p s) _ _ (attempt p s es) refl

each-try : (p : ShownParts) (es : List Effect) → T (runs.tries_text p es)
each-try p [] = refl
each-try p (effect.Run n ∷ es) = refl
each-try p (effect.Act i h t k c x ∷ es) = refl
each-try p (effect.Try i u ∷ es) = both (runs.try_shown p u es) (runs.tries_text p es) (try-shown p u es) (each-try p es)
each-try p (effect.Got k v ∷ es) = each-try p es
each-try p (effect.Acked k ∷ es) = each-try p es
each-try p (effect.End i o ∷ es) = both (runs.spent_text o) (runs.tries_text p es) (spent o) (each-try p es)
each-try p (effect.Mark at ∷ es) = each-try p es
each-try p (effect.Whole ∷ es) = each-try p es
each-try p (effect.Put o x v ∷ es) = each-try p es
each-try p (effect.Stretch o x ∷ es) = each-try p es
each-try p (effect.Begin u d ∷ es) = each-try p es
each-try p (effect.Decide u d ∷ es) = each-try p es
each-try p (effect.Learn u d ∷ es) = each-try p es

act-head : (i h t : ℕ) (x : List ℕ) → T (runs.act_head i h t x)
act-head i home tries script = pieces InText (Words (codes "<tr class=\"act\"><th colspan=\"3\" scope=\"rowgroup\">act ") ∷ Number i ∷ Words (codes ", home ") ∷ Number home ∷ Words (codes ", attempts allowed ") ∷ Number tries ∷ Words (codes "<details><summary>script</summary><pre>") ∷ Text script ∷ Words (codes "</pre></details></th></tr>\n") ∷ []) refl

act : (p : ShownParts) (i h t : ℕ) (x : List ℕ) (es : List Effect) → T (runs.act_text p i h t x es)
act p i h t x es = one-of (has_all p.choice || runs.any_try p es) _ _ (both (runs.act_head i h t x) (runs.tries_text p es) (act-head i h t x) (each-try p es)) refl

each-act : (p : ShownParts) (es : List Effect) → T (runs.acts_text p es)
each-act p [] = refl
each-act p (effect.Run n ∷ es) = refl
each-act p (effect.Act i h t k c x ∷ es) = both (runs.act_text p i h k x es) (runs.acts_text p es) (act p i h k x es) (each-act p es)
each-act p (effect.Try i u ∷ es) = each-act p es
each-act p (effect.Got k v ∷ es) = each-act p es
each-act p (effect.Acked k ∷ es) = each-act p es
each-act p (effect.End i o ∷ es) = each-act p es
each-act p (effect.Mark at ∷ es) = each-act p es
each-act p (effect.Whole ∷ es) = each-act p es
each-act p (effect.Put o x v ∷ es) = each-act p es
each-act p (effect.Stretch o x ∷ es) = each-act p es
each-act p (effect.Begin u d ∷ es) = each-act p es
each-act p (effect.Decide u d ∷ es) = each-act p es
each-act p (effect.Learn u d ∷ es) = each-act p es

run-head : (p : ShownParts) → T (runs.run_head p)
run-head p = one-of (nat_le (length p.tries) 20) _ _ refl refl

run : (p : ShownParts) (n : ℕ) (es : List Effect) → T (runs.run_text p n es)
run p n es =
    on (runs.run_head p) _ (run-head p)
    ∙ on (text_of (Words (codes "<summary>run ") ∷ Number n ∷ Words (codes ", attempts ") ∷ Number (runs.tries_from p 0 es) ∷ Words (codes "</summary>\n<table><thead><tr><th scope=\"col\">stamp</th><th scope=\"col\">reads and writes</th><th scope=\"col\">outcome</th></tr></thead><tbody>\n") ∷ [])) _ (pieces InText (Words (codes "<summary>run ") ∷ Number n ∷ Words (codes ", attempts ") ∷ Number (runs.tries_from p 0 es) ∷ Words (codes "</summary>\n<table><thead><tr><th scope=\"col\">stamp</th><th scope=\"col\">reads and writes</th><th scope=\"col\">outcome</th></tr></thead><tbody>\n") ∷ []) refl)
    ∙ on (runs.tries_text p es) _ (each-try p es) ∙ on (runs.acts_text p es) _ (each-act p es) ∙ refl

run-shown : (p : ShownParts) (a : Bool) (n : ℕ) (es : List Effect) → T (runs.run_shown p a n es)
run-shown p a n es = one-of (a || not (runs.tries_from p 0 es == 0)) _ _ (run p n es) refl

each-run : (p : ShownParts) (es : List Effect) → T (runs.runs_text p es)
each-run p [] = refl
each-run p (effect.Run n ∷ es) = both (runs.run_shown p (has_all p.choice) n es) (runs.runs_text p es) (run-shown p (has_all p.choice) n es) (each-run p es)
each-run p (effect.Act i h t k c x ∷ es) = each-run p es
each-run p (effect.Try i u ∷ es) = each-run p es
each-run p (effect.Got k v ∷ es) = each-run p es
each-run p (effect.Acked k ∷ es) = each-run p es
each-run p (effect.End i o ∷ es) = each-run p es
each-run p (effect.Mark at ∷ es) = each-run p es
each-run p (effect.Whole ∷ es) = each-run p es
each-run p (effect.Put o x v ∷ es) = each-run p es
each-run p (effect.Stretch o x ∷ es) = each-run p es
each-run p (effect.Begin u d ∷ es) = each-run p es
each-run p (effect.Decide u d ∷ es) = each-run p es
each-run p (effect.Learn u d ∷ es) = each-run p es

pub log : (p : ShownParts) (es : List Effect) → T (runs.log_text p es)
log p es = both (runs.run_shown p false 0 es) (runs.runs_text p es) (run-shown p false 0 es) (each-run p es)

-- ---- the time line

mark-open : (o : Option Outcome) (n : ℕ) → T (codes "<i class=\"" ++ (steps.end_class o ++ text_of (Words (codes "\" style=\"--a:") ∷ Number (n) ∷ Words (codes "\"></i>") ∷ [])))
mark-open None n = pieces InText (Words (codes "<i class=\"open") ∷ Words (codes "\" style=\"--a:") ∷ Number (n) ∷ Words (codes "\"></i>") ∷ []) refl
mark-open (Some outcome.Committed) n = pieces InText (Words (codes "<i class=\"committed") ∷ Words (codes "\" style=\"--a:") ∷ Number (n) ∷ Words (codes "\"></i>") ∷ []) refl
mark-open (Some (outcome.Withdrawn l)) n = pieces InText (Words (codes "<i class=\"withdrawn") ∷ Words (codes "\" style=\"--a:") ∷ Number (n) ∷ Words (codes "\"></i>") ∷ []) refl
mark-open (Some (outcome.Failed l k)) n = pieces InText (Words (codes "<i class=\"failed") ∷ Words (codes "\" style=\"--a:") ∷ Number (n) ∷ Words (codes "\"></i>") ∷ []) refl
mark-open (Some (outcome.LaterRead o e)) n = pieces InText (Words (codes "<i class=\"refused") ∷ Words (codes "\" style=\"--a:") ∷ Number (n) ∷ Words (codes "\"></i>") ∷ []) refl
mark-open (Some (outcome.LaterVersion o x)) n = pieces InText (Words (codes "<i class=\"refused") ∷ Words (codes "\" style=\"--a:") ∷ Number (n) ∷ Words (codes "\"></i>") ∷ []) refl
mark-open (Some (outcome.Expired d m)) n = pieces InText (Words (codes "<i class=\"expired") ∷ Words (codes "\" style=\"--a:") ∷ Number (n) ∷ Words (codes "\"></i>") ∷ []) refl
mark-open (Some (outcome.Spent c)) n = pieces InText (Words (codes "<i class=\"spent") ∷ Words (codes "\" style=\"--a:") ∷ Number (n) ∷ Words (codes "\"></i>") ∷ []) refl

mark : (p : ShownParts) (s : StampParts) (es : List Effect) → T (lines.mark_text p s es)
mark p s es = mark-open (steps.end_of es) (column p.tries s)

mark-shown : (p : ShownParts) (s : StampParts) (es : List Effect) → T (lines.mark_shown p s es)
mark-shown p s es = one-of (shown.is_shown p s) _ _ (mark p s es) refl

each-mark : (p : ShownParts) (es : List Effect) → T (lines.marks_text p es)
each-mark p [] = refl
each-mark p (effect.Run n ∷ es) = each-mark p es
each-mark p (effect.Act i h t k c x ∷ es) = each-mark p es
each-mark p (effect.Try i u ∷ es) = both (lines.mark_shown p u es) (lines.marks_text p es) (mark-shown p u es) (each-mark p es)
each-mark p (effect.Got k v ∷ es) = each-mark p es
each-mark p (effect.Acked k ∷ es) = each-mark p es
each-mark p (effect.End i o ∷ es) = each-mark p es
each-mark p (effect.Mark at ∷ es) = each-mark p es
each-mark p (effect.Whole ∷ es) = each-mark p es
each-mark p (effect.Put o x v ∷ es) = each-mark p es
each-mark p (effect.Stretch o x ∷ es) = each-mark p es
each-mark p (effect.Begin u d ∷ es) = each-mark p es
each-mark p (effect.Decide u d ∷ es) = each-mark p es
each-mark p (effect.Learn u d ∷ es) = each-mark p es

line-with : (k : NodeKind) (p : ShownParts) (m : MediumLook) → T (lines.line_with k p m)
line-with Repository p m = refl
line-with Broker p m = on (text_of (Words (codes "<div class=\"line\"><b>broker ") ∷ Number m.number ∷ Words (codes "</b><span class=\"bars\">") ∷ [])) _ (pieces InText (Words (codes "<div class=\"line\"><b>broker ") ∷ Number m.number ∷ Words (codes "</b><span class=\"bars\">") ∷ []) refl) ∙ on (lines.marks_text p m.log) _ (each-mark p m.log) ∙ refl

pub time-line : (p : ShownParts) (ms : List MediumLook) → T (lines.lines_text p ms)
time-line p ms =
    on (text_of (Words (codes "<div class=\"lines\" style=\"--n:") ∷ Number (length p.tries) ∷ Words (codes "\">\n") ∷ [])) _ (pieces InText (Words (codes "<div class=\"lines\" style=\"--n:") ∷ Number (length p.tries) ∷ Words (codes "\">\n") ∷ []) refl)
    ∙ on (flat_map (lines.line_text p) ms) _ (each-through frame_tags (lines.line_text p) (λ m. line-with m.kind p m) ms) ∙ refl
