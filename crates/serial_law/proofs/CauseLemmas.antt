-- What a repository once answered to a write, and the marks that it answered by, in its log.
use Rattle.serial_law.proofs.Names.{Has, TimeParts, ObjectId, Value, Effect, read_step, write_step, marks, Once, put-logged, ◌≡◌, ◌⊎◌, List, [], ◌∷◌, inl, inr}
use Rattle.effect_form.specs.declared.effects.Effect.TheVariants as effect
use Rattle.object_history.specs.declared.marks.Mark.TheVariants as mark
use Rattle.object_history.specs.declared.steps.ReadStep.TheVariants as read
use Rattle.object_history.specs.declared.steps.WriteStep.TheVariants as write
use Rattle.object_history.proofs.AnswerLemmas.{later-read, later-version, read-below}

stretch-path : (o p : ObjectId) (x y : TimeParts) → mark.Stretch p y ≡ mark.Stretch o x → effect.Stretch p y ≡ effect.Stretch o x
stretch-path o p x y e = cc e

pub stretch-logged : (l : List Effect) (o : ObjectId) (x : TimeParts) → Has (mark.Stretch o x) (marks l) → Has (effect.Stretch o x) l
stretch-logged [] o x h = absurd h
stretch-logged (effect.Stretch p y ∷ l) o x (inl e) = inl (stretch-path o p x y e)
stretch-logged (effect.Stretch p y ∷ l) o x (inr h) = inr (stretch-logged l o x h)
stretch-logged (effect.Put p y w ∷ l) o x (inl e) = absurd (cc e)
stretch-logged (effect.Put p y w ∷ l) o x (inr h) = inr (stretch-logged l o x h)
stretch-logged (effect.Decide s d ∷ l) o x (inl e) = absurd (cc e)
stretch-logged (effect.Decide s d ∷ l) o x (inr h) = inr (stretch-logged l o x h)
stretch-logged (effect.Learn s c ∷ l) o x (inl e) = absurd (cc e)
stretch-logged (effect.Learn s c ∷ l) o x (inr h) = inr (stretch-logged l o x h)
stretch-logged (effect.Mark at ∷ l) o x (inl e) = absurd (cc e)
stretch-logged (effect.Mark at ∷ l) o x (inr h) = inr (stretch-logged l o x h)
stretch-logged (f ∷ l) o x h = inr (stretch-logged l o x h)

floor-path : (x y : TimeParts) → mark.Floor y ≡ mark.Floor x → effect.Mark y ≡ effect.Mark x
floor-path x y e = cc e

pub floor-logged : (l : List Effect) (x : TimeParts) → Has (mark.Floor x) (marks l) → Has (effect.Mark x) l
floor-logged [] x h = absurd h
floor-logged (effect.Mark y ∷ l) x (inl e) = inl (floor-path x y e)
floor-logged (effect.Mark y ∷ l) x (inr h) = inr (floor-logged l x h)
floor-logged (effect.Put p y w ∷ l) x (inl e) = absurd (cc e)
floor-logged (effect.Put p y w ∷ l) x (inr h) = inr (floor-logged l x h)
floor-logged (effect.Stretch p y ∷ l) x (inl e) = absurd (cc e)
floor-logged (effect.Stretch p y ∷ l) x (inr h) = inr (floor-logged l x h)
floor-logged (effect.Decide s d ∷ l) x (inl e) = absurd (cc e)
floor-logged (effect.Decide s d ∷ l) x (inr h) = inr (floor-logged l x h)
floor-logged (effect.Learn s c ∷ l) x (inl e) = absurd (cc e)
floor-logged (effect.Learn s c ∷ l) x (inr h) = inr (floor-logged l x h)
floor-logged (f ∷ l) x h = inr (floor-logged l x h)

either-logged : (l : List Effect) (o : ObjectId) (e : TimeParts) → Has (mark.Stretch o e) (marks l) ⊎ Has (mark.Floor e) (marks l) → Has (effect.Stretch o e) l ⊎ Has (effect.Mark e) l
either-logged l o e (inl h) = inl (stretch-logged l o e h)
either-logged l o e (inr h) = inr (floor-logged l e h)

either-later : (l : List Effect) (f g h : Effect) → Has g l ⊎ Has h l → Has g (f ∷ l) ⊎ Has h (f ∷ l)
either-later l f g h (inl k) = inl (inr k)
either-later l f g h (inr k) = inr (inr k)

pub once-read : (l : List Effect) (o : ObjectId) (t e : TimeParts) (v : Value) → Once (λ k. write_step (marks k) o t v ≡ write.LaterRead e) l → Has (effect.Stretch o e) l ⊎ Has (effect.Mark e) l
once-read [] o t e v h = either-logged [] o e (later-read (marks []) o t v e h).1
once-read (f ∷ l) o t e v (inl h) = either-logged (f ∷ l) o e (later-read (marks (f ∷ l)) o t v e h).1
once-read (f ∷ l) o t e v (inr h) = either-later l f (effect.Stretch o e) (effect.Mark e) (once-read l o t e v h)

pub once-refused : (l : List Effect) (o : ObjectId) (t e : TimeParts) → Once (λ k. read_step (marks k) o t ≡ read.LaterRead e) l → Has (effect.Mark e) l
once-refused [] o t e h = floor-logged [] e (read-below (marks []) o t e h).1
once-refused (f ∷ l) o t e (inl h) = floor-logged (f ∷ l) e (read-below (marks (f ∷ l)) o t e h).1
once-refused (f ∷ l) o t e (inr h) = inr (once-refused l o t e h)

pub once-version : (l : List Effect) (o : ObjectId) (t x : TimeParts) (v : Value) → Once (λ k. write_step (marks k) o t v ≡ write.LaterVersion x) l → (w : Value) × Has (effect.Put o x w) l
once-version [] o t x v h = let r = (later-version (marks []) o t v x h).1 in (r.0, put-logged [] o x r.0 r.1)
once-version (f ∷ l) o t x v (inl h) = let r = (later-version (marks (f ∷ l)) o t v x h).1 in (r.0, put-logged (f ∷ l) o x r.0 r.1)
once-version (f ∷ l) o t x v (inr h) = let r = once-version l o t x v h in (r.0, inr r.1)
