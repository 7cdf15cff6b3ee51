-- The tries that are read off a broker's log are those of its book.
use Rattle.std.proofs.Common.{◌≡◌, ℕ, Bool, true, false, List, [], ◌∷◌, ◌++◌, map, Option, Some, None, refl, sym, ap, ◌∙◌, subst, if◌then◌else◌}
use Rattle.effect_form.specs.declared.effects.Effect.{Effect}
use Rattle.effect_form.specs.declared.effects.Effect.TheVariants as effect
use Rattle.effect_form.specs.declared.outcomes.Outcome.{Outcome}
use Rattle.effect_form.specs.declared.outcomes.Outcome.TheVariants as outcome
use Rattle.pseudo_time.specs.StampParts.{StampParts}
use Rattle.script_meaning.specs.Meaning.{Got, Stored}
use Rattle.serial_model.specs.Questions.{Tree}
use Rattle.broker_core.specs.Book as books
use Rattle.broker_core.specs.Book.{Act, Book, enter, tries, tries_of}
unfoldable use Rattle.broker_core.specs.Book.{book}
use Rattle.world_core.specs.Deeds.{Try, attempt}
use Rattle.log_replay.specs.Drafts.{DraftParts, ReadParts, closed, draft_try, entered, finished, gained, if_live, on_last, read_off, tried, try_parts}

abbrev text_of : List Act → Option (List ℕ)
text_of [] = None
text_of (a ∷ acts) = Some a.task.script

abbrev has_some : List books.Try → Bool
has_some [] = false
has_some (t ∷ ts) = true

abbrev live_of : List Act → Bool
live_of [] = false
live_of (a ∷ acts) = has_some a.tries

-- what was read is what the book says
record IsRead (acts past : List Act) (r : ReadParts) : Type 0 where
  text : r.text ≡ text_of acts
  live : r.live ≡ live_of acts
  tries : r.tries ≡ map try_parts (tries_of (acts ++ past))

dead : (g : DraftParts → DraftParts) (r : ReadParts) → r.live ≡ false → if_live g r ≡ r
dead g r e = ap (λ (b : Bool). if b then record { text = r.text; live = r.live; tries = on_last g r.tries } else r) e

changed : (g : DraftParts → DraftParts) (h : books.Try → books.Try) → ((t : books.Try) → try_parts (h t) ≡ g (try_parts t)) → (acts past : List Act) (r : ReadParts) → IsRead acts past r →
    IsRead (books.on_try h acts) past (if_live g r)
changed g h same [] past r i = subst (IsRead [] past) (sym (dead g r i.live)) i
changed g h same (a ∷ acts) past r i = at a.tries refl
  where
    at : (ts : List books.Try) → a.tries ≡ ts → IsRead (books.on_try h (a ∷ acts)) past (if_live g r)
    at [] e =
        let l : r.live ≡ false = i.live ∙ ap has_some e in
        subst (IsRead (books.on_try h (a ∷ acts)) past) (sym (dead g r l))
        record { text = i.text; live = l ∙ sym (ap (λ z. has_some (books.on_front h z)) e); tries = i.tries ∙ (ap (λ z. map try_parts (z ++ tries_of (acts ++ past))) e ∙ sym (ap (λ z. map try_parts (books.on_front h z ++ tries_of (acts ++ past))) e)) }
    at (t ∷ ts) e =
        let l : r.live ≡ true = i.live ∙ ap has_some e in
        let is : if_live g r ≡ record { text = r.text; live = r.live; tries = on_last g r.tries } = ap (λ (b : Bool). if b then record { text = r.text; live = r.live; tries = on_last g r.tries } else r) l in
        subst (IsRead (books.on_try h (a ∷ acts)) past) (sym is)
        record {
          text = i.text;
          live = l ∙ sym (ap (λ z. has_some (books.on_front h z)) e);
          tries = ap (on_last g) (i.tries ∙ ap (λ z. map try_parts (z ++ tries_of (acts ++ past))) e)
              ∙ (ap (λ z. z ∷ map try_parts (ts ++ tries_of (acts ++ past))) (sym (same t)) ∙ sym (ap (λ z. map try_parts (books.on_front h z ++ tries_of (acts ++ past))) e));
        }

begun : (s : StampParts) (acts past : List Act) (r : ReadParts) → IsRead acts past r → IsRead (books.on_act (λ a. record a { tries = books.new_try a s ∷ a.tries }) acts) past (tried s r.text r)
begun s [] past r i = subst (λ (o : Option (List ℕ)). IsRead [] past (tried s o r)) (sym i.text) i
begun s (a ∷ acts) past r i =
    subst (λ (o : Option (List ℕ)). IsRead (books.on_act (λ a. record a { tries = books.new_try a s ∷ a.tries }) (a ∷ acts)) past (tried s o r)) (sym i.text)
    record { text = i.text; live = refl; tries = ap (λ (z : List DraftParts). record { stamp = s; text = a.task.script; answers = []; ended = None } ∷ z) i.tries }

spent : (c : ℕ) (acts past : List Act) (r : ReadParts) → IsRead acts past r → IsRead (books.on_act (λ a. record a { spent = Some c }) acts) past r
spent c [] past r i = i
spent c (a ∷ acts) past r i = record { text = i.text; live = i.live; tries = i.tries }

ended : (o : Outcome) (b : Book) (r : ReadParts) → IsRead b.acts b.past r → IsRead (books.close o b).acts (books.close o b).past (closed o r)
ended outcome.Committed b r i = changed (finished outcome.Committed) (books.finish outcome.Committed) (λ t. refl) b.acts b.past r i
ended (outcome.Withdrawn l) b r i = changed (finished (outcome.Withdrawn l)) (books.finish (outcome.Withdrawn l)) (λ t. refl) b.acts b.past r i
ended (outcome.Failed l k) b r i = changed (finished (outcome.Failed l k)) (books.finish (outcome.Failed l k)) (λ t. refl) b.acts b.past r i
ended (outcome.LaterRead o e) b r i = changed (finished (outcome.LaterRead o e)) (books.finish (outcome.LaterRead o e)) (λ t. refl) b.acts b.past r i
ended (outcome.LaterVersion o x) b r i = changed (finished (outcome.LaterVersion o x)) (books.finish (outcome.LaterVersion o x)) (λ t. refl) b.acts b.past r i
ended (outcome.Expired d m) b r i = changed (finished (outcome.Expired d m)) (books.finish (outcome.Expired d m)) (λ t. refl) b.acts b.past r i
ended (outcome.Spent c) b r i = spent c b.acts b.past r i

one-more : (f : Effect) (b : Book) (r : ReadParts) → IsRead b.acts b.past r → IsRead (enter f b).acts (enter f b).past (entered f r)
one-more (effect.Run n) b r i = record { text = refl; live = refl; tries = i.tries }
one-more (effect.Act n h t k c x) b r i = record { text = refl; live = refl; tries = i.tries }
one-more (effect.Try n s) b r i = begun s b.acts b.past r i
one-more (effect.Got k v) b r i = changed (gained (Got v)) (books.gain (Got v)) (λ t. refl) b.acts b.past r i
one-more (effect.Acked k) b r i = changed (gained Stored) (books.gain Stored) (λ t. refl) b.acts b.past r i
one-more (effect.End n o) b r i = ended o b r i
one-more (effect.Mark at) b r i = i
one-more effect.Whole b r i = i
one-more (effect.Put o x v) b r i = i
one-more (effect.Stretch o x) b r i = i
one-more (effect.Begin s d) b r i = i
one-more (effect.Decide s d) b r i = i
one-more (effect.Learn s c) b r i = i

all-read : (log : List Effect) → IsRead (book log).acts (book log).past (read_off log)
unfolding book
all-read [] = record { text = refl; live = refl; tries = refl }
all-read (f ∷ log) = one-more f (book log) (read_off log) (all-read log)

pub read-tries : (log : List Effect) → (read_off log).tries ≡ map try_parts (tries (book log))
read-tries log = (all-read log).tries

pub try-attempts : (script : List ℕ → Tree) (ts : List books.Try) → map (draft_try script) (map try_parts ts) ≡ map (attempt script) ts
try-attempts script [] = refl
try-attempts script (t ∷ ts) = ap (λ (zs : List Try). attempt script t ∷ zs) (try-attempts script ts)
