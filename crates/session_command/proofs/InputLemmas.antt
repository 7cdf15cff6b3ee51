-- What was read of an input is a head and batches.
use Rattle.std.proofs.Common.{◌≡◌, ◌++◌, ◌+◌, ◌-◌, ◌<◌, ◌≤◌, ◌∙◌, ◌&&◌, ◌↔◌, Bool, true, false, IsTrue, ℕ, List, [], ◌∷◌, length, ap, append_assoc, arith, inl, inr, refl, subst, sym, ◌⊎◌}
use Rattle.std.specs.Prelude.{Option, Some, None, min, ◌^◌, Vec}
use Rattle.std.specs.declared.alloc.Global.{Global}
use Rattle.std.specs.Io.KnownBytes.{Consumes, IsAtEnd, prepend_known}
use Rattle.std.proofs.KnownBytes.{Consumes-nil, Consumes-trans}
use Rattle.std.proofs.lemmas.List.{append-nil, length-append}
use Rattle.pseudo_time.specs.Lists.{Every}
use Rattle.pseudo_time.proofs.ListLemmas.{every-append, every-left, every-right}
use Rattle.session_form.specs.Sessions.{IsBatch, IsGo, IsInLine, IsRest, counted, ended, line_end}
use Rattle.session_command.specs.Ahead.{IsRead}
use Rattle.session_command.specs.Inputs.{EndsIn, HasEnded, HasRead}
use Rattle.session_command.specs.Kept.{AreIdle, IsIdle, IsKept}
use Rattle.session_command.specs.Texts.{own}
use Rattle.session_command.specs.declared.inputs.Next.{Next}
use Rattle.session_command.specs.declared.inputs.Next.TheVariants.{Batch, Ended, Cut}
use Rattle.session_command.proofs.KeptLemmas.{go-alike, idle-alike}

pub ended-append : (xs ys : List (List ℕ)) → ended (xs ++ ys) ≡ ended xs ++ ended ys
ended-append [] ys = refl
ended-append (x ∷ xs) ys = ap (λ (l : List ℕ). x ++ (10 ∷ l)) (ended-append xs ys) ∙ sym (append_assoc x (10 ∷ ended xs) (ended ys))

pub prepend-nothing : (known : Option (List ℕ)) (ahead : List ℕ) → ahead ≡ [] → prepend_known ahead known ≡ known
prepend-nothing None ahead e = refl
prepend-nothing (Some xs) ahead e = ap (λ (l : List ℕ). Some (l ++ xs)) e

-- the lines of a batch so far
pub record SoFar (old now : Option (List ℕ)) (head text : List ℕ) (before lines : ℕ) (idle : Bool) (ls : List (List ℕ)) : Type 0 where
  pub read : Consumes old now (ended ls)
  pub none : Every (λ l. IsGo l → ⊥) ls
  pub whole : Every IsInLine ls
  pub is : IsKept text (head ++ ended ls)
  pub count : lines ≡ counted (before + length ls)
  pub idle_is : idle ≡ true → AreIdle ls
  pub some : idle ≡ false → AreIdle ls → ⊥

pub so-far-none : (old : Option (List ℕ)) (head text : List ℕ) (before : ℕ) → before ≤ 2 ^ 64 - 1 → text ≡ head → SoFar old old head text before before true []
so-far-none old head text before most same = record {
  read = Consumes-nil old;
  none = tt;
  whole = tt;
  is = inl (same ∙ sym (append-nil head));
  count = omega (arith, most);
  idle_is = λ e. tt;
  some = λ e. absurd (cc e);
}

and-true : (a b : Bool) → (a && b) ≡ true → (a ≡ true) × (b ≡ true)
and-true true true e = (refl, refl)
and-true true false e = absurd (cc e)
and-true false b e = absurd (cc e)

and-false : (a b : Bool) → (a && b) ≡ false → (a ≡ false) ⊎ (b ≡ false)
and-false true true e = absurd (cc e)
and-false true false e = inr refl
and-false false b e = inl refl

module _ (old mid now : Option (List ℕ)) (head text : List ℕ) (before lines : ℕ) (idle : Bool) (ls : List (List ℕ)) (so : SoFar old mid head text before lines idle ls) where
  module _ (kept line : List ℕ) (is_ended one : Bool) (is : IsRead mid now kept is_ended line) (one_is : IsTrue one ↔ IsIdle kept) where
    idle-more : (idle && one) ≡ true → AreIdle (ls ++ line ∷ [])
    idle-more e = let k = and-true idle one e in every-append IsIdle ls (line ∷ []) (so.idle_is k.0) ((idle-alike kept line is.kept_is).0 (one_is.0 k.1), tt)

    some-more : (idle && one) ≡ false → AreIdle (ls ++ line ∷ []) → ⊥
    some-more e all = by (and-false idle one e)
      where
        by : (idle ≡ false) ⊎ (one ≡ false) → ⊥
        by (inl f) = so.some f (every-left IsIdle ls (line ∷ []) all)
        by (inr f) = let t = one_is.1 ((idle-alike kept line is.kept_is).1 (every-right IsIdle ls (line ∷ []) all).0) in cc (t, f)

    lines-whole : Every IsInLine (ls ++ line ∷ [])
    lines-whole = every-append IsInLine ls (line ∷ []) so.whole (is.within, tt)

    module _ (ended_is : is_ended ≡ true) where
      one-read : Consumes mid now (line ++ 10 ∷ [])
      one-read = subst (λ (b : Bool). Consumes mid now (line ++ line_end b)) ended_is is.all

      read-more : Consumes old now (ended (ls ++ line ∷ []))
      read-more = subst (Consumes old now) (sym (ended-append ls (line ∷ []))) (Consumes-trans old mid now (ended ls) (line ++ 10 ∷ []) so.read one-read)

      -- one line more
      pub so-far-more : (new_text : List ℕ) (new_lines : ℕ) (new_idle : Bool) → (IsGo kept → ⊥) → ((whole all : List ℕ) → IsKept text whole → IsKept kept all → IsKept new_text (whole ++ (all ++ 10 ∷ []))) → new_lines ≡ counted (lines + 1)
          → new_idle ≡ (idle && one) → SoFar old now head new_text before new_lines new_idle (ls ++ line ∷ [])
      so-far-more new_text new_lines new_idle no_go keeps count idle_is_now =
          let c = so.count in
          let n = length-append ls (line ∷ []) in
          record {
            read = read-more;
            none = every-append _ ls (line ∷ []) so.none ((λ g. no_go ((go-alike kept line is.kept_is).1 g)), tt);
            whole = lines-whole;
            is = subst (IsKept new_text) (append_assoc head (ended ls) (line ++ 10 ∷ []) ∙ ap (λ (l : List ℕ). head ++ l) (sym (ended-append ls (line ∷ [])))) (keeps (head ++ ended ls) line so.is is.kept_is);
            count = omega (arith, c, n, count);
            idle_is = λ e. idle-more (sym idle_is_now ∙ e);
            some = λ e. some-more (sym idle_is_now ∙ e);
          }

      -- the line that ends the batch
      pub batch-read : (t : Vec ℕ Global) (new_lines : ℕ) → IsGo kept → t.items ≡ text → new_lines ≡ counted (lines + 1) → HasRead old now head before new_lines (Batch t)
      batch-read t new_lines go text_is count =
          let c = so.count in (
            ended (ls ++ line ∷ []),
            ls,
            record { line = line; go = (go-alike kept line is.kept_is).0 go; none = so.none; whole = lines-whole; is = refl },
            read-more,
            subst (λ (l : List ℕ). IsKept l (head ++ ended ls)) (sym text_is) so.is,
            omega (arith, c, count),
          )

    -- the end of the input
    module _ (ended_is : is_ended ≡ false) (at_end : IsAtEnd now) where
      last-read : Consumes mid now line
      last-read = subst (Consumes mid now) (append-nil line) (subst (λ (b : Bool). Consumes mid now (line ++ line_end b)) ended_is is.all)

      has-ended : HasEnded old now head before lines ls line
      has-ended = record { rest = ended ls ++ line; is = record { none = so.none; whole = lines-whole; is = refl }; all = Consumes-trans old mid now (ended ls) line so.read last-read; end = at_end }

      pub input-ended : (new_idle : Bool) (last : List ℕ) (next : Next) → last ≡ kept → new_idle ≡ (idle && one) → EndsIn lines new_idle last next → HasRead old now head before lines next
      input-ended new_idle last Ended last_is idle_is_now ends = (ls, line, has-ended, idle-more (sym idle_is_now ∙ ends))
      input-ended new_idle last (Cut l) last_is idle_is_now ends =
          let c = so.count in
          let o = own-alike last in
          let e = ends.1 in
          (ls, line, has-ended, some-more (sym idle_is_now ∙ ends.0), omega (arith, c, e, o))
        where
          own-kept : (k l : List ℕ) → IsKept k l → own k ≡ own l
          own-kept k l (inl e) = ap own e
          own-kept [] l (inr (rest, e, long)) = absurd (omega (arith, long))
          own-kept (b ∷ k) [] (inr (rest, e, long)) = absurd (cc e)
          own-kept (b ∷ k) (d ∷ l) (inr (rest, e, long)) = refl

          own-alike : (l : List ℕ) → own last ≡ own line
          own-alike l = ap own last_is ∙ own-kept kept line is.kept_is
      input-ended new_idle last (Batch t) last_is idle_is_now ends = absurd ends
