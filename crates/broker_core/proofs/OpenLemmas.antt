-- A log that is opened.
use Rattle.broker_core.proofs.Names.{ActSpec, Effect, Tree, Heard, ResumeFault, tasks, Scripted, book, keep, resume_fault, Shows, passed, LedgerParts, kept, fresh_ledger, fits_now, added, led, other_at, fault_of, IsLedTo, parts_of, ◌≡◌, ℕ, ◌≤◌, ◌==◌, Bool, true, false, List, [], ◌∷◌, ◌++◌, reverse, refl, sym, ◌∙◌, ap, subst, Option, Some, None, if◌then◌else◌, Err, nothing_heard, opened_broker, Opens, Book, other_plan, plan_fault, nat_lt, arith, common_steps}
use Rattle.broker_ledger.specs.declared.resume_faults.ResumeFault.TheVariants as fault
use Rattle.broker_ledger.proofs.LogLemmas.{Took, led-took, other-is}

module _ (script : List ℕ → Tree) (me run : ℕ) (acts : List ActSpec) where
  -- why the broker can't go on
  fault-is : (l : LedgerParts) (log : List Effect) (other : Option ℕ) → Took script me run acts l log → other ≡ other_plan script me run (tasks acts) log → fault_of l other ≡ resume_fault script me run (tasks acts) log
  fault-is l log other t o =
      let b : Book = book (keep script me run (tasks acts) log) in
      ap (λ (x : ℕ). if nat_lt l.run x then Some (fault.OldRun x) else (if x == l.run then plan_fault other else None)) t.shows.run_is
      ∙ (ap (λ (x : ℕ). if nat_lt x b.run then Some (fault.OldRun b.run) else (if b.run == x then plan_fault other else None)) t.of_run
      ∙ ap (λ (x : Option ℕ). if nat_lt run b.run then Some (fault.OldRun b.run) else (if b.run == run then plan_fault x else None)) o)

  old-not : (c : Bool) (x : ResumeFault) (y : Option ResumeFault) → (if c then Some x else y) ≡ None → c ≡ false
  old-not true x y e = cc
  old-not false x y e = refl

  above-not : (m n : ℕ) → nat_lt m n ≡ false → n ≤ m
  above-not m n h = grind (arith, common_steps)

  not-old : (log : List Effect) → resume_fault script me run (tasks acts) log ≡ None → (book (keep script me run (tasks acts) log)).run ≤ run
  not-old log e = above-not run _ (old-not (nat_lt run (book (keep script me run (tasks acts) log)).run) _ _ e)

-- whose the ledger is stays
Mine : LedgerParts → LedgerParts → Type 0
Mine l k = (k.number ≡ l.number) × (k.run ≡ l.run) × (k.acts ≡ l.acts)

one-mine : (l k : LedgerParts) (f : Effect) (c d : Bool) → Mine l k → Mine l (if c then (if d then added k f else k) else record k { notes = passed f k.notes })
unfolding Mine
one-mine l k f true true h = h
one-mine l k f true false h = h
one-mine l k f false d h = h

led-mine : (l : LedgerParts) (log : List Effect) → Mine l (led l log)
unfolding Mine
led-mine l [] = (refl, refl, refl)
led-mine l (f ∷ log) = one-mine l (led l log) f ((led l log).notes.run == (led l log).run) (fits_now (led l log) f) (led-mine l log)

-- the parts of a ledger that took a log up
mine-of : (number run : ℕ) (acts : List ActSpec) (l0 l k : LedgerParts) (log : List Effect) → l0 ≡ fresh_ledger number run acts → l ≡ led l0 log → k ≡ l → Mine (fresh_ledger number run acts) k
mine-of number run acts l0 l k log a b c =
    subst (Mine (fresh_ledger number run acts)) (sym (c ∙ (b ∙ ap (λ (x : LedgerParts). led x log) a))) (led-mine (fresh_ledger number run acts) log)

pub fresh-is : (number run : ℕ) (acts : List ActSpec) (l0 l k : LedgerParts) (h : Heard) (past log items : List Effect) → l0 ≡ fresh_ledger number run acts → l ≡ led l0 past → k ≡ l → h ≡ nothing_heard → log ≡ [] ++ items →
    parts_of k h log ≡ opened_broker number run acts items
unfolding Mine
fresh-is number run acts l0 l k h past log items a b c n e =
    let m = mine-of number run acts l0 l k past a b c in
    λ j. record { number = m.0 j; run = m.1 j; acts = m.2 j; log = e j; heard = n j }

module _ (script : List ℕ → Tree) (number run : ℕ) (acts : List ActSpec) where
  took : Scripted script acts → (l0 l : LedgerParts) (log : List Effect) → l0 ≡ fresh_ledger number run acts → l ≡ led l0 log → Took script number run acts l log
  took m l0 l log a b = subst (λ (x : LedgerParts). Took script number run acts x log) (sym (b ∙ ap (λ (x : LedgerParts). led x log) a)) (led-took script number run acts m log)

  fault-of : Scripted script acts → (l0 l : LedgerParts) (log : List Effect) (other : Option ℕ) → l0 ≡ fresh_ledger number run acts → l ≡ led l0 log → other ≡ other_at l0 log →
      fault_of l other ≡ resume_fault script number run (tasks acts) log
  fault-of m l0 l log other a b o =
      fault-is script number run acts l log other (took m l0 l log a b) (o ∙ (ap (λ (x : LedgerParts). other_at x log) a ∙ other-is script number run acts m log))

  took-stands : (l : LedgerParts) (h : Heard) (log : List Effect) → Took script number run acts l (reverse log) → (book (keep script number run (tasks acts) (reverse log))).run ≤ run → IsLedTo script (parts_of l h log) l.notes (kept l.notes l.answers)
  took-stands l h log t old =
      let past : List Effect = reverse log in
      let s1 = subst (λ (x : ℕ). Shows run l.notes (kept l.notes l.answers) (book (keep script x run (tasks acts) past))) (sym t.number) t.shows in
      let s2 = subst (λ (x : ℕ). Shows x l.notes (kept l.notes l.answers) (book (keep script l.number x (tasks acts) past))) (sym t.of_run) s1 in
      let s3 = subst (λ (xs : List ActSpec). Shows l.run l.notes (kept l.notes l.answers) (book (keep script l.number l.run (tasks xs) past))) (sym t.of_acts) s2 in
      let o1 = subst (λ (x : ℕ). (book (keep script x run (tasks acts) past)).run ≤ run) (sym t.number) old in
      let o2 = subst (λ (x : ℕ). (book (keep script l.number x (tasks acts) past)).run ≤ x) (sym t.of_run) o1 in
      let o3 = subst (λ (xs : List ActSpec). (book (keep script l.number l.run (tasks xs) past)).run ≤ l.run) (sym t.of_acts) o2 in
      record { shows = s3; not_old = o3 }

  pub opened : (l0 l : LedgerParts) (log : List Effect) (other : Option ℕ) (r : Option ResumeFault) → l0 ≡ fresh_ledger number run acts → l ≡ led l0 (reverse log) → other ≡ other_at l0 (reverse log) → r ≡ fault_of l other → r ≡ None →
      Scripted script acts → resume_fault script number run (tasks acts) (reverse log) ≡ None
  opened l0 l log other r a b o e n m = sym (fault-of m l0 l (reverse log) other a b o) ∙ (sym e ∙ n)

  pub opened-led : (l0 l k : LedgerParts) (h : Heard) (log items : List Effect) (other : Option ℕ) (r : Option ResumeFault) → l0 ≡ fresh_ledger number run acts → l ≡ led l0 (reverse items) → other ≡ other_at l0 (reverse items) →
      k ≡ l → r ≡ fault_of l other → r ≡ None → log ≡ [] ++ items → Scripted script k.acts → IsLedTo script (parts_of k h log) k.notes (kept k.notes k.answers)
  unfolding Mine
  opened-led l0 l k h log items other r a b o c e n is m =
      let own : Scripted script acts = subst (Scripted script) (mine-of number run acts l0 l k (reverse items) a b c).2 m in
      subst (λ (xs : List Effect). IsLedTo script (parts_of k h xs) k.notes (kept k.notes k.answers)) (sym is)
      (subst (λ (x : LedgerParts). IsLedTo script (parts_of x h items) x.notes (kept x.notes x.answers)) (sym c)
      (took-stands l h items (took own l0 l (reverse items) a b) (not-old script number run acts (reverse items) (opened l0 l items other r a b o e n own))))

  opens-err : (log : List Effect) (f : ResumeFault) → resume_fault script number run (tasks acts) (reverse log) ≡ Some f → Opens script number run acts log (Err f)
  opens-err log fault.NoMemory h = tt
  opens-err log (fault.OldRun n) h = h
  opens-err log (fault.OtherPlan i) h = h

  pub refused : (l0 l : LedgerParts) (log : List Effect) (other : Option ℕ) (r : Option ResumeFault) (f : ResumeFault) → l0 ≡ fresh_ledger number run acts → l ≡ led l0 (reverse log) → other ≡ other_at l0 (reverse log) → r ≡ fault_of l other → r ≡ Some f →
      Scripted script acts → Opens script number run acts log (Err f)
  refused l0 l log other r f a b o e s m = opens-err log f (sym (fault-of m l0 l (reverse log) other a b o) ∙ (sym e ∙ s))
