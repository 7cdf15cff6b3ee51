-- What was read of a head.
use Rattle.std.proofs.Common.{◌≡◌, ◌++◌, ◌-◌, ◌≤◌, ◌∙◌, Bool, true, false, ℕ, List, [], ◌∷◌, length, ap, append_assoc, inl, inr, refl, subst, sym}
use Rattle.std.specs.Prelude.{Option, Err, Ok, codes}
use Rattle.std.specs.Io.KnownBytes.{Consumes}
use Rattle.std.proofs.KnownBytes.{Consumes-trans}
use Rattle.std.proofs.lemmas.List.{append-nil}
use Rattle.plan_form.specs.declared.plans.Plan.{Plan}
use Rattle.plan_form.specs.declared.plan_faults.PlanKind.{PlanKind}
use Rattle.plan_form.specs.declared.plan_faults.PlanKind.TheVariants as kind
use Rattle.plan_form.specs.PlanFaults.{IsPlanFault}
use Rattle.plan_form.specs.Plans.{IsPlan}
use Rattle.session_form.specs.Sessions.{IsHead, IsHeadFault, IsTitle, batch_text, ended, line_end}
use Rattle.run_command.specs.declared.stops.Stop.{Stop}
use Rattle.run_command.specs.declared.stops.Stop.TheVariants as stop
use Rattle.session_command.specs.Ahead.{IsRead}
use Rattle.session_command.specs.Inputs.{HasHead, IsJudged}
use Rattle.session_command.specs.Kept.{IsKept}
use Rattle.session_command.specs.Texts.{BeginsWith}
use Rattle.session_command.specs.declared.inputs.SessionInput.{SessionInput}
use Rattle.session_command.proofs.KeptLemmas.{fault-whole, kept-whole, plan-whole, title-alike}

-- two numbered lines are kept behind a plan's first two
pub head-kept : (front one two repositories brokers r b : List ℕ) → front ≡ codes "swallow plan 1" ++ (10 ∷ (codes "run 1" ++ (10 ∷ [])))
    → ((whole all : List ℕ) → IsKept front whole → IsKept repositories all → IsKept one (whole ++ (all ++ 10 ∷ []))) → ((whole all : List ℕ) → IsKept one whole → IsKept brokers all → IsKept two (whole ++ (all ++ 10 ∷ [])))
    → IsKept repositories r → IsKept brokers b → IsKept two (batch_text r b [])
head-kept front one two repositories brokers r b is first second rk bk =
    let base = codes "swallow plan 1" ++ (10 ∷ (codes "run 1" ++ (10 ∷ []))) in
    subst (λ (l : List ℕ). IsKept two (base ++ l)) (append_assoc r (10 ∷ []) (b ++ 10 ∷ [])) (second (base ++ (r ++ 10 ∷ [])) b (first base r (inl is) rk) bk)

module _ (input old : Option (List ℕ)) (same : old ≡ input) where
  begins : (rest : Option (List ℕ)) (text : List ℕ) → Consumes old rest text → BeginsWith input text
  begins rest text read = (rest, subst (λ (x : Option (List ℕ)). Consumes x rest text) same read)

  module _ (mid : Option (List ℕ)) (k1 title : List ℕ) (e1 : Bool) (t : IsRead old mid k1 e1 title) where
    pub title-fault : (left : Option (List ℕ)) (why : Stop) → why ≡ stop.Fault 1 kind.Header → (e1 ≡ true → IsTitle k1 → ⊥) → HasHead input left (Err why)
    title-fault left why is none =
        subst (λ (x : Stop). HasHead input left (Err x)) (sym is) (title ++ line_end e1, begins mid (title ++ line_end e1) t.all, inl (title, e1, refl, λ e k. none e ((title-alike k1 title t.kept_is).1 k), refl, refl))

    module _ (title_ends : e1 ≡ true) (is_title : IsTitle k1) where
      the-title : IsTitle title
      the-title = (title-alike k1 title t.kept_is).0 is_title

      one : Consumes old mid (title ++ 10 ∷ [])
      one = subst (λ (b : Bool). Consumes old mid (title ++ line_end b)) title_ends t.all

      module _ (mid2 : Option (List ℕ)) (k2 repositories : List ℕ) (e2 : Bool) (r : IsRead mid mid2 k2 e2 repositories) where
        pub repositories-fault : (left : Option (List ℕ)) (why : Stop) → why ≡ stop.Fault 2 kind.Repositories → e2 ≡ false → HasHead input left (Err why)
        repositories-fault left why is lacks =
            let read = subst (Consumes mid mid2) (append-nil repositories) (subst (λ (b : Bool). Consumes mid mid2 (repositories ++ line_end b)) lacks r.all) in
            subst (λ (x : Stop). HasHead input left (Err x)) (sym is) (
              (title ++ 10 ∷ []) ++ repositories,
              begins mid2 ((title ++ 10 ∷ []) ++ repositories) (Consumes-trans old mid mid2 (title ++ 10 ∷ []) repositories one read),
              inr (inl (title, repositories, refl, the-title, r.within, refl, refl)),
            )

        module _ (r_ends : e2 ≡ true) where
          two : Consumes old mid2 (ended (title ∷ repositories ∷ []))
          two =
              subst (Consumes old mid2) (append_assoc title (10 ∷ []) (repositories ++ 10 ∷ []))
              (Consumes-trans old mid mid2 (title ++ 10 ∷ []) (repositories ++ 10 ∷ []) one (subst (λ (b : Bool). Consumes mid mid2 (repositories ++ line_end b)) r_ends r.all))

          module _ (now : Option (List ℕ)) (k3 brokers : List ℕ) (e3 : Bool) (b : IsRead mid2 now k3 e3 brokers) where
            pub brokers-fault : (left : Option (List ℕ)) (why : Stop) → why ≡ stop.Fault 3 kind.Brokers → e3 ≡ false → HasHead input left (Err why)
            brokers-fault left why is lacks =
                let read = subst (Consumes mid2 now) (append-nil brokers) (subst (λ (x : Bool). Consumes mid2 now (brokers ++ line_end x)) lacks b.all) in
                subst (λ (x : Stop). HasHead input left (Err x)) (sym is) (
                  ended (title ∷ repositories ∷ []) ++ brokers,
                  begins now (ended (title ∷ repositories ∷ []) ++ brokers) (Consumes-trans old mid2 now (ended (title ∷ repositories ∷ [])) brokers two read),
                  inr (inr (inl (title, repositories, brokers, refl, the-title, b.within, refl, refl))),
                )

            module _ (b_ends : e3 ≡ true) where
              last-end : ended (title ∷ repositories ∷ []) ++ (brokers ++ 10 ∷ []) ≡ ended (title ∷ repositories ∷ brokers ∷ [])
              last-end = append_assoc title (10 ∷ (repositories ++ 10 ∷ [])) (brokers ++ 10 ∷ []) ∙ ap (λ (l : List ℕ). title ++ 10 ∷ l) (append_assoc repositories (10 ∷ []) (brokers ++ 10 ∷ []))

              three : Consumes old now (ended (title ∷ repositories ∷ brokers ∷ []))
              three =
                  subst (Consumes old now) last-end
                  (Consumes-trans old mid2 now (ended (title ∷ repositories ∷ [])) (brokers ++ 10 ∷ []) two (subst (λ (x : Bool). Consumes mid2 now (brokers ++ line_end x)) b_ends b.all))

              module _ (head : List ℕ) (kept : IsKept head (batch_text repositories brokers [])) where
                pub judged-fault : (left : Option (List ℕ)) (why : Stop) → IsJudged head (Err why) → HasHead input left (Err why)
                judged-fault left (stop.Fault line what) (at, fault, is) = (
                  ended (title ∷ repositories ∷ brokers ∷ []),
                  begins now (ended (title ∷ repositories ∷ brokers ∷ [])) three,
                  inr (inr (inr (title, repositories, brokers, at, refl, the-title, fault-whole head (batch_text repositories brokers []) at what kept fault, is))),
                )
                judged-fault left stop.NoMemory j = tt
                judged-fault left stop.Source j = absurd j
                judged-fault left stop.Words j = absurd j
                judged-fault left (stop.Votes line) j = absurd j
                judged-fault left stop.Sink j = absurd j

                -- the head, and what follows it
                pub head-read : (plan : Plan) → IsPlan head plan
                    → (text repos broks : List ℕ) × IsHead text repos broks × Consumes input now text × (head ≡ batch_text repos broks []) × (◌≡◌ {A = ℕ} 3 3)
                head-read plan is = (
                  ended (title ∷ repositories ∷ brokers ∷ []),
                  repositories,
                  brokers,
                  record { title = title; is = refl; is_title = the-title; none = plan; is_plan = plan-whole head (batch_text repositories brokers []) plan kept is },
                  subst (λ (x : Option (List ℕ)). Consumes x now (ended (title ∷ repositories ∷ brokers ∷ []))) same three,
                  kept-whole head (batch_text repositories brokers []) kept is.0,
                  refl,
                )
