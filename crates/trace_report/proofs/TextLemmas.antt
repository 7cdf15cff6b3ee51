-- The report and the summary, part by part.
use Rattle.trace_report.proofs.Names.{◌-◌, flat_map, NodeId, Value, Effect, Plan, Trace, ActReport, Open, down_text, count_of, acts_shown, downs_shown, last_of, load_line, load_text_by, sum_in, tries_in, wire_shown, ◌≡◌, ℕ, List, [], ◌++◌, append_assoc, length, ◌∙◌, ap, Option, Some, acts_line, finals_shown, report_by, sum_text}
use Rattle.report_writer.specs.declared.records.Down.{Down}
use Rattle.report_writer.specs.declared.records.Final.{Final}
use Rattle.report_writer.specs.declared.records.Report.{Report}
use Rattle.report_writer.specs.declared.records.Wire.{Wire}

module _ (plan : Plan) (logs : NodeId → List Effect) (t : Trace) (acts : List ActReport) (downs : List Down) (acts-are : acts ≡ acts_shown plan logs) (downs-are : downs ≡ downs_shown plan t) where
  pub report-is : (finals : List Final) (wire : Wire) → finals ≡ finals_shown plan logs → wire ≡ wire_shown t →
      ◌≡◌ {A = Report} (record { run = plan.run; acts = acts; finals = finals; downs = downs; wire = Some wire }) (report_by plan logs t)
  report-is finals wire f w = λ i. record { run = plan.run; acts = acts-are i; finals = f i; downs = downs-are i; wire = Some (w i) }

  pub load-is : (seed count unfinished : ℕ) (sum : Option Value) (none one two three four : List ℕ) → none ≡ [] → one ≡ none ++ load_line seed (count - 1) → two ≡ one ++ acts_line count unfinished → three ≡ two ++ sum_text sum →
      four ≡ three ++ flat_map down_text downs → count ≡ length plan.acts → unfinished ≡ count_of Open acts → sum ≡ sum_in (last_of (tries_in (last_of acts))) → four ≡ load_text_by seed plan logs t
  load-is seed count unfinished sum none one two three four empty a b c d counted opened summed =
      let first : List ℕ = load_line seed (count - 1) in
      let second : List ℕ = acts_line count unfinished in
      let third : List ℕ = sum_text sum in
      let last : List ℕ = flat_map down_text downs in
      d ∙ ap (λ z. z ++ last) (c ∙ ap (λ z. z ++ third) (b ∙ ap (λ z. z ++ second) (a ∙ ap (λ z. z ++ first) empty)))
      ∙ append_assoc (first ++ second) third last ∙ append_assoc first second (third ++ last)
      ∙ (λ i. load_line seed (counted i - 1) ++ (acts_line (counted i) ((opened ∙ ap (count_of Open) acts-are) i) ++ (sum_text ((summed ∙ ap (λ as'. sum_in (last_of (tries_in (last_of as')))) acts-are) i) ++ flat_map down_text (downs-are i))))
