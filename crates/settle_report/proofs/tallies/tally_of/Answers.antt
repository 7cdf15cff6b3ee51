use Rattle.std.proofs.Common.{true, false, ◌++◌, ◌∙◌, ap, length}
use Rattle.std.specs.List.{filter}
use Rattle.std.specs.Prelude.{is_none}
use Rattle.settle_report.specs.Versions.{becomes, is_open_by, is_settled_between, versions}
use Rattle.settle_report.proofs.tallies.tally_of.Goals as goal

pub returns-clause-tally : goal.returns-clause-tally
returns-clause-tally c =
    let first = c.in_ok-first.first in
    let last = c.in_ok-last.last in
    let all = versions c.args.after.now in
    let committed = c.settled_count.ensures
    ∙ (ap (λ l. length (filter (is_settled_between true first last) l)) (c.as_slice-2.ensures.value ∙ c.in_ok-versions.ensures)
    ∙ ap (λ P. length (filter P all)) (λ i v. becomes true (c.in_ok-first.ensures v.start.stamp i) (c.in_ok-last.ensures v.start.stamp i))) in
    let aborted = c.settled_count-2.ensures
    ∙ (ap (λ l. length (filter (is_settled_between false first last) l)) (c.as_slice-3.ensures.value ∙ c.in_ok-versions.ensures)
    ∙ ap (λ P. length (filter P all)) (λ i v. becomes false (c.in_ok-first.ensures v.start.stamp i) (c.in_ok-last.ensures v.start.stamp i))) in
    let undecided = c.in_ok-count.ensures.count
    ∙ (ap (λ l. length (filter (is_open_by last) l)) (c.as_slice.ensures.value ∙ c.in_ok-versions.ensures)
    ∙ ap (λ P. length (filter P all)) (λ i v. is_none (c.in_ok-last.ensures v.start.stamp i))) in
    λ i. record { committed = committed i; aborted = aborted i; undecided = undecided i }

pub returns-clause-undecided : goal.returns-clause-undecided
returns-clause-undecided c =
    let last = c.in_ok-last.last in
    c.in_ok-count.ensures.added
    ∙ (ap (λ l. c.args.undecided.now.items ++ filter (is_open_by last) l) (c.as_slice.ensures.value ∙ c.in_ok-versions.ensures)
    ∙ ap (λ P. c.args.undecided.now.items ++ filter P (versions c.args.after.now)) (λ i v. is_none (c.in_ok-last.ensures v.start.stamp i)))
