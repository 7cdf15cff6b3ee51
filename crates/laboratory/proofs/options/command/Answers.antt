use Rattle.laboratory.proofs.Names.{◌≡◌, ◌∙◌, ap, ap₂, true, codes, app_of_fields, on_top, with_rule, needed, numbers}
use Rattle.std.proofs.lemmas.Result.{IfOk-weaker}
use Rattle.laboratory.proofs.options.command.Goals as goal

pub returns : goal.returns
returns c =
    let pages : c.range.result ≡ numbers 1 1048576 = rw (c.value_parser.ensures, c.new.ensures.start, c.new.ensures.end) at c.range.ensures in
    let lose : c.range-2.result ≡ numbers 0 1000000 = rw (c.value_parser-2.ensures, c.new-2.ensures.start, c.new-2.ensures.end) at c.range-2.ensures in
    let stop : c.range-3.result ≡ numbers 0 1048575 = rw (c.value_parser-3.ensures, c.new-3.ensures.start, c.new-3.ensures.end) at c.range-3.ensures in
    let empty = ap app_of_fields c.no_binary_name.ensures ∙ ap (on_top (λ s. record s { no_binary_name = true })) c.new-4.ensures.app in
    let first = c.in_ok-arg.ensures.shape c.option-pages.ensures.local ∙ ap₂ with_rule empty (c.option-pages.ensures.rule ∙ ap (needed (codes "pages")) pages) in
    let second = c.in_ok-arg-2.ensures.shape c.option-lose.ensures.local ∙ ap₂ with_rule first (c.option-lose.ensures.rule ∙ ap (needed (codes "lose")) lose) in
    let third = c.in_ok-arg-3.ensures.shape c.option-stop.ensures.local ∙ ap₂ with_rule second (c.option-stop.ensures.rule ∙ ap (needed (codes "stop")) stop) in
    IfOk-weaker c.arg-4.result _ _ (λ command added. added.shape c.option-words.ensures.local ∙ ap₂ with_rule third (c.option-words.ensures.rule ∙ ap (needed (codes "words")) c.string.ensures)) c.arg-4.ensures
