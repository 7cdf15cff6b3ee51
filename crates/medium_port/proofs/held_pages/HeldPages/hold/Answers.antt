use Rattle.medium_port.proofs.Names.{rules, ◌≡◌, ◌≤◌, ℕ, true, List, [], ◌∷◌, ◌++◌, length, length-append, ap, sym, arith, ◌∙◌, if◌then◌else◌, replicate, Image, with_blanks}
use Rattle.std.specs.Result.{is_ok}
use Rattle.medium_port.proofs.Held.{size_with, with_more}
use Rattle.medium_port.proofs.held_pages.HeldPages.hold.Goals as goal

pub loop-self-preserved : goal.loop-self-preserved
loop-self-preserved c =
    let s = c.loop-self.self-inside in
    let was = s.front.items in
    let zeros : List ℕ = replicate 4096 0 in
    let ok : is_ok c.push.result ≡ true = search rules in
    let pushed = c.push.ensures.items ∙ ap (λ t. if t then was ++ c.zero_page.result ∷ [] else was) ok ∙ ap (λ (page : List ℕ). was ++ page ∷ []) c.zero_page.ensures.is in
    let low : length was ≤ c.args.page = search rules in
    let within = c.requires.page in
    let more = c.loop-self.invariant.more in
    let size = sym (ap (λ (i : Image). length i) c.loop-self.invariant.items) ∙ size_with s.count was s.few in
    let longer = length-append was (zeros ∷ []) in
    let long = ap (λ (i : Image). length i) pushed in
    record {
      count = c.loop-self.invariant.count;
      items = ap (λ (front : Image). with_blanks s.count front) pushed ∙ with_more s.count was (omega (arith, low, within, size)) ∙ c.loop-self.invariant.items;
      more = omega (arith, more, long, longer);
    }
