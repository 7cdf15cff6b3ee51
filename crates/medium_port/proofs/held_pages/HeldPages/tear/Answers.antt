use Rattle.medium_port.proofs.Names.{ap, arith, ◌∙◌, Image, put_bytes, HeldParts, with_blanks, torn_bytes}
use Rattle.medium_port.proofs.Held.{put_with}
use Rattle.medium_port.proofs.held_pages.HeldPages.tear.Goals as goal

pub returns-clause-items : goal.returns-clause-items
returns-clause-items c =
    let s = c.self.inside in
    let held = ap (λ (p : HeldParts). p.front) c.self.view_is in
    let low = c.requires.page in
    ap (λ (front : Image). with_blanks s.count front) c.tear_span.ensures
    ∙ put_with s.count c.args.page c.args.at (torn_bytes c.args.stop c.args.bytes.now) s.front.items (omega (arith, held, low))
    ∙ ap (λ (p : HeldParts). put_bytes c.args.page c.args.at (torn_bytes c.args.stop c.args.bytes.now) p.items) c.self.view_is
