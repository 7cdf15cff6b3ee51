use Rattle.std.proofs.Common.{arith, subst, ◌++◌, ◌∷◌, []}
use Rattle.std.specs.Io.KnownBytes.{Consumes, prepend_known}
use Rattle.std.proofs.KnownBytes.{Consumes-trans}
use Rattle.pseudo_time.proofs.ListLemmas.{every-append}
use Rattle.session_command.specs.Ahead.{ahead, byte_in}
use Rattle.session_command.proofs.line_readers.LineReader.read_line.Goals as goal

pub loop-preserved : goal.loop-preserved
loop-preserved g c =
    let old = prepend_known (ahead c.args.self.now) (g.I.Source.left c.args.source.now) in
    let mid = prepend_known (ahead c.loop.self) (g.I.Source.left c.loop.source) in
    let now = prepend_known (ahead c.next_byte.new.self) (g.I.Source.left c.next_byte.new.source) in
    let so = c.loop.invariant.so in
    let no_end = c.if-byte-eq10.false in
    let read = subst (λ b. Consumes mid now (byte_in b)) c.in-Some.is c.in_ok-byte.ensures.bytes in
    record {
      so = (
        so.0 ++ c.in-Some.byte ∷ [],
        Consumes-trans old mid now so.0 (c.in-Some.byte ∷ []) so.1 read,
        every-append _ so.0 (c.in-Some.byte ∷ []) so.2 (no_end, tt),
        c.in_ok-keep_byte.ensures so.0 so.3,
      );
      later = omega (arith, c.loop.invariant.later, c.next_byte.ensures.later);
    }
