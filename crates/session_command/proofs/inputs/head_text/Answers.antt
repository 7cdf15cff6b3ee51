use Rattle.std.proofs.Common.{rules}
use Rattle.session_command.proofs.HeadLemmas.{head-kept}
use Rattle.session_command.proofs.inputs.head_text.Goals as goal

pub returns : goal.returns
returns c r b rk bk =
    head-kept c.extend_from_slice.new.self.items c.keep_line.new.text.items c.keep_line-2.new.text.items c.args.repositories.now c.args.brokers.now r b (search rules) c.in_ok-keep_line.ensures c.in_ok-keep_line-2.ensures rk bk
