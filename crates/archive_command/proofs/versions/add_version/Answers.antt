use Rattle.archive_command.proofs.VersionLemmas.{version-other, version-put}
use Rattle.archive_command.proofs.versions.add_version.Goals as goal

pub returns-then-ne : goal.returns-then-ne
returns-then-ne c = λ m h. version-other c.args.mark.now c.in-Put.name c.args.object c.in-Put.start c.in-Put.value c.ne.result m c.args.versions.now.items c.in-Put.is c.ne.ensures c.if-ne.true h

pub returns-in_ok-value-in-Put : goal.returns-in_ok-value-in-Put
returns-in_ok-value-in-Put c = λ m h.
    version-put c.args.mark.now c.in-Put.name c.args.object c.in-Put.start c.in-Put.value c.in_ok-value-in-Put.value c.ne.result m c.args.versions.now.items c.put_version.new.versions.items c.put_version.result c.in-Put.is c.in_ok-value-in-Put.ensures
    c.ne.ensures c.if-ne.false c.put_version.ensures h
