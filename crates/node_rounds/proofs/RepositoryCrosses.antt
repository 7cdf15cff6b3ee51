-- A repository's core may go to another thread.
use denote.RattleType.{RattleType}
use denote.Hole.{as_row}
use denote.Struct.Field.{row_field, u8-field, u64-field, bool-field}
use denote.Param.Send.{IsSend, sendable, view_send}
use denote.Param.SendFields.{declared_send, variants_send, as_row_send}
use Rattle.std.proofs.Crossing.{Vec-send, send, frees}
use Rattle.std.proofs.collections.BTreeMap.TheSendSync as map
use Rattle.std.proofs.collections.BTreeSet.TheSendSync as set
use Rattle.std.proofs.option.Option.TheSendSync as option
use Rattle.medium_port.specs.declared.media.Medium as medium
use Rattle.pseudo_time.proofs.times.PseudoTime.TheSendSync as time
use Rattle.pseudo_time.proofs.stamps.Stamp.TheSendSync as stamp
use Rattle.pseudo_time.proofs.decisions.Decision.TheSendSync as decision
use Rattle.pseudo_time.specs.contracts.times.PseudoTimePartialEq.TheImpl as time_eq
use Rattle.pseudo_time.specs.contracts.times.PseudoTimePartialOrd.TheImpl as time_order
use Rattle.pseudo_time.specs.contracts.stamps.StampPartialEq.TheImpl as stamp_eq
use Rattle.pseudo_time.specs.contracts.stamps.StampPartialOrd.TheImpl as stamp_order
use Rattle.effect_form.proofs.effects.Effect.TheSendSync as effect
use Rattle.message_form.proofs.turns.Out.TheSendSync as out
use Rattle.commit_record.proofs.records.Records.TheSendSync as records
use Rattle.object_history.specs.declared.calls.Histories as histories
use Rattle.object_history.proofs.marks.Mark.TheSendSync as mark
use Rattle.version_store.proofs.stores.Store.TheSendSync as store
use Rattle.object_header.proofs.indexes.Index.TheSendSync as index
use Rattle.object_header.specs.contracts.beneath.Beneath as Beneath
use Rattle.object_header.specs.contracts.ledgers.Ledger as Ledger
use Rattle.object_header.specs.contracts.ledgers.Ledger.TheInside as LedgerInside
use Rattle.object_header.specs.contracts.headers.HeaderTable as HeaderTable
use Rattle.object_header.specs.contracts.tables.HeaderTableHistories.TheImpl as table
use Rattle.repository_core.proofs.waits.HeldRead.TheSendSync as held
use Rattle.repository_core.proofs.waits.Asker.TheSendSync as asker
use Rattle.repository_core.specs.AskerPartialEq.TheImpl as asker_eq
use Rattle.repository_core.specs.AskerPartialOrd.TheImpl as asker_order
use Rattle.repository_core.specs.DraftContracts as Draft
use Rattle.repository_core.specs.DraftContracts.TheInside as DraftInside
use Rattle.repository_core.specs.contracts.books.Books as Books
use Rattle.repository_core.specs.contracts.works.Work as Work
use Rattle.repository_core.specs.contracts.repositories.Repository as Repository
use Rattle.repository_core.specs.contracts.repositories.Repository.TheInside as RepositoryInside
use Rattle.repository_node.proofs.notes.Notes.TheSendSync as notes
use Rattle.repository_node.specs.contracts.kept_cores.KeptCore as KeptCore
use Rattle.repository_node.specs.contracts.cores.RepositoryCore as RepositoryCore
use Rattle.node_rounds.proofs.BrokerCrosses.{log_send}

n8 : IsSend (as_row u8-field)
n8 = search sendable depth 20

n64 : IsSend (as_row u64-field)
n64 = search sendable depth 20

flag : IsSend (as_row bool-field)
flag = search sendable depth 20

draft_send : IsSend Draft.the_row
draft_send = view_send _ _ _ _ _ (declared_send DraftInside.the_type (
  send,
  (
    n8,
    (
      n64,
      (
        log_send,
        (
          Vec-send _ effect.the_send,
          (
            Vec-send _ out.the_send,
            (map.the_send _ _ _ _ time_eq.ghosts time_order.ghosts _ time.the_send held.the_send send frees, (set.the_send _ _ _ asker_eq.ghosts asker_order.ghosts _ asker.the_send send frees, tt)),
          ),
        ),
      ),
    ),
  ),
))

module _ (H B : RattleType) (h : histories.Ghosts H.Denot B.Denot) (sh : IsSend H) where
  books_send : IsSend (Books.the_row H B)
  books_send = declared_send (Books.the_type H B) (records.the_send, (map.the_send _ _ _ _ stamp_eq.ghosts stamp_order.ghosts _ stamp.the_send decision.the_send send frees, (as_row_send (row_field H) sh, (search sendable depth 20, tt))))

  work_send : IsSend (Work.the_row H B)
  work_send = declared_send (Work.the_type H B) (send, (draft_send, (books_send, tt)))

  repository_send : IsSend (Repository.the_row H B h)
  repository_send = view_send _ _ _ _ _ (declared_send (RepositoryInside.the_type H B h) (work_send, (flag, tt)))

ledger_send : IsSend Ledger.the_row
ledger_send = view_send _ _ _ _ _ (declared_send LedgerInside.the_type (send, (log_send, (Vec-send _ mark.the_send, (index.the_send, (option.the_send _ time.the_send, (flag, (Vec-send _ mark.the_send, tt))))))))

module _ (M : RattleType) (m : medium.Ghosts M.Denot) (sm : IsSend M) where
  table_send : IsSend (HeaderTable.the_row M m)
  table_send = declared_send (HeaderTable.the_type M m) (send, (ledger_send, (store.the_send M m sm, (flag, tt))))

  kept_send : IsSend (KeptCore.the_row M m)
  kept_send = variants_send (KeptCore.enum M m) ((repository_send (HeaderTable.the_row M m) Beneath.the_row (table.ghosts M m table.no_dict table.no_dict) table_send, tt), ((as_row_send (row_field M) sm, tt), tt))

  pub core_send : IsSend (RepositoryCore.the_row M m)
  core_send = declared_send (RepositoryCore.the_type M m) (n8, (n64, (kept_send, (notes.the_send, tt))))
