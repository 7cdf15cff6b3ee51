-- Nodes may go to another thread.
use denote.RattleType.{RattleType}
use denote.Param.Send.{IsSend, view_send}
use denote.Param.SendFields.{declared_send}
use Rattle.std.proofs.Crossing.{send}
use Rattle.medium_port.specs.declared.media.Medium as medium
use Rattle.stream_port.specs.declared.clocks.Clock as clock
use Rattle.stream_port.specs.declared.fates.Fates as fates
use Rattle.pseudo_time.proofs.nodes.NodeId.TheSendSync as name
use Rattle.broker_node.proofs.WireCrosses.{pass_send}
use Rattle.broker_node.proofs.hands.Hand.TheSendSync as hand
use Rattle.broker_node.specs.NodeContracts as Node
use Rattle.broker_node.specs.NodeContracts.TheInside as NodeInside
use Rattle.broker_node.specs.contracts.cores.BrokerCore as BrokerCore
use Rattle.broker_node.specs.contracts.cores.BrokerCoreMeanings.TheImpl as broker
use Rattle.repository_node.specs.contracts.cores.RepositoryCore as RepositoryCore
use Rattle.repository_node.specs.contracts.cores.RepositoryCoreMeanings.TheImpl as repository
use Rattle.node_rounds.proofs.BrokerCrosses as brokers
use Rattle.node_rounds.proofs.RepositoryCrosses as repositories
use Rattle.node_rounds.proofs.kinds.AnyNode.TheSendSync as any
use Rattle.node_rounds.specs.contracts.nodes.RunNode as RunNode
use Rattle.node_rounds.specs.contracts.nodes.RunNode.TheInside as RunInside

module _ (F C M : RattleType) (f : fates.Ghosts F.Denot) (c : clock.Ghosts C.Denot) (m : medium.Ghosts M.Denot) (sf : IsSend F) (sc : IsSend C) where
  module _ (K : RattleType) (k : _) (sk : IsSend K) where
    node_send : IsSend (Node.the_row K F C M k f c m)
    node_send = view_send _ _ _ _ _ (declared_send (NodeInside.the_type K F C M k f c m) (send, (name.the_send, (hand.the_send _ sk, (pass_send F C M f c m sf sc, tt)))))

  module _ (sm : IsSend M) where
    pub run_send : IsSend (RunNode.the_row F C M m f c)
    run_send = view_send _ _ _ _ _ (declared_send (RunInside.the_type F C M m f c) (
      any.the_send _ _ (node_send (RepositoryCore.the_row M m) (repository.ghosts M m repository.no_dict repository.no_dict) (repositories.core_send M m sm)) (node_send (BrokerCore.the_row M m) (broker.ghosts M m broker.no_dict broker.no_dict) (brokers.core_send M m sm)),
      tt,
    ))
