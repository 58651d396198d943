use Rattle.cpg_daemon.proofs.clusters.Cluster.start.Goals as goal

-- the world that `B` names is a new one
pub on-requires-clause-begins : goal.on-requires-clause-begins
on-requires-clause-begins g c = (record { settings = c.args.settings; list = c.args.list.now }, c.requires.name.2)
