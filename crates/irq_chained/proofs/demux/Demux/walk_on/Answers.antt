use Rattle.irq_chained.proofs.SeenTurns.{due_seen, exit_seen, line_seen, take_seen}
use Rattle.irq_chained.proofs.demux.Demux.walk_on.Goals as goal

pub take-requires-clause-place : goal.take-requires-clause-place
take-requires-clause-place g c =
    (due_seen c.self.invariant c.self.view_is c.is_kept.ensures.kept c.args.walk c.requires.walk c.requires.no_flow
    c.read_status-due.ensures c.in-Some.place c.in-Some.ensures).0

pub take-requires-clause-due : goal.take-requires-clause-due
take-requires-clause-due g c =
    (due_seen c.self.invariant c.self.view_is c.is_kept.ensures.kept c.args.walk c.requires.walk c.requires.no_flow
    c.read_status-due.ensures c.in-Some.place c.in-Some.ensures).1

pub take-requires-clause-next : goal.take-requires-clause-next
take-requires-clause-next g c =
    take_seen c.self.invariant c.self.view_is c.is_kept.ensures.kept c.args.walk c.requires.walk c.requires.no_flow
    c.read_status-due.ensures c.in-Some.place c.in-Some.ensures

pub exit-requires : goal.exit-requires
exit-requires g c =
    exit_seen c.self.invariant c.self.view_is c.is_kept.ensures.kept c.args.walk c.requires.walk c.requires.no_flow
    c.read_status-due.ensures c.in-None.ensures

pub take-requires-clause-line : goal.take-requires-clause-line
take-requires-clause-line g c =
    line_seen c.self.invariant c.self.view_is c.is_kept.ensures.kept c.args.walk c.requires.walk c.requires.no_flow
    c.read_status-due.ensures c.in-Some.place c.in-Some.ensures
