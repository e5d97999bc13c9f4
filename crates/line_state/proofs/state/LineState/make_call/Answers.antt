use Rattle.line_state.proofs.state.LineState.make_call.Goals as goal

pub returns-in-Disable-clause-state : goal.returns-in-Disable-clause-state
returns-in-Disable-clause-state g c = c.disable.ensures.state c.args.def.now c.args.actor

pub returns-in-Freed-clause-state : goal.returns-in-Freed-clause-state
returns-in-Freed-clause-state g c = c.freed.ensures.state c.args.def.now c.args.actor

pub returns-in-Wake-clause-state : goal.returns-in-Wake-clause-state
returns-in-Wake-clause-state g c = c.wake.ensures.state c.args.def.now c.args.actor
