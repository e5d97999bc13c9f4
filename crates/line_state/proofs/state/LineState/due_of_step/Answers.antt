use Rattle.line_state.proofs.state.LineState.due_of_step.Goals as goal

pub returns-in-Free : goal.returns-in-Free
returns-in-Free g c def = rw c.in-Free.is (c.due_of_free.ensures def)

pub returns-in-Disable : goal.returns-in-Disable
returns-in-Disable g c def = rw c.in-Disable.is (c.due_of_disable.ensures def)

pub returns-in-Sync : goal.returns-in-Sync
returns-in-Sync g c def = rw c.in-Sync.is (c.due_of_sync.ensures def)

pub returns-in-SyncHard : goal.returns-in-SyncHard
returns-in-SyncHard g c def = rw c.in-SyncHard.is (c.due_clear.ensures def)

pub returns-in-DisableHard : goal.returns-in-DisableHard
returns-in-DisableHard g c def = rw c.in-DisableHard.is (c.due_of_disable_hard.ensures def)
