use Rattle.sleep_play.proofs.playing.play_longer.Goals as goal

pub play_laid-requires : goal.play_laid-requires
play_laid-requires g c = c.requires

pub returns-clause-plays : goal.returns-clause-plays
returns-clause-plays g c = c.play_laid.ensures.plays

pub returns-clause-step : goal.returns-clause-step
returns-clause-step g c = c.play_laid.ensures.step

pub returns-clause-emptied : goal.returns-clause-emptied
returns-clause-emptied g c = c.play_laid.ensures.emptied

pub returns-clause-write_fault : goal.returns-clause-write_fault
returns-clause-write_fault g c = c.play_laid.ensures.write_fault

pub returns-clause-silent : goal.returns-clause-silent
returns-clause-silent g c = c.play_laid.ensures.silent
