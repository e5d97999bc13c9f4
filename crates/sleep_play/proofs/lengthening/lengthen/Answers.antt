use Rattle.std.proofs.Common.{sym, ap, ◌∙◌}
use Rattle.board_def.specs.Seen.{BoardSeen}
use Rattle.board_def.specs.Unnamed.{defs_of}
use Rattle.board_layout.specs.Laid.{paths_of}
use Rattle.sleep_play.proofs.lengthening.lengthen.Goals as goal

pub returns-in-Ok-with_sleep-clause-longer : goal.returns-in-Ok-with_sleep-clause-longer
returns-in-Ok-with_sleep-clause-longer c =
    record { board = c.is_board.ensures.board; fits = sym c.if-not-fits_sleep.ensures; slept = c.in-Ok-with_sleep.ensures.board }

pub returns-in-Ok-with_sleep-clause-laid : goal.returns-in-Ok-with_sleep-clause-laid
returns-in-Ok-with_sleep-clause-laid c = record {
  domains = c.in-Ok.ensures.domains ∙ ap (λ (b : BoardSeen). defs_of b.domains) (sym c.in-Ok-with_sleep.ensures.board);
  paths = c.in-Ok.ensures.paths ∙ ap paths_of (sym c.in-Ok-with_sleep.ensures.layout);
  layout = c.in-Ok.ensures.layout ∙ sym c.in-Ok-with_sleep.ensures.layout;
}
