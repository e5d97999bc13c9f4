use Rattle.std.specs.Prelude.{reverse}
use Rattle.play_laws.proofs.Moves.{no_flow_left, no_thread_left}
use Rattle.play_laws.proofs.still_is_idle.Goals as goal

pub returns : goal.returns
returns c = record {
  no_flow = λ def h valid runs legal still unhung. no_flow_left def (reverse h) runs legal still unhung;
  no_thread = λ def h valid runs legal ends unhung d. no_thread_left def (reverse h) valid runs legal ends unhung d;
}
