use Rattle.std.specs.Prelude.{reverse}
use Rattle.play_laws.proofs.NobodyHangs.{nobody_hangs}
use Rattle.play_laws.proofs.Rest.{unwaiting_rests}
use Rattle.play_laws.proofs.unwaiting_rests.Goals as goal

pub returns : goal.returns
returns c = record {
  law = unwaiting_rests;
  unhung = λ def h a valid runs waits legal hung. nobody_hangs def (reverse h) valid runs waits legal a hung;
}
