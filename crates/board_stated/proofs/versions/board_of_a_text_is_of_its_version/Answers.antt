use Rattle.board_stated.proofs.OldTexts.{text_is_of_its_version}
use Rattle.board_stated.proofs.versions.board_of_a_text_is_of_its_version.Goals as goal

pub returns : goal.returns
returns c = text_is_of_its_version
