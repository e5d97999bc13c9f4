-- What holds of one line, from the laws of legal histories.
use Rattle.std.proofs.Common.{◌≡◌, List, [], ◌∷◌, ◌++◌, reverse, subst}
use Rattle.std.proofs.lemmas.List.{reverse-append}
use Rattle.irq_base.specs.declared.entries.Entry.{Entry}
use Rattle.irq_base.specs.declared.lines.LineDef.{LineDef}
use Rattle.irq_model.specs.Legal.{IsLegal, IsLegalPast}
use Rattle.irq_model.specs.Valid.{IsValid}
use Rattle.irq_model.specs.Waits.{IsAtRest, is_unfinished_actor}
use Rattle.irq_laws.proofs.CoverLaws.{is_covered_law}
use Rattle.irq_laws.proofs.Lists.{both_ways}
use Rattle.irq_laws.proofs.ReasonLaws.{has_reason}
use Rattle.irq_laws.proofs.RunLaws.{no_overlap, silent_after_free, keeps_oneshot, synchronised}
use Rattle.irq_laws.proofs.ScriptLaws.{follows_scripts, follows_run_scripts}
use Rattle.irq_laws.proofs.LeftEnabled.{left_enabled}
use Rattle.irq_laws.proofs.RestLaws.{at_rest_is_delivered, at_rest_is_quiet, at_rest_is_settled}
use Rattle.irq_laws.proofs.ServedLaws.{served_when_idle}
use Rattle.irq_laws.proofs.TakeLaws.{takes_are_counted}
use Rattle.play_laws.proofs.Rest.{hung_unfinished}
use Rattle.board_report.specs.Headline.{HoldsAt, KeepsLaws, LineHeadline}

-- a beginning of a legal history is legal
older : (def : LineDef) (newer past : List Entry) → IsLegalPast def (newer ++ past) → IsLegalPast def past
older def [] past legal = legal
older def (e ∷ newer) past legal = older def newer past legal.1

beginning : (def : LineDef) (h before after : List Entry) → IsLegal def h → h ≡ before ++ after → IsLegal def before
beginning def h before after legal is =
    older def (reverse after) (reverse before)
    (subst (λ (xs : List Entry). IsLegalPast def xs) (reverse-append before after) (subst (λ (xs : List Entry). IsLegal def xs) is legal))

holds_at : (def : LineDef) (h : List Entry) → IsValid def → IsLegal def h → HoldsAt def h
holds_at def h valid legal = record {
  covered = is_covered_law def h valid legal;
  has_reason
      = has_reason def h valid legal;
  served_when_idle = served_when_idle def h valid legal;
}

pub keeps_laws : (def : LineDef) (h : List Entry) → IsValid def → IsLegal def h → KeepsLaws def h
keeps_laws def h valid legal =
    record {
      legal = legal;
      no_overlap = no_overlap def h valid legal;
      silent_after_free = silent_after_free def h valid legal;
      keeps_oneshot = keeps_oneshot def h valid legal;
      takes_are_counted = takes_are_counted def h legal;
      synchronised = synchronised def h valid legal;
      scripts = follows_scripts def h legal;
      run_scripts = follows_run_scripts def h legal;
      always = λ before after is. holds_at def before valid (beginning def h before after legal is);
    }

pub line_headline : (def : LineDef) (h : List Entry) → IsValid def → IsLegal def h → IsAtRest def h → LineHeadline def h
line_headline def h valid legal at_rest =
    record {
      laws = keeps_laws def h valid legal;
      settled = at_rest_is_settled def h at_rest;
      delivered = at_rest_is_delivered def h valid legal at_rest;
      quiet = at_rest_is_quiet def h valid legal at_rest;
      unhung = λ a hung. both_ways (is_unfinished_actor def (reverse h) a) (hung_unfinished def (reverse h) a hung) (at_rest.done a);
      left_enabled = λ fits. left_enabled def h valid fits legal at_rest;
    }
