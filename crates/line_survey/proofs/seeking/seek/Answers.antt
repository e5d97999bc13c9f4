use Rattle.std.proofs.Common.{◌≡◌, true, false, subst}
use Rattle.std.specs.Prelude.{IfOk}
use Rattle.irq_model.specs.Legal.{IsDue}
use Rattle.line_words.specs.Node.{node}
use Rattle.state_search.specs.Paths.{Searches, LeavesOut, IsNearest, NoneWanted}
use Rattle.state_search.specs.Seen.{cut_of}
use Rattle.line_survey.specs.Answers.{IsMetBy}
use Rattle.line_survey.specs.Wanting.{WantedSeen}
use Rattle.line_survey.proofs.seeking.seek.Goals as goal

pub returns-clause-paths : goal.returns-clause-paths
returns-clause-paths c =
    subst (λ (v : WantedSeen). IfOk c.search_through.result (λ s. Searches (IsDue v.def) (node v.def) s.found.paths s.found.looked (cut_of s.found)))
    c.in_ok-space.ensures c.search_through.ensures.paths

pub returns-clause-met : goal.returns-clause-met
returns-clause-met c =
    subst (λ (v : WantedSeen). IfOk c.search_through.result
    (λ s. s.is_met ≡ true → IsNearest (IsDue v.def) (IsMetBy v.def v.wanted) s.found.paths s.found.looked))
    c.in_ok-space.ensures c.search_through.ensures.met

pub returns-clause-none : goal.returns-clause-none
returns-clause-none c =
    subst (λ (v : WantedSeen). IfOk c.search_through.result
    (λ s. NoneWanted (IsDue v.def) (IsMetBy v.def v.wanted) s.found.paths s.found.looked (cut_of s.found)))
    c.in_ok-space.ensures c.search_through.ensures.none

pub returns-clause-left_out : goal.returns-clause-left_out
returns-clause-left_out c =
    subst (λ (v : WantedSeen). IfOk c.search_through.result (λ s. s.is_met ≡ false → LeavesOut (IsDue v.def) (node v.def) s.found.paths s.found.looked))
    c.in_ok-space.ensures c.search_through.ensures.left_out
