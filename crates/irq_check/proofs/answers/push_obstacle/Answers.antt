use Rattle.std.proofs.Common.{◌≡◌, ◌++◌, List, ℕ, codes, sym, ap, subst, ◌∙◌}
use Rattle.std.proofs.lemmas.List.{append_assoc}
use Rattle.line_obstacles.specs.declared.obstacle.Obstacle.{Obstacle}
use Rattle.log_text.specs.EntryWords.{actor_word}
use Rattle.irq_check.specs.AnswerText.{obstacle_text}
use Rattle.irq_check.proofs.answers.push_obstacle.Goals as goal

pub returns-in-Mutex-clause-text : goal.returns-in-Mutex-clause-text
returns-in-Mutex-clause-text c =
    subst (λ (o : Obstacle). c.push_actor.new.row ≡ c.args.row.now ++ obstacle_text o) (sym c.in-Mutex.is)
    (c.push_actor.ensures.text
    ∙ (ap (λ (bytes : List ℕ). bytes ++ actor_word c.in-Mutex.holder) c.push_bytes-in-Mutex.ensures
    ∙ append_assoc c.args.row.now (codes "the mutex of ") (actor_word c.in-Mutex.holder)))
