-- One more statement without a fault.
use Rattle.std.proofs.Common.{◌≡◌, List, ◌∷◌, sym, ap, subst, ◌∙◌}
use Rattle.board_def.specs.Rules.{IsBoard}
use Rattle.board_def.specs.Seen.{BoardSeen}
use Rattle.board_stated.specs.Sections.{section_in, writer_after, writer_of, turn_after}
use Rattle.board_stated.specs.Sound.{draft_of}
use Rattle.board_stated.specs.Stated.{with_statement}
use Rattle.board_stated.proofs.Kept.{draft_is_board}
use Rattle.board_words.specs.declared.statements.Statement.{Statement}
use Rattle.board_text.specs.Kept.{place_of, stood_after, drafted, log_after, Agrees, IsNext}
use Rattle.board_text.specs.Owned.{Owns}
use Rattle.board_text.specs.declared.reader.Reader.{Reader}
use Rattle.board_text.proofs.Drafts.{draft_more, calls_more, log_more}

pub next_is_board : (r : Reader) (s : Statement) → IsNext r s → IsBoard (drafted r.writer s r.board)
next_is_board r s h =
    subst IsBoard (draft_more h.past s ∙ (ap (drafted (writer_of h.past) s) (sym h.agrees.board) ∙ ap (λ w. drafted w s r.board) (sym h.agrees.writer)))
    (draft_is_board (s ∷ h.past) h.sound)

pub agrees_more : (past : List Statement) (r q : Reader) (s : Statement) → Agrees past r → q.board ≡ drafted r.writer s r.board
    → q.log ≡ log_after r.log s → place_of q.section ≡ section_in (place_of r.section) s → q.writer ≡ writer_after r.writer s
    → q.turn ≡ turn_after r.turn s → q.stood ≡ stood_after (s ∷ past)
    → Owns q.owners (with_statement r.writer s r.board).calls → Agrees (s ∷ past) q
agrees_more past r q s h board log section writer turn stood owners = record {
  board = board ∙ (ap (drafted r.writer s) h.board ∙ (ap (λ w. drafted w s (draft_of past)) h.writer ∙ sym (draft_more past s)));
  log = log ∙ (ap (λ n. log_after n s) h.log ∙ sym (log_more past s));
  section = section ∙ ap (λ n. section_in n s) h.section;
  writer = writer ∙ ap (λ w. writer_after w s) h.writer;
  turn = turn ∙ ap (λ n. turn_after n s) h.turn;
  stood = stood;
  owners = subst (Owns q.owners) (ap (λ (b : BoardSeen). (with_statement r.writer s b).calls) h.board
      ∙ (ap (λ w. (with_statement w s (draft_of past)).calls) h.writer ∙ sym (calls_more past s))) owners;
}

pub owns_read : (past : List Statement) (r : Reader) → Agrees past r → Owns r.owners r.board.calls
owns_read past r h = subst (Owns r.owners) (sym (ap (λ (b : BoardSeen). b.calls) h.board)) h.owners
