-- A play that was made is a play to the history.
use Rattle.std.proofs.Common.{◌≡◌, ◌≤◌, List, ◌++◌, length, reverse, sym, ap, subst, ◌∙◌}
use Rattle.std.proofs.lemmas.List.{reverse-append, reverse-reverse}
use Rattle.irq_base.specs.declared.entries.Actor.{Actor}
use Rattle.irq_base.specs.declared.entries.Entry.{Entry}
use Rattle.irq_base.specs.declared.numbers.LineNo.{LineNo}
use Rattle.board_def.specs.Seen.{BoardSeen}
use Rattle.board_core.specs.Seen.{SystemSeen}
use Rattle.board_play.specs.Lines.{Move}
use Rattle.board_play.specs.Play.{Plays}
use Rattle.explore_picks.specs.Printed.{BeginPlays, IsPlayTo, PrintsPlayTo}
use Rattle.explore_picks.specs.Rows.{picks_text}
use Rattle.explore_picks.specs.Small.{HasSmallMove}
use Rattle.explore_picks.specs.Stated.{IsNameable}
use Rattle.explore_picks.proofs.Lawful.{CanWrite, checks}
use Rattle.explore_picks.proofs.Named.{all_named}
use Rattle.explore_picks.proofs.Printable.{moves_have_rows}
use Rattle.explore_picks.proofs.Stating.{are_stated}
use Rattle.irq_base.specs.declared.devices.Run.{Run}
use Rattle.irq_io.specs.Whole.{WritesAll}
use Rattle.irq_io.specs.declared.whole.WriteFailed.{WriteFailed}
use Rattle.play_report.specs.Printing.{HasRow}
use Rattle.play_report.specs.Report.{moves_text}
use Rattle.board_core.specs.Runs.{runs_of}
use Rattle.board_def.specs.Rules.{IsBoard}
use Rattle.board_report.proofs.Printable.{turned}
use Rattle.std.proofs.Common.{ℕ, Option, Result, [], ◌∷◌}
use Rattle.std.specs.Prelude.{All}
use Rattle.std.proofs.lemmas.List.Elements.{All-cons, All-head, All-nil, All-tail}
use Rattle.explore_picks.proofs.Beginning.{begins_each}
use Rattle.explore_picks.specs.Made.{ArePicked, IsMade}

begin_plays : (b : BoardSeen) (picks : List Actor) (g : List Move) → ArePicked b (reverse picks) (reverse g) → BeginPlays b picks g
begin_plays b picks g picked = λ more h end p.
    let same : reverse (reverse picks) ++ more ≡ picks ++ more = ap (λ (ps : List Actor). ps ++ more) (reverse-reverse picks) in
    let began = begins_each b (reverse picks) (reverse g) more (reverse h) end picked
    (subst (λ (ps : List Actor). Plays b ps (reverse h) end) (sym same) p) in (
      reverse began.0,
      sym (reverse-reverse h) ∙ (ap (λ (x : List Move). reverse x) began.1
          ∙ (reverse-append began.0 (reverse g) ∙ ap (λ (x : List Move). x ++ reverse began.0) (reverse-reverse g))),
    )

module _ (s : SystemSeen) (b : BoardSeen) (board : IsBoard b) (line : LineNo) (es : List Entry) (picks : List Actor) (same : s.board ≡ b)
    (made : IsMade s picks line es) where
  picked : ArePicked b (reverse picks) (reverse s.log)
  picked = subst (λ (x : BoardSeen). ArePicked x (reverse picks) (reverse s.log)) same made.picked

  named : All IsNameable picks
  named = subst (All IsNameable) (reverse-reverse picks) (turned IsNameable (reverse picks) (all_named b board (reverse picks) (reverse s.log) picked))

  play_to : length picks ≤ 65536 → IsPlayTo b line es picks s.log
  play_to few = record {
    picked = picked;
    begin = begin_plays b picks s.log picked;
    part = made.part;
    few = few;
    stated = are_stated picks named;
  }

  can_write : (g : List Move) → All HasRow g → All HasSmallMove g → All CanWrite g
  can_write [] rows small = All-nil CanWrite
  can_write (m ∷ g) rows small =
      let head = All-head HasSmallMove m g small in
      All-cons CanWrite m g (head.0, record { printable = All-head HasRow m g rows; small = head.1 })
      (can_write g (All-tail HasRow m g rows) (All-tail HasSmallMove m g small))

  -- such a play, as it is printed
  pub prints : (heard : List Run → Type 0) (old new : Option (List ℕ)) (end : Result Unit WriteFailed) → length picks ≤ 65536 → All HasSmallMove s.log
      → heard (runs_of b (reverse s.log)) → WritesAll old new (moves_text s.log ++ picks_text picks) end → PrintsPlayTo b line es heard old new end
  prints heard old new end few small runs printed = record {
    moves = s.log;
    picks = picks;
    play = play_to few;
    runs = runs;
    lawful = λ own. checks b board own picks s.log picked (can_write s.log (moves_have_rows b (reverse picks) s.log picked) small) named;
    printed = printed;
  }
