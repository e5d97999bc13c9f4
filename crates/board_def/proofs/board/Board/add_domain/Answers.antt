use Rattle.std.proofs.Common.{◌++◌, [], ◌∷◌, sym, subst}
use Rattle.board_def.specs.Inside.{board_seen}
use Rattle.board_def.specs.Rules.{IsBoard, IsDomainRowAfter}
use Rattle.board_def.specs.Seen.{BoardSeen}
use Rattle.domain_rules.proofs.EachAfters.{each_last}
use Rattle.board_def.proofs.Tabled.{no_domain}
use Rattle.board_def.proofs.board.Board.add_domain.Goals as goal

pub push-requires : goal.push-requires
push-requires c =
    let b = board_seen c.self.inside in
    let row = c.args.row in
    let after = subst (λ (b : BoardSeen). IsBoard (record b { domains = b.domains ++ row ∷ [] })) (sym c.self.view_is) c.requires.board in
    no_domain row.name b.domains (each_last IsDomainRowAfter b.domains row after.domains).new
