-- The state of a line follows its history.
use Rattle.std.proofs.Common.{◌≡◌, List, [], ◌∷◌, refl, sym, ap, ◌∙◌}
use Rattle.irq_base.specs.declared.entries.Entry.{Entry}
use Rattle.irq_base.specs.declared.lines.LineDef.{LineDef}
use Rattle.irq_base.specs.declared.numbers.DevNo.{DevNo}
use Rattle.irq_model.specs.Legal.{IsLegalPast}
use Rattle.irq_model.specs.Valid.{IsValid}
use Rattle.irq_laws.specs.Driven.{cell_after}
use Rattle.line_marks.proofs.ActionsFollow.{bare_is}
use Rattle.line_marks.proofs.AimFollow.{aim_more}
use Rattle.line_marks.proofs.AsksFollow.{asks_first, asks_more}
use Rattle.line_marks.proofs.CellFollows.{cell_more}
use Rattle.line_marks.proofs.CountsFollow.{tally_more}
use Rattle.line_marks.proofs.DescFollow.{desc_follows}
use Rattle.line_marks.proofs.FreeingFollows.{freeing_more}
use Rattle.line_marks.proofs.ListFollows.{list_more}
use Rattle.line_marks.proofs.PlacesFollow.{places_more, runs_first}
use Rattle.line_marks.proofs.RoundsFollow.{round_more}
use Rattle.line_marks.proofs.TargetFollow.{aimed_more}
use Rattle.line_marks.proofs.ThreadsFollow.{threads_follow}
use Rattle.line_marks.proofs.UpFollow.{active_follows}
use Rattle.device_table.proofs.Tables.{same_table}
use Rattle.ask_counts.specs.Rows.{no_asks}
use Rattle.run_scripts.specs.Places.{first_place, first_row}
use Rattle.run_scripts.specs.declared.rows.RunRow.{RunRow}
use Rattle.line_marks.specs.Asks.{ask_row}
use Rattle.line_marks.specs.Desc.{desc_of, desc_after}
use Rattle.line_marks.specs.Places.{run_row}
use Rattle.line_marks.specs.State.{StateSeen, first_state, state_of, state_after}

same_state : (a b : StateSeen) → a.desc ≡ b.desc → a.cell ≡ b.cell → a.active ≡ b.active → a.aimed ≡ b.aimed
    → a.aim ≡ b.aim → a.list ≡ b.list → a.threads ≡ b.threads → a.asks ≡ b.asks → a.facts ≡ b.facts → a.places ≡ b.places → a.round ≡ b.round
    → a.counts ≡ b.counts → a.freeing ≡ b.freeing → a ≡ b
same_state a b h i j k l m n o p q r s t =
    (let e : ◌≡◌ {A = StateSeen} (record {
      desc = a.desc;
      cell = a.cell;
      active = a.active;
      aimed = a.aimed;
      aim = a.aim;
      list = a.list;
      threads = a.threads;
      asks = a.asks;
      facts = a.facts;
      places = a.places;
      round = a.round;
      counts = a.counts;
      freeing = a.freeing;
    }) b = rw (h, i, j, k, l, m, n, o, p, q, r, s, t) refl in e)

pub state_follows : (def : LineDef) (e : Entry) (past : List Entry) → IsValid def → IsLegalPast def (e ∷ past)
    → state_of def (e ∷ past) ≡ state_after def e (state_of def past)
state_follows def e past valid legal =
    same_state (state_of def (e ∷ past)) (state_after def e (state_of def past))
    (desc_follows def e past valid legal ∙ ap (λ b. desc_after def b e (desc_of def past)) (sym (bare_is def past valid legal.1)))
    (cell_more def e past (cell_after def past) valid)
    (active_follows def e past valid legal)
    (aimed_more def e past)
    (aim_more def e past)
    (list_more def e past valid)
    (threads_follow def e past valid legal)
    (asks_more def e past valid)
    refl
    (places_more def e past valid legal)
    (round_more def e past)
    (tally_more def e past)
    (freeing_more e past)

-- it begins as one to which nothing was done
pub state_first : (def : LineDef) → state_of def [] ≡ first_state def
state_first def =
    same_state (state_of def []) (first_state def) refl refl refl refl refl refl refl
    (same_table (λ d. no_asks) (ask_row def []) def.devices (asks_first def)) refl
    (ap (λ (t : List (DevNo × RunRow)). record { work = first_place; rows = t })
    (same_table (λ d. first_row) (run_row def []) def.devices (runs_first def))) refl refl refl
