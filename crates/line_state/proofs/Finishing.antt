-- A finish that is due finds what the row says.
use Rattle.std.proofs.Common.{◌≡◌, ℕ, ◌-◌, Bool, true, false, ◌&&◌, not, ltb, Some, refl, sym, ap, ◌∙◌, arith}
use Rattle.irq_base.specs.declared.entries.Entry.TheVariants as by
use Rattle.irq_base.specs.declared.entries.ThreadEntry.TheVariants as threads
use Rattle.irq_base.specs.declared.numbers.DevNo.{DevNo}
use Rattle.device_table.proofs.Weights.{weight_put}
use Rattle.device_table.specs.Rows.{at, put, change}
use Rattle.device_table.specs.Sums.{one_if}
use Rattle.act_thread.specs.Steps.{finished_row}
use Rattle.act_thread.specs.Threads.{held_in, finishes_at}
use Rattle.act_thread.specs.declared.rows.Finished.{Finished}
use Rattle.act_thread.specs.declared.rows.Finished.TheVariants as finishes
use Rattle.act_thread.specs.declared.rows.Stage.TheVariants as stages
use Rattle.act_thread.specs.declared.rows.ThreadRow.{ThreadRow}
use Rattle.flow_handlers.specs.Flows.{may_open}
use Rattle.line_marks.specs.Due.{finish_opens}
use Rattle.line_marks.specs.State.{StateSeen}
use Rattle.line_state.specs.Entries.{is_kept, is_cleared, finish_by}

none_held : (b : Bool) → (b && false) ≡ false
none_held true = refl
none_held false = refl

abbrev held_row : ThreadRow → ℕ
held_row r = one_if r.held

-- the bits that stand once this one is given up
less : (s : StateSeen) (d : DevNo) (row : ThreadRow) → at s.threads d ≡ Some row → row.stage ≡ stages.Returned
    → row.woken ≡ false → held_in (put s.threads d (finished_row row)) ≡ held_in s.threads - one_if row.held
less s d row there returned idle =
    let gone : one_if (finished_row row).held ≡ 0 = rw (returned, idle, none_held row.held) refl in
    let both = weight_put held_row s.threads d row (finished_row row) there in
    omega (arith, both, gone)

pub finish_is : (s : StateSeen) (d : DevNo) (row : ThreadRow) → at s.threads d ≡ Some row → row.stage ≡ stages.Returned
    → finish_by s d ≡ by.Thread d (threads.Finish row.woken (finish_opens s row))
finish_is s d row there returned = by_woken row.woken refl
  where
    by_woken : (w : Bool) → row.woken ≡ w → finish_by s d ≡ by.Thread d (threads.Finish row.woken (finish_opens s row))
    by_woken true is = rw (there, returned, is) refl
    by_woken false is =
        let found : finishes_at s.threads d ≡ finishes.Cleared = rw (there, returned, is) refl in
        let held : held_in (change finished_row s.threads d) ≡ held_in s.threads - one_if row.held = rw there (less s d row there returned is) in
        ap (λ (x : Finished). by.Thread d (threads.Finish (is_kept x)
        (is_cleared x && may_open (ltb 0 (held_in (change finished_row s.threads d))) s.desc))) found
        ∙ (ap (λ n. by.Thread d (threads.Finish false (may_open (ltb 0 n) s.desc))) held
        ∙ ap (λ w. by.Thread d (threads.Finish w (not w && may_open (ltb 0 (held_in s.threads - one_if row.held)) s.desc))) (sym is))
