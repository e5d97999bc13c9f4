-- How a line stands, as one pass over its history carries it along.
use Rattle.std.specs.Prelude.{◌≡◌, ℕ, ◌+◌, Bool, not, ◌&&◌, ◌||◌, if◌then◌else◌, List}
use Rattle.irq_base.specs.declared.entries.Entry.{Entry}
use Rattle.irq_base.specs.declared.entries.Entry.TheVariants as by
use Rattle.irq_base.specs.declared.entries.CallEntry.{CallEntry}
use Rattle.irq_base.specs.declared.entries.LinkAnswer.{LinkAnswer}
use Rattle.irq_base.specs.declared.entries.Opened.{Opened}
use Rattle.irq_model.specs.Places.{since_place, upto_place, count_of}
use Rattle.irq_model.specs.Kinds.{is_linked_request, is_linked_answer, is_last_unlink, is_start}
use Rattle.irq_model.specs.Kinds.{is_started_opened, is_lowering_opened, is_unlink}
use Rattle.irq_model.specs.Links.{is_none_linked, is_reset, base, is_deepening, is_lowering}
use Rattle.log_summary.specs.Gained.{one_if}
use Rattle.log_summary.specs.declared.standing.Standing.{Standing}

-- what the depth was raised to since it last got a value of its own
abbrev pub raised : List Entry → ℕ
raised past = base (upto_place is_reset past) + count_of is_deepening (since_place is_reset past)

-- how often it was lowered since then
abbrev pub lowered : List Entry → ℕ
lowered past = count_of is_lowering (since_place is_reset past)

-- the line stands so after these entries, the newest first
pub record StandsAfter (past : List Entry) (s : Standing) : Type 0 where
  pub linked : s.linked ≡ not (is_none_linked past)
  pub raised_is : s.raised ≡ raised past
  pub lowered_is : s.lowered ≡ lowered past

-- the entry gives the depth a value of its own
abbrev pub resets : Standing → Entry → Bool
resets s e = is_last_unlink e || (is_linked_request e && not s.linked)

-- how the line stands after one entry more that tells whether it is the last unlink
abbrev pub standing_with : Standing → Entry → Standing
standing_with s e =
    record {
      linked = if is_unlink e then not (is_last_unlink e) else (s.linked || is_linked_request e);
      raised =
          if resets s e then (if is_start e then 0 else 1)
          else (s.raised + one_if (is_deepening e));
      lowered = if resets s e then 0 else (s.lowered + one_if (is_lowering e));
    }

-- how the line stands after a call, whoever made it: as after one of a driver's
abbrev pub called_standing : Standing → CallEntry → Standing
called_standing s call = standing_with s (by.DriverCall (record { 0 = 0 }) call)

-- how the line stands after a request
abbrev pub requested_standing : Standing → LinkAnswer → Opened → Standing
requested_standing s answer opened =
    record {
      linked = s.linked || is_linked_answer answer;
      raised =
          if (is_linked_answer answer && not s.linked)
          then (if is_started_opened opened then 0 else 1) else s.raised;
      lowered =
          if (is_linked_answer answer && not s.linked) then 0
          else (s.lowered + one_if (is_lowering_opened opened));
    }
