-- What a call of a program leaves of its streams, by how it ended.
use Rattle.std.specs.Prelude.{◌≡◌, ℕ, Bool, true, false, Option, Some, None, IfSome, List, []}
use Rattle.std.specs.Global.{Global}
use Rattle.std.specs.Io.Buffered.{writer_buffer, writer_contents, writer_inner}
use Rattle.std.specs.declared.io.buffered.BufWriter.{BufWriter}
use Rattle.irq_io.specs.Faults.{Counts}
use Rattle.irq_io.specs.StdStreams.{StdSinkSeen}
use Rattle.program_io.specs.ErrorRows.{Tells}

-- What an ending says of the streams: all that can be said of what was asked is printed; something
-- may have been printed; nothing is said on the error sink, else this row; a read or a write failed.
pub record EndSeen : Type 0 where
  pub printed : Bool
  pub printing : Bool
  pub is_quiet : Bool
  pub row : List ℕ
  pub read_failed : Bool
  pub write_failed : Bool

-- What it leaves of the output. With all printed nothing is kept back there; its count of faults
-- rose exactly if a write failed; and if nothing was printed it is the `same`.
pub record KeepsOutput (end : EndSeen) (same : Type 0) (kept : List ℕ) (before now : ℕ) : Type 0 where
  pub emptied : end.printed ≡ true → kept ≡ []
  pub write_fault : Counts before now end.write_failed
  pub silent : end.printing ≡ false → same

-- What it leaves of the error sink, which gained the row of the ending, or is the `same`.
pub record KeepsError (end : EndSeen) (same : Type 0) (told_before told_now : Option (List ℕ))
    (kept : List ℕ) (before now : ℕ) : Type 0 where
  pub tells : end.is_quiet ≡ false → Tells end.row told_before told_now kept before now
  pub quiet : end.is_quiet ≡ true → same

-- What it leaves of the source, whose count of faults rose exactly if a read failed, of the output
-- and of the error sink.
pub record KeepsStreams {S O E : Type 0} (end : EndSeen) (reads : S → ℕ) (src src_now : S)
    (kept : O → List ℕ) (writes : O → ℕ) (out out_now : O) (told : E → Option (List ℕ))
    (untold : E → List ℕ) (tells : E → ℕ) (err err_now : E) : Type 0 where
  pub read_fault : Counts (reads src) (reads src_now) end.read_failed
  pub output : KeepsOutput end (out_now ≡ out) (kept out_now) (writes out) (writes out_now)
  pub error : KeepsError end (err_now ≡ err) (told err) (told err_now) (untold err_now) (tells err)
      (tells err_now)

-- ---- over a reader and two writers of std

-- the writer is as it was, and its buffer is empty
abbrev pub IsUnwritten : {W : Type 0} → W → StdSinkSeen (BufWriter W Global) → Type 0
IsUnwritten writer sink = (writer_inner sink.writer ≡ writer) × (writer_buffer sink.writer ≡ [])

-- what the output has; without memory for its buffer, what its writer had
abbrev pub written_after : {W : Type 0} → (W → Option (List ℕ)) → W
    → Option (StdSinkSeen (BufWriter W Global)) → Option (List ℕ)
written_after contents writer None = contents writer
written_after contents writer (Some sink) = writer_contents contents sink.writer

-- What a call leaves of a reader and two writers. With all printed the output's writer has all of
-- it.
pub record KeepsStdStreams {O E : Type 0} (end : EndSeen) (reads : ℕ)
    (contents : O → Option (List ℕ)) (out : O)
    (out_now : Option (StdSinkSeen (BufWriter O Global))) (told : E → Option (List ℕ)) (err : E)
    (err_now : StdSinkSeen (BufWriter E Global)) : Type 0 where
  pub read_fault : Counts 0 reads end.read_failed
  pub output : IfSome out_now (λ sink. KeepsOutput end (IsUnwritten out sink)
      (writer_buffer sink.writer) 0 sink.faults)
  pub handed_on : end.printed ≡ true → IfSome out_now
      (λ sink. writer_contents contents sink.writer ≡ contents (writer_inner sink.writer))
  pub error : KeepsError end (IsUnwritten err err_now) (told err)
      (writer_contents told err_now.writer) (writer_buffer err_now.writer) 0 err_now.faults

-- an ending before anything was read or printed
pub record IsEarly (end : EndSeen) : Type 0 where
  pub unprinted : end.printed ≡ false
  pub unread : end.read_failed ≡ false
  pub unwritten : end.write_failed ≡ false
  pub told : end.is_quiet ≡ false
