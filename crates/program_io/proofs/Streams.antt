-- What is left of the streams, where a program ends early, and over std's.
use Rattle.std.proofs.Common.{◌≡◌, ℕ, ◌++◌, true, false, Bool, Option, Some, None, List, [], refl, sym, ap, subst, ◌∙◌}
use Rattle.std.proofs.lemmas.List.{append-nil}
use Rattle.std.specs.Global.{Global}
use Rattle.std.specs.Io.Buffered.{writer_buffer, writer_contents, writer_inner}
use Rattle.std.specs.Io.KnownBytes.{append_known}
use Rattle.std.specs.declared.io.buffered.BufWriter.{BufWriter}
use Rattle.irq_io.specs.Faults.{Counts}
use Rattle.irq_io.specs.StdStreams.{StdSinkSeen, StdSourceSeen}
use Rattle.program_io.specs.ErrorRows.{Tells}
use Rattle.program_io.specs.Streams.{EndSeen, IsEarly, IsUnwritten, KeepsError, KeepsOutput, KeepsStdStreams, KeepsStreams}

no_fault : (n : ℕ) (failed : Bool) → failed ≡ false → Counts n n failed
no_fault n failed none = subst (λ (b : Bool). Counts n n b) (sym none) refl

not_both : (b : Bool) (P : Type 0) → b ≡ false → b ≡ true → P
not_both true P isnt is = cc
not_both false P isnt is = cc

-- nothing was printed
pub output_early : {O : Type 0} (end : EndSeen) (out : O) (kept : List ℕ) (n : ℕ) → end.printed ≡ false → end.write_failed ≡ false
    → KeepsOutput end (out ≡ out) kept n n
output_early end out kept n unprinted unwritten = record {
  emptied = λ printed. not_both end.printed _ unprinted printed;
  write_fault = no_fault n end.write_failed unwritten;
  silent = λ silent. refl;
}

-- an ending that is told, before anything was read or printed
pub keeps_early : {S O E : Type 0} (end : EndSeen) (reads : S → ℕ) (src : S) (kept : O → List ℕ) (writes : O → ℕ) (out : O)
    (told : E → Option (List ℕ)) (untold : E → List ℕ) (tells : E → ℕ) (err err_now : E) → IsEarly end
    → Tells end.row (told err) (told err_now) (untold err_now) (tells err) (tells err_now)
    → KeepsStreams end reads src src kept writes out out told untold tells err err_now
keeps_early end reads src kept writes out told untold tells err err_now early says = record {
  read_fault = no_fault (reads src) end.read_failed early.unread;
  output = output_early end out (kept out) (writes out) early.unprinted early.unwritten;
  error = record {
    tells = λ told. says;
    quiet = λ quiet. not_both end.is_quiet _ early.told quiet;
  };
}

-- ---- a writer of std behind an empty buffer

nothing_more : (known : Option (List ℕ)) (bytes : List ℕ) → bytes ≡ [] → append_known known bytes ≡ known
nothing_more None bytes none = refl
nothing_more (Some xs) bytes none = ap Some (ap (λ (ys : List ℕ). xs ++ ys) none ∙ append-nil xs)

pub unbuffered : {T A : Type 0} (contents : T → Option (List ℕ)) (w : BufWriter T A) (inner : T)
    → writer_inner w ≡ inner → writer_buffer w ≡ [] → writer_contents contents w ≡ contents inner
unbuffered contents w inner is none = nothing_more (contents w.inner) (writer_buffer w) none ∙ ap contents is

-- what was told on the error stream, of the stream as it was handed in
tells_from : {T A : Type 0} (contents : T → Option (List ℕ)) (row : List ℕ) (w : BufWriter T A) (inner : T) (now : Option (List ℕ))
    (kept : List ℕ) (at_first faults : ℕ) → writer_inner w ≡ inner → writer_buffer w ≡ [] → at_first ≡ 0
    → Tells row (writer_contents contents w) now kept at_first faults → Tells row (contents inner) now kept 0 faults
tells_from contents row w inner now kept at_first faults is none zero told =
    subst (λ (n : ℕ). Tells row (contents inner) now kept n faults) zero
    (subst (λ (before : Option (List ℕ)). Tells row before now kept at_first faults) (unbuffered contents w inner is none) told)

module _ {O E : Type 0} (end : EndSeen) (contents : O → Option (List ℕ)) (output : O) (told : E → Option (List ℕ)) (error : E)
    (err err_now : StdSinkSeen (BufWriter E Global)) (err_is : writer_inner err.writer ≡ error) (err_empty : writer_buffer err.writer ≡ [])
    (err_zero : err.faults ≡ 0) where
  -- the error stream
  error_from : KeepsError end (err_now ≡ err) (writer_contents told err.writer) (writer_contents told err_now.writer)
      (writer_buffer err_now.writer) err.faults err_now.faults
      → KeepsError end (IsUnwritten error err_now) (told error) (writer_contents told err_now.writer) (writer_buffer err_now.writer) 0
      err_now.faults
  error_from keeps = record {
    tells = λ unsaid. tells_from told end.row err.writer error (writer_contents told err_now.writer) (writer_buffer err_now.writer) err.faults
        err_now.faults err_is err_empty err_zero (keeps.tells unsaid);
    quiet = λ quiet. subst (λ (s : StdSinkSeen (BufWriter E Global)). IsUnwritten error s) (sym (keeps.quiet quiet)) (err_is, err_empty);
  }

  -- there was memory for the buffer
  pub keeps_std : {R : Type 0} (src src_now : StdSourceSeen R) (out out_now : StdSinkSeen (BufWriter O Global)) → src.faults ≡ 0
      → writer_inner out.writer ≡ output → writer_buffer out.writer ≡ [] → out.faults ≡ 0
      → KeepsStreams end (λ (s : StdSourceSeen R). s.faults) src src_now
      (λ (s : StdSinkSeen (BufWriter O Global)). writer_buffer s.writer) (λ (s : StdSinkSeen (BufWriter O Global)). s.faults) out out_now
      (λ (s : StdSinkSeen (BufWriter E Global)). writer_contents told s.writer)
      (λ (s : StdSinkSeen (BufWriter E Global)). writer_buffer s.writer) (λ (s : StdSinkSeen (BufWriter E Global)). s.faults) err err_now
      → KeepsStdStreams end src_now.faults contents output (Some out_now) told error err_now
  keeps_std src src_now out out_now src_zero out_is out_empty out_zero keeps = record {
    read_fault = subst (λ (n : ℕ). Counts n src_now.faults end.read_failed) src_zero keeps.read_fault;
    output = record {
      emptied = keeps.output.emptied;
      write_fault = subst (λ (n : ℕ). Counts n out_now.faults end.write_failed) out_zero keeps.output.write_fault;
      silent = λ unprinted. subst (λ (s : StdSinkSeen (BufWriter O Global)). IsUnwritten output s) (sym (keeps.output.silent unprinted))
          (out_is, out_empty);
    };
    handed_on = λ printed. unbuffered contents out_now.writer (writer_inner out_now.writer) refl (keeps.output.emptied printed);
    error = error_from keeps.error;
  }

  -- there was none, and that was told
  pub keeps_unbuffered : (reads : ℕ) → reads ≡ 0 → IsEarly end
      → Tells end.row (writer_contents told err.writer) (writer_contents told err_now.writer) (writer_buffer err_now.writer) err.faults
      err_now.faults
      → KeepsStdStreams end reads contents output None told error err_now
  keeps_unbuffered reads zero early says = record {
    read_fault = subst (λ (n : ℕ). Counts 0 n end.read_failed) (sym zero) (no_fault 0 end.read_failed early.unread);
    output = tt;
    handed_on = λ printed. tt;
    error = record {
      tells = λ unsaid. tells_from told end.row err.writer error (writer_contents told err_now.writer) (writer_buffer err_now.writer) err.faults
          err_now.faults err_is err_empty err_zero says;
      quiet = λ quiet. not_both end.is_quiet _ early.told quiet;
    };
  }
