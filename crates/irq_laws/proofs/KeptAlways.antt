-- Every legal past keeps what each entry keeps.
use Rattle.std.proofs.Common.{List, [], ◌∷◌}
use Rattle.irq_base.specs.declared.lines.LineDef.{LineDef}
use Rattle.irq_base.specs.declared.entries.Entry.{Entry}
use Rattle.irq_model.specs.Places.{EachEntry}
use Rattle.irq_model.specs.Legal.{IsDue, IsLegalPast}
use Rattle.irq_model.specs.Valid.{IsValid}
use Rattle.irq_laws.specs.Kept.{Kept}
use Rattle.irq_laws.proofs.RunsKept.{runs_more, no_runs}
use Rattle.irq_laws.proofs.FreesKept.{frees_more, no_frees}
use Rattle.irq_laws.proofs.RestKept.{rest_kept, no_rest}
use Rattle.irq_laws.proofs.WantedKept.{wanted_kept, none_wanted}
use Rattle.irq_laws.proofs.DepthKept.{depth_more, no_depth}
use Rattle.irq_laws.proofs.EdgesKept.{edges_more, no_edges}
use Rattle.irq_laws.proofs.LevelsKept.{levels_more, no_levels}

pub kept_more : (def : LineDef) (e : Entry) (past : List Entry) → IsValid def → IsDue def e past → Kept def past → Kept def (e ∷ past)
kept_more def e past valid due k =
    record {
      runs = runs_more def e past due k.runs;
      frees = frees_more def e past due k.runs k.frees;
      rest = rest_kept def e past valid due k;
      wanted = wanted_kept def e past due k.frees k.wanted;
      depth = depth_more def e past due k.depth;
      edges = edges_more def e past valid due k.depth k.edges;
      levels = levels_more def e past valid due k k.depth k.wanted k.levels;
    }

pub kept_none : (def : LineDef) → Kept def []
kept_none def =
    record {
      runs = no_runs def;
      frees = no_frees def;
      rest = no_rest def;
      wanted = none_wanted def;
      depth
          = no_depth def;
      edges = no_edges def;
      levels = no_levels def;
    }

pub kept : (def : LineDef) (past : List Entry) → IsValid def → IsLegalPast def past → Kept def past
kept def [] valid legal = kept_none def
kept def (e ∷ past) valid legal = kept_more def e past valid legal.0 (kept def past valid legal.1)

-- a law of an entry and what stands before it
pub each : (def : LineDef) → IsValid def → (P : Entry → List Entry → Type 0)
    → ((e : Entry) (past : List Entry) → IsDue def e past → Kept def past → P e past) → (past : List Entry)
    → IsLegalPast def past → EachEntry P past
each def valid P law [] legal = tt
each def valid P law (e ∷ past) legal = (law e past legal.0 (kept def past valid legal.1), each def valid P law past legal.1)
