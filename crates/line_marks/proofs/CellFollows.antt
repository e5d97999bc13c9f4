-- The cell of a line follows its history: what an entry does to the cell follows from the state.
use Rattle.std.proofs.Common.{◌≡◌, Bool, true, false, not, ◌||◌, ◌&&◌, cond, ltb, List, [], ◌∷◌, reverse, refl, sym, ap, ◌∙◌, subst}
use Rattle.std.proofs.lemmas.List.{reverse-reverse}
use Rattle.std.specs.List.{list_any}
use Rattle.irq_base.specs.Cell.{Cell, after_edge, after_high, signals as presents}
use Rattle.irq_base.specs.declared.devices.DeviceDef.{DeviceDef}
use Rattle.irq_base.specs.declared.entries.Entry.{Entry}
use Rattle.irq_base.specs.declared.entries.Entry.TheVariants as by
use Rattle.irq_base.specs.declared.entries.CpuEntry.TheVariants as cpus
use Rattle.irq_base.specs.declared.entries.ThreadEntry.TheVariants as threads
use Rattle.irq_base.specs.declared.entries.DriverEntry.TheVariants as drivers
use Rattle.irq_base.specs.declared.entries.CallEntry.{CallEntry}
use Rattle.irq_base.specs.declared.entries.CallEntry.TheVariants as called
use Rattle.irq_base.specs.declared.lines.LineDef.{LineDef}
use Rattle.irq_base.specs.declared.numbers.DevNo.{DevNo}
use Rattle.irq_model.specs.Asks.{is_high, is_quiet, unserved_asks}
use Rattle.irq_model.specs.Kinds.{is_kill}
use Rattle.irq_model.specs.Legal.{IsLegalPast}
use Rattle.irq_model.specs.Lines.{is_edge_line, is_level_line}
use Rattle.irq_model.specs.Signal.{signals}
use Rattle.irq_model.specs.Valid.{IsValid}
use Rattle.irq_laws.proofs.CellKept.{is_driven_cell}
use Rattle.irq_laws.proofs.KeptAlways.{kept}
use Rattle.irq_laws.specs.Driven.{cell_after, cell_of, called_on, driven, ended, masked_if}
use Rattle.device_table.specs.Rows.{table_by}
use Rattle.device_table.proofs.Weights.{some_passes}
use Rattle.ask_counts.specs.Facts.{all_facts}
use Rattle.ask_counts.specs.Rows.{is_waiting}
use Rattle.ask_counts.specs.declared.rows.AskRow.{AskRow}
use Rattle.line_marks.proofs.AsksFollow.{asks_more}
use Rattle.line_marks.specs.Asks.{ask_row, asks_of, asks_after}
use Rattle.line_marks.specs.Desc.{desc_of}
use Rattle.line_marks.specs.Expected.{IsOpen}
use Rattle.line_marks.specs.State.{IsOf, state_of, high_in, called_to, driven_by}

-- ---- what an entry does to it

any_row : (def : LineDef) (past : List Entry) (xs : List DeviceDef)
    → list_any (λ (x : DeviceDef). not (is_quiet past x.dev) && ltb 0 (unserved_asks def x.dev past)) xs
    ≡ list_any (λ (e : DevNo × AskRow). is_waiting e.1) (table_by (ask_row def past) xs)
any_row def past [] = refl
any_row def past (x ∷ xs) = ap (λ b. (not (is_quiet past x.dev) && ltb 0 (unserved_asks def x.dev past)) || b) (any_row def past xs)

pub high_is : (def : LineDef) (past : List Entry) → is_high def past ≡ (is_level_line def && high_in (asks_of def past))
high_is def past = ap (λ b. is_level_line def && b) (any_row def past def.devices ∙ some_passes is_waiting (asks_of def past))

by_edge : (b h g : Bool) (k : Cell) (f : Bool → Cell) → h ≡ (not b && g) → cond b k (f h) ≡ cond b k (f g)
by_edge true h g k f e = refl
by_edge false h g k f e = ap f e

by_level : (b n h g : Bool) (k : Cell) (f : Bool → Cell) → h ≡ (not b && g) → cond (not b && n) (f h) k ≡ cond (not b && n) (f g) k
by_level true n h g k f e = refl
by_level false true h g k f e = ap f e
by_level false false h g k f e = refl

high_after : (def : LineDef) (e : Entry) (past : List Entry) → IsValid def
    → is_high def (e ∷ past) ≡ (is_level_line def && high_in (asks_after (all_facts def) e (asks_of def past)))
high_after def e past valid = high_is def (e ∷ past) ∙ ap (λ (t : List (DevNo × AskRow)). is_level_line def && high_in t) (asks_more def e past valid)

turned : (a b : Bool) → (a && b) ≡ (b && a)
turned true true = refl
turned true false = refl
turned false true = refl
turned false false = refl

levelled_is : (b h g : Bool) (c : Cell) → h ≡ (not b && g) → cond (not b) (after_high h c) c ≡ cond b c (after_high g c)
levelled_is true h g c e = refl
levelled_is false h g c e = ap (λ x. after_high x c) e

-- a call's step, by the level after it
call_more : (def : LineDef) (call : CallEntry) (after past : List Entry) (high : Bool) (c : Cell) → is_high def after ≡ (is_level_line def && high)
    → called_on def call after c ≡ called_to def call (desc_of def past) high c
call_more def (called.Arm edge d) after past high c h =
    by_edge (is_edge_line def) (is_high def after) high (cond edge (after_edge c) c) (λ b. after_high b c) h
call_more def (called.Quiet d) after past high c h = levelled_is (is_edge_line def) (is_high def after) high c h
call_more def (called.Serve d n) after past high c h = levelled_is (is_edge_line def) (is_high def after) high c h
call_more def call after past high c h = refl

pub cell_more : (def : LineDef) (e : Entry) (past : List Entry) (c : Cell) → IsValid def
    → driven def e past c ≡ driven_by def e (desc_of def past)
    (high_in (asks_after (all_facts def) e (asks_of def past))) c
cell_more def (by.Driver r (drivers.Ask edge d)) past c valid =
    let e = by.Driver r (drivers.Ask edge d) in
    by_edge (is_edge_line def) (is_high def (e ∷ past)) (high_in (asks_after (all_facts def) e (asks_of def past)))
    (cond edge (after_edge c) c) (λ b. after_high b c) (high_after def e past valid)
cell_more def (by.Cpu cpu (cpus.Return answer d n)) past c valid =
    let e = by.Cpu cpu (cpus.Return answer d n) in
    by_level (is_edge_line def) (ltb 0 n) (is_high def (e ∷ past))
    (high_in (asks_after (all_facts def) e (asks_of def past))) c (λ b. after_high b c) (high_after def e past valid)
cell_more def (by.Thread d (threads.Return handled n)) past c valid =
    let e = by.Thread d (threads.Return handled n) in
    by_level (is_edge_line def) (ltb 0 n) (is_high def (e ∷ past))
    (high_in (asks_after (all_facts def) e (asks_of def past))) c (λ b. after_high b c) (high_after def e past valid)
cell_more def (by.Cpu cpu (cpus.End again unmask note)) past c valid
    = ap (λ b. ended def def.flow again unmask (masked_if b c))
    (turned def.unlazy (is_kill (by.Cpu cpu (cpus.End again unmask note))))
cell_more def (by.CpuCall cpu call) past c valid =
    call_more def call (by.CpuCall cpu call ∷ past) past (high_in (asks_after (all_facts def) (by.CpuCall cpu call) (asks_of def past))) c
    (high_after def (by.CpuCall cpu call) past valid)
cell_more def (by.ThreadCall d call) past c valid =
    call_more def call (by.ThreadCall d call ∷ past) past (high_in (asks_after (all_facts def) (by.ThreadCall d call) (asks_of def past))) c
    (high_after def (by.ThreadCall d call) past valid)
cell_more def (by.DriverCall r call) past c valid =
    call_more def call (by.DriverCall r call ∷ past) past (high_in (asks_after (all_facts def) (by.DriverCall r call) (asks_of def past))) c
    (high_after def (by.DriverCall r call) past valid)
cell_more def _ past c valid = refl

-- ---- what it is

-- the cell's marks are as they are read off the entries
pub cell_is : (def : LineDef) (past : List Entry) → IsValid def → IsLegalPast def past → cell_after def past ≡ cell_of def past
cell_is def past valid legal =
    let turned_back : reverse (reverse past) ≡ past = reverse-reverse past in
    let k = is_driven_cell def (reverse past) valid (subst (IsLegalPast def) (sym turned_back) legal) in
    subst (λ (xs : List Entry). cell_after def xs ≡ cell_of def xs) turned_back k.keeps

-- it presents what the line signals
pub presents_is : (def : LineDef) (past : List Entry) → IsValid def → IsLegalPast def past → presents (cell_after def past) ≡ signals def past
presents_is def past valid legal = ap presents (cell_is def past valid legal)

-- it is one of the definition's
pub is_of : (def : LineDef) (past : List Entry) → IsValid def → IsLegalPast def past → IsOf def (state_of def past)
is_of def past valid legal = let c = cell_is def past valid legal in
    record { trigger = ap (λ (k : Cell). k.trigger) c; retriggers = ap (λ (k : Cell). k.retriggers) c }

-- on the fast-EOI flow an enabled edge line's is open
pub is_open : (def : LineDef) (past : List Entry) → IsValid def → IsLegalPast def past → IsOpen def (state_of def past)
is_open def past valid legal edge eoi zero = ap (λ (k : Cell). k.masked) (cell_is def past valid legal)
    ∙ (kept def past valid legal).edges.eoi_edge edge eoi zero
