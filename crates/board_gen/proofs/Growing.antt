-- A board that is being generated may get the next domain, line or device.
use Rattle.std.proofs.Common.{◌≡◌, ℕ, ◌+◌, ◌*◌, ◌<◌, ◌≤◌, ◌==◌, Bool, true, false, cond, not, None, List, [], ◌∷◌, ◌++◌}
use Rattle.std.proofs.Common.{length, All, IsSome, refl, sym, ap, subst, ◌∙◌, arith}
use Rattle.std.specs.List.{list_any}
use Rattle.std.proofs.lemmas.List.{length-append, append_assoc}
use Rattle.std.proofs.lemmas.List.Elements.{All-append}
use Rattle.irq_base.specs.declared.devices.DeviceDef.{DeviceDef}
use Rattle.irq_base.specs.declared.devices.Kind.{Kind}
use Rattle.irq_base.specs.declared.devices.Kind.TheVariants as kinds
use Rattle.irq_base.specs.declared.domains.ControllerKind.{ControllerKind}
use Rattle.irq_base.specs.declared.domains.MapKind.TheVariants as maps
use Rattle.irq_model.specs.Signal.{lowest_in}
use Rattle.domain_rules.specs.Levels.{is_root_kind}
use Rattle.board_def.specs.Names.{is_name, name_of, name_bytes}
use Rattle.board_def.specs.Rules.{IsBoard, has_line, has_name}
use Rattle.board_def.specs.Runs.{answers_wake, fits_wakes}
use Rattle.board_def.specs.Seen.{BoardSeen}
use Rattle.board_def.specs.declared.names.Name.{Name}
use Rattle.board_def.specs.declared.rows.DomainRow.{DomainRow}
use Rattle.board_def.proofs.Grows.{grows_domain, grows_line, grows_device}
use Rattle.board_def.proofs.NameBack.{name_back}
use Rattle.board_def.proofs.Rising.{all_of}
use Rattle.board_gen.specs.Drawing.{draw}
use Rattle.board_gen.specs.Generated.{line_row, numbered}
use Rattle.board_gen.specs.Plans.{kind_of, kinds_drawn}
use Rattle.board_gen.proofs.Counting.{kinds_more, kinds_length, numbered_more, numbered_length}

abbrev row_named : Name → ControllerKind → DomainRow
row_named name kind = record { name = name; def = record { map = maps.Linear 16; kind = kind; parent = None } }

pub root_grows : (b : BoardSeen) (bytes : List ℕ) (name : Name) (kind : ControllerKind) → name ≡ name_of bytes
    → IsBoard b → length b.domains < 32 → is_name bytes ≡ true → has_name b.domains (name_of bytes) ≡ false
    → is_root_kind kind ≡ true
    → IsBoard (record b { domains = b.domains ++ row_named name kind ∷ [] })
root_grows b bytes name kind is board few spelled new root =
    grows_domain b (row_named name kind) board few
    (record {
      spelled = ap (λ (n : Name). is_name (name_bytes n)) is ∙ (ap is_name (name_back bytes spelled) ∙ spelled);
      new = ap (has_name b.domains) is ∙ new;
      def = record { size = (omega arith, omega arith); declared = tt; parent = ap not root };
    })

pub line_grows : (b : BoardSeen) (number domain : ℕ) → IsBoard b → b.cpus ≡ 2 → b.log ≡ 65536 → length b.domains ≡ 4
    → length b.lines + 1 ≡ number → (1 ≤ number) × (number ≤ 16) → domain < 4 → All (λ e. e.line.0 < number) b.lines
    → IsBoard (record b { lines = b.lines ++ line_row number domain ∷ [] })
line_grows b number domain board cpus log domains count bounds within rises =
    let upper : number ≤ 16 = bounds.1 in
    let lower : 1 ≤ number = bounds.0 in
    grows_line b (line_row number domain) board (omega arith)
    (subst (λ (n : ℕ). n * (length b.lines + 1) ≤ 4000000) (sym log) (omega arith))
    (record {
      number = (lower, omega arith);
      rises = rises;
      domain = omega arith;
      unlazy = refl;
      mask = subst (λ (n : ℕ). IsSome (lowest_in n 3)) (sym cpus) refl;
    })

-- ---- devices

abbrev with_devices : BoardSeen → ℕ → ℕ → ℕ → ℕ → BoardSeen
with_devices b line first n x = record b { devices = b.devices ++ numbered line first (kinds_drawn n x) }

abbrev device_of : ℕ → ℕ → Kind → DeviceDef
device_of dev line kind = record { dev = record { 0 = dev }; line = record { 0 = line }; kind = kind; held = false; forgets = false }

pub device_grows : (a b : BoardSeen) (line first devices n x : ℕ) (kind : Kind) → b ≡ with_devices a line first n x
    → IsBoard b → ((wakes : Bool) → fits_wakes wakes kind ≡ true) → has_line a.lines (record { 0 = line }) ≡ true
    → 1 ≤ first → first + devices ≤ 256 → n < devices
    → length a.devices + 1 ≡ first → All (λ e. e.dev.0 < first + n) b.devices
    → IsBoard (record b { devices = b.devices ++ device_of (first + n) line kind ∷ [] })
device_grows a b line first devices n x kind is board untold there some few within count rises =
    let so_many : length b.devices ≡ length a.devices + n =
    ap (λ (b : BoardSeen). length b.devices) is ∙ (length-append a.devices (numbered line first (kinds_drawn n x))
    ∙ ap (λ m. length a.devices + m) (numbered_length line first (kinds_drawn n x) ∙ kinds_length n x)) in
    grows_device b (device_of (first + n) line kind) board (omega arith)
    (record {
      number = (omega arith, omega arith);
      rises = rises;
      line
          = subst (λ (b : BoardSeen). has_line b.lines (record { 0 = line }) ≡ true) (sym is) there;
      thread = untold (list_any (answers_wake (record { 0 = first + n })) b.told);
    })

-- no device that is drawn is told
pub drawn_fits : (n : ℕ) (kind : Kind) → kind ≡ kind_of n → (wakes : Bool) → fits_wakes wakes kind ≡ true
drawn_fits n kind is wakes = ap (fits_wakes wakes) is ∙ by (n == 0) (n == 1)
  where
    by : (s t : Bool) → fits_wakes wakes (cond s kinds.Direct (cond t kinds.Check kinds.Null)) ≡ true
    by true t = refl
    by false true = refl
    by false false = refl

pub devices_next : (a b c : BoardSeen) (line first n x : ℕ) (kind : Kind) → b ≡ with_devices a line first n x
    → c ≡ record b { devices = b.devices ++ device_of (first + n) line kind ∷ [] } → kind ≡ kind_of (draw (n + 1) 3 x)
    → c ≡ with_devices a line first (n + 1) x
devices_next a b c line first n x kind is next drawn =
    let so_many = kinds_length n x in
    let more : numbered line first (kinds_drawn (n + 1) x) ≡ numbered line first (kinds_drawn n x) ++ device_of (first + n) line kind ∷ [] =
    ap (numbered line first) (kinds_more n x)
    ∙ (numbered_more line first (kinds_drawn n x) (kind_of (draw (n + 1) 3 x))
    ∙ (ap (λ m. numbered line first (kinds_drawn n x) ++ device_of (first + m) line (kind_of (draw (n + 1) 3 x)) ∷ []) so_many
    ∙ ap (λ k. numbered line first (kinds_drawn n x) ++ device_of (first + n) line k ∷ []) (sym drawn))) in
    next ∙ (ap (λ (b : BoardSeen). record b { devices = b.devices ++ device_of (first + n) line kind ∷ [] }) is
    ∙ ap (λ (ds : List DeviceDef). record a { devices = ds })
    (append_assoc a.devices (numbered line first (kinds_drawn n x)) (device_of (first + n) line kind ∷ [])
    ∙ ap (λ ds. a.devices ++ ds) (sym more)))

pub rises_next : (b c : BoardSeen) (line first n : ℕ) (kind : Kind) → All (λ e. e.dev.0 < first + n) b.devices
    → c ≡ record b { devices = b.devices ++ device_of (first + n) line kind ∷ [] }
    → All (λ e. e.dev.0 < first + (n + 1)) c.devices
rises_next b c line first n kind rises next =
    subst (λ (c : BoardSeen). All (λ e. e.dev.0 < first + (n + 1)) c.devices) (sym next)
    (All-append (λ (e : DeviceDef). e.dev.0 < first + (n + 1)) b.devices (device_of (first + n) line kind ∷ [])
    (λ i d h. (let l : _ < first + n = rises i d h in omega (arith, l)))
    (all_of (λ (e : DeviceDef). e.dev.0 < first + (n + 1)) (device_of (first + n) line kind) [] (omega arith) (λ i d h. absurd (omega arith))))
