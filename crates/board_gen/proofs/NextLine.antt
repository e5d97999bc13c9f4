-- One line more.
use Rattle.std.proofs.Common.{◌≡◌, ℕ, suc, ◌+◌, ◌<◌, ◌≤◌, List, [], ◌∷◌, ◌++◌, length, All, sym, ap, subst, ◌∙◌, arith}
use Rattle.std.proofs.lemmas.List.{length-append, length_push}
use Rattle.std.proofs.lemmas.List.Elements.{All-append}
use Rattle.irq_base.specs.declared.devices.Kind.{Kind}
use Rattle.irq_base.specs.declared.numbers.DriverNo.{DriverNo}
use Rattle.board_def.specs.Rules.{IsBoard}
use Rattle.board_def.specs.Seen.{BoardSeen}
use Rattle.board_def.specs.declared.rows.LineRow.{LineRow}
use Rattle.board_def.specs.declared.rows.ScriptCall.{ScriptCall}
use Rattle.board_def.proofs.Grows.{grows_driver}
use Rattle.board_def.proofs.Rising.{all_of}
use Rattle.board_gen.specs.Drawing.{drawn, next_x, x_after, draw}
use Rattle.board_gen.specs.Generated.{driver_no, line_row, numbered, script_calls, with_plan}
use Rattle.board_gen.specs.Keeping.{IsScripted, IsUpTo}
use Rattle.board_gen.specs.Plans.{device_count, kinds_drawn, plan_of}
use Rattle.board_gen.specs.declared.scripts.Script.{Script}
use Rattle.board_gen.proofs.Counting.{x_on, numbered_length}
use Rattle.board_gen.proofs.Owning.{begun, with_calls}

-- the row, the devices and the driver were added
pub begun_is : (a b c d : BoardSeen) (number domain first : ℕ) (kinds : List Kind)
    → b ≡ record a { lines = a.lines ++ line_row number domain ∷ [] }
    → c ≡ record b { devices = b.devices ++ numbered number first kinds }
    → d ≡ record c { drivers = c.drivers ++ driver_no number ∷ [] } → d ≡ begun a number domain first kinds
begun_is a b c d number domain first kinds is_b is_c is_d =
    is_d ∙ ap (λ (c : BoardSeen). record c { drivers = c.drivers ++ driver_no number ∷ [] })
    (is_c ∙ ap (λ (b : BoardSeen). record b { devices = b.devices ++ numbered number first kinds }) is_b)

-- the driver may be added
pub driver_grows : (a b c : BoardSeen) (number domain first : ℕ) (kinds : List Kind)
    → b ≡ record a { lines = a.lines ++ line_row number domain ∷ [] }
    → c ≡ record b { devices = b.devices ++ numbered number first kinds }
    → IsUpTo number first a → (1 ≤ number) × (number ≤ 16) → IsBoard c → IsBoard (record c { drivers = c.drivers ++ driver_no number ∷ [] })
driver_grows a b c number domain first kinds is_b is_c k bounds board =
    let lower : 1 ≤ number = bounds.0 in
    let upper : number ≤ 16 = bounds.1 in
    let same : c.drivers ≡ a.drivers = ap (λ (b : BoardSeen). b.drivers) is_c ∙ ap (λ (b : BoardSeen). b.drivers) is_b in
    let count : length c.drivers + 1 ≡ number = ap (λ (ds : List DriverNo). length ds + 1) same ∙ k.driver_count in
    grows_driver c (driver_no number) board (omega arith)
    (record { number = (lower, omega arith); rises = subst (λ (ds : List DriverNo). All (λ e. e.0 < number) ds) (sym same) k.drivers })

-- ---- x

pub x_line : (x0 x1 x2 x3 x4 d : ℕ) → x1 ≡ next_x x0 → x2 ≡ next_x x1 → x3 ≡ x_after d x2 → x4 ≡ next_x x3 → x4 ≡ x_after (3 + d) x0
x_line x0 x1 x2 x3 x4 d e1 e2 e3 e4 =
    let two : x2 ≡ x_after 2 x0 = e2 ∙ ap next_x e1 in
    let so_many : suc (d + 2) ≡ 3 + d = omega arith in
    e4 ∙ (ap next_x (e3 ∙ (ap (x_after d) two ∙ x_on d 2 x0)) ∙ ap (λ n. x_after n x0) so_many)

-- ---- the line is the planned one

whole : BoardSeen → ℕ → ℕ → ℕ → ℕ → ℕ → ℕ → BoardSeen
whole b number first domain d x asks = with_calls (begun b number domain first (kinds_drawn d x))
    (script_calls (record { number = number; first = first; devices = d; asks = 50 + asks }))

pub line_is : (a b c : BoardSeen) (number first r1 r2 r4 x0 x1 x2 x4 : ℕ) → x1 ≡ next_x x0 → x2 ≡ next_x x1
    → x4 ≡ x_after (3 + (1 + r2)) x0 → r1 ≡ drawn 4 x1 → r2 ≡ drawn 2 x2 → r4 ≡ drawn 200 x4
    → b ≡ begun a number r1 first (kinds_drawn (1 + r2) x2)
    → c ≡ with_calls b (script_calls (record { number = number; first = first; devices = 1 + r2; asks = 50 + r4 }))
    → c ≡ with_plan a (plan_of number first x0)
unfolding whole
line_is a b c number first r1 r2 r4 x0 x1 x2 x4 e1 e2 e4 is1 is2 is4 is_b is_c =
    let two : x2 ≡ x_after 2 x0 = e2 ∙ ap next_x e1 in
    let domain : r1 ≡ draw 1 4 x0 = is1 ∙ ap (drawn 4) e1 in
    let devices : 1 + r2 ≡ device_count x0 = ap (λ n. 1 + n) (is2 ∙ ap (drawn 2) two) in
    let asks : r4 ≡ draw (3 + device_count x0) 200 x0 = is4 ∙ (ap (drawn 200) e4 ∙ ap (λ n. draw (3 + n) 200 x0) devices) in
    is_c ∙ (ap (λ (b : BoardSeen). with_calls b (script_calls (record { number = number; first = first; devices = 1 + r2; asks = 50 + r4 }))) is_b
    ∙ (ap (λ n. whole a number first n (1 + r2) x2 r4) domain ∙ (ap (λ n. whole a number first (draw 1 4 x0) n x2 r4) devices
    ∙ (ap (λ n. whole a number first (draw 1 4 x0) (device_count x0) n r4) two
    ∙ ap (λ n. whole a number first (draw 1 4 x0) (device_count x0) (x_after 2 x0) n) asks))))

-- ---- the board is up to the next line

pub up_to_next : (a b c : BoardSeen) (number domain first : ℕ) (kinds : List Kind) (s : Script) (cs : List ScriptCall)
    → IsUpTo number first a → b ≡ begun a number domain first kinds → c ≡ with_calls b cs → s.number ≡ number
    → s.first ≡ first
    → length kinds ≡ s.devices → s.devices ≤ 2 → s.asks ≤ 249
    → length c.calls ≡ length b.calls + s.devices + s.devices + s.asks + 2
    → All (λ e. e.dev.0 < first + s.devices) (a.devices ++ numbered number first kinds) → IsScripted s c
    → IsUpTo (number + 1) (first + s.devices) c
up_to_next a b c number domain first kinds s cs k is_b is_c is_number is_first kind_count few_devices few_asks call_count rises scripted =
    let same : c ≡ with_calls (begun a number domain first kinds) cs = is_c ∙ ap (λ (b : BoardSeen). with_calls b cs) is_b in
    let calls_before : length b.calls ≡ length a.calls = ap (λ (b : BoardSeen). length b.calls) is_b in
    let a_calls = k.few_calls in
    let a_devices = k.few_devices in
    let lines : length c.lines ≡ length a.lines + 1 = ap (λ (c : BoardSeen). length c.lines) same ∙ length_push a.lines (line_row number domain) in
    let drivers : length c.drivers ≡ length a.drivers + 1 = ap (λ (c : BoardSeen). length c.drivers) same ∙ length_push a.drivers (driver_no number) in
    let devices : length c.devices ≡ length a.devices + s.devices =
    ap (λ (c : BoardSeen). length c.devices) same ∙ (length-append a.devices (numbered number first kinds)
    ∙ ap (λ n. length a.devices + n) (numbered_length number first kinds ∙ kind_count)) in
    record {
      cpus = ap (λ (c : BoardSeen). c.cpus) same ∙ k.cpus;
      log = ap (λ (c : BoardSeen). c.log) same ∙ k.log;
      domains = ap (λ (c : BoardSeen). c.domains) same ∙ k.domains;
      line_count = omega (arith, lines, k.line_count);
      driver_count = omega (arith, drivers, k.driver_count);
      device_count = omega (arith, devices, k.device_count);
      few_devices = omega (arith, a_devices, few_devices);
      few_calls = omega (arith, call_count, calls_before, a_calls, few_devices, few_asks);
      lines =
          subst (λ (c : BoardSeen). All (λ e. e.line.0 < number + 1) c.lines) (sym same)
          (All-append (λ (e : LineRow). e.line.0 < number + 1) a.lines (line_row number domain ∷ [])
          (λ i e h. (let l : _ < number = k.lines i e h in omega (arith, l)))
          (all_of (λ (e : LineRow). e.line.0 < number + 1) (line_row number domain) [] (omega arith) (λ i e h. absurd (omega arith))));
      devices = subst (λ (c : BoardSeen). All (λ e. e.dev.0 < first + s.devices) c.devices) (sym same) rises;
      drivers =
          subst (λ (c : BoardSeen). All (λ e. e.0 < number + 1) c.drivers) (sym same)
          (All-append (λ (e : DriverNo). e.0 < number + 1) a.drivers (driver_no number ∷ [])
          (λ i e h. (let l : _ < number = k.drivers i e h in omega (arith, l)))
          (all_of (λ (e : DriverNo). e.0 < number + 1) (driver_no number) [] (omega arith) (λ i e h. absurd (omega arith))));
      callers = λ i e h. (let l : _ ≤ s.number = scripted.callers i e h in omega (arith, l, is_number));
      unnamed = λ d from. scripted.unnamed d (omega (arith, from, is_first));
    }
