-- The lines are planned one after another.
use Rattle.std.proofs.Common.{◌≡◌, ℕ, suc, ◌+◌, List, [], ◌∷◌, ◌++◌, length, map, refl, sym, ap, ◌∙◌, subst, arith}
use Rattle.std.specs.List.{flat_map}
use Rattle.std.proofs.lemmas.Grind.{flat_map-append}
use Rattle.std.proofs.lemmas.List.{append-nil, length_push, map-append}
use Rattle.irq_base.specs.declared.devices.DeviceDef.{DeviceDef}
use Rattle.irq_base.specs.declared.numbers.DriverNo.{DriverNo}
use Rattle.board_def.specs.Seen.{BoardSeen}
use Rattle.board_def.specs.declared.rows.LineRow.{LineRow}
use Rattle.board_def.specs.declared.rows.ScriptCall.{ScriptCall}
use Rattle.board_gen.specs.Drawing.{draw, drawn, next_x, x_after}
use Rattle.board_gen.specs.Generated.{bare_machine, board_of_plans, driver_no, generated, line_row, plan_devices, script_calls, with_plan}
use Rattle.board_gen.specs.Keeping.{IsUpTo}
use Rattle.board_gen.specs.Plans.{LinePlan, device_count, plan_of, planned}

-- the board of one plan more
board_more : (plans : List LinePlan) (p : LinePlan) → board_of_plans (plans ++ p ∷ []) ≡ with_plan (board_of_plans plans) p
board_more plans p =
    let with_lists : List LineRow → List DeviceDef → List DriverNo → List ScriptCall → BoardSeen =
    λ lines devices drivers calls. record bare_machine { lines = lines; devices = devices; drivers = drivers; calls = calls } in
    let rows = λ (p : LinePlan). line_row p.script.number p.domain in
    let drivers = λ (p : LinePlan). driver_no p.script.number in
    let scripts = λ (p : LinePlan). script_calls p.script in
    let all = plans ++ p ∷ [] in
    ap (λ xs. with_lists xs (flat_map plan_devices all) (map drivers all) (flat_map scripts all)) (map-append rows plans (p ∷ []))
    ∙ (ap (λ xs. with_lists (map rows plans ++ rows p ∷ []) xs (map drivers all) (flat_map scripts all))
    (flat_map-append plan_devices plans (p ∷ []) ∙ ap (λ xs. flat_map plan_devices plans ++ xs)
    (append-nil (plan_devices p)))
    ∙ (ap (λ xs. with_lists (map rows plans ++ rows p ∷ []) (flat_map plan_devices plans ++ plan_devices p) xs
    (flat_map scripts all)) (map-append drivers plans (p ∷ []))
    ∙ ap (λ xs. with_lists (map rows plans ++ rows p ∷ []) (flat_map plan_devices plans ++ plan_devices p)
    (map drivers plans ++ drivers p ∷ []) xs) (flat_map-append scripts plans (p ∷ [])
    ∙ ap (λ xs. flat_map scripts plans ++ xs) (append-nil (scripts p)))))

pub record Goes (n x : ℕ) (b : BoardSeen) (first y : ℕ) : Type 0 where
  pub board : b ≡ board_of_plans (planned n x).plans
  pub count : length (planned n x).plans ≡ n
  pub device : first ≡ (planned n x).device
  pub x_is : y ≡ (planned n x).x

-- one line more
goes_suc : (n x : ℕ) (b c : BoardSeen) (first y z devices : ℕ) → Goes n x b first y → devices ≡ device_count y
    → z ≡ x_after (3 + devices) y → c ≡ with_plan b (plan_of (n + 1) first y)
    → Goes (suc n) x c (first + devices) z
goes_suc n x b c first y z devices k is_devices is_z is_c =
    let p = planned n x in
    let number : n + 1 ≡ length p.plans + 1 = ap (λ m. m + 1) (sym k.count) in
    let same : plan_of (n + 1) first y ≡ plan_of (length p.plans + 1) p.device p.x =
    ap (λ m. plan_of m first y) number ∙ (ap (λ m. plan_of (length p.plans + 1) m y) k.device ∙ ap (λ m. plan_of (length p.plans + 1) p.device m) k.x_is) in
    let many : devices ≡ device_count p.x = is_devices ∙ ap device_count k.x_is in
    record {
      board = is_c ∙ (ap (λ (b : BoardSeen). with_plan b (plan_of (n + 1) first y)) k.board
          ∙ (ap (λ q. with_plan (board_of_plans p.plans) q) same ∙ sym (board_more p.plans (plan_of (length p.plans + 1) p.device p.x))));
      count = length_push p.plans (plan_of (length p.plans + 1) p.device p.x) ∙ (ap (λ m. m + 1) k.count ∙ omega arith);
      device = ap (λ m. m + devices) k.device ∙ ap (λ m. p.device + m) many;
      x_is = is_z ∙ (ap (λ m. x_after (3 + m) y) many ∙ ap (λ m. x_after (3 + device_count p.x) m) k.x_is);
    }

pub goes_on : (n x : ℕ) (b c : BoardSeen) (first y z devices : ℕ) → Goes n x b first y → devices ≡ device_count y
    → z ≡ x_after (3 + devices) y → c ≡ with_plan b (plan_of (n + 1) first y)
    → Goes (n + 1) x c (first + devices) z
goes_on n x b c first y z devices k is_devices is_z is_c =
    let e : suc n ≡ n + 1 = omega arith in
    subst (λ m. Goes m x c (first + devices) z) e (goes_suc n x b c first y z devices k is_devices is_z is_c)

pub machine_up_to : (b : BoardSeen) → b ≡ bare_machine → IsUpTo 1 1 b
machine_up_to b is = subst (λ (b : BoardSeen). IsUpTo 1 1 b) (sym is) bare
  where
    bare : IsUpTo 1 1 bare_machine
    bare =
        record {
          cpus = refl;
          log = refl;
          domains = refl;
          line_count = refl;
          driver_count = refl;
          device_count = refl;
          few_devices = omega arith;
          few_calls = omega arith;
          lines = λ i e h. absurd (omega arith);
          devices = λ i e h. absurd (omega arith);
          drivers = λ i e h. absurd (omega arith);
          callers = λ i e h. absurd (omega arith);
          unnamed = λ d from. refl;
        }

pub goes_first : (n : ℕ) (b : BoardSeen) (x : ℕ) → x ≡ next_x n → b ≡ bare_machine → Goes 0 (x_after 1 n) b 1 x
goes_first n b x is_x is_b = record { board = is_b; count = refl; device = refl; x_is = is_x }

-- after all lines the board is the generated one
pub is_generated : (n lines i x : ℕ) (b : BoardSeen) (first y : ℕ) → x ≡ next_x n → lines ≡ drawn 13 x → i ≡ 4 + lines
    → Goes i (x_after 1 n) b first y → b ≡ generated n
is_generated n lines i x b first y is_x is_drawn is_i k =
    let all : i ≡ 4 + draw 1 13 n = is_i ∙ ap (λ m. 4 + m) (is_drawn ∙ ap (drawn 13) is_x) in
    k.board ∙ ap (λ m. board_of_plans (planned m (x_after 1 n)).plans) all
