-- The tables of a board keep their rows in a map, and find what a walk over the rows finds.
use Rattle.std.proofs.Common.{◌≡◌, ℕ, ◌+◌, ◌==◌, Bool, true, false, cond, ◌||◌, not, nat_lt, is_some, Option, Some}
use Rattle.std.proofs.Common.{None, List, [], ◌∷◌, ◌++◌, length, position, refl, sym, ap, ◌∙◌, arith}
use Rattle.std.specs.List.{position_or_len}
use Rattle.std.specs.Map.{lookup, keys_of}
use Rattle.std.proofs.Math.ListN.{length-map}
use Rattle.std.proofs.lemmas.Bool.Decides.{nat_tests}
use Rattle.indexmap.specs.IndexMap.{IndexMap, insert_entry}
use Rattle.indexmap.proofs.CallerLemmas.{insert_entry-new}
use Rattle.irq_base.specs.declared.devices.DeviceDef.{DeviceDef}
use Rattle.irq_base.specs.declared.numbers.DevNo.{DevNo}
use Rattle.irq_base.specs.declared.numbers.DriverNo.{DriverNo}
use Rattle.irq_base.specs.declared.numbers.LineNo.{LineNo}
use Rattle.board_def.specs.LineOf.{find_line}
use Rattle.board_def.specs.Names.{same_name}
use Rattle.board_def.specs.Rules.{has_driver, has_name, find_device}
use Rattle.board_def.specs.Tables.{values_of, find_row, IsKeyedBy}
use Rattle.board_def.specs.declared.names.Name.{Name}
use Rattle.board_def.specs.declared.rows.DomainRow.{DomainRow}
use Rattle.board_def.specs.declared.rows.LineRow.{LineRow}

-- any table

module _ {K V : Type 0} (key_of : V → K) where
  -- rows that stand at their own keys, and one more
  pub keyed_more : (es : List (K × V)) (k : K) (v : V) → k ≡ key_of v → IsKeyedBy key_of es → IsKeyedBy key_of (es ++ (k, v) ∷ [])
  keyed_more [] k v own keyed = (own, tt)
  keyed_more (e ∷ es) k v own keyed = (keyed.0, keyed_more es k v own keyed.1)

  -- the rows with one more entry
  pub values_more : (es : List (K × V)) (k : K) (v : V) → values_of (es ++ (k, v) ∷ []) ≡ values_of es ++ v ∷ []
  values_more [] k v = refl
  values_more (e ∷ es) k v = ap (λ vs. e.1 ∷ vs) (values_more es k v)

  module _ (eq : K → K → Bool) (key : K) where
    -- the map finds what the walk finds
    pub row_found : (es : List (K × V)) → IsKeyedBy key_of es → lookup (eq key) es ≡ find_row eq key_of (values_of es) key
    row_found [] keyed = refl
    row_found (e ∷ es) keyed =
        ap (λ k. cond (eq key k) (Some e.1) (lookup (eq key) es)) keyed.0 ∙ ap (λ r. cond (eq key (key_of e.1)) (Some e.1) r) (row_found es keyed.1)

    first_at : (es : List (K × V)) → IsKeyedBy key_of es → position_or_len (eq key) (keys_of es) ≡ position_or_len (λ row. eq key (key_of row)) (values_of es)
    first_at [] keyed = refl
    first_at (e ∷ es) keyed =
        ap (λ k. cond (not (eq key k)) (1 + position_or_len (eq key) (keys_of es)) 0) keyed.0
        ∙ ap (λ n. cond (not (eq key (key_of e.1))) (1 + n) 0) (first_at es keyed.1)

    -- the place of a key among the keys is its row's
    pub place_found : (es : List (K × V)) → IsKeyedBy key_of es → position (eq key) (keys_of es) ≡ position (λ row. eq key (key_of row)) (values_of es)
    place_found es keyed =
        let long : length (keys_of es) ≡ length (values_of es) = length-map es (λ e. e.0) ∙ sym (length-map es (λ e. e.1)) in
        ap (λ n. cond (nat_lt n (length (keys_of es))) (Some n) None) (first_at es keyed)
        ∙ ap (λ m. cond (nat_lt (position_or_len (λ row. eq key (key_of row)) (values_of es)) m)
        (Some (position_or_len (λ row. eq key (key_of row)) (values_of es))) None) long

  -- a row of a new key goes last
  pub row_added : {S : Type 0} (eq : K → K → Bool) (m : IndexMap K V S) (rows : List V) (k : K) (row : V)
      → IsKeyedBy key_of m.entries → values_of m.entries ≡ rows → k ≡ key_of row
      → find_row eq key_of rows (key_of row) ≡ None → insert_entry eq m.entries k row ≡ m.entries ++ (k, row) ∷ []
  row_added eq m rows k row keyed are own none =
      insert_entry-new eq m k row (row_found eq k m.entries keyed ∙ (ap (λ xs. find_row eq key_of xs k) are ∙ (ap (λ x. find_row eq key_of rows x) own ∙ none)))

-- the tables of a board

same_either_way : (m n : ℕ) → (m == n) ≡ (n == m)
same_either_way m n = grind (arith, nat_tests)

none_by : (b : Bool) (row : DomainRow) (r : Option DomainRow) (h : Bool) → (b || h) ≡ false → (h ≡ false → r ≡ None) → cond b (Some row) r ≡ None
none_by true row r h all rest = absurd cc
none_by false row r h all rest = rest all

-- a name that no domain has finds nothing
pub no_domain : (name : Name) (rows : List DomainRow) → has_name rows name ≡ false → find_row same_name (λ (row : DomainRow). row.name) rows name ≡ None
no_domain name [] h = refl
no_domain name (row ∷ rows) h = none_by (same_name name row.name) row
    (find_row same_name (λ (row : DomainRow). row.name) rows name) (has_name rows name) h (no_domain name rows)

pub line_found : (line : LineNo) (rows : List LineRow) → find_row (λ (a b : LineNo). a.0 == b.0) (λ (row : LineRow). row.line) rows line ≡ find_line rows line
line_found line [] = refl
line_found line (row ∷ rows) =
    ap (λ b. cond b (Some row) (find_row (λ (a b : LineNo). a.0 == b.0) (λ (row : LineRow). row.line) rows line)) (same_either_way line.0 row.line.0)
    ∙ ap (λ r. cond (row.line.0 == line.0) (Some row) r) (line_found line rows)

pub device_found : (dev : DevNo) (rows : List DeviceDef)
    → find_row (λ (a b : DevNo). a.0 == b.0) (λ (device : DeviceDef). device.dev) rows dev ≡ find_device rows dev
device_found dev [] = refl
device_found dev (x ∷ xs) = ap (λ r. cond (dev.0 == x.dev.0) (Some x) r) (device_found dev xs)

some_by : (b : Bool) (d : DriverNo) (r : Option DriverNo) (h : Bool) → is_some r ≡ h → is_some (cond b (Some d) r) ≡ (b || h)
some_by true d r h rest = refl
some_by false d r h rest = rest

pub driver_found : (driver : DriverNo) (ds : List DriverNo)
    → is_some (find_row (λ (a b : DriverNo). a.0 == b.0) (λ (d : DriverNo). d) ds driver) ≡ has_driver ds driver
driver_found driver [] = refl
driver_found driver (d ∷ ds) =
    some_by (driver.0 == d.0) d (find_row (λ (a b : DriverNo). a.0 == b.0) (λ (d : DriverNo). d) ds driver) (has_driver ds driver) (driver_found driver ds)
    ∙ ap (λ b. b || has_driver ds driver) (same_either_way driver.0 d.0)

none_of : (r : Option DriverNo) → is_some r ≡ false → r ≡ None
none_of None h = refl
none_of (Some d) h = absurd cc

-- a driver that isn't declared finds nothing
pub no_driver_found : (driver : DriverNo) (ds : List DriverNo) → has_driver ds driver ≡ false
    → find_row (λ (a b : DriverNo). a.0 == b.0) (λ (d : DriverNo). d) ds driver ≡ None
no_driver_found driver ds h = none_of (find_row (λ (a b : DriverNo). a.0 == b.0) (λ (d : DriverNo). d) ds driver) (driver_found driver ds ∙ h)
