-- The text of picks.
use Rattle.std.specs.Prelude.{ℕ, ◌+◌, ◌*◌, ◌/◌, List, [], ◌∷◌, ◌++◌, codes, decimal, drop, length}
use Rattle.std.specs.Prelude.{take}
use Rattle.std.specs.List.{flat_map, range_with_len}
use Rattle.irq_base.specs.declared.entries.Actor.{Actor}
use Rattle.irq_base.specs.declared.entries.Actor.TheVariants as actors

-- a pick behind a blank, as a board has it: the thread of a device, a processor, a driver
abbrev pub pick_text : Actor → List ℕ
pick_text (actors.Thread dev) = codes " t" ++ decimal dev.0
pick_text (actors.Cpu cpu) = codes " c" ++ decimal cpu.0
pick_text (actors.Driver driver) = codes " d" ++ decimal driver.0

-- the picks as a text line of a board has them
abbrev pub picks_line : List Actor → List ℕ
picks_line picks = codes "picks" ++ flat_map pick_text picks

-- they stand behind `# `, so that a log may have them, too
abbrev pub picks_row : List Actor → List ℕ
picks_row picks = codes "# picks" ++ flat_map pick_text picks ++ 10 ∷ []

-- the picks of row k: 24, in the last row as many as are left
abbrev pub row_at : List Actor → ℕ → List Actor
row_at picks k = take 24 (drop (24 * k) picks)

-- as many rows as it takes
abbrev pub picks_text : List Actor → List ℕ
picks_text picks =
    flat_map (λ k. picks_row (row_at picks k)) (range_with_len 0 ((length picks + 23) / 24))
