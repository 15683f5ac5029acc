-- Document 01, "The program": "It reads one sheet from standard input and writes the lines below; nothing else. Asks are numbered from 0 and searched
-- on the set's own table; a refused one gives only its `ask` line. A refused sheet gives one line, `refused` and the number."
use Rattle.std.specs.Prelude.{ℕ, zero, suc, List, [], ◌++◌, get_or}
use Rattle.rules.specs.Points.{apart}
use Rattle.rules.specs.Labels.{table_of}
use Rattle.rules.specs.Sheet.{points, coords, ask_count, vectors_of, ask_numbers, ask_query}
use Rattle.rules.specs.Refusals.{sheet_refusal}
use Rattle.rules.specs.Entries.{Ask, ask, searched, near_ids, near_distances, counts_of, asked_refusal}
use Rattle.rules.specs.Lines.{set_line, found_line, ask_refused_line, near_line, trail_line, refused_line}

-- ask i of a sheet, on a given table
unfoldable pub ask_of : List ℕ → List ℕ → ℕ → Ask
ask_of ys table i =
    ask
    (points ys)
    (coords ys)
    (vectors_of ys)
    table
    (ask_query ys i)
    (get_or (ask_numbers ys i) 0 0)
    (get_or (ask_numbers ys i) 3 0)
    (get_or (ask_numbers ys i) 1 0)
    (get_or (ask_numbers ys i) 2 0)

-- the lines of an ask: its number, and the ask. The buffers are long enough, so that 10 is never given.
unfoldable pub lines_of : ℕ → Ask → List ℕ
lines_of i a =
    elim (asked_refusal a a.k a.k a.n) [
      | zero ↦ found_line i (counts_of a).found (counts_of a).seen (counts_of a).walked ++ (near_line (near_ids a) (near_distances a) ++ trail_line (searched a).trail)
      | suc r ↦ ask_refused_line i (suc r)
    ]

-- the lines of the first asks, on a given table
unfoldable pub asks_lines : List ℕ → List ℕ → ℕ → List ℕ
asks_lines ys table zero = []
asks_lines ys table (suc i) = asks_lines ys table i ++ lines_of i (ask_of ys table i)

-- all that is printed for a sheet
unfoldable pub printed : List ℕ → List ℕ
printed ys =
    elim (sheet_refusal ys) [
      | zero ↦ set_line (points ys) (coords ys) (ask_count ys) ++ asks_lines ys (table_of (apart (coords ys) (vectors_of ys)) (points ys)) (ask_count ys)
      | suc r ↦ refused_line (suc r)
    ]
