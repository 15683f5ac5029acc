-- P1 to P10, and the program's example of document 01, computed from the definitions. Assumes nothing.
use Prim.Native.Nat.{ℕ}
use mathlib.Core.Path.{◌≡◌, refl}
use mathlib.Core.List.{List, [], ◌∷◌}
use lib.IntN.{pos}
use Rattle.rules.specs.Points.{dist, coordinates, apart, away}
use Rattle.rules.specs.Order.{keyed, count, any, without, on, pick, first, firsts}
use Rattle.rules.specs.Edges.{kept_in, between, direct}
use Rattle.rules.specs.Labels.{reaches, not_above, largest, label_of, tabulate, leads, label, cell, table_of, edge_in}
use Rattle.rules.specs.Search.{start, waiting, visit, before, choice, next, answer, run, search}
use Rattle.rules.specs.Bits.{bit, odd, bits, number, signed_by, signed, values, unpacked, byte_count}
use Rattle.rules.specs.Sheet.{bit_count, sheet_length, field_at, points, coords, width, ask_count, required, filling, vectors_of, numbers_in, ask_place, ask_numbers, ask_query}
use Rattle.rules.specs.Refusals.{search_refusal, sheet_refusal}
use Rattle.rules.specs.Entries.{ask, farness, order_of, edges_of, searched, near_ids, near_distances, counts_of, asked_refusal}
use Rattle.rules.specs.Lines.{decimal_in, decimal, part, parts, pairs, set_line, found_line, ask_refused_line, near_line, trail_line}
use Rattle.rules.specs.Program.{ask_of, lines_of, asks_lines, printed}
use Rattle.rules.specs.Examples.{Examples, Gives, three, asked}

-- ---- P1 to P10

its_table : table_of (apart 1 three) 3 ≡ 65535 ∷ 0 ∷ 48 ∷ 0 ∷ 65535 ∷ 0 ∷ 32 ∷ 0 ∷ 65535 ∷ []
unfolding dist coordinates apart any pick first kept_in between direct reaches not_above largest label_of tabulate leads label cell table_of
its_table = refl

ask_0 : Gives (asked 1 1) 1 3 2 (1 ∷ []) (1 ∷ []) (0 ∷ 1 ∷ [])
unfolding dist coordinates away keyed count without on pick first firsts edge_in start waiting visit before choice next answer run search farness order_of edges_of searched near_ids near_distances counts_of
ask_0 = rw its_table (record { counts = refl; ids_are = refl; distances_are = refl; trail_is = refl })

ask_1 : Gives (asked 3 2) 2 3 3 (1 ∷ 2 ∷ []) (1 ∷ 1 ∷ []) (0 ∷ 1 ∷ 2 ∷ [])
unfolding dist coordinates away keyed count without on pick first firsts edge_in start waiting visit before choice next answer run search farness order_of edges_of searched near_ids near_distances counts_of
ask_1 = rw its_table (record { counts = refl; ids_are = refl; distances_are = refl; trail_is = refl })

ask_one_way : Gives (ask 3 1 three (65535 ∷ 0 ∷ 9 ∷ 9 ∷ 65535 ∷ 9 ∷ 9 ∷ 9 ∷ 65535 ∷ []) (pos 4 ∷ []) 1 0 3 3) 1 1 1 (1 ∷ []) (1 ∷ []) (1 ∷ [])
unfolding dist coordinates away keyed count without on pick first firsts edge_in start waiting visit before choice next answer run search farness order_of edges_of searched near_ids near_distances counts_of
ask_one_way = record { counts = refl; ids_are = refl; distances_are = refl; trail_is = refl }

pub examples : Examples
unfolding dist coordinates apart any pick first kept_in between direct reaches not_above largest label_of leads label cell
examples = record {
  p1_p2 = its_table;
  p3 = ask_0;
  p4 = ask_1;
  p5 = (refl, refl, refl, refl);
  p5_ties = (refl, refl);
  p6 = refl;
  p7 = (refl, refl, refl, refl);
  p8 = refl;
  p9 = refl;
  p10 = (refl, refl);
  nearest_to_v = refl;
  open_at_v = (refl, refl, refl, refl);
  one_way = ask_one_way;
}

-- ---- the program's example

-- the sheet of 20 bytes
abbrev pub twenty : List ℕ
twenty =
    0x04 ∷ 0x03 ∷ 0x03 ∷ 0x03 ∷ 0x50 ∷ 0x00 ∷ 0x00 ∷ 0x00 ∷ 0x00 ∷ 0x40 ∷ 0x00 ∷ 0x80 ∷ 0x80 ∷ 0x00 ∷ 0x40 ∷ 0xA0 ∷ 0x00 ∷ 0x00 ∷ 0x00 ∷ 0x40 ∷ []

-- its lines
abbrev pub its_lines : List ℕ
its_lines =
    -- set 3 1 3
    115 ∷ 101 ∷ 116 ∷ 32 ∷ 51 ∷ 32 ∷ 49 ∷ 32 ∷ 51 ∷ 10 ∷
    -- ask 0 found 1 seen 3 walked 2
    97 ∷ 115 ∷ 107 ∷ 32 ∷ 48 ∷ 32 ∷ 102 ∷ 111 ∷ 117 ∷ 110 ∷ 100 ∷ 32 ∷ 49 ∷ 32 ∷ 115 ∷ 101 ∷ 101 ∷ 110 ∷ 32 ∷ 51 ∷ 32 ∷ 119 ∷ 97 ∷ 108 ∷ 107 ∷ 101 ∷ 100 ∷ 32 ∷ 50 ∷ 10 ∷
    -- near 1 1
    110 ∷ 101 ∷ 97 ∷ 114 ∷ 32 ∷ 49 ∷ 32 ∷ 49 ∷ 10 ∷
    -- trail 0 1
    116 ∷ 114 ∷ 97 ∷ 105 ∷ 108 ∷ 32 ∷ 48 ∷ 32 ∷ 49 ∷ 10 ∷
    -- ask 1 found 2 seen 3 walked 3
    97 ∷ 115 ∷ 107 ∷ 32 ∷ 49 ∷ 32 ∷ 102 ∷ 111 ∷ 117 ∷ 110 ∷ 100 ∷ 32 ∷ 50 ∷ 32 ∷ 115 ∷ 101 ∷ 101 ∷ 110 ∷ 32 ∷ 51 ∷ 32 ∷ 119 ∷ 97 ∷ 108 ∷ 107 ∷ 101 ∷ 100 ∷ 32 ∷ 51 ∷ 10 ∷
    -- near 1 1 2 1
    110 ∷ 101 ∷ 97 ∷ 114 ∷ 32 ∷ 49 ∷ 32 ∷ 49 ∷ 32 ∷ 50 ∷ 32 ∷ 49 ∷ 10 ∷
    -- trail 0 1 2
    116 ∷ 114 ∷ 97 ∷ 105 ∷ 108 ∷ 32 ∷ 48 ∷ 32 ∷ 49 ∷ 32 ∷ 50 ∷ 10 ∷
    -- ask 2 refused 6
    97 ∷ 115 ∷ 107 ∷ 32 ∷ 50 ∷ 32 ∷ 114 ∷ 101 ∷ 102 ∷ 117 ∷ 115 ∷ 101 ∷ 100 ∷ 32 ∷ 54 ∷ 10 ∷
    []

pub printed_example : printed twenty ≡ its_lines
unfolding printed sheet_refusal sheet_length bit_count byte_count filling required asks_lines lines_of ask_of asked_refusal search_refusal counts_of near_ids near_distances searched edges_of order_of farness away dist coordinates apart search run next choice before waiting visit start answer firsts without on first pick count any keyed kept_in direct between reaches not_above largest label_of tabulate leads label cell table_of edge_in points coords width ask_count vectors_of ask_place ask_numbers ask_query numbers_in values signed signed_by field_at number bit unpacked bits odd set_line found_line near_line trail_line ask_refused_line parts pairs part decimal decimal_in
printed_example = refl
