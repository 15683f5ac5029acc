-- Document 01, "Refusal numbers": the table, a line for each number, and each entry's order. A buffer is spoken of by its length.
use Rattle.std.specs.Prelude.{ℕ, zero, suc, ◌*◌, Bool, not, ◌&&◌, ◌||◌, List, [], ◌∷◌, ltb, leb, eqb, ℤ, length, get_or, drop}
use Rattle.rules.specs.Outcome.{first_of, or_else}
use Rattle.rules.specs.Bits.{all_fit}
use Rattle.rules.specs.Sheet.{sheet_length, points, coords, width, ask_count, filling}

-- x is below low or over high
abbrev pub outside : ℕ → ℕ → ℕ → Bool
outside low high x = ltb x low || ltb high x

abbrev pub differ : ℕ → ℕ → Bool
differ x y = not (eqb x y)

-- ---- the table: the number, and the test by which it is given

-- n is 0 or over 128
abbrev pub refuse1 : ℕ → ℕ × Bool
refuse1 n = (1, outside 1 128 n)

-- d is 0 or over 64
abbrev pub refuse2 : ℕ → ℕ × Bool
refuse2 d = (2, outside 1 64 d)

-- vectors are not n × d long
abbrev pub refuse3 : ℕ → ℕ → ℕ → ℕ × Bool
refuse3 n d vectors = (3, differ vectors (n * d))

-- table is not n × n long
abbrev pub refuse4 : ℕ → ℕ → ℕ × Bool
refuse4 n table = (4, differ table (n * n))

-- query is not d long (writer: queries are not asks × d)
abbrev pub refuse5 : ℕ → ℕ → ℕ × Bool
refuse5 d query = (5, differ query d)

-- start, current or asked id is n or more (writer: start over 127, which is 128 or more)
abbrev pub refuse6 : ℕ → ℕ → ℕ × Bool
refuse6 n id = (6, leb n id)

-- width is 0 or over 128
abbrev pub refuse7 : ℕ → ℕ × Bool
refuse7 width = (7, outside 1 128 width)

-- k is 0 or over the width (writer: 0 or over 128)
abbrev pub refuse8 : ℕ → ℕ → ℕ × Bool
refuse8 width k = (8, outside 1 width k)

-- threshold over 32,767
abbrev pub refuse9 : ℕ → ℕ × Bool
refuse9 threshold = (9, ltb 32767 threshold)

-- id or distance buffer shorter than k, or trail buffer shorter than n
abbrev pub refuse10 : ℕ → ℕ → ℕ → ℕ → ℕ → ℕ × Bool
refuse10 n k ids distances trail = (10, ltb ids k || (ltb distances k || ltb trail n))

-- coordinate width 0 or over 8
abbrev pub refuse11 : ℕ → ℕ × Bool
refuse11 c = (11, outside 1 8 c)

-- over 127 asks, or ask numbers not 4 × asks long
abbrev pub refuse12 : ℕ → ℕ → ℕ × Bool
refuse12 asks numbers = (12, ltb 127 asks || differ numbers (4 * asks))

-- a coordinate or query value does not fit the coordinate width
abbrev pub refuse13 : ℕ → List ℤ → List ℤ → ℕ × Bool
refuse13 c vectors queries = (13, not (all_fit c vectors && all_fit c queries))

-- output shorter than the sheet
abbrev pub refuse14 : ℕ → ℕ → ℕ × Bool
refuse14 sheet output = (14, ltb output sheet)

-- sheet under 3 bytes, or shorter than its header requires
abbrev pub refuse15 : ℕ → ℕ → ℕ × Bool
refuse15 needed bytes = (15, ltb bytes needed)

-- sheet longer than required ..
abbrev pub refuse16 : ℕ → ℕ → ℕ × Bool
refuse16 needed bytes = (16, ltb needed bytes)

-- .. or a filling bit is 1
abbrev pub refuse16f : ℕ → ℕ × Bool
refuse16f filled = (16, ltb 0 filled)

-- ask number not below the sheet's count
abbrev pub refuse17 : ℕ → ℕ → ℕ × Bool
refuse17 asks ask = (17, leb asks ask)

-- a step is due to move and the record has 127 moves or more
abbrev pub refuse18 : Bool → ℕ → ℕ × Bool
refuse18 due moves = (18, due && leb 127 moves)

-- ---- the orders

-- a set, as every entry looks at it first: 1, 2, 3
unfoldable pub set_refusal : ℕ → ℕ → ℕ → ℕ
set_refusal n d vectors = first_of (refuse1 n ∷ refuse2 d ∷ refuse3 n d vectors ∷ [])

-- point: 1, 2, 3, 6
unfoldable pub point_refusal : ℕ → ℕ → ℕ → ℕ → ℕ
point_refusal n d vectors id = first_of (refuse1 n ∷ refuse2 d ∷ refuse3 n d vectors ∷ refuse6 n id ∷ [])

-- build: 1 to 4
unfoldable pub build_refusal : ℕ → ℕ → ℕ → ℕ → ℕ
build_refusal n d vectors table = first_of (refuse1 n ∷ refuse2 d ∷ refuse3 n d vectors ∷ refuse4 n table ∷ [])

-- a set, its table, a query and the id to start from, as every entry that is lent them looks at them first: 1 to 6
unfoldable pub start_refusal : (n d vectors table query start : ℕ) → ℕ
start_refusal n d vectors table query start =
    first_of
    (refuse1 n
    ∷ refuse2 d
    ∷ refuse3 n d vectors
    ∷ refuse4 n table
    ∷ refuse5 d query
    ∷ refuse6 n start
    ∷ [])

-- search: 1 to 10
unfoldable pub search_refusal : (n d vectors table query start threshold width k ids distances trail : ℕ) → ℕ
search_refusal n d vectors table query start threshold width k ids distances trail =
    first_of
    (refuse1 n
    ∷ refuse2 d
    ∷ refuse3 n d vectors
    ∷ refuse4 n table
    ∷ refuse5 d query
    ∷ refuse6 n start
    ∷ refuse7 width
    ∷ refuse8 width k
    ∷ refuse9 threshold
    ∷ refuse10 n k ids distances trail
    ∷ [])

-- whole walk: 1 to 6, then 9
unfoldable pub walk_refusal : (n d vectors table query start threshold : ℕ) → ℕ
walk_refusal n d vectors table query start threshold =
    first_of
    (refuse1 n
    ∷ refuse2 d
    ∷ refuse3 n d vectors
    ∷ refuse4 n table
    ∷ refuse5 d query
    ∷ refuse6 n start
    ∷ refuse9 threshold
    ∷ [])

-- step: those, then 18
unfoldable pub step_refusal : (n d vectors table query current threshold : ℕ) → Bool → ℕ → ℕ
step_refusal n d vectors table query current threshold due moves =
    or_else (walk_refusal n d vectors table query current threshold) (first_of (refuse18 due moves ∷ []))

-- one ask of the writer: 6, 7, 8, 9, of its four numbers start, width, k, threshold
unfoldable pub ask_refusal : List ℕ → ℕ
ask_refusal ns =
    first_of
    (refuse6 128 (get_or ns 0 0)
    ∷ refuse7 (get_or ns 1 0)
    ∷ refuse8 128 (get_or ns 2 0)
    ∷ refuse9 (get_or ns 3 0)
    ∷ [])

-- ask by ask
unfoldable pub asks_refusal : ℕ → List ℕ → ℕ
asks_refusal zero ns = 0
asks_refusal (suc asks) ns = or_else (ask_refusal ns) (asks_refusal asks (drop 4 ns))

-- writer: 1, 2, 11, 12, 3, 5; then ask by ask 6, 7, 8, 9; then 13, 14
unfoldable pub writer_refusal : (n d c asks : ℕ) (vectors : List ℤ) (numbers : List ℕ) (queries : List ℤ) (output : ℕ) → ℕ
writer_refusal n d c asks vectors numbers queries output =
    or_else
    (first_of
    (refuse1 n
    ∷ refuse2 d
    ∷ refuse11 c
    ∷ refuse12 asks (length numbers)
    ∷ refuse3 n d (length vectors)
    ∷ refuse5 (asks * d) (length queries)
    ∷ []))
    (or_else (asks_refusal asks numbers) (first_of (refuse13 c vectors queries ∷ refuse14 (sheet_length n d c asks) output ∷ [])))

-- reading: 15 for under 3 bytes, 12, 15, 16 for length, 16 for filling
unfoldable pub sheet_refusal : List ℕ → ℕ
sheet_refusal ys =
    first_of
    (refuse15 3 (length ys)
    ∷ (12, ltb 127 (ask_count ys))
    ∷ refuse15 (sheet_length (points ys) (coords ys) (width ys) (ask_count ys)) (length ys)
    ∷ refuse16 (sheet_length (points ys) (coords ys) (width ys) (ask_count ys)) (length ys)
    ∷ refuse16f (filling ys)
    ∷ [])

-- then 3 for vectors (the lent buffer must be n × d)
unfoldable pub vectors_refusal : List ℕ → ℕ → ℕ
vectors_refusal ys buffer = or_else (sheet_refusal ys) (first_of (refuse3 (points ys) (coords ys) buffer ∷ []))

-- or 17 and 5 for one ask
unfoldable pub one_ask_refusal : List ℕ → ℕ → ℕ → ℕ
one_ask_refusal ys ask buffer = or_else (sheet_refusal ys) (first_of (refuse17 (ask_count ys) ask ∷ refuse5 (coords ys) buffer ∷ []))
