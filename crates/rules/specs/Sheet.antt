-- Document 01, "Test sheet", the table of fields:
--   points 7 bits: n - 1; coordinates 6: d - 1; coordinate width 3: c - 1; asks 8: 0 to 127; vectors n × d × c: point after point;
--   each ask 36 + d × c: start 7, width - 1 7, k - 1 7, threshold 15, query; filling 0 to 7: zero bits to the byte's end.
-- "The writer is given the coordinate width c, the ask count, and four 16-bit numbers per ask (start, width, k, threshold) beside the queries.
-- .. Reading gives n, d, c and the ask count; or the vectors in a lent buffer; or one ask's four numbers, with its query in a lent buffer."
use Rattle.std.specs.Prelude.{Bool, List, [], ◌∷◌, ◌++◌, ℕ, zero, suc, ◌+◌, ◌-◌, ◌*◌, length, take, drop, get_or, ℤ}
use Rattle.rules.specs.Bits.{bits, number, value_bits, values, unpacked, byte_count, bytes_of}

-- what a sheet holds: n points of d coordinates, the coordinate width c, the ask count, the points' coordinates,
-- four numbers for each ask (start, width, k, threshold), and the asks' queries
pub record Contents : Type 0 where
  pub n : ℕ
  pub d : ℕ
  pub c : ℕ
  pub asks : ℕ
  pub vectors : List ℤ
  pub numbers : List ℕ
  pub queries : List ℤ

abbrev pub contents : ℕ → ℕ → ℕ → ℕ → List ℤ → List ℕ → List ℤ → Contents
contents n d c asks vs ns qs = record { n = n; d = d; c = c; asks = asks; vectors = vs; numbers = ns; queries = qs }

-- ---- writing

-- the fields points, coordinates, coordinate width and asks
unfoldable pub head_bits : ℕ → ℕ → ℕ → ℕ → List Bool
head_bits n d c asks = bits 7 (n - 1) ++ (bits 6 (d - 1) ++ (bits 3 (c - 1) ++ bits 8 asks))

-- an ask's four numbers: start, width - 1, k - 1, threshold
unfoldable pub number_bits : List ℕ → List Bool
number_bits ns = bits 7 (get_or ns 0 0) ++ (bits 7 (get_or ns 1 0 - 1) ++ (bits 7 (get_or ns 2 0 - 1) ++ bits 15 (get_or ns 3 0)))

-- the asks: each takes its four numbers and its d query values
unfoldable pub ask_bits : ℕ → ℕ → ℕ → List ℕ → List ℤ → List Bool
ask_bits d c zero ns qs = []
ask_bits d c (suc a) ns qs = number_bits ns ++ (value_bits c (take d qs) ++ ask_bits d c a (drop 4 ns) (drop d qs))

unfoldable pub sheet_bits : Contents → List Bool
sheet_bits k = head_bits k.n k.d k.c k.asks ++ (value_bits k.c k.vectors ++ ask_bits k.d k.c k.asks k.numbers k.queries)

-- the sheet's bytes
unfoldable pub sheet : Contents → List ℕ
sheet k = bytes_of (sheet_bits k)

-- how many bits a sheet has before the filling, and how many bytes with it
unfoldable pub bit_count : ℕ → ℕ → ℕ → ℕ → ℕ
bit_count n d c asks = 24 + (n * d * c + asks * (36 + d * c))

unfoldable pub sheet_length : ℕ → ℕ → ℕ → ℕ → ℕ
sheet_length n d c asks = byte_count (bit_count n d c asks)

-- ---- reading

-- the number in w bits from bit p on
unfoldable pub field_at : List ℕ → ℕ → ℕ → ℕ
field_at ys p w = number (take w (drop p (unpacked ys)))

unfoldable pub points : List ℕ → ℕ
points ys = field_at ys 0 7 + 1

unfoldable pub coords : List ℕ → ℕ
coords ys = field_at ys 7 6 + 1

unfoldable pub width : List ℕ → ℕ
width ys = field_at ys 13 3 + 1

unfoldable pub ask_count : List ℕ → ℕ
ask_count ys = field_at ys 16 8

-- the bits that the header requires, and the bits after them to the sheet's end as a number: the filling
unfoldable pub required : List ℕ → ℕ
required ys = bit_count (points ys) (coords ys) (width ys) (ask_count ys)

unfoldable pub filling : List ℕ → ℕ
filling ys = field_at ys (required ys) (length ys * 8 - required ys)

-- the vectors
unfoldable pub vectors_of : List ℕ → List ℤ
vectors_of ys = values (width ys) (points ys * coords ys) (drop 24 (unpacked ys))

-- an ask's four numbers at the front of bits
unfoldable pub numbers_in : List Bool → List ℕ
numbers_in bs =
    number (take 7 bs)
    ∷ (number (take 7 (drop 7 bs)) + 1)
    ∷ (number (take 7 (drop 14 bs)) + 1)
    ∷ number (take 15 (drop 21 bs))
    ∷ []

-- where ask i starts
unfoldable pub ask_place : List ℕ → ℕ → ℕ
ask_place ys i = 24 + (points ys * coords ys * width ys + i * (36 + coords ys * width ys))

-- the four numbers of ask i, and its query
unfoldable pub ask_numbers : List ℕ → ℕ → List ℕ
ask_numbers ys i = numbers_in (drop (ask_place ys i) (unpacked ys))

unfoldable pub ask_query : List ℕ → ℕ → List ℤ
ask_query ys i = values (width ys) (coords ys) (drop 36 (drop (ask_place ys i) (unpacked ys)))

-- all asks' numbers and queries, from the bits where the asks start
unfoldable pub all_numbers : ℕ → ℕ → ℕ → List Bool → List ℕ
all_numbers d c zero bs = []
all_numbers d c (suc a) bs = numbers_in bs ++ all_numbers d c a (drop (36 + d * c) bs)

unfoldable pub all_queries : ℕ → ℕ → ℕ → List Bool → List ℤ
all_queries d c zero bs = []
all_queries d c (suc a) bs = values c d (drop 36 bs) ++ all_queries d c a (drop (36 + d * c) bs)

-- what a sheet says
unfoldable pub contents_of : List ℕ → Contents
contents_of ys =
    record {
      n = points ys;
      d = coords ys;
      c = width ys;
      asks = ask_count ys;
      vectors = vectors_of ys;
      numbers = all_numbers (coords ys) (width ys) (ask_count ys) (drop (ask_place ys 0) (unpacked ys));
      queries = all_queries (coords ys) (width ys) (ask_count ys) (drop (ask_place ys 0) (unpacked ys));
    }
