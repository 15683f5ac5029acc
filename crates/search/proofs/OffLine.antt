-- The answer, off the line: its first keys are the keys of the first k seen ids. Assumes nothing.
use Prim.Native.Nat.{ℕ, suc, ◌≤◌, ◌<◌, min}
use native.Mathlib.Omega.{arith}
use mathlib.Core.Path.{◌≡◌, refl, sym, ap, ap₂, ◌∙◌}
use mathlib.Core.Bool.{Bool}
use mathlib.Core.List.{List, [], ◌∷◌, map}
use lib.ListN.{length, get_or, take, length-take, length-map}
use lib.Seq.{get_or-take}
use Rattle.std.proofs.lemmas.List.{take-map, take_min}
use Rattle.rules.specs.Order.{keyed, count, firsts, Ordered}
use Rattle.laws.proofs.Keyed.{keyed_ordered, keyed_id, keyed_D}
use Rattle.laws.proofs.Nearest.{firsts-nearest}
use Rattle.laws.proofs.Line.{line_whole, whole_take, listed}
use Rattle.search.specs.Answer.{id_of, distance_of}

module _ (D : ℕ → ℕ) where
  ids_back : (l : List ℕ) → ((i : ℕ) → i < length l → get_or l i 0 < 128) → map id_of (map (keyed D) l) ≡ l
  ids_back [] h = refl
  ids_back (x ∷ l) h =
      ap₂ (λ (a : ℕ) (t : List ℕ). a ∷ t) (keyed_id D x (h 0 (omega arith))) (ids_back l (λ i k. h (suc i) (omega arith)))

  distances_back : (l : List ℕ) → ((i : ℕ) → i < length l → get_or l i 0 < 128) → map distance_of (map (keyed D) l) ≡ map D l
  distances_back [] h = refl
  distances_back (x ∷ l) h =
      ap₂ (λ (a : ℕ) (t : List ℕ). a ∷ t) (keyed_D D x (h 0 (omega arith))) (distances_back l (λ i k. h (suc i) (omega arith)))

  module _ (n k : ℕ) (small : n ≤ 128) (p : ℕ → Bool) where
    ordered : Ordered n (keyed D)
    ordered = keyed_ordered D n small

    -- the first k ids that pass, and all of them
    abbrev near : List ℕ
    near = firsts (keyed D) n k p

    abbrev all : List ℕ
    all = firsts (keyed D) n n p

    -- the first k are the beginning of the line
    taken : near ≡ take k all
    taken = whole_take (keyed D) n ordered k all p (line_whole (keyed D) n ordered p)

    pub small_ids : (i : ℕ) → i < length near → get_or near i 0 < 128
    small_ids i l =
        let len : i < min k (length all) = omega (arith, l, ap length taken, length-take k all) in
        let e : get_or near i 0 ≡ get_or all i 0 = ap (λ (t : List ℕ). get_or t i 0) taken ∙ get_or-take k all i 0 (omega arith) in
        omega (arith, e, (listed (keyed D) n ordered all p (line_whole (keyed D) n ordered p) i (omega arith)).0)

    pub found-is : (seen found : ℕ) → seen ≡ count n p → found ≡ min k seen → found ≡ length near
    found-is seen found s f = f ∙ ap (min k) s ∙ sym (firsts-nearest (keyed D) n ordered k p).many

    module _ (line : List ℕ) (found : ℕ) (f : found ≡ min k (length line)) (line_is : line ≡ map (keyed D) all) where
      front : take found line ≡ map (keyed D) near
      front =
          let len : length all ≡ length line = sym (ap length line_is ∙ length-map all (keyed D)) in
          ap (take found) line_is
          ∙ take-map (keyed D) found all
          ∙ ap (map (keyed D)) (ap (λ (j : ℕ). take j all) (f ∙ ap (min k) (sym len)) ∙ take_min k all ∙ sym taken)

      pub ids_are : map id_of (take found line) ≡ near
      ids_are = ap (map id_of) front ∙ ids_back near small_ids

      pub distances_are : map distance_of (take found line) ≡ map D near
      distances_are = ap (map distance_of) front ∙ distances_back near small_ids
