-- The ids of a set in order, `firsts key n j p`: the place of an id is the number of ids before it, the first of a smaller set is the first of the list
-- that is in it, and the first k are the list's beginning. Assumes nothing.
use Prim.Native.Nat.{ℕ, zero, suc, ◌≤◌, ◌<◌}
use native.Mathlib.Nat.{not-suc-le-zero, lt_irrefl}
use native.Mathlib.Omega.{arith}
use mathlib.Core.Path.{◌≡◌, refl, sym, ap, ◌∙◌}
use mathlib.Core.Logic.{⊎_elim}
use mathlib.Core.Bool.{Bool, true, false, ◌&&◌}
use mathlib.Core.Option.{none, some}
use mathlib.Core.List.{List, [], ◌∷◌, ◌++◌, map}
use lib.Dec.{ltb}
use lib.ListN.{length, get_or, take, drop}
use lib.Seq.{take_all}
use borrow.Author.Tests.{lt-ltb, le-ltb}
use Rattle.rules.specs.Order.{count, without, Within, Ordered, first, firsts}
use Rattle.rules.specs.Search.{before}
use Rattle.laws.specs.Line.{adding, insert, Place}
use Rattle.laws.proofs.Tests.{both, never, and_l, and_i, and_r, le_or_lt, count_le, count_lt, count_none, count_one, count-pos}
use Rattle.laws.proofs.Order.{Least, None, without_in, without_of, without_ne, first-none, first_some, first_cases, firsts-none, firsts-some}
use Rattle.laws.proofs.Nearest.{first-is, later, count-without}
use Rattle.laws.proofs.Insert.{firsts-zero, insert-nil, insert-before, insert-after, firsts-insert}

module _ (key : ℕ → ℕ) (n : ℕ) where
  -- l is the ids of p, all of them and in order
  abbrev pub Whole : (ℕ → Bool) → List ℕ → Type 0
  Whole p [] = None n p
  Whole p (x ∷ l) = Least key n p x × Whole (without x p) l

-- an element of a list of keys, or of what else is worked out of each number
pub get_d_map : (f : ℕ → ℕ) (l : List ℕ) (i : ℕ) → i < length l → get_or (map f l) i 0 ≡ f (get_or l i 0)
get_d_map f [] i l = absurd (not-suc-le-zero l)
get_d_map f (x ∷ l) zero h = refl
get_d_map f (x ∷ l) (suc i) h = get_d_map f l i (omega arith)

-- ---- a number in its place

length-insert : (key : ℕ → ℕ) (x : ℕ) (l : List ℕ) → length (insert key x l) ≡ suc (length l)
length-insert key x [] = rw (insert-nil key x)
length-insert key x (y ∷ l) =
    ⊎_elim
    (λ h. rw (insert-after key x y l h) (ap suc (length-insert key x l)))
    (λ h. rw (insert-before key x y l h))
    (le_or_lt (key y) (key x))

-- a key in its place on a list of keys is the id in its place on the list of ids
place-insert : (key : ℕ → ℕ) (x : ℕ) (l : List ℕ) (r : ℕ) → Place (key x) (map key l) r →
    map key (insert key x l) ≡ take r (map key l) ++ (key x ∷ drop r (map key l))
place-insert key x [] zero h = rw (insert-nil key x)
place-insert key x [] (suc r) h = absurd (not-suc-le-zero h.within)
place-insert key x (y ∷ l) zero h = rw (insert-before key x y l (h.larger 0 (omega arith) (omega arith)))
place-insert key x (y ∷ l) (suc r) h =
    rw (insert-after key x y l (h.not-larger 0 (omega arith))) (ap (λ (t : List ℕ). key y ∷ t) (place-insert key x l r (record {
      within = omega (arith, h.within);
      larger = λ i a b. h.larger (suc i) (omega arith) (omega arith);
      not-larger = λ i a. h.not-larger (suc i) (omega arith);
    })))

module _ (key : ℕ → ℕ) (n : ℕ) (ordered : Ordered n key) where
  -- ---- how many come before

  -- none comes before the first
  before-first : (p : ℕ → Bool) (x : ℕ) → Least key n p x → before n key p x ≡ 0
  unfolding before
  before-first p x h =
      count_none n (λ y. p y && ltb (key y) (key x)) λ y l e.
      never (and_r (p y) (ltb (key y) (key x)) e) (le-ltb (key y) (key x) (h.2 y l (and_l (p y) (ltb (key y) (key x)) e)))

  -- one more than without the first
  before-rest : (p : ℕ → Bool) (x z : ℕ) → Least key n p x → key x < key z → before n key p z ≡ suc (before n key (without x p) z)
  unfolding before
  before-rest p x z h l =
      count_one
      n
      (λ y. without x p y && ltb (key y) (key z))
      (λ y. p y && ltb (key y) (key z))
      x
      h.0
      (⊎_elim (λ t. absurd (without_ne x p x (and_l (without x p x) (ltb (key x) (key z)) t) refl)) (λ f. f) (both (without x p x && ltb (key x) (key z))))
      (and_i (p x) (ltb (key x) (key z)) h.1 (lt-ltb (key x) (key z) l))
      (λ y d. ap (λ (b : Bool). b && ltb (key y) (key z)) (keeps y d))
    where
      keeps : (y : ℕ) → (y ≡ x → ⊥) → without x p y ≡ p y
      keeps y d =
          ⊎_elim
          (λ t. without_in x p y t d ∙ sym t)
          (λ f. ⊎_elim (λ t. absurd (never (without_of x p y t) f)) (λ g. g ∙ sym f) (both (without x p y)))
          (both (p y))

  -- ---- all ids of a set in order

  -- each stands for an id of the set
  pub listed : (l : List ℕ) (p : ℕ → Bool) → Whole key n p l → (r : ℕ) → r < length l → (get_or l r 0 < n) × (p (get_or l r 0) ≡ true)
  listed [] p h r q = absurd (not-suc-le-zero q)
  listed (x ∷ l) p h zero q = (h.0.0, h.0.1)
  listed (x ∷ l) p h (suc r) q =
      let e = listed l (without x p) h.1 r (omega arith) in (e.0, without_of x p (get_or l r 0) e.1)

  -- the place of an id is the number of ids of the set before it
  pub place-before : (l : List ℕ) (p : ℕ → Bool) → Whole key n p l → (r : ℕ) → r < length l → before n key p (get_or l r 0) ≡ r
  place-before [] p h r q = absurd (not-suc-le-zero q)
  place-before (x ∷ l) p h zero q = before-first p x h.0
  place-before (x ∷ l) p h (suc r) q =
      let e = listed l (without x p) h.1 r (omega arith) in
      let z : ℕ = get_or l r 0 in
      before-rest p x z h.0 (later key n ordered p x h.0 z e.0 (without_of x p z e.1) (without_ne x p z e.1))
      ∙ ap suc (place-before l (without x p) h.1 r (omega arith))

  -- the first of a smaller set w is the first on the list that is in w
  pub first_on : (l : List ℕ) (p w : ℕ → Bool) → Whole key n p l → Within n w p → (r : ℕ) → r < length l →
      ((i : ℕ) → i < r → w (get_or l i 0) ≡ false) → w (get_or l r 0) ≡ true → first key n w ≡ some (get_or l r 0)
  first_on [] p w h s r q f t = absurd (not-suc-le-zero q)
  first_on (x ∷ l) p w h s zero q f t = first-is key n ordered w x (h.0.0, t, λ y ly e. h.0.2 y ly (s y ly e))
  first_on (x ∷ l) p w h s (suc r) q f t =
      first_on l (without x p) w h.1 (λ y ly e. without_in x p y (s y ly e) (λ d. never (rw d at e) (f 0 (omega arith))))
      r (omega arith) (λ i li. f (suc i) (omega arith)) t

  -- none is left where none on the list is in w
  pub none-on : (l : List ℕ) (p w : ℕ → Bool)
      → Whole key n p l
      → Within n w p
      → ((i : ℕ) → i < length l → w (get_or l i 0) ≡ false)
      → first key n w ≡ none
  none-on [] p w h s f = ⊎_elim (λ e. e) (λ g. let t = first_some key n w g.1 in absurd (h g.0 t.0 (s g.0 t.0 t.1))) (first_cases key n w)
  none-on (x ∷ l) p w h s f =
      none-on l (without x p) w h.1 (λ y ly e. without_in x p y (s y ly e) (λ d. never (rw d at e) (f 0 (omega arith)))) (λ i li. f (suc i) (omega arith))

  -- the set has as many ids as the list
  pub whole-count : (l : List ℕ) (p : ℕ → Bool) → Whole key n p l → count n p ≡ length l
  whole-count [] p h = count_none n p h
  whole-count (x ∷ l) p h = count-without n p x h.0.0 h.0.1 ∙ ap suc (whole-count l (without x p) h.1)

  -- the first k are the list's beginning
  pub whole_take : (k : ℕ) (l : List ℕ) (p : ℕ → Bool) → Whole key n p l → firsts key n k p ≡ take k l
  whole_take zero l p h = firsts-zero key n p
  whole_take (suc k) [] p h =
      firsts-none key n (suc k) p (⊎_elim (λ e. e) (λ g. let t = first_some key n p g.1 in absurd (h g.0 t.0 t.1)) (first_cases key n p))
  whole_take (suc k) (x ∷ l) p h =
      firsts-some key n k p (first-is key n ordered p x h.0) ∙ ap (λ (t : List ℕ). x ∷ t) (whole_take k l (without x p) h.1)

  -- `firsts` of enough ids is such a list
  pub firsts-whole : (j : ℕ) (p : ℕ → Bool) → count n p ≤ j → Whole key n p (firsts key n j p)
  firsts-whole zero p c = rw (firsts-zero key n p) (λ y l e. lt_irrefl 0 (omega (arith, count-pos n p y l e)))
  firsts-whole (suc j) p c =
      ⊎_elim
      (λ e. rw (firsts-none key n (suc j) p e) (first-none key n p e))
      (λ f.
      let h = first_some key n p f.1 in
      rw (firsts-some key n j p f.1) (h, firsts-whole j (without f.0 p) (omega (arith, count-without n p f.0 h.0 h.1))))
      (first_cases key n p)

  -- the keys go up
  pub whole_rising : (l : List ℕ) (p : ℕ → Bool) → Whole key n p l → (i j : ℕ) → i < j → j < length l → key (get_or l i 0) < key (get_or l j 0)
  whole_rising [] p h i j a q = absurd (not-suc-le-zero q)
  whole_rising (x ∷ l) p h i zero a q = absurd (not-suc-le-zero a)
  whole_rising (x ∷ l) p h zero (suc j) a q =
      let e = listed l (without x p) h.1 j (omega arith) in
      let z : ℕ = get_or l j 0 in
      later key n ordered p x h.0 z e.0 (without_of x p z e.1) (without_ne x p z e.1)
  whole_rising (x ∷ l) p h (suc i) (suc j) a q = whole_rising l (without x p) h.1 i j (omega arith) (omega arith)

  -- ---- the line: the keys of all ids of a set, in order

  pub line_whole : (p : ℕ → Bool) → Whole key n p (firsts key n n p)
  line_whole p = firsts-whole n p (count_le n p)

  pub line_length : (p : ℕ → Bool) → length (firsts key n n p) ≡ count n p
  line_length p = sym (whole-count (firsts key n n p) p (line_whole p))

  -- one more id: its key in its place
  pub line_insert : (p : ℕ → Bool) (x : ℕ) → x < n → p x ≡ false → (r : ℕ) → Place (key x) (map key (firsts key n n p)) r →
      map key (firsts key n n (adding x p)) ≡ take r (map key (firsts key n n p)) ++ (key x ∷ drop r (map key (firsts key n n p)))
  line_insert p x lx f r h =
      let room : length (insert key x (firsts key n n p)) ≤ n = omega (arith, length-insert key x (firsts key n n p), line_length p, count_lt n p x lx f) in
      ap (map key) (firsts-insert key n ordered x lx n p f ∙ take_all n _ room)
      ∙ place-insert key x (firsts key n n p) r h
