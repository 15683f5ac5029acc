-- A row of the table: the ids get their cells in order from u, so that of each id all that could stand between are decided before it.
use Rattle.std.specs.Prelude.{ℕ, ◌≤◌, ◌<◌, min, ◌≡◌, ◌≢◌, ◌⊎◌, Bool, true, cond, ◌&&◌, List, eqb, ltb, leb, length, get_or, fold}
use Rattle.rules.specs.Order.{keyed}
use Rattle.rules.specs.Labels.{label_of, leads, cell}

-- the largest number of 32 bits, above every distance and every key: it stands for none
abbrev pub top : ℕ
top = 4294967295

-- the least number of a list
abbrev pub lowest : List ℕ → ℕ
lowest l = fold min top l

-- m is the least key of the ids below n that pass, or `top` where none passes
pub record Least (key : ℕ → ℕ) (n : ℕ) (p : ℕ → Bool) (m : ℕ) : Type 0 where
  pub under : (w : ℕ) → w < n → p w ≡ true → m ≤ key w
  pub met : (m ≡ top) ⊎ ((w : ℕ) × (w < n) × (p w ≡ true) × (m ≡ key w))

-- the id w is no more among those that wait for a cell
unfoldable pub done : List ℕ → ℕ → Bool
done left w = eqb (get_or left w 0) top

-- the least distance to x, where another point leads towards x too if it is nearer to u than x is
unfoldable pub led : (duv dux dvx least : ℕ) → ℕ
led duv dux dvx least = cond (ltb duv dux) (min dvx least) least

-- after v has come to lead: the least distance to each x
pub record Spread (δ : ℕ → ℕ → ℕ) (u v : ℕ) (old new : List ℕ) : Type 0 where
  pub long : length new ≡ 128
  pub each : (x : ℕ) → x < 128 → get_or new x 0 ≡ led (δ u v) (δ u x) (δ v x) (get_or old x 0)

-- a cell by D(u,v) and the least distance to v from a point that leads
unfoldable pub cell_by : ℕ → ℕ → ℕ
cell_by duv m = cond (leb duv m) 0 (label_of duv m)

module _ (δ : ℕ → ℕ → ℕ) (n u : ℕ) where
  -- `left` holds the keys of the ids that wait, and `top` for each other
  abbrev pub Waiting : List ℕ → Type 0
  Waiting left = (v : ℕ) → v < 128 → (get_or left v 0 ≡ top) ⊎ ((v < n) × (v ≢ u) × (get_or left v 0 ≡ keyed (δ u) v))

  -- `lead` holds, for each id x, the least distance to x from a point that leads towards it and does not wait
  abbrev pub Leading : List ℕ → List ℕ → Type 0
  Leading left lead = (x : ℕ) → x < n → Least (λ w. δ w x) n (λ w. leads δ n u x w && done left w) (get_or lead x 0)

  -- all ids but u wait
  pub record Queued (left : List ℕ) : Type 0 where
    pub long : length left ≡ 128
    pub self : get_or left u 0 ≡ top
    pub ids : (v : ℕ) → v < n → v ≢ u → get_or left v 0 ≡ keyed (δ u) v
    pub others : (v : ℕ) → n ≤ v → v < 128 → get_or left v 0 ≡ top

  pub record Sofar (left lead : List ℕ) : Type 0 where
    pub long_left : length left ≡ 128
    pub long_lead : length lead ≡ 128
    pub waiting : Waiting left
    pub leading : Leading left lead

  -- those that do not wait have their cells in the row
  pub record Written (left cells : List ℕ) : Type 0 where
    pub long : length cells ≡ n
    pub decided : (v : ℕ) → v < n → done left v ≡ true → get_or cells v 0 ≡ cell δ n u v

  -- the row's cells
  pub record RowOf (cells : List ℕ) : Type 0 where
    pub long : length cells ≡ n
    pub each : (v : ℕ) → v < n → get_or cells v 0 ≡ cell δ n u v
