-- One id of a row after the other: the first of those that wait gets its cell, and then leads if its edge is direct. Assumes nothing.
use Prim.Native.Nat.{ℕ, ◌+◌, ◌*◌, ◌/◌, ◌%◌, ◌≤◌, ◌<◌, min}
use mathlib.Core.Path.{◌≡◌, refl, sym, ap, ap₂, subst, ◌∙◌}
use mathlib.Core.Logic.{◌≢◌, inl, inr, ⊎_elim, ∥∥₁_elim, ∥∥₁_map}
use Rattle.std.proofs.Math.Nat.{ℕ_set}
use Rattle.std.proofs.Math.Bool.{Bool-set}
use Rattle.std.proofs.Math.Bridge.{le_prop}
use mathlib.Core.Bool.{Bool, true, false, cond, ◌&&◌}
use mathlib.Core.List.{List}
use native.Mathlib.Nat.{lt_irrefl}
use native.Mathlib.Omega.{arith}
use lib.Arith.{digits_div, digits_mod}
use lib.Dec.{ltb, leb, eqb}
use lib.ListN.{length, get_or, set, length-set}
use lib.Seq.{get_or-set_same, get_or-set_other}
use borrow.Author.Tests.{eqb-true, eqb-false, eq-eqb, ne_eqb}
use Rattle.rules.specs.Order.{keyed}
use Rattle.rules.specs.Labels.{leads, cell}
use Rattle.laws.proofs.Tests.{both, and_l, and_i, and_false}
use Rattle.laws.proofs.Table.{leads-is}
use Rattle.table.specs.Kept.{far, Mutual}
use Rattle.table.specs.Rows.{top, lowest, Least, done, led, Spread, cell_by, Waiting, Sofar}
use Rattle.table.specs.declared.rows.Row.{Row}
use Rattle.table.proofs.Least.{lowest-under, lowest-met, least-add, direct-by, cell_by_lem}

-- ---- who waits

pub done-top : (left : List ℕ) (w : ℕ) → get_or left w 0 ≡ top → done left w ≡ true
unfolding done
done-top left w e = eq-eqb (get_or left w 0) top e

pub done-is : (left : List ℕ) (w : ℕ) → done left w ≡ true → get_or left w 0 ≡ top
unfolding done
done-is left w e = eqb-true (get_or left w 0) top e

waits : (left : List ℕ) (w : ℕ) → get_or left w 0 < top → done left w ≡ false
unfolding done
waits left w h = ne_eqb (get_or left w 0) top (λ e. lt_irrefl top (omega (arith, e)))

pub done-set : (left : List ℕ) (v : ℕ) → v < length left → done (set left v top) v ≡ true
done-set left v l = done-top (set left v top) v (get_or-set_same left v top 0 l)

pub done_kept : (left : List ℕ) (v w : ℕ) → w ≢ v → done (set left v top) w ≡ done left w
unfolding done
done_kept left v w d = rw (get_or-set_other left v w top 0 d)

-- v waits, and all ids that are nearer to u than v is do not
pub record Chosen (δ : ℕ → ℕ → ℕ) (n u : ℕ) (left : List ℕ) (key v : ℕ) : Type 0 where
  pub place : key % 128 ≡ v
  pub far : key / 128 ≡ δ u v
  pub below : v < n
  pub other : u ≢ v
  pub waiting : done left v ≡ false
  pub nearer : (w : ℕ) → w < n → δ u w < δ u v → done left w ≡ true

-- the id whose key is the first
chosen_at : {δ : ℕ → ℕ → ℕ} {n u key : ℕ} {left : List ℕ} (v : ℕ) → n ≤ 128 → length left ≡ 128 → Waiting δ n u left → key ≡ lowest left → key < top → v < n → v ≢ u →
    key ≡ δ u v * 128 + v → get_or left v 0 ≡ key → Chosen δ n u left key v
unfolding keyed
chosen_at {δ} {n} {u} {key} {left} v few long waiting e h l d k g = record {
  place = rw k (digits_mod (δ u v) (omega arith));
  far = rw k (digits_div (δ u v) (omega arith));
  below = l;
  other = λ s. d (sym s);
  waiting = waits left v (omega arith);
  nearer = λ w lw near.
      ⊎_elim
      (λ t. done-top left w t)
      (λ f. absurd (lt_irrefl (δ u w) (omega (arith, f.2, lowest-under left w (omega arith)))))
      (waiting w (omega arith));
}

pub chosen : {δ : ℕ → ℕ → ℕ} {n u key : ℕ} {left : List ℕ} → n ≤ 128 → length left ≡ 128 → Waiting δ n u left → key ≡ lowest left → key < top →
    Chosen δ n u left key (key % 128)
unfolding keyed
chosen {δ} {n} {u} {key} {left} few long waiting e h =
    ⊎_elim
    (λ t. absurd (lt_irrefl top (omega (arith, t))))
    (λ f.
    ⊎_elim
    (λ t. absurd (lt_irrefl top (omega (arith, f.2, t))))
    (λ g.
    let c : Chosen δ n u left key f.0 = chosen_at f.0 few long waiting e h g.0 g.1 (e ∙ f.2 ∙ g.2) (sym (e ∙ f.2)) in
    subst (Chosen δ n u left key) (sym c.place) c)
    (waiting f.0 (omega (arith, f.1))))
    (lowest-met left)

-- ---- its cell

and_true : (a : Bool) → a && true ≡ a
and_true true = refl
and_true false = refl

cond-cond : (a b : Bool) (y z : ℕ) → cond a (cond b y z) z ≡ cond (a && b) y z
cond-cond true b y z = refl
cond-cond false b y z = refl

module _ {δ : ℕ → ℕ → ℕ} {n u key v : ℕ} {left lead : List ℕ} (kept : Mutual δ n) (lu : u < n) (sofar : Sofar δ n u left lead)
    (c : Chosen δ n u left key v) where
  -- every point that leads towards v is decided
  least : Least (λ w. δ w v) n (leads δ n u v) (get_or lead v 0)
  least = record {
    under = λ w l e. (sofar.leading v c.below).under w l (and_i (leads δ n u v w) (done left w) e (c.nearer w l ((leads-is δ n u v w).0 e).2));
    met =
        ⊎_elim
        inl
        (λ f. inr (f.0, f.1, and_l (leads δ n u v f.0) (done left f.0) f.2, f.3))
        (sofar.leading v c.below).met;
  }

  settled_cell : cell δ n u v ≡ cell_by (δ u v) (get_or lead v 0)
  settled_cell = cell_by_lem kept lu c.below c.other least

  -- ---- those that wait afterwards, and those that lead

  waiting-less : Waiting δ n u (set left v top)
  waiting-less x l =
      ⊎_elim
      (λ e. inl (rw (eqb-true x v e) (get_or-set_same left v top 0 (omega (arith, sofar.long_left)))))
      (λ e. rw (get_or-set_other left v x top 0 (eqb-false x v e)) (sofar.waiting x l))
      (both (eqb x v))

  done_v : done (set left v top) v ≡ true
  done_v = done-set left v (omega (arith, sofar.long_left, kept.few, c.below))

  -- whether v leads towards x
  leads_v : (x : ℕ) → leads δ n u x v ≡ leb (δ u v) (get_or lead v 0) && ltb (δ u v) (δ u x)
  unfolding leads
  leads_v x = rw (ne_eqb u v c.other, direct-by kept lu c.below c.other least)

  settled : (lead' : List ℕ) → length lead' ≡ 128 →
      ((x : ℕ) → x < n → get_or lead' x 0 ≡ cond (leb (δ u v) (get_or lead v 0)) (led (δ u v) (δ u x) (δ v x) (get_or lead x 0)) (get_or lead x 0)) →
      Sofar δ n u (set left v top) lead'
  unfolding led
  settled lead' long is = record {
    long_left = simp length-set sofar.long_left;
    long_lead = long;
    waiting = waiting-less;
    leading = λ x l.
        let more =
        least-add
        {q = λ w. leads δ n u x w && done (set left v top) w}
        (leads δ n u x v)
        (sofar.leading x l)
        c.below
        (ap (λ (t : Bool). leads δ n u x v && t) c.waiting ∙ and_false (leads δ n u x v))
        (ap (λ (t : Bool). leads δ n u x v && t) done_v ∙ and_true (leads δ n u x v))
        (λ w lw d. ap (λ (t : Bool). leads δ n u x w && t) (done_kept left v w d)) in
        subst
        (Least (λ w. δ w x) n (λ w. leads δ n u x w && done (set left v top) w))
        (sym
        (is x l
        ∙ cond-cond (leb (δ u v) (get_or lead v 0)) (ltb (δ u v) (δ u x)) _ _
        ∙ ap (λ (t : Bool). cond t (min (δ v x) (get_or lead x 0)) (get_or lead x 0)) (sym (leads_v x))))
        more;
  }

-- ---- the same, by the first key

-- some id of row u waits, and this key is the first
pub record First (δ : ℕ → ℕ → ℕ) (n u : ℕ) (left lead : List ℕ) (key : ℕ) : Type 0 where
  pub kept : Mutual δ n
  pub row : u < n
  pub sofar : ∥ Sofar δ n u left lead ∥₁
  pub next : key ≡ lowest left
  pub some : key < top

-- the same of a row as it stands
pub first_of : (s : Row) {key : ℕ} → (key ≡ lowest s.left.now) × (key < top) → First (far s.distances.now.cells) s.distances.now.n s.u s.left.now s.lead.now key
first_of s h = record { kept = s.distances.now.both_ways; row = s.u_in; sofar = s.sofar; next = h.0; some = h.1 }

module _ {δ : ℕ → ℕ → ℕ} {n u key : ℕ} {left lead : List ℕ} (f : First δ n u left lead key) where
  first : Sofar δ n u left lead → Chosen δ n u left key (key % 128)
  first s = chosen f.kept.few s.long_left s.waiting f.next f.some

  pub first_long : length left ≡ 128
  first_long = ∥∥₁_elim f.sofar (ℕ_set _ _) (λ s. s.long_left)

  -- the id is one of the set's, and its distance within the limit
  pub first_below : key % 128 < n
  first_below = ∥∥₁_elim f.sofar le_prop (λ s. (first s).below)

  pub first-waits : done left (key % 128) ≡ false
  first-waits = ∥∥₁_elim f.sofar (Bool-set _ _) (λ s. (first s).waiting)

  -- by the two parts of the key, as the code has them
  module _ {v duv : ℕ} (place : v ≡ key % 128) (apart : duv ≡ key / 128) where
    pub first_small : duv ≤ 4161600
    first_small = rw apart (∥∥₁_elim f.sofar le_prop (λ s. rw (first s).far (f.kept.small u (key % 128) f.row first_below)))

    pub first_room : (cells : List ℕ) → length cells ≡ n → v < length cells
    first_room cells long = omega (arith, place, long, first_below)

    pub first_cell : {x : ℕ} (cells : List ℕ) → x ≡ cell_by duv (get_or lead v 0) → set cells v x ≡ set cells (key % 128) (cell δ n u (key % 128))
    first_cell cells p =
        ap₂
        (set cells)
        place
        (∥∥₁_elim
        f.sofar
        (ℕ_set _ _)
        (λ s.
        p
        ∙ ap₂ (λ (k j : ℕ). cell_by k (get_or lead j 0)) (apart ∙ (first s).far) place
        ∙ sym (settled_cell f.kept f.row s (first s))))

    -- where its edge is direct it leads from now on, and otherwise it does not
    pub first-leads : {lead' : List ℕ} → leb duv (get_or lead v 0) ≡ true → Spread δ u v lead lead' → ∥ Sofar δ n u (set left v top) lead' ∥₁
    first-leads {lead'} t spread =
        rw
        place
        (∥∥₁_map
        f.sofar
        (λ s.
        let spread : Spread δ u (key % 128) lead lead' = rw place at spread in
        settled f.kept f.row s (first s) lead' spread.long (λ x l. spread.each x (omega (arith, f.kept.few)) ∙ rw (rw (place, apart, (first s).far) at t))))

    pub first_stays : leb duv (get_or lead v 0) ≡ false → ∥ Sofar δ n u (set left v top) lead ∥₁
    first_stays t =
        rw place (∥∥₁_map f.sofar (λ s. settled f.kept f.row s (first s) lead s.long_lead (λ x l. rw (rw (place, apart, (first s).far) at t))))
