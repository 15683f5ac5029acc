-- The two sinks, and that they keep the laws.
use Rattle.std.specs.Prelude.{ℕ, ◌+◌, ◌-◌, ◌≡◌, List, ◌++◌, length, take, drop}
use Rattle.std.proofs.Common.{refl, ap, sym, ◌∙◌, arith, length-append, append_assoc}
use Rattle.std.proofs.lemmas.List.{append-nil, drop-drop}
use Rattle.lines.specs.declared.sink.Room.{Room}
use Rattle.lines.specs.declared.sink.Page.{Page}
use Rattle.lines.specs.Sinks.{SinkLaws}

abbrev pub room_left : Room → ℕ
room_left s = s.left

abbrev pub RoomTook : Room → List ℕ → Room → Type 0
RoomTook s l t = t.left + length l ≡ s.left

pub room_laws : SinkLaws room_left RoomTook
room_laws = record {
  starts = λ s. omega arith;
  takes = λ s l t h. omega arith;
  joins = λ s a t b u x y. omega (arith, length-append a b);
}

abbrev pub page_room : Page → ℕ
page_room s = length s.output.now - s.at

-- the bytes stand from the first place to the second, what was before them is still there, and so is what comes after them
pub record PageTook (s : Page) (l : List ℕ) (t : Page) : Type 0 where
  pub ends : t.at ≡ s.at + length l
  pub written : take t.at t.output.now ≡ take s.at s.output.now ++ l
  pub kept : drop t.at t.output.now ≡ drop t.at s.output.now
  pub size : length t.output.now ≡ length s.output.now
  pub same_reference : t.output.ghost_name ≡ s.output.ghost_name

pub page_laws : SinkLaws page_room PageTook
page_laws = record {
  starts = λ s. record { ends = omega arith; written = sym (append-nil (take s.at s.output.now)); kept = refl; size = refl; same_reference = refl };
  takes = λ s l t h. omega (arith, h.ends, h.size, t.inside);
  joins = λ s a t b u x y.
      let more : drop (t.at + length b) t.output.now ≡ drop (t.at + length b) s.output.now =
      sym (drop-drop (length b) t.at t.output.now) ∙ ap (drop (length b)) x.kept ∙ drop-drop (length b) t.at s.output.now in record {
        ends = omega (arith, x.ends, y.ends, length-append a b);
        written = y.written ∙ ap (λ (xs : List ℕ). xs ++ b) x.written ∙ append_assoc (take s.at s.output.now) a b;
        kept = y.kept ∙ rw y.ends more;
        size = y.size ∙ x.size;
        same_reference = y.same_reference ∙ x.same_reference;
      };
}
