-- What the entries answer, from what the code has in hand. Assumes nothing.
use Rattle.std.proofs.Common.{◌≡◌, ℕ, ◌≢◌, Result, Ok, Err, IfOk, sym, ap, ◌∙◌}
use Rattle.rules.specs.Outcome.{gives, refused, outcome, after}
use Rattle.laws.proofs.Refusals.{outcome-gives, outcome-refused, after_new}
use Rattle.space.specs.declared.refusal.Refusal.{Refusal}
use Rattle.space.specs.Told.{number, number_in, told}
use Rattle.space.proofs.Told.{number-some}

-- ---- where the refusal that is due is s: the code refuses, or it gives

due : {s : ℕ} (r : Refusal) → number r ≡ s → s ≢ 0
due r is z = number-some r (is ∙ z)

module _ {A : Type 0} {s : ℕ} where
  pub answer-refused : (r : Refusal) → number r ≡ s → (a : A) → refused (number r) ≡ outcome s a
  answer-refused r is a = ap refused is ∙ sym (outcome-refused (due r is) a)

  pub answer-given : 0 ≡ s → (a : A) → gives a ≡ outcome s a
  answer-given z a = sym (outcome-gives (sym z) a)

  pub left_new : 0 ≡ s → (old new : A) → new ≡ after s old new
  left_new z old new = sym (after_new (sym z) old new)

-- what is answered, by the refusal and what is given
pub told_is : {A B : Type 0} (f : A → B) (s : ℕ) (a : B) (r : Result A Refusal) → number_in r ≡ s → IfOk r (λ x. f x ≡ a) → told f r ≡ outcome s a
told_is f s a (Ok x) none given = ap gives given ∙ answer-given none a
told_is f s a (Err r) is given = answer-refused r is a
