-- The definitions that turn an answer into document 01's terms lose nothing: answers that say the same are the same. Assumes nothing.
use Rattle.std.proofs.Common.{◌≡◌, ℕ, Result, ap}
use Rattle.space.specs.declared.refusal.Refusal.{Refusal}
use Rattle.space.proofs.Told.{told-one}
use Rattle.sheet.specs.declared.Head.{Head}
use Rattle.sheet.specs.declared.Numbers.{Numbers}
use Rattle.sheet.specs.Answers.{header_of, four_of, write_told, head_told, ask_told}

pub write_told_lem : (a b : Result ℕ Refusal) → write_told a ≡ write_told b → a ≡ b
write_told_lem = told-one (λ l. l) (λ l m e. e)

same_head : (h g : Head) → header_of h ≡ header_of g → h ≡ g
same_head h g e = ap (λ x. record { n = x.n; d = x.d; c = x.c; asks = x.asks }) e

pub head_told_lem : (a b : Result Head Refusal) → head_told a ≡ head_told b → a ≡ b
head_told_lem = told-one header_of same_head

same_numbers : (a b : Numbers) → four_of a ≡ four_of b → a ≡ b
same_numbers a b e = ap (λ x. record { start = x.start; width = x.width; k = x.k; threshold = x.threshold }) e

pub ask-told : (a b : Result Numbers Refusal) → ask_told a ≡ ask_told b → a ≡ b
ask-told = told-one four_of same_numbers
