-- `sheet::ask` meets its contract. Assumes nothing.
use Rattle.std.proofs.Common.{◌≡◌, ◌+◌, ◌<◌, ap, ◌∙◌, arith}
use Rattle.rules.specs.Sheet.{bit_count}
use Rattle.rules.specs.Entries.{ask_answer, query_after}
use Rattle.rules.specs.Outcome.{gives}
use Rattle.sheet.proofs.Entered.{answer-given, left_new}
use Rattle.sheet.proofs.Reading.{ask_free, ask_is, query_is}
use Rattle.sheet.proofs.ask.Goals as goal

pub returns-clause-value : goal.returns-clause-value
unfolding ask_answer
returns-clause-value c =
    let h = c.in_ok-head.head in
    let ok = c.in_ok-head.ensures in
    let i = c.args.number in
    let same : c.from-number.result ≡ i = c.from-number.ensures in
    let there : i < h.asks = omega arith in
    let count : c.place.result ≡ bit_count h.n h.d h.c i = c.place.ensures.value ∙ ap (bit_count h.n h.d h.c) same in
    let place : c.past-place.result.next ≡ bit_count h.n h.d h.c i = omega (arith, c.open.ensures.1, c.past-place.ensures.1) in
    ap gives
    (ask_is _ h ok.said i c.past-place.result (ap (λ s. s.now) (c.past-place.ensures.0 ∙ c.open.ensures.0)) c.read-numbers.result place c.read-numbers.ensures.value)
    ∙ answer-given (ask_free _ h ok.said i _ ok.refusal there c.if-query-head.false) _

pub returns-clause-query : goal.returns-clause-query
unfolding query_after
returns-clause-query c =
    let h = c.in_ok-head.head in
    let ok = c.in_ok-head.ensures in
    let i = c.args.number in
    let same : c.from-number.result ≡ i = c.from-number.ensures in
    let there : i < h.asks = omega arith in
    let count : c.place.result ≡ bit_count h.n h.d h.c i = c.place.ensures.value ∙ ap (bit_count h.n h.d h.c) same in
    let place : c.read-numbers.new.place.next ≡ bit_count h.n h.d h.c i + 36 = omega (arith, c.open.ensures.1, c.past-place.ensures.1) in
    c.fill.ensures
    ∙ query_is _ h ok.said i c.read-numbers.new.place (ap (λ s. s.now) (c.read-numbers.ensures.same ∙ c.past-place.ensures.0 ∙ c.open.ensures.0)) _ c.if-query-head.false place
    ∙ left_new (ask_free _ h ok.said i _ ok.refusal there c.if-query-head.false) _ _
