-- `put_decimal` meets its contract: the one digit, or the last digit behind the others. Assumes nothing.
use native.Mathlib.Omega.{arith}
use Rattle.printing.proofs.LineLaws.{small_length, more_length, decimal_one, decimal_behind}
use Rattle.printing.proofs.text.+put_decimal.Goals as goal

pub bounds-bytes-at : goal.bounds-bytes-at
bounds-bytes-at t c = omega (arith, c.requires, small_length _ c.if-n-lt10.true)

pub returns-then-n-lt10 : goal.returns-then-n-lt10
returns-then-n-lt10 t c = decimal_one _ _ _ _ c.if-n-lt10.true c.digit.ensures

pub put_decimal-last-requires : goal.put_decimal-last-requires
put_decimal-last-requires t c =
    let l = c.if-n-lt10.false in
    (omega (arith, c.decreases, l), omega (arith, c.requires, more_length _ l))

pub bounds-bytes-last : goal.bounds-bytes-last
bounds-bytes-last t c = omega (arith, c.requires, c.put_decimal-last.ensures.0, more_length _ c.if-n-lt10.false)

pub overflow_add-result-2 : goal.overflow_add-result-2
overflow_add-result-2 t c = omega (arith, c.requires, c.put_decimal-last.ensures.0, more_length _ c.if-n-lt10.false)

pub returns : goal.returns
returns t c = decimal_behind _ _ _ _ _ _ c.if-n-lt10.false c.put_decimal-last.ensures c.digit-2.ensures
