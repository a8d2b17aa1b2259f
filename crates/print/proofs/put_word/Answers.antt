use native.Mathlib.Omega.{arith}
use Rattle.rules.proofs.Numbers.{few_digits}
use Rattle.number.proofs.Writing.{put_join, put_one, put_size}
use Rattle.print.proofs.put_word.Goals as goal

pub put_decimal-next-requires : goal.put_decimal-next-requires
put_decimal-next-requires c = omega (arith, c.requires, few_digits 20 c.args.n)

pub bounds-out-next : goal.bounds-out-next
bounds-out-next c =
    let number = c.put_decimal-next.ensures in
    omega (arith, c.requires, number.end, put_size number, few_digits 20 c.args.n)

pub overflow_add-result : goal.overflow_add-result
overflow_add-result c = omega (arith, bounds-out-next c)

pub returns : goal.returns
returns c =
    let number = c.put_decimal-next in
    put_join number.ensures (put_one c.args.last number.new.text number.result)
