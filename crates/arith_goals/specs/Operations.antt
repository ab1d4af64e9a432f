-- The operations of arithmetic, as the code names them.
use Rattle.std.specs.Prelude.{Option, option_map}
use Rattle.akl_terms.specs.Arithmetic.{Operation, plus, minus, times, quotient, modulus}
use Rattle.arith_goals.specs.declared.operation.Operation as code
use Rattle.arith_goals.specs.declared.operation.Operation.TheVariants.{Plus, Minus, Times, Quotient, Modulus}

-- the operation that the code's one stands for
abbrev pub meaning : code.Operation → Operation
meaning Plus = plus
meaning Minus = minus
meaning Times = times
meaning Quotient = quotient
meaning Modulus = modulus

-- the same of what the code finds, if anything
abbrev pub named : Option code.Operation → Option Operation
named o = option_map meaning o
