-- What kinds of token have in common.
use Rattle.std.specs.Prelude.{Bool, true, false}
use Rattle.akl_text.specs.declared.token.Kind.{Kind}
use Rattle.akl_text.specs.declared.token.Kind.TheVariants.{Name, Variable, Integer, Quoted, Close, CloseList}

-- the kinds with which an operand ends, so that a `-` after one is a minus
abbrev pub ends_operand : Kind → Bool
ends_operand Name = true
ends_operand Quoted = true
ends_operand Variable = true
ends_operand Integer = true
ends_operand Close = true
ends_operand CloseList = true
ends_operand _ = false

-- the kinds that write a symbol
abbrev pub is_symbol : Kind → Bool
is_symbol Name = true
is_symbol Quoted = true
is_symbol _ = false

-- the kinds that have a text
abbrev pub has_text : Kind → Bool
has_text Name = true
has_text Variable = true
has_text Quoted = true
has_text _ = false
