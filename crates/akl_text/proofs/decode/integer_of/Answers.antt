use Rattle.std.proofs.lemmas.Str.{IsUtf8-from_ascii}
use Rattle.akl_text.specs.Spelling.{spelling}
use Rattle.akl_text.proofs.Integers.{integer_ascii, integer_refused, spelled_integer}
use Rattle.akl_text.proofs.decode.integer_of.Goals as goal

pub as_text-requires : goal.as_text-requires
as_text-requires c = IsUtf8-from_ascii _ (integer_ascii (spelled_integer c.requires.integer c.requires.of_bytes.spelled))

pub returns-in-Err : goal.returns-in-Err
returns-in-Err c = record {
  value = tt;
  some = tt;
  none = integer_refused (spelling c.args.bytes.now c.args.token.now) c.parse.result c.in-Err.field-0 c.in-Err.is (rw c.as_text.ensures at c.parse.ensures.value.0) (spelled_integer c.requires.integer c.requires.of_bytes.spelled);
}
